-- What follows from what a call says of its answer.
use Rattle.std.specs.Prelude.{Result, Ok, Err, IfOk}

pub by_ok : {T E : Type 0} {P Q : T → Type 0} (r : Result T E) → IfOk r P → ((x : T) → P x → Q x) → IfOk r Q
by_ok (Ok x) p f = f x p
by_ok (Err e) p f = tt
