-- What a call has promised of its answer, carried on.
use Rattle.std.proofs.Common.{Bool}
use Rattle.std.specs.Prelude.{Result, Ok, Err, OnOk, IfOk}
use Rattle.acg_base.specs.declared.memory.Memory.{Memory}

pub on_any : (r : Result Bool Memory) (A : Type 0) → A → OnOk r A
on_any (Ok b) A a = a
on_any (Err e) A a = tt

pub on_then : (r : Result Bool Memory) (A B : Type 0) → OnOk r A → (A → B) → OnOk r B
on_then (Ok b) A B a f = f a
on_then (Err e) A B a f = tt

pub if_then : (r : Result Bool Memory) (P Q : Bool → Type 0) → IfOk r P → ((b : Bool) → P b → Q b) → IfOk r Q
if_then (Ok b) P Q p f = f b p
if_then (Err e) P Q p f = tt

pub on_four : (r : Result Bool Memory) (A B C D E : Type 0) → OnOk r A → OnOk r B → OnOk r C → OnOk r D → (A → B → C → D → E) → OnOk r E
on_four (Ok b) A B C D E x y z u f = f x y z u
on_four (Err e) A B C D E x y z u f = tt

pub if_on : (r : Result Bool Memory) (P Q : Bool → Type 0) (A : Type 0) → IfOk r P → OnOk r A → ((b : Bool) → P b → A → Q b) → IfOk r Q
if_on (Ok b) P Q A p a f = f b p a
if_on (Err e) P Q A p a f = tt

pub if_ok : {A : Type 0} (r : Result A Memory) (P Q : A → Type 0) → IfOk r P → ((a : A) → P a → Q a) → IfOk r Q
if_ok (Ok a) P Q p f = f a p
if_ok (Err e) P Q p f = tt
