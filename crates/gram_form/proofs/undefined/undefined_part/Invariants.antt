use Rattle.std.proofs.Common.{ℕ, ◌<◌, map}
use Rattle.gram_form.specs.Plain.{texts, plain_part}
use Rattle.gram_form.specs.Grammars.{IsUndefinedPart}
use Rattle.gram_form.proofs.undefined.undefined_part.Given as goal

abbrev pub invariant-loop-number : goal.invariant-loop-number
invariant-loop-number l = (k : ℕ) → k < l.number → IsUndefinedPart (texts l.names.keys) (map plain_part l.parts) k → ⊥
