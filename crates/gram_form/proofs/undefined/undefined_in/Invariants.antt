use Rattle.std.proofs.Common.{ℕ, ◌<◌, map}
use Rattle.gram_form.specs.Plain.{texts, plain_alternative}
use Rattle.gram_form.specs.Grammars.{IsUndefinedIn}
use Rattle.gram_form.proofs.undefined.undefined_in.Given as goal

abbrev pub invariant-loop-alternative : goal.invariant-loop-alternative
invariant-loop-alternative l = (a k : ℕ) → a < l.alternative → IsUndefinedIn (texts l.names.keys) (map plain_alternative l.alternatives) a k → ⊥
