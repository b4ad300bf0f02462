use Rattle.std.proofs.Common.{◌<◌, map}
use Rattle.gram_form.specs.Plain.{texts, plain_production}
use Rattle.gram_form.specs.Grammars.{Place, IsUndefinedAmong}
use Rattle.gram_form.proofs.undefined.first_undefined.Given as goal

abbrev pub invariant-loop-number : goal.invariant-loop-number
invariant-loop-number l = (x : Place) → x.production < l.number → IsUndefinedAmong (texts l.names.keys) (map plain_production l.list) x → ⊥
