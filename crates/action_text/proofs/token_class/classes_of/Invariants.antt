use Rattle.std.proofs.Common.{◌≡◌, map, take}
use Rattle.action_text.specs.Numbers.{class_number}
use Rattle.action_text.specs.ActionTable.{class_in}
use Rattle.action_text.specs.Texts.{texts}
use Rattle.action_text.proofs.token_class.classes_of.Given as goal

abbrev pub invariant-loop-token : goal.invariant-loop-token
invariant-loop-token l = map class_number l.list.items ≡ map (class_in l.parameters) (texts (take l.token-index l.tokens))
