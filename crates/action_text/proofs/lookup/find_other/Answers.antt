use Rattle.std.proofs.Common.{◌∙◌, ap, refl}
use Rattle.action_text.specs.Numbers.{name_number}
use Rattle.action_text.specs.Tables.{other_of}
use Rattle.action_text.specs.ActionTable.{action_others}
use Rattle.action_text.proofs.lookup.find_other.Goals as goal

-- the rows are what else the names may be
pub returns : goal.returns
unfolding action_others
returns c = c.find_other_in.ensures ∙ ap (λ rs. other_of rs (name_number c.args.name)) refl
