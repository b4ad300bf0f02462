use Rattle.std.proofs.Common.{◌∙◌, ap, refl}
use Rattle.action_text.specs.Numbers.{class_number, name_number}
use Rattle.action_text.specs.Tables.{line_of}
use Rattle.action_text.specs.ActionTable.{template_lines, action_lines, parameter_lines}
use Rattle.action_text.proofs.lookup.find_row.Goals as goal

-- the rows are the lines of the table
pub returns : goal.returns
unfolding template_lines action_lines parameter_lines
returns c = c.find_row_in.ensures ∙ ap (λ ls. line_of ls (name_number c.args.name) (class_number c.args.class)) refl
