use Rattle.std.proofs.Common.{◌∙◌, refl}
use Rattle.action_text.proofs.token_class.word_class.Goals as goal

-- the words stand in the order of their classes
pub returns : goal.returns
returns c = c.class_among.ensures ∙ refl
