use Rattle.std.proofs.Common.{◌∙◌, ap, not}
use Rattle.action_text.specs.Numbers.{class_number}
use Rattle.action_text.proofs.TemplateWords.{among_test}
use Rattle.action_text.proofs.token_class.is_action_word.Goals as goal

pub returns : goal.returns
returns c = ap not c.is.ensures ∙ among_test (class_number c.word_class.result) c.args.bytes.now c.word_class.ensures
