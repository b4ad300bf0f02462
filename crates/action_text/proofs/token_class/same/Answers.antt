use Rattle.action_text.proofs.TemplateWords.{same_test}
use Rattle.action_text.proofs.token_class.same.Goals as goal

pub returns : goal.returns
returns c = same_test c.is_same.result c.args.word.now c.args.bytes.now c.is_same.ensures.0 c.is_same.ensures.1
