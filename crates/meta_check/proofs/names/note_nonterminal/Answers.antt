use Rattle.std.proofs.Common.{refl}
use Rattle.gram_form.specs.Plain.{texts}
use Rattle.gram_form.proofs.OrderedTexts.{one-more}
use Rattle.meta_check.proofs.names.note_nonterminal.Goals as goal

pub returns-in_ok-insert-in-Production : goal.returns-in_ok-insert-in-Production
returns-in_ok-insert-in-Production c =
    rw c.in-Production.is (one-more c.args.names.now.keys c.insert.new.self.keys c.in-Production.production.name (texts c.args.names.now.keys) c.in_ok-insert-in-Production.ensures.keys (λ n. refl))
