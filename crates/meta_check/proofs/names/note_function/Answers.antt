use Rattle.std.proofs.Common.{refl}
use Rattle.gram_form.specs.Plain.{texts}
use Rattle.gram_form.proofs.OrderedTexts.{one-more}
use Rattle.meta_check.proofs.names.note_function.Goals as goal

pub returns-in_ok-insert-in-Declaration : goal.returns-in_ok-insert-in-Declaration
returns-in_ok-insert-in-Declaration c =
    rw c.in-Declaration.is (one-more c.args.names.now.keys c.insert.new.self.keys c.in-Declaration.declaration.function (texts c.args.names.now.keys) c.in_ok-insert-in-Declaration.ensures.keys (λ n. refl))
