use Rattle.std.proofs.Common.{ℕ, List, [], ◌∷◌, option_map, Bor, inl, inr, refl, ap, Ok, Err}
use Rattle.std.proofs.lemmas.Result.{err_from_is_err_and}
use Rattle.acg_words.specs.Lines.{status_of}
use Rattle.acg_words.specs.declared.line.Line.TheVariants.{Memory}
use Rattle.acg_driver.specs.ImageFiles.{GivesImage, RefusesImage}
use Rattle.acg_driver.specs.Files.{file, Image, input_files}
use Rattle.acg_driver.specs.declared.commands.run.Ready.{Ready}
use Rattle.acg_driver.proofs.Asking.{gathered-refused, gathered-behind, gathered-last, gathered-as, gathered-err, gathered-late, gathered-at}
use Rattle.acg_driver.proofs.ImageLemmas.{memory-refuses-run, image-other, image-refused}
use Rattle.acg_driver.proofs.commands.run.prepare.Goals as goal

pub returns-in_err-image : goal.returns-in_err-image
returns-in_err-image g c =
    let error = err_from_is_err_and c.from_residual-in_err-image.result c.from_residual-in_err-image.ensures.1 in
    let input = option_map {T = Bor (List ℕ)} (λ f. f.now) c.args.command.input in
    let bytes = c.in_ok-bytes.bytes.items in
    let line = c.in_err-image.field-0.0 in
    let refused : RefusesImage bytes line = c.in_err-image.ensures.refusal in
    gathered-at c.from_residual-in_err-image.result line error.0 error.1 error.2
    (gathered-refused g.met.S.Store.sure_tells (file Image c.args.command.image.now) (input_files input) bytes line c.in_ok-bytes.ensures.given (inl (refl, refused))
    (image-other bytes line refused) (λ goes. ap status_of (image-refused bytes goes.0 line goes.1 refused)))

pub returns-in_err-input : goal.returns-in_err-input
returns-in_err-input g c =
    let error = err_from_is_err_and c.from_residual-in_err-input.result c.from_residual-in_err-input.ensures.1 in
    let input = option_map {T = Bor (List ℕ)} (λ f. f.now) c.args.command.input in
    let bytes = c.in_ok-bytes.bytes.items in
    let image = c.in_ok-image.image in
    let line = c.in_err-input.field-0.0 in
    let gives : GivesImage bytes image = c.in_ok-image.ensures.image in
    gathered-at c.from_residual-in_err-input.result line error.0 error.1 error.2
    (gathered-behind g.met.S.Store.sure_tells (file Image c.args.command.image.now) (input_files input) bytes (Err line) c.in_ok-bytes.ensures.given (image, gives)
    (gathered-last input (Err line) (gathered-err (input_files input) line (λ givens refused. inr ((image, gives), refused)) c.in_err-input.ensures)))

pub returns-in_err-machine : goal.returns-in_err-machine
returns-in_err-machine g c =
    let error = err_from_is_err_and c.from_residual-in_err-machine.result c.from_residual-in_err-machine.ensures.1 in
    let input = option_map {T = Bor (List ℕ)} (λ f. f.now) c.args.command.input in
    let bytes = c.in_ok-bytes.bytes.items in
    let image = c.in_ok-image.image in
    let gives : GivesImage bytes image = c.in_ok-image.ensures.image in
    let left = c.in_ok-input.input in
    gathered-at c.from_residual-in_err-machine.result Memory error.0 error.1 error.2
    (gathered-behind g.met.S.Store.sure_tells (file Image c.args.command.image.now) (input_files input) bytes (Err Memory) c.in_ok-bytes.ensures.given (image, gives)
    (gathered-last input (Err Memory)
    (gathered-late (input_files input) left Memory (λ e. cc) (λ givens is. memory-refuses-run c.args.command.image.now input bytes givens left.items image gives is) c.in_ok-input.ensures)))

pub returns : goal.returns
returns g c =
    let input = option_map {T = Bor (List ℕ)} (λ f. f.now) c.args.command.input in
    let bytes = c.in_ok-bytes.bytes.items in
    let image = c.in_ok-image.image in
    let gives : GivesImage bytes image = c.in_ok-image.ensures.image in
    let left = c.in_ok-input.input in
    let ready : Ready = record { machine = c.in_ok-machine.machine; input = left } in
    gathered-behind g.met.S.Store.sure_tells (file Image c.args.command.image.now) (input_files input) bytes (Ok ready) c.in_ok-bytes.ensures.given (image, gives)
    (gathered-last input (Ok ready)
    (gathered-as (input_files input) left ready (λ givens is. (image, gives, (is, c.in_ok-machine.ensures.loaded))) c.in_ok-input.ensures))
