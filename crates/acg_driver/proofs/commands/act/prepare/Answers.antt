use Rattle.std.proofs.Common.{◌⊎◌, ℕ, List, [], ◌∷◌, option_map, Bor, inl, inr, refl, subst, Ok, Err}
use Rattle.std.proofs.lemmas.Result.{err_from_is_err_and}
use Rattle.acg_words.specs.declared.line.Line.TheVariants.{Memory}
use Rattle.acg_driver.specs.Texts.{RefusesText}
use Rattle.acg_driver.specs.Files.{file, Action, input_files}
use Rattle.acg_driver.specs.Commands.Act.{IsUncompiled, BuildsAct}
use Rattle.acg_driver.specs.declared.running.Ready.{Ready}
use Rattle.acg_driver.proofs.ActLemmas.{load-other, compilable-refused, built-compilable, act-starts, memory-refuses-act}
use Rattle.acg_driver.proofs.Asking.{gathered-refused, gathered-behind, gathered-last, gathered-as, gathered-err, gathered-late, gathered-at}
use Rattle.acg_driver.proofs.commands.act.prepare.Goals as goal

pub returns-in_err-built : goal.returns-in_err-built
returns-in_err-built g c =
    let error = err_from_is_err_and c.from_residual-in_err-built.result c.from_residual-in_err-built.ensures.1 in
    let input = option_map {T = Bor (List ℕ)} (λ f. f.now) c.args.command.input in
    let bytes = c.in_ok-bytes.bytes.items in
    let line = c.in_err-built.field-0.0 in
    let refused : RefusesText bytes line ⊎ IsUncompiled bytes line = subst (λ b. RefusesText b line ⊎ IsUncompiled b line) c.deref.ensures.value c.in_err-built.ensures.refused in
    gathered-at c.from_residual-in_err-built.result line error.0 error.1 error.2
    (gathered-refused g.met.S.Store.sure_tells (file Action c.args.command.action.now) (input_files input) bytes line c.in_ok-bytes.ensures.given (inl (refl, refused))
    (load-other bytes line refused) (λ goes. compilable-refused bytes line goes refused))

pub returns-in_err-input : goal.returns-in_err-input
returns-in_err-input g c =
    let error = err_from_is_err_and c.from_residual-in_err-input.result c.from_residual-in_err-input.ensures.1 in
    let input = option_map {T = Bor (List ℕ)} (λ f. f.now) c.args.command.input in
    let bytes = c.in_ok-bytes.bytes.items in
    let cap = c.args.command.capacity in
    let built = c.in_ok-built.built in
    let line = c.in_err-input.field-0.0 in
    let builds : BuildsAct bytes cap built = subst (λ b. BuildsAct b cap built) c.deref.ensures.value c.in_ok-built.ensures.builds in
    let goes = built-compilable bytes cap built builds in
    gathered-at c.from_residual-in_err-input.result line error.0 error.1 error.2
    (gathered-behind g.met.S.Store.sure_tells (file Action c.args.command.action.now) (input_files input) bytes (Err line) c.in_ok-bytes.ensures.given goes
    (gathered-last input (Err line) (gathered-err (input_files input) line (λ givens refused. inr (goes, refused)) c.in_err-input.ensures)))

pub returns-in_err-loaded : goal.returns-in_err-loaded
returns-in_err-loaded g c =
    let error = err_from_is_err_and c.from_residual-in_err-loaded.result c.from_residual-in_err-loaded.ensures.1 in
    let input = option_map {T = Bor (List ℕ)} (λ f. f.now) c.args.command.input in
    let bytes = c.in_ok-bytes.bytes.items in
    let cap = c.args.command.capacity in
    let built = c.in_ok-built.built in
    let builds : BuildsAct bytes cap built = subst (λ b. BuildsAct b cap built) c.deref.ensures.value c.in_ok-built.ensures.builds in
    let goes = built-compilable bytes cap built builds in
    let left = c.in_ok-input.input in
    gathered-at c.from_residual-in_err-loaded.result Memory error.0 error.1 error.2
    (gathered-behind g.met.S.Store.sure_tells (file Action c.args.command.action.now) (input_files input) bytes (Err Memory) c.in_ok-bytes.ensures.given goes
    (gathered-last input (Err Memory)
    (gathered-late (input_files input) left Memory (λ e. cc) (λ givens is. memory-refuses-act c.args.command.action.now input bytes givens left.items goes is) c.in_ok-input.ensures)))

pub returns : goal.returns
returns g c =
    let input = option_map {T = Bor (List ℕ)} (λ f. f.now) c.args.command.input in
    let bytes = c.in_ok-bytes.bytes.items in
    let cap = c.args.command.capacity in
    let built = c.in_ok-built.built in
    let builds : BuildsAct bytes cap built = subst (λ b. BuildsAct b cap built) c.deref.ensures.value c.in_ok-built.ensures.builds in
    let goes = built-compilable bytes cap built builds in
    let left = c.in_ok-input.input in
    let ready : Ready = record { loaded = c.in_ok-loaded.loaded; input = left } in
    gathered-behind g.met.S.Store.sure_tells (file Action c.args.command.action.now) (input_files input) bytes (Ok ready) c.in_ok-bytes.ensures.given goes
    (gathered-last input (Ok ready)
    (gathered-as (input_files input) left ready (λ givens is. act-starts cap input bytes givens built ready builds c.in_ok-loaded.ensures is) c.in_ok-input.ensures))
