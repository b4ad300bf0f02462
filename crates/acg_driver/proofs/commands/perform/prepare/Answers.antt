use Rattle.std.proofs.Common.{ℕ, List, [], ◌∷◌, option_map, Bor, inl, inr, refl, sym, ap, ◌∙◌, subst, Ok, Err}
use Rattle.std.proofs.lemmas.Result.{err_from_is_err_and}
use Rattle.action_terms.specs.Performances.{start, records}
use Rattle.acg_words.specs.Lines.{status_of}
use Rattle.acg_words.specs.declared.line.Line.TheVariants.{Memory}
use Rattle.acg_driver.specs.Texts.{Reads, RefusesText}
use Rattle.acg_driver.specs.Files.{file, Action, input_files}
use Rattle.acg_driver.specs.Commands.Perform.{StartsPerform}
use Rattle.acg_driver.proofs.Asking.{gathered-refused, gathered-behind, gathered-last, gathered-as, gathered-err, gathered-late, gathered-at, text-other}
use Rattle.acg_driver.proofs.PerformLemmas.{memory-refuses}
use Rattle.acg_driver.proofs.TextErrors.{reads-refused}
use Rattle.acg_driver.proofs.commands.perform.prepare.Goals as goal

pub returns-in_err-graph : goal.returns-in_err-graph
returns-in_err-graph g c =
    let error = err_from_is_err_and c.from_residual-in_err-graph.result c.from_residual-in_err-graph.ensures.1 in
    let input = option_map {T = Bor (List ℕ)} (λ f. f.now) c.args.command.input in
    let bytes = c.in_ok-bytes.bytes.items in
    let line = c.in_err-graph.field-0.0 in
    let refused : RefusesText bytes line = subst (λ b. RefusesText b line) c.deref.ensures.value c.in_err-graph.ensures.refusal in
    gathered-at c.from_residual-in_err-graph.result line error.0 error.1 error.2
    (gathered-refused g.met.S.Store.sure_tells (file Action c.args.command.action.now) (input_files input) bytes line c.in_ok-bytes.ensures.given (inl (refl, refused))
    (text-other bytes line refused) (λ goes. ap status_of (reads-refused bytes goes.0 line goes.1 refused)))

pub returns-in_err-input : goal.returns-in_err-input
returns-in_err-input g c =
    let error = err_from_is_err_and c.from_residual-in_err-input.result c.from_residual-in_err-input.ensures.1 in
    let input = option_map {T = Bor (List ℕ)} (λ f. f.now) c.args.command.input in
    let bytes = c.in_ok-bytes.bytes.items in
    let graph = c.in_ok-graph.graph in
    let line = c.in_err-input.field-0.0 in
    let reads : Reads bytes graph = subst (λ b. Reads b graph) c.deref.ensures.value c.in_ok-graph.ensures.graph in
    gathered-at c.from_residual-in_err-input.result line error.0 error.1 error.2
    (gathered-behind g.met.S.Store.sure_tells (file Action c.args.command.action.now) (input_files input) bytes (Err line) c.in_ok-bytes.ensures.given (graph, reads)
    (gathered-last input (Err line) (gathered-err (input_files input) line (λ givens refused. inr ((graph, reads), refused)) c.in_err-input.ensures)))

pub returns-in_err-input-2 : goal.returns-in_err-input-2
returns-in_err-input-2 g c =
    let error = err_from_is_err_and c.from_residual-in_err-input-2.result c.from_residual-in_err-input-2.ensures.1 in
    let input = option_map {T = Bor (List ℕ)} (λ f. f.now) c.args.command.input in
    let bytes = c.in_ok-bytes.bytes.items in
    let graph = c.in_ok-graph.graph in
    let reads : Reads bytes graph = subst (λ b. Reads b graph) c.deref.ensures.value c.in_ok-graph.ensures.graph in
    let left = c.in_ok-input.input in
    gathered-at c.from_residual-in_err-input-2.result Memory error.0 error.1 error.2
    (gathered-behind g.met.S.Store.sure_tells (file Action c.args.command.action.now) (input_files input) bytes (Err Memory) c.in_ok-bytes.ensures.given (graph, reads)
    (gathered-last input (Err Memory)
    (gathered-late (input_files input) left Memory (λ e. cc) (λ givens is. memory-refuses c.args.command.action.now input bytes givens (records left.items) graph reads (left.items, is, refl)) c.in_ok-input.ensures)))

pub returns-in_err-start : goal.returns-in_err-start
returns-in_err-start g c =
    let error = err_from_is_err_and c.from_residual-in_err-start.result c.from_residual-in_err-start.ensures.1 in
    let input = option_map {T = Bor (List ℕ)} (λ f. f.now) c.args.command.input in
    let bytes = c.in_ok-bytes.bytes.items in
    let graph = c.in_ok-graph.graph in
    let reads : Reads bytes graph = subst (λ b. Reads b graph) c.deref.ensures.value c.in_ok-graph.ensures.graph in
    let left = c.in_ok-input.input in
    gathered-at c.from_residual-in_err-start.result Memory error.0 error.1 error.2
    (gathered-behind g.met.S.Store.sure_tells (file Action c.args.command.action.now) (input_files input) bytes (Err Memory) c.in_ok-bytes.ensures.given (graph, reads)
    (gathered-last input (Err Memory)
    (gathered-late (input_files input) left Memory (λ e. cc) (λ givens is. memory-refuses c.args.command.action.now input bytes givens (records left.items) graph reads (left.items, is, refl)) c.in_ok-input.ensures)))

pub returns : goal.returns
returns g c =
    let input = option_map {T = Bor (List ℕ)} (λ f. f.now) c.args.command.input in
    let bytes = c.in_ok-bytes.bytes.items in
    let graph = c.in_ok-graph.graph in
    let reads : Reads bytes graph = subst (λ b. Reads b graph) c.deref.ensures.value c.in_ok-graph.ensures.graph in
    let left = c.in_ok-input.input in
    let performer = c.in_ok-start.field-0 in
    gathered-behind g.met.S.Store.sure_tells (file Action c.args.command.action.now) (input_files input) bytes (Ok performer) c.in_ok-bytes.ensures.given (graph, reads)
    (gathered-last input (Ok performer)
    (gathered-as (input_files input) left performer
    (λ givens is. subst (λ p. StartsPerform input (bytes ∷ givens) p) (sym c.in_ok-start.ensures.starts)
    (c.in_ok-input-2.input.items, reads, (left.items, is, c.in_ok-input-2.ensures ∙ ap records c.deref-2.ensures.value), ap start c.deref-3.ensures.value))
    c.in_ok-input.ensures))
