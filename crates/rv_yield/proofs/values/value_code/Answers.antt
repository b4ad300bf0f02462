-- The code of the yielder is there once no task is left.
use Rattle.std.proofs.Common.{◌≡◌, [], refl, rules, ap, ◌∙◌, sym, subst, arith}
use Rattle.std.proofs.lemmas.Grind.{common_steps}
use Rattle.rv_asm.specs.Assembly.{total, is_placed}
use Rattle.rv_asm.proofs.Labels.{total-append}
use Rattle.action_terms.specs.Forms.{yielder_at}
use Rattle.rv_yield.specs.Calls.{calls}
use Rattle.rv_yield.specs.Evaluates.{Evaluates}
use Rattle.rv_yield.specs.Fronts.{extended, IsAppended}
use Rattle.rv_yield.specs.Registers.{HasWords}
use Rattle.rv_yield.specs.Tasks.{items_of, HaveWords}
use Rattle.rv_yield.specs.YielderCode.{value_items}
use Rattle.rv_yield.specs.Sources.{places_of}
use Rattle.rv_yield.proofs.Evaluated.{evaluates}
use Rattle.rv_yield.proofs.Fronts.{appended-whole, front-none}
use Rattle.rv_yield.proofs.ItemLaws.{value-short, placed-unmarked, calls-unmarked}
use Rattle.rv_yield.proofs.TaskLaws.{turn-items, turn-front, turn-words, turn-smaller}
use Rattle.rv_yield.proofs.values.value_code.Goals as goal

pub loop-task-smaller : goal.loop-task-smaller
loop-task-smaller c =
    let s = c.args.source.now in
    turn-smaller s.graph.now.yielders (places_of s) c.in-Some.task c.loop-task.tasks.items c.pop.new.self.items c.append_task.new.tasks.items c.in-Some.ensures.items c.in_ok-append_task.ensures.turns

pub loop-task-preserved : goal.loop-task-preserved
loop-task-preserved c =
    let s = c.args.source.now in
    let ls = s.graph.now.yielders in
    let y = yielder_at ls c.args.yielder in
    let emitted = c.in_ok-append_task.ensures.items in
    record {
      labels = ap (λ l. l.labels) emitted.is ∙ c.loop-task.invariant.labels;
      items = turn-items ls (places_of s) c.in-Some.task c.loop-task.tasks.items c.pop.new.self.items c.append_task.new.tasks.items c.in-Some.ensures.items s.nothing (value_items (places_of s) c.args.register c.args.register s.nothing y) c.args.asm.now c.loop-task.asm c.append_task.new.asm c.loop-task.invariant.items emitted;
      ready = c.in_ok-append_task.ensures.ready;
      words = λ h. c.loop-task.invariant.words (turn-words ls (places_of s) c.in-Some.task c.loop-task.tasks.items c.pop.new.self.items c.append_task.new.tasks.items c.in-Some.ensures.items (c.in_ok-append_task.ensures.words h));
    }

pub returns-clause-items : goal.returns-clause-items
returns-clause-items c =
    let s = c.args.source.now in
    let ls = s.graph.now.yielders in
    let piece = value_items (places_of s) c.args.register c.args.register s.nothing (yielder_at ls c.args.yielder) in
    let none : c.loop-task.tasks.items ≡ [] = first_of (search rules, grind (arith, common_steps)) in
    appended-whole piece c.args.asm.now c.loop-task.asm (subst (λ ts. IsAppended piece (items_of ls (places_of s) s.nothing ts) c.args.asm.now c.loop-task.asm) none c.loop-task.invariant.items)

pub returns-clause-evaluates : goal.returns-clause-evaluates
returns-clause-evaluates c =
    let s = c.args.source.now in
    let r = c.args.register in
    let n = s.nothing in
    let y = yielder_at s.graph.now.yielders c.args.yielder in
    let piece = value_items (places_of s) r r n y in
    let none : c.loop-task.tasks.items ≡ [] = first_of (search rules, grind (arith, common_steps)) in
    let all : c.loop-task.asm ≡ extended c.args.asm.now piece =
    appended-whole piece c.args.asm.now c.loop-task.asm (subst (λ ts. IsAppended piece (items_of s.graph.now.yielders (places_of s) n ts) c.args.asm.now c.loop-task.asm) none c.loop-task.invariant.items) in
    let words : HasWords y = c.loop-task.invariant.words (subst (HaveWords s.graph.now.yielders) (sym none) tt) in
    subst (Evaluates (places_of s) r n y c.args.asm.now) (sym all) (evaluates (places_of s) r n y c.args.asm.now (record { given = s.near; bound = s.slots_near }) c.requires.built words c.requires.first c.requires.room)

pub returns-clause-words : goal.returns-clause-words
returns-clause-words c =
    let none : c.loop-task.tasks.items ≡ [] = first_of (search rules, grind (arith, common_steps)) in
    c.loop-task.invariant.words (subst (HaveWords c.args.source.now.graph.now.yielders) (sym none) tt)

pub returns-clause-short : goal.returns-clause-short
returns-clause-short c =
    let s = c.args.source.now in
    let r = c.args.register in
    let n = s.nothing in
    let y = yielder_at s.graph.now.yielders c.args.yielder in
    let piece = value_items (places_of s) r r n y in
    let none : c.loop-task.tasks.items ≡ [] = first_of (search rules, grind (arith, common_steps)) in
    let all : c.loop-task.asm ≡ extended c.args.asm.now piece =
    appended-whole piece c.args.asm.now c.loop-task.asm (subst (λ ts. IsAppended piece (items_of s.graph.now.yielders (places_of s) n ts) c.args.asm.now c.loop-task.asm) none c.loop-task.invariant.items) in
    omega (arith, ap (λ l. total l.items) all, total-append c.args.asm.now.items piece, (value-short (places_of s) y r r n).few)

pub returns-clause-placed : goal.returns-clause-placed
returns-clause-placed c l =
    let s = c.args.source.now in
    let r = c.args.register in
    let n = s.nothing in
    let y = yielder_at s.graph.now.yielders c.args.yielder in
    let piece = value_items (places_of s) r r n y in
    let none : c.loop-task.tasks.items ≡ [] = first_of (search rules, grind (arith, common_steps)) in
    let all : c.loop-task.asm ≡ extended c.args.asm.now piece =
    appended-whole piece c.args.asm.now c.loop-task.asm (subst (λ ts. IsAppended piece (items_of s.graph.now.yielders (places_of s) n ts) c.args.asm.now c.loop-task.asm) none c.loop-task.invariant.items) in
    ap (λ i. is_placed i.items l) all ∙ placed-unmarked c.args.asm.now.items piece l (value-short (places_of s) y r r n).unmarked

pub returns-clause-quiet : goal.returns-clause-quiet
returns-clause-quiet c =
    let s = c.args.source.now in
    let r = c.args.register in
    let n = s.nothing in
    let y = yielder_at s.graph.now.yielders c.args.yielder in
    let piece = value_items (places_of s) r r n y in
    let none : c.loop-task.tasks.items ≡ [] = first_of (search rules, grind (arith, common_steps)) in
    let all : c.loop-task.asm ≡ extended c.args.asm.now piece =
    appended-whole piece c.args.asm.now c.loop-task.asm (subst (λ ts. IsAppended piece (items_of s.graph.now.yielders (places_of s) n ts) c.args.asm.now c.loop-task.asm) none c.loop-task.invariant.items) in
    ap (λ i. calls i.items) all ∙ calls-unmarked c.args.asm.now.items piece (value-short (places_of s) y r r n).unmarked

pub returns-in_err-push-clause-err : goal.returns-in_err-push-clause-err
returns-in_err-push-clause-err c =
    let s = c.args.source.now in
    let front = front-none (value_items (places_of s) c.args.register c.args.register s.nothing (yielder_at s.graph.now.yielders c.args.yielder)) c.args.asm.now c.args.asm.now refl in
    search rules

pub returns-in_err-append_task-clause-err : goal.returns-in_err-append_task-clause-err
returns-in_err-append_task-clause-err c =
    let s = c.args.source.now in
    let front =
    turn-front s.graph.now.yielders (places_of s) c.in-Some.task c.loop-task.tasks.items c.pop.new.self.items c.append_task.new.tasks.items c.in-Some.ensures.items s.nothing
    (value_items (places_of s) c.args.register c.args.register s.nothing (yielder_at s.graph.now.yielders c.args.yielder)) c.args.asm.now c.loop-task.asm c.append_task.new.asm c.loop-task.invariant.items c.in_err-append_task.ensures.err in
    search rules
