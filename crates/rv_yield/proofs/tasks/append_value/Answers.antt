-- The tasks that take a yielder's place stand for its value.
use Rattle.std.proofs.Common.{◌≡◌, [], ◌∷◌, FitsSigned, w64, take, refl, ap, ◌∙◌, sym, subst, rules, arith}
use Rattle.std.proofs.lemmas.Grind.{common_steps}
use Rattle.std.proofs.lemmas.Int.{to_z-of_z}
use Rattle.std.proofs.lemmas.Result.{on_ok_weaker, on_err_weaker}
use Rattle.rv_code.specs.Arithmetic.{unsigned}
use Rattle.rv_asm.specs.Conventions.{integer_word, truth_word}
use Rattle.rv_asm.specs.Pieces.{appended, load_constant}
use Rattle.action_terms.specs.Forms.{yielder_in}
use Rattle.rv_yield.specs.Fronts.{AppendsFrontOf}
use Rattle.rv_yield.specs.Holding.{slots_of}
use Rattle.rv_yield.specs.Tasks.{operand_tasks, task_items}
use Rattle.rv_yield.specs.YielderCode.{value_items, placed_items}
use Rattle.rv_yield.specs.declared.tasks.Task.TheVariants as task
use Rattle.rv_yield.specs.Sources.{places_of}
use Rattle.rv_yield.proofs.Fronts.{front-none, front-plain}
use Rattle.rv_yield.proofs.Given.{slot-near}
use Rattle.rv_yield.proofs.TaskLaws.{Stand_for, stand-emitted, stand-ready, stand-words, stand-turns, one-stands, content-stands, operands-stand}
use Rattle.rv_yield.proofs.tasks.append_value.Goals as goal

-- ---- literals

pub returns-in-Number-clause-err : goal.returns-in-Number-clause-err
returns-in-Number-clause-err c =
    let fits : FitsSigned w64 c.in-Number.value = search rules in
    let s = c.args.source.now in
    let is = ap yielder_in c.in-Number.ensures.item in
    let word = c.cast_unsigned.ensures ∙ ap unsigned (to_z-of_z w64 c.in-Number.value fits) in
    on_err_weaker c.load_constant.result
    (λ f.
    subst (λ y. AppendsFrontOf (value_items (places_of s) c.args.to c.args.free s.nothing y) c.args.asm.now c.load_constant.new.asm) (sym is)
    (front-plain (load_constant c.args.to (integer_word c.in-Number.value)) c.args.asm.now c.load_constant.new.asm (f.0, f.1 ∙ ap (λ w. appended c.args.asm.now (take f.0 (load_constant c.args.to w))) word)))
    c.load_constant.ensures.err

pub returns-in-Truth-clause-err : goal.returns-in-Truth-clause-err
returns-in-Truth-clause-err c =
    let s = c.args.source.now in
    let is = ap yielder_in c.in-Truth.ensures.item in
    let word : c.from.result ≡ truth_word c.in-Truth.value = first_of (search rules, grind (arith, common_steps)) in
    on_err_weaker c.load_constant-in-Truth.result
    (λ f.
    subst (λ y. AppendsFrontOf (value_items (places_of s) c.args.to c.args.free s.nothing y) c.args.asm.now c.load_constant-in-Truth.new.asm) (sym is)
    (front-plain (load_constant c.args.to (truth_word c.in-Truth.value)) c.args.asm.now c.load_constant-in-Truth.new.asm (f.0, f.1 ∙ ap (λ w. appended c.args.asm.now (take f.0 (load_constant c.args.to w))) word)))
    c.load_constant-in-Truth.ensures.err

pub returns-in-Given-clause-err : goal.returns-in-Given-clause-err
returns-in-Given-clause-err c =
    let s = c.args.source.now in
    let is = ap yielder_in c.in-Given.ensures.item in
    on_err_weaker c.append_placed.result
    (λ f.
    subst (λ y. AppendsFrontOf (value_items (places_of s) c.args.to c.args.free s.nothing y) c.args.asm.now c.append_placed.new.asm) (sym is)
    (subst (λ o. AppendsFrontOf (placed_items o c.args.to s.nothing) c.args.asm.now c.append_placed.new.asm) c.only_offset.ensures f))
    c.append_placed.ensures.err

pub returns-in-GivenAt-clause-err : goal.returns-in-GivenAt-clause-err
returns-in-GivenAt-clause-err c =
    let s = c.args.source.now in
    let is = ap yielder_in c.in-GivenAt.ensures.item in
    on_err_weaker c.append_placed-in-GivenAt.result
    (λ f.
    subst (λ y. AppendsFrontOf (value_items (places_of s) c.args.to c.args.free s.nothing y) c.args.asm.now c.append_placed-in-GivenAt.new.asm) (sym is)
    (subst (λ o. AppendsFrontOf (placed_items o c.args.to s.nothing) c.args.asm.now c.append_placed-in-GivenAt.new.asm) c.nth_offset.ensures f))
    c.append_placed-in-GivenAt.ensures.err

pub append_placed-requires-in-BoundTo-clause-near : goal.append_placed-requires-in-BoundTo-clause-near
append_placed-requires-in-BoundTo-clause-near c n e =
    let s = c.args.source.now in
    slot-near (slots_of s.bound.now) c.in-BoundTo.token.now n s.slots_near (sym c.slot_offset.ensures ∙ e)

pub returns-in-BoundTo-clause-err : goal.returns-in-BoundTo-clause-err
returns-in-BoundTo-clause-err c =
    let s = c.args.source.now in
    let is = ap yielder_in c.in-BoundTo.ensures.item in
    on_err_weaker c.append_placed-in-BoundTo.result
    (λ f.
    subst (λ y. AppendsFrontOf (value_items (places_of s) c.args.to c.args.free s.nothing y) c.args.asm.now c.append_placed-in-BoundTo.new.asm) (sym is)
    (subst (λ o. AppendsFrontOf (placed_items o c.args.to s.nothing) c.args.asm.now c.append_placed-in-BoundTo.new.asm) c.slot_offset.ensures f))
    c.append_placed-in-BoundTo.ensures.err

-- ---- an operation on two operands

pub returns-in-OnTwo-clause-items : goal.returns-in-OnTwo-clause-items
returns-in-OnTwo-clause-items c =
    let s = c.args.source.now in
    let ls = s.graph.now.yielders in
    let v = c.in-OnTwo in
    let a = v.ensures.arguments in
    let tasks = operand_tasks ls v.operation c.args.to c.args.free v.first v.second in
    let stand : Stand_for ls (places_of s) c.args.yielder c.args.to c.args.free tasks =
    operands-stand ls (places_of s) c.args.yielder c.args.to c.args.free v.first v.second v.operation (ap yielder_in v.ensures.item) a.0.1 a.1.1 c.requires.ready in
    on_ok_weaker c.push_operands.result
    (λ e. stand-emitted ls (places_of s) c.args.yielder c.args.to c.args.free c.args.tasks.now.items c.push_operands.new.tasks.items tasks stand e s.nothing c.args.asm.now)
    c.push_operands.ensures

pub returns-in-OnTwo-clause-err : goal.returns-in-OnTwo-clause-err
returns-in-OnTwo-clause-err c =
    let s = c.args.source.now in
    let front = front-none (task_items s.graph.now.yielders (places_of s) s.nothing (task.Value c.args.yielder c.args.to c.args.free)) c.args.asm.now c.args.asm.now refl in
    search rules

pub returns-in-OnTwo-clause-ready : goal.returns-in-OnTwo-clause-ready
returns-in-OnTwo-clause-ready c =
    let s = c.args.source.now in
    let ls = s.graph.now.yielders in
    let v = c.in-OnTwo in
    let a = v.ensures.arguments in
    let tasks = operand_tasks ls v.operation c.args.to c.args.free v.first v.second in
    let stand : Stand_for ls (places_of s) c.args.yielder c.args.to c.args.free tasks =
    operands-stand ls (places_of s) c.args.yielder c.args.to c.args.free v.first v.second v.operation (ap yielder_in v.ensures.item) a.0.1 a.1.1 c.requires.ready in
    on_ok_weaker c.push_operands.result
    (λ e. stand-ready ls (places_of s) c.args.yielder c.args.to c.args.free c.args.tasks.now.items c.push_operands.new.tasks.items tasks stand e c.requires.rest)
    c.push_operands.ensures

pub returns-in-OnTwo-clause-words : goal.returns-in-OnTwo-clause-words
returns-in-OnTwo-clause-words c =
    let s = c.args.source.now in
    let ls = s.graph.now.yielders in
    let v = c.in-OnTwo in
    let a = v.ensures.arguments in
    let tasks = operand_tasks ls v.operation c.args.to c.args.free v.first v.second in
    let stand : Stand_for ls (places_of s) c.args.yielder c.args.to c.args.free tasks =
    operands-stand ls (places_of s) c.args.yielder c.args.to c.args.free v.first v.second v.operation (ap yielder_in v.ensures.item) a.0.1 a.1.1 c.requires.ready in
    on_ok_weaker c.push_operands.result
    (λ e. stand-words ls (places_of s) c.args.yielder c.args.to c.args.free c.args.tasks.now.items c.push_operands.new.tasks.items tasks stand e)
    c.push_operands.ensures

pub returns-in-OnTwo-clause-turns : goal.returns-in-OnTwo-clause-turns
returns-in-OnTwo-clause-turns c =
    let s = c.args.source.now in
    let ls = s.graph.now.yielders in
    let v = c.in-OnTwo in
    let a = v.ensures.arguments in
    let tasks = operand_tasks ls v.operation c.args.to c.args.free v.first v.second in
    let stand : Stand_for ls (places_of s) c.args.yielder c.args.to c.args.free tasks =
    operands-stand ls (places_of s) c.args.yielder c.args.to c.args.free v.first v.second v.operation (ap yielder_in v.ensures.item) a.0.1 a.1.1 c.requires.ready in
    on_ok_weaker c.push_operands.result
    (λ e. stand-turns ls (places_of s) c.args.yielder c.args.to c.args.free c.args.tasks.now.items c.push_operands.new.tasks.items tasks stand e)
    c.push_operands.ensures

-- ---- what a cell holds

pub returns-in-StoredIn-clause-items : goal.returns-in-StoredIn-clause-items
returns-in-StoredIn-clause-items c =
    let s = c.args.source.now in
    let ls = s.graph.now.yielders in
    let v = c.in-StoredIn in
    let to = c.args.to in
    let free = c.args.free in
    let tasks = task.Content to free ∷ task.Value v.cell free free ∷ [] in
    let stand : Stand_for ls (places_of s) c.args.yielder to free tasks = content-stands ls (places_of s) c.args.yielder to free v.cell v.sort (ap yielder_in v.ensures.item) v.ensures.arguments.1 c.requires.ready in
    on_ok_weaker c.push_behind.result
    (λ e. stand-emitted ls (places_of s) c.args.yielder to free c.args.tasks.now.items c.push_behind.new.tasks.items tasks stand e s.nothing c.args.asm.now)
    c.push_behind.ensures

pub returns-in-StoredIn-clause-ready : goal.returns-in-StoredIn-clause-ready
returns-in-StoredIn-clause-ready c =
    let s = c.args.source.now in
    let ls = s.graph.now.yielders in
    let v = c.in-StoredIn in
    let to = c.args.to in
    let free = c.args.free in
    let tasks = task.Content to free ∷ task.Value v.cell free free ∷ [] in
    let stand : Stand_for ls (places_of s) c.args.yielder to free tasks = content-stands ls (places_of s) c.args.yielder to free v.cell v.sort (ap yielder_in v.ensures.item) v.ensures.arguments.1 c.requires.ready in
    on_ok_weaker c.push_behind.result
    (λ e. stand-ready ls (places_of s) c.args.yielder to free c.args.tasks.now.items c.push_behind.new.tasks.items tasks stand e c.requires.rest)
    c.push_behind.ensures

pub returns-in-StoredIn-clause-words : goal.returns-in-StoredIn-clause-words
returns-in-StoredIn-clause-words c =
    let s = c.args.source.now in
    let ls = s.graph.now.yielders in
    let v = c.in-StoredIn in
    let to = c.args.to in
    let free = c.args.free in
    let tasks = task.Content to free ∷ task.Value v.cell free free ∷ [] in
    let stand : Stand_for ls (places_of s) c.args.yielder to free tasks = content-stands ls (places_of s) c.args.yielder to free v.cell v.sort (ap yielder_in v.ensures.item) v.ensures.arguments.1 c.requires.ready in
    on_ok_weaker c.push_behind.result
    (λ e. stand-words ls (places_of s) c.args.yielder to free c.args.tasks.now.items c.push_behind.new.tasks.items tasks stand e)
    c.push_behind.ensures

pub returns-in-StoredIn-clause-turns : goal.returns-in-StoredIn-clause-turns
returns-in-StoredIn-clause-turns c =
    let s = c.args.source.now in
    let ls = s.graph.now.yielders in
    let v = c.in-StoredIn in
    let to = c.args.to in
    let free = c.args.free in
    let tasks = task.Content to free ∷ task.Value v.cell free free ∷ [] in
    let stand : Stand_for ls (places_of s) c.args.yielder to free tasks = content-stands ls (places_of s) c.args.yielder to free v.cell v.sort (ap yielder_in v.ensures.item) v.ensures.arguments.1 c.requires.ready in
    on_ok_weaker c.push_behind.result
    (λ e. stand-turns ls (places_of s) c.args.yielder to free c.args.tasks.now.items c.push_behind.new.tasks.items tasks stand e)
    c.push_behind.ensures

pub returns-in-StoredIn-clause-err : goal.returns-in-StoredIn-clause-err
returns-in-StoredIn-clause-err c =
    let s = c.args.source.now in
    let front = front-none (task_items s.graph.now.yielders (places_of s) s.nothing (task.Value c.args.yielder c.args.to c.args.free)) c.args.asm.now c.args.asm.now refl in
    search rules

-- ---- an operation on one operand

pub returns-in-OnOne-clause-items : goal.returns-in-OnOne-clause-items
returns-in-OnOne-clause-items c =
    let s = c.args.source.now in
    let ls = s.graph.now.yielders in
    let v = c.in-OnOne in
    let to = c.args.to in
    let free = c.args.free in
    let tasks = task.OnOne v.operation to free ∷ task.Value v.argument free free ∷ [] in
    let stand : Stand_for ls (places_of s) c.args.yielder to free tasks = one-stands ls (places_of s) c.args.yielder to free v.argument v.operation (ap yielder_in v.ensures.item) v.ensures.arguments.1 c.requires.ready in
    on_ok_weaker c.push_behind-in-OnOne.result
    (λ e. stand-emitted ls (places_of s) c.args.yielder to free c.args.tasks.now.items c.push_behind-in-OnOne.new.tasks.items tasks stand e s.nothing c.args.asm.now)
    c.push_behind-in-OnOne.ensures

pub returns-in-OnOne-clause-ready : goal.returns-in-OnOne-clause-ready
returns-in-OnOne-clause-ready c =
    let s = c.args.source.now in
    let ls = s.graph.now.yielders in
    let v = c.in-OnOne in
    let to = c.args.to in
    let free = c.args.free in
    let tasks = task.OnOne v.operation to free ∷ task.Value v.argument free free ∷ [] in
    let stand : Stand_for ls (places_of s) c.args.yielder to free tasks = one-stands ls (places_of s) c.args.yielder to free v.argument v.operation (ap yielder_in v.ensures.item) v.ensures.arguments.1 c.requires.ready in
    on_ok_weaker c.push_behind-in-OnOne.result
    (λ e. stand-ready ls (places_of s) c.args.yielder to free c.args.tasks.now.items c.push_behind-in-OnOne.new.tasks.items tasks stand e c.requires.rest)
    c.push_behind-in-OnOne.ensures

pub returns-in-OnOne-clause-words : goal.returns-in-OnOne-clause-words
returns-in-OnOne-clause-words c =
    let s = c.args.source.now in
    let ls = s.graph.now.yielders in
    let v = c.in-OnOne in
    let to = c.args.to in
    let free = c.args.free in
    let tasks = task.OnOne v.operation to free ∷ task.Value v.argument free free ∷ [] in
    let stand : Stand_for ls (places_of s) c.args.yielder to free tasks = one-stands ls (places_of s) c.args.yielder to free v.argument v.operation (ap yielder_in v.ensures.item) v.ensures.arguments.1 c.requires.ready in
    on_ok_weaker c.push_behind-in-OnOne.result
    (λ e. stand-words ls (places_of s) c.args.yielder to free c.args.tasks.now.items c.push_behind-in-OnOne.new.tasks.items tasks stand e)
    c.push_behind-in-OnOne.ensures

pub returns-in-OnOne-clause-turns : goal.returns-in-OnOne-clause-turns
returns-in-OnOne-clause-turns c =
    let s = c.args.source.now in
    let ls = s.graph.now.yielders in
    let v = c.in-OnOne in
    let to = c.args.to in
    let free = c.args.free in
    let tasks = task.OnOne v.operation to free ∷ task.Value v.argument free free ∷ [] in
    let stand : Stand_for ls (places_of s) c.args.yielder to free tasks = one-stands ls (places_of s) c.args.yielder to free v.argument v.operation (ap yielder_in v.ensures.item) v.ensures.arguments.1 c.requires.ready in
    on_ok_weaker c.push_behind-in-OnOne.result
    (λ e. stand-turns ls (places_of s) c.args.yielder to free c.args.tasks.now.items c.push_behind-in-OnOne.new.tasks.items tasks stand e)
    c.push_behind-in-OnOne.ensures

pub returns-in-OnOne-clause-err : goal.returns-in-OnOne-clause-err
returns-in-OnOne-clause-err c =
    let s = c.args.source.now in
    let front = front-none (task_items s.graph.now.yielders (places_of s) s.nothing (task.Value c.args.yielder c.args.to c.args.free)) c.args.asm.now c.args.asm.now refl in
    search rules
