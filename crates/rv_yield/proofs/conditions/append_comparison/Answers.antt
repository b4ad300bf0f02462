-- The operand that needs more registers comes first, and where something isn't emitted, the assembler holds what comes before it.
use Rattle.std.proofs.Common.{◌≡◌, [], ◌∷◌, arith, rules, true, false, ltb, lt-ltb, le-ltb}
use Rattle.std.proofs.lemmas.Result.{on_err_weaker}
use Rattle.rv_asm.specs.declared.item.Item.TheVariants.{BranchTo}
use Rattle.action_terms.specs.Actions.{Is, OnTwo}
use Rattle.action_terms.specs.Forms.{yielder_at}
use Rattle.rv_yield.specs.Conditions.{compared}
use Rattle.rv_yield.specs.Registers.{registers_needed}
use Rattle.rv_yield.specs.YielderCode.{value_items}
use Rattle.rv_yield.specs.Sources.{places_of}
use Rattle.rv_yield.proofs.ConditionLaws.{compared-later, compared-in_turn, need-known}
use Rattle.rv_yield.proofs.Fronts.{front-of_first, front-of_second, front-of_both}
use Rattle.rv_yield.proofs.NeedLaws.{registers-enough}
use Rattle.rv_yield.proofs.conditions.append_comparison.Goals as goal

pub value_code-requires-clause-room : goal.value_code-requires-clause-room
value_code-requires-clause-room c =
    let s = c.args.source.now in
    let ls = s.graph.now.yielders in
    let r = c.requires in
    let o = c.args.operands in
    let y1 = yielder_at ls o.0 in
    let y2 = yielder_at ls o.1 in
    let need1 = need-known ls s.needs.now o.0 s.needed r.first r.built.0 in
    let need2 = need-known ls s.needs.now o.1 s.needed r.second r.built.1 in
    omega (arith, registers-enough y2 (omega (arith, r.few)))

pub value_code-requires-then-source-first-clause-room : goal.value_code-requires-then-source-first-clause-room
value_code-requires-then-source-first-clause-room c =
    let s = c.args.source.now in
    let ls = s.graph.now.yielders in
    let r = c.requires in
    let o = c.args.operands in
    let y1 = yielder_at ls o.0 in
    let y2 = yielder_at ls o.1 in
    let need1 = need-known ls s.needs.now o.0 s.needed r.first r.built.0 in
    let need2 = need-known ls s.needs.now o.1 s.needed r.second r.built.1 in
    omega (arith, registers-enough y2 (omega (arith, r.few)), need1, need2, c.if-source-first.true)

pub value_code-requires-2-clause-room : goal.value_code-requires-2-clause-room
value_code-requires-2-clause-room c =
    let s = c.args.source.now in
    let ls = s.graph.now.yielders in
    let r = c.requires in
    let o = c.args.operands in
    let y1 = yielder_at ls o.0 in
    let y2 = yielder_at ls o.1 in
    let need1 = need-known ls s.needs.now o.0 s.needed r.first r.built.0 in
    let need2 = need-known ls s.needs.now o.1 s.needed r.second r.built.1 in
    omega (arith, registers-enough y1 (omega (arith, r.few)))

pub value_code-requires-3-clause-room : goal.value_code-requires-3-clause-room
value_code-requires-3-clause-room c =
    let s = c.args.source.now in
    let ls = s.graph.now.yielders in
    let r = c.requires in
    let o = c.args.operands in
    let y1 = yielder_at ls o.0 in
    let y2 = yielder_at ls o.1 in
    let need1 = need-known ls s.needs.now o.0 s.needed r.first r.built.0 in
    let need2 = need-known ls s.needs.now o.1 s.needed r.second r.built.1 in
    omega (arith, registers-enough (OnTwo Is y1 y2) (omega (arith, r.few)), need1, need2, c.if-source-first.false)

pub returns-in_err-value_code-clause-err : goal.returns-in_err-value_code-clause-err
returns-in_err-value_code-clause-err c =
    let s = c.args.source.now in
    let ls = s.graph.now.yielders in
    let r = c.requires in
    let o = c.args.operands in
    let y1 = yielder_at ls o.0 in
    let y2 = yielder_at ls o.1 in
    let need1 = need-known ls s.needs.now o.0 s.needed r.first r.built.0 in
    let need2 = need-known ls s.needs.now o.1 s.needed r.second r.built.1 in
    let q : ltb (registers_needed y1) (registers_needed y2) ≡ true = lt-ltb _ _ (omega (arith, need1, need2, c.if-source-first.true)) in
    let a = value_items (places_of s) 10 10 s.nothing y2 in
    let b = value_items (places_of s) 11 11 s.nothing y1 in
    let last = BranchTo c.args.op 11 10 c.args.otherwise ∷ [] in
    let is = compared-later (places_of s) c.args.op c.args.otherwise s.nothing y1 y2 q in
    let all = compared (places_of s) c.args.op c.args.otherwise s.nothing y1 y2 in
    let front = front-of_first a b last all is c.args.asm.now c.value_code.new.asm c.in_err-value_code.ensures.err in
    search rules

pub returns-in_err-value_code-2-clause-err : goal.returns-in_err-value_code-2-clause-err
returns-in_err-value_code-2-clause-err c =
    let s = c.args.source.now in
    let ls = s.graph.now.yielders in
    let r = c.requires in
    let o = c.args.operands in
    let y1 = yielder_at ls o.0 in
    let y2 = yielder_at ls o.1 in
    let need1 = need-known ls s.needs.now o.0 s.needed r.first r.built.0 in
    let need2 = need-known ls s.needs.now o.1 s.needed r.second r.built.1 in
    let q : ltb (registers_needed y1) (registers_needed y2) ≡ true = lt-ltb _ _ (omega (arith, need1, need2, c.if-source-first.true)) in
    let a = value_items (places_of s) 10 10 s.nothing y2 in
    let b = value_items (places_of s) 11 11 s.nothing y1 in
    let last = BranchTo c.args.op 11 10 c.args.otherwise ∷ [] in
    let is = compared-later (places_of s) c.args.op c.args.otherwise s.nothing y1 y2 q in
    let all = compared (places_of s) c.args.op c.args.otherwise s.nothing y1 y2 in
    let front = front-of_second a b last all is c.args.asm.now c.value_code.new.asm c.value_code-then-source-first.new.asm c.in_ok-value_code.ensures.items c.in_err-value_code-2.ensures.err in
    search rules

pub returns-then-source-first-clause-err : goal.returns-then-source-first-clause-err
returns-then-source-first-clause-err c =
    let s = c.args.source.now in
    let ls = s.graph.now.yielders in
    let r = c.requires in
    let o = c.args.operands in
    let y1 = yielder_at ls o.0 in
    let y2 = yielder_at ls o.1 in
    let need1 = need-known ls s.needs.now o.0 s.needed r.first r.built.0 in
    let need2 = need-known ls s.needs.now o.1 s.needed r.second r.built.1 in
    let q : ltb (registers_needed y1) (registers_needed y2) ≡ true = lt-ltb _ _ (omega (arith, need1, need2, c.if-source-first.true)) in
    let a = value_items (places_of s) 10 10 s.nothing y2 in
    let b = value_items (places_of s) 11 11 s.nothing y1 in
    let last = BranchTo c.args.op 11 10 c.args.otherwise ∷ [] in
    let is = compared-later (places_of s) c.args.op c.args.otherwise s.nothing y1 y2 q in
    let all = compared (places_of s) c.args.op c.args.otherwise s.nothing y1 y2 in
    on_err_weaker c.branch-asm.result (λ e. front-of_both a b last all is c.args.asm.now c.value_code.new.asm c.value_code-then-source-first.new.asm c.branch-asm.new.self c.in_ok-value_code.ensures.items c.in_ok-value_code-2.ensures.items e) c.branch-asm.ensures.err

pub returns-in_err-value_code-3-clause-err : goal.returns-in_err-value_code-3-clause-err
returns-in_err-value_code-3-clause-err c =
    let s = c.args.source.now in
    let ls = s.graph.now.yielders in
    let r = c.requires in
    let o = c.args.operands in
    let y1 = yielder_at ls o.0 in
    let y2 = yielder_at ls o.1 in
    let need1 = need-known ls s.needs.now o.0 s.needed r.first r.built.0 in
    let need2 = need-known ls s.needs.now o.1 s.needed r.second r.built.1 in
    let q : ltb (registers_needed y1) (registers_needed y2) ≡ false = le-ltb _ _ (omega (arith, need1, need2, c.if-source-first.false)) in
    let a = value_items (places_of s) 10 10 s.nothing y1 in
    let b = value_items (places_of s) 11 11 s.nothing y2 in
    let last = BranchTo c.args.op 10 11 c.args.otherwise ∷ [] in
    let is = compared-in_turn (places_of s) c.args.op c.args.otherwise s.nothing y1 y2 q in
    let all = compared (places_of s) c.args.op c.args.otherwise s.nothing y1 y2 in
    let front = front-of_first a b last all is c.args.asm.now c.value_code-2.new.asm c.in_err-value_code-3.ensures.err in
    search rules

pub returns-in_err-value_code-4-clause-err : goal.returns-in_err-value_code-4-clause-err
returns-in_err-value_code-4-clause-err c =
    let s = c.args.source.now in
    let ls = s.graph.now.yielders in
    let r = c.requires in
    let o = c.args.operands in
    let y1 = yielder_at ls o.0 in
    let y2 = yielder_at ls o.1 in
    let need1 = need-known ls s.needs.now o.0 s.needed r.first r.built.0 in
    let need2 = need-known ls s.needs.now o.1 s.needed r.second r.built.1 in
    let q : ltb (registers_needed y1) (registers_needed y2) ≡ false = le-ltb _ _ (omega (arith, need1, need2, c.if-source-first.false)) in
    let a = value_items (places_of s) 10 10 s.nothing y1 in
    let b = value_items (places_of s) 11 11 s.nothing y2 in
    let last = BranchTo c.args.op 10 11 c.args.otherwise ∷ [] in
    let is = compared-in_turn (places_of s) c.args.op c.args.otherwise s.nothing y1 y2 q in
    let all = compared (places_of s) c.args.op c.args.otherwise s.nothing y1 y2 in
    let front = front-of_second a b last all is c.args.asm.now c.value_code-2.new.asm c.value_code-3.new.asm c.in_ok-value_code-3.ensures.items c.in_err-value_code-4.ensures.err in
    search rules

pub returns-clause-err : goal.returns-clause-err
returns-clause-err c =
    let s = c.args.source.now in
    let ls = s.graph.now.yielders in
    let r = c.requires in
    let o = c.args.operands in
    let y1 = yielder_at ls o.0 in
    let y2 = yielder_at ls o.1 in
    let need1 = need-known ls s.needs.now o.0 s.needed r.first r.built.0 in
    let need2 = need-known ls s.needs.now o.1 s.needed r.second r.built.1 in
    let q : ltb (registers_needed y1) (registers_needed y2) ≡ false = le-ltb _ _ (omega (arith, need1, need2, c.if-source-first.false)) in
    let a = value_items (places_of s) 10 10 s.nothing y1 in
    let b = value_items (places_of s) 11 11 s.nothing y2 in
    let last = BranchTo c.args.op 10 11 c.args.otherwise ∷ [] in
    let is = compared-in_turn (places_of s) c.args.op c.args.otherwise s.nothing y1 y2 q in
    let all = compared (places_of s) c.args.op c.args.otherwise s.nothing y1 y2 in
    on_err_weaker c.branch-asm-2.result (λ e. front-of_both a b last all is c.args.asm.now c.value_code-2.new.asm c.value_code-3.new.asm c.branch-asm-2.new.self c.in_ok-value_code-3.ensures.items c.in_ok-value_code-4.ensures.items e) c.branch-asm-2.ensures.err
