use Rattle.std.proofs.Common.{◌⊎◌, inl, inr, ℕ, ◌+◌, ◌<◌, Contains, List, arith}
use Rattle.std.specs.Prelude.{◌↔◌, Result, Ok, Err, OnOk}
use Rattle.acg_base.specs.declared.memory.Memory.{Memory}
use Rattle.chart_parse.specs.Rows.{Has}
use Rattle.chart_parse.proofs.spans.add_entry.Goals as goal

on_numbers : (r : Result (Unit {0}) Memory) (A B : Type 0) → OnOk r A → (A → B) → OnOk r B
on_numbers (Ok b) A B a f = f a
on_numbers (Err e) A B a f = tt

pub returns : goal.returns
returns c =
    let old : List ℕ = c.args.list.now.items in
    let new : List ℕ = c.add_numbers.new.list.items in
    on_numbers c.add_numbers.result ((e : ℕ) → Contains new e ↔ (Contains old e ⊎ ((e < c.args.last + 1) × Has c.args.entry.row.now e))) _ c.add_numbers.ensures
    (λ h e. (
      λ y. elim ((h e).0 y) [ inl o ↦ inl o | inr q ↦ inr ((let lt = q.0 in omega arith), c.if-entry-nonterminal.false, q.1) ],
      λ y. elim y [ inl o ↦ (h e).1 (inl o) | inr q ↦ (h e).1 (inr ((let lt = q.0 in omega arith), q.2)) ],
    ))
