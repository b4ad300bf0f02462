use Rattle.std.proofs.Common.{◌≡◌, inl, inr, ◌+◌, ◌/◌, ◌≤◌, ◌++◌, sym, subst, List, [], ◌∷◌, take, take_all, get_or, Contains, add-one}
use Rattle.std.specs.Prelude.{◌↔◌}
use Rattle.std.proofs.Math.Seq.{take-suc}
use Rattle.chart_parse.specs.declared.rows.Entry.{Entry}
use Rattle.chart_parse.specs.Rows.{Lists}
use Rattle.chart_parse.proofs.Lists.{wide_at, push_lists}
use Rattle.chart_parse.proofs.spans.listed.Goals as goal

abbrev no_entry : Entry
no_entry = record { nonterm = 0; row = record { ref_ptr = (0, 0); now = [] } }

pub add_entry-requires-clause-wide : goal.add_entry-requires-clause-wide
add_entry-requires-clause-wide c = wide_at (c.args.last / 64 + 1) c.args.list.now c.loop-k.k no_entry c.loop-k-test.true c.requires.wide

pub loop-k-preserved : goal.loop-k-preserved
loop-k-preserved c e =
    let list : List Entry = c.args.list.now in
    let x : Entry = get_or list c.loop-k.k no_entry in
    let next : take (c.loop-k.k + 1) list ≡ take c.loop-k.k list ++ x ∷ [] = rw (add-one c.loop-k.k) (take-suc list c.loop-k.k no_entry c.loop-k-test.true) in
    let h = c.loop-k.invariant e in
    let add = c.in_ok-add_entry.ensures e in
    let p = push_lists (take c.loop-k.k list) x c.args.nonterminal e in
    subst (λ (t : List Entry). Contains c.add_entry.new.list.items e ↔ ((e ≤ c.args.last) × Lists t c.args.nonterminal e)) (sym next) (
      λ y. elim (add.0 y) [
        | inl o ↦ let q = h.0 o in (q.0, p.1 (inl q.1))
        | inr q ↦ (q.0, p.1 (inr (q.1, q.2)))
      ],
      λ y. elim (p.0 y.1) [
        | inl o ↦ add.1 (inl (h.1 (y.0, o)))
        | inr q ↦ add.1 (inr (y.0, q.0, q.1))
      ],
    )

pub returns : goal.returns
returns c e =
    subst (λ (t : List Entry). Contains c.loop-k.numbers.items e ↔ ((e ≤ c.args.last) × Lists t c.args.nonterminal e)) (take_all c.loop-k.k c.args.list.now c.loop-k-test.false) (c.loop-k.invariant e)
