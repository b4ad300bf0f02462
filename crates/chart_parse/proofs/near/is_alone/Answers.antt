use Rattle.std.proofs.Common.{◌≡◌, ◌∙◌, ◌+◌, ◌++◌, inl, inr, ℕ, List, [], ◌∷◌, take, get_or, add-one, sym, subst, length}
use Rattle.std.proofs.Math.Seq.{take-suc}
use Rattle.chart_parse.specs.declared.rows.Entry.{Entry}
use Rattle.chart_parse.specs.Rows.{Lists}
use Rattle.chart_parse.proofs.Lists.{wide_at, push_lists}
use Rattle.chart_parse.proofs.near.is_alone.Goals as goal

abbrev no_entry : Entry
no_entry = record { nonterm = 0; row = record { ref_ptr = (0, 0); now = [] } }

pub has_more-requires : goal.has_more-requires
has_more-requires c = wide_at (length c.args.row.now) c.args.list.now c.loop-k.k no_entry c.loop-k-test.true c.requires

pub loop-k-preserved : goal.loop-k-preserved
loop-k-preserved c n e within h =
    let list : List Entry = c.args.list.now in
    let k : ℕ = c.loop-k.k in
    let x : Entry = get_or list k no_entry in
    let next : take (k + 1) list ≡ take k list ++ x ∷ [] = rw (add-one k) (take-suc list k no_entry c.loop-k-test.true) in
    elim ((push_lists (take k list) x n e).0 (subst (λ (l : List Entry). Lists l n e) next h)) [
      | inl old ↦ c.loop-k.invariant n e within old
      | inr here ↦ (sym here.0 ∙ c.if-entry-nonterminal.false, (c.has_more.ensures c.if-has_more.false e within).1 (inr here.1))
    ]
