use Rattle.std.proofs.Common.{◌≡◌, ◌+◌, ◌++◌, inl, inr, ℕ, List, [], ◌∷◌, take, get_or, add-one, subst}
use Rattle.std.proofs.Math.Seq.{take-suc}
use Rattle.chart_parse.specs.declared.rows.Entry.{Entry}
use Rattle.chart_parse.specs.Rows.{Lists}
use Rattle.chart_parse.proofs.Lists.{push_lists}
use Rattle.chart_parse.proofs.runs.is_present.Goals as goal

abbrev no_entry : Entry
no_entry = record { nonterm = 0; row = record { ref_ptr = (0, 0); now = [] } }

pub loop-entry-preserved : goal.loop-entry-preserved
loop-entry-preserved c e h =
    let list : List Entry = c.args.list.now in
    let k : ℕ = c.loop-entry.entry-index in
    let x : Entry = get_or list k no_entry in
    let next : take (k + 1) list ≡ take k list ++ x ∷ [] = rw (add-one k) (take-suc list k no_entry c.loop-entry-test.true) in
    elim ((push_lists (take k list) x c.args.nonterminal e).0 (subst (λ (l : List Entry). Lists l c.args.nonterminal e) next h)) [
      | inl old ↦ c.loop-entry.invariant e old
      | inr here ↦ absurd (c.if-entry-nonterminal.false here.0)
    ]
