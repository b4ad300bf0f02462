use Rattle.std.proofs.Common.{◌≡◌, inl, inr, ◌∙◌, ◌+◌, ◌++◌, ℕ, true, false, sym, subst, List, [], ◌∷◌, take, get_or, add-one}
use Rattle.std.proofs.Math.Seq.{take-suc}
use Rattle.chart_parse.specs.declared.rows.Entry.{Entry}
use Rattle.chart_parse.specs.Rows.{ListsRow, ListsBoth}
use Rattle.chart_parse.proofs.Lists.{wide_at, push_lists}
use Rattle.chart_parse.proofs.rows.add_all.Goals as goal
use Rattle.chart_parse.proofs.rows.add_all.Goals.{then-branch, else-branch}

abbrev no_entry : Entry
no_entry = record { nonterm = 0; row = record { ref_ptr = (0, 0); now = [] } }

pub add-requires-clause-row : goal.add-requires-clause-row
add-requires-clause-row c = wide_at c.args.width c.args.from.now c.loop-k.k no_entry c.loop-k-test.true c.requires.from

both_more : (width : ℕ) (old mid new taken : List Entry) (x : Entry) → ListsBoth width old taken mid → ListsRow width mid new x → ListsBoth width old (taken ++ x ∷ []) new
both_more width old mid new taken x h r n e within =
    let a = h n e within in
    let b = r n e within in
    let p = push_lists taken x n e in (
      λ q. elim (b.0 q) [
        | inl m ↦ elim (a.0 m) [ inl o ↦ inl o | inr t ↦ inr (p.1 (inl t)) ]
        | inr m ↦ inr (p.1 (inr m))
      ],
      λ q. elim q [
        | inl o ↦ b.1 (inl (a.1 (inl o)))
        | inr t ↦ elim (p.0 t) [ inl m ↦ b.1 (inl (a.1 (inr m))) | inr m ↦ b.1 (inr m) ]
      ],
    )

pub loop-k-preserved : goal.loop-k-preserved
loop-k-preserved c =
    let from : List Entry = c.args.from.now in
    let x : Entry = get_or from c.loop-k.k no_entry in
    let e : take (c.loop-k.k + 1) from ≡ take c.loop-k.k from ++ x ∷ [] = rw (add-one c.loop-k.k) (take-suc from c.loop-k.k no_entry c.loop-k-test.true) in
    record {
      wide = c.in_ok-add.ensures.wide;
      joined = subst (λ (t : List Entry). ListsBoth c.args.width c.args.list.now.items t c.add.new.list.items) (sym e) (both_more c.args.width c.args.list.now.items c.loop-k.list.items c.add.new.list.items (take c.loop-k.k from) x c.loop-k.invariant.joined c.in_ok-add.ensures.joined);
      same = λ q. elim c.if-branch.branch [
        | then-branch w ↦ absurd (let y : true ≡ false = sym w.more-is ∙ q in cc)
        | else-branch w ↦ c.in_ok-add.ensures.same w.if-branch.false ∙ c.loop-k.invariant.same (sym w.more-is ∙ q)
      ];
    }
