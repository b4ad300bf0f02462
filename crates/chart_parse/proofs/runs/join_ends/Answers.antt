use Rattle.std.proofs.Common.{◌≡◌, ◌⊎◌, ◌∙◌, ◌+◌, ◌++◌, ℕ, sym, subst, List, [], ◌∷◌, length, take, take_all, get_or, add-one, arith}
use Rattle.std.specs.Prelude.{◌↔◌}
use Rattle.std.proofs.Math.Seq.{take-suc}
use Rattle.chart_parse.specs.declared.rows.Entry.{Entry}
use Rattle.chart_parse.specs.Rows.{Has, Lists}
use Rattle.chart_parse.proofs.Lists.{wide_at}
use Rattle.chart_parse.proofs.Followed.{ends_more}
use Rattle.chart_parse.proofs.runs.join_ends.Goals as goal

abbrev no_entry : Entry
no_entry = record { nonterm = 0; row = record { ref_ptr = (0, 0); now = [] } }

pub join_entry-requires : goal.join_entry-requires
join_entry-requires c = wide_at (length c.args.into.now) c.args.list.now c.loop-k.k no_entry c.loop-k-test.true c.requires ∙ sym c.loop-k.invariant.len

pub loop-k-preserved : goal.loop-k-preserved
loop-k-preserved c =
    let list : List Entry = c.args.list.now in
    let x : Entry = get_or list c.loop-k.k no_entry in
    let old : List ℕ = c.args.into.now in
    let new : List ℕ = c.join_entry.new.into in
    let e : take (c.loop-k.k + 1) list ≡ take c.loop-k.k list ++ x ∷ [] = rw (add-one c.loop-k.k) (take-suc list c.loop-k.k no_entry c.loop-k-test.true) in
    record {
      len = c.join_entry.ensures.len ∙ c.loop-k.invariant.len;
      joined = λ d within. subst (λ (t : List Entry). Has new d ↔ (Has old d ⊎ Lists t c.args.nonterminal d)) (sym e)
          (ends_more old c.loop-k.into new (take c.loop-k.k list) x c.args.nonterminal d (c.loop-k.invariant.joined d within) (c.join_entry.ensures.joined d (omega (arith, c.loop-k.invariant.len, within))));
    }

pub returns-clause-joined : goal.returns-clause-joined
returns-clause-joined c d within =
    subst (λ (t : List Entry). Has c.loop-k.into d ↔ (Has c.args.into.now d ⊎ Lists t c.args.nonterminal d)) (take_all c.loop-k.k c.args.list.now c.loop-k-test.false) (c.loop-k.invariant.joined d within)
