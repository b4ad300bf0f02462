use Rattle.std.proofs.Common.{List, [], ap, arith, get_or, length, length-append, subst, sym, ◌+◌, ◌<◌, ◌∙◌, ◌∷◌, ◌≡◌}
use Rattle.sort_rules.specs.MarkedRows.{row_part, table_part}
use Rattle.sort_rules.specs.Tables.{Entry}
use Rattle.sort_rules.specs.Views.{row_of, set_of}
use Rattle.sort_rules.specs.declared.rows.MarkedRow.{MarkedRow}
use Rattle.sort_rules.specs.declared.set.Set.{Set}
use Rattle.sort_rules.specs.declared.table.Row.{Row}
use Rattle.sort_rules.proofs.MarkedLaws.{AreMarked, marked-all, marked-more}
use Rattle.sort_rules.proofs.marking.marked_rows.Goals as goal

pub loop-i-preserved : goal.loop-i-preserved
loop-i-preserved c =
    let rs = c.args.rows.now in
    let cs = c.args.contents.now in
    let i = c.loop-i.i in
    let r = c.index-rows-i.result in
    let s = c.index-contents-i.result in
    let same = c.requires in
    let less : c.loop-i.i < length c.args.rows.now = omega (arith, c.loop-i-test.true) in
    let less2 : c.loop-i.i < length c.args.contents.now = omega (arith, c.loop-i-test.true, same) in
    let here : (x : Entry) → row_part c.marked_row.result x ≡ table_part (row_of (get_or rs i r)) (set_of (get_or cs i s)) x =
    λ x. c.marked_row.ensures x ∙ ap (λ (q : Row). table_part (row_of q) (set_of s) x) c.index-rows-i.is ∙ ap (λ (q : Set). table_part (row_of (get_or rs i r)) (set_of q) x) c.index-contents-i.is in
    let longer : length c.push.new.self.items ≡ length c.loop-i.marked.items + 1 = ap length c.in_ok-push.ensures.items ∙ length-append c.loop-i.marked.items (c.marked_row.result ∷ []) in
    record {
      count = omega (arith, longer, c.loop-i.invariant.count);
      marked = subst (λ (ms : List MarkedRow). AreMarked rs cs ms (i + 1)) (sym c.in_ok-push.ensures.items)
          (marked-more rs cs c.loop-i.marked.items c.marked_row.result i r s c.loop-i.invariant.count less less2 c.loop-i.invariant.marked here);
    }

pub returns : goal.returns
returns c =
    let all : c.loop-i.i ≡ length c.args.rows.now = omega (arith, c.loop-i-test.false, c.loop-i.auto.i-end) in
    marked-all c.args.rows.now c.args.contents.now c.loop-i.marked.items c.loop-i.i c.loop-i.invariant.count all c.requires c.loop-i.invariant.marked
