use Rattle.std.proofs.Common.{◌≡◌, ◌∙◌, ℕ, List, [], ◌++◌, ◌∷◌, length, length-append, ◌+◌, sym, ap, subst, arith, Vec, Global, refl}
use Rattle.chart_parse.specs.declared.rows.Entry.{Entry}
use Rattle.chart_parse.specs.Rows.{AreWide}
use Rattle.chart_parse.specs.Table.{AllWide}
use Rattle.chart_parse.proofs.FirstLists.{HasFirst, first_none, first_next, first_last, wide_next}
use Rattle.chart_parse.proofs.first.first_lists.Goals as goal

pub loop-c-init : goal.loop-c-init
loop-c-init c = record {
  len = ap length c.new-table.ensures.items;
  wide = subst (AllWide (length c.args.row.now)) (sym c.new-table.ensures.items) (λ n. tt);
  lists = subst (HasFirst 0 c.args.row.now) (sym c.new-table.ensures.items) (first_none c.args.row.now);
}

pub loop-c-preserved : goal.loop-c-preserved
loop-c-preserved c =
    let x : Entry = record { nonterm = c.loop-c.c; row = c.args.row } in
    let v : Vec Entry Global = c.push.new.self in
    let is : v.items ≡ x ∷ [] = c.in_ok-push.ensures.items ∙ ap (λ (l : List Entry). l ++ x ∷ []) c.new-list.ensures.items in
    let e = c.in_ok-push-2.ensures.items in
    record {
      len = ap length e ∙ simp length-append (omega (arith, c.loop-c.invariant.len));
      wide = subst (AllWide (length c.args.row.now)) (sym e) (wide_next (length c.args.row.now) c.loop-c.table.items v c.loop-c.invariant.wide (subst (AreWide (length c.args.row.now)) (sym is) (refl, tt)));
      lists = subst (HasFirst (c.loop-c.c + 1) c.args.row.now) (sym e) (first_next c.loop-c.c c.args.row.now c.loop-c.table.items v x c.loop-c.invariant.len c.loop-c.invariant.lists is refl refl);
    }

pub returns-clause-wide : goal.returns-clause-wide
returns-clause-wide c =
    subst (AllWide (length c.args.row.now)) (sym c.in_ok-push-3.ensures.items) (wide_next (length c.args.row.now) c.loop-c.table.items c.new.result c.loop-c.invariant.wide (subst (AreWide (length c.args.row.now)) (sym c.new.ensures.items) tt))

pub returns-clause-lists : goal.returns-clause-lists
returns-clause-lists c =
    let all : c.loop-c.c ≡ c.args.count = omega (arith, c.loop-c-test.false, c.loop-c.auto.c-end) in
    subst (λ (n : ℕ). HasFirst n c.args.row.now c.push-2.new.self.items) all
    (subst (HasFirst c.loop-c.c c.args.row.now) (sym c.in_ok-push-3.ensures.items) (first_last c.loop-c.c c.args.row.now c.loop-c.table.items c.new.result c.loop-c.invariant.len c.loop-c.invariant.lists c.new.ensures.items))
