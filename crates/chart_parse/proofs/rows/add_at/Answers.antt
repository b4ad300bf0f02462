use Rattle.std.proofs.Common.{◌≡◌, ◌≢◌, inl, inr, ◌∙◌, ◌<◌, ℕ, false, sym, ap, subst, length, List, Vec, Global, slice_set, get_or}
use Rattle.std.proofs.lemmas.Bool.Decides.{eqb_tells}
use Rattle.chart_parse.specs.declared.rows.Entry.{Entry}
use Rattle.chart_parse.specs.Rows.{AreWide, ListsBoth}
use Rattle.chart_parse.specs.Table.{list_at, AllWide}
use Rattle.chart_parse.proofs.Answered.{on_any, on_then, if_then}
use Rattle.chart_parse.proofs.Table.{set_same, set_other, list_is}
use Rattle.chart_parse.proofs.rows.add_at.Goals as goal

old_is : (table : List (Vec Entry Global)) (into : ℕ) (v : Vec Entry Global) → into < length table → v ≡ get_or table into v → list_at table into ≡ v.items
old_is table into v lt e = list_is table into v lt ∙ ap (λ (x : Vec Entry Global). x.items) (sym e)

pub add_all-requires-clause-wide : goal.add_all-requires-clause-wide
add_all-requires-clause-wide c = subst (AreWide c.args.width) (old_is c.args.table.now.items c.args.into c.index_mut.result.now c.requires.inside c.index_mut.ensures.value) (c.requires.wide c.args.into)

pub returns-clause-others : goal.returns-clause-others
returns-clause-others c = on_any c.add_all.result ((n : ℕ) → n ≢ c.args.into → list_at (slice_set c.args.table.now.items c.args.into c.add_all.new.list) n ≡ list_at c.args.table.now.items n) (λ n h. set_other c.args.table.now.items c.args.into n c.add_all.new.list h)

pub returns-clause-wide : goal.returns-clause-wide
returns-clause-wide c = on_then c.add_all.result (AreWide c.args.width c.add_all.new.list.items) (AllWide c.args.width (slice_set c.args.table.now.items c.args.into c.add_all.new.list)) c.add_all.ensures.wide (λ w n. elim (eqb_tells n c.args.into) [
  | inl e ↦ subst (λ (m : ℕ). AreWide c.args.width (list_at (slice_set c.args.table.now.items c.args.into c.add_all.new.list) m)) (sym e.1) (subst (AreWide c.args.width) (sym (set_same c.args.table.now.items c.args.into c.add_all.new.list c.requires.inside)) w)
  | inr e ↦ subst (AreWide c.args.width) (sym (set_other c.args.table.now.items c.args.into n c.add_all.new.list e.1)) (c.requires.wide n)
])

pub returns-clause-joined : goal.returns-clause-joined
returns-clause-joined c =
    let old : List Entry = list_at c.args.table.now.items c.args.into in
    let new : List Entry = list_at (slice_set c.args.table.now.items c.args.into c.add_all.new.list) c.args.into in
    let e = old_is c.args.table.now.items c.args.into c.index_mut.result.now c.requires.inside c.index_mut.ensures.value in
    on_then c.add_all.result (ListsBoth c.args.width c.index_mut.result.now.items c.args.from.now c.add_all.new.list.items) (ListsBoth c.args.width old c.args.from.now new) c.add_all.ensures.joined
    (λ h. subst (λ (l : List Entry). ListsBoth c.args.width old c.args.from.now l) (sym (set_same c.args.table.now.items c.args.into c.add_all.new.list c.requires.inside)) (subst (λ (l : List Entry). ListsBoth c.args.width l c.args.from.now c.add_all.new.list.items) (sym e) h))

pub returns-clause-same : goal.returns-clause-same
returns-clause-same c =
    let old : List Entry = list_at c.args.table.now.items c.args.into in
    let new : List Entry = list_at (slice_set c.args.table.now.items c.args.into c.add_all.new.list) c.args.into in
    let e = old_is c.args.table.now.items c.args.into c.index_mut.result.now c.requires.inside c.index_mut.ensures.value in
    if_then c.add_all.result (λ more. more ≡ false → c.add_all.new.list.items ≡ c.index_mut.result.now.items) (λ more. more ≡ false → new ≡ old) c.add_all.ensures.same
    (λ more h q. set_same c.args.table.now.items c.args.into c.add_all.new.list c.requires.inside ∙ h q ∙ sym e)
