use Rattle.std.proofs.Common.{◌≡◌, ◌≢◌, ◌∙◌, ◌<◌, ℕ, false, length, List, slice_set, sym, ap, subst, arith, Vec, Global}
use Rattle.chart_parse.specs.declared.rows.Entry.{Entry}
use Rattle.chart_parse.specs.Rows.{Lists, AreWide, ListsBoth}
use Rattle.chart_parse.specs.Table.{list_at, AllWide}
use Rattle.chart_parse.specs.Places.{Places, grammar_of, width_of, list_of, IsListed, IsSame, IsAdded}
use Rattle.chart_parse.proofs.Answered.{on_four, if_on}
use Rattle.chart_parse.proofs.Stored.{lists_there, list_there}
use Rattle.chart_parse.proofs.Updated.{list_taken, then_listed, same_set}
use Rattle.chart_parse.proofs.rules.add_list.Goals as goal

pub index-requires : goal.index-requires
index-requires c = omega (arith, c.requires.part.count, c.requires.from.0, c.args.places.now.ok.0)

pub index-requires-2 : goal.index-requires-2
index-requires-2 c =
    let lt : c.args.from.place < length c.args.places.now.items = omega (arith, c.requires.part.count, c.requires.from.0) in
    let len = ap length (lists_there c.args.places.now.items c.args.from.place c.index.result.now lt c.index.ensures) in
    omega (arith, len, c.requires.part.tables c.args.from.place c.requires.from.0, c.requires.from.1, c.index.result.now.ok.0)

pub index_mut-requires : goal.index_mut-requires
index_mut-requires c = omega (arith, c.requires.part.count, c.requires.into.0, c.args.places.now.ok.0)

pub add_at-requires-clause-inside : goal.add_at-requires-clause-inside
add_at-requires-clause-inside c =
    let lt : c.args.site.place < length c.args.places.now.items = omega (arith, c.requires.part.count, c.requires.into.0) in
    let len = ap length (lists_there c.args.places.now.items c.args.site.place c.index_mut.result.now lt c.index_mut.ensures.value) in
    omega (arith, len, c.requires.part.tables c.args.site.place c.requires.into.0, c.requires.into.1)

pub add_at-requires-clause-wide : goal.add_at-requires-clause-wide
add_at-requires-clause-wide c =
    let lt : c.args.site.place < length c.args.places.now.items = omega (arith, c.requires.part.count, c.requires.into.0) in
    subst (AllWide (width_of c.args.site.source.now.kinds.now)) (lists_there c.args.places.now.items c.args.site.place c.index_mut.result.now lt c.index_mut.ensures.value) (λ n. c.requires.part.wide c.args.site.place n)

pub add_at-requires-clause-from : goal.add_at-requires-clause-from
add_at-requires-clause-from c =
    let p : Places = c.args.places.now.items in
    let lt : c.args.from.place < length p = omega (arith, c.requires.part.count, c.requires.from.0) in
    let len = ap length (lists_there p c.args.from.place c.index.result.now lt c.index.ensures) in
    let le : c.args.from.number < length c.index.result.now.items = omega (arith, len, c.requires.part.tables c.args.from.place c.requires.from.0, c.requires.from.1) in
    let e : list_of p c.args.from.place c.args.from.number ≡ c.index-2.result.now.items = list_there p c.args.from.place c.args.from.number c.index.result.now c.index-2.result.now lt c.index.ensures le c.index-2.ensures in
    subst (AreWide (width_of c.args.site.source.now.kinds.now)) (e ∙ sym (c.deref-2.ensures.value ∙ c.in_ok-list.ensures ∙ c.deref.ensures.value)) (c.requires.part.wide c.args.from.place c.args.from.number)

pub returns-clause-added : goal.returns-clause-added
returns-clause-added c =
    let g = grammar_of c.args.site.source.now in
    let w = c.args.site.source.now.kinds.now in
    let p : Places = c.args.places.now.items in
    let k : ℕ = c.args.site.place in
    let v : Vec (Vec Entry Global) Global = c.add_at.new.table in
    let was : Vec (Vec Entry Global) Global = c.index_mut.result.now in
    let lt : c.args.from.place < length p = omega (arith, c.requires.part.count, c.requires.from.0) in
    let len = ap length (lists_there p c.args.from.place c.index.result.now lt c.index.ensures) in
    let le : c.args.from.number < length c.index.result.now.items = omega (arith, len, c.requires.part.tables c.args.from.place c.requires.from.0, c.requires.from.1) in
    let e : list_of p c.args.from.place c.args.from.number ≡ c.index-2.result.now.items = list_there p c.args.from.place c.args.from.number c.index.result.now c.index-2.result.now lt c.index.ensures le c.index-2.ensures in
    on_four c.add_at.result (length v.items ≡ length was.items) ((n : ℕ) → n ≢ c.args.into → list_at v.items n ≡ list_at was.items n) (AllWide (width_of w) v.items)
    (ListsBoth (width_of w) (list_at was.items c.args.into) c.deref-2.result.now (list_at v.items c.args.into)) (IsAdded g w k p (slice_set p k v)) c.add_at.ensures.len c.add_at.ensures.others c.add_at.ensures.wide c.add_at.ensures.joined
    (λ a b d f. list_taken g w p k c.args.into c.deref-2.result.now was v c.requires.part c.requires.into.0 c.requires.into.1 c.index_mut.ensures.value a b d f
    (λ n x le h. c.requires.right n x ((c.requires.part.sound c.args.from.place c.args.from.number n x (le, subst (λ (t : List Entry). Lists t n x) (c.deref-2.ensures.value ∙ c.in_ok-list.ensures ∙ c.deref.ensures.value ∙ sym e) h)).growth c.requires.from.1)))

pub returns-clause-same : goal.returns-clause-same
returns-clause-same c =
    let p : Places = c.args.places.now.items in
    let k : ℕ = c.args.site.place in
    let v : Vec (Vec Entry Global) Global = c.add_at.new.table in
    let was : Vec (Vec Entry Global) Global = c.index_mut.result.now in
    let lt : k < length p = omega (arith, c.requires.part.count, c.requires.into.0) in
    if_on c.add_at.result (λ more. more ≡ false → list_at v.items c.args.into ≡ list_at was.items c.args.into) (λ more. more ≡ false → IsSame p (slice_set p k v)) ((n : ℕ) → n ≢ c.args.into → list_at v.items n ≡ list_at was.items n)
    c.add_at.ensures.same c.add_at.ensures.others
    (λ more h others q. same_set c.args.site.source.now.kinds.now p k c.args.into was v lt c.index_mut.ensures.value others (h q))

pub returns-clause-has : goal.returns-clause-has
returns-clause-has c =
    let g = grammar_of c.args.site.source.now in
    let w = c.args.site.source.now.kinds.now in
    let p : Places = c.args.places.now.items in
    let k : ℕ = c.args.site.place in
    let v : Vec (Vec Entry Global) Global = c.add_at.new.table in
    let was : Vec (Vec Entry Global) Global = c.index_mut.result.now in
    let lt : c.args.from.place < length p = omega (arith, c.requires.part.count, c.requires.from.0) in
    let len = ap length (lists_there p c.args.from.place c.index.result.now lt c.index.ensures) in
    let le : c.args.from.number < length c.index.result.now.items = omega (arith, len, c.requires.part.tables c.args.from.place c.requires.from.0, c.requires.from.1) in
    let e : list_of p c.args.from.place c.args.from.number ≡ c.index-2.result.now.items = list_there p c.args.from.place c.args.from.number c.index.result.now c.index-2.result.now lt c.index.ensures le c.index-2.ensures in
    on_four c.add_at.result (length v.items ≡ length was.items) ((n : ℕ) → n ≢ c.args.into → list_at v.items n ≡ list_at was.items n) (AllWide (width_of w) v.items)
    (ListsBoth (width_of w) (list_at was.items c.args.into) c.deref-2.result.now (list_at v.items c.args.into))
    ((n e : ℕ) → IsListed w p c.args.from.place c.args.from.number n e → IsListed w (slice_set p k v) k c.args.into n e) c.add_at.ensures.len c.add_at.ensures.others c.add_at.ensures.wide c.add_at.ensures.joined
    (λ a b d f n x h. then_listed g w p k c.args.into c.deref-2.result.now was v c.requires.part c.requires.into.0 c.requires.into.1 c.index_mut.ensures.value a b d f n x h.0
    (subst (λ (t : List Entry). Lists t n x) (sym (c.deref-2.ensures.value ∙ c.in_ok-list.ensures ∙ c.deref.ensures.value ∙ sym e)) h.1))
