use Rattle.std.proofs.Common.{◌≡◌, ◌∙◌, inl, inr, ℕ, ◌<◌, List, ◌++◌, take, drop, length, sym, ap, subst, arith, Vec, Global}
use Rattle.std.proofs.lemmas.List.{length-map}
use Rattle.source_lex.specs.Numbered.{plain_alternatives}
use Rattle.chart_parse.specs.declared.rows.Entry.{Entry}
use Rattle.chart_parse.specs.Rows.{Has, Lists, AreWide}
use Rattle.chart_parse.specs.Places.{grammar_of, width_of, list_of, AreNear}
use Rattle.chart_parse.proofs.NearRows.{near_from, near_marked, row_there}
use Rattle.chart_parse.proofs.Stored.{lists_there, list_there, written_back}
use Rattle.chart_parse.proofs.Updated.{has_bit}
use Rattle.chart_parse.proofs.near.mark_near.Goals as goal
use Rattle.chart_parse.proofs.near.mark_near.Goals.{then-is_alone, else-is_alone}

pub loop-m-init : goal.loop-m-init
loop-m-init c = near_from (grammar_of c.args.source.now) c.args.source.now.kinds.now c.args.place c.args.places.now c.args.near.now.items c.requires.near

pub index-requires : goal.index-requires
index-requires c =
    let lt : c.args.place < length c.args.places.now = omega (arith, c.requires.part.count, c.requires.place) in
    let len = ap length (lists_there c.args.places.now c.args.place c.index-places-place.result lt c.index-places-place.is) in
    omega (arith, len, c.requires.part.tables c.args.place c.requires.place, length-map c.args.source.now.nonterminals.now plain_alternatives, c.loop-m-test.true, c.index-places-place.result.ok.0)

pub is_alone-requires : goal.is_alone-requires
is_alone-requires c =
    let w = c.args.source.now.kinds.now in
    let p = c.args.places.now in
    let row : List ℕ = c.in_ok-one.one.items in
    let new : List ℕ = c.insert.new.row in
    let len : length new ≡ length row = c.insert.ensures.len ∙ ap length c.deref_mut.ensures.value in
    let back : take c.in_ok-one.one.len (new ++ drop (length new) row) ≡ new = written_back new row c.in_ok-one.one.len (omega (arith, c.in_ok-one.one.ok.0)) len in
    let lt : c.args.place < length p = omega (arith, c.requires.part.count, c.requires.place) in
    let all = ap length (lists_there p c.args.place c.index-places-place.result lt c.index-places-place.is) in
    let inside : c.loop-m.m < length c.index-places-place.result.items = omega (arith, all, c.requires.part.tables c.args.place c.requires.place, length-map c.args.source.now.nonterminals.now plain_alternatives, c.loop-m-test.true) in
    let there : list_of p c.args.place c.loop-m.m ≡ c.index.result.now.items = list_there p c.args.place c.loop-m.m c.index-places-place.result c.index.result.now lt c.index-places-place.is inside c.index.ensures in
    subst (λ (n : ℕ). AreWide n c.deref.result.now) (sym (ap length (c.deref-in-loop-m.ensures.value ∙ back) ∙ len ∙ c.in_ok-one.ensures.len))
    (subst (AreWide (width_of w)) (there ∙ sym c.deref.ensures.value) (c.requires.part.wide c.args.place c.loop-m.m))

pub insert-requires-then-is_alone : goal.insert-requires-then-is_alone
insert-requires-then-is_alone c =
    let w = c.args.source.now.kinds.now in
    let near = c.loop-m.near.items in
    let some : c.loop-m.m < length (grammar_of c.args.source.now) = omega (arith, length-map c.args.source.now.nonterminals.now plain_alternatives, c.loop-m-test.true) in
    let lt : c.loop-m.m < length near = omega (arith, c.loop-m.invariant.count, some) in
    let there = row_there near c.loop-m.m c.index_mut.result.now lt c.index_mut.ensures.value in
    let len = ap length c.deref_mut-then-is_alone.ensures.value ∙ sym (ap length there) ∙ c.loop-m.invariant.wide c.loop-m.m some in
    omega (arith, len, has_bit w c.args.place c.requires.place)

pub loop-m-preserved : goal.loop-m-preserved
loop-m-preserved c =
    let g = grammar_of c.args.source.now in
    let w = c.args.source.now.kinds.now in
    let p = c.args.places.now in
    let m : ℕ = c.loop-m.m in
    let near = c.loop-m.near.items in
    let row : List ℕ = c.in_ok-one.one.items in
    let one : List ℕ = c.insert.new.row in
    let one_len : length one ≡ length row = c.insert.ensures.len ∙ ap length c.deref_mut.ensures.value in
    let one_back : take c.in_ok-one.one.len (one ++ drop (length one) row) ≡ one = written_back one row c.in_ok-one.one.len (omega (arith, c.in_ok-one.one.ok.0)) one_len in
    let one_is : c.deref-in-loop-m.result.now ≡ one = c.deref-in-loop-m.ensures.value ∙ one_back in
    let place : c.args.place < length p = omega (arith, c.requires.part.count, c.requires.place) in
    let all = ap length (lists_there p c.args.place c.index-places-place.result place c.index-places-place.is) in
    let some : m < length g = omega (arith, length-map c.args.source.now.nonterminals.now plain_alternatives, c.loop-m-test.true) in
    let inside : m < length c.index-places-place.result.items = omega (arith, all, c.requires.part.tables c.args.place c.requires.place, some) in
    let there : list_of p c.args.place m ≡ c.deref.result.now = list_there p c.args.place m c.index-places-place.result c.index.result.now place c.index-places-place.is inside c.index.ensures ∙ sym c.deref.ensures.value in
    let lt : m < length near = omega (arith, c.loop-m.invariant.count, some) in
    elim c.if-is_alone.branch [
      | then-is_alone v ↦
          let was : Vec ℕ Global = v.index_mut.result.now in
          let new : List ℕ = v.insert-then-is_alone.new.row in
          let len : length new ≡ length was.items = v.insert-then-is_alone.ensures.len ∙ ap length v.deref_mut-then-is_alone.ensures.value in
          let back : take was.len (new ++ drop (length new) was.items) ≡ new = written_back new was.items was.len (omega (arith, was.ok.0)) len in
          subst (λ (rows : List (Vec ℕ Global)). AreNear g w p c.args.place rows) (sym (ap (λ (y : Vec (Vec ℕ Global) Global). y.items) v.near-is))
          (near_marked g w c.args.place m p near was _ c.loop-m.invariant lt v.index_mut.ensures.value (ap length back ∙ len)
          (λ l h. elim ((v.insert-then-is_alone.ensures.one l).0 (subst (λ (r : List ℕ). Has r l) back h)) [
            | inl o ↦ inl (subst (λ (r : List ℕ). Has r l) v.deref_mut-then-is_alone.ensures.value o)
            | inr q ↦ inr q
          ])
          (λ n e x.
          let a = c.is_alone.ensures v.if-is_alone.true n e (omega (arith, ap length one_is, one_len, c.in_ok-one.ensures.len, has_bit w e x.0)) (subst (λ (t : List Entry). Lists t n e) there x.1) in (
            a.0,
            elim ((c.insert.ensures.one e).0 (subst (λ (r : List ℕ). Has r e) one_is a.1)) [
              | inl o ↦ absurd (c.in_ok-one.ensures.none e (subst (λ (r : List ℕ). Has r e) c.deref_mut.ensures.value o))
              | inr q ↦ q
            ],
          )))
      | else-is_alone v ↦ subst (λ (rows : List (Vec ℕ Global)). AreNear g w p c.args.place rows) (sym (ap (λ (y : Vec (Vec ℕ Global) Global). y.items) v.near-is)) c.loop-m.invariant
    ]
