use Rattle.std.proofs.Common.{◌≡◌, ◌⊎◌, inl, inr, ◌∙◌, true, false, ◌+◌, ◌*◌, ◌<◌, ℕ, List, length, sym, ap, subst, arith}
use Rattle.std.specs.Prelude.{◌↔◌}
use Rattle.std.proofs.lemmas.List.{length-map}
use Rattle.std.proofs.lemmas.Option.{slice_get_within}
use Rattle.source_lex.specs.Numbered.{plain_alternatives}
use Rattle.source_lex.specs.declared.numbered.Symbol.{Symbol}
use Rattle.chart_parse.specs.declared.rows.Entry.{Entry}
use Rattle.chart_parse.specs.Rows.{Has, Lists, AreWide}
use Rattle.chart_parse.specs.Places.{grammar_of, width_of, list_of, Advances}
use Rattle.chart_parse.proofs.Stored.{lists_there, list_there}
use Rattle.chart_parse.proofs.Updated.{has_bit}
use Rattle.chart_parse.proofs.runs.advance.Goals as goal

pub bounds-places-at : goal.bounds-places-at
bounds-places-at c = omega (arith, c.requires.part.count, c.requires.at)

pub index-requires : goal.index-requires
index-requires c =
    let lt : c.args.at < length c.args.places.now = omega (arith, c.requires.part.count, c.requires.at) in
    let len = ap length (lists_there c.args.places.now c.args.at c.index-places-at.result lt c.index-places-at.is) in
    omega (arith, len, c.requires.part.tables c.args.at c.requires.at, length-map c.args.source.now.nonterminals.now plain_alternatives, c.index-places-at.result.ok.0)

pub join_ends-requires : goal.join_ends-requires
join_ends-requires c =
    let p = c.args.places.now in
    let n : ℕ = length c.args.source.now.nonterminals.now in
    let lt : c.args.at < length p = omega (arith, c.requires.part.count, c.requires.at) in
    let len = ap length (lists_there p c.args.at c.index-places-at.result lt c.index-places-at.is) in
    let inside : n < length c.index-places-at.result.items = omega (arith, len, c.requires.part.tables c.args.at c.requires.at, length-map c.args.source.now.nonterminals.now plain_alternatives) in
    let e = list_there p c.args.at n c.index-places-at.result c.index.result.now lt c.index-places-at.is inside c.index.ensures in
    subst (λ (k : ℕ). AreWide k c.deref.result.now) (sym c.requires.wide) (subst (AreWide (width_of c.args.source.now.kinds.now)) (e ∙ sym c.deref.ensures.value) (c.requires.part.wide c.args.at n))

pub insert-requires : goal.insert-requires
insert-requires c =
    let w = c.args.source.now.kinds.now in
    let lt = slice_get_within w c.args.at c.in-Word.kind (c.is_kind.ensures.0 c.if-is_kind.true) in
    let bit = has_bit w (c.args.at + 1) (omega (arith, lt)) in
    omega (arith, bit, c.requires.wide)

pub returns-then-is_kind-clause-joined : goal.returns-then-is_kind-clause-joined
returns-then-is_kind-clause-joined c d le =
    let p = c.args.places.now in
    let g = grammar_of c.args.source.now in
    let w = c.args.source.now.kinds.now in
    let there = c.is_kind.ensures.0 c.if-is_kind.true in
    let j = c.insert.ensures.one d in
    subst (λ (s : Symbol). Has c.insert.new.row d ↔ (Has c.args.into.now d ⊎ Advances g w p s c.args.at d)) (sym c.in-Word.is) (
      λ h. elim (j.0 h) [ inl o ↦ inl o | inr q ↦ inr (there, q) ],
      λ h. elim h [ inl o ↦ j.1 (inl o) | inr q ↦ j.1 (inr q.1) ],
    )

pub returns-else-is_kind-clause-joined : goal.returns-else-is_kind-clause-joined
returns-else-is_kind-clause-joined c d le =
    let p = c.args.places.now in
    let g = grammar_of c.args.source.now in
    let w = c.args.source.now.kinds.now in
    subst (λ (s : Symbol). Has c.args.into.now d ↔ (Has c.args.into.now d ⊎ Advances g w p s c.args.at d)) (sym c.in-Word.is) (
      λ h. inl h,
      λ h. elim h [ inl o ↦ o | inr q ↦ absurd (let t : true ≡ false = sym (c.is_kind.ensures.1 q.0) ∙ c.if-is_kind.false in cc) ],
    )

pub returns-in-Phrase-clause-joined : goal.returns-in-Phrase-clause-joined
returns-in-Phrase-clause-joined c d le =
    let p = c.args.places.now in
    let g = grammar_of c.args.source.now in
    let w = c.args.source.now.kinds.now in
    let n : ℕ = length c.args.source.now.nonterminals.now in
    let lt : c.args.at < length p = omega (arith, c.requires.part.count, c.requires.at) in
    let count : length g ≡ n = length-map c.args.source.now.nonterminals.now plain_alternatives in
    let len = ap length (lists_there p c.args.at c.index-places-at.result lt c.index-places-at.is) in
    let inside : n < length c.index-places-at.result.items = omega (arith, len, c.requires.part.tables c.args.at c.requires.at, count) in
    let e : list_of p c.args.at n ≡ c.index.result.now.items = list_there p c.args.at n c.index-places-at.result c.index.result.now lt c.index-places-at.is inside c.index.ensures in
    let f : list_of p c.args.at (length g) ≡ c.deref.result.now = ap (list_of p c.args.at) count ∙ e ∙ sym c.deref.ensures.value in
    let bit : d < 64 * width_of w = has_bit w d le in
    let j = c.join_ends.ensures.joined d (omega (arith, bit, c.requires.wide)) in
    subst (λ (s : Symbol). Has c.join_ends.new.into d ↔ (Has c.args.into.now d ⊎ Advances g w p s c.args.at d)) (sym c.in-Phrase.is) (
      λ h. elim (j.0 h) [ inl o ↦ inl o | inr q ↦ inr (le, subst (λ (l : List Entry). Lists l c.in-Phrase.nonterminal d) (sym f) q) ],
      λ h. elim h [ inl o ↦ j.1 (inl o) | inr q ↦ j.1 (inr (subst (λ (l : List Entry). Lists l c.in-Phrase.nonterminal d) f q.1)) ],
    )
