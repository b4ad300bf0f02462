use Rattle.std.proofs.Common.{◌≡◌, ◌∙◌, ◌&&◌, true, ℕ, List, get_or, nat_eq, Contains, ap, sym, subst, arith}
use Rattle.std.proofs.lemmas.Bool.Decides.{nat_tests}
use Rattle.indexmap.proofs.CallerLemmas.{Contains-insert_key}
use Rattle.source_lex.specs.Numbered.{Alternative}
use Rattle.source_lex.specs.declared.lexeme.LexKind.TheVariants.{Literal}
use Rattle.source_lex.specs.declared.numbered.Symbol.TheVariants.{Word, Phrase}
use Rattle.tree_pick.specs.declared.corners.Beginning.{Beginning}
use Rattle.tree_pick.specs.Corners.{beginning}
use Rattle.tree_pick.specs.contracts.corners.BeginningPartialEq as eq
use Rattle.tree_pick.proofs.corners.add_first.Goals as goal

same_pair : (x y : Beginning) → eq.TheImpl.eq-value.it x y ≡ true → x ≡ y
same_pair x y h =
    let f : (nat_eq x.first y.first && nat_eq x.whole y.whole) ≡ true = h in
    let a : x.first ≡ y.first = grind (arith, nat_tests) in
    let b : x.whole ≡ y.whole = grind (arith, nat_tests) in
    λ t. record { first = a t; whole = b t }

pub returns-in_ok-insert-in-Phrase-clause-added : goal.returns-in_ok-insert-in-Phrase-clause-added
returns-in_ok-insert-in-Phrase-clause-added c = λ b rest e.
    let x : Beginning = beginning c.in-Phrase.first c.args.whole in
    let there : Contains c.insert.new.self.keys x = subst (λ (l : List Beginning). Contains l x) (sym c.in_ok-insert-in-Phrase.ensures.keys) (Contains-insert_key eq.TheImpl.eq-value.it same_pair c.args.pairs.now.keys x) in
    let q : Phrase c.in-Phrase.first ≡ Phrase b = sym c.in-Phrase.is ∙ ap (λ (l : Alternative). get_or l 0 (Word (Literal 0))) e in
    let r : c.in-Phrase.first ≡ b = cc in
    subst (λ (n : ℕ). Contains c.insert.new.self.keys (beginning n c.args.whole)) r there
