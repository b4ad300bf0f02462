-- What is built is a grammar.
use Rattle.std.proofs.Common.{◌≡◌, ◌∙◌, ℕ, ◌<◌, ◌==◌, true, false, List, [], ◌∷◌, length, map, sym, ap, subst, arith}
use Rattle.std.specs.Borrow.{Bor}
use Rattle.gram_form.specs.declared.part.Production.{Production}
use Rattle.gram_form.specs.Plain.{PlainProduction, plain_production, texts, plain_grammar}
use Rattle.gram_form.proofs.SameNames.{undefined_too}
use Rattle.gram_form.specs.Grammars.{Place, names_of, HaveDistinctNames, HaveSame, IsUndefinedAmong, IsUndefinedAt, literals_of, IsGrammar}

pub is_grammar : (all : List PlainProduction) (productions : List Production) (literals : List (Bor (List ℕ))) (names : List (List ℕ)) → 0 < length all → HaveDistinctNames all → HaveSame names (names_of all)
    → ((x : Place) → IsUndefinedAmong names all x → ⊥) → map plain_production productions ≡ all → texts literals ≡ literals_of all → IsGrammar (plain_grammar productions literals)
is_grammar all productions literals names some distinct named defined same noted = record {
  some = subst (λ (q : List PlainProduction). 0 < length q) (sym same) some;
  distinct = subst HaveDistinctNames (sym same) distinct;
  defined = subst (λ (q : List PlainProduction). (x : Place) → IsUndefinedAt q x → ⊥) (sym same) (λ x u. defined x (undefined_too (names_of all) names (λ n. sym (named n)) all x u));
  literals = noted ∙ ap literals_of (sym same);
}

-- a list that isn't empty has an element
pub some_of : (list : List Production) → (length list == 0) ≡ false → 0 < length (map plain_production list)
some_of [] e = let no : true ≡ false = e in absurd (cc)
some_of (p ∷ list) e = omega arith
