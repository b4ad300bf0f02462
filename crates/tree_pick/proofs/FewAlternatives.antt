-- The alternatives of a nonterminal, by its number, and how many they are.
use Rattle.std.proofs.Common.{◌≡◌, ◌<◌, ◌∙◌, ℕ, List, [], length, slice_get, get_or, map, Some, Bor, ap, sym, arith}
use Rattle.std.specs.Option.{option_map}
use Rattle.std.proofs.lemmas.List.{length-map}
use Rattle.std.proofs.lemmas.List.Elements.{All-contains, Contains-get_or}
use Rattle.std.proofs.lemmas.Option.{slice_get-map, slice_get-get_or, slice_get_within}
use Rattle.gram_form.specs.Plain.{PlainProduction, PlainGrammar}
use Rattle.gram_form.specs.Grammars.{names_of}
use Rattle.gram_form.specs.GrammarErrors.{AreFew}
use Rattle.source_lex.specs.Numbered.{alternatives_of, numbered, symbol_of, plain_alternatives, plain_numbered}
use Rattle.source_lex.specs.declared.numbered.Symbol.{Symbol}
use Rattle.tree_pick.specs.Runs.{HaveFewAlternatives}

abbrev pub none : Bor (List (Bor (List Symbol)))
none = record { ref_ptr = (0, 0); now = [] }

pub mapped_at : {A B : Type 0} (f : A → B) (xs : List A) (n : ℕ) (d : A) → n < length xs → slice_get (map f xs) n ≡ Some (f (get_or xs n d))
mapped_at f xs n d lt = slice_get-map f xs n ∙ ap (option_map f) (slice_get-get_or xs n d lt)

pub numbered_at : (list : List (Bor (List (Bor (List Symbol))))) (n : ℕ) → n < length list → slice_get (plain_numbered list) n ≡ Some (plain_alternatives (get_or list n none))
numbered_at list n lt = mapped_at plain_alternatives list n none lt

pub numbered_few : (list : List (Bor (List (Bor (List Symbol))))) (n : ℕ) → n < length list → HaveFewAlternatives (plain_numbered list) → length (get_or list n none).now < 4294967296
numbered_few list n lt few =
    let x : Bor (List (Bor (List Symbol))) = get_or list n none in
    omega (arith, few n (plain_alternatives x) (numbered_at list n lt), length-map x.now (λ (a : Bor (List Symbol)). a.now))

abbrev no_production : PlainProduction
no_production = record { name = []; alternatives = [] }

-- where productions are few, so are the alternatives of the grammar with numbers
pub few_numbered : (g : PlainGrammar) → AreFew g.productions → HaveFewAlternatives (numbered g)
few_numbered g few n alternatives is =
    let list : List PlainProduction = g.productions in
    let lt : n < length list = omega (arith, slice_get_within (numbered g) n alternatives is, length-map list (alternatives_of (names_of g.productions) g.literals)) in
    let p : PlainProduction = get_or list n no_production in
    let q : Some alternatives ≡ Some (alternatives_of (names_of g.productions) g.literals p) = sym is ∙ mapped_at (alternatives_of (names_of g.productions) g.literals) list n no_production lt in
    let r : alternatives ≡ alternatives_of (names_of g.productions) g.literals p = cc in
    let below : length p.alternatives < 4294967295 = All-contains (λ (x : PlainProduction). length x.alternatives < 4294967295) list p few.few_alternatives (Contains-get_or list n no_production lt) in
    let count : length alternatives ≡ length p.alternatives = ap length r ∙ length-map p.alternatives (map (symbol_of (names_of g.productions) g.literals)) in
    omega (arith, below, count)
