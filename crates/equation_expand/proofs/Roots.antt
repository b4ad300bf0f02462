-- The meaning of the whole tree of a source, in a checked description.
use Rattle.std.proofs.Common.{◌≡◌, ◌∙◌, ℕ, ◌+◌, Bool, true, false, not, List, [], ◌∷◌, ◌++◌, length, take, map, nat_eq, Some, Ok, Err, refl, sym, ap, subst, append-nil, arith}
use Rattle.std.specs.Prelude.{◌&&◌, ◌||◌, IsTrue, if◌then◌else◌}
use Rattle.std.specs.Str.{bytes_eq}
use Rattle.std.proofs.lemmas.List.Elements.{All-nil, All-cons}
use Rattle.std.proofs.lemmas.Slice.Eq.{bytes_eq-Decides}
use Rattle.action_terms.specs.Labels.{Label, AnAction}
use Rattle.action_terms.specs.Trees as action
use Rattle.action_terms.proofs.Whole.{fills-whole}
use Rattle.gram_form.specs.Grammars.{names_of}
use Rattle.gram_form.specs.Trees.{PlainTree}
use Rattle.source_lex.specs.Forms.{has_form}
use Rattle.source_lex.specs.Lexemes.{PlainLexeme, plain_lexeme}
use Rattle.source_lex.specs.Numbered.{numbered, place_of}
use Rattle.source_lex.specs.Trees.{IsWhole, kinds_of}
use Rattle.source_lex.specs.declared.lexeme.Lexeme.{Lexeme}
use Rattle.meta_terms.specs.PlainItems.{PlainDeclaration, PlainEquation, AProduction, ADeclaration, AnEquation, PlainItem, plain_equation}
use Rattle.meta_terms.specs.declared.items.Equation.{Equation}
use Rattle.meta_terms.specs.Templates as template
use Rattle.meta_check.specs.Checked.{PlainDescription, IsChecked, items_of}
use Rattle.meta_check.specs.Rules.{names_no_function, starts_elsewhere}
use Rattle.meta_check.specs.Views.{declarations_of, is_in, nonterminal_of, nonterminals_of}
use Rattle.meta_check.proofs.InOrder.{breaks_there, kinds_kept}
use Rattle.equation_expand.specs.Meaning.{Meaning, Misfit, expansion, meaning}
use Rattle.equation_expand.specs.Expanded.{Means}
use Rattle.equation_expand.proofs.Fitting.{meaning-fits}
use Rattle.equation_expand.specs.Kept.{HasWholeTemplates, HaveForms}
use Rattle.equation_expand.proofs.WholeMeanings.{meaning-fills}

-- ---- the main function is for the start

none-declared : (ps : List Rattle.gram_form.specs.Plain.PlainProduction) → declarations_of (map AProduction ps) ≡ []
none-declared [] = refl
none-declared (p ∷ ps) = none-declared ps

first-place : (names : List (List ℕ)) (name : List ℕ) → is_in (take 1 names) name ≡ true → 0 ≡ place_of names name
first-place [] name h = absurd (let r : false ≡ true = h in cc)
first-place (n ∷ names) name h = go (bytes_eq name n) h
  where
    go : (b : Bool) → (b || false) ≡ true → 0 ≡ (if not b then 1 + place_of names name else 0)
    go true h = refl
    go false h = absurd (let r : false ≡ true = h in cc)

-- the main function's nonterminal has the number 0
main-is-first : (d : PlainDescription) → IsChecked d → (main : PlainDeclaration) (fs : List PlainDeclaration) → d.functions ≡ main ∷ fs → 0 ≡ place_of (names_of d.grammar.productions) main.nonterminal
main-is-first d checked main fs is = pick (is_in (take 1 (names_of d.grammar.productions)) main.nonterminal) refl
  where
    before : List PlainItem
    before = map AProduction d.grammar.productions

    after : List PlainItem
    after = map ADeclaration fs ++ map AnEquation d.equations

    cut : items_of d ≡ before ++ ADeclaration main ∷ after
    cut = ap (λ ds. before ++ (map ADeclaration ds ++ map AnEquation d.equations)) is

    names : nonterminals_of (items_of d) ≡ names_of d.grammar.productions
    names = ap names_of (kinds_kept d.grammar.productions d.functions d.equations).productions

    pick : (b : Bool) → is_in (take 1 (names_of d.grammar.productions)) main.nonterminal ≡ b → 0 ≡ place_of (names_of d.grammar.productions) main.nonterminal
    pick true h = first-place (names_of d.grammar.productions) main.nonterminal h
    pick false h =
        let breaks : starts_elsewhere before (items_of d) (ADeclaration main) ≡ true =
        ap (λ ds. nat_eq (length ds) 0 && not (is_in (take 1 (nonterminals_of (items_of d))) main.nonterminal)) (none-declared d.grammar.productions)
        ∙ ap (λ ns. not (is_in (take 1 ns) main.nonterminal)) names ∙ ap not h in
        absurd (breaks_there starts_elsewhere (items_of d) before after (ADeclaration main) cut breaks (checked.rules 8 names_no_function (omega arith)))

known-first : (main : PlainDeclaration) (fs : List PlainDeclaration) → nonterminal_of (main ∷ fs) main.function ≡ Some main.nonterminal
known-first main fs = ap (λ b. if b then Some main.nonterminal else nonterminal_of fs main.function) ((bytes_eq-Decides main.function main.function).1 refl)

-- it isn't amiss
pub root-fits : (d : PlainDescription) → IsChecked d → (ls : List PlainLexeme) (t : PlainTree) → IsWhole (numbered d.grammar) (kinds_of ls) t → expansion d ls t ≡ Err Misfit → ⊥
root-fits d checked ls t whole h = go d.functions refl
  where
    go : (fs : List PlainDeclaration) → d.functions ≡ fs → ⊥
    go [] is = let some = checked.main in let none : length d.functions ≡ 0 = ap length is in omega (arith, some, none)
    go (main ∷ fs) is =
        let amiss : meaning d ls t main.function ≡ Err Misfit = ap (Rattle.equation_expand.specs.Meaning.meaning_by d ls t) (sym is) ∙ h in
        meaning-fits d checked ls t 0 0 (length (kinds_of ls)) main.nonterminal (main-is-first d checked main fs is) whole main.function (ap (λ ds. nonterminal_of ds main.function) is ∙ known-first main fs) amiss

-- ---- it is one action

pub root-means : (d : PlainDescription) → IsChecked d → (ls : List PlainLexeme) → HasWholeTemplates d.equations → HaveForms ls → (t : PlainTree) (nodes : List Label) → expansion d ls t ≡ Ok nodes
    → (a : action.Tree) × Means d ls t a × (action.preorder a ≡ nodes)
root-means d checked ls templates forms t nodes h = go d.functions refl
  where
    go : (fs : List PlainDeclaration) → d.functions ≡ fs → (a : action.Tree) × Means d ls t a × (action.preorder a ≡ nodes)
    go [] is = absurd (let some = checked.main in let none : length d.functions ≡ 0 = ap length is in omega (arith, some, none))
    go (main ∷ fs) is =
        let own : meaning d ls t main.function ≡ Ok nodes = ap (Rattle.equation_expand.specs.Meaning.meaning_by d ls t) (sym is) ∙ h in
        let filled = meaning-fills d ls templates forms t main.function nodes [] [] own refl in
        let whole = fills-whole nodes (subst (λ xs. Rattle.action_terms.specs.Places.fills (AnAction ∷ []) xs ≡ true) (append-nil nodes) filled) in
        (whole.0, record { action_is = whole.1; meaning = h ∙ ap Ok (sym whole.2) }, whole.2)

-- ---- what is kept in memory

pub templates-whole : (list : List Equation) → HasWholeTemplates (map plain_equation list)
templates-whole [] = All-nil (λ (e : PlainEquation). template.fills (AnAction ∷ []) e.action ≡ true)
templates-whole (e ∷ list) = All-cons (λ (x : PlainEquation). template.fills (AnAction ∷ []) x.action ≡ true) (plain_equation e) (map plain_equation list) e.action.whole (templates-whole list)

pub lexemes-formed : (list : List Lexeme) → HaveForms (map plain_lexeme list)
lexemes-formed [] = All-nil (λ (l : PlainLexeme). IsTrue (has_form l.kind l.bytes))
lexemes-formed (l ∷ list) = All-cons (λ (x : PlainLexeme). IsTrue (has_form x.kind x.bytes)) (plain_lexeme l) (map plain_lexeme list) l.form (lexemes-formed list)
