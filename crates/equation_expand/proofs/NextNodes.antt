-- The next node of a template, and what is left behind it.
use Rattle.std.proofs.Common.{◌≡◌, ◌∙◌, ℕ, zero, suc, ◌+◌, ◌<◌, ◌≤◌, List, [], ◌∷◌, length, drop, get_or, map, Some, None, Ok, Err, refl, sym, ap, arith}
use Rattle.std.specs.Prelude.{option_map}
use Rattle.std.specs.Map.{lookup}
use Rattle.gram_form.specs.Trees.{plain_tree, plain_pieces}
use Rattle.gram_form.specs.declared.tree.Tree.{Tree}
use Rattle.meta_terms.specs.Nodes.{label_of}
use Rattle.meta_terms.specs.PlainItems.{plain_equation}
use Rattle.meta_terms.specs.declared.items.Equation.{Equation}
use Rattle.meta_terms.specs.declared.template.TemplateNode.{TemplateNode}
use Rattle.equation_expand.specs.Meaning.{Misfit, NoEquation, equation_filled, filled, joined, number_of_function, parts_of}
use Rattle.equation_expand.specs.Seen.{IsFilled, IsGapError, node_meaning, part_by}
use Rattle.equation_expand.specs.Sources.{Key, PlainSource, TellEquations, is_key, meaning_in}
use Rattle.equation_expand.specs.Frames.{IsNext, IsUnder, rest_at, rest_of}
use Rattle.equation_expand.specs.declared.errors.ExpandError.{ExpandError}
use Rattle.equation_expand.specs.declared.filled.Filled.{Filled}
use Rattle.equation_expand.specs.declared.filled.Filled.TheVariants as item
use Rattle.equation_expand.specs.declared.frames.Open.{Open}
use Rattle.equation_expand.proofs.Joins.{error-passes, passes-front}

drop-next : {A B : Type 0} (f : A → B) (xs : List A) (n : ℕ) (d : A) → n < length xs → drop n (map f xs) ≡ f (get_or xs n d) ∷ drop (n + 1) (map f xs)
drop-next f [] n d h = absurd (omega arith)
drop-next f (x ∷ xs) zero d h = refl
drop-next f (x ∷ xs) (suc n) d h =
    let same : suc (n + 1) ≡ suc n + 1 = omega arith in
    drop-next f xs n d (omega arith) ∙ ap (λ k. f (get_or xs n d) ∷ drop k (map f (x ∷ xs))) same

-- the next node is in front
pub front : (s : PlainSource) (o : Open) (x : TemplateNode) → o.next < length o.equation.action.list.now → x ≡ get_or o.equation.action.list.now o.next x
    → rest_of s o ≡ joined (node_meaning s o.equation o.tree.now x) (rest_at s o.equation o.tree.now (o.next + 1))
front s o x h is =
    ap (filled (part_by s o.equation o.tree.now)) (drop-next label_of o.equation.action.list.now o.next x h)
    ∙ ap (λ y. joined (node_meaning s o.equation o.tree.now y) (rest_at s o.equation o.tree.now (o.next + 1))) (sym is)

pub next-item : (s : PlainSource) (o : Open) (x : TemplateNode) (i : Filled) → o.next < length o.equation.action.list.now → x ≡ get_or o.equation.action.list.now o.next x
    → IsFilled s (node_meaning s o.equation o.tree.now x) (Some i) → IsUnder o.tree.now i → IsNext s o (Some i)
next-item s o x (item.Node n) h is fill under = (front s o x h is ∙ ap (λ m. joined m (rest_at s o.equation o.tree.now (o.next + 1))) fill, h)
next-item s o x (item.Meaning f t) h is fill under = (front s o x h is ∙ ap (λ m. joined m (rest_at s o.equation o.tree.now (o.next + 1))) fill, h, under)

pub next-misfit : (s : PlainSource) (o : Open) (x : TemplateNode) → o.next < length o.equation.action.list.now → x ≡ get_or o.equation.action.list.now o.next x
    → node_meaning s o.equation o.tree.now x ≡ Err Misfit → rest_of s o ≡ Err Misfit
next-misfit s o x h is amiss = front s o x h is ∙ ap (λ m. joined m (rest_at s o.equation o.tree.now (o.next + 1))) amiss

pub next-large : (s : PlainSource) (o : Open) (x : TemplateNode) (e : ExpandError) → o.next < length o.equation.action.list.now → x ≡ get_or o.equation.action.list.now o.next x
    → IsGapError (node_meaning s o.equation o.tree.now x) e → IsGapError (rest_of s o) e
next-large s o x e h is large =
    error-passes (node_meaning s o.equation o.tree.now x) (rest_of s o) (passes-front (node_meaning s o.equation o.tree.now x) (rest_at s o.equation o.tree.now (o.next + 1)) (rest_of s o) (front s o x h is)) e large

dropped : {A B : Type 0} (f : A → B) (xs : List A) (n : ℕ) → length xs ≤ n → drop n (map f xs) ≡ []
dropped f [] zero h = refl
dropped f [] (suc n) h = refl
dropped f (x ∷ xs) zero h = absurd (omega (arith, h))
dropped f (x ∷ xs) (suc n) h = dropped f xs n (omega (arith, h))

-- none is left
pub none-next : (s : PlainSource) (o : Open) → length o.equation.action.list.now ≤ o.next → rest_of s o ≡ Ok []
none-next s o h = ap (filled (part_by s o.equation o.tree.now)) (dropped label_of o.equation.action.list.now o.next h)

-- ---- a phrase that is entered

pub entered : (s : PlainSource) (entries : List (Key × Equation)) → TellEquations s.description entries → (f : List ℕ) (t : Tree) (e : Equation) → lookup (is_key f t.alternative) entries ≡ Some e
    → meaning_in s (plain_tree t) f ≡ rest_at s e t 0
entered s entries told f t e h =
    ap (λ o. equation_filled o (parts_of s.description s.lexemes (plain_pieces t.parts.now)) (NoEquation (number_of_function s.description f) t.production t.alternative))
    (sym (told f t.alternative) ∙ ap (option_map plain_equation) h)

pub not-entered : (s : PlainSource) (entries : List (Key × Equation)) → TellEquations s.description entries → (f : List ℕ) (t : Tree) (n : ℕ) → lookup (is_key f t.alternative) entries ≡ None → n ≡ number_of_function s.description f
    → meaning_in s (plain_tree t) f ≡ Err (NoEquation n t.production t.alternative)
not-entered s entries told f t n h is =
    ap (λ o. equation_filled o (parts_of s.description s.lexemes (plain_pieces t.parts.now)) (NoEquation (number_of_function s.description f) t.production t.alternative))
    (sym (told f t.alternative) ∙ ap (option_map plain_equation) h)
    ∙ ap (λ k. Err (NoEquation k t.production t.alternative)) (sym is)
