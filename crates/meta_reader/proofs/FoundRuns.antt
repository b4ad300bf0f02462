-- The runs of each phase, by the items that they have.
use Rattle.std.proofs.Common.{◌≡◌, ◌∙◌, ℕ, ◌+◌, ◌-◌, ◌≤◌, zero, suc, true, false, List, [], ◌∷◌, take, drop, Option, Some, None, refl, sym, ap, subst, codes, inl, inr, add-one, arith}
use Rattle.std.specs.Prelude.{option_map, slice_range}
use Rattle.std.proofs.lemmas.Slice.Eq.{bytes_eq-Decides}
use Rattle.gram_form.specs.Plain.{PlainProduction}
use Rattle.meta_terms.specs.PlainItems.{PlainItem, PlainEquation, AProduction, ADeclaration, AnEquation}
use Rattle.meta_reader.specs.declared.phase.Phase.TheVariants.{Heading, Productions, Equations}
use Rattle.meta_reader.specs.ItemForms.{Tokens, IsEquation, IsOfGrammar, IsOfSemantics}
use Rattle.meta_reader.specs.Parsing.{Finds, begins_with, production_of, declaration_of}
use Rattle.meta_reader.specs.Descriptions.{IsHeaded}
use Rattle.meta_reader.specs.Steps.{PlainStep, step_by, FindsStep}
use Rattle.meta_reader.proofs.ProductionTokens.{production_found, production_sound, declaration_found}
use Rattle.meta_reader.proofs.OneItem.{from_heading, from_productions, from_equations, production_or_semantics}

-- what is read as a production is the item of the run
pub production_item : (run : Tokens) (o : Option PlainProduction) → o ≡ production_of run → Finds (IsOfGrammar run) (option_map AProduction o)
production_item run (Some p) e = production_sound run p (sym e)
production_item run None e = none
  where
    none : (x : PlainItem) → IsOfGrammar run x → ⊥
    none (AProduction p) h = let q : None ≡ Some p = e ∙ production_found run p h in absurd (cc)
    none (ADeclaration d) h = h
    none (AnEquation f) h = h

-- a run that begins with a word is the word, and the tokens behind it
pub record IsBehind (word : List ℕ) (all : Tokens) (from to : ℕ) : Type 0 where
  pub some : from + 1 ≤ to
  pub run_is : slice_range all from to ≡ word ∷ slice_range all (from + 1) to

pub behind_word : (word : List ℕ) (all : Tokens) (from to : ℕ) → begins_with word (slice_range all from to) ≡ true → IsBehind word all from to
behind_word word all from to h = record { some = some (to - from) refl h; run_is = go all from to h (some (to - from) refl h) ∙ ap (λ n. word ∷ slice_range all n to) (sym (add-one from)) }
  where
    some : (n : ℕ) → to - from ≡ n → begins_with word (take n (drop from all)) ≡ true → from + 1 ≤ to
    some zero e h = absurd (cc)
    some (suc n) e h = omega (arith, e)

    begun : (ts : Tokens) (n : ℕ) → begins_with word (take (suc n) ts) ≡ true → take (suc n) ts ≡ word ∷ take n (drop 1 ts)
    begun [] n h = absurd (cc)
    begun (t ∷ ts) n h = ap (λ u. u ∷ take n ts) ((bytes_eq-Decides t word).0 h)

    next : (all : Tokens) (from : ℕ) → drop 1 (drop from all) ≡ drop (suc from) all
    next [] zero = refl
    next [] (suc from) = refl
    next (t ∷ all) zero = refl
    next (t ∷ all) (suc from) = next all from

    go : (all : Tokens) (from to : ℕ) → begins_with word (slice_range all from to) ≡ true → from + 1 ≤ to → slice_range all from to ≡ word ∷ slice_range all (suc from) to
    go all from to h s =
        let n : to - from ≡ suc (to - suc from) = omega arith in
        let b : begins_with word (take (suc (to - suc from)) (drop from all)) ≡ true = subst (λ k. begins_with word (take k (drop from all)) ≡ true) n h in
        ap (λ k. take k (drop from all)) n ∙ begun (drop from all) (to - suc from) b ∙ ap (λ us. word ∷ take (to - suc from) us) (next all from)

-- a run that begins with another one has no head
pub not_headed : (word : List ℕ) (Form : Tokens → PlainItem → Type 0) (run : Tokens) (x : PlainItem) → begins_with word run ≡ false → IsHeaded word Form run x → ⊥
not_headed word Form run x h a =
    let e : false ≡ true = sym h ∙ ap (begins_with word) a.1 ∙ (bytes_eq-Decides word word).1 refl in
    absurd (cc)

headed_item : (word : List ℕ) (Form : Tokens → PlainItem → Type 0) (run rest : Tokens) (x : PlainItem) → run ≡ word ∷ rest → IsHeaded word Form run x → Form rest x
headed_item word Form run rest x e a =
    let both : word ∷ a.0 ≡ word ∷ rest = sym a.1 ∙ e in
    let same : a.0 ≡ rest = cc in
    subst (λ (r : Tokens). Form r x) same a.2

-- the first run
pub heading_none : (run : Tokens) → begins_with (codes "grammar") run ≡ false → FindsStep Heading run None
heading_none run h s a = let g = from_heading run s.item s.next a in not_headed (codes "grammar") IsOfGrammar run g.0 h g.3

pub heading_found : (run rest : Tokens) (o : Option PlainItem) → run ≡ codes "grammar" ∷ rest → Finds (IsOfGrammar rest) o → FindsStep Heading run (option_map (step_by Productions) o)
heading_found run rest (Some x) e h = (rest, e, h)
heading_found run rest None e h =
    λ (s : PlainStep) a. let g = from_heading run s.item s.next a in h g.0 (headed_item (codes "grammar") IsOfGrammar run rest g.0 e g.3)

-- a run behind a production
pub semantics_found : (run rest : Tokens) (o : Option PlainItem) → run ≡ codes "semantics" ∷ rest → Finds (IsOfSemantics rest) o → FindsStep Productions run (option_map (step_by Equations) o)
semantics_found run rest (Some x) e h = (rest, e, h)
semantics_found run rest None e h =
    λ (s : PlainStep) a. elim (from_productions run s.item s.next a) [
      | inl g ↦ production_or_semantics run rest g.0 g.3 e
      | inr g ↦ h g.0 (headed_item (codes "semantics") IsOfSemantics run rest g.0 e g.3)
    ]

pub production_found_next : (run : Tokens) (o : Option PlainItem) → begins_with (codes "semantics") run ≡ false → Finds (IsOfGrammar run) o → FindsStep Productions run (option_map (step_by Productions) o)
production_found_next run (Some x) e h = h
production_found_next run None e h =
    λ (s : PlainStep) a. elim (from_productions run s.item s.next a) [
      | inl g ↦ h g.0 g.3
      | inr g ↦ not_headed (codes "semantics") IsOfSemantics run g.0 e g.3
    ]

-- a run behind a declaration or an equation
pub rule_found : (run : Tokens) (o : Option PlainItem) → (run ≡ codes "end" ∷ [] → ⊥) → Finds (IsOfSemantics run) o → FindsStep Equations run (option_map (step_by Equations) o)
rule_found run (Some x) e h = h
rule_found run None e h =
    λ (s : PlainStep) a. elim (from_equations run s.item s.next a) [
      | inl g ↦ h g.0 g.3
      | inr g ↦ e g.2
    ]

-- a run that is no declaration and no equation has no item there
pub no_rule : (run : Tokens) → None ≡ declaration_of run → ((e : PlainEquation) → IsEquation run e → ⊥) → (x : PlainItem) → IsOfSemantics run x → ⊥
no_rule run d e (AProduction p) h = h
no_rule run d e (ADeclaration c) h = let q : None ≡ Some c = d ∙ declaration_found run c h in absurd (cc)
no_rule run d e (AnEquation f) h = e f h
