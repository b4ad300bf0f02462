-- The head of an equation is read from its tokens, and from no others.
use Rattle.std.proofs.Common.{◌≡◌, ◌∙◌, ℕ, Bool, true, false, ◌&&◌, ◌+◌, List, [], ◌∷◌, ◌++◌, drop, take-append-drop, Option, Some, None, refl, sym, ap, subst, inl, inr, if◌then◌else◌}
use Rattle.std.proofs.Math.Nat.{eq-or-lt_of_le}
use Rattle.std.specs.List.{list_all, flat_map}
use Rattle.std.specs.Str.{bytes_eq}
use Rattle.std.proofs.lemmas.Slice.Eq.{bytes_eq-Decides}
use Rattle.meta_terms.specs.Names.{is_function}
use Rattle.meta_terms.specs.PlainItems.{PlainPatternPart, PlainEquation}
use Rattle.meta_terms.specs.Templates.{Label, Tree}
use Rattle.action_text.specs.TemplateText.{Spells, IsFirstBadIn}
use Rattle.action_text.specs.TemplateAnswers.{IsTemplateOf}
use Rattle.meta_reader.specs.ItemForms.{Tokens, opening, closing, equals, pattern_tokens, is_pattern_part, IsEquation}
use Rattle.meta_reader.specs.Parsing.{Pattern, PlainHead, pattern_of, head_from, head_of}
use Rattle.meta_reader.proofs.PatternTokens.{pattern_found, pattern_sound}

-- the tokens of an equation, by its head
abbrev pub head_tokens : PlainHead → Tokens
head_tokens h = h.function ∷ opening ∷ (flat_map pattern_tokens h.pattern ++ (closing ∷ equals ∷ h.action_tokens))

pub record IsHead (run : Tokens) (h : PlainHead) : Type 0 where
  pub function : is_function h.function ≡ true
  pub pattern : list_all is_pattern_part h.pattern ≡ true
  pub run_is : run ≡ head_tokens h

pub head_found : (run : Tokens) (h : PlainHead) → IsHead run h → head_of run ≡ Some h
head_found run h is =
    ap head_of is.run_is
    ∙ rw (is.function, pattern_found h.pattern (equals ∷ h.action_tokens) is.pattern) refl

pub head_sound : (run : Tokens) (h : PlainHead) → head_of run ≡ Some h → IsHead run h
head_sound [] h e = absurd (cc)
head_sound (f ∷ []) h e = absurd (cc)
head_sound (f ∷ o ∷ ts) h e = tested (is_function f) (bytes_eq o opening) refl refl e
  where
    last : (parts : List PlainPatternPart) (x : List ℕ) (us : Tokens) (b : Bool) → is_function f ≡ true → bytes_eq o opening ≡ true → pattern_of ts ≡ Some (parts, x ∷ us) → bytes_eq x equals ≡ b
        → (if b then Some (record { function = f; pattern = parts; action_tokens = us }) else None) ≡ Some h → IsHead (f ∷ o ∷ ts) h
    last parts x us false n q p b e = absurd (cc)
    last parts x us true n q p b e =
        let read : PlainHead = record { function = f; pattern = parts; action_tokens = us } in
        let same : read ≡ h = cc in
        let i = pattern_sound ts (parts, x ∷ us) p in
        subst (λ (y : PlainHead). IsHead (f ∷ o ∷ ts) y) same (record {
          function = n;
          pattern = i.valid;
          run_is = ap (λ y. f ∷ y ∷ ts) ((bytes_eq-Decides o opening).0 q)
              ∙ ap (λ ys. f ∷ opening ∷ ys) i.tokens_are
              ∙ ap (λ y. f ∷ opening ∷ (flat_map pattern_tokens parts ++ (closing ∷ y ∷ us))) ((bytes_eq-Decides x equals).0 b);
        })

    behind : (r : Option Pattern) → is_function f ≡ true → bytes_eq o opening ≡ true → pattern_of ts ≡ r → head_from f r ≡ Some h → IsHead (f ∷ o ∷ ts) h
    behind None n q p e = absurd (cc)
    behind (Some (parts, [])) n q p e = absurd (cc)
    behind (Some (parts, x ∷ us)) n q p e = last parts x us (bytes_eq x equals) n q p refl e

    tested : (n q : Bool) → is_function f ≡ n → bytes_eq o opening ≡ q → (if n && q then head_from f (pattern_of ts) else None) ≡ Some h → IsHead (f ∷ o ∷ ts) h
    tested true true n q e = behind (pattern_of ts) n q refl e
    tested true false n q e = absurd (cc)
    tested false q n b e = absurd (cc)

-- the head of an equation
abbrev pub head_of_equation : (run : Tokens) (e : PlainEquation) → IsEquation run e → PlainHead
head_of_equation run e h = record { function = e.function; pattern = e.pattern; action_tokens = h.action_tokens }

pub equation_head : (run : Tokens) (e : PlainEquation) → (h : IsEquation run e) → IsHead run (head_of_equation run e h)
equation_head run e h = record { function = h.function; pattern = h.pattern; run_is = h.run_is }

pub same_head : (g h : PlainHead) → Some g ≡ Some h → g ≡ h
same_head g h e = cc

-- no equation is without a head
pub headless : (run : Tokens) (e : PlainEquation) → head_of run ≡ None → IsEquation run e → ⊥
headless run e h is = nothing (head_of_equation run e is) (sym h ∙ head_found run _ (equation_head run e is))
  where
    nothing : (x : PlainHead) → None ≡ Some x → ⊥
    nothing x e = absurd (cc)

-- a head and a template make an equation
pub whole_equation : (run us : Tokens) (h : PlainHead) (labels : List Label) → head_of run ≡ Some h → h.action_tokens ≡ us → IsTemplateOf us labels
    → IsEquation run (record { function = h.function; pattern = h.pattern; action = labels })
whole_equation run us h labels e same t =
    let is = head_sound run h e in
    record {
      function = is.function;
      pattern = is.pattern;
      action_tokens = h.action_tokens;
      template = t.template;
      spells = subst (λ (ts : Tokens). Spells t.template ts) (sym same) t.spells;
      action = t.labels_are;
      run_is = is.run_is;
    }

-- tokens that go wrong somewhere spell no template
no_template : (ts : Tokens) (place : ℕ) (t : Tree) → IsFirstBadIn true ts place → Spells t ts → ⊥
no_template ts place t bad spells = elim (eq-or-lt_of_le bad.inside) [
  | inl e ↦ bad.early e t spells
  | inr l ↦ bad.token l (drop (place + 1) ts, t, subst (λ (us : Tokens). Spells t us) (sym (take-append-drop (place + 1) ts)) spells)
]

-- with such tokens behind its head a run is no equation
pub untemplated : (run us : Tokens) (h : PlainHead) (place : ℕ) → head_of run ≡ Some h → h.action_tokens ≡ us → IsFirstBadIn true us place → (e : PlainEquation) → IsEquation run e → ⊥
untemplated run us h place found same bad e is =
    let heads : head_of_equation run e is ≡ h = same_head _ _ (sym (head_found run _ (equation_head run e is)) ∙ found) in
    no_template us place is.template bad (subst (λ (ts : Tokens). Spells is.template ts) (ap (λ (g : PlainHead). g.action_tokens) heads ∙ same) is.spells)
