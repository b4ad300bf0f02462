-- What the class of a token of a template says of its bytes.
use Rattle.std.proofs.Common.{◌≡◌, ◌≢◌, ◌⊎◌, inl, inr, ℕ, suc, ◌+◌, length, ◌<◌, ◌≤◌, Bool, true, false, ◌&&◌, ◌||◌, not, List, [], ◌∷◌, Some, refl, sym, ap, ◌∙◌, arith, codes, nat_eq, nat_lt, if◌then◌else◌, eqb-true, ltb-true}
use Rattle.std.proofs.lemmas.Bool.Decides.{nat_tests, eqb_tells}
use Rattle.std.specs.Prelude.{ℤ, nat_le}
use Rattle.std.proofs.lemmas.Bool.{and_parts, or_parts}
use Rattle.action_text.proofs.Tests.{not_true}
use Rattle.acg_base.specs.Decimals.{spelled_i64}
use Rattle.meta_lex.specs.Forms.{is_quoted, is_word}
use Rattle.meta_lex.specs.declared.token.TokenKind.TheVariants.{Word}
use Rattle.action_text.specs.declared.classes.Class.TheVariants as class
use Rattle.action_text.specs.Numbers.{class_number}
use Rattle.meta_terms.specs.Words.{words, same_bytes}
use Rattle.action_text.specs.Classes.{word_class, is_place, class_of, parameter_class, or_parameter, template_class}
use Rattle.meta_terms.specs.Names.{is_function, is_variable, is_among, begins_small, other_words}
use Rattle.action_text.proofs.Words as words_of
use Rattle.action_text.proofs.Words.{same_is}
use Rattle.action_text.proofs.KindClasses.{plain_class}

-- how many words there are: the classes of numbers and quoted texts come behind them
abbrev pub word_count : ℕ
word_count = 60

parameter_high : (bytes : List ℕ) → 63 ≤ parameter_class bytes
parameter_high bytes = pick (same_bytes (codes "value") bytes) (same_bytes (codes "token") bytes) (is_function bytes) (is_variable bytes)
  where
    pick : (a b c d : Bool) → 63 ≤ (if a then (class_number class.Value) else if b then (class_number class.Token) else if c then (class_number class.Function) else if d then (class_number class.Variable) else (class_number class.Other))
    pick true b c d = omega arith
    pick false true c d = omega arith
    pick false false true d = omega arith
    pick false false false true = omega arith
    pick false false false false = omega arith

-- a class that action texts have
lower : (c : ℕ) (bytes : List ℕ) → or_parameter c bytes < 63 → or_parameter c bytes ≡ c
lower c bytes h = pick (nat_lt c (class_number class.Other)) h (parameter_high bytes)
  where
    pick : (b : Bool) → (if b then c else parameter_class bytes) < 63 → 63 ≤ parameter_class bytes → (if b then c else parameter_class bytes) ≡ c
    pick true h p = refl
    pick false h p = absurd (omega arith)

pub lower_class : (t : List ℕ) (c : ℕ) → template_class t ≡ c → c < 63 → class_of t ≡ c
lower_class t c e h = sym (lower (class_of t) t (omega arith)) ∙ e

-- a class that action texts don't have
upper : (c d : ℕ) (bytes : List ℕ) → or_parameter c bytes ≡ d → 63 < d → parameter_class bytes ≡ d
upper c d bytes e h = pick (nat_lt c (class_number class.Other)) refl e
  where
    pick : (b : Bool) → nat_lt c (class_number class.Other) ≡ b → (if b then c else parameter_class bytes) ≡ d → parameter_class bytes ≡ d
    pick true l e = absurd (let m = ltb-true c (class_number class.Other) l in omega arith)
    pick false l e = e

-- a token of the class of a word is that word
pub is_word_of : (t w : List ℕ) → template_class t ≡ template_class w → nat_lt (template_class w) word_count ≡ true → t ≡ w
is_word_of t w e h =
    let l : template_class w < 60 = ltb-true (template_class w) 60 h in
    let a : class_of w ≡ template_class w = lower_class w (template_class w) refl (omega arith) in
    let b : class_of t ≡ template_class w = lower_class t (template_class w) e (omega arith) in
    words_of.is_word_of t w (b ∙ sym a) (ap (λ c. nat_lt c 60) a ∙ h)

pub quoted_of_class : (t : List ℕ) → template_class t ≡ (class_number class.Quoted) → is_quoted t ≡ true
quoted_of_class t e = words_of.quoted_of_class t (lower_class t (class_number class.Quoted) e (omega arith))

pub number_of_class : (t : List ℕ) (place : Bool) → template_class t ≡ (if place then (class_number class.Place) else (class_number class.Number)) → (z : ℤ) × (spelled_i64 t ≡ Some z) × (is_place z ≡ place)
number_of_class t true e = words_of.number_of_class t true (lower_class t (class_number class.Place) e (omega arith))
number_of_class t false e = words_of.number_of_class t false (lower_class t (class_number class.Number) e (omega arith))

-- what the classes of templates say
parameter_says : (t : List ℕ) (a b f v : Bool) (d : ℕ) → same_bytes (codes "value") t ≡ a → same_bytes (codes "token") t ≡ b → is_function t ≡ f → is_variable t ≡ v
    → (if a then (class_number class.Value) else if b then (class_number class.Token) else if f then (class_number class.Function) else if v then (class_number class.Variable) else (class_number class.Other)) ≡ d
    → (d ≡ (class_number class.Value) → t ≡ codes "value") × (d ≡ (class_number class.Token) → t ≡ codes "token") × (d ≡ (class_number class.Function) → is_function t ≡ true) × (d ≡ (class_number class.Variable) → is_variable t ≡ true)
parameter_says t true b f v d p q r s e = (λ h. sym (same_is (codes "value") t p), λ h. absurd (omega arith), λ h. absurd (omega arith), λ h. absurd (omega arith))
parameter_says t false true f v d p q r s e = (λ h. absurd (omega arith), λ h. sym (same_is (codes "token") t q), λ h. absurd (omega arith), λ h. absurd (omega arith))
parameter_says t false false true v d p q r s e = (λ h. absurd (omega arith), λ h. absurd (omega arith), λ h. r, λ h. absurd (omega arith))
parameter_says t false false false true d p q r s e = (λ h. absurd (omega arith), λ h. absurd (omega arith), λ h. absurd (omega arith), λ h. s)
parameter_says t false false false false d p q r s e = (λ h. absurd (omega arith), λ h. absurd (omega arith), λ h. absurd (omega arith), λ h. absurd (omega arith))

says : (t : List ℕ) (d : ℕ) → template_class t ≡ d → 63 < d
    → (d ≡ (class_number class.Value) → t ≡ codes "value") × (d ≡ (class_number class.Token) → t ≡ codes "token") × (d ≡ (class_number class.Function) → is_function t ≡ true) × (d ≡ (class_number class.Variable) → is_variable t ≡ true)
says t d e h = parameter_says t (same_bytes (codes "value") t) (same_bytes (codes "token") t) (is_function t) (is_variable t) d refl refl refl refl (upper (class_of t) d t e h)

pub value_of_class : (t : List ℕ) → template_class t ≡ (class_number class.Value) → t ≡ codes "value"
value_of_class t e = (says t (class_number class.Value) e (omega arith)).0 refl

pub token_of_class : (t : List ℕ) → template_class t ≡ (class_number class.Token) → t ≡ codes "token"
token_of_class t e = (says t (class_number class.Token) e (omega arith)).1 refl

pub function_of_class : (t : List ℕ) → template_class t ≡ (class_number class.Function) → is_function t ≡ true
function_of_class t e = (says t (class_number class.Function) e (omega arith)).2 refl

pub variable_of_class : (t : List ℕ) → template_class t ≡ (class_number class.Variable) → is_variable t ≡ true
variable_of_class t e = (says t (class_number class.Variable) e (omega arith)).3 refl

-- a word that is not among the words has no class in action text
among_none : (n : ℕ) (ws : List (List ℕ)) (t : List ℕ) → is_among ws t ≡ false → word_class n ws t ≡ (class_number class.Other)
among_none n [] t h = refl
among_none n (w ∷ ws) t h = pick (same_bytes w t) h (among_none (suc n) ws t)
  where
    pick : (b : Bool) → (b || is_among ws t) ≡ false → (is_among ws t ≡ false → word_class (suc n) ws t ≡ (class_number class.Other)) → (if b then n else word_class (suc n) ws t) ≡ (class_number class.Other)
    pick true h ih = absurd (cc)
    pick false h ih = ih h

pub no_class : (t : List ℕ) → is_word t ≡ true → is_among words t ≡ false → class_of t ≡ (class_number class.Other)
no_class t w a = plain_class Word t w (λ h. absurd (cc)) (λ h. absurd (cc)) ∙ among_none 0 words t a

template_parameter : (t : List ℕ) → class_of t ≡ (class_number class.Other) → template_class t ≡ parameter_class t
template_parameter t e = ap (λ c. or_parameter c t) e

abbrev choice : Bool → Bool → Bool → Bool → ℕ
choice a b f v = if a then (class_number class.Value) else if b then (class_number class.Token) else if f then (class_number class.Function) else if v then (class_number class.Variable) else (class_number class.Other)

parameter_picks : (t : List ℕ) (f v : Bool) → same_bytes (codes "value") t ≡ false → same_bytes (codes "token") t ≡ false → is_function t ≡ f → is_variable t ≡ v
    → parameter_class t ≡ (if f then (class_number class.Function) else if v then (class_number class.Variable) else (class_number class.Other))
parameter_picks t f v a b c d =
    ap (λ x. choice x (same_bytes (codes "token") t) (is_function t) (is_variable t)) a ∙ ap (λ x. choice false x (is_function t) (is_variable t)) b ∙ ap (λ x. choice false false x (is_variable t)) c ∙ ap (λ x. choice false false f x) d

pub function_class : (t : List ℕ) → is_function t ≡ true → template_class t ≡ (class_number class.Function)
function_class t h =
    let a = and_parts (is_word t) (begins_small t && (not (is_among words t) && not (is_among other_words t))) h in
    let b = and_parts (begins_small t) (not (is_among words t) && not (is_among other_words t)) a.1 in
    let c = and_parts (not (is_among words t)) (not (is_among other_words t)) b.1 in
    let o : is_among other_words t ≡ false = not_true (is_among other_words t) c.1 in
    template_parameter t (no_class t a.0 (not_true (is_among words t) c.0)) ∙ parameter_picks t true (is_variable t) (value_not t o) (token_not t o) h refl
  where
    value_not : (t : List ℕ) → is_among other_words t ≡ false → same_bytes (codes "value") t ≡ false
    value_not t h = (or_parts (same_bytes (codes "value") t) _ h).0

    token_not : (t : List ℕ) → is_among other_words t ≡ false → same_bytes (codes "token") t ≡ false
    token_not t h = (or_parts (same_bytes (codes "token") t) _ (or_parts (same_bytes (codes "value") t) _ h).1).0

-- the word doesn't begin with an upper-case letter
abbrev no_capital : List ℕ → Bool
no_capital [] = true
no_capital (b ∷ w) = nat_lt b 65 || nat_le 97 b

abbrev no_capitals : List (List ℕ) → Bool
no_capitals [] = true
no_capitals (w ∷ ws) = no_capital w && no_capitals ws

capital : (b : ℕ) (rest : List ℕ) → is_variable (b ∷ rest) ≡ true → (65 ≤ b) × (b < 97)
capital b rest h = grind (arith, nat_tests, h)

not_capital : (w t : List ℕ) → no_capital w ≡ true → is_variable t ≡ true → same_bytes w t ≡ false
not_capital [] [] n v = absurd (cc)
not_capital [] (b ∷ t) n v = refl
not_capital (c ∷ w) [] n v = refl
not_capital (c ∷ w) (b ∷ t) n v = pick (nat_eq c b) refl
  where
    pick : (x : Bool) → nat_eq c b ≡ x → (x && same_bytes w t) ≡ false
    pick true e = let s : c ≡ b = eqb-true c b e in let k = capital b t v in absurd (never s k.0 k.1)
      where
        never : c ≡ b → 65 ≤ b → b < 97 → ⊥
        never s l m = grind (arith, nat_tests, n)
    pick false e = refl

not_capitals : (ws : List (List ℕ)) (t : List ℕ) → no_capitals ws ≡ true → is_variable t ≡ true → is_among ws t ≡ false
not_capitals [] t n v = refl
not_capitals (w ∷ ws) t n v =
    let x = and_parts (no_capital w) (no_capitals ws) n in
    let a : same_bytes w t ≡ false = not_capital w t x.0 v in
    rw a (not_capitals ws t x.1 v)

pub variable_class : (t : List ℕ) → is_variable t ≡ true → template_class t ≡ (class_number class.Variable)
variable_class t h =
    let a = and_parts (is_word t) (not (begins_small t)) h in
    let s : begins_small t ≡ false = not_true (begins_small t) a.1 in
    template_parameter t (no_class t a.0 (not_capitals words t refl h))
    ∙ parameter_picks t false true (not_capital (codes "value") t refl h) (not_capital (codes "token") t refl h) (no_function t s) h
  where
    no_function : (t : List ℕ) → begins_small t ≡ false → is_function t ≡ false
    no_function t s = rw s (both_false (is_word t))
      where
        both_false : (a : Bool) → (a && false) ≡ false
        both_false true = refl
        both_false false = refl

-- the test of two texts answers as their bytes are compared
pub same_test : (b : Bool) (w t : List ℕ) → (b ≡ true → w ≡ t) → (w ≡ t → b ≡ true) → b ≡ same_bytes w t
same_test true w t f g = sym (Rattle.action_text.proofs.Words.same_back w t (f refl))
same_test false w t f g = pick (same_bytes w t) refl
  where
    pick : (x : Bool) → same_bytes w t ≡ x → false ≡ x
    pick true e = let h : false ≡ true = g (same_is w t e) in h
    pick false e = refl

-- the words of action texts are those with a class
pub among_words : (n : ℕ) (ws : List (List ℕ)) (t : List ℕ) → n + length ws ≤ 63 → (word_class n ws t ≡ 63 → is_among ws t ≡ false) × ((word_class n ws t ≡ 63 → ⊥) → is_among ws t ≡ true)
among_words n [] t h = (λ e. refl, λ d. absurd (d refl))
among_words n (w ∷ ws) t h = pick (same_bytes w t) (among_words (suc n) ws t (omega arith))
  where
    pick : (b : Bool) → (word_class (suc n) ws t ≡ 63 → is_among ws t ≡ false) × ((word_class (suc n) ws t ≡ 63 → ⊥) → is_among ws t ≡ true)
        → ((if b then n else word_class (suc n) ws t) ≡ 63 → (b || is_among ws t) ≡ false) × (((if b then n else word_class (suc n) ws t) ≡ 63 → ⊥) → (b || is_among ws t) ≡ true)
    pick true ih = (λ e. absurd (omega arith), λ d. refl)
    pick false ih = ih

pub among_test : (r : ℕ) (t : List ℕ) → r ≡ word_class 0 words t → not (nat_eq r 63) ≡ is_among words t
among_test r t e = pick (eqb_tells r 63) (among_words 0 words t (omega arith))
  where
    pick : ((nat_eq r 63 ≡ true) × (r ≡ 63)) ⊎ ((nat_eq r 63 ≡ false) × (r ≢ 63)) → (word_class 0 words t ≡ 63 → is_among words t ≡ false) × ((word_class 0 words t ≡ 63 → ⊥) → is_among words t ≡ true) → not (nat_eq r 63) ≡ is_among words t
    pick (inl h) a = ap not h.0 ∙ sym (a.0 (sym e ∙ h.1))
    pick (inr h) a = ap not h.0 ∙ sym (a.1 (λ f. h.1 (e ∙ f)))
