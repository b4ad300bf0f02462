-- What the class of a token says of its bytes.
use Rattle.std.proofs.Common.{◌≡◌, ◌≢◌, ◌⊎◌, inl, inr, ℕ, suc, ◌+◌, ◌<◌, ◌≤◌, Bool, true, false, List, [], ◌∷◌, length, Option, Some, None, refl, sym, ap, ◌∙◌, arith, get_or, nat_eq, nat_lt, if◌then◌else◌, eqb-true, eq-eqb, ltb-true}
use Rattle.std.specs.Prelude.{ℤ}
use Rattle.std.proofs.lemmas.Bool.{lt-ltb, and_parts}
use Rattle.std.proofs.lemmas.Bool.Decides.{eqb_tells}
use Rattle.acg_base.specs.Decimals.{spelled_i64}
use Rattle.meta_lex.specs.Forms.{is_quoted}
use Rattle.action_text.specs.declared.classes.Class.TheVariants as class
use Rattle.action_text.specs.Numbers.{class_number}
use Rattle.meta_terms.specs.Words.{words, same_bytes}
use Rattle.action_text.specs.Classes.{word_class, is_place, number_class, class_of, parameter_class, template_class}

-- the test of two texts
pub same_is : (word bytes : List ℕ) → same_bytes word bytes ≡ true → word ≡ bytes
same_is [] [] h = refl
same_is [] (c ∷ bytes) h = absurd (cc)
same_is (b ∷ word) [] h = absurd (cc)
same_is (b ∷ word) (c ∷ bytes) h =
    let x = and_parts (nat_eq b c) (same_bytes word bytes) h in
    let e : b ≡ c = eqb-true b c x.0 in
    let f : word ≡ bytes = same_is word bytes x.1 in
    cc

pub same_back : (word bytes : List ℕ) → word ≡ bytes → same_bytes word bytes ≡ true
same_back word bytes e = rw (sym e) (same_self word)
  where
    same_self : (xs : List ℕ) → same_bytes xs xs ≡ true
    same_self [] = refl
    same_self (x ∷ xs) = rw (eq-eqb x x refl) (same_self xs)

-- the bytes stand at their class among the words
pub record IsAmong (n : ℕ) (ws : List (List ℕ)) (bytes : List ℕ) (c : ℕ) : Type 0 where
  pub place : ℕ
  pub class_is : c ≡ n + place
  pub within : place < length ws
  pub bytes_are : get_or ws place [] ≡ bytes

word_found : (n : ℕ) (ws : List (List ℕ)) (bytes : List ℕ) → word_class n ws bytes < (class_number class.Other) → IsAmong n ws bytes (word_class n ws bytes)
word_found n [] bytes h = absurd (omega arith)
word_found n (w ∷ ws) bytes h = go (same_bytes w bytes) refl h (word_found (suc n) ws bytes)
  where
    go : (b : Bool) → same_bytes w bytes ≡ b → (if b then n else word_class (suc n) ws bytes) < (class_number class.Other)
        → (word_class (suc n) ws bytes < (class_number class.Other) → IsAmong (suc n) ws bytes (word_class (suc n) ws bytes))
        → IsAmong n (w ∷ ws) bytes (if b then n else word_class (suc n) ws bytes)
    go true e h ih = record { place = 0; class_is = omega arith; within = omega arith; bytes_are = same_is w bytes e }
    go false e h ih =
        let x = ih h in
        let y = x.class_is in
        let z = x.within in
        record { place = suc x.place; class_is = omega (arith, y); within = omega (arith, z); bytes_are = x.bytes_are }

word_low : (n : ℕ) (ws : List (List ℕ)) (bytes : List ℕ) → n + length ws ≤ class_number class.Other → word_class n ws bytes ≤ class_number class.Other
word_low n [] bytes h = omega arith
word_low n (w ∷ ws) bytes h = go (same_bytes w bytes) (word_low (suc n) ws bytes (omega arith))
  where
    go : (b : Bool) → word_class (suc n) ws bytes ≤ class_number class.Other → (if b then n else word_class (suc n) ws bytes) ≤ class_number class.Other
    go true k = omega arith
    go false k = k

-- no token has a class of templates before it is looked at as one of a template
class_low : (bytes : List ℕ) → class_of bytes ≤ class_number class.Other
class_low bytes = go (is_quoted bytes) (spelled_i64 bytes)
  where
    go : (b : Bool) (n : Option ℤ) → (if b then class_number class.Quoted else number_class n bytes) ≤ class_number class.Other
    go true n = omega arith
    go false None = word_low 0 words bytes (omega arith)
    go false (Some z) = pick (is_place z)
      where
        pick : (b : Bool) → (if b then class_number class.Place else class_number class.Number) ≤ class_number class.Other
        pick true = omega arith
        pick false = omega arith

-- a token that an action text can have keeps its class in a template
pub keeps_class : (bytes : List ℕ) → nat_eq (class_of bytes) (class_number class.Other) ≡ false → template_class bytes ≡ class_of bytes
keeps_class bytes h = kept (class_of bytes) (nat_lt (class_of bytes) (class_number class.Other)) refl (class_low bytes) h
  where
    kept : (c : ℕ) (b : Bool) → nat_lt c (class_number class.Other) ≡ b → c ≤ class_number class.Other → nat_eq c (class_number class.Other) ≡ false → (if b then c else parameter_class bytes) ≡ c
    kept c true e k h = refl
    kept c false e k h = absurd (other (eqb_tells c (class_number class.Other)))
      where
        other : ((nat_eq c (class_number class.Other) ≡ true) × (c ≡ class_number class.Other)) ⊎ ((nat_eq c (class_number class.Other) ≡ false) × (c ≢ class_number class.Other)) → ⊥
        other (inl x) = let z : true ≡ false = sym x.0 ∙ h in cc
        other (inr x) = let d : c ≢ class_number class.Other = x.1 in let z : c < class_number class.Other = omega arith in let y : true ≡ false = sym (lt-ltb c (class_number class.Other) z) ∙ e in cc

-- how many words there are: the classes of numbers and quoted texts come behind them
abbrev pub word_count : ℕ
word_count = 60

no_word : (n : Option ℤ) (bytes : List ℕ) → number_class n bytes < word_count → n ≡ None
no_word None bytes h = refl
no_word (Some z) bytes h = go (is_place z) h
  where
    go : (b : Bool) → (if b then (class_number class.Place) else (class_number class.Number)) < word_count → Some z ≡ None
    go true h = absurd (omega arith)
    go false h = absurd (omega arith)

word_at : (bytes : List ℕ) (quoted : Bool) (n : Option ℤ) → (if quoted then (class_number class.Quoted) else number_class n bytes) < word_count
    → get_or words (if quoted then (class_number class.Quoted) else number_class n bytes) [] ≡ bytes
word_at bytes true n h = absurd (omega arith)
word_at bytes false n h =
    let e : n ≡ None = no_word n bytes h in
    rw e (let k : word_class 0 words bytes < word_count = rw e at h in found bytes k)
  where
    found : (bytes : List ℕ) → word_class 0 words bytes < word_count → get_or words (word_class 0 words bytes) [] ≡ bytes
    found bytes h =
        let x = word_found 0 words bytes (omega arith) in
        let y = x.class_is in
        let same : word_class 0 words bytes ≡ x.place = omega (arith, y) in
        ap (λ p. get_or words p []) same ∙ x.bytes_are

-- a token of the class of a word is that word
pub is_word_of : (t w : List ℕ) → class_of t ≡ class_of w → nat_lt (class_of w) word_count ≡ true → t ≡ w
is_word_of t w e h =
    let k : class_of w < word_count = ltb-true (class_of w) word_count h in
    let l : class_of t < word_count = omega arith in
    sym (word_at t (is_quoted t) (spelled_i64 t) l) ∙ ap (λ c. get_or words c []) e ∙ word_at w (is_quoted w) (spelled_i64 w) k

-- the class of a quoted text
pub quoted_of_class : (t : List ℕ) → class_of t ≡ (class_number class.Quoted) → is_quoted t ≡ true
quoted_of_class t e = go (is_quoted t) refl (spelled_i64 t) e
  where
    word_never : (h : word_class 0 words t ≡ (class_number class.Quoted)) → ⊥
    word_never h =
        let x = word_found 0 words t (omega arith) in
        let y = x.class_is in
        let z = x.within in
        omega (arith, y, z)

    number_never : (n : Option ℤ) → number_class n t ≡ (class_number class.Quoted) → ⊥
    number_never None h = word_never h
    number_never (Some v) h = pick (is_place v) h
      where
        pick : (b : Bool) → (if b then (class_number class.Place) else (class_number class.Number)) ≡ (class_number class.Quoted) → ⊥
        pick true h = absurd (omega arith)
        pick false h = absurd (omega arith)

    go : (b : Bool) → is_quoted t ≡ b → (n : Option ℤ) → (if b then (class_number class.Quoted) else number_class n t) ≡ (class_number class.Quoted) → is_quoted t ≡ true
    go true p n h = p
    go false p n h = absurd (number_never n h)

-- the class of a number: it has a value, which is a place or not
pub number_of_class : (t : List ℕ) (place : Bool) → class_of t ≡ (if place then (class_number class.Place) else (class_number class.Number)) → (z : ℤ) × (spelled_i64 t ≡ Some z) × (is_place z ≡ place)
number_of_class t place e = go (is_quoted t) (spelled_i64 t) refl e
  where
    word_never : (b : Bool) → word_class 0 words t ≡ (if b then (class_number class.Place) else (class_number class.Number)) → ⊥
    word_never true h =
        let x = word_found 0 words t (omega arith) in
        let y = x.class_is in
        let z = x.within in
        omega (arith, y, z)
    word_never false h =
        let x = word_found 0 words t (omega arith) in
        let y = x.class_is in
        let z = x.within in
        omega (arith, y, z)

    quoted_never : (b : Bool) → (class_number class.Quoted) ≡ (if b then (class_number class.Place) else (class_number class.Number)) → ⊥
    quoted_never true h = absurd (omega arith)
    quoted_never false h = absurd (omega arith)

    alike : (a b : Bool) → (if a then (class_number class.Place) else (class_number class.Number)) ≡ (if b then (class_number class.Place) else (class_number class.Number)) → a ≡ b
    alike true true h = refl
    alike true false h = absurd (omega arith)
    alike false true h = absurd (omega arith)
    alike false false h = refl

    go : (b : Bool) (n : Option ℤ) → spelled_i64 t ≡ n → (if b then (class_number class.Quoted) else number_class n t) ≡ (if place then (class_number class.Place) else (class_number class.Number))
        → (z : ℤ) × (spelled_i64 t ≡ Some z) × (is_place z ≡ place)
    go true n p h = absurd (quoted_never place h)
    go false None p h = absurd (word_never place h)
    go false (Some z) p h = (z, p, alike (is_place z) place h)
