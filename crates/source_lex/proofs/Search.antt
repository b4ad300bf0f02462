-- The longest literal at the front, from the lengths that literals have.
use Rattle.std.proofs.Common.{◌≡◌, ◌≢◌, ℕ, zero, suc, ◌+◌, ◌<◌, ◌≤◌, ◌==◌, Bool, true, false, inl, inr, List, [], ◌∷◌, ◌++◌, length, take, get_or, refl, sym, ap, subst, ◌∙◌, cond, arith, Option, Some, None}
use Rattle.std.specs.Prelude.{slice_get, nat_eq, Contains, position}
use Rattle.std.specs.Borrow.{Bor}
use Rattle.std.specs.Str.{bytes_eq}
use Rattle.std.specs.List.{list_any}
use Rattle.std.proofs.lemmas.List.{length-take-le, get_or-map, get_or-take}
use Rattle.std.proofs.lemmas.List.Quantifiers.{position-Some}
use Rattle.std.proofs.lemmas.Option.{slice_get_cases, slice_get-get_or, get_or_from_slice_get}
use Rattle.std.proofs.lemmas.Bool.{cases_lt, eqb-true}
use Rattle.std.proofs.lemmas.List.Elements.{Contains-append_left, Contains-append_right}
use Rattle.indexmap.proofs.CallerLemmas.{Contains-list_any}
use Rattle.std.proofs.lemmas.Slice.Eq.{bytes_eq-Decides}
use Rattle.gram_form.specs.Plain.{texts}
use Rattle.gram_form.proofs.KeyTexts.{list_any-texts}
use Rattle.source_lex.proofs.DistinctLiterals.{missing, text_count}
use Rattle.source_lex.specs.Lexemes.{IsLexeme}
use Rattle.source_lex.specs.Literals.{HasLengths}
use Rattle.source_lex.specs.declared.lexeme.LexKind.TheVariants.{Literal}

pub at_place : {X : Type 0} (xs : List X) (k : ℕ) (x d : X) → slice_get xs k ≡ Some x → (k < length xs) × (get_or xs k d ≡ x)
at_place xs k x d there = elim ((slice_get_cases xs k).1) [
  | inl w ↦ (w.1, get_or_from_slice_get xs k x d there)
  | inr w ↦ let none : Some x ≡ None = sym there ∙ w.1 in cc
]

-- a text that a search finds stands at that place
pub found_at : (keys : List (Bor (List ℕ))) (bytes : List ℕ) (k : ℕ) → position (λ (x : Bor (List ℕ)). bytes_eq bytes x.now) keys ≡ Some k
    → slice_get (texts keys) k ≡ Some bytes
found_at [] bytes k found = cc
found_at (key ∷ keys) bytes k found =
    let p : (k < length (key ∷ keys)) × (bytes_eq bytes (get_or (key ∷ keys) k key).now ≡ true) × _ =
    position-Some (λ (x : Bor (List ℕ)). bytes_eq bytes x.now) (key ∷ keys) k key found in
    slice_get-get_or (texts (key ∷ keys)) k [] (omega (arith, p.0, text_count (key ∷ keys)))
    ∙ ap Some (get_or-map (λ (t : Bor (List ℕ)). t.now) (key ∷ keys) k key [] p.0 ∙ sym ((bytes_eq-Decides bytes (get_or (key ∷ keys) k key).now).0 p.1))

-- a text that a search doesn't find stands nowhere
pub found_nowhere : (keys : List (Bor (List ℕ))) (bytes : List ℕ) → list_any (λ (x : Bor (List ℕ)). bytes_eq bytes x.now) keys ≡ false
    → (k : ℕ) → slice_get (texts keys) k ≡ Some bytes → ⊥
found_nowhere keys bytes none k there =
    let at : (k < length (texts keys)) × (get_or (texts keys) k [] ≡ bytes) = at_place (texts keys) k bytes [] there in
    missing (texts keys) bytes (sym (list_any-texts bytes keys) ∙ none) k [] at.0 at.1

-- the length of each literal at the front that is among the first of the lengths is at most that number
abbrev pub AreAtMost : (literals : List (List ℕ)) (lengths : List ℕ) (i : ℕ) (bytes : List ℕ) (most : ℕ) → Type 0
AreAtMost literals lengths i bytes most =
    (j number : ℕ) → j < i → IsLexeme literals (Literal number) bytes (get_or lengths j 0) → get_or lengths j 0 ≤ most

-- what was found so far is a literal at the front with that length, or nothing was
abbrev pub IsFound : (literals : List (List ℕ)) (bytes : List ℕ) → Option (ℕ × ℕ) → ℕ → Type 0
IsFound literals bytes None most = most ≡ 0
IsFound literals bytes (Some found) most = IsLexeme literals (Literal found.0) bytes found.1 × (found.1 ≡ most)

-- some bytes from the front are some
pub taken_some : (n : ℕ) (bytes : List ℕ) → (n ≡ 0 → ⊥) → n ≤ length bytes → take n bytes ≢ []
taken_some zero bytes some short = λ none. some refl
taken_some (suc n) [] some short = absurd (omega arith)
taken_some (suc n) (b ∷ bytes) some short = λ none. cc

-- what is inserted is there then, and what was there stays
inserted_there : (lengths : List ℕ) (x : ℕ) → Contains (cond (list_any (λ n. x == n) lengths) lengths (lengths ++ x ∷ [])) x
inserted_there lengths x = pick (list_any (λ n. x == n) lengths) refl
  where
    pick : (b : Bool) → list_any (λ n. x == n) lengths ≡ b → Contains (cond b lengths (lengths ++ x ∷ [])) x
    pick true e = Contains-list_any nat_eq (λ a b same. eqb-true a b same) lengths x e
    pick false e = Contains-append_right lengths (x ∷ []) x (0, omega arith, refl)

stays_there : (b : Bool) (lengths : List ℕ) (x y : ℕ) → Contains lengths y → Contains (cond b lengths (lengths ++ x ∷ [])) y
stays_there true lengths x y there = there
stays_there false lengths x y there = Contains-append_left lengths (x ∷ []) y there

-- the lengths of the literals so far, and of one more
pub lengths-more : (lengths new : List ℕ) (list : List (Bor (List ℕ))) (i : ℕ) (d : Bor (List ℕ)) → i < length list
    → new ≡ cond (list_any (λ n. length (get_or list i d).now == n) lengths) lengths (lengths ++ length (get_or list i d).now ∷ [])
    → HasLengths lengths (take i (texts list)) → HasLengths new (take (i + 1) (texts list))
lengths-more lengths new list i d within inserted so_far number literal there =
    let at : (number < length (take (i + 1) (texts list))) × (get_or (take (i + 1) (texts list)) number [] ≡ literal) =
    at_place (take (i + 1) (texts list)) number literal [] there in
    let count : length (take (i + 1) (texts list)) ≡ i + 1 = length-take-le (i + 1) (texts list) (omega (arith, text_count list)) in
    let is : get_or (texts list) number [] ≡ literal = sym (get_or-take (i + 1) (texts list) number [] (omega arith)) ∙ at.1 in
    rw inserted
    (elim (cases_lt number i) [
      | inl less ↦ stays_there (list_any (λ n. length (get_or list i d).now == n) lengths) lengths (length (get_or list i d).now) (length literal) (so_far number literal (before less is))
      | inr past ↦
          let same : number ≡ i = omega arith in
          let last : (get_or list i d).now ≡ literal = sym (get_or-map (λ (t : Bor (List ℕ)). t.now) list i d [] within) ∙ ap (λ k. get_or (texts list) k []) (sym same) ∙ is in
          subst (λ (x : List ℕ). Contains (cond (list_any (λ n. length (get_or list i d).now == n) lengths) lengths (lengths ++ length (get_or list i d).now ∷ [])) (length x)) last
          (inserted_there lengths (length (get_or list i d).now))
    ])
  where
    before : number < i → get_or (texts list) number [] ≡ literal → slice_get (take i (texts list)) number ≡ Some literal
    before less is =
        slice_get-get_or (take i (texts list)) number [] (omega (arith, length-take-le i (texts list) (omega (arith, text_count list))))
        ∙ ap Some (get_or-take i (texts list) number [] less ∙ is)
