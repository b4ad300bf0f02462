-- Tokens, how many places there are of a sort, and the places on a stack.
use Rattle.std.proofs.Common.{◌≡◌, ℕ, zero, suc, ◌+◌, ◌<◌, List, [], ◌∷◌, ◌++◌, length, reverse, refl, sym, ap, ◌∙◌, arith}
use Rattle.std.specs.Prelude.{◌==◌}
use Rattle.std.specs.List.{list_all}
use Rattle.std.proofs.lemmas.List.{reverse-append, length-reverse}
use Rattle.action_terms.specs.Labels.{Wanted, AnAction, AYielder, AnItem, AClosure, is_token, is_token_byte, copies}
use Rattle.action_terms.specs.Places.{fills, wanted_by, actions_wanted, yielders_wanted, places_in, wanted_on}
use Rattle.action_terms.specs.declared.places.Run.{Run}

-- a token that isn't empty is made of its bytes
pub is_token_some : (t : List ℕ) → 0 < length t → is_token t ≡ list_all is_token_byte t
is_token_some [] some = absurd (omega arith)
is_token_some (b ∷ bytes) some = refl

-- so many places of one sort
pub length-copies : (n : ℕ) (x : Wanted) → length (copies n x) ≡ n
length-copies zero x = refl
length-copies (suc n) x = ap suc (length-copies n x)

pub actions_wanted-actions : (n : ℕ) → actions_wanted (copies n AnAction) ≡ n
actions_wanted-actions zero = refl
actions_wanted-actions (suc n) = ap suc (actions_wanted-actions n)

pub actions_wanted-yielders : (n : ℕ) → actions_wanted (copies n AYielder) ≡ 0
actions_wanted-yielders zero = refl
actions_wanted-yielders (suc n) = actions_wanted-yielders n

pub actions_wanted-items : (n : ℕ) → actions_wanted (copies n AnItem) ≡ 0
actions_wanted-items zero = refl
actions_wanted-items (suc n) = actions_wanted-items n

pub actions_wanted-closures : (n : ℕ) → actions_wanted (copies n AClosure) ≡ 0
actions_wanted-closures zero = refl
actions_wanted-closures (suc n) = actions_wanted-closures n

pub yielders_wanted-actions : (n : ℕ) → yielders_wanted (copies n AnAction) ≡ 0
yielders_wanted-actions zero = refl
yielders_wanted-actions (suc n) = yielders_wanted-actions n

pub yielders_wanted-yielders : (n : ℕ) → yielders_wanted (copies n AYielder) ≡ n
yielders_wanted-yielders zero = refl
yielders_wanted-yielders (suc n) = ap suc (yielders_wanted-yielders n)

pub yielders_wanted-items : (n : ℕ) → yielders_wanted (copies n AnItem) ≡ n
yielders_wanted-items zero = refl
yielders_wanted-items (suc n) = ap suc (yielders_wanted-items n)

pub yielders_wanted-closures : (n : ℕ) → yielders_wanted (copies n AClosure) ≡ n
yielders_wanted-closures zero = refl
yielders_wanted-closures (suc n) = ap suc (yielders_wanted-closures n)

-- places and more
pub actions_wanted-append : (xs ys : List Wanted) → actions_wanted (xs ++ ys) ≡ actions_wanted xs + actions_wanted ys
actions_wanted-append [] ys = omega arith
actions_wanted-append (AnAction ∷ xs) ys = let h = actions_wanted-append xs ys in omega arith
actions_wanted-append (AYielder ∷ xs) ys = actions_wanted-append xs ys
actions_wanted-append (AnItem ∷ xs) ys = actions_wanted-append xs ys
actions_wanted-append (AClosure ∷ xs) ys = actions_wanted-append xs ys

pub yielders_wanted-append : (xs ys : List Wanted) → yielders_wanted (xs ++ ys) ≡ yielders_wanted xs + yielders_wanted ys
yielders_wanted-append [] ys = omega arith
yielders_wanted-append (AnAction ∷ xs) ys = yielders_wanted-append xs ys
yielders_wanted-append (AYielder ∷ xs) ys = let h = yielders_wanted-append xs ys in omega arith
yielders_wanted-append (AnItem ∷ xs) ys = let h = yielders_wanted-append xs ys in omega arith
yielders_wanted-append (AClosure ∷ xs) ys = let h = yielders_wanted-append xs ys in omega arith

pub ruleset counts = (
  length-copies,
  actions_wanted-actions,
  actions_wanted-yielders,
  actions_wanted-items,
  actions_wanted-closures,
  yielders_wanted-actions,
  yielders_wanted-yielders,
  yielders_wanted-items,
  yielders_wanted-closures,
  actions_wanted-append,
  yielders_wanted-append,
)

wanted_on-append : (stack : List Run) (p : Run) → wanted_on (stack ++ p ∷ []) ≡ copies (suc p.more) (wanted_by p.place) ++ wanted_on stack
wanted_on-append stack p = ap places_in (reverse-append stack (p ∷ []))

-- the first place is taken from the last ones, and those that are left go back
pub wanted_on-taken : (stack left back : List Run) (last : Run) (n : ℕ) → suc n ≡ last.more → stack ≡ left ++ last ∷ [] → back ≡ left ++ (record { place = last.place; more = n }) ∷ []
    → wanted_on stack ≡ wanted_by last.place ∷ wanted_on back
wanted_on-taken stack left back last n more old new =
    ap wanted_on old ∙ wanted_on-append left last
    ∙ ap (λ m. copies (suc m) (wanted_by last.place) ++ wanted_on left) (sym more)
    ∙ ap (λ l. wanted_by last.place ∷ l) (sym (ap wanted_on new ∙ wanted_on-append left (record { place = last.place; more = n })))

fills-places_in : (ps : List Run) → fills (places_in ps) [] ≡ (length ps == 0)
fills-places_in [] = refl
fills-places_in (p ∷ ps) = grind arith

-- no label is what an empty stack wants, and no other
pub fills-nothing : (stack : List Run) → fills (wanted_on stack) [] ≡ (length stack == 0)
fills-nothing stack = fills-places_in (reverse stack) ∙ ap (λ n. n == 0) (length-reverse stack)
