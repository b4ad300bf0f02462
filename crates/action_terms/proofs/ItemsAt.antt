-- The items of a graph's yielders by number, and those of their arguments.
use Rattle.std.proofs.Common.{◌≡◌, ℕ, zero, suc, ◌+◌, ◌-◌, ◌<◌, ◌≤◌, max, subst, List, [], ◌∷◌, length, map, drop, get_or, refl, sym, ap, ◌∙◌, arith, add-zero, zero-add, drop-cons}
use Rattle.std.specs.Prelude.{slice_get}
use Rattle.std.proofs.Math.ListN.{get_or-map}
use Rattle.std.proofs.lemmas.List.{length-map}
use Rattle.std.proofs.lemmas.Option.{slice_get_past}
use Rattle.action_terms.specs.Actions.{Them}
use Rattle.action_terms.specs.Nodes.{listed_yielder}
use Rattle.action_terms.specs.declared.graph.YNode.{YNode}
use Rattle.action_terms.specs.declared.kinds.YKind.TheVariants as ykind
use Rattle.action_terms.specs.Numbering.{ListedYielder}
use Rattle.action_terms.specs.Meaning.{item_of, item_or_them, items_from, picked}
use Rattle.action_terms.specs.Forms.{item_at}

later : (y k : ℕ) → suc y + k ≡ y + suc k
later y k = omega arith

pub drop-items_from : (ls : List ListedYielder) (y k : ℕ) → drop k (items_from y ls) ≡ items_from (y + k) (drop k ls)
drop-items_from ls y zero = ap (λ n. items_from n ls) (sym (add-zero y))
drop-items_from [] y (suc k) = refl
drop-items_from (l ∷ ls) y (suc k) = drop-items_from ls (suc y) k ∙ ap (λ n. items_from n (drop k ls)) (later y k)

drop-items : (ls : List ListedYielder) (k : ℕ) → drop k (items_from 0 ls) ≡ items_from k (drop k ls)
drop-items ls k = drop-items_from ls 0 k ∙ ap (λ n. items_from n (drop k ls)) (zero-add k)

sum_of : (k i : ℕ) → suc (k + i) ≡ suc k + i
sum_of k i = omega arith

length-items_from : (ls : List ListedYielder) (y : ℕ) → length (items_from y ls) ≡ length ls
length-items_from [] y = refl
length-items_from (l ∷ ls) y = ap suc (length-items_from ls (suc y))

pub slice_get-drop : {A : Type 0} (xs : List A) (k i : ℕ) → slice_get (drop k xs) i ≡ slice_get xs (k + i)
slice_get-drop xs zero i = ap (slice_get xs) (sym (zero-add i))
slice_get-drop [] (suc k) i = refl
slice_get-drop (x ∷ xs) (suc k) i = slice_get-drop xs k i ∙ ap (slice_get (x ∷ xs)) (sum_of k i)

from_here : (n x : ℕ) → suc n + (x - suc n) ≡ max x (suc n)
from_here n x = omega arith

-- an item among those from number n on
item_from : (ls : List ListedYielder) (n i : ℕ) → slice_get (items_from n (drop n ls)) i ≡ slice_get (items_from 0 ls) (n + i)
item_from ls n i = sym (ap (λ is. slice_get is i) (drop-items ls n)) ∙ slice_get-drop (items_from 0 ls) n i

-- an argument is an item by number
pub picked-later : (ls : List ListedYielder) (n : ℕ) (xs : List ℕ) →
    picked (suc n) (items_from (suc n) (drop (suc n) ls)) xs ≡ map (λ x. item_at ls (max x (suc n))) xs
picked-later ls n [] = refl
picked-later ls n (x ∷ xs) =
    ap (λ o. item_or_them o ∷ picked (suc n) (items_from (suc n) (drop (suc n) ls)) xs)
    (item_from ls (suc n) (x - suc n) ∙ ap (slice_get (items_from 0 ls)) (from_here n x))
    ∙ ap (λ is. item_at ls (max x (suc n)) ∷ is) (picked-later ls n xs)

-- the yielder of this number, from its arguments
pub item_at-listed : (ls : List ListedYielder) (n : ℕ) (d : ListedYielder) → n < length ls →
    item_at ls n ≡ item_of (get_or ls n d).kind (get_or ls n d).token (get_or ls n d).body (map (λ x. item_at ls (max x (suc n))) (get_or ls n d).children)
item_at-listed ls n d h =
    sym (ap item_or_them (item_from ls n 0 ∙ ap (slice_get (items_from 0 ls)) (add-zero n)))
    ∙ ap (λ rest. item_or_them (slice_get (items_from n rest) 0)) (drop-cons ls n d h)
    ∙ ap (item_of (get_or ls n d).kind (get_or ls n d).token (get_or ls n d).body) (picked-later ls n (get_or ls n d).children)

pub item_at-node : (ys : List YNode) (n : ℕ) (d : YNode) → n < length ys →
    item_at (map listed_yielder ys) n ≡ item_of (get_or ys n d).kind (get_or ys n d).token.now (get_or ys n d).body (map (λ x. item_at (map listed_yielder ys) (max x (suc n))) (get_or ys n d).children.now)
item_at-node ys n d h =
    let P : ListedYielder → Type 0 = λ l. item_at (map listed_yielder ys) n ≡ item_of l.kind l.token l.body (map (λ x. item_at (map listed_yielder ys) (max x (suc n))) l.children) in
    subst P (get_or-map listed_yielder ys n d) (item_at-listed (map listed_yielder ys) n (listed_yielder d) (subst (λ k. n < k) (sym (length-map ys listed_yielder)) h))

pub item_at-them : (ys : List YNode) (n : ℕ) (d : YNode) → n < length ys → (get_or ys n d).kind ≡ ykind.Them → item_at (map listed_yielder ys) n ≡ Them
item_at-them ys n d h e =
    item_at-node ys n d h
    ∙ ap (λ k. item_of k (get_or ys n d).token.now (get_or ys n d).body (map (λ x. item_at (map listed_yielder ys) (max x (suc n))) (get_or ys n d).children.now)) e

-- past the list there is none
pub item_at-past : (ls : List ListedYielder) (n : ℕ) → length ls ≤ n → item_at ls n ≡ Them
item_at-past ls n h = ap item_or_them (slice_get_past (items_from 0 ls) n (subst (λ k. k ≤ n) (sym (length-items_from ls 0)) h))
