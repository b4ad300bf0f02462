-- The code of data, item after item and word after word.
use Rattle.std.proofs.Common.{◌≡◌, ℕ, ◌+◌, ◌<◌, ◌≤◌, List, [], ◌∷◌, ◌++◌, length, get_or, take, drop, map, refl, sym, ap, ap₂, ◌∙◌, append-nil, append_assoc}
use Rattle.std.proofs.lemmas.List.{drop_all, drop_more, map-append}
use Rattle.rv_asm.specs.Assembly.{Listing}
use Rattle.rv_asm.specs.Pieces.{appended}
use Rattle.rv_asm.specs.declared.item.Item.{Item}
use Rattle.rv_asm.specs.declared.item.Item.TheVariants.{Plain}
use Rattle.action_terms.specs.Actions.{Item as DataItem, Single, Them}
use Rattle.rv_codegen.specs.GivenItems.{give_items, move_items, moves_items}
use Rattle.rv_codegen.specs.ItemCode.{item_code, item_words}

abbrev listing : List Item → ℕ → Listing
listing is l = record { items = is; labels = l }

listing-same : (s t : Listing) → s.items ≡ t.items → s.labels ≡ t.labels → s ≡ t
listing-same s t e f = ap₂ listing e f

-- one word more
pub moves-next : (s s1 : Listing) (xs os : List ℕ) (i dx dy : ℕ) → i < length xs → i < length os → s1 ≡ appended s (move_items (get_or xs i dx) (get_or os i dy))
    → s1.items ++ map Plain (moves_items (drop (i + 1) xs) (drop (i + 1) os)) ≡ s.items ++ map Plain (moves_items (drop i xs) (drop i os))
moves-next s s1 xs os i dx dy lx ly e =
    let one = move_items (get_or xs i dx) (get_or os i dy) in
    let rest = moves_items (drop (i + 1) xs) (drop (i + 1) os) in
    ap (λ z. z.items ++ map Plain rest) e ∙ append_assoc s.items (map Plain one) (map Plain rest) ∙ ap (λ l. s.items ++ l) (sym (map-append Plain one rest))
    ∙ sym (ap₂ (λ (a b : List ℕ). s.items ++ map Plain (moves_items a b)) (drop_more xs i dx lx) (drop_more os i dy ly))

moves-none : (xs : List ℕ) → moves_items xs [] ≡ []
moves-none [] = refl
moves-none (x ∷ xs) = refl

-- all words are moved
pub moves-done : (s s0 : Listing) (xs os : List ℕ) (i : ℕ) → length os ≤ i → s.items ++ map Plain (moves_items (drop i xs) (drop i os)) ≡ s0.items ++ map Plain (moves_items xs os) → s.labels ≡ s0.labels → s ≡ appended s0 (moves_items xs os)
moves-done s s0 xs os i le e f =
    let none : moves_items (drop i xs) (drop i os) ≡ [] = ap (moves_items (drop i xs)) (drop_all i os le) ∙ moves-none (drop i xs) in
    listing-same s (appended s0 (moves_items xs os)) (sym (append-nil s.items) ∙ sym (ap (λ is. s.items ++ map Plain is) none) ∙ e) f

-- one item more
give-cons : (given out : List ℕ) (l : ℕ) (i : DataItem) (is : List DataItem) → give_items given out l (i ∷ is) ≡ item_code given out l i ++ give_items given (drop (item_words given i) out) l is
give-cons given out l (Single y) is = refl
give-cons given out l Them is = refl

pub gives-next : (s s1 : Listing) (given out rest : List ℕ) (l : ℕ) (i : DataItem) (is all : List DataItem) → all ≡ i ∷ is → rest ≡ drop (item_words given i) out → s1 ≡ record s { items = s.items ++ item_code given out l i }
    → s1.items ++ give_items given rest l is ≡ s.items ++ give_items given out l all
gives-next s s1 given out rest l i is all front behind e =
    ap (λ z. z.items ++ give_items given rest l is) e ∙ append_assoc s.items (item_code given out l i) (give_items given rest l is)
    ∙ ap (λ os. s.items ++ (item_code given out l i ++ give_items given os l is)) behind
    ∙ ap (λ p. s.items ++ p) (sym (give-cons given out l i is)) ∙ ap (λ js. s.items ++ give_items given out l js) (sym front)

-- all items are there
pub gives-done : (s s0 : Listing) (given out rest : List ℕ) (l : ℕ) (is none : List DataItem) → none ≡ [] → s.items ++ give_items given rest l none ≡ s0.items ++ give_items given out l is → s.labels ≡ s0.labels → s ≡ record s0 { items = s0.items ++ give_items given out l is }
gives-done s s0 given out rest l is none e items labels =
    listing-same s (record s0 { items = s0.items ++ give_items given out l is }) (sym (append-nil s.items) ∙ sym (ap (λ js. s.items ++ give_items given rest l js) e) ∙ items) labels

-- words beyond those that are moved don't matter
pub moves-take : (xs os : List ℕ) → moves_items xs (take (length xs) os) ≡ moves_items xs os
moves-take [] os = refl
moves-take (x ∷ xs) [] = refl
moves-take (x ∷ xs) (o ∷ os) = ap (λ is. move_items x o ++ is) (moves-take xs os)
