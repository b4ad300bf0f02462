-- Data are judged item by item, from the last one on.
use Rattle.std.proofs.Common.{List, [], ap, append_assoc, arith, drop, get_or, length, refl, sym, ℕ, ◌+◌, ◌++◌, ◌-◌, ◌<◌, ◌∙◌, ◌∷◌, ◌≡◌, ◌≤◌}
use Rattle.std.specs.Prelude.{reverse, slice_get}
use Rattle.std.proofs.lemmas.List.{append-nil, drop_more, reverse-append}
use Rattle.action_terms.specs.Actions.{Item, Single, Them}
use Rattle.action_terms.specs.Forms.{item_at, items_at}
use Rattle.action_terms.specs.Meaning.{item_or_them, items_from}
use Rattle.action_terms.specs.Numbering.{ListedYielder}
use Rattle.action_terms.specs.Steps.{closures_in, closures_in_items}
use Rattle.sort_rules.specs.Parts.{Part, concatenation, join}
use Rattle.sort_rules.specs.Values.{item_value, item_wrong, items_value, items_wrong}

-- the closures of the first item, and those of the others
closures-cons : (i : Item) (is : List Item) → closures_in_items (i ∷ is) ≡ closures_in_items (i ∷ []) ++ closures_in_items is
closures-cons (Single y) is = ap (λ (zs : List ℕ). zs ++ closures_in_items is) (sym (append-nil (closures_in y)))
closures-cons Them is = refl

from_zero : (n : ℕ) → n - 0 ≡ n
from_zero n = omega arith

module _ (ls : List ListedYielder) (numbers : List ℕ) (i d : ℕ) (some : 0 < i) (within : i ≤ length numbers) where
  -- the item before those that are judged
  pub items-front : items_at ls (drop (i - 1) numbers) ≡ item_at ls (get_or numbers (i - 1) d) ∷ items_at ls (drop i numbers)
  items-front =
      let less : i - 1 < length numbers = omega arith in
      let next : (i - 1) + 1 ≡ i = omega arith in
      ap (items_at ls) (drop_more numbers (i - 1) d less)
      ∙ ap (λ (k : ℕ). item_or_them (slice_get (items_from 0 ls) k) ∷ items_at ls (drop ((i - 1) + 1) numbers)) (from_zero (get_or numbers (i - 1) d))
      ∙ ap (λ (k : ℕ). item_at ls (get_or numbers (i - 1) d) ∷ items_at ls (drop k numbers)) next

  pub value-more : (c : ℕ → Part) (g h x y z : Part) → x ≡ item_value c g h (item_at ls (get_or numbers (i - 1) d)) → y ≡ items_value c g h (items_at ls (drop i numbers)) → z ≡ concatenation x y
      → z ≡ items_value c g h (items_at ls (drop (i - 1) numbers))
  value-more c g h x y z e f q =
      q ∙ ap (λ (v : Part). concatenation v y) e ∙ ap (concatenation (item_value c g h (item_at ls (get_or numbers (i - 1) d)))) f ∙ sym (ap (items_value c g h) items-front)

  pub wrong-more : (c : ℕ → Part) (g h x y z : Part) → x ≡ item_wrong c g h (item_at ls (get_or numbers (i - 1) d)) → y ≡ items_wrong c g h (items_at ls (drop i numbers)) → z ≡ join x y
      → z ≡ items_wrong c g h (items_at ls (drop (i - 1) numbers))
  wrong-more c g h x y z e f q =
      q ∙ ap (λ (v : Part). join v y) e ∙ ap (join (item_wrong c g h (item_at ls (get_or numbers (i - 1) d)))) f ∙ sym (ap (items_wrong c g h) items-front)

  pub closures-more : (first before after : List ℕ) → before ≡ first ++ reverse (closures_in_items (items_at ls (drop i numbers))) → after ≡ before ++ reverse (closures_in_items (item_at ls (get_or numbers (i - 1) d) ∷ []))
      → after ≡ first ++ reverse (closures_in_items (items_at ls (drop (i - 1) numbers)))
  closures-more first before after e f =
      let rest : List ℕ = closures_in_items (items_at ls (drop i numbers)) in
      let own : List ℕ = closures_in_items (item_at ls (get_or numbers (i - 1) d) ∷ []) in
      f
      ∙ ap (λ (zs : List ℕ). zs ++ reverse (closures_in_items (item_at ls (get_or numbers (i - 1) d) ∷ []))) e
      ∙ append_assoc first (reverse (closures_in_items (items_at ls (drop i numbers)))) (reverse (closures_in_items (item_at ls (get_or numbers (i - 1) d) ∷ [])))
      ∙ ap (λ (zs : List ℕ). first ++ zs) (sym (
      ap reverse (ap closures_in_items items-front ∙ closures-cons (item_at ls (get_or numbers (i - 1) d)) (items_at ls (drop i numbers)))
      ∙ reverse-append (closures_in_items (item_at ls (get_or numbers (i - 1) d) ∷ [])) (closures_in_items (items_at ls (drop i numbers)))))
