-- Whether items have code, item after item.
use Rattle.std.proofs.Common.{◌≡◌, ℕ, ◌+◌, ◌-◌, ◌<◌, Bool, true, false, ◌&&◌, List, [], ◌∷◌, length, get_or, drop, refl, sym, ap, ◌∙◌, arith}
use Rattle.action_terms.specs.Actions.{Item, Single, Them}
use Rattle.action_terms.specs.Forms.{item_at, items_at}
use Rattle.action_terms.specs.Need.{items_yielder_count}
use Rattle.action_terms.specs.Numbering.{ListedYielder}
use Rattle.rv_yield.specs.Registers.{is_built}
use Rattle.sort_rules.proofs.ItemsJudged.{items-front}
use Rattle.rv_codegen.specs.Built.{are_built}

built-cons : (i : Item) (is : List Item) → are_built (i ∷ is) ≡ are_built (i ∷ []) && are_built is
built-cons (Single y) is = by (is_built y)
  where
    by : (b : Bool) → b && are_built is ≡ (b && true) && are_built is
    by true = refl
    by false = refl
built-cons Them is = refl

module _ (ls : List ListedYielder) (numbers : List ℕ) (i d : ℕ) (less : i < length numbers) where
  -- the item of a place, and those behind it
  pub items-next : items_at ls (drop i numbers) ≡ item_at ls (get_or numbers i d) ∷ items_at ls (drop (i + 1) numbers)
  items-next =
      let same : i + 1 - 1 ≡ i = omega arith in
      ap (λ k. items_at ls (drop k numbers)) (sym same) ∙ items-front ls numbers (i + 1) d (omega arith) (omega (arith, less)) ∙ ap (λ k. item_at ls (get_or numbers k d) ∷ items_at ls (drop (i + 1) numbers)) same

  abbrev this : Item
  this = item_at ls (get_or numbers i d)

  built-next : are_built (items_at ls (drop i numbers)) ≡ are_built (this ∷ []) && are_built (items_at ls (drop (i + 1) numbers))
  built-next = ap are_built items-next ∙ built-cons this (items_at ls (drop (i + 1) numbers))

  -- where this one has code, so have all if those behind it have
  pub built-on : are_built (this ∷ []) ≡ true → are_built (items_at ls (drop i numbers)) ≡ are_built (items_at ls (drop (i + 1) numbers))
  built-on e = built-next ∙ ap (λ b. b && are_built (items_at ls (drop (i + 1) numbers))) e

  -- and where it hasn't, not all have
  pub built-stops : are_built (this ∷ []) ≡ false → are_built (items_at ls (drop i numbers)) ≡ false
  built-stops e = built-next ∙ ap (λ b. b && are_built (items_at ls (drop (i + 1) numbers))) e

  -- where all have code, so has this one, and so have those behind it
  pub built-first : are_built (items_at ls (drop i numbers)) ≡ true → are_built (this ∷ []) ≡ true
  built-first e = front (are_built (this ∷ [])) (are_built (items_at ls (drop (i + 1) numbers))) (sym built-next ∙ e)
    where
      front : (b c : Bool) → b && c ≡ true → b ≡ true
      front true c h = refl
      front false c h = absurd (let r : false ≡ true = h in cc)

  pub built-rest : are_built (items_at ls (drop i numbers)) ≡ true → are_built (items_at ls (drop (i + 1) numbers)) ≡ true
  built-rest e = sym (built-on (built-first e)) ∙ e

  -- they have no more yielders than all
  pub count-next : items_yielder_count (items_at ls (drop i numbers)) ≡ items_yielder_count (this ∷ []) + items_yielder_count (items_at ls (drop (i + 1) numbers))
  count-next = ap items_yielder_count items-next ∙ count-cons this (items_at ls (drop (i + 1) numbers))
    where
      count-cons : (j : Item) (js : List Item) → items_yielder_count (j ∷ js) ≡ items_yielder_count (j ∷ []) + items_yielder_count js
      count-cons (Single y) js = omega arith
      count-cons Them js = omega arith
