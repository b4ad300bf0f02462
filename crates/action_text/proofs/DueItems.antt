-- What is due of data, item by item.
use Rattle.std.proofs.Common.{◌≡◌, ℕ, zero, suc, ◌-◌, ◌≤◌, List, ◌∷◌, ap, sym, arith}
use Rattle.action_terms.specs.Labels.{AnItem, copies}
use Rattle.action_text.specs.declared.print_jobs.Part.TheVariants as part
use Rattle.action_text.specs.Shapes.{items, more_items, open_paren, comma}
use Rattle.action_text.specs.Printing.{Due, Token, Node, pieces_due}

-- the items behind the first one
abbrev pub more_due : ℕ → List Due
more_due k = pieces_due (more_items k) (copies k AnItem)

pub item_due : (k : ℕ) → 1 ≤ k → more_due k ≡ Token comma ∷ Node part.Yielder ∷ more_due (k - 1)
item_due zero h = absurd (omega arith)
item_due (suc k) h = let e : suc k - 1 ≡ k = omega arith in ap (λ n. Token comma ∷ Node part.Yielder ∷ more_due n) (sym e)

pub list_due : (n : ℕ) → 2 ≤ n → pieces_due (items n) (copies n AnItem) ≡ Token open_paren ∷ Node part.Yielder ∷ more_due (n - 1)
list_due zero h = absurd (omega arith)
list_due (suc zero) h = absurd (omega arith)
list_due (suc (suc n)) h = let e : suc (suc n) - 1 ≡ suc n = omega arith in ap (λ k. Token open_paren ∷ Node part.Yielder ∷ more_due k) (sym e)
