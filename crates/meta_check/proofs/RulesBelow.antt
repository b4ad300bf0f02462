-- The rules that hold, one after another, and the first that doesn't.
use Rattle.std.proofs.Common.{◌≡◌, ℕ, zero, suc, ◌+◌, ◌-◌, ◌<◌, List, [], ◌∷◌, length, get_or, Option, Some, None, MatchOption, below_more, refl, sym, subst, arith}
use Rattle.std.specs.Prelude.{IsSomeAnd, slice_get}
use Rattle.meta_terms.specs.PlainItems.{PlainItem}
use Rattle.meta_check.specs.declared.breaches.Breach.{Breach}
use Rattle.meta_check.specs.MetaErrors.{FindsBreach}
use Rattle.meta_check.specs.Rules.{Rule, rules, Holds, HoldBelow, IsFirstBroken, IsWellFormed}

-- one rule more
pub one_below : (items : List PlainItem) (n : ℕ) → HoldBelow items n → IsSomeAnd (slice_get rules n) (λ rule. Holds rule items) → HoldBelow items (n + 1)
one_below items n below here = below_more (λ r. IsSomeAnd (slice_get rules r) (λ rule. Holds rule items)) n below here

-- what is found of a rule, where those before it hold
pub numbered_finds : (items : List PlainItem) (number : ℕ) (found : Option ℕ) (o : Option Breach) → 0 < number → HoldBelow items (number - 1)
    → IsSomeAnd (slice_get rules (number - 1)) (λ rule. FindsBreach rule items found) → MatchOption o (found ≡ None) (λ b. (b.rule ≡ number) × (found ≡ Some b.item))
    → MatchOption o (HoldBelow items (number - 1 + 1)) (λ b. IsFirstBroken items b.rule b.item)
numbered_finds items number found None counted below finds n =
    one_below items (number - 1) below (subst (λ (o : Option ℕ). IsSomeAnd (slice_get rules (number - 1)) (λ rule. FindsBreach rule items o)) n finds)
numbered_finds items number found (Some b) counted below finds n =
    subst (λ r. IsFirstBroken items r b.item) (sym n.0) (record {
      counted = counted;
      breach = subst (λ (o : Option ℕ). IsSomeAnd (slice_get rules (number - 1)) (λ rule. FindsBreach rule items o)) n.1 finds;
      lesser = below;
    })

-- what is found of a rule is the first that is broken, where those before it hold
pub found_broken : (items : List PlainItem) (number k : ℕ) (found : Option ℕ) → 0 < number → HoldBelow items (number - 1) → IsSomeAnd (slice_get rules (number - 1)) (λ rule. FindsBreach rule items found)
    → found ≡ Some k → IsFirstBroken items number k
found_broken items number k found counted below finds e = record {
  counted = counted;
  breach = subst (λ (o : Option ℕ). IsSomeAnd (slice_get rules (number - 1)) (λ rule. FindsBreach rule items o)) e finds;
  lesser = below;
}

-- where nothing is found, it holds too
pub none_broken : (items : List PlainItem) (number : ℕ) (found : Option ℕ) → HoldBelow items (number - 1) → IsSomeAnd (slice_get rules (number - 1)) (λ rule. FindsBreach rule items found)
    → ((k : ℕ) → found ≡ Some k → ⊥) → HoldBelow items (number - 1 + 1)
none_broken items number None below finds other = one_below items (number - 1) below finds
none_broken items number (Some k) below finds other = absurd (other k refl)

-- all nine
pub all_hold : (items : List PlainItem) → HoldBelow items 9 → IsWellFormed items
all_hold items below k d h = go rules k h (below k h)
  where
    go : (list : List Rule) (k : ℕ) → k < length list → IsSomeAnd (slice_get list k) (λ rule. Holds rule items) → Holds (get_or list k d) items
    go [] k h s = absurd (omega arith)
    go (r ∷ list) zero h s = s
    go (r ∷ list) (suc k) h s = go list k (omega arith) s
