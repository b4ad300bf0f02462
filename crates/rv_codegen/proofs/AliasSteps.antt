-- Places that are handed down from a node to its parts, one step after the other.
use Rattle.std.proofs.Common.{◌≡◌, ℕ, zero, suc, ◌<◌, ◌≤◌, List, refl, ap, ◌∙◌, arith}
use Rattle.std.specs.Prelude.{Option, Some, None}
use Rattle.action_terms.specs.Actions.{Action, Node, node_at}
use Rattle.sort_rules.specs.Procedures.{whole_of}
use Rattle.frame_layout.proofs.GraphParts.{HasTrees}
use Rattle.frame_layout.proofs.ProcedureRoots.{whole-part}
use Rattle.rv_codegen.specs.Aliases.{from_whole, handed_at}

module _ (a : Action) (trees : HasTrees a) (part : Node → List ℕ → ℕ → List ℕ) (own : ℕ → List ℕ) where
  -- more steps change nothing
  handed-enough : (n m k : ℕ) → k ≤ n → k ≤ m → handed_at part own a n k ≡ handed_at part own a m k
  handed-enough zero zero k low high = refl
  handed-enough zero (suc m) k low high = go (whole_of a k) (λ j e. trees.behind j k (whole-part a k j e))
    where
      go : (o : Option ℕ) → ((j : ℕ) → o ≡ Some j → j < k) → own k ≡ from_whole part a (handed_at part own a m) (own k) k o
      go None below = refl
      go (Some j) below = absurd (let less = below j refl in omega arith)
  handed-enough (suc n) zero k low high = go (whole_of a k) (λ j e. trees.behind j k (whole-part a k j e))
    where
      go : (o : Option ℕ) → ((j : ℕ) → o ≡ Some j → j < k) → from_whole part a (handed_at part own a n) (own k) k o ≡ own k
      go None below = refl
      go (Some j) below = absurd (let less = below j refl in omega arith)
  handed-enough (suc n) (suc m) k low high = go (whole_of a k) (λ j e. trees.behind j k (whole-part a k j e)) (λ j less. handed-enough n m j (omega arith) (omega arith))
    where
      go : (o : Option ℕ) → ((j : ℕ) → o ≡ Some j → j < k) → ((j : ℕ) → j < k → handed_at part own a n j ≡ handed_at part own a m j)
          → from_whole part a (handed_at part own a n) (own k) k o ≡ from_whole part a (handed_at part own a m) (own k) k o
      go None below same = refl
      go (Some j) below same = ap (λ (os : List ℕ). part (node_at a j) os k) (same j (below j refl))

  -- from the node
  pub handed-part : (k n : ℕ) → whole_of a k ≡ Some n → handed_at part own a k k ≡ part (node_at a n) (handed_at part own a n n) k
  handed-part k n e =
      let less = trees.behind n k (whole-part a k n e) in
      handed-enough k (suc k) k (omega arith) (omega arith) ∙ ap (from_whole part a (handed_at part own a k) (own k) k) e
      ∙ ap (λ (os : List ℕ). part (node_at a n) os k) (handed-enough k n n (omega arith) (omega arith))

  -- where the node is a root
  pub handed-root : (k : ℕ) → whole_of a k ≡ None → handed_at part own a k k ≡ own k
  handed-root k e = handed-enough k (suc k) k (omega arith) (omega arith) ∙ ap (from_whole part a (handed_at part own a k) (own k) k) e
