-- A node leaves its data in as many words as its row asks for.
use Rattle.std.proofs.Common.{◌≡◌, ℕ, ◌+◌, List, [], ◌∷◌, length, take, drop, refl, sym, ap, ◌∙◌, arith, length-take, length-drop}
use Rattle.std.specs.Prelude.{Option, Some, None, nat_eq}
use Rattle.action_terms.specs.Actions.{Action, AndThen, Before, Both, Branch, Either, Furthermore, Hence, Node, Phases, Then, Trapping, node_at}
use Rattle.action_terms.specs.Performances.{OneOf}
use Rattle.sort_rules.specs.Procedures.{parts_at, whole_of}
use Rattle.sort_rules.proofs.Choices.{of_choice, eq_of_test}
use Rattle.frame_layout.specs.Places.{PlacedNode}
use Rattle.frame_layout.proofs.GraphParts.{HasTrees}
use Rattle.frame_layout.proofs.ProcedureRoots.{whole-part}
use Rattle.rv_codegen.specs.Aliases.{back_places, front_places, of_part, out_in, out_of, whole_places}
use Rattle.rv_codegen.proofs.AliasSteps.{handed-part, handed-root}
use Rattle.rv_codegen.proofs.AliasWords.{of-part}

length-whole : (own os : List ℕ) → length (whole_places own os) ≡ length own
length-whole own os = of_choice (nat_eq (length own) (length os)) os own (λ xs. length xs ≡ length own) (λ e. sym (eq_of_test (length own) (length os) e)) (λ e. refl)

length-front : (first second os : List ℕ) → length (front_places first second os) ≡ length first
length-front first second os = of_choice (nat_eq (length first + length second) (length os)) (take (length first) os) first (λ xs. length xs ≡ length first)
    (λ e. let same = eq_of_test (length first + length second) (length os) e in omega (arith, same, length-take (length first) os)) (λ e. refl)

length-back : (first second os : List ℕ) → length (back_places first second os) ≡ length second
length-back first second os = of_choice (nat_eq (length first + length second) (length os)) (drop (length first) os) second (λ xs. length xs ≡ length second)
    (λ e. let same = eq_of_test (length first + length second) (length os) e in omega (arith, same, length-drop (length first) os)) (λ e. refl)

module _ (p : ℕ → PlacedNode) where
  length-both : (l r k : ℕ) (os : List ℕ) → OneOf k (l ∷ r ∷ []) → length (of_part l k (front_places (p l).data_out (p r).data_out os) (back_places (p l).data_out (p r).data_out os)) ≡ length (p k).data_out
  length-both l r k os m = of-part l r k (λ xs. length xs ≡ length (p k).data_out) _ _ m
      (λ e. length-front (p l).data_out (p r).data_out os ∙ ap (λ i. length (p i).data_out) (sym e))
      (λ e. length-back (p l).data_out (p r).data_out os ∙ ap (λ i. length (p i).data_out) (sym e))

  length-part : (n : Node) (os : List ℕ) (k : ℕ) → OneOf k (parts_at n) → length (out_in p n os k) ≡ length (p k).data_out
  length-part (Both j l r) os k m = length-both l r k os m
  length-part (Phases Then l r) os k m = of-part l r k (λ xs. length xs ≡ length (p k).data_out) _ _ m
      (λ e. ap (λ i. length (p i).data_out) (sym e))
      (λ e. length-whole (p r).data_out os ∙ ap (λ i. length (p i).data_out) (sym e))
  length-part (Phases AndThen l r) os k m = length-both l r k os m
  length-part (Phases Hence l r) os k m = length-both l r k os m
  length-part (Phases Before l r) os k m = length-both l r k os m
  length-part (Either l r) os k m = length-whole (p k).data_out os
  length-part (Trapping l r) os k m = length-whole (p k).data_out os
  length-part (Branch y l r) os k m = length-whole (p k).data_out os
  length-part (Furthermore l) os k m = length-whole (p k).data_out os
  length-part _ os k m = elim m [ ]

pub length-out_of : (a : Action) (trees : HasTrees a) (p : ℕ → PlacedNode) (k : ℕ) → length (out_of p a k) ≡ length (p k).data_out
length-out_of a trees p k = go (whole_of a k) refl
  where
    go : (o : Option ℕ) → whole_of a k ≡ o → length (out_of p a k) ≡ length (p k).data_out
    go None e = ap length (handed-root a trees (out_in p) (λ j. (p j).data_out) k e)
    go (Some n) e = ap length (handed-part a trees (out_in p) (λ j. (p j).data_out) k n e) ∙ length-part p (node_at a n) (out_of p a n) k (whole-part a k n e)
