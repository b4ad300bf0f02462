-- How many steps stand open doesn't depend on the world.
use Rattle.std.proofs.Common.{◌≡◌, ℕ, ◌+◌, List, ◌++◌, map, length, refl, ap₂, sym, ◌∙◌}
use Rattle.std.proofs.lemmas.List.{length-map, length-append}
use Rattle.action_terms.specs.Information.{Binds, Data, World}
use Rattle.action_terms.specs.Actions.{Action, Node, Simple, Enact, Apply, Unfolding, Unfold, Furthermore, Both, Phases, Either, Trapping, Branch, Stray, node_at}
use Rattle.action_terms.specs.Acting.{Tree, Run, Ended, Called, Par, First, Second, Or, Cut, Trap, Over}
use Rattle.action_terms.specs.Steps.{Step, run_steps, open_steps}

length-run : (n : Node) (k : ℕ) (d : Data) (b : Binds) (v w : World) → length (run_steps n k d b v) ≡ length (run_steps n k d b w)
length-run (Simple p) k d b v w = refl
length-run (Enact y) k d b v w = refl
length-run (Apply y is) k d b v w = refl
length-run (Unfolding c) k d b v w = refl
length-run (Unfold c) k d b v w = refl
length-run (Furthermore l) k d b v w = refl
length-run (Both j l r) k d b v w = refl
length-run (Phases q l r) k d b v w = refl
length-run (Either l r) k d b v w = refl
length-run (Trapping l r) k d b v w = refl
length-run (Branch y l r) k d b v w = refl
length-run Stray k d b v w = refl

same-length : (f : Step → Step) (xs ys : List Step) (us vs : List Step) → length xs ≡ length ys → length us ≡ length vs → length (map f xs ++ us) ≡ length (map f ys ++ vs)
same-length f xs ys us vs e h =
    length-append (map f xs) us ∙ ap₂ ◌+◌ (length-map xs f ∙ e ∙ sym (length-map ys f)) h ∙ sym (length-append (map f ys) vs)

pub length-open : (a : Action) (v w : World) (t : Tree) → length (open_steps a v t) ≡ length (open_steps a w t)
length-open a v w (Run k d b) = length-run (node_at a k) k d b v w
length-open a v w (Ended z) = refl
length-open a v w (Called c x) = same-length _ (open_steps a v x) (open_steps a w x) _ _ (length-open a v w x) refl
length-open a v w (Par k x y) = same-length _ (open_steps a v x) (open_steps a w x) _ _ (length-open a v w x) (same-length _ (open_steps a v y) (open_steps a w y) _ _ (length-open a v w y) refl)
length-open a v w (First k x d b) = same-length _ (open_steps a v x) (open_steps a w x) _ _ (length-open a v w x) refl
length-open a v w (Second k d b x) = same-length _ (open_steps a v x) (open_steps a w x) _ _ (length-open a v w x) refl
length-open a v w (Or x k d b) = same-length _ (open_steps a v x) (open_steps a w x) _ _ (length-open a v w x) refl
length-open a v w (Cut x) = same-length _ (open_steps a v x) (open_steps a w x) _ _ (length-open a v w x) refl
length-open a v w (Trap k x b) = same-length _ (open_steps a v x) (open_steps a w x) _ _ (length-open a v w x) refl
length-open a v w (Over x b) = same-length _ (open_steps a v x) (open_steps a w x) _ _ (length-open a v w x) refl
