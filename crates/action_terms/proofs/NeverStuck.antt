-- A sound state of a proper action in which no step stands open has ended.
use Rattle.std.proofs.Common.{◌≡◌, ℕ, List, [], ◌∷◌, ◌++◌, map, refl, subst}
use Rattle.std.specs.Prelude.{◌≢◌}
use Rattle.action_terms.specs.Information.{Binds, Data, World}
use Rattle.action_terms.specs.Actions.{Node, Simple, Both, Phases, Trapping, Stray, Action, node_at}
use Rattle.action_terms.specs.Acting.{End, Done, Esc, Fail, Tree, Run, Ended, Called, Par, First, Second, Or, Cut, Trap, Over}
use Rattle.action_terms.specs.Steps.{InLeft, InRight, Joins, TakesLeft, TakesRight, Step, silent, run_steps, after_any, after_broken, joined_parts, after_both, second_part, after_first, chained_parts, after_second, after_or, handler, after_trap, after_over, within, on_side, at_letter, in_or, open_steps}
use Rattle.action_terms.specs.Performances.{State}
use Rattle.action_terms.specs.Proper.{IsProper}
use Rattle.action_terms.specs.Sound.{IsBoth, IsPhases, IsTrapping, IsSoundTree, IsSound}
use Rattle.action_terms.proofs.NamedNodes.{there-at}
use Rattle.action_terms.proofs.SoundStates.{sound-tree}

-- lists that are empty
none-first : {X : Type 0} (xs ys : List X) → xs ++ ys ≡ [] → xs ≡ []
none-first [] ys none = refl
none-first (x ∷ xs) ys none = cc

none-second : {X : Type 0} (xs ys : List X) → xs ++ ys ≡ [] → ys ≡ []
none-second [] ys none = none
none-second (x ∷ xs) ys none = cc

none-mapped : {X Y : Type 0} (h : X → Y) (xs : List X) → map h xs ≡ [] → xs ≡ []
none-mapped h [] none = refl
none-mapped h (x ∷ xs) none = cc

-- a node that is there has a step
some-run_steps : (n : Node) (k : ℕ) (d : Data) (b : Binds) (w : World) → n ≢ Stray → run_steps n k d b w ≢ []
some-run_steps Stray k d b w there none = there refl
some-run_steps (Simple p) k d b w there none = cc
some-run_steps _ k d b w there none = cc

-- where a part has ended, something follows
some-after_any : (z : End) → after_any (Ended z) ≢ []
some-after_any z none = cc

some-joined_parts : (n : Node) (d1 : Data) (b1 : Binds) (d2 : Data) (b2 : Binds) → IsBoth n → joined_parts n d1 b1 d2 b2 ≢ []
some-joined_parts (Both j l r) d1 b1 d2 b2 is none = cc
some-joined_parts _ d1 b1 d2 b2 is none = is

some-after_parts : (n : Node) (z1 z2 : End) → IsBoth n → after_both n (Ended z1) (Ended z2) ≡ [] → after_broken (Ended z1) ≡ [] → after_broken (Ended z2) ≢ []
some-after_parts n (Done d1 b1) (Done d2 b2) is none left right = some-joined_parts n d1 b1 d2 b2 is none
some-after_parts n (Done d1 b1) (Esc e) is none left right = cc
some-after_parts n (Done d1 b1) Fail is none left right = cc
some-after_parts n (Esc e) z2 is none left right = cc
some-after_parts n Fail z2 is none left right = cc

some-second_part : (n : Node) (k : ℕ) (d : Data) (b : Binds) (d1 : Data) (b1 : Binds) → IsPhases n → second_part n k d b d1 b1 ≢ []
some-second_part (Phases q l r) k d b d1 b1 is none = cc
some-second_part _ k d b d1 b1 is none = is

some-after_first : (n : Node) (k : ℕ) (d : Data) (b : Binds) → IsPhases n → (z : End) → after_first n k d b (Ended z) ≢ []
some-after_first n k d b is (Done d1 b1) none = some-second_part n k d b d1 b1 is none
some-after_first n k d b is (Esc e) none = cc
some-after_first n k d b is Fail none = cc

some-chained_parts : (n : Node) (d1 : Data) (b1 : Binds) (d2 : Data) (b2 : Binds) → IsPhases n → chained_parts n d1 b1 d2 b2 ≢ []
some-chained_parts (Phases q l r) d1 b1 d2 b2 is none = cc
some-chained_parts _ d1 b1 d2 b2 is none = is

some-after_second : (n : Node) (d1 : Data) (b1 : Binds) → IsPhases n → (z : End) → after_second n d1 b1 (Ended z) ≢ []
some-after_second n d1 b1 is (Done d2 b2) none = some-chained_parts n d1 b1 d2 b2 is none
some-after_second n d1 b1 is (Esc e) none = cc
some-after_second n d1 b1 is Fail none = cc

some-after_or : (k2 : ℕ) (d : Data) (b : Binds) (z : End) → after_or k2 d b (Ended z) ≢ []
some-after_or k2 d b Fail none = cc
some-after_or k2 d b (Esc e) none = cc
some-after_or k2 d b (Done d1 b1) none = cc

some-handler : (n : Node) (e : Data) (b : Binds) → IsTrapping n → handler n e b ≢ []
some-handler (Trapping l r) e b is none = cc
some-handler _ e b is none = is

some-after_trap : (n : Node) (b : Binds) → IsTrapping n → (z : End) → after_trap n b (Ended z) ≢ []
some-after_trap n b is (Esc e) none = some-handler n e b is none
some-after_trap n b is (Done d1 b1) none = cc
some-after_trap n b is Fail none = cc

some-after_over : (b : Binds) (z : End) → after_over b (Ended z) ≢ []
some-after_over b (Done d1 b1) none = cc
some-after_over b (Esc e) none = cc
some-after_over b Fail none = cc

module _ (a : Action) (w : World) where
  -- the tree is an end where no step stands open in it
  abbrev IsEndIfNoStep : Tree → Type 0
  IsEndIfNoStep t = open_steps a w t ≡ [] → (z : End) × (t ≡ Ended z)

  -- a part with what follows its end is never without a step
  some-part : (h : Step → Step) (follow : Tree → List Tree) (x : Tree) → ((z : End) → follow (Ended z) ≢ []) → IsEndIfNoStep x → map h (open_steps a w x) ++ map silent (follow x) ≢ []
  some-part h follow x some part none =
      let end = part (none-mapped h (open_steps a w x) (none-first _ (map silent (follow x)) none)) in
      let rest = none-mapped silent (follow x) (none-second (map h (open_steps a w x)) _ none) in
      some end.0 (subst (λ t. follow t ≡ []) end.1 rest)

  some-parts : (k : ℕ) (x y : Tree) → IsBoth (node_at a k) → IsEndIfNoStep x → IsEndIfNoStep y → open_steps a w (Par k x y) ≢ []
  some-parts k x y is left right none =
      let lefts = map (on_side InLeft (λ x'. Par k x' y)) (open_steps a w x) in
      let rights = map (on_side InRight (Par k x)) (open_steps a w y) in
      let joins = map (at_letter Joins) (after_both (node_at a k) x y) in
      let takes = map (at_letter TakesLeft) (after_broken x) in
      let behind_lefts = none-second lefts _ none in
      let behind_rights = none-second rights _ behind_lefts in
      let behind_joins = none-second joins _ behind_rights in
      let end1 = left (none-mapped _ (open_steps a w x) (none-first lefts _ none)) in
      let end2 = right (none-mapped _ (open_steps a w y) (none-first rights _ behind_lefts)) in
      let joined : after_both (node_at a k) x y ≡ [] = none-mapped (at_letter Joins) _ (none-first joins _ behind_rights) in
      let taken1 : after_broken x ≡ [] = none-mapped (at_letter TakesLeft) _ (none-first takes _ behind_joins) in
      let taken2 : after_broken y ≡ [] = none-mapped (at_letter TakesRight) _ (none-second takes _ behind_joins) in
      some-after_parts (node_at a k) end1.0 end2.0 is
      (subst (λ t. after_both (node_at a k) (Ended end1.0) t ≡ []) end2.1 (subst (λ t. after_both (node_at a k) t y ≡ []) end1.1 joined))
      (subst (λ t. after_broken t ≡ []) end1.1 taken1) (subst (λ t. after_broken t ≡ []) end2.1 taken2)

  end-if_no_step : (t : Tree) → IsProper a → IsSoundTree a t → IsEndIfNoStep t
  end-if_no_step (Run k d b) proper here none = absurd (some-run_steps (node_at a k) k d b w (there-at a k proper here.0) none)
  end-if_no_step (Ended z) proper here none = (z, refl)
  end-if_no_step (Called c x) proper here none = absurd (some-part (within (Called c)) after_any x some-after_any (end-if_no_step x proper here.1) none)
  end-if_no_step (Par k x y) proper here none = absurd (some-parts k x y here.0 (end-if_no_step x proper here.1) (end-if_no_step y proper here.2) none)
  end-if_no_step (First k x d b) proper here none =
      absurd (some-part (within (λ x'. First k x' d b)) (after_first (node_at a k) k d b) x (some-after_first (node_at a k) k d b here.0) (end-if_no_step x proper here.1) none)
  end-if_no_step (Second k d1 b1 x) proper here none =
      absurd (some-part (within (Second k d1 b1)) (after_second (node_at a k) d1 b1) x (some-after_second (node_at a k) d1 b1 here.0) (end-if_no_step x proper here.3) none)
  end-if_no_step (Or x k2 d b) proper here none = absurd (some-part (in_or k2 d b) (after_or k2 d b) x (some-after_or k2 d b) (end-if_no_step x proper here.0) none)
  end-if_no_step (Cut x) proper here none = absurd (some-part (within Cut) after_any x some-after_any (end-if_no_step x proper here) none)
  end-if_no_step (Trap k x b) proper here none =
      absurd (some-part (within (λ x'. Trap k x' b)) (after_trap (node_at a k) b) x (some-after_trap (node_at a k) b here.0) (end-if_no_step x proper here.1) none)
  end-if_no_step (Over x b) proper here none = absurd (some-part (within (λ x'. Over x' b)) (after_over b) x (some-after_over b) (end-if_no_step x proper here.0) none)

pub never-stuck : (a : Action) (s : State) → IsProper a → IsSound a s → open_steps a s.world s.tree ≡ [] → (z : End) × (s.tree ≡ Ended z)
never-stuck a s proper sound none = end-if_no_step a s.world s.tree proper (sound-tree a s proper sound) none
