-- The steps of a part's own in memory, and how many they are.
use Rattle.std.proofs.Common.{◌≡◌, ℕ, ◌+◌, ◌-◌, ◌<◌, ◌≤◌, List, [], ◌∷◌, ◌++◌, map, length, sym, ap, ap₂, subst, ◌∙◌, length-append, arith}
use Rattle.std.proofs.lemmas.List.{length-map}
use Rattle.action_terms.specs.Meaning.{action_of}
use Rattle.action_terms.specs.Information.{Data, Binds, World}
use Rattle.action_terms.specs.Actions.{Simple, Enact, Apply, Unfolding, Unfold, Furthermore, Both, Phases, Either, Trapping, Branch, Stray, Node}
use Rattle.action_terms.specs.Acting.{Ended}
use Rattle.action_terms.specs.Steps.{Step, run_steps}
use Rattle.action_terms.specs.Sound.{IsSoundTree}
use Rattle.action_terms.specs.Frames.{wrap}
use Rattle.action_sos.specs.Parts.{inside, lifted, frames_steps, focus_steps, part_steps}
use Rattle.action_sos.specs.Views.{end_of, frame_of, focus_of, part_of}
use Rattle.action_sos.specs.Kept.{IsCounted}
use Rattle.action_sos.specs.Moves.{running, node_steps, ended_steps, IsOutside}
use Rattle.action_sos.specs.Plans.{IsSoundWithin, IsSoundPart}
use Rattle.action_sos.specs.declared.ends.End.{End}
use Rattle.action_terms.specs.Numbering.{Listed}
use Rattle.action_sos.specs.declared.moves.Received.{Received}
use Rattle.action_sos.specs.declared.moves.Outside.{Outside}
use Rattle.action_sos.specs.declared.part.Frame.{Frame}
use Rattle.action_sos.specs.declared.part.Focus.TheVariants as focus
use Rattle.action_sos.specs.declared.part.Part.{Part}
use Rattle.action_sos.proofs.FramesOpen.{IsTreeFrame-kept, open-inside, open-ended}
use Rattle.action_sos.proofs.CountedParts.{broken-frames, broken-less}
use Rattle.action_sos.proofs.KeptInMemory.{frame_of-kept, part_of-kept}
use Rattle.action_sos.proofs.SoundWithin.{inmost-sound, run-there}
use Rattle.action_sos.proofs.PartWorlds.{empty_world, world_of, IsOutside-world_of}

length-lifted : (h : Step → Step) (xs ys : List Step) → length (map h xs ++ ys) ≡ length xs + length ys
length-lifted h xs ys = omega (arith, length-append (map h xs) ys, length-map xs h)

-- ---- a part whose node runs

run_steps-at_most : (n : Node) (k : ℕ) (d : Data) (b : Binds) (w : World) → length (run_steps n k d b w) ≤ 2
run_steps-at_most (Simple p) k d b w = omega arith
run_steps-at_most (Enact y) k d b w = omega arith
run_steps-at_most (Apply y is) k d b w = omega arith
run_steps-at_most (Unfolding c) k d b w = omega arith
run_steps-at_most (Unfold c) k d b w = omega arith
run_steps-at_most (Furthermore l) k d b w = omega arith
run_steps-at_most (Both j l r) k d b w = omega arith
run_steps-at_most (Phases q l r) k d b w = omega arith
run_steps-at_most (Either l r) k d b w = omega arith
run_steps-at_most (Trapping l r) k d b w = omega arith
run_steps-at_most (Branch y l r) k d b w = omega arith
run_steps-at_most Stray k d b w = omega arith

module _ (g : Listed) (p : Part) (k : ℕ) (r : Received) (is : p.focus ≡ focus.Run k r.given r.bound) where
  pub run-steps : (w : World) → part_steps (action_of g) w (part_of p) ≡ map (lifted (part_of p).frames) (node_steps g k r w) ++ frames_steps (part_of p).frames
  run-steps w =
      ap (λ q. focus_steps (action_of g) w (part_of p).frames (focus_of q)) is
      ∙ open-inside (action_of g) w (part_of p).frames (running k r) (part_of-kept p) tt

  pub run-count : (w : World) (count : ℕ) → IsCounted p → count ≡ length (node_steps g k r w) → count + p.broken ≡ length (part_steps (action_of g) w (part_of p))
  run-count w count counted e =
      omega (arith, e, broken-frames p counted, ap length (run-steps w), length-lifted (lifted (part_of p).frames) (node_steps g k r w) (frames_steps (part_of p).frames))

  pub run-bound : (count : ℕ) → ((w : World) → count ≡ length (node_steps g k r w)) → count + p.broken ≤ p.broken + 2
  run-bound count e =
      let two : length (node_steps g k r empty_world) ≤ 2 = run_steps-at_most _ _ _ _ empty_world in
      omega (arith, e empty_world, two)

  pub run-room : (o : Outside) (count index : ℕ) → IsCounted p → ((w : World) → count ≡ length (node_steps g k r w)) → ((w : World) → IsOutside o w → index < length (part_steps (action_of g) w (part_of p)))
      → count ≤ index → index - count < p.broken
  run-room o count index counted e there past = omega (arith, run-count (world_of o) count counted (e (world_of o)), there (world_of o) (IsOutside-world_of o), past)

  pub run-within : IsSoundPart (action_of g) (part_of p) → k < length g.nodes
  run-within sound = run-there g (part_of p).frames k _ _ (subst (λ q. IsSoundWithin (action_of g) (part_of p).frames (focus_of q)) is sound)

-- ---- a part in which everything has ended

module _ (g : Listed) (p outer : Part) (f : Frame) (z : End) (is : p.focus ≡ focus.Ended z) (stands : (part_of p).frames ≡ (part_of outer).frames ++ frame_of f ∷ []) where
  pub ended-steps : (w : World) → part_steps (action_of g) w (part_of p) ≡ map (lifted (part_of outer).frames) (ended_steps g f z w) ++ frames_steps (part_of outer).frames
  ended-steps w =
      ap₂ (λ fs q. focus_steps (action_of g) w fs (focus_of q)) stands is
      ∙ open-ended (action_of g) w (part_of outer).frames (frame_of f) (end_of z) (part_of-kept outer) (IsTreeFrame-kept (frame_of f) (frame_of-kept f))

  pub ended-sound : IsSoundPart (action_of g) (part_of p) → IsSoundTree (action_of g) (wrap (frame_of f) (Ended (end_of z)))
  ended-sound sound =
      inmost-sound (action_of g) (part_of outer).frames (frame_of f) (Ended (end_of z))
      (subst (λ fs. IsSoundTree (action_of g) (inside fs (Ended (end_of z)))) stands
      (subst (λ q. IsSoundWithin (action_of g) (part_of p).frames (focus_of q)) is sound))

  pub ended-count : (w : World) (count : ℕ) → IsCounted outer → count ≡ length (ended_steps g f z w) → count + outer.broken ≡ length (part_steps (action_of g) w (part_of p))
  ended-count w count counted e =
      omega (arith, e, broken-frames outer counted, ap length (ended-steps w), length-lifted (lifted (part_of outer).frames) (ended_steps g f z w) (frames_steps (part_of outer).frames))

  pub ended-room : (count index : ℕ) → IsCounted outer → ((w : World) → count ≡ length (ended_steps g f z w)) → ((w : World) → index < length (part_steps (action_of g) w (part_of p)))
      → count ≤ index → index - count < outer.broken
  ended-room count index counted e there past = omega (arith, ended-count empty_world count counted (e empty_world), there empty_world, past)

pub ended-bound : (p outer : Part) (f : Frame) (count : ℕ) → IsCounted p → IsCounted outer → (part_of p).frames ≡ (part_of outer).frames ++ frame_of f ∷ [] → count ≤ 2 → count + outer.broken ≤ p.broken + 2
ended-bound p outer f count counted counted_outer stands few = omega (arith, few, broken-less p outer (frame_of f ∷ []) counted counted_outer stands)

-- without frames nothing is left to do
pub ended-bare : (g : Listed) (p : Part) (z : End) (index : ℕ) → p.focus ≡ focus.Ended z → (part_of p).frames ≡ [] → ((w : World) → index < length (part_steps (action_of g) w (part_of p))) → ⊥
ended-bare g p z index is bare there =
    let none = ap₂ (λ fs q. length (focus_steps (action_of g) empty_world fs (focus_of q))) bare is in
    absurd (omega (arith, none, there empty_world))

-- ---- a part with two parts of its own

pub parent-steps : (g : Listed) (p : Part) (k : ℕ) (w : World) → p.focus ≡ focus.Parts k → part_steps (action_of g) w (part_of p) ≡ frames_steps (part_of p).frames
parent-steps g p k w is = ap (λ q. focus_steps (action_of g) w (part_of p).frames (focus_of q)) is

pub parent-count : (g : Listed) (p : Part) (k : ℕ) (w : World) → p.focus ≡ focus.Parts k → IsCounted p → p.broken ≡ length (part_steps (action_of g) w (part_of p))
parent-count g p k w is counted = broken-frames p counted ∙ sym (ap length (parent-steps g p k w is))

pub parent-room : (g : Listed) (p : Part) (k : ℕ) (o : Outside) (index : ℕ) → p.focus ≡ focus.Parts k → IsCounted p → ((w : World) → IsOutside o w → index < length (part_steps (action_of g) w (part_of p)))
    → index < p.broken
parent-room g p k o index is counted there = omega (arith, parent-count g p k (world_of o) is counted, there (world_of o) (IsOutside-world_of o))
