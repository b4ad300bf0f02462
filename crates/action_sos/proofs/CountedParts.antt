-- The counts of a part, read off its frames as they stand.
use Rattle.std.proofs.Common.{◌≡◌, ℕ, ◌+◌, ◌<◌, ◌≤◌, List, [], ◌∷◌, ◌++◌, length, sym, ap, ◌∙◌, append_assoc, length-append, arith}
use Rattle.action_terms.specs.Frames.{Frame}
use Rattle.action_sos.specs.Parts.{own_steps, frames_steps}
use Rattle.action_sos.specs.Views.{frames_of, part_of}
use Rattle.action_sos.specs.Kept.{IsCounted}
use Rattle.action_sos.specs.declared.part.Part.{Part}
use Rattle.action_sos.proofs.ClosedFrames.{length-closed_first}
use Rattle.action_sos.proofs.FrameCounts.{frames_steps-cons, frames_steps-append, frames_steps-at_most, frames_steps-inmost, frames_steps-closed_first}

pub IsCounted-broken : (p : Part) → IsCounted p → p.broken ≤ p.depth
IsCounted-broken p counted = omega (arith, counted.depth, counted.broken, frames_steps-at_most (frames_of p.frames))

pub depth-frames : (p : Part) → IsCounted p → p.depth ≡ length (part_of p).frames
depth-frames p counted = counted.depth ∙ sym (length-closed_first p.closed (frames_of p.frames))

pub broken-frames : (p : Part) → IsCounted p → p.broken ≡ length (frames_steps (part_of p).frames)
broken-frames p counted = counted.broken ∙ sym (frames_steps-closed_first p.closed (frames_of p.frames))

-- the part without its innermost frame
module _ (p outer : Part) (f : Frame) (counted : IsCounted p) (counted_outer : IsCounted outer) (stands : (part_of p).frames ≡ (part_of outer).frames ++ f ∷ []) where
  pub depth-outer : outer.depth < p.depth
  depth-outer = omega (arith, depth-frames p counted, depth-frames outer counted_outer, ap length stands, length-append (part_of outer).frames (f ∷ []))

  broken-outer : p.broken ≡ outer.broken + length (own_steps f)
  broken-outer = omega (arith, broken-frames p counted, broken-frames outer counted_outer, ap (λ l. length (frames_steps l)) stands, frames_steps-inmost (part_of outer).frames f)

  -- frames further in are left behind, with so many steps of their own
  pub passed-frame : (whole inner : List Frame) (left less index : ℕ) → left < p.broken → whole ≡ (part_of p).frames ++ inner → length (frames_steps inner) + left ≡ index
      → left ≡ less + length (own_steps f) → IsCounted outer × (less < outer.broken) × ((within : List Frame) × (whole ≡ (part_of outer).frames ++ within) × (length (frames_steps within) + less ≡ index))
  passed-frame whole inner left less index there split count fewer = (
    counted_outer,
    omega (arith, there, fewer, broken-outer),
    (f ∷ inner, split ∙ ap (λ l. l ++ inner) stands ∙ append_assoc (part_of outer).frames (f ∷ []) inner, omega (arith, frames_steps-cons f inner, count, fewer)),
  )

-- frames further out have no more steps of their own
pub broken-less : (p outer : Part) (inner : List Frame) → IsCounted p → IsCounted outer → (part_of p).frames ≡ (part_of outer).frames ++ inner → outer.broken ≤ p.broken
broken-less p outer inner counted counted_outer stands =
    omega (arith, broken-frames p counted, broken-frames outer counted_outer, ap (λ l. length (frames_steps l)) stands, frames_steps-append (part_of outer).frames inner)
