-- What a performer keeps of its parts beside what they stand for.
use Rattle.std.specs.Prelude.{◌≡◌, ℕ, ◌≤◌, List, ◌∷◌, ◌++◌, length}
use Rattle.action_terms.specs.Acting.{End}
use Rattle.action_terms.specs.Frames.{Frame as FrameMeant}
use Rattle.action_sos.specs.Parts.{own_steps, frames_steps, IsBesideEnd, IsBroken}
use Rattle.action_sos.specs.Views.{frame_of, frames_of}
use Rattle.action_sos.specs.declared.part.Frame.{Frame}
use Rattle.action_sos.specs.declared.part.Part.{Part}

-- how many steps of its own a frame has
abbrev pub own_count : Frame → ℕ
own_count f = length (own_steps (frame_of f))

-- the counts of a part are right: how many frames there are, how many have a step of their own, and in how many no alternative is open
pub record IsCounted (p : Part) : Type 0 where
  pub depth : p.depth ≡ length (frames_of p.frames)
  pub broken : p.broken ≡ length (frames_steps (frames_of p.frames))
  pub closed : p.closed ≤ p.depth

-- the frames around one that stands beside a part with this end, an escape or a failure; so many frames with steps of their own stand within that one
pub record IsBrokenOff (frames : List FrameMeant) (index : ℕ) (outer : List FrameMeant) (z : End) : Type 0 where
  pub frame : FrameMeant
  pub inner : List FrameMeant
  pub stands : frames ≡ outer ++ frame ∷ inner
  pub beside : IsBesideEnd z frame
  pub broken : IsBroken z
  pub place : length (frames_steps inner) ≡ index
