-- The frames of a part in memory, one at a time.
use Rattle.std.proofs.Common.{◌≡◌, suc, ◌+◌, List, [], ◌∷◌, ◌++◌, length, sym, ap, ◌∙◌, Bor, length-append, arith}
use Rattle.action_terms.specs.Frames.{Frame as FrameMeant}
use Rattle.action_sos.specs.Parts.{frames_steps}
use Rattle.action_sos.specs.Views.{frame_of, frames_step, frames_of}
use Rattle.action_sos.specs.Kept.{own_count}
use Rattle.action_sos.specs.declared.part.Frame.{Frame}
use Rattle.action_sos.specs.declared.part.Frames.{Frames, fold-roll-Frames}
use Rattle.action_sos.specs.declared.part.Frames.TheOpen as open_frames
use Rattle.action_sos.specs.declared.part.Frames.TheVariants as variants
use Rattle.action_sos.proofs.FrameCounts.{frames_steps-inmost}

pub frames_of-inner : (f : Frame) (around : Bor Frames) → frames_of (variants.Inner f around) ≡ frames_of around.now ++ frame_of f ∷ []
frames_of-inner f around = ap frames_of (sym (variants.rolls-Inner f around)) ∙ fold-roll-Frames (List FrameMeant) frames_step (open_frames.Inner f around)

-- the counts with one more frame
pub length-inner : (f : Frame) (around : Bor Frames) → length (frames_of (variants.Inner f around)) ≡ suc (length (frames_of around.now))
length-inner f around = ap length (frames_of-inner f around) ∙ omega (arith, length-append (frames_of around.now) (frame_of f ∷ []))

pub steps-inner : (f : Frame) (around : Bor Frames) → length (frames_steps (frames_of (variants.Inner f around))) ≡ length (frames_steps (frames_of around.now)) + own_count f
steps-inner f around = ap (λ l. length (frames_steps l)) (frames_of-inner f around) ∙ frames_steps-inmost (frames_of around.now) (frame_of f)
