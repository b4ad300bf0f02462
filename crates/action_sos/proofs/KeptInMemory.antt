-- The frames of a part in memory are frames of an acting tree: each part beside has ended.
use Rattle.std.proofs.Common.{ℕ, zero, suc, true, List, [], ◌∷◌, All, sym, subst}
use Rattle.std.proofs.lemmas.List.Elements.{All-nil, All-cons, All-head, All-tail, All-append}
use Rattle.action_terms.specs.Frames.{Frame as FrameMeant, shut_if}
use Rattle.action_sos.specs.Parts.{IsKeptFrame, AreKept}
use Rattle.action_sos.specs.Views.{frame_of, frames_step, frames_of, closed_first, part_of}
use Rattle.action_sos.specs.declared.part.Side.TheVariants as side
use Rattle.action_sos.specs.declared.part.Frame.{Frame}
use Rattle.action_sos.specs.declared.part.Frame.TheVariants as frame
use Rattle.action_sos.specs.declared.part.Frames.{Frames, Frames-F, fold-roll-Frames}
use Rattle.action_sos.specs.declared.part.Frames.TheFolds.{map-Frames, ind-Frames}
use Rattle.action_sos.specs.declared.part.Frames.TheOpen as open_frames
use Rattle.action_sos.specs.declared.part.Part.{Part}
use Rattle.action_sos.proofs.PartsClosed.{shut_if-kept}

pub frame_of-kept : (f : Frame) → IsKeptFrame (frame_of f)
frame_of-kept (frame.Called c) = tt
frame_of-kept (frame.First k d b) = tt
frame_of-kept (frame.Second k d b) = tt
frame_of-kept (frame.Or k d b) = tt
frame_of-kept frame.Cut = tt
frame_of-kept (frame.Trap k b) = tt
frame_of-kept (frame.Over b) = tt
frame_of-kept (frame.Beside k side.Left z) = tt
frame_of-kept (frame.Beside k side.Right z) = tt

abbrev AreKeptFrames : Frames → Type 0
AreKeptFrames v = All IsKeptFrame (frames_of v)

-- one level of frames, those around it being kept
layer-kept : (y : Frames-F ((v : Frames) × AreKeptFrames v))
    → All IsKeptFrame (frames_step (map-Frames Frames (List FrameMeant) frames_of (map-Frames ((v : Frames) × AreKeptFrames v) Frames (λ e. e.0) y)))
layer-kept open_frames.Outermost = All-nil IsKeptFrame
layer-kept (open_frames.Inner f around) =
    All-append IsKeptFrame (frames_of around.now.0) (frame_of f ∷ []) around.now.1 (All-cons IsKeptFrame (frame_of f) [] (frame_of-kept f) (All-nil IsKeptFrame))

frames_of-kept : (v : Frames) → All IsKeptFrame (frames_of v)
frames_of-kept = ind-Frames AreKeptFrames (λ x y is.
    subst (All IsKeptFrame) (sym (fold-roll-Frames (List FrameMeant) frames_step x))
    (subst (λ z. All IsKeptFrame (frames_step (map-Frames Frames (List FrameMeant) frames_of z))) is (layer-kept y)))

closed_first-kept : (n : ℕ) (fs : List FrameMeant) → All IsKeptFrame fs → All IsKeptFrame (closed_first n fs)
closed_first-kept zero fs kept = kept
closed_first-kept (suc n) [] kept = All-nil IsKeptFrame
closed_first-kept (suc n) (f ∷ fs) kept =
    All-cons IsKeptFrame (shut_if true f) (closed_first n fs) (shut_if-kept true f (All-head IsKeptFrame f fs kept)) (closed_first-kept n fs (All-tail IsKeptFrame f fs kept))

pub part_of-kept : (p : Part) → AreKept (part_of p)
part_of-kept p = closed_first-kept p.closed (frames_of p.frames) (frames_of-kept p.frames)
