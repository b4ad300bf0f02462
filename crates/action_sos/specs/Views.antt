-- What ends, frames and parts in memory stand for.
use Rattle.std.specs.Prelude.{ℕ, zero, suc, true, List, [], ◌∷◌, ◌++◌}
use Rattle.action_terms.specs.Acting.{End as EndMeant, Done, Esc, Fail, Run, Ended}
use Rattle.action_values.specs.Values.{data_of, bindings_of}
use Rattle.action_terms.specs.Frames.{Frame as FrameMeant, InCalled, InParLeft, InParRight, InFirst, InSecond, InOr, InCut, InTrap, InOver, shut_if}
use Rattle.action_sos.specs.Parts.{Focus as FocusMeant, Leaf, Parts, Part as PartMeant}
use Rattle.action_sos.specs.declared.ends.End.{End}
use Rattle.action_sos.specs.declared.ends.End.TheVariants as end
use Rattle.action_sos.specs.declared.part.Side.TheVariants as side
use Rattle.action_sos.specs.declared.part.Frame.{Frame}
use Rattle.action_sos.specs.declared.part.Frame.TheVariants as frame
use Rattle.action_sos.specs.declared.part.Focus.{Focus}
use Rattle.action_sos.specs.declared.part.Focus.TheVariants as focus
use Rattle.action_sos.specs.declared.part.Frames.{Frames, Frames-F, fold-Frames}
use Rattle.action_sos.specs.declared.part.Frames.TheOpen as open_frames
use Rattle.action_sos.specs.declared.part.Part.{Part}

abbrev pub end_of : End → EndMeant
end_of (end.Done d b) = Done (data_of d.now) (bindings_of b.now)
end_of (end.Escaped d) = Esc (data_of d.now)
end_of end.Failed = Fail

abbrev pub frame_of : Frame → FrameMeant
frame_of (frame.Called c) = InCalled c
frame_of (frame.First k d b) = InFirst k (data_of d.now) (bindings_of b.now)
frame_of (frame.Second k d b) = InSecond k (data_of d.now) (bindings_of b.now)
frame_of (frame.Or k d b) = InOr k (data_of d.now) (bindings_of b.now)
frame_of frame.Cut = InCut
frame_of (frame.Trap k b) = InTrap k (bindings_of b.now)
frame_of (frame.Over b) = InOver (bindings_of b.now)
frame_of (frame.Beside k side.Left z) = InParRight k (Ended (end_of z))
frame_of (frame.Beside k side.Right z) = InParLeft k (Ended (end_of z))

abbrev pub focus_of : Focus → FocusMeant
focus_of (focus.Run k d b) = Leaf (Run k (data_of d.now) (bindings_of b.now))
focus_of (focus.Ended z) = Leaf (Ended (end_of z))
focus_of (focus.Parts k) = Parts k

-- one level of the frames around a part
abbrev pub frames_step : Frames-F (List FrameMeant) → List FrameMeant
frames_step open_frames.Outermost = []
frames_step (open_frames.Inner f around) = around.now ++ frame_of f ∷ []

-- the frames, the outermost first
abbrev pub frames_of : Frames → List FrameMeant
frames_of = fold-Frames (List FrameMeant) frames_step

-- in so many of the outermost frames each alternative is closed
abbrev pub closed_first : ℕ → List FrameMeant → List FrameMeant
closed_first zero fs = fs
closed_first (suc n) [] = []
closed_first (suc n) (f ∷ fs) = shut_if true f ∷ closed_first n fs

abbrev pub part_of : Part → PartMeant
part_of p = record { frames = closed_first p.closed (frames_of p.frames); focus = focus_of p.focus }
