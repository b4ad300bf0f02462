-- Frames stay those of an acting tree after a commitment within them.
use Rattle.std.proofs.Common.{◌≡◌, Bool, true, false, List, [], ◌∷◌, All, map, refl, ap, ap₂}
use Rattle.std.proofs.lemmas.List.Elements.{All-map, All-weaker}
use Rattle.action_terms.specs.Frames.{Frame, InCalled, InParLeft, InParRight, InFirst, InSecond, InOr, InCut, InTrap, InOver, InTail, shut_if}
use Rattle.action_terms.proofs.Contexts.{shut_all-false}
use Rattle.action_sos.specs.Parts.{Part, IsKeptFrame, closes}

pub shut_if-kept : (q : Bool) (f : Frame) → IsKeptFrame f → IsKeptFrame (shut_if q f)
shut_if-kept true (InOr k d b) kept = tt
shut_if-kept false (InOr k d b) kept = tt
shut_if-kept q (InCalled c) kept = kept
shut_if-kept q (InParLeft k y) kept = kept
shut_if-kept q (InParRight k x) kept = kept
shut_if-kept q (InFirst k d b) kept = kept
shut_if-kept q (InSecond k d b) kept = kept
shut_if-kept q InCut kept = kept
shut_if-kept q (InTrap k b) kept = kept
shut_if-kept q (InOver b) kept = kept
shut_if-kept q (InTail n) kept = kept

pub shut-kept : (q : Bool) (fs : List Frame) → All IsKeptFrame fs → All IsKeptFrame (map (shut_if q) fs)
shut-kept q fs kept = All-map IsKeptFrame (shut_if q) fs (All-weaker IsKeptFrame (λ f. IsKeptFrame (shut_if q f)) (shut_if-kept q) fs kept)

-- nothing changes without a commitment
pub shut-false : (fs : List Frame) → map (shut_if false) fs ≡ fs
shut-false [] = refl
shut-false (f ∷ fs) = let h = shut_all-false (f ∷ []) in ap₂ ◌∷◌ (let e : shut_if false f ≡ f = cc in e) (shut-false fs)

pub closes-false : (p : Part) → closes false p ≡ p
closes-false p = ap (λ l. record p { frames = l }) (shut-false p.frames)
