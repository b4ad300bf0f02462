-- The outermost frames of a part, in which each alternative is closed.
use Rattle.std.proofs.Common.{◌≡◌, ℕ, zero, suc, ◌≤◌, true, List, [], ◌∷◌, ◌++◌, map, length, refl, sym, ap, ap₂, ◌∙◌, arith}
use Rattle.std.proofs.lemmas.List.{map-append}
use Rattle.action_terms.specs.Frames.{Frame, InOr, shut_if}
use Rattle.action_sos.specs.Views.{closed_first}

pub length-closed_first : (n : ℕ) (fs : List Frame) → length (closed_first n fs) ≡ length fs
length-closed_first zero fs = refl
length-closed_first (suc n) [] = refl
length-closed_first (suc n) (f ∷ fs) = ap suc (length-closed_first n fs)

-- frames further in stay as they are
pub closed_first-behind : (n : ℕ) (fs gs : List Frame) → n ≤ length fs → closed_first n (fs ++ gs) ≡ closed_first n fs ++ gs
closed_first-behind zero fs gs most = refl
closed_first-behind (suc n) [] gs most = absurd (omega arith)
closed_first-behind (suc n) (f ∷ fs) gs most = ap (λ l. shut_if true f ∷ l) (closed_first-behind n fs gs (omega arith))

closed_first-length : (fs : List Frame) → closed_first (length fs) fs ≡ map (shut_if true) fs
closed_first-length [] = refl
closed_first-length (f ∷ fs) = ap (λ l. shut_if true f ∷ l) (closed_first-length fs)

shut-twice : (f : Frame) → shut_if true (shut_if true f) ≡ shut_if true f
shut-twice (InOr k d b) = refl
shut-twice _ = refl

-- all of them closed
pub closed_first-shut : (n : ℕ) (fs : List Frame) → map (shut_if true) (closed_first n fs) ≡ closed_first (length fs) fs
closed_first-shut zero fs = sym (closed_first-length fs)
closed_first-shut (suc n) [] = refl
closed_first-shut (suc n) (f ∷ fs) = ap₂ ◌∷◌ (shut-twice f) (closed_first-shut n fs)

-- the innermost frame as it stands, where it is among them and where it isn't
pub closed_first-inmost : (n : ℕ) (fs : List Frame) (f g : Frame) → n ≡ suc (length fs) → g ≡ shut_if true f → closed_first n (fs ++ f ∷ []) ≡ closed_first (length fs) fs ++ g ∷ []
closed_first-inmost n fs f g all e =
    ap (λ m. closed_first m (fs ++ f ∷ [])) (all ∙ sym (length-inmost fs f))
    ∙ closed_first-length (fs ++ f ∷ []) ∙ map-append (shut_if true) fs (f ∷ []) ∙ ap₂ (λ l h. l ++ h ∷ []) (sym (closed_first-length fs)) (sym e)
  where
    length-inmost : (fs : List Frame) (f : Frame) → length (fs ++ f ∷ []) ≡ suc (length fs)
    length-inmost [] f = refl
    length-inmost (g ∷ fs) f = ap suc (length-inmost fs f)
