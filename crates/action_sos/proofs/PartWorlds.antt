-- What a part's own steps take of the world.
use Rattle.std.proofs.Common.{◌≡◌, List, [], ◌∷◌, ◌++◌, All, map, refl, sym, ap, ◌∙◌}
use Rattle.std.proofs.lemmas.List.Elements.{All-head, All-tail}
use Rattle.action_terms.specs.Information.{World}
use Rattle.action_terms.specs.Actions.{Action}
use Rattle.action_terms.specs.Acting.{End, Ended}
use Rattle.action_terms.specs.Steps.{open_steps}
use Rattle.action_terms.specs.Frames.{Frame, InParLeft, InParRight, InTail, wrap, framed}
use Rattle.action_sos.specs.Parts.{inside, IsKeptFrame, own_steps, focus_steps, part_steps}
use Rattle.action_values.specs.Values.{storage_of}
use Rattle.action_sos.specs.Views.{end_of, focus_of, part_of}
use Rattle.action_sos.specs.Moves.{IsOutside}
use Rattle.action_sos.specs.declared.ends.End.{End as EndMade}
use Rattle.action_sos.specs.declared.moves.Outside.{Outside}
use Rattle.action_sos.specs.declared.part.Focus.TheVariants as focus
use Rattle.action_sos.specs.declared.part.Part.{Part}
use Rattle.action_sos.proofs.FramesOpen.{IsTreeFrame-kept, wrap-going, open-wrapped}
use Rattle.action_sos.proofs.KeptInMemory.{part_of-kept}

-- where nothing is told of the world
abbrev pub empty_world : World
empty_world = record { cells = []; output = []; input = [] }

-- a world with this storage and this input
abbrev pub world_of : Outside → World
world_of o = record { cells = storage_of o.cells.now; output = []; input = o.input.now }

pub IsOutside-world_of : (o : Outside) → IsOutside o (world_of o)
IsOutside-world_of o = record { cells = refl; input = refl }

-- where a part has ended, its whole takes nothing of the world
wrapped-world : (a : Action) (v w : World) (f : Frame) (z : End) → IsKeptFrame f → open_steps a v (wrap f (Ended z)) ≡ open_steps a w (wrap f (Ended z))
wrapped-world a v w (InParLeft k (Ended y)) z kept = refl
wrapped-world a v w (InParLeft k _) z kept = absurd kept
wrapped-world a v w (InParRight k (Ended x)) z kept = refl
wrapped-world a v w (InParRight k _) z kept = absurd kept
wrapped-world a v w (InTail n) z kept = absurd kept
wrapped-world a v w _ z kept = refl

inside-world : (a : Action) (v w : World) (fs : List Frame) (z : End) → All IsKeptFrame fs → open_steps a v (inside fs (Ended z)) ≡ open_steps a w (inside fs (Ended z))
inside-world a v w [] z kept = refl
inside-world a v w (f ∷ []) z kept = wrapped-world a v w f z (All-head IsKeptFrame f [] kept)
inside-world a v w (f ∷ g ∷ fs) z kept =
    let here = All-head IsKeptFrame f (g ∷ fs) kept in
    let within = All-tail IsKeptFrame f (g ∷ fs) kept in
    let going = wrap-going g (inside fs (Ended z)) (IsTreeFrame-kept g (All-head IsKeptFrame g fs within)) in
    open-wrapped a v f (inside (g ∷ fs) (Ended z)) here going
    ∙ ap (λ l. map (framed f) l ++ own_steps f) (inside-world a v w (g ∷ fs) z within)
    ∙ sym (open-wrapped a w f (inside (g ∷ fs) (Ended z)) here going)

pub ended-world : (a : Action) (v w : World) (p : Part) (z : EndMade) → p.focus ≡ focus.Ended z → part_steps a v (part_of p) ≡ part_steps a w (part_of p)
ended-world a v w p z is =
    let fs = (part_of p).frames in
    ap (λ q. focus_steps a v fs (focus_of q)) is ∙ inside-world a v w fs (end_of z) (part_of-kept p) ∙ sym (ap (λ q. focus_steps a w fs (focus_of q)) is)
