-- What stands within frames of a sound tree is sound.
use Rattle.std.proofs.Common.{◌≡◌, ℕ, ◌<◌, List, [], ◌∷◌, ◌++◌, length, subst}
use Rattle.std.proofs.lemmas.List.{length-map}
use Rattle.action_terms.specs.Actions.{Action}
use Rattle.action_terms.specs.Acting.{Tree, Run}
use Rattle.action_terms.specs.Information.{Data, Binds}
use Rattle.action_terms.specs.Meaning.{node_with, items_from, action_of}
use Rattle.action_terms.specs.Sound.{Known, any_node, IsKnownTree, IsSoundTree}
use Rattle.action_terms.specs.Frames.{Frame, InCalled, InParLeft, InParRight, InFirst, InSecond, InOr, InCut, InTrap, InOver, InTail, wrap}
use Rattle.action_sos.specs.Parts.{inside}
use Rattle.action_terms.specs.Numbering.{Listed}
use Rattle.action_sos.proofs.FramesOpen.{inside-behind}

wrapped-known : (known : Known) (a : Action) (f : Frame) (t : Tree) → IsKnownTree known a (wrap f t) → IsKnownTree known a t
wrapped-known known a (InCalled c) t s = s.1
wrapped-known known a (InParLeft k y) t s = s.1
wrapped-known known a (InParRight k x) t s = s.2
wrapped-known known a (InFirst k d b) t s = s.1
wrapped-known known a (InSecond k d1 b1) t s = s.3
wrapped-known known a (InOr k2 d b) t s = s.0
wrapped-known known a InCut t s = s
wrapped-known known a (InTrap k b) t s = s.1
wrapped-known known a (InOver b) t s = s.0
wrapped-known known a (InTail n) t s = s

pub inside-known : (known : Known) (a : Action) (fs : List Frame) (t : Tree) → IsKnownTree known a (inside fs t) → IsKnownTree known a t
inside-known known a [] t s = s
inside-known known a (f ∷ fs) t s = inside-known known a fs t (wrapped-known known a f (inside fs t) s)

pub inside-sound : (a : Action) (fs : List Frame) (t : Tree) → IsSoundTree a (inside fs t) → IsSoundTree a t
inside-sound a fs t s = inside-known (any_node a) a fs t s

-- with the innermost frame
pub inmost-sound : (a : Action) (fs : List Frame) (f : Frame) (t : Tree) → IsSoundTree a (inside (fs ++ f ∷ []) t) → IsSoundTree a (wrap f t)
inmost-sound a fs f t s = inside-sound a fs (wrap f t) (subst (IsSoundTree a) (inside-behind fs (f ∷ []) t) s)

length-action_of : (g : Listed) → length (action_of g) ≡ length g.nodes
length-action_of g = length-map g.nodes (node_with (items_from 0 g.yielders))

-- a node that is to be performed is one of the graph
pub run-there : (g : Listed) (fs : List Frame) (k : ℕ) (d : Data) (b : Binds) → IsSoundTree (action_of g) (inside fs (Run k d b)) → k < length g.nodes
run-there g fs k d b s = subst (λ n. k < n) (length-action_of g) (inside-sound (action_of g) fs (Run k d b) s).0
