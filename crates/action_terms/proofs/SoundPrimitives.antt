-- A node that runs with sound data, bindings and cells makes sound steps.
use Rattle.std.proofs.Common.{◌≡◌, ℕ, ◌<◌, ℤ, true, false, List, [], ◌∷◌, ◌++◌, length, All, sym, subst}
use Rattle.std.specs.Prelude.{Option, Some, None, IfSome}
use Rattle.std.proofs.lemmas.List.Elements.{All-nil, All-head, All-tail}
use Rattle.action_terms.specs.Information.{Token, Datum, Number, Truth, CellOf, Closure, Binds, NoBinds, Data, World}
use Rattle.action_terms.specs.Actions.{Yielder, Item, Primitive, Complete, Failing, Escape, Commit, Regive, Rebind, Give, EscapeWith, Check, Bind, BindRec, Store, Allocate, Receive, Send, Node, Simple, Enact, Apply, Unfolding, Unfold, Furthermore, Both, Phases, Either, Trapping, Branch, Stray, Action, node_at}
use Rattle.action_terms.specs.Yielding.{yields, items_yield}
use Rattle.action_terms.specs.Acting.{End, Done, Esc, Tree, Run, Ended, Called, Par, First, Trap, Over}
use Rattle.action_terms.specs.Steps.{Effect, Allocates, Puts, Step, silent, done, failed, closures_in, closures_in_items, closures_of, making, ends_with, checked, bound, sent, put, received, enacted, branched, performed, run_steps}
use Rattle.action_terms.specs.Proper.{named, bodies_under}
use Rattle.action_terms.specs.Sound.{Known, IsSoundDatum, AreSoundBinds, AreSoundData, AreSoundCells, IsSoundEnd, IsBoth, IsPhases, IsTrapping, IsKnownTree}
use Rattle.action_terms.proofs.AllLaws.{All-first, All-second, All-one, All-two}
use Rattle.action_terms.proofs.SoundBindings.{sound-own_binds}
use Rattle.action_terms.proofs.SoundYielding.{sound-yields, sound-items_yield}

-- what a step puts into a cell is sound
abbrev pub IsSoundEffect : Known → Effect → Type 0
IsSoundEffect known (Puts c x) = IsSoundDatum known x
IsSoundEffect known _ = Unit {0}

-- a cell that the step allocates is there
abbrev pub IsNewKnown : Known → World → Effect → Type 0
IsNewKnown known w Allocates = known.cell (length w.cells)
IsNewKnown known w _ = Unit {0}

-- the bodies that a node names
abbrev pub bodies_named : Node → List ℕ
bodies_named (Unfold c) = c ∷ []
bodies_named n = bodies_under n

-- what is asked of those that are known: bodies are nodes, and each body that a node names is known
pub record Knows (known : Known) (a : Action) : Type 0 where
  pub nodes : (c : ℕ) → known.body c → c < length a
  pub named : (k : ℕ) → All known.body (bodies_named (node_at a k))

-- the tree after a step, and what it puts into a cell, is sound
pub record IsSoundStep (known : Known) (a : Action) (w : World) (n : Step) : Type 0 where
  pub tree : IsNewKnown known w n.effect → IsKnownTree known a n.tree
  pub effect : IsSoundEffect known n.effect

module _ (known : Known) (a : Action) (w : World) where
  -- a step that puts nothing
  pub sound-silent : (t : Tree) → IsKnownTree known a t → IsSoundStep known a w (silent t)
  sound-silent t here = record { tree = λ new. here; effect = tt }

  sound-done : IsKnownTree known a done
  sound-done = (All-nil (IsSoundDatum known), tt)

  sound-ends_with : (f : Data → End) (o : Option Data) → ((d : Data) → AreSoundData known d → IsSoundEnd known (f d)) → IfSome o (AreSoundData known) → IsKnownTree known a (ends_with f o)
  sound-ends_with f (Some d) each here = each d here
  sound-ends_with f None each here = tt

  sound-checked : (o : Option Datum) → IsKnownTree known a (checked o)
  sound-checked (Some (Truth true)) = sound-done
  sound-checked _ = tt

  sound-bound : (t : Token) (o : Option Datum) → IfSome o (IsSoundDatum known) → IsKnownTree known a (bound t o)
  sound-bound t (Some x) here = (All-nil (IsSoundDatum known), (here, tt, tt))
  sound-bound t None here = tt

  sound-sent : (o : Option Datum) → IsSoundStep known a w (sent o)
  sound-sent (Some (Number n)) = record { tree = λ new. sound-done; effect = tt }
  sound-sent _ = sound-silent failed tt

  sound-put : (o1 o2 : Option Datum) → IfSome o1 (IsSoundDatum known) → IsSoundStep known a w (put o1 o2)
  sound-put (Some x) (Some (CellOf c)) here = record { tree = λ new. sound-done; effect = here }
  sound-put _ _ here = sound-silent failed tt

  sound-received : (input : List ℤ) → IsSoundStep known a w (received input)
  sound-received [] = record { tree = λ new. tt; effect = tt }
  sound-received (n ∷ ns) = record { tree = λ new. (All-one (IsSoundDatum known) (Number n) tt, tt); effect = tt }

  sound-enacted : Knows known a → (o1 : Option Data) (o2 : Option Datum) → IfSome o1 (AreSoundData known) → IfSome o2 (IsSoundDatum known) → IsKnownTree known a (enacted o1 o2)
  sound-enacted knows (Some d) (Some (Closure c b own)) data_sound here = (here.0, (knows.nodes c here.0, data_sound, sound-own_binds known c b own here.0 here.1))
  sound-enacted knows _ _ data_sound here = tt

  sound-branched : (o : Option Datum) (l r : ℕ) (d : Data) (b : Binds) → IsKnownTree known a (Run l d b) → IsKnownTree known a (Run r d b) → IsKnownTree known a (branched o l r d b)
  sound-branched (Some (Truth true)) l r d b left right = left
  sound-branched (Some (Truth false)) l r d b left right = right
  sound-branched _ l r d b left right = tt

  module _ (knows : Knows known a) (d : Data) (b : Binds) (data_sound : AreSoundData known d) (binds_sound : AreSoundBinds known b) (cells_sound : AreSoundCells known w.cells) where
    abbrev Within : List ℕ → Type 0
    Within ks = All (λ k. k < length a) ks

    abbrev Bodies : List ℕ → Type 0
    Bodies ks = All known.body ks

    yielded : (y : Yielder) → Bodies (closures_in y) → IfSome (yields y d b w.cells) (IsSoundDatum known)
    yielded = sound-yields known d b w.cells data_sound binds_sound cells_sound

    items_yielded : (is : List Item) → Bodies (closures_in_items is) → IfSome (items_yield is d b w.cells) (AreSoundData known)
    items_yielded = sound-items_yield known d b w.cells data_sound binds_sound cells_sound

    sound-performed : (p : Primitive) → Bodies (closures_of p) → IsSoundStep known a w (performed p d b w)
    sound-performed Complete within = sound-silent done sound-done
    sound-performed Commit within = record { tree = λ new. sound-done; effect = tt }
    sound-performed Failing within = sound-silent failed tt
    sound-performed Escape within = sound-silent (Ended (Esc d)) data_sound
    sound-performed Regive within = sound-silent (Ended (Done d NoBinds)) (data_sound, tt)
    sound-performed Rebind within = sound-silent (Ended (Done [] b)) (All-nil (IsSoundDatum known), binds_sound)
    sound-performed (Give is) within =
        sound-silent _ (sound-ends_with (λ x. Done x NoBinds) (items_yield is d b w.cells) (λ x here. (here, tt)) (items_yielded is within))
    sound-performed (EscapeWith is) within = sound-silent _ (sound-ends_with Esc (items_yield is d b w.cells) (λ x here. here) (items_yielded is within))
    sound-performed (Check y) within = sound-silent _ (sound-checked (yields y d b w.cells))
    sound-performed (Bind t y) within = sound-silent _ (sound-bound t (yields y d b w.cells) (yielded y within))
    sound-performed (BindRec t c) within =
        sound-silent _ (sound-bound t (Some (Closure c b (Some t))) (All-head known.body c [] within, binds_sound))
    sound-performed (Store y1 y2) within =
        sound-put (yields y1 d b w.cells) (yields y2 d b w.cells) (yielded y1 (All-first known.body (closures_in y1) (closures_in y2) within))
    sound-performed Allocate within = record { tree = λ new. (All-one (IsSoundDatum known) (CellOf (length w.cells)) new, tt); effect = tt }
    sound-performed (Send y) within = sound-sent (yields y d b w.cells)
    sound-performed Receive within = sound-received w.input

    sound-making : (bodies : List ℕ) (n : Step) → IsSoundStep known a w n → IsSoundStep known a w (making bodies b n)
    sound-making bodies n here = record { tree = here.tree; effect = here.effect }

    -- a part runs with what the whole was given and received
    runs-first : (k : ℕ) (ks : List ℕ) → Within (k ∷ ks) → IsKnownTree known a (Run k d b)
    runs-first k ks within = (All-head (λ j. j < length a) k ks within, data_sound, binds_sound)

    runs-second : (l r : ℕ) → Within (l ∷ r ∷ []) → IsKnownTree known a (Run r d b)
    runs-second l r within = runs-first r [] (All-tail (λ j. j < length a) l (r ∷ []) within)

    one-step : (n : Step) → IsSoundStep known a w n → All (IsSoundStep known a w) (n ∷ [])
    one-step = All-one (IsSoundStep known a w)

    one-silent : (t : Tree) → IsKnownTree known a t → All (IsSoundStep known a w) (silent t ∷ [])
    one-silent t here = one-step (silent t) (sound-silent t here)

    -- a body is called with what the whole was given and received
    calls : (c : ℕ) → Bodies (c ∷ []) → IsKnownTree known a (Called c (Run c d b))
    calls c bodies = let body = All-head known.body c [] bodies in (body, (knows.nodes c body, data_sound, binds_sound))

    pub sound-run_steps : (n : Node) (k : ℕ) → node_at a k ≡ n → Within (named n) → Bodies (bodies_named n) → All (IsSoundStep known a w) (run_steps n k d b w)
    sound-run_steps (Simple p) k found within bodies = one-step _ (sound-making (closures_of p) (performed p d b w) (sound-performed p bodies))
    sound-run_steps (Enact y) k found within bodies =
        one-step _ (sound-making (closures_in y) _ (sound-silent _
        (sound-enacted knows (Some []) (yields y d b w.cells) (All-nil (IsSoundDatum known)) (yielded y bodies))))
    sound-run_steps (Apply y is) k found within bodies =
        let first = All-first known.body (closures_in y) (closures_in_items is) bodies in
        let second = All-second known.body (closures_in y) (closures_in_items is) bodies in
        one-step _ (sound-making (closures_in y ++ closures_in_items is) _ (sound-silent _
        (sound-enacted knows (items_yield is d b w.cells) (yields y d b w.cells) (items_yielded is second) (yielded y first))))
    sound-run_steps (Unfolding c) k found within bodies = one-silent (Called c (Run c d b)) (calls c bodies)
    sound-run_steps (Unfold c) k found within bodies = one-silent (Called c (Run c d b)) (calls c bodies)
    sound-run_steps (Furthermore l) k found within bodies = one-silent (Over (Run l d b) b) (runs-first l [] within, binds_sound)
    sound-run_steps (Both j l r) k found within bodies =
        one-silent (Par k (Run l d b) (Run r d b)) (subst IsBoth (sym found) tt, runs-first l (r ∷ []) within, runs-second l r within)
    sound-run_steps (Phases q l r) k found within bodies =
        one-silent (First k (Run l d b) d b) (subst IsPhases (sym found) tt, runs-first l (r ∷ []) within, data_sound, binds_sound)
    sound-run_steps (Either l r) k found within bodies =
        let left = runs-first l (r ∷ []) within in
        let right = runs-second l r within in
        All-two (IsSoundStep known a w) _ _ (record { tree = λ new. (left, right.0, data_sound, binds_sound); effect = tt }) (record { tree = λ new. (right, left.0, data_sound, binds_sound); effect = tt })
    sound-run_steps (Trapping l r) k found within bodies =
        one-silent (Trap k (Run l d b) b) (subst IsTrapping (sym found) tt, runs-first l (r ∷ []) within, binds_sound)
    sound-run_steps (Branch y l r) k found within bodies =
        let parts = All-second (λ j. j < length a) (closures_in y) (l ∷ r ∷ []) within in
        one-silent (branched (yields y d b w.cells) l r d b) (sound-branched (yields y d b w.cells) l r d b (runs-first l (r ∷ []) parts) (runs-second l r parts))
    sound-run_steps Stray k found within bodies = All-nil (IsSoundStep known a w)
