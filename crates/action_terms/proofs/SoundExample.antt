-- A small action on which the laws of states hold, so that no premise is one that nothing meets.
use Rattle.std.proofs.Common.{◌≡◌, ℕ, zero, suc, ◌<◌, ℤ, pos, List, [], ◌∷◌, length, refl, All, arith}
use Rattle.std.specs.Prelude.{◌≢◌}
use Rattle.std.proofs.lemmas.List.Elements.{All-nil, All-same, All-from_recursion}
use Rattle.action_terms.specs.Information.{NoBinds}
use Rattle.action_terms.specs.Actions.{NumberLiteral, Primitive, Complete, Send, Chain, AndThen, Simple, Phases, Unfold, Stray, Action, node_at}
use Rattle.action_terms.specs.Acting.{End, Tree, Run, Ended, First, Second}
use Rattle.action_terms.specs.Steps.{Sends, Step, closures_of, silent, with_effect, done}
use Rattle.action_terms.specs.Performances.{State, start, Here, IsPart}
use Rattle.action_terms.specs.Proper.{IsProperNode, IsBody, IsProper}
use Rattle.action_terms.specs.Sound.{IsSound}
use Rattle.action_terms.proofs.AllLaws.{All-two}
use Rattle.action_terms.proofs.SoundStates.{sound-reached}
use Rattle.action_terms.proofs.NeverStuck.{never-stuck}

-- `send 1 and then complete`
abbrev example : Action
example = Phases AndThen 1 2 ∷ Simple (Send (NumberLiteral (pos 1))) ∷ Simple Complete ∷ []

there-phases : (q : Chain) (l r : ℕ) → Phases q l r ≢ Stray
there-phases q l r stray = cc

there-simple : (p : Primitive) → Simple p ≢ Stray
there-simple p stray = cc

parts-within : All (λ k. k < 3) (1 ∷ 2 ∷ [])
parts-within = All-two (λ k. k < 3) 1 2 (omega arith) (omega arith)

proper-simple : (p : Primitive) → closures_of p ≡ [] → IsProperNode 3 (Simple p)
proper-simple p none = record { there = there-simple p; within = All-same (λ k. k < 3) (closures_of p) [] none (All-nil (λ k. k < 3)) }

root-there : 0 < length example
root-there = omega arith

none-repeated : (k c : ℕ) → node_at example k ≡ Unfold c → IsBody example c
none-repeated zero c e = cc
none-repeated (suc zero) c e = cc
none-repeated (suc (suc zero)) c e = cc
none-repeated (suc (suc (suc k))) c e = cc

proper-example : IsProper example
proper-example =
    record {
      root = root-there;
      nodes =
          All-from_recursion (IsProperNode 3) example
          (record { there = there-phases AndThen 1 2; within = parts-within }, (proper-simple (Send (NumberLiteral (pos 1))) refl, (proper-simple Complete refl, tt)));
      repeated = none-repeated;
    }

-- the steps of its performance, the last of them first, and the states between them
abbrev at : Tree → List ℤ → State
at t output = record { tree = t; world = record { cells = []; output = output; input = [] } }

abbrev steps : List Step
steps =
    silent done
    ∷ silent (Second 0 [] NoBinds done)
    ∷ silent (Second 0 [] NoBinds (Run 2 [] NoBinds))
    ∷ with_effect (Sends (pos 1)) (First 0 done [] NoBinds)
    ∷ silent (First 0 (Run 1 [] NoBinds) [] NoBinds)
    ∷ []

performance : IsPart example [] steps (at done (pos 1 ∷ []))
performance =
    let begun = at (First 0 (Run 1 [] NoBinds) [] NoBinds) [] in
    let has_sent = at (First 0 done [] NoBinds) (pos 1 ∷ []) in
    let goes_on = at (Second 0 [] NoBinds (Run 2 [] NoBinds)) (pos 1 ∷ []) in
    let completed = at (Second 0 [] NoBinds done) (pos 1 ∷ []) in
    (completed, (goes_on, (has_sent, (begun, (start [], refl, Here, refl), Here, refl), Here, refl), Here, refl), Here, refl)

last-sound : IsSound example (at done (pos 1 ∷ []))
last-sound = sound-reached example [] steps (at done (pos 1 ∷ [])) proper-example performance

last-ended : (z : End) × (done ≡ Ended z)
last-ended = never-stuck example (at done (pos 1 ∷ [])) proper-example last-sound refl
