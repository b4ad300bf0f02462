-- The points of performances that code follows, and what is paid for them.
use Rattle.std.proofs.Common.{◌≡◌, ◌⊎◌, ℕ, ◌+◌, ◌≤◌, Bool, true, false, List, [], ◌∷◌, length, refl, ap, ap₂, arith}
use Rattle.rv_asm.specs.Meanings.{Meaning}
use Rattle.action_terms.specs.Information.{World}
use Rattle.action_terms.specs.Acting.{Done, Esc, Fail, Tree, Run, Ended}
use Rattle.action_terms.specs.Need.{Passes}
use Rattle.action_terms.specs.Performances.{messages_bytes}
use Rattle.action_terms.specs.Steps.{Step}
use Rattle.action_terms.specs.Frames.{Frame, InParLeft, InParRight, InOr, InTail, plug, shut_if, shut_all}
use Rattle.action_terms.proofs.Contexts.{shut_all-false}
use Rattle.action_terms.proofs.Parts.{Reaches}
use Rattle.rv_codegen.proofs.Settings.{Setting}

-- a point of a performance: the steps so far, and what is performed next, within frames
pub record Configuration : Type 0 where
  pub steps : List Step
  pub frames : List Frame
  pub focus : Tree
  pub world : World

-- how much stands around
abbrev pub depth : Configuration → ℕ
depth c = length c.frames

-- the exit code of an end
abbrev pub EndCode : Tree → ℕ → Type 0
EndCode (Ended (Done d b)) code = code ≡ 0
EndCode (Ended Fail) code = code ≡ 1
EndCode (Ended (Esc d)) code = code ≡ 2
EndCode _ code = ⊥

-- ---- what waits for the code

-- the instructions that leave a part which has completed without a step of the action
abbrev pub leaving : ℕ
leaving = 2

-- what a part that is still to be performed costs once the other part of its node has completed
abbrev pub waiting_cost : Tree → ℕ
waiting_cost (Run k d b) = leaving
waiting_cost _ = 0

-- leaving such a frame costs instructions and no step
abbrev pub pending_one : Frame → ℕ
pending_one (InParLeft n y) = waiting_cost y
pending_one (InParRight n x) = waiting_cost x
pending_one (InTail n) = leaving
pending_one _ = 0

abbrev pub pending : List Frame → ℕ
pending [] = 0
pending (f ∷ fs) = pending_one f + pending fs

pending_one-shut_if : (f : Frame) → pending_one (shut_if true f) ≡ pending_one f
pending_one-shut_if (InOr k2 d b) = refl
pending_one-shut_if _ = refl

pending-shut_all : (fs : List Frame) → pending (shut_all true fs) ≡ pending fs
pending-shut_all [] = refl
pending-shut_all (f ∷ fs) = ap₂ ◌+◌ (pending_one-shut_if f) (pending-shut_all fs)

-- a commitment closes alternatives, for which nothing waits
pub pending-shut : (q : Bool) (fs : List Frame) → pending (shut_all q fs) ≡ pending fs
pending-shut true fs = pending-shut_all fs
pending-shut false fs = ap pending (shut_all-false fs)

-- ---- how code follows performances

-- the factor covers what is done before the first step
pub start-ample : (factor : ℕ) → 400 ≤ factor → 64 ≤ factor
start-ample factor h = omega arith

-- the whole action has ended, or the part passes the capacity
abbrev pub EndsWith : Setting → Configuration → ℕ → Type 0
EndsWith s c code =
    ((c.frames ≡ []) × EndCode c.focus code)
    ⊎ ((code ≡ 3) × Passes s.action s.sizes s.stack s.room c.steps (record { tree = plug c.frames c.focus; world = c.world }))

-- how code follows the performances of an action over an input
abbrev pub performances : Setting → Meaning
performances s = record {
  Configuration = Configuration;
  steps = λ c. length c.steps;
  output = λ c. messages_bytes c.world.output;
  pending = λ c. pending c.frames;
  IsReached = λ c. Reaches s.action s.input c.steps (plug c.frames c.focus) c.world;
  EndsWith = EndsWith s;
  factor = s.factor;
  start = 64;
  ample = start-ample s.factor s.ample;
}
