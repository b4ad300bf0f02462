-- Turns of a way: the code goes from one place to another, if it isn't there already.
use Rattle.std.proofs.Common.{◌≡◌, ℕ, ◌+◌, ◌*◌, ◌≤◌, List, ◌∷◌, length, ◌∙◌, arith, inl, inr, ⊎_elim}
use Rattle.rv_asm.specs.Assembly.{address_of}
use Rattle.rv_asm.specs.WordMachine.{WordState}
use Rattle.rv_asm.proofs.Moments.{quiet-advance}
use Rattle.action_terms.specs.Acting.{Tree}
use Rattle.action_terms.specs.Performances.{messages_bytes}
use Rattle.action_terms.specs.Steps.{Step}
use Rattle.action_terms.specs.Frames.{Frame, plug}
use Rattle.action_terms.proofs.Parts.{Reaches}
use Rattle.rv_codegen.proofs.Configurations.{Configuration, depth, performances, pending, leaving}
use Rattle.rv_codegen.proofs.InputLeft.{Left, left-same}
use Rattle.rv_codegen.proofs.RestPoints.{Laid, RestsAt, IsAt, GoesOn, near}
use Rattle.rv_codegen.proofs.Settings.{Way, Went, way-runs, Setting, code, point}

module _ (s : Setting) (laid : Laid s) where
  -- a way from one label to another, behind which so many steps have led to what rests there
  pub record Going (c : Configuration) (state : WordState) (from to : ℕ) (steps : List Step) (frames : List Frame) (focus : Tree) : Type 0 where
    pub shown : state.output ≡ messages_bytes c.world.output
    pub left : Left state.input c.world.input
    pub at : state.pc ≡ address_of (point s from).place
    pub way : Way (code s) (point s from) (point s to)
    pub rests : (g : Went s.base (code s) state (point s from) (point s to)) → RestsAt s steps c.world.cells (point s to).rank g.end frames focus
    pub reached : Reaches s.action s.input steps (plug frames focus) c.world
    pub paid : leaving + pending frames + s.factor * length c.steps ≤ s.factor * length steps + pending c.frames

  pub goes-by-way : (c : Configuration) (state : WordState) (from to : ℕ) (steps : List Step) (frames : List Frame) (focus : Tree) → Going c state from to steps frames focus → GoesOn s (point s from).rank state c
  goes-by-way c state from to steps frames focus x =
      let g = way-runs s.base (code s) state (point s from) (point s to) (near s laid from) (near s laid to) x.at x.way in
      inl
      (quiet-advance s.base (code s) (performances s) depth (IsAt s) (point s from).rank state c
      (record {
        count = g.count;
        to = g.end;
        next = record { steps = steps; frames = frames; focus = focus; world = c.world };
        next_rank = (point s to).rank;
        some = ⊎_elim (λ z. inl z) (λ z. inr (inl z)) g.some;
        runs = g.runs;
        quiet = g.output;
        output = g.output ∙ x.shown;
        related = record { rests = x.rests g; shown = g.output ∙ x.shown; left = left-same {ys = g.end.input} g.input x.left };
        reached = x.reached;
        paid = omega (arith, g.few, x.paid);
      }))

  -- a step pays for a way
  pub step-pays : (c : Configuration) (n : Step) (frames : List Frame) → pending frames ≤ pending c.frames + leaving → leaving + pending frames + s.factor * length c.steps ≤ s.factor * length (n ∷ c.steps) + pending c.frames
  step-pays c n frames few = omega (arith, few, s.ample)
