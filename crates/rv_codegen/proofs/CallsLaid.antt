-- What is asked of calls: of the code, of places, and what the sorts tell of bodies.
use Rattle.std.proofs.Common.{◌≡◌, ⊎_elim, ℕ, ◌^◌, ◌<◌, ◌≤◌, List, [], length, get_or, sym, subst, refl}
use Rattle.rv_asm.specs.Assembly.{address_of}
use Rattle.rv_asm.specs.Pieces.{exit_with}
use Rattle.rv_asm.specs.WordMachine.{Has}
use Rattle.action_terms.specs.Acting.{Run}
use Rattle.action_terms.specs.Actions.{node_at}
use Rattle.action_terms.specs.Frames.{Frame, plug}
use Rattle.action_terms.specs.Information.{Token, Binds, Data, World}
use Rattle.action_terms.specs.Performances.{OneOf}
use Rattle.action_terms.specs.Steps.{Step}
use Rattle.action_terms.proofs.Parts.{Reaches}
use Rattle.rv_codegen.specs.Blocks.{full_label}
use Rattle.rv_codegen.specs.CallItems.{return_items}
use Rattle.rv_codegen.proofs.CallStands.{CallStands, FetchStands}
use Rattle.rv_codegen.proofs.Holding.{in_row}
use Rattle.rv_codegen.proofs.NodeParts.{Calls, CallsByNumber, IsNode}
use Rattle.rv_codegen.proofs.RestPoints.{Laid}
use Rattle.rv_codegen.proofs.Settings.{Point, Setting, code, point, exit}

module _ (s : Setting) where
  pub record LaidCalls : Type 0 where
    pub laid : Laid s
    pub stands : (n c : ℕ) → CallsByNumber (node_at s.action n) c → CallStands s n c
    -- where a call returns to, however the body is named
    pub fetches : (n c : ℕ) → s.procedures.calls n c → FetchStands s n c
    pub may : (n c : ℕ) → CallsByNumber (node_at s.action n) c → s.procedures.calls n c
    pub body : (n c : ℕ) → s.procedures.calls n c → IsNode (node_at s.action c)
    -- a body is given as many data as it has words for them, behind the first words of its frame, and it receives no bindings
    pub takes : (steps : List Step) (fs : List Frame) (n c : ℕ) (d : Data) (b : Binds) (w : World) → s.procedures.calls n c → Reaches s.action s.input steps (plug fs (Run c d b)) w → length d ≡ length (s.places.given c)
    pub behind : (n c o : ℕ) → s.procedures.calls n c → OneOf o (s.places.given c) → 32 ≤ o
    pub few : (c : ℕ) → length (s.places.given c) ≤ s.widest
    pub unbound : (c : ℕ) → s.places.bound c ≡ []
    -- and it binds no more than the node
    pub binds : (n c : ℕ) → s.procedures.calls n c → (t : Token) → s.places.BindsAt c t → s.places.BindsAt n t
    -- the node completes as the body does
    pub ends : (steps : List Step) (fs : List Frame) (n c : ℕ) (d : Data) (b : Binds) (w : World) → CallsByNumber (node_at s.action n) c → Reaches s.action s.input steps (plug fs (Run n d b)) w → (e : Data) (u : Binds) → s.Ends c e u → s.Ends n e u
    -- where data are left stands in a row
    pub row : (k : ℕ) → s.places.out k ≡ in_row (get_or (s.places.out k) 0 0) (length (s.places.out k))
    -- a body that has completed goes to the way back
    pub returns : Point
    pub near_returns : returns.place < 2 ^ 28
    pub goes_back : (n c : ℕ) → s.procedures.calls n c → exit s c ≡ returns
    pub way_back : Has (code s) (address_of returns.place) return_items
    pub full_exits : Has (code s) (address_of (point s full_label).place) (exit_with 3)

  pub is-call : (n c : ℕ) → CallsByNumber (node_at s.action n) c → Calls (node_at s.action n) c
  is-call n c e = ⊎_elim (λ x. subst (λ m. Calls m c) (sym x) refl) (λ x. subst (λ m. Calls m c) (sym x) refl) e
