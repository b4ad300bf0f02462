-- What is given to a node that is to be performed stands where the code of yielders looks for it.
use Rattle.std.proofs.Common.{◌≡◌, ⊎_elim, ℕ, ◌+◌, ◌<◌, List, [], ◌∷◌, All, length, Option, Some, None, sym, ap, subst, ◌∙◌, arith}
use Rattle.std.proofs.lemmas.Bool.Decides.{eqb_tells}
use Rattle.std.proofs.lemmas.List.Elements.{All-cons, All-nil}
use Rattle.action_terms.specs.Performances.{OneOf, Here, Later}
use Rattle.std.specs.Prelude.{slice_get}
use Rattle.action_terms.specs.Information.{Datum}
use Rattle.rv_yield.specs.Evaluates.{Finds, HasCells, HasFrame, HoldsCells}
use Rattle.rv_yield.specs.Holding.{HoldsContent}
use Rattle.rv_codegen.specs.GivenItems.{alone}
use Rattle.rv_codegen.proofs.Units.{CellWords}
use Rattle.rv_codegen.proofs.Holding.{Holds}
use Rattle.rv_codegen.proofs.RestPoints.{Laid, Starting}
use Rattle.rv_codegen.proofs.Settings.{Setting, frame_words}

pub all-members : {X : Type 0} (P : X → Type 0) (xs : List X) → ((x : X) → OneOf x xs → P x) → All P xs
all-members P [] h = All-nil P
all-members P (x ∷ xs) h = All-cons P x xs (h x Here) (all-members P xs (λ y m. h y (Later m)))

module _ (s : Setting) (laid : Laid s) (x : Starting s) where
  -- the region's words are as many as it has
  pub words-many : length x.state.words ≡ s.count
  words-many = ap length x.runs.here.stands.words_are ∙ x.runs.here.region.size

  pub has-frame : HasFrame s.base x.runs.here.f x.state
  has-frame = record { aligned = laid.aligned; below = omega (arith, laid.below, words-many); frame = x.runs.here.stands.frame_at }

  -- a word of the frame is one of the region
  pub frame-inside : (o : ℕ) → o < frame_words s x.k → x.runs.here.f + o < length x.state.words
  frame-inside o less = omega (arith, less, words-many, x.runs.here.clear, laid.units_inside)

  -- each cell has a unit of its own
  pub has-cells : HasCells x.runs.here.heap (length x.state.words)
  has-cells =
      let u = x.runs.here.units_are in
      record {
        inside = λ c i p. omega (arith, u.now.held.cell_free c i p, u.now.within, words-many, laid.units_inside);
        apart = λ j k i p q. ⊎_elim (λ same. same.1) (λ other. absurd (⊎_elim (λ a. omega (arith, a)) (λ a. omega (arith, a)) (u.now.held.cells_apart j k i i p q other.1))) (eqb_tells j k);
      }

  -- and its words stand for what the cell holds
  unit-holds : (words : List ℕ) (place : ℕ) (o : Option Datum) → CellWords s x.runs.here.heap words place o → HoldsContent s.base x.runs.here.heap words place o
  unit-holds words place None h = h
  unit-holds words place (Some v) h = h

  holds-cells : HoldsCells s.base x.runs.here.heap x.state.words x.world.cells
  holds-cells =
      let held = x.runs.here.units_are.now.held in
      subst (λ ws. HoldsCells s.base x.runs.here.heap ws x.world.cells) (sym x.runs.here.stands.words_are)
      (record { many = held.many; content = λ m place o p q. unit-holds x.runs.here.words place o (held.cell m place o p q) })

  -- all units of cells lie behind the frame
  pub units-behind : (o number place : ℕ) → o < frame_words s x.k → slice_get x.runs.here.heap.cells number ≡ Some place → x.runs.here.f + o < place
  units-behind o number place less p = omega (arith, less, x.runs.here.clear, x.runs.here.units_are.now.held.cell_low number place p)

  pub finds-given : ((o : ℕ) → OneOf o (s.places.given x.k) → o < frame_words s x.k) → Finds s.base x.runs.here.heap (alone (s.places.given x.k)) x.runs.here.f x.state x.d x.b x.world.cells
  finds-given inside = record {
    frame = has-frame;
    inside = all-members (λ o. x.runs.here.f + o < length x.state.words) (s.places.given x.k) (λ o m. frame-inside o (inside o m));
    slots_inside = All-nil (λ s. x.runs.here.f + s.offset < length x.state.words);
    holds = subst (λ ws. Holds s.base x.runs.here.heap ws x.runs.here.f (s.places.given x.k) x.d) (sym x.runs.here.stands.words_are) x.runs.given;
    binds = tt;
    cells = has-cells;
    contents = holds-cells;
  }
