-- The code of conditions, piece by piece: how much there is, and that it places no label.
use Rattle.std.proofs.Common.{◌≡◌, ℕ, ◌*◌, ◌≤◌, Bool, true, false, not, List, [], ◌∷◌, ◌++◌, slice_index, refl, ◌∙◌, arith, ltb}
use Rattle.rv_code.specs.declared.instruction.BranchOp.{BranchOp}
use Rattle.rv_code.specs.declared.instruction.BranchOp.TheVariants.{Beq, Bne, Bge}
use Rattle.rv_asm.specs.declared.item.Item.{Item}
use Rattle.rv_asm.specs.declared.item.Item.TheVariants.{BranchTo}
use Rattle.action_terms.specs.Actions.{Two, Sum, Difference, Product, Quotient, Remainder, Is, Less, BothOf, EitherOf, Negation, Not, Yielder, NumberLiteral, TruthLiteral, Given, GivenAt, BoundTo, StoredIn, OnTwo, OnOne, ClosureOf}
use Rattle.action_terms.specs.Forms.{yielder_at, IsDatum}
use Rattle.action_terms.specs.Need.{yielder_count}
use Rattle.action_terms.specs.Numbering.{ListedYielder}
use Rattle.rv_yield.specs.Conditions.{turned, literal_condition, compared, tested, condition_items}
use Rattle.rv_yield.specs.Holding.{Places}
use Rattle.rv_yield.specs.Registers.{AreNeeds, is_built, registers_needed, need_of}
use Rattle.rv_yield.specs.YielderCode.{value_items}
use Rattle.rv_yield.proofs.ItemLaws.{IsShort, value-short, short-append, order-short}

-- ---- the order of two operands

module _ (places : Places) (op : BranchOp) (otherwise l : ℕ) (y1 y2 : Yielder) where
  pub compared-later : ltb (registers_needed y1) (registers_needed y2) ≡ true → compared places op otherwise l y1 y2 ≡ value_items places 10 10 l y2 ++ (value_items places 11 11 l y1 ++ BranchTo op 11 10 otherwise ∷ [])
  compared-later q = rw q refl

  pub compared-in_turn : ltb (registers_needed y1) (registers_needed y2) ≡ false → compared places op otherwise l y1 y2 ≡ value_items places 10 10 l y1 ++ (value_items places 11 11 l y2 ++ BranchTo op 10 11 otherwise ∷ [])
  compared-in_turn q = rw q refl

need-built : (y : Yielder) → is_built y ≡ true → need_of y ≡ registers_needed y
need-built y e = rw e refl

-- what is known of a yielder's need
pub need-known : (ls : List ListedYielder) (needs : List ℕ) (y : ℕ) → AreNeeds ls needs → IsDatum ls y → is_built (yielder_at ls y) ≡ true → slice_index needs y ≡ registers_needed (yielder_at ls y)
need-known ls needs y known datum built = known.each y datum ∙ need-built (yielder_at ls y) built

-- ---- how much there is

literal-short : (wanted t : Bool) (otherwise : ℕ) → IsShort 15 (literal_condition wanted t otherwise)
literal-short true true otherwise = record { few = omega arith; unmarked = tt }
literal-short false false otherwise = record { few = omega arith; unmarked = tt }
literal-short true false otherwise = record { few = omega arith; unmarked = (refl, tt) }
literal-short false true otherwise = record { few = omega arith; unmarked = (refl, tt) }

branch-short : (op : BranchOp) (a b l : ℕ) → IsShort 3 (BranchTo op a b l ∷ [])
branch-short op a b l = record { few = omega arith; unmarked = (refl, tt) }

short-more : (m n : ℕ) (is : List Item) → m ≤ n → IsShort m is → IsShort n is
short-more m n is le h = record { few = omega (arith, h.few, le); unmarked = h.unmarked }

module _ (places : Places) (otherwise l : ℕ) where
  compared-short : (f : Two) (op : BranchOp) (y1 y2 : Yielder) → IsShort (15 * yielder_count (OnTwo f y1 y2)) (compared places op otherwise l y1 y2)
  compared-short f op y1 y2 =
      let c1 = yielder_count y1 in
      let c2 = yielder_count y2 in
      order-short (12 * c1) (12 * c2) 3 (15 * yielder_count (OnTwo f y1 y2)) (ltb (registers_needed y1) (registers_needed y2)) 10 _ _ _ _ _ (omega arith) (value-short places y1 10 10 l) (value-short places y1 11 11 l)
      (value-short places y2 10 10 l) (value-short places y2 11 11 l) (λ a b. branch-short op a b otherwise)

  tested-short : (wanted : Bool) (y : Yielder) → 1 ≤ yielder_count y → IsShort (15 * yielder_count y) (tested places wanted otherwise l y)
  tested-short wanted y some = short-append (12 * yielder_count y) 3 (15 * yielder_count y) _ _ (omega (arith, some)) (value-short places y 10 10 l) (branch-short (turned wanted Beq) 10 0 otherwise)

  -- at most 15 instructions for each yielder
  pub condition-short : (y : Yielder) (wanted : Bool) → IsShort (15 * yielder_count y) (condition_items places wanted otherwise l y)
  condition-short (TruthLiteral t) wanted = literal-short wanted t otherwise
  condition-short (OnOne Not y) wanted = short-more (15 * yielder_count y) (15 * yielder_count (OnOne Not y)) _ (omega arith) (condition-short y (not wanted))
  condition-short (OnTwo Is y1 y2) wanted = compared-short Is (turned wanted Bne) y1 y2
  condition-short (OnTwo Less y1 y2) wanted = compared-short Less (turned wanted Bge) y1 y2
  condition-short (NumberLiteral z) wanted = tested-short wanted (NumberLiteral z) (omega arith)
  condition-short (Given s) wanted = tested-short wanted (Given s) (omega arith)
  condition-short (GivenAt s k) wanted = tested-short wanted (GivenAt s k) (omega arith)
  condition-short (BoundTo s t) wanted = tested-short wanted (BoundTo s t) (omega arith)
  condition-short (StoredIn s y) wanted = tested-short wanted (StoredIn s y) (omega arith)
  condition-short (ClosureOf k) wanted = tested-short wanted (ClosureOf k) (omega arith)
  condition-short (OnOne Negation y) wanted = tested-short wanted (OnOne Negation y) (omega arith)
  condition-short (OnTwo Sum y1 y2) wanted = tested-short wanted (OnTwo Sum y1 y2) (omega arith)
  condition-short (OnTwo Difference y1 y2) wanted = tested-short wanted (OnTwo Difference y1 y2) (omega arith)
  condition-short (OnTwo Product y1 y2) wanted = tested-short wanted (OnTwo Product y1 y2) (omega arith)
  condition-short (OnTwo Quotient y1 y2) wanted = tested-short wanted (OnTwo Quotient y1 y2) (omega arith)
  condition-short (OnTwo Remainder y1 y2) wanted = tested-short wanted (OnTwo Remainder y1 y2) (omega arith)
  condition-short (OnTwo BothOf y1 y2) wanted = tested-short wanted (OnTwo BothOf y1 y2) (omega arith)
  condition-short (OnTwo EitherOf y1 y2) wanted = tested-short wanted (OnTwo EitherOf y1 y2) (omega arith)
