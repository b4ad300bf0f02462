-- Code that was appended for a yielder evaluates it, on both machines and whatever is emitted behind it.
use Rattle.std.proofs.Common.{◌≡◌, ⊎_elim, ℕ, ◌+◌, ◌*◌, ◌<◌, ◌≤◌, true, All, List, ◌++◌, None, refl, sym, ap, ◌∙◌, subst, arith, inl, append_assoc}
use Rattle.rv_code.specs.declared.instruction.Inst.{Inst}
use Rattle.rv_asm.specs.Assembly.{Listing, total, spot, address_of}
use Rattle.rv_asm.specs.PieceRuns.{LeadsAt, code_with, end_of}
use Rattle.rv_asm.specs.WordMachine.{WordState, Goes, run_words}
use Rattle.rv_asm.proofs.Bridge.{run-goes}
use Rattle.rv_asm.proofs.Labels.{total-append, spot_le-total}
use Rattle.rv_asm.proofs.LabelsArrive.{piece-stands}
use Rattle.action_terms.specs.Actions.{Yielder}
use Rattle.action_terms.specs.Need.{yielder_count}
use Rattle.action_terms.specs.Yielding.{yields}
use Rattle.rv_yield.specs.Evaluates.{label_address, Comes, Evaluated, Evaluates}
use Rattle.rv_yield.specs.Holding.{Places}
use Rattle.rv_yield.specs.Registers.{is_built, registers_needed, HasWords}
use Rattle.rv_yield.specs.Fronts.{extended}
use Rattle.rv_yield.specs.YielderCode.{value_items}
use Rattle.rv_yield.proofs.Evaluation.{value-comes}
use Rattle.rv_yield.proofs.Given.{IsNear}
use Rattle.rv_yield.proofs.Steps.{Arrives}
use Rattle.rv_yield.proofs.Valued.{Known, valued-cases}

-- a run of words is a run of the machine of the table
pub leads-at : (base : ℕ) (code : List Inst) (n : ℕ) (c d : WordState) → run_words base code n c ≡ Goes d → LeadsAt base code n c d
leads-at base code n c d runs = record {
  words = runs;
  table = λ count layout bounded. (run-goes base code count layout n c d bounded runs).0;
}

pub comes-at : (base : ℕ) (code : List Inst) (limit r : ℕ) (c : WordState) (p q : ℕ) → p ≡ q → Arrives base code limit r r c p → Comes base code limit r c q
comes-at base code limit r c p q same a = record {
  instructions = a.count;
  few = a.few;
  end = a.end;
  leads = leads-at base code a.count c a.end a.runs;
  at = a.at ∙ same;
  others = λ k lt. a.others k lt (omega arith);
  words = a.words;
  input = a.input;
  output = a.output;
}

pub evaluates :
    (places : Places) (r l : ℕ) (y : Yielder) (old : Listing) → IsNear places → is_built y ≡ true → HasWords y → 10 ≤ r → r + registers_needed y ≤ 26 →
    Evaluates places r l y old (extended old (value_items places r r l y))
unfolding comes-at
evaluates places r l y old near_places built words low room behind c base f heap d b cells can =
    let piece = value_items places r r l y in
    let new = extended old piece in
    let items = new.items ++ behind in
    let code = code_with new behind in
    let limit = 12 * yielder_count y in
    let nothing = label_address new behind l in
    let parts : items ≡ old.items ++ (piece ++ behind) = append_assoc old.items piece behind in
    let sizes : total items ≡ total old.items + (total piece + total behind) = omega (arith, ap total parts, total-append old.items (piece ++ behind), total-append piece behind) in
    let next : address_of (total old.items + total piece) ≡ end_of new = omega (arith, total-append old.items piece) in
    let stands = piece-stands items old.items piece behind parts in
    let outcome =
    value-comes base code (spot items) l (omega (arith, spot_le-total items l, can.near)) heap places near_places f d b cells y built words can.slots can.suited r r low room (inl refl) (total old.items) c (omega (arith, can.near, sizes)) can.before stands can.finds in
    ⊎_elim
    (λ (p : Known base code heap limit r r c (address_of (total old.items + total piece)) (yields y d b cells)).
    subst (Evaluated base heap code limit r c (end_of new) nothing) (sym p.is) (comes-at base code limit r c _ _ next p.arrives, p.stands))
    (λ (p : (yields y d b cells ≡ None) × Arrives base code limit r r c nothing).
    subst (Evaluated base heap code limit r c (end_of new) nothing) (sym p.0) (comes-at base code limit r c _ _ refl p.1))
    (valued-cases base code heap limit r r c (address_of (total old.items + total piece)) nothing (yields y d b cells) outcome)
