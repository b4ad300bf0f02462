-- Code that was appended for a condition decides by it, on both machines and whatever is emitted behind it.
use Rattle.std.proofs.Common.{◌≡◌, ℕ, ◌+◌, ◌*◌, ◌<◌, ◌≤◌, true, false, All, List, ◌++◌, Option, Some, None, refl, ap, arith, append_assoc}
use Rattle.rv_code.specs.declared.instruction.Inst.{Inst}
use Rattle.rv_asm.specs.Assembly.{Listing, total, spot, address_of}
use Rattle.rv_asm.specs.PieceRuns.{code_with, end_of}
use Rattle.rv_asm.specs.WordMachine.{WordState}
use Rattle.rv_asm.proofs.Labels.{total-append, spot_le-total}
use Rattle.rv_asm.proofs.LabelsArrive.{piece-stands}
use Rattle.action_terms.specs.Information.{Datum, Number, Truth, CellOf, Closure}
use Rattle.action_terms.specs.Actions.{Yielder}
use Rattle.action_terms.specs.Need.{yielder_count}
use Rattle.action_terms.specs.Yielding.{yields}
use Rattle.rv_yield.specs.Conditions.{condition_items}
use Rattle.rv_yield.specs.Evaluates.{label_address, Decided, Decides}
use Rattle.rv_yield.specs.Fronts.{extended}
use Rattle.rv_yield.specs.Holding.{Places}
use Rattle.rv_yield.specs.Registers.{is_built, registers_needed, HasWords}
use Rattle.rv_yield.proofs.Deciding.{Chosen, condition-comes}
use Rattle.rv_yield.proofs.Given.{IsNear}
use Rattle.rv_yield.proofs.Evaluated.{comes-at}

module _ (base : ℕ) (code : List Inst) (at : ℕ → ℕ) where
  chosen-decided :
      (limit : ℕ) (c : WordState) (next next' otherwise nothing : ℕ) (v : Option Datum) → next ≡ next' → Chosen base code at true limit c next otherwise nothing v → Decided base code limit c next' otherwise nothing v
  chosen-decided limit c next next' otherwise nothing (Some (Truth true)) e h = comes-at base code limit 10 c next next' e h
  chosen-decided limit c next next' otherwise nothing (Some (Truth false)) e h = comes-at base code limit 10 c otherwise otherwise refl h
  chosen-decided limit c next next' otherwise nothing (Some (Number n)) e h = absurd h
  chosen-decided limit c next next' otherwise nothing (Some (CellOf k)) e h = absurd h
  chosen-decided limit c next next' otherwise nothing (Some (Closure k b own)) e h = absurd h
  chosen-decided limit c next next' otherwise nothing None e h = comes-at base code limit 10 c nothing nothing refl h

pub decides :
    (places : Places) (o l : ℕ) (y : Yielder) (old : Listing) → IsNear places → is_built y ≡ true → HasWords y → registers_needed y ≤ 16 →
    Decides places o l y old (extended old (condition_items places true o l y))
decides places o l y old near_places built words few behind c base f heap d b cells can sorted =
    let piece = condition_items places true o l y in
    let new = extended old piece in
    let items = new.items ++ behind in
    let code = code_with new behind in
    let limit = 24 * yielder_count y in
    let parts : items ≡ old.items ++ (piece ++ behind) = append_assoc old.items piece behind in
    let sizes : total items ≡ total old.items + (total piece + total behind) = omega (arith, ap total parts, total-append old.items (piece ++ behind), total-append piece behind) in
    let next : address_of (total old.items + total piece) ≡ end_of new = omega (arith, total-append old.items piece) in
    let stands = piece-stands items old.items piece behind parts in
    chosen-decided base code (spot items) limit c (address_of (total old.items + total piece)) (end_of new) (label_address new behind o) (label_address new behind l) (yields y d b cells) next
    (condition-comes base code (spot items) o l (omega (arith, spot_le-total items o, can.near)) (omega (arith, spot_le-total items l, can.near)) heap places near_places f d b cells y true built words can.slots can.suited few sorted (total old.items) c
    (omega (arith, can.near, sizes)) can.before stands can.finds)
