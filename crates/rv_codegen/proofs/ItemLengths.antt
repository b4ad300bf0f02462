-- How many instructions the code of data has, and that it places no label.
use Rattle.std.proofs.Common.{ℕ, ◌*◌, ◌<◌, ◌≤◌, List, [], ◌∷◌, length, take, drop, map, arith, length-append, length-take, length-drop}
use Rattle.std.proofs.lemmas.List.Elements.{All-drop, All-take}
use Rattle.rv_asm.specs.declared.item.Item.TheVariants.{Plain}
use Rattle.rv_code.specs.declared.instruction.Inst.TheVariants.{Op}
use Rattle.rv_code.specs.declared.instruction.OpOp.TheVariants.{Add}
use Rattle.rv_asm.specs.Pieces.{load_constant}
use Rattle.rv_asm.proofs.Constants.{length-load_constant}
use Rattle.rv_asm.proofs.Sending.{total-plain}
use Rattle.action_terms.specs.Actions.{Item, Single, Them, Yielder}
use Rattle.action_terms.specs.Need.{items_yielder_count, yielder_count}
use Rattle.action_terms.proofs.AllLaws.{All-member}
use Rattle.rv_yield.specs.YielderCode.{load_items, store_items, stored_items}
use Rattle.rv_yield.proofs.ItemLaws.{AreQuiet, IsShort, none-short, quiet-append, quiet-load, quiet-store, short-append, unmarked-plain, value-short}
use Rattle.rv_yield.proofs.Stored.{length-store}
use Rattle.rv_yield.proofs.Targets.{some-count}
use Rattle.rv_codegen.specs.GivenItems.{alone, give_items, move_items, moves_items, point_items, single_items}
use Rattle.rv_codegen.specs.ItemCode.{AreReached}
use Rattle.rv_codegen.proofs.MovedWords.{length-moves}

quiet-move : (x o : ℕ) → AreQuiet (move_items x o)
quiet-move x o = quiet-append (load_items 10 x) (store_items o) (quiet-load 10 x) (quiet-store o)

quiet-moves : (xs os : List ℕ) → AreQuiet (moves_items xs os)
quiet-moves [] os = tt
quiet-moves (x ∷ xs) [] = tt
quiet-moves (x ∷ xs) (o ∷ os) = quiet-append (move_items x o) (moves_items xs os) (quiet-move x o) (quiet-moves xs os)

-- at most 8 instructions for each word that is moved
pub moves-short : (xs os : List ℕ) → AreReached xs → AreReached os → IsShort 512 (map Plain (moves_items xs os))
moves-short xs os near_x near_o = record {
  few = omega (arith, total-plain (moves_items xs os), length-moves xs os (λ x m. All-member (λ y. y < 33554432) x xs m near_x.near) (λ o m. All-member (λ y. y < 33554432) o os m near_o.near), near_o.few);
  unmarked = unmarked-plain (moves_items xs os) (quiet-moves xs os);
}

stored-short : (given : List ℕ) (o l : ℕ) (y : Yielder) → IsShort (22 * yielder_count y) (stored_items (alone given) o l y)
stored-short given o l y =
    short-append (12 * yielder_count y) 10 (22 * yielder_count y) _ _ (omega (arith, some-count y)) (value-short (alone given) y 10 10 l)
    (record { few = omega (arith, total-plain (store_items o), length-store o); unmarked = unmarked-plain (store_items o) (quiet-store o) })

single-short : (given out : List ℕ) (l : ℕ) (y : Yielder) → IsShort (520 * yielder_count y) (single_items given out l y)
single-short given [] l y = let s = value-short (alone given) y 10 10 l in record { few = omega (arith, s.few); unmarked = s.unmarked }
single-short given (o ∷ out) l y = let s = stored-short given o l y in record { few = omega (arith, s.few); unmarked = s.unmarked }

take-reached : (n : ℕ) (os : List ℕ) → AreReached os → AreReached (take n os)
take-reached n os h = record { few = omega (arith, length-take n os, h.few); near = All-take (λ o. o < 33554432) n os h.near }

drop-reached : (n : ℕ) (os : List ℕ) → AreReached os → AreReached (drop n os)
drop-reached n os h = record { few = omega (arith, length-drop n os, h.few); near = All-drop (λ o. o < 33554432) n os h.near }

-- at most 520 for each yielder
pub give-short : (given out : List ℕ) (l : ℕ) (is : List Item) → AreReached given → AreReached out → IsShort (520 * items_yielder_count is) (give_items given out l is)
give-short given out l [] near_given near_out = none-short 0
give-short given out l (Single y ∷ is) near_given near_out =
    short-append (520 * yielder_count y) (520 * items_yielder_count is) (520 * items_yielder_count (Single y ∷ is)) _ _ (omega arith) (single-short given out l y) (give-short given (drop 1 out) l is near_given (drop-reached 1 out near_out))
give-short given out l (Them ∷ is) near_given near_out =
    short-append 512 (520 * items_yielder_count is) (520 * items_yielder_count (Them ∷ is)) _ _ (omega arith) (moves-short given (take (length given) out) near_given (take-reached (length given) out near_out)) (give-short given (drop (length given) out) l is near_given (drop-reached (length given) out near_out))

-- the address of a row
pub length-point : (os : List ℕ) → length (point_items os) ≤ 9
length-point [] = omega arith
length-point (o ∷ os) = omega (arith, length-append (load_constant 10 (8 * o)) (Op Add 10 10 2 ∷ []), length-load_constant 10 (8 * o))
