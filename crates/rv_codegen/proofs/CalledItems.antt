-- How much code a call is, and that it places one label.
use Rattle.std.proofs.Common.{◌≡◌, ◌≢◌, ℕ, ◌+◌, ◌*◌, ◌≤◌, false, List, [], ◌∷◌, ◌++◌, length, map, get_or, refl, arith, length-append}
use Rattle.rv_code.specs.declared.instruction.Inst.TheVariants.{Op, OpImm, Load}
use Rattle.rv_code.specs.declared.instruction.OpOp.TheVariants.{Add}
use Rattle.rv_code.specs.declared.instruction.OpImmOp.TheVariants.{Addi}
use Rattle.rv_code.specs.declared.instruction.LoadOp.TheVariants.{Ld}
use Rattle.rv_code.specs.declared.instruction.BranchOp.TheVariants.{Bltu}
use Rattle.rv_asm.specs.Assembly.{is_placed, total}
use Rattle.rv_asm.specs.Pieces.{copy_words, load_constant}
use Rattle.rv_asm.specs.declared.item.Item.{Item}
use Rattle.rv_asm.specs.declared.item.Item.TheVariants.{Address, BranchTo, Jump, Mark, Plain}
use Rattle.rv_asm.proofs.Constants.{length-load_constant}
use Rattle.rv_asm.proofs.Copies.{length-copy_words}
use Rattle.rv_asm.proofs.Labels.{total-append}
use Rattle.sort_rules.proofs.Choices.{of_choice}
use Rattle.std.proofs.Common.{ltb, pos}
use Rattle.rv_codegen.specs.AddressItems.{address_items}
use Rattle.rv_codegen.specs.Blocks.{NodeWords, calls, full_label, start_of, stop_of}
use Rattle.rv_codegen.specs.CallItems.{call_items, enter_items, fetch_items, room_items}
use Rattle.rv_codegen.specs.CaughtItems.{caught_items}
use Rattle.rv_codegen.proofs.CallCode.{length-room}
use Rattle.rv_codegen.proofs.Fresh.{fresh-mark, is_placed-append, is_placed-plain, total-plain}
use Rattle.rv_codegen.proofs.FrameAddresses.{length-address}

-- ---- how much it is

length-caught : (os : List ℕ) → length os ≤ 64 → length (caught_items os) ≤ 137
length-caught os few =
    let first = get_or os 0 0 in
    of_choice (ltb (first + length os) 257) (copy_words (length os) 11 10 0 2 first) (load_constant 5 (8 * first) ++ (Op Add 5 5 2 ∷ copy_words (length os) 11 10 0 5 0)) (λ is. length is ≤ 137)
    (λ e. omega (arith, length-copy_words (length os) 11 10 0 2 first))
    (λ e. omega (arith, length-append (load_constant 5 (8 * first)) (Op Add 5 5 2 ∷ copy_words (length os) 11 10 0 5 0), length-load_constant 5 (8 * first), length-copy_words (length os) 11 10 0 5 0))

length-enter : (given wanted : List ℕ) → length wanted ≤ 64 → length (enter_items given wanted) ≤ 149
length-enter given wanted few =
    omega (arith, length-append (address_items (get_or given 0 0)) (OpImm Addi 2 6 (pos 0) ∷ caught_items wanted), length-address (get_or given 0 0), length-caught wanted few)

length-fetch : (left wanted : List ℕ) → length wanted ≤ 64 → length (fetch_items left wanted) ≤ 147
length-fetch left wanted few =
    omega (arith, length-append (address_items (get_or left 0 0)) (Load Ld 2 2 (pos 8) ∷ caught_items wanted), length-address (get_or left 0 0), length-caught wanted few)

abbrev behind_room : (back body : ℕ) → (given wanted : List ℕ) → List Item
behind_room back body given wanted = BranchTo Bltu 5 7 full_label ∷ Address 5 back ∷ (map Plain (enter_items given wanted) ++ (Jump body ∷ []))

total-call : (mine theirs : ℕ) (given wanted : List ℕ) (back body : ℕ) → length wanted ≤ 64 → total (call_items mine theirs given wanted full_label back body) ≤ 175
total-call mine theirs given wanted back body few =
    omega (arith, total-append (map Plain (room_items mine theirs)) (behind_room back body given wanted), total-plain (room_items mine theirs), length-room mine theirs, total-append (map Plain (enter_items given wanted)) (Jump body ∷ []), total-plain (enter_items given wanted), length-enter given wanted few)

pub total-calls : (node body : NodeWords) (k c : ℕ) → length body.given ≤ 64 → length node.out ≤ 64 → total (calls node body k c) ≤ 330
total-calls node body k c few_given few_out =
    let call = call_items node.frame body.frame node.given body.given full_label (stop_of k) (start_of c) in
    let fetch = fetch_items body.out node.out in
    omega (arith, total-append call (Mark (stop_of k) ∷ map Plain fetch), total-call node.frame body.frame node.given body.given (stop_of k) (start_of c) few_given, total-plain fetch, length-fetch body.out node.out few_out)

-- ---- its labels

module _ (items : List Item) where
  call-unplaced : (mine theirs : ℕ) (given wanted : List ℕ) (back body l : ℕ) → is_placed (call_items mine theirs given wanted full_label back body) l ≡ false
  call-unplaced mine theirs given wanted back body l =
      is_placed-append (map Plain (room_items mine theirs)) (behind_room back body given wanted) l (is_placed-plain (room_items mine theirs) l)
      (is_placed-append (map Plain (enter_items given wanted)) (Jump body ∷ []) l (is_placed-plain (enter_items given wanted) l) refl)

  -- the call itself places none
  pub call-keeps : (mine theirs : ℕ) (given wanted : List ℕ) (back body l : ℕ) → is_placed items l ≡ false → is_placed (items ++ call_items mine theirs given wanted full_label back body) l ≡ false
  call-keeps mine theirs given wanted back body l h = is_placed-append items (call_items mine theirs given wanted full_label back body) l h (call-unplaced mine theirs given wanted back body l)

  -- with what stands behind it, it places the stop of its node
  pub calls-keep : (node body : NodeWords) (k c l : ℕ) → l ≢ stop_of k → is_placed items l ≡ false → is_placed (items ++ calls node body k c) l ≡ false
  calls-keep node body k c l ne h =
      let fetch = fetch_items body.out node.out in
      let call = call_items node.frame body.frame node.given body.given full_label (stop_of k) (start_of c) in
      is_placed-append items (calls node body k c) l h
      (is_placed-append call (Mark (stop_of k) ∷ map Plain fetch) l (call-unplaced node.frame body.frame node.given body.given (stop_of k) (start_of c) l)
      (is_placed-append (Mark (stop_of k) ∷ []) (map Plain fetch) l (fresh-mark [] (stop_of k) l (λ e. ne (omega (arith, e))) refl) (is_placed-plain fetch l)))
