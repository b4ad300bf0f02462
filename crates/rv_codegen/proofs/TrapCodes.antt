-- The code of a trap stands: it opens the record of the node, closes it where the first part has completed, and copies what that has escaped with.
use Rattle.std.proofs.Common.{◌≡◌, ℕ, ◌+◌, ◌<◌, List, [], ◌∷◌, ◌++◌, get_or, map, sym, ap, ◌∙◌, subst, arith, inr, append_assoc}
use Rattle.rv_asm.specs.Arrivals.{LabelsStand}
use Rattle.rv_asm.specs.Assembly.{address_of, spot, total, code_of}
use Rattle.rv_asm.specs.WordMachine.{Has}
use Rattle.rv_asm.specs.declared.item.Item.{Item}
use Rattle.rv_asm.specs.declared.item.Item.TheVariants.{Plain, Mark, Jump}
use Rattle.rv_asm.proofs.Sending.{total-plain}
use Rattle.rv_prelude.specs.PieceRuns.{Comes, quietly}
use Rattle.rv_prelude.specs.Pieces.{close_trap, open_trap_items}
use Rattle.rv_prelude.specs.Region.{with_record, with_trap, without_trap}
use Rattle.rv_prelude.proofs.Closing.{closes-trap}
use Rattle.rv_prelude.proofs.Cursors.{Cursor, cursor-within, over, over-mark, over-jump, mark-at, jump-stands, plain-stands}
use Rattle.rv_prelude.proofs.Opening.{appended-end, opens-trap}
use Rattle.rv_codegen.specs.Blocks.{joint_of, start_of, stop_of}
use Rattle.rv_codegen.specs.CaughtItems.{caught_items}
use Rattle.rv_codegen.specs.TrapItems.{traps}
use Rattle.rv_codegen.proofs.EitherCode.{all, is-next, old, piece-end}
use Rattle.rv_codegen.proofs.RestPoints.{Laid}
use Rattle.rv_codegen.proofs.Settings.{Setting, stop, exit}
use Rattle.rv_codegen.proofs.Trapping.{TrapCode}

module _ (s : Setting) (laid : Laid s) (labels : LabelsStand s.items) where
  pub trap-stands : (n l r : ℕ) → s.places.keep n < 33554432 → exit s l ≡ stop s n → (m0 : ℕ) → spot s.items (start_of n) ≡ m0 → (behind : List Item) → Cursor s.items m0 (traps (s.places.keep n) n (get_or s.exits n 0) l r (s.places.given r) ++ behind) → TrapCode s n l r
  trap-stands n l r small first m0 start_at behind cursor =
      let its = s.items in
      let keep = s.places.keep n in
      let copying = caught_items (s.places.given r) in
      let copies = map Plain copying in
      let begin = Jump (start_of r) ∷ behind in
      let catching = Mark (joint_of n) ∷ (copies ++ begin) in
      let leaving = Jump (get_or s.exits n 0) ∷ catching in
      let opens = open_trap_items keep (joint_of n) in
      let closes = map Plain (close_trap keep) in
      let entering = Jump (start_of l) ∷ Mark (stop_of n) ∷ (closes ++ leaving) in
      let enter = Jump (start_of l) ∷ [] in
      let ends = Mark (stop_of n) ∷ closes in
      let tail = Jump (get_or s.exits n 0) ∷ Mark (joint_of n) ∷ (copies ++ (Jump (start_of r) ∷ [])) in
      let same : (((opens ++ enter) ++ ends) ++ tail) ++ behind ≡ opens ++ entering =
      append_assoc ((opens ++ enter) ++ ends) tail behind
      ∙ ap (λ xs. ((opens ++ enter) ++ ends) ++ (Jump (get_or s.exits n 0) ∷ Mark (joint_of n) ∷ xs)) (append_assoc copies (Jump (start_of r) ∷ []) behind)
      ∙ append_assoc (opens ++ enter) ends leaving ∙ append_assoc opens enter (ends ++ leaving) in
      let c0 : Cursor its m0 (opens ++ entering) = subst (Cursor its m0) same cursor in
      let m1 = m0 + total opens in
      let c1 : Cursor its m1 entering = over its m0 opens entering c0 in
      let c2 : Cursor its (m1 + 2) (Mark (stop_of n) ∷ (closes ++ leaving)) = over-jump its m1 (start_of l) (Mark (stop_of n) ∷ (closes ++ leaving)) c1 in
      let c3 : Cursor its (m1 + 2) (closes ++ leaving) = over-mark its (m1 + 2) (stop_of n) (closes ++ leaving) c2 in
      let m3 = m1 + 2 + total closes in
      let c4 : Cursor its m3 leaving = over its (m1 + 2) closes leaving c3 in
      let m5 = m3 + 2 in
      let c5 : Cursor its m5 catching = over-jump its m3 (get_or s.exits n 0) catching c4 in
      let c6 : Cursor its m5 (copies ++ begin) = over-mark its m5 (joint_of n) (copies ++ begin) c5 in
      let m7 = m5 + total copies in
      let c7 : Cursor its m7 begin = over its m5 copies begin c6 in
      let stop_at : spot its (stop_of n) ≡ m1 + 2 = mark-at its labels (m1 + 2) (stop_of n) (closes ++ leaving) c2 in
      let joint_at : spot its (joint_of n) ≡ m5 = mark-at its labels m5 (joint_of n) (copies ++ begin) c5 in
      let opener = old its m0 opens entering c0 laid.small in
      let closer = old its (m1 + 2) closes leaving c3 laid.small in
      record {
        opened = record { place = m1; rank = 0 };
        near_opened = omega (arith, cursor-within its m1 entering c1, laid.small);
        opens_record = λ f chains c at place has.
            let came = opens-trap keep (joint_of n) small opener entering s.base f chains c (is-next its m0 opens entering c0 laid.small c (at ∙ ap address_of start_at)) place has in
            let there : address_of (total (opener.items ++ opens)) ≡ address_of m1 = appended-end opener opens ∙ piece-end its m0 opens entering c0 laid.small in
            subst (λ is. Comes s.base (code_of is) 21 c (quietly c (address_of m1) (with_trap s.base (f + keep) (with_record s.base (f + keep) f chains (spot is (joint_of n)) c.words))))
            (all its m0 opens entering c0 laid.small)
            (subst (λ a. Comes s.base (code_of ((opener.items ++ opens) ++ entering)) 21 c (quietly c a (with_trap s.base (f + keep) (with_record s.base (f + keep) f chains (spot ((opener.items ++ opens) ++ entering) (joint_of n)) c.words)))) there came);
        enter = inr (jump-stands its m1 (start_of l) (Mark (stop_of n) ∷ (closes ++ leaving)) c1);
        first_exit = first;
        closed = record { place = m3; rank = 0 };
        near_closed = omega (arith, cursor-within its m3 leaving c4, laid.small);
        closes_record = λ f c at place.
            let came = closes-trap keep small closer leaving s.base f c (is-next its (m1 + 2) closes leaving c3 laid.small c (at ∙ ap address_of stop_at)) place in
            let there : address_of (total (closer.items ++ closes)) ≡ address_of m3 = appended-end closer closes ∙ piece-end its (m1 + 2) closes leaving c3 laid.small in
            subst (λ is. Comes s.base (code_of is) 15 c (quietly c (address_of m3) (without_trap (f + keep) c.words)))
            (all its (m1 + 2) closes leaving c3 laid.small)
            (subst (λ a. Comes s.base (code_of ((closer.items ++ closes) ++ leaving)) 15 c (quietly c a (without_trap (f + keep) c.words))) there came);
        leave = inr (jump-stands its m3 (get_or s.exits n 0) catching c4);
        copies = subst (λ m. Has (code_of its) (address_of m) copying) (sym joint_at) (plain-stands its m5 copying begin c6);
        copied = record { place = m7; rank = 0 };
        copied_is = omega (arith, joint_at, total-plain copying);
        near_copied = omega (arith, cursor-within its m7 begin c7, laid.small);
        begins = inr (jump-stands its m7 (start_of r) behind c7);
      }
