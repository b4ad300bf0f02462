-- The code of an alternative stands: it opens the record of the node, and closes it where the first arm has completed.
use Rattle.std.proofs.Common.{◌≡◌, ℕ, suc, ◌+◌, ◌^◌, ◌<◌, List, [], ◌∷◌, ◌++◌, get_or, map, sym, ap, ◌∙◌, subst, arith, inr, append_assoc}
use Rattle.rv_asm.specs.Arrivals.{LabelsStand}
use Rattle.rv_asm.specs.Assembly.{Listing, address_of, spot, total, code_of}
use Rattle.rv_asm.specs.WordMachine.{WordState}
use Rattle.rv_asm.specs.declared.item.Item.{Item}
use Rattle.rv_asm.specs.declared.item.Item.TheVariants.{Plain, Mark, Jump}
use Rattle.action_terms.specs.Actions.{Either}
use Rattle.rv_prelude.specs.Items.{extended}
use Rattle.rv_prelude.specs.PieceRuns.{Comes, IsNext, quietly}
use Rattle.rv_prelude.specs.Pieces.{close_alternative, open_alternative_items}
use Rattle.rv_prelude.specs.Region.{with_alternative, with_record, without_alternative}
use Rattle.rv_prelude.proofs.Closing.{closes-alternative, leaves-alternative}
use Rattle.rv_prelude.proofs.Cursors.{Cursor, cursor-within, over, over-mark, over-jump, mark-at, jump-stands}
use Rattle.rv_prelude.proofs.Opening.{appended-end, opens-alternative}
use Rattle.rv_codegen.specs.Blocks.{front_of, start_of, stop_of, opening}
use Rattle.rv_codegen.proofs.Alternating.{Alternative}
use Rattle.rv_codegen.proofs.RestPoints.{Laid}
use Rattle.rv_codegen.proofs.Settings.{Setting, node_words, stop, exit}
use Rattle.rv_codegen.proofs.Standing.{NodeStands}

-- a piece that stands in some items, as if it had just been appended
module _ (items : List Item) (n : ℕ) (piece behind : List Item) (c : Cursor items n (piece ++ behind)) (small : total items < 2 ^ 28) where
  abbrev pub old : Listing
  old = record { items = c.before; labels = 0 }

  -- they are all of the items
  pub all : (c.before ++ piece) ++ behind ≡ items
  all = append_assoc c.before piece behind ∙ sym c.split

  pub is-next : (w : WordState) → w.pc ≡ address_of n → IsNext old (extended old piece) behind w
  is-next w at = record { before = at ∙ ap address_of (sym c.count); near = subst (λ is. total is < 2 ^ 28) (sym all) small }

  pub piece-end : address_of (total c.before + total piece) ≡ address_of (n + total piece)
  piece-end = ap (λ m. address_of (m + total piece)) c.count

module _ (s : Setting) (laid : Laid s) (labels : LabelsStand s.items) where
  pub alternative-stands : (n l r : ℕ) → s.places.keep n < 33554432 → exit s l ≡ stop s n → NodeStands s.items (node_words s) s.exits n (Either l r) → Alternative s n l r
  alternative-stands n l r small first stands =
      let its = s.items in
      let keep = s.places.keep n in
      let leaving = Jump (get_or s.exits n 0) ∷ (opening (suc n) ++ stands.behind) in
      let opens = open_alternative_items keep (front_of r) in
      let closes = map Plain (close_alternative keep) in
      let entering = Jump (start_of l) ∷ Mark (stop_of n) ∷ (closes ++ leaving) in
      let enter = Jump (start_of l) ∷ [] in
      let ends = Mark (stop_of n) ∷ closes in
      let same : (((opens ++ enter) ++ ends) ++ (Jump (get_or s.exits n 0) ∷ [])) ++ (opening (suc n) ++ stands.behind) ≡ opens ++ entering =
      append_assoc ((opens ++ enter) ++ ends) (Jump (get_or s.exits n 0) ∷ []) (opening (suc n) ++ stands.behind) ∙ append_assoc (opens ++ enter) ends leaving ∙ append_assoc opens enter (ends ++ leaving) in
      let m0 = stands.place in
      let c0 : Cursor its m0 (opens ++ entering) = subst (Cursor its m0) same stands.opened.cursor in
      let m1 = m0 + total opens in
      let c1 : Cursor its m1 entering = over its m0 opens entering c0 in
      let c2 : Cursor its (m1 + 2) (Mark (stop_of n) ∷ (closes ++ leaving)) = over-jump its m1 (start_of l) (Mark (stop_of n) ∷ (closes ++ leaving)) c1 in
      let c3 : Cursor its (m1 + 2) (closes ++ leaving) = over-mark its (m1 + 2) (stop_of n) (closes ++ leaving) c2 in
      let m3 = m1 + 2 + total closes in
      let c4 : Cursor its m3 leaving = over its (m1 + 2) closes leaving c3 in
      let stop_at : spot its (stop_of n) ≡ m1 + 2 = mark-at its labels (m1 + 2) (stop_of n) (closes ++ leaving) c2 in
      let opener = old its m0 opens entering c0 laid.small in
      let closer = old its (m1 + 2) closes leaving c3 laid.small in
      record {
        opened = record { place = m1; rank = 0 };
        near_opened = omega (arith, cursor-within its m1 entering c1, laid.small);
        opens_record = λ f chains c at place has.
            let came = opens-alternative keep (front_of r) small opener entering s.base f chains c (is-next its m0 opens entering c0 laid.small c (at ∙ ap address_of stands.opened.start)) place has in
            let there : address_of (total (opener.items ++ opens)) ≡ address_of m1 = appended-end opener opens ∙ piece-end its m0 opens entering c0 laid.small in
            subst (λ is. Comes s.base (code_of is) 20 c (quietly c (address_of m1) (with_alternative s.base (f + keep) (with_record s.base (f + keep) f chains (spot is (front_of r)) c.words))))
            (all its m0 opens entering c0 laid.small)
            (subst (λ a. Comes s.base (code_of ((opener.items ++ opens) ++ entering)) 20 c (quietly c a (with_alternative s.base (f + keep) (with_record s.base (f + keep) f chains (spot ((opener.items ++ opens) ++ entering) (front_of r)) c.words)))) there came);
        enter = inr (jump-stands its m1 (start_of l) (Mark (stop_of n) ∷ (closes ++ leaving)) c1);
        first_exit = first;
        closed = record { place = m3; rank = 0 };
        near_closed = omega (arith, cursor-within its m3 leaving c4, laid.small);
        closes_record = λ f c at place head.
            let came = closes-alternative keep small closer leaving s.base f c (is-next its (m1 + 2) closes leaving c3 laid.small c (at ∙ ap address_of stop_at)) place head in
            let there : address_of (total (closer.items ++ closes)) ≡ address_of m3 = appended-end closer closes ∙ piece-end its (m1 + 2) closes leaving c3 laid.small in
            subst (λ is. Comes s.base (code_of is) 13 c (quietly c (address_of m3) (without_alternative (f + keep) c.words)))
            (all its (m1 + 2) closes leaving c3 laid.small)
            (subst (λ a. Comes s.base (code_of ((closer.items ++ closes) ++ leaving)) 13 c (quietly c a (without_alternative (f + keep) c.words))) there came);
        leaves_record = λ f c at place other.
            let came = leaves-alternative keep small closer leaving s.base f c (is-next its (m1 + 2) closes leaving c3 laid.small c (at ∙ ap address_of stop_at)) place other in
            let there : address_of (total (closer.items ++ closes)) ≡ address_of m3 = appended-end closer closes ∙ piece-end its (m1 + 2) closes leaving c3 laid.small in
            subst (λ is. Comes s.base (code_of is) 13 c (quietly c (address_of m3) c.words))
            (all its (m1 + 2) closes leaving c3 laid.small)
            (subst (λ a. Comes s.base (code_of ((closer.items ++ closes) ++ leaving)) 13 c (quietly c a c.words)) there came);
        leave = inr (jump-stands its m3 (get_or s.exits n 0) (opening (suc n) ++ stands.behind) c4);
      }
