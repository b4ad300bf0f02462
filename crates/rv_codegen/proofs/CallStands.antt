-- The code of a node that calls a body stands, with what it does behind the call.
use Rattle.std.proofs.Common.{◌≡◌, ℕ, suc, ◌+◌, ◌^◌, ◌<◌, Bool, true, false, List, [], ◌∷◌, ◌++◌, length, get_or, map, pos, refl, sym, ap, ◌∙◌, subst, arith, inl, inr, append_assoc, eqb, eqb-true}
use Rattle.rv_code.specs.declared.instruction.Inst.TheVariants.{Branch}
use Rattle.rv_code.specs.declared.instruction.BranchOp.TheVariants.{Bgeu, Bltu}
use Rattle.rv_asm.specs.Arrivals.{LabelsStand}
use Rattle.rv_asm.specs.Assembly.{address_of, far_address, far_jump, spot}
use Rattle.rv_asm.specs.WordMachine.{Has}
use Rattle.rv_asm.specs.declared.item.Item.{Item}
use Rattle.rv_asm.specs.declared.item.Item.TheVariants.{Plain, Mark, Jump, BranchTo, Address}
use Rattle.action_terms.specs.Actions.{Node}
use Rattle.rv_prelude.proofs.Cursors.{Cursor, address-stands, cursor-within, jump-stands, mark-at, over, over-address, over-jump, over-mark, over-plain, plain-stands, stands}
use Rattle.rv_codegen.specs.Blocks.{body, calls, front_of, full_label, leaves, opening, start_of, stop_of}
use Rattle.rv_codegen.specs.CallItems.{enter_items, fetch_items, room_items}
use Rattle.rv_codegen.proofs.RestPoints.{Laid}
use Rattle.rv_codegen.proofs.Settings.{Point, Way, Setting, code, point, start, stop, exit, frame_words, node_words}
use Rattle.rv_codegen.proofs.Standing.{NodeStands, opens}

module _ (s : Setting) (n c : ℕ) where
  abbrev pub room : ℕ
  room = (start s n).place + length (room_items (frame_words s n) (frame_words s c))

  abbrev pub enter : ℕ
  enter = length (enter_items (s.places.given n) (s.places.given c))

  -- what stands where a call of the body returns to
  pub record FetchStands : Type 0 where
    pub fetches : Has (code s) (address_of (stop s n).place) (fetch_items (s.places.out c) (s.places.out n))
    pub fetched : Point
    pub fetched_is : fetched.place ≡ (stop s n).place + length (fetch_items (s.places.out c) (s.places.out n))
    pub near_fetched : fetched.place < 2 ^ 28
    pub leave : Way (code s) fetched (exit s n)

  -- the call, piece by piece
  pub record CallStands : Type 0 where
    pub finds : Has (code s) (address_of (start s n).place) (room_items (frame_words s n) (frame_words s c))
    pub test : Has (code s) (address_of room) (Branch Bgeu 5 7 (pos 12) ∷ far_jump (room + 1) (point s full_label).place)
    pub back : Has (code s) (address_of (room + 3)) (far_address 5 (room + 3) (stop s n).place)
    pub enters : Has (code s) (address_of (room + 5)) (enter_items (s.places.given n) (s.places.given c))
    pub jump : Has (code s) (address_of (room + 5 + enter)) (far_jump (room + 5 + enter) (start s c).place)
    pub near : room + 5 + enter < 2 ^ 28
    pub fetch : FetchStands

  -- from a place behind the code of the call to where the node goes on
  leaves-way : (m label : ℕ) (behind : List Item) → LabelsStand s.items → Cursor s.items m (leaves n label ++ (opening (suc n) ++ behind)) → Way (code s) (record { place = m; rank = suc (point s label).rank }) (point s label)
  leaves-way m label behind labels cursor = by (eqb label (front_of (suc n))) refl
    where
      rest : List Item
      rest = opening (suc n) ++ behind

      by : (b : Bool) → eqb label (front_of (suc n)) ≡ b → Way (code s) (record { place = m; rank = suc (point s label).rank }) (point s label)
      by true e =
          let none : leaves n label ≡ [] = rw e refl in
          let there = (opens s.items labels (suc n) m behind (subst (λ p. Cursor s.items m (p ++ rest)) none cursor)).front in
          inl (sym there ∙ ap (spot s.items) (sym (eqb-true label (front_of (suc n)) e)), omega arith)
      by false e =
          let one : leaves n label ≡ Jump label ∷ [] = rw e refl in
          inr (jump-stands s.items m label rest (subst (λ p. Cursor s.items m (p ++ rest)) one cursor))

  pub call-stands : Laid s → LabelsStand s.items → (node : Node) → body (node_words s) n (get_or s.exits n 0) node ≡ calls (node_words s n) (node_words s c) n c ++ leaves n (get_or s.exits n 0) → NodeStands s.items (node_words s) s.exits n node → CallStands
  call-stands laid labels node is at =
      let its = s.items in
      let m0 = at.place in
      let here : spot its (start_of n) ≡ m0 = at.opened.start in
      let mine = frame_words s n in
      let theirs = frame_words s c in
      let leaving = leaves n (get_or s.exits n 0) in
      let next = opening (suc n) ++ at.behind in
      let rest = leaving ++ next in
      let finds = room_items mine theirs in
      let entering = enter_items (s.places.given n) (s.places.given c) in
      let fetching = fetch_items (s.places.out c) (s.places.out n) in
      let fetch = Mark (stop_of n) ∷ map Plain fetching in
      let behind = Mark (stop_of n) ∷ (map Plain fetching ++ rest) in
      let enters = map Plain entering ++ (Jump (start_of c) ∷ []) in
      let called = BranchTo Bltu 5 7 full_label ∷ Address 5 (stop_of n) ∷ enters in
      let whole = subst (λ b. Cursor its m0 (b ++ next)) is at.opened.cursor in
      let same : (((map Plain finds ++ called) ++ fetch) ++ leaving) ++ next ≡ map Plain finds ++ (BranchTo Bltu 5 7 full_label ∷ Address 5 (stop_of n) ∷ (map Plain entering ++ (Jump (start_of c) ∷ behind))) =
      append_assoc ((map Plain finds ++ called) ++ fetch) leaving next ∙ append_assoc (map Plain finds ++ called) fetch rest ∙ append_assoc (map Plain finds) called behind
      ∙ ap (λ l. map Plain finds ++ (BranchTo Bltu 5 7 full_label ∷ Address 5 (stop_of n) ∷ l)) (append_assoc (map Plain entering) (Jump (start_of c) ∷ []) behind) in
      let jumping = Jump (start_of c) ∷ behind in
      let inside = map Plain entering ++ jumping in
      let addressing = Address 5 (stop_of n) ∷ inside in
      let testing = BranchTo Bltu 5 7 full_label ∷ addressing in
      let c0 : Cursor its m0 (map Plain finds ++ testing) = subst (Cursor its m0) same whole in
      let m1 = m0 + length finds in
      let c1 : Cursor its m1 testing = over-plain its m0 finds testing c0 in
      let c2 : Cursor its (m1 + 3) addressing = over its m1 (BranchTo Bltu 5 7 full_label ∷ []) addressing c1 in
      let five : m1 + 3 + 2 ≡ m1 + 5 = omega arith in
      let c3 : Cursor its (m1 + 5) inside = subst (λ m. Cursor its m inside) five (over-address its (m1 + 3) 5 (stop_of n) inside c2) in
      let m4 = m1 + 5 + length entering in
      let c4 : Cursor its m4 jumping = over-plain its (m1 + 5) entering jumping c3 in
      let c5 : Cursor its (m4 + 2) behind = over-jump its m4 (start_of c) behind c4 in
      let c6 : Cursor its (m4 + 2) (map Plain fetching ++ rest) = over-mark its (m4 + 2) (stop_of n) (map Plain fetching ++ rest) c5 in
      let stop_at : spot its (stop_of n) ≡ m4 + 2 = mark-at its labels (m4 + 2) (stop_of n) (map Plain fetching ++ rest) c5 in
      let m7 = m4 + 2 + length fetching in
      let c7 : Cursor its m7 rest = over-plain its (m4 + 2) fetching rest c6 in
      let q : room ≡ m1 = ap (λ z. z + length finds) here in
      let e : room + 5 + enter ≡ m4 = ap (λ z. z + 5 + length entering) q in
      record {
        finds = subst (λ z. Has (code s) (address_of z) finds) (sym here) (plain-stands its m0 finds testing c0);
        test = subst (λ z. Has (code s) (address_of z) (Branch Bgeu 5 7 (pos 12) ∷ far_jump (z + 1) (spot its full_label))) (sym q) (stands its m1 (BranchTo Bltu 5 7 full_label ∷ []) addressing c1);
        back = subst (λ z. Has (code s) (address_of (z + 3)) (far_address 5 (z + 3) (spot its (stop_of n)))) (sym q) (address-stands its (m1 + 3) 5 (stop_of n) inside c2);
        enters = subst (λ z. Has (code s) (address_of (z + 5)) entering) (sym q) (plain-stands its (m1 + 5) entering jumping c3);
        jump = subst (λ z. Has (code s) (address_of z) (far_jump z (spot its (start_of c)))) (sym e) (jump-stands its m4 (start_of c) behind c4);
        near = omega (arith, e, cursor-within its m4 jumping c4, laid.small);
        fetch = record {
          fetches = subst (λ z. Has (code s) (address_of z) fetching) (sym stop_at) (plain-stands its (m4 + 2) fetching rest c6);
          fetched = record { place = m7; rank = suc (exit s n).rank };
          fetched_is = ap (λ z. z + length fetching) (sym stop_at);
          near_fetched = omega (arith, cursor-within its m7 rest c7, laid.small);
          leave = leaves-way m7 (get_or s.exits n 0) at.behind labels c7;
        };
      }
