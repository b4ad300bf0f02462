-- The items of each node's code stand in the code, whatever its kind, and so does the prelude.
use Rattle.std.proofs.Common.{◌≡◌, ℕ, zero, suc, ◌+◌, ◌<◌, List, [], ◌∷◌, ◌++◌, length, get_or, map, Some, refl, sym, ap, ◌∙◌, subst, arith, append_assoc, add-zero}
use Rattle.std.specs.Prelude.{slice_get}
use Rattle.rv_asm.specs.Arrivals.{LabelsStand}
use Rattle.rv_asm.specs.Assembly.{address_of, total, spot, far_jump, code_of}
use Rattle.rv_asm.specs.WordMachine.{Has}
use Rattle.rv_asm.specs.declared.item.Item.{Item}
use Rattle.rv_asm.specs.declared.item.Item.TheVariants.{Plain, Mark, Jump}
use Rattle.action_terms.specs.Actions.{Node, Action}
use Rattle.rv_prelude.specs.Items.{entries_from, first_items, ends_items, fail_items, escape_items, calls_items, entries_items, prelude_items}
use Rattle.rv_prelude.proofs.Cursors.{Cursor, cursor-start, cursor-within, over, over-mark, over-jump, over-plain, plain-stands, mark-at, jump-stands, regroup}
use Rattle.rv_prelude.proofs.Entered.{Stood as Entered, prelude-stands}
use Rattle.rv_codegen.specs.CallItems.{return_items}
use Rattle.rv_codegen.specs.Blocks.{NodeWords, completed_label, fail_label, start_label, end_label, front_of, start_of, return_of, opening, block, blocks_from, ending, exits_of, action_items, body}

-- the labels of a node's opening stand before what follows it
pub record Opened (items : List Item) (k n : ℕ) (rest : List Item) : Type 0 where
  pub front : spot items (front_of k) ≡ n
  pub start : spot items (start_of k) ≡ n
  pub cursor : Cursor items n rest

-- the code of node k, which goes on at a label, and behind it the labels of the next node. The entries stand before all nodes
pub record NodeStands (items : List Item) (ws : ℕ → NodeWords) (exits : List ℕ) (k : ℕ) (node : Node) : Type 0 where
  pub place : ℕ
  pub behind : List Item
  pub opened : Opened items k place (body ws k (get_or exits k 0) node ++ (opening (suc k) ++ behind))
  pub behind_failure : spot items fail_label < place

module _ (items : List Item) (labels : LabelsStand items) where
  pub opens : (k n : ℕ) (rest : List Item) → Cursor items n (opening k ++ rest) → Opened items k n rest
  opens k n rest c =
      let c1 = over-mark items n (front_of k) (Mark (start_of k) ∷ rest) c in
      record {
        front = mark-at items labels n (front_of k) (Mark (start_of k) ∷ rest) c;
        start = mark-at items labels n (start_of k) rest c1;
        cursor = over-mark items n (start_of k) rest c1;
      }

  module _ (ws : ℕ → NodeWords) (exits : List ℕ) where
    -- what stands from a node on begins with its labels, or with those of the entries
    record Begins (k : ℕ) (rest : List Item) : Type 0 where
      behind : List Item
      is : rest ≡ opening k ++ behind

    begins : (a : Action) (k : ℕ) → Begins k (blocks_from ws k exits a ++ ending (k + length a))
    begins [] k = let same : k + 0 ≡ k = omega arith in record { behind = _; is = ap ending same }
    begins (n ∷ a) k = record { behind = _; is = refl }

    -- the codes of nodes stand one after another
    abbrev AllStand : ℕ → Action → Type 0
    AllStand k a = (j : ℕ) (x : Node) → slice_get a j ≡ Some x → NodeStands items ws exits (k + j) x

    all-stand : (a : Action) (k n : ℕ) → Cursor items n (blocks_from ws k exits a ++ ending (k + length a)) → spot items fail_label < n → AllStand k a
    all-stand [] k n c within = λ j x e. absurd (cc)
    all-stand (x ∷ a) k n c within =
        let b = block ws k (get_or exits k 0) x in
        let next : suc k + length a ≡ k + suc (length a) = omega arith in
        let tail = blocks_from ws (suc k) exits a ++ ending (suc k + length a) in
        let c0 : Cursor items n (b ++ tail) =
        subst (λ m. Cursor items n (b ++ (blocks_from ws (suc k) exits a ++ ending m))) (sym next) (subst (Cursor items n) (append_assoc b (blocks_from ws (suc k) exits a) (ending (k + suc (length a)))) c) in
        let start = begins a (suc k) in
        let c1 : Cursor items n (b ++ (opening (suc k) ++ start.behind)) = subst (λ t. Cursor items n (b ++ t)) start.is c0 in
        let c2 : Cursor items n (opening k ++ (body ws k (get_or exits k 0) x ++ (opening (suc k) ++ start.behind))) = subst (Cursor items n) (append_assoc (opening k) (body ws k (get_or exits k 0) x) (opening (suc k) ++ start.behind)) c1 in
        let this : NodeStands items ws exits k x = record { place = n; behind = start.behind; opened = opens k n _ c2; behind_failure = within } in
        in_turn this (all-stand a (suc k) (n + total b) (over items n b tail c0) (omega (arith, within)))
      where
        in_turn : NodeStands items ws exits k x → ((j : ℕ) (y : Node) → slice_get a j ≡ Some y → NodeStands items ws exits (suc k + j) y) → (j : ℕ) (y : Node) → slice_get (x ∷ a) j ≡ Some y → NodeStands items ws exits (k + j) y
        in_turn first rest zero y e = let same : x ≡ y = cc in subst (λ m. NodeStands items ws exits m y) (sym (add-zero k)) (subst (NodeStands items ws exits k) same first)
        in_turn first rest (suc j) y e = let next : suc k + j ≡ k + suc j = omega arith in subst (λ m. NodeStands items ws exits m y) next (rest j y e)

-- everything that stands in the code of an action
pub record Stood (items : List Item) (ws : ℕ → NodeWords) (stack units : ℕ) (a : Action) : Type 0 where
  pub each : (k : ℕ) (x : Node) → slice_get a k ≡ Some x → NodeStands items ws (exits_of a) k x
  -- the first instructions and the entries
  pub entered : Entered items (entries_from 0) stack units
  -- the first instructions come to the root of the action
  pub root : spot items (start_of 0) ≡ spot items start_label
  -- where it has completed, it goes to the end for that
  pub completed : Has (code_of items) (address_of (spot items (front_of (length a)))) (far_jump (spot items (front_of (length a))) (spot items completed_label))
  -- where a body has completed, it returns to what has called it
  pub returns : Has (code_of items) (address_of (spot items (return_of (length a)))) return_items
  pub end : spot items end_label ≡ total items

-- where the code of the nodes begins: behind the entries
record NodesBegin (items : List Item) (rest : List Item) : Type 0 where
  place : ℕ
  cursor : Cursor items place rest
  behind : spot items fail_label < place

nodes-begin : (items : List Item) → LabelsStand items → (stack units : ℕ) (rest : List Item) → items ≡ prelude_items (entries_from 0) stack units ++ rest → NodesBegin items rest
nodes-begin items labels stack units rest same =
    let e = entries_from 0 in
    let first = first_items e stack units in
    let behind = escape_items e ++ calls_items e in
    let n = 0 + total first in
    let m = n + total (ends_items e) in
    let c0 : Cursor items 0 (first ++ (entries_items e ++ rest)) = regroup items 0 first (entries_items e) rest (subst (Cursor items 0) same (cursor-start items)) in
    let c1 : Cursor items n (entries_items e ++ rest) = over items 0 first (entries_items e ++ rest) c0 in
    let c2 = regroup items n (ends_items e) (fail_items e ++ behind) rest c1 in
    let c3 : Cursor items m ((fail_items e ++ behind) ++ rest) = over items n (ends_items e) ((fail_items e ++ behind) ++ rest) c2 in
    let c4 : Cursor items m (fail_items e ++ (behind ++ rest)) = regroup items m (fail_items e) behind rest c3 in
    let c5 : Cursor items (m + 13) (behind ++ rest) = over items m (fail_items e) (behind ++ rest) c4 in
    let at : spot items fail_label ≡ m = mark-at items labels m fail_label _ c4 in
    record {
      place = m + 13 + total behind;
      cursor = over items (m + 13) behind rest c5;
      behind = omega (arith, at);
    }

pub action-stands : (ws : ℕ → NodeWords) (stack units : ℕ) (a : Action) (items : List Item) → items ≡ action_items ws stack units a → LabelsStand items → Stood items ws stack units a
action-stands ws stack units a items same labels =
    let blocks = blocks_from ws 0 (exits_of a) a in
    let nodes = blocks ++ ending (length a) in
    let begin = nodes-begin items labels stack units (Mark start_label ∷ nodes) same in
    let n0 = begin.place in
    let start_at : spot items start_label ≡ n0 = mark-at items labels n0 start_label nodes begin.cursor in
    let c1 : Cursor items n0 nodes = over-mark items n0 start_label nodes begin.cursor in
    let zero : length a ≡ 0 + length a = omega arith in
    let c_nodes : Cursor items n0 (blocks ++ ending (0 + length a)) = subst (λ n. Cursor items n0 (blocks ++ ending n)) zero c1 in
    let first = begins items labels ws (exits_of a) a 0 in
    let all = all-stand items labels ws (exits_of a) a 0 n0 c_nodes begin.behind in
    let n1 = n0 + total blocks in
    let back = map Plain return_items ++ (Mark end_label ∷ []) in
    let last = Jump completed_label ∷ (Mark (return_of (length a)) ∷ back) in
    let ends = opens items labels (length a) n1 last (over items n0 blocks (ending (length a)) c1) in
    let far = jump-stands items n1 completed_label (Mark (return_of (length a)) ∷ back) ends.cursor in
    let c2 : Cursor items (n1 + 2) (Mark (return_of (length a)) ∷ back) = over-jump items n1 completed_label (Mark (return_of (length a)) ∷ back) ends.cursor in
    let c3 : Cursor items (n1 + 2) back = over-mark items (n1 + 2) (return_of (length a)) back c2 in
    let c4 : Cursor items (n1 + 2 + 2) (Mark end_label ∷ []) = over-plain items (n1 + 2) return_items (Mark end_label ∷ []) c3 in
    record {
      each = λ k x e. let z : 0 + k ≡ k = omega arith in subst (λ m. NodeStands items ws (exits_of a) m x) z (all k x e);
      entered = prelude-stands items labels (entries_from 0) stack units (Mark start_label ∷ nodes) same;
      root = (opens items labels 0 n0 first.behind (subst (Cursor items n0) first.is c_nodes)).start ∙ sym start_at;
      completed = subst (λ m. Has (code_of items) (address_of m) (far_jump m (spot items completed_label))) (sym ends.front) far;
      returns = subst (λ m. Has (code_of items) (address_of m) return_items) (sym (mark-at items labels (n1 + 2) (return_of (length a)) back c2)) (plain-stands items (n1 + 2) return_items (Mark end_label ∷ []) c3);
      end = mark-at items labels (n1 + 2 + 2) end_label [] c4 ∙ omega (arith, cursor-within items (n1 + 2 + 2) (Mark end_label ∷ []) c4);
    }
