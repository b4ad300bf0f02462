-- The code of a node that is one piece, behind which it goes on.
use Rattle.std.proofs.Common.{◌≡◌, ℕ, suc, ◌+◌, ◌^◌, ◌<◌, List, [], ◌∷◌, ◌++◌, get_or, sym, ap, ◌∙◌, subst, arith, append_assoc}
use Rattle.rv_asm.specs.Arrivals.{LabelsStand}
use Rattle.rv_asm.specs.Assembly.{address_of, spot, total, code_from}
use Rattle.rv_asm.specs.WordMachine.{Has}
use Rattle.rv_asm.specs.declared.item.Item.{Item}
use Rattle.rv_asm.specs.declared.item.Item.TheVariants.{Mark}
use Rattle.action_terms.specs.Actions.{Node}
use Rattle.rv_codegen.specs.Blocks.{start_of, stop_of, opening, leaves, body}
use Rattle.rv_codegen.proofs.Ending.{leaves-stand}
use Rattle.rv_codegen.proofs.RestPoints.{Laid}
use Rattle.rv_codegen.proofs.Settings.{Way, Setting, code, start, stop, exit, failure, node_words}
use Rattle.rv_codegen.proofs.Standing.{NodeStands}
use Rattle.rv_prelude.proofs.Cursors.{Cursor, stands, over, over-mark, mark-at, cursor-within}

module _ (s : Setting) (k : ℕ) (piece : List Item) where
  -- what stands in the code of node k
  pub record PieceStands : Type 0 where
    pub code_stands : Has (code s) (address_of (start s k).place) (code_from (spot s.items) (start s k).place piece)
    pub within : (start s k).place + total piece < 2 ^ 28
    pub behind : (stop s k).place ≡ (start s k).place + total piece
    pub leave : Way (code s) (stop s k) (exit s k)
    pub behind_failure : (failure s).place < (start s k).place

  pub piece-stands : Laid s → LabelsStand s.items → stop_of k < s.labels → (node : Node) → body (node_words s) k (get_or s.exits k 0) node ≡ (piece ++ Mark (stop_of k) ∷ []) ++ leaves k (get_or s.exits k 0) → NodeStands s.items (node_words s) s.exits k node → PieceStands
  piece-stands laid labels within_labels node is at =
      let n = at.place in
      let here : spot s.items (start_of k) ≡ n = at.opened.start in
      let leaving = leaves k (get_or s.exits k 0) in
      let next = opening (suc k) ++ at.behind in
      let rest = leaving ++ next in
      let whole = subst (λ b. Cursor s.items n (b ++ next)) is at.opened.cursor in
      let c = subst (Cursor s.items n) (append_assoc (piece ++ Mark (stop_of k) ∷ []) leaving next ∙ append_assoc piece (Mark (stop_of k) ∷ []) rest) whole in
      let m = n + total piece in
      let c1 : Cursor s.items m (Mark (stop_of k) ∷ rest) = over s.items n piece (Mark (stop_of k) ∷ rest) c in
      let c2 = over-mark s.items m (stop_of k) rest c1 in
      let stop_at = mark-at s.items labels m (stop_of k) rest c1 in
      record {
        code_stands = subst (λ z. Has (code s) (address_of z) (code_from (spot s.items) z piece)) (sym here) (stands s.items n piece (Mark (stop_of k) ∷ rest) c);
        within = omega (arith, here, cursor-within s.items m (Mark (stop_of k) ∷ rest) c1, laid.small);
        behind = stop_at ∙ ap (λ z. z + total piece) (sym here);
        leave = leaves-stand s labels k m (stop_of k) at.behind stop_at (omega arith) within_labels c2;
        behind_failure = omega (arith, here, at.behind_failure);
      }
