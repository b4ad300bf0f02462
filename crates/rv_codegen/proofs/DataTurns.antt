-- Nodes that give data, with the places that a layout has for them: the turns of `give` and `regive`.
use Rattle.std.proofs.Common.{◌≡◌, ℕ, suc, ◌+◌, ◌<◌, List, [], ◌∷◌, ◌++◌, append_assoc, length, map, refl, sym, ap, ◌∙◌, subst, arith, inr}
use Rattle.rv_asm.specs.Arrivals.{LabelsStand}
use Rattle.rv_asm.specs.Assembly.{address_of, code_from, spot, total}
use Rattle.rv_asm.specs.WordMachine.{Has}
use Rattle.rv_asm.specs.declared.item.Item.{Item as CodeItem}
use Rattle.rv_asm.specs.declared.item.Item.TheVariants.{Jump, Plain}
use Rattle.rv_asm.proofs.Sending.{code_from-plain, total-plain}
use Rattle.action_terms.specs.Actions.{Item, EscapeWith, Give, Regive, Simple, node_at}
use Rattle.action_terms.specs.Steps.{closures_in_items}
use Rattle.rv_prelude.proofs.Cursors.{Cursor, cursor-within, over, jump-stands, stands as code-stands}
use Rattle.rv_codegen.specs.Blocks.{escape_label, fail_label, opening, start_of, stop_of}
use Rattle.rv_codegen.specs.GivenItems.{escape_with_items, give_items, moves_items}
use Rattle.rv_codegen.proofs.Ending.{binds-none}
use Rattle.rv_codegen.proofs.EscapingItems.{escape-with-goes}
use Rattle.rv_codegen.proofs.EscapingWith.{EscapesBehind, EscapesPlaces}
use Rattle.rv_codegen.proofs.GivenItems.{AreBuilt}
use Rattle.rv_codegen.proofs.Giving.{LeavesBehind, LeavesData, give-goes, regive-moves}
use Rattle.rv_codegen.proofs.PieceStands.{PieceStands, piece-stands}
use Rattle.rv_codegen.proofs.RestPoints.{Laid, Starting, StartGoesOn, near}
use Rattle.rv_codegen.proofs.Settings.{Setting, code, start, stop, node_words}
use Rattle.rv_codegen.proofs.Standing.{NodeStands}

module _ (s : Setting) (laid : Laid s) (x : Starting s) where
  leaves-data : LeavesData s laid x
  leaves-data =
      let d = laid.data_laid in
      let node = x.runs.here.node in
      record {
        near_given = λ o m. omega (arith, d.given_within x.k o node m, d.reached x.k node);
        given_inside = λ o m. d.given_within x.k o node m;
        near_out = λ o m. omega (arith, d.out_within x.k o node m, d.reached x.k node);
        own = record { may = λ o m. d.written x.k o m; inside = λ o m. d.out_within x.k o node m };
        once = d.once x.k node;
        apart = λ o m n. d.apart x.k o node m n;
        few = d.few x.k node;
        binds = λ words. binds-none s x.k (d.unbound x.k) x.runs.here.heap words x.runs.here.f;
      }

  leaves-behind : (piece : List CodeItem) (size : ℕ) → total piece ≡ size → PieceStands s x.k piece → stop_of x.k < s.labels → LeavesBehind s laid x size
  leaves-behind piece size is at labels = record {
    from = stop s x.k;
    from_is = at.behind ∙ ap (λ n. (start s x.k).place + n) is;
    within = near s laid (stop_of x.k);
    rank = omega (arith, labels);
    leave = at.leave;
    behind_failure = at.behind_failure;
  }

  pub gives-goes : (is : List Item) → node_at s.action x.k ≡ Simple (Give is) → AreBuilt is → closures_in_items is ≡ [] → LabelsStand s.items → stop_of x.k < s.labels → NodeStands s.items (node_words s) s.exits x.k (Simple (Give is)) → StartGoesOn s x
  gives-goes is e built none labels within stands =
      let piece = give_items (s.places.given x.k) (s.places.out x.k) fail_label is in
      let at = piece-stands s x.k piece laid labels within (Simple (Give is)) refl stands in
      give-goes s laid x is e s.places.escaped (laid.data_laid.suits x.steps x.frames x.k x.d x.b x.world x.runs.here.node x.reached) built none leaves-data (leaves-behind piece (total piece) refl at within) at.code_stands

  pub regives-goes : node_at s.action x.k ≡ Simple Regive → LabelsStand s.items → stop_of x.k < s.labels → NodeStands s.items (node_words s) s.exits x.k (Simple Regive) → StartGoesOn s x
  regives-goes e labels within stands =
      let moves = moves_items (s.places.given x.k) (s.places.out x.k) in
      let at = piece-stands s x.k (map Plain moves) laid labels within (Simple Regive) refl stands in
      regive-moves s laid x e s.places.escaped (laid.data_laid.suits x.steps x.frames x.k x.d x.b x.world x.runs.here.node x.reached) leaves-data (leaves-behind (map Plain moves) (length moves) (total-plain moves) at within)
      (subst (Has (code s) (address_of (start s x.k).place)) (code_from-plain (spot s.items) (start s x.k).place moves) at.code_stands)

  pub escapes_with-goes : (is : List Item) → node_at s.action x.k ≡ Simple (EscapeWith is) → AreBuilt is → closures_in_items is ≡ [] → EscapesPlaces s laid x (s.places.escaped x.k) → NodeStands s.items (node_words s) s.exits x.k (Simple (EscapeWith is)) → StartGoesOn s x
  escapes_with-goes is e built none places stands =
      let piece = escape_with_items (s.places.given x.k) (s.places.escaped x.k) fail_label is in
      let n = stands.place in
      let here : spot s.items (start_of x.k) ≡ n = stands.opened.start in
      let rest = Jump escape_label ∷ (opening (suc x.k) ++ stands.behind) in
      let c : Cursor s.items n (piece ++ rest) = subst (Cursor s.items n) (append_assoc piece (Jump escape_label ∷ []) (opening (suc x.k) ++ stands.behind)) stands.opened.cursor in
      let c1 : Cursor s.items (n + total piece) rest = over s.items n piece rest c in
      let behind : EscapesBehind s laid x (total piece) =
      record {
        from = record { place = n + total piece; rank = 0 };
        from_is = ap (λ m. m + total piece) (sym here);
        within = omega (arith, cursor-within s.items (n + total piece) rest c1, laid.small);
        rank = omega arith;
        leave = inr (jump-stands s.items (n + total piece) escape_label (opening (suc x.k) ++ stands.behind) c1);
      } in
      escape-with-goes s laid x is e s.places.escaped none places behind (omega (arith, here, stands.behind_failure))
      (subst (λ m. Has (code s) (address_of m) (code_from (spot s.items) m piece)) (sym here) (code-stands s.items n piece rest c))
      (laid.data_laid.suits x.steps x.frames x.k x.d x.b x.world x.runs.here.node x.reached) built
