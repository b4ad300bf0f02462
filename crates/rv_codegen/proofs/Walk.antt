-- The way from one label to another, as it stands in the code.
use Rattle.std.proofs.Common.{◌≡◌, ℕ, ◌<◌, Bool, true, false, List, [], ◌∷◌, ◌++◌, refl, sym, ap, ◌∙◌, subst, inl, inr, eqb, eqb-true}
use Rattle.rv_asm.specs.Assembly.{address_of, spot, far_jump}
use Rattle.rv_asm.specs.WordMachine.{Has}
use Rattle.rv_asm.specs.declared.item.Item.{Item}
use Rattle.rv_asm.specs.declared.item.Item.TheVariants.{Jump}
use Rattle.rv_prelude.proofs.Cursors.{Cursor, jump-stands}
use Rattle.rv_codegen.specs.Blocks.{goes}
use Rattle.rv_codegen.proofs.Settings.{Way, Setting, code, point}

-- the way from a label to another stands, where the label that comes next stands behind it, at a lower rank
pub way-stands : (s : Setting) (n from next label : ℕ) (rest : List Item) → spot s.items from ≡ n → Cursor s.items n (goes next label ++ rest) → (Cursor s.items n rest → spot s.items next ≡ n) → (point s next).rank < (point s from).rank → Way (code s) (point s from) (point s label)
way-stands s n from next label rest at c here lower = by (eqb label next) refl
  where
    by : (b : Bool) → eqb label next ≡ b → Way (code s) (point s from) (point s label)
    by true e =
        let same : label ≡ next = eqb-true label next e in
        let none : goes next label ≡ [] = rw e refl in
        let there = here (subst (λ p. Cursor s.items n (p ++ rest)) none c) in
        inl (at ∙ sym there ∙ ap (spot s.items) (sym same), subst (λ l. (point s l).rank < (point s from).rank) (sym same) lower)
    by false e =
        let one : goes next label ≡ Jump label ∷ [] = rw e refl in
        let far = jump-stands s.items n label rest (subst (λ p. Cursor s.items n (p ++ rest)) one c) in
        inr (subst (λ m. Has (code s) (address_of m) (far_jump m (spot s.items label))) (sym at) far)
