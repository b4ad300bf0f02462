-- How much code there is, piece by piece.
use Rattle.std.proofs.Common.{◌≡◌, ℕ, ◌+◌, ◌≤◌, List, length, map, ap, arith}
use Rattle.rv_code.specs.declared.instruction.Inst.{Inst}
use Rattle.rv_asm.specs.Assembly.{Listing, total}
use Rattle.rv_asm.specs.Pieces.{appended, load_constant}
use Rattle.rv_asm.specs.declared.item.Item.TheVariants.{Plain}
use Rattle.rv_asm.proofs.Constants.{length-load_constant}
use Rattle.rv_asm.proofs.Labels.{total-append}
use Rattle.rv_asm.proofs.Sending.{total-plain}

-- a piece adds as much as it is long
pub total-appended : (old new : Listing) (piece : List Inst) → new ≡ appended old piece → total new.items ≡ total old.items + length piece
total-appended old new piece e = omega (arith, ap (λ s. total s.items) e, total-append old.items (map Plain piece), total-plain piece)

-- a constant adds at most 8 instructions
pub total-constant : (old new : Listing) (rd value : ℕ) → new ≡ appended old (load_constant rd value) → total new.items ≤ total old.items + 8
total-constant old new rd value e = omega (arith, total-appended old new (load_constant rd value) e, length-load_constant rd value)
