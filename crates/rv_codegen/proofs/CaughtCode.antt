-- How much code copies what an escape has left; instructions place no label.
use Rattle.std.proofs.Common.{◌≡◌, ℕ, ◌+◌, ◌*◌, ◌≤◌, Ok, List, length, map, ap, ◌∙◌, arith}
use Rattle.rv_code.specs.declared.instruction.Inst.{Inst}
use Rattle.rv_asm.specs.Assembly.{Listing, is_placed, total}
use Rattle.rv_asm.specs.Pieces.{appended, copy_words, load_constant}
use Rattle.rv_asm.specs.declared.item.Item.TheVariants.{Plain}
use Rattle.rv_asm.proofs.Constants.{length-load_constant}
use Rattle.rv_asm.proofs.Copies.{length-copy_words}
use Rattle.rv_asm.proofs.Labels.{total-append}
use Rattle.rv_asm.proofs.Sending.{total-plain}
use Rattle.rv_prelude.proofs.Fresh.{placed-ok, plain-none}

pub appended-placed : (s s1 : Listing) (is : List Inst) → s1 ≡ appended s is → (l : ℕ) → is_placed s1.items l ≡ is_placed s.items l
appended-placed s s1 is e = placed-ok {E = Unit {0}} (Ok tt) s s1 (map Plain is) (plain-none is) e

pub appended-total : (s s1 : Listing) (is : List Inst) → s1 ≡ appended s is → total s1.items ≡ total s.items + length is
appended-total s s1 is e = ap (λ (z : Listing). total z.items) e ∙ total-append s.items (map Plain is) ∙ ap (λ n. total s.items + n) (total-plain is)

-- words are copied by two instructions for each
pub copied-total : (s s1 : Listing) (n from target to : ℕ) → s1 ≡ appended s (copy_words n 11 10 from target to) → total s1.items ≡ total s.items + 2 * n
copied-total s s1 n from target to e = omega (arith, appended-total s s1 (copy_words n 11 10 from target to) e, length-copy_words n 11 10 from target to)

-- a constant takes at most 8
pub constant-total : (s s1 : Listing) (rd value : ℕ) → s1 ≡ appended s (load_constant rd value) → total s1.items ≤ total s.items + 8
constant-total s s1 rd value e = omega (arith, appended-total s s1 (load_constant rd value) e, length-load_constant rd value)
