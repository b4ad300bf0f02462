use Rattle.std.proofs.Common.{◌≡◌, sym, ◌∙◌, length, arith}
use Rattle.rv_machine.proofs.NumbersLemmas.{bytes-double, bytes-word, bytes-half, bytes-byte}
use Rattle.rv_machine.proofs.block.spell.Goals as goal

pub returns-then-out-eq8 : goal.returns-then-out-eq8
returns-then-out-eq8 c =
    rw (c.if-out-eq8.true, bytes-double c.args.number) (c.copy_from_slice.ensures.after ∙ c.to_le_bytes.ensures)

pub returns-then-out-eq4 : goal.returns-then-out-eq4
returns-then-out-eq4 c =
    rw (c.if-out-eq4.true, bytes-word c.args.number) (c.copy_from_slice-then-out-eq4.ensures.after ∙ c.to_le_bytes-then-out-eq4.ensures)

pub returns-then-out-eq2 : goal.returns-then-out-eq2
returns-then-out-eq2 c =
    rw (c.if-out-eq2.true, bytes-half c.args.number) (c.copy_from_slice-then-out-eq2.ensures.after ∙ c.to_le_bytes-then-out-eq2.ensures)

pub returns-else-out-eq2 : goal.returns-else-out-eq2
returns-else-out-eq2 c =
    let one : length c.args.out.now ≡ 1 = grind arith in
    rw one (sym (bytes-byte c.args.out.now c.args.number one))
