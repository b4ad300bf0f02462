use Rattle.std.proofs.Common.{◌≡◌, ap, length, arith}
use Rattle.rv_machine.proofs.TableLaws.{table-stored, written-back}
use Rattle.rv_machine.proofs.machine.Machine.write_number.Goals as goal

pub invariant_of-self : goal.invariant_of-self
invariant_of-self c =
    let value = c.as_mut_slice.ensures.value in
    let long : length c.write_sized.new.blocks ≡ length c.self.inside.blocks.items = omega (arith, c.write_sized.auto.blocks, ap length value) in
    let all : c.self.inside.blocks.len ≡ length c.self.inside.blocks.items = c.self.inside.blocks.ok.0 in
    let kept = c.self.invariant in
    let e = c.write_sized.ensures in
    rw (written-back c.self.inside.blocks.len c.write_sized.new.blocks c.self.inside.blocks.items long all)
    (record {
      zero = kept.zero;
      coded =
          table-stored c.self.inside.blocks.items c.write_sized.new.blocks c.args.address c.args.size c.args.number c.self.inside.code_address
          c.self.inside.code.items c.write_sized.result (rw value at e.written) (rw value at e.stays) kept.coded;
    })
