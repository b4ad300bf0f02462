use Rattle.std.proofs.Common.{◌≡◌, ◌∙◌, ap, length, arith}
use Rattle.rv_machine.specs.Machines.{left}
use Rattle.rv_machine.proofs.TableLaws.{table-received, written-back}
use Rattle.rv_machine.proofs.machine.Machine.take_input.Goals as goal

pub invariant_of-self : goal.invariant_of-self
invariant_of-self c =
    let value = c.as_mut_slice.ensures.value in
    let long : length c.receive.new.blocks ≡ length c.self.inside.blocks.items = omega (arith, c.receive.auto.blocks, ap length value) in
    let all : c.self.inside.blocks.len ≡ length c.self.inside.blocks.items = c.self.inside.blocks.ok.0 in
    let kept = c.self.invariant in
    let e = c.receive.ensures in
    rw (written-back c.self.inside.blocks.len c.receive.new.blocks c.self.inside.blocks.items long all)
    (record {
      zero = kept.zero;
      coded =
          table-received c.self.inside.blocks.items c.receive.new.blocks c.args.address c.args.size (left c.args.input.now)
          c.self.inside.code_address c.self.inside.code.items c.receive.result e.count (rw value at e.written)
          (λ none. let stays = rw none at e.stays in stays.0 ∙ value) kept.coded;
    })
