use Rattle.std.proofs.Common.{◌≡◌, ◌+◌, ◌*◌, ◌<◌, length, sym, ap, ◌∙◌, arith}
use Rattle.rv_machine.proofs.TableLaws.{table-steps}
use Rattle.rv_machine.specs.Memory.{IsTable}
use Rattle.rv_machine.proofs.machine.Machine.known.Goals as goal

pub returns-in-None-index-clause-next : goal.returns-in-None-index-clause-next
returns-in-None-index-clause-next c =
    let kept = c.self.invariant.coded in
    let count : c.len.result ≡ length c.self.inside.code.items = c.len.ensures ∙ c.self.inside.code.ok.0 in
    let segments : c.args.self.now.segments ≡ c.self.inside.blocks.items = sym (ap (λ m. m.segments) c.self.view_is) in
    let right : IsTable c.args.self.now.segments c.self.inside.code_address c.self.inside.code.items = rw segments kept in
    let there = c.in-Some.ensures.there (omega (arith, kept.low, count)) in
    let pc : c.args.self.now.pc ≡ c.self.inside.code_address + 4 * c.in-Some.place = sym (ap (λ m. m.pc) c.self.view_is) ∙ there in
    let below : c.in-Some.place < length c.self.inside.code.items = omega (arith, c.in-Some.ensures.below, count) in
    λ input output.
    rw c.in-None-index.is at
    (table-steps c.args.self.now c.self.inside.code_address c.in-Some.place c.self.inside.code.items c.index.result.now right below pc
    c.index.ensures input output)

pub returns-in-Some-index-clause-next : goal.returns-in-Some-index-clause-next
returns-in-Some-index-clause-next c =
    let kept = c.self.invariant.coded in
    let count : c.len.result ≡ length c.self.inside.code.items = c.len.ensures ∙ c.self.inside.code.ok.0 in
    let segments : c.args.self.now.segments ≡ c.self.inside.blocks.items = sym (ap (λ m. m.segments) c.self.view_is) in
    let right : IsTable c.args.self.now.segments c.self.inside.code_address c.self.inside.code.items = rw segments kept in
    let there = c.in-Some.ensures.there (omega (arith, kept.low, count)) in
    let pc : c.args.self.now.pc ≡ c.self.inside.code_address + 4 * c.in-Some.place = sym (ap (λ m. m.pc) c.self.view_is) ∙ there in
    let below : c.in-Some.place < length c.self.inside.code.items = omega (arith, c.in-Some.ensures.below, count) in
    λ input output.
    rw c.in-Some-index.is at
    (table-steps c.args.self.now c.self.inside.code_address c.in-Some.place c.self.inside.code.items c.index.result.now right below pc
    c.index.ensures input output)
