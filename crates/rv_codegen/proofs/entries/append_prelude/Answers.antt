use Rattle.std.proofs.Common.{◌≡◌, ◌+◌, ⊎_elim, ap, arith}
use Rattle.rv_codegen.proofs.Emitting.{mark-keeps, mark-short}
use Rattle.rv_codegen.proofs.entries.append_prelude.Goals as goal

pub returns-clause-fresh : goal.returns-clause-fresh
returns-clause-fresh c = λ l h.
    let start = c.in_ok-entries.entries.start in
    let start_is : start ≡ c.args.asm.now.labels + 10 = ap (λ e. e.start) c.in_ok-entries.ensures.labels in
    mark-keeps c.prelude.new.asm c.place.new.self start l c.place.ensures
    (λ e. ⊎_elim (λ q. omega (arith, q, e, start_is, c.requires.first)) (λ q. omega (arith, q, e, start_is, c.requires.first)) h)
    (c.in_ok-entries.ensures.open l (⊎_elim (λ q. omega (arith, q, c.requires.first)) (λ q. omega (arith, q, c.requires.first)) h))

pub returns-clause-short : goal.returns-clause-short
returns-clause-short c = omega (arith, c.in_ok-entries.ensures.short, mark-short c.prelude.new.asm c.place.new.self _ c.place.ensures)
