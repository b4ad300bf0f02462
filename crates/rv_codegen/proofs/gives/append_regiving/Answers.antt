use Rattle.std.proofs.Common.{◌≡◌, ap, ◌∙◌, add-one, arith}
use Rattle.rv_codegen.specs.Aliases.{list_at, lists_of}
use Rattle.rv_codegen.specs.Blocks.{front_of, goes, leaves, regives}
use Rattle.rv_codegen.proofs.Emitting.{OnOk-then, both-appended}
use Rattle.rv_codegen.proofs.gives.append_regiving.Goals as goal

pub returns-clause-items : goal.returns-clause-items
returns-clause-items c =
    let k = c.args.k in
    let way = goes c.front-next.result c.args.exit in
    let same : way ≡ leaves k c.args.exit = ap (λ n. goes n c.args.exit) (c.front-next.ensures ∙ ap front_of (add-one k)) in
    let piece = regives (list_at (lists_of c.args.plan.given.now) k) (list_at (lists_of c.args.plan.out.now) k) k in
    OnOk-then c.append_way.result (λ e. both-appended c.args.asm.now c.append_regives.new.asm c.append_way.new.asm piece way (leaves k c.args.exit) c.in_ok-append_regives.ensures.items e same) c.append_way.ensures.items

pub returns-clause-marks : goal.returns-clause-marks
returns-clause-marks c =
    OnOk-then c.append_way.result (λ m l ne nj h. m c.args.k l ne nj (c.in_ok-append_regives.ensures.marks l ne nj h)) c.append_way.ensures.marks

pub returns-clause-short : goal.returns-clause-short
returns-clause-short c = OnOk-then c.append_way.result (λ m. omega (arith, m, c.in_ok-append_regives.ensures.short)) c.append_way.ensures.short
