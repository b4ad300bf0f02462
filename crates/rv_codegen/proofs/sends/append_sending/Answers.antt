use Rattle.std.proofs.Common.{◌≡◌, ap, ◌∙◌, add-one, arith}
use Rattle.action_terms.specs.Forms.{yielder_at}
use Rattle.rv_codegen.specs.Aliases.{list_at, lists_of}
use Rattle.rv_codegen.specs.Blocks.{front_of, goes, leaves, sends}
use Rattle.rv_codegen.proofs.Emitting.{OnOk-then, both-appended}
use Rattle.rv_codegen.proofs.sends.append_sending.Goals as goal

pub returns-clause-items : goal.returns-clause-items
returns-clause-items c =
    let way = goes c.front-next.result c.args.exit in
    let same : way ≡ leaves c.args.k c.args.exit = ap (λ n. goes n c.args.exit) (c.front-next.ensures ∙ ap front_of (add-one c.args.k)) in
    OnOk-then c.append_way.result (λ e. both-appended c.args.asm.now c.append_sends.new.asm c.append_way.new.asm (sends (list_at (lists_of c.args.plan.given.now) c.args.k) c.args.k (yielder_at c.args.plan.graph.now.yielders c.args.yielder)) way (leaves c.args.k c.args.exit) c.in_ok-append_sends.ensures.items e same) c.append_way.ensures.items

pub returns-clause-marks : goal.returns-clause-marks
returns-clause-marks c =
    OnOk-then c.append_way.result (λ m l ne nj h. m c.args.k l ne nj (c.in_ok-append_sends.ensures.marks l ne nj h)) c.append_way.ensures.marks

pub returns-clause-short : goal.returns-clause-short
returns-clause-short c = OnOk-then c.append_way.result (λ m. omega (arith, m, c.in_ok-append_sends.ensures.short)) c.append_way.ensures.short
