use Rattle.std.proofs.Common.{◌≡◌, ap, ◌∙◌, add-one, arith, subst, sym, false}
use Rattle.rv_asm.specs.Assembly.{is_placed, total}
use Rattle.rv_asm.proofs.Labels.{total-append}
use Rattle.rv_codegen.specs.Aliases.{lists_of}
use Rattle.rv_codegen.specs.Blocks.{calls, front_of, goes, leaves, table_words}
use Rattle.rv_codegen.proofs.CalledItems.{calls-keep, total-calls}
use Rattle.rv_codegen.proofs.Emitting.{OnOk-then, both-appended}
use Rattle.rv_codegen.proofs.calls.append_calling.Goals as goal

pub returns-clause-items : goal.returns-clause-items
returns-clause-items c =
    let p = c.args.plan in
    let k = c.args.k in
    let ws = table_words (lists_of p.given.now) (lists_of p.out.now) (lists_of p.escaped.now) p.keeps.now p.frames.now in
    let way = goes c.front-next.result c.args.exit in
    let same : way ≡ leaves k c.args.exit = ap (λ n. goes n c.args.exit) (c.front-next.ensures ∙ ap front_of (add-one k)) in
    OnOk-then c.append_way.result (λ e. both-appended c.args.asm.now c.append_called.new.asm c.append_way.new.asm (calls (ws k) (ws c.args.body) k c.args.body) way (leaves k c.args.exit) c.in_ok-append_called.ensures e same) c.append_way.ensures.items

pub returns-clause-marks : goal.returns-clause-marks
returns-clause-marks c =
    let p = c.args.plan in
    let k = c.args.k in
    let ws = table_words (lists_of p.given.now) (lists_of p.out.now) (lists_of p.escaped.now) p.keeps.now p.frames.now in
    OnOk-then c.append_way.result
    (λ m l ne nj h. m k l ne nj (subst (λ z. is_placed z.items l ≡ false) (sym c.in_ok-append_called.ensures) (calls-keep c.args.asm.now.items (ws k) (ws c.args.body) k c.args.body l ne h))) c.append_way.ensures.marks

pub returns-clause-short : goal.returns-clause-short
returns-clause-short c =
    let p = c.args.plan in
    let k = c.args.k in
    let ws = table_words (lists_of p.given.now) (lists_of p.out.now) (lists_of p.escaped.now) p.keeps.now p.frames.now in
    let called = calls (ws k) (ws c.args.body) k c.args.body in
    let few = total-calls (ws k) (ws c.args.body) k c.args.body (p.given_reached c.args.body).few (p.out_reached k).few in
    OnOk-then c.append_way.result (λ m. omega (arith, m, ap (λ z. total z.items) c.in_ok-append_called.ensures, total-append c.args.asm.now.items called, few)) c.append_way.ensures.short
