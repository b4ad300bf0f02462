use Rattle.std.proofs.Common.{[], ◌∷◌, ◌++◌, ap, ◌∙◌, map, arith}
use Rattle.rv_asm.specs.Assembly.{is_placed}
use Rattle.rv_asm.specs.declared.item.Item.TheVariants.{Mark, Plain}
use Rattle.rv_prelude.specs.Pieces.{commit}
use Rattle.rv_codegen.proofs.Emitting.{mark-short, mark-keeps, plain-keeps, whole-piece}
use Rattle.rv_codegen.proofs.commits.append_commits.Goals as goal

pub returns-clause-items : goal.returns-clause-items
returns-clause-items c =
    let asm = c.args.asm.now in
    whole-piece asm c.commit.new.asm c.place.new.self (map Plain commit) c.stop.result c.in_ok-commit.ensures.ok c.place.ensures
    ∙ ap (λ m. record asm { items = asm.items ++ (map Plain commit ++ Mark m ∷ []) }) c.stop.ensures

pub returns-clause-marks : goal.returns-clause-marks
returns-clause-marks c = λ l ne nj h.
    mark-keeps c.commit.new.asm c.place.new.self c.stop.result l c.place.ensures (λ e. ne (cc))
    (plain-keeps c.args.asm.now c.commit.new.asm commit l c.in_ok-commit.ensures.ok h)

pub returns-clause-short : goal.returns-clause-short
returns-clause-short c = omega (arith, c.in_ok-commit.ensures.short, mark-short c.commit.new.asm c.place.new.self _ c.place.ensures)

pub place-requires-clause-once : goal.place-requires-clause-once
place-requires-clause-once c =
    plain-keeps c.args.asm.now c.commit.new.asm commit c.stop.result c.in_ok-commit.ensures.ok (ap (is_placed c.args.asm.now.items) c.stop.ensures ∙ c.requires.stop)
