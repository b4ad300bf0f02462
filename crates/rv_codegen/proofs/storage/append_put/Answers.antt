use Rattle.std.proofs.Common.{map, refl, ap, ◌∙◌, arith}
use Rattle.rv_asm.specs.Assembly.{is_placed, total}
use Rattle.rv_asm.specs.declared.item.Item.TheVariants.{Plain}
use Rattle.rv_asm.proofs.Labels.{total-append}
use Rattle.rv_yield.proofs.ItemLaws.{placed-unmarked}
use Rattle.rv_codegen.specs.StorageItems.{put_word}
use Rattle.rv_codegen.proofs.Emitting.{OnOk-then}
use Rattle.rv_codegen.proofs.storage.append_put.Goals as goal

pub returns-clause-placed : goal.returns-clause-placed
returns-clause-placed c =
    let asm = c.args.asm.now in
    OnOk-then c.commit.result
    (λ same l. same l ∙ ap (λ z. is_placed z.items l) c.in_ok-append_word.ensures.items ∙ placed-unmarked asm.items (map Plain (put_word c.args.value c.args.cell)) l (refl, (refl, (refl, tt))))
    c.commit.ensures.placed

pub returns-clause-short : goal.returns-clause-short
returns-clause-short c =
    let asm = c.args.asm.now in
    OnOk-then c.commit.result
    (λ more. omega (arith, more, ap (λ z. total z.items) c.in_ok-append_word.ensures.items, total-append asm.items (map Plain (put_word c.args.value c.args.cell))))
    c.commit.ensures.short
