use Rattle.std.proofs.Common.{sym, subst, ap, ◌∙◌}
use Rattle.rv_asm.specs.Conventions.{instruction_bytes}
use Rattle.rv_codegen.specs.RightImage.{compiled_image}
use Rattle.rv_machine.specs.Machines.{loaded_machine}
use Rattle.elf_image.specs.Reading.{IsFileOf}
use Rattle.acg_driver.proofs.running.load.Goals as goal

pub read_made-requires : goal.read_made-requires
read_made-requires c =
    let cap = c.requires.2 in
    let compiled = c.requires.3 in
    let image = compiled_image (instruction_bytes compiled.words) cap.stack cap.units in
    (image, subst (λ bytes. IsFileOf bytes image) (sym c.deref.ensures.value) compiled.right.read)

pub returns : goal.returns
returns c = λ g t cap compiled.
    let image = compiled_image (instruction_bytes compiled.words) cap.stack cap.units in
    let read = subst (λ bytes. IsFileOf bytes image) (sym c.deref.ensures.value) compiled.right.read in
    let same = c.in_ok-image.ensures image read in
    (t, compiled.least, ((c.args.built.image.items, image, (compiled.exact, compiled.right), c.in_ok-machine.ensures.loaded ∙ ap loaded_machine same), compiled.factor))
