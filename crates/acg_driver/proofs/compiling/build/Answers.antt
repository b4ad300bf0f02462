use Rattle.std.proofs.Common.{◌≡◌, ◌<◌, sym, subst}
use Rattle.std.specs.Prelude.{All}
use Rattle.rv_code.specs.Images.{IsImage}
use Rattle.rv_asm.specs.Conventions.{instruction_bytes}
use Rattle.elf_image.specs.Files.{file_of}
use Rattle.elf_image.specs.Reading.{IsFileOf}
use Rattle.rv_codegen.specs.RightImage.{compiled_image}
use Rattle.acg_driver.proofs.FileBytes.{file-small}
use Rattle.acg_driver.proofs.compiling.build.Goals as goal

pub image_file-requires-clause-image : goal.image_file-requires-clause-image
image_file-requires-clause-image c =
    let cap = c.args.capacity in
    subst (λ words. IsImage (compiled_image (instruction_bytes words) cap.stack cap.units)) (sym c.deref.ensures.value) c.in_ok-code.ensures.right.loads.valid

pub returns : goal.returns
returns c =
    let cap = c.args.capacity in
    let words = c.in_ok-code.code.words.items in
    let exact : c.in_ok-image.image.items ≡ file_of (compiled_image (instruction_bytes words) cap.stack cap.units) =
    subst (λ ws. c.in_ok-image.image.items ≡ file_of (compiled_image (instruction_bytes ws) cap.stack cap.units)) c.deref.ensures.value c.in_ok-image.ensures.exact
    in
    record {
      whole = c.requires.whole;
      least = c.requires.least;
      words = words;
      exact = exact;
      right = record {
        bytes = subst (λ file. All (λ b. b < 256) file) (sym exact) (file-small (compiled_image (instruction_bytes words) cap.stack cap.units) c.in_ok-code.ensures.right.loads.bytes);
        read = subst (λ ws. IsFileOf c.in_ok-image.image.items (compiled_image (instruction_bytes ws) cap.stack cap.units)) c.deref.ensures.value c.in_ok-image.ensures.read;
        right = c.in_ok-code.ensures.right;
      };
      factor = c.in_ok-factor.ensures;
    }
