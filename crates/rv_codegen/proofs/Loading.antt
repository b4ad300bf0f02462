-- The image of compiled code loads.
use Rattle.std.proofs.Common.{ℕ, zero, suc, ◌+◌, ◌^◌, ◌<◌, ◌≤◌, List, [], ◌∷◌, length, refl, arith, inl, inr}
use Rattle.std.specs.Prelude.{All, AllPairs}
use Rattle.std.proofs.lemmas.List.Elements.{All-nil, All-append}
use Rattle.rv_code.specs.Bytes.{bytes_of}
use Rattle.rv_code.specs.Encode.{word_of}
use Rattle.rv_code.specs.Images.{ImageSegment, AreApart}
use Rattle.rv_code.specs.declared.instruction.Inst.{Inst}
use Rattle.rv_code.proofs.ByteLaws.{bytes-small}
use Rattle.rv_asm.specs.Conventions.{code_bytes, region_address, region_size}
use Rattle.rv_codegen.specs.Measures.{node_count}
use Rattle.rv_codegen.specs.RightImage.{compiled_image, code_limit, Subject, Loads}

-- a fact of each of two
All-two : {X : Type 0} (P : X → Type 0) (x y : X) → P x → P y → All P (x ∷ y ∷ [])
All-two P x y p q zero d lt = p
All-two P x y p q (suc zero) d lt = q
All-two P x y p q (suc (suc i)) d lt = absurd (omega arith)

-- a fact of two in their order
AllPairs-two : {X : Type 0} (R : X → X → Type 0) (x y : X) → R x y → AllPairs R (x ∷ y ∷ [])
AllPairs-two R x y r zero zero d lt before = absurd (omega arith)
AllPairs-two R x y r zero (suc zero) d lt before = r
AllPairs-two R x y r zero (suc (suc j)) d lt before = absurd (omega arith)
AllPairs-two R x y r (suc i) zero d lt before = absurd (omega arith)
AllPairs-two R x y r (suc i) (suc zero) d lt before = absurd (omega arith)
AllPairs-two R x y r (suc i) (suc (suc j)) d lt before = absurd (omega arith)

-- the bytes of code are below 256
pub code_bytes-small : (code : List Inst) → All (λ b. b < 256) (code_bytes code)
unfolding code_bytes
code_bytes-small [] = All-nil (λ b. b < 256)
code_bytes-small (i ∷ code) = All-append (λ b. b < 256) (bytes_of 4 (word_of i)) (code_bytes code) (bytes-small 4 (word_of i)) (code_bytes-small code)

pub compiled-loads : (code : List ℕ) (x : Subject) → All (λ b. b < 256) code → node_count x.action ≤ 65536 → x.stack ≤ 16777216 → x.units ≤ 4194304 → length code ≤ code_limit (node_count x.action) → Loads (compiled_image code x.stack x.units) x
compiled-loads code x small few s u short =
    let size = length code in
    let behind : 65536 + size ≤ region_address size = omega arith in
    let below : region_address size ≤ 65536 + size + 4096 = omega arith in
    let code_part : ImageSegment = record { address = 65536; flags = 1; bytes = code; size = size } in
    let region : ImageSegment = record { address = region_address size; flags = 6; bytes = []; size = region_size x.stack x.units } in
    record {
      valid = record {
        few = omega arith;
        flags = All-two (λ part. part.flags ≤ 7) code_part region (omega arith) (omega arith);
        sizes = All-two (λ part. length part.bytes ≤ part.size) code_part region (omega arith) (omega arith);
        low = All-two (λ part. part.address + part.size ≤ 2 ^ 32) code_part region (omega arith) (omega arith);
        apart = AllPairs-two AreApart code_part region (inr (inr (inl behind)));
        total = omega arith;
      };
      bytes = All-two (λ part. All (λ b. b < 256) part.bytes) code_part region small (All-nil (λ b. b < 256));
      code = code;
      compiled = refl;
      short = short;
    }
