-- A word of the region is loaded and stored by its distance from a word whose address stands in a register.
use Rattle.std.proofs.Common.{◌≡◌, ℕ, ◌+◌, ◌*◌, ◌%◌, ◌^◌, ◌<◌, ◌≤◌, List, length, get_or, set, Some, pos, refl, arith}
use Rattle.rv_code.specs.Arithmetic.{wrap}
use Rattle.rv_code.specs.declared.instruction.Inst.{Inst}
use Rattle.rv_code.specs.declared.instruction.Inst.TheVariants.{Load, Store}
use Rattle.rv_code.specs.declared.instruction.LoadOp.TheVariants.{Ld}
use Rattle.rv_code.specs.declared.instruction.StoreOp.TheVariants.{Sd}
use Rattle.rv_asm.specs.WordMachine.{WordState, Goes, get, put, run_words, instruction_at, word_index}
use Rattle.rv_asm.proofs.Places.{word_index-inside}

-- the word `distance` words behind word i
pub word_index-behind :
    (base n i distance : ℕ) →
    base % 8 ≡ 0 →
    base + 8 * n ≤ 2 ^ 64 →
    i + distance < n →
    word_index base n (wrap (base + 8 * i + 8 * distance)) ≡ Some (i + distance)
word_index-behind base n i distance b top h =
    word_index-inside base n (wrap (base + 8 * i + 8 * distance)) (i + distance) b (omega arith) h

-- a register holds the address of word i, and the word `distance` words behind it is inside the region
pub record IsReachable (base : ℕ) (c : WordState) (register i distance : ℕ) : Type 0 where
  pub aligned : base % 8 ≡ 0
  pub below : base + 8 * length c.words ≤ 2 ^ 64
  pub is : get c.registers register ≡ base + 8 * i
  pub inside : i + distance < length c.words

module _ (base : ℕ) (code : List Inst) (c : WordState) where
  pub load-runs :
      (rd register i distance : ℕ) →
      IsReachable base c register i distance →
      instruction_at code c.pc ≡ Some (Load Ld rd register (pos (8 * distance))) →
      run_words base code 1 c ≡ Goes (record c { pc = c.pc + 4; registers = put c.registers rd (get_or c.words (i + distance) 0) })
  load-runs rd register i distance r h =
      let p = word_index-behind base (length c.words) i distance r.aligned r.below r.inside in
      let e = r.is in
      rw (h, e, p) refl

  pub store-runs :
      (register value i distance : ℕ) →
      IsReachable base c register i distance →
      instruction_at code c.pc ≡ Some (Store Sd register value (pos (8 * distance))) →
      run_words base code 1 c ≡ Goes (record c { pc = c.pc + 4; words = set c.words (i + distance) (get c.registers value) })
  store-runs register value i distance r h =
      let p = word_index-behind base (length c.words) i distance r.aligned r.below r.inside in
      let e = r.is in
      rw (h, e, p) refl
