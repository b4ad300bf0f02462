-- The address of a word of the frame, in register 10.
use Rattle.std.proofs.Common.{◌≡◌, ◌≢◌, ⊎_elim, ℕ, ◌+◌, ◌*◌, ◌^◌, ◌<◌, ◌≤◌, true, false, List, [], ◌∷◌, ◌++◌, length, pos, refl, ap, ◌∙◌, subst, arith, ltb, length-append}
use Rattle.rv_code.proofs.Bools.{true-or-false}
use Rattle.rv_code.specs.Arithmetic.{wrap}
use Rattle.rv_code.specs.declared.instruction.Inst.{Inst}
use Rattle.rv_code.specs.declared.instruction.Inst.TheVariants.{Op, OpImm}
use Rattle.rv_code.specs.declared.instruction.OpOp.TheVariants.{Add}
use Rattle.rv_code.specs.declared.instruction.OpImmOp.TheVariants.{Addi}
use Rattle.rv_asm.specs.Pieces.{load_constant}
use Rattle.rv_asm.specs.WordMachine.{WordState, Goes, put, run_words, Has}
use Rattle.rv_asm.proofs.Constants.{length-load_constant, load_constant-runs}
use Rattle.rv_asm.proofs.Places.{Has-front, Has-back}
use Rattle.rv_asm.proofs.Registers.{put-other}
use Rattle.rv_asm.proofs.Stretches.{then-runs}
use Rattle.rv_yield.proofs.Steps.{get-written, op-runs, put-written, written}
use Rattle.rv_codegen.specs.Blocks.{address_items}

pub length-address : (o : ℕ) → length (address_items o) ≤ 9
length-address o =
    ⊎_elim (λ q. rw q (omega arith)) (λ q. rw q (omega (arith, length-append (load_constant 10 (8 * o)) (Op Add 10 10 2 ∷ []), length-load_constant 10 (8 * o)))) (true-or-false (ltb o 256))

module _ (base : ℕ) (code : List Inst) where
  -- register 10 has the address
  pub record HasAddress (f o : ℕ) (c : WordState) : Type 0 where
    pub count : ℕ
    pub some : 0 < count
    pub few : count ≤ 9
    pub end : WordState
    pub runs : run_words base code count c ≡ Goes end
    pub pc : end.pc ≡ c.pc + 4 * length (address_items o)
    pub value : end.registers 10 ≡ base + 8 * (f + o)
    pub others : (k : ℕ) → k ≢ 10 → end.registers k ≡ c.registers k
    pub words : end.words ≡ c.words
    pub input : end.input ≡ c.input
    pub output : end.output ≡ c.output

  pub address-comes : (f o : ℕ) (c : WordState) → o < 33554432 → c.registers 2 ≡ base + 8 * f → base + 8 * (f + o) < 2 ^ 64 → Has code c.pc (address_items o) → HasAddress f o c
  address-comes f o c small frame below h = ⊎_elim (λ q. near q) (λ q. far q) (true-or-false (ltb o 256))
    where
      near : ltb o 256 ≡ true → HasAddress f o c
      near q =
          let is : address_items o ≡ OpImm Addi 10 2 (pos (8 * o)) ∷ [] = rw q refl in
          let one : length (address_items o) ≡ 1 = ap length is in
          let address = base + 8 * (f + o) in
          let stands = subst (Has code c.pc) is h in
          let e : wrap (c.registers 2 + 8 * o) ≡ address = omega (arith, frame, below) in
          let runs : run_words base code 1 c ≡ Goes (written c 10 address) = rw (stands.0, e) refl in
          record {
            count = 1;
            some = omega arith;
            few = omega arith;
            end = written c 10 address;
            runs = runs;
            pc = omega (arith, one);
            value = put-written c.registers 10 address (omega arith);
            others = λ k n. put-other c.registers k 10 address n;
            words = refl;
            input = refl;
            output = refl;
          }

      far : ltb o 256 ≡ false → HasAddress f o c
      far q =
          let v = 8 * o in
          let load = load_constant 10 v in
          let last = Op Add 10 10 2 ∷ [] in
          let is : address_items o ≡ load ++ last = rw q refl in
          let size : length (address_items o) ≡ length load + 1 = ap length is ∙ length-append load last in
          let stands = subst (Has code c.pc) is h in
          let c1 : WordState = record c { pc = c.pc + 4 * length load; registers = put c.registers 10 v } in
          let r1 : run_words base code (length load) c ≡ Goes c1 = load_constant-runs base code 10 v c (omega arith) (omega arith) (Has-front code c.pc load last stands) in
          let rest : Has code c1.pc last = Has-back code c.pc load last stands in
          let sum = wrap (v + (base + 8 * f)) in
          let c2 = written c1 10 sum in
          let r2 : run_words base code 1 c1 ≡ Goes c2 = op-runs base code c1 Add 10 10 2 v (base + 8 * f) rest.0 (get-written c.registers 10 v (omega arith)) (put-other c.registers 2 10 v (omega arith) ∙ frame) in
          record {
            count = length load + 1;
            some = omega arith;
            few = omega (arith, length-load_constant 10 v);
            end = c2;
            runs = then-runs base code (length load) 1 c c1 c2 r1 r2;
            pc = omega (arith, size);
            value = put-written c1.registers 10 sum (omega arith) ∙ omega (arith, below);
            others = λ k n. put-other c1.registers k 10 sum n ∙ put-other c.registers k 10 v n;
            words = refl;
            input = refl;
            output = refl;
          }
