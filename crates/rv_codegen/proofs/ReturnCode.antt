-- The way back from a body: to the address in the first word of its frame, and there the caller's frame becomes that of the machine again.
use Rattle.std.proofs.Common.{◌≡◌, ℕ, ◌+◌, ◌-◌, ◌*◌, ◌%◌, ◌^◌, ◌<◌, ◌≤◌, true, List, [], ◌∷◌, ◌++◌, length, get_or, pos, refl, sym, ap, ◌∙◌, subst, arith, eqb, eq-eqb}
use Rattle.rv_code.specs.Arithmetic.{wrap}
use Rattle.rv_code.specs.declared.instruction.Inst.{Inst}
use Rattle.rv_code.specs.declared.instruction.Inst.TheVariants.{Jalr, Load}
use Rattle.rv_code.specs.declared.instruction.LoadOp.TheVariants.{Ld}
use Rattle.rv_asm.specs.WordMachine.{WordState, Goes, put, run_words, Has}
use Rattle.rv_asm.proofs.Places.{Has-front, Has-back}
use Rattle.rv_asm.proofs.Registers.{put-other, put-same}
use Rattle.rv_asm.proofs.Stretches.{then-runs}
use Rattle.rv_asm.proofs.Words.{load-runs}
use Rattle.rv_yield.specs.Evaluates.{HasFrame}
use Rattle.rv_codegen.specs.AddressItems.{address_items}
use Rattle.rv_codegen.specs.CallItems.{return_items}
use Rattle.rv_codegen.proofs.FrameAddresses.{address-comes}

module _ (base : ℕ) (code : List Inst) where
  -- a jump to the address in register 5
  jump-five : (c : WordState) (to : ℕ) → c.registers 5 ≡ to → to % 4 ≡ 0 → to < 2 ^ 64 → Has code c.pc (Jalr 0 5 (pos 0) ∷ []) → run_words base code 1 c ≡ Goes (record c { pc = to })
  jump-five c to at even small h =
      let w : wrap (c.registers 5 + 0) - wrap (c.registers 5 + 0) % 2 ≡ to = omega (arith, at) in
      let m : eqb (to % 4) 0 ≡ true = eq-eqb _ _ even in
      rw (h.0, w, m) refl

  -- the machine is at an address, with the frame that it had
  pub record HasReturned (to : ℕ) (c : WordState) : Type 0 where
    pub end : WordState
    pub runs : run_words base code 2 c ≡ Goes end
    pub at : end.pc ≡ to
    pub others : (k : ℕ) → k < 5 → end.registers k ≡ c.registers k
    pub words : end.words ≡ c.words
    pub input : end.input ≡ c.input
    pub output : end.output ≡ c.output

  pub returns-run : (f to : ℕ) (c : WordState) → HasFrame base f c → f < length c.words → get_or c.words (f + 0) 0 ≡ to → to % 4 ≡ 0 → to < 2 ^ 64 → Has code c.pc return_items → HasReturned to c
  returns-run f to c frame inside word even small h =
      let c1 : WordState = record c { pc = c.pc + 4; registers = put c.registers 5 to } in
      let one : run_words base code 1 c ≡ Goes c1 = load-runs base code c 5 2 f 0 (record { aligned = frame.aligned; below = omega (arith, frame.below); is = frame.frame; inside = omega (arith, inside) }) h.0 ∙ ap (λ v. Goes (record c { pc = c.pc + 4; registers = put c.registers 5 v })) word in
      let c2 : WordState = record c1 { pc = to } in
      let two = jump-five c1 to (put-same c.registers 4 to) even small h.1 in
      record {
        end = c2;
        runs = then-runs base code 1 1 c c1 c2 one two;
        at = refl;
        others = λ k lt. put-other c.registers k 5 to (omega arith);
        words = refl;
        input = refl;
        output = refl;
      }

  -- register 10 has the address of a word of the body's frame, and register 2 that of the caller's
  pub record HasCaller (f up first : ℕ) (c : WordState) : Type 0 where
    pub end : WordState
    pub count : ℕ
    pub few : count ≤ 10
    pub runs : run_words base code count c ≡ Goes end
    pub at : end.pc ≡ c.pc + 4 * (length (address_items first) + 1)
    pub source : end.registers 10 ≡ base + 8 * (f + first)
    pub frame : end.registers 2 ≡ base + 8 * up
    pub region : end.registers 3 ≡ c.registers 3
    pub words : end.words ≡ c.words
    pub input : end.input ≡ c.input
    pub output : end.output ≡ c.output

  pub caller-comes : (f up first : ℕ) (c : WordState) → first < 33554432 → HasFrame base f c → f + 1 < length c.words → base + 8 * (f + first) < 2 ^ 64 → get_or c.words (f + 1) 0 ≡ base + 8 * up → Has code c.pc (address_items first ++ (Load Ld 2 2 (pos 8) ∷ [])) → HasCaller f up first c
  caller-comes f up first c near frame inside low word h =
      let last = Load Ld 2 2 (pos 8) ∷ [] in
      let a = address-comes base code f first c near frame.frame low (Has-front code c.pc (address_items first) last h) in
      let c1 = a.end in
      let stands : Has code c1.pc last = subst (λ q. Has code q last) (sym a.pc) (Has-back code c.pc (address_items first) last h) in
      let size = ap length a.words in
      let value : get_or c1.words (f + 1) 0 ≡ base + 8 * up = ap (λ ws. get_or ws (f + 1) 0) a.words ∙ word in
      let c2 : WordState = record c1 { pc = c1.pc + 4; registers = put c1.registers 2 (base + 8 * up) } in
      let two : run_words base code 1 c1 ≡ Goes c2 = load-runs base code c1 2 2 f 1 (record { aligned = frame.aligned; below = omega (arith, frame.below, size); is = a.others 2 (omega arith) ∙ frame.frame; inside = omega (arith, inside, size) }) stands.0
      ∙ ap (λ v. Goes (record c1 { pc = c1.pc + 4; registers = put c1.registers 2 v })) value in
      record {
        end = c2;
        count = a.count + 1;
        few = omega (arith, a.few);
        runs = then-runs base code a.count 1 c c1 c2 a.runs two;
        at = omega (arith, a.pc);
        source = put-other c1.registers 10 2 (base + 8 * up) (omega arith) ∙ a.value;
        frame = put-same c1.registers 1 (base + 8 * up);
        region = put-other c1.registers 3 2 (base + 8 * up) (omega arith) ∙ a.others 3 (omega arith);
        words = a.words;
        input = a.input;
        output = a.output;
      }
