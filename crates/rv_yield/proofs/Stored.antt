-- A value in register 10 is stored at an offset of the frame.
use Rattle.std.proofs.Common.{◌≡◌, ⊎_elim, ℕ, ◌+◌, ◌*◌, ◌<◌, ◌≤◌, true, false, List, [], ◌∷◌, ◌++◌, length, set, pos, refl, sym, ap, ◌∙◌, subst, arith, length-append, ltb, ltb-true}
use Rattle.rv_code.proofs.Bools.{true-or-false}
use Rattle.rv_code.specs.Arithmetic.{wrap}
use Rattle.rv_code.specs.declared.instruction.Inst.{Inst}
use Rattle.rv_code.specs.declared.instruction.Inst.TheVariants.{Op, Store}
use Rattle.rv_code.specs.declared.instruction.OpOp.TheVariants.{Add}
use Rattle.rv_code.specs.declared.instruction.StoreOp.TheVariants.{Sd}
use Rattle.rv_asm.specs.Pieces.{load_constant}
use Rattle.rv_asm.specs.WordMachine.{WordState, Goes, put, run_words, Has}
use Rattle.rv_asm.proofs.Constants.{length-load_constant, load_constant-runs}
use Rattle.rv_asm.proofs.Places.{Has-front, Has-back}
use Rattle.rv_asm.proofs.Registers.{put-other, put-same}
use Rattle.rv_asm.proofs.Stretches.{then-runs}
use Rattle.rv_asm.proofs.Words.{IsReachable, store-runs}
use Rattle.rv_yield.specs.Evaluates.{HasFrame}
use Rattle.rv_yield.specs.YielderCode.{store_items}
use Rattle.rv_yield.proofs.Steps.{written, op-runs}

pub length-store : (offset : ℕ) → length (store_items offset) ≤ 10
length-store offset =
    ⊎_elim (λ q. rw q (omega arith)) (λ q. rw q (omega (arith, length-append (load_constant 11 (8 * offset)) (Op Add 11 11 2 ∷ Store Sd 11 10 (pos 0) ∷ []), length-load_constant 11 (8 * offset)))) (true-or-false (ltb offset 256))

module _ (base : ℕ) (code : List Inst) where
  -- what is behind a store: one word is written, and no register below 5
  pub record HasStored (f offset : ℕ) (c : WordState) : Type 0 where
    pub end : WordState
    pub runs : run_words base code (length (store_items offset)) c ≡ Goes end
    pub pc : end.pc ≡ c.pc + 4 * length (store_items offset)
    pub others : (k : ℕ) → k < 5 → end.registers k ≡ c.registers k
    pub words : end.words ≡ set c.words (f + offset) (c.registers 10)
    pub input : end.input ≡ c.input
    pub output : end.output ≡ c.output

  near-stored : (f offset : ℕ) (c : WordState) → offset < 256 → HasFrame base f c → f + offset < length c.words → Has code c.pc (Store Sd 2 10 (pos (8 * offset)) ∷ []) → run_words base code 1 c ≡ Goes (record c { pc = c.pc + 4; words = set c.words (f + offset) (c.registers 10) })
  near-stored f offset c small frame inside h =
      store-runs base code c 2 10 f offset (record { aligned = frame.aligned; below = omega (arith, frame.below); is = frame.frame; inside = inside }) h.0

  pub store-stores : (f offset : ℕ) (c : WordState) → offset < 33554432 → HasFrame base f c → f + offset < length c.words → Has code c.pc (store_items offset) → HasStored f offset c
  store-stores f offset c small frame inside h = ⊎_elim (λ q. near q) (λ q. far q) (true-or-false (ltb offset 256))
    where
      near : ltb offset 256 ≡ true → HasStored f offset c
      near q =
          let is : store_items offset ≡ Store Sd 2 10 (pos (8 * offset)) ∷ [] = rw q refl in
          let one : length (store_items offset) ≡ 1 = ap length is in
          record {
            end = record c { pc = c.pc + 4; words = set c.words (f + offset) (c.registers 10) };
            runs = subst (λ n. run_words base code n c ≡ Goes (record c { pc = c.pc + 4; words = set c.words (f + offset) (c.registers 10) })) (sym one) (near-stored f offset c (ltb-true _ _ q) frame inside (subst (Has code c.pc) is h));
            pc = omega (arith, one);
            others = λ k lt. refl;
            words = refl;
            input = refl;
            output = refl;
          }

      far : ltb offset 256 ≡ false → HasStored f offset c
      far q =
          let v = 8 * offset in
          let load = load_constant 11 v in
          let last = Op Add 11 11 2 ∷ Store Sd 11 10 (pos (8 * 0)) ∷ [] in
          let is : store_items offset ≡ load ++ last = rw q refl in
          let size : length (store_items offset) ≡ length load + (1 + 1) = ap length is ∙ length-append load last in
          let stands = subst (Has code c.pc) is h in
          let c1 : WordState = record c { pc = c.pc + 4 * length load; registers = put c.registers 11 v } in
          let r1 : run_words base code (length load) c ≡ Goes c1 = load_constant-runs base code 11 v c (omega arith) (omega arith) (Has-front code c.pc load last stands) in
          let rest : Has code c1.pc last = Has-back code c.pc load last stands in
          let sum = wrap (v + (base + 8 * f)) in
          let c2 = written c1 11 sum in
          let r2 : run_words base code 1 c1 ≡ Goes c2 = op-runs base code c1 Add 11 11 2 v (base + 8 * f) rest.0 (put-same c.registers 10 v) (put-other c.registers 2 11 v (omega arith) ∙ frame.frame) in
          let c3 : WordState = record c2 { pc = c2.pc + 4; words = set c.words (f + offset + 0) (c2.registers 10) } in
          let reach : IsReachable base c2 11 (f + offset) 0 = record {
            aligned = frame.aligned;
            below = omega (arith, frame.below);
            is = put-same c1.registers 10 sum ∙ omega (arith, frame.below, inside);
            inside = omega (arith, inside);
          } in
          let r3 : run_words base code 1 c2 ≡ Goes c3 = store-runs base code c2 11 10 (f + offset) 0 reach rest.1.0 in
          let whole = then-runs base code (length load) (1 + 1) c c1 c3 r1 (then-runs base code 1 1 c1 c2 c3 r2 r3) in
          let ten : c2.registers 10 ≡ c.registers 10 = put-other c1.registers 10 11 sum (omega arith) ∙ put-other c.registers 10 11 v (omega arith) in
          let place : f + offset + 0 ≡ f + offset = omega arith in
          record {
            end = c3;
            runs = subst (λ n. run_words base code n c ≡ Goes c3) (sym size) whole;
            pc = omega (arith, size);
            others = λ k lt. put-other c1.registers k 11 sum (omega arith) ∙ put-other c.registers k 11 v (omega arith);
            words = ap (λ p. set c.words p (c2.registers 10)) place ∙ ap (set c.words (f + offset)) ten;
            input = refl;
            output = refl;
          }
