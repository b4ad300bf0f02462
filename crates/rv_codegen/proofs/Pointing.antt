-- The address of a word of the frame in register 10, and data that stand in a row from there on.
use Rattle.std.proofs.Common.{◌≡◌, ℕ, zero, suc, ◌+◌, ◌*◌, ◌<◌, List, [], ◌∷◌, length, pos, refl, subst, ◌∙◌, arith, length-append}
use Rattle.std.specs.List.{range_with_len}
use Rattle.std.specs.Prelude.{slice_index}
use Rattle.rv_code.specs.Arithmetic.{wrap, unsigned}
use Rattle.rv_code.specs.declared.instruction.Inst.{Inst}
use Rattle.rv_code.specs.declared.instruction.Inst.TheVariants.{Op}
use Rattle.rv_code.specs.declared.instruction.OpOp.TheVariants.{Add}
use Rattle.rv_code.specs.declared.instruction.OpImmOp.TheVariants.{Addi}
use Rattle.rv_asm.specs.DataWords.{Heap, StandsFor}
use Rattle.rv_asm.specs.Pieces.{load_constant}
use Rattle.rv_asm.specs.WordMachine.{WordState, Goes, Has, put, run_words}
use Rattle.rv_asm.proofs.Constants.{length-load_constant, load_constant-runs}
use Rattle.rv_asm.proofs.Places.{Has-front, Has-back}
use Rattle.rv_asm.proofs.Registers.{put-other, put-same}
use Rattle.rv_asm.proofs.Stretches.{then-runs}
use Rattle.action_terms.specs.Information.{Data}
use Rattle.frame_layout.specs.Layouts.{AreConsecutive}
use Rattle.rv_yield.specs.Evaluates.{HasFrame}
use Rattle.rv_yield.specs.Holding.{Holds}
use Rattle.rv_yield.proofs.Steps.{immediate-runs, op-runs, written}
use Rattle.rv_codegen.specs.GivenItems.{point_items}
use Rattle.rv_codegen.proofs.Holding.{in_row}
use Rattle.rv_codegen.proofs.MovedWords.{HasWritten}

-- the first of some offsets
abbrev pub first_of : List ℕ → ℕ
first_of [] = 0
first_of (o ∷ os) = o

-- ---- a row

row-held : (base : ℕ) (heap : Heap) (words : List ℕ) (f x i n : ℕ) (d : Data) → Holds base heap words f (range_with_len (x + i) n) d → Holds base heap words (f + x) (in_row i (length d)) d
row-held base heap words f x i zero [] h = tt
row-held base heap words f x i zero (y ∷ d) h = absurd h
row-held base heap words f x i (suc n) [] h = absurd h
row-held base heap words f x i (suc n) (y ∷ d) h =
    let place : f + (x + i) ≡ f + x + i = omega arith in
    let next : x + i + 1 ≡ x + (i + 1) = omega arith in
    (subst (λ j. StandsFor base heap (slice_index words j) y) place h.0, row-held base heap words f x (i + 1) n d (subst (λ j. Holds base heap words f (range_with_len j n) d) next h.1))

-- data at consecutive offsets stand in a row from the first of them on
pub consecutive-row : (base : ℕ) (heap : Heap) (words : List ℕ) (f : ℕ) (os : List ℕ) (d : Data) → AreConsecutive os → Holds base heap words f os d → Holds base heap words (f + first_of os) (in_row 0 (length d)) d
consecutive-row base heap words f [] [] row h = tt
consecutive-row base heap words f [] (y ∷ d) row h = absurd h
consecutive-row base heap words f (o ∷ os) d (x, is) h =
    let first : o ≡ x = cc in
    let start : x ≡ o + 0 = omega (arith, first) in
    row-held base heap words f o 0 (suc (length os)) d (subst (λ j. Holds base heap words f (range_with_len j (suc (length os))) d) start (subst (λ ys. Holds base heap words f ys d) is h))

-- ---- the address

module _ (base : ℕ) (code : List Inst) (f : ℕ) where
  -- register 10 has the address, and no word has changed
  pub record HasPointed (os : List ℕ) (c : WordState) : Type 0 where
    pub written : HasWritten base code f 9 [] c (c.pc + 4 * length (point_items os))
    pub value : written.end.registers 10 ≡ base + 8 * (f + first_of os)

  pub points-run : (os : List ℕ) (c : WordState) → first_of os < 33554432 → f + first_of os < length c.words → HasFrame base f c → Has code c.pc (point_items os) → HasPointed os c
  points-run [] c small inside frame has =
      let sum = wrap (base + 8 * f + unsigned (pos 0)) in
      record {
        written = record {
          count = 1;
          few = omega arith;
          end = written c 10 sum;
          runs = immediate-runs base code c Addi 10 2 (base + 8 * f) (pos 0) has.0 frame.frame;
          at = omega arith;
          others = λ k lt. put-other c.registers k 10 sum (omega arith);
          size = refl;
          kept = λ j out. refl;
          input = refl;
          output = refl;
        };
        value = put-same c.registers 9 sum ∙ omega (arith, frame.below, inside);
      }
  points-run (o ∷ os) c small inside frame has =
      let v = 8 * o in
      let load = load_constant 10 v in
      let last = Op Add 10 10 2 ∷ [] in
      let c1 : WordState = record c { pc = c.pc + 4 * length load; registers = put c.registers 10 v } in
      let r1 : run_words base code (length load) c ≡ Goes c1 = load_constant-runs base code 10 v c (omega arith) (omega arith) (Has-front code c.pc load last has) in
      let rest : Has code c1.pc last = Has-back code c.pc load last has in
      let sum = wrap (v + (base + 8 * f)) in
      let r2 : run_words base code 1 c1 ≡ Goes (written c1 10 sum) = op-runs base code c1 Add 10 10 2 v (base + 8 * f) rest.0 (put-same c.registers 9 v) (put-other c.registers 2 10 v (omega arith) ∙ frame.frame) in
      record {
        written = record {
          count = length load + 1;
          few = omega (arith, length-load_constant 10 v);
          end = written c1 10 sum;
          runs = then-runs base code (length load) 1 c c1 (written c1 10 sum) r1 r2;
          at = omega (arith, length-append load last);
          others = λ k lt. put-other c1.registers k 10 sum (omega arith) ∙ put-other c.registers k 10 v (omega arith);
          size = refl;
          kept = λ j out. refl;
          input = refl;
          output = refl;
        };
        value = put-same c1.registers 9 sum ∙ omega (arith, frame.below, inside);
      }
