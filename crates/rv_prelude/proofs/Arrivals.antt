-- Runs of instructions, as arrivals.
use Rattle.std.proofs.Common.{◌≡◌, ℕ, ◌+◌, ◌-◌, ◌%◌, ◌^◌, ◌<◌, ◌≤◌, true, List, [], ◌∷◌, pos, refl, arith, eqb, eq-eqb}
use Rattle.rv_code.specs.Arithmetic.{wrap}
use Rattle.rv_code.specs.declared.instruction.Inst.{Inst}
use Rattle.rv_code.specs.declared.instruction.Inst.TheVariants.{Jalr}
use Rattle.rv_asm.specs.PieceRuns.{LeadsAt}
use Rattle.rv_asm.specs.WordMachine.{WordState, Goes, run_words, Has}
use Rattle.rv_asm.proofs.Bridge.{run-goes}
use Rattle.rv_prelude.specs.PieceRuns.{Arrival, Arrives}

-- a run of words is a run of the machine of the table
pub leads-at : (base : ℕ) (code : List Inst) (n : ℕ) (c d : WordState) → run_words base code n c ≡ Goes d → LeadsAt base code n c d
leads-at base code n c d runs = record {
  words = runs;
  table = λ count layout bounded. (run-goes base code count layout n c d bounded runs).0;
}

module _ (base : ℕ) (code : List Inst) where
  abbrev pub arrives : (limit n : ℕ) (c d : WordState) (to : Arrival) → 0 < n → n ≤ limit → run_words base code n c ≡ Goes d → d.pc ≡ to.address → d.words ≡ to.words → d.input ≡ to.input → d.output ≡ to.output → Arrives base code limit c to
  arrives limit n c d to some few runs at words input output = record {
    instructions = n;
    some = some;
    few = few;
    end = d;
    leads = leads-at base code n c d runs;
    at = at;
    words = words;
    input = input;
    output = output;
  }

  -- a return to the address in register 1
  pub return-runs : (c : WordState) (back : ℕ) → c.registers 1 ≡ back → back % 4 ≡ 0 → back < 2 ^ 64 → Has code c.pc (Jalr 0 1 (pos 0) ∷ []) → run_words base code 1 c ≡ Goes (record c { pc = back })
  return-runs c back at even below has =
      let target : wrap (c.registers 1 + 0) - wrap (c.registers 1 + 0) % 2 ≡ back = omega (arith, at, even, below) in
      let aligned : eqb (back % 4) 0 ≡ true = eq-eqb _ _ even in
      rw (has.0, target, aligned) refl
