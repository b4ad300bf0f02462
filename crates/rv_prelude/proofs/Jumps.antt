-- Far jumps between places of the code, and their addresses in registers.
use Rattle.std.proofs.Common.{◌≡◌, ℕ, suc, ◌+◌, ◌^◌, ◌<◌, sym, subst}
use Rattle.rv_code.specs.Arithmetic.{wrap, unsigned}
use Rattle.rv_code.specs.declared.instruction.Inst.{Inst}
use Rattle.rv_asm.specs.WordMachine.{WordState, Goes, put, run_words, Has}
use Rattle.rv_asm.specs.Assembly.{address_of, far_jump, far_address, far_high}
use Rattle.rv_asm.proofs.LabelsArrive.{far_jump-runs, far_address-runs}
use Rattle.std.specs.Prelude.{List}

-- the state after a far jump
abbrev pub jumped : WordState → (from to : ℕ) → WordState
jumped c from to = record c { pc = address_of to; registers = put c.registers 31 (wrap (c.pc + unsigned (far_high from to))) }

pub jump-runs : (base : ℕ) (code : List Inst) (c : WordState) (from to : ℕ) → from < 2 ^ 28 → to < 2 ^ 28 → c.pc ≡ address_of from → Has code (address_of from) (far_jump from to) → run_words base code 2 c ≡ Goes (jumped c from to)
jump-runs base code c from to a b at h = far_jump-runs base code from to a b c at (subst (λ n. Has code n (far_jump from to)) (sym at) h)

-- the state after the address of a place was put into register d + 1
abbrev pub addressed : WordState → (d from to : ℕ) → WordState
addressed c d from to = record c { pc = address_of (from + 2); registers = put c.registers (suc d) (address_of to) }

pub address-runs : (base : ℕ) (code : List Inst) (c : WordState) (d from to : ℕ) → from < 2 ^ 28 → to < 2 ^ 28 → c.pc ≡ address_of from → Has code (address_of from) (far_address (suc d) from to) → run_words base code 2 c ≡ Goes (addressed c d from to)
address-runs base code c d from to a b at h = far_address-runs base code from to a b c at d (subst (λ n. Has code n (far_address (suc d) from to)) (sym at) h)
