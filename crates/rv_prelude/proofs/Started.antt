-- The first instructions: the registers and the ends of stack and units are set.
use Rattle.std.proofs.Common.{◌≡◌, ℕ, ◌+◌, ◌*◌, ◌/◌, ◌^◌, ◌<◌, ◌≤◌, List, ◌++◌, length, set, refl, sym, ap, ◌∙◌, subst, arith, length-set, length-append}
use Rattle.std.proofs.lemmas.List.{length-replicate}
use Rattle.rv_code.specs.Arithmetic.{wrap}
use Rattle.rv_code.specs.declared.instruction.Inst.{Inst}
use Rattle.rv_asm.specs.Assembly.{address_of, far_address, far_jump, spot, total, code_of}
use Rattle.rv_asm.specs.Conventions.{region_address, stack_address}
use Rattle.rv_asm.specs.Pieces.{load_constant}
use Rattle.rv_asm.specs.WordMachine.{WordState, Goes, put, run_words, Has}
use Rattle.rv_asm.specs.declared.item.Item.{Item}
use Rattle.rv_asm.proofs.Constants.{length-load_constant, load_constant-runs}
use Rattle.rv_asm.proofs.Labels.{spot_le-total}
use Rattle.rv_asm.proofs.Places.{Has-front, Has-back, word_index-inside}
use Rattle.rv_asm.proofs.Stretches.{then-runs}
use Rattle.rv_prelude.specs.EntryRuns.{IsStarted, label_address}
use Rattle.rv_prelude.specs.PieceRuns.{Arrives, HasRegion, quietly}
use Rattle.rv_prelude.specs.Pieces.{round_up, store_stack_end, store_units_end, store_ends}
use Rattle.rv_prelude.specs.Region.{with_ends}
use Rattle.rv_prelude.proofs.Arrivals.{arrives}
use Rattle.rv_prelude.proofs.Jumps.{jumped, jump-runs, addressed, address-runs}

-- what rounding up leaves
pub record IsRounded (base code_size : ℕ) (code : List Inst) (c : WordState) : Type 0 where
  pub to : WordState
  pub runs : run_words base code 7 c ≡ Goes to
  pub at : to.pc ≡ c.pc + 28
  pub region : to.registers 3 ≡ region_address code_size
  pub stack : to.registers 2 ≡ stack_address (region_address code_size)
  pub words : to.words ≡ c.words
  pub input : to.input ≡ c.input
  pub output : to.output ≡ c.output

pub round_up-runs : (base code_size : ℕ) (code : List Inst) (c : WordState) → code_size < 2 ^ 30 → c.registers 3 ≡ 65536 + code_size → Has code c.pc round_up → IsRounded base code_size code c
round_up-runs base code_size code c small here has =
    let e1 : wrap (c.registers 3 + 2047) ≡ 65536 + code_size + 2047 = omega (arith, here) in
    let e2 : wrap (65536 + code_size + 2047 + 2047) ≡ 65536 + code_size + 4094 = omega arith in
    let e3 : wrap (65536 + code_size + 4094 + 1) ≡ 65536 + code_size + 4095 = omega arith in
    let e4 : wrap ((65536 + code_size + 4095) / 4096 * 4096) ≡ region_address code_size = omega arith in
    let e5 : wrap (4096 + region_address code_size) ≡ stack_address (region_address code_size) = omega arith in
    record {
      to = record c { pc = c.pc + 4 + 4 + 4 + 4 + 4 + 4 + 4; registers = put (put (put (put (put (put (put c.registers 3 (65536 + code_size + 2047)) 3 (65536 + code_size + 4094)) 3 (65536 + code_size + 4095)) 3 ((65536 + code_size + 4095) / 4096)) 3 (region_address code_size)) 2 4096) 2 (stack_address (region_address code_size)) };
      runs = rw (has.0, e1, has.1.0, e2, has.1.1.0, e3, has.1.1.1.0, has.1.1.1.1.0, e4, has.1.1.1.1.1.0, has.1.1.1.1.1.1.0, e5) refl;
      at = omega arith;
      region = refl;
      stack = refl;
      words = refl;
      input = refl;
      output = refl;
    }

pub length-store_ends : (stack units : ℕ) → length (store_ends stack units) ≤ 21
length-store_ends stack units =
    omega (arith, length-append (load_constant 5 (4096 + 8 * stack)) (store_stack_end ++ (load_constant 6 (16 * units) ++ store_units_end)), length-append (load_constant 6 (16 * units)) store_units_end, length-load_constant 5 (4096 + 8 * stack), length-load_constant 6 (16 * units))

-- the ends are stored
pub record HasEnds (base stack units : ℕ) (code : List Inst) (c : WordState) : Type 0 where
  pub registers : ℕ → ℕ
  pub runs : run_words base code (length (store_ends stack units)) c ≡ Goes (record c { pc = c.pc + 4 * length (store_ends stack units); registers = registers; words = with_ends base stack units c.words })
  pub region_kept : registers 3 ≡ c.registers 3
  pub frame_kept : registers 2 ≡ c.registers 2

module _ (base stack units : ℕ) (code : List Inst) (c : WordState) (r : HasRegion base c) (few : stack ≤ 16777216) (few_units : units ≤ 4194304) (below : base + 8 * (512 + stack + 2 * units) ≤ 2 ^ 32) (has : Has code c.pc (store_ends stack units)) where
  abbrev first : List Inst
  first = load_constant 5 (4096 + 8 * stack)

  abbrev second : List Inst
  second = load_constant 6 (16 * units)

  abbrev tail : List Inst
  tail = second ++ store_units_end

  abbrev stack_end : ℕ
  stack_end = base + 8 * (512 + stack)

  abbrev units_end : ℕ
  units_end = base + 8 * (512 + stack + 2 * units)

  abbrev c1 : WordState
  c1 = record c { pc = c.pc + 4 * length first; registers = put c.registers 5 (4096 + 8 * stack) }

  abbrev c2 : WordState
  c2 = record c { pc = c1.pc + 12; registers = put c1.registers 5 stack_end; words = set (set c.words 5 stack_end) 6 stack_end }

  abbrev c3 : WordState
  c3 = record c2 { pc = c2.pc + 4 * length second; registers = put c2.registers 6 (16 * units) }

  abbrev c4 : WordState
  c4 = record c3 { pc = c3.pc + 8; registers = put c3.registers 6 units_end; words = with_ends base stack units c.words }

  runs1 : run_words base code (length first) c ≡ Goes c1
  runs1 = load_constant-runs base code 5 (4096 + 8 * stack) c (omega arith) (omega arith) (Has-front code c.pc first (store_stack_end ++ tail) has)

  has1 : Has code c1.pc (store_stack_end ++ tail)
  has1 = Has-back code c.pc first (store_stack_end ++ tail) has

  runs2 : run_words base code 3 c1 ≡ Goes c2
  runs2 =
      let sum : wrap (4096 + 8 * stack + c.registers 3) ≡ stack_end = omega (arith, r.region, below) in
      let h5 : wrap (c.registers 3 + 40) ≡ base + 8 * 5 = omega (arith, r.region, r.below, r.front) in
      let h6 : wrap (c.registers 3 + 48) ≡ base + 8 * 6 = omega (arith, r.region, r.below, r.front) in
      let q5 = word_index-inside base (length c.words) (base + 8 * 5) 5 r.aligned refl (omega (arith, r.front)) in
      let q6 = word_index-inside base (length (set c.words 5 stack_end)) (base + 8 * 6) 6 r.aligned refl (omega (arith, r.front, length-set c.words 5 stack_end)) in
      let q : c1.pc + 4 + 4 + 4 ≡ c1.pc + 12 = omega arith in
      rw (has1.0, sum, has1.1.0, h5, q5, has1.1.1.0, h6, q6, q) refl

  has2 : Has code c2.pc tail
  has2 = Has-back code c1.pc store_stack_end tail has1

  runs3 : run_words base code (length second) c2 ≡ Goes c3
  runs3 = load_constant-runs base code 6 (16 * units) c2 (omega arith) (omega arith) (Has-front code c2.pc second store_units_end has2)

  has3 : Has code c3.pc store_units_end
  has3 = Has-back code c2.pc second store_units_end has2

  runs4 : run_words base code 2 c3 ≡ Goes c4
  runs4 =
      let s5 = length-set c.words 5 stack_end in
      let s6 = length-set (set c.words 5 stack_end) 6 stack_end in
      let sum : wrap (16 * units + stack_end) ≡ units_end = omega (arith, below) in
      let h7 : wrap (c.registers 3 + 56) ≡ base + 8 * 7 = omega (arith, r.region, r.below, r.front) in
      let q7 = word_index-inside base (length c2.words) (base + 8 * 7) 7 r.aligned refl (omega (arith, r.front, s5, s6)) in
      let q : c3.pc + 4 + 4 ≡ c3.pc + 8 = omega arith in
      rw (has3.0, sum, has3.1.0, h7, q7, q) refl

  pub stores-ends : HasEnds base stack units code c
  stores-ends =
      let l = length-append first (store_stack_end ++ tail) in
      let l2 = length-append second store_units_end in
      let count : length first + (3 + (length second + 2)) ≡ length (store_ends stack units) = omega (arith, l, l2) in
      let there : c4.pc ≡ c.pc + 4 * length (store_ends stack units) = omega (arith, count) in
      let all = then-runs base code (length first) (3 + (length second + 2)) c c1 c4 runs1 (then-runs base code 3 (length second + 2) c1 c2 c4 runs2 (then-runs base code (length second) 2 c2 c3 c4 runs3 runs4)) in
      record {
        registers = c4.registers;
        runs = subst (λ n. run_words base code n c ≡ Goes c4) count all ∙ ap (λ p. Goes (record c { pc = p; registers = c4.registers; words = with_ends base stack units c.words })) there;
        region_kept = refl;
        frame_kept = refl;
      }

-- all of the first instructions
module _ (items : List Item) (start code_end stack units : ℕ) (few : stack ≤ 16777216) (few_units : units ≤ 4194304) (near : total items < 2 ^ 28) (first : Has (code_of items) (address_of 0) (far_address 3 0 (spot items code_end))) (round : Has (code_of items) (address_of 2) round_up) (ends : Has (code_of items) (address_of 9) (store_ends stack units)) (last : Has (code_of items) (address_of (9 + length (store_ends stack units))) (far_jump (9 + length (store_ends stack units)) (spot items start))) where
  pub starts-within : (base : ℕ) (c : WordState) → IsStarted items code_end stack units base c → (a : Arrives base (code_of items) 64 c (quietly c (label_address items start) (with_ends base stack units c.words))) × (a.end.registers 3 ≡ base) × (a.end.registers 2 ≡ stack_address base)
  starts-within base c h =
      let code = code_of items in
      let end = spot items code_end in
      let end_near : end < 2 ^ 28 = omega (arith, near, spot_le-total items code_end) in
      let s1 = addressed c 2 0 end in
      let r1 = address-runs base code c 2 0 end (omega arith) end_near h.here first in
      let s2 = round_up-runs base (4 * end) code s1 (omega (arith, end_near)) refl round in
      let size : length c.words ≡ 512 + stack + 2 * units = ap length h.words ∙ length-replicate (512 + stack + 2 * units) 0 in
      let size2 : length s2.to.words ≡ 512 + stack + 2 * units = ap length s2.words ∙ size in
      let r : HasRegion base s2.to = record { aligned = omega (arith, h.base_is); below = omega (arith, h.below, size, size2); front = omega (arith, size2); region = s2.region ∙ sym h.base_is } in
      let at2 : s2.to.pc ≡ address_of 9 = omega (arith, s2.at) in
      let e = stores-ends base stack units code s2.to r few few_units (omega (arith, h.below, size)) (subst (λ p. Has code p (store_ends stack units)) (sym at2) ends) in
      let l = length (store_ends stack units) in
      let c3 : WordState = record s2.to { pc = s2.to.pc + 4 * l; registers = e.registers; words = with_ends base stack units s2.to.words } in
      let at3 : c3.pc ≡ address_of (9 + l) = omega (arith, at2) in
      let few_words = length-store_ends stack units in
      let s4 = jumped c3 (9 + l) (spot items start) in
      let r4 = jump-runs base code c3 (9 + l) (spot items start) (omega (arith, few_words)) (omega (arith, near, spot_le-total items start)) at3 last in
      let runs = then-runs base code 2 (7 + (l + 2)) c s1 s4 r1 (then-runs base code 7 (l + 2) s1 s2.to s4 s2.runs (then-runs base code l 2 s2.to c3 s4 e.runs r4)) in (
        arrives base code 64 (2 + (7 + (l + 2))) c s4 (quietly c (label_address items start) (with_ends base stack units c.words)) (omega arith) (omega (arith, few_words)) runs refl (ap (with_ends base stack units) s2.words) s2.input s2.output,
        e.region_kept ∙ r.region,
        e.frame_kept ∙ s2.stack ∙ ap stack_address (sym h.base_is),
      )
