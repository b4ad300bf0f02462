-- Units are taken: the count is raised and the address of the first stands in register 8; or they pass, and nothing is changed.
use Rattle.std.proofs.Common.{◌≡◌, ℕ, ◌+◌, ◌*◌, ◌%◌, ◌^◌, ◌<◌, ◌≤◌, List, ◌∷◌, ◌++◌, length, set, pos, refl, ap, ◌∙◌, subst, arith, eqb, eq-eqb, ltb, lt-ltb, le-ltb, true, false}
use Rattle.rv_code.specs.Arithmetic.{wrap}
use Rattle.rv_code.specs.declared.instruction.Inst.{Inst}
use Rattle.rv_code.specs.declared.instruction.Inst.TheVariants.{Branch}
use Rattle.rv_code.specs.declared.instruction.BranchOp.TheVariants.{Bgeu}
use Rattle.rv_asm.specs.Assembly.{address_of, far_jump, code_from}
use Rattle.rv_asm.specs.WordMachine.{WordState, Goes, put, run_words, Has}
use Rattle.rv_asm.proofs.Places.{Has-front, Has-back, word_index-inside}
use Rattle.rv_asm.proofs.Registers.{put-other}
use Rattle.rv_asm.proofs.Stretches.{then-runs}
use Rattle.rv_prelude.specs.PieceRuns.{Comes, HasRegion, Keeps, quietly}
use Rattle.rv_prelude.specs.Pieces.{find_units, count_units, take_items}
use Rattle.rv_prelude.specs.Region.{HasUnits}
use Rattle.rv_prelude.proofs.Arrivals.{arrives}
use Rattle.rv_prelude.proofs.Jumps.{jumped, jump-runs}

-- the instructions of the piece behind `from` others, where the label for units that pass stands behind `full`
abbrev pub take_code : (n from full : ℕ) → List Inst
take_code n from full = find_units n ++ (Branch Bgeu 7 6 (pos 12) ∷ (far_jump (from + 7) full ++ count_units n))

pub take-code : (at : ℕ → ℕ) (n from full : ℕ) → code_from at from (take_items n full) ≡ take_code n from (at full)
take-code at n from full =
    let next : from + 1 + 1 + 1 + 1 + 1 + 1 + 1 ≡ from + 7 = omega arith in
    ap (λ m. find_units n ++ (Branch Bgeu 7 6 (pos 12) ∷ (far_jump m (at full) ++ count_units n))) next

module _ (base : ℕ) (code : List Inst) (n from full low room spent : ℕ) (c : WordState) (r : HasRegion base c) (u : HasUnits base low room spent c.words) (here : c.pc ≡ address_of from) (few : n < 128) (near : from + 11 ≤ 2 ^ 28) (has : Has code c.pc (take_code n from full)) where
  abbrev first : ℕ
  first = base + 8 * (low + 2 * spent)

  abbrev last : ℕ
  last = base + 8 * (low + 2 * (spent + n))

  -- the registers behind the search
  abbrev registers : ℕ → ℕ
  registers = put (put (put (put (put (put c.registers 5 spent) 8 (base + 8 * low)) 7 (base + 8 * (low + 2 * room))) 6 (16 * spent)) 8 first) 6 last

  abbrev searched : WordState
  searched = record c { pc = c.pc + 24; registers = registers }

  search-runs : run_words base code 6 c ≡ Goes searched
  search-runs =
      let w = u.within in
      let i = u.inside in
      let b = u.behind in
      let h4 : wrap (c.registers 3 + 32) ≡ base + 8 * 4 = omega (arith, r.region, r.below, r.front) in
      let h6 : wrap (c.registers 3 + 48) ≡ base + 8 * 6 = omega (arith, r.region, r.below, r.front) in
      let h7 : wrap (c.registers 3 + 56) ≡ base + 8 * 7 = omega (arith, r.region, r.below, r.front) in
      let p4 = word_index-inside base (length c.words) (base + 8 * 4) 4 r.aligned refl (omega (arith, r.front)) in
      let p6 = word_index-inside base (length c.words) (base + 8 * 6) 6 r.aligned refl (omega (arith, r.front)) in
      let p7 = word_index-inside base (length c.words) (base + 8 * 7) 7 r.aligned refl (omega (arith, r.front)) in
      let a : wrap (spent * 2 ^ 4) ≡ 16 * spent = omega (arith, w, i, r.below) in
      let s : wrap (base + 8 * low + 16 * spent) ≡ first = omega (arith, w, i, r.below) in
      let z : wrap (first + 16 * n) ≡ last = omega (arith, w, i, r.below, few) in
      let q : c.pc + 4 + 4 + 4 + 4 + 4 + 4 ≡ c.pc + 24 = omega arith in
      rw (has.0, h4, p4, u.counted, has.1.0, h6, p6, u.first_at, has.1.1.0, h7, p7, u.end_at, has.1.1.1.0, a, has.1.1.1.1.0, s, has.1.1.1.1.1.0, z, q) refl

  kept : Keeps c searched
  kept k lt =
      let r0 = c.registers in
      let r1 = put r0 5 spent in
      let r2 = put r1 8 (base + 8 * low) in
      let r3 = put r2 7 (base + 8 * (low + 2 * room)) in
      let r4 = put r3 6 (16 * spent) in
      let r5 = put r4 8 first in
      put-other r5 k 6 last (omega arith) ∙ put-other r4 k 8 first (omega arith) ∙ put-other r3 k 6 (16 * spent) (omega arith) ∙ put-other r2 k 7 (base + 8 * (low + 2 * room)) (omega arith) ∙ put-other r1 k 8 (base + 8 * low) (omega arith) ∙ put-other r0 k 5 spent (omega arith)

  behind : Has code (c.pc + 24) (Branch Bgeu 7 6 (pos 12) ∷ (far_jump (from + 7) full ++ count_units n))
  behind = Has-back code c.pc (find_units n) (Branch Bgeu 7 6 (pos 12) ∷ (far_jump (from + 7) full ++ count_units n)) has

  -- ---- they are there

  abbrev pub taken : WordState
  taken = record c { pc = address_of (from + 11); registers = put registers 5 (spent + n); words = set c.words 4 (spent + n) }

  pub taken-kept : Keeps c taken
  taken-kept k lt = put-other registers k 5 (spent + n) (omega arith) ∙ kept k lt

  pub takes-runs : spent + n ≤ room → run_words base code 9 c ≡ Goes taken
  takes-runs le =
      let i = u.inside in
      let q : ltb (base + 8 * (low + 2 * room)) last ≡ false = le-ltb _ _ (omega arith) in
      let w : wrap (c.pc + 24 + 12) ≡ c.pc + 36 = omega (arith, here, near) in
      let m : eqb ((c.pc + 36) % 4) 0 ≡ true = eq-eqb _ _ (omega (arith, here)) in
      let d1 : WordState = record searched { pc = c.pc + 36 } in
      let s1 : run_words base code 1 searched ≡ Goes d1 = rw (behind.0, q, w, m) refl in
      let p2 : c.pc + 24 + 4 + 8 ≡ c.pc + 36 = omega arith in
      let tail : Has code (c.pc + 36) (count_units n) = subst (λ z. Has code z (count_units n)) p2 (Has-back code (c.pc + 24 + 4) (far_jump (from + 7) full) (count_units n) behind.1) in
      let v : wrap (spent + n) ≡ spent + n = omega (arith, i, r.below) in
      let h4 : wrap (c.registers 3 + 32) ≡ base + 8 * 4 = omega (arith, r.region, r.below, r.front) in
      let p4 = word_index-inside base (length c.words) (base + 8 * 4) 4 r.aligned refl (omega (arith, r.front)) in
      let e : c.pc + 36 + 4 + 4 ≡ address_of (from + 11) = omega (arith, here) in
      let s2 : run_words base code 2 d1 ≡ Goes taken = rw (tail.0, v, tail.1.0, h4, p4, e) refl in
      then-runs base code 6 3 c searched taken search-runs (then-runs base code 1 2 searched d1 taken s1 s2)

  pub takes : spent + n ≤ room → (a : Comes base code 9 c (quietly c (address_of (from + 11)) (set c.words 4 (spent + n)))) × (a.0.end.registers 8 ≡ first)
  takes le = (
    (arrives base code 9 9 c taken (quietly c (address_of (from + 11)) (set c.words 4 (spent + n))) (omega arith) (omega arith) (takes-runs le) refl refl refl refl, taken-kept),
    refl,
  )

  -- ---- they pass

  abbrev stopped : WordState
  stopped = jumped (record searched { pc = address_of (from + 7) }) (from + 7) full

  pub passes : full < 2 ^ 28 → room < spent + n → Comes base code 9 c (quietly c (address_of full) c.words)
  passes full_near lt =
      let w = u.within in
      let q : ltb (base + 8 * (low + 2 * room)) last ≡ true = lt-ltb _ _ (omega arith) in
      let p1 : c.pc + 24 + 4 ≡ address_of (from + 7) = omega (arith, here) in
      let d1 : WordState = record searched { pc = address_of (from + 7) } in
      let s1 : run_words base code 1 searched ≡ Goes d1 = rw (behind.0, q, p1) refl in
      let far : Has code (address_of (from + 7)) (far_jump (from + 7) full) = subst (λ z. Has code z (far_jump (from + 7) full)) p1 (Has-front code (c.pc + 24 + 4) (far_jump (from + 7) full) (count_units n) behind.1) in
      let s2 = jump-runs base code d1 (from + 7) full (omega (arith, near)) full_near refl far in
      let runs = then-runs base code 6 3 c searched stopped search-runs (then-runs base code 1 2 searched d1 stopped s1 s2) in
      (arrives base code 9 9 c stopped (quietly c (address_of full) c.words) (omega arith) (omega arith) runs refl refl refl refl, λ k l. put-other registers k 31 _ (omega arith) ∙ kept k l)
