-- The entry that allocates a cell.
use Rattle.std.proofs.Common.{◌≡◌, ℕ, ◌+◌, ◌*◌, ◌^◌, ◌<◌, ◌≤◌, List, ◌∷◌, ◌++◌, length, map, set, pos, refl, ap, ◌∙◌, subst, arith, length-set}
use Rattle.rv_code.specs.Arithmetic.{wrap}
use Rattle.rv_code.specs.declared.instruction.Inst.{Inst}
use Rattle.rv_asm.specs.Assembly.{address_of, far_jump, code_from}
use Rattle.rv_asm.specs.WordMachine.{WordState, Goes, put, run_words, Has}
use Rattle.rv_code.specs.declared.instruction.Inst.TheVariants.{Branch}
use Rattle.rv_code.specs.declared.instruction.BranchOp.TheVariants.{Bgeu}
use Rattle.rv_asm.specs.declared.item.Item.TheVariants.{Plain}
use Rattle.rv_asm.proofs.Places.{Has-front, Has-back, word_index-inside}
use Rattle.rv_asm.proofs.Registers.{put-other}
use Rattle.rv_asm.proofs.Stretches.{then-runs}
use Rattle.rv_prelude.specs.EntryRuns.{Returns}
use Rattle.rv_prelude.specs.PieceRuns.{Comes, HasRegion, quietly}
use Rattle.rv_prelude.specs.Pieces.{commit, go_back, make_cell, find_units, count_units, take_items}
use Rattle.rv_prelude.specs.Region.{HasUnits, committed_words}
use Rattle.rv_prelude.proofs.Arrivals.{arrives}
use Rattle.rv_prelude.proofs.Commitments.{committed, commit_back-runs, region-written}
use Rattle.rv_prelude.proofs.UnitsTaken.{take_code, taken, taken-kept, takes-runs, passes}

pub allocate-code : (at : ℕ → ℕ) (from full : ℕ) → code_from at from (take_items 1 full ++ map Plain (make_cell ++ (commit ++ go_back))) ≡ take_code 1 from (at full) ++ (make_cell ++ (commit ++ go_back))
allocate-code at from full =
    let next : from + 1 + 1 + 1 + 1 + 1 + 1 + 1 ≡ from + 7 = omega arith in
    ap (λ m. find_units 1 ++ (Branch Bgeu 7 6 (pos 12) ∷ (far_jump m (at full) ++ (count_units 1 ++ (make_cell ++ (commit ++ go_back)))))) next

module _ (base : ℕ) (code : List Inst) (from full low room spent : ℕ) (c : WordState) (r : HasRegion base c) (u : HasUnits base low room spent c.words) (here : c.pc ≡ address_of from) (near : from + 17 ≤ 2 ^ 28) (has : Has code c.pc (take_code 1 from full ++ (make_cell ++ (commit ++ go_back)))) where
  front : Has code c.pc (take_code 1 from full)
  front = Has-front code c.pc (take_code 1 from full) (make_cell ++ (commit ++ go_back)) has

  tail : Has code (address_of (from + 11)) (make_cell ++ (commit ++ go_back))
  tail =
      let e : c.pc + 4 * 11 ≡ address_of (from + 11) = omega (arith, here) in
      subst (λ p. Has code p (make_cell ++ (commit ++ go_back))) e (Has-back code c.pc (take_code 1 from full) (make_cell ++ (commit ++ go_back)) has)

  -- all units are spent
  pub allocates-none : full < 2 ^ 28 → room ≤ spent → Comes base code 9 c (quietly c (address_of full) c.words)
  allocates-none full_near le = passes base code 1 from full low room spent c r u here (omega arith) (omega (arith, near)) front full_near (omega arith)

  module _ (back : ℕ) (returns : Returns back c) (lt : spent < room) where
    abbrev unit : ℕ
    unit = base + 8 * (low + 2 * spent)

    abbrev d0 : WordState
    d0 = taken base code 1 from full low room spent c r u here (omega arith) (omega (arith, near)) front

    keeps : (k : ℕ) → k < 5 → d0.registers k ≡ c.registers k
    keeps k l = taken-kept base code 1 from full low room spent c r u here (omega arith) (omega (arith, near)) front k l

    abbrev made : WordState
    made = record d0 { pc = d0.pc + 4 + 4; registers = put d0.registers 10 unit; words = set d0.words (low + 2 * spent) 0 }

    size : length made.words ≡ length c.words
    size = length-set (set c.words 4 (spent + 1)) (low + 2 * spent) 0 ∙ length-set c.words 4 (spent + 1)

    made-runs : run_words base code 2 d0 ≡ Goes made
    made-runs =
        let i = u.inside in
        let s1 = length-set c.words 4 (spent + 1) in
        let h0 : wrap (unit + 0) ≡ unit = omega (arith, i, r.below) in
        let p = word_index-inside base (length d0.words) unit (low + 2 * spent) r.aligned refl (omega (arith, i, s1)) in
        rw (tail.0, h0, p, tail.1.0, h0) refl

    abbrev ended : WordState
    ended = record (committed made) { pc = back }

    ends-runs : run_words base code 4 made ≡ Goes ended
    ends-runs =
        commit_back-runs base code back made
        (region-written base c made r size (put-other d0.registers 3 10 unit (omega arith) ∙ keeps 3 (omega arith)))
        (record { is = put-other d0.registers 1 10 unit (omega arith) ∙ keeps 1 (omega arith) ∙ returns.is; aligned = returns.aligned; below = returns.below })
        tail.1.1

    pub allocates : (a : Comes base code 15 c (quietly c back (committed_words (set (set c.words 4 (spent + 1)) (low + 2 * spent) 0)))) × (a.0.end.registers 10 ≡ base + 8 * (low + 2 * spent))
    allocates =
        let take = takes-runs base code 1 from full low room spent c r u here (omega arith) (omega (arith, near)) front (omega arith) in
        let runs = then-runs base code 9 6 c d0 ended take (then-runs base code 2 4 d0 made ended made-runs ends-runs) in (
          (
            arrives base code 15 15 c ended (quietly c back (committed_words (set (set c.words 4 (spent + 1)) (low + 2 * spent) 0))) (omega arith) (omega arith) runs refl refl refl refl,
            λ k l. put-other (put d0.registers 10 unit) k 5 1 (omega arith) ∙ put-other d0.registers k 10 unit (omega arith) ∙ keeps k l,
          ),
          refl,
        )
