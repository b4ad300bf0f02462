-- The entry that receives: an integer of the input, or none.
use Rattle.std.proofs.Common.{◌≡◌, ◌≢◌, ℕ, ◌+◌, ◌%◌, ◌^◌, ◌<◌, ◌≤◌, List, [], ◌∷◌, ◌++◌, length, map, take, drop, get_or, set, pos, refl, ap, ◌∙◌, subst, arith, length-set, get_or-set_same, eqb, eq-eqb, ne_eqb, true, false, length-take, append-nil}
use Rattle.std.specs.Prelude.{min}
use Rattle.std.proofs.lemmas.List.{drop_all}
use Rattle.rv_code.specs.Arithmetic.{wrap}
use Rattle.rv_code.specs.Bytes.{number_of, bytes_of}
use Rattle.rv_code.proofs.ByteLaws.{length-bytes}
use Rattle.rv_code.specs.declared.instruction.Inst.{Inst}
use Rattle.rv_code.specs.declared.instruction.Inst.TheVariants.{Branch}
use Rattle.rv_code.specs.declared.instruction.BranchOp.TheVariants.{Beq, Bne}
use Rattle.rv_asm.specs.Assembly.{address_of, far_jump, code_from}
use Rattle.rv_asm.specs.WordMachine.{WordState, Goes, put, run_words, Has, received_word}
use Rattle.rv_asm.specs.declared.item.Item.TheVariants.{Plain, BranchTo}
use Rattle.rv_asm.proofs.Places.{Has-front, Has-back, word_index-inside}
use Rattle.rv_asm.proofs.Registers.{put-other}
use Rattle.rv_asm.proofs.Stretches.{then-runs}
use Rattle.rv_prelude.specs.EntryRuns.{Returns}
use Rattle.rv_prelude.specs.PieceRuns.{Arrival, Comes, HasRegion, Keeps}
use Rattle.rv_prelude.specs.Pieces.{commit, go_back, receive_bytes, load_message}
use Rattle.rv_prelude.specs.Region.{committed_words}
use Rattle.rv_prelude.proofs.Arrivals.{arrives}
use Rattle.rv_prelude.proofs.Commitments.{committed, commit_back-runs, region-written}
use Rattle.rv_prelude.proofs.Jumps.{jumped, jump-runs}

-- eight bytes in place of eight others
received-whole : (old : ℕ) (input : List ℕ) → 8 ≤ length input → received_word old input ≡ number_of (take 8 input)
received-whole old input many =
    let m : min 8 (length input) ≡ 8 = omega arith in
    let size : length (take 8 input) ≡ 8 = omega (arith, length-take 8 input) in
    let all : drop (0 + length (take 8 input)) (bytes_of 8 old) ≡ [] = drop_all (0 + length (take 8 input)) (bytes_of 8 old) (omega (arith, size, length-bytes 8 old)) in
    rw (m, all) (ap number_of (append-nil (take 8 input)))

-- the instructions of the entry behind `from` others, where failures go to `fail`
abbrev pub receive_code : (from fail : ℕ) → List Inst
receive_code from fail = receive_bytes ++ (Branch Beq 10 5 (pos 12) ∷ (far_jump (from + 7) fail ++ (load_message ++ (commit ++ go_back))))

pub receive-code : (at : ℕ → ℕ) (from fail : ℕ) → code_from at from (map Plain receive_bytes ++ (BranchTo Bne 10 5 fail ∷ map Plain (load_message ++ (commit ++ go_back)))) ≡ receive_code from (at fail)
receive-code at from fail =
    let next : from + 1 + 1 + 1 + 1 + 1 + 1 + 1 ≡ from + 7 = omega arith in
    ap (λ m. receive_bytes ++ (Branch Beq 10 5 (pos 12) ∷ (far_jump m (at fail) ++ (load_message ++ (commit ++ go_back))))) next

module _ (base : ℕ) (code : List Inst) (from fail : ℕ) (c : WordState) (r : HasRegion base c) (here : c.pc ≡ address_of from) (near : from + 11 ≤ 2 ^ 28) (has : Has code c.pc (receive_code from fail)) where
  abbrev count : ℕ
  count = min 8 (length c.input)

  abbrev word : ℕ
  word = received_word (get_or c.words 0 0) c.input

  abbrev registers : ℕ → ℕ
  registers = put (put (put (put (put (put c.registers 11 base) 12 8) 17 63) 10 0) 10 count) 5 8

  abbrev called : WordState
  called = record c { pc = c.pc + 24; registers = registers; words = set c.words 0 word; input = drop count c.input }

  call-runs : run_words base code 6 c ≡ Goes called
  call-runs =
      let h0 : wrap (c.registers 3 + 0) ≡ base = omega (arith, r.region, r.below, r.front) in
      let p0 = word_index-inside base (length c.words) base 0 r.aligned (omega arith) (omega (arith, r.front)) in
      let q : c.pc + 4 + 4 + 4 + 4 + 4 + 4 ≡ c.pc + 24 = omega arith in
      rw (has.0, h0, has.1.0, has.1.1.0, has.1.1.1.0, has.1.1.1.1.0, p0, has.1.1.1.1.1.0, q) refl

  kept : Keeps c called
  kept k lt =
      let r0 = c.registers in
      let r1 = put r0 11 base in
      let r2 = put r1 12 8 in
      let r3 = put r2 17 63 in
      let r4 = put r3 10 0 in
      let r5 = put r4 10 count in
      put-other r5 k 5 8 (omega arith) ∙ put-other r4 k 10 count (omega arith) ∙ put-other r3 k 10 0 (omega arith) ∙ put-other r2 k 17 63 (omega arith) ∙ put-other r1 k 12 8 (omega arith) ∙ put-other r0 k 11 base (omega arith)

  size : length called.words ≡ length c.words
  size = length-set c.words 0 word

  behind : Has code (c.pc + 24) (Branch Beq 10 5 (pos 12) ∷ (far_jump (from + 7) fail ++ (load_message ++ (commit ++ go_back))))
  behind = Has-back code c.pc receive_bytes (Branch Beq 10 5 (pos 12) ∷ (far_jump (from + 7) fail ++ (load_message ++ (commit ++ go_back)))) has

  -- ---- an integer

  module _ (back : ℕ) (returns : Returns back c) (many : 8 ≤ length c.input) where
    abbrev loaded : WordState
    loaded = record called { pc = c.pc + 40; registers = put registers 10 word }

    load-runs : run_words base code 2 called ≡ Goes loaded
    load-runs =
        let eight : count ≡ 8 = omega (arith, many) in
        let t : eqb count 8 ≡ true = eq-eqb _ _ eight in
        let w : wrap (c.pc + 24 + 12) ≡ c.pc + 36 = omega (arith, here, near) in
        let m : eqb ((c.pc + 36) % 4) 0 ≡ true = eq-eqb _ _ (omega (arith, here)) in
        let p2 : c.pc + 24 + 4 + 8 ≡ c.pc + 36 = omega arith in
        let tail : Has code (c.pc + 36) (load_message ++ (commit ++ go_back)) = subst (λ z. Has code z (load_message ++ (commit ++ go_back))) p2 (Has-back code (c.pc + 24 + 4) (far_jump (from + 7) fail) (load_message ++ (commit ++ go_back)) behind.1) in
        let h0 : wrap (c.registers 3 + 0) ≡ base = omega (arith, r.region, r.below, r.front) in
        let p0 = word_index-inside base (length called.words) base 0 r.aligned (omega arith) (omega (arith, r.front, size)) in
        let v : get_or called.words 0 0 ≡ word = get_or-set_same c.words 0 word 0 (omega (arith, r.front)) in
        let q : c.pc + 36 + 4 ≡ c.pc + 40 = omega arith in
        let d1 : WordState = record called { pc = c.pc + 36 } in
        let s1 : run_words base code 1 called ≡ Goes d1 = rw (behind.0, t, w, m) refl in
        let s2 : run_words base code 1 d1 ≡ Goes loaded = rw (tail.0, h0, p0, v, q) refl in
        then-runs base code 1 1 called d1 loaded s1 s2

    abbrev ended : WordState
    ended = record (committed loaded) { pc = back }

    ends-runs : run_words base code 4 loaded ≡ Goes ended
    ends-runs =
        let p2 : c.pc + 24 + 4 + 8 + 4 ≡ c.pc + 40 = omega arith in
        let tail : Has code (c.pc + 40) (commit ++ go_back) = subst (λ z. Has code z (commit ++ go_back)) p2 (Has-back code (c.pc + 24 + 4) (far_jump (from + 7) fail) (load_message ++ (commit ++ go_back)) behind.1).1 in
        commit_back-runs base code back loaded
        (region-written base c loaded r size (put-other registers 3 10 word (omega arith) ∙ kept 3 (omega arith)))
        (record { is = put-other registers 1 10 word (omega arith) ∙ kept 1 (omega arith) ∙ returns.is; aligned = returns.aligned; below = returns.below })
        tail

    abbrev arrival : Arrival
    arrival = record { address = back; words = committed_words (set c.words 0 (number_of (take 8 c.input))); input = drop 8 c.input; output = c.output }

    pub receives : (a : Comes base code 12 c (record { address = back; words = committed_words (set c.words 0 (number_of (take 8 c.input))); input = drop 8 c.input; output = c.output })) × (a.0.end.registers 10 ≡ number_of (take 8 c.input))
    receives =
        let whole : word ≡ number_of (take 8 c.input) = received-whole (get_or c.words 0 0) c.input many in
        let eight : count ≡ 8 = omega (arith, many) in
        let runs = then-runs base code 6 6 c called ended call-runs (then-runs base code 2 4 called loaded ended load-runs ends-runs) in (
          (
            arrives base code 12 12 c ended arrival (omega arith) (omega arith) runs refl (ap (λ v. committed_words (set c.words 0 v)) whole) (ap (λ n. drop n c.input) eight) refl,
            λ k lt. put-other (put registers 10 word) k 5 1 (omega arith) ∙ put-other registers k 10 word (omega arith) ∙ kept k lt,
          ),
          whole,
        )

  -- ---- none

  abbrev failed : WordState
  failed = jumped (record called { pc = address_of (from + 7) }) (from + 7) fail

  abbrev failed_arrival : Arrival
  failed_arrival = record { address = address_of fail; words = set c.words 0 word; input = []; output = c.output }

  pub receives-none : fail < 2 ^ 28 → length c.input < 8 → Comes base code 9 c (record { address = address_of fail; words = set c.words 0 (received_word (get_or c.words 0 0) c.input); input = []; output = c.output })
  receives-none fail_near few =
      let other : count ≢ 8 = omega (arith, few) in
      let t : eqb count 8 ≡ false = ne_eqb _ _ other in
      let p1 : c.pc + 24 + 4 ≡ address_of (from + 7) = omega (arith, here) in
      let d1 : WordState = record called { pc = address_of (from + 7) } in
      let s1 : run_words base code 1 called ≡ Goes d1 = rw (behind.0, t, p1) refl in
      let far : Has code (address_of (from + 7)) (far_jump (from + 7) fail) = subst (λ z. Has code z (far_jump (from + 7) fail)) p1 (Has-front code (c.pc + 24 + 4) (far_jump (from + 7) fail) (load_message ++ (commit ++ go_back)) behind.1) in
      let s2 = jump-runs base code d1 (from + 7) fail (omega (arith, near)) fail_near refl far in
      let runs = then-runs base code 6 3 c called failed call-runs (then-runs base code 1 2 called d1 failed s1 s2) in
      let rest : drop count c.input ≡ [] = drop_all count c.input (omega (arith, few)) in
      (arrives base code 9 9 c failed failed_arrival (omega arith) (omega arith) runs refl refl rest refl, λ k lt. put-other registers k 31 _ (omega arith) ∙ kept k lt)
