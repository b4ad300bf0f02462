-- Commitments, and the entries that commit and that send.
use Rattle.std.proofs.Common.{◌≡◌, ℕ, ◌+◌, ◌<◌, List, ◌++◌, length, set, refl, ◌∙◌, arith, length-set}
use Rattle.rv_code.specs.Bytes.{bytes_of}
use Rattle.rv_code.specs.declared.instruction.Inst.{Inst}
use Rattle.rv_asm.specs.Pieces.{send_word}
use Rattle.rv_asm.specs.PieceRuns.{CanSend}
use Rattle.rv_asm.specs.WordMachine.{WordState, Goes, put, run_words, Has}
use Rattle.rv_asm.proofs.Calls.{after_send, after_send-others, send_word-runs, send_word-between}
use Rattle.rv_asm.proofs.Places.{Has-front}
use Rattle.rv_asm.proofs.Registers.{put-other}
use Rattle.rv_asm.proofs.Stretches.{Between, then-runs, between-then-quiet}
use Rattle.rv_asm.proofs.Words.{store-runs}
use Rattle.rv_prelude.specs.EntryRuns.{Returns}
use Rattle.rv_prelude.specs.PieceRuns.{Arrival, Comes, HasRegion, quietly}
use Rattle.rv_prelude.specs.Pieces.{commit, go_back}
use Rattle.rv_prelude.specs.Region.{committed_words}
use Rattle.rv_prelude.proofs.Arrivals.{arrives, return-runs}

-- the state behind a commitment
abbrev pub committed : WordState → WordState
committed c = record c { pc = c.pc + 4 + 4 + 4; registers = put c.registers 5 1; words = committed_words c.words }

-- where words are written, the region is as before
pub region-written : (base : ℕ) (c d : WordState) → HasRegion base c → length d.words ≡ length c.words → d.registers 3 ≡ c.registers 3 → HasRegion base d
region-written base c d r size region = record {
  aligned = r.aligned;
  below = omega (arith, r.below, size);
  front = omega (arith, r.front, size);
  region = region ∙ r.region;
}

module _ (base : ℕ) (code : List Inst) where
  pub commit-runs : (c : WordState) → HasRegion base c → Has code c.pc commit → run_words base code 3 c ≡ Goes (committed c)
  commit-runs c r h =
      let c1 : WordState = record c { pc = c.pc + 4; words = set c.words 1 0 } in
      let r1 : run_words base code 1 c ≡ Goes c1 = store-runs base code c 3 0 0 1 (record { aligned = r.aligned; below = omega (arith, r.below); is = omega (arith, r.region); inside = omega (arith, r.front) }) h.0 in
      let c2 : WordState = record c1 { pc = c.pc + 4 + 4; registers = put c.registers 5 1 } in
      let r2 : run_words base code 1 c1 ≡ Goes c2 = rw (h.1.0) refl in
      let l = length-set c.words 1 0 in
      let r3 : run_words base code 1 c2 ≡ Goes (committed c) = store-runs base code c2 3 5 0 3 (record { aligned = r.aligned; below = omega (arith, r.below, l); is = omega (arith, r.region); inside = omega (arith, r.front, l) }) h.1.1.0 in
      then-runs base code 2 1 c c2 (committed c) (then-runs base code 1 1 c c1 c2 r1 r2) r3

  -- a commitment and the way back
  pub commit_back-runs : (back : ℕ) (c : WordState) → HasRegion base c → Returns back c → Has code c.pc (commit ++ go_back) → run_words base code 4 c ≡ Goes (record (committed c) { pc = back })
  commit_back-runs back c r returns h =
      then-runs base code 3 1 c (committed c) (record (committed c) { pc = back }) (commit-runs c r (Has-front code c.pc commit go_back h))
      (return-runs base code (committed c) back returns.is returns.aligned returns.below h.1.1.1)

  pub commits-back : (back : ℕ) (c : WordState) → HasRegion base c → Returns back c → Has code c.pc (commit ++ go_back) → Comes base code 4 c (quietly c back (committed_words c.words))
  commits-back back c r returns h = (
    arrives base code 4 4 c (record (committed c) { pc = back }) (quietly c back (committed_words c.words)) (omega arith) (omega arith) (commit_back-runs back c r returns h) refl refl refl refl,
    λ k lt. put-other c.registers k 5 1 (omega arith),
  )

  -- ---- the entry that sends

  module _ (back : ℕ) (c : WordState) (r : HasRegion base c) (returns : Returns back c) (h : Has code c.pc (send_word 10 0 ++ (commit ++ go_back))) where
    can-send : CanSend base 0 c
    can-send = record { aligned = r.aligned; below = omega (arith, r.below, r.front); region = r.region; inside = omega (arith, r.front) }

    abbrev sent : WordState
    sent = after_send base code 10 0 c

    -- the state behind the entry
    abbrev pub sent_back : WordState
    sent_back = record (committed sent) { pc = back }

    sends : Has code c.pc (send_word 10 0)
    sends = Has-front code c.pc (send_word 10 0) (commit ++ go_back) h

    kept : (k : ℕ) → k < 5 → sent.registers k ≡ c.registers k
    kept k lt = after_send-others base code 10 0 k c (omega arith) (omega arith) (omega arith) (omega arith)

    message-runs : run_words base code 6 c ≡ Goes sent
    message-runs = send_word-runs base code 10 0 c can-send sends

    behind-runs : run_words base code 4 sent ≡ Goes sent_back
    behind-runs =
        commit_back-runs back sent (region-written base c sent r (length-set c.words 0 (c.registers 10)) (kept 3 (omega arith)))
        (record { is = kept 1 (omega arith) ∙ returns.is; aligned = returns.aligned; below = returns.below })
        h.1.1.1.1.1.1

    pub send-runs : run_words base code 10 c ≡ Goes sent_back
    send-runs = then-runs base code 6 4 c sent sent_back message-runs behind-runs

    -- at each moment of it the output is that of its start or that of its end
    pub send-between : Between base code 10 c sent_back
    send-between = between-then-quiet base code 6 4 c sent sent_back message-runs (send_word-between base code 10 0 c can-send sends) behind-runs refl

    abbrev arrival : Arrival
    arrival = record { address = back; words = committed_words (set c.words 0 (c.registers 10)); input = c.input; output = c.output ++ bytes_of 8 (c.registers 10) }

    pub sends-back : Comes base code 10 c (record { address = back; words = committed_words (set c.words 0 (c.registers 10)); input = c.input; output = c.output ++ bytes_of 8 (c.registers 10) })
    sends-back = (
      arrives base code 10 10 c sent_back arrival (omega arith) (omega arith) send-runs refl refl refl refl,
      λ k lt. put-other sent.registers k 5 1 (omega arith) ∙ kept k lt,
    )
