-- The pieces that send a message and that exit.
use Rattle.std.proofs.Common.{◌≡◌, ◌≢◌, ℕ, ◌+◌, ◌*◌, ◌%◌, ◌^◌, ◌<◌, List, ◌++◌, length, get_or, set, Some, refl, ◌∙◌, arith, length-set, get_or-set_same}
use Rattle.rv_code.specs.Arithmetic.{wrap}
use Rattle.rv_code.specs.Bytes.{bytes_of}
use Rattle.rv_code.specs.declared.instruction.Inst.{Inst}
use Rattle.rv_code.specs.Encode.{is_encodable}
use Rattle.std.proofs.Common.{All, true, ltb, lt-ltb}
use Rattle.rv_asm.specs.Pieces.{send_word, exit_with}
use Rattle.rv_asm.specs.PieceRuns.{CanSend}
use Rattle.rv_asm.specs.WordMachine.{WordState, Goes, Exits, get, put, run_words, word_index, Has}
use Rattle.rv_asm.proofs.Encodings.{All-each_encodes}
use Rattle.rv_asm.proofs.Places.{word_index-inside}
use Rattle.rv_asm.proofs.Registers.{put-other}
use Rattle.rv_asm.proofs.Stretches.{then-runs, then-ends, Between, one-between, quiet-then-between}

module _ (base : ℕ) (code : List Inst) (register place : ℕ) (c : WordState) where
  -- the region's words with the message in its place
  abbrev pub message_words : List ℕ
  message_words = set c.words place (get c.registers register)

  -- the state before the call
  abbrev pub before_call : WordState
  before_call = record c { pc = c.pc + 4 + 4 + 4 + 4 + 4; registers = put (put (put (put c.registers 11 (base + 8 * place)) 12 8) 17 64) 10 1; words = message_words }

  -- the state behind the piece: the output has the message's eight bytes more
  abbrev pub after_send : WordState
  after_send = record before_call { pc = before_call.pc + 4; registers = put before_call.registers 10 8; output = c.output ++ bytes_of 8 (get c.registers register) }

  module _ (can : CanSend base place c) (has : Has code c.pc (send_word register place)) where
    before_call-runs : run_words base code 5 c ≡ Goes before_call
    before_call-runs =
        let a : wrap (c.registers 3 + 8 * place) ≡ base + 8 * place = omega (arith, can.region, can.below) in
        let p : word_index base (length c.words) (base + 8 * place) ≡ Some place = word_index-inside base (length c.words) (base + 8 * place) place can.aligned refl can.inside in
        rw (has.0, a, p, has.1.0, a, has.1.1.0, has.1.1.1.0, has.1.1.1.1.0) refl

    call-runs : run_words base code 1 before_call ≡ Goes after_send
    call-runs =
        let q : word_index base (length message_words) (base + 8 * place) ≡ Some place = word_index-inside base _ (base + 8 * place) place can.aligned refl (omega (arith, length-set c.words place (get c.registers register), can.inside)) in
        let g : get_or message_words place 0 ≡ get c.registers register = get_or-set_same c.words place (get c.registers register) 0 can.inside in
        rw (has.1.1.1.1.1.0, q, g) refl

    -- a message is sent by 6 instructions
    pub send_word-runs : run_words base code 6 c ≡ Goes after_send
    send_word-runs = then-runs base code 5 1 c before_call after_send before_call-runs call-runs

    -- and at each moment of them the output is that of the start or that of the end
    pub send_word-between : Between base code 6 c after_send
    send_word-between = quiet-then-between base code 5 1 c before_call after_send before_call-runs refl (one-between base code before_call after_send call-runs)

-- what a send leaves in a register: registers 10, 11, 12 and 17 alone are changed
pub after_send-others :
    (base : ℕ) (code : List Inst) (register place k : ℕ) (c : WordState) → k ≢ 10 → k ≢ 11 → k ≢ 12 → k ≢ 17 →
    (after_send base code register place c).registers k ≡ c.registers k
after_send-others base code register place k c a b d e =
    let r0 = c.registers in
    let r1 = put r0 11 (base + 8 * place) in
    let r2 = put r1 12 8 in
    let r3 = put r2 17 64 in
    let r4 = put r3 10 1 in
    put-other r4 k 10 8 a ∙ put-other r3 k 10 1 a ∙ put-other r2 k 17 64 e ∙ put-other r1 k 12 8 d ∙ put-other r0 k 11 (base + 8 * place) b

module _ (base : ℕ) (code : List Inst) (exit : ℕ) (c : WordState) where
  -- the state before the call that exits
  abbrev pub before_exit : WordState
  before_exit = record c { pc = c.pc + 4 + 4; registers = put (put c.registers 10 exit) 17 93 }

  module _ (few : exit < 256) (has : Has code c.pc (exit_with exit)) where
    -- two instructions without output, and then an exit
    pub before_exit-runs : run_words base code 2 c ≡ Goes before_exit
    before_exit-runs = let w : wrap (0 + exit) ≡ exit = omega arith in rw (has.0, w, has.1.0) refl

    pub exit-stops : run_words base code 1 before_exit ≡ Exits exit c.output
    exit-stops = let m : exit % 256 ≡ exit = omega arith in rw (has.1.1.0, m) refl

    pub exit_with-exits : run_words base code 3 c ≡ Exits exit c.output
    exit_with-exits = then-ends base code 2 1 c before_exit (Exits exit c.output) before_exit-runs exit-stops

-- ---- the pieces encode

pub send_word-encodable : (register place : ℕ) → register < 32 → 8 * place < 2048 → All (λ i. is_encodable i ≡ true) (send_word register place)
send_word-encodable register place r p =
    let a : ltb register 32 ≡ true = lt-ltb _ _ r in
    let b : ltb (8 * place) (2 ^ 11) ≡ true = lt-ltb _ _ p in
    All-each_encodes (send_word register place) (rw (a, b) refl, (rw b refl, (refl, (refl, (refl, (refl, tt))))))

pub exit_with-encodable : (exit : ℕ) → exit < 256 → All (λ i. is_encodable i ≡ true) (exit_with exit)
exit_with-encodable exit h =
    let a : ltb exit (2 ^ 11) ≡ true = lt-ltb _ _ (omega arith) in
    All-each_encodes (exit_with exit) (rw a refl, (refl, (refl, tt)))
