-- The program that sends messages does so at every moment, on the machine of the table: an instance of the theorem for
-- every number of instructions, and of the bridge.
use Rattle.std.proofs.Common.{◌≡◌, ℕ, ◌+◌, ◌*◌, ◌%◌, ◌^◌, ◌<◌, ◌≤◌, true, List, [], ◌∷◌, ◌++◌, length, take, refl, sym, ap, ◌∙◌, subst, arith, ◌⊎◌, inl, inr, All, length-set, length-append, append_assoc, append-nil, take_at}
use Rattle.std.proofs.lemmas.List.Elements.{All-head, All-tail, All-nil, All-cons, All-append}
use Rattle.std.proofs.lemmas.List.{length-replicate}
use Rattle.rv_code.specs.Bytes.{bytes_of}
use Rattle.rv_code.specs.Machine.{Outcome, Ran, Exited, Trapped, run, loaded}
use Rattle.rv_code.specs.declared.instruction.Inst.{Inst}
use Rattle.rv_asm.specs.Conventions.{code_address, region_address, region_words, compiled_segments}
use Rattle.rv_code.specs.Encode.{is_encodable}
use Rattle.rv_asm.specs.Meanings.{Meaning, IsShown}
use Rattle.rv_asm.specs.Messages.{messages_code, messages_program, IsMoment, SendsMessages}
use Rattle.rv_asm.specs.Pieces.{load_constant, send_word}
use Rattle.rv_asm.specs.WordMachine.{WordState, put, Has, word_bytes, start_state}
use Rattle.rv_asm.proofs.Regions.{compiled-below}
use Rattle.rv_asm.specs.PieceRuns.{CanSend}
use Rattle.rv_asm.proofs.Calls.{after_send, send_word-runs, send_word-between, before_exit, before_exit-runs, exit-stops, send_word-encodable, exit_with-encodable}
use Rattle.rv_asm.proofs.Constants.{load_constant-runs, length-load_constant, load_constant-encodable}
use Rattle.rv_asm.proofs.Moments.{Advances, Stops, CodeFollows, sending-advance, quiet-stop}
use Rattle.rv_asm.proofs.Follows.{follows-compiled}
use Rattle.rv_asm.proofs.Places.{Has-front, Has-back, Has-whole}
use Rattle.rv_asm.proofs.Stretches.{then-runs, quiet-then-between}
use Rattle.rv_asm.proofs.WordBytes.{word_bytes-append}

no-bytes : [] ≡ word_bytes []
unfolding word_bytes
no-bytes = refl

-- what is sent, and what is left
record Progress : Type 0 where
  sent : List ℕ
  rest : List ℕ

abbrev AllWords : List ℕ → Type 0
AllWords ms = All (λ w. w < 2 ^ 64) ms

module _ (ms : List ℕ) where
  abbrev meaning : Meaning
  meaning = record {
    Configuration = Progress;
    steps = λ c. length c.sent;
    output = λ c. word_bytes c.sent;
    pending = λ c. 0;
    IsReached = λ c. c.sent ++ c.rest ≡ ms;
    EndsWith = λ c code. (c.rest ≡ []) × (code ≡ 0);
    factor = 24;
    start = 8;
    ample = omega arith;
  }

  module _ (base : ℕ) (code : List Inst) (aligned : base % 8 ≡ 0) (below : base < 2 ^ 32) where
    -- the code for what is left stands at the pc
    record IsAt (state : WordState) (c : Progress) : Type 0 where
      region : state.registers 3 ≡ base
      some : 0 < length state.words
      here : Has code state.pc (messages_code c.rest)
      output : state.output ≡ word_bytes c.sent
      words : AllWords c.rest

    -- each message has an instruction, so that ranks and depths don't matter
    abbrev AtRest : ℕ → WordState → Progress → Type 0
    AtRest rank state c = IsAt state c

    abbrev no_depth : Progress → ℕ
    no_depth c = 0

    last :
        (state : WordState) (sent : List ℕ) → IsAt state (record { sent = sent; rest = [] }) → sent ++ [] ≡ ms →
        Stops base code meaning no_depth AtRest state (record { sent = sent; rest = [] })
    last state sent a r =
        let c : Progress = record { sent = sent; rest = [] } in
        let few : 0 < 256 = omega arith in
        quiet-stop base code meaning no_depth AtRest state c
        (record {
          count = 2;
          to = before_exit base code 0 state;
          last = c;
          exit = 0;
          runs = before_exit-runs base code 0 state few a.here;
          quiet = refl;
          output = a.output;
          exits = exit-stops base code 0 state few a.here;
          reached = r;
          ends = (refl, refl);
          paid = omega arith;
        })

    next :
        (rank : ℕ) (state : WordState) (sent : List ℕ) (m : ℕ) (rest : List ℕ) → IsAt state (record { sent = sent; rest = m ∷ rest }) →
        sent ++ (m ∷ rest) ≡ ms →
        Advances base code meaning no_depth AtRest rank state (record { sent = sent; rest = m ∷ rest })
    next rank state sent m rest a r =
        let c : Progress = record { sent = sent; rest = m ∷ rest } in
        let d : Progress = record { sent = sent ++ (m ∷ []); rest = rest } in
        let load = load_constant 10 m in
        let n = length load in
        let few = length-load_constant 10 m in
        let behind = send_word 10 0 ++ messages_code rest in
        let h1 = Has-front code state.pc load behind a.here in
        let h2 = Has-back code state.pc load behind a.here in
        let loaded = record state { pc = state.pc + 4 * n; registers = put state.registers 10 m } in
        let h3 = Has-front code loaded.pc (send_word 10 0) (messages_code rest) h2 in
        let h4 = Has-back code loaded.pc (send_word 10 0) (messages_code rest) h2 in
        let r1 = load_constant-runs base code 10 m state (omega arith) (All-head (λ w. w < 2 ^ 64) m rest a.words) h1 in
        let can : CanSend base 0 loaded = record { aligned = aligned; below = omega arith; region = a.region; inside = a.some } in
        let to = after_send base code 10 0 loaded in
        let pc : loaded.pc + 4 * 6 ≡ to.pc = omega arith in
        let grown : word_bytes (sent ++ (m ∷ [])) ≡ word_bytes sent ++ bytes_of 8 m = word_bytes-append sent m in
        let out : to.output ≡ word_bytes (sent ++ (m ∷ [])) = ap (λ o. o ++ bytes_of 8 m) a.output ∙ sym grown in
        let at : IsAt to d = record {
          region = a.region;
          some = omega (arith, length-set state.words 0 m, a.some);
          here = subst (λ p. Has code p (messages_code rest)) pc h4;
          output = out;
          words = All-tail (λ w. w < 2 ^ 64) m rest a.words;
        } in
        sending-advance base code meaning no_depth AtRest rank state c
        (record {
          count = n + 6;
          to = to;
          next = d;
          next_rank = 0;
          some = inl (omega arith);
          runs = then-runs base code n 6 state loaded to r1 (send_word-runs base code 10 0 loaded can h3);
          between = quiet-then-between base code n 6 state loaded to r1 refl (send_word-between base code 10 0 loaded can h3);
          before = a.output;
          output = out;
          related = at;
          started = r;
          reached = append_assoc sent (m ∷ []) rest ∙ r;
          short = omega (arith, few);
          paid = omega (arith, few, length-append sent (m ∷ []));
        })

    turn :
        (rank : ℕ) (state : WordState) (c : Progress) → AtRest rank state c → c.sent ++ c.rest ≡ ms →
        Advances base code meaning no_depth AtRest rank state c ⊎ Stops base code meaning no_depth AtRest state c
    turn rank state c a r = by_rest c.sent c.rest a r
      where
        by_rest :
            (sent rest : List ℕ) → IsAt state (record { sent = sent; rest = rest }) → sent ++ rest ≡ ms →
            Advances base code meaning no_depth AtRest rank state (record { sent = sent; rest = rest }) ⊎ Stops base code meaning no_depth AtRest state (record { sent = sent; rest = rest })
        by_rest sent [] a r = inr (last state sent a r)
        by_rest sent (m ∷ rest) a r = inl (next rank state sent m rest a r)

-- what the meaning shows is what the program promises
moment-shown : (ms : List ℕ) (n : ℕ) (o : Outcome) → IsShown (meaning ms) n o → IsMoment ms n o
moment-shown ms n (Ran s) h =
    let sent = h.0.sent in
    let l : length sent ≤ length ms = omega (arith, ap length h.1, length-append sent h.0.rest) in
    let front : sent ≡ take (length sent) ms = sym (take_at sent h.0.rest (length sent) refl) ∙ ap (take (length sent)) h.1 in
    (length sent, l, h.2 ∙ ap word_bytes front, h.3)
moment-shown ms n (Exited code output) h =
    let sent = h.0.sent in
    let all : sent ≡ ms = sym (append-nil sent) ∙ ap (λ r. sent ++ r) (sym h.3.0) ∙ h.1 in
    (h.3.1, h.2 ∙ ap word_bytes all)
moment-shown ms n (Trapped cause) h = h

-- the program's code follows the meaning
code-follows :
    (ms : List ℕ) (base count : ℕ) (input : List ℕ) → base % 8 ≡ 0 → base < 2 ^ 32 → 0 < count → AllWords ms →
    CodeFollows base (messages_program base ms) (meaning ms) (start_state count input)
code-follows ms base count input aligned below some words =
    let code = messages_program base ms in
    let entry = start_state count input in
    let load = load_constant 3 base in
    let state : WordState = record entry { pc = 65536 + 4 * length load; registers = put entry.registers 3 base } in
    record {
      depth = no_depth ms base code aligned below;
      IsAt = AtRest ms base code aligned below;
      turn = turn ms base code aligned below;
      rank = 0;
      first = length load;
      state = state;
      initial = record { sent = []; rest = ms };
      runs = load_constant-runs base code 3 base entry (omega arith) (omega arith) (Has-front code 65536 load (messages_code ms) (Has-whole code));
      quiet = refl;
      output = no-bytes;
      related = record {
        region = refl;
        some = omega (arith, length-replicate {A = ℕ} count 0);
        here = Has-back code 65536 load (messages_code ms) (Has-whole code);
        output = no-bytes;
        words = words;
      };
      reached = refl;
      paid = omega (arith, length-load_constant 3 base);
    }

-- ---- as a compiled program

messages_code-encodable : (ms : List ℕ) → AllWords ms → All (λ i. is_encodable i ≡ true) (messages_code ms)
messages_code-encodable [] h = exit_with-encodable 0 (omega arith)
messages_code-encodable (m ∷ ms) h =
    let e = λ (i : Inst). is_encodable i ≡ true in
    All-append e (load_constant 10 m) (send_word 10 0 ++ messages_code ms) (load_constant-encodable 10 m (omega arith) (All-head (λ w. w < 2 ^ 64) m ms h))
    (All-append e (send_word 10 0) (messages_code ms) (send_word-encodable 10 0 (omega arith) (omega arith)) (messages_code-encodable ms (All-tail (λ w. w < 2 ^ 64) m ms h)))

-- the loaded program sends the messages, where its region stands at `base`
pub messages-compiled :
    (ms : List ℕ) (base stack units : ℕ) (input : List ℕ) →
    region_address (4 * length (messages_program base ms)) ≡ base →
    4 * length (messages_program base ms) < 1073741824 →
    stack ≤ 16777216 →
    units ≤ 4194304 →
    All (λ w. w < 2 ^ 64) ms →
    All (λ b. b < 256) input →
    SendsMessages ms (loaded code_address (compiled_segments (messages_program base ms) stack units) input)
messages-compiled ms base stack units input e few s u words bytes n =
    let code = messages_program base ms in
    let count = region_words stack units in
    let top = compiled-below (4 * length code) stack units few s u in
    let encodable = All-append (λ i. is_encodable i ≡ true) (load_constant 3 base) (messages_code ms) (load_constant-encodable 3 base (omega arith) (omega (arith, e, top))) (messages_code-encodable ms words) in
    let aligned : base % 8 ≡ 0 = omega (arith, e) in
    let follows = code-follows ms base count input aligned (omega (arith, e, top)) (omega arith) words in
    let there = subst (λ b. CodeFollows b code (meaning ms) (start_state count input)) (sym e) follows in
    moment-shown ms n (run n (loaded code_address (compiled_segments code stack units) input)) (follows-compiled code stack units input (meaning ms) encodable (omega (arith, top)) bytes there n)

-- two messages, 5 and -7, and no input
two-messages : SendsMessages (5 ∷ 18446744073709551609 ∷ []) (loaded 65536 (compiled_segments (messages_program 69632 (5 ∷ 18446744073709551609 ∷ [])) 1 1) [])
two-messages =
    let small : All (λ w. w < 2 ^ 64) (5 ∷ 18446744073709551609 ∷ []) = All-cons (λ w. w < 2 ^ 64) 5 (18446744073709551609 ∷ []) (omega arith) (All-cons (λ w. w < 2 ^ 64) 18446744073709551609 [] (omega arith) (All-nil (λ w. w < 2 ^ 64))) in
    messages-compiled (5 ∷ 18446744073709551609 ∷ []) 69632 1 1 [] refl (omega arith) (omega arith) (omega arith) small (All-nil (λ b. b < 256))
