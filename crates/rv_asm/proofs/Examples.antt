-- Small programs on which the theorems hold, so that no premise is one that nothing meets.
use Rattle.std.proofs.Common.{◌≡◌, ℕ, suc, ◌+◌, ◌%◌, ◌<◌, ◌^◌, List, [], ◌∷◌, pos, negsuc, refl, arith, inl}
use Rattle.std.proofs.lemmas.List.Elements.{All-nil}
use Rattle.rv_code.specs.Machine.{loaded}
use Rattle.rv_code.specs.declared.instruction.Inst.{Inst}
use Rattle.rv_code.specs.declared.instruction.Inst.TheVariants.{OpImm, Jal}
use Rattle.rv_code.specs.declared.instruction.OpImmOp.TheVariants.{Addi}
use Rattle.rv_asm.specs.Conventions.{compiled_segments, region_words}
use Rattle.rv_asm.specs.Meanings.{Meaning, Follows}
use Rattle.rv_asm.specs.Pieces.{load_constant, copy_words}
use Rattle.rv_asm.specs.WordMachine.{WordState, Goes, put, run_words, start_state}
use Rattle.rv_asm.proofs.Constants.{load_constant-runs}
use Rattle.rv_asm.specs.PieceRuns.{CanCopy}
use Rattle.rv_asm.proofs.Copies.{CopyRuns, copy_words-runs}
use Rattle.rv_asm.proofs.Encodings.{All-each_encodes}
use Rattle.rv_asm.proofs.Follows.{follows-compiled}
use Rattle.rv_asm.proofs.Moments.{Advances, quiet-advance}
use Rattle.rv_asm.proofs.Places.{Has-whole}

-- ---- a constant of 8 instructions

constant-runs : run_words 69632 (load_constant 7 0x123456789abcdef0) 8 (start_state 8 []) ≡ Goes (record (start_state 8 []) { pc = 65568; registers = put (λ k. 0) 7 0x123456789abcdef0 })
constant-runs = load_constant-runs 69632 (load_constant 7 0x123456789abcdef0) 7 0x123456789abcdef0 (start_state 8 []) (omega arith) (omega arith) (Has-whole (load_constant 7 0x123456789abcdef0))

-- ---- two words copied, from place 1 to place 4 of a region of 8 words at 69632

abbrev copying : WordState
copying = record { pc = 65536; registers = λ k. 69632; words = 11 ∷ 22 ∷ 33 ∷ 44 ∷ 55 ∷ 66 ∷ 77 ∷ 88 ∷ []; input = []; output = [] }

can-copy : CanCopy 69632 2 5 3 1 2 4 0 0 copying
can-copy = record {
  aligned = omega arith;
  below = omega arith;
  some_register = omega arith;
  other_source = omega arith;
  other_target = omega arith;
  source_is = refl;
  target_is = refl;
  source_inside = omega arith;
  target_inside = omega arith;
  apart = inl (omega arith);
}

copy-runs : CopyRuns 69632 (copy_words 2 5 3 1 2 4) 2 5 1 4 copying
copy-runs = copy_words-runs 69632 (copy_words 2 5 3 1 2 4) 2 5 3 1 2 4 0 0 copying can-copy (Has-whole (copy_words 2 5 3 1 2 4))

-- ---- a loop without end: one instruction before it, and two for each round, each of which is a step

abbrev looping : List Inst
looping = OpImm Addi 0 0 (pos 0) ∷ OpImm Addi 5 5 (pos 1) ∷ Jal 0 (negsuc 3) ∷ []

-- before the loop, and behind so many rounds
data Round : Type 0 where
  Before : Round
  Behind : (rounds : ℕ) → Round

abbrev rounds_of : Round → ℕ
rounds_of Before = 0
rounds_of (Behind k) = k

abbrev pending_of : Round → ℕ
pending_of Before = 1
pending_of (Behind k) = 0

abbrev place_of : Round → ℕ
place_of Before = 65536
place_of (Behind k) = 65540

abbrev rounds : Meaning
rounds = record {
  Configuration = Round;
  steps = rounds_of;
  output = λ c. [];
  pending = pending_of;
  IsReached = λ c. Unit {0};
  EndsWith = λ c code. ⊥;
  factor = 2;
  start = 1;
  ample = omega arith;
}

abbrev IsAtRound : ℕ → WordState → Round → Type 0
IsAtRound rank state c = (state.pc ≡ place_of c) × (state.output ≡ [])

round : (rank : ℕ) (state : WordState) (c : Round) → IsAtRound rank state c → Advances 69632 looping rounds rounds_of IsAtRound rank state c
round rank state Before a = quiet-advance 69632 looping rounds rounds_of IsAtRound rank state Before
    (record {
      count = 1;
      to = record state { pc = 65540 };
      next = Behind 0;
      next_rank = 0;
      some = inl (omega arith);
      runs = rw a.0 refl;
      quiet = refl;
      output = a.1;
      related = (refl, a.1);
      reached = tt;
      paid = omega arith;
    })
round rank state (Behind k) a = quiet-advance 69632 looping rounds rounds_of IsAtRound rank state (Behind k)
    (record {
      count = 2;
      to = record state { registers = put state.registers 5 ((state.registers 5 + 1) % 2 ^ 64) };
      next = Behind (suc k);
      next_rank = 0;
      some = inl (omega arith);
      runs = rw a.0 refl;
      quiet = refl;
      output = a.1;
      related = (a.0, a.1);
      reached = tt;
      paid = omega arith;
    })

-- it runs for ever, on the machine of the table
rounds-follow : Follows rounds (loaded 65536 (compiled_segments looping 1 1) [])
rounds-follow =
    follows-compiled looping 1 1 [] rounds (All-each_encodes looping (refl, (refl, (refl, tt)))) (omega arith) (All-nil (λ b. b < 256))
    (record {
      depth = rounds_of;
      IsAt = IsAtRound;
      turn = λ rank state c a r. inl (round rank state c a);
      rank = 0;
      first = 0;
      state = start_state (region_words 1 1) [];
      initial = Before;
      runs = refl;
      quiet = refl;
      output = refl;
      related = (refl, refl);
      reached = tt;
      paid = omega arith;
    })
