-- The bridge: a run of the machine of words that isn't stuck is a run of the machine of the table.
use Rattle.std.proofs.Common.{◌≡◌, ℕ, zero, suc, ◌+◌, ◌*◌, ◌^◌, ◌≤◌, ◌<◌, true, List, length, get_or, replicate, Option, Some, None, refl, sym, ap, ◌∙◌, subst, arith, ◌⊎◌, ⊎_elim, inl, inr, All}
use Rattle.std.proofs.lemmas.List.{length-replicate, get_or-replicate}
use Rattle.rv_code.specs.Encode.{is_encodable}
use Rattle.rv_code.specs.Machine.{State, Ran, Exited, step, run, after, loaded}
use Rattle.rv_code.specs.declared.instruction.Inst.{Inst}
use Rattle.rv_asm.specs.Conventions.{IsLayout, code_address, region_address, region_size, region_words, compiled_segments}
use Rattle.rv_asm.specs.WordMachine.{WordState, WordStep, Goes, Exits, Stuck, IsBounded, instruction_at, act, act_at, go_on, run_words, register_list, word_bytes, machine_state, start_state}
use Rattle.rv_asm.proofs.Regions.{region_words-size, IsLayout-compiled}
use Rattle.rv_asm.proofs.WordBytes.{word_bytes-replicate}
use Rattle.rv_asm.proofs.BridgeSteps.{encodable-at, pc-below, step-execute}
use Rattle.rv_asm.proofs.BridgeInstructions.{execute-does}
use Rattle.rv_asm.proofs.BridgeExits.{execute-exits}

-- where something comes of an instruction, there is one
act-some :
    (base : ℕ) (o : Option Inst) (c : WordState) (x : WordStep) → act_at base o c ≡ x → (x ≡ Stuck → ⊥) →
    (i : Inst) × (o ≡ Some i) × (act base i c ≡ x)
act-some base None c x e h = absurd (h (sym e))
act-some base (Some i) c x e h = (i, refl, e)

go-cases :
    (x : WordStep) (go : WordState → WordStep) (y : WordStep) → go_on x go ≡ y → (y ≡ Stuck → ⊥) →
    ((e : WordState) × (x ≡ Goes e) × (go e ≡ y)) ⊎ ((k : ℕ) × (o : List ℕ) × (x ≡ Exits k o) × (y ≡ Exits k o))
go-cases (Goes e) go y p h = inl (e, refl, p)
go-cases (Exits k o) go y p h = inr (k, o, refl, sym p)
go-cases Stuck go y p h = absurd (h (sym p))

module _ (base : ℕ) (code : List Inst) (n : ℕ) (layout : IsLayout base code n) where
  abbrev state : WordState → State
  state c = machine_state base code c

  one-goes : (c e : WordState) → IsBounded n c → act_at base (instruction_at code c.pc) c ≡ Goes e → (step (state c) ≡ Ran (state e)) × IsBounded n e
  one-goes c e s p =
      let a = act-some base (instruction_at code c.pc) c (Goes e) p (λ q. cc) in
      let d = execute-does base code n layout c a.0 s (encodable-at base code n layout c a.0 a.1) (pc-below base code n layout c a.0 a.1) e a.2 in
      (step-execute base code n layout c a.0 a.1 ∙ d.0, d.1)

  one-exits : (c : WordState) (k : ℕ) (o : List ℕ) → act_at base (instruction_at code c.pc) c ≡ Exits k o → step (state c) ≡ Exited k o
  one-exits c k o p =
      let a = act-some base (instruction_at code c.pc) c (Exits k o) p (λ q. cc) in
      step-execute base code n layout c a.0 a.1 ∙ execute-exits base code c a.0 k o a.2

  -- a run that goes on, and the bounds are kept
  pub run-goes : (m : ℕ) (c d : WordState) → IsBounded n c → run_words base code m c ≡ Goes d → (run m (state c) ≡ Ran (state d)) × IsBounded n d
  unfolding run
  run-goes zero c d s e = let x : c ≡ d = cc in subst (λ d. (run 0 (state c) ≡ Ran (state d)) × IsBounded n d) x (refl, s)
  run-goes (suc m) c d s e =
      ⊎_elim
      (λ (t : (x : WordState) × (act_at base (instruction_at code c.pc) c ≡ Goes x) × (run_words base code m x ≡ Goes d)).
      let f = one-goes c t.0 s t.1 in
      let r = run-goes m t.0 d f.1 t.2 in
      (ap (λ o. after o (run m)) f.0 ∙ r.0, r.1))
      (λ (t : (k : ℕ) × (o : List ℕ) × (act_at base (instruction_at code c.pc) c ≡ Exits k o) × (Goes d ≡ Exits k o)). absurd (let x = t.3 in cc))
      (go-cases (act_at base (instruction_at code c.pc) c) (run_words base code m) (Goes d) e (λ q. cc))

  -- a run that has exited
  pub run-exits : (m : ℕ) (c : WordState) (k : ℕ) (o : List ℕ) → IsBounded n c → run_words base code m c ≡ Exits k o → run m (state c) ≡ Exited k o
  unfolding run
  run-exits zero c k o s e = absurd (cc)
  run-exits (suc m) c k o s e =
      ⊎_elim
      (λ (t : (x : WordState) × (act_at base (instruction_at code c.pc) c ≡ Goes x) × (run_words base code m x ≡ Exits k o)).
      let f = one-goes c t.0 s t.1 in
      ap (λ o. after o (run m)) f.0 ∙ run-exits m t.0 k o f.1 t.2)
      (λ (t : (k' : ℕ) × (o' : List ℕ) × (act_at base (instruction_at code c.pc) c ≡ Exits k' o') × (Exits k o ≡ Exits k' o')). ap (λ x. after x (run m)) (one-exits c k o (t.2 ∙ sym t.3)))
      (go-cases (act_at base (instruction_at code c.pc) c) (run_words base code m) (Exits k o) e (λ q. cc))

-- ---- the start of a run

registers-start : register_list (λ k. 0) ≡ replicate 32 0
unfolding register_list
registers-start = refl

-- the start of the machine of words is the loaded image
pub machine_state-start :
    (code : List Inst) (stack units : ℕ) (input : List ℕ) →
    machine_state (region_address (4 * length code)) code (start_state (region_words stack units) input)
    ≡ loaded code_address (compiled_segments code stack units) input
machine_state-start code stack units input =
    let size = region_words-size stack units in
    let bytes : word_bytes (replicate (region_words stack units) 0) ≡ replicate (region_size stack units) 0 = word_bytes-replicate (region_words stack units) ∙ ap (λ k. replicate k 0) size in
    rw (registers-start, bytes) refl

-- at the start each value fits
pub IsBounded-start : (count : ℕ) (input : List ℕ) → All (λ b. b < 256) input → IsBounded count (start_state count input)
IsBounded-start count input h = record {
  size = length-replicate count 0;
  registers = λ k. omega arith;
  words = λ k d lt. let e : get_or (replicate count 0) k d ≡ 0 = get_or-replicate count k 0 d (omega (arith, length-replicate {A = ℕ} count 0)) in rw e (omega arith);
  input = h;
}

-- runs of a compiled program, from its start
module _
    (code : List Inst) (stack units : ℕ)
    (encodable : All (λ i. is_encodable i ≡ true) code)
    (below : region_address (4 * length code) + region_size stack units ≤ 2 ^ 32)
    (input : List ℕ)
    (bytes : All (λ b. b < 256) input) where
  abbrev base : ℕ
  base = region_address (4 * length code)

  abbrev count : ℕ
  count = region_words stack units

  pub run-compiled_goes :
      (m : ℕ) (d : WordState) →
      run_words base code m (start_state count input) ≡ Goes d →
      run m (loaded code_address (compiled_segments code stack units) input) ≡ Ran (machine_state base code d)
  run-compiled_goes m d e =
      subst (λ s. run m s ≡ Ran (machine_state base code d)) (machine_state-start code stack units input)
      (run-goes base code count (IsLayout-compiled code stack units encodable below) m (start_state count input) d (IsBounded-start count input bytes) e).0

  pub run-compiled_exits :
      (m k : ℕ) (o : List ℕ) →
      run_words base code m (start_state count input) ≡ Exits k o →
      run m (loaded code_address (compiled_segments code stack units) input) ≡ Exited k o
  run-compiled_exits m k o e =
      subst (λ s. run m s ≡ Exited k o) (machine_state-start code stack units input)
      (run-exits base code count (IsLayout-compiled code stack units encodable below) m (start_state count input) k o (IsBounded-start count input bytes) e)
