-- A compiled program whose code follows a meaning on the machine of words follows it on the machine of the table.
use Rattle.std.proofs.Common.{◌≡◌, ℕ, ◌+◌, ◌*◌, ◌^◌, ◌<◌, ◌≤◌, true, refl, List, length, sym, subst, ⊎_elim, All}
use Rattle.rv_code.specs.Encode.{is_encodable}
use Rattle.rv_code.specs.Machine.{run, loaded}
use Rattle.rv_code.specs.declared.instruction.Inst.{Inst}
use Rattle.rv_asm.specs.Conventions.{IsLayout, code_address, region_address, region_size, region_words, compiled_segments}
use Rattle.rv_asm.specs.Meanings.{Meaning, IsShown, Follows}
use Rattle.rv_asm.specs.WordMachine.{WordState, IsBounded, machine_state, start_state}
use Rattle.rv_asm.proofs.Bridge.{run-goes, run-exits, machine_state-start, IsBounded-start}
use Rattle.rv_asm.proofs.Regions.{IsLayout-compiled}
use Rattle.rv_asm.proofs.Moments.{Running, Over, Moment, CodeFollows, moments-entry}

module _ (base : ℕ) (code : List Inst) (count : ℕ) (layout : IsLayout base code count) (m : Meaning) (depth : m.Configuration → ℕ) (IsAt : ℕ → WordState → m.Configuration → Type 0) where
  -- what a moment on the machine of words is on the machine of the table
  shown :
      (n : ℕ) (entry : WordState) → IsBounded count entry → Moment base code m depth IsAt n entry n →
      IsShown m n (run n (machine_state base code entry))
  shown n entry bounded moment = ⊎_elim
      (λ (r : Running base code m depth IsAt n entry n). subst (IsShown m n) (sym (run-goes base code count layout n entry r.now bounded r.runs).0) (r.shown, r.reached, r.output, r.pace))
      (λ (o : Over base code m depth IsAt entry n). subst (IsShown m n) (sym (run-exits base code count layout n entry o.exit (m.output o.last) bounded o.runs)) (o.last, o.reached, refl, o.ends))
      moment

pub follows-compiled :
    (code : List Inst) (stack units : ℕ) (input : List ℕ) (m : Meaning) →
    All (λ i. is_encodable i ≡ true) code →
    region_address (4 * length code) + region_size stack units ≤ 2 ^ 32 →
    All (λ b. b < 256) input →
    CodeFollows (region_address (4 * length code)) code m (start_state (region_words stack units) input) →
    Follows m (loaded code_address (compiled_segments code stack units) input)
follows-compiled code stack units input m encodable below bytes f n =
    let base = region_address (4 * length code) in
    let count = region_words stack units in
    let entry = start_state count input in
    let layout = IsLayout-compiled code stack units encodable below in
    let moment = moments-entry base code m n entry f in
    subst (λ s. IsShown m n (run n s)) (machine_state-start code stack units input) (shown base code count layout m f.depth f.IsAt n entry (IsBounded-start count input bytes) moment)
