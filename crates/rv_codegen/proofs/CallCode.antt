-- The code of a call: it finds where the new frame begins and ends, goes to where the run ends as full if the frame would pass the stack, and else enters it.
use Rattle.std.proofs.Common.{◌≡◌, ◌≢◌, ℕ, suc, ◌+◌, ◌*◌, ◌%◌, ◌^◌, ◌<◌, ◌≤◌, true, false, List, [], ◌∷◌, ◌++◌, length, length-append, get_or, set, pos, refl, sym, ap, ◌∙◌, subst, arith, length-set, eqb, eq-eqb, ltb, le-ltb, lt-ltb}
use Rattle.rv_code.specs.Arithmetic.{wrap}
use Rattle.rv_code.specs.declared.instruction.Inst.{Inst}
use Rattle.rv_code.specs.declared.instruction.Inst.TheVariants.{Op, OpImm, Load, Store, Branch}
use Rattle.rv_code.specs.declared.instruction.OpOp.TheVariants.{Add}
use Rattle.rv_code.specs.declared.instruction.OpImmOp.TheVariants.{Addi}
use Rattle.rv_code.specs.declared.instruction.LoadOp.TheVariants.{Ld}
use Rattle.rv_code.specs.declared.instruction.StoreOp.TheVariants.{Sd}
use Rattle.rv_code.specs.declared.instruction.BranchOp.TheVariants.{Bgeu}
use Rattle.rv_asm.specs.Assembly.{address_of, far_address, far_jump}
use Rattle.rv_asm.specs.Pieces.{load_constant}
use Rattle.rv_asm.specs.WordMachine.{WordState, Goes, put, run_words, Has}
use Rattle.rv_asm.proofs.Constants.{length-load_constant, load_constant-runs}
use Rattle.rv_asm.proofs.Places.{Has-front, Has-back}
use Rattle.rv_asm.proofs.Registers.{put-other, put-same}
use Rattle.rv_asm.proofs.Stretches.{then-runs}
use Rattle.rv_asm.proofs.Words.{load-runs, store-runs}
use Rattle.rv_prelude.proofs.Jumps.{addressed, address-runs, jumped, jump-runs}
use Rattle.rv_codegen.specs.AddressItems.{address_items}
use Rattle.rv_codegen.specs.CallItems.{behind_items, room_items}
use Rattle.rv_codegen.proofs.FrameAddresses.{address-comes}

pub length-behind : (to from words : ℕ) → length (behind_items to from words) ≡ length (load_constant to (8 * words)) + 1
length-behind to from words = length-append (load_constant to (8 * words)) (Op Add to to from ∷ [])

pub length-room : (mine theirs : ℕ) → length (room_items mine theirs) ≤ 19
length-room mine theirs =
    omega (arith, length-append (behind_items 6 2 mine) (behind_items 7 6 theirs ++ (Load Ld 5 3 (pos 40) ∷ [])), length-append (behind_items 7 6 theirs) (Load Ld 5 3 (pos 40) ∷ []), length-behind 6 2 mine, length-behind 7 6 theirs, length-load_constant 6 (8 * mine), length-load_constant 7 (8 * theirs))

module _ (base : ℕ) (code : List Inst) where
  -- an address so many words behind that in a register
  abbrev behind_state : (d words address : ℕ) → WordState → WordState
  behind_state d words address c = record c { pc = c.pc + 4 * (length (load_constant (suc d) (8 * words)) + 1); registers = put (put c.registers (suc d) (8 * words)) (suc d) (address + 8 * words) }

  behind-runs : (d s words address : ℕ) (c : WordState) → c.registers (suc s) ≡ address → suc s ≢ suc d → address + 8 * words < 2 ^ 64 → Has code c.pc (behind_items (suc d) (suc s) words) → run_words base code (length (load_constant (suc d) (8 * words)) + 1) c ≡ Goes (behind_state d words address c)
  behind-runs d s words address c at ne top h =
      let load = load_constant (suc d) (8 * words) in
      let n = length load in
      let last = Op Add (suc d) (suc d) (suc s) ∷ [] in
      let one = load_constant-runs base code (suc d) (8 * words) c (omega arith) (omega arith) (Has-front code c.pc load last h) in
      let c1 : WordState = record c { pc = c.pc + 4 * n; registers = put c.registers (suc d) (8 * words) } in
      let h1 = Has-back code c.pc load last h in
      let g1 : put c.registers (suc d) (8 * words) (suc d) ≡ 8 * words = put-same c.registers d (8 * words) in
      let g2 : put c.registers (suc d) (8 * words) (suc s) ≡ address = put-other c.registers (suc s) (suc d) (8 * words) ne ∙ at in
      let w : wrap (8 * words + address) ≡ address + 8 * words = omega arith in
      let pc : c.pc + 4 * n + 4 ≡ c.pc + 4 * (n + 1) = omega arith in
      let two : run_words base code 1 c1 ≡ Goes (behind_state d words address c) = rw (h1.0, g1, g2, w, pc) refl in
      then-runs base code n 1 c c1 _ one two

  -- the ends of the new frame and of the stack are in registers
  pub record HasRoom (mine theirs limit f : ℕ) (c : WordState) : Type 0 where
    pub end : WordState
    pub count : ℕ
    pub few : count ≤ 19
    pub runs : run_words base code count c ≡ Goes end
    pub at : end.pc ≡ c.pc + 4 * length (room_items mine theirs)
    pub frame : end.registers 6 ≡ base + 8 * (f + mine)
    pub frame_end : end.registers 7 ≡ base + 8 * (f + mine + theirs)
    pub stack_end : end.registers 5 ≡ base + 8 * limit
    pub others : (k : ℕ) → k < 5 → end.registers k ≡ c.registers k
    pub words : end.words ≡ c.words
    pub input : end.input ≡ c.input
    pub output : end.output ≡ c.output

  -- what is asked of the machine
  pub record CanCall (mine theirs limit f : ℕ) (c : WordState) : Type 0 where
    pub aligned : base % 8 ≡ 0
    pub below : base + 8 * length c.words ≤ 2 ^ 32
    pub region : c.registers 3 ≡ base
    pub frame : c.registers 2 ≡ base + 8 * f
    pub front : 5 < length c.words
    pub end_at : get_or c.words 5 0 ≡ base + 8 * limit
    pub low : f + mine ≤ length c.words
    pub reached : theirs ≤ 33554432

  pub room-comes : (mine theirs limit f : ℕ) (c : WordState) → CanCall mine theirs limit f c → Has code c.pc (room_items mine theirs) → HasRoom mine theirs limit f c
  room-comes mine theirs limit f c can h =
      let last = Load Ld 5 3 (pos 40) ∷ [] in
      let first = behind_items 6 2 mine in
      let second = behind_items 7 6 theirs in
      let n1 = length (load_constant 6 (8 * mine)) in
      let n2 = length (load_constant 7 (8 * theirs)) in
      let top = can.below in
      let low = can.low in
      let reached = can.reached in
      let c1 = behind_state 5 mine (base + 8 * f) c in
      let one = behind-runs 5 1 mine (base + 8 * f) c can.frame (omega arith) (omega arith) (Has-front code c.pc first (second ++ last) h) in
      let h1 : Has code c1.pc (second ++ last) = subst (λ q. Has code (c.pc + 4 * q) (second ++ last)) (length-behind 6 2 mine) (Has-back code c.pc first (second ++ last) h) in
      let six : c1.registers 6 ≡ base + 8 * (f + mine) = put-same (put c.registers 6 (8 * mine)) 5 (base + 8 * f + 8 * mine) ∙ omega arith in
      let c2 = behind_state 6 theirs (base + 8 * (f + mine)) c1 in
      let two = behind-runs 6 5 theirs (base + 8 * (f + mine)) c1 six (omega arith) (omega arith) (Has-front code c1.pc second last h1) in
      let h2 : Has code c2.pc last = subst (λ q. Has code (c1.pc + 4 * q) last) (length-behind 7 6 theirs) (Has-back code c1.pc second last h1) in
      let high = base + 8 * (f + mine) + 8 * theirs in
      let low-kept : (k : ℕ) → k < 5 → c2.registers k ≡ c.registers k = λ k lt. put-other (put c1.registers 7 (8 * theirs)) k 7 high (omega arith) ∙ put-other c1.registers k 7 (8 * theirs) (omega arith) ∙ put-other (put c.registers 6 (8 * mine)) k 6 (base + 8 * f + 8 * mine) (omega arith) ∙ put-other c.registers k 6 (8 * mine) (omega arith) in
      let v = get_or c2.words 5 0 in
      let three = load-runs base code c2 5 3 0 5 (record { aligned = can.aligned; below = omega (arith, top); is = low-kept 3 (omega arith) ∙ can.region ∙ omega arith; inside = can.front }) h2.0 in
      let c3 : WordState = record c2 { pc = c2.pc + 4; registers = put c2.registers 5 (get_or c2.words 5 0) } in
      let all = then-runs base code (n1 + 1) (n2 + 1 + 1) c c1 c3 one (then-runs base code (n2 + 1) 1 c1 c2 c3 two three) in
      let size = length-append first (second ++ last) in
      let size2 = length-append second last in
      record {
        end = c3;
        count = n1 + 1 + (n2 + 1 + 1);
        few = omega (arith, length-load_constant 6 (8 * mine), length-load_constant 7 (8 * theirs));
        runs = all;
        at = omega (arith, size, size2, length-behind 6 2 mine, length-behind 7 6 theirs);
        frame = put-other c2.registers 6 5 v (omega arith) ∙ put-other (put c1.registers 7 (8 * theirs)) 6 7 high (omega arith) ∙ put-other c1.registers 6 7 (8 * theirs) (omega arith) ∙ six;
        frame_end = put-other c2.registers 7 5 v (omega arith) ∙ put-same (put c1.registers 7 (8 * theirs)) 6 high ∙ omega arith;
        stack_end = put-same c2.registers 4 v ∙ can.end_at;
        others = λ k lt. put-other c2.registers k 5 v (omega arith) ∙ low-kept k lt;
        words = refl;
        input = refl;
        output = refl;
      }

  -- ---- the test

  -- the frame fits: the code goes on behind the test
  pub fits-passed : (q a b full : ℕ) (c : WordState) → q + 3 < 2 ^ 28 → c.pc ≡ address_of q → c.registers 5 ≡ a → c.registers 7 ≡ b → b ≤ a → Has code (address_of q) (Branch Bgeu 5 7 (pos 12) ∷ far_jump (q + 1) full) → run_words base code 1 c ≡ Goes (record c { pc = address_of (q + 3) })
  fits-passed q a b full c near at e5 e7 le h =
      let h1 = subst (λ z. Has code z (Branch Bgeu 5 7 (pos 12) ∷ far_jump (q + 1) full)) (sym at) h in
      let small : ltb a b ≡ false = le-ltb _ _ le in
      let w : wrap (c.pc + 12) ≡ address_of (q + 3) = omega (arith, at) in
      let m : eqb (address_of (q + 3) % 4) 0 ≡ true = eq-eqb _ _ (omega arith) in
      rw (h1.0, e5, e7, small, w, m) refl

  -- it doesn't: the code goes to a place
  pub record GoesFull (full : ℕ) (c : WordState) : Type 0 where
    pub end : WordState
    pub runs : run_words base code 3 c ≡ Goes end
    pub at : end.pc ≡ address_of full
    pub output : end.output ≡ c.output

  pub none-fits : (q a b full : ℕ) (c : WordState) → q + 3 < 2 ^ 28 → full < 2 ^ 28 → c.pc ≡ address_of q → c.registers 5 ≡ a → c.registers 7 ≡ b → a < b → Has code (address_of q) (Branch Bgeu 5 7 (pos 12) ∷ far_jump (q + 1) full) → GoesFull full c
  none-fits q a b full c near near_full at e5 e7 lt h =
      let h1 = subst (λ z. Has code z (Branch Bgeu 5 7 (pos 12) ∷ far_jump (q + 1) full)) (sym at) h in
      let large : ltb a b ≡ true = lt-ltb _ _ lt in
      let there : c.pc + 4 ≡ address_of (q + 1) = omega (arith, at) in
      let c1 : WordState = record c { pc = address_of (q + 1) } in
      let one : run_words base code 1 c ≡ Goes c1 = rw (h1.0, e5, e7, large, there) refl in
      let two = jump-runs base code c1 (q + 1) full (omega arith) near_full refl (subst (λ z. Has code z (far_jump (q + 1) full)) there h1.1) in
      record { end = jumped c1 (q + 1) full; runs = then-runs base code 1 2 c c1 (jumped c1 (q + 1) full) one two; at = refl; output = refl }

  -- ---- the frame is entered

  -- the first two words of the new frame, which begins at a word
  abbrev pub kept_words : (g back caller : ℕ) → List ℕ → List ℕ
  kept_words g back caller ws = set (set ws g back) (g + 1) caller

  -- register 6 has the address of the new frame: its first words are written
  pub record HasKept (g back caller : ℕ) (c : WordState) : Type 0 where
    pub end : WordState
    pub runs : run_words base code 4 c ≡ Goes end
    pub at : end.pc ≡ c.pc + 16
    pub others : (k : ℕ) → k ≢ 5 → end.registers k ≡ c.registers k
    pub words : end.words ≡ kept_words g back caller c.words
    pub input : end.input ≡ c.input
    pub output : end.output ≡ c.output

  pub keeps-run : (q g back f : ℕ) (c : WordState) → q < 2 ^ 28 → back < 2 ^ 28 → c.pc ≡ address_of q → base % 8 ≡ 0 → base + 8 * length c.words ≤ 2 ^ 32 → c.registers 6 ≡ base + 8 * g → c.registers 2 ≡ base + 8 * f → g + 2 ≤ length c.words
      → Has code (address_of q) (far_address 5 q back) → Has code (address_of (q + 2)) (Store Sd 6 5 (pos 0) ∷ Store Sd 6 2 (pos 8) ∷ []) → HasKept g (address_of back) (base + 8 * f) c
  keeps-run q g back f c near near_back at aligned below six two inside has stores =
      let c1 = addressed c 4 q back in
      let r1 = address-runs base code c 4 q back near near_back at has in
      let five : c1.registers 5 ≡ address_of back = put-same c.registers 4 (address_of back) in
      let g6 : c1.registers 6 ≡ base + 8 * g = put-other c.registers 6 5 (address_of back) (omega arith) ∙ six in
      let g2 : c1.registers 2 ≡ base + 8 * f = put-other c.registers 2 5 (address_of back) (omega arith) ∙ two in
      let zero : g + 0 ≡ g = omega arith in
      let c2 : WordState = record c1 { pc = c1.pc + 4; words = set c.words g (address_of back) } in
      let s1 : run_words base code 1 c1 ≡ Goes c2 = store-runs base code c1 6 5 g 0 (record { aligned = aligned; below = omega (arith, below); is = g6; inside = omega (arith, inside) }) stores.0
      ∙ ap (λ i. Goes (record c1 { pc = c1.pc + 4; words = set c.words i (c1.registers 5) })) zero ∙ ap (λ v. Goes (record c1 { pc = c1.pc + 4; words = set c.words g v })) five in
      let l2 = length-set c.words g (address_of back) in
      let c3 : WordState = record c2 { pc = c2.pc + 4; words = set c2.words (g + 1) (base + 8 * f) } in
      let s2 : run_words base code 1 c2 ≡ Goes c3 = store-runs base code c2 6 2 g 1 (record { aligned = aligned; below = omega (arith, below, l2); is = g6; inside = omega (arith, inside, l2) }) stores.1.0
      ∙ ap (λ v. Goes (record c2 { pc = c2.pc + 4; words = set c2.words (g + 1) v })) g2 in
      record {
        end = c3;
        runs = then-runs base code 2 2 c c1 c3 r1 (then-runs base code 1 1 c1 c2 c3 s1 s2);
        at = omega (arith, at);
        others = λ k ne. put-other c.registers k 5 (address_of back) ne;
        words = refl;
        input = refl;
        output = refl;
      }

  -- register 10 has the address of a word of the old frame, and register 2 that of the new one
  pub record HasFrames (f g first : ℕ) (c : WordState) : Type 0 where
    pub end : WordState
    pub count : ℕ
    pub few : count ≤ 10
    pub runs : run_words base code count c ≡ Goes end
    pub at : end.pc ≡ c.pc + 4 * (length (address_items first) + 1)
    pub source : end.registers 10 ≡ base + 8 * (f + first)
    pub frame : end.registers 2 ≡ base + 8 * g
    pub region : end.registers 3 ≡ c.registers 3
    pub words : end.words ≡ c.words
    pub input : end.input ≡ c.input
    pub output : end.output ≡ c.output

  -- register 2 takes the address in register 6
  set-frame : (c : WordState) (value : ℕ) → c.registers 6 ≡ value → value < 2 ^ 64 → Has code c.pc (OpImm Addi 2 6 (pos 0) ∷ []) → run_words base code 1 c ≡ Goes (record c { pc = c.pc + 4; registers = put c.registers 2 value })
  set-frame c value at small h = let w : wrap (c.registers 6 + 0) ≡ value = omega (arith, at) in rw (h.0, w) refl

  pub frames-come : (f g first : ℕ) (c : WordState) → first < 33554432 → c.registers 2 ≡ base + 8 * f → c.registers 6 ≡ base + 8 * g → base + 8 * (f + first) < 2 ^ 64 → base + 8 * g < 2 ^ 64 → Has code c.pc (address_items first ++ (OpImm Addi 2 6 (pos 0) ∷ [])) → HasFrames f g first c
  frames-come f g first c near two six low high h =
      let last = OpImm Addi 2 6 (pos 0) ∷ [] in
      let a = address-comes base code f first c near two low (Has-front code c.pc (address_items first) last h) in
      let c1 = a.end in
      let stands : Has code c1.pc last = subst (λ q. Has code q last) (sym a.pc) (Has-back code c.pc (address_items first) last h) in
      let r2 = set-frame c1 (base + 8 * g) (a.others 6 (omega arith) ∙ six) high stands in
      let c2 : WordState = record c1 { pc = c1.pc + 4; registers = put c1.registers 2 (base + 8 * g) } in
      record {
        end = c2;
        count = a.count + 1;
        few = omega (arith, a.few);
        runs = then-runs base code a.count 1 c c1 c2 a.runs r2;
        at = omega (arith, a.pc);
        source = put-other c1.registers 10 2 (base + 8 * g) (omega arith) ∙ a.value;
        frame = put-same c1.registers 1 (base + 8 * g);
        region = put-other c1.registers 3 2 (base + 8 * g) (omega arith) ∙ a.others 3 (omega arith);
        words = a.words;
        input = a.input;
        output = a.output;
      }
