-- What is given, and what a token is bound to, is loaded into a register from where it stands.
use Rattle.std.proofs.Common.{◌≡◌, ⊎_elim, ℕ, zero, suc, ◌+◌, ◌*◌, ◌^◌, ◌<◌, ◌≤◌, Bool, true, false, List, [], ◌∷◌, ◌++◌, All, length, Option, Some, None, pos, refl, sym, ap, ◌∙◌, subst, arith, length-append, ltb}
use Rattle.std.specs.Prelude.{slice_get, slice_index}
use Rattle.std.specs.Str.{bytes_eq}
use Rattle.std.proofs.lemmas.Slice.Eq.{bytes_eq-Decides}
use Rattle.std.proofs.lemmas.Option.{none-some, same_Some}
use Rattle.std.proofs.lemmas.List.Elements.{All-head, All-tail}
use Rattle.rv_code.proofs.Bools.{true-or-false}
use Rattle.rv_code.specs.Arithmetic.{wrap}
use Rattle.rv_code.specs.declared.instruction.Inst.{Inst}
use Rattle.rv_code.specs.declared.instruction.Inst.TheVariants.{Op, Load}
use Rattle.rv_code.specs.declared.instruction.OpOp.TheVariants.{Add}
use Rattle.rv_code.specs.declared.instruction.LoadOp.TheVariants.{Ld}
use Rattle.rv_asm.specs.Assembly.{address_of, code_from, total}
use Rattle.rv_asm.specs.DataWords.{Heap, StandsFor}
use Rattle.rv_asm.specs.Pieces.{load_constant}
use Rattle.rv_asm.specs.WordMachine.{WordState, Goes, put, run_words, Has}
use Rattle.rv_asm.proofs.Constants.{length-load_constant, load_constant-runs}
use Rattle.rv_asm.proofs.LabelsArrive.{far_jump-runs}
use Rattle.rv_asm.proofs.Places.{Has-front, Has-back}
use Rattle.rv_asm.proofs.Registers.{put-other}
use Rattle.rv_asm.proofs.Sending.{code_from-plain, total-plain}
use Rattle.rv_asm.proofs.Stretches.{then-runs}
use Rattle.rv_asm.proofs.Words.{IsReachable, load-runs}
use Rattle.action_terms.specs.Bindings.{lookup}
use Rattle.action_terms.specs.Information.{Token, Datum, Binds, Data}
use Rattle.action_terms.specs.Suited.{IsOfSort}
use Rattle.action_terms.specs.Yielding.{only, nth, of_sort, and_then}
use Rattle.action_terms.specs.declared.kinds.Sort.{Sort}
use Rattle.rv_yield.specs.Evaluates.{HasFrame}
use Rattle.rv_yield.specs.Holding.{Slot, Places, word_at, Holds, HoldsBinds, only_offset, nth_offset, slot_offset}
use Rattle.rv_yield.specs.YielderCode.{load_items, placed_items}
use Rattle.rv_yield.proofs.Steps.{written, get-written, put-written, op-runs, Arrives}
use Rattle.rv_yield.proofs.Valued.{Valued, HasValue, NoValue}

-- ---- where data stand

-- the offsets of these places are those of frames
pub record IsNear (places : Places) : Type 0 where
  pub given : All (λ o. o < 33554432) places.given
  pub bound : All (λ s. s.offset < 33554432) places.bound

module _ (base : ℕ) (heap : Heap) (words : List ℕ) (f : ℕ) where
  -- a datum that is there stands at its offset, and where there is none, neither is an offset
  pub data Stands_at : Option ℕ → Option Datum → Type 0 where
    There : (o : ℕ) (x : Datum) → o < 33554432 → f + o < length words → StandsFor base heap (word_at words f o) x → Stands_at (Some o) (Some x)
    Missing : Stands_at None None

  abbrev pub Near : List ℕ → Type 0
  Near given = All (λ o. o < 33554432) given

  abbrev pub Inside : List ℕ → Type 0
  Inside given = All (λ o. f + o < length words) given

  first-stands : (o : ℕ) (os : List ℕ) (x : Datum) → Near (o ∷ os) → Inside (o ∷ os) → StandsFor base heap (word_at words f o) x → Stands_at (Some o) (Some x)
  first-stands o os x n i s = There o x (All-head (λ o. o < 33554432) o os n) (All-head (λ o. f + o < length words) o os i) s

  pub only-stands : (given : List ℕ) (d : Data) → Near given → Inside given → Holds base heap words f given d → Stands_at (only_offset given) (only d)
  only-stands [] [] n i h = Missing
  only-stands (o ∷ []) (x ∷ []) n i h = first-stands o [] x n i h.0
  only-stands (o ∷ (p ∷ os)) (x ∷ (y ∷ d)) n i h = Missing
  only-stands [] (x ∷ d) n i h = absurd h
  only-stands (o ∷ os) [] n i h = absurd h
  only-stands (o ∷ []) (x ∷ (y ∷ d)) n i h = absurd h.1
  only-stands (o ∷ (p ∷ os)) (x ∷ []) n i h = absurd h.1

  get-stands : (given : List ℕ) (d : Data) (k : ℕ) → Near given → Inside given → Holds base heap words f given d → Stands_at (slice_get given k) (slice_get d k)
  get-stands [] [] k n i h = Missing
  get-stands (o ∷ os) (x ∷ d) zero n i h = first-stands o os x n i h.0
  get-stands (o ∷ os) (x ∷ d) (suc k) n i h = get-stands os d k (All-tail (λ o. o < 33554432) o os n) (All-tail (λ o. f + o < length words) o os i) h.1
  get-stands [] (x ∷ d) k n i h = absurd h
  get-stands (o ∷ os) [] k n i h = absurd h

  pub nth-stands : (given : List ℕ) (d : Data) (k : ℕ) → Near given → Inside given → Holds base heap words f given d → Stands_at (nth_offset given k) (nth d k)
  nth-stands given d zero n i h = Missing
  nth-stands given d (suc k) n i h = get-stands given d k n i h

  -- what a token is bound to stands at its slot, and a token without a slot isn't bound
  pub bound-stands :
      (slots : List Slot) (b : Binds) (t : Token) → All (λ s. s.offset < 33554432) slots → All (λ s. f + s.offset < length words) slots → HoldsBinds base heap words f slots b →
      (slot_offset slots t ≡ None → lookup t b ≡ None) → Stands_at (slot_offset slots t) (lookup t b)
  bound-stands [] b t n i h none = subst (Stands_at None) (sym (none refl)) Missing
  bound-stands (s ∷ ss) b t n i h none =
      by (bytes_eq s.token t) refl
      (λ other. bound-stands ss b t (All-tail (λ s. s.offset < 33554432) s ss n) (All-tail (λ s. f + s.offset < length words) s ss i) h.1 (λ q. none (rw other q)))
    where
      by : (q : Bool) → bytes_eq s.token t ≡ q → (bytes_eq s.token t ≡ false → Stands_at (slot_offset ss t) (lookup t b)) → Stands_at (slot_offset (s ∷ ss) t) (lookup t b)
      by true e rest =
          let is : lookup t b ≡ Some h.0.datum = subst (λ u. lookup u b ≡ Some h.0.datum) ((bytes_eq-Decides s.token t).0 e) h.0.is in
          rw (e, is) (There s.offset h.0.datum (All-head (λ s. s.offset < 33554432) s ss n) (All-head (λ s. f + s.offset < length words) s ss i) h.0.stands)
      by false e rest = rw e (rest e)

-- a token's slot is one of a frame
pub slot-near : (slots : List Slot) (t : Token) (n : ℕ) → All (λ s. s.offset < 33554432) slots → slot_offset slots t ≡ Some n → n < 33554432
slot-near [] t n near e = absurd (none-some n e)
slot-near (s ∷ ss) t n near e = by (bytes_eq s.token t) refl (slot-near ss t n (All-tail (λ s. s.offset < 33554432) s ss near))
  where
    by : (q : Bool) → bytes_eq s.token t ≡ q → (slot_offset ss t ≡ Some n → n < 33554432) → n < 33554432
    by true q rest =
        let same : slot_offset (s ∷ ss) t ≡ Some s.offset = rw q refl in
        subst (λ o. o < 33554432) (same_Some s.offset n (sym same ∙ e)) (All-head (λ s. s.offset < 33554432) s ss near)
    by false q rest =
        let same : slot_offset (s ∷ ss) t ≡ slot_offset ss t = rw q refl in
        rest (sym same ∙ e)

-- what is found is of the sort that is asked for
pub sort-same : (s : Sort) (o : Option Datum) → IsOfSort s o → and_then o (of_sort s) ≡ o
sort-same s None h = refl
sort-same s (Some x) h = h

-- ---- loads

pub length-load : (to offset : ℕ) → length (load_items to offset) ≤ 10
length-load to offset =
    ⊎_elim (λ q. rw q (omega arith)) (λ q. rw q (omega (arith, length-append (load_constant to (8 * offset)) (Op Add to to 2 ∷ Load Ld to to (pos 0) ∷ []), length-load_constant to (8 * offset)))) (true-or-false (ltb offset 256))

module _ (base : ℕ) (code : List Inst) (to free : ℕ) (low : 10 ≤ to) where
  -- behind a load the word is in the register
  pub record HasLoaded (f offset : ℕ) (c : WordState) : Type 0 where
    pub arrives : Arrives base code 10 to free c (c.pc + 4 * length (load_items to offset))
    pub value : arrives.end.registers to ≡ word_at c.words f offset

  pub load-loads :
      (f offset : ℕ) (c : WordState) → offset < 33554432 → HasFrame base f c → f + offset < length c.words → Has code c.pc (load_items to offset) → HasLoaded f offset c
  load-loads f offset c small frame inside h = ⊎_elim (λ q. near q) (λ q. far q) (true-or-false (ltb offset 256))
    where
      near : ltb offset 256 ≡ true → HasLoaded f offset c
      near q =
          let is : load_items to offset ≡ Load Ld to 2 (pos (8 * offset)) ∷ [] = rw q refl in
          let one : length (load_items to offset) ≡ 1 = ap length is in
          let w = word_at c.words f offset in
          let stands = subst (Has code c.pc) is h in
          let reach : IsReachable base c 2 f offset = record { aligned = frame.aligned; below = omega (arith, frame.below); is = frame.frame; inside = inside } in
          let runs : run_words base code 1 c ≡ Goes (written c to w) = load-runs base code c to 2 f offset reach stands.0 in
          record {
            arrives = record { count = 1; few = omega arith; end = written c to w; runs = runs; at = omega (arith, one); others = λ k lt n. put-other c.registers k to w n; words = refl; input = refl; output = refl };
            value = put-written c.registers to w (omega (arith, low));
          }

      far : ltb offset 256 ≡ false → HasLoaded f offset c
      far q =
          let v = 8 * offset in
          let load = load_constant to v in
          let last = Op Add to to 2 ∷ Load Ld to to (pos (8 * 0)) ∷ [] in
          let is : load_items to offset ≡ load ++ last = rw q refl in
          let size : length (load_items to offset) ≡ length load + (1 + 1) = ap length is ∙ length-append load last in
          let stands = subst (Has code c.pc) is h in
          let some : 0 < to = omega (arith, low) in
          let c1 : WordState = record c { pc = c.pc + 4 * length load; registers = put c.registers to v } in
          let r1 : run_words base code (length load) c ≡ Goes c1 = load_constant-runs base code to v c some (omega arith) (Has-front code c.pc load last stands) in
          let rest : Has code c1.pc last = Has-back code c.pc load last stands in
          let sum = wrap (v + (base + 8 * f)) in
          let c2 = written c1 to sum in
          let r2 : run_words base code 1 c1 ≡ Goes c2 = op-runs base code c1 Add to to 2 v (base + 8 * f) rest.0 (get-written c.registers to v some) (put-other c.registers 2 to v (omega (arith, low)) ∙ frame.frame) in
          let w = word_at c.words (f + offset) 0 in
          let c3 = written c2 to w in
          let reach : IsReachable base c2 to (f + offset) 0 = record {
            aligned = frame.aligned;
            below = omega (arith, frame.below);
            is = get-written c1.registers to sum some ∙ omega (arith, frame.below, inside);
            inside = omega (arith, inside);
          } in
          let r3 : run_words base code 1 c2 ≡ Goes c3 = load-runs base code c2 to to (f + offset) 0 reach rest.1.0 in
          let whole = then-runs base code (length load) (1 + 1) c c1 c3 r1 (then-runs base code 1 1 c1 c2 c3 r2 r3) in
          let place : f + offset + 0 ≡ f + offset = omega arith in
          record {
            arrives = record {
              count = length load + (1 + 1);
              few = omega (arith, length-load_constant to v);
              end = c3;
              runs = whole;
              at = omega (arith, size);
              others = λ k lt n. put-other c2.registers k to w n ∙ put-other c1.registers k to sum n ∙ put-other c.registers k to v n;
              words = refl;
              input = refl;
              output = refl;
            };
            value = put-written c2.registers to w some ∙ ap (slice_index c.words) place;
          }

  -- ---- what is given, or the way to a label

  module _ (heap : Heap) (at : ℕ → ℕ) (l n : ℕ) (c : WordState) where
    pub placed-comes :
        (f : ℕ) (o : Option ℕ) (v : Option Datum) → Stands_at base heap c.words f o v → HasFrame base f c → free ≤ 31 →
        n + total (placed_items o to l) < 2 ^ 28 + 1 → at l < 2 ^ 28 → c.pc ≡ address_of n → Has code (address_of n) (code_from at n (placed_items o to l)) →
        Valued base code heap 12 to free c (address_of (n + total (placed_items o to l))) (address_of (at l)) v
    placed-comes f o v (There offset x small inside stands) frame few near l_near here h =
        let piece = load_items to offset in
        let stands' : Has code c.pc piece = subst (λ p. Has code p piece) (sym here) (subst (Has code (address_of n)) (code_from-plain at n piece) h) in
        let g = load-loads f offset c small frame inside stands' in
        HasValue x
        (record {
          count = g.arrives.count;
          few = omega (arith, g.arrives.few);
          end = g.arrives.end;
          runs = g.arrives.runs;
          at = omega (arith, g.arrives.at, here, total-plain piece);
          others = g.arrives.others;
          words = g.arrives.words;
          input = g.arrives.input;
          output = g.arrives.output;
        })
        (subst (λ w. StandsFor base heap w x) (sym g.value) stands)
    placed-comes f o v Missing frame few near l_near here h =
        let stands : Has code c.pc (code_from at n (placed_items None to l)) = subst (λ p. Has code p (code_from at n (placed_items None to l))) (sym here) h in
        NoValue
        (record {
          count = 2;
          few = omega arith;
          end = _;
          runs = far_jump-runs base code n (at l) (omega (arith, near)) l_near c here stands;
          at = refl;
          others = λ k lt ne. put-other c.registers k 31 _ (omega (arith, few));
          words = refl;
          input = refl;
          output = refl;
        })
