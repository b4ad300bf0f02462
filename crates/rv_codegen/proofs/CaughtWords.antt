-- Words in a row that are copied to a row of a frame, the first one first: each is read before another is written over it.
use Rattle.std.proofs.Common.{◌≡◌, ◌≢◌, ◌⊎◌, ⊎_elim, ℕ, zero, suc, ◌+◌, ◌-◌, ◌*◌, ◌%◌, ◌^◌, ◌<◌, ◌≤◌, true, false, List, [], ◌∷◌, ◌++◌, length, get_or, set, refl, sym, ap, ◌∙◌, subst, arith, inl, inr, ltb, length-append, length-set, get_or-set_same, get_or-set_other}
use Rattle.std.proofs.lemmas.Bool.{cases_lt}
use Rattle.rv_code.proofs.Bools.{true-or-false}
use Rattle.rv_code.specs.Arithmetic.{wrap}
use Rattle.rv_code.specs.declared.instruction.Inst.{Inst}
use Rattle.rv_code.specs.declared.instruction.Inst.TheVariants.{Op}
use Rattle.rv_code.specs.declared.instruction.OpOp.TheVariants.{Add}
use Rattle.rv_asm.specs.DataWords.{Heap, StandsFor}
use Rattle.rv_asm.specs.PieceRuns.{IsCopied}
use Rattle.rv_asm.specs.Pieces.{copy_words, load_constant}
use Rattle.rv_asm.specs.WordMachine.{WordState, Goes, get, put, run_words, Has}
use Rattle.rv_asm.proofs.Constants.{length-load_constant, load_constant-runs}
use Rattle.rv_asm.proofs.Copies.{length-copy_words}
use Rattle.rv_asm.proofs.Places.{Has-front, Has-back}
use Rattle.rv_asm.proofs.Registers.{put-other, put-same, get-put_same, get-put_other}
use Rattle.rv_asm.proofs.Stretches.{then-runs}
use Rattle.rv_asm.proofs.Words.{IsReachable, load-runs, store-runs}
use Rattle.action_terms.specs.Information.{Data}
use Rattle.action_terms.specs.Performances.{OneOf}
use Rattle.rv_yield.specs.Evaluates.{HasFrame}
use Rattle.rv_yield.specs.Holding.{Holds}
use Rattle.rv_yield.proofs.Steps.{op-runs, written}
use Rattle.rv_codegen.specs.CaughtItems.{caught_items}
use Rattle.rv_codegen.proofs.CaughtPlaces.{in-row_member}
use Rattle.rv_codegen.proofs.Holding.{in_row}
use Rattle.rv_codegen.proofs.MovedWords.{HasWritten}

-- each of n words from a on is read before another is written over it, where they go to the words from b on, the first one first
abbrev pub IsReadFirst : (n a b : ℕ) → Type 0
IsReadFirst n a b = (b ≤ a) ⊎ (a + n ≤ b)

copied-none : (a b : ℕ) (ws : List ℕ) → IsCopied 0 a b ws ws
copied-none a b ws = record { size = refl; moved = λ k h. absurd (omega arith); kept = λ j h. refl }

copied-first : (n a b : ℕ) (ws new : List ℕ) → b < length ws → IsReadFirst (suc n) a b → IsCopied n (a + 1) (b + 1) (set ws b (get_or ws a 0)) new → IsCopied (suc n) a b ws new
copied-first n a b ws new h read c = record { size = c.size ∙ length-set ws b (get_or ws a 0); moved = moved; kept = kept }
  where
    far : (k : ℕ) → k < n → a + 1 + k ≢ b
    far k lt = ⊎_elim (λ (le : b ≤ a). omega arith) (λ (le : a + suc n ≤ b). omega arith) read

    moved : (k : ℕ) → k < suc n → get_or new (b + k) 0 ≡ get_or ws (a + k) 0
    moved zero lt =
        ap (λ j. get_or new j 0) (omega arith) ∙ c.kept b (inl (omega arith)) ∙ get_or-set_same ws b (get_or ws a 0) 0 h ∙ ap (λ j. get_or ws j 0) (omega arith)
    moved (suc k) lt =
        let e : b + suc k ≡ b + 1 + k = omega arith in
        let f : a + 1 + k ≡ a + suc k = omega arith in
        ap (λ j. get_or new j 0) e ∙ c.moved k (omega arith) ∙ get_or-set_other ws b (a + 1 + k) (get_or ws a 0) 0 (far k (omega arith)) ∙ ap (λ j. get_or ws j 0) f

    kept : (j : ℕ) → (j < b) ⊎ (b + suc n ≤ j) → get_or new j 0 ≡ get_or ws j 0
    kept j out =
        c.kept j (⊎_elim (λ (lt : j < b). inl (omega arith)) (λ (ge : b + suc n ≤ j). inr (omega arith)) out) ∙ get_or-set_other ws b j (get_or ws a 0) 0 (⊎_elim (λ (lt : j < b). omega arith) (λ (ge : b + suc n ≤ j). omega arith) out)

module _ (base : ℕ) (code : List Inst) where
  -- registers have the addresses of words i and j, and both rows are in the region
  record CanCatch (n from target to i j : ℕ) (c : WordState) : Type 0 where
    aligned : base % 8 ≡ 0
    below : base + 8 * length c.words ≤ 2 ^ 32
    other_target : target ≢ 11
    source_is : get c.registers 10 ≡ base + 8 * i
    target_is : get c.registers target ≡ base + 8 * j
    source_inside : i + from + n ≤ length c.words
    target_inside : j + to + n ≤ length c.words
    read : IsReadFirst n (i + from) (j + to)

  -- the words are copied, and register 11 has changed at most
  record HasCaught (n a b : ℕ) (c : WordState) : Type 0 where
    end : WordState
    runs : run_words base code (2 * n) c ≡ Goes end
    pc : end.pc ≡ c.pc + 8 * n
    copied : IsCopied n a b c.words end.words
    others : (k : ℕ) → k ≢ 11 → end.registers k ≡ c.registers k
    input : end.input ≡ c.input
    output : end.output ≡ c.output

  -- the state behind the first word
  abbrev caught_one : WordState → (a b : ℕ) → WordState
  caught_one c a b = record c { pc = c.pc + 4 + 4; registers = put c.registers 11 (get_or c.words a 0); words = set c.words b (get_or c.words a 0) }

  one-runs : (n from target to i j : ℕ) (c : WordState) → CanCatch (suc n) from target to i j c → Has code c.pc (copy_words (suc n) 11 10 from target to) → run_words base code 2 c ≡ Goes (caught_one c (i + from) (j + to))
  one-runs n from target to i j c can h =
      let v = get_or c.words (i + from) 0 in
      let c1 : WordState = record c { pc = c.pc + 4; registers = put c.registers 11 v } in
      let source : IsReachable base c 10 i from = record { aligned = can.aligned; below = omega (arith, can.below); is = can.source_is; inside = omega (arith, can.source_inside) } in
      let place : IsReachable base c1 target j to = record { aligned = can.aligned; below = omega (arith, can.below); is = get-put_other c.registers target 11 v can.other_target ∙ can.target_is; inside = omega (arith, can.target_inside) } in
      let read = load-runs base code c 11 10 i from source h.0 in
      let wrote = store-runs base code c1 target 11 j to place h.1.0 in
      let value : get c1.registers 11 ≡ v = get-put_same c.registers 10 v in
      then-runs base code 1 1 c c1 (caught_one c (i + from) (j + to)) read
      (wrote ∙ ap (λ z. Goes (record c1 { pc = c1.pc + 4; words = set c1.words (j + to) z })) value)

  one-can : (n from target to i j : ℕ) (c : WordState) → CanCatch (suc n) from target to i j c → CanCatch n (from + 1) target (to + 1) i j (caught_one c (i + from) (j + to))
  one-can n from target to i j c can =
      let v = get_or c.words (i + from) 0 in
      let l = length-set c.words (j + to) v in
      record {
        aligned = can.aligned;
        below = omega (arith, l, can.below);
        other_target = can.other_target;
        source_is = get-put_other c.registers 10 11 v (omega arith) ∙ can.source_is;
        target_is = get-put_other c.registers target 11 v can.other_target ∙ can.target_is;
        source_inside = omega (arith, l, can.source_inside);
        target_inside = omega (arith, l, can.target_inside);
        read = ⊎_elim (λ (le : j + to ≤ i + from). inl (omega arith)) (λ (le : i + from + suc n ≤ j + to). inr (omega arith)) can.read;
      }

  more : (n from target to i j : ℕ) (c : WordState) → CanCatch (suc n) from target to i j c → run_words base code 2 c ≡ Goes (caught_one c (i + from) (j + to)) → HasCaught n (i + (from + 1)) (j + (to + 1)) (caught_one c (i + from) (j + to)) → HasCaught (suc n) (i + from) (j + to) c
  more n from target to i j c can first rest =
      let d = caught_one c (i + from) (j + to) in
      let m : 2 + 2 * n ≡ 2 * suc n = omega arith in
      let ea : i + (from + 1) ≡ i + from + 1 = omega arith in
      let eb : j + (to + 1) ≡ j + to + 1 = omega arith in
      let copied = subst (λ k. IsCopied n k (j + to + 1) d.words rest.end.words) ea (subst (λ k. IsCopied n (i + (from + 1)) k d.words rest.end.words) eb rest.copied) in
      record {
        end = rest.end;
        runs = ap (λ k. run_words base code k c) (sym m) ∙ then-runs base code 2 (2 * n) c d rest.end first rest.runs;
        pc = omega (arith, rest.pc);
        copied = copied-first n (i + from) (j + to) c.words rest.end.words (omega (arith, can.target_inside)) can.read copied;
        others = λ k ne. rest.others k ne ∙ put-other c.registers k 11 (get_or c.words (i + from) 0) ne;
        input = rest.input;
        output = rest.output;
      }

  row-runs : (n from target to i j : ℕ) (c : WordState) → CanCatch n from target to i j c → Has code c.pc (copy_words n 11 10 from target to) → HasCaught n (i + from) (j + to) c
  row-runs zero from target to i j c can h = record { end = c; runs = refl; pc = omega arith; copied = copied-none (i + from) (j + to) c.words; others = λ k n. refl; input = refl; output = refl }
  row-runs (suc n) from target to i j c can h =
      more n from target to i j c can (one-runs n from target to i j c can h)
      (row-runs n (from + 1) target (to + 1) i j (caught_one c (i + from) (j + to)) (one-can n from target to i j c can) h.1.1)

  -- ---- data that stand in a row

  held-there : (heap : Heap) (old new : List ℕ) (source f first i n : ℕ) (d : Data) → IsCopied n source (f + first) old new → i + length d ≤ n → Holds base heap old source (in_row i (length d)) d → Holds base heap new f (in_row (first + i) (length d)) d
  held-there heap old new source f first i n [] copied few h = tt
  held-there heap old new source f first i n (x ∷ d) copied few h =
      let place : f + first + i ≡ f + (first + i) = omega arith in
      let next : first + (i + 1) ≡ first + i + 1 = omega arith in
      let same : get_or new (f + (first + i)) 0 ≡ get_or old (source + i) 0 = ap (λ j. get_or new j 0) (sym place) ∙ copied.moved i (omega arith) in
      (subst (λ w. StandsFor base heap w x) (sym same) h.0, subst (λ j. Holds base heap new f (in_row j (length d)) d) next (held-there heap old new source f first (i + 1) n d copied (omega arith) h.1))

  -- ---- the whole code

  -- the words are at these places, and no other word has changed
  pub record Catches (source f : ℕ) (os : List ℕ) (c : WordState) : Type 0 where
    pub written : HasWritten base code f (2 * length os + 9) os c (c.pc + 4 * length (caught_items os))
    pub holds : (heap : Heap) (d : Data) → length d ≡ length os → Holds base heap c.words source (in_row 0 (length d)) d → Holds base heap written.end.words f os d

  module _ (source f : ℕ) (os : List ℕ) (c : WordState) (row : os ≡ in_row (get_or os 0 0) (length os)) where
    abbrev first : ℕ
    first = get_or os 0 0

    outside : (j : ℕ) → ((o : ℕ) → OneOf o os → j ≡ f + o → ⊥) → (j < f + first) ⊎ (f + first + length os ≤ j)
    outside j none = ⊎_elim
        (λ (low : j < f + first). inl low)
        (λ (ge : f + first ≤ j). ⊎_elim
        (λ (within : j < f + first + length os).
        absurd (none (j - f) (subst (OneOf (j - f)) (sym row) (in-row_member first (length os) (j - f) (omega arith) (omega arith))) (omega arith)))
        (λ (past : f + first + length os ≤ j). inr past)
        (cases_lt j (f + first + length os)))
        (cases_lt j (f + first))

    -- so many instructions first, and then the copy
    caught : (count : ℕ) (c1 : WordState) → count ≤ 9 → run_words base code count c ≡ Goes c1 → ((k : ℕ) → k < 5 → c1.registers k ≡ c.registers k) → c1.words ≡ c.words → c1.input ≡ c.input → c1.output ≡ c.output → c1.pc + 8 * length os ≡ c.pc + 4 * length (caught_items os) → HasCaught (length os) source (f + first) c1 → Catches source f os c
    caught count c1 few runs low words input output there g =
        let copied : IsCopied (length os) source (f + first) c.words g.end.words = subst (λ ws. IsCopied (length os) source (f + first) ws g.end.words) words g.copied in
        let zero : first + 0 ≡ first = omega arith in
        record {
          written = record {
            count = count + 2 * length os;
            few = omega (arith, few);
            end = g.end;
            runs = then-runs base code count (2 * length os) c c1 g.end runs g.runs;
            at = g.pc ∙ there;
            others = λ k lt. g.others k (omega arith) ∙ low k lt;
            size = copied.size;
            kept = λ j no. copied.kept j (outside j no);
            input = g.input ∙ input;
            output = g.output ∙ output;
          };
          holds = λ heap d many h.
              subst (λ ps. Holds base heap g.end.words f ps d) (sym row)
              (subst (λ n. Holds base heap g.end.words f (in_row first n) d) many
              (subst (λ i. Holds base heap g.end.words f (in_row i (length d)) d) zero
              (held-there heap c.words g.end.words source f first 0 (length os) d copied (omega (arith, many)) h)));
        }

    -- register 10 has the address of the data, and the places are words of the frame
    pub catches-run : HasFrame base f c → c.registers 10 ≡ base + 8 * source → source + length os ≤ length c.words → f + first + length os ≤ length c.words → first < 33554432 → IsReadFirst (length os) source (f + first) → Has code c.pc (caught_items os) → Catches source f os c
    catches-run frame at source_inside target_inside small read has = ⊎_elim (λ q. near q) (λ q. far q) (true-or-false (ltb (first + length os) 257))
      where
        near : ltb (first + length os) 257 ≡ true → Catches source f os c
        near q =
            let is : caught_items os ≡ copy_words (length os) 11 10 0 2 first = rw q refl in
            let size : length (caught_items os) ≡ 2 * length os = ap length is ∙ length-copy_words (length os) 11 10 0 2 first in
            let zero : source + 0 ≡ source = omega arith in
            let can : CanCatch (length os) 0 2 first source f c = record {
              aligned = frame.aligned;
              below = frame.below;
              other_target = omega arith;
              source_is = at;
              target_is = frame.frame;
              source_inside = omega (arith, source_inside);
              target_inside = target_inside;
              read = subst (λ a. IsReadFirst (length os) a (f + first)) (sym zero) read;
            } in
            let g = row-runs (length os) 0 2 first source f c can (subst (Has code c.pc) is has) in
            caught 0 c (omega arith) refl (λ k lt. refl) refl refl refl (omega (arith, size)) (subst (λ a. HasCaught (length os) a (f + first) c) zero g)

        far : ltb (first + length os) 257 ≡ false → Catches source f os c
        far q =
            let v = 8 * first in
            let load = load_constant 5 v in
            let copy = copy_words (length os) 11 10 0 5 0 in
            let is : caught_items os ≡ load ++ (Op Add 5 5 2 ∷ copy) = rw q refl in
            let size : length (caught_items os) ≡ length load + (1 + 2 * length os) = omega (arith, ap length is, length-append load (Op Add 5 5 2 ∷ copy), length-copy_words (length os) 11 10 0 5 0) in
            let stands = subst (Has code c.pc) is has in
            let c1 : WordState = record c { pc = c.pc + 4 * length load; registers = put c.registers 5 v } in
            let r1 : run_words base code (length load) c ≡ Goes c1 = load_constant-runs base code 5 v c (omega arith) (omega arith) (Has-front code c.pc load (Op Add 5 5 2 ∷ copy) stands) in
            let rest = Has-back code c.pc load (Op Add 5 5 2 ∷ copy) stands in
            let sum = wrap (v + (base + 8 * f)) in
            let c2 : WordState = written c1 5 sum in
            let r2 : run_words base code 1 c1 ≡ Goes c2 = op-runs base code c1 Add 5 5 2 v (base + 8 * f) rest.0 (put-same c.registers 4 v) (put-other c.registers 2 5 v (omega arith) ∙ frame.frame) in
            let zero : source + 0 ≡ source = omega arith in
            let start : f + first + 0 ≡ f + first = omega arith in
            let can : CanCatch (length os) 0 5 0 source (f + first) c2 = record {
              aligned = frame.aligned;
              below = frame.below;
              other_target = omega arith;
              source_is = put-other c1.registers 10 5 sum (omega arith) ∙ put-other c.registers 10 5 v (omega arith) ∙ at;
              target_is = put-same c1.registers 4 sum ∙ omega (arith, frame.below, target_inside);
              source_inside = omega (arith, source_inside);
              target_inside = omega (arith, target_inside);
              read = subst (λ a. IsReadFirst (length os) a (f + first + 0)) (sym zero) (subst (IsReadFirst (length os) source) (sym start) read);
            } in
            let g = row-runs (length os) 0 5 0 source (f + first) c2 can rest.1 in
            caught (length load + 1) c2 (omega (arith, length-load_constant 5 v)) (then-runs base code (length load) 1 c c1 c2 r1 r2)
            (λ k lt. put-other c1.registers k 5 sum (omega arith) ∙ put-other c.registers k 5 v (omega arith)) refl refl refl (omega (arith, size))
            (subst (λ a. HasCaught (length os) a (f + first) c2) zero (subst (λ b. HasCaught (length os) (source + 0) b c2) start g))
