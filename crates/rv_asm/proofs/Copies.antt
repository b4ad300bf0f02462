-- Words of the region that are copied to other places.
use Rattle.std.proofs.Common.{◌≡◌, ◌≢◌, ℕ, zero, suc, ◌+◌, ◌*◌, ◌<◌, ◌≤◌, List, length, get_or, set, refl, sym, ap, ◌∙◌, subst, arith, length-set, ◌⊎◌, ⊎_elim, inl, inr, get_or-set_same, get_or-set_other}
use Rattle.rv_code.specs.Arithmetic.{wrap}
use Rattle.rv_code.specs.declared.instruction.Inst.{Inst}
use Rattle.rv_asm.specs.Pieces.{copy_words}
use Rattle.rv_asm.specs.PieceRuns.{IsCopied, AreDisjoint, CanCopy}
use Rattle.rv_asm.specs.WordMachine.{WordState, Goes, get, put, run_words, Has}
use Rattle.rv_asm.proofs.Places.{word_index-inside}
use Rattle.rv_asm.proofs.Registers.{put-other, get-put_same, get-put_other}
use Rattle.rv_asm.proofs.Stretches.{then-runs}

copied-none : (a b : ℕ) (ws : List ℕ) → IsCopied 0 a b ws ws
copied-none a b ws = record { size = refl; moved = λ k h. absurd (omega arith); kept = λ j h. refl }

copied-more :
    (n a b : ℕ) (ws new : List ℕ) → b < length ws → AreDisjoint (suc n) a b →
    IsCopied n (a + 1) (b + 1) (set ws b (get_or ws a 0)) new →
    IsCopied (suc n) a b ws new
copied-more n a b ws new h apart c = record { size = c.size ∙ length-set ws b (get_or ws a 0); moved = moved; kept = kept }
  where
    far : (k : ℕ) → k < n → a + 1 + k ≢ b
    far k lt = ⊎_elim (λ le. omega arith) (λ le. omega arith) apart

    moved : (k : ℕ) → k < suc n → get_or new (b + k) 0 ≡ get_or ws (a + k) 0
    moved zero lt =
        ap (λ j. get_or new j 0) (omega arith) ∙ c.kept b (inl (omega arith)) ∙ get_or-set_same ws b (get_or ws a 0) 0 h ∙ ap (λ j. get_or ws j 0) (omega arith)
    moved (suc k) lt =
        let e : b + suc k ≡ b + 1 + k = omega arith in
        let f : a + 1 + k ≡ a + suc k = omega arith in
        ap (λ j. get_or new j 0) e ∙ c.moved k (omega arith) ∙ get_or-set_other ws b (a + 1 + k) (get_or ws a 0) 0 (far k (omega arith)) ∙ ap (λ j. get_or ws j 0) f

    kept : (j : ℕ) → (j < b) ⊎ (b + suc n ≤ j) → get_or new j 0 ≡ get_or ws j 0
    kept j out =
        c.kept j (⊎_elim (λ lt. inl (omega arith)) (λ ge. inr (omega arith)) out) ∙ get_or-set_other ws b j (get_or ws a 0) 0 (⊎_elim (λ lt. omega arith) (λ ge. omega arith) out)

-- what a piece that copies leaves: the words copied, the scratch register changed at most, and its instructions done
pub record CopyRuns (base : ℕ) (code : List Inst) (n scratch a b : ℕ) (c : WordState) : Type 0 where
  pub words : List ℕ
  pub registers : ℕ → ℕ
  pub runs : run_words base code (2 * n) c ≡ Goes (record c { pc = c.pc + 8 * n; registers = registers; words = words })
  pub copied : IsCopied n a b c.words words
  pub others : (k : ℕ) → k ≢ scratch → registers k ≡ c.registers k

pub length-copy_words : (n scratch source from target to : ℕ) → length (copy_words n scratch source from target to) ≡ 2 * n
length-copy_words zero scratch source from target to = refl
length-copy_words (suc n) scratch source from target to = omega (arith, length-copy_words n scratch source (from + 1) target (to + 1))

module _ (base : ℕ) (code : List Inst) where
  -- the state behind the first word
  abbrev copied_one : WordState → (d a b : ℕ) → WordState
  copied_one c d a b = record c { pc = c.pc + 4 + 4; registers = put c.registers d (get_or c.words a 0); words = set c.words b (get_or c.words a 0) }

  one-runs :
      (n scratch source from target to i j : ℕ) (c : WordState) → CanCopy base (suc n) (suc scratch) source from target to i j c →
      Has code c.pc (copy_words (suc n) (suc scratch) source from target to) →
      run_words base code 2 c ≡ Goes (copied_one c (suc scratch) (i + from) (j + to))
  one-runs n scratch source from target to i j c can h =
      let v = get_or c.words (i + from) 0 in
      let x : wrap (get c.registers source + 8 * from) ≡ base + 8 * (i + from) = omega (arith, can.source_is, can.below, can.source_inside) in
      let t : get (put c.registers (suc scratch) v) target ≡ base + 8 * j = get-put_other c.registers target (suc scratch) v can.other_target ∙ can.target_is in
      let y : wrap (base + 8 * j + 8 * to) ≡ base + 8 * (j + to) = omega (arith, can.below, can.target_inside) in
      let p = word_index-inside base (length c.words) (base + 8 * (i + from)) (i + from) can.aligned refl (omega (arith, can.source_inside)) in
      let q = word_index-inside base (length c.words) (base + 8 * (j + to)) (j + to) can.aligned refl (omega (arith, can.target_inside)) in
      let s = get-put_same c.registers scratch v in
      rw (h.0, x, p, h.1.0, t, y, q, s) refl

  one-can :
      (n scratch source from target to i j : ℕ) (c : WordState) → CanCopy base (suc n) (suc scratch) source from target to i j c →
      CanCopy base n (suc scratch) source (from + 1) target (to + 1) i j (copied_one c (suc scratch) (i + from) (j + to))
  one-can n scratch source from target to i j c can =
      let v = get_or c.words (i + from) 0 in
      let l = length-set c.words (j + to) v in
      record {
        aligned = can.aligned;
        below = omega (arith, l, can.below);
        some_register = can.some_register;
        other_source = can.other_source;
        other_target = can.other_target;
        source_is = get-put_other c.registers source (suc scratch) v can.other_source ∙ can.source_is;
        target_is = get-put_other c.registers target (suc scratch) v can.other_target ∙ can.target_is;
        source_inside = omega (arith, l, can.source_inside);
        target_inside = omega (arith, l, can.target_inside);
        apart = ⊎_elim (λ le. inl (omega arith)) (λ le. inr (omega arith)) can.apart;
      }

  more :
      (n scratch source from target to i j : ℕ) (c : WordState) → CanCopy base (suc n) (suc scratch) source from target to i j c →
      run_words base code 2 c ≡ Goes (copied_one c (suc scratch) (i + from) (j + to)) →
      CopyRuns base code n (suc scratch) (i + (from + 1)) (j + (to + 1)) (copied_one c (suc scratch) (i + from) (j + to)) →
      CopyRuns base code (suc n) (suc scratch) (i + from) (j + to) c
  more n scratch source from target to i j c can first rest =
      let d = copied_one c (suc scratch) (i + from) (j + to) in
      let m : 2 + 2 * n ≡ 2 * suc n = omega arith in
      let pc : c.pc + 4 + 4 + 8 * n ≡ c.pc + 8 * suc n = omega arith in
      let ea : i + (from + 1) ≡ i + from + 1 = omega arith in
      let eb : j + (to + 1) ≡ j + to + 1 = omega arith in
      let copied = subst (λ k. IsCopied n k (j + to + 1) d.words rest.words) ea (subst (λ k. IsCopied n (i + (from + 1)) k d.words rest.words) eb rest.copied) in
      let run = then-runs base code 2 (2 * n) c d (record d { pc = d.pc + 8 * n; registers = rest.registers; words = rest.words }) first rest.runs in
      record {
        words = rest.words;
        registers = rest.registers;
        runs = ap (λ k. run_words base code k c) (sym m) ∙ run ∙ ap (λ p. Goes (record c { pc = p; registers = rest.registers; words = rest.words })) pc;
        copied = copied-more n (i + from) (j + to) c.words rest.words (omega (arith, can.target_inside)) can.apart copied;
        others = λ k ne. rest.others k ne ∙ put-other c.registers k (suc scratch) (get_or c.words (i + from) 0) ne;
      }

  -- n words are copied by 2 * n instructions, which change the scratch register alone
  pub copy_words-runs :
      (n scratch source from target to i j : ℕ) (c : WordState) → CanCopy base n scratch source from target to i j c →
      Has code c.pc (copy_words n scratch source from target to) →
      CopyRuns base code n scratch (i + from) (j + to) c
  copy_words-runs n zero source from target to i j c can h = absurd (omega (arith, can.some_register))
  copy_words-runs zero (suc d) source from target to i j c can h =
      let e : c.pc ≡ c.pc + 8 * 0 = omega arith in
      record { words = c.words; registers = c.registers; runs = ap (λ p. Goes (record c { pc = p })) e; copied = copied-none (i + from) (j + to) c.words; others = λ k n. refl }
  copy_words-runs (suc n) (suc d) source from target to i j c can h =
      more n d source from target to i j c can (one-runs n d source from target to i j c can h)
      (copy_words-runs n (suc d) source (from + 1) target (to + 1) i j (copied_one c (suc d) (i + from) (j + to)) (one-can n d source from target to i j c can) h.1.1)
