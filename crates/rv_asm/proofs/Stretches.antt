-- Runs that compose, and the output at each moment of a stretch of instructions.
use Rattle.std.proofs.Common.{◌≡◌, ℕ, zero, suc, ◌+◌, ◌-◌, ◌≤◌, List, [], ◌∷◌, ◌++◌, Some, refl, sym, ap, ◌∙◌, subst, arith, ◌⊎◌, ⊎_elim, inl, inr, suc-add, zero-add, append_assoc, append-nil}
use Rattle.std.proofs.lemmas.List.{append_cancel_left}
use Rattle.std.proofs.lemmas.Bool.{cases_lt}
use Rattle.rv_code.specs.declared.instruction.Inst.{Inst}
use Rattle.rv_asm.specs.WordMachine.{WordState, WordStep, Goes, Exits, Stuck, instruction_at, act, act_at, go_on, run_words}
use Rattle.rv_asm.proofs.Outputs.{output-run_words}

go_on-go_on : (x : WordStep) (f g h : WordState → WordStep) → ((d : WordState) → f d ≡ go_on (g d) h) → go_on x f ≡ go_on (go_on x g) h
go_on-go_on (Goes d) f g h e = e d
go_on-go_on (Exits k o) f g h e = refl
go_on-go_on Stuck f g h e = refl

go_on-Goes : (x : WordStep) (g : WordState → WordStep) (d : WordState) → go_on x g ≡ Goes d → (e : WordState) × (x ≡ Goes e) × (g e ≡ Goes d)
go_on-Goes (Goes b) g d e = (b, refl, e)
go_on-Goes (Exits k o) g d e = absurd (cc)
go_on-Goes Stuck g d e = absurd (cc)

nil-front : (u v : List ℕ) → u ++ v ≡ [] → u ≡ []
nil-front [] v e = refl
nil-front (x ∷ u) v e = absurd (cc)

-- what comes back to where it was, by appending, was there all the time
same-middle : (o x y u v : List ℕ) → x ≡ o ++ u → y ≡ x ++ v → y ≡ o → x ≡ o
same-middle o x y u v a b e =
    let l : (o ++ u) ++ v ≡ o ++ [] = ap (λ k. k ++ v) (sym a) ∙ sym b ∙ e ∙ sym (append-nil o) in
    let m : u ++ v ≡ [] = append_cancel_left o (u ++ v) [] (sym (append_assoc o u v) ∙ l) in
    a ∙ ap (λ k. o ++ k) (nil-front u v m) ∙ append-nil o

module _ (base : ℕ) (code : List Inst) where
  -- one instruction, where it is known
  pub run_words-one :
      (k : ℕ) (c : WordState) (i : Inst) → instruction_at code c.pc ≡ Some i →
      run_words base code (suc k) c ≡ go_on (act base i c) (run_words base code k)
  run_words-one k c i h = ap (λ o. go_on (act_at base o c) (run_words base code k)) h

  -- m instructions and then n
  pub run_words-add : (m n : ℕ) (c : WordState) → run_words base code (m + n) c ≡ go_on (run_words base code m c) (run_words base code n)
  run_words-add zero n c = rw zero-add refl
  run_words-add (suc m) n c =
      rw suc-add (go_on-go_on (act_at base (instruction_at code c.pc) c) (run_words base code (m + n)) (run_words base code m) (run_words base code n) (run_words-add m n))

  -- one stretch and then another
  pub then-runs :
      (m n : ℕ) (c d e : WordState) → run_words base code m c ≡ Goes d → run_words base code n d ≡ Goes e →
      run_words base code (m + n) c ≡ Goes e
  then-runs m n c d e p q = run_words-add m n c ∙ ap (λ x. go_on x (run_words base code n)) p ∙ q

  -- one stretch and then whatever comes
  pub then-ends :
      (m n : ℕ) (c d : WordState) (x : WordStep) → run_words base code m c ≡ Goes d → run_words base code n d ≡ x →
      run_words base code (m + n) c ≡ x
  then-ends m n c d x p q = run_words-add m n c ∙ ap (λ y. go_on y (run_words base code n)) p ∙ q

  -- the state in the middle of a stretch
  pub split-run :
      (j k : ℕ) (c d : WordState) → run_words base code (j + k) c ≡ Goes d →
      (e : WordState) × (run_words base code j c ≡ Goes e) × (run_words base code k e ≡ Goes d)
  split-run j k c d e = go_on-Goes (run_words base code j c) (run_words base code k) d (sym (run_words-add j k c) ∙ e)

  -- after each number of instructions up to n the output is that of c or that of d
  abbrev pub Between : ℕ → WordState → WordState → Type 0
  Between n c d = (j : ℕ) → j ≤ n → (e : WordState) × (run_words base code j c ≡ Goes e) × ((e.output ≡ c.output) ⊎ (e.output ≡ d.output))

  -- a stretch without output has the same output throughout
  pub quiet-between : (n : ℕ) (c d : WordState) → run_words base code n c ≡ Goes d → d.output ≡ c.output → Between n c d
  quiet-between n c d e o j le =
      let k = n - j in
      let q : n ≡ j + k = omega arith in
      let s = split-run j k c d (subst (λ n. run_words base code n c ≡ Goes d) q e) in
      let u = output-run_words base code j c s.0 s.1 in
      let v = output-run_words base code k s.0 d s.2 in
      (s.0, s.1, inl (same-middle c.output s.0.output d.output u.0 v.0 u.1 v.1 o))

  -- after each number of instructions of a stretch without output the output is that of its start
  pub quiet-moment :
      (n : ℕ) (c d : WordState) → run_words base code n c ≡ Goes d → d.output ≡ c.output → (j : ℕ) → j ≤ n →
      (e : WordState) × (run_words base code j c ≡ Goes e) × (e.output ≡ c.output)
  quiet-moment n c d e o j le =
      let b = quiet-between n c d e o j le in
      (b.0, b.1, ⊎_elim (λ p. p) (λ p. p ∙ o) b.2)

  -- one instruction
  pub one-between : (c d : WordState) → run_words base code 1 c ≡ Goes d → Between 1 c d
  one-between c d e zero le = (c, refl, inl refl)
  one-between c d e (suc zero) le = (d, e, inr refl)
  one-between c d e (suc (suc j)) le = absurd (omega arith)

  -- a stretch, and behind it one without output
  pub between-then-quiet :
      (n m : ℕ) (c d e : WordState) → run_words base code n c ≡ Goes d → Between n c d → run_words base code m d ≡ Goes e →
      e.output ≡ d.output →
      Between (n + m) c e
  between-then-quiet n m c d e p i q o j le = ⊎_elim (λ lt. front (omega arith)) (λ ge. back ge) (cases_lt j n)
    where
      front : j ≤ n → (x : WordState) × (run_words base code j c ≡ Goes x) × ((x.output ≡ c.output) ⊎ (x.output ≡ e.output))
      front h = let r = i j h in (r.0, r.1, ⊎_elim (λ a. inl a) (λ b. inr (b ∙ sym o)) r.2)

      back : n ≤ j → (x : WordState) × (run_words base code j c ≡ Goes x) × ((x.output ≡ c.output) ⊎ (x.output ≡ e.output))
      back h =
          let r = quiet-moment m d e q o (j - n) (omega arith) in
          let s : n + (j - n) ≡ j = omega arith in
          (r.0, subst (λ j. run_words base code j c ≡ Goes r.0) s (then-runs n (j - n) c d r.0 p r.1), inr (r.2 ∙ sym o))

  -- a stretch without output, and behind it another
  pub quiet-then-between :
      (n m : ℕ) (c d e : WordState) → run_words base code n c ≡ Goes d → d.output ≡ c.output → Between m d e →
      Between (n + m) c e
  quiet-then-between n m c d e p o i j le = ⊎_elim (λ lt. front (omega arith)) (λ ge. back ge) (cases_lt j n)
    where
      front : j ≤ n → (x : WordState) × (run_words base code j c ≡ Goes x) × ((x.output ≡ c.output) ⊎ (x.output ≡ e.output))
      front h = let r = quiet-moment n c d p o j h in (r.0, r.1, inl r.2)

      back : n ≤ j → (x : WordState) × (run_words base code j c ≡ Goes x) × ((x.output ≡ c.output) ⊎ (x.output ≡ e.output))
      back h =
          let r = i (j - n) (omega arith) in
          let s : n + (j - n) ≡ j = omega arith in
          (r.0, subst (λ j. run_words base code j c ≡ Goes r.0) s (then-runs n (j - n) c d r.0 p r.1), ⊎_elim (λ a. inl (a ∙ o)) (λ b. inr b) r.2)
