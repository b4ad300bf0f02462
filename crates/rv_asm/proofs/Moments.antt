-- What the machine shows after every number of instructions, where its code follows a meaning: the theorem for every number
-- of instructions, and what makes the stretches that it asks for. A stretch may have no instruction, where a rank falls, or
-- where it stays and less stands around. Nothing here knows of actions.
use Rattle.std.proofs.Common.{◌≡◌, ℕ, zero, suc, ◌+◌, ◌-◌, ◌*◌, ◌<◌, ◌≤◌, List, sym, ap, ◌∙◌, subst, arith, ◌⊎◌, ⊎_elim, inl, inr}
use Rattle.std.proofs.lemmas.Bool.{cases_lt}
use Rattle.rv_code.specs.declared.instruction.Inst.{Inst}
use Rattle.rv_asm.specs.Meanings.{Meaning}
use Rattle.rv_asm.specs.WordMachine.{WordState, Goes, Exits, run_words, go_on}
use Rattle.rv_asm.proofs.Stretches.{run_words-add, then-ends, quiet-moment, Between}

module _ (base : ℕ) (code : List Inst) (m : Meaning) where
  -- j instructions behind configuration c the output is that of a configuration that is reached, at the pace
  pub record Shows (c : m.Configuration) (state : WordState) (j : ℕ) : Type 0 where
    pub now : WordState
    pub runs : run_words base code j state ≡ Goes now
    pub shown : m.Configuration
    pub reached : m.IsReached shown
    pub output : now.output ≡ m.output shown
    pub pace : j + m.start + m.factor * m.steps c ≤ m.factor * (m.steps shown + 1) + m.pending c

  -- a stretch has an instruction, or leads on in the code without one: to a lower rank, or to the same with less around
  abbrev pub Proceeds : (depth : m.Configuration → ℕ) (count rank next_rank : ℕ) (c next : m.Configuration) → Type 0
  Proceeds depth count rank next_rank c next =
      (0 < count) ⊎ ((next_rank < rank) ⊎ ((next_rank ≡ rank) × (depth next < depth c)))

  module _ (depth : m.Configuration → ℕ) (IsAt : ℕ → WordState → m.Configuration → Type 0) where
    -- a stretch from configuration c to a related state
    pub record Advances (rank : ℕ) (state : WordState) (c : m.Configuration) : Type 0 where
      pub count : ℕ
      pub to : WordState
      pub next : m.Configuration
      pub next_rank : ℕ
      pub some : Proceeds depth count rank next_rank c next
      pub runs : run_words base code count state ≡ Goes to
      pub related : IsAt next_rank to next
      pub reached : m.IsReached next
      pub moments : (j : ℕ) → j < count → Shows c state j
      pub paid : count + m.pending next + m.factor * m.steps c ≤ m.factor * m.steps next + m.pending c

    -- a stretch from configuration c to an exit
    pub record Stops (state : WordState) (c : m.Configuration) : Type 0 where
      pub count : ℕ
      pub last : m.Configuration
      pub exit : ℕ
      pub runs : run_words base code (suc count) state ≡ Exits exit (m.output last)
      pub reached : m.IsReached last
      pub ends : m.EndsWith last exit
      pub moments : (j : ℕ) → j ≤ count → Shows c state j

    -- after n instructions it runs, with the output of a configuration that is reached, and `total` keeps the pace
    pub record Running (total : ℕ) (state : WordState) (n : ℕ) : Type 0 where
      pub now : WordState
      pub runs : run_words base code n state ≡ Goes now
      pub shown : m.Configuration
      pub reached : m.IsReached shown
      pub output : now.output ≡ m.output shown
      pub pace : total ≤ m.factor * (m.steps shown + 1)

    -- after n instructions it has exited, as a configuration that is reached does
    pub record Over (state : WordState) (n : ℕ) : Type 0 where
      pub last : m.Configuration
      pub exit : ℕ
      pub runs : run_words base code n state ≡ Exits exit (m.output last)
      pub reached : m.IsReached last
      pub ends : m.EndsWith last exit

    abbrev pub Moment : ℕ → WordState → ℕ → Type 0
    Moment total state n = Running total state n ⊎ Over state n

    -- the pace at rest: `count` instructions are done where configuration c is reached
    abbrev pub IsPaid : ℕ → m.Configuration → Type 0
    IsPaid count c = count + m.pending c ≤ m.factor * m.steps c + m.start

    within : (count n : ℕ) (state : WordState) (c : m.Configuration) → IsPaid count c → Shows c state n → Moment (count + n) state n
    within count n state c p s = inl (record { now = s.now; runs = s.runs; shown = s.shown; reached = s.reached; output = s.output; pace = omega (arith, s.pace, p) })

    behind : (j k total : ℕ) (state to : WordState) → run_words base code j state ≡ Goes to → Moment total to k → Moment total state (j + k)
    behind j k total state to e i = ⊎_elim
        (λ (b : Running total to k). inl (record { now = b.now; runs = then-ends base code j k state to (Goes b.now) e b.runs; shown = b.shown; reached = b.reached; output = b.output; pace = b.pace }))
        (λ (b : Over to k). inr (record { last = b.last; exit = b.exit; runs = then-ends base code j k state to (Exits b.exit (m.output b.last)) e b.runs; reached = b.reached; ends = b.ends }))
        i

    over : (n : ℕ) (state : WordState) (c : m.Configuration) (s : Stops state c) → s.count < n → Over state n
    over n state c s lt =
        let k = n - suc s.count in
        let q : suc s.count + k ≡ n = omega arith in
        let e = run_words-add base code (suc s.count) k state ∙ ap (λ x. go_on x (run_words base code k)) s.runs in
        record { last = s.last; exit = s.exit; runs = subst (λ i. run_words base code i state ≡ Exits s.exit (m.output s.last)) q e; reached = s.reached; ends = s.ends }

    advanced :
        (n count : ℕ) (state : WordState) (c : m.Configuration) → IsPaid count c →
        (rank : ℕ) (a : Advances rank state c) →
        (a.count ≤ n → Moment (count + a.count + (n - a.count)) a.to (n - a.count)) →
        Moment (count + n) state n
    advanced n count state c p rank a rest = ⊎_elim
        (λ lt. within count n state c p (a.moments n lt))
        (λ le.
        let q : a.count + (n - a.count) ≡ n = omega arith in
        let t : count + a.count + (n - a.count) ≡ count + n = omega arith in
        subst (λ k. Moment (count + n) state k) q (behind a.count (n - a.count) (count + n) state a.to a.runs (subst (λ k. Moment k a.to (n - a.count)) t (rest le))))
        (cases_lt n a.count)

    stopped : (n count : ℕ) (state : WordState) (c : m.Configuration) → IsPaid count c → Stops state c → Moment (count + n) state n
    stopped n count state c p s = ⊎_elim
        (λ lt. within count n state c p (s.moments n (omega arith)))
        (λ le. inr (over n state c s (omega arith)))
        (cases_lt n (suc s.count))

    module _
        (turn :
        (rank : ℕ) (state : WordState) (c : m.Configuration) → IsAt rank state c → m.IsReached c →
        Advances rank state c ⊎ Stops state c) where
      -- `bound` bounds n, `bound_rank` the rank and `bound_depth` the depth
      moments-below :
          (bound bound_rank bound_depth n count rank : ℕ) (state : WordState) (c : m.Configuration) →
          n < bound → rank < bound_rank → depth c < bound_depth → IsAt rank state c → m.IsReached c → IsPaid count c →
          Moment (count + n) state n
      moments-below zero bound_rank bound_depth n count rank state c lt lr ld r h p = absurd (omega arith)
      moments-below (suc bound) zero bound_depth n count rank state c lt lr ld r h p = absurd (omega arith)
      moments-below (suc bound) (suc bound_rank) zero n count rank state c lt lr ld r h p = absurd (omega arith)
      moments-below (suc bound) (suc bound_rank) (suc bound_depth) n count rank state c lt lr ld r h p = ⊎_elim
          (λ a. advanced n count state c p rank a (λ le.
          let left = n - a.count in
          let done = count + a.count in
          let paid : IsPaid done a.next = omega (arith, a.paid, p) in
          ⊎_elim
          (λ some. moments-below bound (suc a.next_rank) (suc (depth a.next)) left done a.next_rank a.to a.next (omega arith) (omega arith) (omega arith) a.related a.reached paid)
          (λ falls. ⊎_elim
          (λ lower. moments-below (suc bound) bound_rank (suc (depth a.next)) left done a.next_rank a.to a.next (omega arith) (omega arith) (omega arith) a.related a.reached paid)
          (λ fewer. moments-below (suc bound) (suc bound_rank) bound_depth left done a.next_rank a.to a.next (omega arith) (omega (arith, fewer.0)) (omega (arith, fewer.1)) a.related a.reached paid)
          falls)
          a.some))
          (λ s. stopped n count state c p s)
          (turn rank state c r h)

      -- the theorem for every number n of instructions, where `count` are already done
      pub moments :
          (n count rank : ℕ) (state : WordState) (c : m.Configuration) → IsAt rank state c → m.IsReached c → IsPaid count c →
          Moment (count + n) state n
      moments n count rank state c r h p =
          moments-below (suc n) (suc rank) (suc (depth c)) n count rank state c (omega arith) (omega arith) (omega arith) r h p

  -- from an entry the code follows the meaning: it comes without output to a state that is related to a configuration, and
  -- from each related state it advances or stops
  pub record CodeFollows (entry : WordState) : Type 1 where
    pub depth : m.Configuration → ℕ
    pub IsAt : ℕ → WordState → m.Configuration → Type 0
    pub turn :
        (rank : ℕ) (state : WordState) (c : m.Configuration) → IsAt rank state c → m.IsReached c →
        Advances depth IsAt rank state c ⊎ Stops depth IsAt state c
    pub rank : ℕ
    pub first : ℕ
    pub state : WordState
    pub initial : m.Configuration
    pub runs : run_words base code first entry ≡ Goes state
    pub quiet : state.output ≡ entry.output
    pub output : state.output ≡ m.output initial
    pub related : IsAt rank state initial
    pub reached : m.IsReached initial
    pub paid : first + m.pending initial ≤ m.factor * m.steps initial + m.start

  -- the theorem from an entry
  pub moments-entry : (n : ℕ) (entry : WordState) (f : CodeFollows entry) → Moment f.depth f.IsAt n entry n
  moments-entry n entry f = ⊎_elim
      (λ lt.
      let q = quiet-moment base code f.first entry f.state f.runs f.quiet n (omega arith) in
      inl (record { now = q.0; runs = q.1; shown = f.initial; reached = f.reached; output = q.2 ∙ sym f.quiet ∙ f.output; pace = omega (arith, f.paid, m.ample) }))
      (λ le.
      let q : f.first + (n - f.first) ≡ n = omega arith in
      subst (λ k. Moment f.depth f.IsAt k entry k) q
      (behind f.depth f.IsAt f.first (n - f.first) (f.first + (n - f.first)) entry f.state f.runs
      (moments f.depth f.IsAt f.turn (n - f.first) f.first f.rank f.state f.initial f.related f.reached f.paid)))
      (cases_lt n f.first)

  -- ---- what makes an advance and a stop

  -- the output of a configuration further on shows at a moment of a stretch that is paid for it
  shows-next :
      (state : WordState) (c next : m.Configuration) (count j : ℕ) (now : WordState) → run_words base code j state ≡ Goes now →
      m.IsReached next → now.output ≡ m.output next → j ≤ count →
      count + m.start + m.factor * m.steps c ≤ m.factor * (m.steps next + 1) + m.pending c →
      Shows c state j
  shows-next state c next count j now e r o le paid = record { now = now; runs = e; shown = next; reached = r; output = o; pace = omega arith }

  module _ (depth : m.Configuration → ℕ) (IsAt : ℕ → WordState → m.Configuration → Type 0) where
    -- a stretch without output, to a configuration with the same output
    pub record QuietStretch (rank : ℕ) (state : WordState) (c : m.Configuration) : Type 0 where
      pub count : ℕ
      pub to : WordState
      pub next : m.Configuration
      pub next_rank : ℕ
      pub some : Proceeds depth count rank next_rank c next
      pub runs : run_words base code count state ≡ Goes to
      pub quiet : to.output ≡ state.output
      pub output : to.output ≡ m.output next
      pub related : IsAt next_rank to next
      pub reached : m.IsReached next
      pub paid : count + m.pending next + m.factor * m.steps c ≤ m.factor * m.steps next + m.pending c

    pub quiet-advance :
        (rank : ℕ) (state : WordState) (c : m.Configuration) → QuietStretch rank state c → Advances depth IsAt rank state c
    quiet-advance rank state c s = record {
      count = s.count;
      to = s.to;
      next = s.next;
      next_rank = s.next_rank;
      some = s.some;
      runs = s.runs;
      related = s.related;
      reached = s.reached;
      moments = λ j lt.
          let q = quiet-moment base code s.count state s.to s.runs s.quiet j (omega arith) in
          shows-next state c s.next s.count j q.0 q.1 s.reached (q.2 ∙ sym s.quiet ∙ s.output) (omega arith) (omega (arith, m.ample, s.paid));
      paid = s.paid;
    }

    -- a stretch whose output changes at one moment
    pub record SendingStretch (rank : ℕ) (state : WordState) (c : m.Configuration) : Type 0 where
      pub count : ℕ
      pub to : WordState
      pub next : m.Configuration
      pub next_rank : ℕ
      pub some : Proceeds depth count rank next_rank c next
      pub runs : run_words base code count state ≡ Goes to
      pub between : Between base code count state to
      pub before : state.output ≡ m.output c
      pub output : to.output ≡ m.output next
      pub related : IsAt next_rank to next
      pub started : m.IsReached c
      pub reached : m.IsReached next
      pub short : count + m.start ≤ m.factor + m.pending c
      pub paid : count + m.pending next + m.factor * m.steps c ≤ m.factor * m.steps next + m.pending c

    pub sending-advance :
        (rank : ℕ) (state : WordState) (c : m.Configuration) → SendingStretch rank state c → Advances depth IsAt rank state c
    sending-advance rank state c s = record {
      count = s.count;
      to = s.to;
      next = s.next;
      next_rank = s.next_rank;
      some = s.some;
      runs = s.runs;
      related = s.related;
      reached = s.reached;
      moments = λ j lt.
          let b = s.between j (omega arith) in
          ⊎_elim
          (λ p. record { now = b.0; runs = b.1; shown = c; reached = s.started; output = p ∙ s.before; pace = omega (arith, s.short) })
          (λ p. shows-next state c s.next s.count j b.0 b.1 s.reached (p ∙ s.output) (omega arith) (omega (arith, m.ample, s.paid)))
          b.2;
      paid = s.paid;
    }

    -- a stretch without output, and then an instruction that exits
    pub record QuietExit (state : WordState) (c : m.Configuration) : Type 0 where
      pub count : ℕ
      pub to : WordState
      pub last : m.Configuration
      pub exit : ℕ
      pub runs : run_words base code count state ≡ Goes to
      pub quiet : to.output ≡ state.output
      pub output : to.output ≡ m.output last
      pub exits : run_words base code 1 to ≡ Exits exit to.output
      pub reached : m.IsReached last
      pub ends : m.EndsWith last exit
      pub paid : count + m.start + m.factor * m.steps c ≤ m.factor * (m.steps last + 1) + m.pending c

    pub quiet-stop : (state : WordState) (c : m.Configuration) → QuietExit state c → Stops depth IsAt state c
    quiet-stop state c s =
        let n : s.count + 1 ≡ suc s.count = omega arith in
        let e = then-ends base code s.count 1 state s.to (Exits s.exit (m.output s.last)) s.runs (s.exits ∙ ap (Exits s.exit) s.output) in
        record {
          count = s.count;
          last = s.last;
          exit = s.exit;
          runs = subst (λ k. run_words base code k state ≡ Exits s.exit (m.output s.last)) n e;
          reached = s.reached;
          ends = s.ends;
          moments = λ j le.
              let q = quiet-moment base code s.count state s.to s.runs s.quiet j le in
              shows-next state c s.last s.count j q.0 q.1 s.reached (q.2 ∙ sym s.quiet ∙ s.output) le s.paid;
        }
