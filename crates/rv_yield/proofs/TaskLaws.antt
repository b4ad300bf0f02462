-- The tasks that take a yielder's place come to the same items, can be done, and are fewer turns.
use Rattle.std.proofs.Common.{◌≡◌, ⊎_elim, ℕ, ◌+◌, ◌*◌, ◌<◌, ◌≤◌, Bool, true, false, List, [], ◌∷◌, ◌++◌, Some, None, ℤ, All, IsTrue, refl, sym, ap, ◌∙◌, subst, arith, inl, append_assoc, append-nil, ltb, ltb-true, ltb-false}
use Rattle.std.proofs.lemmas.List.Elements.{All-append, All-cons, All-nil}
use Rattle.rv_code.proofs.Bools.{true-or-false}
use Rattle.rv_code.specs.Encode.{has_bits}
use Rattle.rv_asm.specs.Assembly.{Listing}
use Rattle.rv_asm.specs.declared.item.Item.{Item}
use Rattle.action_terms.specs.Actions.{Yielder, StoredIn, OnTwo, OnOne}
use Rattle.action_terms.specs.Forms.{yielder_at, two_viewed, one_viewed, IsDatum}
use Rattle.action_terms.specs.Need.{yielder_count}
use Rattle.action_terms.specs.Numbering.{ListedYielder}
use Rattle.action_terms.specs.declared.kinds.Sort.{Sort}
use Rattle.action_terms.specs.declared.view.One.{One as OneView}
use Rattle.action_terms.specs.declared.view.Two.{Two as TwoView}
use Rattle.rv_yield.specs.Fronts.{IsAppended, AppendsFrontOf}
use Rattle.rv_yield.specs.Holding.{Places}
use Rattle.rv_yield.specs.Registers.{is_built, registers_needed, HasWords, first_register}
use Rattle.rv_yield.specs.YielderCode.{value_items, second_constant, first_constant, of_literal, addend_for}
use Rattle.rv_yield.specs.Tasks.{task_items, items_of, operand_tasks, IsReady, HasTaskWords, HaveWords, task_turns, turns}
use Rattle.rv_yield.specs.declared.tasks.Task.{Task}
use Rattle.rv_yield.specs.declared.tasks.Task.TheVariants as task
use Rattle.rv_asm.proofs.Places.{and-true}
use Rattle.rv_yield.proofs.Additions.{second-added, first-added}
use Rattle.rv_yield.proofs.Fronts.{appended-none, appended-then, front-first, front-behind}
use Rattle.rv_yield.proofs.Targets.{addend-target, some-count, option-cases}

is-true : (b : Bool) → b ≡ true → IsTrue b
is-true true e = refl
is-true false e = absurd (cc)

module _ (ls : List ListedYielder) (places : Places) where
  -- ---- a stack of tasks and more on top

  items_of-append : (n : ℕ) (ts us : List Task) → items_of ls places n (ts ++ us) ≡ items_of ls places n us ++ items_of ls places n ts
  items_of-append n [] us = sym (append-nil (items_of ls places n us))
  items_of-append n (t ∷ ts) us =
      ap (λ i. i ++ task_items ls places n t) (items_of-append n ts us) ∙ append_assoc (items_of ls places n us) (items_of ls places n ts) (task_items ls places n t)

  turns-append : (ts us : List Task) → turns ls (ts ++ us) ≡ turns ls ts + turns ls us
  turns-append [] us = omega arith
  turns-append (t ∷ ts) us = omega (arith, turns-append ts us)

  words-append : (ts us : List Task) → HaveWords ls (ts ++ us) → HaveWords ls ts × HaveWords ls us
  words-append [] us h = (tt, h)
  words-append (t ∷ ts) us h = let r = words-append ts us h.0 in ((r.0, h.1), r.1)

  -- ---- tasks in place of a yielder's value

  -- the tasks come to what the yielder's value does
  pub record Stand_for (y to free : ℕ) (ts : List Task) : Type 0 where
    pub items : (n : ℕ) → items_of ls places n ts ≡ value_items places to free n (yielder_at ls y)
    pub ready : All (IsReady ls) ts
    pub words : HaveWords ls ts → HasWords (yielder_at ls y)
    pub fewer : turns ls ts < 4 * yielder_count (yielder_at ls y)

  module _ (y to free : ℕ) (before after ts : List Task) (stand : Stand_for y to free ts) (is : after ≡ before ++ ts) where
    pub stand-emitted : (n : ℕ) (s : Listing) → IsAppended (value_items places to free n (yielder_at ls y) ++ items_of ls places n before) (items_of ls places n after) s s
    stand-emitted n s =
        subst (λ piece. IsAppended piece (items_of ls places n after) s s) (ap (items_of ls places n) is ∙ items_of-append n before ts ∙ ap (λ i. i ++ items_of ls places n before) (stand.items n))
        (appended-none (items_of ls places n after) s)

    pub stand-ready : All (IsReady ls) before → All (IsReady ls) after
    stand-ready h = subst (All (IsReady ls)) (sym is) (All-append (IsReady ls) before ts h stand.ready)

    pub stand-words : HaveWords ls after → HaveWords ls before × HasWords (yielder_at ls y)
    stand-words h = let w = words-append before ts (subst (HaveWords ls) is h) in (w.0, stand.words w.1)

    pub stand-turns : turns ls after < turns ls before + 4 * yielder_count (yielder_at ls y)
    stand-turns = omega (arith, ap (turns ls) is, turns-append before ts, stand.fewer)

  -- ---- an operation on one operand

  pub one-stands :
      (y to free x : ℕ) (o : OneView) → yielder_at ls y ≡ OnOne (one_viewed o) (yielder_at ls x) → IsDatum ls x → IsReady ls (task.Value y to free) →
      Stand_for y to free (task.OnOne o to free ∷ task.Value x free free ∷ [])
  one-stands y to free x o is datum ready = record {
    items = λ n. ap (value_items places to free n) (sym is);
    ready =
        let one : IsReady ls (task.Value x free free) = (datum, subst (λ u. is_built u ≡ true) is ready.1, ready.2, subst (λ u. free + registers_needed u ≤ 26) is ready.3, inl refl) in
        All-cons (IsReady ls) (task.OnOne o to free) (task.Value x free free ∷ []) tt (All-cons (IsReady ls) (task.Value x free free) [] one (All-nil (IsReady ls)));
    words = λ h. subst HasWords (sym is) h.0.1;
    fewer = omega (arith, ap yielder_count is);
  }

  -- ---- what a cell holds

  pub content-stands :
      (y to free x : ℕ) (s : Sort) → yielder_at ls y ≡ StoredIn s (yielder_at ls x) → IsDatum ls x → IsReady ls (task.Value y to free) →
      Stand_for y to free (task.Content to free ∷ task.Value x free free ∷ [])
  content-stands y to free x s is datum ready = record {
    items = λ n. ap (value_items places to free n) (sym is);
    ready =
        let one : IsReady ls (task.Value x free free) = (datum, subst (λ u. is_built u ≡ true) is ready.1, ready.2, subst (λ u. free + registers_needed u ≤ 26) is ready.3, inl refl) in
        All-cons (IsReady ls) (task.Content to free) (task.Value x free free ∷ []) tt (All-cons (IsReady ls) (task.Value x free free) [] one (All-nil (IsReady ls)));
    words = λ h. subst HasWords (sym is) h.0.1;
    fewer = omega (arith, ap yielder_count is);
  }

  -- ---- an operation on two operands

  module _ (y to free x1 x2 : ℕ) (f : TwoView) (is : yielder_at ls y ≡ OnTwo (two_viewed f) (yielder_at ls x1) (yielder_at ls x2)) (datum1 : IsDatum ls x1) (datum2 : IsDatum ls x2) (can : IsReady ls (task.Value y to free)) where
    low : first_register ≤ free
    low = can.2

    room : free + registers_needed (yielder_at ls y) ≤ 26
    room = can.3

    parts-built : (is_built (yielder_at ls x1) ≡ true) × (is_built (yielder_at ls x2) ≡ true)
    parts-built = and-true (is_built (yielder_at ls x1)) (is_built (yielder_at ls x2)) (subst (λ u. is_built u ≡ true) is can.1)

    built1 : is_built (yielder_at ls x1) ≡ true
    built1 = parts-built.0

    built2 : is_built (yielder_at ls x2) ≡ true
    built2 = parts-built.1

    abbrev u1 : Yielder
    u1 = yielder_at ls x1

    abbrev u2 : Yielder
    u2 = yielder_at ls x2

    room-both : free + registers_needed (OnTwo (two_viewed f) u1 u2) ≤ 26
    room-both = subst (λ u. free + registers_needed u ≤ 26) is room

    addition-ready :
        (x : ℕ) (z : ℤ) → has_bits 12 z ≡ true → IsDatum ls x → is_built (yielder_at ls x) ≡ true → free + registers_needed (yielder_at ls x) ≤ 26 →
        All (IsReady ls) (task.Addition to (addend_for to) z ∷ task.Value x (addend_for to) free ∷ [])
    addition-ready x z short datum built fits =
        let one : IsReady ls (task.Value x (addend_for to) free) = (datum, built, low, fits, addend-target to free) in
        All-cons (IsReady ls) (task.Addition to (addend_for to) z) (task.Value x (addend_for to) free ∷ []) (is-true _ short)
        (All-cons (IsReady ls) (task.Value x (addend_for to) free) [] one (All-nil (IsReady ls)))

    both-ready :
        (t : Task) (x x' : ℕ) → IsReady ls t → IsDatum ls x → is_built (yielder_at ls x) ≡ true → IsDatum ls x' → is_built (yielder_at ls x') ≡ true →
        free + 1 + registers_needed (yielder_at ls x) ≤ 26 → free + registers_needed (yielder_at ls x') ≤ 26 →
        All (IsReady ls) (t ∷ task.Value x (free + 1) (free + 1) ∷ task.Value x' free free ∷ [])
    both-ready t x x' is datum built datum' built' fits fits' =
        let one : IsReady ls (task.Value x (free + 1) (free + 1)) = (datum, built, omega (arith, low), fits, inl refl) in
        let other : IsReady ls (task.Value x' free free) = (datum', built', low, fits', inl refl) in
        All-cons (IsReady ls) t (task.Value x (free + 1) (free + 1) ∷ task.Value x' free free ∷ []) is
        (All-cons (IsReady ls) (task.Value x (free + 1) (free + 1)) (task.Value x' free free ∷ []) one
        (All-cons (IsReady ls) (task.Value x' free free) [] other (All-nil (IsReady ls))))

    same-tasks : (ts : List Task) → operand_tasks ls f to free x1 x2 ≡ ts → Stand_for y to free ts → Stand_for y to free (operand_tasks ls f to free x1 x2)
    same-tasks ts e s = subst (Stand_for y to free) (sym e) s

    pub operands-stand : Stand_for y to free (operand_tasks ls f to free x1 x2)
    operands-stand =
        ⊎_elim
        (λ (s : (z : ℤ) × (of_literal (second_constant (two_viewed f)) u2 ≡ Some z)). second s.0 s.1)
        (λ o2. ⊎_elim
        (λ (s : (z : ℤ) × (of_literal (first_constant (two_viewed f)) u1 ≡ Some z)). first s.0 o2 s.1)
        (λ o1. ⊎_elim (λ q. later o2 o1 q) (λ q. in_order o2 o1 q) (true-or-false (ltb (registers_needed u1) (registers_needed u2))))
        (option-cases (of_literal (first_constant (two_viewed f)) u1)))
        (option-cases (of_literal (second_constant (two_viewed f)) u2))
      where
        second : (z : ℤ) → of_literal (second_constant (two_viewed f)) u2 ≡ Some z → Stand_for y to free (operand_tasks ls f to free x1 x2)
        second z e =
            let a = second-added (two_viewed f) u2 z e in
            same-tasks (task.Addition to (addend_for to) z ∷ task.Value x1 (addend_for to) free ∷ []) (rw e refl)
            (record {
              items = λ n. rw (is, e) refl;
              ready = addition-ready x1 z a.short datum1 built1 (omega (arith, room-both));
              words = λ h. subst HasWords (sym is) (h.0.1, subst HasWords (sym a.is) a.literal_fits);
              fewer = omega (arith, ap yielder_count is, some-count u2);
            })

        first : (z : ℤ) → of_literal (second_constant (two_viewed f)) u2 ≡ None → of_literal (first_constant (two_viewed f)) u1 ≡ Some z → Stand_for y to free (operand_tasks ls f to free x1 x2)
        first z o2 e =
            let a = first-added (two_viewed f) u1 z e in
            same-tasks (task.Addition to (addend_for to) z ∷ task.Value x2 (addend_for to) free ∷ []) (rw (o2, e) refl)
            (record {
              items = λ n. rw (is, o2, e) refl;
              ready = addition-ready x2 z a.short datum2 built2 (omega (arith, room-both));
              words = λ h. subst HasWords (sym is) (subst HasWords (sym a.is) a.literal_fits, h.0.1);
              fewer = omega (arith, ap yielder_count is, some-count u1);
            })

        in_order : of_literal (second_constant (two_viewed f)) u2 ≡ None → of_literal (first_constant (two_viewed f)) u1 ≡ None → ltb (registers_needed u1) (registers_needed u2) ≡ false → Stand_for y to free (operand_tasks ls f to free x1 x2)
        in_order o2 o1 q =
            let more = ltb-false _ _ q in
            same-tasks (task.OnTwo f to free (free + 1) ∷ task.Value x2 (free + 1) (free + 1) ∷ task.Value x1 free free ∷ []) (rw (o2, o1, q) refl)
            (record {
              items = λ n. rw (is, o2, o1, q) (append_assoc (value_items places free free n u1) (value_items places (free + 1) (free + 1) n u2) _);
              ready = both-ready (task.OnTwo f to free (free + 1)) x2 x1 tt datum2 built2 datum1 built1 (omega (arith, room-both, more)) (omega (arith, room-both, more));
              words = λ h. subst HasWords (sym is) (h.0.0.1, h.0.1);
              fewer = omega (arith, ap yielder_count is);
            })

        later : of_literal (second_constant (two_viewed f)) u2 ≡ None → of_literal (first_constant (two_viewed f)) u1 ≡ None → ltb (registers_needed u1) (registers_needed u2) ≡ true → Stand_for y to free (operand_tasks ls f to free x1 x2)
        later o2 o1 q =
            let more = ltb-true _ _ q in
            same-tasks (task.OnTwo f to (free + 1) free ∷ task.Value x1 (free + 1) (free + 1) ∷ task.Value x2 free free ∷ []) (rw (o2, o1, q) refl)
            (record {
              items = λ n. rw (is, o2, o1, q) (append_assoc (value_items places free free n u2) (value_items places (free + 1) (free + 1) n u1) _);
              ready = both-ready (task.OnTwo f to (free + 1) free) x1 x2 tt datum1 built1 datum2 built2 (omega (arith, room-both, more)) (omega (arith, room-both, more));
              words = λ h. subst HasWords (sym is) (h.0.1, h.0.0.1);
              fewer = omega (arith, ap yielder_count is);
            })

  -- ---- a turn of the loop

  words-join : (ts us : List Task) → HaveWords ls ts → HaveWords ls us → HaveWords ls (ts ++ us)
  words-join [] us h k = k
  words-join (t ∷ ts) us h k = (words-join ts us h.0 k, h.1)

  module _ (t : Task) (stack before after : List Task) (is : stack ≡ before ++ t ∷ []) where
    turn-stack : (n : ℕ) → items_of ls places n stack ≡ task_items ls places n t ++ items_of ls places n before
    turn-stack n = ap (items_of ls places n) is ∙ items_of-append n before (t ∷ [])

    pub turn-items :
        (n : ℕ) (piece : List Item) (old mid new : Listing) → IsAppended piece (items_of ls places n stack) old mid →
        IsAppended (task_items ls places n t ++ items_of ls places n before) (items_of ls places n after) mid new → IsAppended piece (items_of ls places n after) old new
    turn-items n piece old mid new a b =
        appended-then piece (items_of ls places n stack) (items_of ls places n after) old mid new a (subst (λ i. IsAppended i (items_of ls places n after) mid new) (sym (turn-stack n)) b)

    pub turn-front :
        (n : ℕ) (piece : List Item) (old mid new : Listing) → IsAppended piece (items_of ls places n stack) old mid → AppendsFrontOf (task_items ls places n t) mid new → AppendsFrontOf piece old new
    turn-front n piece old mid new a f =
        front-behind piece (items_of ls places n stack) old mid new a
        (subst (λ i. AppendsFrontOf i mid new) (sym (turn-stack n)) (front-first (task_items ls places n t) (items_of ls places n before) mid new f))

    pub turn-words : HaveWords ls before × HasTaskWords ls t → HaveWords ls stack
    turn-words h = subst (HaveWords ls) (sym is) (words-join before (t ∷ []) h.0 (tt, h.1))

    pub turn-smaller : turns ls after < turns ls before + task_turns ls t → turns ls after < turns ls stack
    turn-smaller h = omega (arith, h, ap (turns ls) is, turns-append before (t ∷ []))
