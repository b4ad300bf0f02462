-- The list of a yielder is evaluated to its judgement, and is as long as the yielder has yielders in it.
use Rattle.std.proofs.Common.{All, List, [], ap, append_assoc, arith, length-append, length, map, refl, subst, sym, ℕ, ◌+◌, ◌++◌, ◌∙◌, ◌∷◌, ◌≡◌}
use Rattle.std.specs.Prelude.{reverse, sum_by}
use Rattle.std.proofs.lemmas.Grind.{common_steps}
use Rattle.std.proofs.lemmas.List.{append-nil, reverse-append}
use Rattle.std.proofs.lemmas.List.Sums.{sum_by-append, sum_by-cons}
use Rattle.std.proofs.lemmas.List.Elements.{All-append}
use Rattle.action_terms.specs.Actions.{Them, Yielder}
use Rattle.action_terms.specs.Forms.{HasArguments, IsDatum, IsYielderView, item_viewed, yielder_at, yielder_in}
use Rattle.action_terms.specs.Need.{yielder_count}
use Rattle.action_terms.specs.Numbering.{Listed, ListedYielder}
use Rattle.action_terms.specs.Steps.{closures_in}
use Rattle.action_terms.specs.declared.view.YielderView.{YielderView}
use Rattle.action_terms.specs.declared.view.YielderView.TheVariants as yielder
use Rattle.sort_rules.specs.Judgements.{Judgement, judgement}
use Rattle.sort_rules.specs.Parts.{Part}
use Rattle.sort_rules.specs.Postorder.{arguments_of, listed_closures, own_closures, judged_by, judged_by_all}

-- how many yielders are still to be listed
abbrev pub left_count : List ListedYielder → List ℕ → ℕ
left_count ls left = sum_by (λ y. yielder_count (yielder_at ls y)) left

module _ (ls : List ListedYielder) (c : ℕ → Part) (g h : Part) where
  -- the judgement of a yielder by number
  abbrev pub judged_at : ℕ → Judgement
  judged_at y = judgement c g h (yielder_at ls y)

  -- those of a stack of yielders, the last one first
  abbrev pub judged_stack : List ℕ → List Judgement
  judged_stack left = map judged_at (reverse left)

  stack-push : (left : List ℕ) (y : ℕ) → judged_stack (left ++ y ∷ []) ≡ judged_at y ∷ judged_stack left
  stack-push left y = ap (map judged_at) (reverse-append left (y ∷ []))

  stack-push_two : (left : List ℕ) (y1 y2 : ℕ) → judged_stack (left ++ y1 ∷ y2 ∷ []) ≡ judged_at y2 ∷ judged_at y1 ∷ judged_stack left
  stack-push_two left y1 y2 = ap (map judged_at) (reverse-append left (y1 ∷ y2 ∷ []))

  stack-none : (left : List ℕ) → judged_stack (left ++ []) ≡ judged_stack left
  stack-none left = ap judged_stack (append-nil left)

  -- the judgement of a yielder is that of its view
  same : (v : YielderView) (next : ℕ) (left : List ℕ) → yielder_at ls next ≡ yielder_in (item_viewed ls v) → judgement c g h (yielder_in (item_viewed ls v)) ∷ judged_stack left ≡ judged_at next ∷ judged_stack left
  same v next left e = sym (ap (λ (y : Yielder). judgement c g h y ∷ judged_stack left) e)

  -- a yielder is judged by its arguments
  pub judged-next : (v : YielderView) (next : ℕ) (left : List ℕ) → yielder_at ls next ≡ yielder_in (item_viewed ls v) → (item_viewed ls v ≡ Them → ⊥) →
      judged_by c g h v (judged_stack (left ++ arguments_of v)) ≡ judged_at next ∷ judged_stack left
  judged-next (yielder.Number n) next left e f = ap (judged_by c g h (yielder.Number n)) (stack-none left) ∙ same (yielder.Number n) next left e
  judged-next (yielder.Truth b) next left e f = ap (judged_by c g h (yielder.Truth b)) (stack-none left) ∙ same (yielder.Truth b) next left e
  judged-next yielder.Them next left e f = absurd (f refl)
  judged-next (yielder.Given s) next left e f = ap (judged_by c g h (yielder.Given s)) (stack-none left) ∙ same (yielder.Given s) next left e
  judged-next (yielder.GivenAt s n) next left e f = ap (judged_by c g h (yielder.GivenAt s n)) (stack-none left) ∙ same (yielder.GivenAt s n) next left e
  judged-next (yielder.BoundTo s t) next left e f = ap (judged_by c g h (yielder.BoundTo s t)) (stack-none left) ∙ same (yielder.BoundTo s t) next left e
  judged-next (yielder.StoredIn s y) next left e f = ap (judged_by c g h (yielder.StoredIn s y)) (stack-push left y) ∙ same (yielder.StoredIn s y) next left e
  judged-next (yielder.OnTwo o y1 y2) next left e f = ap (judged_by c g h (yielder.OnTwo o y1 y2)) (stack-push_two left y1 y2) ∙ same (yielder.OnTwo o y1 y2) next left e
  judged-next (yielder.OnOne o y) next left e f = ap (judged_by c g h (yielder.OnOne o y)) (stack-push left y) ∙ same (yielder.OnOne o y) next left e
  judged-next (yielder.ClosureOf k) next left e f = ap (judged_by c g h (yielder.ClosureOf k)) (stack-none left) ∙ same (yielder.ClosureOf k) next left e

-- a view of a yielder of one datum
module _ (g : Listed) (next : ℕ) (v : YielderView) (view : IsYielderView g next v) (datum : IsDatum g.yielders next) where
  pub viewed : yielder_at g.yielders next ≡ yielder_in (item_viewed g.yielders v)
  viewed = ap yielder_in view.item

  pub no_them : item_viewed g.yielders v ≡ Them → ⊥
  no_them e = let single = datum.single in let item = view.item in cc

  -- its arguments are such yielders
  pub arguments-data : All (IsDatum g.yielders) (arguments_of v)
  arguments-data = go v view.arguments
    where
      go : (v : YielderView) → HasArguments g.yielders next v → All (IsDatum g.yielders) (arguments_of v)
      go (yielder.StoredIn s y) h = grind (arith, common_steps)
      go (yielder.OnTwo o y1 y2) h = grind (arith, common_steps)
      go (yielder.OnOne o y) h = grind (arith, common_steps)
      go _ h = grind (arith, common_steps)

-- the yielder and those in it: one more than in its arguments
pub counted-next : (ls : List ListedYielder) (v : YielderView) (next : ℕ) → yielder_at ls next ≡ yielder_in (item_viewed ls v) → (item_viewed ls v ≡ Them → ⊥) → yielder_count (yielder_at ls next) ≡ 1 + left_count ls (arguments_of v)
counted-next ls v next e f = ap yielder_count e ∙ go v f
  where
    go : (v : YielderView) → (item_viewed ls v ≡ Them → ⊥) → yielder_count (yielder_in (item_viewed ls v)) ≡ 1 + left_count ls (arguments_of v)
    go yielder.Them f = absurd (f refl)
    go (yielder.StoredIn s y) f = grind (arith, common_steps)
    go (yielder.OnTwo o y1 y2) f = grind (arith, common_steps)
    go (yielder.OnOne o y) f = grind (arith, common_steps)
    go _ f = grind (arith, common_steps)

append-one : {A : Type 0} (xs : List A) (x : A) (ys : List A) → (xs ++ x ∷ []) ++ ys ≡ xs ++ x ∷ ys
append-one xs x ys = append_assoc xs (x ∷ []) ys

-- one yielder is listed: it is taken off the stack, its arguments are put there, and its view is put behind the list
module _ (g : Listed) (left rest left2 : List ℕ) (next : ℕ) (views views2 : List YielderView) (v : YielderView) (view : IsYielderView g next v) (datum : IsDatum g.yielders next)
    (taken : left ≡ rest ++ next ∷ []) (put : left2 ≡ rest ++ arguments_of v) (listed : views2 ≡ views ++ v ∷ []) where
  pub listed-judged : (c : ℕ → Part) (given received : Part) (m : List Judgement)
      → ((more : List YielderView) → judged_by_all c given received more ≡ judged_stack g.yielders c given received left → judged_by_all c given received (views ++ more) ≡ m)
      → (more : List YielderView) → judged_by_all c given received more ≡ judged_stack g.yielders c given received left2 → judged_by_all c given received (views2 ++ more) ≡ m
  listed-judged c given received m inv more e =
      let all : List YielderView → List Judgement = judged_by_all c given received in
      let stack : List ℕ → List Judgement = judged_stack g.yielders c given received in
      let step : judged_by_all c given received (v ∷ more) ≡ judged_stack g.yielders c given received left =
      ap (judged_by c given received v) (e ∙ ap (judged_stack g.yielders c given received) put)
      ∙ judged-next g.yielders c given received v next rest (viewed g next v view datum) (no_them g next v view datum)
      ∙ sym (ap (judged_stack g.yielders c given received) taken ∙ stack-push g.yielders c given received rest next) in
      ap (λ (vs : List YielderView). judged_by_all c given received (vs ++ more)) listed ∙ ap (judged_by_all c given received) (append-one views v more) ∙ inv (v ∷ more) step

  -- what is left grows less by one
  pub left-less : 1 + left_count g.yielders left2 ≡ left_count g.yielders left
  left-less =
      let f : ℕ → ℕ = λ y. yielder_count (yielder_at g.yielders y) in
      let one : left_count g.yielders left ≡ left_count g.yielders rest + left_count g.yielders (next ∷ []) = ap (left_count g.yielders) taken ∙ sum_by-append (λ y. yielder_count (yielder_at g.yielders y)) rest (next ∷ []) in
      let two : left_count g.yielders left2 ≡ left_count g.yielders rest + left_count g.yielders (arguments_of v) = ap (left_count g.yielders) put ∙ sum_by-append (λ y. yielder_count (yielder_at g.yielders y)) rest (arguments_of v) in
      let single : left_count g.yielders (next ∷ []) ≡ yielder_count (yielder_at g.yielders next) + 0 = sum_by-cons (λ y. yielder_count (yielder_at g.yielders y)) next [] in
      let counted = counted-next g.yielders v next (viewed g next v view datum) (no_them g next v view datum) in
      omega (arith, one, two, single, counted)

  pub listed-count : (n : ℕ) → length views + left_count g.yielders left ≡ n → length views2 + left_count g.yielders left2 ≡ n
  listed-count n e = omega (arith, ap length listed ∙ length-append views (v ∷ []), left-less, e)

  pub listed-data : All (IsDatum g.yielders) rest → All (IsDatum g.yielders) left2
  listed-data h = subst (All (IsDatum g.yielders)) (sym put) (All-append (IsDatum g.yielders) rest (arguments_of v) h (arguments-data g next v view datum))

-- ---- closures

-- the closures in yielders by number
abbrev pub closures_at : List ListedYielder → List ℕ → List ℕ
closures_at ls [] = []
closures_at ls (y ∷ ys) = closures_in (yielder_at ls y) ++ closures_at ls ys

closures_at-append : (ls : List ListedYielder) (xs ys : List ℕ) → closures_at ls (xs ++ ys) ≡ closures_at ls xs ++ closures_at ls ys
closures_at-append ls [] ys = refl
closures_at-append ls (x ∷ xs) ys = ap (λ (zs : List ℕ). closures_in (yielder_at ls x) ++ zs) (closures_at-append ls xs ys) ∙ sym (append_assoc (closures_in (yielder_at ls x)) (closures_at ls xs) (closures_at ls ys))

-- those in a yielder, the last one first: its own, and those in its arguments
closures-next : (ls : List ListedYielder) (v : YielderView) → (item_viewed ls v ≡ Them → ⊥) → reverse (closures_in (yielder_in (item_viewed ls v))) ≡ own_closures v ++ reverse (closures_at ls (arguments_of v))
closures-next ls (yielder.Number n) f = refl
closures-next ls (yielder.Truth b) f = refl
closures-next ls yielder.Them f = absurd (f refl)
closures-next ls (yielder.Given s) f = refl
closures-next ls (yielder.GivenAt s n) f = refl
closures-next ls (yielder.BoundTo s t) f = refl
closures-next ls (yielder.StoredIn s y) f = ap reverse (sym (append-nil (closures_in (yielder_at ls y))))
closures-next ls (yielder.OnTwo o y1 y2) f = ap (λ (zs : List ℕ). reverse (closures_in (yielder_at ls y1) ++ zs)) (sym (append-nil (closures_in (yielder_at ls y2))))
closures-next ls (yielder.OnOne o y) f = ap reverse (sym (append-nil (closures_in (yielder_at ls y))))
closures-next ls (yielder.ClosureOf k) f = refl

module _ (g : Listed) (left rest left2 : List ℕ) (next : ℕ) (views views2 : List YielderView) (v : YielderView) (view : IsYielderView g next v) (datum : IsDatum g.yielders next)
    (taken : left ≡ rest ++ next ∷ []) (put : left2 ≡ rest ++ arguments_of v) (listed : views2 ≡ views ++ v ∷ []) where
  pub listed-closures : (m : List ℕ)
      → ((more : List YielderView) → listed_closures more ≡ reverse (closures_at g.yielders left) → listed_closures (views ++ more) ≡ m)
      → (more : List YielderView) → listed_closures more ≡ reverse (closures_at g.yielders left2) → listed_closures (views2 ++ more) ≡ m
  listed-closures m inv more e =
      let ls = g.yielders in
      let before : List ℕ = closures_at g.yielders rest in
      let own : List ℕ = closures_at g.yielders (arguments_of v) in
      let new : reverse (closures_at g.yielders left2) ≡ reverse (closures_at g.yielders (arguments_of v)) ++ reverse (closures_at g.yielders rest) =
      ap (λ (zs : List ℕ). reverse (closures_at g.yielders zs)) put ∙ ap reverse (closures_at-append g.yielders rest (arguments_of v)) ∙ reverse-append (closures_at g.yielders rest) (closures_at g.yielders (arguments_of v)) in
      let old : reverse (closures_at g.yielders left) ≡ reverse (closures_in (yielder_at g.yielders next)) ++ reverse (closures_at g.yielders rest) =
      ap (λ (zs : List ℕ). reverse (closures_at g.yielders zs)) taken ∙ ap reverse (closures_at-append g.yielders rest (next ∷ [])) ∙ reverse-append (closures_at g.yielders rest) (closures_at g.yielders (next ∷ []))
      ∙ ap (λ (zs : List ℕ). reverse zs ++ reverse (closures_at g.yielders rest)) (append-nil (closures_in (yielder_at g.yielders next))) in
      let here : reverse (closures_in (yielder_at g.yielders next)) ≡ own_closures v ++ reverse (closures_at g.yielders (arguments_of v)) =
      ap (λ (y : Yielder). reverse (closures_in y)) (viewed g next v view datum) ∙ closures-next g.yielders v (no_them g next v view datum) in
      let step : listed_closures (v ∷ more) ≡ reverse (closures_at g.yielders left) =
      ap (λ (zs : List ℕ). own_closures v ++ zs) (e ∙ new)
      ∙ sym (append_assoc (own_closures v) (reverse (closures_at g.yielders (arguments_of v))) (reverse (closures_at g.yielders rest)))
      ∙ sym (old ∙ ap (λ (zs : List ℕ). zs ++ reverse (closures_at g.yielders rest)) here) in
      ap (λ (vs : List YielderView). listed_closures (vs ++ more)) listed ∙ ap listed_closures (append-one views v more) ∙ inv (v ∷ more) step
