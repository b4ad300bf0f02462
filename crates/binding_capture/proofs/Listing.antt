-- The tokens that a yielder names are listed by a stack of the yielders that are still to be looked at.
use Rattle.std.proofs.Common.{All, List, [], ap, append_assoc, arith, drop, get_or, length, refl, subst, sym, ℕ, ◌+◌, ◌++◌, ◌-◌, ◌<◌, ◌≤◌, ◌∙◌, ◌∷◌, ◌≡◌}
use Rattle.std.specs.Prelude.{reverse}
use Rattle.std.proofs.lemmas.Grind.{common_steps}
use Rattle.std.proofs.lemmas.List.{append-nil, reverse-append}
use Rattle.std.proofs.lemmas.List.Sums.{sum_by-append, sum_by-cons}
use Rattle.std.proofs.lemmas.List.Elements.{All-append}
use Rattle.action_terms.specs.Actions.{Item, Single, Them}
use Rattle.action_terms.specs.Forms.{HasArguments, IsDatum, IsYielderView, item_at, item_viewed, items_at, yielder_at, yielder_in}
use Rattle.action_terms.specs.Information.{Token}
use Rattle.action_terms.specs.Need.{yielder_count}
use Rattle.action_terms.specs.Numbering.{Listed, ListedYielder}
use Rattle.action_terms.specs.declared.view.YielderView.{YielderView}
use Rattle.action_terms.specs.declared.view.YielderView.TheVariants as yielder
use Rattle.sort_rules.specs.Measures.{named_in, named_in_items}
use Rattle.sort_rules.proofs.Listing.{left_count, no_them, viewed}
use Rattle.sort_rules.proofs.ItemsJudged.{items-front}
use Rattle.binding_capture.specs.Asked.{arguments_first, own_named}

-- the tokens that yielders name, by number
abbrev pub named_of : List ListedYielder → List ℕ → List Token
named_of ls [] = []
named_of ls (y ∷ ys) = named_in (yielder_at ls y) ++ named_of ls ys

-- those of a stack, the last yielder first
abbrev pub named_stack : List ListedYielder → List ℕ → List Token
named_stack ls left = named_of ls (reverse left)

-- a yielder names its own token, and those of its arguments
own-and-arguments : (ls : List ListedYielder) (v : YielderView) → (item_viewed ls v ≡ Them → ⊥)
    → named_in (yielder_in (item_viewed ls v)) ≡ own_named v ++ named_of ls (reverse (arguments_first v))
own-and-arguments ls yielder.Them f = absurd (f refl)
own-and-arguments ls (yielder.StoredIn s y) f = sym (append-nil (named_in (yielder_at ls y)))
own-and-arguments ls (yielder.OnTwo o y1 y2) f = ap (λ (zs : List Token). named_in (yielder_at ls y1) ++ zs) (sym (append-nil (named_in (yielder_at ls y2))))
own-and-arguments ls (yielder.OnOne o y) f = sym (append-nil (named_in (yielder_at ls y)))
own-and-arguments ls (yielder.Number n) f = refl
own-and-arguments ls (yielder.Truth b) f = refl
own-and-arguments ls (yielder.Given s) f = refl
own-and-arguments ls (yielder.GivenAt s n) f = refl
own-and-arguments ls (yielder.BoundTo s t) f = refl
own-and-arguments ls (yielder.ClosureOf k) f = refl

named_of-append : (ls : List ListedYielder) (xs ys : List ℕ) → named_of ls (xs ++ ys) ≡ named_of ls xs ++ named_of ls ys
named_of-append ls [] ys = refl
named_of-append ls (x ∷ xs) ys =
    ap (λ (zs : List Token). named_in (yielder_at ls x) ++ zs) (named_of-append ls xs ys)
    ∙ sym (append_assoc (named_in (yielder_at ls x)) (named_of ls xs) (named_of ls ys))

-- as many yielders are in a yielder as in its arguments, and one more
counted : (ls : List ListedYielder) (v : YielderView) → (item_viewed ls v ≡ Them → ⊥) → yielder_count (yielder_in (item_viewed ls v)) ≡ 1 + left_count ls (arguments_first v)
counted ls yielder.Them f = absurd (f refl)
counted ls (yielder.StoredIn s y) f = grind (arith, common_steps)
counted ls (yielder.OnTwo o y1 y2) f = grind (arith, common_steps)
counted ls (yielder.OnOne o y) f = grind (arith, common_steps)
counted ls _ f = grind (arith, common_steps)

-- one yielder is taken off the stack, and its arguments are put there
module _ (g : Listed) (left rest left2 : List ℕ) (next : ℕ) (v : YielderView) (view : IsYielderView g next v) (datum : IsDatum g.yielders next)
    (taken : left ≡ rest ++ next ∷ []) (put : left2 ≡ rest ++ arguments_first v) where
  pub named-next : (before after all : List Token) → before ++ named_stack g.yielders left ≡ all → after ≡ before ++ own_named v → after ++ named_stack g.yielders left2 ≡ all
  named-next before after all inv e =
      let ls = g.yielders in
      let under : List Token = named_stack g.yielders rest in
      let old : named_stack g.yielders left ≡ named_in (yielder_at g.yielders next) ++ named_stack g.yielders rest =
      ap (named_stack g.yielders) taken ∙ ap (named_of g.yielders) (reverse-append rest (next ∷ [])) in
      let new : named_stack g.yielders left2 ≡ named_of g.yielders (reverse (arguments_first v)) ++ named_stack g.yielders rest =
      ap (named_stack g.yielders) put ∙ ap (named_of g.yielders) (reverse-append rest (arguments_first v)) ∙ named_of-append g.yielders (reverse (arguments_first v)) (reverse rest) in
      let here : named_in (yielder_at g.yielders next) ≡ own_named v ++ named_of g.yielders (reverse (arguments_first v)) =
      ap named_in (viewed g next v view datum) ∙ own-and-arguments g.yielders v (no_them g next v view datum) in
      ap (λ (zs : List Token). zs ++ named_stack g.yielders left2) e
      ∙ ap (λ (zs : List Token). (before ++ own_named v) ++ zs) new
      ∙ append_assoc before (own_named v) (named_of g.yielders (reverse (arguments_first v)) ++ named_stack g.yielders rest)
      ∙ ap (λ (zs : List Token). before ++ zs) (sym (append_assoc (own_named v) (named_of g.yielders (reverse (arguments_first v))) (named_stack g.yielders rest)))
      ∙ ap (λ (zs : List Token). before ++ (zs ++ named_stack g.yielders rest)) (sym here)
      ∙ ap (λ (zs : List Token). before ++ zs) (sym old)
      ∙ inv

  -- what is left grows less by one
  pub left-less : 1 + left_count g.yielders left2 ≡ left_count g.yielders left
  left-less =
      let one : left_count g.yielders left ≡ left_count g.yielders rest + left_count g.yielders (next ∷ []) = ap (left_count g.yielders) taken ∙ sum_by-append (λ y. yielder_count (yielder_at g.yielders y)) rest (next ∷ []) in
      let two : left_count g.yielders left2 ≡ left_count g.yielders rest + left_count g.yielders (arguments_first v) = ap (left_count g.yielders) put ∙ sum_by-append (λ y. yielder_count (yielder_at g.yielders y)) rest (arguments_first v) in
      let single : left_count g.yielders (next ∷ []) ≡ yielder_count (yielder_at g.yielders next) + 0 = sum_by-cons (λ y. yielder_count (yielder_at g.yielders y)) next [] in
      let more : yielder_count (yielder_at g.yielders next) ≡ 1 + left_count g.yielders (arguments_first v) = ap yielder_count (viewed g next v view datum) ∙ counted g.yielders v (no_them g next v view datum) in
      omega (arith, one, two, single, more)

  -- what is left are yielders of one datum
  pub data-left : All (IsDatum g.yielders) rest → All (IsDatum g.yielders) left2
  data-left h = subst (All (IsDatum g.yielders)) (sym put) (All-append (IsDatum g.yielders) rest (arguments_first v) h (arguments v view.arguments))
    where
      arguments : (v : YielderView) → HasArguments g.yielders next v → All (IsDatum g.yielders) (arguments_first v)
      arguments (yielder.StoredIn s y) h = grind (arith, common_steps)
      arguments (yielder.OnTwo o y1 y2) h = grind (arith, common_steps)
      arguments (yielder.OnOne o y) h = grind (arith, common_steps)
      arguments _ h = grind (arith, common_steps)

-- the tokens of the first item, and those of the others
named-cons : (i : Item) (is : List Item) → named_in_items (i ∷ is) ≡ named_in_items (i ∷ []) ++ named_in_items is
named-cons (Single y) is = ap (λ (zs : List Token). zs ++ named_in_items is) (sym (append-nil (named_in y)))
named-cons Them is = refl

-- the tokens of one item more
pub named-more : (ls : List ListedYielder) (numbers : List ℕ) (i d : ℕ) → i < length numbers → (before after all : List Token)
    → before ++ named_in_items (items_at ls (drop i numbers)) ≡ all → after ≡ before ++ named_in_items (item_at ls (get_or numbers i d) ∷ [])
    → after ++ named_in_items (items_at ls (drop (i + 1) numbers)) ≡ all
named-more ls numbers i d less before after all inv e =
    let less2 : 0 < i + 1 = omega arith in
    let within : i + 1 ≤ length numbers = omega (arith, less) in
    let back : (i + 1) - 1 ≡ i = omega arith in
    let front : items_at ls (drop i numbers) ≡ item_at ls (get_or numbers i d) ∷ items_at ls (drop (i + 1) numbers) =
    subst (λ (k : ℕ). items_at ls (drop k numbers) ≡ item_at ls (get_or numbers k d) ∷ items_at ls (drop (i + 1) numbers)) back (items-front ls numbers (i + 1) d less2 within) in
    ap (λ (zs : List Token). zs ++ named_in_items (items_at ls (drop (i + 1) numbers))) e
    ∙ append_assoc before (named_in_items (item_at ls (get_or numbers i d) ∷ [])) (named_in_items (items_at ls (drop (i + 1) numbers)))
    ∙ ap (λ (zs : List Token). before ++ zs) (sym (ap named_in_items front ∙ named-cons (item_at ls (get_or numbers i d)) (items_at ls (drop (i + 1) numbers))))
    ∙ inv
