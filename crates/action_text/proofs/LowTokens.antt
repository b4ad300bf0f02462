-- Which tokens action texts have: those of an action have classes of action texts, and those of a parameter have none.
use Rattle.std.proofs.Common.{◌≡◌, ◌⊎◌, inl, inr, ℕ, zero, suc, ◌<◌, Bool, true, false, ◌&&◌, List, [], ◌∷◌, ◌++◌, refl, sym, subst, arith, nat_lt, ltb-true}
use Rattle.action_text.proofs.Tests.{and_left, and_right}
use Rattle.action_terms.specs.Labels.{Wanted, AnAction, AYielder, AnItem, AClosure, is_token, items_fit, token_fits}
use Rattle.action_terms.specs.Labels as plain
use Rattle.action_terms.specs.Trees.{tree, none, more, Is, Are, Tree, Trees, IsAction}
use Rattle.action_terms.specs.declared.kinds.Kind.{Kind}
use Rattle.action_terms.specs.declared.kinds.Kind.TheVariants as kind
use Rattle.action_terms.specs.declared.kinds.YKind.TheVariants as ykind
use Rattle.action_terms.specs.declared.kinds.Sort.{Sort}
use Rattle.action_terms.specs.declared.kinds.Sort.TheVariants as sort
use Rattle.action_text.specs.Shapes.{Piece, Fixed, Numeral, Quoted, Part, shape, items, more_items, sort_word, operator_of, operator, close_paren}
use Rattle.action_text.specs.ActionText.{IsPlain, IsChain, ArePartsOf, IsPart, IsOperand, IsEnclosed, Weaves, Spells, label_of}
use Rattle.action_text.specs.Classes.{class_of}
use Rattle.action_text.proofs.SpeltNodes.{quoted_low, number_low}

-- each token has a class of action texts
abbrev pub AllLow : List (List ℕ) → Type 0
AllLow [] = Unit {0}
AllLow (t ∷ ts) = (class_of t < 63) × AllLow ts

abbrev pub EachLow : List (List (List ℕ)) → Type 0
EachLow [] = Unit {0}
EachLow (p ∷ ps) = AllLow p × EachLow ps

pub low_join : (ts us : List (List ℕ)) → AllLow ts → AllLow us → AllLow (ts ++ us)
low_join [] us a b = b
low_join (t ∷ ts) us a b = (a.0, low_join ts us a.1 b)

pub low_front : (ts us : List (List ℕ)) → AllLow (ts ++ us) → AllLow ts
low_front [] us h = tt
low_front (t ∷ ts) us h = (h.0, low_front ts us h.1)

pub low_back : (ts us : List (List ℕ)) → AllLow (ts ++ us) → AllLow us
low_back [] us h = h
low_back (t ∷ ts) us h = low_back ts us h.1

-- the pieces are words of action texts, numbers and quoted texts
abbrev low_pieces : List Piece → Bool
low_pieces [] = true
low_pieces (Fixed w ∷ ps) = nat_lt (class_of w) 63 && low_pieces ps
low_pieces (Numeral z ∷ ps) = low_pieces ps
low_pieces (Quoted q ∷ ps) = is_token q && low_pieces ps
low_pieces (Part ∷ ps) = low_pieces ps

weave_low : (ps : List Piece) (parts : List (List (List ℕ))) (ts : List (List ℕ)) → low_pieces ps ≡ true → EachLow parts → Weaves ps parts ts → AllLow ts
weave_low [] [] ts h e w = subst AllLow (sym w) tt
weave_low [] (p ∷ parts) ts h e w = absurd w
weave_low (Part ∷ ps) [] ts h e w = absurd w
weave_low (Part ∷ ps) (p ∷ parts) ts h e w = subst AllLow (sym w.1) (low_join p w.0 e.0 (weave_low ps parts w.0 h e.1 w.2))
weave_low (Fixed b ∷ ps) parts [] h e w = absurd w
weave_low (Fixed b ∷ ps) parts (t ∷ ts) h e w =
    (subst (λ x. class_of x < 63) (sym w.0) (ltb-true (class_of b) 63 (and_left (nat_lt (class_of b) 63) (low_pieces ps) h)), weave_low ps parts ts (and_right (nat_lt (class_of b) 63) (low_pieces ps) h) e w.1)
weave_low (Numeral z ∷ ps) parts [] h e w = absurd w
weave_low (Numeral z ∷ ps) parts (t ∷ ts) h e w = (number_low t z w.0, weave_low ps parts ts h e w.1)
weave_low (Quoted q ∷ ps) parts [] h e w = absurd w
weave_low (Quoted q ∷ ps) parts (t ∷ ts) h e w = (quoted_low q t (and_left (is_token q) (low_pieces ps) h) w.0, weave_low ps parts ts (and_right (is_token q) (low_pieces ps) h) e w.1)

more_items_low : (n : ℕ) → low_pieces (more_items n) ≡ true
more_items_low zero = refl
more_items_low (suc n) = more_items_low n

items_low : (n : ℕ) → low_pieces (items n) ≡ true
items_low zero = refl
items_low (suc zero) = refl
items_low (suc (suc n)) = more_items_low (suc n)

with_true : (a : Bool) → a ≡ true → (a && true) ≡ true
with_true a h = rw h refl

sort_low : (s : Sort) → nat_lt (class_of (sort_word s)) 63 ≡ true
sort_low sort.Integer = refl
sort_low sort.Truth = refl
sort_low sort.Cell = refl
sort_low sort.Abstraction = refl

bound_low : (s : Sort) (q : List ℕ) → is_token q ≡ true → low_pieces (shape (plain.YielderNode (ykind.Bound s) q)) ≡ true
bound_low s q h = rw (sort_low s) (with_true (is_token q) h)

shape_low : (x : Wanted) (l : plain.Label) → plain.serves x l ≡ true → low_pieces (shape l) ≡ true
shape_low x (plain.ActionNode kind.Give n t) h = items_low n
shape_low x (plain.ActionNode kind.EscapeWith n t) h = items_low n
shape_low x (plain.ActionNode kind.Apply n t) h = items_low n
shape_low AnAction (plain.ActionNode kind.Bind n t) h = with_true (is_token t) (and_right (items_fit kind.Bind n) (is_token t) h)
shape_low AnAction (plain.ActionNode kind.BindRec n t) h = with_true (is_token t) (and_right (items_fit kind.BindRec n) (is_token t) h)
shape_low AYielder (plain.ActionNode k n t) h = absurd (cc)
shape_low AnItem (plain.ActionNode k n t) h = absurd (cc)
shape_low AClosure (plain.ActionNode k n t) h = absurd (cc)
shape_low AnAction (plain.ActionNode _ n t) h = refl
shape_low AnAction (plain.YielderNode k t) h = absurd (cc)
shape_low x (plain.YielderNode (ykind.Given s zero) t) h = with_true (nat_lt (class_of (sort_word s)) 63) (sort_low s)
shape_low x (plain.YielderNode (ykind.Given s (suc n)) t) h = with_true (nat_lt (class_of (sort_word s)) 63) (sort_low s)
shape_low x (plain.YielderNode (ykind.Stored s) t) h = with_true (nat_lt (class_of (sort_word s)) 63) (sort_low s)
shape_low AYielder (plain.YielderNode (ykind.Bound s) t) h = bound_low s t h
shape_low AnItem (plain.YielderNode (ykind.Bound s) t) h = bound_low s t h
shape_low AClosure (plain.YielderNode (ykind.Bound s) t) h = absurd (cc)
shape_low x (plain.YielderNode (ykind.Truth true) t) h = refl
shape_low x (plain.YielderNode (ykind.Truth false) t) h = refl
shape_low x (plain.YielderNode _ t) h = refl

operator_low : (l : plain.Label) (w : List ℕ) (ws : List (List ℕ)) → operator_of l ≡ w ∷ ws → AllLow (w ∷ ws)
operator_low l w ws e = subst AllLow e (each_low l)
  where
    each_low : (l : plain.Label) → AllLow (operator_of l)
    each_low (plain.ActionNode kind.Or n t) = (omega arith, tt)
    each_low (plain.ActionNode kind.And n t) = (omega arith, tt)
    each_low (plain.ActionNode kind.AndThen n t) = (omega arith, (omega arith, tt))
    each_low (plain.ActionNode kind.Then n t) = (omega arith, tt)
    each_low (plain.ActionNode kind.Trap n t) = (omega arith, tt)
    each_low (plain.ActionNode kind.Hence n t) = (omega arith, tt)
    each_low (plain.ActionNode kind.Moreover n t) = (omega arith, tt)
    each_low (plain.ActionNode kind.Before n t) = (omega arith, tt)
    each_low (plain.ActionNode _ n t) = tt
    each_low (plain.YielderNode k t) = tt

abbrev TreeLow : Tree → Type 0
TreeLow t = ((x : Wanted) → Is x t → (ts : List (List ℕ)) → IsPlain t ts → AllLow ts) × (IsAction t → (ts : List (List ℕ)) → IsChain t ts → AllLow ts)

abbrev TreesLow : Trees → Type 0
TreesLow none = Unit {0}
TreesLow (more t ts) = TreeLow t × TreesLow ts

enclosed_low : (t : Tree) → TreeLow t → IsAction t → (pairs : ℕ) (ts : List (List ℕ)) → IsEnclosed pairs (IsPlain t) (IsChain t) ts → AllLow ts
enclosed_low t h is zero ts e = h.0 AnAction is ts e
enclosed_low t h is (suc pairs) ts (inner, whole, inl e) =
    let i = enclosed_low t h is pairs inner e in
    subst AllLow (sym whole) (omega arith, low_join inner (close_paren ∷ []) i (omega arith, tt))
enclosed_low t h is (suc pairs) ts (inner, whole, inr c) =
    let i = h.1 is inner c in
    subst AllLow (sym whole) (omega arith, low_join inner (close_paren ∷ []) i (omega arith, tt))

part_low : (t : Tree) → TreeLow t → (x : Wanted) → Is x t → (ts : List (List ℕ)) → IsPart x (IsPlain t) (IsChain t) ts → AllLow ts
part_low t h AnAction is ts e = enclosed_low t h is e.0 ts e.1
part_low t h AYielder is ts e = h.0 AYielder is ts e
part_low t h AnItem is ts e = h.0 AnItem is ts e
part_low t h AClosure is ts e = h.0 AClosure is ts e

parts_low : (ts : Trees) → TreesLow ts → (xs : List Wanted) → Are xs ts → (parts : List (List (List ℕ))) → ArePartsOf ts xs parts → EachLow parts
parts_low none h [] are parts e = subst EachLow (sym e) tt
parts_low none h (x ∷ xs) are parts e = absurd are
parts_low (more t ts) h [] are parts e = absurd are
parts_low (more t ts) h (x ∷ xs) are [] e = absurd e
parts_low (more t ts) h (x ∷ xs) are (p ∷ parts) e = (part_low t h.0 x are.0 p e.0, parts_low ts h.1 xs are.1 parts e.1)

chain_low : (l : plain.Label) (ts : Trees) → TreesLow ts → IsAction (tree l ts) → (us : List (List ℕ)) → IsChain (tree l ts) us → AllLow us
chain_low l none h is us c = absurd c
chain_low l (more a none) h is us c = absurd c
chain_low (plain.YielderNode k t) (more a (more b none)) h is us c = absurd (cc)
chain_low (plain.ActionNode k n t) (more a (more b none)) h is us (left, w, ws, right, whole, words, l, r) =
    let sides : IsAction a × (IsAction b × Unit {0}) = two k n words is.1 in
    subst AllLow (sym whole) (low_join (left ++ (w ∷ ws)) right (low_join left (w ∷ ws) (left_low l sides.0) (operator_low (plain.ActionNode k n t) w ws words)) (enclosed_low b h.1.0 sides.1.0 r.0 right r.1))
  where
    two : (k : Kind) (n : ℕ) → operator k ≡ w ∷ ws → Are (plain.under_action k n) (more a (more b none)) → IsAction a × (IsAction b × Unit {0})
    two kind.Or n e are = are
    two kind.And n e are = are
    two kind.AndThen n e are = are
    two kind.Then n e are = are
    two kind.Trap n e are = are
    two kind.Hence n e are = are
    two kind.Moreover n e are = are
    two kind.Before n e are = are
    two _ n e are = absurd (cc)

    left_low : ((label_of a ≡ plain.ActionNode k n t) × IsChain a left) ⊎ IsOperand (IsPlain a) (IsChain a) left → IsAction a → AllLow left
    left_low (inl c) is_a = h.0.1 is_a left c.1
    left_low (inr o) is_a = enclosed_low a h.0 is_a o.0 left o.1
chain_low l (more a (more b (more d ts))) h is us c = absurd c

mutual
  tree_low : (t : Tree) → TreeLow t
  tree_low (tree l ts) = (
    λ x is us h. weave_low (shape l) h.0 us (shape_low x l is.0) (parts_low ts (trees_low ts) (plain.under l) is.1 h.0 h.1) h.2,
    λ is us c. chain_low l ts (trees_low ts) is us c,
  )

  trees_low : (ts : Trees) → TreesLow ts
  trees_low none = tt
  trees_low (more t ts) = (tree_low t, trees_low ts)

-- the tokens of an action have classes of action texts
pub spelled_low : (t : Tree) (ts : List (List ℕ)) → Spells t ts → AllLow ts
spelled_low t ts (is, inl o) = enclosed_low t (tree_low t) is o.0 ts o.1
spelled_low t ts (is, inr c) = (tree_low t).1 is ts c
