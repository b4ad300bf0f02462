-- The tokens of action texts can be printed; so the canonical text of an action is read as that action.
use Rattle.std.proofs.Common.{◌≡◌, ◌⊎◌, inl, inr, ℕ, zero, suc, Bool, true, false, ◌&&◌, ◌||◌, ◌==◌, List, [], ◌∷◌, ◌++◌, length, Option, Some, None, refl, sym, subst, arith, nat_lt, if◌then◌else◌}
use Rattle.std.specs.Prelude.{ℤ, pos, neg_ℤ}
use Rattle.std.specs.Option.{option_map, option_and_then}
use Rattle.std.specs.Char.{is_ascii_digit}
use Rattle.std.specs.Str.{all_ascii_digits}
use Rattle.std.specs.List.{list_all}
use Rattle.std.proofs.lemmas.Bool.Decides.{nat_tests}
use Rattle.std.proofs.lemmas.Bool.{and_from, or_left, or_right}
use Rattle.action_text.proofs.Tests.{and_left, and_right}
use Rattle.acg_base.specs.Decimals.{spelled_i64, spelled_number, fits_i64, number_of}
use Rattle.meta_lex.specs.Bytes.{is_digit}
use Rattle.meta_lex.specs.Forms.{is_word, is_number, is_digits, is_quoted}
use Rattle.action_terms.specs.Labels.{Label, ActionNode, YielderNode, Wanted, AnAction, AYielder, AnItem, AClosure, under, serves, items_fit, is_token}
use Rattle.action_terms.specs.Trees.{Tree, tree, Trees, none, more, Is, Are, IsAction}
use Rattle.action_terms.specs.declared.kinds.Kind.TheVariants as kind
use Rattle.action_terms.specs.declared.kinds.YKind.TheVariants as ykind
use Rattle.action_terms.specs.declared.kinds.Sort.{Sort}
use Rattle.action_terms.specs.declared.kinds.Sort.TheVariants as sort
use Rattle.action_text.specs.Shapes.{Piece, Fixed, Numeral, Quoted, Part, shape, items, more_items, sort_word, operator_of, close_paren}
use Rattle.action_text.specs.ActionText.{IsPlain, IsChain, ArePartsOf, IsPart, IsOperand, IsEnclosed, Weaves, Spells, label_of}
use Rattle.action_text.specs.Canonical.{action_tokens, canonical_text, IsReadable}
use Rattle.action_text.specs.Answers.{IsTextOf, token_bytes}
use Rattle.action_text.proofs.CanonicalTokens.{action_tokens_spell}
use Rattle.action_text.proofs.ActionTemplates.{one_action}
use Rattle.action_text.proofs.QuotedTokens.{quoted_of_token}
use Rattle.action_text.proofs.PrintedTokens.{is_printable, is_mark}
use Rattle.action_text.proofs.PrintedTexts.{ArePrintable, placed, placed_bytes, spaced_are_tokens}

-- the words among the pieces can be printed, and the quoted texts are tokens
abbrev can_print : List Piece → Bool
can_print [] = true
can_print (Part ∷ ps) = can_print ps
can_print (Fixed w ∷ ps) = is_printable w && can_print ps
can_print (Numeral z ∷ ps) = can_print ps
can_print (Quoted q ∷ ps) = is_token q && can_print ps

some_if : (f : ℤ → Option ℤ) (g : ℕ → ℤ) (x : Bool) (n : ℕ) (z : ℤ) → option_and_then f (option_map g (if x then Some n else None)) ≡ Some z → x ≡ true
some_if f g true n z h = refl
some_if f g false n z h = absurd (cc)

ascii_digit : (b : ℕ) → is_ascii_digit b ≡ true → is_digit b ≡ true
ascii_digit b h = grind (arith, nat_tests)

ascii_digits : (bs : List ℕ) → all_ascii_digits bs ≡ true → list_all is_digit bs ≡ true
ascii_digits [] h = refl
ascii_digits (b ∷ bs) h = and_from (is_digit b) (list_all is_digit bs) (ascii_digit b (and_left (is_ascii_digit b) (all_ascii_digits bs) h)) (ascii_digits bs (and_right (is_ascii_digit b) (all_ascii_digits bs) h))

some_digits : (bs : List ℕ) → (nat_lt 0 (length bs) && all_ascii_digits bs) ≡ true → is_digits bs ≡ true
some_digits [] h = absurd (cc)
some_digits (b ∷ bs) h = ascii_digits (b ∷ bs) (and_right (nat_lt 0 (length (b ∷ bs))) (all_ascii_digits (b ∷ bs)) h)

-- what spells a number is a number
number_form : (t : List ℕ) (z : ℤ) → spelled_i64 t ≡ Some z → is_number t ≡ true
number_form [] z h = absurd (cc)
number_form (b ∷ bs) z h = by_hyphen (b == 45) h
  where
    by_hyphen : (x : Bool)
        → option_and_then (λ integer. if fits_i64 integer then Some integer else None) (if x then option_map (λ number. neg_ℤ (pos number)) (spelled_number bs) else option_map pos (spelled_number (b ∷ bs))) ≡ Some z
        → (if x then is_digits bs else is_digits (b ∷ bs)) ≡ true
    by_hyphen true h = some_digits bs (some_if (λ integer. if fits_i64 integer then Some integer else None) (λ number. neg_ℤ (pos number)) (nat_lt 0 (length bs) && all_ascii_digits bs) (number_of bs) z h)
    by_hyphen false h = some_digits (b ∷ bs) (some_if (λ integer. if fits_i64 integer then Some integer else None) pos (nat_lt 0 (length (b ∷ bs)) && all_ascii_digits (b ∷ bs)) (number_of (b ∷ bs)) z h)

number_printable : (t : List ℕ) (z : ℤ) → spelled_i64 t ≡ Some z → is_printable t ≡ true
number_printable t z h = or_right (is_word t) (is_number t || (is_quoted t || is_mark t)) (or_left (is_number t) (is_quoted t || is_mark t) (number_form t z h))

quoted_printable : (q t : List ℕ) → is_token q ≡ true → t ≡ 34 ∷ (q ++ 34 ∷ []) → is_printable t ≡ true
quoted_printable q t h e =
    or_right (is_word t) (is_number t || (is_quoted t || is_mark t)) (or_right (is_number t) (is_quoted t || is_mark t) (or_left (is_quoted t) (is_mark t) (quoted_of_token q t h e)))

printable_append : (ts us : List (List ℕ)) → ArePrintable ts → ArePrintable us → ArePrintable (ts ++ us)
printable_append [] us a b = b
printable_append (t ∷ ts) us a b = (a.0, printable_append ts us a.1 b)

abbrev PartsPrintable : List (List (List ℕ)) → Type 0
PartsPrintable [] = Unit {0}
PartsPrintable (p ∷ ps) = ArePrintable p × PartsPrintable ps

weave_printable : (ps : List Piece) (parts : List (List (List ℕ))) (ts : List (List ℕ)) → can_print ps ≡ true → PartsPrintable parts → Weaves ps parts ts → ArePrintable ts
weave_printable [] [] ts c p w = subst ArePrintable (sym w) tt
weave_printable [] (q ∷ parts) ts c p w = absurd w
weave_printable (Part ∷ ps) [] ts c p w = absurd w
weave_printable (Part ∷ ps) (q ∷ parts) ts c p w = subst ArePrintable (sym w.1) (printable_append q w.0 p.0 (weave_printable ps parts w.0 c p.1 w.2))
weave_printable (Fixed b ∷ ps) parts [] c p w = absurd w
weave_printable (Fixed b ∷ ps) parts (t ∷ ts) c p w =
    (subst (λ y. is_printable y ≡ true) (sym w.0) (and_left (is_printable b) (can_print ps) c), weave_printable ps parts ts (and_right (is_printable b) (can_print ps) c) p w.1)
weave_printable (Numeral z ∷ ps) parts [] c p w = absurd w
weave_printable (Numeral z ∷ ps) parts (t ∷ ts) c p w = (number_printable t z w.0, weave_printable ps parts ts c p w.1)
weave_printable (Quoted q ∷ ps) parts [] c p w = absurd w
weave_printable (Quoted q ∷ ps) parts (t ∷ ts) c p w =
    (quoted_printable q t (and_left (is_token q) (can_print ps) c) w.0, weave_printable ps parts ts (and_right (is_token q) (can_print ps) c) p w.1)

more_print : (n : ℕ) → can_print (more_items n) ≡ true
more_print zero = refl
more_print (suc n) = more_print n

items_print : (n : ℕ) → can_print (items n) ≡ true
items_print zero = refl
items_print (suc zero) = refl
items_print (suc (suc n)) = more_print n

sort_prints : (s : Sort) → is_printable (sort_word s) ≡ true
sort_prints sort.Integer = refl
sort_prints sort.Truth = refl
sort_prints sort.Cell = refl
sort_prints sort.Abstraction = refl

bound_prints : (s : Sort) (q : List ℕ) → is_token q ≡ true → can_print (shape (YielderNode (ykind.Bound s) q)) ≡ true
bound_prints s q h = and_from (is_printable (sort_word s)) (is_token q && true) (sort_prints s) (and_from (is_token q) true h refl)

-- each node that a text can give is spelled by tokens that can be printed
shape_prints : (x : Wanted) (l : Label) → serves x l ≡ true → can_print (shape l) ≡ true
shape_prints x (ActionNode kind.Give n t) h = items_print n
shape_prints x (ActionNode kind.EscapeWith n t) h = items_print n
shape_prints x (ActionNode kind.Apply n t) h = items_print n
shape_prints AnAction (ActionNode kind.Bind n t) h = and_from (is_token t) true (and_right (items_fit kind.Bind n) (is_token t) h) refl
shape_prints AnAction (ActionNode kind.BindRec n t) h = and_from (is_token t) true (and_right (items_fit kind.BindRec n) (is_token t) h) refl
shape_prints AYielder (ActionNode k n t) h = absurd (cc)
shape_prints AnItem (ActionNode k n t) h = absurd (cc)
shape_prints AClosure (ActionNode k n t) h = absurd (cc)
shape_prints AnAction (ActionNode _ n t) h = refl
shape_prints AnAction (YielderNode k t) h = absurd (cc)
shape_prints x (YielderNode (ykind.Given s zero) t) h = and_from (is_printable (sort_word s)) true (sort_prints s) refl
shape_prints x (YielderNode (ykind.Given s (suc n)) t) h = and_from (is_printable (sort_word s)) true (sort_prints s) refl
shape_prints x (YielderNode (ykind.Stored s) t) h = and_from (is_printable (sort_word s)) true (sort_prints s) refl
shape_prints AYielder (YielderNode (ykind.Bound s) t) h = bound_prints s t h
shape_prints AnItem (YielderNode (ykind.Bound s) t) h = bound_prints s t h
shape_prints AClosure (YielderNode (ykind.Bound s) t) h = absurd (cc)
shape_prints x (YielderNode (ykind.Truth true) t) h = refl
shape_prints x (YielderNode (ykind.Truth false) t) h = refl
shape_prints x (YielderNode _ t) h = refl

words_print : (l : Label) → ArePrintable (operator_of l)
words_print (ActionNode kind.Or n t) = (refl, tt)
words_print (ActionNode kind.And n t) = (refl, tt)
words_print (ActionNode kind.AndThen n t) = (refl, (refl, tt))
words_print (ActionNode kind.Then n t) = (refl, tt)
words_print (ActionNode kind.Trap n t) = (refl, tt)
words_print (ActionNode kind.Hence n t) = (refl, tt)
words_print (ActionNode kind.Moreover n t) = (refl, tt)
words_print (ActionNode kind.Before n t) = (refl, tt)
words_print (ActionNode _ n t) = tt
words_print (YielderNode k t) = tt

-- what is shown of each tree
abbrev TreePrints : Tree → Type 0
TreePrints t = ((x : Wanted) → Is x t → (ts : List (List ℕ)) → IsPlain t ts → ArePrintable ts) × (IsAction t → (ts : List (List ℕ)) → IsChain t ts → ArePrintable ts)

abbrev TreesPrint : Trees → Type 0
TreesPrint none = Unit {0}
TreesPrint (more t ts) = TreePrints t × TreesPrint ts

enclosed_prints : (t : Tree) → TreePrints t → IsAction t → (pairs : ℕ) (ts : List (List ℕ)) → IsEnclosed pairs (IsPlain t) (IsChain t) ts → ArePrintable ts
enclosed_prints t p is zero ts h = p.0 AnAction is ts h
enclosed_prints t p is (suc pairs) ts (inner, whole, inl h) =
    subst ArePrintable (sym whole) (refl, printable_append inner (close_paren ∷ []) (enclosed_prints t p is pairs inner h) (refl, tt))
enclosed_prints t p is (suc pairs) ts (inner, whole, inr h) =
    subst ArePrintable (sym whole) (refl, printable_append inner (close_paren ∷ []) (p.1 is inner h) (refl, tt))

part_prints : (t : Tree) → TreePrints t → (x : Wanted) → Is x t → (ts : List (List ℕ)) → IsPart x (IsPlain t) (IsChain t) ts → ArePrintable ts
part_prints t p AnAction is ts h = enclosed_prints t p is h.0 ts h.1
part_prints t p AYielder is ts h = p.0 AYielder is ts h
part_prints t p AnItem is ts h = p.0 AnItem is ts h
part_prints t p AClosure is ts h = p.0 AClosure is ts h

parts_print : (ts : Trees) → TreesPrint ts → (xs : List Wanted) → Are xs ts → (parts : List (List (List ℕ))) → ArePartsOf ts xs parts → PartsPrintable parts
parts_print none p [] are parts h = subst PartsPrintable (sym h) tt
parts_print none p (x ∷ xs) are parts h = absurd are
parts_print (more t ts) p [] are parts h = absurd are
parts_print (more t ts) p (x ∷ xs) are [] h = absurd h
parts_print (more t ts) p (x ∷ xs) are (q ∷ parts) h = (part_prints t p.0 x are.0 q h.0, parts_print ts p.1 xs are.1 parts h.1)

-- the sides of an operator are actions
both_actions : (l : Label) (a b : Tree) (w : List ℕ) (ws : List (List ℕ)) → operator_of l ≡ w ∷ ws → IsAction (tree l (more a (more b none))) → IsAction a × IsAction b
both_actions (YielderNode k t) a b w ws e is = absurd (cc)
both_actions (ActionNode kind.Or n t) a b w ws e is = (is.1.0, is.1.1.0)
both_actions (ActionNode kind.And n t) a b w ws e is = (is.1.0, is.1.1.0)
both_actions (ActionNode kind.AndThen n t) a b w ws e is = (is.1.0, is.1.1.0)
both_actions (ActionNode kind.Then n t) a b w ws e is = (is.1.0, is.1.1.0)
both_actions (ActionNode kind.Trap n t) a b w ws e is = (is.1.0, is.1.1.0)
both_actions (ActionNode kind.Hence n t) a b w ws e is = (is.1.0, is.1.1.0)
both_actions (ActionNode kind.Moreover n t) a b w ws e is = (is.1.0, is.1.1.0)
both_actions (ActionNode kind.Before n t) a b w ws e is = (is.1.0, is.1.1.0)
both_actions (ActionNode _ n t) a b w ws e is = absurd (cc)

chain_prints : (l : Label) (ts : Trees) → TreesPrint ts → IsAction (tree l ts) → (us : List (List ℕ)) → IsChain (tree l ts) us → ArePrintable us
chain_prints l none p is us c = absurd c
chain_prints l (more a none) p is us c = absurd c
chain_prints l (more a (more b (more d ts))) p is us c = absurd c
chain_prints l (more a (more b none)) p is us (left, w, ws, right, whole, words, leftmost, rightmost) =
    let sides = both_actions l a b w ws words is in
    subst ArePrintable (sym whole)
    (printable_append (left ++ w ∷ ws) right (printable_append left (w ∷ ws) (left_prints leftmost sides.0) (subst ArePrintable words (words_print l))) (enclosed_prints b p.1.0 sides.1 rightmost.0 right rightmost.1))
  where
    left_prints : ((label_of a ≡ l) × IsChain a left) ⊎ IsOperand (IsPlain a) (IsChain a) left → IsAction a → ArePrintable left
    left_prints (inl h) is = p.0.1 is left h.1
    left_prints (inr h) is = enclosed_prints a p.0 is h.0 left h.1

mutual
  tree_prints : (t : Tree) → TreePrints t
  tree_prints (tree l ts) = (
    λ x is us h. weave_printable (shape l) h.0 us (shape_prints x l is.0) (parts_print ts (trees_print ts) (under l) is.1 h.0 h.1) h.2,
    λ is us h. chain_prints l ts (trees_print ts) is us h,
  )

  trees_print : (ts : Trees) → TreesPrint ts
  trees_print none = tt
  trees_print (more t ts) = (tree_prints t, trees_print ts)

-- the tokens of an action text can be printed
pub spelled_printable : (t : Tree) (ts : List (List ℕ)) → Spells t ts → ArePrintable ts
spelled_printable t ts (is, inl o) = enclosed_prints t (tree_prints t) is o.0 ts o.1
spelled_printable t ts (is, inr c) = (tree_prints t).1 is ts c

-- the canonical text of an action that can be read is a text of that action, and of no other
pub canonical_is_text : (t : Tree) → IsAction t → IsReadable t → IsTextOf (canonical_text t) t
canonical_is_text t is r =
    let spells = action_tokens_spell t is r in
    let printable = spelled_printable t (action_tokens t) spells in
    let same : token_bytes (placed 0 (action_tokens t)) ≡ action_tokens t = placed_bytes 0 (action_tokens t) in
    let here : Spells t (token_bytes (placed 0 (action_tokens t))) = subst (λ y. Spells t y) (sym same) spells in
    record {
      tokens = placed 0 (action_tokens t);
      are_tokens = spaced_are_tokens (action_tokens t) printable;
      spells = here;
      no_other = λ u other. one_action u t (token_bytes (placed 0 (action_tokens t))) other here;
    }
