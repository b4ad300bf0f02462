-- The canonical tokens of an action spell it.
use Rattle.std.proofs.Common.{◌≡◌, ◌⊎◌, inl, inr, ℕ, zero, suc, Bool, true, false, List, [], ◌∷◌, ◌++◌, length, Some, refl, sym, ap, subst, ◌∙◌, arith, nat_eq, if◌then◌else◌, eqb-true}
use Rattle.std.specs.Prelude.{pos, nat_le, FitsSigned}
use Rattle.std.specs.Int.{w64}
use Rattle.std.proofs.lemmas.Bool.Decides.{nat_tests}
use Rattle.action_text.proofs.SpeltNodes.{no_token}
use Rattle.action_text.proofs.Tests.{and_left, and_right}
use Rattle.acg_base.specs.Decimals.{spelled_i64, decimal_of}
use Rattle.acg_base.proofs.SpellingLemmas.{spelled_i64-decimal_of}
use Rattle.action_terms.specs.Labels.{Label, ActionNode, YielderNode, Wanted, AnAction, AYielder, AnItem, AClosure, under, copies, serves, items_fit, token_fits, has_no_token, yielder_fits, is_datum}
use Rattle.action_terms.specs.Trees.{Tree, tree, Trees, none, more, Is, Are, IsAction}
use Rattle.action_terms.specs.declared.kinds.Kind.{Kind}
use Rattle.action_terms.specs.declared.kinds.Kind.TheVariants as kind
use Rattle.action_terms.specs.declared.kinds.YKind.{YKind}
use Rattle.action_terms.specs.declared.kinds.YKind.TheVariants as ykind
use Rattle.action_text.specs.Shapes.{Piece, Fixed, Numeral, Quoted, Part, shape, items, more_items, operator, operator_of, open_paren, close_paren}
use Rattle.action_text.specs.ActionText.{IsPlain, IsChain, ArePartsOf, IsPart, IsOperand, IsActionText, Weaves, label_of, Spells}
use Rattle.action_text.specs.Canonical.{printed_shape, woven, is_some_word, is_operator, same_words, plain_tokens, chain_tokens, operand_tokens, action_tokens, IsReadableLabel, IsReadable, AreReadable}
use Rattle.action_terms.proofs.PlacesLemmas.{length-copies}
use Rattle.action_text.proofs.Words.{same_is}

-- how many parts the pieces have
abbrev pub parts_in : List Piece → ℕ
parts_in [] = zero
parts_in (Part ∷ ps) = suc (parts_in ps)
parts_in (Fixed w ∷ ps) = parts_in ps
parts_in (Numeral z ∷ ps) = parts_in ps
parts_in (Quoted q ∷ ps) = parts_in ps

-- each number among the pieces is read back from its decimal
abbrev NumeralsRead : List Piece → Type 0
NumeralsRead [] = Unit {0}
NumeralsRead (Part ∷ ps) = NumeralsRead ps
NumeralsRead (Fixed w ∷ ps) = NumeralsRead ps
NumeralsRead (Numeral z ∷ ps) = (spelled_i64 (decimal_of z) ≡ Some z) × NumeralsRead ps
NumeralsRead (Quoted q ∷ ps) = NumeralsRead ps

weaves_woven : (ps : List Piece) (parts : List (List (List ℕ))) → length parts ≡ parts_in ps → NumeralsRead ps → Weaves ps parts (woven ps parts)
weaves_woven [] [] n r = refl
weaves_woven [] (p ∷ parts) n r = absurd (omega arith)
weaves_woven (Part ∷ ps) [] n r = absurd (omega arith)
weaves_woven (Part ∷ ps) (p ∷ parts) n r = (woven ps parts, refl, weaves_woven ps parts (omega arith) r)
weaves_woven (Fixed w ∷ ps) parts n r = (refl, weaves_woven ps parts n r)
weaves_woven (Numeral z ∷ ps) parts n r = (r.0, weaves_woven ps parts n r.1)
weaves_woven (Quoted q ∷ ps) parts n r = (refl, weaves_woven ps parts n r)

parts_in_more : (n : ℕ) → parts_in (more_items n) ≡ n
parts_in_more zero = refl
parts_in_more (suc n) = ap suc (parts_in_more n)

parts_in_items : (n : ℕ) → parts_in (items n) ≡ n
parts_in_items zero = refl
parts_in_items (suc zero) = refl
parts_in_items (suc (suc n)) = ap (λ k. suc (suc k)) (parts_in_more n)

read_more : (n : ℕ) → NumeralsRead (more_items n)
read_more zero = tt
read_more (suc n) = read_more n

read_items : (n : ℕ) → NumeralsRead (items n)
read_items zero = tt
read_items (suc zero) = tt
read_items (suc (suc n)) = read_more n

-- the places of the parts of a node are those of its printed form
pub printed_parts : (l : Label) → is_operator l ≡ false → length (under l) ≡ parts_in (printed_shape l)
printed_parts (ActionNode kind.Give n t) o = length-copies n AnItem ∙ sym (parts_in_items n)
printed_parts (ActionNode kind.EscapeWith n t) o = length-copies n AnItem ∙ sym (parts_in_items n)
printed_parts (ActionNode kind.Apply n t) o = ap suc (length-copies n AnItem ∙ sym (parts_in_items n))
printed_parts (ActionNode kind.Or n t) o = absurd (cc)
printed_parts (ActionNode kind.And n t) o = absurd (cc)
printed_parts (ActionNode kind.AndThen n t) o = absurd (cc)
printed_parts (ActionNode kind.Then n t) o = absurd (cc)
printed_parts (ActionNode kind.Trap n t) o = absurd (cc)
printed_parts (ActionNode kind.Hence n t) o = absurd (cc)
printed_parts (ActionNode kind.Moreover n t) o = absurd (cc)
printed_parts (ActionNode kind.Before n t) o = absurd (cc)
printed_parts (ActionNode _ n t) o = refl
printed_parts (YielderNode (ykind.Given s zero) t) o = refl
printed_parts (YielderNode (ykind.Given s (suc n)) t) o = refl
printed_parts (YielderNode (ykind.Truth true) t) o = refl
printed_parts (YielderNode (ykind.Truth false) t) o = refl
printed_parts (YielderNode _ t) o = refl

-- a place is a number of 64 signed bits
place_fits : (n : ℕ) → nat_le n 64 ≡ true → FitsSigned w64 (pos n)
place_fits n h = grind (arith, nat_tests)

shape_reads : (l : Label) → ((k : YKind) (t : List ℕ) → l ≡ YielderNode k t → yielder_fits k t ≡ true) → IsReadableLabel l → NumeralsRead (shape l)
shape_reads (ActionNode kind.Give n t) y r = read_items n
shape_reads (ActionNode kind.EscapeWith n t) y r = read_items n
shape_reads (ActionNode kind.Apply n t) y r = read_items n
shape_reads (ActionNode kind.Branch n t) y r = absurd r
shape_reads (ActionNode _ n t) y r = tt
shape_reads (YielderNode (ykind.Number z) t) y r = (spelled_i64-decimal_of z r, tt)
shape_reads (YielderNode (ykind.Given s zero) t) y r = tt
shape_reads (YielderNode (ykind.Given s (suc n)) t) y r =
    (spelled_i64-decimal_of (pos (suc n)) (place_fits (suc n) (and_left (nat_le (suc n) 64) (has_no_token t) (y (ykind.Given s (suc n)) t refl))), tt)
shape_reads (YielderNode (ykind.Truth true) t) y r = tt
shape_reads (YielderNode (ykind.Truth false) t) y r = tt
shape_reads (YielderNode _ t) y r = tt

-- what serves in a place fits
served_fits : (x : Wanted) (l : Label) → serves x l ≡ true → (k : YKind) (t : List ℕ) → l ≡ YielderNode k t → yielder_fits k t ≡ true
served_fits AnAction (ActionNode k n t) h j u e = absurd (cc)
served_fits AnAction (YielderNode k t) h j u e = absurd (cc)
served_fits AYielder (ActionNode k n t) h j u e = absurd (cc)
served_fits AYielder (YielderNode k t) h j u e = let a : k ≡ j = cc in let b : t ≡ u = cc in rw (sym a) (rw (sym b) (and_right (is_datum k) (yielder_fits k t) h))
served_fits AnItem (ActionNode k n t) h j u e = absurd (cc)
served_fits AnItem (YielderNode k t) h j u e = let a : k ≡ j = cc in let b : t ≡ u = cc in rw (sym a) (rw (sym b) h)
served_fits AClosure (ActionNode k n t) h j u e = absurd (cc)
served_fits AClosure (YielderNode k t) h j u e = let a : k ≡ j = cc in let b : t ≡ u = cc in rw (sym a) (rw (sym b) (and_right (Rattle.action_terms.specs.Labels.is_closure k) (yielder_fits k t) h))

-- a node that isn't printed as a branch is printed as it is spelled
printed_is_shape : (l : Label) → IsReadableLabel l → printed_shape l ≡ shape l
printed_is_shape (ActionNode kind.Branch n t) r = absurd r
printed_is_shape (ActionNode _ n t) r = refl
printed_is_shape (YielderNode k t) r = refl

-- the operator of a label, and the label of an operator
pub operator_kind : List (List ℕ) → Kind
operator_kind ws =
    if same_words ws (operator kind.Or) then kind.Or
    else if same_words ws (operator kind.And) then kind.And
    else if same_words ws (operator kind.AndThen) then kind.AndThen
    else if same_words ws (operator kind.Then) then kind.Then
    else if same_words ws (operator kind.Trap) then kind.Trap
    else if same_words ws (operator kind.Hence) then kind.Hence
    else if same_words ws (operator kind.Moreover) then kind.Moreover
    else kind.Before

-- an action with an operator has neither items nor a token
pub record HasOperator (l : Label) : Type 0 where
  pub kind : Kind
  pub label_is : l ≡ ActionNode kind 0 []
  pub back : operator_kind (operator kind) ≡ kind
  pub sides : under l ≡ AnAction ∷ AnAction ∷ []

zero_label : (k : Kind) (n : ℕ) (q : List ℕ) → nat_eq n 0 ≡ true → has_no_token q ≡ true → ActionNode k n q ≡ ActionNode k 0 []
zero_label k n q a b = ap (λ m. ActionNode k m q) (eqb-true n 0 a) ∙ ap (λ r. ActionNode k 0 r) (no_token q b)

pub operator_served : (l : Label) → serves AnAction l ≡ true → is_operator l ≡ true → HasOperator l
unfolding operator_kind
operator_served (YielderNode k t) h o = absurd (cc)
operator_served (ActionNode kind.Or n q) h o = record { kind = kind.Or; label_is = zero_label kind.Or n q (and_left (nat_eq n 0) (has_no_token q) h) (and_right (nat_eq n 0) (has_no_token q) h); back = refl; sides = refl }
operator_served (ActionNode kind.And n q) h o = record { kind = kind.And; label_is = zero_label kind.And n q (and_left (nat_eq n 0) (has_no_token q) h) (and_right (nat_eq n 0) (has_no_token q) h); back = refl; sides = refl }
operator_served (ActionNode kind.AndThen n q) h o = record { kind = kind.AndThen; label_is = zero_label kind.AndThen n q (and_left (nat_eq n 0) (has_no_token q) h) (and_right (nat_eq n 0) (has_no_token q) h); back = refl; sides = refl }
operator_served (ActionNode kind.Then n q) h o = record { kind = kind.Then; label_is = zero_label kind.Then n q (and_left (nat_eq n 0) (has_no_token q) h) (and_right (nat_eq n 0) (has_no_token q) h); back = refl; sides = refl }
operator_served (ActionNode kind.Trap n q) h o = record { kind = kind.Trap; label_is = zero_label kind.Trap n q (and_left (nat_eq n 0) (has_no_token q) h) (and_right (nat_eq n 0) (has_no_token q) h); back = refl; sides = refl }
operator_served (ActionNode kind.Hence n q) h o = record { kind = kind.Hence; label_is = zero_label kind.Hence n q (and_left (nat_eq n 0) (has_no_token q) h) (and_right (nat_eq n 0) (has_no_token q) h); back = refl; sides = refl }
operator_served (ActionNode kind.Moreover n q) h o = record { kind = kind.Moreover; label_is = zero_label kind.Moreover n q (and_left (nat_eq n 0) (has_no_token q) h) (and_right (nat_eq n 0) (has_no_token q) h); back = refl; sides = refl }
operator_served (ActionNode kind.Before n q) h o = record { kind = kind.Before; label_is = zero_label kind.Before n q (and_left (nat_eq n 0) (has_no_token q) h) (and_right (nat_eq n 0) (has_no_token q) h); back = refl; sides = refl }
operator_served (ActionNode _ n q) h o = absurd (cc)

same_words_is : (vs ws : List (List ℕ)) → same_words vs ws ≡ true → vs ≡ ws
same_words_is [] [] h = refl
same_words_is [] (w ∷ ws) h = absurd (cc)
same_words_is (v ∷ vs) [] h = absurd (cc)
same_words_is (v ∷ vs) (w ∷ ws) h =
    let a : v ≡ w = same_is v w (and_left (Rattle.meta_terms.specs.Words.same_bytes v w) (same_words vs ws) h) in
    let b : vs ≡ ws = same_words_is vs ws (and_right (Rattle.meta_terms.specs.Words.same_bytes v w) (same_words vs ws) h) in
    cc

-- actions with one operator have one label
same_operator : (a l : Label) → HasOperator a → HasOperator l → operator_of a ≡ operator_of l → a ≡ l
same_operator a l ha hl e =
    let words : operator ha.kind ≡ operator hl.kind = sym (ap operator_of ha.label_is) ∙ e ∙ ap operator_of hl.label_is in
    let kinds : ha.kind ≡ hl.kind = sym ha.back ∙ ap operator_kind words ∙ hl.back in
    ha.label_is ∙ ap (λ k. ActionNode k 0 []) kinds ∙ sym hl.label_is

some_words : (ws : List (List ℕ)) → is_some_word ws ≡ true → (w : List ℕ) × (vs : List (List ℕ)) × (ws ≡ w ∷ vs)
some_words [] h = absurd (cc)
some_words (w ∷ ws) h = (w, ws, refl)

-- what is shown of each tree
abbrev TreeSpelled : Tree → Type 0
TreeSpelled t = ((x : Wanted) → Is x t → IsReadable t → is_operator (label_of t) ≡ false → IsPlain t (plain_tokens t))
    × (IsAction t → IsReadable t → is_operator (label_of t) ≡ true → IsChain t (chain_tokens t))

abbrev TreesSpelled : Trees → Type 0
TreesSpelled none = Unit {0}
TreesSpelled (more t ts) = TreeSpelled t × TreesSpelled ts

-- a part, a chain in parentheses
part_spelled : (t : Tree) → TreeSpelled t → (x : Wanted) → Is x t → IsReadable t → (b : Bool) → is_operator (label_of t) ≡ b
    → IsPart x (IsPlain t) (IsChain t) (if b then open_paren ∷ (chain_tokens t ++ close_paren ∷ []) else plain_tokens t)
part_spelled t s AnAction is r true e = (1, (chain_tokens t, refl, inr (s.1 is r e)))
part_spelled t s AnAction is r false e = (0, s.0 AnAction is r e)
part_spelled (tree (YielderNode k q) ts) s AYielder is r true e = absurd (cc)
part_spelled (tree (ActionNode k n q) ts) s AYielder is r b e = absurd (cc)
part_spelled (tree (YielderNode k q) ts) s AYielder is r false e = s.0 AYielder is r e
part_spelled (tree (YielderNode k q) ts) s AnItem is r true e = absurd (cc)
part_spelled (tree (ActionNode k n q) ts) s AnItem is r b e = absurd (cc)
part_spelled (tree (YielderNode k q) ts) s AnItem is r false e = s.0 AnItem is r e
part_spelled (tree (YielderNode k q) ts) s AClosure is r true e = absurd (cc)
part_spelled (tree (ActionNode k n q) ts) s AClosure is r b e = absurd (cc)
part_spelled (tree (YielderNode k q) ts) s AClosure is r false e = s.0 AClosure is r e

parts_spelled : (ts : Trees) → TreesSpelled ts → (xs : List Wanted) → Are xs ts → AreReadable ts → ArePartsOf ts xs (operand_tokens ts)
parts_spelled none s [] are r = refl
parts_spelled none s (x ∷ xs) are r = absurd are
parts_spelled (more t ts) s [] are r = absurd are
parts_spelled (more t ts) s (x ∷ xs) are r = (part_spelled t s.0 x are.0 r.0 (is_operator (label_of t)) refl, parts_spelled ts s.1 xs are.1 r.1)

length-operands : (ts : Trees) (xs : List Wanted) → Are xs ts → length (operand_tokens ts) ≡ length xs
length-operands none [] are = refl
length-operands none (x ∷ xs) are = absurd are
length-operands (more t ts) [] are = absurd are
length-operands (more t ts) (x ∷ xs) are = ap suc (length-operands ts xs are.1)

plain_spelled : (l : Label) (ts : Trees) → TreesSpelled ts → (x : Wanted) → Is x (tree l ts) → IsReadable (tree l ts) → is_operator l ≡ false → IsPlain (tree l ts) (plain_tokens (tree l ts))
plain_spelled l ts s x is r o =
    let same : woven (shape l) (operand_tokens ts) ≡ plain_tokens (tree l ts) = ap (λ ps. woven ps (operand_tokens ts)) (sym (printed_is_shape l r.0)) in
    let weave = weaves_woven (shape l) (operand_tokens ts) (length-operands ts (under l) is.1 ∙ printed_parts l o ∙ ap parts_in (printed_is_shape l r.0)) (shape_reads l (served_fits x l is.0) r.0) in
    (operand_tokens ts, parts_spelled ts s (under l) is.1 r.1, subst (λ y. Weaves (shape l) (operand_tokens ts) y) same weave)

-- the left side of an operator
left_spelled : (l : Label) (a : Tree) → TreeSpelled a → IsAction a → IsReadable a → HasOperator l → (same op : Bool) → same_words (operator_of (label_of a)) (operator_of l) ≡ same → is_operator (label_of a) ≡ op → is_operator l ≡ true
    → ((label_of a ≡ l) × IsChain a (if same then chain_tokens a else if op then open_paren ∷ (chain_tokens a ++ close_paren ∷ []) else plain_tokens a))
    ⊎ IsOperand (IsPlain a) (IsChain a) (if same then chain_tokens a else if op then open_paren ∷ (chain_tokens a ++ close_paren ∷ []) else plain_tokens a)
left_spelled l (tree m ts) s is r h true op e f g =
    let words : operator_of m ≡ operator_of l = same_words_is (operator_of m) (operator_of l) e in
    let some : is_operator m ≡ true = ap is_some_word words ∙ g in
    inl (same_operator m l (operator_served m is.0 some) h words, s.1 is r some)
left_spelled l a s is r h false op e f g = inr (part_spelled a s AnAction is r op f)

chain_spelled : (l : Label) (ts : Trees) → TreesSpelled ts → IsAction (tree l ts) → IsReadable (tree l ts) → is_operator l ≡ true → IsChain (tree l ts) (chain_tokens (tree l ts))
chain_spelled l ts s is r o = by_sides ts s (rw (operator_served l is.0 o).sides at is.1) r.1
  where
    by_sides : (ts : Trees) → TreesSpelled ts → Are (AnAction ∷ AnAction ∷ []) ts → AreReadable ts → IsChain (tree l ts) (chain_tokens (tree l ts))
    by_sides none s are r = absurd are
    by_sides (more a none) s are r = absurd are.1
    by_sides (more a (more b (more c us))) s are r = absurd are.1.1
    by_sides (more a (more b none)) s are r =
        let words = some_words (operator_of l) o in
        let left : List (List ℕ) = if same_words (operator_of (label_of a)) (operator_of l) then chain_tokens a else if is_operator (label_of a) then open_paren ∷ (chain_tokens a ++ close_paren ∷ []) else plain_tokens a in
        let right : List (List ℕ) = if is_operator (label_of b) then open_paren ∷ (chain_tokens b ++ close_paren ∷ []) else plain_tokens b in (
          left,
          words.0,
          words.1,
          right,
          ap (λ y. left ++ y ++ right) words.2,
          words.2,
          left_spelled l a s.0 are.0 r.0 (operator_served l is.0 o) (same_words (operator_of (label_of a)) (operator_of l)) (is_operator (label_of a)) refl refl o,
          part_spelled b s.1.0 AnAction are.1.0 r.1.0 (is_operator (label_of b)) refl,
        )

mutual
  tree_spelled : (t : Tree) → TreeSpelled t
  tree_spelled (tree l ts) = (λ x is r o. plain_spelled l ts (trees_spelled ts) x is r o, λ is r o. chain_spelled l ts (trees_spelled ts) is r o)

  trees_spelled : (ts : Trees) → TreesSpelled ts
  trees_spelled none = tt
  trees_spelled (more t ts) = (tree_spelled t, trees_spelled ts)

-- the canonical tokens of an action spell it
pub action_tokens_spell : (t : Tree) → IsAction t → IsReadable t → Spells t (action_tokens t)
action_tokens_spell t is r = (is, by_operator (is_operator (label_of t)) refl)
  where
    by_operator : (b : Bool) → is_operator (label_of t) ≡ b → IsActionText t (if b then chain_tokens t else plain_tokens t)
    by_operator true e = inr ((tree_spelled t).1 is r e)
    by_operator false e = inl (0, (tree_spelled t).0 AnAction is r e)
