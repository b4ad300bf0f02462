-- From the spelling of a node to the moves that read it: words, parts and chains.
use Rattle.std.proofs.Common.{◌≡◌, inl, inr, ℕ, zero, suc, true, false, List, [], ◌∷◌, ◌++◌, Some, refl, sym, ap, subst, ◌∙◌, append_assoc, append-nil, nat_eq, nat_lt, eqb-true}
use Rattle.action_text.proofs.Tests.{and_left, and_right}
use Rattle.action_terms.specs.Labels.{Wanted, AnAction, AYielder, AnItem, AClosure, items_fit, token_fits, has_no_token}
use Rattle.meta_terms.specs.Templates.{ActionTokenOf, YielderTokenOf, Applied, ValueOf, ActionNode, YielderNode, Tree, Trees, Is, Are, IsAction}
use Rattle.action_terms.specs.Trees.{tree, none, more}
use Rattle.action_terms.specs.declared.kinds.Kind.{Kind}
use Rattle.action_terms.specs.declared.kinds.Kind.TheVariants as kind
use Rattle.action_text.specs.declared.classes.Class.TheVariants as class
use Rattle.action_text.specs.Numbers.{class_number, name_number}
use Rattle.action_text.specs.declared.names.Name.TheVariants as name
use Rattle.action_text.specs.Tables.{Symbol, Read, Name, line_of, other_of, line, other}
use Rattle.action_text.specs.Shapes.{Piece, Fixed, Numeral, Quoted, Part, operator, open_paren, close_paren}
use Rattle.action_text.specs.ActionText.{IsPart, IsEnclosed, Weaves, label_of}
use Rattle.action_text.specs.TemplateText.{IsPlain, IsChain, ArePartsOf}
use Rattle.action_text.specs.Posts.{postorder, postorders}
use Rattle.action_text.specs.Notes.{Noting}
use Rattle.action_text.specs.Classes.{template_class}
use Rattle.action_text.specs.ActionTable.{template_table, template_lines, action_lines, parameter_lines, action_others}
use Rattle.action_text.proofs.Meanings.{Does, does_nothing, does_read, does_both, does_line, does_other}
use Rattle.action_text.proofs.Means.{wrote}
use Rattle.action_text.proofs.Nodes.{name_of, symbols, is_named, fits, wrote_both, wrote_nothing}
use Rattle.action_text.proofs.TemplateWords.{word_count}

-- the symbols lead from the one state over the tokens to the other
abbrev pub Goes : List Symbol → Noting → List (List ℕ) → Noting → Type 0
Goes s st ts end = Does template_table s st ts end

-- the name of what may follow an operand in a chain of the operator
abbrev pub more_of : Kind → ℕ
more_of kind.Or = (name_number name.MoreOr)
more_of kind.And = (name_number name.MoreAnd)
more_of kind.AndThen = (name_number name.MoreAndThen)
more_of kind.Then = (name_number name.MoreThen)
more_of kind.Trap = (name_number name.MoreTrap)
more_of kind.Hence = (name_number name.MoreHence)
more_of kind.Moreover = (name_number name.MoreMoreover)
more_of kind.Before = (name_number name.MoreBefore)
more_of _ = (name_number name.Operand)

-- the node is read in each place where it may stand
abbrev pub PlainGoes : Tree → Type 0
PlainGoes t = (x : Wanted) → Is x t → (ts : List (List ℕ)) → IsPlain t ts → (st : Noting) → Goes (Name (name_of x) ∷ []) st ts (wrote (postorder t) st)

-- the chain is read, and what goes it on
abbrev pub ChainGoes : Tree → Type 0
ChainGoes t = IsAction t → (k : Kind) → label_of t ≡ ActionNode k 0 [] → (ts : List (List ℕ)) → IsChain t ts → (st end : Noting) (us : List (List ℕ))
    → Goes (Name (more_of k) ∷ []) (wrote (postorder t) st) us end → Goes (Name (name_number name.Action) ∷ []) st (ts ++ us) end

abbrev pub AllGo : Trees → Type 0
AllGo none = Unit {0}
AllGo (more t ts) = PlainGoes t × ChainGoes t × AllGo ts

-- a row without a kept token, for its word
pub word_line : (n : ℕ) (w t : List ℕ) (right : List Symbol) (st end : Noting) (ts : List (List ℕ)) → line_of template_lines n (template_class w) ≡ Some (line n (template_class w) false right) → t ≡ w
    → Goes right st ts end → Goes (Name n ∷ []) st (t ∷ ts) end
word_line n w t right st end ts found same d =
    does_line template_table n (line n (template_class w) false right) st end t ts (ap (λ v. line_of template_lines n (template_class v)) same ∙ found) d

pub word_read : (w t : List ℕ) (s : List Symbol) (st end : Noting) (ts : List (List ℕ)) → t ≡ w → Goes s st ts end → Goes (Read (template_class w) ∷ s) st (t ∷ ts) end
word_read w t s st end ts same d = does_read template_table (template_class w) s st end t ts (ap template_class same) d

pub name_then : (n : ℕ) (s : List Symbol) (st mid end : Noting) (ts us : List (List ℕ)) → Goes (Name n ∷ []) st ts mid → Goes s mid us end → Goes (Name n ∷ s) st (ts ++ us) end
name_then n s st mid end ts us d e = does_both template_table (Name n ∷ []) s st mid end ts us d e

pub end_at : (s : List Symbol) (st end other : Noting) (ts : List (List ℕ)) → end ≡ other → Goes s st ts end → Goes s st ts other
end_at s st end other ts e d = subst (λ z. Goes s st ts z) e d

pub on_tokens : (s : List Symbol) (st end : Noting) (ts us : List (List ℕ)) → ts ≡ us → Goes s st ts end → Goes s st us end
on_tokens s st end ts us e d = subst (λ y. Goes s st y end) e d

-- an operator may be followed by no other one
pub more_ends : (k : Kind) (st : Noting) (w : List ℕ) (ws : List (List ℕ)) → operator k ≡ w ∷ ws → Goes (Name (more_of k) ∷ []) st [] st
unfolding other_of action_others
more_ends kind.Or st w ws e = does_other template_table (name_number name.MoreOr) [] st st [] refl (does_nothing template_table st)
more_ends kind.And st w ws e = does_other template_table (name_number name.MoreAnd) [] st st [] refl (does_nothing template_table st)
more_ends kind.AndThen st w ws e = does_other template_table (name_number name.MoreAndThen) [] st st [] refl (does_nothing template_table st)
more_ends kind.Then st w ws e = does_other template_table (name_number name.MoreThen) [] st st [] refl (does_nothing template_table st)
more_ends kind.Trap st w ws e = does_other template_table (name_number name.MoreTrap) [] st st [] refl (does_nothing template_table st)
more_ends kind.Hence st w ws e = does_other template_table (name_number name.MoreHence) [] st st [] refl (does_nothing template_table st)
more_ends kind.Moreover st w ws e = does_other template_table (name_number name.MoreMoreover) [] st st [] refl (does_nothing template_table st)
more_ends kind.Before st w ws e = does_other template_table (name_number name.MoreBefore) [] st st [] refl (does_nothing template_table st)
more_ends _ st w ws e = absurd (cc)

-- an action that is a chain has an operator for its label
pub chain_label : (t : Tree) (ts : List (List ℕ)) → IsAction t → IsChain t ts → (k : Kind) × (label_of t ≡ ActionNode k 0 []) × (w : List ℕ) × (ws : List (List ℕ)) × (operator k ≡ w ∷ ws)
chain_label (tree l none) ts is c = absurd c
chain_label (tree l (more a none)) ts is c = absurd c
chain_label (tree (YielderNode k q) (more a (more b none))) ts is c = absurd (cc)
chain_label (tree (ActionTokenOf k n t v) (more a (more b none))) ts is c = absurd (cc)
chain_label (tree (YielderTokenOf k t v) (more a (more b none))) ts is c = absurd (cc)
chain_label (tree (Applied f v) (more a (more b none))) ts is c = absurd (cc)
chain_label (tree (ValueOf v) (more a (more b none))) ts is c = absurd (cc)
chain_label (tree (ActionNode k n q) (more a (more b none))) ts is c =
    (k, operator_label k n q c.1 c.2 c.5 (and_left (items_fit k n) (token_fits k q) is.0) (and_right (items_fit k n) (token_fits k q) is.0), c.1, c.2, c.5)
  where
    no_token : (q : List ℕ) → has_no_token q ≡ true → q ≡ []
    no_token [] h = refl
    no_token (b ∷ q) h = absurd (cc)

    zero_label : (k : Kind) (n : ℕ) (q : List ℕ) → nat_eq n 0 ≡ true → has_no_token q ≡ true → ActionNode k n q ≡ ActionNode k 0 []
    zero_label k n q a b = ap (λ m. ActionNode k m q) (eqb-true n 0 a) ∙ ap (λ r. ActionNode k 0 r) (no_token q b)

    operator_label : (k : Kind) (n : ℕ) (q w : List ℕ) (ws : List (List ℕ)) → operator k ≡ w ∷ ws → items_fit k n ≡ true → token_fits k q ≡ true → ActionNode k n q ≡ ActionNode k 0 []
    operator_label kind.Or n q w ws e a b = zero_label kind.Or n q a b
    operator_label kind.And n q w ws e a b = zero_label kind.And n q a b
    operator_label kind.AndThen n q w ws e a b = zero_label kind.AndThen n q a b
    operator_label kind.Then n q w ws e a b = zero_label kind.Then n q a b
    operator_label kind.Trap n q w ws e a b = zero_label kind.Trap n q a b
    operator_label kind.Hence n q w ws e a b = zero_label kind.Hence n q a b
    operator_label kind.Moreover n q w ws e a b = zero_label kind.Moreover n q a b
    operator_label kind.Before n q w ws e a b = zero_label kind.Before n q a b
    operator_label _ n q w ws e a b = absurd (cc)
chain_label (tree l (more a (more b (more c ts)))) us is d = absurd d

-- an operand of an action is read, in any number of parentheses
pub operand_goes : (t : Tree) → PlainGoes t → ChainGoes t → IsAction t → (pairs : ℕ) (ts : List (List ℕ)) → IsEnclosed pairs (IsPlain t) (IsChain t) ts → (st : Noting)
    → Goes (Name (name_number name.Operand) ∷ []) st ts (wrote (postorder t) st)
unfolding line_of template_lines action_lines parameter_lines other_of action_others
operand_goes t p c is zero ts h st = p AnAction is ts h st
operand_goes t p c is (suc pairs) ts (inner, whole, inl h) st =
    let o = operand_goes t p c is pairs inner h st in
    let alone : Goes (Name (name_number name.Chain) ∷ []) (wrote (postorder t) st) [] (wrote (postorder t) st) =
    does_other template_table (name_number name.Chain) [] (wrote (postorder t) st) (wrote (postorder t) st) [] refl (does_nothing template_table (wrote (postorder t) st)) in
    let action : Goes (Name (name_number name.Action) ∷ []) st (inner ++ []) (wrote (postorder t) st) =
    does_other template_table (name_number name.Action) (Name (name_number name.Operand) ∷ Name (name_number name.Chain) ∷ []) st (wrote (postorder t) st) (inner ++ []) refl
    (name_then (name_number name.Operand) (Name (name_number name.Chain) ∷ []) st (wrote (postorder t) st) (wrote (postorder t) st) inner [] o alone) in
    in_parens t inner ts st whole (on_tokens (Name (name_number name.Action) ∷ []) st (wrote (postorder t) st) (inner ++ []) inner (append-nil inner) action)
  where
    in_parens : (t : Tree) (inner ts : List (List ℕ)) (st : Noting) → ts ≡ open_paren ∷ (inner ++ close_paren ∷ []) → Goes (Name (name_number name.Action) ∷ []) st inner (wrote (postorder t) st)
        → Goes (Name (name_number name.Operand) ∷ []) st ts (wrote (postorder t) st)
    in_parens t inner ts st whole d =
        on_tokens (Name (name_number name.Operand) ∷ []) st (wrote (postorder t) st) (open_paren ∷ (inner ++ close_paren ∷ [])) ts (sym whole)
        (word_line (name_number name.Operand) open_paren open_paren (Name (name_number name.Action) ∷ Read (class_number class.CloseParen) ∷ []) st (wrote (postorder t) st) (inner ++ close_paren ∷ []) refl refl
        (name_then (name_number name.Action) (Read (class_number class.CloseParen) ∷ []) st (wrote (postorder t) st) (wrote (postorder t) st) inner (close_paren ∷ []) d
        (word_read close_paren close_paren [] (wrote (postorder t) st) (wrote (postorder t) st) [] refl (does_nothing template_table (wrote (postorder t) st)))))
operand_goes t p c is (suc pairs) ts (inner, whole, inr h) st =
    let l = chain_label t inner is h in
    let action : Goes (Name (name_number name.Action) ∷ []) st (inner ++ []) (wrote (postorder t) st) =
    c is l.0 l.1 inner h st (wrote (postorder t) st) [] (more_ends l.0 (wrote (postorder t) st) l.2 l.3 l.4) in
    on_tokens (Name (name_number name.Operand) ∷ []) st (wrote (postorder t) st) (open_paren ∷ (inner ++ close_paren ∷ [])) ts (sym whole)
    (word_line (name_number name.Operand) open_paren open_paren (Name (name_number name.Action) ∷ Read (class_number class.CloseParen) ∷ []) st (wrote (postorder t) st) (inner ++ close_paren ∷ []) refl refl
    (name_then (name_number name.Action) (Read (class_number class.CloseParen) ∷ []) st (wrote (postorder t) st) (wrote (postorder t) st) inner (close_paren ∷ [])
    (on_tokens (Name (name_number name.Action) ∷ []) st (wrote (postorder t) st) (inner ++ []) inner (append-nil inner) action)
    (word_read close_paren close_paren [] (wrote (postorder t) st) (wrote (postorder t) st) [] refl (does_nothing template_table (wrote (postorder t) st)))))

-- a part is read in its place
pub part_goes : (t : Tree) → PlainGoes t → ChainGoes t → (x : Wanted) → Is x t → (ts : List (List ℕ)) → IsPart x (IsPlain t) (IsChain t) ts → (st : Noting) → Goes (Name (name_of x) ∷ []) st ts (wrote (postorder t) st)
part_goes t p c AnAction is ts h st = operand_goes t p c is h.0 ts h.1 st
part_goes t p c AYielder is ts h st = p AYielder is ts h st
part_goes t p c AnItem is ts h st = p AnItem is ts h st
part_goes t p c AClosure is ts h st = p AClosure is ts h st

-- words and parts are read
pub pieces_go : (ps : List Piece) (xs : List Wanted) (s : List Symbol) (st end : Noting) (kids : Trees) (parts : List (List (List ℕ))) (front back : List (List ℕ)) → fits ps xs ≡ true
    → AllGo kids → Are xs kids → ArePartsOf kids xs parts → Weaves ps parts front → Goes s (wrote (postorders kids) st) back end → Goes (symbols ps xs ++ s) st (front ++ back) end
pieces_go [] [] s st end none parts front back fit all are spelled woven d =
    let same : parts ≡ [] = spelled in
    let empty : front ≡ [] = subst (λ (p : List (List (List ℕ))). Weaves [] p front) same woven in
    on_tokens s st end back (front ++ back) (ap (λ y. y ++ back) (sym empty)) (subst (λ z. Goes s z back end) (wrote_nothing st) d)
pieces_go [] [] s st end (more k kids) parts front back fit all are spelled woven d = absurd are
pieces_go [] (x ∷ xs) s st end kids parts front back fit all are spelled woven d = absurd (cc)
pieces_go (Part ∷ ps) [] s st end kids parts front back fit all are spelled woven d = absurd (cc)
pieces_go (Part ∷ ps) (x ∷ xs) s st end none parts front back fit all are spelled woven d = absurd are
pieces_go (Part ∷ ps) (x ∷ xs) s st end (more k kids) [] front back fit all are spelled woven d = absurd spelled
pieces_go (Part ∷ ps) (x ∷ xs) s st end (more k kids) (part ∷ parts) front back fit all are spelled woven d =
    let one = part_goes k all.0 all.1 x are.0 part spelled.0 st in
    let moved : Goes s (wrote (postorders kids) (wrote (postorder k) st)) back end = subst (λ z. Goes s z back end) (sym (wrote_both (postorder k) (postorders kids) st)) d in
    let rest = pieces_go ps xs s (wrote (postorder k) st) end kids parts woven.0 back (and_right (is_named x) (fits ps xs) fit) all.2 are.1 spelled.1 woven.2 moved in
    on_tokens (Name (name_of x) ∷ (symbols ps xs ++ s)) st end (part ++ (woven.0 ++ back)) (front ++ back)
    (sym (append_assoc part woven.0 back) ∙ ap (λ y. y ++ back) (sym woven.1))
    (name_then (name_of x) (symbols ps xs ++ s) st (wrote (postorder k) st) end part (woven.0 ++ back) one rest)
pieces_go (Fixed w ∷ ps) xs s st end kids parts [] back fit all are spelled woven d = absurd woven
pieces_go (Fixed w ∷ ps) xs s st end kids parts (t ∷ front) back fit all are spelled woven d =
    word_read w t (symbols ps xs ++ s) st end (front ++ back) woven.0
    (pieces_go ps xs s st end kids parts front back (and_right (nat_lt (template_class w) word_count) (fits ps xs) fit) all are spelled woven.1 d)
pieces_go (Numeral z ∷ ps) xs s st end kids parts front back fit all are spelled woven d = absurd (cc)
pieces_go (Quoted q ∷ ps) xs s st end kids parts front back fit all are spelled woven d = absurd (cc)
