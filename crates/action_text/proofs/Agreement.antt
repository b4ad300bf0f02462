-- The table of action text and the grammar agree: what the one reads the other spells.
use Rattle.std.proofs.Common.{◌≡◌, ◌⊎◌, inl, inr, ℕ, zero, suc, false, List, [], ◌∷◌, ◌++◌, Some, refl, sym, ap, subst, ◌∙◌, append_assoc, append-nil, codes}
use Rattle.action_text.proofs.Tests.{and_left, and_right}
use Rattle.action_terms.specs.Labels.{AnAction, AYielder, AnItem, AClosure}
use Rattle.meta_terms.specs.Names.{is_function, is_variable}
use Rattle.meta_terms.specs.Templates.{ActionTokenOf, YielderTokenOf, Applied, ValueOf, Label, ActionNode, YielderNode, Tree, Trees, Is, Are, IsAction}
use Rattle.action_terms.specs.Trees.{tree, none, more}
use Rattle.action_terms.specs.declared.kinds.Kind.{Kind}
use Rattle.action_terms.specs.declared.kinds.Kind.TheVariants as kind
use Rattle.action_terms.specs.declared.kinds.YKind.TheVariants as ykind
use Rattle.action_text.specs.declared.table.Mark.TheVariants as mark
use Rattle.action_text.specs.declared.classes.Class.TheVariants as class
use Rattle.action_text.specs.Numbers.{class_number, name_number}
use Rattle.action_text.specs.declared.names.Name.TheVariants as name
use Rattle.action_text.specs.Tables.{Read, Emit, Name, Written, line_of, other_of, Reads, line}
use Rattle.action_text.specs.Shapes.{Fixed, Part, operator}
use Rattle.action_text.specs.ActionText.{IsOperand, label_of}
use Rattle.action_text.specs.TemplateText.{IsPlain, IsChain, Spells}
use Rattle.action_text.specs.Posts.{postorder}
use Rattle.action_text.specs.Notes.{Noting, noted}
use Rattle.action_text.specs.Classes.{template_class}
use Rattle.action_text.specs.ActionTable.{template_table, template_lines, action_lines, parameter_lines, action_others}
use Rattle.action_text.proofs.Meanings.{moves_mean, does_nothing, does_other}
use Rattle.action_text.proofs.Means.{means, wrote}
use Rattle.action_text.proofs.Chains.{IsOperator, joined, joined_labels, last_name}
use Rattle.action_text.proofs.Rows.{lines_mean, others_mean}
use Rattle.action_text.proofs.ChainRows.{op_Or, op_And, op_AndThen, op_Then, op_Trap, op_Hence, op_Moreover, op_Before}
use Rattle.action_text.proofs.Spelling.{Goes, PlainGoes, ChainGoes, AllGo, more_of, more_ends, chain_label, operand_goes, word_line, word_read, name_then, on_tokens}
use Rattle.action_text.proofs.SpeltNodes.{NodeGoes, node_goes, no_token}
use Rattle.action_text.proofs.SpeltActions.{action_goes, item_cases, action_token_goes, applied_goes}
use Rattle.action_text.proofs.SpeltYielders.{yielder_goes, yielder_token_goes, value_of_goes}

-- what the table reads spells an action, and its labels are written
pub read_is_spelled : (st : Noting) (ts : List (List ℕ)) (o : List Written) → Reads template_table (Name (name_number name.Action) ∷ []) ts o → (t : Tree) × Spells t ts × (noted o st ≡ wrote (postorder t) st)
read_is_spelled st ts o r =
    let m = last_name means (name_number name.Action) st (noted o st) ts (moves_mean template_table means lines_mean others_mean r.0 (Name (name_number name.Action) ∷ []) st ts o r.1) in
    (m.0, (m.1, m.2), m.3)

-- the rows of an operator: behind the first operand, and behind a chain of it
pub record HasRows (k : Kind) (w : List ℕ) (ws : List (List ℕ)) : Type 0 where
  pub first : (st end : Noting) (ts : List (List ℕ)) → Goes (Name (name_number name.Operand) ∷ Emit (mark.Action k) ∷ Name (more_of k) ∷ []) st ts end → Goes (Name (name_number name.Chain) ∷ []) st ((w ∷ ws) ++ ts) end
  pub next : (st end : Noting) (ts : List (List ℕ)) → Goes (Name (name_number name.Operand) ∷ Emit (mark.Action k) ∷ Name (more_of k) ∷ []) st ts end → Goes (Name (more_of k) ∷ []) st ((w ∷ ws) ++ ts) end

simple_rows : (k : Kind) (w : List ℕ) → line_of template_lines (name_number name.Chain) (template_class w) ≡ Some (line (name_number name.Chain) (template_class w) false (Name (name_number name.Operand) ∷ Emit (mark.Action k) ∷ Name (more_of k) ∷ []))
    → line_of template_lines (more_of k) (template_class w) ≡ Some (line (more_of k) (template_class w) false (Name (name_number name.Operand) ∷ Emit (mark.Action k) ∷ Name (more_of k) ∷ [])) → HasRows k w []
simple_rows k w first next = record {
  first = λ st end ts d. word_line (name_number name.Chain) w w (Name (name_number name.Operand) ∷ Emit (mark.Action k) ∷ Name (more_of k) ∷ []) st end ts first refl d;
  next = λ st end ts d. word_line (more_of k) w w (Name (name_number name.Operand) ∷ Emit (mark.Action k) ∷ Name (more_of k) ∷ []) st end ts next refl d;
}

and_rows : HasRows kind.And (codes "and") []
unfolding line_of template_lines action_lines parameter_lines other_of action_others
and_rows = record {
  first = λ st end ts d. word_line (name_number name.Chain) (codes "and") (codes "and") (Name (name_number name.AndNext) ∷ []) st end ts refl refl
      (does_other template_table (name_number name.AndNext) (Name (name_number name.Operand) ∷ Emit (mark.Action kind.And) ∷ Name (name_number name.MoreAnd) ∷ []) st end ts refl d);
  next = λ st end ts d. word_line (name_number name.MoreAnd) (codes "and") (codes "and") (Name (name_number name.Operand) ∷ Emit (mark.Action kind.And) ∷ Name (name_number name.MoreAnd) ∷ []) st end ts refl refl d;
}

and_then_rows : HasRows kind.AndThen (codes "and") (codes "then" ∷ [])
unfolding line_of template_lines action_lines parameter_lines
and_then_rows = record {
  first = λ st end ts d. word_line (name_number name.Chain) (codes "and") (codes "and") (Name (name_number name.AndNext) ∷ []) st end (codes "then" ∷ ts) refl refl
      (word_line (name_number name.AndNext) (codes "then") (codes "then") (Name (name_number name.Operand) ∷ Emit (mark.Action kind.AndThen) ∷ Name (name_number name.MoreAndThen) ∷ []) st end ts refl refl d);
  next = λ st end ts d. word_line (name_number name.MoreAndThen) (codes "and") (codes "and") (Read (class_number class.Then) ∷ Name (name_number name.Operand) ∷ Emit (mark.Action kind.AndThen) ∷ Name (name_number name.MoreAndThen) ∷ []) st end (codes "then" ∷ ts) refl refl
      (word_read (codes "then") (codes "then") (Name (name_number name.Operand) ∷ Emit (mark.Action kind.AndThen) ∷ Name (name_number name.MoreAndThen) ∷ []) st end ts refl d);
}

-- the rows of each operator
pub record Operates (k : Kind) (w : List ℕ) (ws : List (List ℕ)) : Type 0 where
  pub is : IsOperator k w ws
  pub rows : HasRows k w ws

abbrev OperatesBy : Kind → List (List ℕ) → Type 0
OperatesBy k [] = ⊥
OperatesBy k (w ∷ ws) = Operates k w ws

pub operates : (k : Kind) (w : List ℕ) (ws : List (List ℕ)) → operator k ≡ w ∷ ws → Operates k w ws
unfolding line_of template_lines action_lines parameter_lines
operates kind.Or w ws e = subst (OperatesBy kind.Or) e (record { is = op_Or; rows = simple_rows kind.Or (codes "or") refl refl })
operates kind.And w ws e = subst (OperatesBy kind.And) e (record { is = op_And; rows = and_rows })
operates kind.AndThen w ws e = subst (OperatesBy kind.AndThen) e (record { is = op_AndThen; rows = and_then_rows })
operates kind.Then w ws e = subst (OperatesBy kind.Then) e (record { is = op_Then; rows = simple_rows kind.Then (codes "then") refl refl })
operates kind.Trap w ws e = subst (OperatesBy kind.Trap) e (record { is = op_Trap; rows = simple_rows kind.Trap (codes "trap") refl refl })
operates kind.Hence w ws e = subst (OperatesBy kind.Hence) e (record { is = op_Hence; rows = simple_rows kind.Hence (codes "hence") refl refl })
operates kind.Moreover w ws e = subst (OperatesBy kind.Moreover) e (record { is = op_Moreover; rows = simple_rows kind.Moreover (codes "moreover") refl refl })
operates kind.Before w ws e = subst (OperatesBy kind.Before) e (record { is = op_Before; rows = simple_rows kind.Before (codes "before") refl refl })
operates _ w ws e = absurd (cc)

regroup : (a b c d : List (List ℕ)) → a ++ (b ++ (c ++ d)) ≡ (a ++ b ++ c) ++ d
regroup a b c d = simp append_assoc

-- an operand behind an operator, and what goes the chain on
right_goes : (k : Kind) (a b : Tree) (right us : List (List ℕ)) (st end : Noting) → Goes (Name (name_number name.Operand) ∷ []) (wrote (postorder a) st) right (wrote (postorder b) (wrote (postorder a) st))
    → Goes (Name (more_of k) ∷ []) (wrote (postorder (joined k a b)) st) us end
    → Goes (Name (name_number name.Operand) ∷ Emit (mark.Action k) ∷ Name (more_of k) ∷ []) (wrote (postorder a) st) (right ++ us) end
right_goes k a b right us st end operand onward =
    let behind : Noting = wrote (postorder b) (wrote (postorder a) st) in
    name_then (name_number name.Operand) (Emit (mark.Action k) ∷ Name (more_of k) ∷ []) (wrote (postorder a) st) behind end right us operand
    (Rattle.action_text.proofs.Meanings.does_emit template_table (mark.Action k) (Name (more_of k) ∷ []) behind end us
    (subst (λ z. Goes (Name (more_of k) ∷ []) z us end) (sym (joined_labels k a b st.labels (wrote (postorder a) st) refl)) onward))

-- a chain is read, and what goes it on
abbrev ChainStep : Kind → Tree → Type 0
ChainStep k t = IsAction t → (ts : List (List ℕ)) → IsChain t ts → (st end : Noting) (us : List (List ℕ)) → Goes (Name (more_of k) ∷ []) (wrote (postorder t) st) us end → Goes (Name (name_number name.Action) ∷ []) st (ts ++ us) end

joined_goes : (k : Kind) (a b : Tree) → PlainGoes a → ChainGoes a → PlainGoes b → ChainGoes b → ChainStep k (joined k a b)
unfolding other_of action_others
joined_goes k a b pa ca pb cb is ts (left, w, ws, right, whole, words, leftmost, rightmost) st end us onward =
    let o = operates k w ws words in
    let sides : Is AnAction a × (Is AnAction b × Unit {0}) = rw o.is.sides at is.1 in
    let tail = right_goes k a b right us st end (operand_goes b pb cb sides.1.0 rightmost.0 right rightmost.1 (wrote (postorder a) st)) onward in
    on_tokens (Name (name_number name.Action) ∷ []) st end (left ++ ((w ∷ ws) ++ (right ++ us))) (ts ++ us) (regroup left (w ∷ ws) right us ∙ ap (λ y. y ++ us) (sym whole))
    (by_left (left_of leftmost) sides.0 (o.rows.first (wrote (postorder a) st) end (right ++ us) tail) (o.rows.next (wrote (postorder a) st) end (right ++ us) tail))
  where
    left_of : ((label_of a ≡ ActionNode k 0 []) × IsChain a left) ⊎ IsOperand (IsPlain a) (IsChain a) left → ((label_of a ≡ ActionNode k 0 []) × IsChain a left) ⊎ IsOperand (IsPlain a) (IsChain a) left
    left_of l = l

    by_left : ((label_of a ≡ ActionNode k 0 []) × IsChain a left) ⊎ IsOperand (IsPlain a) (IsChain a) left → IsAction a
        → Goes (Name (name_number name.Chain) ∷ []) (wrote (postorder a) st) ((w ∷ ws) ++ (right ++ us)) end → Goes (Name (more_of k) ∷ []) (wrote (postorder a) st) ((w ∷ ws) ++ (right ++ us)) end
        → Goes (Name (name_number name.Action) ∷ []) st (left ++ ((w ∷ ws) ++ (right ++ us))) end
    by_left (inl h) is_a first next = ca is_a k h.0 left h.1 st end ((w ∷ ws) ++ (right ++ us)) next
    by_left (inr h) is_a first next =
        does_other template_table (name_number name.Action) (Name (name_number name.Operand) ∷ Name (name_number name.Chain) ∷ []) st end (left ++ ((w ∷ ws) ++ (right ++ us))) refl
        (name_then (name_number name.Operand) (Name (name_number name.Chain) ∷ []) st (wrote (postorder a) st) end left ((w ∷ ws) ++ (right ++ us)) (operand_goes a pa ca is_a h.0 left h.1 st) first)

chain_goes : (l : Label) (kids : Trees) → AllGo kids → ChainGoes (tree l kids)
chain_goes l none all is k label ts c st end us onward = absurd c
chain_goes l (more a none) all is k label ts c st end us onward = absurd c
chain_goes l (more a (more b none)) all is k label ts c st end us onward =
    let step : ChainStep k (tree l (more a (more b none))) =
    subst (λ m. ChainStep k (tree m (more a (more b none)))) (sym label) (joined_goes k a b all.0 all.1 all.2.0 all.2.1) in
    step is ts c st end us onward
chain_goes l (more a (more b (more d kids))) all is k label ts c st end us onward = absurd c

them_item : NodeGoes (name_number name.Item) (YielderNode ykind.Them [])
unfolding line_of template_lines action_lines parameter_lines
them_item = node_goes (name_number name.Item) (YielderNode ykind.Them []) (codes "them") [] (mark.Yielder ykind.Them) refl refl (λ z. refl) refl

closure_goes : NodeGoes (name_number name.Closure) (YielderNode ykind.Closure [])
unfolding line_of template_lines action_lines parameter_lines
closure_goes = node_goes (name_number name.Closure) (YielderNode ykind.Closure []) (codes "closure") (Fixed (codes "abstraction") ∷ Fixed (codes "of") ∷ Part ∷ []) (mark.Yielder ykind.Closure) refl refl (λ z. refl) refl

them_alone_goes : (kids : Trees) → Are [] kids → (ts : List (List ℕ)) → IsPlain (tree (YielderNode ykind.Them []) kids) ts → (st : Noting) → Goes (Name (name_number name.Item) ∷ []) st ts (wrote (postorder (tree (YielderNode ykind.Them []) kids)) st)
them_alone_goes none are ts p st = them_item none tt are ts p st
them_alone_goes (more k kids) are ts p st = absurd are

plain_goes : (l : Label) (kids : Trees) → AllGo kids → PlainGoes (tree l kids)
unfolding other_of action_others
plain_goes (ActionNode k n q) kids all AnAction is ts p st = action_goes k n q is.0 kids all is.1 ts p st
plain_goes (YielderNode k q) kids all AnAction is ts p st = absurd (cc)
plain_goes (ActionNode k n q) kids all AYielder is ts p st = absurd (cc)
plain_goes (YielderNode k q) kids all AYielder is ts p st = yielder_goes k q is.0 kids all is.1 ts p st
plain_goes (ActionNode k n q) kids all AnItem is ts p st = absurd (cc)
plain_goes (YielderNode k q) kids all AnItem is ts p st = by_case (item_cases (tree (YielderNode k q) kids) is)
  where
    by_case : ((under_it : Trees) × (tree (YielderNode k q) kids ≡ tree (YielderNode ykind.Them []) under_it) × Are [] under_it) ⊎ Is AYielder (tree (YielderNode k q) kids)
        → Goes (Name (name_number name.Item) ∷ []) st ts (wrote (postorder (tree (YielderNode k q) kids)) st)
    by_case (inl h) =
        subst (λ u. Goes (Name (name_number name.Item) ∷ []) st ts (wrote (postorder u) st)) (sym h.1) (them_alone_goes h.0 h.2 ts (subst (λ u. IsPlain u ts) h.1 p) st)
    by_case (inr h) =
        does_other template_table (name_number name.Item) (Name (name_number name.Yielder) ∷ []) st (wrote (postorder (tree (YielderNode k q) kids)) st) ts refl (yielder_goes k q h.0 kids all h.1 ts p st)
plain_goes (ActionNode k n q) kids all AClosure is ts p st = absurd (cc)
plain_goes (ActionTokenOf k zero [] q) kids all AnAction is ts p st = action_token_goes k q is.0 kids all is.1 ts p st
plain_goes (ActionTokenOf k zero (b ∷ o) q) kids all AnAction is ts p st = absurd (cc)
plain_goes (ActionTokenOf k (suc n) o q) kids all AnAction is ts p st = absurd (cc)
plain_goes (ActionTokenOf k n o q) kids all AYielder is ts p st = absurd (cc)
plain_goes (ActionTokenOf k n o q) kids all AnItem is ts p st = absurd (cc)
plain_goes (ActionTokenOf k n o q) kids all AClosure is ts p st = absurd (cc)
plain_goes (Applied f q) kids all AnAction is ts p st = applied_goes f q (and_left (is_function f) (is_variable q) is.0) (and_right (is_function f) (is_variable q) is.0) kids all is.1 ts p st
plain_goes (Applied f q) kids all AYielder is ts p st = absurd (cc)
plain_goes (Applied f q) kids all AnItem is ts p st = absurd (cc)
plain_goes (Applied f q) kids all AClosure is ts p st = absurd (cc)
plain_goes (YielderTokenOf k o q) kids all AnAction is ts p st = absurd (cc)
plain_goes (YielderTokenOf k [] q) kids all AYielder is ts p st = yielder_token_goes k q is.0 kids all is.1 ts p st
plain_goes (YielderTokenOf k (b ∷ o) q) kids all AYielder is ts p st = absurd (cc)
plain_goes (YielderTokenOf k [] q) kids all AnItem is ts p st =
    does_other template_table (name_number name.Item) (Name (name_number name.Yielder) ∷ []) st (wrote (postorder (tree (YielderTokenOf k [] q) kids)) st) ts refl (yielder_token_goes k q is.0 kids all is.1 ts p st)
plain_goes (YielderTokenOf k (b ∷ o) q) kids all AnItem is ts p st = absurd (cc)
plain_goes (YielderTokenOf k o q) kids all AClosure is ts p st = absurd (cc)
plain_goes (ValueOf q) kids all AnAction is ts p st = absurd (cc)
plain_goes (ValueOf q) kids all AYielder is ts p st = value_of_goes q is.0 kids all is.1 ts p st
plain_goes (ValueOf q) kids all AnItem is ts p st =
    does_other template_table (name_number name.Item) (Name (name_number name.Yielder) ∷ []) st (wrote (postorder (tree (ValueOf q) kids)) st) ts refl (value_of_goes q is.0 kids all is.1 ts p st)
plain_goes (ValueOf q) kids all AClosure is ts p st = absurd (cc)
plain_goes (YielderNode ykind.Closure q) kids all AClosure is ts p st =
    Rattle.action_text.proofs.SpeltNodes.bare_yielder (name_number name.Closure) ykind.Closure q is.0 closure_goes kids all is.1 ts p st
plain_goes (YielderNode _ q) kids all AClosure is ts p st = absurd (cc)

mutual
  tree_goes : (t : Tree) → PlainGoes t × ChainGoes t
  tree_goes (tree l kids) = (plain_goes l kids (trees_go kids), chain_goes l kids (trees_go kids))

  trees_go : (ts : Trees) → AllGo ts
  trees_go none = tt
  trees_go (more t ts) = ((tree_goes t).0, (tree_goes t).1, trees_go ts)

-- what spells an action is read by the table, and its labels are written
pub spelled_is_read : (t : Tree) (ts : List (List ℕ)) → Spells t ts → (st : Noting) → Goes (Name (name_number name.Action) ∷ []) st ts (wrote (postorder t) st)
unfolding other_of action_others
spelled_is_read t ts (is, inl o) st =
    let both = tree_goes t in
    let end : Noting = wrote (postorder t) st in
    on_tokens (Name (name_number name.Action) ∷ []) st end (ts ++ []) ts (append-nil ts)
    (does_other template_table (name_number name.Action) (Name (name_number name.Operand) ∷ Name (name_number name.Chain) ∷ []) st end (ts ++ []) refl
    (name_then (name_number name.Operand) (Name (name_number name.Chain) ∷ []) st end end ts [] (operand_goes t both.0 both.1 is o.0 ts o.1 st)
    (does_other template_table (name_number name.Chain) [] end end [] refl (does_nothing template_table end))))
spelled_is_read t ts (is, inr c) st =
    let both = tree_goes t in
    let l = chain_label t ts is c in
    on_tokens (Name (name_number name.Action) ∷ []) st (wrote (postorder t) st) (ts ++ []) ts (append-nil ts)
    (both.1 is l.0 l.1 ts c st (wrote (postorder t) st) [] (more_ends l.0 (wrote (postorder t) st) l.2 l.3 l.4))
