-- Chains: an operand behind an operator goes a chain on.
use Rattle.std.proofs.Common.{◌≡◌, ◌⊎◌, inl, inr, ℕ, true, List, [], ◌∷◌, ◌++◌, refl, sym, ap, subst, ◌∙◌, append_assoc, append-nil}
use Rattle.action_terms.specs.Labels.{AnAction}
use Rattle.meta_terms.specs.Templates.{Label, ActionNode, under, serves, Tree, IsAction}
use Rattle.action_terms.specs.Trees.{tree, none, more}
use Rattle.action_terms.specs.declared.kinds.Kind.{Kind}
use Rattle.action_text.specs.Tables.{Name}
use Rattle.action_text.specs.declared.table.Mark.TheVariants as mark
use Rattle.action_text.specs.Shapes.{operator}
use Rattle.action_text.specs.ActionText.{IsOperand, label_of}
use Rattle.action_text.specs.TemplateText.{IsPlain, IsChain, IsActionText}
use Rattle.action_text.specs.Posts.{postorder}
use Rattle.action_text.specs.Notes.{Noting, marked}
use Rattle.action_text.specs.ActionTable.{template_table}
use Rattle.action_text.proofs.Meanings.{Meant, Meaning}
use Rattle.action_text.proofs.Means.{wrote, replaced, MeansPart, MeansAction, MeansChain, MeansMore}

-- the two sides of an operator
abbrev pub joined : Kind → Tree → Tree → Tree
joined k a b = tree (ActionNode k 0 []) (more a (more b none))

-- an operator is an action of two actions
pub record IsOperator (k : Kind) (w : List ℕ) (ws : List (List ℕ)) : Type 0 where
  pub spelled : operator k ≡ w ∷ ws
  pub sides : under (ActionNode k 0 []) ≡ AnAction ∷ AnAction ∷ []
  pub serves : serves AnAction (ActionNode k 0 []) ≡ true

pub joined_is : (k : Kind) (w : List ℕ) (ws : List (List ℕ)) (a b : Tree) → IsOperator k w ws → IsAction a → IsAction b → IsAction (joined k a b)
joined_is k w ws a b op p q = (op.serves, rw op.sides (p, (q, tt)))

-- the labels of both sides and of the operator
pub joined_labels : (k : Kind) (a b : Tree) (ls : List Label) (st : Noting) → st.labels ≡ ls ++ postorder a
    → marked (mark.Action k) (wrote (postorder b) st) ≡ replaced ls (postorder (joined k a b)) st
joined_labels k a b ls st e =
    ap (λ (l : List Label). let r : Noting = record { notes = st.notes; labels = l } in r)
    (ap (λ l. (l ++ postorder b) ++ ActionNode k 0 [] ∷ []) e ∙ regroup ls (postorder a) (postorder b) (ActionNode k 0 []))
  where
    regroup : (ls a b : List Label) (l : Label) → ((ls ++ a) ++ b) ++ l ∷ [] ≡ ls ++ ((a ++ (b ++ [])) ++ l ∷ [])
    regroup ls a b l = simp (append_assoc, append-nil)

-- a chain, from its last operator on
pub chain_of : (k : Kind) (w : List ℕ) (ws : List (List ℕ)) (a b : Tree) (left right : List (List ℕ)) → IsOperator k w ws
    → (((label_of a ≡ ActionNode k 0 []) × IsChain a left) ⊎ IsOperand (IsPlain a) (IsChain a) left) → IsOperand (IsPlain b) (IsChain b) right
    → IsChain (joined k a b) (left ++ (w ∷ ws) ++ right)
chain_of k w ws a b left right op l r = (left, w, ws, right, refl, op.spelled, l, r)

regroup_five : (a b c d e : List (List ℕ)) → (a ++ (b ++ c) ++ d) ++ e ≡ a ++ (b ++ (c ++ (d ++ e)))
regroup_five a b c d e = simp append_assoc

regroup_four : (a b c d : List (List ℕ)) → (a ++ b ++ c) ++ d ≡ a ++ (b ++ (c ++ d))
regroup_four a b c d = simp append_assoc

-- an operand behind the first operator, and what goes the chain on
pub chain_begins : (k : Kind) (w : List ℕ) (ws between : List (List ℕ)) (st end : Noting) (front back gap : List (List ℕ)) → IsOperator k w ws
    → between ++ gap ≡ w ∷ ws → (mid : Noting) → MeansPart AnAction st front mid → MeansMore k (marked (mark.Action k) mid) back end
    → MeansChain between st (gap ++ (front ++ back)) end
chain_begins k w ws between st end front back gap op words mid part onward ls a is labels =
    let b : Tree = part.0 in
    let now : marked (mark.Action k) mid ≡ replaced ls (postorder (joined k a b)) st =
    ap (marked (mark.Action k)) part.3 ∙ joined_labels k a b ls st labels in
    let m = onward ls (joined k a b) (joined_is k w ws a b op is part.1) refl (ap (λ (z : Noting). z.labels) now) in (
      m.0,
      m.1,
      m.2 ∙ ap (λ (z : Noting). replaced ls (postorder m.0) z) now,
      λ left h. inr (subst (λ ts. IsChain m.0 ts) (tokens left) (m.3 (left ++ (w ∷ ws) ++ front) (chain_of k w ws a b left front op (inr h) part.2))),
    )
  where
    tokens : (left : List (List ℕ)) → (left ++ (w ∷ ws) ++ front) ++ back ≡ left ++ (between ++ (gap ++ (front ++ back)))
    tokens left = ap (λ y. (left ++ y ++ front) ++ back) (sym words) ∙ regroup_five left between gap front back

-- one more operand of a chain
pub chain_goes_on : (k : Kind) (w : List ℕ) (ws : List (List ℕ)) (st end : Noting) (front back : List (List ℕ)) → IsOperator k w ws
    → (mid : Noting) → MeansPart AnAction st front mid → MeansMore k (marked (mark.Action k) mid) back end
    → MeansMore k st ((w ∷ ws) ++ (front ++ back)) end
chain_goes_on k w ws st end front back op mid part onward ls a is label labels =
    let b : Tree = part.0 in
    let now : marked (mark.Action k) mid ≡ replaced ls (postorder (joined k a b)) st =
    ap (marked (mark.Action k)) part.3 ∙ joined_labels k a b ls st labels in
    let m = onward ls (joined k a b) (joined_is k w ws a b op is part.1) refl (ap (λ (z : Noting). z.labels) now) in (
      m.0,
      m.1,
      m.2 ∙ ap (λ (z : Noting). replaced ls (postorder m.0) z) now,
      λ left h. subst (λ ts. IsChain m.0 ts) (regroup_four left (w ∷ ws) front back) (m.3 (left ++ (w ∷ ws) ++ front) (chain_of k w ws a b left front op (inl (label, h)) part.2)),
    )

same_state : (st : Noting) (ls new : List Label) → st.labels ≡ ls ++ new → st ≡ replaced ls new st
same_state st ls new e = ap (λ l. let r : Noting = record { notes = st.notes; labels = l } in r) e

-- a chain may end
pub chain_ends : (k : Kind) (st end : Noting) (ts : List (List ℕ)) → ts ≡ [] → end ≡ st → MeansMore k st ts end
chain_ends k st end ts nothing same ls a is label labels =
    (a, is, same ∙ same_state st ls (postorder a) labels, λ left h. subst (λ y. IsChain a (left ++ y)) (sym nothing) (subst (λ y. IsChain a y) (sym (append-nil left)) h))

-- an action may be one operand
pub operand_alone : (st end : Noting) (ts : List (List ℕ)) → ts ≡ [] → end ≡ st → MeansChain [] st ts end
operand_alone st end ts nothing same ls a is labels =
    (a, is, same ∙ same_state st ls (postorder a) labels, λ left h. inl (subst (λ y. IsOperand (IsPlain a) (IsChain a) (left ++ y)) (sym nothing) (subst (λ y. IsOperand (IsPlain a) (IsChain a) y) (sym (append-nil left)) h)))

-- the last name of a right side
pub last_name : (M : Meant) (n : ℕ) (st end : Noting) (ts : List (List ℕ)) → Meaning template_table M (Name n ∷ []) st ts end → M n st ts end
last_name M n st end ts h =
    let whole : ts ≡ h.0 = h.3 ∙ ap (λ y. h.0 ++ y) h.5.0 ∙ append-nil h.0 in
    subst (λ y. M n st y end) (sym whole) (subst (λ z. M n st h.0 z) (sym h.5.1) h.4)

-- an action is an operand and what may follow it
pub action_row : (st end : Noting) (ts : List (List ℕ)) → (front back : List (List ℕ)) (mid : Noting) → ts ≡ front ++ back → MeansPart AnAction st front mid → MeansChain [] mid back end → MeansAction st ts end
action_row st end ts front back mid cut part chain =
    let m = chain st.labels part.0 part.1 (ap (λ (z : Noting). z.labels) part.3) in
    (m.0, m.1, subst (λ y. IsActionText m.0 y) (sym cut) (m.3 front part.2), m.2 ∙ ap (λ (z : Noting). replaced st.labels (postorder m.0) z) part.3)
