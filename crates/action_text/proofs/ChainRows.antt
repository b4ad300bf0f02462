-- The rows of chains and of actions in parentheses do what their names mean.
use Rattle.std.proofs.Common.{◌≡◌, inl, inr, ℕ, suc, true, false, List, [], ◌∷◌, ◌++◌, refl, sym, ap, subst, ◌∙◌, codes, nat_lt}
use Rattle.action_terms.specs.Labels.{AnAction}
use Rattle.meta_terms.specs.Templates.{Tree}
use Rattle.action_terms.specs.declared.kinds.Kind.{Kind}
use Rattle.action_terms.specs.declared.kinds.Kind.TheVariants as kind
use Rattle.action_text.specs.Tables.{Read, Emit, Name, line, other}
use Rattle.action_text.specs.declared.table.Mark.TheVariants as mark
use Rattle.action_text.specs.declared.classes.Class.TheVariants as class
use Rattle.action_text.specs.Numbers.{class_number, name_number}
use Rattle.action_text.specs.declared.names.Name.TheVariants as name
use Rattle.action_text.specs.Shapes.{open_paren, close_paren}
use Rattle.action_text.specs.ActionText.{IsOperand}
use Rattle.action_text.specs.TemplateText.{IsPlain, IsChain, IsActionText}
use Rattle.action_text.specs.Notes.{Noting, marked}
use Rattle.action_text.specs.Classes.{template_class}
use Rattle.action_text.specs.ActionTable.{template_table}
use Rattle.action_text.proofs.Meanings.{Meaning, LineMeans, OtherMeans}
use Rattle.action_text.proofs.Means.{means, MeansPart, MeansChain, MeansMore}
use Rattle.action_text.proofs.TemplateWords.{word_count, is_word_of}
use Rattle.action_text.proofs.Chains.{IsOperator, chain_begins, chain_goes_on, last_name, action_row}

pub op_Or : IsOperator kind.Or (codes "or") []
op_Or = record { spelled = refl; sides = refl; serves = refl }

pub op_And : IsOperator kind.And (codes "and") []
op_And = record { spelled = refl; sides = refl; serves = refl }

pub op_AndThen : IsOperator kind.AndThen (codes "and") (codes "then" ∷ [])
op_AndThen = record { spelled = refl; sides = refl; serves = refl }

pub op_Then : IsOperator kind.Then (codes "then") []
op_Then = record { spelled = refl; sides = refl; serves = refl }

pub op_Trap : IsOperator kind.Trap (codes "trap") []
op_Trap = record { spelled = refl; sides = refl; serves = refl }

pub op_Hence : IsOperator kind.Hence (codes "hence") []
op_Hence = record { spelled = refl; sides = refl; serves = refl }

pub op_Moreover : IsOperator kind.Moreover (codes "moreover") []
op_Moreover = record { spelled = refl; sides = refl; serves = refl }

pub op_Before : IsOperator kind.Before (codes "before") []
op_Before = record { spelled = refl; sides = refl; serves = refl }

-- the first operator of a chain
pub chain_row : (k : Kind) (w : List ℕ) (n : ℕ) → IsOperator k w [] → ((st : Noting) (ts : List (List ℕ)) (end : Noting) → means n st ts end → MeansMore k st ts end) → nat_lt (template_class w) word_count ≡ true
    → (t : List ℕ) (st end : Noting) (ts : List (List ℕ)) → template_class t ≡ template_class w → Meaning template_table means (Name (name_number name.Operand) ∷ Emit (mark.Action k) ∷ Name n ∷ []) st ts end → MeansChain [] st (t ∷ ts) end
chain_row k w n op conv word t st end ts e h =
    let onward = conv (marked (mark.Action k) h.2) h.1 end (last_name means n (marked (mark.Action k) h.2) end h.1 h.5) in
    let tokens : w ∷ (h.0 ++ h.1) ≡ t ∷ ts = ap (λ v. v ∷ (h.0 ++ h.1)) (sym (is_word_of t w e word)) ∙ ap (λ y. t ∷ y) (sym h.3) in
    subst (λ y. MeansChain [] st y end) tokens (chain_begins k w [] [] st end h.0 h.1 (w ∷ []) op refl h.2 h.4 onward)

pub more_row : (k : Kind) (w : List ℕ) (n : ℕ) → IsOperator k w [] → ((st : Noting) (ts : List (List ℕ)) (end : Noting) → means n st ts end → MeansMore k st ts end) → nat_lt (template_class w) word_count ≡ true
    → (t : List ℕ) (st end : Noting) (ts : List (List ℕ)) → template_class t ≡ template_class w → Meaning template_table means (Name (name_number name.Operand) ∷ Emit (mark.Action k) ∷ Name n ∷ []) st ts end → MeansMore k st (t ∷ ts) end
more_row k w n op conv word t st end ts e h =
    let onward = conv (marked (mark.Action k) h.2) h.1 end (last_name means n (marked (mark.Action k) h.2) end h.1 h.5) in
    let tokens : w ∷ (h.0 ++ h.1) ≡ t ∷ ts = ap (λ v. v ∷ (h.0 ++ h.1)) (sym (is_word_of t w e word)) ∙ ap (λ y. t ∷ y) (sym h.3) in
    subst (λ y. MeansMore k st y end) tokens (chain_goes_on k w [] st end h.0 h.1 op h.2 h.4 onward)

pub chain_and : LineMeans template_table means (line (name_number name.Chain) (class_number class.And) false (Name (name_number name.AndNext) ∷ []))
chain_and t st end ts e h ls a is labels =
    let m = last_name means (name_number name.AndNext) st end ts h ls a is labels in
    let word : t ≡ codes "and" = is_word_of t (codes "and") e refl in
    (m.0, m.1, m.2, λ left o. subst (λ v. IsActionText m.0 (left ++ (v ∷ ts))) (sym word) (m.3 left o))

pub and_next_then : LineMeans template_table means (line (name_number name.AndNext) (class_number class.Then) false (Name (name_number name.Operand) ∷ Emit (mark.Action kind.AndThen) ∷ Name (name_number name.MoreAndThen) ∷ []))
and_next_then t st end ts e h =
    let onward = last_name means (name_number name.MoreAndThen) (marked (mark.Action kind.AndThen) h.2) end h.1 h.5 in
    let tokens : codes "then" ∷ (h.0 ++ h.1) ≡ t ∷ ts = ap (λ v. v ∷ (h.0 ++ h.1)) (sym (is_word_of t (codes "then") e refl)) ∙ ap (λ y. t ∷ y) (sym h.3) in
    subst (λ y. MeansChain (codes "and" ∷ []) st y end) tokens
    (chain_begins kind.AndThen (codes "and") (codes "then" ∷ []) (codes "and" ∷ []) st end h.0 h.1 (codes "then" ∷ []) op_AndThen refl h.2 h.4 onward)

pub and_next_other : OtherMeans template_table means (other (name_number name.AndNext) (Name (name_number name.Operand) ∷ Emit (mark.Action kind.And) ∷ Name (name_number name.MoreAnd) ∷ []))
and_next_other st end ts h =
    let onward = last_name means (name_number name.MoreAnd) (marked (mark.Action kind.And) h.2) end h.1 h.5 in
    subst (λ y. MeansChain (codes "and" ∷ []) st y end) (sym h.3)
    (chain_begins kind.And (codes "and") [] (codes "and" ∷ []) st end h.0 h.1 [] op_And refl h.2 h.4 onward)

pub more_and_then : LineMeans template_table means (line (name_number name.MoreAndThen) (class_number class.And) false (Read (class_number class.Then) ∷ Name (name_number name.Operand) ∷ Emit (mark.Action kind.AndThen) ∷ Name (name_number name.MoreAndThen) ∷ []))
more_and_then t st end [] e h = absurd h
more_and_then t st end (u ∷ ts) e h =
    let n = h.1 in
    let onward = last_name means (name_number name.MoreAndThen) (marked (mark.Action kind.AndThen) n.2) end n.1 n.5 in
    let first : t ≡ codes "and" = is_word_of t (codes "and") e refl in
    let second : u ≡ codes "then" = is_word_of u (codes "then") h.0 refl in
    let tokens : codes "and" ∷ codes "then" ∷ (n.0 ++ n.1) ≡ t ∷ u ∷ ts =
    ap (λ v. v ∷ codes "then" ∷ (n.0 ++ n.1)) (sym first) ∙ ap (λ v. t ∷ v ∷ (n.0 ++ n.1)) (sym second) ∙ ap (λ y. t ∷ u ∷ y) (sym n.3) in
    subst (λ y. MeansMore kind.AndThen st y end) tokens (chain_goes_on kind.AndThen (codes "and") (codes "then" ∷ []) st end n.0 n.1 op_AndThen n.2 n.4 onward)

pub action_other : OtherMeans template_table means (other (name_number name.Action) (Name (name_number name.Operand) ∷ Name (name_number name.Chain) ∷ []))
action_other st end ts h = action_row st end ts h.0 h.1 h.2 h.3 h.4 (last_name means (name_number name.Chain) h.2 end h.1 h.5)

-- an action in parentheses
pub enclosed : (t : Tree) (inner : List (List ℕ)) → IsActionText t inner → IsOperand (IsPlain t) (IsChain t) (open_paren ∷ (inner ++ close_paren ∷ []))
enclosed t inner (inl o) = (suc o.0, (inner, refl, inl o.1))
enclosed t inner (inr c) = (1, (inner, refl, inr c))

pub operand_paren : LineMeans template_table means (line (name_number name.Operand) (class_number class.OpenParen) false (Name (name_number name.Action) ∷ Read (class_number class.CloseParen) ∷ []))
operand_paren t st end ts e h = closed h.1 h.3 h.5
  where
    closed : (back : List (List ℕ)) → ts ≡ h.0 ++ back → Meaning template_table means (Read (class_number class.CloseParen) ∷ []) h.2 back end → MeansPart AnAction st (t ∷ ts) end
    closed [] cut m = absurd m
    closed (u ∷ us) cut m =
        let a = h.4 in
        let open_is : t ≡ open_paren = is_word_of t open_paren e refl in
        let close_is : u ≡ close_paren = is_word_of u close_paren m.0 refl in
        let tokens : open_paren ∷ (h.0 ++ close_paren ∷ []) ≡ t ∷ ts =
        ap (λ v. v ∷ (h.0 ++ close_paren ∷ [])) (sym open_is) ∙ ap (λ v. t ∷ (h.0 ++ v ∷ [])) (sym close_is)
        ∙ ap (λ y. t ∷ (h.0 ++ u ∷ y)) (sym m.1.0) ∙ ap (λ y. t ∷ y) (sym cut) in
        (a.0, a.1, subst (λ y. IsOperand (IsPlain a.0) (IsChain a.0) y) tokens (enclosed a.0 h.0 a.2), m.1.1 ∙ a.3)
