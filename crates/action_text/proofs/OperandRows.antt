-- The rows of operands do what their names mean.
use Rattle.std.proofs.Common.{◌≡◌, inl, inr, ℕ, Bool, true, false, ◌==◌, eqb-true, if◌then◌else◌, List, [], ◌∷◌, ◌++◌, refl, sym, ap, subst, ◌∙◌, append_assoc, append-nil, codes, nat_lt}
use Rattle.std.proofs.lemmas.Bool.{and_from}
use Rattle.action_text.proofs.Tests.{and_left}
use Rattle.action_terms.specs.Labels.{AnAction, AnItem, copies}
use Rattle.meta_terms.specs.Names.{is_function, is_variable}
use Rattle.meta_terms.specs.Templates.{Label, ActionNode, ActionTokenOf, Applied, ValueOf, under, serves, Trees, Are}
use Rattle.action_terms.specs.Trees.{tree, none, more}
use Rattle.action_terms.specs.declared.kinds.Kind.{Kind}
use Rattle.action_terms.specs.declared.kinds.Kind.TheVariants as kind
use Rattle.action_text.specs.declared.table.Mark.TheVariants as mark
use Rattle.action_text.specs.declared.classes.Class.TheVariants as class
use Rattle.action_text.specs.Numbers.{class_number, name_number}
use Rattle.action_text.specs.declared.names.Name.TheVariants as name
use Rattle.action_text.specs.Shapes.{Fixed, Part, items}
use Rattle.action_text.specs.TemplateText.{shape, IsPlain, ArePartsOf}
use Rattle.action_text.specs.ActionText.{Weaves}
use Rattle.action_text.specs.Posts.{postorder, postorders}
use Rattle.action_text.specs.Notes.{Noting, marked, note, unquoted, action_with, begins_quoted}
use Rattle.action_text.specs.Classes.{template_class}
use Rattle.action_text.specs.ActionTable.{template_table}
use Rattle.action_text.proofs.Meanings.{Meaning, LineMeans}
use Rattle.action_text.proofs.Means.{means, wrote, MeansPart, MeansRest, IsTokenForm}
use Rattle.action_text.proofs.TemplateWords.{word_count, is_word_of, quoted_of_class, function_of_class, variable_of_class, value_of_class, token_of_class}
use Rattle.meta_lex.specs.Forms.{is_quoted, is_closed}
use Rattle.action_text.specs.Tables.{Read, Keep, Emit, Name, Token, line}
use Rattle.action_text.proofs.QuotedTokens.{quoted_is}
use Rattle.action_text.proofs.Nodes.{noted_node}
use Rattle.action_text.proofs.Chains.{last_name}

-- what stands behind the first word of a node
pub rest_operand : (n : ℕ) (w : List ℕ) → ((st : Noting) (ts : List (List ℕ)) (end : Noting) → means n st ts end → MeansRest AnAction (w ∷ []) st ts end) → nat_lt (template_class w) word_count ≡ true
    → (t : List ℕ) (st end : Noting) (ts : List (List ℕ)) → template_class t ≡ template_class w → Meaning template_table means (Name n ∷ []) st ts end → MeansPart AnAction st (t ∷ ts) end
rest_operand n w conv word t st end ts e h =
    let m = conv st ts end (last_name means n st end ts h) in
    (m.0, m.1, (0, subst (λ v. IsPlain m.0 (v ∷ ts)) (sym (is_word_of t w e word)) m.2), m.3)

pub operand_escape : LineMeans template_table means (line (name_number name.Operand) (class_number class.Escape) false (Name (name_number name.Escaped) ∷ []))
operand_escape t st end ts e h = rest_operand (name_number name.Escaped) (codes "escape") (λ z u v m. m) refl t st end ts e h

pub operand_enact : LineMeans template_table means (line (name_number name.Operand) (class_number class.Enact) false (Name (name_number name.Enacted) ∷ []))
operand_enact t st end ts e h = rest_operand (name_number name.Enacted) (codes "enact") (λ z u v m. m) refl t st end ts e h

-- a node with data: its labels and the number of its items
pub record IsDataKind (k : Kind) : Type 0 where
  pub under_is : (n : ℕ) → under (ActionNode k n []) ≡ copies n AnItem
  pub serves_is : (n : ℕ) → serves AnAction (ActionNode k n []) ≡ true

pub give_items : IsDataKind kind.Give
give_items = record { under_is = λ n. refl; serves_is = λ n. refl }

-- data, and then the mark of a node that has it
pub record HasData (k : Kind) (st : Noting) (ts : List (List ℕ)) (end : Noting) : Type 0 where
  pub number : ℕ
  pub kids : Trees
  pub parts : List (List (List ℕ))
  pub sorts : Are (copies number AnItem) kids
  pub spelled : ArePartsOf kids (copies number AnItem) parts
  pub woven : Weaves (items number) parts ts
  pub written : end ≡ wrote (postorders kids ++ ActionNode k number [] ∷ []) st

pub has_data : (k : Kind) (st end : Noting) (ts : List (List ℕ)) → Meaning template_table means (Name (name_number name.Data) ∷ Emit (mark.ActionWithItems k) ∷ []) st ts end → HasData k st ts end
has_data k st end ts h =
    let d = h.4 in
    let whole : ts ≡ h.0 = h.3 ∙ ap (λ y. h.0 ++ y) h.5.0 ∙ append-nil h.0 in
    record {
      number = d.0;
      kids = d.1;
      parts = d.2;
      sorts = d.3;
      spelled = d.4;
      woven = subst (λ (y : List (List ℕ)). Weaves (items d.0) d.2 y) (sym whole) d.5;
      written = h.5.1 ∙ ap (marked (mark.ActionWithItems k)) d.6
          ∙ ap (λ ls. let r : Noting = record { notes = st.notes; labels = ls } in r) (append_assoc st.labels (postorders d.1) (ActionNode k d.0 [] ∷ []));
    }

pub data_row : (k : Kind) (w : List ℕ) → IsDataKind k → ((n : ℕ) → shape (ActionNode k n []) ≡ Fixed w ∷ items n) → nat_lt (template_class w) word_count ≡ true
    → (t : List ℕ) (st end : Noting) (ts : List (List ℕ)) → template_class t ≡ template_class w
    → Meaning template_table means (Name (name_number name.Data) ∷ Emit (mark.ActionWithItems k) ∷ []) st ts end → MeansPart AnAction st (t ∷ ts) end
data_row k w is form word t st end ts e h =
    let d = has_data k st end ts h in
    let l : Label = ActionNode k d.number [] in
    let spell : Weaves (shape l) d.parts (t ∷ ts) = rw (form d.number) (is_word_of t w e word, d.woven) in
    let kids_are : Are (under l) d.kids = rw (is.under_is d.number) d.sorts in
    let kids_spelled : ArePartsOf d.kids (under l) d.parts = rw (is.under_is d.number) d.spelled in
    (tree l d.kids, (is.serves_is d.number, kids_are), (0, (d.parts, kids_spelled, spell)), d.written)

pub operand_give : LineMeans template_table means (line (name_number name.Operand) (class_number class.Give) false (Name (name_number name.Data) ∷ Emit (mark.ActionWithItems kind.Give) ∷ []))
operand_give t st end ts e h = data_row kind.Give (codes "give") give_items (λ n. refl) refl t st end ts e h

pub escaped_with : LineMeans template_table means (line (name_number name.Escaped) (class_number class.With) false (Name (name_number name.Data) ∷ Emit (mark.ActionWithItems kind.EscapeWith) ∷ []))
escaped_with t st end ts e h =
    let d = has_data kind.EscapeWith st end ts h in
    (tree (ActionNode kind.EscapeWith d.number []) d.kids, (refl, d.sorts), (d.parts, d.spelled, (refl, (is_word_of t (codes "with") e refl, d.woven))), d.written)

-- a variable doesn't begin with a quote
pub variable_unquoted : (t : List ℕ) → is_variable t ≡ true → begins_quoted t ≡ false
variable_unquoted [] h = refl
variable_unquoted (b ∷ rest) h = pick (b == 34) refl
  where
    never : (b == 34) ≡ true → ⊥
    never e = let s : b ≡ 34 = eqb-true b 34 e in let v : is_variable (34 ∷ rest) ≡ true = rw s at h in cc

    pick : (x : Bool) → (b == 34) ≡ x → x ≡ false
    pick true e = absurd (never e)
    pick false e = refl

-- a quoted text does
pub quoted_begins : (t : List ℕ) → is_quoted t ≡ true → begins_quoted t ≡ true
quoted_begins [] h = absurd (cc)
quoted_begins (b ∷ rest) h = and_left (b == 34) (is_closed rest) h

pub with_quoted : (k : Kind) (kept : List ℕ) → is_quoted kept ≡ true → action_with k kept ≡ ActionNode k 0 (unquoted kept)
with_quoted k kept q = ap (λ b. if b then ActionNode k 0 (unquoted kept) else ActionTokenOf k 0 [] kept) (quoted_begins kept q)

pub with_variable : (k : Kind) (kept : List ℕ) → is_variable kept ≡ true → action_with k kept ≡ ActionTokenOf k 0 [] kept
with_variable k kept v = ap (λ b. if b then ActionNode k 0 (unquoted kept) else ActionTokenOf k 0 [] kept) (variable_unquoted kept v)

-- the mark of a node with the token that was kept
pub with_mark : (k : Kind) (kept : List ℕ) (l : Label) (st : Noting) → action_with k kept ≡ l → (ls : List Label)
    → marked (mark.ActionWithToken k) (record { notes = (note (Token kept) st).notes; labels = ls }) ≡ record { notes = st.notes; labels = ls ++ l ∷ [] }
with_mark k kept l st e ls = ap (λ x. let r : Noting = record { notes = st.notes; labels = ls ++ x ∷ [] } in r) e

-- a token, a word, and a part
bind_row : (t v kept : List ℕ) (st end : Noting) (front us : List (List ℕ)) → t ≡ codes "bind" → v ≡ codes "to" → IsTokenForm kept front
    → Meaning template_table means (Name (name_number name.Yielder) ∷ Emit (mark.ActionWithToken kind.Bind) ∷ []) (note (Token kept) st) us end → MeansPart AnAction st (t ∷ (front ++ v ∷ us)) end
bind_row t v kept st end front us a b (inl f) m =
    let q = quoted_is kept f.0 in
    let l : Label = ActionNode kind.Bind 0 (unquoted kept) in
    let n = noted_node l (Part ∷ []) (mark.ActionWithToken kind.Bind) (note (Token kept) st) end st.notes us refl (with_mark kind.Bind kept l st (with_quoted kind.Bind kept f.0)) m in
    subst (λ y. MeansPart AnAction st (t ∷ (y ++ v ∷ us)) end) (sym f.1)
    (tree l n.kids, (q.1, n.sorts), (0, (n.parts, n.spelled, (a, (q.0, (b, n.woven))))), n.written)
bind_row t v kept st end front us a b (inr f) m =
    let l : Label = ActionTokenOf kind.Bind 0 [] kept in
    let n = noted_node l (Part ∷ []) (mark.ActionWithToken kind.Bind) (note (Token kept) st) end st.notes us refl (with_mark kind.Bind kept l st (with_variable kind.Bind kept f.0)) m in
    subst (λ y. MeansPart AnAction st (t ∷ (y ++ v ∷ us)) end) (sym f.1)
    (tree l n.kids, (f.0, n.sorts), (0, (n.parts, n.spelled, (a, (refl, (refl, (refl, (b, n.woven))))))), n.written)

pub operand_bind : LineMeans template_table means (line (name_number name.Operand) (class_number class.Bind) false (Name (name_number name.Token) ∷ Read (class_number class.To) ∷ Name (name_number name.Yielder) ∷ Emit (mark.ActionWithToken kind.Bind) ∷ []))
operand_bind t st end ts e h = behind h.1 h.3 h.5
  where
    behind : (back : List (List ℕ)) → ts ≡ h.0 ++ back → Meaning template_table means (Read (class_number class.To) ∷ Name (name_number name.Yielder) ∷ Emit (mark.ActionWithToken kind.Bind) ∷ []) h.2 back end → MeansPart AnAction st (t ∷ ts) end
    behind [] cut m = absurd m
    behind (v ∷ us) cut m =
        let after = subst (λ z. Meaning template_table means (Name (name_number name.Yielder) ∷ Emit (mark.ActionWithToken kind.Bind) ∷ []) z us end) h.4.1 m.1 in
        subst (λ y. MeansPart AnAction st (t ∷ y) end) (sym cut)
        (bind_row t v h.4.0 st end h.0 us (is_word_of t (codes "bind") e refl) (is_word_of v (codes "to") m.0 refl) h.4.2 after)

recursively_row : (t w v kept : List ℕ) (st end : Noting) (front us : List (List ℕ)) → t ≡ codes "recursively" → w ≡ codes "bind" → v ≡ codes "to" → IsTokenForm kept front
    → Meaning template_table means (Name (name_number name.Closure) ∷ Emit (mark.ActionWithToken kind.BindRec) ∷ []) (note (Token kept) st) us end → MeansPart AnAction st (t ∷ w ∷ (front ++ v ∷ us)) end
recursively_row t w v kept st end front us a c b (inl f) m =
    let q = quoted_is kept f.0 in
    let l : Label = ActionNode kind.BindRec 0 (unquoted kept) in
    let n = noted_node l (Part ∷ []) (mark.ActionWithToken kind.BindRec) (note (Token kept) st) end st.notes us refl (with_mark kind.BindRec kept l st (with_quoted kind.BindRec kept f.0)) m in
    subst (λ y. MeansPart AnAction st (t ∷ w ∷ (y ++ v ∷ us)) end) (sym f.1)
    (tree l n.kids, (q.1, n.sorts), (0, (n.parts, n.spelled, (a, (c, (q.0, (b, n.woven)))))), n.written)
recursively_row t w v kept st end front us a c b (inr f) m =
    let l : Label = ActionTokenOf kind.BindRec 0 [] kept in
    let n = noted_node l (Part ∷ []) (mark.ActionWithToken kind.BindRec) (note (Token kept) st) end st.notes us refl (with_mark kind.BindRec kept l st (with_variable kind.BindRec kept f.0)) m in
    subst (λ y. MeansPart AnAction st (t ∷ w ∷ (y ++ v ∷ us)) end) (sym f.1)
    (tree l n.kids, (f.0, n.sorts), (0, (n.parts, n.spelled, (a, (c, (refl, (refl, (refl, (b, n.woven)))))))), n.written)

pub operand_recursively : LineMeans template_table means (line (name_number name.Operand) (class_number class.Recursively) false (Read (class_number class.Bind) ∷ Name (name_number name.Token) ∷ Read (class_number class.To) ∷ Name (name_number name.Closure) ∷ Emit (mark.ActionWithToken kind.BindRec) ∷ []))
operand_recursively t st end [] e h = absurd h
operand_recursively t st end (w ∷ ts) e h = behind h.1.1 h.1.3 h.1.5
  where
    behind : (back : List (List ℕ)) → ts ≡ h.1.0 ++ back → Meaning template_table means (Read (class_number class.To) ∷ Name (name_number name.Closure) ∷ Emit (mark.ActionWithToken kind.BindRec) ∷ []) h.1.2 back end → MeansPart AnAction st (t ∷ w ∷ ts) end
    behind [] cut m = absurd m
    behind (v ∷ us) cut m =
        let after = subst (λ z. Meaning template_table means (Name (name_number name.Closure) ∷ Emit (mark.ActionWithToken kind.BindRec) ∷ []) z us end) h.1.4.1 m.1 in
        subst (λ y. MeansPart AnAction st (t ∷ w ∷ y) end) (sym cut)
        (recursively_row t w v h.1.4.0 st end h.1.0 us (is_word_of t (codes "recursively") e refl) (is_word_of w (codes "bind") h.0 refl) (is_word_of v (codes "to") m.0 refl) h.1.4.2 after)

pub token_quoted : LineMeans template_table means (line (name_number name.Token) (class_number class.Quoted) true [])
token_quoted t st end ts e h = (t, h.1, inl (quoted_of_class t e, ap (λ y. t ∷ y) h.0))

pub token_of : LineMeans template_table means (line (name_number name.Token) (class_number class.Token) false (Read (class_number class.Of) ∷ Keep (class_number class.Variable) ∷ []))
token_of t st end [] e h = absurd h
token_of t st end (o ∷ []) e h = absurd h.1
token_of t st end (o ∷ v ∷ ts) e h =
    let first : t ≡ codes "token" = token_of_class t e in
    let second : o ≡ codes "of" = is_word_of o (codes "of") h.0 refl in
    (v, h.1.1.1, inr (variable_of_class v h.1.0, ap (λ x. x ∷ o ∷ v ∷ ts) first ∙ ap (λ x. codes "token" ∷ x ∷ v ∷ ts) second ∙ ap (λ y. codes "token" ∷ codes "of" ∷ v ∷ y) h.1.1.0))

pub operand_applied : LineMeans template_table means (line (name_number name.Operand) (class_number class.Function) true (Keep (class_number class.Variable) ∷ Emit mark.Applied ∷ []))
operand_applied t st end [] e h = absurd h
operand_applied t st end (v ∷ ts) e h =
    (tree (Applied t v) none, (and_from (is_function t) (is_variable v) (function_of_class t e) (variable_of_class v h.0), tt), (0, ([], refl, (refl, (refl, h.1.0)))), h.1.1)

pub yielder_value : LineMeans template_table means (line (name_number name.Yielder) (class_number class.Value) false (Read (class_number class.Of) ∷ Keep (class_number class.Variable) ∷ Emit mark.ValueOf ∷ []))
yielder_value t st end [] e h = absurd h
yielder_value t st end (o ∷ []) e h = absurd h.1
yielder_value t st end (o ∷ v ∷ ts) e h =
    (tree (ValueOf v) none, (variable_of_class v h.1.0, tt), ([], refl, (value_of_class t e, (is_word_of o (codes "of") h.0 refl, (refl, h.1.1.0)))), h.1.1.1)

pub enacted_application : LineMeans template_table means (line (name_number name.Enacted) (class_number class.Application) false (Read (class_number class.Of) ∷ Name (name_number name.Yielder) ∷ Read (class_number class.To) ∷ Name (name_number name.Data) ∷ Emit (mark.ActionWithItems kind.Apply) ∷ []))
enacted_application t st end [] e h = absurd h
enacted_application t st end (o ∷ ts) e h = behind h.1.1 h.1.3 h.1.5
  where
    regroup : (ls a b : List Label) (l : Label) → (ls ++ a) ++ (b ++ l ∷ []) ≡ ls ++ ((a ++ b) ++ l ∷ [])
    regroup ls a b l = simp append_assoc

    behind : (back : List (List ℕ)) → ts ≡ h.1.0 ++ back → Meaning template_table means (Read (class_number class.To) ∷ Name (name_number name.Data) ∷ Emit (mark.ActionWithItems kind.Apply) ∷ []) h.1.2 back end
        → MeansRest AnAction (codes "enact" ∷ []) st (t ∷ o ∷ ts) end
    behind [] cut m = absurd m
    behind (u ∷ us) cut m =
        let y = h.1.4 in
        let d = has_data kind.Apply h.1.2 end us m.1 in
        let l : Label = ActionNode kind.Apply d.number [] in (
          tree l (more y.0 d.kids),
          (refl, (y.1, d.sorts)),
          (
            h.1.0 ∷ d.parts,
            (y.2, d.spelled),
            (refl, (is_word_of t (codes "application") e refl, (is_word_of o (codes "of") h.0 refl, (u ∷ us, cut, (is_word_of u (codes "to") m.0 refl, d.woven))))),
          ),
          d.written ∙ ap (wrote (postorders d.kids ++ l ∷ [])) y.3
              ∙ ap (λ ls. let r : Noting = record { notes = st.notes; labels = ls } in r) (regroup st.labels (postorder y.0) (postorders d.kids) l),
        )
