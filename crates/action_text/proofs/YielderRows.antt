-- The rows of yielders do what their names mean.
use Rattle.std.proofs.Common.{◌≡◌, inl, inr, append-nil, ℕ, zero, suc, Bool, true, false, ◌&&◌, List, [], ◌∷◌, ◌++◌, Some, refl, sym, ap, subst, ◌∙◌, codes, nat_lt, if◌then◌else◌}
use Rattle.std.specs.Prelude.{ℤ, pos, negsuc, nat_le, unwrap_or}
use Rattle.acg_base.specs.Decimals.{spelled_i64}
use Rattle.action_terms.specs.Labels.{AYielder}
use Rattle.meta_terms.specs.Names.{is_variable}
use Rattle.meta_terms.specs.Templates.{Label, YielderNode, YielderTokenOf, Tree, Is}
use Rattle.action_terms.specs.Trees.{tree, none}
use Rattle.action_terms.specs.declared.kinds.YKind.{YKind}
use Rattle.action_terms.specs.declared.kinds.YKind.TheVariants as ykind
use Rattle.meta_lex.specs.Forms.{is_quoted}
use Rattle.action_terms.specs.declared.kinds.Sort.{Sort}
use Rattle.action_text.specs.Tables.{Read, Keep, Emit, Name, line, other}
use Rattle.action_text.specs.declared.table.Mark.TheVariants as mark
use Rattle.action_text.specs.declared.classes.Class.TheVariants as class
use Rattle.action_text.specs.Numbers.{class_number, name_number}
use Rattle.action_text.specs.declared.names.Name.TheVariants as name
use Rattle.action_text.specs.Shapes.{Part, sort_word}
use Rattle.action_text.specs.TemplateText.{IsPlain}
use Rattle.action_text.specs.Posts.{postorder}
use Rattle.action_text.specs.Notes.{Noting, Note, KeptToken, marked, note, unquoted, value_of, place_of, yielder_with}
use Rattle.action_text.specs.Classes.{template_class, is_place}
use Rattle.action_text.specs.ActionTable.{template_table}
use Rattle.action_text.proofs.Tests.{and_right}
use Rattle.action_text.proofs.Meanings.{Meaning, LineMeans, OtherMeans}
use Rattle.action_text.proofs.Means.{means, wrote, MeansPart, MeansSorted, MeansSort, IsTokenForm}
use Rattle.action_text.proofs.OperandRows.{variable_unquoted, quoted_begins}
use Rattle.action_text.proofs.TemplateWords.{word_count, is_word_of, number_of_class}
use Rattle.action_text.proofs.QuotedTokens.{quoted_is}
use Rattle.action_text.proofs.Nodes.{noted_node}
use Rattle.action_text.proofs.Chains.{last_name}

pub yielder_number : (place : Bool) (t : List ℕ) (st end : Noting) (ts : List (List ℕ)) → template_class t ≡ (if place then (class_number class.Place) else (class_number class.Number))
    → Meaning template_table means (Emit mark.Number ∷ []) (note (Rattle.action_text.specs.Tables.Token t) st) ts end → MeansPart AYielder st (t ∷ ts) end
yielder_number place t st end ts e h =
    let n = number_of_class t place e in
    let value : value_of t ≡ n.0 = ap (λ o. unwrap_or o (pos 0)) n.1 in
    let same : spelled_i64 t ≡ Some (value_of t) = n.1 ∙ ap (λ z. Some z) (sym value) in
    (tree (YielderNode (ykind.Number (value_of t)) []) none, (refl, tt), ([], refl, (same, h.0)), h.1)

pub yielder_the : LineMeans template_table means (line (name_number name.Yielder) (class_number class.The) false (Name (name_number name.The) ∷ []))
yielder_the t st end ts e h =
    let m = last_name means (name_number name.The) st end ts h in
    (m.0, m.1, subst (λ v. IsPlain m.0 (v ∷ ts)) (sym (is_word_of t (codes "the") e refl)) m.2, m.3)

pub yielder_is : LineMeans template_table means (line (name_number name.Yielder) (class_number class.Is) false (Name (name_number name.IsRest) ∷ []))
yielder_is t st end ts e h =
    let m = last_name means (name_number name.IsRest) st end ts h in
    (m.0, m.1, subst (λ v. IsPlain m.0 (v ∷ ts)) (sym (is_word_of t (codes "is") e refl)) m.2, m.3)

-- a sort, and what stands behind it
pub sorted : (before : List (List ℕ)) (st mid end : Noting) (ts front back : List (List ℕ)) → ts ≡ front ++ back → MeansSort st front mid → MeansSorted before mid back end
    → (t : Tree) × Is AYielder t × IsPlain t (before ++ ts) × (end ≡ wrote (postorder t) st)
sorted before st mid end ts front back cut s rest =
    let r = rest s.0 st.notes (ap (λ (z : Noting). z.notes) s.2) in
    let tokens : sort_word s.0 ∷ back ≡ ts = ap (λ y. y ++ back) (sym s.1) ∙ sym cut in
    (r.0, r.1, subst (λ y. IsPlain r.0 (before ++ y)) tokens r.2, r.3 ∙ ap (λ (z : Noting). let q : Noting = record { notes = st.notes; labels = z.labels ++ postorder r.0 } in q) s.2)

pub the_given : LineMeans template_table means (line (name_number name.The) (class_number class.Given) false (Name (name_number name.Sort) ∷ Name (name_number name.AtPlace) ∷ []))
the_given t st end ts e h =
    let r = sorted (codes "the" ∷ codes "given" ∷ []) st h.2 end ts h.0 h.1 h.3 h.4 (last_name means (name_number name.AtPlace) h.2 end h.1 h.5) in
    (r.0, r.1, subst (λ v. IsPlain r.0 (codes "the" ∷ v ∷ ts)) (sym (is_word_of t (codes "given") e refl)) r.2, r.3)

pub the_other : OtherMeans template_table means (other (name_number name.The) (Name (name_number name.Sort) ∷ Name (name_number name.TheRest) ∷ []))
the_other st end ts h = sorted (codes "the" ∷ []) st h.2 end ts h.0 h.1 h.3 h.4 (last_name means (name_number name.TheRest) h.2 end h.1 h.5)

pub yielder_quoted : (k : YKind) (kept : List ℕ) → is_quoted kept ≡ true → yielder_with k kept ≡ YielderNode k (unquoted kept)
yielder_quoted k kept q = ap (λ b. if b then YielderNode k (unquoted kept) else YielderTokenOf k [] kept) (quoted_begins kept q)

pub yielder_variable : (k : YKind) (kept : List ℕ) → is_variable kept ≡ true → yielder_with k kept ≡ YielderTokenOf k [] kept
yielder_variable k kept v = ap (λ b. if b then YielderNode k (unquoted kept) else YielderTokenOf k [] kept) (variable_unquoted kept v)

-- the yielder of a sort and a token
bound_row : (t u kept : List ℕ) (s : Sort) (ns : List Note) (st end : Noting) (ts : List (List ℕ)) → t ≡ codes "bound" → u ≡ codes "to" → IsTokenForm kept ts
    → end ≡ record { notes = ns; labels = st.labels ++ yielder_with (ykind.Bound s) kept ∷ [] }
    → (y : Tree) × Is AYielder y × IsPlain y (codes "the" ∷ sort_word s ∷ t ∷ u ∷ ts) × (end ≡ record { notes = ns; labels = st.labels ++ postorder y })
bound_row t u kept s ns st end ts a b (inl f) e =
    let q = quoted_is kept f.0 in (
      tree (YielderNode (ykind.Bound s) (unquoted kept)) none,
      (q.1, tt),
      subst (λ y. IsPlain (tree (YielderNode (ykind.Bound s) (unquoted kept)) none) (codes "the" ∷ sort_word s ∷ t ∷ u ∷ y)) (sym f.1) ([], refl, (refl, (refl, (a, (b, (q.0, refl)))))),
      e ∙ ap (λ l. let r : Noting = record { notes = ns; labels = st.labels ++ l ∷ [] } in r) (yielder_quoted (ykind.Bound s) kept f.0),
    )
bound_row t u kept s ns st end ts a b (inr f) e = (
  tree (YielderTokenOf (ykind.Bound s) [] kept) none,
  (f.0, tt),
  subst (λ y. IsPlain (tree (YielderTokenOf (ykind.Bound s) [] kept) none) (codes "the" ∷ sort_word s ∷ t ∷ u ∷ y)) (sym f.1) ([], refl, (refl, (refl, (a, (b, (refl, (refl, (refl, refl)))))))),
  e ∙ ap (λ l. let r : Noting = record { notes = ns; labels = st.labels ++ l ∷ [] } in r) (yielder_variable (ykind.Bound s) kept f.0),
)

pub the_bound : LineMeans template_table means (line (name_number name.TheRest) (class_number class.Bound) false (Read (class_number class.To) ∷ Name (name_number name.Token) ∷ Emit mark.Bound ∷ []))
the_bound t st end [] e h s ns notes = absurd h
the_bound t st end (u ∷ ts) e h s ns notes =
    let m = h.1 in
    let kept : List ℕ = m.4.0 in
    let whole : ts ≡ m.0 = m.3 ∙ ap (λ y. m.0 ++ y) m.5.0 ∙ append-nil m.0 in
    let form : IsTokenForm kept ts = subst (λ y. IsTokenForm kept y) (sym whole) m.4.2 in
    bound_row t u kept s ns st end ts (is_word_of t (codes "bound") e refl) (is_word_of u (codes "to") h.0 refl) form
    (m.5.1 ∙ ap (marked mark.Bound) m.4.1 ∙ ap (λ x. marked mark.Bound (let r : Noting = record { notes = KeptToken kept ∷ x; labels = st.labels } in r)) notes)

pub the_stored : LineMeans template_table means (line (name_number name.TheRest) (class_number class.Stored) false (Read (class_number class.In) ∷ Name (name_number name.Yielder) ∷ Emit mark.Stored ∷ []))
the_stored t st end [] e h s ns notes = absurd h
the_stored t st end (u ∷ ts) e h s ns notes =
    let l : Label = YielderNode (ykind.Stored s) [] in
    let n = noted_node l (Part ∷ []) mark.Stored st end ns ts refl (λ ls. ap (λ x. marked mark.Stored (let r : Noting = record { notes = x; labels = ls } in r)) notes) h.1 in
    (tree l n.kids, (refl, n.sorts), (n.parts, n.spelled, (refl, (refl, (is_word_of t (codes "stored") e refl, (is_word_of u (codes "in") h.0 refl, n.woven))))), n.written)

-- a number from 1 to 64
pub place_is : (z : ℤ) → is_place z ≡ true → (n : ℕ) × (z ≡ pos (suc n)) × (nat_le (suc n) 64 ≡ true)
place_is (pos zero) h = absurd (cc)
place_is (pos (suc n)) h = (n, refl, and_right (nat_le 1 (suc n)) (nat_le (suc n) 64) h)
place_is (negsuc n) h = absurd (cc)

pub at_place : LineMeans template_table means (line (name_number name.AtPlace) (class_number class.Hash) false (Keep (class_number class.Place) ∷ Emit mark.GivenAt ∷ []))
at_place t st end [] e h s ns notes = absurd h
at_place t st end (u ∷ ts) e h s ns notes =
    let n = number_of_class u true h.0 in
    let p = place_is n.0 n.2 in
    let spelled : spelled_i64 u ≡ Some (pos (suc p.0)) = n.1 ∙ ap (λ z. Some z) p.1 in
    let place : place_of (value_of u) ≡ suc p.0 = ap (λ o. place_of (unwrap_or o (pos 0))) spelled ∙ ap (λ b. if b then suc p.0 else 0) p.2 in (
      tree (YielderNode (ykind.Given s (suc p.0)) []) none,
      (both (nat_le (suc p.0) 64) p.2, tt),
      ([], refl, (refl, (refl, (refl, (is_word_of t (35 ∷ []) e refl, (spelled, h.1.0)))))),
      h.1.1 ∙ ap (λ x. marked mark.GivenAt (let r : Noting = record { notes = KeptToken u ∷ x; labels = st.labels } in r)) notes
          ∙ ap (λ k. let r : Noting = record { notes = ns; labels = st.labels ++ YielderNode (ykind.Given s k) [] ∷ [] } in r) place,
    )
  where
    both : (a : Bool) → a ≡ true → (true && (a && true)) ≡ true
    both true h = refl
    both false h = absurd (cc)

pub at_no_place : OtherMeans template_table means (other (name_number name.AtPlace) (Emit mark.Given ∷ []))
at_no_place st end ts h s ns notes = (
  tree (YielderNode (ykind.Given s 0) []) none,
  (refl, tt),
  ([], refl, (refl, (refl, (refl, h.0)))),
  h.1 ∙ ap (λ x. marked mark.Given (let r : Noting = record { notes = x; labels = st.labels } in r)) notes,
)

pub sort_row : (s : Sort) → nat_lt (template_class (sort_word s)) word_count ≡ true → (t : List ℕ) (st end : Noting) (ts : List (List ℕ)) → template_class t ≡ template_class (sort_word s)
    → Meaning template_table means (Emit (mark.Sort s) ∷ []) st ts end → MeansSort st (t ∷ ts) end
sort_row s word t st end ts e h = (s, ap (λ y. t ∷ y) h.0 ∙ ap (λ v. v ∷ []) (is_word_of t (sort_word s) e word), h.1)
