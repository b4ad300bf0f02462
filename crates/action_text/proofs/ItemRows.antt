-- The rows of data and of its items do what their names mean.
use Rattle.std.proofs.Common.{◌≡◌, ℕ, suc, ◌+◌, false, List, [], ◌∷◌, ◌++◌, refl, sym, ap, subst, ◌∙◌, append_assoc, append-nil, codes, drop, arith}
use Rattle.action_terms.specs.Labels.{Wanted, AnAction, AYielder, AnItem, AClosure, copies, is_token}
use Rattle.meta_terms.specs.Templates.{ActionNode, YielderNode, ActionTokenOf, YielderTokenOf, Applied, ValueOf, Tree, Trees, Is, Are}
use Rattle.action_terms.specs.Trees.{tree, none, more}
use Rattle.action_terms.specs.declared.kinds.YKind.TheVariants as ykind
use Rattle.action_text.specs.Tables.{Read, Emit, Name, line, other}
use Rattle.action_text.specs.declared.table.Mark.TheVariants as mark
use Rattle.action_text.specs.declared.classes.Class.TheVariants as class
use Rattle.action_text.specs.Numbers.{class_number, name_number}
use Rattle.action_text.specs.declared.names.Name.TheVariants as name
use Rattle.action_text.specs.Shapes.{more_items, open_paren, close_paren, comma}
use Rattle.action_text.specs.ActionText.{Weaves}
use Rattle.action_text.specs.TemplateText.{IsPlain, ArePartsOf}
use Rattle.action_text.specs.Posts.{postorder, postorders}
use Rattle.action_text.specs.Notes.{Noting, Note, KeptToken, Count, NotedSort, marked, note, unquoted, value_of, place_of}
use Rattle.action_text.specs.ActionTable.{template_table}
use Rattle.action_text.proofs.Tests.{and_right}
use Rattle.action_text.proofs.Meanings.{Meaning, LineMeans, OtherMeans}
use Rattle.action_text.proofs.Means.{means, wrote, MeansPart, MeansItems, MeansMoreItems}
use Rattle.action_text.proofs.TemplateWords.{is_word_of}
use Rattle.action_text.proofs.Chains.{last_name}

-- data of one item
pub one_item : (st mid : Noting) (ts : List (List ℕ)) (t : Tree) → Is AnItem t → IsPlain t ts → mid ≡ wrote (postorder t) st → MeansItems [] st ts (marked mark.FirstItem mid)
one_item st mid ts t is plain written = (
  1,
  more t none,
  ts ∷ [],
  (is, tt),
  (plain, refl),
  ([], sym (append-nil ts), refl),
  ap (marked mark.FirstItem) written ∙ ap (λ ls. let r : Noting = record { notes = Count 1 ∷ st.notes; labels = st.labels ++ ls } in r) (sym (append-nil (postorder t))),
)

-- a yielder may stand as an item
pub item_of : (t : Tree) → Is AYielder t → Is AnItem t
item_of (tree (ActionNode k n q) ts) h = absurd (cc)
item_of (tree (ActionTokenOf k n t v) ts) h = absurd (cc)
item_of (tree (Applied f v) ts) h = absurd (cc)
item_of (tree (YielderTokenOf k [] v) ts) h = h
item_of (tree (YielderTokenOf k (b ∷ t) v) ts) h = absurd (cc)
item_of (tree (ValueOf v) ts) h = h
item_of (tree (YielderNode k q) ts) h = (and_right (Rattle.action_terms.specs.Labels.is_datum k) (Rattle.action_terms.specs.Labels.yielder_fits k q) h.0, h.1)

pub data_them : LineMeans template_table means (line (name_number name.Data) (class_number class.Them) false (Emit (mark.Yielder ykind.Them) ∷ Emit mark.FirstItem ∷ []))
data_them t st end ts e h =
    let them : Tree = tree (YielderNode ykind.Them []) none in
    let spell : IsPlain them (t ∷ ts) = ([], refl, (is_word_of t (codes "them") e refl, h.0)) in
    subst (λ z. MeansItems [] st (t ∷ ts) z) (sym h.1) (one_item st (marked (mark.Yielder ykind.Them) st) (t ∷ ts) them (refl, tt) spell refl)

pub data_other : OtherMeans template_table means (other (name_number name.Data) (Name (name_number name.Yielder) ∷ Emit mark.FirstItem ∷ []))
data_other st end ts h =
    let y = h.4 in
    let whole : ts ≡ h.0 = h.3 ∙ ap (λ r. h.0 ++ r) h.5.0 ∙ append-nil h.0 in
    subst (λ z. MeansItems [] st ts z) (sym h.5.1) (subst (λ r. MeansItems [] st r (marked mark.FirstItem h.2)) (sym whole) (one_item st h.2 h.0 y.0 (item_of y.0 y.1) y.2 y.3))

pub data_paren : LineMeans template_table means (line (name_number name.Data) (class_number class.OpenParen) false (Name (name_number name.Items) ∷ []))
data_paren t st end ts e h =
    let m = last_name means (name_number name.Items) st end ts h in
    subst (λ v. MeansItems [] st (v ∷ ts) end) (sym (is_word_of t open_paren e refl)) m

pub items_none : LineMeans template_table means (line (name_number name.Items) (class_number class.CloseParen) false (Emit mark.NoItems ∷ []))
items_none t st end ts e h = (
  0,
  none,
  [],
  tt,
  refl,
  (refl, (is_word_of t close_paren e refl, h.0)),
  h.1 ∙ ap (λ ls. let r : Noting = record { notes = Count 0 ∷ st.notes; labels = ls } in r) (sym (append-nil st.labels)),
)

pub item_other : OtherMeans template_table means (other (name_number name.Item) (Name (name_number name.Yielder) ∷ []))
item_other st end ts h = let y = last_name means (name_number name.Yielder) st end ts h in (y.0, item_of y.0 y.1, y.2, y.3)

pub more_items_close : LineMeans template_table means (line (name_number name.MoreItems) (class_number class.CloseParen) false [])
more_items_close t st end ts e h n ns notes = (
  0,
  none,
  [],
  tt,
  refl,
  (is_word_of t close_paren e refl, h.0),
  h.1 ∙ ap (λ x. let r : Noting = record { notes = x; labels = st.labels } in r) (notes ∙ ap (λ k. Count k ∷ ns) (no_more n))
      ∙ ap (λ ls. let r : Noting = record { notes = Count (n + 0) ∷ ns; labels = ls } in r) (sym (append-nil st.labels)),
)
  where
    no_more : (n : ℕ) → n ≡ n + 0
    no_more n = omega arith

-- one more item, and those behind it
pub item_on : (st mid end : Noting) (front back : List (List ℕ)) (n : ℕ) (ns : List Note) (item : MeansPart AnItem st front mid) → st.notes ≡ Count n ∷ ns
    → MeansMoreItems (marked mark.NextItem mid) back end
    → (m : ℕ) × (kids : Trees) × (parts : List (List (List ℕ))) × Are (copies m AnItem) kids × ArePartsOf kids (copies m AnItem) parts × Weaves (more_items m) parts back
    × (end ≡ record { notes = Count (n + suc m) ∷ ns; labels = st.labels ++ postorders (more item.0 kids) })
item_on st mid end front back n ns item notes onward =
    let noted : mid.notes ≡ Count n ∷ ns = ap (λ (z : Noting). z.notes) item.3 ∙ notes in
    let r = onward (n + 1) ns (ap (λ x. Count (Rattle.action_text.specs.Notes.counted x + 1) ∷ drop 1 x) noted) in (
      r.0,
      r.1,
      r.2,
      r.3,
      r.4,
      r.5,
      r.6 ∙ ap (λ k. let s : Noting = record { notes = Count k ∷ ns; labels = mid.labels ++ postorders r.1 } in s) (count_more n r.0)
          ∙ ap (λ ls. let s : Noting = record { notes = Count (n + suc r.0) ∷ ns; labels = ls ++ postorders r.1 } in s) (ap (λ (z : Noting). z.labels) item.3)
          ∙ ap (λ ls. let s : Noting = record { notes = Count (n + suc r.0) ∷ ns; labels = ls } in s) (append_assoc st.labels (postorder item.0) (postorders r.1)),
    )
  where
    count_more : (n m : ℕ) → (n + 1) + m ≡ n + suc m
    count_more n m = omega arith

pub more_items_comma : LineMeans template_table means (line (name_number name.MoreItems) (class_number class.Comma) false (Name (name_number name.Item) ∷ Emit mark.NextItem ∷ Name (name_number name.MoreItems) ∷ []))
more_items_comma t st end ts e h n ns notes =
    let onward = last_name means (name_number name.MoreItems) (marked mark.NextItem h.2) end h.1 h.5 in
    let r = item_on st h.2 end h.0 h.1 n ns h.4 notes onward in
    (suc r.0, more h.4.0 r.1, h.0 ∷ r.2, (h.4.1, r.3), (h.4.2, r.4), (is_word_of t comma e refl, (h.1, h.3, r.5)), r.6)

pub items_other : OtherMeans template_table means (other (name_number name.Items) (Name (name_number name.Item) ∷ Emit mark.FirstItem ∷ Read (class_number class.Comma) ∷ Name (name_number name.Item) ∷ Emit mark.NextItem ∷ Name (name_number name.MoreItems) ∷ []))
items_other st end ts h = behind h.1 h.3 h.5
  where
    one_more : (n : ℕ) → 1 + suc n ≡ suc (suc n)
    one_more n = omega arith

    behind : (back : List (List ℕ)) → ts ≡ h.0 ++ back → Meaning template_table means (Read (class_number class.Comma) ∷ Name (name_number name.Item) ∷ Emit mark.NextItem ∷ Name (name_number name.MoreItems) ∷ []) (marked mark.FirstItem h.2) back end
        → MeansItems (open_paren ∷ []) st ts end
    behind [] cut m = absurd m
    behind (u ∷ us) cut m =
        let i = m.1 in
        let onward = last_name means (name_number name.MoreItems) (marked mark.NextItem i.2) end i.1 i.5 in
        let first = h.4 in
        let r = item_on (marked mark.FirstItem h.2) i.2 end i.0 i.1 1 h.2.notes i.4 refl onward in (
          suc (suc r.0),
          more first.0 (more i.4.0 r.1),
          h.0 ∷ i.0 ∷ r.2,
          (first.1, (i.4.1, r.3)),
          (first.2, (i.4.2, r.4)),
          (refl, (u ∷ us, cut, (is_word_of u comma m.0 refl, (i.1, i.3, r.5)))),
          r.6 ∙ ap (λ (z : Noting). let s : Noting = record { notes = Count (1 + suc r.0) ∷ z.notes; labels = z.labels ++ postorders (more i.4.0 r.1) } in s) first.3
              ∙ ap (λ ls. let s : Noting = record { notes = Count (1 + suc r.0) ∷ st.notes; labels = ls } in s) (append_assoc st.labels (postorder first.0) (postorders (more i.4.0 r.1)))
              ∙ ap (λ k. let s : Noting = record { notes = Count k ∷ st.notes; labels = st.labels ++ (postorder first.0 ++ postorders (more i.4.0 r.1)) } in s) (one_more r.0),
        )
