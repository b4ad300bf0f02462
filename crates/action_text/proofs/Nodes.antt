-- The nodes whose own tokens are words and symbols alone: from the symbols of a row to the node.
use Rattle.std.proofs.Common.{◌≡◌, ℕ, Bool, true, false, ◌&&◌, List, [], ◌∷◌, ◌++◌, refl, sym, ap, subst, ◌∙◌, append_assoc, append-nil, nat_lt}
use Rattle.action_text.proofs.Tests.{and_left, and_right}
use Rattle.action_terms.specs.Labels.{Wanted, AnAction, AYielder, AnItem, AClosure}
use Rattle.meta_terms.specs.Templates.{Label, under, serves, Tree, Trees, Is, Are}
use Rattle.action_terms.specs.Trees.{tree, none, more}
use Rattle.action_text.specs.Tables.{Symbol, Read, Emit, Name}
use Rattle.action_text.specs.declared.table.Mark.{Mark}
use Rattle.action_text.specs.declared.names.Name.TheVariants as name
use Rattle.action_text.specs.Numbers.{name_number}
use Rattle.action_text.specs.Shapes.{Piece, Fixed, Numeral, Quoted, Part}
use Rattle.action_text.specs.TemplateText.{shape, IsPlain, IsChain, ArePartsOf}
use Rattle.action_text.specs.ActionText.{IsPart, Weaves}
use Rattle.action_text.specs.Posts.{postorder, postorders}
use Rattle.action_text.specs.Notes.{Noting, Note, marked, writes}
use Rattle.action_text.specs.Classes.{template_class}
use Rattle.action_text.specs.ActionTable.{template_table}
use Rattle.action_text.proofs.Meanings.{Meaning}
use Rattle.action_text.proofs.Means.{means, wrote, MeansPart, MeansRest}
use Rattle.action_text.proofs.TemplateWords.{word_count, is_word_of}

-- the name of what stands in a place
abbrev pub name_of : Wanted → ℕ
name_of AnAction = (name_number name.Operand)
name_of AYielder = (name_number name.Yielder)
name_of AnItem = (name_number name.Item)
name_of AClosure = (name_number name.Closure)

-- the symbols of words and parts
abbrev pub symbols : List Piece → List Wanted → List Symbol
symbols [] xs = []
symbols (Part ∷ ps) [] = []
symbols (Part ∷ ps) (x ∷ xs) = Name (name_of x) ∷ symbols ps xs
symbols (Fixed w ∷ ps) xs = Read (template_class w) ∷ symbols ps xs
symbols (Numeral z ∷ ps) xs = []
symbols (Quoted t ∷ ps) xs = []

abbrev pub is_named : Wanted → Bool
is_named AnAction = true
is_named AYielder = true
is_named AnItem = true
is_named AClosure = true

-- the pieces are words and exactly these parts
abbrev pub fits : List Piece → List Wanted → Bool
fits [] [] = true
fits [] (x ∷ xs) = false
fits (Part ∷ ps) [] = false
fits (Part ∷ ps) (x ∷ xs) = is_named x && fits ps xs
fits (Fixed w ∷ ps) xs = nat_lt (template_class w) word_count && fits ps xs
fits (Numeral z ∷ ps) xs = false
fits (Quoted t ∷ ps) xs = false

-- a name in a place means a part
pub means_part : (x : Wanted) (st end : Noting) (ts : List (List ℕ)) → is_named x ≡ true → means (name_of x) st ts end → MeansPart x st ts end
means_part AnAction st end ts h m = m
means_part AYielder st end ts h m = m
means_part AnItem st end ts h m = m
means_part AClosure st end ts h m = m

pub wrote_both : (a b : List Label) (st : Noting) → wrote b (wrote a st) ≡ wrote (a ++ b) st
wrote_both a b st = ap (λ ls. let r : Noting = record { notes = st.notes; labels = ls } in r) (append_assoc st.labels a b)

pub wrote_nothing : (st : Noting) → wrote [] st ≡ st
wrote_nothing st = ap (λ ls. let r : Noting = record { notes = st.notes; labels = ls } in r) (append-nil st.labels)

wrote_on : (s : List Symbol) (a b : List Label) (st mid end : Noting) (ts : List (List ℕ)) → mid ≡ wrote a st → Meaning template_table means s (wrote b mid) ts end → Meaning template_table means s (wrote (a ++ b) st) ts end
wrote_on s a b st mid end ts e h = subst (λ z. Meaning template_table means s z ts end) (ap (wrote b) e ∙ wrote_both a b st) h

-- what words and parts mean: the trees under a node
pub record IsUnder (ps : List Piece) (xs : List Wanted) (s : List Symbol) (st : Noting) (ts : List (List ℕ)) (end : Noting) : Type 0 where
  pub front : List (List ℕ)
  pub back : List (List ℕ)
  pub kids : Trees
  pub parts : List (List (List ℕ))
  pub cut : ts ≡ front ++ back
  pub sorts : Are xs kids
  pub spelled : ArePartsOf kids xs parts
  pub woven : Weaves ps parts front
  pub then_means : Meaning template_table means s (wrote (postorders kids) st) back end

pub under_means : (ps : List Piece) (xs : List Wanted) (s : List Symbol) (st end : Noting) (ts : List (List ℕ)) → fits ps xs ≡ true
    → Meaning template_table means (symbols ps xs ++ s) st ts end → IsUnder ps xs s st ts end
under_means [] [] s st end ts h m = record {
  front = [];
  back = ts;
  kids = none;
  parts = [];
  cut = refl;
  sorts = tt;
  spelled = refl;
  woven = refl;
  then_means = rw (wrote_nothing st) m;
}
under_means [] (x ∷ xs) s st end ts h m = absurd (cc)
under_means (Part ∷ ps) [] s st end ts h m = absurd (cc)
under_means (Part ∷ ps) (x ∷ xs) s st end ts h m =
    let k = means_part x st m.2 m.0 (and_left (is_named x) (fits ps xs) h) m.4 in
    let r = under_means ps xs s m.2 end m.1 (and_right (is_named x) (fits ps xs) h) m.5 in
    record {
      front = m.0 ++ r.front;
      back = r.back;
      kids = more k.0 r.kids;
      parts = m.0 ∷ r.parts;
      cut = m.3 ∙ ap (λ y. m.0 ++ y) r.cut ∙ sym (append_assoc m.0 r.front r.back);
      sorts = (k.1, r.sorts);
      spelled = (k.2, r.spelled);
      woven = (r.front, refl, r.woven);
      then_means = wrote_on s (postorder k.0) (postorders r.kids) st m.2 end r.back k.3 r.then_means;
    }
under_means (Fixed w ∷ ps) xs s st end [] h m = absurd m
under_means (Fixed w ∷ ps) xs s st end (t ∷ ts) h m =
    let r = under_means ps xs s st end ts (and_right (nat_lt (template_class w) word_count) (fits ps xs) h) m.1 in
    record {
      front = t ∷ r.front;
      back = r.back;
      kids = r.kids;
      parts = r.parts;
      cut = ap (λ y. t ∷ y) r.cut;
      sorts = r.sorts;
      spelled = r.spelled;
      woven = (is_word_of t w m.0 (and_left (nat_lt (template_class w) word_count) (fits ps xs) h), r.woven);
      then_means = r.then_means;
    }
under_means (Numeral z ∷ ps) xs s st end ts h m = absurd (cc)
under_means (Quoted q ∷ ps) xs s st end ts h m = absurd (cc)

-- the same up to the mark of the node
pub record IsNode (l : Label) (ps : List Piece) (st : Noting) (ts : List (List ℕ)) (end : Noting) : Type 0 where
  pub kids : Trees
  pub parts : List (List (List ℕ))
  pub sorts : Are (under l) kids
  pub spelled : ArePartsOf kids (under l) parts
  pub woven : Weaves ps parts ts
  pub written : end ≡ wrote (postorder (tree l kids)) st

pub node_means : (l : Label) (ps : List Piece) (m : Mark) (st end : Noting) (ts : List (List ℕ)) → fits ps (under l) ≡ true → ((z : Noting) → marked m z ≡ writes 0 l z)
    → Meaning template_table means (symbols ps (under l) ++ Emit m ∷ []) st ts end → IsNode l ps st ts end
node_means l ps m st end ts fit mark h =
    let u = under_means ps (under l) (Emit m ∷ []) st end ts fit h in
    let whole : ts ≡ u.front = u.cut ∙ ap (λ y. u.front ++ y) u.then_means.0 ∙ append-nil u.front in
    record {
      kids = u.kids;
      parts = u.parts;
      sorts = u.sorts;
      spelled = u.spelled;
      woven = subst (λ (y : List (List ℕ)). Weaves ps u.parts y) (sym whole) u.woven;
      written = u.then_means.1 ∙ mark (wrote (postorders u.kids) st) ∙ wrote_both (postorders u.kids) (l ∷ []) st;
    }

-- a node by its own spelling stands as a part
pub plain_part : (x : Wanted) (t : Tree) (ts : List (List ℕ)) → IsPlain t ts → IsPart x (IsPlain t) (IsChain t) ts
plain_part AnAction t ts h = (0, h)
plain_part AYielder t ts h = h
plain_part AnItem t ts h = h
plain_part AClosure t ts h = h

pub is_of : (x : Wanted) (l : Label) (kids : Trees) → serves x l ≡ true → Are (under l) kids → Is x (tree l kids)
is_of x l kids h a = (h, a)

-- a row of a node: its first word, then its other words and its parts
pub node_row : (x : Wanted) (l : Label) (w : List ℕ) (ps : List Piece) (m : Mark) → serves x l ≡ true → shape l ≡ Fixed w ∷ ps → fits ps (under l) ≡ true → nat_lt (template_class w) word_count ≡ true
    → ((z : Noting) → marked m z ≡ writes 0 l z) → (t : List ℕ) (st end : Noting) (ts : List (List ℕ)) → template_class t ≡ template_class w
    → Meaning template_table means (symbols ps (under l) ++ Emit m ∷ []) st ts end → MeansPart x st (t ∷ ts) end
node_row x l w ps m serve form fit word mark t st end ts e h =
    let n = node_means l ps m st end ts fit mark h in
    let spell : Weaves (shape l) n.parts (t ∷ ts) = rw form (is_word_of t w e word, n.woven) in
    (tree l n.kids, is_of x l n.kids serve n.sorts, plain_part x (tree l n.kids) (t ∷ ts) (n.parts, n.spelled, spell), n.written)

-- a row that goes on behind one word with another
pub rest_row : (x : Wanted) (l : Label) (v w : List ℕ) (ps : List Piece) (m : Mark) → serves x l ≡ true → shape l ≡ Fixed v ∷ Fixed w ∷ ps → fits ps (under l) ≡ true → nat_lt (template_class w) word_count ≡ true
    → ((z : Noting) → marked m z ≡ writes 0 l z) → (t : List ℕ) (st end : Noting) (ts : List (List ℕ)) → template_class t ≡ template_class w
    → Meaning template_table means (symbols ps (under l) ++ Emit m ∷ []) st ts end → MeansRest x (v ∷ []) st (t ∷ ts) end
rest_row x l v w ps m serve form fit word mark t st end ts e h =
    let n = node_means l ps m st end ts fit mark h in
    let spell : Weaves (shape l) n.parts (v ∷ t ∷ ts) = rw form (refl, (is_word_of t w e word, n.woven)) in
    (tree l n.kids, is_of x l n.kids serve n.sorts, (n.parts, n.spelled, spell), n.written)

-- a row that goes on behind one word with no other
pub rest_other : (x : Wanted) (l : Label) (v : List ℕ) (ps : List Piece) (m : Mark) → serves x l ≡ true → shape l ≡ Fixed v ∷ ps → fits ps (under l) ≡ true
    → ((z : Noting) → marked m z ≡ writes 0 l z) → (st end : Noting) (ts : List (List ℕ))
    → Meaning template_table means (symbols ps (under l) ++ Emit m ∷ []) st ts end → MeansRest x (v ∷ []) st ts end
rest_other x l v ps m serve form fit mark st end ts h =
    let n = node_means l ps m st end ts fit mark h in
    let spell : Weaves (shape l) n.parts (v ∷ ts) = rw form (refl, n.woven) in
    (tree l n.kids, is_of x l n.kids serve n.sorts, (n.parts, n.spelled, spell), n.written)

-- a node whose mark takes notes
pub record IsNotedNode (l : Label) (ps : List Piece) (st : Noting) (ns : List Note) (ts : List (List ℕ)) (end : Noting) : Type 0 where
  pub kids : Trees
  pub parts : List (List (List ℕ))
  pub sorts : Are (under l) kids
  pub spelled : ArePartsOf kids (under l) parts
  pub woven : Weaves ps parts ts
  pub written : end ≡ record { notes = ns; labels = st.labels ++ postorder (tree l kids) }

pub noted_node : (l : Label) (ps : List Piece) (m : Mark) (st end : Noting) (ns : List Note) (ts : List (List ℕ)) → fits ps (under l) ≡ true
    → ((ls : List Label) → marked m (record { notes = st.notes; labels = ls }) ≡ record { notes = ns; labels = ls ++ l ∷ [] })
    → Meaning template_table means (symbols ps (under l) ++ Emit m ∷ []) st ts end → IsNotedNode l ps st ns ts end
noted_node l ps m st end ns ts fit mark h =
    let u = under_means ps (under l) (Emit m ∷ []) st end ts fit h in
    let whole : ts ≡ u.front = u.cut ∙ ap (λ y. u.front ++ y) u.then_means.0 ∙ append-nil u.front in
    record {
      kids = u.kids;
      parts = u.parts;
      sorts = u.sorts;
      spelled = u.spelled;
      woven = subst (λ (y : List (List ℕ)). Weaves ps u.parts y) (sym whole) u.woven;
      written = u.then_means.1 ∙ mark (st.labels ++ postorders u.kids)
          ∙ ap (λ ls. let r : Noting = record { notes = ns; labels = ls } in r) (append_assoc st.labels (postorders u.kids) (l ∷ []));
    }
