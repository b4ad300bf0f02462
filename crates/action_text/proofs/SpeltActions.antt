-- The action nodes that are spelled by their own tokens are read.
use Rattle.std.proofs.Common.{◌≡◌, Some, ◌&&◌, ◌⊎◌, inl, inr, ℕ, zero, suc, ◌+◌, true, List, [], ◌∷◌, ◌++◌, refl, sym, ap, subst, ◌∙◌, append_assoc, append-nil, codes, nat_eq, eqb-true, arith}
use Rattle.action_text.proofs.Tests.{and_left, and_right}
use Rattle.action_terms.specs.Labels.{Wanted, AnAction, AYielder, AnItem, AClosure, copies, has_no_token, is_token}
use Rattle.meta_terms.specs.Names.{is_function, is_variable}
use Rattle.meta_terms.specs.Templates.{ActionTokenOf, YielderTokenOf, Applied, ValueOf, under, Label, ActionNode, YielderNode, serves, Tree, Trees, Is, Are}
use Rattle.action_terms.specs.Trees.{tree, none, more}
use Rattle.action_terms.specs.declared.kinds.Kind.{Kind}
use Rattle.action_terms.specs.declared.kinds.Kind.TheVariants as kind
use Rattle.action_terms.specs.declared.kinds.YKind.TheVariants as ykind
use Rattle.action_text.specs.declared.table.Mark.TheVariants as mark
use Rattle.action_text.specs.declared.classes.Class.TheVariants as class
use Rattle.action_text.specs.Numbers.{class_number, name_number}
use Rattle.action_text.specs.declared.names.Name.TheVariants as name
use Rattle.action_text.specs.Tables.{Read, Keep, Emit, Name, line_of, other_of, Token, line}
use Rattle.action_text.specs.Shapes.{Fixed, Part, items, more_items, open_paren, close_paren, comma}
use Rattle.action_text.specs.ActionText.{Weaves}
use Rattle.action_text.specs.TemplateText.{IsPlain, ArePartsOf}
use Rattle.action_text.specs.Posts.{postorder, postorders}
use Rattle.action_text.specs.Notes.{Noting, Note, Count, marked, note, action_with}
use Rattle.action_text.specs.ActionTable.{template_table, template_lines, action_lines, parameter_lines, action_others}
use Rattle.action_text.proofs.Meanings.{does_nothing, does_line, does_keep, does_emit, does_other}
use Rattle.action_text.proofs.Means.{wrote}
use Rattle.action_text.proofs.Nodes.{name_of, is_named}
use Rattle.action_text.proofs.QuotedTokens.{unquoted_back, quoted_of_token}
use Rattle.action_text.proofs.OperandRows.{with_quoted, with_variable}
use Rattle.action_text.proofs.TemplateWords.{function_class, variable_class}
use Rattle.action_text.specs.Classes.{template_class}
use Rattle.action_text.proofs.Spelling.{Goes, AllGo, PlainGoes, word_line, word_read, name_then, end_at, on_tokens, part_goes, pieces_go}
use Rattle.action_text.proofs.SpeltNodes.{NodeGoes, node_goes, begun_other_goes, shapeless, bare, no_token, quoted_class}

-- the state behind data: the number of items is noted, and their labels are written
abbrev pub behind_items : ℕ → Trees → Noting → Noting
behind_items n kids st = record { notes = Count n ∷ st.notes; labels = st.labels ++ postorders kids }

-- one mark, and then nothing
pub emits : (m : Rattle.action_text.specs.declared.table.Mark.Mark) (st end : Noting) → marked m st ≡ end → Goes (Emit m ∷ []) st [] end
emits m st end e = does_emit template_table m [] st end [] (end_at [] (marked m st) (marked m st) end [] e (does_nothing template_table (marked m st)))

-- an item is `them` or a yielder
pub item_cases : (t : Tree) → Is AnItem t → ((kids : Trees) × (t ≡ tree (YielderNode ykind.Them []) kids) × Are [] kids) ⊎ Is AYielder t
item_cases (tree (ActionNode k n q) kids) h = absurd (cc)
item_cases (tree (ActionTokenOf k n t v) kids) h = absurd (cc)
item_cases (tree (Applied f v) kids) h = absurd (cc)
item_cases (tree (YielderTokenOf k [] v) kids) h = inr h
item_cases (tree (YielderTokenOf k (b ∷ t) v) kids) h = absurd (cc)
item_cases (tree (ValueOf v) kids) h = inr h
item_cases (tree (YielderNode ykind.Them q) kids) h = inl (kids, ap (λ r. tree (YielderNode ykind.Them r) kids) (no_token q h.0), h.1)
item_cases (tree (YielderNode (ykind.Number z) q) kids) h = inr h
item_cases (tree (YielderNode (ykind.Truth b) q) kids) h = inr h
item_cases (tree (YielderNode (ykind.Given s p) q) kids) h = inr h
item_cases (tree (YielderNode (ykind.Bound s) q) kids) h = inr h
item_cases (tree (YielderNode (ykind.Stored s) q) kids) h = inr h
item_cases (tree (YielderNode ykind.Sum q) kids) h = inr h
item_cases (tree (YielderNode ykind.Difference q) kids) h = inr h
item_cases (tree (YielderNode ykind.Product q) kids) h = inr h
item_cases (tree (YielderNode ykind.Quotient q) kids) h = inr h
item_cases (tree (YielderNode ykind.Remainder q) kids) h = inr h
item_cases (tree (YielderNode ykind.Negation q) kids) h = inr h
item_cases (tree (YielderNode ykind.Is q) kids) h = inr h
item_cases (tree (YielderNode ykind.Less q) kids) h = inr h
item_cases (tree (YielderNode ykind.Not q) kids) h = inr h
item_cases (tree (YielderNode ykind.Both q) kids) h = inr h
item_cases (tree (YielderNode ykind.Either q) kids) h = inr h
item_cases (tree (YielderNode ykind.Closure q) kids) h = inr h

-- the spelling of `them`
pub them_alone : (kids : Trees) (ts : List (List ℕ)) → Are [] kids → IsPlain (tree (YielderNode ykind.Them []) kids) ts → (kids ≡ none) × (ts ≡ codes "them" ∷ [])
them_alone none [] are (parts, spelled, woven) = absurd woven
them_alone none (t ∷ ts) are (parts, spelled, woven) =
    let rest : ts ≡ [] = subst (λ (p : List (List (List ℕ))). Weaves [] p ts) spelled woven.1 in
    (refl, ap (λ v. v ∷ ts) woven.0 ∙ ap (λ y. codes "them" ∷ y) rest)
them_alone (more k kids) ts are p = absurd are

-- data of one item that stands alone
one_item_goes : (t : Tree) → PlainGoes t → Is AnItem t → (ts : List (List ℕ)) → IsPlain t ts → (st : Noting) → Goes (Name (name_number name.Data) ∷ []) st ts (behind_items 1 (more t none) st)
unfolding line_of template_lines action_lines parameter_lines other_of action_others
one_item_goes t p is ts plain st = go (item_cases t is)
  where
    end_is : (t : Tree) (st : Noting) → marked mark.FirstItem (wrote (postorder t) st) ≡ behind_items 1 (more t none) st
    end_is t st = ap (λ ls. let r : Noting = record { notes = Count 1 ∷ st.notes; labels = st.labels ++ ls } in r) (sym (append-nil (postorder t)))

    them_goes : (kids : Trees) → t ≡ tree (YielderNode ykind.Them []) kids → Are [] kids → Goes (Name (name_number name.Data) ∷ []) st ts (behind_items 1 (more t none) st)
    them_goes kids e are =
        let alone = them_alone kids ts are (subst (λ u. IsPlain u ts) e plain) in
        let whole : t ≡ tree (YielderNode ykind.Them []) none = e ∙ ap (λ k. tree (YielderNode ykind.Them []) k) alone.0 in
        on_tokens (Name (name_number name.Data) ∷ []) st (behind_items 1 (more t none) st) (codes "them" ∷ []) ts (sym alone.1)
        (word_line (name_number name.Data) (codes "them") (codes "them") (Emit (mark.Yielder ykind.Them) ∷ Emit mark.FirstItem ∷ []) st (behind_items 1 (more t none) st) [] refl refl
        (does_emit template_table (mark.Yielder ykind.Them) (Emit mark.FirstItem ∷ []) st (behind_items 1 (more t none) st) []
        (emits mark.FirstItem (marked (mark.Yielder ykind.Them) st) (behind_items 1 (more t none) st) (ap (λ u. behind_items 1 (more u none) st) (sym whole)))))

    go : ((kids : Trees) × (t ≡ tree (YielderNode ykind.Them []) kids) × Are [] kids) ⊎ Is AYielder t → Goes (Name (name_number name.Data) ∷ []) st ts (behind_items 1 (more t none) st)
    go (inl h) = them_goes h.0 h.1 h.2
    go (inr h) =
        does_other template_table (name_number name.Data) (Name (name_number name.Yielder) ∷ Emit mark.FirstItem ∷ []) st (behind_items 1 (more t none) st) ts refl
        (on_tokens (Name (name_number name.Yielder) ∷ Emit mark.FirstItem ∷ []) st (behind_items 1 (more t none) st) (ts ++ []) ts (append-nil ts)
        (name_then (name_number name.Yielder) (Emit mark.FirstItem ∷ []) st (wrote (postorder t) st) (behind_items 1 (more t none) st) ts [] (p AYielder h ts plain st)
        (emits mark.FirstItem (wrote (postorder t) st) (behind_items 1 (more t none) st) (end_is t st))))

regroup : (a b c d : List Label) → ((a ++ b) ++ c) ++ d ≡ a ++ (b ++ (c ++ d))
regroup a b c d = simp append_assoc

-- one more item than were counted, in another order of counting
count_on : (n m : ℕ) (ns : List Note) (ls : List Label) → (let r : Noting = record { notes = Count ((n + 1) + m) ∷ ns; labels = ls } in r) ≡ (let r : Noting = record { notes = Count (n + suc m) ∷ ns; labels = ls } in r)
count_on n m ns ls = let e : (n + 1) + m ≡ n + suc m = omega arith in ap (λ k. let r : Noting = record { notes = Count k ∷ ns; labels = ls } in r) e

-- items behind n others, up to the closing parenthesis
more_items_go : (m : ℕ) (kids : Trees) (parts : List (List (List ℕ))) (ts : List (List ℕ)) (n : ℕ) (ns : List Note) (ls : List Label) → AllGo kids → Are (copies m AnItem) kids → ArePartsOf kids (copies m AnItem) parts
    → Weaves (more_items m) parts ts
    → Goes (Name (name_number name.MoreItems) ∷ []) (record { notes = Count n ∷ ns; labels = ls }) ts (record { notes = Count (n + m) ∷ ns; labels = ls ++ postorders kids })
unfolding line_of template_lines action_lines parameter_lines other_of action_others
more_items_go zero none parts [] n ns ls all are spelled woven = absurd woven
more_items_go zero none parts (t ∷ ts) n ns ls all are spelled woven =
    let st : Noting = record { notes = Count n ∷ ns; labels = ls } in
    let same : n ≡ n + 0 = omega arith in
    let end_is : st ≡ record { notes = Count (n + 0) ∷ ns; labels = ls ++ [] } =
    ap (λ k. let r : Noting = record { notes = Count k ∷ ns; labels = ls } in r) same ∙ ap (λ y. let r : Noting = record { notes = Count (n + 0) ∷ ns; labels = y } in r) (sym (append-nil ls)) in
    let rest : ts ≡ [] = subst (λ (p : List (List (List ℕ))). Weaves [] p ts) spelled woven.1 in
    on_tokens (Name (name_number name.MoreItems) ∷ []) st (record { notes = Count (n + 0) ∷ ns; labels = ls ++ [] }) (t ∷ []) (t ∷ ts) (ap (λ y. t ∷ y) (sym rest))
    (word_line (name_number name.MoreItems) close_paren t [] st (record { notes = Count (n + 0) ∷ ns; labels = ls ++ [] }) [] refl woven.0 (end_at [] st st (record { notes = Count (n + 0) ∷ ns; labels = ls ++ [] }) [] end_is (does_nothing template_table st)))
more_items_go zero (more k kids) parts ts n ns ls all are spelled woven = absurd are
more_items_go (suc m) none parts ts n ns ls all are spelled woven = absurd are
more_items_go (suc m) (more k kids) [] ts n ns ls all are spelled woven = absurd spelled
more_items_go (suc m) (more k kids) (part ∷ parts) [] n ns ls all are spelled woven = absurd woven
more_items_go (suc m) (more k kids) (part ∷ parts) (t ∷ ts) n ns ls all are spelled woven =
    let st : Noting = record { notes = Count n ∷ ns; labels = ls } in
    let end : Noting = record { notes = Count (n + suc m) ∷ ns; labels = ls ++ postorders (more k kids) } in
    let item = part_goes k all.0 all.1 AnItem are.0 part spelled.0 st in
    let rest = more_items_go m kids parts woven.1.0 (n + 1) ns (ls ++ postorder k) all.2 are.1 spelled.1 woven.1.2 in
    let end_is : record { notes = Count ((n + 1) + m) ∷ ns; labels = (ls ++ postorder k) ++ postorders kids } ≡ end =
    count_on n m ns ((ls ++ postorder k) ++ postorders kids) ∙ ap (λ y. let r : Noting = record { notes = Count (n + suc m) ∷ ns; labels = y } in r) (append_assoc ls (postorder k) (postorders kids)) in
    let behind : Goes (Emit mark.NextItem ∷ Name (name_number name.MoreItems) ∷ []) (wrote (postorder k) st) woven.1.0 end =
    does_emit template_table mark.NextItem (Name (name_number name.MoreItems) ∷ []) (wrote (postorder k) st) end woven.1.0 (end_at (Name (name_number name.MoreItems) ∷ []) (marked mark.NextItem (wrote (postorder k) st)) (record { notes = Count ((n + 1) + m) ∷ ns; labels = (ls ++ postorder k) ++ postorders kids }) end woven.1.0 end_is rest) in
    word_line (name_number name.MoreItems) comma t (Name (name_number name.Item) ∷ Emit mark.NextItem ∷ Name (name_number name.MoreItems) ∷ []) st end ts refl woven.0
    (on_tokens (Name (name_number name.Item) ∷ Emit mark.NextItem ∷ Name (name_number name.MoreItems) ∷ []) st end (part ++ woven.1.0) ts (sym woven.1.1)
    (name_then (name_number name.Item) (Emit mark.NextItem ∷ Name (name_number name.MoreItems) ∷ []) st (wrote (postorder k) st) end part woven.1.0 item behind))

-- data is read, and the number of its items noted
items_go : (n : ℕ) (kids : Trees) (parts : List (List (List ℕ))) (ts : List (List ℕ)) (st : Noting) → AllGo kids → Are (copies n AnItem) kids → ArePartsOf kids (copies n AnItem) parts → Weaves (items n) parts ts
    → Goes (Name (name_number name.Data) ∷ []) st ts (behind_items n kids st)
unfolding line_of template_lines action_lines parameter_lines other_of action_others
items_go zero none parts [] st all are spelled woven = absurd woven
items_go zero none parts (t ∷ []) st all are spelled woven = absurd woven.1
items_go zero none parts (t ∷ u ∷ ts) st all are spelled woven =
    let rest : ts ≡ [] = subst (λ (p : List (List (List ℕ))). Weaves [] p ts) spelled woven.1.1 in
    let end_is : marked mark.NoItems st ≡ behind_items 0 none st = ap (λ y. let r : Noting = record { notes = Count 0 ∷ st.notes; labels = y } in r) (sym (append-nil st.labels)) in
    on_tokens (Name (name_number name.Data) ∷ []) st (behind_items 0 none st) (t ∷ u ∷ []) (t ∷ u ∷ ts) (ap (λ y. t ∷ u ∷ y) (sym rest))
    (word_line (name_number name.Data) open_paren t (Name (name_number name.Items) ∷ []) st (behind_items 0 none st) (u ∷ []) refl woven.0
    (word_line (name_number name.Items) close_paren u (Emit mark.NoItems ∷ []) st (behind_items 0 none st) [] refl woven.1.0 (emits mark.NoItems st (behind_items 0 none st) end_is)))
items_go zero (more k kids) parts ts st all are spelled woven = absurd are
items_go (suc zero) none parts ts st all are spelled woven = absurd are
items_go (suc zero) (more k none) [] ts st all are spelled woven = absurd spelled
items_go (suc zero) (more k none) (part ∷ parts) ts st all are spelled woven =
    let rest : woven.0 ≡ [] = subst (λ (p : List (List (List ℕ))). Weaves [] p woven.0) spelled.1 woven.2 in
    on_tokens (Name (name_number name.Data) ∷ []) st (behind_items 1 (more k none) st) part ts (sym (woven.1 ∙ ap (λ y. part ++ y) rest ∙ append-nil part)) (one_item_goes k all.0 are.0 part spelled.0 st)
items_go (suc zero) (more k (more j kids)) parts ts st all are spelled woven = absurd are.1
items_go (suc (suc n)) none parts ts st all are spelled woven = absurd are
items_go (suc (suc n)) (more a none) parts ts st all are spelled woven = absurd are.1
items_go (suc (suc n)) (more a (more b kids)) [] ts st all are spelled woven = absurd spelled
items_go (suc (suc n)) (more a (more b kids)) (p ∷ []) ts st all are spelled woven = absurd spelled.1
items_go (suc (suc n)) (more a (more b kids)) (p ∷ q ∷ parts) [] st all are spelled woven = absurd woven
items_go (suc (suc n)) (more a (more b kids)) (p ∷ q ∷ parts) (t ∷ ts) st all are spelled woven = behind_first woven.1.0 woven.1.1 woven.1.2
  where
    one_more : (n : ℕ) → 1 + suc n ≡ suc (suc n)
    one_more n = omega arith

    behind_first : (back : List (List ℕ)) → ts ≡ p ++ back → Weaves (more_items (suc n)) (q ∷ parts) back → Goes (Name (name_number name.Data) ∷ []) st (t ∷ ts) (behind_items (suc (suc n)) (more a (more b kids)) st)
    behind_first [] cut w = absurd w
    behind_first (u ∷ back) cut w =
        let end : Noting = behind_items (suc (suc n)) (more a (more b kids)) st in
        let after_a : Noting = wrote (postorder a) st in
        let one : Noting = marked mark.FirstItem after_a in
        let after_b : Noting = wrote (postorder b) one in
        let first = part_goes a all.0 all.1 AnItem are.0 p spelled.0 st in
        let second = part_goes b all.2.0 all.2.1 AnItem are.1.0 q spelled.1.0 one in
        let rest = more_items_go n kids parts w.1.0 (1 + 1) st.notes ((st.labels ++ postorder a) ++ postorder b) all.2.2 are.1.1 spelled.1.1 w.1.2 in
        let end_is : record { notes = Count ((1 + 1) + n) ∷ st.notes; labels = ((st.labels ++ postorder a) ++ postorder b) ++ postorders kids } ≡ end =
        count_on 1 n st.notes (((st.labels ++ postorder a) ++ postorder b) ++ postorders kids)
        ∙ ap (λ k. let r : Noting = record { notes = Count k ∷ st.notes; labels = ((st.labels ++ postorder a) ++ postorder b) ++ postorders kids } in r) (one_more n)
        ∙ ap (λ y. let r : Noting = record { notes = Count (suc (suc n)) ∷ st.notes; labels = y } in r) (regroup st.labels (postorder a) (postorder b) (postorders kids)) in
        let tail : Goes (Emit mark.NextItem ∷ Name (name_number name.MoreItems) ∷ []) after_b w.1.0 end =
        does_emit template_table mark.NextItem (Name (name_number name.MoreItems) ∷ []) after_b end w.1.0 (end_at (Name (name_number name.MoreItems) ∷ []) (marked mark.NextItem after_b) (record { notes = Count ((1 + 1) + n) ∷ st.notes; labels = ((st.labels ++ postorder a) ++ postorder b) ++ postorders kids }) end w.1.0 end_is rest) in
        let from_b : Goes (Name (name_number name.Item) ∷ Emit mark.NextItem ∷ Name (name_number name.MoreItems) ∷ []) one back end =
        on_tokens (Name (name_number name.Item) ∷ Emit mark.NextItem ∷ Name (name_number name.MoreItems) ∷ []) one end (q ++ w.1.0) back (sym w.1.1) (name_then (name_number name.Item) (Emit mark.NextItem ∷ Name (name_number name.MoreItems) ∷ []) one after_b end q w.1.0 second tail) in
        let from_comma : Goes (Emit mark.FirstItem ∷ Read (class_number class.Comma) ∷ Name (name_number name.Item) ∷ Emit mark.NextItem ∷ Name (name_number name.MoreItems) ∷ []) after_a (u ∷ back) end =
        does_emit template_table mark.FirstItem (Read (class_number class.Comma) ∷ Name (name_number name.Item) ∷ Emit mark.NextItem ∷ Name (name_number name.MoreItems) ∷ []) after_a end (u ∷ back)
        (word_read comma u (Name (name_number name.Item) ∷ Emit mark.NextItem ∷ Name (name_number name.MoreItems) ∷ []) one end back w.0 from_b) in
        word_line (name_number name.Data) open_paren t (Name (name_number name.Items) ∷ []) st end ts refl woven.0
        (does_other template_table (name_number name.Items) (Name (name_number name.Item) ∷ Emit mark.FirstItem ∷ Read (class_number class.Comma) ∷ Name (name_number name.Item) ∷ Emit mark.NextItem ∷ Name (name_number name.MoreItems) ∷ []) st end ts refl
        (on_tokens (Name (name_number name.Item) ∷ Emit mark.FirstItem ∷ Read (class_number class.Comma) ∷ Name (name_number name.Item) ∷ Emit mark.NextItem ∷ Name (name_number name.MoreItems) ∷ []) st end (p ++ (u ∷ back)) ts (sym cut)
        (name_then (name_number name.Item) (Emit mark.FirstItem ∷ Read (class_number class.Comma) ∷ Name (name_number name.Item) ∷ Emit mark.NextItem ∷ Name (name_number name.MoreItems) ∷ []) st after_a end p (u ∷ back) first from_comma)))

regroup_label : (a b c : List Label) (l : Label) → (a ++ b) ++ (c ++ l ∷ []) ≡ a ++ ((b ++ c) ++ l ∷ [])
regroup_label a b c l = simp append_assoc

-- the state in which a node with data is written
data_written : (k : Kind) (n : ℕ) (kids : Trees) (st : Noting) → marked (mark.ActionWithItems k) (behind_items n kids st) ≡ wrote (postorders kids ++ ActionNode k n [] ∷ []) st
data_written k n kids st = ap (λ ls. let r : Noting = record { notes = st.notes; labels = ls } in r) (append_assoc st.labels (postorders kids) (ActionNode k n [] ∷ []))

data_goes : (k : Kind) (n : ℕ) (kids : Trees) (parts : List (List (List ℕ))) (ts : List (List ℕ)) (st : Noting) → AllGo kids → Are (copies n AnItem) kids → ArePartsOf kids (copies n AnItem) parts → Weaves (items n) parts ts
    → Goes (Name (name_number name.Data) ∷ Emit (mark.ActionWithItems k) ∷ []) st ts (wrote (postorders kids ++ ActionNode k n [] ∷ []) st)
data_goes k n kids parts ts st all are spelled woven =
    on_tokens (Name (name_number name.Data) ∷ Emit (mark.ActionWithItems k) ∷ []) st (wrote (postorders kids ++ ActionNode k n [] ∷ []) st) (ts ++ []) ts (append-nil ts)
    (name_then (name_number name.Data) (Emit (mark.ActionWithItems k) ∷ []) st (behind_items n kids st) (wrote (postorders kids ++ ActionNode k n [] ∷ []) st) ts [] (items_go n kids parts ts st all are spelled woven)
    (emits (mark.ActionWithItems k) (behind_items n kids st) (wrote (postorders kids ++ ActionNode k n [] ∷ []) st) (data_written k n kids st)))

give_goes : (n : ℕ) → NodeGoes (name_number name.Operand) (ActionNode kind.Give n [])
unfolding line_of template_lines action_lines parameter_lines other_of action_others
give_goes n kids all are [] (parts, spelled, woven) st = absurd woven
give_goes n kids all are (t ∷ ts) (parts, spelled, woven) st =
    word_line (name_number name.Operand) (codes "give") t (Name (name_number name.Data) ∷ Emit (mark.ActionWithItems kind.Give) ∷ []) st (wrote (postorder (tree (ActionNode kind.Give n []) kids)) st) ts refl woven.0
    (data_goes kind.Give n kids parts ts st all are spelled woven.1)

escape_with_goes : (n : ℕ) → NodeGoes (name_number name.Operand) (ActionNode kind.EscapeWith n [])
unfolding line_of template_lines action_lines parameter_lines other_of action_others
escape_with_goes n kids all are [] (parts, spelled, woven) st = absurd woven
escape_with_goes n kids all are (t ∷ []) (parts, spelled, woven) st = absurd woven.1
escape_with_goes n kids all are (t ∷ u ∷ ts) (parts, spelled, woven) st =
    word_line (name_number name.Operand) (codes "escape") t (Name (name_number name.Escaped) ∷ []) st (wrote (postorder (tree (ActionNode kind.EscapeWith n []) kids)) st) (u ∷ ts) refl woven.0
    (word_line (name_number name.Escaped) (codes "with") u (Name (name_number name.Data) ∷ Emit (mark.ActionWithItems kind.EscapeWith) ∷ []) st (wrote (postorder (tree (ActionNode kind.EscapeWith n []) kids)) st) ts refl woven.1.0
    (data_goes kind.EscapeWith n kids parts ts st all are spelled woven.1.1))

apply_goes : (n : ℕ) → NodeGoes (name_number name.Operand) (ActionNode kind.Apply n [])
unfolding line_of template_lines action_lines parameter_lines other_of action_others
apply_goes n kids all are [] (parts, spelled, woven) st = absurd woven
apply_goes n kids all are (t ∷ []) (parts, spelled, woven) st = absurd woven.1
apply_goes n kids all are (t ∷ u ∷ []) (parts, spelled, woven) st = absurd woven.1.1
apply_goes n none all are (t ∷ u ∷ v ∷ ts) (parts, spelled, woven) st = absurd are
apply_goes n (more k kids) all are (t ∷ u ∷ v ∷ ts) ([], spelled, woven) st = absurd spelled
apply_goes n (more k kids) all are (t ∷ u ∷ v ∷ ts) (part ∷ parts, spelled, woven) st = behind_part woven.1.1.1.0 woven.1.1.1.1 woven.1.1.1.2
  where
    behind_part : (back : List (List ℕ)) → ts ≡ part ++ back → Weaves (Fixed (codes "to") ∷ items n) parts back
        → Goes (Name (name_number name.Operand) ∷ []) st (t ∷ u ∷ v ∷ ts) (wrote (postorder (tree (ActionNode kind.Apply n []) (more k kids))) st)
    behind_part [] cut w = absurd w
    behind_part (x ∷ back) cut w =
        let end : Noting = wrote (postorder (tree (ActionNode kind.Apply n []) (more k kids))) st in
        let first = part_goes k all.0 all.1 AYielder are.0 part spelled.0 st in
        let last = data_goes kind.Apply n kids parts back (wrote (postorder k) st) all.2 are.1 spelled.1 w.1 in
        let end_is : wrote (postorders kids ++ ActionNode kind.Apply n [] ∷ []) (wrote (postorder k) st) ≡ end =
        ap (λ y. let r : Noting = record { notes = st.notes; labels = y } in r) (regroup_label st.labels (postorder k) (postorders kids) (ActionNode kind.Apply n [])) in
        word_line (name_number name.Operand) (codes "enact") t (Name (name_number name.Enacted) ∷ []) st end (u ∷ v ∷ ts) refl woven.0
        (word_line (name_number name.Enacted) (codes "application") u (Read (class_number class.Of) ∷ Name (name_number name.Yielder) ∷ Read (class_number class.To) ∷ Name (name_number name.Data) ∷ Emit (mark.ActionWithItems kind.Apply) ∷ []) st end (v ∷ ts) refl woven.1.0
        (word_read (codes "of") v (Name (name_number name.Yielder) ∷ Read (class_number class.To) ∷ Name (name_number name.Data) ∷ Emit (mark.ActionWithItems kind.Apply) ∷ []) st end ts woven.1.1.0
        (on_tokens (Name (name_number name.Yielder) ∷ Read (class_number class.To) ∷ Name (name_number name.Data) ∷ Emit (mark.ActionWithItems kind.Apply) ∷ []) st end (part ++ (x ∷ back)) ts (sym cut)
        (name_then (name_number name.Yielder) (Read (class_number class.To) ∷ Name (name_number name.Data) ∷ Emit (mark.ActionWithItems kind.Apply) ∷ []) st (wrote (postorder k) st) end part (x ∷ back) first
        (word_read (codes "to") x (Name (name_number name.Data) ∷ Emit (mark.ActionWithItems kind.Apply) ∷ []) (wrote (postorder k) st) end back w.0
        (end_at (Name (name_number name.Data) ∷ Emit (mark.ActionWithItems kind.Apply) ∷ []) (wrote (postorder k) st) (wrote (postorders kids ++ ActionNode kind.Apply n [] ∷ []) (wrote (postorder k) st)) end back end_is last))))))

-- the mark of a node that takes the token that was kept last
with_written : (k : Kind) (l : Label) (kept : List ℕ) (kids : Trees) (st : Noting) → action_with k kept ≡ l
    → marked (mark.ActionWithToken k) (wrote (postorders kids) (note (Token kept) st)) ≡ wrote (postorders kids ++ l ∷ []) st
with_written k l kept kids st e =
    ap (λ r. let x : Noting = record { notes = st.notes; labels = (st.labels ++ postorders kids) ++ r ∷ [] } in x) e
    ∙ ap (λ y. let x : Noting = record { notes = st.notes; labels = y } in x) (append_assoc st.labels (postorders kids) (l ∷ []))

-- a quoted text is read as a token
pub token_goes : (q t : List ℕ) (st : Noting) → is_token q ≡ true → t ≡ 34 ∷ (q ++ 34 ∷ []) → Goes (Name (name_number name.Token) ∷ []) st (t ∷ []) (note (Token t) st)
unfolding line_of template_lines action_lines parameter_lines
token_goes q t st h e =
    does_line template_table (name_number name.Token) (line (name_number name.Token) (class_number class.Quoted) true []) st (note (Token t) st) t [] (ap (λ c. line_of template_lines (name_number name.Token) c) (quoted_class q t h e)) (does_nothing template_table (note (Token t) st))

-- so is `token of V`
pub token_of_goes : (v a b c : List ℕ) (st : Noting) → is_variable v ≡ true → a ≡ codes "token" → b ≡ codes "of" → c ≡ v → Goes (Name (name_number name.Token) ∷ []) st (a ∷ b ∷ c ∷ []) (note (Token c) st)
unfolding line_of template_lines action_lines parameter_lines
token_of_goes v a b c st h e f g =
    word_line (name_number name.Token) (codes "token") a (Read (class_number class.Of) ∷ Keep (class_number class.Variable) ∷ []) st (note (Token c) st) (b ∷ c ∷ []) refl e
    (word_read (codes "of") b (Keep (class_number class.Variable) ∷ []) st (note (Token c) st) (c ∷ []) f
    (does_keep template_table (class_number class.Variable) [] st (note (Token c) st) c [] (ap template_class g ∙ variable_class v h) (does_nothing template_table (note (Token c) st))))

-- what stands behind the token of a node
behind_token : (k : Kind) (l : Label) (x : Wanted) (kept v : List ℕ) (kids : Trees) (parts : List (List (List ℕ))) (ts : List (List ℕ)) (st : Noting) → action_with k kept ≡ l → under l ≡ x ∷ []
    → v ≡ codes "to" → AllGo kids → Are (x ∷ []) kids → ArePartsOf kids (x ∷ []) parts → Weaves (Part ∷ []) parts ts → is_named x ≡ true
    → Goes (Read (class_number class.To) ∷ Name (name_of x) ∷ Emit (mark.ActionWithToken k) ∷ []) (note (Token kept) st) (v ∷ ts) (wrote (postorder (tree l kids)) st)
behind_token k l x kept v kids parts ts st kept_as one to all are spelled woven named =
    let end : Noting = wrote (postorder (tree l kids)) st in
    word_read (codes "to") v (Name (name_of x) ∷ Emit (mark.ActionWithToken k) ∷ []) (note (Token kept) st) end ts to
    (on_tokens (Name (name_of x) ∷ Emit (mark.ActionWithToken k) ∷ []) (note (Token kept) st) end (ts ++ []) ts (append-nil ts)
    (pieces_go (Part ∷ []) (x ∷ []) (Emit (mark.ActionWithToken k) ∷ []) (note (Token kept) st) end kids parts ts [] (fits_one x named) all are spelled woven
    (emits (mark.ActionWithToken k) (wrote (postorders kids) (note (Token kept) st)) end (with_written k l kept kids st kept_as))))
  where
    fits_one : (x : Wanted) → is_named x ≡ true → (is_named x && true) ≡ true
    fits_one x n = rw n refl

bind_goes : (q : List ℕ) → is_token q ≡ true → NodeGoes (name_number name.Operand) (ActionNode kind.Bind 0 q)
unfolding line_of template_lines action_lines parameter_lines other_of action_others
bind_goes q token kids all are [] (parts, spelled, woven) st = absurd woven
bind_goes q token kids all are (t ∷ []) (parts, spelled, woven) st = absurd woven.1
bind_goes q token kids all are (t ∷ u ∷ []) (parts, spelled, woven) st = absurd woven.1.1
bind_goes q token kids all are (t ∷ u ∷ v ∷ ts) (parts, spelled, woven) st =
    let end : Noting = wrote (postorder (tree (ActionNode kind.Bind 0 q) kids)) st in
    let kept_as : action_with kind.Bind u ≡ ActionNode kind.Bind 0 q = with_quoted kind.Bind u (quoted_of_token q u token woven.1.0) ∙ ap (λ r. ActionNode kind.Bind 0 r) (unquoted_back q u woven.1.0) in
    word_line (name_number name.Operand) (codes "bind") t (Name (name_number name.Token) ∷ Read (class_number class.To) ∷ Name (name_number name.Yielder) ∷ Emit (mark.ActionWithToken kind.Bind) ∷ []) st end (u ∷ v ∷ ts) refl woven.0
    (name_then (name_number name.Token) (Read (class_number class.To) ∷ Name (name_number name.Yielder) ∷ Emit (mark.ActionWithToken kind.Bind) ∷ []) st (note (Token u) st) end (u ∷ []) (v ∷ ts) (token_goes q u st token woven.1.0)
    (behind_token kind.Bind (ActionNode kind.Bind 0 q) AYielder u v kids parts ts st kept_as refl woven.1.1.0 all are spelled woven.1.1.1 refl))

bind_rec_goes : (q : List ℕ) → is_token q ≡ true → NodeGoes (name_number name.Operand) (ActionNode kind.BindRec 0 q)
unfolding line_of template_lines action_lines parameter_lines other_of action_others
bind_rec_goes q token kids all are [] (parts, spelled, woven) st = absurd woven
bind_rec_goes q token kids all are (t ∷ []) (parts, spelled, woven) st = absurd woven.1
bind_rec_goes q token kids all are (t ∷ b ∷ []) (parts, spelled, woven) st = absurd woven.1.1
bind_rec_goes q token kids all are (t ∷ b ∷ u ∷ []) (parts, spelled, woven) st = absurd woven.1.1.1
bind_rec_goes q token kids all are (t ∷ b ∷ u ∷ v ∷ ts) (parts, spelled, woven) st =
    let end : Noting = wrote (postorder (tree (ActionNode kind.BindRec 0 q) kids)) st in
    let kept_as : action_with kind.BindRec u ≡ ActionNode kind.BindRec 0 q = with_quoted kind.BindRec u (quoted_of_token q u token woven.1.1.0) ∙ ap (λ r. ActionNode kind.BindRec 0 r) (unquoted_back q u woven.1.1.0) in
    word_line (name_number name.Operand) (codes "recursively") t (Read (class_number class.Bind) ∷ Name (name_number name.Token) ∷ Read (class_number class.To) ∷ Name (name_number name.Closure) ∷ Emit (mark.ActionWithToken kind.BindRec) ∷ []) st end (b ∷ u ∷ v ∷ ts) refl woven.0
    (word_read (codes "bind") b (Name (name_number name.Token) ∷ Read (class_number class.To) ∷ Name (name_number name.Closure) ∷ Emit (mark.ActionWithToken kind.BindRec) ∷ []) st end (u ∷ v ∷ ts) woven.1.0
    (name_then (name_number name.Token) (Read (class_number class.To) ∷ Name (name_number name.Closure) ∷ Emit (mark.ActionWithToken kind.BindRec) ∷ []) st (note (Token u) st) end (u ∷ []) (v ∷ ts) (token_goes q u st token woven.1.1.0)
    (behind_token kind.BindRec (ActionNode kind.BindRec 0 q) AClosure u v kids parts ts st kept_as refl woven.1.1.1.0 all are spelled woven.1.1.1.1 refl)))

bind_of_goes : (q : List ℕ) → is_variable q ≡ true → NodeGoes (name_number name.Operand) (ActionTokenOf kind.Bind 0 [] q)
unfolding line_of template_lines action_lines parameter_lines other_of action_others
bind_of_goes q token kids all are [] (parts, spelled, woven) st = absurd woven
bind_of_goes q token kids all are (t ∷ []) (parts, spelled, woven) st = absurd woven.1
bind_of_goes q token kids all are (t ∷ a ∷ []) (parts, spelled, woven) st = absurd woven.1.1
bind_of_goes q token kids all are (t ∷ a ∷ o ∷ []) (parts, spelled, woven) st = absurd woven.1.1.1
bind_of_goes q token kids all are (t ∷ a ∷ o ∷ u ∷ []) (parts, spelled, woven) st = absurd woven.1.1.1.1
bind_of_goes q token kids all are (t ∷ a ∷ o ∷ u ∷ v ∷ ts) (parts, spelled, woven) st =
    let end : Noting = wrote (postorder (tree (ActionTokenOf kind.Bind 0 [] q) kids)) st in
    let same : u ≡ q = woven.1.1.1.0 in
    let kept_as : action_with kind.Bind u ≡ ActionTokenOf kind.Bind 0 [] q = ap (action_with kind.Bind) same ∙ with_variable kind.Bind q token in
    word_line (name_number name.Operand) (codes "bind") t (Name (name_number name.Token) ∷ Read (class_number class.To) ∷ Name (name_number name.Yielder) ∷ Emit (mark.ActionWithToken kind.Bind) ∷ []) st end (a ∷ o ∷ u ∷ v ∷ ts) refl woven.0
    (name_then (name_number name.Token) (Read (class_number class.To) ∷ Name (name_number name.Yielder) ∷ Emit (mark.ActionWithToken kind.Bind) ∷ []) st (note (Token u) st) end (a ∷ o ∷ u ∷ []) (v ∷ ts) (token_of_goes q a o u st token woven.1.0 woven.1.1.0 same)
    (behind_token kind.Bind (ActionTokenOf kind.Bind 0 [] q) AYielder u v kids parts ts st kept_as refl woven.1.1.1.1.0 all are spelled woven.1.1.1.1.1 refl))

bind_rec_of_goes : (q : List ℕ) → is_variable q ≡ true → NodeGoes (name_number name.Operand) (ActionTokenOf kind.BindRec 0 [] q)
unfolding line_of template_lines action_lines parameter_lines other_of action_others
bind_rec_of_goes q token kids all are [] (parts, spelled, woven) st = absurd woven
bind_rec_of_goes q token kids all are (t ∷ []) (parts, spelled, woven) st = absurd woven.1
bind_rec_of_goes q token kids all are (t ∷ b ∷ []) (parts, spelled, woven) st = absurd woven.1.1
bind_rec_of_goes q token kids all are (t ∷ b ∷ a ∷ []) (parts, spelled, woven) st = absurd woven.1.1.1
bind_rec_of_goes q token kids all are (t ∷ b ∷ a ∷ o ∷ []) (parts, spelled, woven) st = absurd woven.1.1.1.1
bind_rec_of_goes q token kids all are (t ∷ b ∷ a ∷ o ∷ u ∷ []) (parts, spelled, woven) st = absurd woven.1.1.1.1.1
bind_rec_of_goes q token kids all are (t ∷ b ∷ a ∷ o ∷ u ∷ v ∷ ts) (parts, spelled, woven) st =
    let end : Noting = wrote (postorder (tree (ActionTokenOf kind.BindRec 0 [] q) kids)) st in
    let same : u ≡ q = woven.1.1.1.1.0 in
    let kept_as : action_with kind.BindRec u ≡ ActionTokenOf kind.BindRec 0 [] q = ap (action_with kind.BindRec) same ∙ with_variable kind.BindRec q token in
    word_line (name_number name.Operand) (codes "recursively") t (Read (class_number class.Bind) ∷ Name (name_number name.Token) ∷ Read (class_number class.To) ∷ Name (name_number name.Closure) ∷ Emit (mark.ActionWithToken kind.BindRec) ∷ []) st end (b ∷ a ∷ o ∷ u ∷ v ∷ ts) refl woven.0
    (word_read (codes "bind") b (Name (name_number name.Token) ∷ Read (class_number class.To) ∷ Name (name_number name.Closure) ∷ Emit (mark.ActionWithToken kind.BindRec) ∷ []) st end (a ∷ o ∷ u ∷ v ∷ ts) woven.1.0
    (name_then (name_number name.Token) (Read (class_number class.To) ∷ Name (name_number name.Closure) ∷ Emit (mark.ActionWithToken kind.BindRec) ∷ []) st (note (Token u) st) end (a ∷ o ∷ u ∷ []) (v ∷ ts) (token_of_goes q a o u st token woven.1.1.0 woven.1.1.1.0 same)
    (behind_token kind.BindRec (ActionTokenOf kind.BindRec 0 [] q) AClosure u v kids parts ts st kept_as refl woven.1.1.1.1.1.0 all are spelled woven.1.1.1.1.1.1 refl)))

-- each node whose token is that of a part is read as an operand
pub action_token_goes : (k : Kind) (q : List ℕ) → serves AnAction (ActionTokenOf k 0 [] q) ≡ true → NodeGoes (name_number name.Operand) (ActionTokenOf k 0 [] q)
action_token_goes kind.Bind q s = bind_of_goes q s
action_token_goes kind.BindRec q s = bind_rec_of_goes q s
action_token_goes _ q s = absurd (cc)

-- the meaning of a part is read as an operand
pub applied_goes : (f q : List ℕ) → is_function f ≡ true → is_variable q ≡ true → NodeGoes (name_number name.Operand) (Applied f q)
unfolding line_of template_lines action_lines parameter_lines other_of action_others
applied_goes f q a b none all are [] (parts, spelled, woven) st = absurd woven
applied_goes f q a b none all are (t ∷ []) (parts, spelled, woven) st = absurd woven.1
applied_goes f q a b none all are (t ∷ u ∷ ts) (parts, spelled, woven) st =
    let end : Noting = wrote (Applied f q ∷ []) st in
    let kept : Noting = note (Token u) (note (Token t) st) in
    let rest : ts ≡ [] = subst (λ (p : List (List (List ℕ))). Weaves [] p ts) spelled woven.1.1 in
    let first : line_of template_lines (name_number name.Operand) (template_class t) ≡ Some (line (name_number name.Operand) (class_number class.Function) true (Keep (class_number class.Variable) ∷ Emit mark.Applied ∷ [])) =
    ap (λ c. line_of template_lines (name_number name.Operand) c) (ap template_class woven.0 ∙ function_class f a) in
    on_tokens (Name (name_number name.Operand) ∷ []) st end (t ∷ u ∷ []) (t ∷ u ∷ ts) (ap (λ y. t ∷ u ∷ y) (sym rest))
    (does_line template_table (name_number name.Operand) (line (name_number name.Operand) (class_number class.Function) true (Keep (class_number class.Variable) ∷ Emit mark.Applied ∷ [])) st end t (u ∷ []) first
    (does_keep template_table (class_number class.Variable) (Emit mark.Applied ∷ []) (note (Token t) st) end u [] (ap template_class woven.1.0 ∙ variable_class q b)
    (emits mark.Applied kept end (ap (λ x. wrote (Applied x u ∷ []) st) woven.0 ∙ ap (λ x. wrote (Applied f x ∷ []) st) woven.1.0))))
applied_goes f q a b (more k kids) all are ts p st = absurd are

-- each action node with a spelling of its own is read as an operand
pub action_goes : (k : Kind) (n : ℕ) (q : List ℕ) → serves AnAction (ActionNode k n q) ≡ true → NodeGoes (name_number name.Operand) (ActionNode k n q)
unfolding line_of template_lines action_lines parameter_lines other_of action_others
action_goes kind.Complete n q s = bare (name_number name.Operand) kind.Complete n q (and_left (nat_eq n 0) (has_no_token q) s) (and_right (nat_eq n 0) (has_no_token q) s) (node_goes (name_number name.Operand) (ActionNode kind.Complete 0 []) (codes "complete") [] (mark.Action kind.Complete) refl refl (λ z. refl) refl)
action_goes kind.Fail n q s = bare (name_number name.Operand) kind.Fail n q (and_left (nat_eq n 0) (has_no_token q) s) (and_right (nat_eq n 0) (has_no_token q) s) (node_goes (name_number name.Operand) (ActionNode kind.Fail 0 []) (codes "fail") [] (mark.Action kind.Fail) refl refl (λ z. refl) refl)
action_goes kind.Commit n q s = bare (name_number name.Operand) kind.Commit n q (and_left (nat_eq n 0) (has_no_token q) s) (and_right (nat_eq n 0) (has_no_token q) s) (node_goes (name_number name.Operand) (ActionNode kind.Commit 0 []) (codes "commit") [] (mark.Action kind.Commit) refl refl (λ z. refl) refl)
action_goes kind.Regive n q s = bare (name_number name.Operand) kind.Regive n q (and_left (nat_eq n 0) (has_no_token q) s) (and_right (nat_eq n 0) (has_no_token q) s) (node_goes (name_number name.Operand) (ActionNode kind.Regive 0 []) (codes "regive") [] (mark.Action kind.Regive) refl refl (λ z. refl) refl)
action_goes kind.Rebind n q s = bare (name_number name.Operand) kind.Rebind n q (and_left (nat_eq n 0) (has_no_token q) s) (and_right (nat_eq n 0) (has_no_token q) s) (node_goes (name_number name.Operand) (ActionNode kind.Rebind 0 []) (codes "rebind") [] (mark.Action kind.Rebind) refl refl (λ z. refl) refl)
action_goes kind.Unfold n q s = bare (name_number name.Operand) kind.Unfold n q (and_left (nat_eq n 0) (has_no_token q) s) (and_right (nat_eq n 0) (has_no_token q) s) (node_goes (name_number name.Operand) (ActionNode kind.Unfold 0 []) (codes "unfold") [] (mark.Action kind.Unfold) refl refl (λ z. refl) refl)
action_goes kind.Check n q s = bare (name_number name.Operand) kind.Check n q (and_left (nat_eq n 0) (has_no_token q) s) (and_right (nat_eq n 0) (has_no_token q) s) (node_goes (name_number name.Operand) (ActionNode kind.Check 0 []) (codes "check") (Part ∷ []) (mark.Action kind.Check) refl refl (λ z. refl) refl)
action_goes kind.Store n q s = bare (name_number name.Operand) kind.Store n q (and_left (nat_eq n 0) (has_no_token q) s) (and_right (nat_eq n 0) (has_no_token q) s) (node_goes (name_number name.Operand) (ActionNode kind.Store 0 []) (codes "store") (Part ∷ Fixed (codes "in") ∷ Part ∷ []) (mark.Action kind.Store) refl refl (λ z. refl) refl)
action_goes kind.Allocate n q s = bare (name_number name.Operand) kind.Allocate n q (and_left (nat_eq n 0) (has_no_token q) s) (and_right (nat_eq n 0) (has_no_token q) s) (node_goes (name_number name.Operand) (ActionNode kind.Allocate 0 []) (codes "allocate") (Fixed (codes "a") ∷ Fixed (codes "cell") ∷ []) (mark.Action kind.Allocate) refl refl (λ z. refl) refl)
action_goes kind.Send n q s = bare (name_number name.Operand) kind.Send n q (and_left (nat_eq n 0) (has_no_token q) s) (and_right (nat_eq n 0) (has_no_token q) s) (node_goes (name_number name.Operand) (ActionNode kind.Send 0 []) (codes "send") (Part ∷ []) (mark.Action kind.Send) refl refl (λ z. refl) refl)
action_goes kind.Receive n q s = bare (name_number name.Operand) kind.Receive n q (and_left (nat_eq n 0) (has_no_token q) s) (and_right (nat_eq n 0) (has_no_token q) s) (node_goes (name_number name.Operand) (ActionNode kind.Receive 0 []) (codes "receive") (Fixed (codes "an") ∷ Fixed (codes "integer") ∷ []) (mark.Action kind.Receive) refl refl (λ z. refl) refl)
action_goes kind.Unfolding n q s = bare (name_number name.Operand) kind.Unfolding n q (and_left (nat_eq n 0) (has_no_token q) s) (and_right (nat_eq n 0) (has_no_token q) s) (node_goes (name_number name.Operand) (ActionNode kind.Unfolding 0 []) (codes "unfolding") (Part ∷ []) (mark.Action kind.Unfolding) refl refl (λ z. refl) refl)
action_goes kind.Furthermore n q s = bare (name_number name.Operand) kind.Furthermore n q (and_left (nat_eq n 0) (has_no_token q) s) (and_right (nat_eq n 0) (has_no_token q) s) (node_goes (name_number name.Operand) (ActionNode kind.Furthermore 0 []) (codes "furthermore") (Part ∷ []) (mark.Action kind.Furthermore) refl refl (λ z. refl) refl)
action_goes kind.Escape n q s = bare (name_number name.Operand) kind.Escape n q (and_left (nat_eq n 0) (has_no_token q) s) (and_right (nat_eq n 0) (has_no_token q) s) (begun_other_goes (name_number name.Operand) (name_number name.Escaped) (ActionNode kind.Escape 0 []) (codes "escape") [] (mark.Action kind.Escape) refl refl (λ z. refl) refl refl)
action_goes kind.Enact n q s = bare (name_number name.Operand) kind.Enact n q (and_left (nat_eq n 0) (has_no_token q) s) (and_right (nat_eq n 0) (has_no_token q) s) (begun_other_goes (name_number name.Operand) (name_number name.Enacted) (ActionNode kind.Enact 0 []) (codes "enact") (Part ∷ []) (mark.Action kind.Enact) refl refl (λ z. refl) refl refl)
action_goes kind.Give n q s = subst (λ r. NodeGoes (name_number name.Operand) (ActionNode kind.Give n r)) (sym (no_token q s)) (give_goes n)
action_goes kind.EscapeWith n q s = subst (λ r. NodeGoes (name_number name.Operand) (ActionNode kind.EscapeWith n r)) (sym (no_token q s)) (escape_with_goes n)
action_goes kind.Apply n q s = subst (λ r. NodeGoes (name_number name.Operand) (ActionNode kind.Apply n r)) (sym (no_token q s)) (apply_goes n)
action_goes kind.Bind n q s = subst (λ m. NodeGoes (name_number name.Operand) (ActionNode kind.Bind m q)) (sym (eqb-true n 0 (and_left (nat_eq n 0) (is_token q) s))) (bind_goes q (and_right (nat_eq n 0) (is_token q) s))
action_goes kind.BindRec n q s = subst (λ m. NodeGoes (name_number name.Operand) (ActionNode kind.BindRec m q)) (sym (eqb-true n 0 (and_left (nat_eq n 0) (is_token q) s))) (bind_rec_goes q (and_right (nat_eq n 0) (is_token q) s))
action_goes kind.Or n q s = shapeless (name_number name.Operand) (ActionNode kind.Or n q) AnAction (AnAction ∷ []) refl refl
action_goes kind.And n q s = shapeless (name_number name.Operand) (ActionNode kind.And n q) AnAction (AnAction ∷ []) refl refl
action_goes kind.AndThen n q s = shapeless (name_number name.Operand) (ActionNode kind.AndThen n q) AnAction (AnAction ∷ []) refl refl
action_goes kind.Then n q s = shapeless (name_number name.Operand) (ActionNode kind.Then n q) AnAction (AnAction ∷ []) refl refl
action_goes kind.Trap n q s = shapeless (name_number name.Operand) (ActionNode kind.Trap n q) AnAction (AnAction ∷ []) refl refl
action_goes kind.Hence n q s = shapeless (name_number name.Operand) (ActionNode kind.Hence n q) AnAction (AnAction ∷ []) refl refl
action_goes kind.Moreover n q s = shapeless (name_number name.Operand) (ActionNode kind.Moreover n q) AnAction (AnAction ∷ []) refl refl
action_goes kind.Before n q s = shapeless (name_number name.Operand) (ActionNode kind.Before n q) AnAction (AnAction ∷ []) refl refl
action_goes kind.Branch n q s = shapeless (name_number name.Operand) (ActionNode kind.Branch n q) AYielder (AnAction ∷ AnAction ∷ []) refl refl
