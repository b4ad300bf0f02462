-- Labels in postorder are those of one tree; so tokens spell one action.
use Rattle.std.proofs.Common.{◌≡◌, Bool, true, false, ℕ, zero, suc, ◌+◌, List, [], ◌∷◌, ◌++◌, length, refl, sym, ap, ◌∙◌, append_assoc, append-nil, arith}
use Rattle.action_terms.specs.Labels.{Wanted, AnAction}
use Rattle.meta_terms.specs.Templates.{Label, under, Tree, Trees, Is, Are, IsAction}
use Rattle.action_terms.specs.Trees.{tree, none, more}
use Rattle.action_text.specs.declared.names.Name.TheVariants as name
use Rattle.action_text.specs.Numbers.{name_number}
use Rattle.action_text.specs.Tables.{Name, Written, Reads}
use Rattle.action_text.specs.TemplateText.{SpellsIn}
use Rattle.action_text.specs.Posts.{postorder, postorders}
use Rattle.action_text.specs.Notes.{Noting, noted}
use Rattle.action_text.specs.ActionTable.{table_in}
use Rattle.action_text.proofs.Means.{wrote}
use Rattle.action_text.proofs.Starts.{Safe}
use Rattle.action_text.proofs.ActionTablePasses.{known, table_starting, table_choosing}
use Rattle.action_text.proofs.OneWriting.{one_writing}
use Rattle.action_text.proofs.Parameters.{spelled_is_read_in}

-- the trees one behind the other
abbrev pub joined_trees : Trees → Trees → Trees
joined_trees none us = us
joined_trees (more t ts) us = more t (joined_trees ts us)

joined_none : (ts : Trees) → joined_trees ts none ≡ ts
joined_none none = refl
joined_none (more t ts) = ap (λ y. more t y) (joined_none ts)

-- how many trees there are
abbrev pub count_of : Trees → ℕ
count_of none = zero
count_of (more t ts) = suc (count_of ts)

-- trees put on a stack, the first one first
abbrev pub stacked : Trees → List Tree → List Tree
stacked none st = st
stacked (more t ts) st = stacked ts (t ∷ st)

-- so many trees off the stack, in front of others
abbrev pub gathered : ℕ → List Tree → Trees → Trees
gathered zero st acc = acc
gathered (suc n) [] acc = acc
gathered (suc n) (t ∷ st) acc = gathered n st (more t acc)

abbrev pub beneath : ℕ → List Tree → List Tree
beneath zero st = st
beneath (suc n) [] = []
beneath (suc n) (t ∷ st) = beneath n st

-- the trees that labels in postorder make
abbrev pub grown : List Label → List Tree → List Tree
grown [] st = st
grown (l ∷ ls) st = grown ls (tree l (gathered (length (under l)) st none) ∷ beneath (length (under l)) st)

gathered_back : (ts : Trees) (m : ℕ) (st : List Tree) (acc : Trees) → gathered (count_of ts + m) (stacked ts st) acc ≡ gathered m st (joined_trees ts acc)
gathered_back none m st acc = let e : 0 + m ≡ m = omega arith in ap (λ n. gathered n st acc) e
gathered_back (more t ts) m st acc =
    let e : suc (count_of ts) + m ≡ count_of ts + suc m = omega arith in
    ap (λ n. gathered n (stacked ts (t ∷ st)) acc) e ∙ gathered_back ts (suc m) (t ∷ st) acc

beneath_back : (ts : Trees) (m : ℕ) (st : List Tree) → beneath (count_of ts + m) (stacked ts st) ≡ beneath m st
beneath_back none m st = let e : 0 + m ≡ m = omega arith in ap (λ n. beneath n st) e
beneath_back (more t ts) m st =
    let e : suc (count_of ts) + m ≡ count_of ts + suc m = omega arith in
    ap (λ n. beneath n (stacked ts (t ∷ st))) e ∙ beneath_back ts (suc m) (t ∷ st)

pub count_is : (xs : List Wanted) (ts : Trees) → Are xs ts → length xs ≡ count_of ts + 0
count_is [] none h = omega arith
count_is [] (more t ts) h = absurd h
count_is (x ∷ xs) none h = absurd h
count_is (x ∷ xs) (more t ts) h = let e = count_is xs ts h.1 in omega (arith, e)

mutual
  -- a tree grows from its labels
  grown_tree : (t : Tree) (x : Wanted) → Is x t → (ls : List Label) (st : List Tree) → grown (postorder t ++ ls) st ≡ grown ls (t ∷ st)
  grown_tree (tree l ts) x is ls st =
      let n : length (under l) ≡ count_of ts + 0 = count_is (under l) ts is.1 in
      let kids : gathered (length (under l)) (stacked ts st) none ≡ ts =
      ap (λ n. gathered n (stacked ts st) none) n ∙ gathered_back ts 0 st none ∙ joined_none ts in
      let rest : beneath (length (under l)) (stacked ts st) ≡ st = ap (λ n. beneath n (stacked ts st)) n ∙ beneath_back ts 0 st in
      ap (λ y. grown y st) (append_assoc (postorders ts) (l ∷ []) ls)
      ∙ grown_trees ts (under l) is.1 (l ∷ ls) st
      ∙ ap (λ k. grown ls (tree l k ∷ beneath (length (under l)) (stacked ts st))) kids
      ∙ ap (λ y. grown ls (tree l ts ∷ y)) rest

  grown_trees : (ts : Trees) (xs : List Wanted) → Are xs ts → (ls : List Label) (st : List Tree) → grown (postorders ts ++ ls) st ≡ grown ls (stacked ts st)
  grown_trees none xs are ls st = refl
  grown_trees (more t ts) [] are ls st = absurd are
  grown_trees (more t ts) (x ∷ xs) are ls st =
      ap (λ y. grown y st) (append_assoc (postorder t) (postorders ts) ls)
      ∙ grown_tree t x are.0 (postorders ts ++ ls) st
      ∙ grown_trees ts xs are.1 ls (t ∷ st)

-- labels in postorder are those of one action
pub one_postorder : (t u : Tree) → IsAction t → IsAction u → postorder t ≡ postorder u → t ≡ u
one_postorder t u is_t is_u e =
    let a : grown (postorder t) [] ≡ t ∷ [] = ap (λ y. grown y []) (sym (append-nil (postorder t))) ∙ grown_tree t AnAction is_t [] [] in
    let b : grown (postorder u) [] ≡ u ∷ [] = ap (λ y. grown y []) (sym (append-nil (postorder u))) ∙ grown_tree u AnAction is_u [] [] in
    let same : t ∷ [] ≡ u ∷ [] = sym a ∙ ap (λ y. grown y []) e ∙ b in
    cc

-- no note and no label
abbrev pub nothing_noted : Noting
nothing_noted = record { notes = []; labels = [] }

-- the tokens are read in one way
pub one_reading : (p : Bool) (ts : List (List ℕ)) (o q : List Written) → Reads (table_in p) (Name (name_number name.Action) ∷ []) ts o → Reads (table_in p) (Name (name_number name.Action) ∷ []) ts q → o ≡ q
one_reading p ts o q h e = one_writing (table_in p) (known p) (table_starting p) (table_choosing p) h.0 e.0 (Name (name_number name.Action) ∷ []) ts o q (start p) h.1 e.1
  where
    start : (p : Bool) → Safe (known p) (Name (name_number name.Action) ∷ [])
    start true = (omega arith, (λ c h. refl), tt)
    start false = (omega arith, (λ c h. refl), tt)

spelled_action : (p : Bool) (t : Tree) (ts : List (List ℕ)) → SpellsIn p t ts → IsAction t
spelled_action true t ts h = h.0
spelled_action false t ts h = h.1.0

-- tokens spell one template at most
pub one_template : (p : Bool) (t u : Tree) (ts : List (List ℕ)) → SpellsIn p t ts → SpellsIn p u ts → t ≡ u
one_template p t u ts a b =
    let x = spelled_is_read_in p t ts a nothing_noted in
    let y = spelled_is_read_in p u ts b nothing_noted in
    let o : x.written ≡ y.written = one_reading p ts x.written y.written x.reads y.reads in
    let same : wrote (postorder t) nothing_noted ≡ wrote (postorder u) nothing_noted = sym x.ends ∙ ap (λ w. noted w nothing_noted) o ∙ y.ends in
    one_postorder t u (spelled_action p t ts a) (spelled_action p u ts b) (ap (λ (z : Noting). z.labels) same)
