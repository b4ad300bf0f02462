-- An action is spelled as it is spelled as a template.
use Rattle.std.proofs.Common.{◌≡◌, ◌⊎◌, inl, inr, ℕ, zero, suc, true, false, List, [], ◌∷◌, refl, sym, ap, ◌∙◌, subst}
use Rattle.action_terms.specs.Labels.{Wanted, AnAction, AYielder, AnItem, AClosure}
use Rattle.action_terms.specs.Labels as plain
use Rattle.action_terms.specs.Trees.{tree, none, more}
use Rattle.action_terms.specs.Trees as trees
use Rattle.action_text.specs.Shapes as shapes
use Rattle.action_text.specs.ActionText as text
use Rattle.action_text.specs.ActionText.{IsPart, IsOperand, IsEnclosed, Weaves, label_of}
use Rattle.meta_terms.specs.Templates.{Label, Tree, Trees, ActionNode, YielderNode, ActionTokenOf, YielderTokenOf, Applied, ValueOf, serves, under, Is, Are, as_label, as_template, as_templates}
use Rattle.action_text.specs.TemplateText.{IsPlain, IsChain, ArePartsOf, Spells, SpellsIn, IsBare, AreBare, shape, operator_of, is_plain_label}

pub label_back : (l m : plain.Label) → as_label l ≡ as_label m → l ≡ m
label_back (plain.ActionNode k n t) (plain.ActionNode j m u) e = cc
label_back (plain.ActionNode k n t) (plain.YielderNode j u) e = absurd (cc)
label_back (plain.YielderNode k t) (plain.ActionNode j m u) e = absurd (cc)
label_back (plain.YielderNode k t) (plain.YielderNode j u) e = cc

-- what a label has, it has as one of a template
under_as : (l : plain.Label) → under (as_label l) ≡ plain.under l
under_as (plain.ActionNode k n t) = refl
under_as (plain.YielderNode k t) = refl

shape_as : (l : plain.Label) → shape (as_label l) ≡ shapes.shape l
shape_as (plain.ActionNode k n t) = refl
shape_as (plain.YielderNode k t) = refl

operator_as : (l : plain.Label) → operator_of (as_label l) ≡ shapes.operator_of l
operator_as (plain.ActionNode k n t) = refl
operator_as (plain.YielderNode k t) = refl

serves_as : (x : Wanted) (l : plain.Label) → serves x (as_label l) ≡ plain.serves x l
serves_as x (plain.ActionNode k n t) = refl
serves_as x (plain.YielderNode k t) = refl

pub plain_as : (l : plain.Label) → is_plain_label (as_label l) ≡ true
plain_as (plain.ActionNode k n t) = refl
plain_as (plain.YielderNode k t) = refl

label_as : (a : trees.Tree) → label_of (as_template a) ≡ as_label (label_of a)
label_as (tree l ts) = refl

-- one way of spelling leads to the other
abbrev Leads : (P Q : List (List ℕ) → Type 0) → Type 0
Leads P Q = (ts : List (List ℕ)) → P ts → Q ts

enclosed_leads : (P C Q D : List (List ℕ) → Type 0) → Leads P Q → Leads C D → (n : ℕ) → Leads (IsEnclosed n P C) (IsEnclosed n Q D)
enclosed_leads P C Q D f g zero ts h = f ts h
enclosed_leads P C Q D f g (suc n) ts (inner, e, inl h) = (inner, e, inl (enclosed_leads P C Q D f g n inner h))
enclosed_leads P C Q D f g (suc n) ts (inner, e, inr h) = (inner, e, inr (g inner h))

part_leads : (P C Q D : List (List ℕ) → Type 0) → Leads P Q → Leads C D → (x : Wanted) → Leads (IsPart x P C) (IsPart x Q D)
part_leads P C Q D f g AnAction ts h = (h.0, enclosed_leads P C Q D f g h.0 ts h.1)
part_leads P C Q D f g AYielder ts h = f ts h
part_leads P C Q D f g AnItem ts h = f ts h
part_leads P C Q D f g AClosure ts h = f ts h

-- the two ways of spelling an action
record Agrees (t : trees.Tree) : Type 0 where
  plain_up : Leads (text.IsPlain t) (IsPlain (as_template t))
  plain_down : Leads (IsPlain (as_template t)) (text.IsPlain t)
  chain_up : Leads (text.IsChain t) (IsChain (as_template t))
  chain_down : Leads (IsChain (as_template t)) (text.IsChain t)

abbrev AllAgree : trees.Trees → Type 0
AllAgree none = Unit {0}
AllAgree (more t ts) = Agrees t × AllAgree ts

parts_up : (ts : trees.Trees) → AllAgree ts → (xs : List Wanted) (parts : List (List (List ℕ))) → text.ArePartsOf ts xs parts → ArePartsOf (as_templates ts) xs parts
parts_up none h [] parts e = e
parts_up none h (x ∷ xs) parts e = absurd e
parts_up (more t ts) h [] parts e = absurd e
parts_up (more t ts) h (x ∷ xs) [] e = absurd e
parts_up (more t ts) h (x ∷ xs) (p ∷ parts) e = (part_leads (text.IsPlain t) (text.IsChain t) (IsPlain (as_template t)) (IsChain (as_template t)) h.0.plain_up h.0.chain_up x p e.0, parts_up ts h.1 xs parts e.1)

parts_down : (ts : trees.Trees) → AllAgree ts → (xs : List Wanted) (parts : List (List (List ℕ))) → ArePartsOf (as_templates ts) xs parts → text.ArePartsOf ts xs parts
parts_down none h [] parts e = e
parts_down none h (x ∷ xs) parts e = absurd e
parts_down (more t ts) h [] parts e = absurd e
parts_down (more t ts) h (x ∷ xs) [] e = absurd e
parts_down (more t ts) h (x ∷ xs) (p ∷ parts) e = (part_leads (IsPlain (as_template t)) (IsChain (as_template t)) (text.IsPlain t) (text.IsChain t) h.0.plain_down h.0.chain_down x p e.0, parts_down ts h.1 xs parts e.1)

node_up : (l : plain.Label) (ts : trees.Trees) → AllAgree ts → Leads (text.IsPlain (tree l ts)) (IsPlain (as_template (tree l ts)))
node_up l ts h us (parts, are, woven) =
    (parts, rw (under_as l) (parts_up ts h (plain.under l) parts are), rw (shape_as l) woven)

node_down : (l : plain.Label) (ts : trees.Trees) → AllAgree ts → Leads (IsPlain (as_template (tree l ts))) (text.IsPlain (tree l ts))
node_down l ts h us (parts, are, woven) =
    (parts, parts_down ts h (plain.under l) parts (rw (under_as l) at are), rw (shape_as l) at woven)

chain_leads_up : (l : plain.Label) (ts : trees.Trees) → AllAgree ts → Leads (text.IsChain (tree l ts)) (IsChain (as_template (tree l ts)))
chain_leads_up l none h us c = absurd c
chain_leads_up l (more a none) h us c = absurd c
chain_leads_up l (more a (more b none)) h us (left, w, ws, right, whole, op, l1, r) =
    (left, w, ws, right, whole, operator_as l ∙ op, by_left l1, (r.0, enclosed_leads (text.IsPlain b) (text.IsChain b) (IsPlain (as_template b)) (IsChain (as_template b)) h.1.0.plain_up h.1.0.chain_up r.0 right r.1))
  where
    by_left : ((label_of a ≡ l) × text.IsChain a left) ⊎ IsOperand (text.IsPlain a) (text.IsChain a) left
        → ((label_of (as_template a) ≡ as_label l) × IsChain (as_template a) left) ⊎ IsOperand (IsPlain (as_template a)) (IsChain (as_template a)) left
    by_left (inl c) = inl (label_as a ∙ ap as_label c.0, h.0.chain_up left c.1)
    by_left (inr o) = inr (o.0, enclosed_leads (text.IsPlain a) (text.IsChain a) (IsPlain (as_template a)) (IsChain (as_template a)) h.0.plain_up h.0.chain_up o.0 left o.1)
chain_leads_up l (more a (more b (more c ts))) h us d = absurd d

chain_leads_down : (l : plain.Label) (ts : trees.Trees) → AllAgree ts → Leads (IsChain (as_template (tree l ts))) (text.IsChain (tree l ts))
chain_leads_down l none h us c = absurd c
chain_leads_down l (more a none) h us c = absurd c
chain_leads_down l (more a (more b none)) h us (left, w, ws, right, whole, op, l1, r) =
    (left, w, ws, right, whole, sym (operator_as l) ∙ op, by_left l1, (r.0, enclosed_leads (IsPlain (as_template b)) (IsChain (as_template b)) (text.IsPlain b) (text.IsChain b) h.1.0.plain_down h.1.0.chain_down r.0 right r.1))
  where
    by_left : ((label_of (as_template a) ≡ as_label l) × IsChain (as_template a) left) ⊎ IsOperand (IsPlain (as_template a)) (IsChain (as_template a)) left
        → ((label_of a ≡ l) × text.IsChain a left) ⊎ IsOperand (text.IsPlain a) (text.IsChain a) left
    by_left (inl c) = inl (label_back (label_of a) l (sym (label_as a) ∙ c.0), h.0.chain_down left c.1)
    by_left (inr o) = inr (o.0, enclosed_leads (IsPlain (as_template a)) (IsChain (as_template a)) (text.IsPlain a) (text.IsChain a) h.0.plain_down h.0.chain_down o.0 left o.1)
chain_leads_down l (more a (more b (more c ts))) h us d = absurd d

mutual
  tree_agrees : (t : trees.Tree) → Agrees t
  tree_agrees (tree l ts) = record {
    plain_up = node_up l ts (trees_agree ts);
    plain_down = node_down l ts (trees_agree ts);
    chain_up = chain_leads_up l ts (trees_agree ts);
    chain_down = chain_leads_down l ts (trees_agree ts);
  }

  trees_agree : (ts : trees.Trees) → AllAgree ts
  trees_agree none = tt
  trees_agree (more t ts) = (tree_agrees t, trees_agree ts)

mutual
  is_up : (x : Wanted) (t : trees.Tree) → trees.Is x t → Is x (as_template t)
  is_up x (tree l ts) h = (serves_as x l ∙ h.0, rw (under_as l) (are_up (plain.under l) ts h.1))

  are_up : (xs : List Wanted) (ts : trees.Trees) → trees.Are xs ts → Are xs (as_templates ts)
  are_up [] none h = tt
  are_up [] (more t ts) h = absurd h
  are_up (x ∷ xs) none h = absurd h
  are_up (x ∷ xs) (more t ts) h = (is_up x t h.0, are_up xs ts h.1)

mutual
  is_down : (x : Wanted) (t : trees.Tree) → Is x (as_template t) → trees.Is x t
  is_down x (tree l ts) h = (sym (serves_as x l) ∙ h.0, are_down (plain.under l) ts (rw (under_as l) at h.1))

  are_down : (xs : List Wanted) (ts : trees.Trees) → Are xs (as_templates ts) → trees.Are xs ts
  are_down [] none h = tt
  are_down [] (more t ts) h = absurd h
  are_down (x ∷ xs) none h = absurd h
  are_down (x ∷ xs) (more t ts) h = (is_down x t h.0, are_down xs ts h.1)

mutual
  bare_as : (t : trees.Tree) → IsBare (as_template t)
  bare_as (tree l ts) = (plain_as l, bares_as ts)

  bares_as : (ts : trees.Trees) → AreBare (as_templates ts)
  bares_as none = tt
  bares_as (more t ts) = (bare_as t, bares_as ts)

label_plain : (l : Label) → is_plain_label l ≡ true → (m : plain.Label) × (l ≡ as_label m)
label_plain (ActionNode k n t) h = (plain.ActionNode k n t, refl)
label_plain (YielderNode k t) h = (plain.YielderNode k t, refl)
label_plain (ActionTokenOf k n t v) h = absurd (cc)
label_plain (YielderTokenOf k t v) h = absurd (cc)
label_plain (Applied f v) h = absurd (cc)
label_plain (ValueOf v) h = absurd (cc)

mutual
  tree_plain : (t : Tree) → IsBare t → (a : trees.Tree) × (t ≡ as_template a)
  tree_plain (tree l ts) h =
      let x = label_plain l h.0 in
      let y = trees_plain ts h.1 in
      (tree x.0 y.0, ap (λ m. tree m ts) x.1 ∙ ap (λ us. tree (as_label x.0) us) y.1)

  trees_plain : (ts : Trees) → AreBare ts → (us : trees.Trees) × (ts ≡ as_templates us)
  trees_plain none h = (none, refl)
  trees_plain (more t ts) h =
      let x = tree_plain t h.0 in
      let y = trees_plain ts h.1 in
      (more x.0 y.0, ap (λ u. more u ts) x.1 ∙ ap (λ us. more (as_template x.0) us) y.1)

-- an action that is spelled is spelled as a template
pub as_spelled : (t : trees.Tree) (ts : List (List ℕ)) → text.Spells t ts → SpellsIn false (as_template t) ts
as_spelled t ts (is, inl o) =
    let a = tree_agrees t in
    (bare_as t, (is_up AnAction t is, inl (o.0, enclosed_leads (text.IsPlain t) (text.IsChain t) (IsPlain (as_template t)) (IsChain (as_template t)) a.plain_up a.chain_up o.0 ts o.1)))
as_spelled t ts (is, inr c) = (bare_as t, (is_up AnAction t is, inr ((tree_agrees t).chain_up ts c)))

as_down : (t : trees.Tree) (ts : List (List ℕ)) → Spells (as_template t) ts → text.Spells t ts
as_down t ts (is, inl o) =
    let a = tree_agrees t in
    (is_down AnAction t is, inl (o.0, enclosed_leads (IsPlain (as_template t)) (IsChain (as_template t)) (text.IsPlain t) (text.IsChain t) a.plain_down a.chain_down o.0 ts o.1))
as_down t ts (is, inr c) = (is_down AnAction t is, inr ((tree_agrees t).chain_down ts c))

-- a template without parameters is an action
pub spelled_as : (t : Tree) (ts : List (List ℕ)) → SpellsIn false t ts → (a : trees.Tree) × (t ≡ as_template a) × text.Spells a ts
spelled_as t ts (bare, h) =
    let x = tree_plain t bare in
    (x.0, x.1, as_down x.0 ts (subst (λ u. Spells u ts) x.1 h))
