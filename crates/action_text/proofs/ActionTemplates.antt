-- Actions as templates.
use Rattle.std.proofs.Common.{◌≡◌, ℕ, zero, suc, ◌<◌, true, false, List, [], ◌∷◌, ◌++◌, length, get_or, map, refl, sym, ap, ◌∙◌, arith}
use Rattle.std.specs.Prelude.{All}
use Rattle.std.proofs.lemmas.List.{map-append}
use Rattle.action_terms.specs.Labels as plain
use Rattle.action_terms.specs.Trees as trees
use Rattle.action_terms.specs.Trees.{tree, none, more, preorder, preorders}
use Rattle.meta_terms.specs.Templates.{as_label, as_template, as_templates}
use Rattle.meta_terms.specs.Nodes.{label_of as template_label}
use Rattle.meta_terms.specs.declared.template.TemplateNode.{TemplateNode}
use Rattle.action_text.specs.TemplateText.{IsFirstBadIn, is_plain_label}
use Rattle.action_text.specs.ActionText as text
use Rattle.action_text.proofs.OneTree.{one_template}
use Rattle.action_text.proofs.EmbeddedActions.{label_back, plain_as, as_spelled, spelled_as}

mutual
  pub tree_back : (t u : trees.Tree) → as_template t ≡ as_template u → t ≡ u
  tree_back (tree l ts) (tree m us) e =
      let a : as_label l ≡ as_label m = cc in
      let b : as_templates ts ≡ as_templates us = cc in
      let c : l ≡ m = label_back l m a in
      let d : ts ≡ us = trees_back ts us b in
      cc

  pub trees_back : (ts us : trees.Trees) → as_templates ts ≡ as_templates us → ts ≡ us
  trees_back none none e = refl
  trees_back none (more u us) e = absurd (cc)
  trees_back (more t ts) none e = absurd (cc)
  trees_back (more t ts) (more u us) e =
      let a : as_template t ≡ as_template u = cc in
      let b : as_templates ts ≡ as_templates us = cc in
      let c : t ≡ u = tree_back t u a in
      let d : ts ≡ us = trees_back ts us b in
      cc

pub map_map : {A B C : Type 0} (f : B → C) (g : A → B) (xs : List A) → map (λ x. f (g x)) xs ≡ map f (map g xs)
map_map f g [] = refl
map_map f g (x ∷ xs) = ap (λ y. f (g x) ∷ y) (map_map f g xs)

mutual
  pub preorder_as : (t : trees.Tree) → preorder (as_template t) ≡ map as_label (preorder t)
  preorder_as (tree l ts) = ap (λ y. as_label l ∷ y) (preorders_as ts)

  pub preorders_as : (ts : trees.Trees) → preorders (as_templates ts) ≡ map as_label (preorders ts)
  preorders_as none = refl
  preorders_as (more t ts) = ap (λ y. y ++ preorders (as_templates ts)) (preorder_as t) ∙ ap (λ y. map as_label (preorder t) ++ y) (preorders_as ts) ∙ sym (map-append as_label (preorder t) (preorders ts))

pub labels_back : (xs ys : List plain.Label) → map as_label xs ≡ map as_label ys → xs ≡ ys
labels_back [] [] e = refl
labels_back [] (y ∷ ys) e = absurd (cc)
labels_back (x ∷ xs) [] e = absurd (cc)
labels_back (x ∷ xs) (y ∷ ys) e =
    let a : as_label x ≡ as_label y = cc in
    let b : map as_label xs ≡ map as_label ys = cc in
    let c : x ≡ y = label_back x y a in
    let d : xs ≡ ys = labels_back xs ys b in
    cc

-- tokens spell one action at most
pub one_action : (t u : trees.Tree) (ts : List (List ℕ)) → text.Spells t ts → text.Spells u ts → t ≡ u
one_action t u ts a b = tree_back t u (one_template false (as_template t) (as_template u) ts (as_spelled t ts a) (as_spelled u ts b))

pub first_bad_action : (tokens : List (List ℕ)) (place : ℕ) → IsFirstBadIn false tokens place → text.IsFirstBad tokens place
first_bad_action tokens place h = record {
  inside = h.inside;
  before = let s = spelled_as h.before.1 (Rattle.std.specs.Prelude.take place tokens ++ h.before.0) h.before.2 in (h.before.0, s.0, s.2);
  token = λ l b. h.token l (b.0, as_template b.1, as_spelled b.1 _ b.2);
  early = λ e t s. h.early e (as_template t) (as_spelled t tokens s);
}

-- the nodes of an action as a template are those of an action
pub all_plain : (nodes : List TemplateNode) (labels : List plain.Label) → map template_label nodes ≡ map as_label labels → All (λ n. is_plain_label (template_label n) ≡ true) nodes
all_plain nodes labels e = λ i d h. at nodes labels e i d h
  where
    at : (nodes : List TemplateNode) (labels : List plain.Label) → map template_label nodes ≡ map as_label labels → (i : ℕ) (d : TemplateNode) → i < length nodes → is_plain_label (template_label (get_or nodes i d)) ≡ true
    at [] labels e i d h = absurd (omega arith)
    at (n ∷ nodes) [] e i d h = absurd (cc)
    at (n ∷ nodes) (l ∷ labels) e zero d h = let first : template_label n ≡ as_label l = cc in ap is_plain_label first ∙ plain_as l
    at (n ∷ nodes) (l ∷ labels) e (suc i) d h = let rest : map template_label nodes ≡ map as_label labels = cc in at nodes labels rest i d (omega arith)
