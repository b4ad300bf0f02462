-- How many actions and how many yielders stand under a node, and so how many roots its parts have.
use Rattle.std.proofs.Common.{◌≡◌, ℕ, suc, ◌+◌, List, [], ◌∷◌, length, refl, ap, ◌∙◌, arith}
use Rattle.action_terms.specs.Labels.{Label, ActionNode, YielderNode, Wanted, AnAction, AYielder, AnItem, AClosure, under}
use Rattle.action_terms.specs.Trees.{tree, Trees, none, more, Are}
use Rattle.action_terms.specs.Numbering.{action_counts, yielder_counts, action_roots, yielder_roots}
use Rattle.action_terms.specs.Places.{actions_wanted, yielders_wanted}
use Rattle.action_terms.specs.Entries.{action_places, yielder_places}
use Rattle.action_terms.specs.declared.kinds.Kind.TheVariants as kind
use Rattle.action_terms.proofs.PlacesLemmas.{actions_wanted-items, yielders_wanted-items}

-- the places under an action node want as many actions, whatever items its data have
pub actions_wanted-under : (l : Label) → actions_wanted (under l) ≡ action_places l
actions_wanted-under (ActionNode kind.Give n t) = actions_wanted-items n
actions_wanted-under (ActionNode kind.EscapeWith n t) = actions_wanted-items n
actions_wanted-under (ActionNode kind.Apply n t) = actions_wanted-items n
actions_wanted-under (ActionNode _ n t) = refl
actions_wanted-under (YielderNode k t) = refl

-- and the yielders are the items of its operands
pub yielders_wanted-under : (l : Label) → yielders_wanted (under l) ≡ yielder_places l
yielders_wanted-under (ActionNode kind.Give n t) = let h = yielders_wanted-items n in omega arith
yielders_wanted-under (ActionNode kind.EscapeWith n t) = let h = yielders_wanted-items n in omega arith
yielders_wanted-under (ActionNode kind.Apply n t) = let h = yielders_wanted-items n in omega arith
yielders_wanted-under (ActionNode _ n t) = refl
yielders_wanted-under (YielderNode k t) = refl

-- the trees for some places have as many roots of each sort as are wanted
pub length-action_roots : (a : ℕ) (xs : List Wanted) (ts : Trees) → Are xs ts → length (action_roots a ts) ≡ actions_wanted xs
length-action_roots a [] none h = refl
length-action_roots a [] (more t ts) h = elim h [ ]
length-action_roots a (x ∷ xs) none h = elim h [ ]
length-action_roots a (AnAction ∷ xs) (more (tree (ActionNode k n t) us) ts) h = ap suc (length-action_roots (a + suc (action_counts us)) xs ts h.1)
length-action_roots a (AYielder ∷ xs) (more (tree (ActionNode k n t) us) ts) h = let e = h.0.0 in cc
length-action_roots a (AnItem ∷ xs) (more (tree (ActionNode k n t) us) ts) h = let e = h.0.0 in cc
length-action_roots a (AClosure ∷ xs) (more (tree (ActionNode k n t) us) ts) h = let e = h.0.0 in cc
length-action_roots a (AnAction ∷ xs) (more (tree (YielderNode k t) us) ts) h = let e = h.0.0 in cc
length-action_roots a (AYielder ∷ xs) (more (tree (YielderNode k t) us) ts) h = length-action_roots (a + action_counts us) xs ts h.1
length-action_roots a (AnItem ∷ xs) (more (tree (YielderNode k t) us) ts) h = length-action_roots (a + action_counts us) xs ts h.1
length-action_roots a (AClosure ∷ xs) (more (tree (YielderNode k t) us) ts) h = length-action_roots (a + action_counts us) xs ts h.1

pub length-yielder_roots : (y : ℕ) (xs : List Wanted) (ts : Trees) → Are xs ts → length (yielder_roots y ts) ≡ yielders_wanted xs
length-yielder_roots y [] none h = refl
length-yielder_roots y [] (more t ts) h = elim h [ ]
length-yielder_roots y (x ∷ xs) none h = elim h [ ]
length-yielder_roots y (AnAction ∷ xs) (more (tree (ActionNode k n t) us) ts) h = length-yielder_roots (y + yielder_counts us) xs ts h.1
length-yielder_roots y (AYielder ∷ xs) (more (tree (ActionNode k n t) us) ts) h = let e = h.0.0 in cc
length-yielder_roots y (AnItem ∷ xs) (more (tree (ActionNode k n t) us) ts) h = let e = h.0.0 in cc
length-yielder_roots y (AClosure ∷ xs) (more (tree (ActionNode k n t) us) ts) h = let e = h.0.0 in cc
length-yielder_roots y (AnAction ∷ xs) (more (tree (YielderNode k t) us) ts) h = let e = h.0.0 in cc
length-yielder_roots y (AYielder ∷ xs) (more (tree (YielderNode k t) us) ts) h = ap suc (length-yielder_roots (y + suc (yielder_counts us)) xs ts h.1)
length-yielder_roots y (AnItem ∷ xs) (more (tree (YielderNode k t) us) ts) h = ap suc (length-yielder_roots (y + suc (yielder_counts us)) xs ts h.1)
length-yielder_roots y (AClosure ∷ xs) (more (tree (YielderNode k t) us) ts) h = ap suc (length-yielder_roots (y + suc (yielder_counts us)) xs ts h.1)

-- the parts of a node have as many roots as it wants
pub length-action_roots_under : (a : ℕ) (l : Label) (ts : Trees) → Are (under l) ts → length (action_roots a ts) ≡ action_places l
length-action_roots_under a l ts h = length-action_roots a (under l) ts h ∙ actions_wanted-under l

pub length-yielder_roots_under : (y : ℕ) (l : Label) (ts : Trees) → Are (under l) ts → length (yielder_roots y ts) ≡ yielder_places l
length-yielder_roots_under y l ts h = length-yielder_roots y (under l) ts h ∙ yielders_wanted-under l
