-- Templates: actions in which meanings of parts, values of numerals and bytes of identifiers may stand.
use Rattle.std.specs.Prelude.{◌≡◌, zero, true, ℕ, Bool, false, ◌&&◌, List, [], ◌∷◌, ◌++◌}
use Rattle.action_terms.specs.Labels as plain
use Rattle.action_terms.specs.Labels.{Wanted, AnAction, AYielder, AnItem, under_action, under_yielder}
use Rattle.action_terms.specs.Trees.{TreeOf, TreesOf, tree, none, more}
use Rattle.action_terms.specs.Trees as trees
use Rattle.action_terms.specs.declared.kinds.Kind.{Kind}
use Rattle.action_terms.specs.declared.kinds.Kind.TheVariants as kind
use Rattle.action_terms.specs.declared.kinds.YKind.{YKind}
use Rattle.action_terms.specs.declared.kinds.YKind.TheVariants as ykind
use Rattle.meta_terms.specs.Names.{is_function, is_variable}

-- a node of an action; a node whose token is `token of V`; `f V`; `value of V`
pub data Label : Type 0 where
  ActionNode : (k : Kind) (items : ℕ) (token : List ℕ) → Label
  YielderNode : (k : YKind) (token : List ℕ) → Label
  ActionTokenOf : (k : Kind) (items : ℕ) (token variable : List ℕ) → Label
  YielderTokenOf : (k : YKind) (token variable : List ℕ) → Label
  Applied : (function variable : List ℕ) → Label
  ValueOf : (variable : List ℕ) → Label

abbrev pub Tree : Type 0
Tree = TreeOf Label

abbrev pub Trees : Type 0
Trees = TreesOf Label

-- the kinds with a token
abbrev pub has_token : Kind → Bool
has_token kind.Bind = true
has_token kind.BindRec = true
has_token _ = false

abbrev pub yielder_has_token : YKind → Bool
yielder_has_token (ykind.Bound s) = true
yielder_has_token _ = false

-- a template can have the node, and it may stand in such a place: a node with `token of V` has no token and no items of its own
abbrev pub serves : Wanted → Label → Bool
serves x (ActionNode k items t) = plain.serves x (plain.ActionNode k items t)
serves x (YielderNode k t) = plain.serves x (plain.YielderNode k t)
serves AnAction (ActionTokenOf k zero [] v) = has_token k && is_variable v
serves AnAction (Applied f v) = is_function f && is_variable v
serves AYielder (YielderTokenOf k [] v) = yielder_has_token k && is_variable v
serves AnItem (YielderTokenOf k [] v) = yielder_has_token k && is_variable v
serves AYielder (ValueOf v) = is_variable v
serves AnItem (ValueOf v) = is_variable v
serves _ l = false

-- what stands under a node
abbrev pub under : Label → List Wanted
under (ActionNode k items t) = under_action k items
under (YielderNode k t) = under_yielder k
under (ActionTokenOf k items t v) = under_action k items
under (YielderTokenOf k t v) = under_yielder k
under (Applied f v) = []
under (ValueOf v) = []

abbrev mutual
  pub Is : Wanted → Tree → Type 0
  Is x (tree l ts) = (serves x l ≡ true) × Are (under l) ts

  pub Are : List Wanted → Trees → Type 0
  Are [] none = Unit {0}
  Are [] (more t ts) = ⊥
  Are (x ∷ xs) none = ⊥
  Are (x ∷ xs) (more t ts) = Is x t × Are xs ts

-- the tree is a template
abbrev pub IsAction : Tree → Type 0
IsAction t = Is AnAction t

-- the labels are the preorders of one template for each of these places, one after another
abbrev pub fills : List Wanted → List Label → Bool
fills [] [] = true
fills [] (l ∷ labels) = false
fills (x ∷ places) [] = false
fills (x ∷ places) (l ∷ labels) = serves x l && fills (under l ++ places) labels

-- an action as a template
abbrev pub as_label : plain.Label → Label
as_label (plain.ActionNode k n t) = ActionNode k n t
as_label (plain.YielderNode k t) = YielderNode k t

abbrev mutual
  pub as_template : trees.Tree → Tree
  as_template (tree l ts) = tree (as_label l) (as_templates ts)

  pub as_templates : trees.Trees → Trees
  as_templates none = none
  as_templates (more t ts) = more (as_template t) (as_templates ts)
