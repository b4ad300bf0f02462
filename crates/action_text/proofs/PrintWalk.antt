-- The walk that prints a tree: what is due, and the trees whose nodes are still to come.
use Rattle.std.proofs.Common.{◌≡◌, ℕ, Bool, true, false, List, [], ◌∷◌, ◌++◌, length, map, refl, sym, ap, subst, ◌∙◌, append_assoc, append-nil, arith, if◌then◌else◌}
use Rattle.action_terms.specs.Labels.{Label, ActionNode, YielderNode, Wanted, AnAction, AYielder, AnItem, AClosure, under}
use Rattle.action_terms.specs.Trees.{Tree, tree, Trees, none, more, Is, Are, IsAction}
use Rattle.action_terms.specs.Pushed.{is_yielder_node}
use Rattle.action_terms.specs.declared.kinds.Kind.{Kind}
use Rattle.action_text.specs.declared.print_jobs.Side.{Side}
use Rattle.action_text.specs.declared.print_jobs.Side.TheVariants.{Whole, Operand, LeftOf}
use Rattle.action_text.specs.declared.print_jobs.Part.{Part}
use Rattle.action_text.specs.declared.print_jobs.Part.TheVariants as part
use Rattle.acg_base.specs.Decimals.{decimal_of}
use Rattle.action_text.specs.Shapes as shapes
use Rattle.action_text.specs.Shapes.{operator, operator_of, open_paren, close_paren}
use Rattle.action_text.specs.ActionText.{label_of}
use Rattle.action_text.specs.Canonical.{printed_shape, woven, is_some_word, is_operator, same_words, plain_tokens, chain_tokens, operand_tokens, action_tokens}
use Rattle.action_text.specs.Printing.{Due, Token, Node, place_of, pieces_due, shape_due, is_bare, sides_due, chain_due, action_due}
use Rattle.action_text.proofs.CanonicalTokens.{parts_in, printed_parts, operator_served}
use Rattle.action_text.proofs.LabelsOfNodes.{action_labels, action_labels_all, yielder_labels, yielder_labels_all}
use Rattle.action_text.proofs.PreorderWalk.{listed}

-- an operand, a chain in parentheses
abbrev pub enclosed : Tree → List (List ℕ)
enclosed t = if is_operator (label_of t) then open_paren ∷ (chain_tokens t ++ close_paren ∷ []) else plain_tokens t

-- a tree in its place
abbrev pub tokens_in : Part → Tree → List (List ℕ)
tokens_in (part.Action Whole) t = action_tokens t
tokens_in (part.Action Operand) t = enclosed t
tokens_in (part.Action (LeftOf k)) t = if same_words (operator_of (label_of t)) (operator k) then chain_tokens t else enclosed t
tokens_in part.Yielder t = plain_tokens t

-- an operator has a chain on its left
abbrev pub IsSide : Side → Type 0
IsSide Whole = Unit {0}
IsSide Operand = Unit {0}
IsSide (LeftOf k) = is_some_word (operator k) ≡ true

-- the tree may stand in the place
abbrev pub FitsIn : Part → Tree → Type 0
FitsIn (part.Action s) t = IsAction t × IsSide s
FitsIn part.Yielder t = (x : Wanted) × Is x t × (is_yielder_node (label_of t) ≡ true)

-- one tree for each place
abbrev pub AllFit : List Due → List Tree → Type 0
AllFit [] [] = Unit {0}
AllFit [] (t ∷ ts) = ⊥
AllFit (Token w ∷ ds) ts = AllFit ds ts
AllFit (Node p ∷ ds) [] = ⊥
AllFit (Node p ∷ ds) (t ∷ ts) = FitsIn p t × AllFit ds ts

-- the tokens to come
abbrev pub to_say : List Due → List Tree → List (List ℕ)
to_say [] ts = []
to_say (Token w ∷ ds) ts = w ∷ to_say ds ts
to_say (Node p ∷ ds) [] = to_say ds []
to_say (Node p ∷ ds) (t ∷ ts) = tokens_in p t ++ to_say ds ts

abbrev pub actions_in : List Tree → List Label
actions_in [] = []
actions_in (t ∷ ts) = action_labels t ++ actions_in ts

abbrev pub yielders_in : List Tree → List Label
yielders_in [] = []
yielders_in (t ∷ ts) = yielder_labels t ++ yielders_in ts

-- what the walk keeps: the trees to come have the nodes that are left, and the tokens to come
pub record Walk (actions yielders : List Label) (said : List (List ℕ)) (dues : List Due) (t : Tree) : Type 0 where
  pub trees : List Tree
  pub fit : AllFit dues trees
  pub actions_left : actions ≡ actions_in trees
  pub yielders_left : yielders ≡ yielders_in trees
  pub tokens_left : said ++ to_say dues trees ≡ action_tokens t

pub walk_starts : (t : Tree) → IsAction t → Walk (action_labels t) (yielder_labels t) [] (Node (part.Action Whole) ∷ []) t
walk_starts t is = record {
  trees = t ∷ [];
  fit = ((is, tt), tt);
  actions_left = sym (append-nil (action_labels t));
  yielders_left = sym (append-nil (yielder_labels t));
  tokens_left = append-nil (action_tokens t);
}

-- tokens are said
pub walk_says : (ws : List (List ℕ)) (actions yielders : List Label) (said : List (List ℕ)) (ds : List Due) (t : Tree) → Walk actions yielders said (map Token ws ++ ds) t → Walk actions yielders (said ++ ws) ds t
walk_says [] actions yielders said ds t h = record {
  trees = h.trees;
  fit = h.fit;
  actions_left = h.actions_left;
  yielders_left = h.yielders_left;
  tokens_left = ap (λ y. y ++ to_say ds h.trees) (append-nil said) ∙ h.tokens_left;
}
walk_says (w ∷ ws) actions yielders said ds t h =
    let one : Walk actions yielders (said ++ w ∷ []) (map Token ws ++ ds) t = record {
      trees = h.trees;
      fit = h.fit;
      actions_left = h.actions_left;
      yielders_left = h.yielders_left;
      tokens_left = append_assoc said (w ∷ []) (to_say (map Token ws ++ ds) h.trees) ∙ h.tokens_left;
    } in
    subst (λ y. Walk actions yielders y ds t) (append_assoc said (w ∷ []) ws) (walk_says ws actions yielders (said ++ w ∷ []) ds t one)

pub walk_ends : (actions yielders : List Label) (said : List (List ℕ)) (t : Tree) → Walk actions yielders said [] t → (actions ≡ []) × (yielders ≡ []) × (said ≡ action_tokens t)
walk_ends actions yielders said t h = by_trees h.trees h.fit h.actions_left h.yielders_left h.tokens_left
  where
    by_trees : (ts : List Tree) → AllFit [] ts → actions ≡ actions_in ts → yielders ≡ yielders_in ts → said ++ to_say [] ts ≡ action_tokens t → (actions ≡ []) × (yielders ≡ []) × (said ≡ action_tokens t)
    by_trees [] f a y w = (a, y, sym (append-nil said) ∙ w)
    by_trees (u ∷ ts) f a y w = absurd f

actions_listed : (kids : Trees) (ts : List Tree) → action_labels_all kids ++ actions_in ts ≡ actions_in (listed kids ++ ts)
actions_listed none ts = refl
actions_listed (more k kids) ts = append_assoc (action_labels k) (action_labels_all kids) (actions_in ts) ∙ ap (λ y. action_labels k ++ y) (actions_listed kids ts)

yielders_listed : (kids : Trees) (ts : List Tree) → yielder_labels_all kids ++ yielders_in ts ≡ yielders_in (listed kids ++ ts)
yielders_listed none ts = refl
yielders_listed (more k kids) ts = append_assoc (yielder_labels k) (yielder_labels_all kids) (yielders_in ts) ∙ ap (λ y. yielder_labels k ++ y) (yielders_listed kids ts)

said_next : (ws : List (List ℕ)) (ds : List Due) (ts : List Tree) → to_say (map Token ws ++ ds) ts ≡ ws ++ to_say ds ts
said_next [] ds ts = refl
said_next (w ∷ ws) ds ts = ap (λ y. w ∷ y) (said_next ws ds ts)

fit_next : (ws : List (List ℕ)) (ds : List Due) (ts : List Tree) → AllFit ds ts → AllFit (map Token ws ++ ds) ts
fit_next [] ds ts h = h
fit_next (w ∷ ws) ds ts h = fit_next ws ds ts h

-- a part of a node stands there as an operand
part_fits : (x : Wanted) (t : Tree) → Is x t → FitsIn (place_of x) t × (tokens_in (place_of x) t ≡ enclosed t)
part_fits AnAction t is = ((is, tt), refl)
part_fits AYielder (tree (YielderNode k q) ts) is = ((AYielder, is, refl), refl)
part_fits AnItem (tree (YielderNode k q) ts) is = ((AnItem, is, refl), refl)
part_fits AClosure (tree (YielderNode k q) ts) is = ((AClosure, is, refl), refl)
part_fits AYielder (tree (ActionNode k n q) ts) is = absurd (let e : false ≡ true = is.0 in cc)
part_fits AnItem (tree (ActionNode k n q) ts) is = absurd (let e : false ≡ true = is.0 in cc)
part_fits AClosure (tree (ActionNode k n q) ts) is = absurd (let e : false ≡ true = is.0 in cc)

-- the pieces of a node, and the trees under it
abbrev PiecesSaid : List shapes.Piece → List Wanted → Trees → List Due → List Tree → Type 0
PiecesSaid ps xs kids ds ts = AllFit (pieces_due ps xs ++ ds) (listed kids ++ ts) × (to_say (pieces_due ps xs ++ ds) (listed kids ++ ts) ≡ woven ps (operand_tokens kids) ++ to_say ds ts)

pieces_said : (ps : List shapes.Piece) (xs : List Wanted) (kids : Trees) (ds : List Due) (ts : List Tree) → length xs ≡ parts_in ps → Are xs kids → AllFit ds ts → PiecesSaid ps xs kids ds ts
pieces_said [] [] none ds ts n are fit = (fit, refl)
pieces_said [] [] (more k kids) ds ts n are fit = absurd are
pieces_said [] (x ∷ xs) kids ds ts n are fit = absurd (omega arith)
pieces_said (shapes.Part ∷ ps) [] kids ds ts n are fit = absurd (omega arith)
pieces_said (shapes.Part ∷ ps) (x ∷ xs) none ds ts n are fit = absurd are
pieces_said (shapes.Part ∷ ps) (x ∷ xs) (more k kids) ds ts n are fit =
    let rest : PiecesSaid ps xs kids ds ts = pieces_said ps xs kids ds ts (omega arith) are.1 fit in
    let here = part_fits x k are.0 in (
      (here.0, rest.0),
      ap (λ y. tokens_in (place_of x) k ++ y) rest.1
          ∙ ap (λ y. y ++ (woven ps (operand_tokens kids) ++ to_say ds ts)) here.1
          ∙ sym (append_assoc (enclosed k) (woven ps (operand_tokens kids)) (to_say ds ts)),
    )
pieces_said (shapes.Fixed w ∷ ps) xs kids ds ts n are fit = let rest : PiecesSaid ps xs kids ds ts = pieces_said ps xs kids ds ts n are fit in (rest.0, ap (λ y. w ∷ y) rest.1)
pieces_said (shapes.Numeral z ∷ ps) xs kids ds ts n are fit = let rest : PiecesSaid ps xs kids ds ts = pieces_said ps xs kids ds ts n are fit in (rest.0, ap (λ y. decimal_of z ∷ y) rest.1)
pieces_said (shapes.Quoted q ∷ ps) xs kids ds ts n are fit = let rest : PiecesSaid ps xs kids ds ts = pieces_said ps xs kids ds ts n are fit in (rest.0, ap (λ y. (34 ∷ (q ++ 34 ∷ [])) ∷ y) rest.1)

-- what is due instead of a tree says its tokens
abbrev TreeSaid : List Due → List (List ℕ) → Trees → List Due → List Tree → Type 0
TreeSaid now tokens kids ds ts = AllFit (now ++ ds) (listed kids ++ ts) × (to_say (now ++ ds) (listed kids ++ ts) ≡ tokens ++ to_say ds ts)

shape_said : (l : Label) (kids : Trees) (ds : List Due) (ts : List Tree) → is_operator l ≡ false → Are (under l) kids → AllFit ds ts → TreeSaid (shape_due l) (plain_tokens (tree l kids)) kids ds ts
shape_said l kids ds ts o are fit = pieces_said (printed_shape l) (under l) kids ds ts (printed_parts l o) are fit

regroup : (a b c d : List (List ℕ)) → a ++ (b ++ (c ++ d)) ≡ ((a ++ b) ++ c) ++ d
regroup a b c d = simp append_assoc

regroup_due : (ws : List (List ℕ)) (d : Due) (ds : List Due) → (map Token ws ++ d ∷ []) ++ ds ≡ map Token ws ++ (d ∷ ds)
regroup_due ws d ds = append_assoc (map Token ws) (d ∷ []) ds

-- an operator between its sides
sides_said : (k : Kind) (n : ℕ) (q : List ℕ) (kids : Trees) (ds : List Due) (ts : List Tree) → is_some_word (operator k) ≡ true → Are (AnAction ∷ AnAction ∷ []) kids → AllFit ds ts
    → TreeSaid (sides_due k) (chain_tokens (tree (ActionNode k n q) kids)) kids ds ts
sides_said k n q none ds ts o are fit = absurd are
sides_said k n q (more a none) ds ts o are fit = absurd are.1
sides_said k n q (more a (more b (more c us))) ds ts o are fit = absurd are.1.1
sides_said k n q (more a (more b none)) ds ts o are fit =
    let right : Due = Node (part.Action Operand) in
    let left : List (List ℕ) = tokens_in (part.Action (LeftOf k)) a in (
      ((are.0, o), subst (λ y. AllFit y (b ∷ ts)) (sym (regroup_due (operator k) right ds)) (fit_next (operator k) (right ∷ ds) (b ∷ ts) ((are.1.0, tt), fit))),
      ap (λ y. left ++ to_say y (b ∷ ts)) (regroup_due (operator k) right ds)
          ∙ ap (λ y. left ++ y) (said_next (operator k) (right ∷ ds) (b ∷ ts))
          ∙ regroup left (operator k) (enclosed b) (to_say ds ts),
    )

-- the same in parentheses
wrapped_said : (now : List Due) (tokens : List (List ℕ)) (kids : Trees) (ds : List Due) (ts : List Tree) → TreeSaid now tokens kids (Token close_paren ∷ ds) ts
    → TreeSaid (Token open_paren ∷ (now ++ Token close_paren ∷ [])) (open_paren ∷ (tokens ++ close_paren ∷ [])) kids ds ts
wrapped_said now tokens kids ds ts h =
    let same : (now ++ Token close_paren ∷ []) ++ ds ≡ now ++ (Token close_paren ∷ ds) = append_assoc now (Token close_paren ∷ []) ds in (
      subst (λ y. AllFit y (listed kids ++ ts)) (sym same) h.0,
      ap (λ y. open_paren ∷ to_say y (listed kids ++ ts)) same ∙ ap (λ y. open_paren ∷ y) (h.1 ∙ sym (append_assoc tokens (close_paren ∷ []) (to_say ds ts))),
    )

-- a chain in its place
chain_in : (s : Side) (k : Kind) (n : ℕ) (q : List ℕ) (kids : Trees) → is_some_word (operator k) ≡ true
    → tokens_in (part.Action s) (tree (ActionNode k n q) kids)
    ≡ (if is_bare s k then chain_tokens (tree (ActionNode k n q) kids) else open_paren ∷ (chain_tokens (tree (ActionNode k n q) kids) ++ close_paren ∷ []))
chain_in Whole k n q kids o = rw o refl
chain_in Operand k n q kids o = rw o refl
chain_in (LeftOf j) k n q kids o = rw o refl

chain_said : (s : Side) (k : Kind) (n : ℕ) (q : List ℕ) (kids : Trees) (ds : List Due) (ts : List Tree) → is_some_word (operator k) ≡ true → Are (AnAction ∷ AnAction ∷ []) kids → AllFit ds ts
    → TreeSaid (chain_due s k) (tokens_in (part.Action s) (tree (ActionNode k n q) kids)) kids ds ts
chain_said s k n q kids ds ts o are fit = subst (λ y. TreeSaid (chain_due s k) y kids ds ts) (sym (chain_in s k n q kids o)) (by_side (is_bare s k))
  where
    by_side : (b : Bool)
        → TreeSaid (if b then sides_due k else Token open_paren ∷ (sides_due k ++ Token close_paren ∷ []))
        (if b then chain_tokens (tree (ActionNode k n q) kids) else open_paren ∷ (chain_tokens (tree (ActionNode k n q) kids) ++ close_paren ∷ [])) kids ds ts
    by_side true = sides_said k n q kids ds ts o are fit
    by_side false = wrapped_said (sides_due k) (chain_tokens (tree (ActionNode k n q) kids)) kids ds ts (sides_said k n q kids (Token close_paren ∷ ds) ts o are fit)

not_same : (ws vs : List (List ℕ)) → is_some_word ws ≡ false → is_some_word vs ≡ true → same_words ws vs ≡ false
not_same [] [] e f = absurd (cc)
not_same [] (v ∷ vs) e f = refl
not_same (w ∷ ws) vs e f = absurd (cc)

-- an action that is no chain stands everywhere as it is
plain_in : (s : Side) (l : Label) (kids : Trees) → IsSide s → is_operator l ≡ false → tokens_in (part.Action s) (tree l kids) ≡ plain_tokens (tree l kids)
plain_in Whole l kids side o = rw o refl
plain_in Operand l kids side o = rw o refl
plain_in (LeftOf k) l kids side o = rw (not_same (operator_of l) (operator k) o side) (rw o refl)

action_said : (s : Side) (k : Kind) (n : ℕ) (q : List ℕ) (kids : Trees) (ds : List Due) (ts : List Tree) → IsSide s → IsAction (tree (ActionNode k n q) kids) → AllFit ds ts
    → TreeSaid (action_due s (ActionNode k n q)) (tokens_in (part.Action s) (tree (ActionNode k n q) kids)) kids ds ts
action_said s k n q kids ds ts side is fit = by_operator (is_some_word (operator k)) refl
  where
    by_operator : (b : Bool) → is_some_word (operator k) ≡ b
        → TreeSaid (if b then chain_due s k else shape_due (ActionNode k n q)) (tokens_in (part.Action s) (tree (ActionNode k n q) kids)) kids ds ts
    by_operator true o = chain_said s k n q kids ds ts o (rw (operator_served (ActionNode k n q) is.0 o).sides at is.1) fit
    by_operator false o =
        subst (λ y. TreeSaid (shape_due (ActionNode k n q)) y kids ds ts) (sym (plain_in s (ActionNode k n q) kids side o)) (shape_said (ActionNode k n q) kids ds ts o is.1 fit)

-- the next action node
pub record NextAction (actions yielders : List Label) (said : List (List ℕ)) (s : Side) (dues : List Due) (t : Tree) : Type 0 where
  pub label : Label
  pub rest : List Label
  pub first : actions ≡ label ∷ rest
  pub walk : Walk rest yielders said (action_due s label ++ dues) t

pub next_action : (actions yielders : List Label) (said : List (List ℕ)) (s : Side) (ds : List Due) (t : Tree) → Walk actions yielders said (Node (part.Action s) ∷ ds) t → NextAction actions yielders said s ds t
next_action actions yielders said s ds t h = by_trees h.trees h.fit h.actions_left h.yielders_left h.tokens_left
  where
    by_trees : (ts : List Tree) → AllFit (Node (part.Action s) ∷ ds) ts → actions ≡ actions_in ts → yielders ≡ yielders_in ts → said ++ to_say (Node (part.Action s) ∷ ds) ts ≡ action_tokens t → NextAction actions yielders said s ds t
    by_trees [] f a y w = absurd f
    by_trees (tree (YielderNode k q) kids ∷ ts) f a y w = absurd (let e : false ≡ true = f.0.0.0 in cc)
    by_trees (tree (ActionNode k n q) kids ∷ ts) f a y w =
        let said_here = action_said s k n q kids ds ts f.0.1 f.0.0 f.1 in record {
          label = ActionNode k n q;
          rest = action_labels_all kids ++ actions_in ts;
          first = a;
          walk = record {
            trees = listed kids ++ ts;
            fit = said_here.0;
            actions_left = actions_listed kids ts;
            yielders_left = y ∙ yielders_listed kids ts;
            tokens_left = ap (λ z. said ++ z) said_here.1 ∙ w;
          };
        }

-- the next yielder
pub record NextYielder (actions yielders : List Label) (said : List (List ℕ)) (dues : List Due) (t : Tree) : Type 0 where
  pub label : Label
  pub rest : List Label
  pub first : yielders ≡ label ∷ rest
  pub walk : Walk actions rest said (shape_due label ++ dues) t

pub next_yielder : (actions yielders : List Label) (said : List (List ℕ)) (ds : List Due) (t : Tree) → Walk actions yielders said (Node part.Yielder ∷ ds) t → NextYielder actions yielders said ds t
next_yielder actions yielders said ds t h = by_trees h.trees h.fit h.actions_left h.yielders_left h.tokens_left
  where
    by_trees : (ts : List Tree) → AllFit (Node part.Yielder ∷ ds) ts → actions ≡ actions_in ts → yielders ≡ yielders_in ts → said ++ to_say (Node part.Yielder ∷ ds) ts ≡ action_tokens t → NextYielder actions yielders said ds t
    by_trees [] f a y w = absurd f
    by_trees (tree (ActionNode k n q) kids ∷ ts) f a y w = absurd (let e : false ≡ true = f.0.2 in cc)
    by_trees (tree (YielderNode k q) kids ∷ ts) f a y w =
        let said_here = shape_said (YielderNode k q) kids ds ts refl f.0.1.1 f.1 in record {
          label = YielderNode k q;
          rest = yielder_labels_all kids ++ yielders_in ts;
          first = y;
          walk = record {
            trees = listed kids ++ ts;
            fit = said_here.0;
            actions_left = a ∙ actions_listed kids ts;
            yielders_left = yielders_listed kids ts;
            tokens_left = ap (λ z. said ++ z) said_here.1 ∙ w;
          };
        }
