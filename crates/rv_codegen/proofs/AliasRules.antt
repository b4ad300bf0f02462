-- Where the parts of each kind of node find and leave data, by where the node does.
use Rattle.std.proofs.Common.{◌≡◌, ◌≢◌, ◌⊎◌, ℕ, ◌+◌, Bool, true, false, List, [], ◌∷◌, ◌++◌, length, take, drop, refl, sym, ap, subst, ◌∙◌, arith, inl, inr}
use Rattle.std.specs.Prelude.{nat_eq, if◌then◌else◌}
use Rattle.std.proofs.lemmas.Bool.{eq-eqb}
use Rattle.std.proofs.lemmas.Bool.Decides.{eqb_tells}
use Rattle.std.proofs.lemmas.List.{take-append-drop}
use Rattle.action_terms.specs.Actions.{Action, AndThen, Before, Both, Branch, Chain, Either, Furthermore, Hence, Join, Node, Phases, Then, Trapping, Yielder, node_at}
use Rattle.action_terms.specs.Performances.{Here, Later, OneOf}
use Rattle.sort_rules.specs.Procedures.{parts_at}
use Rattle.frame_layout.specs.Places.{PlacedNode}
use Rattle.frame_layout.specs.Layouts.{IsInTurn, OfBoth, OfPhases, OfTrapping}
use Rattle.frame_layout.proofs.GraphParts.{HasTrees}
use Rattle.frame_layout.proofs.ProcedureRoots.{whole-is}
use Rattle.rv_codegen.specs.Aliases.{back_places, front_places, given_in, given_of, of_part, out_in, out_of, whole_places}
use Rattle.rv_codegen.proofs.AliasSteps.{handed-part}

-- ---- of lists

when-true : {A : Type 0} (b : Bool) (x y : A) → b ≡ true → (if b then x else y) ≡ x
when-true true x y e = refl
when-true false x y e = absurd {0} (cc)

when-false : {A : Type 0} (b : Bool) (x y : A) → b ≡ false → (if b then x else y) ≡ y
when-false true x y e = absurd {0} (cc)
when-false false x y e = refl

not-same : (i j : ℕ) → i ≢ j → nat_eq i j ≡ false
not-same i j other = elim (eqb_tells i j) [ inl same ↦ absurd (other same.1) | inr no_same ↦ no_same.0 ]

first-of : (l k : ℕ) (x y : List ℕ) → k ≡ l → of_part l k x y ≡ x
first-of l k x y e = when-true (nat_eq k l) x y (eq-eqb k l e)

second-of : (l k : ℕ) (x y : List ℕ) → k ≢ l → of_part l k x y ≡ y
second-of l k x y e = when-false (nat_eq k l) x y (not-same k l e)

whole-wanted : (own os : List ℕ) → length own ≡ length os → whole_places own os ≡ os
whole-wanted own os e = when-true (nat_eq (length own) (length os)) os own (eq-eqb (length own) (length os) e)

-- two parts have the words of their node one behind the other, or each its own
both-places : (first second os : List ℕ) → ((front_places first second os ≡ first) × (back_places first second os ≡ second)) ⊎ (os ≡ front_places first second os ++ back_places first second os)
both-places first second os = elim (eqb_tells (length first + length second) (length os)) [
  | inl same ↦ inr (sym (
      ap (λ (xs : List ℕ). xs ++ back_places first second os) (when-true (nat_eq (length first + length second) (length os)) (take (length first) os) first same.0)
      ∙ ap (λ (xs : List ℕ). take (length first) os ++ xs) (when-true (nat_eq (length first + length second) (length os)) (drop (length first) os) second same.0)
      ∙ take-append-drop (length first) os))
  | inr other ↦ inl (when-false (nat_eq (length first + length second) (length os)) (take (length first) os) first other.0, when-false (nat_eq (length first + length second) (length os)) (drop (length first) os) second other.0)
]

both-wanted : (first second os : List ℕ) → length first + length second ≡ length os → os ≡ front_places first second os ++ back_places first second os
both-wanted first second os e =
    let test = eq-eqb (length first + length second) (length os) e in
    sym (
    ap (λ (xs : List ℕ). xs ++ back_places first second os) (when-true (nat_eq (length first + length second) (length os)) (take (length first) os) first test)
    ∙ ap (λ (xs : List ℕ). take (length first) os ++ xs) (when-true (nat_eq (length first + length second) (length os)) (drop (length first) os) second test)
    ∙ take-append-drop (length first) os)

module _ (a : Action) (trees : HasTrees a) (p : ℕ → PlacedNode) where
  abbrev givens : ℕ → List ℕ
  givens k = given_of p a k

  abbrev outs : ℕ → List ℕ
  outs k = out_of p a k

  given-by : (n k : ℕ) (m : Node) → node_at a n ≡ m → OneOf k (parts_at m) → givens k ≡ given_in p m (givens n) k
  given-by n k m e part =
      handed-part a trees (given_in p) (λ j. (p j).data_in) k n (whole-is a trees k n (subst (λ x. OneOf k (parts_at x)) (sym e) part)) ∙ ap (λ x. given_in p x (givens n) k) e

  out-by : (n k : ℕ) (m : Node) → node_at a n ≡ m → OneOf k (parts_at m) → outs k ≡ out_in p m (outs n) k
  out-by n k m e part =
      handed-part a trees (out_in p) (λ j. (p j).data_out) k n (whole-is a trees k n (subst (λ x. OneOf k (parts_at x)) (sym e) part)) ∙ ap (λ x. out_in p x (outs n) k) e

  -- ---- `and` and `moreover`

  pub both-given_left : (n l r : ℕ) (j : Join) → node_at a n ≡ Both j l r → givens l ≡ givens n
  both-given_left n l r j e = given-by n l (Both j l r) e Here

  pub both-given_right : (n l r : ℕ) (j : Join) → node_at a n ≡ Both j l r → givens r ≡ givens n
  both-given_right n l r j e = given-by n r (Both j l r) e (Later Here)

  -- of two parts, each has its own words, or the node has those of both
  abbrev pub OwnOrJoined : (n l r : ℕ) → Type 0
  OwnOrJoined n l r = ((outs l ≡ (p l).data_out) × (outs r ≡ (p r).data_out)) ⊎ (outs n ≡ outs l ++ outs r)

  shared : (n l r : ℕ) → r ≢ l
      → outs l ≡ of_part l l (front_places (p l).data_out (p r).data_out (outs n)) (back_places (p l).data_out (p r).data_out (outs n))
      → outs r ≡ of_part l r (front_places (p l).data_out (p r).data_out (outs n)) (back_places (p l).data_out (p r).data_out (outs n))
      → (outs l ≡ front_places (p l).data_out (p r).data_out (outs n)) × (outs r ≡ back_places (p l).data_out (p r).data_out (outs n))
  shared n l r other x y = (x ∙ first-of l l _ _ refl, y ∙ second-of l r _ _ other)

  own-or-joined : (n l r : ℕ) → (outs l ≡ front_places (p l).data_out (p r).data_out (outs n)) × (outs r ≡ back_places (p l).data_out (p r).data_out (outs n)) → OwnOrJoined n l r
  own-or-joined n l r s = go (both-places (p l).data_out (p r).data_out (outs n))
    where
      go : ((front_places (p l).data_out (p r).data_out (outs n) ≡ (p l).data_out) × (back_places (p l).data_out (p r).data_out (outs n) ≡ (p r).data_out))
          ⊎ (outs n ≡ front_places (p l).data_out (p r).data_out (outs n) ++ back_places (p l).data_out (p r).data_out (outs n)) → OwnOrJoined n l r
      go (inl own) = inl (s.0 ∙ own.0, s.1 ∙ own.1)
      go (inr both) = inr (both ∙ ap (λ (xs : List ℕ). xs ++ back_places (p l).data_out (p r).data_out (outs n)) (sym s.0) ∙ ap (λ (xs : List ℕ). outs l ++ xs) (sym s.1))

  joined : (n l r : ℕ) → (outs l ≡ front_places (p l).data_out (p r).data_out (outs n)) × (outs r ≡ back_places (p l).data_out (p r).data_out (outs n))
      → length (p l).data_out + length (p r).data_out ≡ length (outs n) → outs n ≡ outs l ++ outs r
  joined n l r s e = both-wanted (p l).data_out (p r).data_out (outs n) e ∙ ap (λ (xs : List ℕ). xs ++ back_places (p l).data_out (p r).data_out (outs n)) (sym s.0) ∙ ap (λ (xs : List ℕ). outs l ++ xs) (sym s.1)

  second-other : (n l r : ℕ) → IsInTurn (node_at a n) l r → r ≢ l
  second-other n l r turn e = let less = trees.in_turn n l r turn in omega (arith, less, e)

  both-shared : (n l r : ℕ) (j : Join) → node_at a n ≡ Both j l r → (outs l ≡ front_places (p l).data_out (p r).data_out (outs n)) × (outs r ≡ back_places (p l).data_out (p r).data_out (outs n))
  both-shared n l r j e = shared n l r (second-other n l r (subst (λ x. IsInTurn x l r) (sym e) OfBoth)) (out-by n l (Both j l r) e Here) (out-by n r (Both j l r) e (Later Here))

  pub both-own : (n l r : ℕ) (j : Join) → node_at a n ≡ Both j l r → OwnOrJoined n l r
  both-own n l r j e = own-or-joined n l r (both-shared n l r j e)

  pub both-joined : (n l r : ℕ) (j : Join) → node_at a n ≡ Both j l r → length (p l).data_out + length (p r).data_out ≡ length (outs n) → outs n ≡ outs l ++ outs r
  both-joined n l r j e = joined n l r (both-shared n l r j e)

  -- ---- `and then`, `hence` and `before`

  -- the chains whose second part finds the data that the node found
  abbrev pub Passes : Chain → Type 0
  Passes Then = ⊥
  Passes _ = Unit {0}

  pub phases-given_left : (n l r : ℕ) (q : Chain) → node_at a n ≡ Phases q l r → givens l ≡ givens n
  phases-given_left n l r Then e = given-by n l (Phases Then l r) e Here ∙ first-of l l (givens n) (p l).data_out refl
  phases-given_left n l r AndThen e = given-by n l (Phases AndThen l r) e Here
  phases-given_left n l r Hence e = given-by n l (Phases Hence l r) e Here
  phases-given_left n l r Before e = given-by n l (Phases Before l r) e Here

  pub phases-given_right : (n l r : ℕ) (q : Chain) → Passes q → node_at a n ≡ Phases q l r → givens r ≡ givens n
  phases-given_right n l r Then h e = absurd h
  phases-given_right n l r AndThen h e = given-by n r (Phases AndThen l r) e (Later Here)
  phases-given_right n l r Hence h e = given-by n r (Phases Hence l r) e (Later Here)
  phases-given_right n l r Before h e = given-by n r (Phases Before l r) e (Later Here)

  phases-shared : (n l r : ℕ) (q : Chain) → Passes q → node_at a n ≡ Phases q l r → (outs l ≡ front_places (p l).data_out (p r).data_out (outs n)) × (outs r ≡ back_places (p l).data_out (p r).data_out (outs n))
  phases-shared n l r Then h e = absurd h
  phases-shared n l r AndThen h e = shared n l r (second-other n l r (subst (λ x. IsInTurn x l r) (sym e) OfPhases)) (out-by n l (Phases AndThen l r) e Here) (out-by n r (Phases AndThen l r) e (Later Here))
  phases-shared n l r Hence h e = shared n l r (second-other n l r (subst (λ x. IsInTurn x l r) (sym e) OfPhases)) (out-by n l (Phases Hence l r) e Here) (out-by n r (Phases Hence l r) e (Later Here))
  phases-shared n l r Before h e = shared n l r (second-other n l r (subst (λ x. IsInTurn x l r) (sym e) OfPhases)) (out-by n l (Phases Before l r) e Here) (out-by n r (Phases Before l r) e (Later Here))

  pub phases-own : (n l r : ℕ) (q : Chain) → Passes q → node_at a n ≡ Phases q l r → OwnOrJoined n l r
  phases-own n l r q h e = own-or-joined n l r (phases-shared n l r q h e)

  pub phases-joined : (n l r : ℕ) (q : Chain) → Passes q → node_at a n ≡ Phases q l r → length (p l).data_out + length (p r).data_out ≡ length (outs n) → outs n ≡ outs l ++ outs r
  phases-joined n l r q h e = joined n l r (phases-shared n l r q h e)

  -- ---- `then`

  -- the first part leaves data in words of its own, where the second finds them
  pub then-out_left : (n l r : ℕ) → node_at a n ≡ Phases Then l r → outs l ≡ (p l).data_out
  then-out_left n l r e = out-by n l (Phases Then l r) e Here ∙ first-of l l (p l).data_out (whole_places (p r).data_out (outs n)) refl

  pub then-given_right : (n l r : ℕ) → node_at a n ≡ Phases Then l r → givens r ≡ outs l
  then-given_right n l r e =
      given-by n r (Phases Then l r) e (Later Here) ∙ second-of l r (givens n) (p l).data_out (second-other n l r (subst (λ x. IsInTurn x l r) (sym e) OfPhases)) ∙ sym (then-out_left n l r e)

  pub then-ends : (n l r : ℕ) → node_at a n ≡ Phases Then l r → length (p r).data_out ≡ length (outs n) → outs n ≡ outs r
  then-ends n l r e same =
      sym (out-by n r (Phases Then l r) e (Later Here) ∙ second-of l r (p l).data_out (whole_places (p r).data_out (outs n)) (second-other n l r (subst (λ x. IsInTurn x l r) (sym e) OfPhases)) ∙ whole-wanted (p r).data_out (outs n) same)

  -- ---- parts that end as their node does

  pub either-out : (n l r k : ℕ) → node_at a n ≡ Either l r → OneOf k (l ∷ r ∷ []) → length (p k).data_out ≡ length (outs n) → outs k ≡ outs n
  either-out n l r k e m same = out-by n k (Either l r) e m ∙ whole-wanted (p k).data_out (outs n) same

  pub either-given : (n l r k : ℕ) → node_at a n ≡ Either l r → OneOf k (l ∷ r ∷ []) → givens k ≡ givens n
  either-given n l r k e m = given-by n k (Either l r) e m

  pub branch-out : (n l r k : ℕ) (y : Yielder) → node_at a n ≡ Branch y l r → OneOf k (l ∷ r ∷ []) → length (p k).data_out ≡ length (outs n) → outs k ≡ outs n
  branch-out n l r k y e m same = out-by n k (Branch y l r) e m ∙ whole-wanted (p k).data_out (outs n) same

  pub branch-given : (n l r k : ℕ) (y : Yielder) → node_at a n ≡ Branch y l r → OneOf k (l ∷ r ∷ []) → givens k ≡ givens n
  branch-given n l r k y e m = given-by n k (Branch y l r) e m

  pub furthermore-out : (n l : ℕ) → node_at a n ≡ Furthermore l → length (p l).data_out ≡ length (outs n) → outs l ≡ outs n
  furthermore-out n l e same = out-by n l (Furthermore l) e Here ∙ whole-wanted (p l).data_out (outs n) same

  pub furthermore-given : (n l : ℕ) → node_at a n ≡ Furthermore l → givens l ≡ givens n
  furthermore-given n l e = given-by n l (Furthermore l) e Here

  pub trapping-out : (n l r k : ℕ) → node_at a n ≡ Trapping l r → OneOf k (l ∷ r ∷ []) → length (p k).data_out ≡ length (outs n) → outs k ≡ outs n
  trapping-out n l r k e m same = out-by n k (Trapping l r) e m ∙ whole-wanted (p k).data_out (outs n) same

  pub trapping-given_left : (n l r : ℕ) → node_at a n ≡ Trapping l r → givens l ≡ givens n
  trapping-given_left n l r e = given-by n l (Trapping l r) e Here ∙ first-of l l (givens n) (p l).escaped refl

  -- the handler finds what the first part escaped with in words that the first part has for it
  pub trapping-given_right : (n l r : ℕ) → node_at a n ≡ Trapping l r → givens r ≡ (p l).escaped
  trapping-given_right n l r e =
      given-by n r (Trapping l r) e (Later Here) ∙ second-of l r (givens n) (p l).escaped (second-other n l r (subst (λ x. IsInTurn x l r) (sym e) OfTrapping))
