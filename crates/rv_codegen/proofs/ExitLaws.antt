-- Where nodes go on: the first part of a node at the front of the second, or at the stop of an alternative or of a trap, and the second where the node does.
use Rattle.std.proofs.Common.{◌≡◌, ◌≢◌, ℕ, zero, suc, ◌+◌, ◌*◌, ◌<◌, ◌≤◌, List, [], ◌∷◌, length, get_or, set, replicate, Some, refl, sym, ap, ◌∙◌, arith, inl, inr, length-set, get_or-set_same, add-zero, add-one, drop}
use Rattle.std.proofs.lemmas.List.{get_or-set_other, get_or-replicate, length-replicate, drop_more, get_or_default}
use Rattle.std.proofs.lemmas.Option.{slice_get-get_or}
use Rattle.std.specs.Prelude.{slice_get, All}
use Rattle.action_terms.specs.Actions.{Join, Chain, Node, Both, Phases, Either, Trapping, Stray, Action, node_or_stray, node_at}
use Rattle.rv_codegen.specs.Blocks.{first_label, front_of, stop_of, return_of, root_exits, with_exits, exits_from, exits_of}
use Rattle.rv_codegen.proofs.NodeParts.{IsPartOf}

-- the parts of a node that performs both are two
abbrev pub PartsApart : Node → Type 0
PartsApart (Both j l r) = l ≢ r
PartsApart (Phases q l r) = l ≢ r
PartsApart (Either l r) = l ≢ r
PartsApart (Trapping l r) = l ≢ r
PartsApart _ = Unit {0}

-- the parts of an action's nodes make a tree: each is a node behind its own, and of one node alone
pub record HasTree (a : Action) : Type 0 where
  pub within : (k c : ℕ) (n : Node) → slice_get a k ≡ Some n → IsPartOf n c → c < length a
  pub after : (k c : ℕ) (n : Node) → slice_get a k ≡ Some n → IsPartOf n c → k < c
  pub one_parent : (j k c : ℕ) (m n : Node) → slice_get a j ≡ Some m → slice_get a k ≡ Some n → IsPartOf m c → IsPartOf n c → j ≡ k
  pub apart : (k : ℕ) (n : Node) → slice_get a k ≡ Some n → PartsApart n

length-with_exits : (n : Node) (k : ℕ) (exits : List ℕ) → length (with_exits n k exits) ≡ length exits
length-with_exits (Both j l r) k exits = length-set (set exits l (front_of r)) r (get_or exits k 0) ∙ length-set exits l (front_of r)
length-with_exits (Phases q l r) k exits = length-set (set exits l (front_of r)) r (get_or exits k 0) ∙ length-set exits l (front_of r)
length-with_exits (Either l r) k exits = length-set (set exits l (stop_of k)) r (get_or exits k 0) ∙ length-set exits l (stop_of k)
length-with_exits (Trapping l r) k exits = length-set (set exits l (stop_of k)) r (get_or exits k 0) ∙ length-set exits l (stop_of k)
length-with_exits _ k exits = refl

-- a node leaves what isn't its part
with_exits-other : (n : Node) (k c : ℕ) (exits : List ℕ) → (IsPartOf n c → ⊥) → get_or (with_exits n k exits) c 0 ≡ get_or exits c 0
with_exits-other (Both j l r) k c exits h =
    get_or-set_other (set exits l (front_of r)) r c (get_or exits k 0) 0 (λ e. h (inr (sym e))) ∙ get_or-set_other exits l c (front_of r) 0 (λ e. h (inl (sym e)))
with_exits-other (Phases q l r) k c exits h =
    get_or-set_other (set exits l (front_of r)) r c (get_or exits k 0) 0 (λ e. h (inr (sym e))) ∙ get_or-set_other exits l c (front_of r) 0 (λ e. h (inl (sym e)))
with_exits-other (Either l r) k c exits h =
    get_or-set_other (set exits l (stop_of k)) r c (get_or exits k 0) 0 (λ e. h (inr (sym e))) ∙ get_or-set_other exits l c (stop_of k) 0 (λ e. h (inl (sym e)))
with_exits-other (Trapping l r) k c exits h =
    get_or-set_other (set exits l (stop_of k)) r c (get_or exits k 0) 0 (λ e. h (inr (sym e))) ∙ get_or-set_other exits l c (stop_of k) 0 (λ e. h (inl (sym e)))
with_exits-other _ k c exits h = refl

exits_from-other : (a : Action) (k c : ℕ) (exits : List ℕ) → ((j : ℕ) (n : Node) → slice_get a j ≡ Some n → IsPartOf n c → ⊥) → get_or (exits_from k a exits) c 0 ≡ get_or exits c 0
exits_from-other [] k c exits h = refl
exits_from-other (n ∷ a) k c exits h =
    exits_from-other a (suc k) c (with_exits n k exits) (λ j m e. h (suc j) m e) ∙ with_exits-other n k c exits (h 0 n refl)

-- the exits as they are when node number k + j is reached: it sets those that no later node does
record Reached (a : Action) (k j : ℕ) (n : Node) (exits : List ℕ) : Type 0 where
  then : List ℕ
  size : length then ≡ length exits
  exit : (c : ℕ) → ((i : ℕ) (m : Node) → slice_get a i ≡ Some m → IsPartOf m c → i ≤ j) → get_or (exits_from k a exits) c 0 ≡ get_or (with_exits n (k + j) then) c 0

reaches-node : (a : Action) (k j : ℕ) (n : Node) (exits : List ℕ) → slice_get a j ≡ Some n → Reached a k j n exits
reaches-node [] k j n exits e = absurd (cc)
reaches-node (m ∷ a) k zero n exits e =
    let same : m ≡ n = cc in
    record {
      then = exits;
      size = refl;
      exit = λ c last.
          exits_from-other a (suc k) c (with_exits m k exits) (λ i x q p. absurd (let z : suc i ≤ 0 = last (suc i) x q p in omega arith))
          ∙ ap (λ x. get_or (with_exits x k exits) c 0) same
          ∙ ap (λ x. get_or (with_exits n x exits) c 0) (sym (add-zero k));
    }
reaches-node (m ∷ a) k (suc j) n exits e =
    let r = reaches-node a (suc k) j n (with_exits m k exits) e in
    let next : suc k + j ≡ k + suc j = omega arith in
    record {
      then = r.then;
      size = r.size ∙ length-with_exits m k exits;
      exit = λ c last. r.exit c (λ i x q p. let z : suc i ≤ suc j = last (suc i) x q p in omega arith) ∙ ap (λ x. get_or (with_exits n x r.then) c 0) next;
    }

module _ (a : Action) (tree : HasTree a) where
  abbrev at_first : List ℕ
  at_first = root_exits (length a)

  length-at_first : length at_first ≡ length a
  length-at_first = length-set (replicate (length a) (return_of (length a))) 0 (front_of (length a)) ∙ length-replicate (length a) (return_of (length a))

  -- the exits of the parts l and r of node k, the first of which goes on at a label, and of the node
  record SetsExits (k l r to : ℕ) (then : List ℕ) : Type 0 where
    first : get_or (set (set then l to) r (get_or then k 0)) l 0 ≡ to
    second : get_or (set (set then l to) r (get_or then k 0)) r 0 ≡ get_or then k 0
    own : get_or (set (set then l to) r (get_or then k 0)) k 0 ≡ get_or then k 0

  sets-exits : (k l r to : ℕ) (then : List ℕ) → l ≢ r → k < l → k < r → l < length then → r < length then → SetsExits k l r to then
  sets-exits k l r to then other kl kr ll rl =
      let ne : k ≢ r = omega arith in
      let nf : k ≢ l = omega arith in
      let s = length-set then l to in
      record {
        first = get_or-set_other (set then l to) r l (get_or then k 0) 0 other ∙ get_or-set_same then l to 0 ll;
        second = get_or-set_same (set then l to) r (get_or then k 0) 0 (omega (arith, s, rl));
        own = get_or-set_other (set then l to) r k (get_or then k 0) 0 ne ∙ get_or-set_other then l k to 0 nf;
      }

  -- the first part of node k goes on at a label, and the second where the node does
  pub record PartExits (k l r to : ℕ) : Type 0 where
    pub first : get_or (exits_of a) l 0 ≡ to
    pub second : get_or (exits_of a) r 0 ≡ get_or (exits_of a) k 0

  part-exits : (k l r to : ℕ) (n : Node) → slice_get a k ≡ Some n → IsPartOf n l → IsPartOf n r → l ≢ r → ((then : List ℕ) → with_exits n k then ≡ set (set then l to) r (get_or then k 0)) → PartExits k l r to
  part-exits k l r to n e left right apart is =
      let x = reaches-node a 0 k n at_first e in
      let kl = tree.after k l n e left in
      let kr = tree.after k r n e right in
      let size : length x.then ≡ length a = x.size ∙ length-at_first in
      let here : 0 + k ≡ k = omega arith in
      let sets = λ (c : ℕ). ap (λ i. get_or (with_exits n i x.then) c 0) here ∙ ap (λ es. get_or es c 0) (is x.then) in
      let s = sets-exits k l r to x.then apart kl kr (omega (arith, size, tree.within k l n e left)) (omega (arith, size, tree.within k r n e right)) in
      let exit_l = x.exit l (λ i m q p. let z = tree.one_parent i k l m n q e p left in omega arith) ∙ sets l ∙ s.first in
      let exit_r = x.exit r (λ i m q p. let z = tree.one_parent i k r m n q e p right in omega arith) ∙ sets r ∙ s.second in
      let exit_k = x.exit k (λ i m q p. let z = tree.after i k m q p in omega arith) ∙ sets k ∙ s.own in
      record { first = exit_l; second = exit_r ∙ sym exit_k }

  pub both-exits : (k l r : ℕ) (q : Join) → slice_get a k ≡ Some (Both q l r) → PartExits k l r (front_of r)
  both-exits k l r q e = part-exits k l r (front_of r) (Both q l r) e (inl refl) (inr refl) (tree.apart k (Both q l r) e) (λ then. refl)

  pub phases-exits : (k l r : ℕ) (q : Chain) → slice_get a k ≡ Some (Phases q l r) → PartExits k l r (front_of r)
  phases-exits k l r q e = part-exits k l r (front_of r) (Phases q l r) e (inl refl) (inr refl) (tree.apart k (Phases q l r) e) (λ then. refl)

  pub either-exits : (k l r : ℕ) → slice_get a k ≡ Some (Either l r) → PartExits k l r (stop_of k)
  either-exits k l r e = part-exits k l r (stop_of k) (Either l r) e (inl refl) (inr refl) (tree.apart k (Either l r) e) (λ then. refl)

  pub trapping-exits : (k l r : ℕ) → slice_get a k ≡ Some (Trapping l r) → PartExits k l r (stop_of k)
  trapping-exits k l r e = part-exits k l r (stop_of k) (Trapping l r) e (inl refl) (inr refl) (tree.apart k (Trapping l r) e) (λ then. refl)

  pub root-exit : 0 < length a → get_or (exits_of a) 0 0 ≡ front_of (length a)
  root-exit some =
      exits_from-other a 0 0 at_first (λ j n e p. let z = tree.after j 0 n e p in omega arith)
      ∙ get_or-set_same (replicate (length a) (return_of (length a))) 0 (front_of (length a)) 0 (omega (arith, some, length-replicate (length a) (return_of (length a))))

  -- a body, which is no part and isn't the action itself, goes on at the way back
  pub body-exit : (c : ℕ) → 0 < c → c < length a → ((j : ℕ) (n : Node) → slice_get a j ≡ Some n → IsPartOf n c → ⊥) → get_or (exits_of a) c 0 ≡ return_of (length a)
  body-exit c later within none =
      exits_from-other a 0 c at_first none
      ∙ get_or-set_other (replicate (length a) (return_of (length a))) 0 c (front_of (length a)) 0 (λ e. omega arith)
      ∙ get_or-replicate (length a) c (return_of (length a)) 0 within

-- the exits of one node more, from number k on
pub exits_from-next : (a : Action) (k : ℕ) (exits : List ℕ) → k < length a → exits_from (k + 1) (drop (k + 1) a) (with_exits (node_at a k) k exits) ≡ exits_from k (drop k a) exits
exits_from-next a k exits lt =
    let node : node_at a k ≡ get_or a k Stray = ap node_or_stray (slice_get-get_or a k Stray lt) in
    let e = drop_more a k Stray lt in
    rw (node, e, add-one) refl

-- ---- exits are labels of nodes, or that of the entries

-- every exit is below a bound
abbrev AreBelow : ℕ → List ℕ → Type 0
AreBelow bound exits = (i : ℕ) → get_or exits i 0 < bound

set-below : (bound i v : ℕ) (exits : List ℕ) → v < bound → AreBelow bound exits → AreBelow bound (set exits i v)
set-below bound i v [] lt h j = h j
set-below bound zero v (x ∷ exits) lt h zero = lt
set-below bound zero v (x ∷ exits) lt h (suc j) = h (suc j)
set-below bound (suc i) v (x ∷ exits) lt h zero = h 0
set-below bound (suc i) v (x ∷ exits) lt h (suc j) = set-below bound i v exits lt (λ n. h (suc n)) j

two-below : (bound l r v w : ℕ) (exits : List ℕ) → v < bound → w < bound → AreBelow bound exits → AreBelow bound (set (set exits l v) r w)
two-below bound l r v w exits lv lw h = set-below bound r w (set exits l v) lw (set-below bound l v exits lv h)

with_exits-below : (n : Node) (count bound k : ℕ) (exits : List ℕ) → first_label + 1 + 4 * count ≤ bound → k < count → ((c : ℕ) → IsPartOf n c → c < count) → AreBelow bound exits → AreBelow bound (with_exits n k exits)
with_exits-below (Both j l r) count bound k exits le own parts h = two-below bound l r (front_of r) (get_or exits k 0) exits (omega (arith, parts r (inr refl))) (h k) h
with_exits-below (Phases q l r) count bound k exits le own parts h = two-below bound l r (front_of r) (get_or exits k 0) exits (omega (arith, parts r (inr refl))) (h k) h
with_exits-below (Either l r) count bound k exits le own parts h = two-below bound l r (stop_of k) (get_or exits k 0) exits (omega arith) (h k) h
with_exits-below (Trapping l r) count bound k exits le own parts h = two-below bound l r (stop_of k) (get_or exits k 0) exits (omega arith) (h k) h
with_exits-below _ count bound k exits le own parts h = h

exits_from-below : (a : Action) (count bound k : ℕ) (exits : List ℕ) → first_label + 1 + 4 * count ≤ bound → k + length a ≤ count → ((j c : ℕ) (n : Node) → slice_get a j ≡ Some n → IsPartOf n c → c < count) → AreBelow bound exits → AreBelow bound (exits_from k a exits)
exits_from-below [] count bound k exits le all parts h = h
exits_from-below (n ∷ a) count bound k exits le all parts h =
    exits_from-below a count bound (suc k) (with_exits n k exits) le (omega (arith, all)) (λ j c m e p. parts (suc j) c m e p) (with_exits-below n count bound k exits le (omega (arith, all)) (λ c p. parts 0 c n refl p) h)

all-below : (bound n v : ℕ) → v < bound → AreBelow bound (replicate n v)
all-below bound zero v lt i = omega arith
all-below bound (suc n) v lt zero = lt
all-below bound (suc n) v lt (suc i) = all-below bound n v lt i

-- the exits are among the labels that are made
pub exits-made : (a : Action) → HasTree a → (exits : List ℕ) (labels : ℕ) → exits ≡ exits_of a → first_label + (4 * length a + 4) ≤ labels → All (λ l. l < labels) exits
exits-made a tree exits labels e many i d within =
    let first = set-below labels 0 (front_of (length a)) (replicate (length a) (return_of (length a))) (omega arith) (all-below labels (length a) (return_of (length a)) (omega arith)) in
    let below = exits_from-below a (length a) labels 0 (root_exits (length a)) (omega arith) (omega arith) (λ j c n f p. tree.within j c n f p) first i in
    let here : get_or exits i d ≡ get_or (exits_of a) i 0 = get_or_default exits i d 0 within ∙ ap (λ l. get_or l i 0) e in
    rw here below
