-- The parts of nodes, and what nodes call.
use Rattle.std.proofs.Common.{◌≡◌, ◌⊎◌, ℕ, sym, subst, inr}
use Rattle.action_terms.specs.Acting.{Tree, Run, Par, Second}
use Rattle.action_terms.specs.Actions.{Node, Enact, Apply, Unfolding, Unfold, Furthermore, Both, Phases, Either, Trapping, Branch, Stray, Action, node_at}

-- there is a node
abbrev pub IsNode : Node → Type 0
IsNode Stray = ⊥
IsNode _ = Unit {0}

-- a part of a node
abbrev pub IsPartOf : Node → ℕ → Type 0
IsPartOf (Both j l r) k = (l ≡ k) ⊎ (r ≡ k)
IsPartOf (Phases q l r) k = (l ≡ k) ⊎ (r ≡ k)
IsPartOf (Either l r) k = (l ≡ k) ⊎ (r ≡ k)
IsPartOf (Trapping l r) k = (l ≡ k) ⊎ (r ≡ k)
IsPartOf (Branch y l r) k = (l ≡ k) ⊎ (r ≡ k)
IsPartOf (Furthermore l) k = l ≡ k
IsPartOf _ k = ⊥

-- the part of a node that runs where the tree has no frame for the node any more
abbrev pub IsTailOf : Node → ℕ → Type 0
IsTailOf (Either l r) k = r ≡ k
IsTailOf (Trapping l r) k = r ≡ k
IsTailOf (Branch y l r) k = (l ≡ k) ⊎ (r ≡ k)
IsTailOf _ k = ⊥

-- a node that calls a body
abbrev pub Calls : Node → ℕ → Type 0
Calls (Unfolding c) k = c ≡ k
Calls (Unfold c) k = c ≡ k
Calls (Enact y) k = Unit {0}
Calls (Apply y is) k = Unit {0}
Calls _ k = ⊥

-- a node that names the body that it calls
abbrev pub CallsByNumber : Node → ℕ → Type 0
CallsByNumber n c = (n ≡ Unfolding c) ⊎ (n ≡ Unfold c)

-- a node that keeps a record while its first part is performed
abbrev pub KeepsRecord : Node → Type 0
KeepsRecord (Either l r) = Unit {0}
KeepsRecord (Trapping l r) = Unit {0}
KeepsRecord _ = ⊥

-- the tree is one of node n: the node is to be performed, or its parts are
abbrev pub IsTreeOf : (n : ℕ) → Tree → Type 0
IsTreeOf n (Run k d b) = k ≡ n
IsTreeOf n (Par k x y) = k ≡ n
IsTreeOf n (Second k d b x) = k ≡ n
IsTreeOf n _ = ⊥

pub tail-part : (n : Node) (k : ℕ) → IsTailOf n k → IsPartOf n k
tail-part (Either l r) k h = inr h
tail-part (Trapping l r) k h = inr h
tail-part (Branch y l r) k h = h
tail-part _ k h = absurd h

pub part-node : (n : Node) (c : ℕ) → IsPartOf n c → IsNode n
part-node (Both j l r) c h = tt
part-node (Phases q l r) c h = tt
part-node (Either l r) c h = tt
part-node (Trapping l r) c h = tt
part-node (Branch y l r) c h = tt
part-node (Furthermore l) c h = tt
part-node _ c h = absurd h

-- a part of the node at a number, by what stands there
pub part-at : (a : Action) (n k : ℕ) (x : Node) → node_at a n ≡ x → IsPartOf x k → IsPartOf (node_at a n) k
part-at a n k x e h = subst (λ y. IsPartOf y k) (sym e) h
