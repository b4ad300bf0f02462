-- The bodies that a proper action's nodes name are bodies of it, and nodes.
use Rattle.std.proofs.Common.{◌≡◌, ℕ, ◌<◌, List, [], ◌∷◌, length, All, refl}
use Rattle.std.proofs.lemmas.List.Elements.{All-nil, All-cons, All-weaker}
use Rattle.action_terms.specs.Information.{World}
use Rattle.action_terms.specs.Actions.{Node, Simple, Enact, Apply, Unfolding, Unfold, Furthermore, Both, Phases, Either, Trapping, Branch, Stray, Action, node_at}
use Rattle.action_terms.specs.Steps.{closures_in}
use Rattle.action_terms.specs.Performances.{OneOf, Here, Later}
use Rattle.action_terms.specs.Proper.{named, bodies_under, IsBody, IsProper}
use Rattle.action_terms.specs.Sound.{known_in}
use Rattle.action_terms.proofs.AllLaws.{All-first, All-one, All-member}
use Rattle.action_terms.proofs.NamedNodes.{named-within}
use Rattle.action_terms.proofs.SoundPrimitives.{bodies_named, Knows}

-- bodies are among what is named
bodies-named : (P : ℕ → Type 0) (n : Node) → All P (named n) → All P (bodies_under n)
bodies-named P (Simple p) all = all
bodies-named P (Enact y) all = all
bodies-named P (Apply y is) all = all
bodies-named P (Unfolding c) all = all
bodies-named P (Unfold c) all = All-nil P
bodies-named P (Furthermore l) all = All-nil P
bodies-named P (Both j l r) all = All-nil P
bodies-named P (Phases q l r) all = All-nil P
bodies-named P (Either l r) all = All-nil P
bodies-named P (Trapping l r) all = All-nil P
bodies-named P (Branch y l r) all = All-first P (closures_in y) (l ∷ r ∷ []) all
bodies-named P Stray all = All-nil P

-- a body is a node
pub body-within : (a : Action) (c : ℕ) → IsProper a → IsBody a c → c < length a
body-within a c proper body =
    All-member (λ j. j < length a) c (bodies_under (node_at a body.0)) body.1 (bodies-named (λ j. j < length a) (node_at a body.0) (named-within a body.0 proper))

all-own : (xs : List ℕ) → All (λ x. OneOf x xs) xs
all-own [] = All-nil (λ x. OneOf x [])
all-own (x ∷ xs) = All-cons (λ y. OneOf y (x ∷ xs)) x xs Here (All-weaker (λ y. OneOf y xs) (λ y. OneOf y (x ∷ xs)) (λ y h. Later h) xs (all-own xs))

own-bodies : (a : Action) (k : ℕ) → All (IsBody a) (bodies_under (node_at a k))
own-bodies a k = All-weaker (λ c. OneOf c (bodies_under (node_at a k))) (IsBody a) (λ c h. (k, h)) (bodies_under (node_at a k)) (all-own (bodies_under (node_at a k)))

-- each body that a node names is one of the action
bodies-known : (a : Action) (k : ℕ) (n : Node) → IsProper a → node_at a k ≡ n → All (IsBody a) (bodies_under n) → All (IsBody a) (bodies_named n)
bodies-known a k (Unfold c) proper found own = All-one (IsBody a) c (proper.repeated k c found)
bodies-known a k _ proper found own = own

pub knows-in : (a : Action) (w : World) → IsProper a → Knows (known_in a w) a
knows-in a w proper = record {
  nodes = λ c body. body-within a c proper body;
  named = λ k. bodies-known a k (node_at a k) proper refl (own-bodies a k);
}
