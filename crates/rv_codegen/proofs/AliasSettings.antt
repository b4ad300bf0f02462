-- The places of an action's data, where parts share those of their node, are as the simulation asks.
use Rattle.std.proofs.Common.{◌≡◌, ◌⊎◌, ℕ, ◌≤◌, List, [], ◌∷◌, ◌++◌, refl, sym, ap, subst, arith, inl, inr}
use Rattle.action_terms.specs.Actions.{Action, AndThen, Before, Both, Branch, Chain, Either, Furthermore, Hence, Join, Node, Phases, Then, Trapping, node_at}
use Rattle.action_terms.specs.Performances.{OneOf, Here, Later}
use Rattle.sort_rules.specs.Procedures.{parts_at, procedure_of}
use Rattle.sort_rules.proofs.Choices.{either}
use Rattle.frame_layout.specs.Places.{PlacedNode}
use Rattle.frame_layout.specs.Layouts.{IsInTurn, OfBoth, OfPhases}
use Rattle.frame_layout.proofs.GraphParts.{HasTrees}
use Rattle.frame_layout.proofs.ProcedureRoots.{procedure-part, whole-is}
use Rattle.rv_codegen.specs.Aliases.{MayWrite, given_of, out_of}
use Rattle.rv_codegen.proofs.AliasPlaces.{HasOwnWords, given-apart, left-kept, record-kept, written-inside, written-low}
use Rattle.rv_codegen.proofs.AliasRules.{both-own, phases-own, then-out_left}
use Rattle.rv_codegen.proofs.Around.{IsPlaced}
use Rattle.rv_codegen.proofs.Holding.{Apart}
use Rattle.rv_codegen.proofs.NodeParts.{IsPartOf}
use Rattle.rv_codegen.proofs.Settings.{DataPlaces, Setting}
use Rattle.rv_codegen.proofs.Unbound.{NoTokens, no_slots}

-- what code may write, and where nodes find and leave data; no token is bound
abbrev pub data_places : Action → (ℕ → PlacedNode) → (words : ℕ → ℕ) → DataPlaces
data_places a p words = record {
  given = given_of p a;
  out = out_of p a;
  escaped = λ k. (p k).escaped;
  bound = no_slots;
  bound_out = no_slots;
  BindsAt = NoTokens;
  Writes = MayWrite p a words;
  keep = λ k. (p k).keep;
}

two-listed : (l r k : ℕ) → (l ≡ k) ⊎ (r ≡ k) → OneOf k (l ∷ r ∷ [])
two-listed l r k (inl e) = subst (λ i. OneOf i (l ∷ r ∷ [])) e Here
two-listed l r k (inr e) = subst (λ i. OneOf i (l ∷ r ∷ [])) e (Later Here)

-- a part of a node is one of its parts by number
pub part-listed : (n : Node) (k : ℕ) → IsPartOf n k → OneOf k (parts_at n)
part-listed (Both j l r) k h = two-listed l r k h
part-listed (Phases q l r) k h = two-listed l r k h
part-listed (Either l r) k h = two-listed l r k h
part-listed (Trapping l r) k h = two-listed l r k h
part-listed (Branch y l r) k h = two-listed l r k h
part-listed (Furthermore l) k h = subst (λ i. OneOf i (l ∷ [])) h Here
part-listed _ k h = absurd h

-- none of the words is one that is written
apart-each : (W : ℕ → Type 0) (os : List ℕ) → ((x : ℕ) → OneOf x os → W x → ⊥) → Apart W os
apart-each W [] h = tt
apart-each W (o ∷ os) h = (h o Here, apart-each W os (λ x m. h x (Later m)))

module _ (s : Setting) (trees : HasTrees s.action) (p : ℕ → PlacedNode) (words : ℕ → ℕ) (own : HasOwnWords s.action p words) where
  -- the setting with these places
  abbrev pub placed : Setting
  placed = record s {
    places = data_places s.action p words;
    procedures = record { root_of = procedure_of s.action; words = words; calls = s.procedures.calls };
  }

  pub alias-placed : ((n c : ℕ) → s.procedures.calls n c → 32 ≤ words (procedure_of s.action c)) → IsPlaced placed
  alias-placed some = record {
    given_apart = λ k. apart-each (MayWrite p s.action words k) (given_of p s.action k) (λ x m w. given-apart s.action trees p words own k x m w);
    bound_apart = λ k. tt;
    inside = λ n k x part w. written-inside s.action trees p words own n k x (part-listed (node_at s.action n) k part) w;
    beyond = λ k x high. inr (inr high);
    low = λ k x w less. written-low s.action trees p words own k x w less;
    some_frame = some;
    keep_apart = λ n k i keeps part less w. record-kept s.action trees p words own n k i (part-listed (node_at s.action n) k part) less w;
  }

  -- a part has the frame of its node
  pub same-frame : (n k : ℕ) → IsPartOf (node_at s.action n) k → words (procedure_of s.action k) ≡ words (procedure_of s.action n)
  same-frame n k part = ap words (procedure-part s.action trees k n (whole-is s.action trees k n (part-listed (node_at s.action n) k part)))

  -- what a first part leaves stays while the second is performed
  stays : (n l r : ℕ) → IsInTurn (node_at s.action n) l r → IsPartOf (node_at s.action n) l → IsPartOf (node_at s.action n) r
      → (out_of p s.action l ≡ (p l).data_out) ⊎ (out_of p s.action n ≡ out_of p s.action l ++ out_of p s.action r) → Apart (MayWrite p s.action words r) (out_of p s.action l)
  stays n l r turn left right joined = apart-each (MayWrite p s.action words r) (out_of p s.action l) (λ x m w.
      left-kept s.action trees p words own n l r x (part-listed (node_at s.action n) l left) (part-listed (node_at s.action n) r right) (λ e. let less = trees.in_turn n l r turn in omega (arith, less, e)) joined m w)

  pub both-stays : (n l r : ℕ) (j : Join) → node_at s.action n ≡ Both j l r → Apart (MayWrite p s.action words r) (out_of p s.action l)
  both-stays n l r j e = stays n l r (subst (λ x. IsInTurn x l r) (sym e) OfBoth) (subst (λ x. IsPartOf x l) (sym e) (inl refl)) (subst (λ x. IsPartOf x r) (sym e) (inr refl))
      (either (λ x. inl x.0) inr (both-own s.action trees p n l r j e))

  pub phases-stays : (n l r : ℕ) (q : Chain) → node_at s.action n ≡ Phases q l r → Apart (MayWrite p s.action words r) (out_of p s.action l)
  phases-stays n l r q e = stays n l r (subst (λ x. IsInTurn x l r) (sym e) OfPhases) (subst (λ x. IsPartOf x l) (sym e) (inl refl)) (subst (λ x. IsPartOf x r) (sym e) (inr refl)) (joined q e)
    where
      joined : (q : Chain) → node_at s.action n ≡ Phases q l r → (out_of p s.action l ≡ (p l).data_out) ⊎ (out_of p s.action n ≡ out_of p s.action l ++ out_of p s.action r)
      joined Then e = inl (then-out_left s.action trees p n l r e)
      joined AndThen e = either (λ x. inl x.0) inr (phases-own s.action trees p n l r AndThen tt e)
      joined Hence e = either (λ x. inl x.0) inr (phases-own s.action trees p n l r Hence tt e)
      joined Before e = either (λ x. inl x.0) inr (phases-own s.action trees p n l r Before tt e)
