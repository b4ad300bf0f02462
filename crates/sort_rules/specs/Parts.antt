-- The parts of a table: tuples and bindings of sets, their order, and the operations on them.
use Rattle.std.specs.Prelude.{◌≡◌, ℕ, Bool, true, false, ◌&&◌, List, [], ◌∷◌, ◌++◌, Option, Some, None, is_some, length, nat_le, nat_eq, if◌then◌else◌}
use Rattle.action_terms.specs.Information.{Token}
use Rattle.action_terms.specs.Bindings.{token_lt}
use Rattle.sort_rules.specs.Sets.{Set, IsSubset, set_union}

-- a place of a tuple, with no token, or of bindings
pub record Component : Type 0 where
  pub token : Token
  pub set : Set

-- what may be given, received, completed with, escaped with or stored: nothing, since the part isn't reached, a list of components, or lists that don't agree
pub data Part : Type 0 where
  Unreached : Part
  Listed : (components : List Component) → Part
  Clash : Part

-- the greatest number of components
abbrev pub most_components : ℕ
most_components = 64

-- ---- the order: equal tokens, and each set in the other

-- as many components, their tokens equal, each set in the other
pub data AreBelow : List Component → List Component → Type 0 where
  NoneBelow : AreBelow [] []
  OneBelow : {p q : Component} {ps qs : List Component} → p.token ≡ q.token → IsSubset p.set q.set → AreBelow ps qs → AreBelow (p ∷ ps) (q ∷ qs)

-- unreached is least, and a clash above all
pub data Below : Part → Part → Type 0 where
  Least : {y : Part} → Below Unreached y
  Lists : {ps qs : List Component} → AreBelow ps qs → Below (Listed ps) (Listed qs)
  Most : {x : Part} → Below x Clash

-- ---- lists of components; those of bindings have their tokens ascending, each once

-- whether two tokens are the same
abbrev pub same_token : Token → Token → Bool
same_token [] [] = true
same_token [] (y ∷ ys) = false
same_token (x ∷ xs) [] = false
same_token (x ∷ xs) (y ∷ ys) = nat_eq x y && same_token xs ys

-- as `bind` does with bindings
abbrev pub bind_component : Component → List Component → List Component
bind_component c [] = c ∷ []
bind_component c (p ∷ ps) = if token_lt c.token p.token then c ∷ p ∷ ps else if token_lt p.token c.token then p ∷ bind_component c ps else c ∷ ps

-- as `overlaid` does with bindings
abbrev pub overlaid_components : List Component → List Component → List Component
overlaid_components [] qs = qs
overlaid_components ps [] = ps
overlaid_components ps (q ∷ qs) = bind_component q (overlaid_components ps qs)

-- the set of a token
abbrev pub lookup_set : Token → List Component → Option Set
lookup_set t [] = None
lookup_set t (p ∷ ps) = if token_lt t p.token then None else if token_lt p.token t then lookup_set t ps else Some p.set

-- some token stands in both
abbrev pub components_meet : List Component → List Component → Bool
components_meet [] qs = false
components_meet (p ∷ ps) qs = if is_some (lookup_set p.token qs) then true else components_meet ps qs

-- ---- operations on parts: unreached where an argument is, else a clash where an argument is

-- an operation on one part
abbrev pub on_list : (List Component → Part) → Part → Part
on_list f Unreached = Unreached
on_list f (Listed ps) = f ps
on_list f Clash = Clash

-- an operation on two parts
abbrev pub on_lists : (List Component → List Component → Part) → Part → Part → Part
on_lists f Unreached y = Unreached
on_lists f (Listed ps) y = on_list (f ps) y
on_lists f Clash y = on_list (λ qs. Clash) y

-- at most the greatest number of components
abbrev pub limited : List Component → Part
limited ps = if nat_le (length ps) most_components then Listed ps else Clash

-- tuples one after the other
abbrev pub concatenation : Part → Part → Part
concatenation = on_lists (λ ps qs. limited (ps ++ qs))

-- bindings overlaid by others
abbrev pub overlay : Part → Part → Part
overlay = on_lists (λ ps qs. limited (overlaid_components ps qs))

-- the union of bindings whose domains are disjoint
abbrev pub apart : List Component → List Component → Part
apart ps qs = if components_meet ps qs then Clash else limited (overlaid_components ps qs)

-- the union of bindings, a clash where a token stands in both
abbrev pub union : Part → Part → Part
union = on_lists apart

-- x where the condition is reached; a clash is reached
abbrev pub when : Part → Part → Part
when Unreached x = Unreached
when (Listed ps) x = x
when Clash x = x

-- ---- the least part above two

-- one component more in front
abbrev pub with_component : Component → Part → Part
with_component c Unreached = Unreached
with_component c (Listed ps) = Listed (c ∷ ps)
with_component c Clash = Clash

-- each set with that of the same place; a clash where the tokens or the lengths differ
abbrev pub joined_components : List Component → List Component → Part
joined_components [] [] = Listed []
joined_components [] (q ∷ qs) = Clash
joined_components (p ∷ ps) [] = Clash
joined_components (p ∷ ps) (q ∷ qs) =
    if same_token p.token q.token then with_component (record { token = p.token; set = set_union p.set q.set }) (joined_components ps qs) else Clash

-- the least part above both
abbrev pub join : Part → Part → Part
join Unreached y = y
join (Listed ps) Unreached = Listed ps
join (Listed ps) (Listed qs) = joined_components ps qs
join (Listed ps) Clash = Clash
join Clash y = Clash
