-- What is asked of the members of a value's set is what is asked of all cells or bodies, where the value may be of them.
use Rattle.std.proofs.Common.{Bool, List, [], ap, false, inl, inr, map, refl, subst, sym, true, ℕ, ◌++◌, ◌∙◌, ◌∷◌, ◌≡◌}
use Rattle.action_terms.specs.Performances.{Here, Later, OneOf}
use Rattle.sort_rules.specs.Asked.{any_cell, any_closure}
use Rattle.sort_rules.specs.Demands.{Demand, cell_in, closure_in, enacts, only_when, reached_if, stores, ◌⊒◌}
use Rattle.sort_rules.specs.Numbers.{is_listed}
use Rattle.sort_rules.specs.Parts.{Clash, Part, Unreached}
use Rattle.sort_rules.specs.Reached.{AreAmong, AskTheSame, reached_ones}
use Rattle.sort_rules.specs.Sets.{Set}
use Rattle.sort_rules.specs.Tables.{BindsOut, Contents, DataIn, DataOut, Escaped, MarkedTable}
use Rattle.sort_rules.specs.Values.{one}
use Rattle.sort_rules.proofs.NumberLists.{is_listed_of, listed_of}
use Rattle.sort_rules.proofs.Reaches.{among-either, among-first, among-second, asks-nothing, only_when-nothing, only_when-unreached, reached_ones-append}

-- what is asked of each number, where its condition is reached
abbrev asked_of : (f : ℕ → List Demand) (p : ℕ → Part) → List ℕ → List Demand
asked_of f p [] = []
asked_of f p (n ∷ ns) = map (only_when (p n)) (f n) ++ asked_of f p ns

-- so a demand is asked of the number
abbrev IsAsked : (f : ℕ → List Demand) (p : ℕ → Part) (n : ℕ) → Demand → Type 0
IsAsked f p n d = OneOf d (reached_ones (map (only_when (p n)) (f n)))

module _ (f : ℕ → List Demand) where
  asked-from : (p : ℕ → Part) (n : ℕ) (ns : List ℕ) (d : Demand) → OneOf n ns → IsAsked f p n d → OneOf d (reached_ones (asked_of f p ns))
  asked-from p n _ d (Here {xs = ns}) m = among-first (map (only_when (p n)) (f n)) (asked_of f p ns) m
  asked-from p n _ d (Later {y = o} {xs = ns} h) m = among-second (map (only_when (p o)) (f o)) (asked_of f p ns) (asked-from p n ns d h m)

  -- where each that is asked of a number of the first list is asked of it in the second
  asked-among : (p q : ℕ → Part) (ms ns : List ℕ) → ((n : ℕ) (d : Demand) → OneOf n ms → IsAsked f p n d → OneOf n ns × IsAsked f q n d) → AreAmong (asked_of f p ms) (asked_of f q ns)
  asked-among p q [] ns h d m = elim m [ ]
  asked-among p q (o ∷ ms) ns h d m = elim (among-either (map (only_when (p o)) (f o)) (asked_of f p ms) m) [
    | inl here ↦ let both = h o d Here here in asked-from q o ns d (both.0) (both.1)
    | inr later ↦ asked-among p q ms ns (λ n d there asked. h n d (Later there) asked) d later
  ]

  abbrev in_list : List ℕ → ℕ → Part
  in_list ns n = reached_if (is_listed n ns)

  -- a number that is asked where it stands in a list does
  asked-listed : (ns : List ℕ) (n : ℕ) (d : Demand) → IsAsked f (in_list ns) n d → is_listed n ns ≡ true
  asked-listed ns n d m = go (is_listed n ns) refl m
    where
      go : (b : Bool) → is_listed n ns ≡ b → OneOf d (reached_ones (map (only_when (reached_if b)) (f n))) → is_listed n ns ≡ true
      go true e m = e
      go false e m = asks-nothing (map (only_when Unreached) (f n)) (only_when-unreached (f n)) m

  -- then all is asked of it
  asked-all : (ns : List ℕ) (n : ℕ) (d : Demand) → IsAsked f (in_list ns) n d → OneOf d (reached_ones (f n))
  asked-all ns n d m =
      subst (λ (ds : List Demand). OneOf d (reached_ones ds)) (only_when-nothing (f n)) (subst (λ (b : Bool). OneOf d (reached_ones (map (only_when (reached_if b)) (f n)))) (asked-listed ns n d m) m)

  all-asked : (ns : List ℕ) (n : ℕ) (d : Demand) → is_listed n ns ≡ true → OneOf d (reached_ones (f n)) → IsAsked f (in_list ns) n d
  all-asked ns n d e m =
      subst (λ (b : Bool). OneOf d (reached_ones (map (only_when (reached_if b)) (f n)))) (sym e) (subst (λ (ds : List Demand). OneOf d (reached_ones ds)) (sym (only_when-nothing (f n))) m)

  one-way : (ms ns : List ℕ) → AreAmong (asked_of f (in_list ns) ms) (asked_of f (in_list ms) ns)
  one-way ms ns = asked-among (in_list ns) (in_list ms) ms ns (λ n d there asked. (is_listed_of n ns (asked-listed ns n d asked), all-asked ms n d (listed_of n ms there) (asked-all ns n d asked)))

  -- those of one list that stand in the other
  asked-either : (ms ns : List ℕ) → AskTheSame (asked_of f (in_list ns) ms) (asked_of f (in_list ms) ns)
  asked-either ms ns = record { there = one-way ms ns; back = one-way ns ms }

  only_when-clash : (ds : List Demand) → map (only_when Clash) ds ≡ ds
  only_when-clash [] = refl
  only_when-clash ((x ⊒ v) ∷ ds) = ap (λ (zs : List Demand). (x ⊒ v) ∷ zs) (only_when-clash ds)

  -- all of a list
  asked-any : (ns : List ℕ) → AskTheSame (asked_of f (in_list ns) ns) (asked_of f (λ n. Clash) ns)
  asked-any ns = record {
    there = asked-among (in_list ns) (λ n. Clash) ns ns (λ n d there asked. (there, subst (λ (ds : List Demand). OneOf d (reached_ones ds)) (sym (only_when-clash (f n))) (asked-all ns n d asked)));
    back = asked-among (λ n. Clash) (in_list ns) ns ns (λ n d there asked. (there, all-asked ns n d (listed_of n ns there) (subst (λ (ds : List Demand). OneOf d (reached_ones ds)) (only_when-clash (f n)) asked)));
  }

  -- none, where nothing is reached
  asked-none : (ns : List ℕ) → reached_ones (asked_of f (λ n. Unreached) ns) ≡ []
  asked-none [] = refl
  asked-none (n ∷ ns) = reached_ones-append (map (only_when Unreached) (f n)) (asked_of f (λ n. Unreached) ns) ∙ ap (λ (ds : List Demand). ds ++ reached_ones (asked_of f (λ n. Unreached) ns)) (only_when-unreached (f n)) ∙ asked-none ns

-- ---- what is stored

abbrev stored_in : Part → ℕ → List Demand
stored_in v s = (Contents s ⊒ v) ∷ []

stores-asked : (v w : Part) (cells : List ℕ) → stores v w cells ≡ asked_of (stored_in v) (λ s. cell_in s w) cells
stores-asked v w [] = refl
stores-asked v w (s ∷ cells) = ap (λ (ds : List Demand). map (only_when (cell_in s w)) (stored_in v s) ++ ds) (stores-asked v w cells)

stores-like : (v u w : Part) (ms ns : List ℕ) → AskTheSame (asked_of (stored_in v) (λ s. cell_in s u) ms) (asked_of (stored_in v) (λ s. cell_in s w) ns) → AskTheSame (stores v u ms) (stores v w ns)
stores-like v u w ms ns h = subst (λ (ds : List Demand). AskTheSame ds (stores v w ns)) (sym (stores-asked v u ms)) (subst (λ (ds : List Demand). AskTheSame (asked_of (stored_in v) (λ s. cell_in s u) ms) ds) (sym (stores-asked v w ns)) h)

-- in the cells of a set
pub stores-members : (v : Part) (x : Set) (cells : List ℕ) → AskTheSame (stores v (any_cell cells) x.cells) (stores v (one x) cells)
stores-members v x cells = stores-like v (any_cell cells) (one x) x.cells cells (asked-either (stored_in v) x.cells cells)

-- in any cell
pub stores-any : (v : Part) (cells : List ℕ) → AskTheSame (stores v (any_cell cells) cells) (stores v Clash cells)
stores-any v cells = stores-like v (any_cell cells) Clash cells cells (asked-any (stored_in v) cells)

-- in none
pub stores-nothing : (v : Part) (cells : List ℕ) → reached_ones (stores v Unreached cells) ≡ []
stores-nothing v cells = ap reached_ones (stores-asked v Unreached cells) ∙ asked-none (stored_in v) cells

-- ---- what is enacted

abbrev enacted : MarkedTable → ℕ → Part → ℕ → List Demand
enacted t k d c = (DataIn c ⊒ d) ∷ (DataOut k ⊒ t (DataOut c)) ∷ (BindsOut k ⊒ t (BindsOut c)) ∷ (Escaped k ⊒ t (Escaped c)) ∷ []

module _ (t : MarkedTable) (k : ℕ) (d : Part) where
  enacts-asked : (v : Part) (bodies : List ℕ) → enacts t k v d bodies ≡ asked_of (enacted t k d) (λ c. closure_in c v) bodies
  enacts-asked v [] = refl
  enacts-asked v (c ∷ bodies) = ap (λ (ds : List Demand). map (only_when (closure_in c v)) (enacted t k d c) ++ ds) (enacts-asked v bodies)

  enacts-like : (u v : Part) (ms ns : List ℕ) → AskTheSame (asked_of (enacted t k d) (λ c. closure_in c u) ms) (asked_of (enacted t k d) (λ c. closure_in c v) ns) → AskTheSame (enacts t k u d ms) (enacts t k v d ns)
  enacts-like u v ms ns h =
      subst (λ (ds : List Demand). AskTheSame ds (enacts t k v d ns)) (sym (enacts-asked u ms)) (subst (λ (ds : List Demand). AskTheSame (asked_of (enacted t k d) (λ c. closure_in c u) ms) ds) (sym (enacts-asked v ns)) h)

  -- of the closures of a set
  pub enacts-members : (x : Set) (bodies : List ℕ) → AskTheSame (enacts t k (any_closure bodies) d x.abstractions) (enacts t k (one x) d bodies)
  enacts-members x bodies = enacts-like (any_closure bodies) (one x) x.abstractions bodies (asked-either (enacted t k d) x.abstractions bodies)

  -- of any closure
  pub enacts-any : (bodies : List ℕ) → AskTheSame (enacts t k (any_closure bodies) d bodies) (enacts t k Clash d bodies)
  enacts-any bodies = enacts-like (any_closure bodies) Clash bodies bodies (asked-any (enacted t k d) bodies)

  -- of none
  pub enacts-nothing : (bodies : List ℕ) → reached_ones (enacts t k Unreached d bodies) ≡ []
  enacts-nothing bodies = ap reached_ones (enacts-asked Unreached bodies) ∙ asked-none (enacted t k d) bodies
