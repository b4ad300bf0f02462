-- The node under which each node stands, one node after the other, from the last one on.
use Rattle.std.proofs.Common.{All, Bool, List, [], Option, Some, None, ap, arith, drop, false, if◌then◌else◌, length, length-set, get_or, get_or-set_same, nat_eq, refl, set, subst, suc, sym, true, ℕ, ◌+◌, ◌<◌, ◌||◌, ◌++◌, ◌∙◌, ◌∷◌, ◌≡◌}
use Rattle.std.specs.Prelude.{reverse}
use Rattle.std.proofs.lemmas.List.{append-nil, drop_all, get_or-set_other, reverse-append}
use Rattle.std.proofs.lemmas.List.Elements.{All-append, All-cons, All-head, All-nil, All-tail}
use Rattle.action_terms.specs.Actions.{Action, Node, Simple, Enact, Apply, Unfolding, Unfold, Furthermore, Both, Phases, Either, Trapping, Branch, Stray, node_at}
use Rattle.action_terms.specs.Proper.{named}
use Rattle.action_terms.specs.Steps.{closures_in, closures_in_items, closures_of}
use Rattle.sort_rules.specs.Demands.{closures_at}
use Rattle.sort_rules.specs.Numbers.{is_listed}
use Rattle.sort_rules.specs.Procedures.{bodies_at, holder_from, parts_at}
use Rattle.sort_rules.proofs.Choices.{eq_of_test, of_choice}
use Rattle.sort_rules.proofs.NodeWalks.{drop-node}
use Rattle.sort_rules.proofs.ProcedureWalks.{other_of_test}
use Rattle.binding_capture.specs.Captures.{AreAbove}
use Rattle.binding_capture.specs.Holders.{own_body, with_holder}

-- ---- what stands under a node

-- as it is defined
abbrev pub under : Node → List ℕ
under n = parts_at n ++ bodies_at n

-- and as it is listed
abbrev pub listed_under : Node → List ℕ
listed_under n = reverse (closures_at n) ++ (parts_at n ++ own_body n)

or-assoc : (a b c : Bool) → ((a || b) || c) ≡ (a || (b || c))
or-assoc true b c = refl
or-assoc false b c = refl

or-swap : (a b : Bool) → (a || b) ≡ (b || a)
or-swap true true = refl
or-swap true false = refl
or-swap false true = refl
or-swap false false = refl

is_listed-append : (j : ℕ) (xs ys : List ℕ) → is_listed j (xs ++ ys) ≡ (is_listed j xs || is_listed j ys)
is_listed-append j [] ys = refl
is_listed-append j (x ∷ xs) ys = ap (λ (b : Bool). nat_eq j x || b) (is_listed-append j xs ys) ∙ sym (or-assoc (nat_eq j x) (is_listed j xs) (is_listed j ys))

is_listed-swap : (j : ℕ) (xs ys : List ℕ) → is_listed j (xs ++ ys) ≡ is_listed j (ys ++ xs)
is_listed-swap j xs ys = is_listed-append j xs ys ∙ or-swap (is_listed j xs) (is_listed j ys) ∙ sym (is_listed-append j ys xs)

is_listed-reverse : (j : ℕ) (xs : List ℕ) → is_listed j (reverse xs) ≡ is_listed j xs
is_listed-reverse j [] = refl
is_listed-reverse j (x ∷ xs) =
    ap (is_listed j) (reverse-append (x ∷ []) xs)
    ∙ is_listed-swap j (reverse xs) (x ∷ [])
    ∙ ap (λ (b : Bool). nat_eq j x || b) (is_listed-reverse j xs)

-- closures, and the parts
with-closures : (j : ℕ) (cs ps : List ℕ) → is_listed j (reverse cs ++ (ps ++ [])) ≡ is_listed j (ps ++ cs)
with-closures j cs ps =
    ap (λ (zs : List ℕ). is_listed j (reverse cs ++ zs)) (append-nil ps)
    ∙ is_listed-append j (reverse cs) ps
    ∙ ap (λ (b : Bool). b || is_listed j ps) (is_listed-reverse j cs)
    ∙ sym (is_listed-append j cs ps)
    ∙ is_listed-swap j cs ps

same-under : (j : ℕ) (n : Node) → is_listed j (listed_under n) ≡ is_listed j (under n)
same-under j (Unfolding c) = refl
same-under j (Simple p) = with-closures j (closures_of p) []
same-under j (Enact y) = with-closures j (closures_in y) []
same-under j (Apply y is) = with-closures j (closures_in y ++ closures_in_items is) []
same-under j (Unfold c) = refl
same-under j (Furthermore l) = with-closures j [] (l ∷ [])
same-under j (Both q l r) = with-closures j [] (l ∷ r ∷ [])
same-under j (Phases q l r) = with-closures j [] (l ∷ r ∷ [])
same-under j (Either l r) = with-closures j [] (l ∷ r ∷ [])
same-under j (Trapping l r) = with-closures j [] (l ∷ r ∷ [])
same-under j (Branch y l r) = with-closures j (closures_in y) (l ∷ r ∷ [])
same-under j Stray = refl

-- ---- all of it are nodes

module _ (count : ℕ) where
  abbrev Below : ℕ → Type 0
  Below k = k < count

  all-reverse : (xs : List ℕ) → All Below xs → All Below (reverse xs)
  all-reverse [] h = h
  all-reverse (x ∷ xs) h =
      subst (All Below) (sym (reverse-append (x ∷ []) xs))
      (All-append Below (reverse xs) (x ∷ []) (all-reverse xs (All-tail Below x xs h)) (All-cons Below x [] (All-head Below x xs h) (All-nil Below)))

  all-first : (xs ys : List ℕ) → All Below (xs ++ ys) → All Below xs
  all-first [] ys h = All-nil Below
  all-first (x ∷ xs) ys h = All-cons Below x xs (All-head Below x (xs ++ ys) h) (all-first xs ys (All-tail Below x (xs ++ ys) h))

  all-second : (xs ys : List ℕ) → All Below (xs ++ ys) → All Below ys
  all-second [] ys h = h
  all-second (x ∷ xs) ys h = all-second xs ys (All-tail Below x (xs ++ ys) h)

  closures-alone : (cs : List ℕ) → All Below cs → All Below (reverse cs ++ [])
  closures-alone cs h = subst (All Below) (sym (append-nil (reverse cs))) (all-reverse cs h)

  pub under-within : (n : Node) → All Below (named n) → All Below (listed_under n)
  under-within (Simple p) h = closures-alone (closures_of p) h
  under-within (Enact y) h = closures-alone (closures_in y) h
  under-within (Apply y is) h = closures-alone (closures_in y ++ closures_in_items is) h
  under-within (Unfolding c) h = h
  under-within (Unfold c) h = All-nil Below
  under-within (Furthermore l) h = h
  under-within (Both j l r) h = h
  under-within (Phases q l r) h = h
  under-within (Either l r) h = h
  under-within (Trapping l r) h = h
  under-within (Branch y l r) h =
      All-append Below (reverse (closures_in y)) (l ∷ r ∷ []) (all-reverse (closures_in y) (all-first (closures_in y) (l ∷ r ∷ []) h)) (all-second (closures_in y) (l ∷ r ∷ []) h)
  under-within Stray h = All-nil Below

-- ---- a holder is written down

length-with_holder : (k : ℕ) (ps : List ℕ) (ws : List (Option ℕ)) → length (with_holder k ps ws) ≡ length ws
length-with_holder k [] ws = refl
length-with_holder k (p ∷ ps) ws = length-with_holder k ps (set ws p (Some k)) ∙ length-set ws p (Some k)

one-holder : (ws : List (Option ℕ)) (p j k : ℕ) → j < length ws → get_or (set ws p (Some k)) j None ≡ (if nat_eq j p then Some k else get_or ws j None)
one-holder ws p j k less =
    of_choice (nat_eq j p) (Some k) (get_or ws j None) (λ (x : Option ℕ). get_or (set ws p (Some k)) j None ≡ x)
    (λ e. let same : j ≡ p = eq_of_test j p e in subst (λ (i : ℕ). get_or (set ws i (Some k)) j None ≡ Some k) same (get_or-set_same ws j (Some k) None less))
    (λ e. get_or-set_other ws p j (Some k) None (other_of_test j p e))

two-choices : {A : Type 0} (a b : Bool) (x y : A) → (if a then x else (if b then x else y)) ≡ (if b || a then x else y)
two-choices true true x y = refl
two-choices true false x y = refl
two-choices false true x y = refl
two-choices false false x y = refl

with_holder-at : (k : ℕ) (ps : List ℕ) (ws : List (Option ℕ)) (j : ℕ) → j < length ws → get_or (with_holder k ps ws) j None ≡ (if is_listed j ps then Some k else get_or ws j None)
with_holder-at k [] ws j less = refl
with_holder-at k (p ∷ ps) ws j less =
    let long : length (set ws p (Some k)) ≡ length ws = length-set ws p (Some k) in
    with_holder-at k ps (set ws p (Some k)) j (omega (arith, long, less))
    ∙ ap (λ (o : Option ℕ). if is_listed j ps then Some k else o) (one-holder ws p j k less)
    ∙ two-choices (is_listed j ps) (nat_eq j p) (Some k) (get_or ws j None)

-- the holders of all nodes, among the nodes from number k on
pub record AreHolders (a : Action) (k : ℕ) (holders : List (Option ℕ)) : Type 0 where
  pub long : length holders ≡ length a
  pub each : (j : ℕ) → j < length a → get_or holders j None ≡ holder_from under k (drop k a) j

-- none is written down yet
pub holders-none : (a : Action) (ws : List (Option ℕ)) → length ws ≡ length a → ((j : ℕ) → j < length a → get_or ws j None ≡ None) → AreHolders a (length a) ws
holders-none a ws long none = record {
  long = long;
  each = λ j less. none j less ∙ sym (ap (λ (b : Action). holder_from under (length a) b j) (let past : drop (length a) a ≡ [] = drop_all (length a) a (omega arith) in past));
}

-- one node more
pub holders-more : (a : Action) (k : ℕ) (ws after : List (Option ℕ)) → k < length a → AreHolders a (suc k) ws → after ≡ with_holder k (listed_under (node_at a k)) ws → AreHolders a k after
holders-more a k ws after less are e =
    let n = node_at a k in
    record {
      long = ap length e ∙ length-with_holder k (listed_under n) ws ∙ are.long;
      each = λ j within.
          ap (λ (zs : List (Option ℕ)). get_or zs j None) e
          ∙ with_holder-at k (listed_under n) ws j (omega (arith, within, are.long))
          ∙ ap (λ (b : Bool). if b then Some k else get_or ws j None) (same-under j n)
          ∙ ap (λ (o : Option ℕ). if is_listed j (under n) then Some k else o) (are.each j within)
          ∙ sym (ap (λ (b : Action). holder_from under k b j) (drop-node a k less));
    }

pub holders-all : (a : Action) (ws : List (Option ℕ)) → AreHolders a 0 ws → AreAbove a ws
holders-all a ws are = record { long = are.long; each = are.each }

-- a holder is one of the nodes
pub holder-within : (j : ℕ) (a : Action) (k i : ℕ) → holder_from under j a k ≡ Some i → i < j + length a
holder-within j [] k i e = absurd (cc)
holder-within j (n ∷ a) k i e =
    of_choice (is_listed k (under n)) (Some j) (holder_from under (suc j) a k) (λ (o : Option ℕ). o ≡ Some i → i < j + length (n ∷ a))
    (λ h q. let same : j ≡ i = cc in omega (arith, same))
    (λ h q. let rest = holder-within (suc j) a k i q in omega (arith, rest))
    e
