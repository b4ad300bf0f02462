-- Marks at a node and at those above it, and rows of a table.
use Rattle.std.proofs.Common.{Bool, List, [], Some, Vec, ap, false, length, get_or, get_or-set_same, nat_eq, refl, set, suc, sym, true, zero, ℕ, ◌<◌, ◌||◌, ◌∙◌, ◌∷◌, ◌≡◌}
use Rattle.std.specs.Prelude.{slice_get}
use Rattle.std.specs.Global.{Global}
use Rattle.std.proofs.lemmas.List.{get_or_default, get_or-set_other}
use Rattle.action_terms.specs.Actions.{Action}
use Rattle.action_terms.specs.Information.{Token}
use Rattle.sort_rules.specs.Measures.{has_token}
use Rattle.sort_rules.specs.Procedures.{above, if_some, reaches}
use Rattle.sort_rules.proofs.Choices.{eq_of_test, of_choice}
use Rattle.sort_rules.proofs.ProcedureWalks.{other_of_test}
use Rattle.binding_capture.specs.Captures.{Marked, marked_at, marked_of, with_asked, with_asked_if}
use Rattle.binding_capture.specs.declared.marking.Candidate.{Candidate}

-- an entry that is there
pub entry-at : {A : Type 0} (xs : List A) (k : ℕ) (x d : A) → slice_get xs k ≡ Some x → get_or xs k d ≡ x
entry-at [] k x d e = absurd (cc)
entry-at (y ∷ ys) zero x d e = cc
entry-at (y ∷ ys) (suc k) x d e = entry-at ys k x d e

or-twice : (a b : Bool) → (a || (a || b)) ≡ (a || b)
or-twice true b = refl
or-twice false b = refl

-- marks are made once
twice : (asked : List Token) (ms : List Marked) → with_asked asked (with_asked asked ms) ≡ with_asked asked ms
twice asked [] = refl
twice asked (m ∷ ms) =
    ap (λ (b : Bool). record { token = m.token; asked = b } ∷ with_asked asked (with_asked asked ms)) (or-twice (has_token m.token asked) m.asked)
    ∙ ap (λ (zs : List Marked). record { token = m.token; asked = has_token m.token asked || m.asked } ∷ zs) (twice asked ms)

-- marks here, and then perhaps once more
here-and : (here more : Bool) (asked : List Token) (ms : List Marked) → with_asked_if more asked (with_asked_if here asked ms) ≡ with_asked_if (here || more) asked ms
here-and true true asked ms = twice asked ms
here-and true false asked ms = refl
here-and false true asked ms = refl
here-and false false asked ms = refl

module _ (asked : List Token) (cs : List (Vec Candidate Global)) (at : ℕ) (old new : Vec Candidate Global) (within : at < length cs)
    (read : old ≡ get_or cs at old) (marked : marked_of new.items ≡ with_asked asked (marked_of old.items)) where
  -- one node's tokens are marked
  pub marked-one : (c : ℕ) (d : Vec Candidate Global) → c < length cs → marked_at (set cs at new) d c ≡ with_asked_if (nat_eq c at) asked (marked_at cs d c)
  marked-one c d less =
      of_choice (nat_eq c at) (with_asked asked (marked_at cs d c)) (marked_at cs d c) (λ (x : List Marked). marked_at (set cs at new) d c ≡ x)
      (λ e.
      let same : c ≡ at = eq_of_test c at e in
      ap (λ (k : ℕ). marked_at (set cs at new) d k) same
      ∙ ap (λ (v : Vec Candidate Global). marked_of v.items) (get_or-set_same cs at new d within)
      ∙ marked
      ∙ ap (λ (v : Vec Candidate Global). with_asked asked (marked_of v.items)) (read ∙ get_or_default cs at old d within)
      ∙ ap (λ (k : ℕ). with_asked asked (marked_at cs d k)) (sym same))
      (λ e. ap (λ (v : Vec Candidate Global). marked_of v.items) (get_or-set_other cs at c new d (other_of_test c at e)))

  -- those above it are still to be marked
  pub marked-next : (a : Action) (m c : ℕ) (d : Vec Candidate Global) → c < length cs
      → with_asked_if (if_some (reaches m a c) (above a at)) asked (marked_at (set cs at new) d c) ≡ with_asked_if (reaches (suc m) a c at) asked (marked_at cs d c)
  marked-next a m c d less =
      ap (with_asked_if (if_some (reaches m a c) (above a at)) asked) (marked-one c d less)
      ∙ here-and (nat_eq c at) (if_some (reaches m a c) (above a at)) asked (marked_at cs d c)
