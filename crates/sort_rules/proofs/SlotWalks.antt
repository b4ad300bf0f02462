-- The words of the rows of procedures, from the last node to the first.
use Rattle.std.proofs.Common.{List, [], ap, arith, if◌then◌else◌, length, length-set, get_or, get_or-set_same, nat_eq, refl, replicate, set, subst, suc, sym, zero, ℕ, ◌*◌, ◌+◌, ◌<◌, ◌∙◌, ◌∷◌, ◌≡◌, ◌≤◌}
use Rattle.std.specs.Prelude.{Some, slice_get, slice_index_or}
use Rattle.std.proofs.lemmas.List.{get_or-set_other, get_or-replicate, length-replicate}
use Rattle.action_terms.specs.Actions.{Action}
use Rattle.sort_rules.specs.Filling.{AreSums}
use Rattle.sort_rules.specs.Measures.{row_slots}
use Rattle.sort_rules.specs.Procedures.{procedure_of}
use Rattle.sort_rules.specs.Rows.{SortRow, unreached_row}
use Rattle.sort_rules.specs.Tables.{MarkedTable}
use Rattle.sort_rules.proofs.Choices.{eq_of_test, of_choice}
use Rattle.sort_rules.proofs.ProcedureWalks.{other_of_test}

-- no row is counted yet
pub sums-none : (a : Action) (t : MarkedTable) → AreSums a t (length a) (replicate (length a) 0)
sums-none a t = record {
  long = length-replicate (length a) 0;
  last = [];
  numbers = refl;
  each = λ c less. get_or-replicate (length a) c 0 0 less;
}

-- the words of one row more
added-at : (sums : List ℕ) (root c w : ℕ) → c < length sums → get_or (set sums root (get_or sums root 0 + w)) c 0 ≡ (if nat_eq root c then w else 0) + get_or sums c 0
added-at sums root c w less =
    of_choice (nat_eq root c) w 0 (λ (x : ℕ). get_or (set sums root (get_or sums root 0 + w)) c 0 ≡ x + get_or sums c 0)
    (λ e. let same : root ≡ c = eq_of_test root c e in
    subst (λ (i : ℕ). get_or (set sums i (get_or sums i 0 + w)) c 0 ≡ w + get_or sums c 0) (sym same)
    (let at = get_or-set_same sums c (get_or sums c 0 + w) 0 less in omega (arith, at)))
    (λ e. let other = get_or-set_other sums root c (get_or sums root 0 + w) 0 (λ f. other_of_test root c e (sym f)) in omega (arith, other))

pub sums-more : (a : Action) (t : MarkedTable) (k root w : ℕ) (sums after : List ℕ) → root ≡ procedure_of a k → w ≡ row_slots t k
    → AreSums a t (suc k) sums → after ≡ set sums root (get_or sums root 0 + w) → AreSums a t k after
sums-more a t k root w sums after is words are e = record {
  long = ap length e ∙ length-set sums root (get_or sums root 0 + w) ∙ are.long;
  last = k ∷ are.last;
  numbers = are.numbers;
  each = λ c less.
      ap (λ (zs : List ℕ). get_or zs c 0) e ∙ added-at sums root c w (omega (arith, less, are.long))
      ∙ ap (λ (r : ℕ). (if nat_eq r c then w else 0) + get_or sums c 0) is
      ∙ ap (λ (v : ℕ). (if nat_eq (procedure_of a k) c then v else 0) + get_or sums c 0) words
      ∙ ap (λ (s : ℕ). (if nat_eq (procedure_of a k) c then row_slots t k else 0) + s) (are.each c less);
}

-- no sum is greater than one row after the other allows
pub sums-few : (n root w : ℕ) (sums after : List ℕ) → root < length sums → w ≤ 328 → after ≡ set sums root (get_or sums root 0 + w) → ((c : ℕ) → c < length sums → get_or sums c 0 ≤ 328 * n)
    → (c : ℕ) → c < length after → get_or after c 0 ≤ 328 * (n + 1)
sums-few n root w sums after within few e each c less =
    let long : length after ≡ length sums = ap length e ∙ length-set sums root (get_or sums root 0 + w) in
    let at : get_or after c 0 ≡ (if nat_eq root c then w else 0) + get_or sums c 0 = ap (λ (zs : List ℕ). get_or zs c 0) e ∙ added-at sums root c w (omega (arith, less, long)) in
    let more : (if nat_eq root c then w else 0) ≤ 328 = of_choice (nat_eq root c) w 0 (λ (x : ℕ). x ≤ 328) (λ q. few) (λ q. omega arith) in
    let here = each c (omega (arith, less, long)) in
    omega (arith, at, more, here)

-- a row that is there
pub got_row : (rows : List SortRow) (k : ℕ) (r : SortRow) → slice_get rows k ≡ Some r → slice_index_or rows k unreached_row ≡ r
got_row [] k r e = absurd (cc)
got_row (x ∷ rows) zero r e = cc
got_row (x ∷ rows) (suc k) r e = got_row rows k r e
