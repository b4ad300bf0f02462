-- How far a description is read, and where it goes wrong.
use Rattle.std.proofs.Common.{◌≡◌, ◌∙◌, ℕ, zero, suc, ◌+◌, ◌-◌, ◌<◌, ◌≤◌, List, [], ◌∷◌, ◌++◌, length, take, drop, length-drop, Option, refl, sym, ap, subst, add-one, arith}
use Rattle.std.specs.Prelude.{slice_range}
use Rattle.std.specs.Option.{option_to_list}
use Rattle.std.specs.List.{prefix_len}
use Rattle.std.proofs.lemmas.List.{take_rest}
use Rattle.meta_lex.specs.declared.token.Token.{Token}
use Rattle.action_text.specs.Texts.{texts}
use Rattle.meta_reader.specs.Parsing.{is_inside}
use Rattle.meta_terms.specs.PlainItems.{PlainItem}
use Rattle.meta_reader.specs.declared.phase.Phase.{Phase}
use Rattle.meta_reader.specs.declared.phase.Phase.TheVariants.{Heading, Ended}
use Rattle.meta_reader.specs.ItemForms.{Tokens}
use Rattle.meta_reader.specs.Descriptions.{runs_of, is_finished, Steps, Leads, Begins, IsDescription, IsBadItem}
use Rattle.meta_reader.proofs.Walking.{false_or_true}
use Rattle.meta_reader.proofs.Slices.{drop_drop}
use Rattle.meta_reader.proofs.Leading.{leads_append, leads_one, one_leading, begins, begins_none}
use Rattle.meta_reader.proofs.FirstRuns.{first_stop, first_run, no_run, stop_is, length_rest}

-- so many runs are read, up to the place; they have these items, and lead to the phase
pub record IsRead (ts : Tokens) (at index : ℕ) (items : List PlainItem) (phase : Phase) : Type 0 where
  pub few : index ≤ at
  pub within : index ≤ length (runs_of ts)
  pub rest : drop index (runs_of ts) ≡ runs_of (drop at ts)
  pub finished : is_finished ts ≡ is_finished (drop at ts)
  pub leads : Leads Heading (take index (runs_of ts)) items phase

-- the next element of a list, by what is left of it
take_next : (rs : List Tokens) (n : ℕ) (r : Tokens) (more : List Tokens) → drop n rs ≡ r ∷ more → take (n + 1) rs ≡ take n rs ++ r ∷ []
take_next rs n r more e = ap (λ k. take k rs) (add-one n) ∙ go rs n e
  where
    go : (rs : List Tokens) (n : ℕ) → drop n rs ≡ r ∷ more → take (suc n) rs ≡ take n rs ++ r ∷ []
    go [] zero e = absurd (cc)
    go [] (suc n) e = absurd (cc)
    go (x ∷ rs) zero e = let same : x ≡ r = cc in ap (λ y. y ∷ []) same
    go (x ∷ rs) (suc n) e = ap (λ ys. x ∷ ys) (go rs n e)

drop_next : (rs : List Tokens) (n : ℕ) (r : Tokens) (more : List Tokens) → drop n rs ≡ r ∷ more → (drop (n + 1) rs ≡ more) × (n + 1 ≤ length rs)
drop_next rs n r more e = (ap (λ k. drop k rs) (add-one n) ∙ (go rs n e).0, omega (arith, (go rs n e).1))
  where
    go : (rs : List Tokens) (n : ℕ) → drop n rs ≡ r ∷ more → (drop (suc n) rs ≡ more) × (suc n ≤ length rs)
    go [] zero e = absurd (cc)
    go [] (suc n) e = absurd (cc)
    go (x ∷ rs) zero e = (cc, omega arith)
    go (x ∷ rs) (suc n) e = let h = go rs n e in (h.0, omega (arith, h.1))

drop_nothing : (rs : List Tokens) (n : ℕ) → n ≤ length rs → drop n rs ≡ [] → n ≡ length rs
drop_nothing [] zero h e = refl
drop_nothing [] (suc n) h e = absurd (omega arith)
drop_nothing (x ∷ rs) zero h e = absurd (cc)
drop_nothing (x ∷ rs) (suc n) h e = ap suc (drop_nothing rs n (omega arith) e)

take_whole : (rs : List Tokens) (n : ℕ) → n ≡ length rs → take n rs ≡ rs
take_whole rs n e = ap (λ k. take k rs) e ∙ go rs
  where
    go : (rs : List Tokens) → take (length rs) rs ≡ rs
    go [] = refl
    go (x ∷ rs) = ap (λ ys. x ∷ ys) (go rs)

-- the next run, up to a full stop
pub record IsNext (ts : Tokens) (at index : ℕ) (stop : ℕ) : Type 0 where
  pub more : List Tokens
  pub runs : drop index (runs_of ts) ≡ slice_range ts at stop ∷ more
  pub behind : runs_of (drop (stop + 1) ts) ≡ more
  pub finished : is_finished ts ≡ is_finished (drop (stop + 1) ts)

pub next_run : (ts : Tokens) (at index : ℕ) (items : List PlainItem) (phase : Phase) → IsRead ts at index items phase → first_stop (drop at ts) < length (drop at ts) → IsNext ts at index (at + first_stop (drop at ts))
next_run ts at index items phase r h =
    let n : ℕ = first_stop (drop at ts) in
    let c = first_run (drop at ts) h in
    let size : at + n - at ≡ n = omega arith in
    let after : at + suc n ≡ at + n + 1 = omega arith in
    let behind : drop (suc n) (drop at ts) ≡ drop (at + n + 1) ts = drop_drop (suc n) at ts ∙ ap (λ k. drop k ts) after in
    record {
      more = runs_of (drop (suc n) (drop at ts));
      runs = r.rest ∙ c.runs ∙ ap (λ k. take k (drop at ts) ∷ runs_of (drop (suc n) (drop at ts))) (sym size);
      behind = ap runs_of (sym behind);
      finished = r.finished ∙ c.finished ∙ ap is_finished behind;
    }

pub one_more_read : (ts : Tokens) (at index stop : ℕ) (items : List PlainItem) (phase next : Phase) (item : Option PlainItem) → IsRead ts at index items phase → at ≤ stop → IsNext ts at index stop
    → Steps phase (slice_range ts at stop) item next → IsRead ts (stop + 1) (index + 1) (items ++ option_to_list item) next
one_more_read ts at index stop items phase next item r later n step =
    let few : index ≤ at = r.few in
    let d = drop_next (runs_of ts) index (slice_range ts at stop) n.more n.runs in
    record {
      few = omega (arith, few, later);
      within = d.1;
      rest = d.0 ∙ sym n.behind;
      finished = n.finished;
      leads = subst (λ (rs : List Tokens). Leads Heading rs (items ++ option_to_list item) next) (sym (take_next (runs_of ts) index (slice_range ts at stop) n.more n.runs))
          (leads_append (take index (runs_of ts)) (slice_range ts at stop ∷ []) Heading phase next items (option_to_list item) r.leads (leads_one (slice_range ts at stop) phase next item step));
    }

-- a run that doesn't stand in the phase is the bad item
pub bad_run : (ts : Tokens) (at index stop : ℕ) (items : List PlainItem) (phase : Phase) → IsRead ts at index items phase → IsNext ts at index stop
    → ((item : Option PlainItem) (next : Phase) → Steps phase (slice_range ts at stop) item next → ⊥) → IsBadItem ts index
bad_run ts at index stop items phase r n none =
    let d = drop_next (runs_of ts) index (slice_range ts at stop) n.more n.runs in
    record {
      within = r.within;
      before = begins (take index (runs_of ts)) items phase r.leads;
      run = λ l b. begins_none (take index (runs_of ts)) (slice_range ts at stop) items phase r.leads none
          (subst (λ (rs : List Tokens). Begins rs) (take_next (runs_of ts) index (slice_range ts at stop) n.more n.runs) b);
      early = λ e. absurd (omega (arith, d.1));
    }

-- tokens behind the last full stop are the bad item
pub bad_rest : (ts : Tokens) (at index : ℕ) (items : List PlainItem) (phase : Phase) → IsRead ts at index items phase → 0 < length (drop at ts) → length (drop at ts) ≤ first_stop (drop at ts) → IsBadItem ts index
bad_rest ts at index items phase r some h =
    let n = no_run (drop at ts) h in
    let last : index ≡ length (runs_of ts) = drop_nothing (runs_of ts) index r.within (r.rest ∙ n.0) in
    record {
      within = r.within;
      before = begins (take index (runs_of ts)) items phase r.leads;
      run = λ l b. absurd (omega (arith, last));
      early = λ e others d. false_or_true (sym (n.1 some) ∙ sym r.finished ∙ d.0);
    }

-- and so is the run that is missing at the end
pub bad_end : (ts : Tokens) (at index : ℕ) (items : List PlainItem) (phase : Phase) → IsRead ts at index items phase → drop at ts ≡ [] → (phase ≡ Ended → ⊥) → IsBadItem ts index
bad_end ts at index items phase r end early =
    let last : index ≡ length (runs_of ts) = drop_nothing (runs_of ts) index r.within (r.rest ∙ ap runs_of end) in
    record {
      within = r.within;
      before = begins (take index (runs_of ts)) items phase r.leads;
      run = λ l b. absurd (omega (arith, last));
      early = λ e others d. early (one_leading (runs_of ts) Heading phase Ended items others
          (subst (λ (rs : List Tokens). Leads Heading rs items phase) (take_whole (runs_of ts) index last) r.leads) d.1).1;
    }

-- at the end the tokens are a description
pub description_read : (ts : Tokens) (at index : ℕ) (items : List PlainItem) → IsRead ts at index items Ended → drop at ts ≡ [] → IsDescription ts items
description_read ts at index items r end =
    let last : index ≡ length (runs_of ts) = drop_nothing (runs_of ts) index r.within (r.rest ∙ ap runs_of end) in
    (r.finished ∙ ap is_finished end, subst (λ (rs : List Tokens). Leads Heading rs items Ended) (take_whole (runs_of ts) index last) r.leads)

pub one_description : (ts : Tokens) (items others : List PlainItem) → IsDescription ts items → IsDescription ts others → others ≡ items
one_description ts items others a b = (one_leading (runs_of ts) Heading Ended Ended others items b.1 a.1).0

-- the next run, as the code finds it
pub within_rest : (list : List Token) (at n : ℕ) → n ≤ length (take (length list - at) (drop at list)) → n ≤ length list - at
within_rest list at n h = subst (λ k. n ≤ k) (ap length (take_rest list at) ∙ length-drop at list) h

pub next_at : (list : List Token) (ts : Tokens) (at index n : ℕ) (items : List PlainItem) (phase : Phase) → texts list ≡ ts → n ≡ prefix_len is_inside (take (length list - at) (drop at list)) → IsRead ts at index items phase
    → n ≤ length (take (length list - at) (drop at list)) → at ≤ length list → (at + n ≡ length list → ⊥) → IsNext ts at index (at + n)
next_at list ts at index n items phase all e read within inside stop =
    let is : n ≡ first_stop (drop at ts) = stop_is list at n e ∙ ap (λ us. first_stop (drop at us)) all in
    let size : length (drop at ts) ≡ length list - at = ap (λ us. length (drop at us)) (sym all) ∙ length_rest list at in
    let short : n ≤ length list - at = within_rest list at n within in
    let less : first_stop (drop at ts) < length (drop at ts) = omega (arith, is, size, short, stop) in
    subst (λ k. IsNext ts at index (at + k)) (sym is) (next_run ts at index items phase read less)
