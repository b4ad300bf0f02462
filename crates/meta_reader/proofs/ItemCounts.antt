-- What a description has no more of than tokens: items, alternatives and their parts.
use Rattle.std.proofs.Common.{◌≡◌, ℕ, zero, suc, ◌+◌, ◌<◌, ◌≤◌, Bool, true, false, List, [], ◌∷◌, ◌++◌, length, map, Option, Some, None, All, refl, sym, ap, subst, length-append, arith, if◌then◌else◌}
use Rattle.std.specs.Prelude.{slice_index_or}
use Rattle.std.specs.Option.{option_to_list}
use Rattle.std.proofs.lemmas.List.{length-map}
use Rattle.gram_form.specs.Plain.{PlainPart, PlainProduction}
use Rattle.gram_form.specs.GrammarErrors.{AreFew}
use Rattle.meta_terms.specs.PlainItems.{PlainItem, AProduction, ADeclaration, AnEquation}
use Rattle.meta_terms.specs.ItemKinds.{productions_of}
use Rattle.meta_reader.specs.declared.phase.Phase.{Phase}
use Rattle.meta_reader.specs.declared.phase.Phase.TheVariants.{Heading, Productions, Equations, Ended}
use Rattle.meta_reader.specs.ItemForms.{Tokens, part_token, alternative_tokens, alternatives_tokens, closing, bar, IsProduction}
use Rattle.meta_reader.specs.Descriptions.{is_stop, longer, runs_of, Steps, Leads, IsDescription}

-- runs of so many tokens at most
abbrev AreShort : ℕ → List Tokens → Type 0
AreShort n [] = Unit {0}
AreShort n (run ∷ runs) = (length run ≤ n) × AreShort n runs

short_more : (n : ℕ) (runs : List Tokens) → AreShort n runs → AreShort (suc n) runs
short_more n [] s = tt
short_more n (run ∷ runs) s = (omega (arith, s.0), short_more n runs s.1)

short_longer : (n : ℕ) (token : List ℕ) (runs : List Tokens) → AreShort n runs → AreShort (suc n) (longer token runs)
short_longer n token [] s = tt
short_longer n token (run ∷ runs) s = (omega (arith, s.0), short_more n runs s.1)

longer_count : (token : List ℕ) (runs : List Tokens) → length (longer token runs) ≡ length runs
longer_count token [] = refl
longer_count token (run ∷ runs) = refl

-- the runs of some tokens
runs_short : (ts : Tokens) → AreShort (length ts) (runs_of ts)
runs_short [] = tt
runs_short (t ∷ ts) = pick (is_stop t) (runs_short ts)
  where
    pick : (b : Bool) → AreShort (length ts) (runs_of ts) → AreShort (suc (length ts)) (if b then [] ∷ runs_of ts else longer t (runs_of ts))
    pick true s = (omega arith, short_more (length ts) (runs_of ts) s)
    pick false s = short_longer (length ts) t (runs_of ts) s

run_count : (ts : Tokens) → length (runs_of ts) ≤ length ts
run_count [] = omega arith
run_count (t ∷ ts) = pick (is_stop t) (run_count ts)
  where
    pick : (b : Bool) → length (runs_of ts) ≤ length ts → length (if b then [] ∷ runs_of ts else longer t (runs_of ts)) ≤ suc (length ts)
    pick true s = omega (arith, s)
    pick false s = omega (arith, s, longer_count t (runs_of ts))

-- lists of so many parts at most
abbrev AreShortLists : ℕ → List (List PlainPart) → Type 0
AreShortLists n [] = Unit {0}
AreShortLists n (a ∷ list) = (length a ≤ n) × AreShortLists n list

lists_more : (n m : ℕ) → n ≤ m → (list : List (List PlainPart)) → AreShortLists n list → AreShortLists m list
lists_more n m h [] s = tt
lists_more n m h (a ∷ list) s = (omega (arith, h, s.0), lists_more n m h list s.1)

-- the tokens of alternatives are no fewer than these, nor than the parts of each
alternative_count : (a : List PlainPart) → length (alternative_tokens a) ≡ length a + 2
alternative_count a =
    let front = length-append (map part_token a) (closing ∷ []) in
    let parts = length-map a part_token in
    omega (arith, front, parts)

abbrev IsLong : ℕ → List (List PlainPart) → Type 0
IsLong n list = (length list ≤ n) × AreShortLists n list

tokens_long : (list : List (List PlainPart)) → IsLong (length (alternatives_tokens list)) list
tokens_long [] = (omega arith, tt)
tokens_long (a ∷ []) = let n = alternative_count a in (omega (arith, n), (omega (arith, n), tt))
tokens_long (a ∷ b ∷ list) =
    let n = alternative_count a in
    let rest = tokens_long (b ∷ list) in
    let both = length-append (alternative_tokens a) (bar ∷ alternatives_tokens (b ∷ list)) in
    let less : length (alternatives_tokens (b ∷ list)) ≤ length (alternative_tokens a ++ (bar ∷ alternatives_tokens (b ∷ list))) = omega (arith, both) in
    (omega (arith, n, both, rest.0), (omega (arith, n, both), lists_more (length (alternatives_tokens (b ∷ list))) (length (alternative_tokens a ++ (bar ∷ alternatives_tokens (b ∷ list)))) less (b ∷ list) rest.1))

production_long : (run : Tokens) (p : PlainProduction) (n : ℕ) → length run ≤ n → IsProduction run p → IsLong n p.alternatives
production_long run p n h is =
    let long = tokens_long p.alternatives in
    let size = ap length is.run_is in
    let fits : length (alternatives_tokens p.alternatives) ≤ n = omega (arith, h, size) in
    (omega (arith, long.0, fits), lists_more (length (alternatives_tokens p.alternatives)) n fits p.alternatives long.1)

-- productions with so many alternatives and parts at most
abbrev AreLong : ℕ → List PlainProduction → Type 0
AreLong n [] = Unit {0}
AreLong n (p ∷ list) = IsLong n p.alternatives × AreLong n list

-- items of runs
abbrev AreSmall : ℕ → List Tokens → List PlainItem → Type 0
AreSmall n runs items = (length items ≤ length runs) × AreLong n (productions_of items)

leads_small : (n : ℕ) (runs : List Tokens) (p q : Phase) (items : List PlainItem) → Leads p runs items q → AreShort n runs → AreSmall n runs items
leads_small n [] p q items h s = subst (λ (xs : List PlainItem). AreSmall n [] xs) (sym h.0) (omega arith, tt)
leads_small n (run ∷ runs) p q items h s =
    subst (λ (xs : List PlainItem). AreSmall n (run ∷ runs) xs) (sym h.3) (step p h.0 h.1 h.4 (leads_small n runs h.1 q h.2 h.5 s.1))
  where
    step : (p : Phase) (item : Option PlainItem) (next : Phase) → Steps p run item next → AreSmall n runs h.2 → AreSmall n (run ∷ runs) (option_to_list item ++ h.2)
    step p None next t r = (omega (arith, r.0), r.1)
    step p (Some (ADeclaration d)) next t r = (omega (arith, r.0), r.1)
    step p (Some (AnEquation e)) next t r = (omega (arith, r.0), r.1)
    step Heading (Some (AProduction x)) Productions t r =
        (omega (arith, r.0), (production_long t.0 x n (omega (arith, s.0, ap length t.1)) t.2, r.1))
    step Productions (Some (AProduction x)) Productions t r = (omega (arith, r.0), (production_long run x n s.0 t, r.1))
    step Productions (Some (AProduction x)) Equations t r = absurd t.2
    step Equations (Some (AProduction x)) Equations t r = absurd t
    step Equations (Some (AProduction x)) Heading t r = absurd t
    step Equations (Some (AProduction x)) Productions t r = absurd t
    step Equations (Some (AProduction x)) Ended t r = absurd t
    step p (Some (AProduction x)) next t r = absurd t

production_count : (items : List PlainItem) → length (productions_of items) ≤ length items
production_count [] = omega arith
production_count (AProduction p ∷ items) = let r = production_count items in omega (arith, r)
production_count (ADeclaration d ∷ items) = let r = production_count items in omega (arith, r)
production_count (AnEquation e ∷ items) = let r = production_count items in omega (arith, r)

alternatives_few : (n m : ℕ) → n < m → (list : List PlainProduction) → AreLong n list → All (λ (p : PlainProduction). length p.alternatives < m) list
alternatives_few n m h [] l k d w = absurd (omega arith)
alternatives_few n m h (p ∷ list) l zero d w = omega (arith, h, l.0.0)
alternatives_few n m h (p ∷ list) l (suc k) d w = alternatives_few n m h list l.1 k d (omega arith)

lists_few : (n m : ℕ) → n < m → (list : List (List PlainPart)) → AreShortLists n list → All (λ (parts : List PlainPart). length parts < m) list
lists_few n m h [] l k d w = absurd (omega arith)
lists_few n m h (a ∷ list) l zero d w = omega (arith, h, l.0)
lists_few n m h (a ∷ list) l (suc k) d w = lists_few n m h list l.1 k d (omega arith)

parts_few : (n m : ℕ) → n < m → (list : List PlainProduction) → AreLong n list → All (λ (p : PlainProduction). All (λ (parts : List PlainPart). length parts < m) p.alternatives) list
parts_few n m h [] l k d w = absurd (omega arith)
parts_few n m h (p ∷ list) l zero d w = lists_few n m h p.alternatives l.0.1
parts_few n m h (p ∷ list) l (suc k) d w = parts_few n m h list l.1 k d (omega arith)

-- a description of few tokens has few items, and few productions with few alternatives of few parts
pub description_few : (tokens : Tokens) (items : List PlainItem) → IsDescription tokens items → length tokens < 4294967295 → (length items < 4294967295) × AreFew (productions_of items)
description_few tokens items is few =
    let n = length tokens in
    let small = leads_small n (runs_of tokens) Heading Ended items is.1 (runs_short tokens) in
    let runs = run_count tokens in
    let productions = production_count items in (
      omega (arith, few, runs, small.0),
      record {
        few_productions = omega (arith, few, runs, productions, small.0);
        few_alternatives = alternatives_few n 4294967295 few (productions_of items) small.1;
        few_parts = parts_few n 4294967295 few (productions_of items) small.1;
      },
    )
