-- What a description has no more of than bytes, and what it has one of at least.
use Rattle.std.proofs.Common.{◌≡◌, ℕ, suc, ◌+◌, ◌<◌, ◌≤◌, Bool, true, false, List, [], ◌∷◌, ◌++◌, length, map, Option, Some, None, sym, ap, subst, length-append, arith, if◌then◌else◌}
use Rattle.std.specs.List.{fold, flat_map, list_any}
use Rattle.std.specs.Option.{option_to_list}
use Rattle.std.specs.Str.{bytes_eq}
use Rattle.std.proofs.lemmas.List.{length-map}
use Rattle.acg_base.specs.declared.limits.TheConstants.{LIMIT_DESCRIPTION}
use Rattle.gram_form.specs.Grammars.{parts_in, parts_of, literal_in, literals_of, seen_with}
use Rattle.gram_form.specs.Plain.{PlainPart, PlainLiteral, PlainNonterm, PlainIdentifier, PlainNumeral, PlainProduction}
use Rattle.gram_form.specs.GrammarErrors.{AreFew}
use Rattle.meta_lex.specs.Tokens.{PlainToken, AreTokens}
use Rattle.meta_lex.proofs.Counting.{token_count}
use Rattle.meta_terms.specs.PlainItems.{PlainItem, AProduction, ADeclaration, AnEquation}
use Rattle.meta_terms.specs.ItemKinds.{productions_of, declarations_of, equations_of}
use Rattle.action_text.specs.Answers.{token_bytes}
use Rattle.meta_reader.specs.declared.phase.Phase.{Phase}
use Rattle.meta_reader.specs.declared.phase.Phase.TheVariants.{Heading, Productions, Equations, Ended}
use Rattle.meta_reader.specs.ItemForms.{Tokens, part_token, alternative_tokens, alternatives_tokens, closing, bar, IsProduction}
use Rattle.meta_reader.specs.Descriptions.{is_stop, longer, runs_of, Steps, Leads, IsDescription}
use Rattle.meta_reader.proofs.ItemCounts.{description_few}
use Rattle.meta_check.specs.Checked.{PlainDescription}
use Rattle.acg_driver.specs.Descriptions.{Describes}

-- ---- literals are no more than parts

seen_count : (xs seen : List (List ℕ)) → length (fold seen_with seen xs) ≤ length seen + length xs
seen_count [] seen = omega arith
seen_count (x ∷ xs) seen =
    let rest = seen_count xs (seen_with seen x) in
    let one = pick (list_any (bytes_eq x) seen) in
    omega (arith, rest, one)
  where
    pick : (b : Bool) → length (if b then seen else seen ++ x ∷ []) ≤ suc (length seen)
    pick true = omega arith
    pick false = let e = length-append seen (x ∷ []) in omega (arith, e)

literal_count : (parts : List PlainPart) → length (flat_map literal_in parts) ≤ length parts
literal_count [] = omega arith
literal_count (PlainLiteral bytes ∷ parts) = let r = literal_count parts in omega (arith, r)
literal_count (PlainNonterm name ∷ parts) = let r = literal_count parts in omega (arith, r)
literal_count (PlainIdentifier ∷ parts) = let r = literal_count parts in omega (arith, r)
literal_count (PlainNumeral ∷ parts) = let r = literal_count parts in omega (arith, r)

literals_count : (ps : List PlainProduction) → length (literals_of ps) ≤ length (parts_of ps)
literals_count ps =
    let seen = seen_count (flat_map literal_in (parts_of ps)) [] in
    let literals = literal_count (parts_of ps) in
    omega (arith, seen, literals)

-- ---- parts are no more than tokens

-- how many tokens runs have together
abbrev total : List Tokens → ℕ
total [] = 0
total (run ∷ runs) = length run + total runs

total_longer : (t : List ℕ) (runs : List Tokens) → total (longer t runs) ≤ suc (total runs)
total_longer t [] = omega arith
total_longer t (run ∷ runs) = omega arith

total_count : (ts : Tokens) → total (runs_of ts) ≤ length ts
total_count [] = omega arith
total_count (t ∷ ts) = pick (is_stop t) (total_count ts)
  where
    pick : (b : Bool) → total (runs_of ts) ≤ length ts → total (if b then [] ∷ runs_of ts else longer t (runs_of ts)) ≤ suc (length ts)
    pick true s = omega (arith, s)
    pick false s = let l = total_longer t (runs_of ts) in omega (arith, s, l)

one_count : (a : List PlainPart) → length (alternative_tokens a) ≡ length a + 2
one_count a =
    let front = length-append (map part_token a) (closing ∷ []) in
    let parts = length-map a part_token in
    omega (arith, front, parts)

alternatives_count : (list : List (List PlainPart)) → length (parts_in list) ≤ length (alternatives_tokens list)
alternatives_count [] = omega arith
alternatives_count (a ∷ []) =
    let n = one_count a in
    let e = length-append a [] in
    omega (arith, n, e)
alternatives_count (a ∷ b ∷ list) =
    let n = one_count a in
    let rest = alternatives_count (b ∷ list) in
    let parts = length-append a (parts_in (b ∷ list)) in
    let both = length-append (alternative_tokens a) (bar ∷ alternatives_tokens (b ∷ list)) in
    omega (arith, n, rest, parts, both)

production_parts : (run : Tokens) (p : PlainProduction) → IsProduction run p → length (parts_in p.alternatives) ≤ length run
production_parts run p is =
    let parts = alternatives_count p.alternatives in
    let size = ap length is.run_is in
    omega (arith, parts, size)

abbrev HasParts : List Tokens → List PlainItem → Type 0
HasParts runs items = length (parts_of (productions_of items)) ≤ total runs

one_more : (run : Tokens) (runs : List Tokens) (x : PlainProduction) (items : List PlainItem)
    → length (parts_in x.alternatives) ≤ length run → HasParts runs items → HasParts (run ∷ runs) (AProduction x ∷ items)
one_more run runs x items one rest =
    let both = length-append (parts_in x.alternatives) (parts_of (productions_of items)) in
    omega (arith, one, rest, both)

leads_parts : (runs : List Tokens) (p q : Phase) (items : List PlainItem) → Leads p runs items q → HasParts runs items
leads_parts [] p q items h = subst (λ (xs : List PlainItem). HasParts [] xs) (sym h.0) (omega arith)
leads_parts (run ∷ runs) p q items h =
    subst (λ (xs : List PlainItem). HasParts (run ∷ runs) xs) (sym h.3) (step p h.0 h.1 h.4 (leads_parts runs h.1 q h.2 h.5))
  where
    step : (p : Phase) (item : Option PlainItem) (next : Phase) → Steps p run item next → HasParts runs h.2 → HasParts (run ∷ runs) (option_to_list item ++ h.2)
    step p None next t r = omega (arith, r)
    step p (Some (ADeclaration d)) next t r = omega (arith, r)
    step p (Some (AnEquation e)) next t r = omega (arith, r)
    step Heading (Some (AProduction x)) Productions t r =
        let one = production_parts t.0 x t.2 in
        let size = ap length t.1 in
        one_more run runs x h.2 (omega (arith, one, size)) r
    step Productions (Some (AProduction x)) Productions t r = one_more run runs x h.2 (production_parts run x t) r
    step Productions (Some (AProduction x)) Equations t r = absurd t.2
    step Equations (Some (AProduction x)) Equations t r = absurd t
    step Equations (Some (AProduction x)) Heading t r = absurd t
    step Equations (Some (AProduction x)) Productions t r = absurd t
    step Equations (Some (AProduction x)) Ended t r = absurd t
    step p (Some (AProduction x)) next t r = absurd t

-- ---- a description has a production, and a declaration or an equation

abbrev HasRules : List PlainItem → Type 0
HasRules items = 0 < length (declarations_of items) + length (equations_of items)

-- runs that lead no further have come to the end
abbrev IsNotEnded : Phase → Type 0
IsNotEnded Ended = ⊥
IsNotEnded _ = Unit {0}

leads_rules : (runs : List Tokens) (items : List PlainItem) → Leads Productions runs items Ended → HasRules items
leads_rules [] items h = absurd (subst IsNotEnded h.1 tt)
leads_rules (run ∷ runs) items h =
    subst (λ (xs : List PlainItem). HasRules xs) (sym h.3) (step h.0 h.1 h.4 h.5 (λ r. leads_rules runs h.2 r))
  where
    step : (item : Option PlainItem) (next : Phase) → Steps Productions run item next → Leads next runs h.2 Ended
        → (Leads Productions runs h.2 Ended → HasRules h.2) → HasRules (option_to_list item ++ h.2)
    step None next t r rest = absurd t
    step (Some (AProduction x)) Productions t r rest = rest r
    step (Some (ADeclaration d)) Productions t r rest = absurd t
    step (Some (AnEquation e)) Productions t r rest = absurd t
    step (Some (AProduction x)) Equations t r rest = absurd t.2
    step (Some (ADeclaration d)) Equations t r rest = omega arith
    step (Some (AnEquation e)) Equations t r rest = omega arith
    step (Some item) Heading t r rest = absurd t
    step (Some item) Ended t r rest = absurd t

-- there is a production, and a declaration or an equation
abbrev pub HasBoth : List PlainItem → Type 0
HasBoth items = (0 < length (productions_of items)) × HasRules items

heading_both : (runs : List Tokens) (items : List PlainItem) → Leads Heading runs items Ended → HasBoth items
heading_both [] items h = absurd (subst IsNotEnded h.1 tt)
heading_both (run ∷ runs) items h =
    subst (λ (xs : List PlainItem). HasBoth xs) (sym h.3) (step h.0 h.1 h.4 h.5)
  where
    step : (item : Option PlainItem) (next : Phase) → Steps Heading run item next → Leads next runs h.2 Ended → HasBoth (option_to_list item ++ h.2)
    step None next t r = absurd t
    step (Some (AProduction x)) Productions t r = (omega arith, leads_rules runs h.2 r)
    step (Some (ADeclaration d)) Productions t r = absurd t.2
    step (Some (AnEquation e)) Productions t r = absurd t.2
    step (Some item) Heading t r = absurd t
    step (Some item) Equations t r = absurd t
    step (Some item) Ended t r = absurd t

pub description_both : (tokens : Tokens) (items : List PlainItem) → IsDescription tokens items → HasBoth items
description_both tokens items is = heading_both (runs_of tokens) items is.1

-- ---- bytes within the limit

-- as many tokens as bytes at most
pub few_tokens : (bytes : List ℕ) (ts : List PlainToken) → length bytes ≤ LIMIT_DESCRIPTION → AreTokens bytes ts → length (token_bytes ts) ≤ 1048576
few_tokens bytes ts within are =
    let count = token_count bytes ts are in
    let size = length-map ts (λ (t : PlainToken). t.bytes) in
    omega (arith, within, count, size)

-- what the items of a description have
pub record IsSmall (items : List PlainItem) : Type 0 where
  pub items_few : length items < 4294967295
  pub productions_few : AreFew (productions_of items)
  pub literals_few : length (literals_of (productions_of items)) < 4294967296
  pub both : HasBoth items

pub items_small : (bytes : List ℕ) (ts : List PlainToken) (items : List PlainItem) → length bytes ≤ LIMIT_DESCRIPTION
    → AreTokens bytes ts → IsDescription (token_bytes ts) items → IsSmall items
items_small bytes ts items within are is =
    let few = few_tokens bytes ts within are in
    let small = description_few (token_bytes ts) items is (omega (arith, few)) in
    let parts = leads_parts (runs_of (token_bytes ts)) Heading Ended items is.1 in
    let sum = total_count (token_bytes ts) in
    let literals = literals_count (productions_of items) in record {
      items_few = small.0;
      productions_few = small.1;
      literals_few = omega (arith, few, parts, sum, literals);
      both = description_both (token_bytes ts) items is;
    }

declarations_count : (items : List PlainItem) → length (declarations_of items) ≤ length items
declarations_count [] = omega arith
declarations_count (AProduction p ∷ items) = let r = declarations_count items in omega (arith, r)
declarations_count (ADeclaration d ∷ items) = let r = declarations_count items in omega (arith, r)
declarations_count (AnEquation e ∷ items) = let r = declarations_count items in omega (arith, r)

-- what a description has
pub record HasFew (d : PlainDescription) : Type 0 where
  pub productions : AreFew d.grammar.productions
  pub literals : length d.grammar.literals < 4294967296
  pub functions : length d.functions < 4294967296

pub description_small : (bytes : List ℕ) (d : PlainDescription) → Describes bytes d → HasFew d
description_small bytes d described =
    let small = items_small bytes described.tokens described.items described.within described.are_tokens described.are_items in
    let functions = declarations_count described.items in
    let same = ap length described.kept.functions in
    let few = small.items_few in
    let literals : length (literals_of d.grammar.productions) < 4294967296 =
    subst (λ ps. length (literals_of ps) < 4294967296) (sym described.kept.productions) small.literals_few in record {
      productions = subst (λ ps. AreFew ps) (sym described.kept.productions) small.productions_few;
      literals = subst (λ ls. length ls < 4294967296) (sym described.grammar.literals) literals;
      functions = omega (arith, few, functions, same);
    }
