-- The numbers in a grammar with numbers are those of its nonterminals and literals.
use Rattle.std.proofs.Common.{◌≡◌, ℕ, zero, suc, ◌+◌, ◌<◌, ◌≤◌, Bool, true, false, not, ◌||◌, List, [], ◌∷◌, ◌++◌, length, map, slice_get, Some, None, Option, refl, sym, ap, subst, ◌∙◌, cond, arith}
use Rattle.std.specs.Prelude.{IsSomeAnd, fold}
use Rattle.std.specs.List.{list_any, flat_map, position_or_len}
use Rattle.std.specs.Option.{option_and_then}
use Rattle.std.specs.Str.{bytes_eq}
use Rattle.std.proofs.lemmas.List.{length-map, length-append}
use Rattle.std.proofs.lemmas.Bool.{or_left, or_right}
use Rattle.std.proofs.lemmas.List.Folds.{list_any-append}
use Rattle.std.proofs.lemmas.List.Concat.{flat_map-cons}
use Rattle.std.proofs.lemmas.Slice.Eq.{bytes_eq-Decides}
use Rattle.gram_form.specs.Plain.{PlainPart, PlainLiteral, PlainNonterm, PlainIdentifier, PlainNumeral, PlainProduction, PlainGrammar}
use Rattle.gram_form.specs.Grammars.{IsGrammar, is_undefined, names_of, seen_with, literal_in, parts_in, parts_of}
use Rattle.source_lex.specs.Numbered.{Alternative, alternative_of, alternatives_of, numbered, place_of, symbol_of}
use Rattle.source_lex.specs.Numbers.{IsNumberOf, HasNumbersWithin}
use Rattle.source_lex.specs.declared.numbered.Symbol.{Symbol}

-- a text that is among others has its place there
position_below : (texts : List (List ℕ)) (bytes : List ℕ) → list_any (bytes_eq bytes) texts ≡ true → place_of texts bytes < length texts
position_below [] bytes e = cc
position_below (x ∷ xs) bytes e = go (bytes_eq bytes x) (position_below xs bytes) e
  where
    go : (b : Bool) → (list_any (bytes_eq bytes) xs ≡ true → place_of xs bytes < length xs) → (b || list_any (bytes_eq bytes) xs) ≡ true → cond (not b) (1 + position_or_len (bytes_eq bytes) xs) 0 < suc (length xs)
    go true later e = omega arith
    go false later e = let r = later e in omega (arith, r)

-- what a mapped list has
mapped_back : {A B : Type 0} (f : A → B) (xs : List A) (k : ℕ) (y : B) → slice_get (map f xs) k ≡ Some y → (x : A) × (slice_get xs k ≡ Some x) × (f x ≡ y)
mapped_back f [] k y e = absurd (cc)
mapped_back f (x ∷ xs) zero y e = (x, refl, cc)
mapped_back f (x ∷ xs) (suc k) y e = mapped_back f xs k y e

-- a part of an alternative, before it has a number
record PartAt (g : PlainGrammar) (n a k : ℕ) (part : Symbol) : Type 0 where
  production : PlainProduction
  parts : List PlainPart
  plain : PlainPart
  at_production : slice_get g.productions n ≡ Some production
  at_parts : slice_get production.alternatives a ≡ Some parts
  at_plain : slice_get parts k ≡ Some plain
  numbered_so : symbol_of (names_of g.productions) g.literals plain ≡ part

some_of : (o : Option (List Alternative)) (a : ℕ) (parts : Alternative) → option_and_then (λ alternatives. slice_get alternatives a) o ≡ Some parts → (x : List Alternative) × (o ≡ Some x) × (slice_get x a ≡ Some parts)
some_of None a parts e = absurd (cc)
some_of (Some x) a parts e = (x, refl, e)

part_at : (g : PlainGrammar) (n a k : ℕ) (parts : Alternative) (part : Symbol) → alternative_of (numbered g) n a ≡ Some parts → slice_get parts k ≡ Some part → PartAt g n a k part
part_at g n a k parts part e at =
    let names : List (List ℕ) = names_of g.productions in
    let x = some_of (slice_get (numbered g) n) a parts e in
    let p = mapped_back (alternatives_of names g.literals) g.productions n x.0 x.1 in
    let q = mapped_back (map (symbol_of names g.literals)) p.0.alternatives a parts (subst (λ (list : List Alternative). slice_get list a ≡ Some parts) (sym p.2) x.2) in
    let r = mapped_back (symbol_of names g.literals) q.0 k part (subst (λ (list : Alternative). slice_get list k ≡ Some part) (sym q.2) at) in
    record {
      production = p.0;
      parts = q.0;
      plain = r.0;
      at_production = p.1;
      at_parts = q.1;
      at_plain = r.1;
      numbered_so = r.2;
    }

some_there : {A : Type 0} (o : Option A) (x : A) (P : A → Type 0) → o ≡ Some x → P x → IsSomeAnd o P
some_there {A = A} o x P e p = subst (λ (q : Option A). IsSomeAnd q P) (sym e) p

-- each nonterminal of a grammar is a name
defined_name : (g : PlainGrammar) → IsGrammar g → (n a k : ℕ) (part : Symbol) (at : PartAt g n a k part) (name : List ℕ) → at.plain ≡ PlainNonterm name → list_any (bytes_eq name) (names_of g.productions) ≡ true
defined_name g is n a k part at name same = go (list_any (bytes_eq name) (names_of g.productions)) refl
  where
    go : (b : Bool) → list_any (bytes_eq name) (names_of g.productions) ≡ b → b ≡ true
    go true e = refl
    go false e =
        let u : is_undefined (names_of g.productions) at.plain ≡ true = subst (λ (q : PlainPart). is_undefined (names_of g.productions) q ≡ true) (sym same) (ap not e) in
        absurd (is.defined (record { production = n; alternative = a; part = k })
        (some_there (slice_get g.productions n) at.production _ at.at_production (some_there (slice_get at.production.alternatives a) at.parts _ at.at_parts (some_there (slice_get at.parts k) at.plain _ at.at_plain u))))

any_front : (p : List ℕ → Bool) (xs ys : List (List ℕ)) → list_any p xs ≡ true → list_any p (xs ++ ys) ≡ true
any_front p xs ys e = list_any-append p xs ys ∙ or_left (list_any p xs) (list_any p ys) e

any_back : (p : List ℕ → Bool) (xs ys : List (List ℕ)) → list_any p ys ≡ true → list_any p (xs ++ ys) ≡ true
any_back p xs ys e = list_any-append p xs ys ∙ or_right (list_any p xs) (list_any p ys) e

-- what was seen stays seen
seen_kept : (p : List ℕ → Bool) (seen : List (List ℕ)) (x : List ℕ) → list_any p seen ≡ true → list_any p (seen_with seen x) ≡ true
seen_kept p seen x e = go (list_any (bytes_eq x) seen)
  where
    go : (b : Bool) → list_any p (cond b seen (seen ++ x ∷ [])) ≡ true
    go true = e
    go false = any_front p seen (x ∷ []) e

seen_here : (bytes : List ℕ) (seen : List (List ℕ)) → list_any (bytes_eq bytes) (seen_with seen bytes) ≡ true
seen_here bytes seen = go (list_any (bytes_eq bytes) seen) refl
  where
    go : (b : Bool) → list_any (bytes_eq bytes) seen ≡ b → list_any (bytes_eq bytes) (cond b seen (seen ++ bytes ∷ [])) ≡ true
    go true e = e
    go false e = any_back (bytes_eq bytes) seen (bytes ∷ []) (or_left (bytes_eq bytes bytes) false ((bytes_eq-Decides bytes bytes).1 refl))

all_kept : (p : List ℕ → Bool) (seen more : List (List ℕ)) → list_any p seen ≡ true → list_any p (fold seen_with seen more) ≡ true
all_kept p seen [] e = e
all_kept p seen (x ∷ more) e = all_kept p (seen_with seen x) more (seen_kept p seen x e)

all_seen : (bytes : List ℕ) (seen more : List (List ℕ)) → list_any (bytes_eq bytes) more ≡ true → list_any (bytes_eq bytes) (fold seen_with seen more) ≡ true
all_seen bytes seen [] e = cc
all_seen bytes seen (x ∷ more) e = go (bytes_eq bytes x) refl (all_seen bytes (seen_with seen x) more) e
  where
    go : (b : Bool) → bytes_eq bytes x ≡ b → (list_any (bytes_eq bytes) more ≡ true → list_any (bytes_eq bytes) (fold seen_with (seen_with seen x) more) ≡ true) → (b || list_any (bytes_eq bytes) more) ≡ true → list_any (bytes_eq bytes) (fold seen_with (seen_with seen x) more) ≡ true
    go true e later any =
        let same : bytes ≡ x = (bytes_eq-Decides bytes x).0 e in
        all_kept (bytes_eq bytes) (seen_with seen x) more (subst (λ (y : List ℕ). list_any (bytes_eq bytes) (seen_with seen y) ≡ true) same (seen_here bytes seen))
    go false e later any = later any

-- a literal of a part is among those of the parts
any_parts : (bytes : List ℕ) (parts : List PlainPart) (k : ℕ) → slice_get parts k ≡ Some (PlainLiteral bytes) → list_any (bytes_eq bytes) (flat_map literal_in parts) ≡ true
any_parts bytes [] k e = cc
any_parts bytes (p ∷ parts) zero e = rw (flat_map-cons literal_in p parts)
    (let same : p ≡ PlainLiteral bytes = cc in
    any_front (bytes_eq bytes) (literal_in p) (flat_map literal_in parts)
    (subst (λ (q : PlainPart). list_any (bytes_eq bytes) (literal_in q) ≡ true) (sym same) (or_left (bytes_eq bytes bytes) false ((bytes_eq-Decides bytes bytes).1 refl))))
any_parts bytes (p ∷ parts) (suc k) e = rw (flat_map-cons literal_in p parts) (any_back (bytes_eq bytes) (literal_in p) (flat_map literal_in parts) (any_parts bytes parts k e))

in_front : {A : Type 0} (xs ys : List A) (k : ℕ) (y : A) → slice_get xs k ≡ Some y → slice_get (xs ++ ys) k ≡ Some y
in_front [] ys k y e = absurd (cc)
in_front (x ∷ xs) ys zero y e = e
in_front (x ∷ xs) ys (suc k) y e = in_front xs ys k y e

in_back : {A : Type 0} (xs ys : List A) (k : ℕ) (y : A) → slice_get ys k ≡ Some y → (i : ℕ) × (slice_get (xs ++ ys) i ≡ Some y)
in_back [] ys k y e = (k, e)
in_back (x ∷ xs) ys k y e = let r = in_back xs ys k y e in (suc r.0, r.1)

-- what one of the lists has, all of them have
in_flat : {X A : Type 0} (f : X → List A) (xs : List X) (k : ℕ) (x : X) (j : ℕ) (y : A) → slice_get xs k ≡ Some x → slice_get (f x) j ≡ Some y → (i : ℕ) × (slice_get (flat_map f xs) i ≡ Some y)
in_flat f [] k x j y e at = absurd (cc)
in_flat {A = A} f (z ∷ xs) zero x j y e at =
    let same : z ≡ x = cc in
    subst (λ (l : List A). (i : ℕ) × (slice_get l i ≡ Some y)) (sym (flat_map-cons f z xs)) (j, in_front (f z) (flat_map f xs) j y (subst (λ v. slice_get (f v) j ≡ Some y) (sym same) at))
in_flat {A = A} f (z ∷ xs) (suc k) x j y e at =
    let r = in_flat f xs k x j y e at in
    subst (λ (l : List A). (i : ℕ) × (slice_get l i ≡ Some y)) (sym (flat_map-cons f z xs)) (in_back (f z) (flat_map f xs) r.0 y r.1)

-- each literal of a grammar is among its literals
listed_literal : (g : PlainGrammar) → IsGrammar g → (n a k : ℕ) (part : Symbol) (at : PartAt g n a k part) (bytes : List ℕ) → at.plain ≡ PlainLiteral bytes → list_any (bytes_eq bytes) g.literals ≡ true
listed_literal g is n a k part at bytes same =
    let i = in_flat (λ (parts : List PlainPart). parts) at.production.alternatives a at.parts k at.plain at.at_parts at.at_plain in
    let j = in_flat (λ (p : PlainProduction). parts_in p.alternatives) g.productions n at.production i.0 at.plain at.at_production i.1 in
    let any = any_parts bytes (parts_of g.productions) j.0 (j.1 ∙ ap (λ (q : PlainPart). Some q) same) in
    subst (λ (l : List (List ℕ)). list_any (bytes_eq bytes) l ≡ true) (sym is.literals) (all_seen bytes [] (flat_map literal_in (parts_of g.productions)) any)

-- each part of a grammar with numbers has the number of a nonterminal or of a literal
pub numbers_within : (g : PlainGrammar) → IsGrammar g → HasNumbersWithin (numbered g) (length g.literals)
numbers_within g is n a k parts part e there = subst (IsNumberOf (length (numbered g)) (length g.literals)) at.numbered_so (number at.plain refl)
  where
    at : PartAt g n a k part
    at = part_at g n a k parts part e there

    names : List (List ℕ)
    names = names_of g.productions

    number : (q : PlainPart) → at.plain ≡ q → IsNumberOf (length (numbered g)) (length g.literals) (symbol_of names g.literals q)
    number (PlainLiteral bytes) same = position_below g.literals bytes (listed_literal g is n a k part at bytes same)
    number (PlainNonterm name) same =
        let below = position_below names name (defined_name g is n a k part at name same) in
        omega (arith, below, length-map g.productions (λ (p : PlainProduction). p.name), length-map g.productions (alternatives_of names g.literals))
    number PlainIdentifier same = tt
    number PlainNumeral same = tt

seen_length : (seen : List (List ℕ)) (x : List ℕ) → length (seen_with seen x) ≤ length seen + 1
seen_length seen x = go (list_any (bytes_eq x) seen)
  where
    go : (b : Bool) → length (cond b seen (seen ++ x ∷ [])) ≤ length seen + 1
    go true = omega arith
    go false = omega (arith, length-append seen (x ∷ []))

fold_length : (seen more : List (List ℕ)) → length (fold seen_with seen more) ≤ length seen + length more
fold_length seen [] = omega arith
fold_length seen (x ∷ more) = omega (arith, fold_length (seen_with seen x) more, seen_length seen x)

literal_length : (parts : List PlainPart) → length (flat_map literal_in parts) ≤ length parts
literal_length [] = omega arith
literal_length (p ∷ parts) = rw (flat_map-cons literal_in p parts) (omega (arith, literal_length parts, length-append (literal_in p) (flat_map literal_in parts), one p))
  where
    one : (p : PlainPart) → length (literal_in p) ≤ 1
    one (PlainLiteral bytes) = omega arith
    one (PlainNonterm name) = omega arith
    one PlainIdentifier = omega arith
    one PlainNumeral = omega arith

-- a grammar has no more literals than parts
pub literals_few : (g : PlainGrammar) → IsGrammar g → length g.literals ≤ length (parts_of g.productions)
literals_few g is =
    let parts : List PlainPart = parts_of g.productions in
    omega (arith, ap length is.literals, fold_length [] (flat_map literal_in parts), literal_length parts)
