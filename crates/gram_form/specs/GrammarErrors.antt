-- When each error of `build` comes.
use Rattle.std.specs.Prelude.{◌≡◌, ◌<◌, ℕ, List, [], length, All}
use Rattle.gram_form.specs.Plain.{PlainPart, PlainProduction}
use Rattle.gram_form.specs.Grammars.{Place, IsUndefinedPart, IsUndefinedIn, IsUndefinedAmong, IsBeforeIn, IsBefore, names_of}
use Rattle.gram_form.specs.declared.undefined.FoundPart.{FoundPart}
use Rattle.gram_form.specs.declared.errors.GramError.{GramError}
use Rattle.gram_form.specs.declared.errors.GramError.TheVariants.{Memory, Undefined, Empty}

-- the first nonterminal that isn't among the names
pub record IsFirstPart (names : List (List ℕ)) (parts : List PlainPart) (k : ℕ) : Type 0 where
  pub undefined : IsUndefinedPart names parts k
  pub first : (l : ℕ) → IsUndefinedPart names parts l → l < k → ⊥

pub record IsFirstIn (names : List (List ℕ)) (alternatives : List (List PlainPart)) (a k : ℕ) : Type 0 where
  pub undefined : IsUndefinedIn names alternatives a k
  pub first : (b l : ℕ) → IsUndefinedIn names alternatives b l → IsBeforeIn b l a k → ⊥

pub record IsFirstAmong (names : List (List ℕ)) (productions : List PlainProduction) (x : Place) : Type 0 where
  pub undefined : IsUndefinedAmong names productions x
  pub first : (y : Place) → IsUndefinedAmong names productions y → IsBefore y x → ⊥

abbrev pub place_of : FoundPart → Place
place_of found = record { production = found.production; alternative = found.alternative; part = found.part }

-- numbers of 32 bits tell the productions apart, the alternatives of each, and the parts of each of these
pub record AreFew (productions : List PlainProduction) : Type 0 where
  pub few_productions : length productions < 4294967295
  pub few_alternatives : All (λ (p : PlainProduction). length p.alternatives < 4294967295) productions
  pub few_parts : All (λ (p : PlainProduction). All (λ parts. length parts < 4294967295) p.alternatives) productions

-- want of memory is free to come; an undefined part is the first one; empty is the empty list
abbrev pub IsGramError : List PlainProduction → GramError → Type 0
IsGramError productions Memory = Unit {0}
IsGramError productions (Undefined p a k) =
    IsFirstAmong (names_of productions) productions (record { production = p; alternative = a; part = k })
IsGramError productions Empty = productions ≡ []
