-- When productions are a grammar.
use Rattle.std.specs.Prelude.{◌≡◌, ◌≢◌, ◌⊎◌, ℕ, ◌<◌, Bool, true, false, not, List, [], ◌++◌, ◌∷◌, length, map, fold, IsSomeAnd, slice_get, AllPairs, if◌then◌else◌}
use Rattle.std.specs.List.{list_any, flat_map}
use Rattle.std.specs.Str.{bytes_eq}
use Rattle.gram_form.specs.Plain.{PlainPart, PlainLiteral, PlainNonterm, PlainProduction, PlainGrammar}

-- the names of productions
abbrev pub names_of : List PlainProduction → List (List ℕ)
names_of productions = map (λ (p : PlainProduction). p.name) productions

-- no two productions have one name
abbrev pub HaveDistinctNames : List PlainProduction → Type 0
HaveDistinctNames productions = AllPairs (λ x y. x ≢ y) (names_of productions)

-- two lists have the same texts
abbrev pub HaveSame : List (List ℕ) → List (List ℕ) → Type 0
HaveSame known names =
    (name : List ℕ) → list_any (bytes_eq name) known ≡ list_any (bytes_eq name) names

-- the part is a nonterminal that isn't among the names
abbrev pub is_undefined : List (List ℕ) → PlainPart → Bool
is_undefined names (PlainNonterm name) = not (list_any (bytes_eq name) names)
is_undefined names _ = false

-- where a part stands: the numbers of its production, of its alternative there and of the part there, from 0
pub record Place : Type 0 where
  pub production : ℕ
  pub alternative : ℕ
  pub part : ℕ

-- at the place stands a nonterminal that isn't among the names
abbrev pub IsUndefinedPart : List (List ℕ) → List PlainPart → ℕ → Type 0
IsUndefinedPart names parts k = IsSomeAnd (slice_get parts k) (λ part. is_undefined names part ≡ true)

abbrev pub IsUndefinedIn : List (List ℕ) → List (List PlainPart) → ℕ → ℕ → Type 0
IsUndefinedIn names alternatives a k = IsSomeAnd (slice_get alternatives a) (λ parts. IsUndefinedPart names parts k)

abbrev pub IsUndefinedAmong : List (List ℕ) → List PlainProduction → Place → Type 0
IsUndefinedAmong names productions x =
    IsSomeAnd (slice_get productions x.production) (λ p. IsUndefinedIn names p.alternatives x.alternative x.part)

-- at the place stands a nonterminal without a production
abbrev pub IsUndefinedAt : List PlainProduction → Place → Type 0
IsUndefinedAt productions x = IsUndefinedAmong (names_of productions) productions x

-- one place stands before another, in the order of the text
abbrev pub IsBeforeIn : (a k b l : ℕ) → Type 0
IsBeforeIn a k b l = (a < b) ⊎ ((a ≡ b) × (k < l))

abbrev pub IsBefore : Place → Place → Type 0
IsBefore x y =
    (x.production < y.production)
    ⊎ ((x.production ≡ y.production) × IsBeforeIn x.alternative x.part y.alternative y.part)

-- the texts so far, and one more where it is new
abbrev pub seen_with : List (List ℕ) → List ℕ → List (List ℕ)
seen_with seen bytes = if list_any (bytes_eq bytes) seen then seen else seen ++ bytes ∷ []

-- the parts of productions, in the order of the text
abbrev pub parts_in : List (List PlainPart) → List PlainPart
parts_in alternatives = flat_map (λ parts. parts) alternatives

abbrev pub parts_of : List PlainProduction → List PlainPart
parts_of productions = flat_map (λ (p : PlainProduction). parts_in p.alternatives) productions

abbrev pub literal_in : PlainPart → List (List ℕ)
literal_in (PlainLiteral bytes) = bytes ∷ []
literal_in _ = []

-- the literals of productions, each once, in the order of their first places
abbrev pub literals_of : List PlainProduction → List (List ℕ)
literals_of productions = fold seen_with [] (flat_map literal_in (parts_of productions))

-- there is a production, names are distinct, every nonterminal has a production, and the literals are those of the productions
pub record IsGrammar (g : PlainGrammar) : Type 0 where
  pub some : 0 < length g.productions
  pub distinct : HaveDistinctNames g.productions
  pub defined : (x : Place) → IsUndefinedAt g.productions x → ⊥
  pub literals : g.literals ≡ literals_of g.productions
