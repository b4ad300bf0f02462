-- Which nonterminals can begin which.
use Rattle.std.specs.Prelude.{◌≡◌, ◌⊎◌, ℕ, ◌<◌, List, ◌∷◌, length, slice_get, Some, Contains, Vec}
use Rattle.std.specs.Global.{Global}
use Rattle.chart_parse.specs.Places.{row_at}
use Rattle.source_lex.specs.Numbered.{Alternative, Numbered, alternative_of}
use Rattle.source_lex.specs.declared.numbered.Symbol.TheVariants.{Phrase}
use Rattle.tree_pick.specs.declared.corners.Beginning.{Beginning}

-- the pair of a nonterminal and one that it can begin
abbrev pub beginning : (first whole : ℕ) → Beginning
beginning first whole = record { first = first; whole = whole }

-- each nonterminal with which one of the alternatives begins is there as one that begins n
abbrev pub HasFirstsOf : List Alternative → List Beginning → (n : ℕ) → Type 0
HasFirstsOf alternatives pairs n =
    (a c : ℕ) (rest : Alternative) → slice_get alternatives a ≡ Some (Phrase c ∷ rest)
    → Contains pairs (beginning c n)

-- each nonterminal with which an alternative of m begins is there as one that begins n
abbrev pub HasFirsts : (g : Numbered) → List Beginning → (m n : ℕ) → Type 0
HasFirsts g pairs m n =
    (a c : ℕ) (rest : Alternative) → alternative_of g m a ≡ Some (Phrase c ∷ rest)
    → Contains pairs (beginning c n)

-- each nonterminal with those that begin its alternatives, those that begin these, and so on
pub record AreAllCorners (g : Numbered) (pairs : List Beginning) : Type 0 where
  pub first : (n : ℕ) → HasFirsts g pairs n n
  pub more : (x : Beginning) → Contains pairs x → HasFirsts g pairs x.first x.whole

-- lists, one for each nonterminal, of nonterminals
pub record AreLists (total : ℕ) (lists : List (Vec ℕ Global)) : Type 0 where
  pub count : length lists ≡ total
  pub below : (n c : ℕ) → Contains (row_at lists n) c → c < total

-- each nonterminal is in its own list
abbrev pub HaveOwn : (count : ℕ) → List (Vec ℕ Global) → Type 0
HaveOwn count lists = (n : ℕ) → n < count → Contains (row_at lists n) n

-- the one of the pair is in the list of the other
abbrev pub HasFirst : (count : ℕ) → List (Vec ℕ Global) → Beginning → Type 0
HasFirst count lists x = x.first < count → x.whole < count → Contains (row_at lists x.whole) x.first

-- the new lists have what the old ones have
abbrev pub AreMore : (old new : List (Vec ℕ Global)) → Type 0
AreMore old new = (n c : ℕ) → Contains (row_at old n) c → Contains (row_at new n) c

-- for each nonterminal itself and those that begin it
pub record AreFirsts (count : ℕ) (pairs : List Beginning) (all : List (Vec ℕ Global)) : Type 0 where
  pub lists : AreLists count all
  pub own : HaveOwn count all
  pub firsts : (x : Beginning) → Contains pairs x → HasFirst count all x
