-- Grammars as tables of lines, and what they read and write.
use Rattle.action_text.specs.declared.table.Mark.{Mark}
use Rattle.action_text.specs.declared.table.Symbol.{Symbol as TableSymbol}
use Rattle.action_text.specs.declared.table.Symbol.TheVariants as symbol
use Rattle.action_text.specs.Numbers.{class_number, name_number}
use Rattle.std.specs.Prelude.{◌≡◌, ◌⊎◌, ℕ, zero, suc, Bool, true, false, List, [], ◌∷◌, ◌++◌, Option, Some, None, nat_eq, if◌then◌else◌}

-- what may stand on the right of a line: a token of a class, read over or kept, a mark, a name
pub data Symbol : Type 0 where
  Read : (class : ℕ) → Symbol
  Keep : (class : ℕ) → Symbol
  Emit : (mark : Mark) → Symbol
  Name : (name : ℕ) → Symbol

-- a symbol of the code, with the number of its class or its name
abbrev pub numbered : TableSymbol → Symbol
numbered (symbol.Read c) = Read (class_number c)
numbered (symbol.Keep c) = Keep (class_number c)
numbered (symbol.Emit m) = Emit m
numbered (symbol.Name n) = Name (name_number n)

-- what is written: a token, or a mark
pub data Written : Type 0 where
  Token : (token : List ℕ) → Written
  Noted : (mark : Mark) → Written

-- the name may be a token of the class, which is kept or not, and then what stands on the right
pub record Line : Type 0 where
  pub name : ℕ
  pub class : ℕ
  pub keeps : Bool
  pub right : List Symbol

-- the name may be what stands on the right
pub record Other : Type 0 where
  pub name : ℕ
  pub right : List Symbol

abbrev pub line : ℕ → ℕ → Bool → List Symbol → Line
line n c k r = record { name = n; class = c; keeps = k; right = r }

abbrev pub other : ℕ → List Symbol → Other
other n r = record { name = n; right = r }

-- the class of each token, and the lines
pub record Table : Type 0 where
  pub class : List ℕ → ℕ
  pub lines : List Line
  pub others : List Other

unfoldable pub line_of : List Line → ℕ → ℕ → Option Line
line_of [] n c = None
line_of (l ∷ ls) n c = if nat_eq l.name n then (if nat_eq l.class c then Some l else line_of ls n c) else line_of ls n c

unfoldable pub other_of : List Other → ℕ → Option (List Symbol)
other_of [] n = None
other_of (l ∷ ls) n = if nat_eq l.name n then Some l.right else other_of ls n

abbrev pub with_token : Bool → List ℕ → List Written → List Written
with_token true token o = Token token ∷ o
with_token false token o = o

-- by that many moves the symbols read the tokens and write the list
abbrev pub Writes : Table → ℕ → List Symbol → List (List ℕ) → List Written → Type 0
Writes g zero s ts o = (s ≡ []) × (ts ≡ []) × (o ≡ [])
Writes g (suc k) [] ts o = ⊥
Writes g (suc k) (Read c ∷ s) [] o = ⊥
Writes g (suc k) (Read c ∷ s) (t ∷ ts) o = (g.class t ≡ c) × Writes g k s ts o
Writes g (suc k) (Keep c ∷ s) [] o = ⊥
Writes g (suc k) (Keep c ∷ s) (t ∷ ts) o = (g.class t ≡ c) × (p : List Written) × (o ≡ Token t ∷ p) × Writes g k s ts p
Writes g (suc k) (Emit e ∷ s) ts o = (p : List Written) × (o ≡ Noted e ∷ p) × Writes g k s ts p
Writes g (suc k) (Name n ∷ s) [] o = (r : List Symbol) × (other_of g.others n ≡ Some r) × Writes g k (r ++ s) [] o
Writes g (suc k) (Name n ∷ s) (t ∷ ts) o =
    ((l : Line) × (p : List Written) × (line_of g.lines n (g.class t) ≡ Some l) × (o ≡ with_token l.keeps t p) × Writes g k (l.right ++ s) ts p)
    ⊎ ((r : List Symbol) × (other_of g.others n ≡ Some r) × Writes g k (r ++ s) (t ∷ ts) o)

abbrev pub Reads : Table → List Symbol → List (List ℕ) → List Written → Type 0
Reads g s ts o = (k : ℕ) × Writes g k s ts o
