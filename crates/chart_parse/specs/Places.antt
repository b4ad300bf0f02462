-- The places of a chart, what their lists have, and the rules for them.
use Rattle.std.specs.Prelude.{◌≡◌, ◌≢◌, ◌↔◌, ℕ, zero, suc, ◌+◌, ◌*◌, ◌/◌, ◌<◌, ◌≤◌, List, [], ◌∷◌, length, map, slice_get, Some, Contains, Vec}
use Rattle.std.specs.Global.{Global}
use Rattle.std.specs.Borrow.{Bor}
use Rattle.source_lex.specs.Numbered.{Alternative, Numbered, alternative_of, plain_numbered}
use Rattle.source_lex.specs.Trees.{Has}
use Rattle.source_lex.specs.declared.numbered.Symbol.{Symbol}
use Rattle.source_lex.specs.declared.numbered.Symbol.TheVariants.{Word, Phrase}
use Rattle.source_lex.specs.declared.lexeme.LexKind.{LexKind}
use Rattle.chart_parse.specs.declared.rows.Entry.{Entry}
use Rattle.chart_parse.specs.declared.source.Source.{Source}
use Rattle.chart_parse.specs.declared.rule_lists.Rule.{Rule}
use Rattle.chart_parse.specs.declared.rule_lists.Class.{Class}
use Rattle.chart_parse.specs.declared.rule_lists.Class.TheVariants.{Behind, Here, Empty}
use Rattle.chart_parse.specs.Rows as rows
use Rattle.chart_parse.specs.Rows.{Lists, AreWide}
use Rattle.chart_parse.specs.Table.{list_at}
use Rattle.chart_parse.specs.Growths.{HasPieces, Grows}

-- alternatives in an arena
abbrev pub alternatives_in : List (Bor (List Symbol)) → List Alternative
alternatives_in list = map (λ (a : Bor (List Symbol)). a.now) list

-- the grammar of a source
abbrev pub grammar_of : Source → Numbered
grammar_of s = plain_numbered s.nonterminals.now

-- a bit for each place: one before each lexeme, and one behind the last
abbrev pub width_of : List LexKind → ℕ
width_of w = length w / 64 + 1

-- rows of which each has room for the number
abbrev pub HaveRoom : ℕ → List Entry → Type 0
HaveRoom e [] = Unit {0}
HaveRoom e (x ∷ xs) = (e < 64 * length x.row.now) × HaveRoom e xs

-- the lists of each place
abbrev pub Places : Type 0
Places = List (Vec (Vec Entry Global) Global)

-- the lists of a place
abbrev pub lists_of : Places → ℕ → List (Vec Entry Global)
lists_of [] i = []
lists_of (v ∷ vs) zero = v.items
lists_of (v ∷ vs) (suc i) = lists_of vs i

-- the list of a number at a place: of a nonterminal, what grows from it; behind those, the ends
abbrev pub list_of : Places → ℕ → ℕ → List Entry
list_of p i c = list_at (lists_of p i) c

-- the list has the nonterminal with the place
abbrev pub IsListed : (w : List LexKind) → Places → (i c n e : ℕ) → Type 0
IsListed w p i c n e = (e ≤ length w) × Lists (list_of p i c) n e

-- what the list of a number at a place is to have
pub record IsTrueOf (g : Numbered) (w : List LexKind) (c i n e : ℕ) : Type 0 where
  pub growth : c < length g → Grows g w n e c i
  pub end : c ≡ length g → Has g w n i e

-- the part leads from k to h, by the ends
abbrev pub Advances : (g : Numbered) (w : List LexKind) → Places → Symbol → (k h : ℕ) → Type 0
Advances g w p (Word c) k h = (slice_get w k ≡ Some c) × (h ≡ k + 1)
Advances g w p (Phrase m) k h = IsListed w p k (length g) m h

-- the part leads to h from a place that the row has
abbrev pub AdvancesFrom : (g : Numbered) (w : List LexKind) → Places → Symbol → List ℕ → ℕ → Type 0
AdvancesFrom g w p part row h = (k : ℕ) × (k ≤ length w) × rows.Has row k × Advances g w p part k h

-- the parts lead from k to l, by the ends
abbrev pub RunsTo : (g : Numbered) (w : List LexKind) → Places → Alternative → (k l : ℕ) → Type 0
RunsTo g w p [] k l = k ≡ l
RunsTo g w p (part ∷ rest) k l = (h : ℕ) × Advances g w p part k h × RunsTo g w p rest h l

-- the parts lead nowhere from k
abbrev pub LeadNowhere : (g : Numbered) (w : List LexKind) → Places → Alternative → (k : ℕ) → Type 0
LeadNowhere g w p parts k = (e : ℕ) → RunsTo g w p parts k e → ⊥

-- the parts lead from k where the rest of them leads from the other place
abbrev pub LeadOn : (g : Numbered) (w : List LexKind) → Places → Alternative → (k : ℕ) → Alternative → (at : ℕ) → Type 0
LeadOn g w p parts k rest at = (e : ℕ) → RunsTo g w p parts k e ↔ RunsTo g w p rest at e

-- lists of all places that have only what is true, and from each nonterminal itself
pub record IsPart (g : Numbered) (w : List LexKind) (p : Places) : Type 0 where
  pub few : length g < 4294967296
  pub count : length p ≡ length w + 1
  pub tables : (i : ℕ) → i ≤ length w → length (lists_of p i) ≡ length g + 1
  pub wide : (i c : ℕ) → AreWide (width_of w) (list_of p i c)
  pub sound : (i c n e : ℕ) → IsListed w p i c n e → IsTrueOf g w c i n e
  pub stays : (i c : ℕ) → i ≤ length w → c < length g → IsListed w p i c c i

-- each list has the same entries
abbrev pub IsSame : Places → Places → Type 0
IsSame p q = (i c : ℕ) → list_of q i c ≡ list_of p i c

-- lists that have only what is true and all that they had, of which only those of one place may be others than before
pub record IsAdded (g : Numbered) (w : List LexKind) (place : ℕ) (p q : Places) : Type 0 where
  pub part : IsPart g w q
  pub kept : (i c n e : ℕ) → IsListed w p i c n e → IsListed w q i c n e
  pub others : (i c : ℕ) → i ≢ place → list_of q i c ≡ list_of p i c

-- the list of c at k has now what by earlier lists grew from m where the parts ended
abbrev pub FollowsBy : (g : Numbered) (w : List LexKind) (old now : Places) (k m : ℕ) → Alternative → (c : ℕ) → Type 0
FollowsBy g w old now k m parts c = (l n e : ℕ) → RunsTo g w old parts k l → IsListed w old l m n e → IsListed w now k c n e

-- the list of c at k has what grows from m where the parts end
abbrev pub Follows : (g : Numbered) (w : List LexKind) → Places → (k m : ℕ) → Alternative → (c : ℕ) → Type 0
Follows g w p k m parts c = FollowsBy g w p p k m parts c

-- the row of the number
abbrev pub row_at : List (Vec ℕ Global) → ℕ → List ℕ
row_at [] m = []
row_at (v ∷ vs) zero = v.items
row_at (v ∷ vs) (suc m) = row_at vs m

-- rows of places, one for each nonterminal, that have only places from a first one on, at which only that nonterminal itself grows from it
pub record AreNear (g : Numbered) (w : List LexKind) (p : Places) (first : ℕ) (near : List (Vec ℕ Global)) : Type 0 where
  pub count : length near ≡ length g
  pub wide : (m : ℕ) → m < length g → length (row_at near m) ≡ width_of w
  pub behind : (m l : ℕ) → l ≤ length w → rows.Has (row_at near m) l → first ≤ l
  pub alone : (m l n e : ℕ) → l ≤ length w → rows.Has (row_at near m) l → IsListed w p l m n e → (n ≡ m) × (e ≡ l)

-- the rule of an alternative of m at k, by what earlier lists had: what begins with a phrase grows from it, anything else ends there
abbrev pub IsMetBy : (g : Numbered) (w : List LexKind) (old now : Places) (k m : ℕ) → Alternative → Type 0
IsMetBy g w old now k m [] = FollowsBy g w old now k m [] (length g)
IsMetBy g w old now k m (Word c ∷ rest) = FollowsBy g w old now k m (Word c ∷ rest) (length g)
IsMetBy g w old now k m (Phrase c ∷ rest) = c < length g → FollowsBy g w old now k m rest c

-- the rule of an alternative of m at k
abbrev pub IsMet : (g : Numbered) (w : List LexKind) → Places → (k m : ℕ) → Alternative → Type 0
IsMet g w p k m parts = IsMetBy g w p p k m parts

-- what the rule of an alternative reads: lists of later places alone where a word stands first, or behind the first phrase
abbrev pub class_of : Alternative → Class
class_of [] = Empty
class_of (Word c ∷ rest) = Behind
class_of (Phrase c ∷ []) = Here
class_of (Phrase c ∷ Phrase d ∷ rest) = Here
class_of (Phrase c ∷ Word d ∷ rest) = Behind

-- the rules of the alternatives of m at k
abbrev pub AreMet : (g : Numbered) (w : List LexKind) → Places → (k m : ℕ) → Type 0
AreMet g w p k m = (a : ℕ) (parts : Alternative) → alternative_of g m a ≡ Some parts → IsMet g w p k m parts

-- all rules at k
abbrev pub IsClosedAt : (g : Numbered) (w : List LexKind) → Places → (k : ℕ) → Type 0
IsClosedAt g w p k = (m : ℕ) → AreMet g w p k m

-- what grows from m where the parts end is true in the list of c at k
abbrev pub IsRule : (g : Numbered) (w : List LexKind) → (k m : ℕ) → Alternative → (c : ℕ) → Type 0
IsRule g w k m parts c = (l n e : ℕ) → HasPieces g w parts k l → Grows g w n e m l → IsTrueOf g w c k n e

-- the parts don't begin with a phrase
abbrev pub BeginsOther : Alternative → Type 0
BeginsOther [] = Unit {0}
BeginsOther (Word c ∷ rest) = Unit {0}
BeginsOther (Phrase c ∷ rest) = ⊥

-- the parts are an alternative of m
abbrev pub IsAlternative : Numbered → ℕ → Alternative → Type 0
IsAlternative g m parts = (a : ℕ) × (alternative_of g m a ≡ Some parts)

-- rules of the grammar
abbrev pub AreRules : Numbered → List Rule → Type 0
AreRules g rules = (x : Rule) → Contains rules x → IsAlternative g x.nonterminal x.parts.now

-- rules of a class
abbrev pub AreOfClass : Class → List Rule → Type 0
AreOfClass class rules = (x : Rule) → Contains rules x → class_of x.parts.now ≡ class

-- the rule of the parts and the nonterminal is there
abbrev pub HasRule : List Rule → (m : ℕ) → Alternative → Type 0
HasRule rules m parts = (x : Rule) × Contains rules x × (x.nonterminal ≡ m) × (x.parts.now ≡ parts)

-- each rule of a class is there that a nonterminal has
abbrev pub HasClassOf : Numbered → Class → List Rule → (m : ℕ) → Type 0
HasClassOf g class rules m = (a : ℕ) (parts : Alternative) → alternative_of g m a ≡ Some parts → class_of parts ≡ class → HasRule rules m parts

-- each rule of a class is there
abbrev pub HasClass : Numbered → Class → List Rule → Type 0
HasClass g class rules = (m : ℕ) → HasClassOf g class rules m

-- a rule of the grammar and of a class
abbrev pub IsOfClass : Numbered → Class → Rule → Type 0
IsOfClass g class x = IsAlternative g x.nonterminal x.parts.now × (class_of x.parts.now ≡ class)

-- all rules of the grammar
pub record AreLists (g : Numbered) (behind here : List Rule) : Type 0 where
  pub rules_behind : AreRules g behind
  pub rules_here : AreRules g here
  pub class_behind : AreOfClass Behind behind
  pub has_behind : HasClass g Behind behind
  pub has_here : HasClass g Here here
  pub has_empty : HasClass g Empty here

-- the rules in a list are met at k
abbrev pub MeetsEach : (g : Numbered) (w : List LexKind) → Places → (k : ℕ) → List Rule → Type 0
MeetsEach g w p k rules = (x : Rule) → Contains rules x → IsMet g w p k x.nonterminal x.parts.now

-- lists that have exactly what is true
pub record IsExact (g : Numbered) (w : List LexKind) (p : Places) : Type 0 where
  pub count : length p ≡ length w + 1
  pub tables : (i : ℕ) → i ≤ length w → length (lists_of p i) ≡ length g + 1
  pub wide : (i c : ℕ) → AreWide (width_of w) (list_of p i c)
  pub few : length g < 4294967296
  pub small : length w < 4294967296
  pub ends : (i n e : ℕ) → i ≤ length w → e ≤ length w → Lists (list_of p i (length g)) n e ↔ Has g w n i e
  pub growths : (i c n e : ℕ) → i ≤ length w → e ≤ length w → c < length g
      → Lists (list_of p i c) n e ↔ Grows g w n e c i
