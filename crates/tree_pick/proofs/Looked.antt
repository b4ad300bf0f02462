-- The steps of the walk.
use Rattle.std.proofs.Common.{◌≡◌, ◌≢◌, ◌≤◌, ◌⊎◌, inl, inr, ℕ, ◌+◌, ◌<◌, List, [], ◌∷◌, slice_get, length, Some, None, Option, Contains, refl, sym, ap, subst, arith, ◌∙◌, true, false, drop, take, suc, Bool, get_or, add-one, drop-cons, take_all, length-drop, ◌-◌}
use Rattle.std.proofs.lemmas.List.Elements.{Contains-push_cases}
use Rattle.std.specs.Prelude.{not, Result, Ok, Err, IfOk, OnOk}
use Rattle.acg_base.specs.declared.memory.Memory.{Memory}
use Rattle.std.proofs.lemmas.Option.{slice_get_within}
use Rattle.tree_pick.proofs.Walked.{span_kept}
use Rattle.tree_pick.proofs.Longer.{longer_kept, one_more}
use Rattle.source_lex.specs.declared.lexeme.LexKind.{LexKind}
use Rattle.source_lex.specs.declared.numbered.Symbol.{Symbol as Part}
use Rattle.source_lex.specs.declared.numbered.Symbol.TheVariants.{Word, Phrase}
use Rattle.tree_pick.specs.declared.phrases.Span.{Span}
use Rattle.tree_pick.specs.declared.phrases.Choice.{Choice}
use Rattle.tree_pick.specs.declared.phrases.Taken.{Taken}
use Rattle.gram_form.specs.Trees.{End, Lexeme, Under}
use Rattle.source_lex.specs.Numbered.{Alternative, Numbered, alternative_of}
use Rattle.chart_parse.specs.Growths.{HasPieces}
use Rattle.tree_pick.specs.Runs.{Cuts}
use Rattle.tree_pick.specs.Spines.{Spanning, Growing, Parts, CanGrow, FitsStep, Reached, Begun, Followed, HasTwo}
use Rattle.tree_pick.specs.Choices.{IsChoice, CanLeaf, CanStep}
use Rattle.tree_pick.specs.Longer.{IsLonger}
use Rattle.tree_pick.specs.Walk.{span, root_of, IsReached, AreReached, WorkedParts, WorkedGrowth, Worked, WorkedSpan, WorkedLeaf}
use Rattle.chart_parse.proofs.LeftCorners.{pieces_within}
use Rattle.tree_pick.proofs.SpineTwo.{two_above, two_chosen}

pub word_has : (g : Numbered) (w : List LexKind) (c : LexKind) (rest : Alternative) (k l : ℕ) → HasPieces g w (Word c ∷ rest) k l → (slice_get w k ≡ Some c) × HasPieces g w rest (k + 1) l
word_has g w c rest k l (End, x) = absurd (let e = x.0 in cc)
word_has g w c rest k l (Lexeme p ps, x) =
    let e : x.1 ≡ c = (let q = x.3 in cc) in
    let f : x.2 ≡ rest = (let q = x.3 in cc) in
    (rw e at x.4, (ps, rw f at x.5))
word_has g w c rest k l (Under t ps, x) = absurd (let e = x.3 in cc)

pub phrase_has : (g : Numbered) (w : List LexKind) (m : ℕ) (rest : Alternative) (k l : ℕ) → HasPieces g w (Phrase m ∷ rest) k l → (h : ℕ) × Cuts g w m rest k l h
phrase_has g w m rest k l (End, x) = absurd (let e = x.0 in cc)
phrase_has g w m rest k l (Lexeme p ps, x) = absurd (let e = x.3 in cc)
phrase_has g w m rest k l (Under t ps, x) =
    let e : x.0 ≡ m = (let q = x.3 in cc) in
    let f : x.1 ≡ rest = (let q = x.3 in cc) in
    (x.2, ((t, rw e at x.4), (ps, rw f at x.5)))

-- what the only choice is
pub only_first : {T : Type 0} (Fits : T → Type 0) (c : Choice T) → IsChoice Fits c → c.only ≡ true → (x y : T) → Fits x → Fits y → x ≡ y
only_first Fits c h e x y fx fy = h.1 e x fx ∙ sym (h.1 e y fy)

-- two ends of a phrase make two trees of the root
pub two_cuts : (g : Numbered) (w : List LexKind) (m : ℕ) (rest : Alternative) (k l : ℕ) (c : Choice ℕ) → IsChoice (Cuts g w m rest k l) c → c.only ≡ false → Reached g w (root_of w) (Parts (Phrase m ∷ rest) k l) → HasTwo g w (root_of w)
two_cuts g w m rest k l c h e at =
    let x = h.2 e in
    two_above g w (root_of w) (Parts (Phrase m ∷ rest) k l) at (two_chosen g w (Parts (Phrase m ∷ rest) k l) (x.0, c.first, x.2, x.1, h.0))

pub added_reached : (g : Numbered) (w : List LexKind) (S T : List Span) (y : Span) → AreReached g w S → IsReached g w y → ((x : Span) → Contains T x → Contains S x ⊎ (y ≡ x)) → AreReached g w T
added_reached g w S T y all here only x h = elim (only x h) [
  | inl z ↦ all x z
  | inr e ↦ subst (IsReached g w) e here
]

-- the next part and those behind it
pub next : (parts : List Part) (p : ℕ) (d x : Part) → p < length parts → get_or parts p d ≡ x → drop p parts ≡ x ∷ drop (p + 1) parts
next parts p d x h e = rw (add-one p) (drop-cons parts p d h ∙ ap (λ y. y ∷ drop (suc p) parts) e)

pub tail : (parts : List Part) (p : ℕ) → take (length parts - (p + 1)) (drop (p + 1) parts) ≡ drop (p + 1) parts
tail parts p = take_all (length parts - (p + 1)) (drop (p + 1) parts) (omega (arith, length-drop (p + 1) parts))

-- after a phrase with one end
pub phrase_worked : (g : Numbered) (w : List LexKind) (T : List Span) (m : ℕ) (rest : Alternative) (k l : ℕ) (c : Choice ℕ) → IsChoice (Cuts g w m rest k l) c → c.only ≡ true → Contains T (span m k c.first) → WorkedParts g w T rest c.first l → WorkedParts g w T (Phrase m ∷ rest) k l
phrase_worked g w T m rest k l c h e there more = (
  λ x y fx fy. only_first (Cuts g w m rest k l) c h e x y fx fy,
  λ x fx. let q = h.1 e x fx in (subst (λ n. Contains T (span m k n)) (sym q) there, subst (λ n. WorkedParts g w T rest n l) (sym q) more),
)

pub not_true : (b : Bool) → not b ≡ true → b ≡ false
not_true true h = cc
not_true false h = refl

pub not_false : (b : Bool) → not b ≡ false → b ≡ true
not_false true h = refl
not_false false h = cc

pub taken_same : (x y : Taken) → x.production ≡ y.production → x.alternative ≡ y.alternative → x.end ≡ y.end → x ≡ y
taken_same x y p q r = λ t. record { production = p t; alternative = q t; end = r t }

-- what stands behind the first word of a leaf
pub leaf_rest : (g : Numbered) (w : List LexKind) (n i j : ℕ) (x : Taken) (parts : Alternative) → alternative_of g x.production x.alternative ≡ Some parts → CanLeaf g w n i j x
    → (parts ≡ []) ⊎ ((c : LexKind) × (rest : Alternative) × (parts ≡ Word c ∷ rest) × (slice_get w i ≡ Some c) × HasPieces g w rest (i + 1) x.end)
leaf_rest g w n i j x parts e (inl h, can) = inl (let q : Some parts ≡ Some [] = sym e ∙ h.0 in cc)
leaf_rest g w n i j x parts e (inr (c, rest, f, at, ps), can) = inr (c, rest, (let q : Some parts ≡ Some (Word c ∷ rest) = sym e ∙ f in cc), at, ps)

pub leaf_at : (g : Numbered) (w : List LexKind) (n i j : ℕ) (x : Taken) (parts : Alternative) → alternative_of g x.production x.alternative ≡ Some parts → CanLeaf g w n i j x → (parts ≡ [] → ⊥) → Reached g w (root_of w) (Spanning n i j)
    → (c : LexKind) × (rest : Alternative) × (parts ≡ Word c ∷ rest) × Reached g w (root_of w) (Parts rest (i + 1) x.end) × (slice_get w i ≡ Some c) × HasPieces g w rest (i + 1) x.end
leaf_at g w n i j x parts e fits some at = elim (leaf_rest g w n i j x parts e fits) [
  | inl h ↦ absurd (some h)
  | inr (c, rest, f, here, ps) ↦ (c, rest, f, Begun x.production x.alternative x.end c rest at (e ∙ ap (λ (y : Alternative). Some y) f) here fits.1, here, ps)
]

pub step_at : (g : Numbered) (w : List LexKind) (n j c k : ℕ) (x : Taken) (parts : Alternative) → alternative_of g x.production x.alternative ≡ Some parts → CanStep g w n j c k (Some x) → Reached g w (root_of w) (Growing c k n j)
    → (rest : Alternative) × (parts ≡ Phrase c ∷ rest) × Reached g w (root_of w) (Parts rest k x.end)
step_at g w n j c k x parts e ((rest, f, ps), can) at = (rest, (let q : Some parts ≡ Some (Phrase c ∷ rest) = sym e ∙ f in cc), Followed x.production x.alternative x.end rest at f can)

-- what is taken ends within the lexemes
pub step_within : (g : Numbered) (w : List LexKind) (c k m a l : ℕ) → k ≤ length w → FitsStep g w c k m a l → l ≤ length w
step_within g w c k m a l le (rest, e, ps) = pieces_within g w rest k l ps.0 le ps.1

pub leaf_within : (g : Numbered) (w : List LexKind) (n i j : ℕ) (x : Taken) → i ≤ length w → CanLeaf g w n i j x → x.end ≤ length w
leaf_within g w n i j x le (inl h, can) = let e = h.1 in omega arith
leaf_within g w n i j x le (inr (c, rest, e, at, ps), can) = pieces_within g w rest (i + 1) x.end ps.0 (omega (arith, slice_get_within w i c at)) ps.1

-- the slice behind the first part
pub behind : (parts : Alternative) (x : Part) (rest : Alternative) → parts ≡ x ∷ rest → take (length parts - 1) (drop 1 parts) ≡ rest
behind parts x rest e = tail parts 0 ∙ ap (λ (y : Alternative). drop 1 y) e

pub two_leaves : (g : Numbered) (w : List LexKind) (n i j : ℕ) (c : Choice Taken) → IsChoice (CanLeaf g w n i j) c → c.only ≡ false → Reached g w (root_of w) (Spanning n i j) → HasTwo g w (root_of w)
two_leaves g w n i j c h e at =
    let x = h.2 e in
    let a : Taken = x.0 in
    let b : Taken = c.first in
    two_above g w (root_of w) (Spanning n i j) at (two_chosen g w (Spanning n i j) (a.production, a.alternative, a.end, b.production, b.alternative, b.end, x.1.0, x.1.1, h.0.0, h.0.1, λ q. x.2 (taken_same a b q.0 q.1 q.2)))

steps_two : (g : Numbered) (w : List LexKind) (n j c k : ℕ) (x y : Option Taken) → CanStep g w n j c k x → CanStep g w n j c k y → x ≢ y → Reached g w (root_of w) (Growing c k n j) → HasTwo g w (root_of w)
steps_two g w n j c k None None fx fy apart at = absurd (apart refl)
steps_two g w n j c k None (Some y) fx fy apart at = two_above g w (root_of w) (Growing c k n j) at (two_chosen g w (Growing c k n j) (inr (y.production, y.alternative, y.end, fx.0, fx.1, fy.0, fy.1)))
steps_two g w n j c k (Some x) None fx fy apart at = two_above g w (root_of w) (Growing c k n j) at (two_chosen g w (Growing c k n j) (inr (x.production, x.alternative, x.end, fy.0, fy.1, fx.0, fx.1)))
steps_two g w n j c k (Some x) (Some y) fx fy apart at =
    two_above g w (root_of w) (Growing c k n j) at (two_chosen g w (Growing c k n j) (inl (x.production, x.alternative, x.end, y.production, y.alternative, y.end, fx.0, fx.1, fy.0, fy.1, λ q. apart (ap (λ (z : Taken). Some z) (taken_same x y q.0 q.1 q.2)))))

pub two_steps : (g : Numbered) (w : List LexKind) (n j c k : ℕ) (x : Choice (Option Taken)) → IsChoice (CanStep g w n j c k) x → x.only ≡ false → Reached g w (root_of w) (Growing c k n j) → HasTwo g w (root_of w)
two_steps g w n j c k x h e at = let y = h.2 e in steps_two g w n j c k y.0 x.first y.1 h.0 y.2 at

abbrev pub taken : (production alternative end : ℕ) → Taken
taken b a k = record { production = b; alternative = a; end = k }

-- a phrase whose leaf is the only one
pub leaf_worked : (g : Numbered) (w : List LexKind) (T : List Span) (n i j : ℕ) (c : Choice Taken) → IsChoice (CanLeaf g w n i j) c → c.only ≡ true → WorkedLeaf g w T i c.first.production c.first.alternative c.first.end → WorkedGrowth g w T n j c.first.production c.first.end → WorkedSpan g w T n i j
leaf_worked g w T n i j c h e parts more = (
  λ b a k d f l fx cx fy cy. let q = only_first (CanLeaf g w n i j) c h e (taken b a k) (taken d f l) (fx, cx) (fy, cy) in (ap (λ (x : Taken). x.production) q, ap (λ (x : Taken). x.alternative) q, ap (λ (x : Taken). x.end) q),
  λ b a k fx cx. let q = sym (h.1 e (taken b a k) (fx, cx)) in (
    subst (λ (x : Taken). WorkedGrowth g w T n j x.production x.end) q more,
    subst (λ (x : Taken). WorkedLeaf g w T i x.production x.alternative x.end) q parts,
  ),
)

pub stay_worked : (g : Numbered) (w : List LexKind) (T : List Span) (n j c k : ℕ) (x : Choice (Option Taken)) → IsChoice (CanStep g w n j c k) x → x.only ≡ true → x.first ≡ None → WorkedGrowth g w T n j c k
stay_worked g w T n j c k x h e none = Worked
    (λ m a l p b o fx cx fy cy. absurd (no m a l fx cx), λ m a l p q fx cx. no m a l fx cx)
    (λ m a l rest f ps cx. absurd (no m a l (rest, f, ps) cx))
    (λ m a l fx cx. absurd (no m a l fx cx))
  where
    no : (m a l : ℕ) → FitsStep g w c k m a l → CanGrow g w n j m l → ⊥
    no m a l fx cx = let q : Some (taken m a l) ≡ None = h.1 e (Some (taken m a l)) (fx, cx) ∙ none in cc

pub step_worked : (g : Numbered) (w : List LexKind) (T : List Span) (n j c k : ℕ) (x : Choice (Option Taken)) (s : Taken) → IsChoice (CanStep g w n j c k) x → x.only ≡ true → x.first ≡ Some s → ((rest : Alternative) → alternative_of g s.production s.alternative ≡ Some (Phrase c ∷ rest) → WorkedParts g w T rest k s.end) → WorkedGrowth g w T n j s.production s.end → WorkedGrowth g w T n j c k
step_worked g w T n j c k x s h e some parts more = Worked (
  λ m a l p b o fx cx fy cy. let q = same m a l fx cx ∙ sym (same p b o fy cy) in (ap (λ (y : Taken). y.production) q, ap (λ (y : Taken). y.alternative) q, ap (λ (y : Taken). y.end) q),
  λ m a l p q fx cx. let z : None ≡ Some s = h.1 e None (p, q) ∙ some in cc,
)
    (λ m a l rest f ps cx. subst (λ (y : Taken). (rest : Alternative) → alternative_of g y.production y.alternative ≡ Some (Phrase c ∷ rest) → WorkedParts g w T rest k y.end) (sym (same m a l (rest, f, ps) cx)) parts rest f)
    (λ m a l fx cx. subst (λ (y : Taken). WorkedGrowth g w T n j y.production y.end) (sym (same m a l fx cx)) more)
  where
    same : (m a l : ℕ) → FitsStep g w c k m a l → CanGrow g w n j m l → taken m a l ≡ s
    same m a l fx cx = let q : Some (taken m a l) ≡ Some s = h.1 e (Some (taken m a l)) (fx, cx) ∙ some in cc

-- what two clauses on one answer say together
pub both_ok : (r : Result Bool Memory) (A : Type 0) (P Q : Bool → Type 0) → OnOk r A → IfOk r P → ((b : Bool) → A → P b → Q b) → IfOk r Q
both_ok (Ok b) A P Q a p f = f b a p
both_ok (Err e) A P Q a p f = tt

-- one phrase more was looked at
pub more_worked : (g : Numbered) (w : List LexKind) (S T : List Span) (p : ℕ) (y : Span) → IsLonger S T → slice_get S p ≡ Some y → ((x : Span) → Contains (take p S) x → WorkedSpan g w S x.nonterm x.start x.end) → WorkedSpan g w T y.nonterm y.start y.end
    → (x : Span) → Contains (take (p + 1) T) x → WorkedSpan g w T x.nonterm x.start x.end
more_worked g w S T p y h e below here x there = elim (Contains-push_cases (take p S) y x (rw (one_more S T p y h e) at there)) [
  | inl z ↦ span_kept g w S T (longer_kept S T h) x.nonterm x.start x.end (below x z)
  | inr z ↦ subst (λ (s : Span). WorkedSpan g w T s.nonterm s.start s.end) z here
]
