-- The steps of a round.
use Rattle.std.proofs.Common.{◌≡◌, inl, inr, ℕ, zero, suc, ◌+◌, ◌<◌, ◌≤◌, List, [], ◌∷◌, length, map, get_or, slice_get, Some, refl, sym, ap, subst, arith, ◌∙◌, Vec, Global}
use Rattle.std.proofs.lemmas.Bool.Decides.{eqb_tells}
use Rattle.std.specs.Borrow.{Bor}
use Rattle.std.specs.Option.{option_and_then}
use Rattle.source_lex.specs.Numbered.{Alternative, Numbered, alternative_of, plain_alternatives, plain_numbered}
use Rattle.source_lex.specs.declared.numbered.Symbol.{Symbol}
use Rattle.source_lex.specs.declared.numbered.Symbol.TheVariants.{Word, Phrase}
use Rattle.source_lex.specs.declared.lexeme.LexKind.{LexKind}
use Rattle.chart_parse.specs.Rows.{Has}
use Rattle.chart_parse.specs.Growths.{Grows, Steps}
use Rattle.chart_parse.specs.Places.{Places, IsListed, IsTrueOf, RunsTo, IsPart, IsSame, IsAdded, FollowsBy, Follows, IsMetBy, IsMet, IsRule, IsClosedAt, BeginsOther, AreNear, row_at, alternatives_in, class_of}
use Rattle.chart_parse.specs.declared.rule_lists.Class.TheVariants.{Behind}
use Rattle.chart_parse.proofs.Bits.{has_or_not}
use Rattle.chart_parse.proofs.LeftCorners.{leaf_there}
use Rattle.chart_parse.proofs.EndsOfParts.{listed_kept, run_kept, run_true, run_order, closed_kept}

pub same_none : (p : Places) → IsSame p p
same_none p i c = refl

pub same_more : (p q r : Places) → IsSame p q → IsSame q r → IsSame p r
same_more p q r a b i c = b i c ∙ a i c

pub added_none : (g : Numbered) (w : List LexKind) (k : ℕ) (p : Places) → IsPart g w p → IsAdded g w k p p
added_none g w k p part = record { part = part; kept = λ i c n e h. h; others = λ i c _. refl }

pub added_more : (g : Numbered) (w : List LexKind) (k : ℕ) (p q r : Places) → IsAdded g w k p q → IsAdded g w k q r → IsAdded g w k p r
added_more g w k p q r a b = record {
  part = b.part;
  kept = λ i c n e h. b.kept i c n e (a.kept i c n e h);
  others = λ i c ne. b.others i c ne ∙ a.others i c ne;
}

-- the rule of an alternative that doesn't begin with a phrase
pub rule_other : (g : Numbered) (w : List LexKind) (k m a : ℕ) (parts : Alternative) → alternative_of g m a ≡ Some parts → IsRule g w k m parts (length g)
rule_other g w k m a parts e l n j ps more = record {
  growth = λ lt. absurd (omega (arith, lt));
  end = λ _. leaf_there g w m a k parts l n j e ps more;
}

pub rule_phrase : (g : Numbered) (w : List LexKind) (k m a c : ℕ) (parts rest : Alternative) → parts ≡ Phrase c ∷ rest → alternative_of g m a ≡ Some parts → c < length g → IsRule g w k m rest c
rule_phrase g w k m a c parts rest f e lt l n j ps more = record {
  growth = λ _. Steps m a rest l (e ∙ ap (λ x. Some x) f) ps more;
  end = λ q. absurd (omega (arith, q));
}

pub met_other : (g : Numbered) (w : List LexKind) (p q : Places) (k m : ℕ) (parts : Alternative) → BeginsOther parts → FollowsBy g w p q k m parts (length g) → IsMetBy g w p q k m parts
met_other g w p q k m [] b h = h
met_other g w p q k m (Word c ∷ rest) b h = h
met_other g w p q k m (Phrase c ∷ rest) b h = absurd b

pub met_phrase : (g : Numbered) (w : List LexKind) (p q : Places) (k m c : ℕ) (parts rest : Alternative) → parts ≡ Phrase c ∷ rest → (c < length g → FollowsBy g w p q k m rest c) → IsMetBy g w p q k m parts
met_phrase g w p q k m c parts rest f h = subst (λ (x : Alternative). IsMetBy g w p q k m x) (sym f) h

-- where nothing was more, the rule is followed
same_follows : (g : Numbered) (w : List LexKind) (p q : Places) → IsPart g w q → IsSame p q → (k m : ℕ) (parts : Alternative) (c : ℕ) → FollowsBy g w p q k m parts c → Follows g w q k m parts c
same_follows g w p q part same k m parts c h l n e run x =
    h l n e (run_kept g w 0 q p part (λ i d _. sym (same i d)) parts k l (omega arith) run) (listed_kept w q p l m n e (sym (same l m)) x)

pub same_met : (g : Numbered) (w : List LexKind) (p q : Places) → IsPart g w q → IsSame p q → (k m : ℕ) (parts : Alternative) → IsMetBy g w p q k m parts → IsMet g w q k m parts
same_met g w p q part same k m [] h = same_follows g w p q part same k m [] (length g) h
same_met g w p q part same k m (Word c ∷ rest) h = same_follows g w p q part same k m (Word c ∷ rest) (length g) h
same_met g w p q part same k m (Phrase c ∷ rest) h = λ lt. same_follows g w p q part same k m rest c (h lt)

-- what reads later places alone is followed, whatever was more
behind_follows : (g : Numbered) (w : List LexKind) (k m : ℕ) (p q : Places) → IsPart g w p → IsAdded g w k p q → (d : LexKind) (rest : Alternative) (c : ℕ) → FollowsBy g w p q k m (Word d ∷ rest) c → Follows g w q k m (Word d ∷ rest) c
behind_follows g w k m p q part added d rest c h l n e run x =
    let old : RunsTo g w p rest run.0 l = run_kept g w (k + 1) q p added.part (λ i y le. sym (added.others i y (λ s. absurd (omega (arith, s, le))))) rest run.0 l (omega (arith, run.1.1)) run.2 in
    let up : run.0 ≤ l = run_order g w p rest run.0 l part old in
    h l n e (run.0, run.1, old) (listed_kept w q p l m n e (sym (added.others l m (λ s. absurd (omega (arith, s, up, run.1.1))))) x)

pub behind_met : (g : Numbered) (w : List LexKind) (k m : ℕ) (p q : Places) → IsPart g w p → IsAdded g w k p q → (parts : Alternative) → class_of parts ≡ Behind → IsMetBy g w p q k m parts → IsMet g w q k m parts
behind_met g w k m p q part added [] f h = absurd (cc)
behind_met g w k m p q part added (Word d ∷ rest) f h = behind_follows g w k m p q part added d rest (length g) h
behind_met g w k m p q part added (Phrase c ∷ []) f h = absurd (cc)
behind_met g w k m p q part added (Phrase c ∷ Phrase d ∷ rest) f h = absurd (cc)
behind_met g w k m p q part added (Phrase c ∷ Word d ∷ rest) f h = λ lt. behind_follows g w k m p q part added d rest c (h lt)

-- what was met still is, by what the lists had
met_still : (g : Numbered) (w : List LexKind) (k m : ℕ) (p q : Places) → IsAdded g w k p q → (parts : Alternative) → IsMet g w p k m parts → IsMetBy g w p q k m parts
met_still g w k m p q added [] h = λ l n e run x. added.kept k (length g) n e (h l n e run x)
met_still g w k m p q added (Word d ∷ rest) h = λ l n e run x. added.kept k (length g) n e (h l n e run x)
met_still g w k m p q added (Phrase c ∷ rest) h = λ lt l n e run x. added.kept k c n e (h lt l n e run x)

pub behind_still : (g : Numbered) (w : List LexKind) (k m : ℕ) (p q : Places) → IsPart g w p → IsAdded g w k p q → (parts : Alternative) → class_of parts ≡ Behind → IsMet g w p k m parts → IsMet g w q k m parts
behind_still g w k m p q part added parts f h = behind_met g w k m p q part added parts f (met_still g w k m p q added parts h)

-- a list that has the nonterminal itself at an end, and what grows at each end that isn't near, has what grows at that end
pub near_or_far : (g : Numbered) (w : List LexKind) (p q : Places) (k m c l n e first : ℕ) (near : List (Vec ℕ Global)) → AreNear g w p first near → l ≤ length w
    → IsListed w q k c m l → ((Has (row_at near m) l → ⊥) → IsListed w p l m n e → IsListed w q k c n e) → IsListed w p l m n e → IsListed w q k c n e
near_or_far g w p q k m c l n e first near all le itself far x = elim (has_or_not (row_at near m) l) [
  | inl h ↦
      let a = all.alone m l n e le h x in
      subst (λ (i : ℕ). IsListed w q k c i e) (sym a.0) (subst (λ (i : ℕ). IsListed w q k c m i) (sym a.1) itself)
  | inr h ↦ far h x
]

-- where the parts end is true
pub end_right : (g : Numbered) (w : List LexKind) (p : Places) (k m : ℕ) (parts : Alternative) (c l : ℕ) → IsPart g w p → RunsTo g w p parts k l → IsRule g w k m parts c → (n e : ℕ) → Grows g w n e m l → IsTrueOf g w c k n e
end_right g w p k m parts c l part run right n e more = right l n e (run_true g w p parts k l part run) more

slice_get_map : {A B : Type 0} (f : A → B) (xs : List A) (k : ℕ) (d : A) → k < length xs → slice_get (map f xs) k ≡ Some (f (get_or xs k d))
slice_get_map f [] k d lt = absurd (omega arith)
slice_get_map f (x ∷ xs) zero d lt = refl
slice_get_map f (x ∷ xs) (suc k) d lt = slice_get_map f xs k d (omega arith)

map_within : {A B : Type 0} (f : A → B) (xs : List A) (k : ℕ) (y : B) → slice_get (map f xs) k ≡ Some y → k < length xs
map_within f [] k y e = absurd (cc)
map_within f (x ∷ xs) zero y e = omega arith
map_within f (x ∷ xs) (suc k) y e = omega (arith, map_within f xs k y e)

-- an alternative in an arena
pub alternative_there : (g : Numbered) (list : List (Bor (List Symbol))) (m a : ℕ) (d : Bor (List Symbol)) → slice_get g m ≡ Some (alternatives_in list) → a < length list → alternative_of g m a ≡ Some (get_or list a d).now
alternative_there g list m a d there lt =
    ap (λ o. option_and_then (λ alternatives. slice_get alternatives a) o) there ∙ slice_get_map (λ (y : Bor (List Symbol)). y.now) list a d lt

pub alternative_inside : (g : Numbered) (list : List (Bor (List Symbol))) (m a : ℕ) (parts : Alternative) → slice_get g m ≡ Some (alternatives_in list) → alternative_of g m a ≡ Some parts → a < length list
alternative_inside g list m a parts there e =
    map_within (λ (y : Bor (List Symbol)). y.now) list a parts (sym (ap (λ o. option_and_then (λ alternatives. slice_get alternatives a) o) there) ∙ e)

-- the alternatives of a nonterminal
pub alternatives_there : (list : List (Bor (List (Bor (List Symbol))))) (m : ℕ) (d : Bor (List (Bor (List Symbol)))) → m < length list → slice_get (plain_numbered list) m ≡ Some (alternatives_in (get_or list m d).now)
alternatives_there list m d lt = slice_get_map plain_alternatives list m d lt

pub some_same : (x y : Alternative) → Some x ≡ Some y → x ≡ y
some_same x y e = cc

-- one place more is closed: the places behind it stay closed
pub closed_next : (g : Numbered) (w : List LexKind) (k done : ℕ) (p q : Places) → IsPart g w p → k + done ≡ length w → IsAdded g w k p q → IsClosedAt g w q k → ((i : ℕ) → i ≤ length w → length w < i + done → IsClosedAt g w p i) → (i : ℕ) → i ≤ length w → length w < i + (done + 1) → IsClosedAt g w q i
closed_next g w k done p q part total added here old i le lt = elim (eqb_tells i k) [
  | inl s ↦ subst (λ (j : ℕ). IsClosedAt g w q j) (sym s.1) here
  | inr d ↦
      closed_kept g w (k + 1) p q part added.part (λ j c up. added.others j c (λ s. absurd (omega (arith, s)))) i (omega (arith, d.1)) (old i le (omega (arith, d.1)))
]
