-- The steps of following parts.
use Rattle.std.proofs.Common.{◌≡◌, ◌≤◌, ◌∙◌, ap, drop, arith, ◌⊎◌, inl, inr, ℕ, ◌+◌, ◌<◌, List, [], ◌∷◌, ◌++◌, length, get_or, take, Contains, refl, sym, subst, add-one}
use Rattle.std.specs.Prelude.{◌↔◌}
use Rattle.std.proofs.Math.Seq.{take-suc}
use Rattle.std.proofs.lemmas.List.{drop_all}
use Rattle.source_lex.specs.declared.lexeme.LexKind.TheVariants.{Literal}
use Rattle.std.proofs.lemmas.List.Elements.{Contains-append_left, Contains-push, Contains-push_cases}
use Rattle.source_lex.specs.declared.lexeme.LexKind.{LexKind}
use Rattle.tree_pick.specs.declared.phrases.Choice.{Choice}
use Rattle.tree_pick.specs.Choices.{IsChoice}
use Rattle.source_lex.specs.declared.numbered.Symbol.{Symbol as Part}
use Rattle.source_lex.specs.declared.numbered.Symbol.TheVariants.{Word, Phrase}
use Rattle.gram_form.specs.Trees.{End, Lexeme, Under}
use Rattle.source_lex.specs.Numbered.{Alternative, Numbered}
use Rattle.chart_parse.specs.Growths.{HasPieces}
use Rattle.tree_pick.specs.Runs.{AreWithin, Leads, LeadsFrom}
use Rattle.std.proofs.lemmas.Option.{slice_get_within}
use Rattle.chart_parse.proofs.LeftCorners.{word_pieces, phrase_pieces, tree_within}
use Rattle.tree_pick.proofs.Looked.{word_has, phrase_has, next}

pub take_more : (xs : List ℕ) (k : ℕ) → k < length xs → take (k + 1) xs ≡ take k xs ++ get_or xs k 0 ∷ []
take_more xs k lt = rw (add-one k) (take-suc xs k 0 lt)

pub pushed : {A : Type 0} (xs : List A) (x e : A) → Contains (xs ++ x ∷ []) e ↔ (Contains xs e ⊎ (x ≡ e))
pushed {A = A} xs x e = (
  λ h. Contains-push_cases xs x e h,
  λ h. elim h [ inl a ↦ Contains-append_left xs (x ∷ []) e a | inr a ↦ subst (λ (n : A). Contains (xs ++ x ∷ []) n) a (Contains-push xs x) ],
)

-- a list of one place
pub alone : (xs : List ℕ) (x e : ℕ) → xs ≡ x ∷ [] → Contains xs e ↔ (x ≡ e)
alone xs x e one = (
  λ h. elim ((pushed [] x e).0 (subst (λ (l : List ℕ). Contains l e) one h)) [ inl none ↦ absurd (let k = none.1 in omega arith) | inr q ↦ q ],
  λ q. subst (λ (l : List ℕ). Contains l e) (sym one) ((pushed [] x e).1 (inr q)),
)

-- what is led to from within the lexemes is within them
pub led_within : (g : Numbered) (w : List LexKind) (part : Part) (places : List ℕ) (e : ℕ) → AreWithin w places → LeadsFrom g w part places e → e ≤ length w
led_within g w (Word c) places e within (k, there, (at, q)) = let lt = slice_get_within w k c at in omega arith
led_within g w (Phrase m) places e within (k, there, (t, is)) = tree_within g w m k e t (within k there) is

pub places_more : (old mid new taken : List ℕ) (x e : ℕ) → (Contains mid e ↔ (Contains old e ⊎ Contains taken e)) → (Contains new e ↔ (Contains mid e ⊎ (x ≡ e))) → Contains new e ↔ (Contains old e ⊎ Contains (taken ++ x ∷ []) e)
places_more old mid new taken x e a b = let p = pushed taken x e in (
  λ h. elim (b.0 h) [
    | inl m ↦ elim (a.0 m) [ inl o ↦ inl o | inr t ↦ inr (p.1 (inl t)) ]
    | inr q ↦ inr (p.1 (inr q))
  ],
  λ h. elim h [
    | inl o ↦ b.1 (inl (a.1 (inl o)))
    | inr t ↦ elim (p.0 t) [ inl m ↦ b.1 (inl (a.1 (inr m))) | inr q ↦ b.1 (inr q) ]
  ],
)

pub from_more : (g : Numbered) (w : List LexKind) (part : Part) (mid new taken : List ℕ) (x e : ℕ) → (Contains mid e ↔ LeadsFrom g w part taken e) → (Contains new e ↔ (Contains mid e ⊎ Leads g w part x e)) → Contains new e ↔ LeadsFrom g w part (taken ++ x ∷ []) e
from_more g w part mid new taken x e a b = (
  λ h. elim (b.0 h) [
    | inl m ↦ let q = a.0 m in (q.0, (pushed taken x q.0).1 (inl q.1), q.2)
    | inr q ↦ (x, (pushed taken x x).1 (inr refl), q)
  ],
  λ h. elim ((pushed taken x h.0).0 h.1) [
    | inl t ↦ b.1 (inl (a.1 (h.0, t, h.2)))
    | inr q ↦ b.1 (inr (subst (λ (k : ℕ). Leads g w part k e) (sym q) h.2))
  ],
)

-- the first part and the rest
pub first_part : (g : Numbered) (w : List LexKind) (part : Part) (rest : Alternative) (k e : ℕ) → HasPieces g w (part ∷ rest) k e ↔ ((v : ℕ) × Leads g w part k v × HasPieces g w rest v e)
first_part g w (Word c) rest k e = (
  λ h. let x = word_has g w c rest k e h in (k + 1, (x.0, refl), x.1),
  λ h. word_pieces g w c rest k e h.1.0 (subst (λ (v : ℕ). HasPieces g w rest v e) (sym h.1.1) h.2),
)
first_part g w (Phrase m) rest k e = (
  λ h. let x = phrase_has g w m rest k e h in (x.0, x.1.0, x.1.1),
  λ h. phrase_pieces g w m rest k h.0 e h.1 h.2,
)

pub no_part : (g : Numbered) (w : List LexKind) (k e : ℕ) → HasPieces g w [] k e ↔ (k ≡ e)
no_part g w k e = (λ h. left k e h, λ h. (End, (refl, h)))
  where
    left : (k e : ℕ) → HasPieces g w [] k e → k ≡ e
    left k e (End, x) = x.1
    left k e (Lexeme p ps, x) = absurd (let q = x.3 in cc)
    left k e (Under t ps, x) = absurd (let q = x.3 in cc)

pub run_more : (g : Numbered) (w : List LexKind) (parts qs rest : Alternative) (part : Part) (start e : ℕ) (mid new : List ℕ) → qs ≡ part ∷ rest → (HasPieces g w parts start e ↔ ((k : ℕ) × Contains mid k × HasPieces g w qs k e)) → ((v : ℕ) → Contains new v ↔ LeadsFrom g w part mid v)
    → HasPieces g w parts start e ↔ ((k : ℕ) × Contains new k × HasPieces g w rest k e)
run_more g w parts qs rest part start e mid new f a b = (
  λ h. let x = a.0 h in let y = (first_part g w part rest x.0 e).0 (subst (λ (r : Alternative). HasPieces g w r x.0 e) f x.2) in (y.0, (b y.0).1 (x.0, x.1, y.1), y.2),
  λ h. let x = (b h.0).0 h.1 in a.1 (x.0, x.1, subst (λ (r : Alternative). HasPieces g w r x.0 e) (sym f) ((first_part g w part rest x.0 e).1 (h.0, x.2, h.2))),
)

-- a choice among what fits, exactly
pub choice_of : {T : Type 0} (P Q : T → Type 0) (c : Choice T) → ((x : T) → P x ↔ Q x) → IsChoice P c → IsChoice Q c
choice_of P Q c same h = ((same c.first).0 h.0, λ e x q. h.1 e x ((same x).1 q), λ e. let y = h.2 e in (y.0, (same y.0).0 y.1, y.2))

-- the places to which all parts lead are where they end
pub whole_run : (g : Numbered) (w : List LexKind) (parts : Alternative) (start e : ℕ) (places : List ℕ)
    → (HasPieces g w parts start e ↔ ((k : ℕ) × Contains places k × HasPieces g w (drop (length parts) parts) k e))
    → Contains places e ↔ HasPieces g w parts start e
whole_run g w parts start e places h =
    let f : drop (length parts) parts ≡ [] = drop_all (length parts) parts (omega arith) in
    let all = subst (λ (r : Alternative). HasPieces g w parts start e ↔ ((k : ℕ) × Contains places k × HasPieces g w r k e)) f h in (
      λ x. all.1 (e, x, (no_part g w e e).1 refl),
      λ x. let y = all.0 x in subst (λ (k : ℕ). Contains places k) ((no_part g w y.0 e).0 y.2) y.1,
    )

-- of the places to which all parts but the last lead, one leads by the last to the end
pub last_run : (g : Numbered) (w : List LexKind) (parts : Alternative) (part : Part) (last start e : ℕ) (places : List ℕ)
    → last + 1 ≡ length parts → get_or parts last (Word (Literal 0)) ≡ part
    → (HasPieces g w parts start e ↔ ((k : ℕ) × Contains places k × HasPieces g w (drop last parts) k e))
    → LeadsFrom g w part places e ↔ HasPieces g w parts start e
last_run g w parts part last start e places count is h =
    let f : drop (last + 1) parts ≡ [] = drop_all (last + 1) parts (omega (arith, count)) in
    let q : drop last parts ≡ part ∷ [] = next parts last (Word (Literal 0)) part (omega (arith, count)) is ∙ ap (λ (r : Alternative). part ∷ r) f in
    let all = subst (λ (r : Alternative). HasPieces g w parts start e ↔ ((k : ℕ) × Contains places k × HasPieces g w r k e)) q h in (
      λ x. all.1 (x.0, x.1, (first_part g w part [] x.0 e).1 (e, x.2, (no_part g w e e).1 refl)),
      λ x. let y = all.0 x in
          let z = (first_part g w part [] y.0 e).0 y.2 in
          (y.0, y.1, subst (λ (v : ℕ). Leads g w part y.0 v) ((no_part g w z.0 e).0 z.2) z.1),
    )
