-- Tokens are read in one way.
use Rattle.std.proofs.Common.{◌≡◌, inl, inr, ℕ, zero, suc, List, [], ◌∷◌, ◌++◌, Some, sym, ap, subst, ◌∙◌}
use Rattle.action_text.specs.Tables.{Symbol, Read, Keep, Emit, Name, Written, Token, Noted, Table, other_of, with_token, Writes}
use Rattle.action_text.proofs.Starts.{Known, Starting, Choosing, Safe, safe_append, by_line}

same_other : (r s : List Symbol) (a : Rattle.std.specs.Prelude.Option (List Symbol)) → a ≡ Some r → a ≡ Some s → r ≡ s
same_other r s a e f = let x : Some r ≡ Some s = sym e ∙ f in cc

-- a safe stack reads the tokens in one way
pub one_writing : (g : Table) (w : Known) → Starting g w → Choosing g w → (k l : ℕ) (s : List Symbol) (ts : List (List ℕ)) (o p : List Written) → Safe w s → Writes g k s ts o → Writes g l s ts p → o ≡ p
one_writing g w st ch zero zero s ts o p safe h e = h.2 ∙ sym e.2
one_writing g w st ch zero (suc l) [] ts o p safe h e = absurd e
one_writing g w st ch zero (suc l) (x ∷ s) ts o p safe h e = absurd (let y : x ∷ s ≡ [] = h.0 in cc)
one_writing g w st ch (suc k) zero [] ts o p safe h e = absurd h
one_writing g w st ch (suc k) zero (x ∷ s) ts o p safe h e = absurd (let y : x ∷ s ≡ [] = e.0 in cc)
one_writing g w st ch (suc k) (suc l) [] ts o p safe h e = absurd h
one_writing g w st ch (suc k) (suc l) (Read c ∷ s) [] o p safe h e = absurd h
one_writing g w st ch (suc k) (suc l) (Read c ∷ s) (t ∷ ts) o p safe h e = one_writing g w st ch k l s ts o p safe.1 h.1 e.1
one_writing g w st ch (suc k) (suc l) (Keep c ∷ s) [] o p safe h e = absurd h
one_writing g w st ch (suc k) (suc l) (Keep c ∷ s) (t ∷ ts) o p safe h e = h.2 ∙ ap (λ y. Token t ∷ y) (one_writing g w st ch k l s ts h.1 e.1 safe.1 h.3 e.3) ∙ sym e.2
one_writing g w st ch (suc k) (suc l) (Emit m ∷ s) ts o p safe h e = h.1 ∙ ap (λ y. Noted m ∷ y) (one_writing g w st ch k l s ts h.0 e.0 safe h.2 e.2) ∙ sym e.1
one_writing g w st ch (suc k) (suc l) (Name n ∷ s) [] o p safe h e =
    let same : e.0 ≡ h.0 = same_other e.0 h.0 (other_of g.others n) e.1 h.1 in
    one_writing g w st ch k l (h.0 ++ s) [] o p (safe_append w n h.0 s (ch.other n h.0 h.1) safe.1 safe.2) h.2 (subst (λ r. Writes g l (r ++ s) [] p) same e.2)
one_writing g w st ch (suc k) (suc l) (Name n ∷ s) (t ∷ ts) o p safe (inl h) e =
    let y = by_line g w st ch l n s t ts p h.0 safe h.2 e in
    h.3 ∙ ap (with_token h.0.keeps t) (one_writing g w st ch k l (h.0.right ++ s) ts h.1 y.0 (safe_append w n h.0.right s (ch.line n (g.class t) h.0 h.2) safe.1 safe.2) h.4 y.2) ∙ sym y.1
one_writing g w st ch (suc k) (suc l) (Name n ∷ s) (t ∷ ts) o p safe (inr h) (inl e) =
    let y = by_line g w st ch k n s t ts o e.0 safe e.2 (inr h) in
    y.1 ∙ ap (with_token e.0.keeps t) (one_writing g w st ch k l (e.0.right ++ s) ts y.0 e.1 (safe_append w n e.0.right s (ch.line n (g.class t) e.0 e.2) safe.1 safe.2) y.2 e.4) ∙ sym e.3
one_writing g w st ch (suc k) (suc l) (Name n ∷ s) (t ∷ ts) o p safe (inr h) (inr e) =
    let same : e.0 ≡ h.0 = same_other e.0 h.0 (other_of g.others n) e.1 h.1 in
    one_writing g w st ch k l (h.0 ++ s) (t ∷ ts) o p (safe_append w n h.0 s (ch.other n h.0 h.1) safe.1 safe.2) h.2 (subst (λ r. Writes g l (r ++ s) (t ∷ ts) p) same e.2)
