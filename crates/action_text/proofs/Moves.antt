-- The machine with a stack of symbols: what each move keeps, and what it knows where it stops.
use Rattle.std.proofs.Common.{◌≡◌, ◌≢◌, inl, inr, ℕ, zero, suc, ◌<◌, Bool, true, false, List, [], ◌∷◌, ◌++◌, Some, None, refl, sym, ap, ◌∙◌, append_assoc, append-nil}
use Rattle.action_text.specs.declared.table.Mark.{Mark}
use Rattle.action_text.specs.Tables.{Symbol, Read, Keep, Emit, Name, Written, Token, Line, Table, line_of, other_of, with_token, Writes, Reads, Noted}
use Rattle.action_text.proofs.Starts.{Known, Starting, Choosing, Safe, safe_append, by_line, by_other}

pub token_append : (b : Bool) (x : List ℕ) (o p : List Written) → with_token b x o ++ p ≡ with_token b x (o ++ p)
token_append true x o p = refl
token_append false x o p = refl

-- the list that a token adds
abbrev pub token_list : Bool → List ℕ → List Written
token_list b x = with_token b x []

pub token_split : (b : Bool) (x : List ℕ) (p : List Written) → with_token b x p ≡ token_list b x ++ p
token_split true x p = refl
token_split false x p = refl

-- what one stack reads, and what another reads behind it
pub reads_both : (g : Table) (k l : ℕ) (s r : List Symbol) (ts us : List (List ℕ)) (o p : List Written) → Writes g k s ts o → Writes g l r us p → Reads g (s ++ r) (ts ++ us) (o ++ p)
reads_both g zero l s r ts us o p h h2 = (l, rw h.0 (rw h.1 (rw h.2 h2)))
reads_both g (suc k) l [] r ts us o p h h2 = absurd h
reads_both g (suc k) l (Read c ∷ s) r [] us o p h h2 = absurd h
reads_both g (suc k) l (Read c ∷ s) r (t ∷ ts) us o p h h2 = let x = reads_both g k l s r ts us o p h.1 h2 in (suc x.0, (h.0, x.1))
reads_both g (suc k) l (Keep c ∷ s) r [] us o p h h2 = absurd h
reads_both g (suc k) l (Keep c ∷ s) r (t ∷ ts) us o p h h2 = let x = reads_both g k l s r ts us h.1 p h.3 h2 in (suc x.0, (h.0, h.1 ++ p, ap (λ y. y ++ p) h.2, x.1))
reads_both g (suc k) l (Emit e ∷ s) r ts us o p h h2 = let x = reads_both g k l s r ts us h.0 p h.2 h2 in (suc x.0, (h.0 ++ p, ap (λ y. y ++ p) h.1, x.1))
reads_both g (suc k) l (Name n ∷ s) r [] [] o p h h2 = let x = reads_both g k l (h.0 ++ s) r [] [] o p h.2 h2 in (suc x.0, (h.0, h.1, rw (sym (append_assoc h.0 s r)) x.1))
reads_both g (suc k) l (Name n ∷ s) r [] (u ∷ us) o p h h2 = let x = reads_both g k l (h.0 ++ s) r [] (u ∷ us) o p h.2 h2 in (suc x.0, inr (h.0, h.1, rw (sym (append_assoc h.0 s r)) x.1))
reads_both g (suc k) l (Name n ∷ s) r (t ∷ ts) us o p (inl h) h2 = let x = reads_both g k l (h.0.right ++ s) r ts us h.1 p h.4 h2 in
    (suc x.0, inl (h.0, h.1 ++ p, h.2, ap (λ y. y ++ p) h.3 ∙ token_append h.0.keeps t h.1 p, rw (sym (append_assoc h.0.right s r)) x.1))
reads_both g (suc k) l (Name n ∷ s) r (t ∷ ts) us o p (inr h) h2 = let x = reads_both g k l (h.0 ++ s) r (t ∷ ts) us o p h.2 h2 in (suc x.0, inr (h.0, h.1, rw (sym (append_assoc h.0 s r)) x.1))

-- the tokens begin as the rest does: with its first token, or there are none
abbrev pub Front : List (List ℕ) → List (List ℕ) → Type 0
Front [] more = more ≡ []
Front (t ∷ ts) more = (ms : List (List ℕ)) × (more ≡ t ∷ ms)

-- the start reads the tokens before and any that begin as the rest, exactly where the stack reads those
pub record Stands (g : Table) (w : Known) (n : ℕ) (before rest : List (List ℕ)) (s : List Symbol) (out : List Written) : Type 0 where
  pub onward : (more : List (List ℕ)) (o : List Written) → Front rest more → Reads g (Name n ∷ []) (before ++ more) o → (p : List Written) × (o ≡ out ++ p) × Reads g s more p
  pub back : (more : List (List ℕ)) (p : List Written) → Reads g s more p → Reads g (Name n ∷ []) (before ++ more) (out ++ p)
  pub safe : Safe w s

pub emit_step : (g : Table) (w : Known) (n : ℕ) (before rest : List (List ℕ)) (e : Mark) (s : List Symbol) (out : List Written) → Stands g w n before rest (Emit e ∷ s) out → Stands g w n before rest s (out ++ Noted e ∷ [])
emit_step g w n before rest e s out h = record {
  onward = λ more o f r. let x = h.onward more o f r in emitted more o x;
  back = λ more p r. rw (append_assoc out (Noted e ∷ []) p) (h.back more (Noted e ∷ p) (suc r.0, (p, refl, r.1)));
  safe = h.safe;
}
  where
    emitted : (more : List (List ℕ)) (o : List Written) → (p : List Written) × (o ≡ out ++ p) × Reads g (Emit e ∷ s) more p → (p : List Written) × (o ≡ (out ++ Noted e ∷ []) ++ p) × Reads g s more p
    emitted more o (p, q, (zero, z)) = absurd (let x : Emit e ∷ s ≡ [] = z.0 in cc)
    emitted more o (p, q, (suc k, z)) = (z.0, q ∙ (ap (λ y. out ++ y) z.1 ∙ sym (append_assoc out (Noted e ∷ []) z.0)), (k, z.2))

-- a token of the class that stands on the stack
pub read_step : (g : Table) (w : Known) (n : ℕ) (before rest : List (List ℕ)) (t : List ℕ) (c : ℕ) (s : List Symbol) (out : List Written) → (g.class t) ≡ c → Stands g w n before (t ∷ rest) (Read c ∷ s) out → Stands g w n (before ++ t ∷ []) rest s out
read_step g w n before rest t c s out e h = record {
  onward = λ more o f r. let x = h.onward (t ∷ more) o (more, refl) (rw (append_assoc before (t ∷ []) more) at r) in was_read more o x;
  back = λ more p r. rw (append_assoc before (t ∷ []) more) (h.back (t ∷ more) p (suc r.0, (e, r.1)));
  safe = h.safe.1;
}
  where
    was_read : (more : List (List ℕ)) (o : List Written) → (p : List Written) × (o ≡ out ++ p) × Reads g (Read c ∷ s) (t ∷ more) p → (p : List Written) × (o ≡ out ++ p) × Reads g s more p
    was_read more o (p, q, (zero, z)) = absurd (let x : Read c ∷ s ≡ [] = z.0 in cc)
    was_read more o (p, q, (suc k, z)) = (p, q, (k, z.1))

pub keep_step : (g : Table) (w : Known) (n : ℕ) (before rest : List (List ℕ)) (t : List ℕ) (c : ℕ) (s : List Symbol) (out : List Written) → (g.class t) ≡ c → Stands g w n before (t ∷ rest) (Keep c ∷ s) out → Stands g w n (before ++ t ∷ []) rest s (out ++ Token t ∷ [])
keep_step g w n before rest t c s out e h = record {
  onward = λ more o f r. let x = h.onward (t ∷ more) o (more, refl) (rw (append_assoc before (t ∷ []) more) at r) in was_read more o x;
  back = λ more p r. rw (append_assoc before (t ∷ []) more) (rw (append_assoc out (Token t ∷ []) p) (h.back (t ∷ more) (Token t ∷ p) (suc r.0, (e, p, refl, r.1))));
  safe = h.safe.1;
}
  where
    was_read : (more : List (List ℕ)) (o : List Written) → (p : List Written) × (o ≡ out ++ p) × Reads g (Keep c ∷ s) (t ∷ more) p → (p : List Written) × (o ≡ (out ++ Token t ∷ []) ++ p) × Reads g s more p
    was_read more o (p, q, (zero, z)) = absurd (let x : Keep c ∷ s ≡ [] = z.0 in cc)
    was_read more o (p, q, (suc k, z)) = (z.1, q ∙ (ap (λ y. out ++ y) z.2 ∙ sym (append_assoc out (Token t ∷ []) z.1)), (k, z.3))

-- the line of the token
pub line_step : (g : Table) (w : Known) (n : ℕ) → Starting g w → Choosing g w → (before rest : List (List ℕ)) (t : List ℕ) (m : ℕ) (s : List Symbol) (out : List Written) (l : Line) → line_of g.lines m (g.class t) ≡ Some l
    → Stands g w n before (t ∷ rest) (Name m ∷ s) out → Stands g w n (before ++ t ∷ []) rest (l.right ++ s) (out ++ token_list l.keeps t)
line_step g w n st ch before rest t m s out l e h = record {
  onward = λ more o f r. let x = h.onward (t ∷ more) o (more, refl) (rw (append_assoc before (t ∷ []) more) at r) in was_read more o x;
  back = λ more p r. rw (append_assoc before (t ∷ []) more) (rw (append_assoc out (token_list l.keeps t) p) (rw (sym (token_split l.keeps t p)) (h.back (t ∷ more) (with_token l.keeps t p) (suc r.0, inl (l, p, e, refl, r.1)))));
  safe = safe_append w m l.right s (ch.line m (g.class t) l e) h.safe.1 h.safe.2;
}
  where
    was_read : (more : List (List ℕ)) (o : List Written) → (p : List Written) × (o ≡ out ++ p) × Reads g (Name m ∷ s) (t ∷ more) p → (p : List Written) × (o ≡ (out ++ token_list l.keeps t) ++ p) × Reads g (l.right ++ s) more p
    was_read more o (p, q, (zero, z)) = absurd (let x : Name m ∷ s ≡ [] = z.0 in cc)
    was_read more o (p, q, (suc k, z)) =
        let y = by_line g w st ch k m s t more p l h.safe e z in
        (y.0, q ∙ (ap (λ y. out ++ y) (y.1 ∙ token_split l.keeps t y.0) ∙ sym (append_assoc out (token_list l.keeps t) y.0)), (k, y.2))

-- no line for what comes
abbrev pub HasNoLine : Table → ℕ → List (List ℕ) → Type 0
HasNoLine g m [] = Unit {0}
HasNoLine g m (t ∷ ts) = line_of g.lines m (g.class t) ≡ None

other_inverse : (g : Table) (k m : ℕ) (s : List Symbol) (rest more : List (List ℕ)) (p : List Written) → HasNoLine g m rest → Front rest more → Writes g (suc k) (Name m ∷ s) more p
    → (r : List Symbol) × (other_of g.others m ≡ Some r) × Writes g k (r ++ s) more p
other_inverse g k m s [] [] p e f z = z
other_inverse g k m s [] (u ∷ us) p e f z = absurd (cc)
other_inverse g k m s (t ∷ ts) [] p e f z = absurd (let x : [] ≡ t ∷ f.0 = f.1 in cc)
other_inverse g k m s (t ∷ ts) (u ∷ us) p e f z =
    let x : u ∷ us ≡ t ∷ f.0 = f.1 in
    let y : u ≡ t = cc in
    by_other g k m s u us p (ap (λ (v : List ℕ). line_of g.lines m (g.class v)) y ∙ e) z

other_forward : (g : Table) (k m : ℕ) (s r : List Symbol) (more : List (List ℕ)) (p : List Written) → other_of g.others m ≡ Some r → Writes g k (r ++ s) more p → Writes g (suc k) (Name m ∷ s) more p
other_forward g k m s r [] p e h = (r, e, h)
other_forward g k m s r (t ∷ ts) p e h = inr (r, e, h)

pub other_step : (g : Table) (w : Known) (n : ℕ) → Choosing g w → (before rest : List (List ℕ)) (m : ℕ) (s r : List Symbol) (out : List Written) → HasNoLine g m rest → other_of g.others m ≡ Some r
    → Stands g w n before rest (Name m ∷ s) out → Stands g w n before rest (r ++ s) out
other_step g w n ch before rest m s r out none e h = record {
  onward = λ more o f x. let y = h.onward more o f x in expanded more o f y;
  back = λ more p x. h.back more p (suc x.0, other_forward g x.0 m s r more p e x.1);
  safe = safe_append w m r s (ch.other m r e) h.safe.1 h.safe.2;
}
  where
    expanded : (more : List (List ℕ)) (o : List Written) → Front rest more → (p : List Written) × (o ≡ out ++ p) × Reads g (Name m ∷ s) more p → (p : List Written) × (o ≡ out ++ p) × Reads g (r ++ s) more p
    expanded more o f (p, q, (zero, z)) = absurd (let x : Name m ∷ s ≡ [] = z.0 in cc)
    expanded more o f (p, q, (suc k, z)) =
        let y = other_inverse g k m s rest more p none f z in
        let same : Some y.0 ≡ Some r = sym y.1 ∙ e in
        let same : y.0 ≡ r = cc in
        (p, q, (k, rw same at y.2))

-- where the machine begins
pub begin : (g : Table) (w : Known) (n : ℕ) → n < w.count → (all : List (List ℕ)) → Stands g w n [] all (Name n ∷ []) []
begin g w n m all = record { onward = λ more o f r. (o, refl, r); back = λ more p r. r; safe = (m, (λ c h. refl), tt) }

-- the end of the tokens with nothing on the stack: what was written is what is read, and nothing else is
pub ended : (g : Table) (w : Known) (n : ℕ) (all : List (List ℕ)) (out : List Written) → Stands g w n all [] [] out → Reads g (Name n ∷ []) all out × ((o : List Written) → Reads g (Name n ∷ []) all o → o ≡ out)
ended g w n all out h = (
  rw (append-nil all) at (rw (append-nil out) at (h.back [] [] (0, (refl, refl, refl)))),
  λ o r. let x = h.onward [] o refl (rw (sym (append-nil all)) at r) in x.1 ∙ (ap (λ y. out ++ y) (nothing x.0 x.2) ∙ append-nil out),
)
  where
    nothing : (p : List Written) → Reads g [] [] p → p ≡ []
    nothing p (zero, z) = z.2
    nothing p (suc k, z) = absurd z

-- what a stack can't read on is read nowhere
abbrev pub IsStuck : Table → List Symbol → List (List ℕ) → Type 0
IsStuck g s rest = (more : List (List ℕ)) (p : List Written) → Front rest more → Reads g s more p → ⊥

pub stuck : (g : Table) (w : Known) (n : ℕ) (before rest : List (List ℕ)) (s : List Symbol) (out : List Written) → Stands g w n before rest s out → IsStuck g s rest
    → (more : List (List ℕ)) (o : List Written) → Front rest more → Reads g (Name n ∷ []) (before ++ more) o → ⊥
stuck g w n before rest s out h none more o f r = let x = h.onward more o f r in none more x.0 f x.2

pub stuck_empty : (g : Table) (t : List ℕ) (ts : List (List ℕ)) → IsStuck g [] (t ∷ ts)
stuck_empty g t ts more p f (zero, z) = absurd (let x : t ∷ f.0 ≡ [] = sym f.1 ∙ z.1 in cc)
stuck_empty g t ts more p f (suc k, z) = z

pub stuck_read_end : (g : Table) (c : ℕ) (s : List Symbol) → IsStuck g (Read c ∷ s) []
stuck_read_end g c s [] p f (zero, z) = absurd (let x : Read c ∷ s ≡ [] = z.0 in cc)
stuck_read_end g c s [] p f (suc k, z) = z
stuck_read_end g c s (t ∷ ts) p f (k, z) = absurd (cc)

pub stuck_keep_end : (g : Table) (c : ℕ) (s : List Symbol) → IsStuck g (Keep c ∷ s) []
stuck_keep_end g c s [] p f (zero, z) = absurd (let x : Keep c ∷ s ≡ [] = z.0 in cc)
stuck_keep_end g c s [] p f (suc k, z) = z
stuck_keep_end g c s (t ∷ ts) p f (k, z) = absurd (cc)

pub stuck_read : (g : Table) (c : ℕ) (s : List Symbol) (t : List ℕ) (ts : List (List ℕ)) → (g.class t) ≢ c → IsStuck g (Read c ∷ s) (t ∷ ts)
stuck_read g c s t ts n [] p f z = absurd (let x : [] ≡ t ∷ f.0 = f.1 in cc)
stuck_read g c s t ts n (u ∷ us) p f (zero, z) = absurd (let x : Read c ∷ s ≡ [] = z.0 in cc)
stuck_read g c s t ts n (u ∷ us) p f (suc k, z) = let x : u ∷ us ≡ t ∷ f.0 = f.1 in let y : u ≡ t = cc in n (ap (λ (v : List ℕ). (g.class v)) (sym y) ∙ z.0)

pub stuck_keep : (g : Table) (c : ℕ) (s : List Symbol) (t : List ℕ) (ts : List (List ℕ)) → (g.class t) ≢ c → IsStuck g (Keep c ∷ s) (t ∷ ts)
stuck_keep g c s t ts n [] p f z = absurd (let x : [] ≡ t ∷ f.0 = f.1 in cc)
stuck_keep g c s t ts n (u ∷ us) p f (zero, z) = absurd (let x : Keep c ∷ s ≡ [] = z.0 in cc)
stuck_keep g c s t ts n (u ∷ us) p f (suc k, z) = let x : u ∷ us ≡ t ∷ f.0 = f.1 in let y : u ≡ t = cc in n (ap (λ (v : List ℕ). (g.class v)) (sym y) ∙ z.0)

pub stuck_name : (g : Table) (m : ℕ) (s : List Symbol) (rest : List (List ℕ)) → HasNoLine g m rest → other_of g.others m ≡ None → IsStuck g (Name m ∷ s) rest
stuck_name g m s rest none e more p f (zero, z) = absurd (let x : Name m ∷ s ≡ [] = z.0 in cc)
stuck_name g m s rest none e more p f (suc k, z) =
    let y = other_inverse g k m s rest more p none f z in
    absurd (let x : None ≡ Some y.0 = sym e ∙ y.1 in cc)
