-- What ends leave as bindings, through every combinator, with no word moved: slots of tables alone.
use Rattle.std.proofs.Common.{◌≡◌, ◌⊎◌, ℕ, List, [], ◌∷◌, ◌++◌, Option, Some, None, refl, sym, ap, ◌∙◌, subst, inl, inr, ⊎_elim, true, false}
use Rattle.action_terms.specs.Information.{Token, Datum, Binds, NoBinds, Bound, Data}
use Rattle.action_terms.specs.Actions.{Join, And, Moreover, Chain, AndThen, Then, Hence, Before}
use Rattle.action_terms.specs.Acting.{Done}
use Rattle.action_terms.specs.Bindings.{token_lt, bind, overlaid, lookup, meets}
use Rattle.action_terms.specs.Steps.{united, joined, chained, handed_binds}
use Rattle.action_terms.specs.Performances.{OneOf}
use Rattle.rv_asm.specs.DataWords.{Heap}
use Rattle.rv_codegen.proofs.Holding.{Slot, HoldsBinds}
use Rattle.rv_codegen.proofs.Tokens.{bind_less, bind_more, bind_same, Order, Less, More, Same, order, found_before, found_behind, found_here, found_other, lt_irrefl, lt_trans, Ascending}
use Rattle.rv_codegen.proofs.Overlaid.{overlaid-second, overlaid-first, holds-overlaid, AreOver}

-- ---- tokens ascend in what is bound and overlaid

is-bound : (v t : Token) (x z : Datum) (b : Binds) → lookup v (bind t x b) ≡ Some z → (v ≡ t) ⊎ (lookup v b ≡ Some z)
is-bound v t x z b e = by (order v t)
  where
    by : Order v t → (v ≡ t) ⊎ (lookup v b ≡ Some z)
    by (Same q) = inl q
    by (Less f) = inr (sym (found_other v t x b (λ q. let r : true ≡ false = sym f ∙ ap (λ w. token_lt v w) (sym q) ∙ lt_irrefl v in cc)) ∙ e)
    by (More f) = inr (sym (found_other v t x b (λ q. let r : true ≡ false = sym f ∙ ap (λ w. token_lt w v) (sym q) ∙ lt_irrefl v in cc)) ∙ e)

pub ascending-bind : (t : Token) (x : Datum) (b : Binds) → Ascending b → Ascending (bind t x b)
ascending-bind t x NoBinds asc = (λ v z e. absurd (let r : None ≡ Some z = e in cc), tt)
ascending-bind t x (Bound u y rest) asc = by (ascending-bind t x rest asc.1) (order t u)
  where
    first : token_lt t u ≡ true → (v : Token) (z : Datum) → lookup v (Bound u y rest) ≡ Some z → token_lt t v ≡ true
    first f v z e = at (order v u)
      where
        at : Order v u → token_lt t v ≡ true
        at (Less g) = absurd (let r : None ≡ Some z = sym (found_before v u y rest g) ∙ e in cc)
        at (More g) = lt_trans t u v f g
        at (Same g) = subst (λ w. token_lt t w ≡ true) (sym g) f

    by : Ascending (bind t x rest) → Order t u → Ascending (bind t x (Bound u y rest))
    by ih (Less f) = subst Ascending (sym (bind_less t u x y rest f)) (first f, asc)
    by ih (More f) = subst Ascending (sym (bind_more t u x y rest f)) (λ v z e. ⊎_elim (λ q. subst (λ w. token_lt u w ≡ true) (sym q) f) (λ q. asc.0 v z q) (is-bound v t x z rest e), ih)
    by ih (Same f) = subst (λ w. Ascending (bind w x (Bound u y rest))) (sym f) (subst Ascending (sym (bind_same u x y rest)) asc)

pub ascending-overlaid : (b1 b2 : Binds) → Ascending b1 → Ascending b2 → Ascending (overlaid b1 b2)
ascending-overlaid NoBinds b2 a1 a2 = a2
ascending-overlaid (Bound v z more) NoBinds a1 a2 = a1
ascending-overlaid (Bound v z more) (Bound t x rest) a1 a2 = ascending-bind t x (overlaid (Bound v z more) rest) (ascending-overlaid (Bound v z more) rest a1 a2.1)

-- what is found in overlaid bindings
pub found-either : (t : Token) (b1 b2 : Binds) (x : Datum) → Ascending b2 → lookup t (overlaid b1 b2) ≡ Some x → (lookup t b2 ≡ Some x) ⊎ (lookup t b1 ≡ Some x)
found-either t b1 b2 x asc e = by (lookup t b2) refl
  where
    by : (o : Option Datum) → lookup t b2 ≡ o → (lookup t b2 ≡ Some x) ⊎ (lookup t b1 ≡ Some x)
    by None q = inr (sym (overlaid-first t b1 b2 asc q) ∙ e)
    by (Some y) q = inl (q ∙ sym (overlaid-second t b1 b2 y asc q) ∙ e)

-- ---- what an end may bind

-- tokens ascend, and each token that is bound is one that the table has
pub record Binds_in (Bind : Token → Type 0) (b : Binds) : Type 0 where
  pub ascends : Ascending b
  pub among : (t : Token) (x : Datum) → lookup t b ≡ Some x → Bind t

pub absent : (Bind : Token → Type 0) (b : Binds) (t : Token) → Binds_in Bind b → (Bind t → ⊥) → lookup t b ≡ None
absent Bind b t h lacks = by (lookup t b) refl
  where
    by : (o : Option Datum) → lookup t b ≡ o → lookup t b ≡ None
    by None q = q
    by (Some x) q = absurd (lacks (h.among t x q))

-- bindings whose tables have no token in common don't meet
pub meets-none : (Bind2 : Token → Type 0) (b1 b2 : Binds) → Binds_in Bind2 b2 → ((t : Token) (x : Datum) → lookup t b1 ≡ Some x → Bind2 t → ⊥) → Ascending b1 → meets b1 b2 ≡ false
meets-none Bind2 NoBinds b2 h apart asc = refl
meets-none Bind2 (Bound t x rest) b2 h apart asc =
    let none = absent Bind2 b2 t h (apart t x (found_here t x rest)) in
    let later = meets-none Bind2 rest b2 h (λ v z e. apart v z (found_behind v t x rest (asc.0 v z e) ∙ e)) asc.1 in
    rw none later

pub in-overlaid : (L R N : Token → Type 0) (b1 b2 : Binds) → ((t : Token) → L t → N t) → ((t : Token) → R t → N t) → Binds_in L b1 → Binds_in R b2 → Binds_in N (overlaid b1 b2)
in-overlaid L R N b1 b2 l r h1 h2 = record {
  ascends = ascending-overlaid b1 b2 h1.ascends h2.ascends;
  among = λ t x e. ⊎_elim (λ q. r t (h2.among t x q)) (λ q. l t (h1.among t x q)) (found-either t b1 b2 x h2.ascends e);
}

-- ---- tables

-- each slot of the whole is one of the second's, or one of the first's for a token that the second has not
abbrev pub OverSlots : (s1 s2 : List Slot) → (Token → Type 0) → List Slot → Type 0
OverSlots s1 s2 Second [] = Unit {0}
OverSlots s1 s2 Second (s ∷ ss) = (OneOf s s2 ⊎ (OneOf s s1 × (Second s.token → ⊥))) × OverSlots s1 s2 Second ss

module _ (bound bound_out : ℕ → List Slot) (Binds_at : ℕ → Token → Type 0) where
  -- the bindings of the whole are the first's overlaid by the second's
  pub record Overlays (n l r : ℕ) : Type 0 where
    pub slots : OverSlots (bound_out l) (bound_out r) (Binds_at r) (bound_out n)
    pub left : (t : Token) → Binds_at l t → Binds_at n t
    pub right : (t : Token) → Binds_at r t → Binds_at n t

  -- and no token is in both
  pub record Unites (n l r : ℕ) : Type 0 where
    pub overlays : Overlays n l r
    pub apart : (t : Token) → Binds_at l t → Binds_at r t → ⊥

  -- by the combinator
  abbrev pub ChainBinds : Chain → (n l r : ℕ) → Type 0
  ChainBinds AndThen n l r = (bound r ≡ bound n) × Unites n l r
  ChainBinds Then n l r = (bound r ≡ bound n) × Unites n l r
  ChainBinds Hence n l r = (bound r ≡ bound_out l) × (bound_out n ≡ bound_out r) × ((t : Token) → Binds_at r t → Binds_at n t)
  ChainBinds Before n l r = OverSlots (bound n) (bound_out l) (Binds_at l) (bound r) × Overlays n l r

  -- `and`, `moreover`
  abbrev pub JoinBinds : Join → (n l r : ℕ) → Type 0
  JoinBinds And n l r = Unites n l r
  JoinBinds Moreover n l r = Overlays n l r

module _ (base : ℕ) (heap : Heap) (words : List ℕ) (f : ℕ) (bound bound_out : ℕ → List Slot) (Binds_at : ℕ → Token → Type 0) where
  -- what a node that has completed leaves
  pub record LeavesBinds (k : ℕ) (b : Binds) : Type 0 where
    pub held : HoldsBinds base heap words f (bound_out k) b
    pub table : Binds_in (Binds_at k) b

  over : (s1 s2 ss : List Slot) (Second : Token → Type 0) (b2 : Binds) → Binds_in Second b2 → OverSlots s1 s2 Second ss → AreOver base heap words f s1 s2 b2 ss
  over s1 s2 [] Second b2 h o = tt
  over s1 s2 (s ∷ ss) Second b2 h o = (⊎_elim (λ m. inl m) (λ m. inr (m.0, absent Second b2 s.token h m.1)) o.0, over s1 s2 ss Second b2 h o.1)

  pub leaves-overlaid : (n l r : ℕ) (b1 b2 : Binds) → Overlays bound bound_out Binds_at n l r → LeavesBinds l b1 → LeavesBinds r b2 → LeavesBinds n (overlaid b1 b2)
  leaves-overlaid n l r b1 b2 o h1 h2 = record {
    held = holds-overlaid base heap words f (bound_out l) (bound_out r) (bound_out n) b1 b2 h2.table.ascends h1.held h2.held (over (bound_out l) (bound_out r) (bound_out n) (Binds_at r) b2 h2.table o.slots);
    table = in-overlaid (Binds_at l) (Binds_at r) (Binds_at n) b1 b2 o.left o.right h1.table h2.table;
  }

  pub united-is : (n l r : ℕ) (d : Data) (b1 b2 : Binds) → Unites bound bound_out Binds_at n l r → LeavesBinds l b1 → LeavesBinds r b2 → united d b1 b2 ≡ Done d (overlaid b1 b2)
  united-is n l r d b1 b2 u h1 h2 =
      let e = meets-none (Binds_at r) b1 b2 h2.table (λ t x q m. u.apart t (h1.table.among t x q) m) h1.table.ascends in
      rw e refl

  -- what the second part of a node receives
  pub second-receives : (q : Chain) (n l r : ℕ) (b b1 : Binds) → ChainBinds bound bound_out Binds_at q n l r → HoldsBinds base heap words f (bound n) b → LeavesBinds l b1 → HoldsBinds base heap words f (bound r) (handed_binds q b b1)
  second-receives AndThen n l r b b1 c h h1 = subst (λ ss. HoldsBinds base heap words f ss b) (sym c.0) h
  second-receives Then n l r b b1 c h h1 = subst (λ ss. HoldsBinds base heap words f ss b) (sym c.0) h
  second-receives Hence n l r b b1 c h h1 = subst (λ ss. HoldsBinds base heap words f ss b1) (sym c.0) h1.held
  second-receives Before n l r b b1 c h h1 = holds-overlaid base heap words f (bound n) (bound_out l) (bound r) b b1 h1.table.ascends h h1.held (over (bound n) (bound_out l) (bound r) (Binds_at l) b1 h1.table c.0)

  -- what the node leaves where both parts have completed
  pub second-leaves : (q : Chain) (n l r : ℕ) (d1 d2 : Data) (b1 b2 : Binds) → ChainBinds bound bound_out Binds_at q n l r → LeavesBinds l b1 → LeavesBinds r b2 → (b : Binds) × (d : Data) × (chained q d1 b1 d2 b2 ≡ Done d b) × LeavesBinds n b
  second-leaves AndThen n l r d1 d2 b1 b2 c h1 h2 = (overlaid b1 b2, d1 ++ d2, united-is n l r (d1 ++ d2) b1 b2 c.1 h1 h2, leaves-overlaid n l r b1 b2 c.1.overlays h1 h2)
  second-leaves Then n l r d1 d2 b1 b2 c h1 h2 = (overlaid b1 b2, d2, united-is n l r d2 b1 b2 c.1 h1 h2, leaves-overlaid n l r b1 b2 c.1.overlays h1 h2)
  second-leaves Hence n l r d1 d2 b1 b2 c h1 h2 = (b2, d1 ++ d2, refl, record { held = subst (λ ss. HoldsBinds base heap words f ss b2) (sym c.1) h2.held; table = record { ascends = h2.table.ascends; among = λ t x e. c.2 t (h2.table.among t x e) } })
  second-leaves Before n l r d1 d2 b1 b2 c h1 h2 = (overlaid b1 b2, d1 ++ d2, refl, leaves-overlaid n l r b1 b2 c.1 h1 h2)

  pub both-leave : (j : Join) (n l r : ℕ) (d1 d2 : Data) (b1 b2 : Binds) → JoinBinds bound bound_out Binds_at j n l r → LeavesBinds l b1 → LeavesBinds r b2 → (joined j d1 b1 d2 b2 ≡ Done (d1 ++ d2) (overlaid b1 b2)) × LeavesBinds n (overlaid b1 b2)
  both-leave And n l r d1 d2 b1 b2 c h1 h2 = (united-is n l r (d1 ++ d2) b1 b2 c h1 h2, leaves-overlaid n l r b1 b2 c.overlays h1 h2)
  both-leave Moreover n l r d1 d2 b1 b2 c h1 h2 = (refl, leaves-overlaid n l r b1 b2 c h1 h2)

  -- `furthermore`, where no word has to move
  pub over-leaves : (n l : ℕ) (b b1 : Binds) → OverSlots (bound n) (bound_out l) (Binds_at l) (bound_out n) → ((t : Token) → Binds_at l t → Binds_at n t) → Binds_in (Binds_at n) b → HoldsBinds base heap words f (bound n) b → LeavesBinds l b1 → LeavesBinds n (overlaid b b1)
  over-leaves n l b b1 o up hb h h1 = record {
    held = holds-overlaid base heap words f (bound n) (bound_out l) (bound_out n) b b1 h1.table.ascends h h1.held (over (bound n) (bound_out l) (bound_out n) (Binds_at l) b1 h1.table o);
    table = in-overlaid (Binds_at n) (Binds_at l) (Binds_at n) b b1 (λ t m. m) up hb h1.table;
  }
