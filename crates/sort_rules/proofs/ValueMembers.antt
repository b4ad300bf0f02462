-- What is asked of cells and of closures, one after the other.
use Rattle.std.proofs.Common.{List, [], ap, refl, subst, sym, ℕ, ◌++◌, ◌∙◌, ◌∷◌, ◌≡◌}
use Rattle.sort_rules.specs.Demands.{Demand, cell_in, closure_in, enacts, stores, ◌⊒◌}
use Rattle.sort_rules.specs.Parts.{Part, Unreached, when}
use Rattle.sort_rules.specs.Reached.{Adds, in_front}
use Rattle.sort_rules.specs.Tables.{BindsOut, Contents, DataIn, DataOut, Entry, Escaped, MarkedTable}
use Rattle.sort_rules.proofs.Reaches.{adds-more, adds-none}

stores-append : (v w : Part) (xs ys : List ℕ) → stores v w (xs ++ ys) ≡ stores v w xs ++ stores v w ys
stores-append v w [] ys = refl
stores-append v w (x ∷ xs) ys = ap (λ (ds : List Demand). (Contents x ⊒ when (cell_in x w) v) ∷ ds) (stores-append v w xs ys)

enacts-append : (t : MarkedTable) (k : ℕ) (v d : Part) (xs ys : List ℕ) → enacts t k v d (xs ++ ys) ≡ enacts t k v d xs ++ enacts t k v d ys
enacts-append t k v d [] ys = refl
enacts-append t k v d (c ∷ xs) ys =
    ap (λ (ds : List Demand). (DataIn c ⊒ when (closure_in c v) d) ∷ (DataOut k ⊒ when (closure_in c v) (t (DataOut c))) ∷ (BindsOut k ⊒ when (closure_in c v) (t (BindsOut c))) ∷ (Escaped k ⊒ when (closure_in c v) (t (Escaped c))) ∷ ds)
    (enacts-append t k v d xs ys)

-- one cell more
pub stores-more : (v w : Part) (first mid last : List Demand) (xs ys all : List ℕ) → all ≡ xs ++ ys → Adds first (stores v w xs) mid → Adds mid (stores v w ys) last → Adds first (stores v w all) last
stores-more v w first mid last xs ys all e f g =
    subst (λ (ds : List Demand). Adds first ds last) (sym (ap (stores v w) e ∙ stores-append v w xs ys)) (adds-more first (stores v w xs) mid (stores v w ys) last f g)

-- one body more
pub enacts-more : (t : MarkedTable) (k : ℕ) (v d : Part) (first mid last : List Demand) (xs ys all : List ℕ) → all ≡ xs ++ ys → Adds first (enacts t k v d xs) mid → Adds mid (enacts t k v d ys) last
    → Adds first (enacts t k v d all) last
enacts-more t k v d first mid last xs ys all e f g =
    subst (λ (ds : List Demand). Adds first ds last) (sym (ap (enacts t k v d) e ∙ enacts-append t k v d xs ys)) (adds-more first (enacts t k v d xs) mid (enacts t k v d ys) last f g)

-- of an unreached part, nothing
in_front-unreached : (x : Entry) (v : Part) (ds : List Demand) → v ≡ Unreached → in_front x v ds ≡ ds
in_front-unreached x v ds e = ap (λ (v : Part). in_front x v ds) e

-- a cell that the value can't be
pub stores-none : (v w : Part) (s : ℕ) (old : List Demand) → ((x : Part) → Unreached ≡ when (cell_in s w) x) → Adds old (stores v w (s ∷ [])) old
stores-none v w s old h = adds-none old (stores v w (s ∷ [])) (in_front-unreached (Contents s) (when (cell_in s w) v) [] (sym (h v)))

-- a body of which the value can't be a closure
pub enacts-none : (t : MarkedTable) (k : ℕ) (v d : Part) (c : ℕ) (old : List Demand) → ((x : Part) → Unreached ≡ when (closure_in c v) x) → Adds old (enacts t k v d (c ∷ [])) old
enacts-none t k v d c old h =
    adds-none old (enacts t k v d (c ∷ []))
    (in_front-unreached (DataIn c) (when (closure_in c v) d) _ (sym (h d))
    ∙ in_front-unreached (DataOut k) (when (closure_in c v) (t (DataOut c))) _ (sym (h (t (DataOut c))))
    ∙ in_front-unreached (BindsOut k) (when (closure_in c v) (t (BindsOut c))) _ (sym (h (t (BindsOut c))))
    ∙ in_front-unreached (Escaped k) (when (closure_in c v) (t (Escaped c))) [] (sym (h (t (Escaped c)))))

-- a cell that the value may be
pub stores-one : (v w : Part) (s : ℕ) → ((x : Part) → x ≡ when (cell_in s w) x) → (Contents s ⊒ v) ∷ [] ≡ stores v w (s ∷ [])
stores-one v w s h = ap (λ (x : Part). (Contents s ⊒ x) ∷ []) (h v)

-- a body of which the value may be a closure, and o, p and e are its ends
pub enacts-one : (t : MarkedTable) (k : ℕ) (v d o p e : Part) (c : ℕ) → ((x : Part) → x ≡ when (closure_in c v) x) → o ≡ t (DataOut c) → p ≡ t (BindsOut c) → e ≡ t (Escaped c)
    → (DataIn c ⊒ d) ∷ (DataOut k ⊒ o) ∷ (BindsOut k ⊒ p) ∷ (Escaped k ⊒ e) ∷ [] ≡ enacts t k v d (c ∷ [])
enacts-one t k v d o p e c h q1 q2 q3 =
    ap (λ (x : Part). (DataIn c ⊒ x) ∷ (DataOut k ⊒ o) ∷ (BindsOut k ⊒ p) ∷ (Escaped k ⊒ e) ∷ []) (h d)
    ∙ ap (λ (x : Part). (DataIn c ⊒ when (closure_in c v) d) ∷ (DataOut k ⊒ x) ∷ (BindsOut k ⊒ p) ∷ (Escaped k ⊒ e) ∷ []) (q1 ∙ h (t (DataOut c)))
    ∙ ap (λ (x : Part). (DataIn c ⊒ when (closure_in c v) d) ∷ (DataOut k ⊒ when (closure_in c v) (t (DataOut c))) ∷ (BindsOut k ⊒ x) ∷ (Escaped k ⊒ e) ∷ []) (q2 ∙ h (t (BindsOut c)))
    ∙ ap (λ (x : Part). (DataIn c ⊒ when (closure_in c v) d) ∷ (DataOut k ⊒ when (closure_in c v) (t (DataOut c))) ∷ (BindsOut k ⊒ when (closure_in c v) (t (BindsOut c))) ∷ (Escaped k ⊒ x) ∷ []) (q3 ∙ h (t (Escaped c)))
