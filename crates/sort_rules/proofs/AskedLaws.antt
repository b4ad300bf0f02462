-- What is judged with the row of a node is judged as its demands have it, and how the demands of its operands are listed.
use Rattle.std.proofs.Common.{List, [], ap, append_assoc, sym, ℕ, ◌++◌, ◌∙◌, ◌∷◌, ◌≡◌}
use Rattle.std.specs.Prelude.{reverse}
use Rattle.std.proofs.lemmas.List.{reverse-append, reverse-reverse}
use Rattle.sort_rules.specs.Demands.{Demand, received_by, ◌⊒◌}
use Rattle.sort_rules.specs.Parts.{Part, join}
use Rattle.sort_rules.specs.Tables.{BindsIn, Contents, DataIn, Entry, MarkedTable}

-- f is what a yielder or data may be, or whether they fit, by contents, data and bindings
pub at_node : (t : MarkedTable) (k : ℕ) (c : ℕ → Part) (g h : Part) (f : (ℕ → Part) → Part → Part → Part) (v : Part) → c ≡ (λ s. t (Contents s)) → g ≡ t (DataIn k) → h ≡ t (BindsIn k) → v ≡ f c g h
    → v ≡ f (λ s. t (Contents s)) (t (DataIn k)) (t (BindsIn k))
at_node t k c g h f v p q r e =
    e ∙ ap (λ (c : ℕ → Part). f c g h) p ∙ ap (λ (g : Part). f (λ s. t (Contents s)) g h) q ∙ ap (f (λ s. t (Contents s)) (t (DataIn k))) r

-- what two misfits come to
pub both_wrong : (m a a2 b b2 : Part) → m ≡ join a b → a ≡ a2 → b ≡ b2 → m ≡ join a2 b2
both_wrong m a a2 b b2 e p q = e ∙ ap (λ (x : Part). join x b) p ∙ ap (join a2) q

-- the mark, and the closures that were listed from the last one on, behind none
pub marked_behind : (x : Entry) (h : Part) (before after : List Demand) (m m2 : Part) (cs zs ds : List ℕ) → after ≡ before ++ (x ⊒ m) ∷ received_by h (reverse cs) → m ≡ m2 → cs ≡ zs ++ reverse ds → zs ≡ []
    → after ≡ before ++ (x ⊒ m2) ∷ received_by h ds
marked_behind x h before after m m2 cs zs ds e p q none =
    let all : reverse cs ≡ ds = ap reverse (q ∙ ap (λ (zs : List ℕ). zs ++ reverse ds) none) ∙ reverse-reverse ds in
    e ∙ ap (λ (m : Part). before ++ (x ⊒ m) ∷ received_by h (reverse cs)) p ∙ ap (λ (cs : List ℕ). before ++ (x ⊒ m2) ∷ received_by h cs) all

-- so it is where those of a second yielder were listed before those of the first
pub two_behind : (cs zs ds es ms : List ℕ) → ms ≡ zs ++ reverse es → cs ≡ ms ++ reverse ds → cs ≡ zs ++ reverse (ds ++ es)
two_behind cs zs ds es ms e f =
    f ∙ ap (λ (xs : List ℕ). xs ++ reverse ds) e ∙ append_assoc zs (reverse es) (reverse ds) ∙ ap (λ (xs : List ℕ). zs ++ xs) (sym (reverse-append ds es))
