-- The nodes in a node: parts, and parts of parts.
use Rattle.std.proofs.Common.{◌≡◌, ◌≢◌, ◌⊎◌, ℕ, zero, suc, ◌<◌, refl, sym, subst, ◌∙◌, arith, inl, inr}
use Rattle.action_terms.specs.Actions.{Action, node_at}
use Rattle.action_terms.specs.Performances.{OneOf}
use Rattle.sort_rules.specs.Procedures.{parts_at, procedure_of}
use Rattle.frame_layout.specs.Layouts.{Deeper, IsIn, Itself}
use Rattle.frame_layout.proofs.FrameLaws.{in-behind}
use Rattle.frame_layout.proofs.GraphParts.{HasTrees}
use Rattle.frame_layout.proofs.ProcedureRoots.{procedure-part, whole-is}

-- the last step of the way to a node
record LastStep (a : Action) (j k : ℕ) : Type 0 where
  whole : ℕ
  way : IsIn a j whole
  part : OneOf k (parts_at (node_at a whole))

module _ (a : Action) (trees : HasTrees a) where
  in-last : (j k : ℕ) → IsIn a j k → (j ≡ k) ⊎ LastStep a j k
  in-last j _ Itself = inl refl
  in-last j k (Deeper {i} part deeper) = inr (go (in-last i k deeper))
    where
      go : (i ≡ k) ⊎ LastStep a i k → LastStep a j k
      go (inl e) = record { whole = j; way = Itself; part = subst (λ x. OneOf x (parts_at (node_at a j))) e part }
      go (inr s) = record { whole = s.whole; way = Deeper part s.way; part = s.part }

  pub in-procedure : (j k : ℕ) → IsIn a j k → procedure_of a k ≡ procedure_of a j
  in-procedure j _ Itself = refl
  in-procedure j k (Deeper {i} part deeper) = in-procedure i k deeper ∙ procedure-part a trees i j (whole-is a trees i j part)

  -- no part has its node in it
  pub not-up : (n c : ℕ) → OneOf c (parts_at (node_at a n)) → IsIn a c n → ⊥
  not-up n c part up = omega (arith, trees.behind n c part, in-behind a trees c n up)

  -- two parts of a node have no node in common
  parted : (b n l r j : ℕ) → j < b → OneOf l (parts_at (node_at a n)) → OneOf r (parts_at (node_at a n)) → l ≢ r → IsIn a l j → IsIn a r j → ⊥
  parted zero n l r j less pl pr other x y = omega arith
  parted (suc b) n l r j less pl pr other x y = go (in-last l j x) (in-last r j y) (λ m less x y. parted b n l r m less pl pr other x y)
    where
      go : (l ≡ j) ⊎ LastStep a l j → (r ≡ j) ⊎ LastStep a r j → ((m : ℕ) → m < b → IsIn a l m → IsIn a r m → ⊥) → ⊥
      go (inl e) (inl f) deeper = other (e ∙ sym f)
      go (inl e) (inr s) deeper = not-up n r pr (subst (IsIn a r) (trees.one s.whole n l (subst (λ x. OneOf x (parts_at (node_at a s.whole))) (sym e) s.part) pl) s.way)
      go (inr s) (inl f) deeper = not-up n l pl (subst (IsIn a l) (trees.one s.whole n r (subst (λ x. OneOf x (parts_at (node_at a s.whole))) (sym f) s.part) pr) s.way)
      go (inr s) (inr u) deeper = deeper s.whole (omega (arith, trees.behind s.whole j s.part)) s.way (subst (IsIn a r) (trees.one u.whole s.whole j u.part s.part) u.way)

  pub siblings-apart : (n l r j : ℕ) → OneOf l (parts_at (node_at a n)) → OneOf r (parts_at (node_at a n)) → l ≢ r → IsIn a l j → IsIn a r j → ⊥
  siblings-apart n l r j pl pr other x y = parted (suc j) n l r j (omega arith) pl pr other x y

  -- a node in a part is in the node
  pub in-whole : (n c k : ℕ) → OneOf c (parts_at (node_at a n)) → IsIn a c k → IsIn a n k
  in-whole n c k part x = Deeper part x
