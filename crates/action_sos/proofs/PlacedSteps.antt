-- Which step stands at a place of a list of steps.
use Rattle.std.proofs.Common.{◌≡◌, ℕ, zero, suc, ◌+◌, List, [], ◌∷◌, ◌++◌, map, length, refl, ap, ap₂, ◌∙◌, arith}
use Rattle.std.specs.Prelude.{Some, slice_get, option_map}
use Rattle.std.proofs.lemmas.Option.{slice_get-map}
use Rattle.action_terms.specs.Acting.{Tree}
use Rattle.action_terms.specs.Steps.{Letter, Effect, Made, Step, commits, on_side}
use Rattle.action_terms.specs.Frames.{Frame, wrap, shut_if, framed}
use Rattle.action_sos.specs.Parts.{inside, lifted}

-- ---- an element of two lists, one behind the other

pub slice_get-append_left : {A : Type 0} (xs ys : List A) (i : ℕ) (x : A) → slice_get xs i ≡ Some x → slice_get (xs ++ ys) i ≡ Some x
slice_get-append_left [] ys i x at = cc
slice_get-append_left (y ∷ xs) ys zero x at = at
slice_get-append_left (y ∷ xs) ys (suc i) x at = slice_get-append_left xs ys i x at

pub slice_get-append_right : {A : Type 0} (xs ys : List A) (i : ℕ) → slice_get (xs ++ ys) (length xs + i) ≡ slice_get ys i
slice_get-append_right [] ys i = let same : 0 + i ≡ i = omega arith in ap (slice_get ys) same
slice_get-append_right (x ∷ xs) ys i =
    let same : suc (length xs) + i ≡ suc (length xs + i) = omega arith in
    ap (slice_get (x ∷ xs ++ ys)) same ∙ slice_get-append_right xs ys i

-- ---- a step within frames

pub lifted-effect : (fs : List Frame) (n : Step) → (lifted fs n).effect ≡ n.effect
lifted-effect [] n = refl
lifted-effect (f ∷ fs) n = lifted-effect fs n

pub lifted-made : (fs : List Frame) (n : Step) → (lifted fs n).made ≡ n.made
lifted-made [] n = refl
lifted-made (f ∷ fs) n = lifted-made fs n

pub lifted-tree : (fs : List Frame) (n : Step) → (lifted fs n).tree ≡ inside (map (shut_if (commits n.effect)) fs) n.tree
lifted-tree [] n = refl
lifted-tree (f ∷ fs) n = ap₂ (λ e t. wrap (shut_if (commits e) f) t) (lifted-effect fs n) (lifted-tree fs n)

-- ---- steps by what they do

-- there is a step at the place, with this tree, effect and closures
pub record HasStep (steps : List Step) (place : ℕ) (tree : Tree) (effect : Effect) (made : List Made) : Type 0 where
  pub step : Step
  pub at : slice_get steps place ≡ Some step
  pub tree_is : step.tree ≡ tree
  pub effect_is : step.effect ≡ effect
  pub made_is : step.made ≡ made

module _ {steps : List Step} {i : ℕ} {t : Tree} {e : Effect} {made : List Made} (has : HasStep steps i t e made) where
  pub HasStep-left : (more : List Step) → HasStep (steps ++ more) i t e made
  HasStep-left more = record { step = has.step; at = slice_get-append_left steps more i has.step has.at; tree_is = has.tree_is; effect_is = has.effect_is; made_is = has.made_is }

  pub HasStep-right : (before : List Step) → HasStep (before ++ steps) (length before + i) t e made
  HasStep-right before = record { step = has.step; at = slice_get-append_right before steps i ∙ has.at; tree_is = has.tree_is; effect_is = has.effect_is; made_is = has.made_is }

  at-map : (h : Step → Step) → slice_get (map h steps) i ≡ Some (h has.step)
  at-map h = slice_get-map h steps i ∙ ap (option_map h) has.at

  pub HasStep-side : (l : Letter) (h : Tree → Tree) → HasStep (map (on_side l h) steps) i (h t) e made
  HasStep-side l h = record { step = on_side l h has.step; at = at-map (on_side l h); tree_is = ap h has.tree_is; effect_is = has.effect_is; made_is = has.made_is }

  pub HasStep-framed : (f : Frame) → HasStep (map (framed f) steps) i (wrap (shut_if (commits e) f) t) e made
  HasStep-framed f = record {
    step = framed f has.step;
    at = at-map (framed f);
    tree_is = ap₂ (λ e' t'. wrap (shut_if (commits e') f) t') has.effect_is has.tree_is;
    effect_is = has.effect_is;
    made_is = has.made_is;
  }

  pub HasStep-lifted : (fs : List Frame) → HasStep (map (lifted fs) steps) i (inside (map (shut_if (commits e)) fs) t) e made
  HasStep-lifted fs = record {
    step = lifted fs has.step;
    at = at-map (lifted fs);
    tree_is = lifted-tree fs has.step ∙ ap₂ (λ e' t'. inside (map (shut_if (commits e')) fs) t') has.effect_is has.tree_is;
    effect_is = lifted-effect fs has.step ∙ has.effect_is;
    made_is = lifted-made fs has.step ∙ has.made_is;
  }
