-- Each move takes weight off the stack, or a token.
use Rattle.std.proofs.Common.{◌≡◌, ℕ, ◌+◌, ◌<◌, Bool, true, false, List, [], ◌∷◌, ◌++◌, Some, refl, arith, get_or, nat_eq, nat_lt, if◌then◌else◌, ◌&&◌, eqb-true, ltb-true}
use Rattle.std.proofs.lemmas.Bool.{and_parts}
use Rattle.action_text.specs.Tables.{Symbol, Read, Keep, Emit, Name, Line, Other, line_of, other_of}
use Rattle.action_text.specs.ActionTable.{template_lines, action_lines, parameter_lines, action_others}

abbrev pub weigh : (ℕ → ℕ) → List Symbol → ℕ
weigh v [] = 0
weigh v (Read c ∷ s) = 1 + weigh v s
weigh v (Keep c ∷ s) = 1 + weigh v s
weigh v (Emit e ∷ s) = 1 + weigh v s
weigh v (Name n ∷ s) = v n + weigh v s

pub weigh-append : (v : ℕ → ℕ) (r s : List Symbol) → weigh v (r ++ s) ≡ weigh v r + weigh v s
weigh-append v [] s = omega arith
weigh-append v (Read c ∷ r) s = omega (arith, weigh-append v r s)
weigh-append v (Keep c ∷ r) s = omega (arith, weigh-append v r s)
weigh-append v (Emit e ∷ r) s = omega (arith, weigh-append v r s)
weigh-append v (Name n ∷ r) s = omega (arith, weigh-append v r s)

abbrev pub weights : ℕ → ℕ
weights n = get_or (3 ∷ 1 ∷ 4 ∷ 1 ∷ 1 ∷ 1 ∷ 1 ∷ 1 ∷ 1 ∷ 1 ∷ 1 ∷ 1 ∷ 3 ∷ 2 ∷ 3 ∷ 9 ∷ 1 ∷ 2 ∷ 1 ∷ 1 ∷ 3 ∷ 1 ∷ 2 ∷ 1 ∷ 1 ∷ 1 ∷ []) n 0

unfoldable lines_weigh : (ℕ → ℕ) → List Line → Bool
lines_weigh v [] = true
lines_weigh v (l ∷ ls) = nat_lt (weigh v l.right) 100 && lines_weigh v ls

unfoldable others_weigh : (ℕ → ℕ) → List Other → Bool
others_weigh v [] = true
others_weigh v (l ∷ ls) = nat_lt (weigh v l.right) (v l.name) && others_weigh v ls

line_below : (v : ℕ → ℕ) (ls : List Line) (n c : ℕ) (l : Line) → lines_weigh v ls ≡ true → line_of ls n c ≡ Some l → weigh v l.right < 100
unfolding lines_weigh line_of
line_below v [] n c l h e = absurd (cc)
line_below v (m ∷ ls) n c l h e = go (nat_eq m.name n) (nat_eq m.class c) e (line_below v ls n c l (and_parts _ (lines_weigh v ls) h).1)
  where
    go : (a b : Bool) → (if a then (if b then Some m else line_of ls n c) else line_of ls n c) ≡ Some l → (line_of ls n c ≡ Some l → weigh v l.right < 100) → weigh v l.right < 100
    go true true e ih = let x : m ≡ l = cc in rw x at (ltb-true (weigh v m.right) 100 (and_parts _ (lines_weigh v ls) h).0)
    go true false e ih = ih e
    go false b e ih = ih e

other_below : (v : ℕ → ℕ) (ls : List Other) (n : ℕ) (r : List Symbol) → others_weigh v ls ≡ true → other_of ls n ≡ Some r → weigh v r < v n
unfolding others_weigh other_of
other_below v [] n r h e = absurd (cc)
other_below v (m ∷ ls) n r h e = go (nat_eq m.name n) refl e (other_below v ls n r (and_parts _ (others_weigh v ls) h).1)
  where
    go : (a : Bool) → nat_eq m.name n ≡ a → (if a then Some m.right else other_of ls n) ≡ Some r → (other_of ls n ≡ Some r → weigh v r < v n) → weigh v r < v n
    go true p e ih = let x : m.right ≡ r = cc in let y : m.name ≡ n = eqb-true m.name n p in rw x at (rw y at (ltb-true (weigh v m.right) (v m.name) (and_parts _ (others_weigh v ls) h).0))
    go false p e ih = ih e

pub line_lighter : (n c : ℕ) (l : Line) → line_of template_lines n c ≡ Some l → weigh weights l.right < 100
unfolding lines_weigh template_lines action_lines parameter_lines
line_lighter n c l e = line_below weights template_lines n c l refl e

pub other_lighter : (n : ℕ) (r : List Symbol) → other_of action_others n ≡ Some r → weigh weights r < weights n
unfolding others_weigh action_others
other_lighter n r e = other_below weights action_others n r refl e
