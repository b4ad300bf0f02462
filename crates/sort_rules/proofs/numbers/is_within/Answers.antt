use Rattle.std.proofs.Common.{ℕ, ◌+◌, ◌<◌, ◌≡◌, ◌≤◌, ◌⊎◌, inl, inr, sym, ◌∙◌, subst, length, drop, get_or, arith, refl, rules}
use Rattle.sort_rules.specs.Numbers.{are_listed}
use Rattle.sort_rules.specs.Wellformed.{Ascending}
use Rattle.sort_rules.proofs.Ascents.{ascends-sound}
use Rattle.sort_rules.proofs.Within.{behind, behind2, step-found, step-missing, step-passed, within-end}
use Rattle.sort_rules.proofs.numbers.is_within.Goals as goal
use Rattle.sort_rules.proofs.numbers.is_within.Goals.{then-xs-i-2, else-xs-i-2, then-loop-i-test+else-j-ys, else-loop-i-test}

pub loop-i-init : goal.loop-i-init
loop-i-init c = record { rest = refl; ascending = ascends-sound c.args.xs.now c.requires.first; ascending2 = ascends-sound c.args.ys.now c.requires.second; first = search rules; second = search rules }

pub loop-i-preserved : goal.loop-i-preserved
loop-i-preserved c =
    let xs = c.args.xs.now in
    let ys = c.args.ys.now in
    let i = c.loop-i.i in
    let j = c.loop-i.j in
    let inv = c.loop-i.invariant in
    let less = c.loop-i-test.true in
    let less2 = c.if-j-ys.true in
    let after = behind2 xs ys i j 0 less less2 inv.ascending inv.ascending2 in
    elim c.if-xs-i-2.branch [
      | then-xs-i-2 w ↦
          record {
            rest = subst (λ (n : ℕ). are_listed (drop n xs) (drop (j + 1) ys) ≡ are_listed xs ys) (sym w.i-is) (step-found xs ys i j 0 less less2 inv.ascending inv.ascending2 (omega (arith, w.if-xs-i-2)) ∙ inv.rest);
            ascending = subst (λ (n : ℕ). Ascending (drop n xs)) (sym w.i-is) (behind xs ys i j 0 less less2 inv.ascending inv.ascending2);
            ascending2 = after;
            first = omega (arith, w.i-is, less);
            second = omega (arith, less2);
          }
      | else-xs-i-2 w ↦
          let greater : get_or ys j 0 < get_or xs i 0 = omega (arith, c.if-xs-i.false, w.if-xs-i-2) in
          record {
            rest = subst (λ (n : ℕ). are_listed (drop n xs) (drop (j + 1) ys) ≡ are_listed xs ys) (sym w.i-is) (step-passed xs ys i j 0 less less2 inv.ascending inv.ascending2 greater ∙ inv.rest);
            ascending = subst (λ (n : ℕ). Ascending (drop n xs)) (sym w.i-is) inv.ascending;
            ascending2 = after;
            first = omega (arith, w.i-is, less);
            second = omega (arith, less2);
          }
    ]

pub returns-then-xs-i : goal.returns-then-xs-i
returns-then-xs-i c =
    let inv = c.loop-i.invariant in
    sym (sym inv.rest ∙ step-missing c.args.xs.now c.args.ys.now c.loop-i.i c.loop-i.j 0 c.loop-i-test.true c.if-j-ys.true inv.ascending inv.ascending2 c.if-xs-i.true)

pub returns : goal.returns
returns c =
    let inv = c.loop-i.invariant in
    let ended : length c.args.xs.now ≤ c.loop-i.i ⊎ length c.args.ys.now ≤ c.loop-i.j = elim c.loop-i-test.branch [
      | then-loop-i-test+else-j-ys w ↦ inr (omega (arith, w.if-j-ys))
      | else-loop-i-test w ↦ inl (omega (arith, w.loop-i-test))
    ] in
    sym (within-end c.args.xs.now c.args.ys.now c.loop-i.i c.loop-i.j inv.first ended) ∙ inv.rest
