use Rattle.std.proofs.Common.{inl, inr, ◌≡◌, ℕ, List, length, Contains, [], arith, sym, subst}
use Rattle.tree_pick.specs.declared.phrases.Span.{Span}
use Rattle.source_lex.specs.Trees.{Has}
use Rattle.tree_pick.specs.Spines.{Reached, Spanning, Here}
use Rattle.tree_pick.specs.Walk.{span, root_of}
use Rattle.tree_pick.proofs.Walked.{one_root}
use Rattle.tree_pick.proofs.Longer.{longer_kept, at_index, all_below}
use Rattle.tree_pick.proofs.Looked.{added_reached, more_worked}
use Rattle.tree_pick.proofs.walking.is_ambiguous.Goals as goal

none : (x : Span) → Contains [] x → ⊥
none x h = let k = h.1 in omega arith

pub loop-p-init : goal.loop-p-init
loop-p-init c =
    let gr = c.args.parse.now.grammar in
    let w = c.args.parse.now.kinds in
    let keys : List Span = c.add.new.seen.keys in
    record {
      root = subst (λ (n : ℕ). Contains keys (span 0 0 n)) c.len.ensures c.in_ok-add.ensures.there;
      reached = added_reached gr w [] keys (span 0 0 c.len.result) (λ x h. absurd (none x h)) (record { at = subst (λ (n : ℕ). Reached gr w (root_of w) (Spanning 0 0 n)) (sym c.len.ensures) Here; has = subst (λ (n : ℕ). Has gr w 0 0 n) (sym c.len.ensures) c.requires.has; within = omega arith }) (λ x h. elim (c.in_ok-add.ensures.only x h) [ inl z ↦ absurd (let e : length c.new-seen.result.keys ≡ 0 = c.new-seen.ensures.len in let k = z.1 in omega arith) | inr e ↦ inr e ]);
      worked = λ x h. absurd (none x h);
    }

pub returns-in_default-clause-one : goal.returns-in_default-clause-one
returns-in_default-clause-one c = λ _.
    let gr = c.args.parse.now.grammar in
    let w = c.args.parse.now.kinds in
    let S : List Span = c.loop-p.seen.keys in
    let all = all_below S c.loop-p.p c.in_default.ensures.key in
    one_root gr w S 0 0 (length w) c.loop-p.invariant.root (λ n i j h. c.loop-p.invariant.worked (span n i j) (rw all h))

pub look_at-requires-clause-at : goal.look_at-requires-clause-at
look_at-requires-clause-at c = (c.loop-p.invariant.reached c.in-Some.phrase.now (at_index c.loop-p.seen.keys c.loop-p.p c.in-Some.phrase.now (sym c.in-Some.ensures.key))).at

pub look_at-requires-clause-has : goal.look_at-requires-clause-has
look_at-requires-clause-has c = (c.loop-p.invariant.reached c.in-Some.phrase.now (at_index c.loop-p.seen.keys c.loop-p.p c.in-Some.phrase.now (sym c.in-Some.ensures.key))).has

pub look_at-requires-clause-within : goal.look_at-requires-clause-within
look_at-requires-clause-within c = (c.loop-p.invariant.reached c.in-Some.phrase.now (at_index c.loop-p.seen.keys c.loop-p.p c.in-Some.phrase.now (sym c.in-Some.ensures.key))).within

pub loop-p-preserved : goal.loop-p-preserved
loop-p-preserved c =
    let gr = c.args.parse.now.grammar in
    let w = c.args.parse.now.kinds in
    let S : List Span = c.loop-p.seen.keys in
    let T : List Span = c.look_at.new.seen.keys in
    record {
      root = longer_kept S T c.in_ok-look_at.ensures.longer (span 0 0 (length w)) c.loop-p.invariant.root;
      reached = c.in_ok-look_at.ensures.reached;
      worked = more_worked gr w S T c.loop-p.p c.in-Some.phrase.now c.in_ok-look_at.ensures.longer (sym c.in-Some.ensures.key) c.loop-p.invariant.worked (c.in_ok-look_at.ensures.worked c.if-branch.false);
    }
