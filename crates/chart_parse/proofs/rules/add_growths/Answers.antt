use Rattle.std.proofs.Common.{inl, inr, ◌≡◌, ℕ, ◌+◌, List, [], ◌∷◌, ◌++◌, take, take_all, get_or, Contains, add-one, true, false, sym, subst, ◌∙◌, arith}
use Rattle.std.proofs.Math.Seq.{take-suc}
use Rattle.std.proofs.lemmas.List.Elements.{Contains-get_or, Contains-push_cases}
use Rattle.chart_parse.specs.Places.{Places, grammar_of, IsListed}
use Rattle.chart_parse.proofs.Rounds.{same_none, same_more, added_none, added_more}
use Rattle.chart_parse.proofs.rules.add_growths.Goals as goal
use Rattle.chart_parse.proofs.rules.add_growths.Goals.{then-branch, else-branch}

pub loop-q-init : goal.loop-q-init
loop-q-init c = record {
  added = added_none (grammar_of c.args.site.source.now) c.args.site.source.now.kinds.now c.args.site.place c.args.places.now.items c.requires.part;
  same = λ _. same_none c.args.places.now.items;
  has = λ j n e h. absurd (let lt = h.1 in omega arith);
}

pub add_list-requires-clause-part : goal.add_list-requires-clause-part
add_list-requires-clause-part c = c.loop-q.invariant.added.part

pub add_list-requires-clause-right : goal.add_list-requires-clause-right
add_list-requires-clause-right c n e more = c.requires.right (get_or c.args.ends.now c.loop-q.q 0) n e (Contains-get_or c.args.ends.now c.loop-q.q 0 c.loop-q-test.true) more

pub loop-q-preserved : goal.loop-q-preserved
loop-q-preserved c =
    let w = c.args.site.source.now.kinds.now in
    let old : Places = c.args.places.now.items in
    let mid : Places = c.loop-q.places.items in
    let new : Places = c.add_list.new.places.items in
    let ends : List ℕ = c.args.ends.now in
    let l : ℕ = get_or ends c.loop-q.q 0 in
    let next : take (c.loop-q.q + 1) ends ≡ take c.loop-q.q ends ++ l ∷ [] = rw (add-one c.loop-q.q) (take-suc ends c.loop-q.q 0 c.loop-q-test.true) in
    record {
      added = added_more (grammar_of c.args.site.source.now) w c.args.site.place old mid new c.loop-q.invariant.added c.in_ok-add_list.ensures.added;
      same = λ q. elim c.if-branch.branch [
        | then-branch v ↦ absurd (let y : true ≡ false = sym v.more-is ∙ q in cc)
        | else-branch v ↦ same_more old mid new (c.loop-q.invariant.same (sym v.more-is ∙ q)) (c.in_ok-add_list.ensures.same v.if-branch.false)
      ];
      has = λ j n e here x. elim (Contains-push_cases (take c.loop-q.q ends) l j (subst (λ (t : List ℕ). Contains t j) next here)) [
        | inl o ↦ c.in_ok-add_list.ensures.added.kept c.args.site.place c.args.into n e (c.loop-q.invariant.has j n e o x)
        | inr s ↦ c.in_ok-add_list.ensures.has n e (c.loop-q.invariant.added.kept l c.args.nonterminal n e (subst (λ (i : ℕ). IsListed w old i c.args.nonterminal n e) (sym s) x))
      ];
    }

pub returns-clause-has : goal.returns-clause-has
returns-clause-has c l n e h x = c.loop-q.invariant.has l n e (subst (λ (t : List ℕ). Contains t l) (sym (take_all c.loop-q.q c.args.ends.now c.loop-q-test.false)) h) x

pub add_list-requires-clause-from : goal.add_list-requires-clause-from
add_list-requires-clause-from c = (c.requires.within (get_or c.args.ends.now c.loop-q.q 0) (Contains-get_or c.args.ends.now c.loop-q.q 0 c.loop-q-test.true), c.requires.nonterminal)
