use Rattle.std.proofs.Common.{◌≡◌, inl, inr, true, false, ℕ, List, take, take_all, get_or, sym, subst, refl, ◌∙◌}
use Rattle.std.proofs.lemmas.List.Elements.{Contains-get_or}
use Rattle.tree_pick.specs.Runs.{Leads, LeadsFrom}
use Rattle.tree_pick.proofs.FollowedParts.{take_more, pushed}
use Rattle.tree_pick.proofs.runs.leads_from.Goals as goal

pub leads-requires-clause-places : goal.leads-requires-clause-places
leads-requires-clause-places c =
    (c.requires.within (get_or c.args.places.now c.loop-k.k 0) (Contains-get_or c.args.places.now c.loop-k.k 0 c.loop-k-test.true), c.requires.end)

pub returns-then-leads : goal.returns-then-leads
returns-then-leads c = (
  λ _. (get_or c.args.places.now c.loop-k.k 0, Contains-get_or c.args.places.now c.loop-k.k 0 c.loop-k-test.true, c.leads.ensures.0 c.if-leads.true),
  λ _. refl,
)

pub loop-k-preserved : goal.loop-k-preserved
loop-k-preserved c h =
    let gr = c.args.parse.now.grammar in
    let w = c.args.parse.now.kinds in
    let places : List ℕ = c.args.places.now in
    let x : ℕ = get_or places c.loop-k.k 0 in
    let g = subst (λ (l : List ℕ). LeadsFrom gr w c.args.part l c.args.end) (take_more places c.loop-k.k c.loop-k-test.true) h in
    elim ((pushed (take c.loop-k.k places) x g.0).0 g.1) [
      | inl before ↦ c.loop-k.invariant (g.0, before, g.2)
      | inr here ↦ (let led : Leads gr w c.args.part x c.args.end = subst (λ (k : ℕ). Leads gr w c.args.part k c.args.end) (sym here) g.2 in let t : true ≡ false = sym (c.leads.ensures.1 led) ∙ c.if-leads.false in cc)
    ]

pub returns : goal.returns
returns c = (
  λ q. absurd (cc),
  λ h. absurd (c.loop-k.invariant (subst (λ (l : List ℕ). LeadsFrom c.args.parse.now.grammar c.args.parse.now.kinds c.args.part l c.args.end) (sym (take_all c.loop-k.k c.args.places.now c.loop-k-test.false)) h)),
)
