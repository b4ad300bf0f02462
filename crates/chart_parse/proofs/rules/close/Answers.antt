use Rattle.std.proofs.Common.{inl, inr, ◌∙◌, sym, subst, refl, List, Contains}
use Rattle.chart_parse.specs.declared.rule_lists.Rule.{Rule}
use Rattle.chart_parse.specs.Places.{Places, grammar_of}
use Rattle.chart_parse.proofs.NearRows.{near_kept}
use Rattle.chart_parse.proofs.Rounds.{added_more}
use Rattle.chart_parse.proofs.RuleLists.{each_still, all_closed}
use Rattle.chart_parse.proofs.rules.close.Goals as goal

pub loop-init : goal.loop-init
loop-init c = record {
  added = c.in_ok-follow_each.ensures.added;
  met = λ x h. c.in_ok-follow_each.ensures.met x (subst (λ (l : List Rule). Contains l x) (sym c.deref.ensures.value) h) (inr (c.requires.lists.class_behind x h));
}

pub follow_each-requires-in-loop-clause-part : goal.follow_each-requires-in-loop-clause-part
follow_each-requires-in-loop-clause-part c = c.loop.invariant.added.part

pub follow_each-requires-in-loop-clause-near : goal.follow_each-requires-in-loop-clause-near
follow_each-requires-in-loop-clause-near c =
    near_kept (grammar_of c.args.site.source.now) c.args.site.source.now.kinds.now c.args.site.place c.args.places.now.items c.loop.places.items c.args.site.near.now c.requires.near c.loop.invariant.added

pub returns-then-not-branch-clause-added : goal.returns-then-not-branch-clause-added
returns-then-not-branch-clause-added c =
    added_more (grammar_of c.args.site.source.now) c.args.site.source.now.kinds.now c.args.site.place c.args.places.now.items c.loop.places.items c.follow_each-in-loop.new.places.items c.loop.invariant.added c.in_ok-follow_each-2.ensures.added

pub returns-then-not-branch-clause-closed : goal.returns-then-not-branch-clause-closed
returns-then-not-branch-clause-closed c =
    let g = grammar_of c.args.site.source.now in
    let w = c.args.site.source.now.kinds.now in
    let mid : Places = c.loop.places.items in
    let new : Places = c.follow_each-in-loop.new.places.items in
    let lists = c.requires.lists in
    all_closed g w c.args.site.place new c.args.lists.now.behind.items c.args.lists.now.here.items lists
    (each_still g w c.args.site.place mid new c.args.lists.now.behind.items c.loop.invariant.added.part c.in_ok-follow_each-2.ensures.added lists.class_behind c.loop.invariant.met)
    (λ x h. c.in_ok-follow_each-2.ensures.met x (subst (λ (l : List Rule). Contains l x) (sym c.deref-in-loop.ensures.value) h) (inl c.if-not-branch.true))

pub loop-preserved : goal.loop-preserved
loop-preserved c =
    let g = grammar_of c.args.site.source.now in
    let w = c.args.site.source.now.kinds.now in
    let mid : Places = c.loop.places.items in
    let new : Places = c.follow_each-in-loop.new.places.items in
    record {
      added = added_more g w c.args.site.place c.args.places.now.items mid new c.loop.invariant.added c.in_ok-follow_each-2.ensures.added;
      met = each_still g w c.args.site.place mid new c.args.lists.now.behind.items c.loop.invariant.added.part c.in_ok-follow_each-2.ensures.added c.requires.lists.class_behind c.loop.invariant.met;
    }
