use Rattle.std.proofs.Common.{List, Some, [], ap, arith, length, refl, sym, ℕ, ◌∙◌, ◌∷◌, ◌≡◌}
use Rattle.std.specs.Prelude.{reverse}
use Rattle.std.proofs.lemmas.List.{append-nil}
use Rattle.std.proofs.lemmas.List.Elements.{All-pop}
use Rattle.action_terms.specs.Forms.{IsDatum}
use Rattle.sort_rules.specs.Postorder.{judged_by_all, listed_closures}
use Rattle.sort_rules.proofs.Listing.{closures_at, judged_stack, listed-closures, listed-count, listed-data, listed-judged}
use Rattle.sort_rules.proofs.postorder.listed.Goals as goal

pub loop-next-preserved : goal.loop-next-preserved
loop-next-preserved c =
    let g = c.args.graph.now in
    let inv = c.loop-next.invariant in
    let v = c.yielder_view-view.result in
    let popped = All-pop (IsDatum g.yielders) c.loop-next.left.items c.pop.new.self.items (Some c.in-Some.next) c.in-Some.ensures.items inv.data_left in
    let view = c.yielder_view-view.ensures in
    let put = c.in_ok-push_arguments.ensures in
    let listed = c.in_ok-push-2.ensures.items in
    record {
      judged = λ d given received. listed-judged g c.loop-next.left.items c.pop.new.self.items c.push_arguments.new.left.items c.in-Some.next c.loop-next.views.items c.push-in-Some.new.self.items v view popped.1 c.in-Some.ensures.items put listed d given received _ (inv.judged d given received);
      closures = listed-closures g c.loop-next.left.items c.pop.new.self.items c.push_arguments.new.left.items c.in-Some.next c.loop-next.views.items c.push-in-Some.new.self.items v view popped.1 c.in-Some.ensures.items put listed _ inv.closures;
      count = listed-count g c.loop-next.left.items c.pop.new.self.items c.push_arguments.new.left.items c.in-Some.next c.loop-next.views.items c.push-in-Some.new.self.items v view popped.1 c.in-Some.ensures.items put listed _ inv.count;
      data_left = listed-data g c.loop-next.left.items c.pop.new.self.items c.push_arguments.new.left.items c.in-Some.next c.loop-next.views.items c.push-in-Some.new.self.items v view popped.1 c.in-Some.ensures.items put listed popped.0;
    }

none-left : (xs : List ℕ) → length xs ≡ 0 → xs ≡ []
none-left [] h = refl
none-left (x ∷ xs) h = absurd (omega arith)

pub returns-clause-judged : goal.returns-clause-judged
returns-clause-judged c =
    let g = c.args.graph.now in
    let left = c.loop-next.left.items in
    let views = c.loop-next.views.items in
    let none : left ≡ [] = none-left left (omega (arith, c.in_default.ensures.cases.0, c.loop-next.left.ok.0)) in
    λ d given received.
    let none2 : judged_by_all d given received [] ≡ judged_stack g.yielders d given received left = sym (ap (judged_stack g.yielders d given received) none) in
    sym (ap (judged_by_all d given received) (append-nil views)) ∙ c.loop-next.invariant.judged d given received [] none2

pub returns-clause-closures : goal.returns-clause-closures
returns-clause-closures c =
    let g = c.args.graph.now in
    let left = c.loop-next.left.items in
    let none : left ≡ [] = none-left left (omega (arith, c.in_default.ensures.cases.0, c.loop-next.left.ok.0)) in
    let none2 : listed_closures [] ≡ reverse (closures_at g.yielders left) = sym (ap (λ (zs : List ℕ). reverse (closures_at g.yielders zs)) none) in
    sym (ap listed_closures (append-nil c.loop-next.views.items)) ∙ c.loop-next.invariant.closures [] none2
