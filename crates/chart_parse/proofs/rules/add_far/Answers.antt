use Rattle.std.proofs.Common.{◌≡◌, ◌∙◌, ◌≤◌, ◌<◌, ◌+◌, ℕ, List, Contains, true, false, length, sym, ap, subst, arith}
use Rattle.chart_parse.specs.Rows.{Has}
use Rattle.chart_parse.specs.Growths.{Stays}
use Rattle.chart_parse.specs.Places.{Places, grammar_of, row_at, RunsTo}
use Rattle.chart_parse.proofs.EndsOfParts.{run_within}
use Rattle.chart_parse.proofs.NearRows.{row_is}
use Rattle.chart_parse.proofs.Rounds.{end_right, near_or_far}
use Rattle.chart_parse.proofs.rules.add_far.Goals as goal

pub add_itself-requires-clause-right : goal.add_itself-requires-clause-right
add_itself-requires-clause-right c e le h =
    let g = grammar_of c.args.site.source.now in
    let w = c.args.site.source.now.kinds.now in
    let run = subst (λ (p : Places). RunsTo g w p c.args.parts.now c.args.site.place e) c.deref.ensures.value ((c.in_ok-ends.ensures.ends e le).0 (subst (λ (r : List ℕ). Has r e) c.deref-2.ensures.value h)) in
    end_right g w c.args.places.now.items c.args.site.place c.args.nonterminal c.args.parts.now c.args.into e c.requires.part run c.requires.right c.args.nonterminal e Stays

pub difference-requires-clause-len : goal.difference-requires-clause-len
difference-requires-clause-len c =
    let lt : c.args.nonterminal < length c.args.site.near.now = omega (arith, c.requires.near.count, c.requires.nonterminal) in
    ap length c.deref-4.ensures.value ∙ sym (ap length (row_is c.args.site.near.now c.args.nonterminal c.index-site-nonterminal.result lt))
    ∙ c.requires.near.wide c.args.nonterminal c.requires.nonterminal ∙ sym (ap length c.deref-3.ensures.value ∙ c.in_ok-ends.ensures.len)

pub add_growths-requires-clause-within : goal.add_growths-requires-clause-within
add_growths-requires-clause-within c l h =
    let x = (c.in_ok-far.ensures l).0 (subst (λ (t : List ℕ). Contains t l) c.deref-5.ensures.value h) in
    (let lt = x.0 in omega arith)

pub add_growths-requires-clause-right : goal.add_growths-requires-clause-right
add_growths-requires-clause-right c l n e h more =
    let g = grammar_of c.args.site.source.now in
    let w = c.args.site.source.now.kinds.now in
    let x = (c.in_ok-far.ensures l).0 (subst (λ (t : List ℕ). Contains t l) c.deref-5.ensures.value h) in
    let le : l ≤ length w = (let lt = x.0 in omega arith) in
    let run = subst (λ (p : Places). RunsTo g w p c.args.parts.now c.args.site.place l) c.deref.ensures.value ((c.in_ok-ends.ensures.ends l le).0 (subst (λ (r : List ℕ). Has r l) c.deref-3.ensures.value x.1)) in
    end_right g w c.args.places.now.items c.args.site.place c.args.nonterminal c.args.parts.now c.args.into l c.requires.part run c.requires.right n e more

pub returns-clause-follows : goal.returns-clause-follows
returns-clause-follows c l n e run x =
    let g = grammar_of c.args.site.source.now in
    let w = c.args.site.source.now.kinds.now in
    let old : Places = c.args.places.now.items in
    let mid : Places = c.add_itself.new.places.items in
    let new : Places = c.add_growths.new.places.items in
    let k : ℕ = c.args.site.place in
    let d : ℕ = c.args.into in
    let m : ℕ = c.args.nonterminal in
    let near = c.args.site.near.now in
    let lt : m < length near = omega (arith, c.requires.near.count, c.requires.nonterminal) in
    let row : c.deref-4.result.now ≡ row_at near m = c.deref-4.ensures.value ∙ sym (row_is near m c.index-site-nonterminal.result lt) in
    let within : l ≤ length w = run_within g w old c.args.parts.now k l c.requires.into.0 run in
    let has : Has c.in_ok-ends.ends.items l = (c.in_ok-ends.ensures.ends l within).1 (subst (λ (p : Places). RunsTo g w p c.args.parts.now k l) (sym c.deref.ensures.value) run) in
    near_or_far g w old new k m d l n e (k + 1) near c.requires.near within
    (c.in_ok-more.ensures.added.kept k d m l (c.in_ok-itself.ensures.has l within (subst (λ (r : List ℕ). Has r l) (sym c.deref-2.ensures.value) has)))
    (λ no y.
    let far = (c.in_ok-far.ensures l).1 (omega (arith, within), subst (λ (r : List ℕ). Has r l) (sym c.deref-3.ensures.value) has, λ z. no (subst (λ (r : List ℕ). Has r l) row z)) in
    c.in_ok-more.ensures.has l n e (subst (λ (t : List ℕ). Contains t l) (sym c.deref-5.ensures.value) far) (c.in_ok-itself.ensures.added.kept l m n e y))
    x
