use Rattle.std.proofs.Common.{◌≡◌, List, true, Contains, arith, ◌&&◌, nat_eq, subst, sym}
use Rattle.std.proofs.lemmas.Bool.Decides.{nat_tests}
use Rattle.std.specs.List.{list_any}
use Rattle.indexmap.proofs.CallerLemmas.{Contains-insert_key}
use Rattle.tree_pick.specs.declared.phrases.Span.{Span}
use Rattle.tree_pick.specs.Longer.{IsLonger}
use Rattle.tree_pick.proofs.Longer.{longer_one, only_one}
use Rattle.tree_pick.specs.contracts.phrases.SpanPartialEq as eq
use Rattle.tree_pick.proofs.walking.add.Goals as goal

same_span : (x y : Span) → eq.TheImpl.eq-value.it x y ≡ true → x ≡ y
same_span x y h = let f : (nat_eq x.nonterm y.nonterm && (nat_eq x.start y.start && nat_eq x.end y.end)) ≡ true = h in let a : x.nonterm ≡ y.nonterm = grind (arith, nat_tests) in let b : x.start ≡ y.start = grind (arith, nat_tests) in let e : x.end ≡ y.end = grind (arith, nat_tests) in λ t. record { nonterm = a t; start = b t; end = e t }

pub returns-clause-there : goal.returns-clause-there
returns-clause-there c = subst (λ (l : List Span). Contains l c.args.phrase) (sym c.in_ok-insert.ensures.keys) (Contains-insert_key eq.TheImpl.eq-value.it same_span c.args.seen.now.keys c.args.phrase)

pub returns-clause-only : goal.returns-clause-only
returns-clause-only c = λ x h. only_one (list_any (eq.TheImpl.eq-value.it c.args.phrase) c.args.seen.now.keys) c.args.seen.now.keys c.args.phrase x (subst (λ (l : List Span). Contains l x) c.in_ok-insert.ensures.keys h)

pub returns-clause-longer : goal.returns-clause-longer
returns-clause-longer c = subst (IsLonger c.args.seen.now.keys) (sym c.in_ok-insert.ensures.keys) (longer_one (list_any (eq.TheImpl.eq-value.it c.args.phrase) c.args.seen.now.keys) c.args.seen.now.keys c.args.phrase)
