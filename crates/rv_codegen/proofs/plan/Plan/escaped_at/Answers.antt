use Rattle.std.proofs.Common.{ℕ, List, [], subst, arith}
use Rattle.std.specs.Borrow.{Bor}
use Rattle.std.proofs.lemmas.List.{get_or-map}
use Rattle.rv_codegen.specs.ItemCode.{AreReached}
use Rattle.rv_codegen.proofs.plan.Plan.escaped_at.Goals as goal

pub returns-clause-reached : goal.returns-clause-reached
returns-clause-reached c = subst AreReached (get_or-map (λ (y : Bor (List ℕ)). y.now) c.args.self.escaped.now c.args.k _ [] (omega (arith, c.requires, c.args.self.escaped_count))) (c.args.self.escaped_reached c.args.k)
