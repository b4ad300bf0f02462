use Rattle.std.proofs.Common.{subst}
use Rattle.action_terms.specs.Numbering.{Listed}
use Rattle.action_terms.specs.Meaning.{action_of}
use Rattle.action_terms.specs.Proper.{IsProper}
use Rattle.action_terms.specs.Literals.{NumbersFit}
use Rattle.action_terms.proofs.NumberLaws.{numbers-fit}
use Rattle.action_terms.proofs.ProperGraphs.{proper-graph}
use Rattle.action_terms.proofs.graph.Graph.nodes.Goals as goal

pub returns-clause-proper : goal.returns-clause-proper
returns-clause-proper c =
    let P : Listed → Type 0 = λ g. IsProper (action_of g) in
    subst P c.self.view_is (proper-graph _ c.self.invariant.of_an_action)

pub returns-clause-numbers : goal.returns-clause-numbers
returns-clause-numbers c =
    let P : Listed → Type 0 = λ g. NumbersFit (action_of g) in
    subst P c.self.view_is (numbers-fit _ c.self.invariant.numbers)
