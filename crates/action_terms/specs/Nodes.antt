-- What contracts see of the nodes in memory.
use Rattle.std.specs.Prelude.{List, map}
use Rattle.action_terms.specs.declared.graph.Node.{Node}
use Rattle.action_terms.specs.declared.graph.YNode.{YNode}
use Rattle.action_terms.specs.Numbering.{ListedNode, ListedYielder, Listed}

-- an action node without where its lists lie
abbrev pub listed_node : Node → ListedNode
listed_node n = record { kind = n.kind; token = n.token.now; children = n.children.now; operands = map (λ o. o.now) n.operands.now; body = n.body }

-- a yielder without where its lists lie
abbrev pub listed_yielder : YNode → ListedYielder
listed_yielder y = record { kind = y.kind; token = y.token.now; children = y.children.now; body = y.body }

-- nodes and yielders that lie in memory, as a graph
abbrev pub listed_graph : List Node → List YNode → Listed
listed_graph nodes yielders = record { nodes = map listed_node nodes; yielders = map listed_yielder yielders }
