use Rattle.std.proofs.Common.{◌≡◌, length, vec_len, drop}
use Rattle.action_terms.specs.Meaning.{action_of}
use Rattle.rv_codegen.specs.Blocks.{exits_from, exits_of}
use Rattle.rv_codegen.proofs.exits.make_exits.Given as goal

-- what is left to do leads to the exits of the whole
abbrev pub invariant-loop-k : goal.invariant-loop-k
invariant-loop-k l = record {
  len : vec_len l.exits ≡ length l.graph.nodes;
  rest : exits_from l.k (drop l.k (action_of l.graph)) l.exits.items ≡ exits_of (action_of l.graph);
}
