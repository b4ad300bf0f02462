use Rattle.std.proofs.Common.{◌≡◌, map, vec_len}
use Rattle.std.specs.List.{range_with_len}
use Rattle.action_terms.specs.Meaning.{action_of}
use Rattle.frame_layout.specs.Places.{placed_node}
use Rattle.rv_codegen.specs.Aliases.{given_in, lists_of, out_in, place_at}
use Rattle.rv_codegen.proofs.HandedTables.{AreHandedBelow}
use Rattle.rv_codegen.proofs.data_tables.data_tables.Given as goal

-- the own words of the nodes so far
abbrev pub invariant-loop-node : goal.invariant-loop-node
invariant-loop-node l =
    let p = place_at (map placed_node l.places) in
    record {
      given : lists_of l.given.items ≡ map (λ k. (p k).data_in) (range_with_len 0 l.node);
      out : lists_of l.out.items ≡ map (λ k. (p k).data_out) (range_with_len 0 l.node);
      given_len : vec_len l.given ≡ l.node;
      out_len : vec_len l.out ≡ l.node;
    }

-- the parts of the nodes so far have their words
abbrev pub invariant-loop-node-2 : goal.invariant-loop-node-2
invariant-loop-node-2 l =
    let p = place_at (map placed_node l.places) in
    record {
      given : AreHandedBelow (action_of l.graph) (given_in p) (λ k. (p k).data_in) l.node (lists_of l.given.items);
      out : AreHandedBelow (action_of l.graph) (out_in p) (λ k. (p k).data_out) l.node (lists_of l.out.items);
      given_len : vec_len l.given ≡ l.count;
      out_len : vec_len l.out ≡ l.count;
    }
