use Rattle.std.proofs.Common.{ap, arith, length, map, ◌<◌, ◌≡◌, ◌∷◌, []}
use Rattle.action_terms.specs.Actions.{node_at}
use Rattle.action_terms.specs.Meaning.{action_of}
use Rattle.sort_rules.specs.Procedures.{parts_at}
use Rattle.frame_layout.specs.Places.{placed_node}
use Rattle.rv_codegen.specs.Aliases.{out_in, list_at, lists_of, place_at}
use Rattle.rv_codegen.proofs.HandedTables.{one-passed, read-list, two-passed}
use Rattle.rv_codegen.proofs.data_tables.pass_outs.Goals as goal
use Rattle.rv_codegen.proofs.data_tables.pass_outs.Goals.{in-Both, in-Both-2, in-Both-3, in-Both-4, in-Both-5}

pub returns-in-Furthermore-clause-outs : goal.returns-in-Furthermore-clause-outs
returns-in-Furthermore-clause-outs c =
    let xs = c.args.outs.now.items in
    let n = node_at (action_of c.args.graph.now) c.args.node in
    let less : c.args.node < length xs = omega (arith, c.requires.node, c.requires.len, c.args.outs.now.ok.0) in
    let read = read-list xs c.args.node c.index-wanted.result.now less c.index-wanted.ensures in
    one-passed xs (parts_at n) c.in-Furthermore.part c.out_of_part.result (out_in (place_at (map placed_node c.args.places.now)) n (list_at (lists_of xs) c.args.node)) (ap parts_at c.in-Furthermore.ensures.node) (cc (c.out_of_part.ensures, read))

pub returns-in-Both-clause-outs : goal.returns-in-Both-clause-outs
returns-in-Both-clause-outs c =
    let xs = c.args.outs.now.items in
    let n = node_at (action_of c.args.graph.now) c.args.node in
    let less : c.args.node < length xs = omega (arith, c.requires.node, c.requires.len, c.args.outs.now.ok.0) in
    let read = read-list xs c.args.node c.index-wanted.result.now less c.index-wanted.ensures in
    let parts : parts_at n ≡ c.in-Both-1.left ∷ c.in-Both-1.right ∷ [] = elim c.in-Both-1.branch [
      | in-Both w ↦ cc (ap parts_at w.in-Both.ensures.node, w.left-is, w.right-is)
      | in-Both-2 w ↦ cc (ap parts_at w.in-Both.ensures.node, w.left-is, w.right-is)
      | in-Both-3 w ↦ cc (ap parts_at w.in-Both.ensures.node, w.left-is, w.right-is)
      | in-Both-4 w ↦ cc (ap parts_at w.in-Both.ensures.node, w.left-is, w.right-is)
      | in-Both-5 w ↦ cc (ap parts_at w.in-Both.ensures.node, w.left-is, w.right-is)
    ] in
    two-passed xs (parts_at n) _ _ c.out_of_part-in-Both.result c.out_of_part-in-Both-2.result (out_in (place_at (map placed_node c.args.places.now)) n (list_at (lists_of xs) c.args.node)) parts
    (cc (c.out_of_part-in-Both.ensures, read)) (cc (c.out_of_part-in-Both-2.ensures, read))
