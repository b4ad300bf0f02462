use Rattle.tree_pick.proofs.BuiltParts.{leaf_pieces}
use Rattle.tree_pick.proofs.building.build_leaf.Goals as goal

pub build_parts-requires-clause-has : goal.build_parts-requires-clause-has
build_parts-requires-clause-has c =
    let gr = c.args.parse.now.grammar in
    let w = c.args.parse.now.kinds in
    leaf_pieces gr w c.args.phrase.nonterm c.args.phrase.start c.args.phrase.end c.args.leaf c.alternative-parts.result.now c.alternative-parts.ensures c.requires.fits
