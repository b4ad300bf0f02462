use Rattle.rv_codegen.proofs.Emitting.{start-fresh, opened}
use Rattle.rv_codegen.proofs.entries.append_opening.Goals as goal

pub place-requires-2-clause-once : goal.place-requires-2-clause-once
place-requires-2-clause-once c =
    start-fresh c.args.asm.now c.place.new.self c.args.k c.front.result c.start.result c.requires.fresh c.place.ensures c.front.ensures c.start.ensures

pub returns : goal.returns
returns c =
    opened c.args.asm.now c.place.new.self c.args.k c.front.result c.start.result c.requires.fresh c.place.ensures c.front.ensures c.start.ensures c.place-2.new.self c.place-2.ensures
