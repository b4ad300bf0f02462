use Rattle.std.proofs.Common.{arith, get_or, ◌∙◌}
use Rattle.frame_layout.specs.Places.{frame_of}
use Rattle.rv_codegen.proofs.FrameWords.{words-procedure}
use Rattle.rv_codegen.proofs.PuttingPlaces.{member-at, no_procedure}
use Rattle.rv_codegen.proofs.node_places.frame_words.Goals as goal

pub put_words-requires : goal.put_words-requires
put_words-requires c = λ n m.
    let i = c.loop-procedure.procedure-index in
    let below = c.requires (frame_of (get_or c.args.layout.now.procedures.now i no_procedure)) n (member-at frame_of c.args.layout.now.procedures.now i no_procedure c.loop-procedure-test.true) m in
    omega (arith, below, c.loop-procedure.invariant.len)

pub loop-procedure-preserved : goal.loop-procedure-preserved
loop-procedure-preserved c = record {
  len = c.put_words.ensures.len ∙ c.loop-procedure.invariant.len;
  rest = words-procedure c.args.layout.now.procedures.now c.loop-procedure.list.items c.put_words.new.list.items c.loop-procedure.procedure-index no_procedure c.loop-procedure-test.true c.put_words.ensures.words ∙ c.loop-procedure.invariant.rest;
}
