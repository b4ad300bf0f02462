use Rattle.std.proofs.Common.{◌≡◌, ◌∙◌, sym, ap, map, length, take_all, arith}
use Rattle.action_terms.specs.Pushed.{label_of}
use Rattle.action_text.proofs.PreorderWalk.{length_mapped}
use Rattle.action_text.proofs.action_reader.build.Goals as goal

pub returns-clause-stray : goal.returns-clause-stray
returns-clause-stray c node stray =
    let whole : c.loop-label.builder ≡ map label_of c.args.labels.now =
    c.loop-label.invariant.pushed ∙ ap (map label_of) (take_all c.loop-label.label-index c.args.labels.now c.loop-label-test.false) in (
      omega (arith, c.loop-label.invariant.few, ap length whole, length_mapped label_of c.args.labels.now),
      λ t is e. c.seal.ensures.stray node stray t is (e ∙ sym whole),
    )
