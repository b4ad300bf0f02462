use Rattle.std.proofs.Common.{codes, arith}
use Rattle.sort_rules.specs.Views.{pair_of}
use Rattle.sort_report.specs.Report.{binding_text}
use Rattle.sort_report.proofs.SeparatedLaws.{separated-grown, bracketed}
use Rattle.sort_report.proofs.parts.put_binds.Goals as goal

pub loop-index-preserved : goal.loop-index-preserved
loop-index-preserved c =
    separated-grown _ 44 0 c.loop-index.index (λ p. binding_text (pair_of p)) c.in-Map.pairs.now c.loop-index.index c.index-pairs-index.result c.index-pairs-index.result c.loop-index-test.true (omega arith) c.index-pairs-index.is c.loop-index.invariant c.in_ok-put_binding.ensures

pub returns : goal.returns
returns c = rw c.in-Map.is (bracketed c.args.text.now.items (codes "{") (codes "}") 44 binding_text pair_of c.in-Map.pairs.now c.loop-index.index c.loop-index-test.false c.loop-index.invariant c.in_ok-put-2.ensures)
