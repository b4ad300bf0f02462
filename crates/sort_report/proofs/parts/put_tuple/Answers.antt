use Rattle.std.proofs.Common.{codes, arith}
use Rattle.sort_rules.specs.Views.{place_of}
use Rattle.sort_report.specs.Report.{place_text}
use Rattle.sort_report.proofs.SeparatedLaws.{separated-grown, bracketed}
use Rattle.sort_report.proofs.parts.put_tuple.Goals as goal

pub loop-index-preserved : goal.loop-index-preserved
loop-index-preserved c =
    separated-grown _ 44 0 c.loop-index.index (λ s. place_text (place_of s)) c.in-List.sets.now c.loop-index.index c.index-sets-index.result c.index-sets-index.result c.loop-index-test.true (omega arith) c.index-sets-index.is c.loop-index.invariant c.in_ok-put_place.ensures

pub returns : goal.returns
returns c = rw c.in-List.is (bracketed c.args.text.now.items (codes "(") (codes ")") 44 place_text place_of c.in-List.sets.now c.loop-index.index c.loop-index-test.false c.loop-index.invariant c.in_ok-put-2.ensures)
