use Rattle.std.proofs.Common.{◌+◌, map, length, codes, ap, sym}
use Rattle.std.proofs.lemmas.List.{length-map}
use Rattle.sort_report.specs.Report.{numbered, words_of}
use Rattle.sort_report.proofs.SeparatedLaws.{separated-three}
use Rattle.sort_report.proofs.parts.put_set.Goals as goal

pub returns : goal.returns
returns c =
    let set = c.args.set in
    let cells = map (numbered (codes "cell@")) set.cells.now in
    let closures = map (numbered (codes "abstraction@")) set.abstractions.now in
    separated-three c.args.text.now.items (words_of set.integer set.truth) cells closures 124 c.in_ok-words.words (c.in_ok-words.words + length set.cells.now)
    c.in_ok-words.ensures.count (ap (λ n. c.in_ok-words.words + n) (sym (length-map set.cells.now (numbered (codes "cell@")))))
    c.in_ok-words.ensures.text c.in_ok-put_numbered.ensures c.in_ok-put_numbered-2.ensures
