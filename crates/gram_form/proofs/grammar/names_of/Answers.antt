use Rattle.std.proofs.Common.{◌∙◌, ◌≤◌, ap, map, length, arith}
use Rattle.std.specs.List.{list_any}
use Rattle.std.specs.Str.{bytes_eq}
use Rattle.std.proofs.lemmas.List.{take_all}
use Rattle.gram_form.specs.Plain.{plain_production}
use Rattle.gram_form.specs.Grammars.{names_of}
use Rattle.gram_form.proofs.KeyTexts.{name_count}
use Rattle.gram_form.proofs.OrderedTexts.{name-noted}
use Rattle.gram_form.proofs.grammar.names_of.Goals as goal

pub loop-production-preserved : goal.loop-production-preserved
loop-production-preserved c =
    name-noted c.loop-production.names.keys c.insert.new.self.keys c.args.list.now c.loop-production.production-index _ c.loop-production-test.true c.in_ok-insert.ensures.keys c.loop-production.invariant

pub returns : goal.returns
returns c = λ name.
    let past : length (names_of (map plain_production c.args.list.now)) ≤ c.loop-production.production-index = omega (arith, name_count c.args.list.now, c.loop-production-test.false) in
    c.loop-production.invariant name ∙ ap (list_any (bytes_eq name)) (take_all c.loop-production.production-index (names_of (map plain_production c.args.list.now)) past)
