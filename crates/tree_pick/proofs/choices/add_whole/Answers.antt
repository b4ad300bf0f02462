use Rattle.std.proofs.Common.{◌≡◌, ◌∙◌, true, false, sym}
use Rattle.chart_parse.specs.Growths.{HasPieces}
use Rattle.tree_pick.proofs.FoundChoices.{whole_other, whole_none, whole_one}
use Rattle.tree_pick.proofs.choices.add_whole.Goals as goal

pub returns-then-production-into : goal.returns-then-production-into
returns-then-production-into c x =
    let gr = c.args.parse.now.grammar in
    let w = c.args.parse.now.kinds in
    whole_other gr w c.args.production c.args.alternative c.args.into.nonterm c.args.into.end (HasPieces gr w c.args.rest.now c.args.at) c.args.found.now.items x c.requires.stays c.if-production-into.true

pub returns-then-not-branch : goal.returns-then-not-branch
returns-then-not-branch c x =
    let gr = c.args.parse.now.grammar in
    let w = c.args.parse.now.kinds in
    whole_none gr w c.args.production c.args.alternative c.args.into.nonterm c.args.into.end (HasPieces gr w c.args.rest.now c.args.at) c.args.found.now.items x c.requires.stays
    (λ has. let t : true ≡ false = sym (c.in_ok-reaches.ensures.1 has) ∙ c.if-not-branch.true in cc)

pub returns : goal.returns
returns c x =
    let gr = c.args.parse.now.grammar in
    let w = c.args.parse.now.kinds in
    whole_one gr w c.args.production c.args.alternative c.args.into.nonterm c.args.into.end (HasPieces gr w c.args.rest.now c.args.at) c.args.found.now.items c.push.new.self.items x c.requires.stays c.if-production-into.false
    (c.in_ok-reaches.ensures.0 c.if-not-branch.false) c.in_ok-push.ensures.items
