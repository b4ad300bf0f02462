use Rattle.std.proofs.Common.{◌∙◌, ap}
use Rattle.std.specs.Option.{unwrap_or}
use Rattle.meta_check.proofs.Lookups.{text_found}
use Rattle.meta_check.proofs.numbers.Numbers.number.Goals as goal

pub returns-in-Some : goal.returns-in-Some
returns-in-Some c = ap (λ o. unwrap_or o c.args.self.now.count) (c.in-Some.ensures.value ∙ text_found c.args.name.now c.args.self.now.places.entries)

pub returns-in-None : goal.returns-in-None
returns-in-None c = ap (λ o. unwrap_or o c.args.self.now.count) (c.in-None.ensures.value ∙ text_found c.args.name.now c.args.self.now.places.entries)
