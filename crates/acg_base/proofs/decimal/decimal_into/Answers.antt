use Rattle.std.proofs.Common.{◌≡◌, take, ap, ◌∙◌, rules, arith}
use Rattle.std.proofs.lemmas.Grind.{common_steps}
use Rattle.acg_base.specs.Decimals.{decimal_of, spelled_i64}
use Rattle.acg_base.proofs.DecimalLemmas.{decimals}
use Rattle.acg_base.proofs.SpellingLemmas.{spelled_i64-decimal_of}
use Rattle.acg_base.proofs.decimal.decimal_into.Goals as goal

pub returns-then-value-ge0-clause-read_back : goal.returns-then-value-ge0-clause-read_back
returns-then-value-ge0-clause-read_back c =
    let written : take c.write_digits.result c.write_digits.new.out ≡ decimal_of c.args.value = search rules in
    ap spelled_i64 written ∙ spelled_i64-decimal_of c.args.value c.ranges.value

pub returns-clause-read_back : goal.returns-clause-read_back
returns-clause-read_back c =
    let written : take c.write_digits-2.result c.write_digits-2.new.out ≡ decimal_of c.args.value = first_of (grind (arith, common_steps), grind (arith, decimals)) in
    ap spelled_i64 written ∙ spelled_i64-decimal_of c.args.value c.ranges.value
