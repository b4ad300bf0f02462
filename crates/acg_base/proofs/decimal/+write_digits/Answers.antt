use Rattle.std.proofs.Common.{◌+◌, ◌/◌, ◌%◌, ◌<◌, [], ◌∷◌, ◌++◌, length, take, sym, ap, ◌∙◌, arith, append_assoc}
use Rattle.std.proofs.lemmas.List.{take_more_set}
use Rattle.acg_base.specs.Decimals.{unsigned_decimal_of}
use Rattle.acg_base.proofs.DecimalLemmas.{unsigned_decimal_of-digit, unsigned_decimal_of-step, length-unsigned_decimal_of-digit, length-unsigned_decimal_of-step}
use Rattle.acg_base.proofs.decimal.+write_digits.Goals as goal

pub returns-then-value-lt10-clause-written : goal.returns-then-value-lt10-clause-written
returns-then-value-lt10-clause-written t c =
    let room : c.args.start < length c.args.out.now = omega (arith, length-unsigned_decimal_of-digit c.args.value c.if-value-lt10.true) in
    take_more_set c.args.out.now c.args.start (48 + c.args.value) room
    ∙ ap (λ digits. take c.args.start c.args.out.now ++ digits) (sym (unsigned_decimal_of-digit c.args.value c.if-value-lt10.true))

pub returns-clause-written : goal.returns-clause-written
returns-clause-written t c =
    let last = 48 + c.args.value % 10 in
    let room : c.write_digits-place.result < length c.write_digits-place.new.out =
    omega (arith, length-unsigned_decimal_of-step c.args.value c.if-value-lt10.false) in
    take_more_set c.write_digits-place.new.out c.write_digits-place.result last room
    ∙ ap (λ bytes. bytes ++ last ∷ []) c.write_digits-place.ensures.written
    ∙ append_assoc (take c.args.start c.args.out.now) (unsigned_decimal_of (c.args.value / 10)) (last ∷ [])
    ∙ ap (λ digits. take c.args.start c.args.out.now ++ digits) (sym (unsigned_decimal_of-step c.args.value c.if-value-lt10.false))
