use Rattle.std.proofs.Common.{◌∙◌, ap, get_or, arith}
use Rattle.meta_lex.proofs.QuotedTexts.{quoted_longest, quoted_none}
use Rattle.meta_lex.proofs.lex.quoted_len.Goals as goal
use Rattle.meta_lex.proofs.lex.quoted_len.Goals.{else-count-gt0-via-then-count-gt0+then-count-after+else-after-count-eq34, else-count-gt0-via-then-count-gt0+else-count-after, else-count-gt0-via-else-count-gt0}

pub returns-then-after-count-eq34 : goal.returns-then-after-count-eq34
returns-then-after-count-eq34 c =
    let count = c.quotable_bytes-count.ensures.value in
    rw count
    (quoted_longest c.args.after.now
    (record { some = omega (arith, count); within = omega (arith, count); quote = rw (← count) c.if-after-count-eq34.true }))

pub returns-else-count-gt0 : goal.returns-else-count-gt0
returns-else-count-gt0 c =
    let count = c.quotable_bytes-count.ensures.value in
    quoted_none c.args.after.now
    (λ ended. elim c.else-count-gt0.branch [
      | else-count-gt0-via-then-count-gt0+then-count-after+else-after-count-eq34 w ↦ w.if-after-count-eq34.false (ap (λ k. get_or c.args.after.now k 0) count ∙ ended.quote)
      | else-count-gt0-via-then-count-gt0+else-count-after w ↦ absurd (omega (arith, count, ended.within))
      | else-count-gt0-via-else-count-gt0 w ↦ absurd (omega (arith, count, ended.some))
    ])
