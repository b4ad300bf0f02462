use Rattle.std.proofs.Common.{sym, ◌∙◌, arith}
use Rattle.meta_lex.proofs.Longest.{hyphen_none, signed_longest, unsigned_longest}
use Rattle.meta_lex.proofs.lex.number_len.Goals as goal
use Rattle.meta_lex.proofs.lex.number_len.Goals.{else-first-eq45-via-then-first-eq45+else-count-eq0, else-first-eq45-via-else-first-eq45}

pub returns-then-count-eq0 : goal.returns-then-count-eq0
returns-then-count-eq0 c =
    hyphen_none c.args.first c.args.after.now c.requires.begins c.if-first-eq45.true (sym c.digits-count.ensures.value ∙ c.if-count-eq0.true)

pub returns-else-first-eq45 : goal.returns-else-first-eq45
returns-else-first-eq45 c =
    rw c.digits-count.ensures.value
    (elim c.else-first-eq45.branch [
      | else-first-eq45-via-then-first-eq45+else-count-eq0 w ↦ signed_longest c.args.first c.args.after.now w.if-first-eq45.true (omega (arith, c.digits-count.ensures.value, w.if-count-eq0.false))
      | else-first-eq45-via-else-first-eq45 w ↦ unsigned_longest c.args.first c.args.after.now c.requires.begins w.if-first-eq45.false
    ])
