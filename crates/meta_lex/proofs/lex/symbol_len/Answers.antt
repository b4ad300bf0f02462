use Rattle.std.proofs.Common.{◌≡◌, ℕ, ◌<◌, false, ◌==◌, length, sym, ◌∙◌, arith}
use Rattle.std.proofs.lemmas.Bool.{eqb-true}
use Rattle.std.proofs.lemmas.Bool.Decides.{nat_tests}
use Rattle.meta_lex.proofs.Symbols.{single_longest, pair_longest, symbol_none}
use Rattle.meta_lex.proofs.lex.symbol_len.Goals as goal
use Rattle.meta_lex.proofs.lex.symbol_len.Goals.{else-is_bracket-via-then-is_bracket+then-not-is_empty+else-after-first, else-is_bracket-via-then-is_bracket+else-not-is_empty, else-is_bracket-via-else-is_bracket}

some_bytes : (n : ℕ) → (n == 0) ≡ false → 0 < n
some_bytes n h = grind (arith, nat_tests)

pub returns-then-is_single : goal.returns-then-is_single
returns-then-is_single c = single_longest c.args.first c.args.after.now (sym c.is_single.ensures ∙ c.if-is_single.true)

pub returns-then-after-first : goal.returns-then-after-first
returns-then-after-first c =
    pair_longest c.args.first c.args.after.now (sym c.is_bracket.ensures ∙ c.if-is_bracket.true)
    (some_bytes (length c.args.after.now) (sym c.is_empty.ensures ∙ c.if-not-is_empty.true)) c.if-after-first.true

pub returns-else-is_bracket : goal.returns-else-is_bracket
returns-else-is_bracket c =
    symbol_none c.args.first c.args.after.now c.requires.begins (sym c.is_single.ensures ∙ c.if-is_single.false)
    (λ bracket some same. elim c.else-is_bracket.branch [
      | else-is_bracket-via-then-is_bracket+then-not-is_empty+else-after-first w ↦ w.if-after-first.false same
      | else-is_bracket-via-then-is_bracket+else-not-is_empty w ↦ absurd (omega (arith, eqb-true (length c.args.after.now) 0 (sym w.is_empty.ensures ∙ w.if-not-is_empty.false)))
      | else-is_bracket-via-else-is_bracket w ↦ cc
    ])
