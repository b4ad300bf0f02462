use Rattle.std.proofs.Common.{◌≡◌, ℕ, ◌-◌, ◌≤◌, length, map}
use Rattle.meta_lex.specs.Tokens.{Reads, after_blanks, plain_token}
use Rattle.meta_lex.proofs.lex.tokens.Given as goal

abbrev pub invariant-loop-at : goal.invariant-loop-at
invariant-loop-at l =
    (to : ℕ) × Reads l.text 0 (map plain_token l.list.items) to × (after_blanks l.text to ≡ l.at) × (l.at ≤ length l.text)

abbrev pub decreases-loop-at : goal.decreases-loop-at
decreases-loop-at l = length l.text - l.at
