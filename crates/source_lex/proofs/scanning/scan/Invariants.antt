use Rattle.std.proofs.Common.{◌≡◌, ℕ, ◌-◌, ◌≤◌, length, map}
use Rattle.gram_form.specs.Plain.{texts}
use Rattle.meta_lex.specs.Tokens.{after_blanks}
use Rattle.source_lex.specs.Lexemes.{Reads, plain_lexeme}
use Rattle.source_lex.proofs.scanning.scan.Given as goal

abbrev pub invariant-loop-at : goal.invariant-loop-at
invariant-loop-at l =
    (to : ℕ) × Reads (texts l.literals.texts.keys) l.text 0 (map plain_lexeme l.list.items) to
    × (after_blanks l.text to ≡ l.at) × (l.at ≤ length l.text)

abbrev pub decreases-loop-at : goal.decreases-loop-at
decreases-loop-at l = length l.text - l.at
