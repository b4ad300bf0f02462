use Rattle.std.proofs.Common.{drop, ◌++◌, ◌≡◌}
use Rattle.binding_capture.specs.Asked.{tokens_of}
use Rattle.binding_capture.specs.Captures.{asked_of, marked_of}
use Rattle.binding_capture.proofs.marking.marked_tokens.Given as goal

-- those of the first tokens, and of those that are left
abbrev pub invariant-loop-i : goal.invariant-loop-i
invariant-loop-i l = tokens_of l.tokens.items ++ asked_of (marked_of (drop l.i l.candidates)) ≡ asked_of (marked_of l.candidates)
