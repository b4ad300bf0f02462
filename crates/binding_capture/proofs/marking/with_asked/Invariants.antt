use Rattle.std.proofs.Common.{drop, ◌++◌, ◌≡◌}
use Rattle.binding_capture.specs.Asked.{tokens_of}
use Rattle.binding_capture.specs.Captures.{marked_of, with_asked}
use Rattle.binding_capture.proofs.marking.with_asked.Given as goal

-- the first tokens, and those that are left
abbrev pub invariant-loop-i : goal.invariant-loop-i
invariant-loop-i l = marked_of l.marked.items ++ with_asked (tokens_of l.asked) (marked_of (drop l.i l.candidates)) ≡ with_asked (tokens_of l.asked) (marked_of l.candidates)
