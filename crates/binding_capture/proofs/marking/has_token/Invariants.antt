use Rattle.std.proofs.Common.{drop, ◌≡◌}
use Rattle.sort_rules.specs.Measures.{has_token}
use Rattle.binding_capture.specs.Asked.{tokens_of}
use Rattle.binding_capture.proofs.marking.has_token.Given as goal

-- none of the first tokens is this one
abbrev pub invariant-loop-i : goal.invariant-loop-i
invariant-loop-i l = has_token l.token (tokens_of (drop l.i l.tokens)) ≡ has_token l.token (tokens_of l.tokens)
