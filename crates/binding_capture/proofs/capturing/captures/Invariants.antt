use Rattle.std.proofs.Common.{drop, map, ◌++◌, ◌≡◌}
use Rattle.binding_capture.specs.Asked.{tokens_of}
use Rattle.binding_capture.proofs.Found.{found_in}
use Rattle.binding_capture.proofs.capturing.captures.Given as goal

-- the tokens of the first nodes, and those of the nodes that are left
abbrev pub invariant-loop-node : goal.invariant-loop-node
invariant-loop-node l = map (λ ts. tokens_of ts.now) l.tokens.items ++ map found_in (drop l.node l.marked.items) ≡ map found_in l.marked.items
