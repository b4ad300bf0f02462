use Rattle.std.proofs.Common.{drop, map}
use Rattle.action_terms.specs.Entries.{entry_of, Links}
use Rattle.action_terms.proofs.linking.link_all.Given as goal

abbrev pub invariant-loop-i : goal.invariant-loop-i
invariant-loop-i l = Links (map entry_of (drop l.i l.entered)) l.linker
