use Rattle.std.proofs.Common.{◌≡◌, map, drop}
use Rattle.action_text.specs.Classes.{class_among, spelled_class}
use Rattle.action_text.proofs.token_class.class_among.Given as goal

abbrev pub invariant-loop-class : goal.invariant-loop-class
invariant-loop-class l = class_among (map spelled_class l.words) l.bytes ≡ class_among (map spelled_class (drop l.class-index l.words)) l.bytes
