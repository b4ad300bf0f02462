use Rattle.std.proofs.Common.{◌≡◌, drop, map}
use Rattle.frame_layout.specs.Places.{frame_of}
use Rattle.rv_codegen.specs.Aliases.{words_at}
use Rattle.rv_codegen.proofs.room.main_words.Given as goal

-- the frame isn't among those so far
abbrev pub invariant-loop-procedure : goal.invariant-loop-procedure
invariant-loop-procedure l = words_at (map frame_of (drop l.procedure-index l.layout.procedures.now)) 0 ≡ words_at (map frame_of l.layout.procedures.now) 0
