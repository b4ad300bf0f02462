use Rattle.equation_expand.specs.Frames.{AreDone, Stand}
use Rattle.equation_expand.specs.PlainSources.{plain_source}
use Rattle.equation_expand.specs.Sources.{expansion_of}
use Rattle.equation_expand.proofs.covering.cover.Given as goal

abbrev pub invariant-loop : goal.invariant-loop
invariant-loop l = record {
  stand : Stand (plain_source l.source) (expansion_of (plain_source l.source)) l.stack.items;
  done : AreDone (plain_source l.source) l.done.keys;
}
