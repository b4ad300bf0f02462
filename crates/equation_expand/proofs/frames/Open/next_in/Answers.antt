use Rattle.std.proofs.Common.{Option, subst}
use Rattle.std.specs.Prelude.{IfSome}
use Rattle.equation_expand.specs.Frames.{IsUnder}
use Rattle.equation_expand.specs.PlainSources.{plain_source}
use Rattle.equation_expand.specs.Seen.{IsFilled, node_meaning}
use Rattle.equation_expand.specs.Sources.{PlainSource}
use Rattle.equation_expand.specs.declared.filled.Filled.{Filled}
use Rattle.equation_expand.proofs.NextNodes.{next-item, next-large, next-misfit}
use Rattle.equation_expand.proofs.frames.Open.next_in.Goals as goal

pub unreachable-requires : goal.unreachable-requires
unreachable-requires c =
    let s : PlainSource = plain_source c.args.source.now in
    let o = c.args.self.now in
    let x = c.in-Some.node.now in
    let got = c.in-Some.ensures.lookup in
    c.requires.fit (next-misfit s o x got.3.0 got.1 (subst (λ (i : Option Filled). IsFilled s (node_meaning s o.equation o.tree.now x) i) c.in-Ok-None.field-0-is c.in-Ok-None.ensures.filled))

pub returns-in-Ok-Some-clause-next : goal.returns-in-Ok-Some-clause-next
returns-in-Ok-Some-clause-next c =
    let s : PlainSource = plain_source c.args.source.now in
    let o = c.args.self.now in
    let x = c.in-Some.node.now in
    let got = c.in-Some.ensures.lookup in
    next-item s o x c.in-Ok-Some.item got.3.0 got.1
    (subst (λ (i : Option Filled). IsFilled s (node_meaning s o.equation o.tree.now x) i) c.in-Ok-Some.field-0-is c.in-Ok-Some.ensures.filled)
    (subst (λ (i : Option Filled). IfSome i (IsUnder o.tree.now)) c.in-Ok-Some.field-0-is c.in-Ok-Some.ensures.under)

pub returns-in-Err-clause-large : goal.returns-in-Err-clause-large
returns-in-Err-clause-large c =
    let got = c.in-Some.ensures.lookup in
    next-large (plain_source c.args.source.now) c.args.self.now c.in-Some.node.now c.in-Err.error got.3.0 got.1 c.in-Err.ensures.large
