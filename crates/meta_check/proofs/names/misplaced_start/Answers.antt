use Rattle.std.proofs.Common.{◌∙◌, sym, ap}
use Rattle.meta_check.specs.Rules.{starts_elsewhere}
use Rattle.meta_check.specs.Views.{declarations_of, is_in}
use Rattle.meta_check.proofs.Searching.{holds_all}
use Rattle.meta_check.proofs.SoFar.{declarations_append, no_declaration, none_more}
use Rattle.meta_check.proofs.Starts.{no_start, start_breaks, start_holds}
use Rattle.meta_check.proofs.names.misplaced_start.Goals as goal

pub returns-then-is_start : goal.returns-then-is_start
returns-then-is_start c =
    start_holds c.args.items.now c.loop-number.number c.index-items-number.result c.in-Declaration.declaration c.loop-number-test.true c.index-items-number.is c.in-Declaration.is c.loop-number.invariant.holds c.loop-number.invariant.none
    (sym (c.if-is_start.ensures ∙ ap (λ names. is_in names c.in-Declaration.declaration.nonterminal.now) c.start-start.ensures))

pub returns-in-Declaration : goal.returns-in-Declaration
returns-in-Declaration c =
    start_breaks c.args.items.now c.loop-number.number c.index-items-number.result c.in-Declaration.declaration c.loop-number-test.true c.index-items-number.is c.in-Declaration.is c.loop-number.invariant.holds c.loop-number.invariant.none
    (sym (c.if-is_start.ensures ∙ ap (λ names. is_in names c.in-Declaration.declaration.nonterminal.now) c.start-start.ensures))

pub loop-number-preserved : goal.loop-number-preserved
loop-number-preserved c = record {
  holds = no_start c.args.items.now c.loop-number.number c.index-items-number.result c.loop-number.invariant.holds c.index-items-number.is c.in_default.not-Declaration;
  none = sym (none_more declarations_of declarations_append c.args.items.now c.loop-number.number c.index-items-number.result c.loop-number-test.true c.index-items-number.is
      (no_declaration c.index-items-number.result c.in_default.not-Declaration)) ∙ c.loop-number.invariant.none;
}

pub returns : goal.returns
returns c = holds_all starts_elsewhere c.args.items.now c.loop-number.number c.loop-number.invariant.holds c.loop-number-test.false
