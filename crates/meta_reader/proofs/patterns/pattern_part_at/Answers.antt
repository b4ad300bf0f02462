use Rattle.std.proofs.Common.{Some, None, arith}
use Rattle.meta_terms.specs.PlainItems.{plain_pattern_part}
use Rattle.meta_reader.proofs.PatternParts.{IsBegun, IsNamed, literal_read, unnamed_none, short_none, uncoloned_none, named_read}
use Rattle.meta_reader.proofs.patterns.pattern_part_at.Goals as goal
use Rattle.meta_reader.proofs.patterns.pattern_part_at.Goals.{then-not-is_variable-via-then-not-is_variable, then-not-is_variable-via-else-not-is_variable+then-run-at-lt3, then-not-is_variable-via-else-not-is_variable+else-run-at-lt3+then-not-is_token}

pub returns-then-is_quoted-clause-part : goal.returns-then-is_quoted-clause-part
returns-then-is_quoted-clause-part c =
    literal_read c.args.run.now c.args.at c.index-run-at.result (plain_pattern_part c.literal_part.result)
    (record { within = c.requires.within; unclosed = c.requires.unclosed; token = c.index-run-at.is }) c.if-is_quoted.ensures c.literal_part.ensures

pub returns-then-not-is_variable-clause-part : goal.returns-then-not-is_variable-clause-part
returns-then-not-is_variable-clause-part c =
    let begun : IsBegun c.args.run.now c.args.at c.index-run-at.result = record { within = c.requires.within; unclosed = c.requires.unclosed; token = c.index-run-at.is } in
    elim c.then-not-is_variable.branch [
      | then-not-is_variable-via-then-not-is_variable w ↦ unnamed_none c.args.run.now c.args.at c.index-run-at.result begun c.if-is_quoted.ensures w.if-not-is_variable.ensures
      | then-not-is_variable-via-else-not-is_variable+then-run-at-lt3 w ↦ short_none c.args.run.now c.args.at c.index-run-at.result begun c.if-is_quoted.ensures w.if-not-is_variable.ensures w.if-run-at-lt3.true
      | then-not-is_variable-via-else-not-is_variable+else-run-at-lt3+then-not-is_token w ↦
          uncoloned_none c.args.run.now c.args.at c.index-run-at.result w.index-run-at-else-run-at-lt3.result begun c.if-is_quoted.ensures w.if-not-is_variable.ensures (omega (arith, w.if-run-at-lt3.false)) w.index-run-at-else-run-at-lt3.is w.if-not-is_token.ensures
    ]

pub returns-in-Some-clause-part : goal.returns-in-Some-clause-part
returns-in-Some-clause-part c =
    let begun : IsBegun c.args.run.now c.args.at c.index-run-at.result = record { within = c.requires.within; unclosed = c.requires.unclosed; token = c.index-run-at.is } in
    let named : IsNamed c.args.run.now c.args.at c.index-run-at.result c.index-run-at-else-run-at-lt3.result c.index-run-at-2.result = record {
      begun = begun;
      unquoted = c.if-is_quoted.ensures;
      variable = c.if-not-is_variable.ensures;
      room = omega (arith, c.if-run-at-lt3.false);
      colon_at = c.index-run-at-else-run-at-lt3.is;
      colon_is = c.if-not-is_token.ensures;
      part_at = c.index-run-at-2.is;
    } in
    named_read c.args.run.now c.args.at c.index-run-at.result c.index-run-at-else-run-at-lt3.result c.index-run-at-2.result (Some (plain_pattern_part c.in-Some.part)) named c.in-Some.ensures

pub returns-in-None-clause-part : goal.returns-in-None-clause-part
returns-in-None-clause-part c =
    let begun : IsBegun c.args.run.now c.args.at c.index-run-at.result = record { within = c.requires.within; unclosed = c.requires.unclosed; token = c.index-run-at.is } in
    let named : IsNamed c.args.run.now c.args.at c.index-run-at.result c.index-run-at-else-run-at-lt3.result c.index-run-at-2.result = record {
      begun = begun;
      unquoted = c.if-is_quoted.ensures;
      variable = c.if-not-is_variable.ensures;
      room = omega (arith, c.if-run-at-lt3.false);
      colon_at = c.index-run-at-else-run-at-lt3.is;
      colon_is = c.if-not-is_token.ensures;
      part_at = c.index-run-at-2.is;
    } in
    named_read c.args.run.now c.args.at c.index-run-at.result c.index-run-at-else-run-at-lt3.result c.index-run-at-2.result None named c.in-None.ensures
