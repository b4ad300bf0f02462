use Rattle.std.proofs.Common.{◌≡◌, ◌<◌, ◌≤◌, length, map, drop, Some, arith}
use Rattle.meta_terms.specs.PlainItems.{plain_pattern_part}
use Rattle.action_text.specs.Texts.{texts}
use Rattle.meta_reader.specs.Parsing.{pattern_of}
use Rattle.meta_reader.proofs.Heads.{IsBegun, short_head, unnamed_head, unopened_head, ended_head, unequal_head, whole_head}
use Rattle.meta_reader.proofs.rules.read_head.Goals as goal
use Rattle.meta_reader.proofs.rules.read_head.Goals.{then-run-lt2-via-then-run-lt2, then-run-lt2-via-else-run-lt2+then-not-is_function, then-run-lt2-via-else-run-lt2+else-not-is_function+then-not-is_token}
use Rattle.meta_reader.proofs.rules.read_head.Goals.{then-next-run-via-then-next-run, then-next-run-via-else-next-run+then-not-is_token-2}

pub returns-then-run-lt2-clause-head : goal.returns-then-run-lt2-clause-head
returns-then-run-lt2-clause-head c =
    elim c.then-run-lt2.branch [
      | then-run-lt2-via-then-run-lt2 w ↦ short_head c.args.run.now w.if-run-lt2.true
      | then-run-lt2-via-else-run-lt2+then-not-is_function w ↦ unnamed_head c.args.run.now w.index-run-0.result (omega (arith, w.if-run-lt2.false)) w.index-run-0.is w.if-not-is_function.ensures
      | then-run-lt2-via-else-run-lt2+else-not-is_function+then-not-is_token w ↦
          unopened_head c.args.run.now w.index-run-0.result w.index-run-1.result (omega (arith, w.if-run-lt2.false)) w.index-run-0.is w.index-run-1.is w.if-not-is_function.ensures w.if-not-is_token.ensures
    ]

pub returns-then-next-run-clause-head : goal.returns-then-next-run-clause-head
returns-then-next-run-clause-head c =
    let begun : IsBegun c.args.run.now c.index-run-0.result c.index-run-1.result = record {
      room = omega (arith, c.if-run-lt2.false);
      function_at = c.index-run-0.is;
      function_is = c.if-not-is_function.ensures;
      brackets_at = c.index-run-1.is;
      brackets_are = c.if-not-is_token.ensures;
    } in
    let parts : pattern_of (drop 2 (texts c.args.run.now)) ≡ Some (map plain_pattern_part c.in-Some.pattern.now, drop c.in-Some.next (texts c.args.run.now)) = rw c.in-Some.is at c.in_ok-pattern.ensures.parts in
    let within : (2 < c.in-Some.next) × (c.in-Some.next ≤ length c.args.run.now) = rw c.in-Some.is at c.in_ok-pattern.ensures.within in
    elim c.then-next-run.branch [
      | then-next-run-via-then-next-run w ↦ ended_head c.args.run.now c.index-run-0.result c.index-run-1.result _ c.in-Some.next begun parts (omega (arith, w.if-next-run.true))
      | then-next-run-via-else-next-run+then-not-is_token-2 w ↦
          unequal_head c.args.run.now c.index-run-0.result c.index-run-1.result w.index-run-next.result _ c.in-Some.next begun parts (omega (arith, within.1, w.if-next-run.false)) w.index-run-next.is w.if-not-is_token-2.ensures
    ]

pub returns-clause-head : goal.returns-clause-head
returns-clause-head c =
    let begun : IsBegun c.args.run.now c.index-run-0.result c.index-run-1.result = record {
      room = omega (arith, c.if-run-lt2.false);
      function_at = c.index-run-0.is;
      function_is = c.if-not-is_function.ensures;
      brackets_at = c.index-run-1.is;
      brackets_are = c.if-not-is_token.ensures;
    } in
    let parts : pattern_of (drop 2 (texts c.args.run.now)) ≡ Some (map plain_pattern_part c.in-Some.pattern.now, drop c.in-Some.next (texts c.args.run.now)) = rw c.in-Some.is at c.in_ok-pattern.ensures.parts in
    let within : (2 < c.in-Some.next) × (c.in-Some.next ≤ length c.args.run.now) = rw c.in-Some.is at c.in_ok-pattern.ensures.within in
    whole_head c.args.run.now c.index-run-0.result c.index-run-1.result c.index-run-next.result c.index-run-0-2.result _ c.in-Some.next begun parts (omega (arith, within.1, c.if-next-run.false)) c.index-run-next.is c.if-not-is_token-2.ensures
