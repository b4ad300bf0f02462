use Rattle.std.proofs.Common.{◌∙◌, ◌+◌, ap, sym, map, drop, Some, arith}
use Rattle.std.proofs.lemmas.List.{map-append}
use Rattle.meta_terms.specs.PlainItems.{plain_pattern_part}
use Rattle.action_text.specs.Texts.{texts}
use Rattle.meta_reader.specs.ItemForms.{closing}
use Rattle.meta_reader.specs.Parsing.{begins_with, pattern_of}
use Rattle.meta_reader.proofs.Walking.{cut_at, pattern_fronts, pattern_fronts-push, pattern-closed}
use Rattle.meta_reader.proofs.patterns.read_pattern.Goals as goal

pub returns-then-is_token-clause-parts : goal.returns-then-is_token-clause-parts
returns-then-is_token-clause-parts c =
    let cut = cut_at c.args.run.now c.loop-at.at c.index-run-at.result c.loop-at-test.true c.index-run-at.is in
    let parts = map plain_pattern_part c.loop-at.list.items in
    let rest = drop (c.loop-at.at + 1) (texts c.args.run.now) in
    c.loop-at.invariant.parts
    ∙ ap (λ ts. pattern_fronts parts (pattern_of ts)) cut
    ∙ pattern-closed parts c.index-run-at.result.bytes.now rest (sym c.if-is_token.ensures)
    ∙ ap (λ qs. Some (qs, rest)) (sym (ap (map plain_pattern_part) (c.in_ok-parts.ensures ∙ c.as_slice.ensures.value)))

pub pattern_part_at-requires-clause-unclosed : goal.pattern_part_at-requires-clause-unclosed
pattern_part_at-requires-clause-unclosed c =
    let cut = cut_at c.args.run.now c.loop-at.at c.index-run-at.result c.loop-at-test.true c.index-run-at.is in
    ap (begins_with closing) cut ∙ sym c.if-is_token.ensures

pub loop-at-preserved : goal.loop-at-preserved
loop-at-preserved c =
    let parts = map plain_pattern_part c.loop-at.list.items in
    let rest = pattern_of (drop c.in-Some.next (texts c.args.run.now)) in
    record {
      begun = omega (arith, c.loop-at.invariant.begun, c.in-Some.ensures.within.0);
      within = c.in-Some.ensures.within.1;
      parts = c.loop-at.invariant.parts
          ∙ ap (pattern_fronts parts) c.in-Some.ensures.part
          ∙ pattern_fronts-push parts (plain_pattern_part c.in-Some.part) rest
          ∙ ap (λ qs. pattern_fronts qs rest) (sym (ap (map plain_pattern_part) c.in_ok-push.ensures.items ∙ map-append plain_pattern_part c.loop-at.list.items _));
    }
