use Rattle.std.proofs.Common.{◌≡◌, ℕ, List, map, string_bytes, true, false, sym, ap, ◌∙◌}
use Rattle.std.specs.List.{list_any}
use Rattle.acg_words.specs.Commands.{command_with, is_empty}
use Rattle.acg_words.proofs.WordsLemmas.{list_any-texts, command-empty, command-whole}
use Rattle.acg_words.proofs.RangesLemmas.{asked-ranges}
use Rattle.acg_words.proofs.parser.parse_command.Goals as goal

pub returns-then-has_empty-clause-parsed : goal.returns-then-has_empty-clause-parsed
returns-then-has_empty-clause-parsed c =
    let is : list_any is_empty c.args.words.now ≡ true =
    ap (λ (words : List (List ℕ)). list_any is_empty words) (sym c.list-list.ensures)
    ∙ list_any-texts is_empty c.list-list.result.now ∙ sym c.has_empty.ensures ∙ c.if-has_empty.true in
    command-empty c.args.words.now is

pub returns-else-has_empty-clause-parsed : goal.returns-else-has_empty-clause-parsed
returns-else-has_empty-clause-parsed c =
    let is : list_any is_empty c.args.words.now ≡ false =
    ap (λ (words : List (List ℕ)). list_any is_empty words) (sym c.list-list.ensures)
    ∙ list_any-texts is_empty c.list-list.result.now ∙ sym c.has_empty.ensures ∙ c.if-has_empty.false in
    command-whole c.args.words.now is ∙ ap (λ (words : List (List ℕ)). command_with words) (sym c.list-list.ensures) ∙ c.parse_list.ensures

pub returns-else-has_empty-clause-ranges : goal.returns-else-has_empty-clause-ranges
returns-else-has_empty-clause-ranges c = asked-ranges (map string_bytes c.list-list.result.now) c.parse_list.result c.parse_list.ensures
