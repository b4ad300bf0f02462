use Rattle.std.proofs.Common.{◌≡◌, ◌<◌, ◌∷◌, length, drop, take, ◌-◌}
use Rattle.source_lex.specs.Numbered.{Alternative}
use Rattle.source_lex.specs.declared.lexeme.LexKind.TheVariants.{Literal}
use Rattle.source_lex.specs.declared.numbered.Symbol.TheVariants.{Word}
use Rattle.tree_pick.proofs.LeftParts.{empty_list, some_list, first_and_rest, begins_empty, begins_word}
use Rattle.tree_pick.proofs.choices.behind_leaf.Goals as goal

pub returns-then-is_empty : goal.returns-then-is_empty
returns-then-is_empty c =
    begins_empty c.args.parse.now.grammar c.args.parse.now.kinds c.args.start c.args.parts.now c.requires.start (empty_list c.args.parts.now c.if-is_empty.ensures)

pub returns-then-is_kind : goal.returns-then-is_kind
returns-then-is_kind c =
    let parts : Alternative = c.args.parts.now in
    let lt : 0 < length parts = some_list parts c.if-is_empty.ensures in
    let rest : Alternative = take (length parts - 1) (drop 1 parts) in
    let is : parts ≡ Word c.in-Word.kind ∷ rest = first_and_rest parts (Word (Literal 0)) (Word c.in-Word.kind) lt c.in-Word.is in
    begins_word c.args.parse.now.grammar c.args.parse.now.kinds c.args.start parts rest c.in-Word.kind is (c.is_kind.ensures.0 c.if-is_kind.true)
