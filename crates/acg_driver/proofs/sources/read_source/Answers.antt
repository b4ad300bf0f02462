use Rattle.std.proofs.Common.{◌<◌, length, sym, subst, arith}
use Rattle.gram_form.specs.GrammarErrors.{AreFew}
use Rattle.gram_form.specs.Trees.{plain_tree}
use Rattle.source_lex.specs.Numbered.{numbered}
use Rattle.source_lex.specs.Trees.{IsWhole, kinds_of}
use Rattle.tree_pick.specs.Picked.{IsTreeError}
use Rattle.tree_pick.specs.declared.errors.TreeError.{TreeError}
use Rattle.tree_pick.specs.declared.errors.TreeError.TheVariants.{Ambiguous}
use Rattle.meta_check.specs.Checked.{PlainDescription}
use Rattle.acg_driver.proofs.DescriptionSizes.{description_small}
use Rattle.acg_driver.proofs.sources.read_source.Goals as goal

pub lexemes_of-requires-clause-few : goal.lexemes_of-requires-clause-few
lexemes_of-requires-clause-few c =
    let small = description_small c.requires.described.0 c.args.description.now c.requires.described.1 in
    small.literals

pub tree_of-requires-clause-few : goal.tree_of-requires-clause-few
tree_of-requires-clause-few c =
    let small = description_small c.requires.described.0 c.args.description.now c.requires.described.1 in
    subst (λ (d : PlainDescription). AreFew d.grammar.productions) (sym c.description.view_is) small.productions

pub tree_of-requires-clause-literals : goal.tree_of-requires-clause-literals
tree_of-requires-clause-literals c =
    let small = description_small c.requires.described.0 c.args.description.now c.requires.described.1 in
    subst (λ (d : PlainDescription). length d.grammar.literals < 4294967296) (sym c.description.view_is) small.literals

pub returns-in-Err-Ambiguous-clause-refused : goal.returns-in-Err-Ambiguous-clause-refused
returns-in-Err-Ambiguous-clause-refused c =
    let lexemes = c.in_ok-lexemes.lexemes in
    let two = subst (λ (e : TreeError). IsTreeError (numbered c.description.inside.grammar) (kinds_of lexemes) e) c.in-Err-Ambiguous.field-0-is c.in-Err-Ambiguous.ensures.refused in (
      omega (arith, c.if-bytes.false),
      (
        lexemes,
        c.in_ok-lexemes.ensures.lexemes,
        c.in_ok-lexemes.ensures.count,
        subst (λ (d : PlainDescription). IsTreeError (numbered d.grammar) (kinds_of lexemes) Ambiguous) c.description.view_is two,
      ),
    )

pub expand-requires-clause-tree : goal.expand-requires-clause-tree
expand-requires-clause-tree c =
    subst (λ (d : PlainDescription). IsWhole (numbered d.grammar) (kinds_of c.in_ok-lexemes.lexemes) (plain_tree c.in-Ok.tree)) c.description.view_is c.in-Ok.ensures.one.whole

pub expand-requires-clause-few : goal.expand-requires-clause-few
expand-requires-clause-few c =
    let small = description_small c.requires.described.0 c.args.description.now c.requires.described.1 in
    small.functions
