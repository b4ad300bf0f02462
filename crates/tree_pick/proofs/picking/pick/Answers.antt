use Rattle.std.proofs.Common.{◌≡◌, ◌∙◌, List, IfOk, IfErr, ap, sym, subst}
use Rattle.std.proofs.lemmas.Result.{IfOk-weaker}
use Rattle.gram_form.specs.Trees.{plain_tree}
use Rattle.source_lex.specs.declared.lexeme.LexKind.{LexKind}
use Rattle.tree_pick.specs.Picked.{IsTreeError}
use Rattle.std.proofs.lemmas.Simd.{map-map}
use Rattle.source_lex.specs.Lexemes.{PlainLexeme, plain_lexeme}
use Rattle.source_lex.specs.Numbered.{Numbered, numbered}
use Rattle.source_lex.specs.Trees.{kinds_of, IsOneTree}
use Rattle.tree_pick.specs.Runs.{HaveFewAlternatives}
use Rattle.tree_pick.proofs.FewAlternatives.{few_numbered}
use Rattle.tree_pick.proofs.OneIsUniform.{one_is_uniform}
use Rattle.tree_pick.proofs.picking.pick.Goals as goal

pub new-parse-requires-clause-grammar : goal.new-parse-requires-clause-grammar
new-parse-requires-clause-grammar c = c.requires.grammar ∙ sym (c.numbered.view_is ∙ c.in_ok-numbered.ensures)

pub new-parse-requires-clause-kinds : goal.new-parse-requires-clause-kinds
new-parse-requires-clause-kinds c =
    c.requires.lexemes ∙ sym (c.in_ok-kinds.ensures ∙ sym (map-map (λ (l : PlainLexeme). l.kind) plain_lexeme c.lexemes.inside.list.now) ∙ ap kinds_of c.lexemes.view_is)

pub new-parse-requires-clause-alternatives : goal.new-parse-requires-clause-alternatives
new-parse-requires-clause-alternatives c = subst HaveFewAlternatives (sym (c.numbered.view_is ∙ c.in_ok-numbered.ensures)) (few_numbered c.args.grammar.now c.requires.few)

pub returns-clause-one : goal.returns-clause-one
returns-clause-one c =
    let g : c.new-parse.result.grammar ≡ numbered c.args.grammar.now = c.new-parse.ensures.grammar ∙ c.numbered.view_is ∙ c.in_ok-numbered.ensures in
    let w : c.new-parse.result.kinds ≡ kinds_of c.args.lexemes.now =
    c.new-parse.ensures.kinds ∙ c.in_ok-kinds.ensures ∙ sym (map-map (λ (l : PlainLexeme). l.kind) plain_lexeme c.lexemes.inside.list.now) ∙ ap kinds_of c.lexemes.view_is in
    subst (λ (k : List LexKind). IfOk c.pick_of.result (λ t. IsOneTree (numbered c.args.grammar.now) k (plain_tree t))) w
    (subst (λ (h : Numbered). IfOk c.pick_of.result (λ t. IsOneTree h c.new-parse.result.kinds (plain_tree t))) g c.pick_of.ensures.one)

pub returns-clause-uniform : goal.returns-clause-uniform
returns-clause-uniform c =
    IfOk-weaker c.pick_of.result _ _ (λ t one. one_is_uniform c.new-parse.result.grammar c.new-parse.result.kinds (plain_tree t) one) c.pick_of.ensures.one

pub returns-clause-error : goal.returns-clause-error
returns-clause-error c =
    let g : c.new-parse.result.grammar ≡ numbered c.args.grammar.now = c.new-parse.ensures.grammar ∙ c.numbered.view_is ∙ c.in_ok-numbered.ensures in
    let w : c.new-parse.result.kinds ≡ kinds_of c.args.lexemes.now =
    c.new-parse.ensures.kinds ∙ c.in_ok-kinds.ensures ∙ sym (map-map (λ (l : PlainLexeme). l.kind) plain_lexeme c.lexemes.inside.list.now) ∙ ap kinds_of c.lexemes.view_is in
    subst (λ (k : List LexKind). IfErr c.pick_of.result (IsTreeError (numbered c.args.grammar.now) k)) w
    (subst (λ (h : Numbered). IfErr c.pick_of.result (IsTreeError h c.new-parse.result.kinds)) g c.pick_of.ensures.error)
