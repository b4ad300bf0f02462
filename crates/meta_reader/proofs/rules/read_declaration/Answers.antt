use Rattle.std.proofs.Common.{refl, sym, arith, ap, ◌∙◌, length, ◌≡◌}
use Rattle.std.specs.Str.{bytes_eq}
use Rattle.meta_terms.specs.Names.{is_function, is_variable}
use Rattle.action_text.specs.Texts.{texts}
use Rattle.meta_reader.specs.ItemForms.{underscore, colon}
use Rattle.meta_reader.specs.Parsing.{declaration_of}
use Rattle.meta_reader.proofs.ProductionTokens.{declaration_sound}
use Rattle.meta_reader.proofs.Walking.{token_at, length_texts, refuted, none_unless}
use Rattle.meta_reader.proofs.rules.read_declaration.Goals as goal
use Rattle.meta_reader.proofs.rules.read_declaration.Goals.{then-run-ne4-via-then-run-ne4, then-run-ne4-via-else-run-ne4+then-not-is_function, then-run-ne4-via-else-run-ne4+else-not-is_function+then-not-is_variable}
use Rattle.meta_reader.proofs.rules.read_declaration.Goals.{then-not-is_token-via-then-not-is_token, then-not-is_token-via-else-not-is_token+then-not-is_token-2}

pub returns-then-run-ne4 : goal.returns-then-run-ne4
returns-then-run-ne4 c = sym (none_unless (declaration_of (texts c.args.run.now)) (λ d e. let h = declaration_sound (texts c.args.run.now) d e in
    let four : length c.args.run.now ≡ 4 = sym (length_texts c.args.run.now) ∙ ap length h.run_is in
    elim c.then-run-ne4.branch [
      | then-run-ne4-via-then-run-ne4 w ↦ absurd (w.if-run-ne4.true four)
      | then-run-ne4-via-else-run-ne4+then-not-is_function w ↦ refuted is_function _ _ w.if-not-is_function.ensures (token_at c.args.run.now _ 0 w.index-run-0.result h.run_is w.index-run-0.is (omega arith)) h.function
      | then-run-ne4-via-else-run-ne4+else-not-is_function+then-not-is_variable w ↦ refuted is_variable _ _ w.if-not-is_variable.ensures (token_at c.args.run.now _ 3 w.index-run-3.result h.run_is w.index-run-3.is (omega arith)) h.nonterminal
    ]))

pub returns-then-not-is_token : goal.returns-then-not-is_token
returns-then-not-is_token c = sym (none_unless (declaration_of (texts c.args.run.now)) (λ d e. let h = declaration_sound (texts c.args.run.now) d e in
    elim c.then-not-is_token.branch [
      | then-not-is_token-via-then-not-is_token w ↦ refuted (λ t. bytes_eq t underscore) _ _ w.if-not-is_token.ensures (token_at c.args.run.now _ 1 c.index-run-1.result h.run_is c.index-run-1.is (omega arith)) refl
      | then-not-is_token-via-else-not-is_token+then-not-is_token-2 w ↦ refuted (λ t. bytes_eq t colon) _ _ w.if-not-is_token-2.ensures (token_at c.args.run.now _ 2 w.index-run-2.result h.run_is w.index-run-2.is (omega arith)) refl
    ]))
