use Rattle.std.proofs.Common.{◌≡◌, ◌∙◌, sym, inl, inr}
use Rattle.meta_lex.specs.declared.token.TokenKind.TheVariants.{Word, Number, Quoted, Symbol}
use Rattle.action_text.proofs.KindClasses.{plain_class}
use Rattle.action_text.proofs.token_class.class_of.Goals as goal

pub returns-in-Word : goal.returns-in-Word
returns-in-Word c =
    c.word_class-in-Word.ensures
    ∙ sym (elim c.in-Word.is [
      | inl e ↦ plain_class c.args.token.now.kind c.args.token.now.bytes.now c.args.token.now.form
          (λ q. let same : Word ≡ Quoted = sym e ∙ q in cc) (λ n. let same : Word ≡ Number = sym e ∙ n in cc)
      | inr e ↦ plain_class c.args.token.now.kind c.args.token.now.bytes.now c.args.token.now.form
          (λ q. let same : Symbol ≡ Quoted = sym e ∙ q in cc) (λ n. let same : Symbol ≡ Number = sym e ∙ n in cc)
    ])
