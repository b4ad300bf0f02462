use Rattle.std.proofs.Common.{◌≡◌, ◌∙◌, false, ap, sym, refl, nat_eq}
use Rattle.action_text.specs.declared.classes.Class.TheVariants as class
use Rattle.action_text.specs.Numbers.{class_number}
use Rattle.action_text.specs.Classes.{class_of}
use Rattle.action_text.proofs.Words.{keeps_class}
use Rattle.action_text.proofs.token_class.class_in.Goals as goal
use Rattle.action_text.proofs.token_class.class_in.Goals.{else-parameters-via-then-parameters+else-is, else-parameters-via-else-parameters}

pub returns-else-parameters : goal.returns-else-parameters
returns-else-parameters c = elim c.else-parameters.branch [
  | else-parameters-via-then-parameters+else-is w ↦
      let other : nat_eq (class_of c.args.token.now.bytes.now) (class_number class.Other) ≡ false =
      ap (λ n. nat_eq n (class_number class.Other)) (sym c.class_of-class.ensures) ∙ sym w.is.ensures ∙ w.if-is.false in
      c.class_of-class.ensures ∙ rw w.if-parameters.true (sym (keeps_class c.args.token.now.bytes.now other))
  | else-parameters-via-else-parameters w ↦ c.class_of-class.ensures ∙ rw w.if-parameters.false refl
]
