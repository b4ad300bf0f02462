use Rattle.std.proofs.Common.{◌≡◌, ◌∙◌, true, false, sym, refl}
use Rattle.action_text.proofs.WordLookups.{among_here, among_next}
use Rattle.action_text.proofs.token_class.class_among.Goals as goal

pub returns-then-is_same : goal.returns-then-is_same
returns-then-is_same c =
    sym (c.loop-class.invariant ∙ among_here c.args.words.now c.loop-class.class-index c.args.bytes.now _ c.loop-class-test.true (sym c.as_bytes.ensures.value ∙ c.is_same.ensures.0 c.if-is_same.true))

pub loop-class-preserved : goal.loop-class-preserved
loop-class-preserved c =
    c.loop-class.invariant ∙ among_next c.args.words.now c.loop-class.class-index _ c.args.bytes.now _ refl c.loop-class-test.true
    (λ e. let same : true ≡ false = sym (c.is_same.ensures.1 (c.as_bytes.ensures.value ∙ e)) ∙ c.if-is_same.false in cc)
