use Rattle.std.proofs.Common.{List, [], ap, sym, ℕ, ◌++◌, ◌+◌, ◌∙◌, ◌∷◌}
use Rattle.frame_layout.proofs.Grouping.{range-more}
use Rattle.frame_layout.proofs.frames.offsets.Goals as goal

pub loop-i-preserved : goal.loop-i-preserved
loop-i-preserved c =
    c.in_ok-push.ensures.items ∙ ap (λ (ks : List ℕ). ks ++ (c.args.first + c.loop-i.i) ∷ []) c.loop-i.invariant ∙ sym (range-more c.args.first c.loop-i.i)
