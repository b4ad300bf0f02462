use Rattle.std.proofs.Common.{◌≡◌, ◌∙◌, ap, sym, Some, None}
use Rattle.action_sos.specs.Branches.{child_of, turned, way, rest_of, target, target_index, renewed, regrown_in, regrown}
use Rattle.action_sos.proofs.Branching.{target-turn, index-turn, regrown-turn, target-here, index-here, renewed-here}
use Rattle.action_sos.proofs.Reaching.{reached-turn}
use Rattle.action_sos.proofs.branch.descend.Goals as goal

pub loop-side-preserved : goal.loop-side-preserved
loop-side-preserved c =
    let b = c.loop-side.branch.value in
    let s = c.in-Some.side in
    let x = c.in-Some-turn.child in
    let w : way b c.loop-side.index ≡ Some s = cc in
    let e : child_of s b ≡ Some x = cc in
    let f : c.turn.new.branch ≡ turned s c.loop-side.around b = cc in
    let i : c.index_in-index.result ≡ rest_of s b c.loop-side.index = cc in
    record {
      branch = ap (target x.value) i ∙ sym (target-turn b c.loop-side.index s x w e) ∙ c.loop-side.invariant.branch;
      index = ap (target_index x.value) i ∙ sym (index-turn b c.loop-side.index s x w e) ∙ c.loop-side.invariant.index;
      around = λ q t.
          ap (λ n. regrown_in q c.turn.new.branch (renewed q x.value n t)) i
          ∙ regrown-turn q b c.loop-side.index s x c.turn.new.branch c.loop-side.around t w e f
          ∙ c.loop-side.invariant.around q t;
      reached = λ a limit g few. reached-turn a limit b c.loop-side.index s x _ c.loop-side.around w e f (c.loop-side.invariant.reached a limit g few);
    }

pub returns : goal.returns
returns c =
    let b = c.loop-side.branch.value in
    let w : way b c.loop-side.index ≡ None = cc in
    record {
      branch = sym (target-here b c.loop-side.index w) ∙ c.loop-side.invariant.branch;
      index = sym (index-here b c.loop-side.index w) ∙ c.loop-side.invariant.index;
      around = λ q t. ap (regrown q c.loop-side.around) (sym (renewed-here q b c.loop-side.index t w)) ∙ c.loop-side.invariant.around q t;
      reached = c.loop-side.invariant.reached;
      ends = w;
    }
