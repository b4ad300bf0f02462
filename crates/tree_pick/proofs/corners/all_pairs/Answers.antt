use Rattle.std.proofs.Common.{List, sym}
use Rattle.source_lex.specs.Numbered.{Numbered, plain_numbered}
use Rattle.tree_pick.specs.declared.corners.Beginning.{Beginning}
use Rattle.tree_pick.proofs.AllCorners.{firsts_kept, firsts_more}
use Rattle.tree_pick.proofs.Longer.{all_below, longer_kept}
use Rattle.tree_pick.proofs.corners.all_pairs.Goals as goal

pub returns-in_default : goal.returns-in_default
returns-in_default c =
    let all = all_below c.loop-p.pairs.keys c.loop-p.p c.in_default.ensures.key in
    record {
      first = c.loop-p.invariant.first;
      more = λ x h. c.loop-p.invariant.worked x (rw all h);
    }

pub loop-p-preserved : goal.loop-p-preserved
loop-p-preserved c =
    let g : Numbered = plain_numbered c.args.nonterminals.now in
    let S : List Beginning = c.loop-p.pairs.keys in
    let T : List Beginning = c.add_firsts.new.pairs.keys in
    let longer = c.in_ok-add_firsts.ensures.longer in
    record {
      first = λ n. firsts_kept g S T n n (longer_kept S T longer) (c.loop-p.invariant.first n);
      worked = firsts_more g S T c.loop-p.p c.in-Some.pair.now longer (sym c.in-Some.ensures.key) c.loop-p.invariant.worked c.in_ok-add_firsts.ensures.added;
    }
