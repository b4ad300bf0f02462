use Rattle.std.proofs.Common.{◌∙◌, ap, sym, subst}
use Rattle.action_sos.specs.Branches.{grown, regrown, AreGrown, HasRoom}
use Rattle.action_sos.proofs.Placing.{ended-beside, there, fits, more, room, tree, sound, stays}
use Rattle.action_sos.proofs.take.placed.Goals as goal

pub climb-requires : goal.climb-requires
climb-requires c = subst (HasRoom c.args.way.around) (sym c.replace-before.ensures.after) (stays c.args.way c.args.made c.requires c.in_default.is)

pub join-other-requires : goal.join-other-requires
join-other-requires c =
    let j = ended-beside c.args.way c.args.made c.requires c.in-Some.part c.in-Some-around.outer c.in-Some.is c.in-Some-around.is in
    record { other = there _ _ _ _ _ _ j; fits = fits _ _ _ _ _ _ j; more = more _ _ _ _ _ _ j }

pub climb-requires-2 : goal.climb-requires-2
climb-requires-2 c =
    let j = ended-beside c.args.way c.args.made c.requires c.in-Some.part c.in-Some-around.outer c.in-Some.is c.in-Some-around.is in
    room _ _ _ _ _ _ j c.join-other.result.0.value c.join-other.result.1 c.join-other.ensures.around c.join-other.ensures.joined

pub returns : goal.returns
returns c =
    let j = ended-beside c.args.way c.args.made c.requires c.in-Some.part c.in-Some-around.outer c.in-Some.is c.in-Some-around.is in
    let new = c.join-other.result.0.value in
    let rest = c.join-other.result.1 in
    record {
      tree =
          c.climb-2.ensures.tree ∙ tree _ _ _ _ _ _ j new rest c.join-other.ensures.around c.join-other.ensures.joined
          ∙ sym (ap (λ h. regrown c.args.made.commits h (grown c.args.made.branch)) c.in-Some-around.is);
      grows = λ a others gb.
          let both = sound _ _ _ _ _ _ j new rest c.join-other.ensures.around c.join-other.ensures.joined a (subst (AreGrown a) c.in-Some-around.is others) in
          c.climb-2.ensures.sound a both.0 both.1;
    }
