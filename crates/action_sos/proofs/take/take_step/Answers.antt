use Rattle.std.proofs.Common.{ap₂}
use Rattle.action_terms.specs.Meaning.{action_of}
use Rattle.action_sos.specs.Performed.{world_of}
use Rattle.action_sos.specs.Branches.{most}
use Rattle.action_sos.proofs.Placing.{goes-back}
use Rattle.action_sos.proofs.TakenSteps.{way-sound, way-open, given-back, taken}
use Rattle.action_sos.proofs.take.take_step.Goals as goal

pub make-requires-clause-open : goal.make-requires-clause-open
make-requires-clause-open c =
    way-open (action_of c.args.graph.now) (world_of c.args.world.now) c.args.root.value c.args.choice c.descend-way.result c.requires.grows c.descend-way.ensures.branch c.descend-way.ensures.index c.requires.open

pub make-requires-clause-sound : goal.make-requires-clause-sound
make-requires-clause-sound c =
    way-sound (action_of c.args.graph.now) (world_of c.args.world.now) c.args.root.value c.args.choice c.descend-way.result c.requires.grows c.descend-way.ensures.branch c.requires.sound

pub returns-in-Ok : goal.returns-in-Ok
returns-in-Ok c =
    let reached = c.descend-way.ensures.reached (action_of c.args.graph.now) most c.requires.grows c.requires.few in
    let both = taken c.args.graph.now (world_of c.args.world.now) (world_of c.make.new.world) c.args.root.value c.placed.result.value c.args.choice c.descend-way.result c.in-Ok.made
    c.requires.proper c.requires.sound c.requires.grows c.descend-way.ensures.branch c.descend-way.ensures.index c.descend-way.ensures.around c.in-Ok.ensures.made c.placed.ensures.tree in
    record { grows = c.placed.ensures.grows (action_of c.args.graph.now) reached.others c.in-Ok.ensures.made.grows; sound = both.1; takes = both.0; kept = tt }

pub climb-requires : goal.climb-requires
climb-requires c =
    goes-back (action_of c.args.graph.now) c.descend-way.result.branch.value c.descend-way.result.around
    (c.descend-way.ensures.reached (action_of c.args.graph.now) most c.requires.grows c.requires.few)

pub returns-in-Err : goal.returns-in-Err
returns-in-Err c =
    let reached = c.descend-way.ensures.reached (action_of c.args.graph.now) most c.requires.grows c.requires.few in
    record {
      grows = c.climb.ensures.sound (action_of c.args.graph.now) reached.others reached.grows;
      sound = tt;
      takes = tt;
      kept = ap₂ (λ t w. record { tree = t; world = w })
          (given-back c.args.root.value c.climb.result.value c.args.choice c.descend-way.result c.descend-way.ensures.branch c.descend-way.ensures.around c.climb.ensures.tree) c.in-Err.ensures.kept;
    }
