-- What a performer's memory stands for, and what always holds of it.
use Rattle.std.specs.Prelude.{Option, Box, drop}
use Rattle.std.specs.Global.{Global}
use Rattle.action_terms.specs.Meaning.{action_of}
use Rattle.action_terms.specs.Information.{World as WorldMeant}
use Rattle.action_terms.specs.Proper.{IsProper}
use Rattle.action_terms.specs.Sound.{IsSound}
use Rattle.action_values.specs.Values.{storage_of}
use Rattle.action_sos.specs.Branches.{grown_of, IsGrown_of}
use Rattle.action_sos.specs.Performers.{Performing}
use Rattle.action_sos.specs.declared.branch.Branch.{Branch}
use Rattle.action_terms.specs.Numbering.{Listed}
use Rattle.action_sos.specs.declared.world.World.{World}

-- the world of a performance
abbrev pub world_of : World → WorldMeant
world_of w = record { cells = storage_of w.cells.items; output = w.output.items; input = drop w.taken w.input.items }

-- the graph and the state of its performance
abbrev pub performing_of : Listed → Option (Box Branch Global) → World → Performing
performing_of g root w = record { graph = g; state = record { tree = grown_of root; world = world_of w } }

-- the action is proper, its state is sound, and the branches are well-grown
pub record IsPerformer (g : Listed) (root : Option (Box Branch Global)) (w : World) : Type 0 where
  pub proper : IsProper (action_of g)
  pub sound : IsSound (action_of g) (performing_of g root w).state
  pub grows : IsGrown_of (action_of g) root
