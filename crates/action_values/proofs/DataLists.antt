-- Data in memory, one at a time.
use Rattle.std.proofs.lemmas.Option.{slice_get-map, gets}

pub ruleset data_lists = (slice_get-map, gets)
