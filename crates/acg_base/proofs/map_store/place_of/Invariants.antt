use Rattle.std.proofs.Common.{◌≡◌, ◌+◌, drop, map}
use Rattle.std.specs.Prelude.{option_map}
use Rattle.acg_base.specs.MapStores.{place_in, plain_file}
use Rattle.acg_base.proofs.map_store.place_of.Given as goal

abbrev pub invariant-loop-place : goal.invariant-loop-place
invariant-loop-place l =
    place_in (map plain_file l.files) l.name ≡ option_map (λ k. l.place + k) (place_in (map plain_file (drop l.place l.files)) l.name)
