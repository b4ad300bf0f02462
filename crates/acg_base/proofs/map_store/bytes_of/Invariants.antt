use Rattle.std.proofs.Common.{◌≡◌, drop, map}
use Rattle.acg_base.specs.MapStores.{content_of, plain_file}
use Rattle.acg_base.proofs.map_store.bytes_of.Given as goal

abbrev pub invariant-loop-file : goal.invariant-loop-file
invariant-loop-file l =
    content_of (map plain_file l.files) l.name ≡ content_of (map plain_file (drop l.file-index l.files)) l.name
