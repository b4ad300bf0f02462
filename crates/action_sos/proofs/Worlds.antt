-- The world of a performance after a change in memory.
use Rattle.std.proofs.Common.{◌≡◌, ℕ, ◌+◌, ◌<◌, ℤ, pos, List, Option, Some, length, drop, slice_set, option_map, add-one}
use Rattle.std.proofs.Math.Seq.{drop-cons}
use Rattle.std.proofs.lemmas.List.{map-set}
use Rattle.action_terms.specs.Steps.{rest}
use Rattle.action_values.specs.Values.{meant, storage_of}
use Rattle.action_values.specs.declared.datum.Datum.{Datum}

pub rest-drop : (xs : List ℤ) (n : ℕ) → n < length xs → drop (n + 1) xs ≡ rest (drop n xs)
rest-drop xs n h = rw (add-one, drop-cons xs n (pos 0) h)

pub storage-set : (cells : List (Option Datum)) (c : ℕ) (x : Datum) → storage_of (slice_set cells c (Some x)) ≡ slice_set (storage_of cells) c (Some (meant x))
storage-set cells c x = map-set (option_map meant) cells c (Some x)

pub ruleset worlds = (rest-drop, storage-set)
