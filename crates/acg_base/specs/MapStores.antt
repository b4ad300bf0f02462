-- A store in memory, as its callers see it.
use Rattle.std.specs.Prelude.{ℕ, suc, ◌||◌, Bool, List, [], ◌∷◌, ◌++◌, Option, Some, None, is_none, if◌then◌else◌, Vec}
use Rattle.std.specs.Option.{option_map, option_map_or}
use Rattle.std.specs.Str.{bytes_eq}
use Rattle.std.specs.declared.alloc.Global.{Global}
use Rattle.acg_base.specs.declared.map_store.LoggedRead.{LoggedRead}
use Rattle.acg_base.specs.Outside.{Contents, Reading, counted, front, is_listed}

-- a file: its name and its bytes
abbrev pub File : Type 0
File = List ℕ × List ℕ

-- the files, the reads that were carried out, the numbers of the reads and writes that are to fail, and the counts of calls and of faults
pub record MapState : Type 0 where
  pub files : List File
  pub readings : List Reading
  pub failing_reads : List ℕ
  pub failing_writes : List ℕ
  pub reads : ℕ
  pub writes : ℕ
  pub failed_reads : ℕ
  pub failed_writes : ℕ

-- a file that owns its bytes, as its name and its bytes
abbrev pub plain_file : List ℕ × Vec ℕ Global → File
plain_file file = (file.0, file.1.items)

-- a logged read that owns its bytes, as a reading
abbrev pub plain_reading : LoggedRead → Reading
plain_reading read = record { name = read.name; limit = read.limit; given = read.given.items }

-- the bytes of the first file of that name
abbrev pub content_of : List File → Contents
content_of [] name = None
content_of (file ∷ files) name = if bytes_eq file.0 name then Some file.1 else content_of files name

-- the place of the first file of that name
abbrev pub place_in : List File → List ℕ → Option ℕ
place_in [] name = None
place_in (file ∷ files) name = if bytes_eq file.0 name then Some 0 else option_map suc (place_in files name)

-- the files with these bytes as the content of the name: in the place of the first file of that name, or behind all others
abbrev pub with_file : List File → (name bytes : List ℕ) → List File
with_file [] name bytes = (name, bytes) ∷ []
with_file (file ∷ files) name bytes =
    if bytes_eq file.0 name then (name, bytes) ∷ files else file ∷ with_file files name bytes

-- a store of these files at its start, with the numbers of the reads and writes that are to fail
abbrev pub fresh : List File → List ℕ → List ℕ → MapState
fresh files reads writes = record {
  files = files;
  readings = [];
  failing_reads = reads;
  failing_writes = writes;
  reads = 0;
  writes = 0;
  failed_reads = 0;
  failed_writes = 0;
}

-- the next read of the name fails: its number is listed, or the name isn't there
abbrev pub read_fails : MapState → List ℕ → Bool
read_fails store name = is_listed store.failing_reads store.reads || is_none (content_of store.files name)

-- the next write fails: its number is listed
abbrev pub write_fails : MapState → Bool
write_fails store = is_listed store.failing_writes store.writes

-- what a read of the name with that limit gives: the front of its content, or nothing where the name isn't there
abbrev pub given_of : List File → (name : List ℕ) → (limit : ℕ) → List ℕ
given_of files name limit = option_map_or (front limit) (content_of files name) []

-- the store after a read that isn't carried out: the call is counted, and its fault
abbrev pub after_failed_read : MapState → (name : List ℕ) → MapState
after_failed_read store name = record store {
  reads = counted store.reads;
  failed_reads = if read_fails store name then counted store.failed_reads else store.failed_reads;
}

-- the store after a read that is carried out: the call is counted, and logged with what was given
abbrev pub after_read : MapState → (name : List ℕ) → (limit : ℕ) → MapState
after_read store name limit = record store {
  readings = store.readings ++ record { name = name; limit = limit; given = given_of store.files name limit } ∷ [];
  reads = counted store.reads;
}

-- the store after a write that leaves these files: the call is counted, and its fault
abbrev pub after_write : MapState → List File → MapState
after_write store files = record store {
  files = files;
  writes = counted store.writes;
  failed_writes = if write_fails store then counted store.failed_writes else store.failed_writes;
}
