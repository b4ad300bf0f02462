-- When each error of `read` comes.
use Rattle.meta_reader.specs.declared.reader.ReadError.{ReadError}
use Rattle.meta_reader.specs.declared.reader.ReadError.TheVariants.{Memory, BadItem}
use Rattle.meta_reader.specs.ItemForms.{Tokens}
use Rattle.meta_reader.specs.Descriptions.{IsBadItem}

-- want of memory is free to come; a bad item is the first run with which the runs so far begin no description
abbrev pub IsReadError : Tokens → ReadError → Type 0
IsReadError tokens Memory = Unit {0}
IsReadError tokens (BadItem index) = IsBadItem tokens index
