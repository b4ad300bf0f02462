-- Items that are appended one after another, as far as memory lasts.
use Rattle.std.specs.Prelude.{◌≡◌, Bool, true, ◌&&◌, List, [], ◌∷◌, ◌++◌}
use Rattle.rv_code.specs.Encode.{is_in_format}
use Rattle.rv_code.specs.declared.instruction.Inst.{Inst}
use Rattle.rv_asm.specs.Assembly.{Listing}
use Rattle.rv_asm.specs.declared.item.Item.{Item}

-- a listing with more items behind
abbrev pub extended : Listing → List Item → Listing
extended listing items = record listing { items = listing.items ++ items }

-- a front of the piece was appended, and the rest wasn't
pub record IsAppended (piece rest : List Item) (old new : Listing) : Type 0 where
  pub front : List Item
  pub whole : front ++ rest ≡ piece
  pub is : new ≡ extended old front

-- the new listing is the old one with a front of the piece behind it
abbrev pub AppendsFrontOf : List Item → (old new : Listing) → Type 0
AppendsFrontOf piece old new = (rest : List Item) × IsAppended piece rest old new

-- each instruction encodes
abbrev pub are_in_format : List Inst → Bool
are_in_format [] = true
are_in_format (i ∷ is) = is_in_format i && are_in_format is
