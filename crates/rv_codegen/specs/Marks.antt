-- What an assembler holds as code is appended: its items, and the labels that are still to be placed.
use Rattle.std.specs.Prelude.{◌≡◌, ◌≢◌, ◌⊎◌, ℕ, ◌≤◌, List, ◌++◌, false}
use Rattle.rv_asm.specs.Assembly.{Listing, is_placed}
use Rattle.rv_asm.specs.declared.item.Item.{Item}
use Rattle.rv_codegen.specs.Blocks.{end_label, front_of, stop_of, joint_of}

-- a listing with more items behind
abbrev pub extended : Listing → List Item → Listing
extended listing items = record listing { items = listing.items ++ items }

-- neither the end of the code is placed nor the labels of the nodes from number k on
abbrev pub AreFresh : ℕ → List Item → Type 0
AreFresh k items = (l : ℕ) → (l ≡ end_label) ⊎ (front_of k ≤ l) → is_placed items l ≡ false

-- the new items place no label that the old ones don't place, but for the stop and the joint of node k
abbrev pub PlacesStop : (k : ℕ) (old new : List Item) → Type 0
PlacesStop k old new = (l : ℕ) → l ≢ stop_of k → l ≢ joint_of k → is_placed old l ≡ false → is_placed new l ≡ false
