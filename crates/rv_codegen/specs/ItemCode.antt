-- The code of one item of data, and the words that it takes.
use Rattle.std.specs.Prelude.{ℕ, ◌<◌, ◌≤◌, All, List, length, map, take}
use Rattle.rv_asm.specs.declared.item.Item.{Item}
use Rattle.rv_asm.specs.declared.item.Item.TheVariants.{Plain}
use Rattle.action_terms.specs.Actions.{Item as DataItem, Single, Them}
use Rattle.rv_codegen.specs.GivenItems.{moves_items, single_items}

-- words of a frame that instructions reach: at most 64
pub record AreReached (os : List ℕ) : Type 0 where
  pub few : length os ≤ 64
  pub near : All (λ o. o < 33554432) os

-- the data of an item are left at the first of these offsets
abbrev pub item_code : (given out : List ℕ) → (nothing : ℕ) → DataItem → List Item
item_code given out nothing (Single y) = single_items given out nothing y
item_code given out nothing Them = map Plain (moves_items given (take (length given) out))

-- how many data they are
abbrev pub item_words : (given : List ℕ) → DataItem → ℕ
item_words given (Single y) = 1
item_words given Them = length given
