-- The options of command lines: how they are written, their ranges, and how words say them.
use Rattle.std.specs.Prelude.{◌≡◌, ℕ, ◌≤◌, Bool, nat_le, ◌&&◌, if◌then◌else◌, List, [], ◌∷◌, length, map, take, drop, codes, string_bytes, Option, Some, None, option_map, option_and_then}
use Rattle.std.specs.List.{list_any, prefix_len, take_while}
use Rattle.std.specs.Str.{bytes_eq}
use Rattle.acg_base.specs.Decimals.{spelled_number}
use Rattle.acg_base.specs.declared.capacity.Capacity.{Capacity}
use Rattle.acg_words.specs.declared.settings.Setting.{Setting}
use Rattle.acg_words.specs.declared.settings.Setting.TheVariants.{Stack, Units, Budget}
use Rattle.acg_words.specs.declared.settings.SettingRow.{SettingRow}
use Rattle.acg_words.specs.declared.settings.Settings.{Settings}
use Rattle.acg_words.specs.declared.settings.Told.{Told}

-- the sign of an option: its name and `=`
abbrev pub sign_of : Setting → List ℕ
sign_of Stack = codes "stack="
sign_of Units = codes "units="
sign_of Budget = codes "budget="

-- the least number that it takes
abbrev pub least_of : Setting → ℕ
least_of setting = 1

-- the greatest number that it takes
abbrev pub greatest_of : Setting → ℕ
greatest_of Stack = 16777216
greatest_of Units = 4194304
greatest_of Budget = 1000000000

-- the number where no word says one
abbrev pub default_of : Setting → ℕ
default_of Stack = 1048576
default_of Units = 262144
default_of Budget = 10000000

-- what it counts
abbrev pub counts_of : Setting → List ℕ
counts_of Stack = codes "words of 8 bytes for the frames of a run"
counts_of Units = codes "units of 16 bytes for the cells and closures of a run"
counts_of Budget = codes "instructions that are run at most"

pub record IsSettingRow (setting : Setting) (row : SettingRow) : Type 0 where
  pub sign : row.sign.now ≡ sign_of setting
  pub least : row.least ≡ least_of setting
  pub greatest : row.greatest ≡ greatest_of setting
  pub default : row.default ≡ default_of setting
  pub about : row.about.now ≡ counts_of setting

-- the words of a stack and the units that an image may have
pub record IsCapacity (c : Capacity) : Type 0 where
  pub some_words : 1 ≤ c.stack
  pub words : c.stack ≤ 16777216
  pub some_units : 1 ≤ c.units
  pub units : c.units ≤ 4194304

-- the most instructions that a run may be given
pub record IsBudget (budget : ℕ) : Type 0 where
  pub some : 1 ≤ budget
  pub most : budget ≤ 1000000000

-- what holds where no word is an option
abbrev pub defaults : Settings
defaults = record {
  capacity = record { stack = default_of Stack; units = default_of Units };
  budget = default_of Budget;
}

-- the settings, where one option says a number
abbrev pub with_setting : Setting → ℕ → Settings → Settings
with_setting Stack n s = record { capacity = record { stack = n; units = s.capacity.units }; budget = s.budget }
with_setting Units n s = record { capacity = record { stack = s.capacity.stack; units = n }; budget = s.budget }
with_setting Budget n s = record { capacity = s.capacity; budget = n }

-- a word begins with a sign
abbrev pub begins_with : (sign word : List ℕ) → Bool
begins_with sign word = bytes_eq (take (length sign) word) sign

-- what stands behind a sign, in a word that begins with it
abbrev pub behind_sign : (sign word : List ℕ) → Option (List ℕ)
behind_sign sign word = if begins_with sign word then Some (drop (length sign) word) else None

-- the number that stands behind the sign of an option: one digit or more, within the range of the option
abbrev pub setting_number : Setting → (digits : List ℕ) → Option ℕ
setting_number setting digits =
    option_and_then (λ n. if nat_le (least_of setting) n && nat_le n (greatest_of setting) then Some n else None) (spelled_number digits)

-- the word begins with the sign of one of the options
abbrev pub is_option : List Setting → (word : List ℕ) → Bool
is_option settings word = list_any (λ setting. begins_with (sign_of setting) word) settings

-- the words before the first that begins with no sign
abbrev pub option_words : List Setting → List (List ℕ) → List (List ℕ)
option_words settings words = take_while (λ word. is_option settings word) words

-- that word and all behind it, whatever they begin with
abbrev pub operands : List Setting → List (List ℕ) → List (List ℕ)
operands settings words = drop (prefix_len (λ word. is_option settings word) words) words

-- the settings where a word says a number of an option, if it begins with the sign, and the words that are left
abbrev pub with_digits : Setting → Settings → (digits : Option (List ℕ)) → (words behind : List (List ℕ)) → Option (Settings × List (List ℕ))
with_digits setting s None words behind = Some (s, words)
with_digits setting s (Some digits) words behind =
    option_map (λ n. (with_setting setting n s, behind)) (setting_number setting digits)

-- the settings where the first of some words may say the option, and the words that are left
abbrev pub with_first : Setting → Settings → List (List ℕ) → Option (Settings × List (List ℕ))
with_first setting s [] = Some (s, [])
with_first setting s (word ∷ words) = with_digits setting s (behind_sign (sign_of setting) word) (word ∷ words) words

-- the settings that words say: each option of the list at most once, in the order of the list, and nothing else
abbrev pub settings_of : List Setting → Settings → List (List ℕ) → Option Settings
settings_of [] s [] = Some s
settings_of [] s (word ∷ words) = None
settings_of (setting ∷ settings) s words = option_and_then (λ r. settings_of settings r.0 r.1) (with_first setting s words)

-- what the words behind a command's name say: the settings by its options, and the operands
abbrev pub told_by : List Setting → List (List ℕ) → Option (Settings × List (List ℕ))
told_by settings words = option_map (λ s. (s, operands settings words)) (settings_of settings defaults (option_words settings words))

-- the same, as the program has it
abbrev pub pair_of : Told → Settings × List (List ℕ)
pair_of t = (t.settings, map string_bytes t.behind.now)
