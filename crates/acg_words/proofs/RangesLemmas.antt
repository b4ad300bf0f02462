-- The numbers that command lines say are in their ranges.
use Rattle.std.proofs.Common.{◌≡◌, ℕ, ◌≤◌, ◌&&◌, Bool, true, false, nat_le, List, [], ◌∷◌, Option, Some, None, option_map, option_and_then, IfSome, cond, refl, subst, arith}
use Rattle.std.proofs.lemmas.Bool.{leb-true}
use Rattle.std.specs.List.{list_any}
use Rattle.acg_base.specs.Decimals.{spelled_number}
use Rattle.acg_words.specs.declared.command.Command.{Command as Request}
use Rattle.acg_words.specs.declared.settings.Setting.{Setting}
use Rattle.acg_words.specs.declared.settings.Setting.TheVariants.{Stack, Units, Budget}
use Rattle.acg_words.specs.declared.settings.Settings.{Settings}
use Rattle.acg_words.specs.declared.table.Kind.{Kind}
use Rattle.acg_words.specs.declared.table.Kind.TheVariants as kind
use Rattle.acg_words.specs.Settings.{IsCapacity, IsBudget, least_of, greatest_of, defaults, with_setting, with_digits, with_first, behind_sign, sign_of, settings_of, option_words, operands}
use Rattle.acg_words.specs.Commands.{Command, Perform, HasRanges, act_of, run_of, perform_of, alone_of, words_of, schedule_number, command_by, command_with, command_of, options_of, kind_of, is_empty, asked}

-- what options say is in range
pub record AreInRange (s : Settings) : Type 0 where
  pub capacity : IsCapacity s.capacity
  pub budget : IsBudget s.budget

set-in_range : (setting : Setting) (n : ℕ) (s : Settings) → least_of setting ≤ n → n ≤ greatest_of setting → AreInRange s → AreInRange (with_setting setting n s)
set-in_range Stack n s least most is = record { capacity = record { some_words = least; words = most; some_units = is.capacity.some_units; units = is.capacity.units }; budget = is.budget }
set-in_range Units n s least most is = record { capacity = record { some_words = is.capacity.some_words; words = is.capacity.words; some_units = least; units = most }; budget = is.budget }
set-in_range Budget n s least most is = record { capacity = is.capacity; budget = record { some = least; most = most } }

defaults-in_range : AreInRange defaults
defaults-in_range = record { capacity = record { some_words = omega arith; words = omega arith; some_units = omega arith; units = omega arith }; budget = record { some = omega arith; most = omega arith } }

abbrev IsToldInRange : Settings × List (List ℕ) → Type 0
IsToldInRange told = AreInRange told.0

-- a number of an option, from the two tests of its range
by-tests :
    (setting : Setting) (s : Settings) (behind : List (List ℕ)) (n : ℕ) (above below : Bool) → nat_le (least_of setting) n ≡ above → nat_le n (greatest_of setting) ≡ below → AreInRange s →
    IfSome (option_map (λ (m : ℕ). (with_setting setting m s, behind)) (cond (above && below) (Some n) None)) IsToldInRange
by-tests setting s behind n true true above below is = set-in_range setting n s (leb-true _ _ above) (leb-true _ _ below) is
by-tests setting s behind n true false above below is = tt
by-tests setting s behind n false true above below is = tt
by-tests setting s behind n false false above below is = tt

by-number :
    (setting : Setting) (s : Settings) (behind : List (List ℕ)) (o : Option ℕ) → AreInRange s →
    IfSome (option_map (λ (m : ℕ). (with_setting setting m s, behind)) (option_and_then (λ (n : ℕ). cond (nat_le (least_of setting) n && nat_le n (greatest_of setting)) (Some n) None) o)) IsToldInRange
by-number setting s behind None is = tt
by-number setting s behind (Some n) is = by-tests setting s behind n (nat_le (least_of setting) n) (nat_le n (greatest_of setting)) refl refl is

by-digits : (setting : Setting) (s : Settings) (d : Option (List ℕ)) (words behind : List (List ℕ)) → AreInRange s → IfSome (with_digits setting s d words behind) IsToldInRange
by-digits setting s None words behind is = is
by-digits setting s (Some digits) words behind is = by-number setting s behind (spelled_number digits) is

by-first : (setting : Setting) (s : Settings) (words : List (List ℕ)) → AreInRange s → IfSome (with_first setting s words) IsToldInRange
by-first setting s [] is = is
by-first setting s (word ∷ words) is = by-digits setting s (behind_sign (sign_of setting) word) (word ∷ words) words is

-- what comes behind an option
behind-first :
    (left : List Setting) → ((s : Settings) (words : List (List ℕ)) → AreInRange s → IfSome (settings_of left s words) AreInRange) →
    (o : Option (Settings × List (List ℕ))) → IfSome o IsToldInRange → IfSome (option_and_then (λ (r : Settings × List (List ℕ)). settings_of left r.0 r.1) o) AreInRange
behind-first left later None is = tt
behind-first left later (Some r) is = later r.0 r.1 is

settings-ranges : (left : List Setting) (s : Settings) (words : List (List ℕ)) → AreInRange s → IfSome (settings_of left s words) AreInRange
settings-ranges [] s [] is = is
settings-ranges [] s (word ∷ words) is = tt
settings-ranges (setting ∷ left) s words is = behind-first left (λ s words is. settings-ranges left s words is) (with_first setting s words) (by-first setting s words is)

-- the operands of each command leave what its options say
abbrev IsAskedInRange : Option Command → Type 0
IsAskedInRange command = IfSome command HasRanges

by-schedule : (o : Option ℕ) (action : List ℕ) (input : Option (List ℕ)) → IsAskedInRange (option_map (λ (n : ℕ). Perform n action input) o)
by-schedule None action input = tt
by-schedule (Some n) action input = tt

act-ranges : (s : Settings) (operands : List (List ℕ)) → AreInRange s → IsAskedInRange (act_of s operands)
act-ranges s [] is = tt
act-ranges s (a ∷ []) is = (is.capacity, is.budget)
act-ranges s (a ∷ b ∷ []) is = (is.capacity, is.budget)
act-ranges s (a ∷ b ∷ c ∷ others) is = tt

run-ranges : (s : Settings) (operands : List (List ℕ)) → AreInRange s → IsAskedInRange (run_of s operands)
run-ranges s [] is = tt
run-ranges s (a ∷ []) is = is.budget
run-ranges s (a ∷ b ∷ []) is = is.budget
run-ranges s (a ∷ b ∷ c ∷ others) is = tt

perform-ranges : (operands : List (List ℕ)) → IsAskedInRange (perform_of operands)
perform-ranges [] = tt
perform-ranges (a ∷ []) = tt
perform-ranges (a ∷ b ∷ []) = by-schedule (schedule_number a) b None
perform-ranges (a ∷ b ∷ c ∷ []) = by-schedule (schedule_number a) b (Some c)
perform-ranges (a ∷ b ∷ c ∷ d ∷ others) = tt

alone-ranges : (command : Command) (operands : List (List ℕ)) → HasRanges command → IsAskedInRange (alone_of command operands)
alone-ranges command [] is = is
alone-ranges command (a ∷ others) is = tt

words-ranges : (k : Kind) (s : Settings) (operands : List (List ℕ)) → AreInRange s → IsAskedInRange (words_of k s operands)
words-ranges kind.Act s operands is = act-ranges s operands is
words-ranges kind.Run s operands is = run-ranges s operands is
words-ranges kind.Perform s operands is = perform-ranges operands
words-ranges kind.Help s operands is = alone-ranges _ operands tt
words-ranges kind.Version s operands is = alone-ranges _ operands tt

-- behind a command's name
by-told : (k : Kind) (o : Option Settings) (behind : List (List ℕ)) → IfSome o AreInRange → IsAskedInRange (option_and_then (λ (told : Settings × List (List ℕ)). words_of k told.0 told.1) (option_map (λ (s : Settings). (s, behind)) o))
by-told k None behind is = tt
by-told k (Some s) behind is = words-ranges k s behind is

by-kind : (o : Option Kind) (words : List (List ℕ)) → IsAskedInRange (option_and_then (λ (k : Kind). command_by k words) o)
by-kind None words = tt
by-kind (Some k) words =
    by-told k (settings_of (options_of k) defaults (option_words (options_of k) words)) (operands (options_of k) words) (settings-ranges (options_of k) defaults (option_words (options_of k) words) defaults-in_range)

with-ranges : (words : List (List ℕ)) → IsAskedInRange (command_with words)
with-ranges [] = tt
with-ranges (name ∷ words) = by-kind (kind_of name) words

by-empty : (b : Bool) (words : List (List ℕ)) → IsAskedInRange (cond b None (command_with words))
by-empty true words = tt
by-empty false words = with-ranges words

-- a command line says no number that is out of range
pub command-ranges : (words : List (List ℕ)) → IfSome (command_of words) HasRanges
unfolding command_of
command-ranges words = by-empty (list_any is_empty words) words

-- so does what the program answers for it
some-ranges : (o : Option Request) → IsAskedInRange (option_map asked o) → IfSome o (λ command. HasRanges (asked command))
some-ranges None is = tt
some-ranges (Some command) is = is

pub asked-ranges : (words : List (List ℕ)) (o : Option Request) → command_with words ≡ option_map asked o → IfSome o (λ command. HasRanges (asked command))
asked-ranges words o is = some-ranges o (subst (λ (command : Option Command). IsAskedInRange command) is (with-ranges words))
