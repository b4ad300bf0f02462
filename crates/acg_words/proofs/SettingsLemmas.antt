-- Options, by the place of a loop over those that a command takes.
use Rattle.std.proofs.Common.{◌≡◌, ℕ, zero, suc, ◌+◌, ◌<◌, Bool, true, false, List, [], ◌∷◌, length, get_or, map, string_bytes, drop, Option, Some, None, option_map, option_and_then, is_some, refl, sym, ap, ◌∙◌, arith, cond, drop-cons}
use Rattle.std.specs.List.{prefix_len}
use Rattle.std.proofs.lemmas.List.Folds.{list_any_at}
use Rattle.std.proofs.lemmas.List.Sums.{take_while-cons}
use Rattle.acg_words.specs.declared.settings.Setting.{Setting}
use Rattle.acg_words.specs.declared.settings.Settings.{Settings}
use Rattle.acg_words.specs.declared.settings.Told.{Told}
use Rattle.acg_words.specs.Settings.{sign_of, begins_with, behind_sign, setting_number, with_setting, is_option, option_words, operands, with_digits, with_first, settings_of, pair_of}

-- a word begins with a sign where something stands behind it
some-map : {X : Type 0} (f : X → List ℕ) (o : Option X) → is_some o ≡ is_some (option_map f o)
some-map f None = refl
some-map f (Some x) = refl

some-if : (b : Bool) (behind : List ℕ) → is_some (cond b (Some behind) None) ≡ b
some-if true behind = refl
some-if false behind = refl

pub begun : {X : Type 0} (f : X → List ℕ) (sign word : List ℕ) (o : Option X) → option_map f o ≡ behind_sign sign word → is_some o ≡ begins_with sign word
begun f sign word o is = some-map f o ∙ ap (λ (x : Option (List ℕ)). is_some x) is ∙ some-if (begins_with sign word) (drop (length sign) word)

-- a word that is an option, before others
words-said : (all : List Setting) (word : List ℕ) (words : List (List ℕ)) → is_option all word ≡ true → option_words all (word ∷ words) ≡ word ∷ option_words all words
words-said all word words is =
    take_while-cons (λ w. is_option all w) word words ∙ ap (λ (b : Bool). cond b (word ∷ option_words all words) []) is

words-unsaid : (all : List Setting) (word : List ℕ) (words : List (List ℕ)) → is_option all word ≡ false → option_words all (word ∷ words) ≡ []
words-unsaid all word words is =
    take_while-cons (λ w. is_option all w) word words ∙ ap (λ (b : Bool). cond b (word ∷ option_words all words) []) is

drop-more : (count : ℕ) (word : List ℕ) (words : List (List ℕ)) (n : ℕ) → n ≡ 1 + count → drop n (word ∷ words) ≡ drop count words
drop-more count word words zero is = absurd (omega arith)
drop-more count word words (suc n) is = ap (λ (k : ℕ). drop k words) (omega arith)

operands-said : (all : List Setting) (word : List ℕ) (words : List (List ℕ)) → is_option all word ≡ true → operands all (word ∷ words) ≡ operands all words
operands-said all word words is =
    let count = prefix_len (λ w. is_option all w) words in
    drop-more count word words _ (ap (λ (b : Bool). cond b (1 + count) 0) is)

operands-unsaid : (all : List Setting) (word : List ℕ) (words : List (List ℕ)) → is_option all word ≡ false → operands all (word ∷ words) ≡ word ∷ words
operands-unsaid all word words is =
    let count = prefix_len (λ w. is_option all w) words in
    ap (λ (b : Bool). drop (cond b (1 + count) 0) (word ∷ words)) is

-- what words say by the options that are left, with the operands behind them
abbrev told_parts : List Setting → Settings → (said operands : List (List ℕ)) → Option (Settings × List (List ℕ))
told_parts left s said operands = option_map (λ settings. (settings, operands)) (settings_of left s said)

-- the same of words that are left: every option of the command ends the operands before it
abbrev pub rest_told : (all left : List Setting) → Settings → (words : List (List ℕ)) → Option (Settings × List (List ℕ))
rest_told all left s words = told_parts left s (option_words all words) (operands all words)

-- the first of the words says the option, or doesn't
abbrev first_told : (all left : List Setting) → Setting → Settings → (words : List (List ℕ)) → Option (Settings × List (List ℕ))
first_told all left setting s words = option_and_then (λ r. rest_told all left r.0 r.1) (with_first setting s words)

-- a number of the option, or none
number-told :
    (all left : List Setting) (setting : Setting) (s : Settings) (words : List (List ℕ)) (m : Option ℕ) →
    option_map (λ (settings : Settings). (settings, operands all words))
    (option_and_then (λ (r : Settings × List (List ℕ)). settings_of left r.0 r.1) (option_map (λ (n : ℕ). (with_setting setting n s, option_words all words)) m))
    ≡ option_and_then (λ (r : Settings × List (List ℕ)). rest_told all left r.0 r.1) (option_map (λ (n : ℕ). (with_setting setting n s, words)) m)
number-told all left setting s words None = refl
number-told all left setting s words (Some n) = refl

-- a word that says the option
said :
    (all left : List Setting) (setting : Setting) (s : Settings) (word : List ℕ) (words : List (List ℕ)) (digits : List ℕ) →
    is_option all word ≡ true → behind_sign (sign_of setting) word ≡ Some digits →
    rest_told all (setting ∷ left) s (word ∷ words) ≡ first_told all left setting s (word ∷ words)
said all left setting s word words digits is behind =
    let own = option_words all words in
    ap (λ (said : List (List ℕ)). told_parts (setting ∷ left) s said (operands all (word ∷ words))) (words-said all word words is)
    ∙ ap (λ (others : List (List ℕ)). told_parts (setting ∷ left) s (word ∷ own) others) (operands-said all word words is)
    ∙ ap (λ (d : Option (List ℕ)). option_map (λ (settings : Settings). (settings, operands all words))
    (option_and_then (λ (r : Settings × List (List ℕ)). settings_of left r.0 r.1) (with_digits setting s d (word ∷ own) own))) behind
    ∙ number-told all left setting s words (setting_number setting digits)
    ∙ sym (ap (λ (d : Option (List ℕ)). option_and_then (λ (r : Settings × List (List ℕ)). rest_told all left r.0 r.1) (with_digits setting s d (word ∷ words) words)) behind)

-- one that says it not passes the option over
passed :
    (all left : List Setting) (setting : Setting) (s : Settings) (word : List ℕ) (words : List (List ℕ)) →
    behind_sign (sign_of setting) word ≡ None → rest_told all left s (word ∷ words) ≡ first_told all left setting s (word ∷ words)
passed all left setting s word words behind =
    sym (ap (λ (d : Option (List ℕ)). option_and_then (λ (r : Settings × List (List ℕ)). rest_told all left r.0 r.1) (with_digits setting s d (word ∷ words) words)) behind)

unsaid-parts : (left : List Setting) (setting : Setting) (s : Settings) (word : List ℕ) (own others : List (List ℕ)) → behind_sign (sign_of setting) word ≡ None → told_parts (setting ∷ left) s (word ∷ own) others ≡ told_parts left s (word ∷ own) others
unsaid-parts left setting s word own others behind =
    ap (λ (d : Option (List ℕ)). option_map (λ (settings : Settings). (settings, others))
    (option_and_then (λ (r : Settings × List (List ℕ)). settings_of left r.0 r.1) (with_digits setting s d (word ∷ own) own))) behind

unsaid :
    (all left : List Setting) (setting : Setting) (s : Settings) (word : List ℕ) (words : List (List ℕ)) (b : Bool) →
    is_option all word ≡ b → behind_sign (sign_of setting) word ≡ None →
    rest_told all (setting ∷ left) s (word ∷ words) ≡ rest_told all left s (word ∷ words)
unsaid all left setting s word words true is behind =
    let others = operands all (word ∷ words) in
    ap (λ (said : List (List ℕ)). told_parts (setting ∷ left) s said others) (words-said all word words is)
    ∙ unsaid-parts left setting s word (option_words all words) others behind
    ∙ sym (ap (λ (said : List (List ℕ)). told_parts left s said others) (words-said all word words is))
unsaid all left setting s word words false is behind =
    let others = operands all (word ∷ words) in
    ap (λ (said : List (List ℕ)). told_parts (setting ∷ left) s said others) (words-unsaid all word words is)
    ∙ sym (ap (λ (said : List (List ℕ)). told_parts left s said others) (words-unsaid all word words is))

by-begins :
    (all left : List Setting) (setting : Setting) (s : Settings) (word : List ℕ) (words : List (List ℕ)) (b : Bool) →
    begins_with (sign_of setting) word ≡ b → (begins_with (sign_of setting) word ≡ true → is_option all word ≡ true) →
    rest_told all (setting ∷ left) s (word ∷ words) ≡ first_told all left setting s (word ∷ words)
by-begins all left setting s word words true is among =
    said all left setting s word words (drop (length (sign_of setting)) word) (among is)
    (ap (λ (b : Bool). cond b (Some (drop (length (sign_of setting)) word)) None) is)
by-begins all left setting s word words false is among =
    let behind : behind_sign (sign_of setting) word ≡ None = ap (λ (b : Bool). cond b (Some (drop (length (sign_of setting)) word)) None) is in
    unsaid all left setting s word words (is_option all word) refl behind ∙ passed all left setting s word words behind

by-word :
    (all left : List Setting) (setting : Setting) (s : Settings) (words : List (List ℕ)) →
    ((word : List ℕ) → begins_with (sign_of setting) word ≡ true → is_option all word ≡ true) →
    rest_told all (setting ∷ left) s words ≡ first_told all left setting s words
by-word all left setting s [] among = refl
by-word all left setting s (word ∷ words) among =
    by-begins all left setting s word words (begins_with (sign_of setting) word) refl (among word)

-- at an option of the command, in its place
pub told-turn :
    (all : List Setting) (i : ℕ) (d : Setting) (s : Settings) (words : List (List ℕ)) → i < length all →
    rest_told all (drop i all) s words ≡ option_and_then (λ r. rest_told all (drop (suc i) all) r.0 r.1) (with_first (get_or all i d) s words)
told-turn all i d s words below =
    ap (λ (left : List Setting). rest_told all left s words) (drop-cons all i d below)
    ∙ by-word all (drop (suc i) all) (get_or all i d) s words
    (λ word begins. list_any_at (λ (setting : Setting). begins_with (sign_of setting) word) all i d below begins)

-- behind the last option: the operands begin
pub told-end : (all : List Setting) (s : Settings) (words : List (List ℕ)) → words ≡ [] → rest_told all [] s words ≡ Some (s, words)
told-end all s words none = rw none refl

pub told-operands : (all : List Setting) (s : Settings) (word : List ℕ) (words : List (List ℕ)) → is_option all word ≡ false → rest_told all [] s (word ∷ words) ≡ Some (s, word ∷ words)
told-operands all s word words is =
    ap (λ (said : List (List ℕ)). told_parts [] s said (operands all (word ∷ words))) (words-unsaid all word words is)
    ∙ ap (λ (others : List (List ℕ)). told_parts [] s [] others) (operands-unsaid all word words is)

pub told-again : (all : List Setting) (s : Settings) (word : List ℕ) (words : List (List ℕ)) → is_option all word ≡ true → rest_told all [] s (word ∷ words) ≡ None
told-again all s word words is =
    ap (λ (said : List (List ℕ)). told_parts [] s said (operands all (word ∷ words))) (words-said all word words is)

-- an option that ends the command's words, and one that doesn't
pub told-none :
    (all : List Setting) (i : ℕ) (d : Setting) (s : Settings) (words : List (List ℕ)) (o : Option Told) (whole : Option (Settings × List (List ℕ))) → i < length all →
    option_map pair_of o ≡ with_first (get_or all i d) s words → o ≡ None → rest_told all (drop i all) s words ≡ whole → whole ≡ None
told-none all i d s words o whole below is none begun =
    sym begun ∙ told-turn all i d s words below
    ∙ ap (λ (r : Option (Settings × List (List ℕ))). option_and_then (λ (r : Settings × List (List ℕ)). rest_told all (drop (suc i) all) r.0 r.1) r)
    (sym is ∙ ap (λ (o : Option Told). option_map pair_of o) none)

pub told-next :
    (all : List Setting) (i : ℕ) (d : Setting) (s : Settings) (words : List (List ℕ)) (o : Option Told) (t : Told) (whole : Option (Settings × List (List ℕ))) → i < length all →
    option_map pair_of o ≡ with_first (get_or all i d) s words → o ≡ Some t → rest_told all (drop i all) s words ≡ whole →
    rest_told all (drop (suc i) all) t.settings (map string_bytes t.behind.now) ≡ whole
told-next all i d s words o t whole below is some begun =
    sym (ap (λ (r : Option (Settings × List (List ℕ))). option_and_then (λ (r : Settings × List (List ℕ)). rest_told all (drop (suc i) all) r.0 r.1) r)
    (sym is ∙ ap (λ (o : Option Told). option_map pair_of o) some))
    ∙ sym (told-turn all i d s words below) ∙ begun
