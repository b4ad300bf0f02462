-- The class of a token, by its bytes.
use Rattle.std.specs.Prelude.{ℕ, suc, Bool, false, ◌&&◌, List, [], ◌∷◌, Option, Some, None, ℤ, pos, negsuc, codes, nat_le, nat_lt, if◌then◌else◌}
use Rattle.acg_base.specs.Decimals.{spelled_i64}
use Rattle.meta_lex.specs.Forms.{is_quoted}
use Rattle.std.specs.Borrow.{Bor}
use Rattle.action_text.specs.declared.classes.Class.{Class}
use Rattle.action_text.specs.declared.classes.Class.TheVariants as class
use Rattle.action_text.specs.Numbers.{class_number}
use Rattle.meta_terms.specs.Words.{words, same_bytes}
use Rattle.meta_terms.specs.Names.{is_function, is_variable}

-- the place of the bytes among the words, counted from n, or no class
abbrev pub word_class : ℕ → List (List ℕ) → List ℕ → ℕ
word_class n [] bytes = class_number class.Other
word_class n (w ∷ ws) bytes = if same_bytes w bytes then n else word_class (suc n) ws bytes

-- the class of the word among these, each with its class, that the bytes are, or no class
abbrev pub class_among : List (ℕ × List ℕ) → List ℕ → ℕ
class_among [] bytes = class_number class.Other
class_among (w ∷ ws) bytes = if same_bytes w.1 bytes then w.0 else class_among ws bytes

-- a word of the code, with the number of its class
abbrev pub spelled_class : (Class × Bor (List ℕ)) → ℕ × List ℕ
spelled_class w = (class_number w.0, w.1.now)

-- a number after `#` is from 1 to 64
abbrev pub is_place : ℤ → Bool
is_place (pos n) = nat_le 1 n && nat_le n 64
is_place (negsuc n) = false

abbrev pub number_class : Option ℤ → List ℕ → ℕ
number_class (Some z) bytes = if is_place z then class_number class.Place else class_number class.Number
number_class None bytes = word_class 0 words bytes

-- the class of a quoted text, of a number of 64 signed bits, or of a word or symbol
abbrev pub class_of : List ℕ → ℕ
class_of bytes = if is_quoted bytes then class_number class.Quoted else number_class (spelled_i64 bytes) bytes

-- the class of a token that a template can have and an action text can't
abbrev pub parameter_class : List ℕ → ℕ
parameter_class bytes =
    if same_bytes (codes "value") bytes then class_number class.Value
    else if same_bytes (codes "token") bytes then class_number class.Token
    else if is_function bytes then class_number class.Function
    else if is_variable bytes then class_number class.Variable
    else class_number class.Other

abbrev pub or_parameter : ℕ → List ℕ → ℕ
or_parameter c bytes = if nat_lt c (class_number class.Other) then c else parameter_class bytes

-- the class of a token of a template
abbrev pub template_class : List ℕ → ℕ
template_class bytes = or_parameter (class_of bytes) bytes
