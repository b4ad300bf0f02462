-- The head of an equation, read from the tokens of a run.
use Rattle.std.proofs.Common.{◌≡◌, ◌∙◌, ℕ, ◌+◌, ◌<◌, ◌≤◌, true, false, List, [], ◌∷◌, length, drop, get_or, Option, Some, None, refl, sym, ap, arith}
use Rattle.std.specs.Str.{bytes_eq}
use Rattle.meta_lex.specs.declared.token.Token.{Token}
use Rattle.meta_terms.specs.Names.{is_function}
use Rattle.meta_terms.specs.PlainItems.{PlainPatternPart}
use Rattle.action_text.specs.Texts.{texts}
use Rattle.meta_reader.specs.ItemForms.{Tokens, opening, equals}
use Rattle.meta_reader.specs.Parsing.{Pattern, pattern_of, head_from, head_of}
use Rattle.meta_reader.proofs.Walking.{cut_at, drop-past}

-- two tokens of a run, and the tokens behind them
two : (run : List Token) (f o : Token) → 2 ≤ length run → f ≡ get_or run 0 f → o ≡ get_or run 1 o → texts run ≡ f.bytes.now ∷ o.bytes.now ∷ drop 2 (texts run)
two run f o h x y = cut_at run 0 f (omega arith) x ∙ ap (λ us. f.bytes.now ∷ us) (cut_at run 1 o (omega arith) y)

pub short_head : (run : List Token) → length run < 2 → head_of (texts run) ≡ None
short_head [] h = refl
short_head (t ∷ []) h = refl
short_head (t ∷ u ∷ run) h = absurd (omega arith)

pub unnamed_head : (run : List Token) (f : Token) → 2 ≤ length run → f ≡ get_or run 0 f → false ≡ is_function f.bytes.now → head_of (texts run) ≡ None
unnamed_head [] f h x n = absurd (omega arith)
unnamed_head (t ∷ []) f h x n = absurd (omega arith)
unnamed_head (t ∷ u ∷ run) f h x n = let same : is_function t.bytes.now ≡ false = ap (λ (k : Token). is_function k.bytes.now) (sym x) ∙ sym n in rw same refl

pub unopened_head : (run : List Token) (f o : Token) → 2 ≤ length run → f ≡ get_or run 0 f → o ≡ get_or run 1 o → true ≡ is_function f.bytes.now → false ≡ bytes_eq o.bytes.now opening → head_of (texts run) ≡ None
unopened_head run f o h x y n q = ap head_of (two run f o h x y) ∙ step f.bytes.now o.bytes.now (drop 2 (texts run)) (sym n) (sym q)
  where
    step : (f o : List ℕ) (ts : Tokens) → is_function f ≡ true → bytes_eq o opening ≡ false → head_of (f ∷ o ∷ ts) ≡ None
    step f o ts n q = rw (n, q) refl

-- a run that begins with a function and brackets
pub record IsBegun (run : List Token) (f o : Token) : Type 0 where
  pub room : 2 ≤ length run
  pub function_at : f ≡ get_or run 0 f
  pub function_is : true ≡ is_function f.bytes.now
  pub brackets_at : o ≡ get_or run 1 o
  pub brackets_are : true ≡ bytes_eq o.bytes.now opening

behind : (run : List Token) (f o : Token) (r : Option Pattern) → IsBegun run f o → pattern_of (drop 2 (texts run)) ≡ r → head_of (texts run) ≡ head_from f.bytes.now r
behind run f o r h e = ap head_of (two run f o h.room h.function_at h.brackets_at) ∙ step f.bytes.now o.bytes.now (drop 2 (texts run)) (sym h.function_is) (sym h.brackets_are) ∙ ap (head_from f.bytes.now) e
  where
    step : (f o : List ℕ) (ts : Tokens) → is_function f ≡ true → bytes_eq o opening ≡ true → head_of (f ∷ o ∷ ts) ≡ head_from f (pattern_of ts)
    step f o ts n q = rw (n, q) refl

pub ended_head : (run : List Token) (f o : Token) (ps : List PlainPatternPart) (next : ℕ) → IsBegun run f o → pattern_of (drop 2 (texts run)) ≡ Some (ps, drop next (texts run)) → length run ≤ next → head_of (texts run) ≡ None
ended_head run f o ps next h e l = behind run f o (Some (ps, drop next (texts run))) h e ∙ ap (λ us. head_from f.bytes.now (Some (ps, us))) (drop-past run next l)

-- the token behind the pattern
pub unequal_head : (run : List Token) (f o x : Token) (ps : List PlainPatternPart) (next : ℕ) → IsBegun run f o → pattern_of (drop 2 (texts run)) ≡ Some (ps, drop next (texts run)) → next < length run → x ≡ get_or run next x
    → false ≡ bytes_eq x.bytes.now equals → head_of (texts run) ≡ None
unequal_head run f o x ps next h e l at q =
    behind run f o (Some (ps, drop next (texts run))) h e
    ∙ ap (λ us. head_from f.bytes.now (Some (ps, us))) (cut_at run next x l at)
    ∙ step f.bytes.now x.bytes.now (drop (next + 1) (texts run)) (sym q)
  where
    step : (f x : List ℕ) (us : Tokens) → bytes_eq x equals ≡ false → head_from f (Some (ps, x ∷ us)) ≡ None
    step f x us q = rw q refl

pub whole_head : (run : List Token) (f o x g : Token) (ps : List PlainPatternPart) (next : ℕ) → IsBegun run f o → pattern_of (drop 2 (texts run)) ≡ Some (ps, drop next (texts run)) → next < length run → x ≡ get_or run next x
    → true ≡ bytes_eq x.bytes.now equals → head_of (texts run) ≡ Some (record { function = (get_or run 0 g).bytes.now; pattern = ps; action_tokens = drop (next + 1) (texts run) })
whole_head run f o x g ps next h e l at q =
    behind run f o (Some (ps, drop next (texts run))) h e
    ∙ ap (λ us. head_from f.bytes.now (Some (ps, us))) (cut_at run next x l at)
    ∙ step f.bytes.now x.bytes.now (drop (next + 1) (texts run)) (sym q)
    ∙ ap (λ (t : Token). Some (record { function = t.bytes.now; pattern = ps; action_tokens = drop (next + 1) (texts run) })) (h.function_at ∙ first run f g h.room)
  where
    step : (f x : List ℕ) (us : Tokens) → bytes_eq x equals ≡ true → head_from f (Some (ps, x ∷ us)) ≡ Some (record { function = f; pattern = ps; action_tokens = us })
    step f x us q = rw q refl

    first : (run : List Token) (d e : Token) → 2 ≤ length run → get_or run 0 d ≡ get_or run 0 e
    first [] d e h = absurd (omega arith)
    first (t ∷ run) d e h = refl
