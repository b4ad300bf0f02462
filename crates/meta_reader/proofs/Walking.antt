-- Walking over the tokens of a run.
use Rattle.std.proofs.Common.{◌≡◌, ◌∙◌, ℕ, zero, suc, ◌+◌, ◌<◌, ◌≤◌, Bool, true, false, List, [], ◌∷◌, ◌++◌, length, drop, get_or, Option, Some, None, refl, sym, ap, append_assoc, append-nil, add-one, arith}
use Rattle.std.specs.Prelude.{option_map}
use Rattle.std.proofs.lemmas.List.{length-map}
use Rattle.std.specs.Str.{bytes_eq}
use Rattle.std.proofs.lemmas.Slice.Eq.{bytes_eq-Decides}
use Rattle.meta_lex.specs.declared.token.Token.{Token}
use Rattle.gram_form.specs.Plain.{PlainPart}
use Rattle.action_text.specs.Texts.{texts}
use Rattle.meta_reader.specs.ItemForms.{Tokens, opening, closing, bar}
use Rattle.meta_terms.specs.PlainItems.{PlainPatternPart}
use Rattle.meta_reader.specs.Parsing.{Pattern, with_part, with_pattern_part, part_of, begins_with, unopened, inside, behind, pattern_of}

-- the tokens from a place on: the one there, and those behind it
drop-texts : (run : List Token) (at : ℕ) (d : Token) → at < length run → drop at (texts run) ≡ (get_or run at d).bytes.now ∷ drop (at + 1) (texts run)
drop-texts run at d h = go run at h ∙ ap (λ n. (get_or run at d).bytes.now ∷ drop n (texts run)) (sym (add-one at))
  where
    go : (run : List Token) (at : ℕ) → at < length run → drop at (texts run) ≡ (get_or run at d).bytes.now ∷ drop (suc at) (texts run)
    go [] at h = absurd (omega arith)
    go (t ∷ run) zero h = refl
    go (t ∷ run) (suc at) h = go run at (omega arith)

pub cut_at : (run : List Token) (at : ℕ) (t : Token) → at < length run → t ≡ get_or run at t → drop at (texts run) ≡ t.bytes.now ∷ drop (at + 1) (texts run)
cut_at run at t h e = drop-texts run at t h ∙ ap (λ (u : Token). u.bytes.now ∷ drop (at + 1) (texts run)) (sym e)

pub drop-past : (run : List Token) (at : ℕ) → length run ≤ at → drop at (texts run) ≡ []
drop-past [] zero h = refl
drop-past [] (suc at) h = refl
drop-past (t ∷ run) zero h = absurd (omega arith)
drop-past (t ∷ run) (suc at) h = drop-past run at (omega arith)

-- some parts in front of the first alternative
abbrev pub prepend : List PlainPart → List (List PlainPart) → List (List PlainPart)
prepend ps [] = []
prepend ps (a ∷ more) = (ps ++ a) ∷ more

abbrev pub fronts : List PlainPart → Option (List (List PlainPart)) → Option (List (List PlainPart))
fronts ps o = option_map (prepend ps) o

fronts-push : (ps : List PlainPart) (p : PlainPart) (o : Option (List (List PlainPart))) → fronts ps (with_part (Some p) o) ≡ fronts (ps ++ p ∷ []) o
fronts-push ps p None = refl
fronts-push ps p (Some []) = refl
fronts-push ps p (Some (a ∷ more)) = ap (λ b. Some (b ∷ more)) (sym (append_assoc ps (p ∷ []) a))

-- one more part
pub inside-part : (ps : List PlainPart) (t : List ℕ) (ts : Tokens) (p : PlainPart) → bytes_eq t closing ≡ false → part_of t ≡ Some p → fronts ps (inside (t ∷ ts)) ≡ fronts (ps ++ p ∷ []) (inside ts)
inside-part ps t ts p unclosed part = rw (unclosed, part) (fronts-push ps p (inside ts))

-- the closing brackets
pub inside-closed : (ps : List PlainPart) (t : List ℕ) (ts : Tokens) → bytes_eq t closing ≡ true → fronts ps (inside (t ∷ ts)) ≡ option_map (λ more. ps ∷ more) (behind ts)
inside-closed ps t ts closed = rw closed (go (behind ts))
  where
    go : (o : Option (List (List PlainPart))) → fronts ps (option_map (λ more. [] ∷ more) o) ≡ option_map (λ more. ps ∷ more) o
    go None = refl
    go (Some more) = ap (λ a. Some (a ∷ more)) (append-nil ps)

-- no part
pub inside-none : (ps : List PlainPart) (t : List ℕ) (ts : Tokens) → bytes_eq t closing ≡ false → part_of t ≡ None → fronts ps (inside (t ∷ ts)) ≡ None
inside-none ps t ts unclosed part = rw (unclosed, part) refl

-- parts of a pattern in front of those that are read
abbrev pub pattern_fronts : List PlainPatternPart → Option Pattern → Option Pattern
pattern_fronts ps o = option_map (λ r. (ps ++ r.0, r.1)) o

-- one more part
pub pattern_fronts-push : (ps : List PlainPatternPart) (p : PlainPatternPart) (o : Option Pattern) → pattern_fronts ps (with_pattern_part (Some p) o) ≡ pattern_fronts (ps ++ p ∷ []) o
pattern_fronts-push ps p None = refl
pattern_fronts-push ps p (Some r) = ap (λ qs. Some (qs, r.1)) (sym (append_assoc ps (p ∷ []) r.0))

-- a token of a run, among its bytes
pub token_at : (run : List Token) (ts : Tokens) (k : ℕ) (t : Token) → texts run ≡ ts → t ≡ get_or run k t → k < length run → t.bytes.now ≡ get_or ts k []
token_at run ts k t e is h = ap (λ (u : Token). u.bytes.now) is ∙ go run k t h ∙ ap (λ us. get_or us k []) e
  where
    go : (run : List Token) (k : ℕ) (t : Token) → k < length run → (get_or run k t).bytes.now ≡ get_or (texts run) k []
    go [] k t h = absurd (omega arith)
    go (u ∷ run) zero t h = refl
    go (u ∷ run) (suc k) t h = go run k t (omega arith)

pub length_texts : (run : List Token) → length (texts run) ≡ length run
length_texts run = length-map run (λ (t : Token). t.bytes.now)

-- a test that fails on a text doesn't hold of it
pub refuted : (test : List ℕ → Bool) (a b : List ℕ) → false ≡ test a → a ≡ b → test b ≡ true → ⊥
refuted test a b f e t = let x : false ≡ true = f ∙ ap test e ∙ t in absurd (cc)

-- nothing is found where nothing can be
pub none_unless : {A : Type 0} (o : Option A) → ((x : A) → o ≡ Some x → ⊥) → o ≡ None
none_unless None h = refl
none_unless (Some x) h = absurd (h x refl)

-- a run of one token that begins with a word is the word
pub one_token : (run : List Token) (word : List ℕ) → length run ≡ 1 → begins_with word (texts run) ≡ true → texts run ≡ word ∷ []
one_token [] word e h = absurd (cc)
one_token (t ∷ []) word e h = ap (λ u. u ∷ []) ((bytes_eq-Decides t.bytes.now word).0 h)
one_token (t ∷ u ∷ run) word e h = absurd (omega (arith, e))

-- alternatives in front of those that are read
abbrev pub alternative_fronts : List (List PlainPart) → Option (List (List PlainPart)) → Option (List (List PlainPart))
alternative_fronts before o = option_map (λ more. before ++ more) o

-- a run that goes on with an alternative, whose parts end at some brackets
pub alternative-part : (before : List (List PlainPart)) (a : List PlainPart) (t : List ℕ) (ts us : Tokens) → bytes_eq t opening ≡ true → inside ts ≡ option_map (λ more. a ∷ more) (behind us)
    → alternative_fronts before (unopened (t ∷ ts)) ≡ alternative_fronts (before ++ a ∷ []) (behind us)
alternative-part before a t ts us o e = rw (o, e) (go (behind us))
  where
    go : (o : Option (List (List PlainPart))) → alternative_fronts before (option_map (λ more. a ∷ more) o) ≡ alternative_fronts (before ++ a ∷ []) o
    go None = refl
    go (Some more) = ap Some (sym (append_assoc before (a ∷ []) more))

-- none goes on, where no part can be read, without a bar, without brackets, and at the end
pub alternative-none : (before : List (List PlainPart)) (t : List ℕ) (ts : Tokens) → bytes_eq t opening ≡ true → inside ts ≡ None → alternative_fronts before (unopened (t ∷ ts)) ≡ None
alternative-none before t ts o e = rw (o, e) refl

pub unbarred-none : (before : List (List PlainPart)) (t : List ℕ) (ts : Tokens) → bytes_eq t bar ≡ false → alternative_fronts before (behind (t ∷ ts)) ≡ None
unbarred-none before t ts b = rw b refl

pub unopened-none : (before : List (List PlainPart)) (t : List ℕ) (ts : Tokens) → bytes_eq t opening ≡ false → alternative_fronts before (unopened (t ∷ ts)) ≡ None
unopened-none before t ts b = rw b refl

pub barred : (t : List ℕ) (ts : Tokens) → bytes_eq t bar ≡ true → behind (t ∷ ts) ≡ unopened ts
barred t ts b = rw b refl

-- the closing brackets of a pattern
pub pattern-closed : (ps : List PlainPatternPart) (t : List ℕ) (ts : Tokens) → bytes_eq t closing ≡ true → pattern_fronts ps (pattern_of (t ∷ ts)) ≡ Some (ps, ts)
pattern-closed ps t ts h = rw h (ap (λ qs. Some (qs, ts)) (append-nil ps))

pub false_or_true : false ≡ true → ⊥
false_or_true e = absurd (cc)
