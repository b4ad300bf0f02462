-- The first run of some tokens.
use Rattle.std.proofs.Common.{◌≡◌, ◌∙◌, ℕ, zero, suc, ◌+◌, ◌-◌, ◌<◌, ◌≤◌, Bool, true, false, not, List, [], ◌∷◌, length, map, take, drop, length-drop, refl, sym, ap, arith, cond, if◌then◌else◌}
use Rattle.std.specs.List.{prefix_len}
use Rattle.std.proofs.lemmas.List.{drop-map, take_rest}
use Rattle.meta_lex.specs.Tokens.{plain_token}
use Rattle.meta_lex.specs.declared.token.Token.{Token}
use Rattle.action_text.specs.Answers.{token_bytes}
use Rattle.action_text.specs.Texts.{texts}
use Rattle.meta_reader.specs.ItemForms.{Tokens}
use Rattle.meta_reader.specs.Parsing.{is_inside}
use Rattle.meta_reader.specs.Descriptions.{is_stop, longer, runs_of, is_finished}
use Rattle.meta_reader.proofs.Walking.{length_texts}

-- how many tokens stand before the first full stop
abbrev pub first_stop : Tokens → ℕ
first_stop [] = zero
first_stop (t ∷ ts) = if is_stop t then zero else suc (first_stop ts)

pub first_stop_is : (list : List Token) → prefix_len is_inside list ≡ first_stop (texts list)
first_stop_is [] = refl
first_stop_is (t ∷ list) = pick (is_stop t.bytes.now) (first_stop_is list)
  where
    pick : (b : Bool) → prefix_len is_inside list ≡ first_stop (texts list) → cond (not b) (1 + prefix_len is_inside list) 0 ≡ (if b then zero else suc (first_stop (texts list)))
    pick true e = refl
    pick false e = omega (arith, e)

-- the tokens up to the first full stop are a run, and those behind it have the other runs
pub record IsCut (ts : Tokens) (n : ℕ) : Type 0 where
  pub runs : runs_of ts ≡ take n ts ∷ runs_of (drop (suc n) ts)
  pub finished : is_finished ts ≡ is_finished (drop (suc n) ts)

pub first_run : (ts : Tokens) → first_stop ts < length ts → IsCut ts (first_stop ts)
first_run [] h = absurd (omega arith)
first_run (t ∷ ts) h = pick (is_stop t) refl h (λ k. first_run ts k)
  where
    stopped : (ts : Tokens) → is_stop t ≡ true → is_finished (t ∷ ts) ≡ is_finished ts
    stopped [] e = e
    stopped (u ∷ ts) e = refl

    finished : (ts : Tokens) → 0 < length ts → is_finished (t ∷ ts) ≡ is_finished ts
    finished [] h = absurd (omega arith)
    finished (u ∷ ts) h = refl

    pick : (b : Bool) → is_stop t ≡ b → (if b then zero else suc (first_stop ts)) < length (t ∷ ts) → (first_stop ts < length ts → IsCut ts (first_stop ts)) → IsCut (t ∷ ts) (if b then zero else suc (first_stop ts))
    pick true e h rest = record { runs = rw e refl; finished = stopped ts e }
    pick false e h rest =
        let c = rest (omega arith) in
        record {
          runs = rw e (ap (longer t) c.runs);
          finished = finished ts (omega arith) ∙ c.finished;
        }

-- tokens without a full stop have no run
pub no_run : (ts : Tokens) → length ts ≤ first_stop ts → (runs_of ts ≡ []) × (0 < length ts → is_finished ts ≡ false)
no_run [] h = (refl, λ k. absurd (omega arith))
no_run (t ∷ ts) h = pick (is_stop t) refl h (λ k. no_run ts k)
  where
    last : (ts : Tokens) → is_stop t ≡ false → (0 < length ts → is_finished ts ≡ false) → is_finished (t ∷ ts) ≡ false
    last [] e k = e
    last (u ∷ ts) e k = k (omega arith)

    pick : (b : Bool) → is_stop t ≡ b → length (t ∷ ts) ≤ (if b then zero else suc (first_stop ts)) → (length ts ≤ first_stop ts → (runs_of ts ≡ []) × (0 < length ts → is_finished ts ≡ false))
        → (runs_of (t ∷ ts) ≡ []) × (0 < length (t ∷ ts) → is_finished (t ∷ ts) ≡ false)
    pick true e h rest = absurd (omega arith)
    pick false e h rest = let r = rest (omega arith) in (rw e (ap (longer t) r.0), λ k. last ts e r.1)

-- the bytes of the tokens of a list
pub list_texts : (list : List Token) → texts list ≡ token_bytes (map plain_token list)
list_texts [] = refl
list_texts (t ∷ list) = ap (λ ts. t.bytes.now ∷ ts) (list_texts list)

-- how far the first full stop is from a place
pub stop_is : (list : List Token) (at n : ℕ) → n ≡ prefix_len is_inside (take (length list - at) (drop at list)) → n ≡ first_stop (drop at (texts list))
stop_is list at n e = e ∙ ap (prefix_len is_inside) (take_rest list at) ∙ first_stop_is (drop at list) ∙ ap first_stop (sym (drop-map (λ (t : Token). t.bytes.now) at list))

pub length_rest : (list : List Token) (at : ℕ) → length (drop at (texts list)) ≡ length list - at
length_rest list at = length-drop at (texts list) ∙ ap (λ n. n - at) (length_texts list)
