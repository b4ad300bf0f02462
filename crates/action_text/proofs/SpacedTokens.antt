-- One token more behind spaced tokens.
use Rattle.std.proofs.Common.{◌≡◌, ◌+◌, ℕ, List, [], ◌∷◌, ◌++◌, length, drop, Option, Some, None, refl, sym, ap, subst, ◌∙◌, arith, append_assoc, append-nil, length-append, if◌then◌else◌}
use Rattle.std.proofs.Math.Seq.{drop-append_seam}
use Rattle.action_text.specs.declared.unfinished.Text.{Text}
use Rattle.action_text.specs.Canonical.{is_joined, spaced}
use Rattle.action_text.specs.Printing.{Says, IsLastAt, gap_behind}

regroup : (a b c d e : List ℕ) → a ++ (b ++ ((c ++ d) ++ e)) ≡ ((a ++ (b ++ c)) ++ d) ++ e
regroup a b c d e = simp append_assoc

spaced_more : (ts : List (List ℕ)) (u : List ℕ) → spaced (ts ++ u ∷ []) ≡ (spaced ts ++ gap_behind ts u) ++ u
spaced_more [] u = refl
spaced_more (t ∷ []) u = sym (append_assoc t (if is_joined t u then [] else 32 ∷ []) u)
spaced_more (t ∷ v ∷ ts) u =
    ap (λ y. t ++ ((if is_joined t v then [] else 32 ∷ []) ++ y)) (spaced_more (v ∷ ts) u)
    ∙ regroup t (if is_joined t v then [] else 32 ∷ []) (spaced (v ∷ ts)) (gap_behind (v ∷ ts) u) u

gap_last : (ts : List (List ℕ)) (t u : List ℕ) → gap_behind (ts ++ t ∷ []) u ≡ (if is_joined t u then [] else 32 ∷ [])
gap_last [] t u = refl
gap_last (s ∷ []) t u = refl
gap_last (s ∷ v ∷ ts) t u = gap_last (v ∷ ts) t u

-- behind the last token stands a space, or none
pub begins_behind : (bytes new : List ℕ) (last : Option ℕ) (start : ℕ) (tokens : List (List ℕ)) (next : List ℕ) → last ≡ Some start → IsLastAt bytes last tokens → bytes ≡ spaced tokens
    → new ≡ bytes ++ (if is_joined (drop start bytes) next then [] else 32 ∷ []) → new ≡ spaced tokens ++ gap_behind tokens next
begins_behind bytes new last start tokens next e at is f =
    let there = subst (λ o. IsLastAt bytes o tokens) e at in
    f ∙ ap (λ y. bytes ++ y) (sym (ap (λ ts. gap_behind ts next) there.2 ∙ gap_last there.0 (drop start bytes) next)) ∙ ap (λ y. y ++ gap_behind tokens next) is

-- nothing stands before the first token
pub begins_first : (bytes : List ℕ) (last : Option ℕ) (tokens : List (List ℕ)) (next : List ℕ) → last ≡ None → IsLastAt bytes last tokens → bytes ≡ spaced tokens → bytes ≡ spaced tokens ++ gap_behind tokens next
begins_first bytes last tokens next e at is =
    let none = subst (λ o. IsLastAt bytes o tokens) e at in
    is ∙ sym (append-nil (spaced tokens)) ∙ ap (λ y. spaced tokens ++ y) (ap (λ ts. gap_behind ts next) (sym none))

-- the token is said
pub said_more : (text : Text) (tokens : List (List ℕ)) (token begun : List ℕ) → begun ≡ spaced tokens ++ gap_behind tokens token → text.bytes.items ≡ begun ++ token → text.last ≡ Some (length begun)
    → Says text (tokens ++ token ∷ [])
said_more text tokens token begun e f g = record {
  bytes_are = f ∙ ap (λ y. y ++ token) e ∙ sym (spaced_more tokens token);
  last_at = subst (λ o. IsLastAt text.bytes.items o (tokens ++ token ∷ [])) (sym g) (
    tokens,
    (let n : length text.bytes.items ≡ length begun + length token = ap length f ∙ length-append begun token in omega arith),
    ap (λ y. tokens ++ y ∷ []) (sym (ap (drop (length begun)) f ∙ drop-append_seam begun token)),
  );
}

-- a quote stands where its text stands
pub quoted_gap : (tokens : List (List ℕ)) (bytes : List ℕ) → gap_behind tokens (34 ∷ []) ≡ gap_behind tokens (34 ∷ bytes)
quoted_gap [] bytes = refl
quoted_gap (t ∷ []) bytes = refl
quoted_gap (t ∷ u ∷ ts) bytes = quoted_gap (u ∷ ts) bytes
