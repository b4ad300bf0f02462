-- The steps of walks over two lists of bindings.
use Rattle.std.proofs.Common.{◌≡◌, ℕ, zero, suc, ◌-◌, arith, ◌+◌, ◌<◌, ◌≤◌, List, [], ◌∷◌, ◌++◌, length, take, drop, get_or, refl, sym, ap, ◌∙◌, add-one, subst, set, append_assoc}
use Rattle.std.proofs.lemmas.List.{drop-drop, drop_all, set_split}
use Rattle.std.specs.Prelude.{true, cond, is_some}
use Rattle.action_terms.specs.Information.{Token, Datum as Meant, Binds, Bound}
use Rattle.action_terms.specs.Bindings.{bind, overlaid, lookup, meets}
use Rattle.action_values.specs.Ascending.{IsBelow, AreAscending}
use Rattle.action_values.specs.Puts.{Puts, Lacks, before}
use Rattle.action_values.specs.Values.{meant, bindings_of}
use Rattle.action_values.proofs.BindingLists.{bindings_of-drop, before-append, bindings_of-append}
use Rattle.action_values.proofs.Overlaying.{overlaid-none}
use Rattle.action_values.proofs.Putting.{bound-put}
use Rattle.action_values.specs.declared.datum.Binding.{Binding}

first-below : (bs : List Binding) (k : ℕ) (d : Binding) → k < length bs → AreAscending (bindings_of (drop k bs)) → IsBelow (get_or bs k d).token.now (bindings_of (drop (k + 1) bs))
first-below bs k d within s =
    let both : IsBelow (get_or bs k d).token.now (bindings_of (drop (k + 1) bs)) × AreAscending (bindings_of (drop (k + 1) bs)) = subst AreAscending (bindings_of-drop bs k d within) s in
    both.0

tail-ascending : (bs : List Binding) (k : ℕ) → AreAscending (bindings_of (drop k bs)) → AreAscending (bindings_of (drop (suc k) bs))
tail-ascending [] zero s = tt
tail-ascending [] (suc k) s = tt
tail-ascending (b ∷ bs) zero s = s.1
tail-ascending (b ∷ bs) (suc k) s = tail-ascending bs k s

pub rest-ascending : (bs : List Binding) (k : ℕ) → AreAscending (bindings_of (drop k bs)) → AreAscending (bindings_of (drop (k + 1) bs))
rest-ascending bs k s = rw add-one (tail-ascending bs k s)

-- the bindings so far, those of lesser tokens and the binding of the token stand before what is left
laid : (list under over : List Binding) (k end start : ℕ) (d : Binding) (z : Binds) → k < length over → AreAscending (bindings_of (drop k over)) →
    Puts under (get_or over k d).token.now (take end under) (drop start under) →
    before list (overlaid (bindings_of under) (bindings_of (drop k over))) ≡ z →
    before ((list ++ take end under) ++ get_or over k d ∷ []) (overlaid (bindings_of (drop start under)) (bindings_of (drop (k + 1) over))) ≡ z
laid list under over k end start d z within s p h =
    before-append (list ++ take end under) (get_or over k d ∷ []) (overlaid (bindings_of (drop start under)) (bindings_of (drop (k + 1) over)))
    ∙ before-append list (take end under) (Bound (get_or over k d).token.now (meant (get_or over k d).datum) (overlaid (bindings_of (drop start under)) (bindings_of (drop (k + 1) over))))
    ∙ ap (before list) (sym (p.over (meant (get_or over k d).datum) (bindings_of (drop (k + 1) over)) (first-below over k d within s) (rest-ascending over k s)))
    ∙ ap (λ b. before list (overlaid (bindings_of under) b)) (sym (bindings_of-drop over k d within))
    ∙ h

-- the same of what is left of a list
pub laid_more : (list extended pushed under rest over : List Binding) (next k end start : ℕ) (d : Binding) (z : Binds) → k < length over →
    AreAscending (bindings_of (drop k over)) → rest ≡ drop next under →
    Puts rest (get_or over k d).token.now (take end rest) (drop start rest) → extended ≡ list ++ take end rest → pushed ≡ extended ++ get_or over k d ∷ [] →
    before list (overlaid (bindings_of (drop next under)) (bindings_of (drop k over))) ≡ z →
    before pushed (overlaid (bindings_of (drop (next + start) under)) (bindings_of (drop (k + 1) over))) ≡ z
laid_more list extended pushed under rest over next k end start d z within s left p e f h =
    ap (λ l. before l (overlaid (bindings_of (drop (next + start) under)) (bindings_of (drop (k + 1) over)))) (f ∙ ap (λ l. l ++ get_or over k d ∷ []) e)
    ∙ ap (λ l. before ((list ++ take end rest) ++ get_or over k d ∷ []) (overlaid (bindings_of l) (bindings_of (drop (k + 1) over)))) (sym (ap (drop start) left ∙ drop-drop start next under))
    ∙ laid list rest over k end start d z within s p (ap (λ l. before list (overlaid (bindings_of l) (bindings_of (drop k over)))) left ∙ h)

-- at the end the bindings that are left stand behind those so far
pub laid_all : (list final under rest over : List Binding) (next k : ℕ) (z : Binds) → length over ≤ k → rest ≡ drop next under → final ≡ list ++ rest →
    before list (overlaid (bindings_of (drop next under)) (bindings_of (drop k over))) ≡ z → bindings_of final ≡ z
laid_all list final under rest over next k z past left e h =
    ap bindings_of e
    ∙ bindings_of-append list rest
    ∙ ap (λ l. before list (bindings_of l)) left
    ∙ ap (before list) (sym (overlaid-none (bindings_of (drop next under))))
    ∙ ap (λ l. before list (overlaid (bindings_of (drop next under)) (bindings_of l))) (sym (drop_all k over past))
    ∙ h

-- a token that is bound in both
meets-found : (first : List Binding) (second : Binds) (k : ℕ) (d : Binding) → k < length first →
    is_some (lookup (get_or first k d).token.now second) ≡ true → meets (bindings_of (drop k first)) second ≡ true
meets-found first second k d within h =
    ap (λ b. meets b second) (bindings_of-drop first k d within)
    ∙ ap (λ q. cond q true (meets (bindings_of (drop (k + 1) first)) second)) h

-- one that isn't
meets-lacks : (first second : List Binding) (k i : ℕ) (d : Binding) → k < length first → AreAscending (bindings_of (drop k first)) →
    Lacks second (get_or first k d).token.now (drop i second) →
    meets (bindings_of (drop k first)) (bindings_of second) ≡ meets (bindings_of (drop (k + 1) first)) (bindings_of (drop i second))
meets-lacks first second k i d within s p =
    ap (λ b. meets b (bindings_of second)) (bindings_of-drop first k d within)
    ∙ ap (λ q. cond (is_some q) true (meets (bindings_of (drop (k + 1) first)) (bindings_of second))) p.unbound
    ∙ p.met (bindings_of (drop (k + 1) first)) (first-below first k d within s) (rest-ascending first k s)

-- the same of what is left of the second list
pub meets-more : (first second rest : List Binding) (k next i : ℕ) (d : Binding) → k < length first → AreAscending (bindings_of (drop k first)) →
    rest ≡ drop next second → Lacks rest (get_or first k d).token.now (drop i rest) →
    meets (bindings_of (drop (k + 1) first)) (bindings_of (drop (next + i) second)) ≡ meets (bindings_of (drop k first)) (bindings_of (drop next second))
meets-more first second rest k next i d within s left p =
    ap (λ l. meets (bindings_of (drop (k + 1) first)) (bindings_of l)) (sym (ap (drop i) left ∙ drop-drop i next second))
    ∙ sym (meets-lacks first rest k i d within s p)
    ∙ ap (λ l. meets (bindings_of (drop k first)) (bindings_of l)) left

pub meets-at : (first second rest : List Binding) (k next : ℕ) (d : Binding) → k < length first → rest ≡ drop next second →
    is_some (lookup (get_or first k d).token.now (bindings_of rest)) ≡ true → meets (bindings_of (drop k first)) (bindings_of (drop next second)) ≡ true
meets-at first second rest k next d within left h =
    meets-found first (bindings_of (drop next second)) k d within (ap (λ l. is_some (lookup (get_or first k d).token.now (bindings_of l))) (sym left) ∙ h)

-- a binding put into its gap
pub bound_into : (bs : List Binding) (b : Binding) (end start : ℕ) → Puts bs b.token.now (take end bs) (drop start bs) →
    bindings_of ((take end bs ++ b ∷ []) ++ drop start bs) ≡ bind b.token.now (meant b.datum) (bindings_of bs)
bound_into bs b end start p =
    bindings_of-append (take end bs ++ b ∷ []) (drop start bs)
    ∙ before-append (take end bs) (b ∷ []) (bindings_of (drop start bs))
    ∙ bound-put bs b.token.now (take end bs) (drop start bs) (meant b.datum) p

-- a binding written over that of its token
pub set-bound : (bs xs : List Binding) (i : ℕ) (b : Binding) → bs ≡ xs → i < length bs → Puts bs b.token.now (take i bs) (drop (suc i) bs) →
    bindings_of (set xs i b) ≡ bind b.token.now (meant b.datum) (bindings_of xs)
set-bound bs xs i b e h p =
    subst (λ ys. bindings_of (set ys i b) ≡ bind b.token.now (meant b.datum) (bindings_of ys)) e
    (ap bindings_of (set_split bs i b h ∙ sym (append_assoc (take i bs) (b ∷ []) (drop (suc i) bs))) ∙ bound_into bs b i (suc i) p)

-- a binding laid over those that are laid over the list
overlaid-bind : (bs : List Binding) (t : Token) (x : Meant) (over : Binds) → 0 < length bs → overlaid (bindings_of bs) (Bound t x over) ≡ bind t x (overlaid (bindings_of bs) over)
overlaid-bind [] t x over some = absurd (omega arith)
overlaid-bind (b ∷ bs) t x over some = refl

pub put-more : (under over : List Binding) (i : ℕ) (d : Binding) (now new : Binds) → 0 < length under → 0 < i → i ≤ length over →
    now ≡ overlaid (bindings_of under) (bindings_of (drop i over)) → new ≡ bind (get_or over (i - 1) d).token.now (meant (get_or over (i - 1) d).datum) now →
    new ≡ overlaid (bindings_of under) (bindings_of (drop (i - 1) over))
put-more under over i d now new some more few h e =
    let within : i - 1 < length over = omega arith in
    let next : i - 1 + 1 ≡ i = omega arith in
    let b : Binding = get_or over (i - 1) d in
    e
    ∙ ap (bind b.token.now (meant b.datum)) (h ∙ ap (λ n. overlaid (bindings_of under) (bindings_of (drop n over))) (sym next))
    ∙ sym (overlaid-bind under b.token.now (meant b.datum) (bindings_of (drop (i - 1 + 1) over)) some)
    ∙ ap (overlaid (bindings_of under)) (sym (bindings_of-drop over (i - 1) d within))
