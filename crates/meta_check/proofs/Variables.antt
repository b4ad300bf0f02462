-- The variables of a pattern, part by part.
use Rattle.std.proofs.Common.{◌≡◌, ◌∙◌, ℕ, zero, suc, ◌+◌, ◌<◌, Bool, true, false, not, List, [], ◌∷◌, ◌++◌, length, take, get_or, map, Option, Some, None, option_to_list, refl, sym, ap, append_assoc, append-nil, arith}
use Rattle.std.specs.Prelude.{◌||◌, option_map}
use Rattle.std.specs.Borrow.{Bor}
use Rattle.std.specs.List.{list_any}
use Rattle.std.specs.Str.{bytes_eq}
use Rattle.std.proofs.lemmas.Bool.{or_left, or_right, or_parts, or_from}
use Rattle.std.proofs.lemmas.List.Folds.{list_any-append}
use Rattle.std.proofs.lemmas.Slice.Eq.{bytes_eq-Decides}
use Rattle.std.specs.BTreeSet.{insert_key}
use Rattle.gram_form.specs.Grammars.{HaveSame}
use Rattle.gram_form.specs.Plain.{texts}
use Rattle.gram_form.proofs.OrderedTexts.{text_cmp, one-more}
use Rattle.meta_terms.specs.declared.items.PatternPart.{PatternPart}
use Rattle.meta_terms.specs.PlainItems.{PlainPatternPart, plain_pattern_part}
use Rattle.meta_check.specs.Rules.{repeats}
use Rattle.meta_terms.specs.declared.template.TemplateNode.{TemplateNode}
use Rattle.meta_terms.specs.Nodes.{label_of}
use Rattle.meta_terms.specs.Templates.{Label}
use Rattle.meta_check.specs.Views.{is_in, used_by, uses_outside, variables_of}
use Rattle.meta_check.proofs.Mapped.{take_mapped}
use Rattle.meta_check.proofs.Known.{any_map, same_any}

variables_append : (parts others : List PlainPatternPart) → variables_of (parts ++ others) ≡ variables_of parts ++ variables_of others
variables_append [] others = refl
variables_append (p ∷ parts) others =
    ap (λ vs. option_to_list p.variable ++ vs) (variables_append parts others) ∙ sym (append_assoc (option_to_list p.variable) (variables_of parts) (variables_of others))

-- a part among the others
cut_part : (list : List PatternPart) (i : ℕ) (d : PatternPart) → i < length list
    → (more : List PlainPatternPart) × (map plain_pattern_part list ≡ take i (map plain_pattern_part list) ++ plain_pattern_part (get_or list i d) ∷ more)
cut_part [] i d h = absurd (omega (arith, h))
cut_part (x ∷ list) zero d h = (map plain_pattern_part list, refl)
cut_part (x ∷ list) (suc i) d h = let c = cut_part list i d (omega (arith, h)) in (c.0, ap (λ ps. plain_pattern_part x ∷ ps) c.1)

-- the variable of a part
abbrev pub own_variable : PatternPart → List (List ℕ)
own_variable d = option_to_list (option_map (λ (v : Bor (List ℕ)). v.now) d.variable)

variables_next : (list : List PatternPart) (i : ℕ) (d : PatternPart) → i < length list → variables_of (take (i + 1) (map plain_pattern_part list)) ≡ variables_of (take i (map plain_pattern_part list)) ++ own_variable (get_or list i d)
variables_next list i d h =
    ap variables_of (take_mapped plain_pattern_part list i d h)
    ∙ variables_append (take i (map plain_pattern_part list)) (plain_pattern_part (get_or list i d) ∷ [])
    ∙ ap (λ vs. variables_of (take i (map plain_pattern_part list)) ++ vs) (append-nil (own_variable (get_or list i d)))

same_sides : (a b : List ℕ) → bytes_eq a b ≡ bytes_eq b a
same_sides a b = pick (bytes_eq a b) refl (bytes_eq b a) refl
  where
    pick : (x : Bool) → bytes_eq a b ≡ x → (y : Bool) → bytes_eq b a ≡ y → x ≡ y
    pick true e true f = refl
    pick false e false f = refl
    pick true e false f = let wrong : true ≡ false = sym ((bytes_eq-Decides b a).1 (sym ((bytes_eq-Decides a b).0 e))) ∙ f in absurd (cc)
    pick false e true f = let wrong : true ≡ false = sym ((bytes_eq-Decides a b).1 (sym ((bytes_eq-Decides b a).0 f))) ∙ e in absurd (cc)

-- a text behind others that don't have it
repeats_push : (xs : List (List ℕ)) (y : List ℕ) → repeats xs ≡ false → is_in xs y ≡ false → repeats (xs ++ y ∷ []) ≡ false
repeats_push [] y r h = refl
repeats_push (x ∷ xs) y r h =
    let both = or_parts (is_in xs x) (repeats xs) r in
    let apart = or_parts (bytes_eq y x) (is_in xs y) h in
    or_from (is_in (xs ++ y ∷ []) x) (repeats (xs ++ y ∷ []))
    (list_any-append (bytes_eq x) xs (y ∷ []) ∙ or_from (is_in xs x) (is_in (y ∷ []) x) both.0 (or_from (bytes_eq x y) false (same_sides x y ∙ apart.0) refl))
    (repeats_push xs y both.1 apart.1)

-- a text behind others that have it
repeats_known : (xs : List (List ℕ)) (y : List ℕ) (more : List (List ℕ)) → is_in xs y ≡ true → repeats (xs ++ y ∷ more) ≡ true
repeats_known [] y more h = absurd (cc)
repeats_known (x ∷ xs) y more h = pick (bytes_eq y x) refl h (λ k. repeats_known xs y more k)
  where
    there : bytes_eq y x ≡ true → is_in (xs ++ y ∷ more) x ≡ true
    there e = list_any-append (bytes_eq x) xs (y ∷ more) ∙ or_right (is_in xs x) (bytes_eq x y || is_in more x) (ap (λ b. b || is_in more x) (same_sides x y ∙ e))

    pick : (b : Bool) → bytes_eq y x ≡ b → (b || is_in xs y) ≡ true → (is_in xs y ≡ true → repeats (xs ++ y ∷ more) ≡ true)
        → (is_in (xs ++ y ∷ more) x || repeats (xs ++ y ∷ more)) ≡ true
    pick true e h rest = or_left (is_in (xs ++ y ∷ more) x) (repeats (xs ++ y ∷ more)) (there e)
    pick false e h rest = or_right (is_in (xs ++ y ∷ more) x) (repeats (xs ++ y ∷ more)) (rest h)

-- a variable that is there already
pub variable_known : (list : List PatternPart) (i : ℕ) (d : PatternPart) (v : Bor (List ℕ)) (known : List (List ℕ)) → i < length list → (get_or list i d).variable ≡ Some v
    → HaveSame known (variables_of (take i (map plain_pattern_part list))) → is_in known v.now ≡ true → repeats (variables_of (map plain_pattern_part list)) ≡ true
variable_known list i d v known h own same there =
    let c = cut_part list i d h in
    let so_far = take i (map plain_pattern_part list) in
    ap (λ ps. repeats (variables_of ps)) c.1
    ∙ ap repeats (variables_append so_far (plain_pattern_part (get_or list i d) ∷ c.0) ∙ ap (λ (o : Option (Bor (List ℕ))). variables_of so_far ++ (option_to_list (option_map (λ (t : Bor (List ℕ)). t.now) o) ++ variables_of c.0)) own)
    ∙ repeats_known (variables_of so_far) v.now (variables_of c.0) (sym (same v.now) ∙ there)

-- what is known of the variables so far
pub record AreDistinct (known names : List (List ℕ)) : Type 0 where
  pub distinct : repeats names ≡ false
  pub same : HaveSame known names

pub variable_new : (list : List PatternPart) (i : ℕ) (d : PatternPart) (v : Bor (List ℕ)) (keys new : List (Bor (List ℕ))) → i < length list → (get_or list i d).variable ≡ Some v
    → AreDistinct (texts keys) (variables_of (take i (map plain_pattern_part list))) → is_in (texts keys) v.now ≡ false → new ≡ insert_key text_cmp keys v
    → AreDistinct (texts new) (variables_of (take (i + 1) (map plain_pattern_part list)))
variable_new list i d v keys new h own so_far fresh inserted =
    let names = variables_of (take i (map plain_pattern_part list)) in
    let next : variables_of (take (i + 1) (map plain_pattern_part list)) ≡ names ++ v.now ∷ [] =
    variables_next list i d h ∙ ap (λ (o : Option (Bor (List ℕ))). names ++ option_to_list (option_map (λ (t : Bor (List ℕ)). t.now) o)) own in
    record {
      distinct = ap repeats next ∙ repeats_push names v.now so_far.distinct (sym (so_far.same v.now) ∙ fresh);
      same = λ n. one-more keys new v names inserted so_far.same n ∙ ap (λ ns. is_in ns n) (sym next);
    }

pub variable_none : (list : List PatternPart) (i : ℕ) (d : PatternPart) (known : List (List ℕ)) → i < length list → (get_or list i d).variable ≡ None
    → AreDistinct known (variables_of (take i (map plain_pattern_part list))) → AreDistinct known (variables_of (take (i + 1) (map plain_pattern_part list)))
variable_none list i d known h own so_far =
    let names = variables_of (take i (map plain_pattern_part list)) in
    let next : variables_of (take (i + 1) (map plain_pattern_part list)) ≡ names =
    variables_next list i d h ∙ ap (λ (o : Option (Bor (List ℕ))). names ++ option_to_list (option_map (λ (t : Bor (List ℕ)). t.now) o)) own ∙ append-nil names in
    record { distinct = ap repeats next ∙ so_far.distinct; same = λ n. so_far.same n ∙ ap (λ ns. is_in ns n) (sym next) }

-- whether a node uses another variable is told by the variables alone
same_uses : (known names : List (List ℕ)) → HaveSame known names → (l : Label) → uses_outside known l ≡ uses_outside names l
same_uses known names h l = go (used_by l)
  where
    go : (o : Option (List ℕ)) → list_any (λ v. not (is_in known v)) (option_to_list o) ≡ list_any (λ v. not (is_in names v)) (option_to_list o)
    go None = refl
    go (Some v) = ap (λ b. not b || false) (h v)

-- of nodes in memory
pub any_use : (known names : List (List ℕ)) → HaveSame known names → (nodes : List TemplateNode)
    → list_any (λ n. uses_outside known (label_of n)) nodes ≡ list_any (uses_outside names) (map label_of nodes)
any_use known names h nodes =
    any_map label_of (uses_outside known) nodes ∙ same_any (uses_outside known) (uses_outside names) (same_uses known names h) (map label_of nodes)
