-- Productions and declarations are read from their tokens, and from no others.
use Rattle.std.proofs.Common.{◌≡◌, ◌∙◌, ℕ, ◌<◌, Bool, true, false, ◌&&◌, List, [], ◌∷◌, length, Option, Some, None, refl, ap, subst, arith, if◌then◌else◌}
use Rattle.std.specs.Prelude.{option_map}
use Rattle.std.specs.List.{list_all}
use Rattle.std.specs.Str.{bytes_eq}
use Rattle.std.proofs.lemmas.Slice.Eq.{bytes_eq-Decides}
use Rattle.gram_form.specs.Plain.{PlainPart, PlainProduction}
use Rattle.meta_terms.specs.Names.{is_function, is_variable}
use Rattle.meta_terms.specs.PlainItems.{PlainDeclaration}
use Rattle.meta_reader.specs.ItemForms.{Tokens, equals, underscore, colon, is_part, alternatives_tokens, IsProduction, IsDeclaration}
use Rattle.meta_reader.specs.Parsing.{unopened, production_of, declaration_of}
use Rattle.meta_reader.proofs.PartTokens.{halves}
use Rattle.meta_reader.proofs.AlternativeTokens.{unopened_tokens, unopened_sound}

-- the tokens of a production are read as it
pub production_found : (run : Tokens) (p : PlainProduction) → IsProduction run p → production_of run ≡ Some p
production_found run p h = ap production_of h.run_is ∙ found p.name p.alternatives h.name h.some h.parts
  where
    found : (name : List ℕ) (list : List (List PlainPart)) → is_variable name ≡ true → 0 < length list → list_all (list_all is_part) list ≡ true
        → production_of (name ∷ equals ∷ alternatives_tokens list) ≡ Some (record { name = name; alternatives = list })
    found name [] v some parts = absurd (omega arith)
    found name (a ∷ list) v some parts = rw (v, unopened_tokens a list parts) refl

-- tokens that are read as a production are its
pub production_sound : (run : Tokens) (p : PlainProduction) → production_of run ≡ Some p → IsProduction run p
production_sound [] p h = absurd (cc)
production_sound (n ∷ []) p h = absurd (cc)
production_sound (n ∷ e ∷ ts) p h = tested (is_variable n) (bytes_eq e equals) refl refl h
  where
    listed : (o : Option (List (List PlainPart))) → is_variable n ≡ true → bytes_eq e equals ≡ true → unopened ts ≡ o → option_map (λ list. record { name = n; alternatives = list }) o ≡ Some p → IsProduction (n ∷ e ∷ ts) p
    listed None v q u h = absurd (cc)
    listed (Some list) v q u h =
        let all = unopened_sound ts list u in
        let read : PlainProduction = record { name = n; alternatives = list } in
        let same : read ≡ p = cc in
        subst (λ (x : PlainProduction). IsProduction (n ∷ e ∷ ts) x) same (record {
          name = v;
          some = all.0;
          parts = all.1;
          run_is = ap (λ x. n ∷ x ∷ ts) ((bytes_eq-Decides e equals).0 q) ∙ ap (λ us. n ∷ equals ∷ us) all.2;
        })

    tested : (v q : Bool) → is_variable n ≡ v → bytes_eq e equals ≡ q
        → (if v && q then option_map (λ list. record { name = n; alternatives = list }) (unopened ts) else None) ≡ Some p → IsProduction (n ∷ e ∷ ts) p
    tested true true v q h = listed (unopened ts) v q refl h
    tested true false v q h = absurd (cc)
    tested false q v e h = absurd (cc)

-- the tokens of a declaration are read as it
pub declaration_found : (run : Tokens) (d : PlainDeclaration) → IsDeclaration run d → declaration_of run ≡ Some d
declaration_found run d h = ap declaration_of h.run_is ∙ rw (h.function, h.nonterminal) refl

-- tokens that are read as a declaration are its
pub declaration_sound : (run : Tokens) (d : PlainDeclaration) → declaration_of run ≡ Some d → IsDeclaration run d
declaration_sound [] d h = absurd (cc)
declaration_sound (f ∷ []) d h = absurd (cc)
declaration_sound (f ∷ u ∷ []) d h = absurd (cc)
declaration_sound (f ∷ u ∷ c ∷ []) d h = absurd (cc)
declaration_sound (f ∷ u ∷ c ∷ n ∷ m ∷ ts) d h = absurd (cc)
declaration_sound (f ∷ u ∷ c ∷ n ∷ []) d h = tested ((is_function f && is_variable n) && (bytes_eq u underscore && bytes_eq c colon)) refl h
  where
    tested : (b : Bool) → ((is_function f && is_variable n) && (bytes_eq u underscore && bytes_eq c colon)) ≡ b
        → (if b then Some (record { function = f; nonterminal = n }) else None) ≡ Some d → IsDeclaration (f ∷ u ∷ c ∷ n ∷ []) d
    tested false e h = absurd (cc)
    tested true e h =
        let both = halves (is_function f && is_variable n) (bytes_eq u underscore && bytes_eq c colon) e in
        let names = halves (is_function f) (is_variable n) both.0 in
        let signs = halves (bytes_eq u underscore) (bytes_eq c colon) both.1 in
        let read : PlainDeclaration = record { function = f; nonterminal = n } in
        let same : read ≡ d = cc in
        subst (λ (x : PlainDeclaration). IsDeclaration (f ∷ u ∷ c ∷ n ∷ []) x) same (record {
          function = names.0;
          nonterminal = names.1;
          run_is = ap (λ x. f ∷ x ∷ c ∷ n ∷ []) ((bytes_eq-Decides u underscore).0 signs.0) ∙ ap (λ x. f ∷ underscore ∷ x ∷ n ∷ []) ((bytes_eq-Decides c colon).0 signs.1);
        })
