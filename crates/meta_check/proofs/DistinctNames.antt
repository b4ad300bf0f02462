-- Where no name is repeated, the names of productions are distinct.
use Rattle.std.proofs.Common.{◌≡◌, ◌∙◌, ℕ, zero, suc, ◌<◌, true, List, [], ◌∷◌, ◌++◌, length, get_or, refl, sym, ap, arith}
use Rattle.std.specs.Prelude.{◌||◌}
use Rattle.std.specs.Str.{bytes_eq}
use Rattle.std.proofs.lemmas.Bool.{or_right}
use Rattle.std.proofs.lemmas.Slice.Eq.{bytes_eq-Decides}
use Rattle.gram_form.specs.Plain.{PlainProduction}
use Rattle.gram_form.specs.Grammars.{names_of, HaveDistinctNames}
use Rattle.meta_terms.specs.PlainItems.{PlainItem, AProduction}
use Rattle.meta_check.specs.Rules.{Holds, repeats_name}
use Rattle.meta_check.specs.Views.{productions_of, is_in}
use Rattle.meta_check.proofs.InOrder.{breaks_there, production_found}

-- a production among the others, with its name
record IsNamed (list : List PlainProduction) (name : List ℕ) : Type 0 where
  pub before : List PlainProduction
  pub own : PlainProduction
  pub after : List PlainProduction
  pub cut : list ≡ before ++ own ∷ after
  pub name_is : name ≡ own.name

named : (list : List PlainProduction) (j : ℕ) (d : List ℕ) → j < length (names_of list) → IsNamed list (get_or (names_of list) j d)
named [] j d h = absurd (omega arith)
named (p ∷ list) zero d h = record { before = []; own = p; after = list; cut = refl; name_is = refl }
named (p ∷ list) (suc j) d h =
    let r = named list j d (omega arith) in
    record { before = p ∷ r.before; own = r.own; after = r.after; cut = ap (λ ps. p ∷ ps) r.cut; name_is = r.name_is }

-- a production with the name of one before it
record IsRepeated (list : List PlainProduction) : Type 0 where
  pub before : List PlainProduction
  pub own : PlainProduction
  pub after : List PlainProduction
  pub cut : list ≡ before ++ own ∷ after
  pub repeated : is_in (names_of before) own.name ≡ true

repeated : (list : List PlainProduction) (i j : ℕ) (d : List ℕ) → i < j → j < length (names_of list) → get_or (names_of list) i d ≡ get_or (names_of list) j d → IsRepeated list
repeated [] i j d less h e = absurd (omega arith)
repeated (p ∷ list) i zero d less h e = absurd (omega (arith, less))
repeated (p ∷ list) zero (suc j) d less h e =
    let r = named list j d (omega arith) in
    record {
      before = p ∷ r.before;
      own = r.own;
      after = r.after;
      cut = ap (λ ps. p ∷ ps) r.cut;
      repeated = ap (λ b. b || is_in (names_of r.before) r.own.name) ((bytes_eq-Decides r.own.name p.name).1 (sym (e ∙ r.name_is)));
    }
repeated (p ∷ list) (suc i) (suc j) d less h e =
    let r = repeated list i j d (omega (arith, less)) (omega arith) e in
    record { before = p ∷ r.before; own = r.own; after = r.after; cut = ap (λ ps. p ∷ ps) r.cut; repeated = or_right (bytes_eq r.own.name p.name) (is_in (names_of r.before) r.own.name) r.repeated }

pub distinct_names : (items : List PlainItem) → Holds repeats_name items → HaveDistinctNames (productions_of items)
distinct_names items holds i j d less h same =
    let r = repeated (productions_of items) i j d less h same in
    let f = production_found items r.before r.after r.own r.cut in
    let breaks : repeats_name f.0 items (AProduction r.own) ≡ true = ap (λ ps. is_in (names_of ps) r.own.name) f.3 ∙ r.repeated in
    breaks_there repeats_name items f.0 f.1 (AProduction r.own) f.2 breaks holds
