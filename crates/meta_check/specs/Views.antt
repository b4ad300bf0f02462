-- What items name, and what they say of names.
use Rattle.std.specs.Prelude.{ℕ, ◌+◌, Bool, true, false, not, ◌&&◌, ◌||◌, List, [], ◌∷◌, map, Option, Some, None, if◌then◌else◌}
use Rattle.std.specs.List.{flat_map, list_any}
use Rattle.std.specs.Option.{option_to_list}
use Rattle.std.specs.Str.{bytes_eq}
use Rattle.gram_form.specs.Grammars.{is_undefined}
use Rattle.gram_form.specs.Plain.{PlainPart, PlainLiteral, PlainNonterm, PlainIdentifier, PlainNumeral, PlainProduction}
use Rattle.meta_terms.specs.Templates.{Label, ActionTokenOf, YielderTokenOf, Applied, ValueOf}
use Rattle.meta_terms.specs.PlainItems.{PlainDeclaration, PlainPatternPart, PlainEquation, PlainItem, AProduction, ADeclaration, AnEquation}
-- the productions, the declarations and the equations among items
pub use Rattle.meta_terms.specs.ItemKinds.{productions_of, declarations_of, equations_of}

-- the nonterminals that have a production
abbrev pub nonterminals_of : List PlainItem → List (List ℕ)
nonterminals_of items = map (λ (p : PlainProduction). p.name) (productions_of items)

-- the functions that are declared
abbrev pub functions_of : List PlainItem → List (List ℕ)
functions_of items = map (λ (d : PlainDeclaration). d.function) (declarations_of items)

-- the text is one of these
abbrev pub is_in : List (List ℕ) → List ℕ → Bool
is_in names name = list_any (bytes_eq name) names

-- a part or a declaration of the item names a nonterminal that isn't known
abbrev pub names_outside : List (List ℕ) → PlainItem → Bool
names_outside known (AProduction p) = list_any (list_any (is_undefined known)) p.alternatives
names_outside known (ADeclaration d) = not (is_in known d.nonterminal)
names_outside known (AnEquation e) =
    list_any (λ (p : PlainPatternPart). is_undefined known p.part) e.pattern

-- the item is a production whose name is known
abbrev pub repeats_production : List (List ℕ) → PlainItem → Bool
repeats_production known (AProduction p) = is_in known p.name
repeats_production known _ = false

-- the item is a declaration whose function is known
abbrev pub repeats_declaration : List (List ℕ) → PlainItem → Bool
repeats_declaration known (ADeclaration d) = is_in known d.function
repeats_declaration known _ = false

-- a node of a template applies a function that isn't known
abbrev pub applies_outside : List (List ℕ) → Label → Bool
applies_outside known (Applied f v) = not (is_in known f)
applies_outside known _ = false

-- the head or the template of an equation names a function that isn't known
abbrev pub calls_outside : List (List ℕ) → PlainItem → Bool
calls_outside known (AnEquation e) =
    not (is_in known e.function) || list_any (applies_outside known) e.action
calls_outside known _ = false

-- the variable that a node of a template uses
abbrev pub used_by : Label → Option (List ℕ)
used_by (ActionTokenOf k n t v) = Some v
used_by (YielderTokenOf k t v) = Some v
used_by (Applied f v) = Some v
used_by (ValueOf v) = Some v
used_by _ = None

-- a node of a template uses a variable that isn't known
abbrev pub uses_outside : List (List ℕ) → Label → Bool
uses_outside known l = list_any (λ v. not (is_in known v)) (option_to_list (used_by l))

-- the variables of a pattern
abbrev pub variables_of : List PlainPatternPart → List (List ℕ)
variables_of pattern = flat_map (λ (p : PlainPatternPart). option_to_list p.variable) pattern

-- the part that a variable stands for
abbrev pub part_for : List PlainPatternPart → List ℕ → Option PlainPart
part_for [] v = None
part_for (p ∷ pattern) v =
    if list_any (bytes_eq v) (option_to_list p.variable) then Some p.part else part_for pattern v

-- the nonterminal of a function: that of its first declaration
abbrev pub nonterminal_of : List PlainDeclaration → List ℕ → Option (List ℕ)
nonterminal_of [] f = None
nonterminal_of (d ∷ list) f =
    if bytes_eq f d.function then Some d.nonterminal else nonterminal_of list f

-- the alternatives of a nonterminal: those of its first production, and none where it has none
abbrev pub alternatives_of : List PlainProduction → List ℕ → List (List PlainPart)
alternatives_of [] name = []
alternatives_of (p ∷ list) name =
    if bytes_eq name p.name then p.alternatives else alternatives_of list name

-- the alternatives of a function's nonterminal
abbrev pub alternatives_for : List PlainItem → List ℕ → List (List PlainPart)
alternatives_for items f =
    flat_map (alternatives_of (productions_of items))
    (option_to_list (nonterminal_of (declarations_of items) f))

-- two parts are the same
abbrev pub same_part : PlainPart → PlainPart → Bool
same_part (PlainLiteral a) (PlainLiteral b) = bytes_eq a b
same_part (PlainNonterm a) (PlainNonterm b) = bytes_eq a b
same_part PlainIdentifier PlainIdentifier = true
same_part PlainNumeral PlainNumeral = true
same_part _ _ = false

-- two lists of parts are the same
abbrev pub same_parts : List PlainPart → List PlainPart → Bool
same_parts [] [] = true
same_parts (a ∷ more) (b ∷ bs) = same_part a b && same_parts more bs
same_parts _ _ = false

-- the parts of a pattern, without their variables
abbrev pub parts_of_pattern : List PlainPatternPart → List PlainPart
parts_of_pattern pattern = map (λ (p : PlainPatternPart). p.part) pattern

-- the number of the first alternative that equals the parts, counted from n
abbrev pub place_among : ℕ → List (List PlainPart) → List PlainPart → Option ℕ
place_among n [] parts = None
place_among n (a ∷ list) parts =
    if same_parts a parts then Some n else place_among (n + 1) list parts

-- the alternative for which the pattern of an equation stands: the least that equals it
abbrev pub alternative_of : List PlainItem → PlainEquation → Option ℕ
alternative_of items e =
    place_among 0 (alternatives_for items e.function) (parts_of_pattern e.pattern)
