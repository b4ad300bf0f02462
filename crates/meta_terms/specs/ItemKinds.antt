-- Items by what they are.
use Rattle.std.specs.Prelude.{List, [], ◌∷◌}
use Rattle.gram_form.specs.Plain.{PlainProduction}
use Rattle.meta_terms.specs.PlainItems.{PlainDeclaration, PlainEquation, PlainItem, AProduction, ADeclaration, AnEquation}

-- the productions, the declarations and the equations among items
abbrev pub productions_of : List PlainItem → List PlainProduction
productions_of [] = []
productions_of (AProduction p ∷ items) = p ∷ productions_of items
productions_of (_ ∷ items) = productions_of items

abbrev pub declarations_of : List PlainItem → List PlainDeclaration
declarations_of [] = []
declarations_of (ADeclaration d ∷ items) = d ∷ declarations_of items
declarations_of (_ ∷ items) = declarations_of items

abbrev pub equations_of : List PlainItem → List PlainEquation
equations_of [] = []
equations_of (AnEquation e ∷ items) = e ∷ equations_of items
equations_of (_ ∷ items) = equations_of items
