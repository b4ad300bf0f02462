-- Items whose code can be made: what their code needs, and that they make no closure.
use Rattle.std.proofs.Common.{◌≡◌, ◌<◌, true, List, [], ◌∷◌, refl, arith}
use Rattle.std.specs.Prelude.{All}
use Rattle.std.proofs.lemmas.List.Elements.{All-head, All-tail}
use Rattle.rv_asm.proofs.Places.{and-true}
use Rattle.action_terms.specs.Actions.{Item, Single, Them}
use Rattle.action_terms.specs.Literals.{ItemFits}
use Rattle.action_terms.specs.Need.{items_yielder_count}
use Rattle.action_terms.specs.Steps.{closures_in_items}
use Rattle.rv_yield.specs.Registers.{is_built}
use Rattle.rv_yield.proofs.NeedLaws.{registers-enough}
use Rattle.rv_codegen.specs.Built.{are_built}
use Rattle.rv_codegen.proofs.GivenItems.{AreBuilt}
use Rattle.rv_codegen.proofs.Nothing.{built-makes_none, has-words}

pub items-built : (is : List Item) → are_built is ≡ true → All ItemFits is → items_yielder_count is < 65536 → AreBuilt is
unfolding AreBuilt
items-built [] built fits few = tt
items-built (Single y ∷ is) built fits few =
    let q = and-true (is_built y) (are_built is) built in
    (q.0, has-words y (All-head ItemFits (Single y) is fits), registers-enough y (omega (arith, few)), items-built is q.1 (All-tail ItemFits (Single y) is fits) (omega (arith, few)))
items-built (Them ∷ is) built fits few = items-built is built (All-tail ItemFits Them is fits) (omega (arith, few))

pub items-make_none : (is : List Item) → are_built is ≡ true → closures_in_items is ≡ []
items-make_none [] built = refl
items-make_none (Single y ∷ is) built =
    let q = and-true (is_built y) (are_built is) built in
    rw (built-makes_none y q.0, items-make_none is q.1) refl
items-make_none (Them ∷ is) built = items-make_none is built
