-- What is asked before the code of a yielder can be met: the words of a frame stand for two data, a comparison of them is of
-- the sorts that it wants, and its code is ready to run.
use Rattle.std.proofs.Common.{◌≡◌, ◌+◌, ◌<◌, [], ◌∷◌, List, ℕ, false, Some, None, pos, refl, arith}
use Rattle.std.proofs.lemmas.List.Elements.{All-cons, All-nil}
use Rattle.rv_asm.specs.Assembly.{Listing}
use Rattle.rv_asm.specs.DataWords.{Heap}
use Rattle.rv_asm.specs.WordMachine.{WordState}
use Rattle.action_terms.specs.Information.{Data, Number, Truth, NoBinds}
use Rattle.action_terms.specs.Actions.{Yielder, Less, GivenAt, OnTwo}
use Rattle.action_terms.specs.Suited.{IsSuited, IsOfSort}
use Rattle.action_terms.specs.Yielding.{yields}
use Rattle.action_terms.specs.declared.kinds.Sort.TheVariants as sort
use Rattle.rv_yield.specs.Evaluates.{Finds, CanEvaluate}
use Rattle.rv_yield.specs.Fronts.{extended}
use Rattle.rv_yield.specs.Holding.{Places}
use Rattle.rv_yield.specs.YielderCode.{value_items}

-- no cell and no closure
abbrev no_heap : Heap
no_heap = record { cells = []; closures = [] }

-- a region of three words at 131072, at which the frame begins; its second and third word are 7 and 9
abbrev state : WordState
state = record { pc = 65536; registers = λ k. 131072; words = 0 ∷ 7 ∷ 9 ∷ []; input = []; output = [] }

abbrev data_given : Data
data_given = Number (pos 9) ∷ Number (pos 7) ∷ []

-- where the data stand; no token is bound
abbrev offsets : Places
offsets = record { given = 2 ∷ 1 ∷ []; bound = [] }

-- the first datum stands in the third word
pub two-found : Finds 131072 no_heap offsets 0 state data_given NoBinds []
two-found = record {
  frame = record { aligned = refl; below = omega arith; frame = refl };
  inside = All-cons (λ o. 0 + o < 3) 2 (1 ∷ []) (omega arith) (All-cons (λ o. 0 + o < 3) 1 [] (omega arith) (All-nil (λ o. 0 + o < 3)));
  slots_inside = All-nil (λ s. 0 + s.offset < 3);
  holds = ((refl, record { sfits = omega arith }), ((refl, record { sfits = omega arith }), tt));
  cells = record {
    inside = λ k p q. absurd (let e : None ≡ Some p = q in cc);
    apart = λ j k p q r. absurd (let e : None ≡ Some p = q in cc);
  };
  binds = tt;
  contents = record { many = refl; content = λ k p o q r. absurd (let e : None ≡ Some p = q in cc) };
}

abbrev first_is_less : Yielder
first_is_less = OnTwo Less (GivenAt sort.Integer 1) (GivenAt sort.Integer 2)

pub less-suited : IsSuited first_is_less data_given NoBinds []
less-suited = (refl, refl, (refl, refl))

-- an assembler with a label, and nothing emitted
abbrev empty : Listing
empty = record { items = []; labels = 1 }

-- with the code of the comparison
abbrev compared : Listing
compared = extended empty (value_items offsets 10 10 0 first_is_less)

pub less-ready : CanEvaluate offsets first_is_less empty compared [] 131072 0 no_heap data_given NoBinds [] state
less-ready = record { near = omega arith; before = refl; finds = two-found; slots = (tt, tt); suited = less-suited }

-- the comparison yields a truth-value, as is asked of a condition: 9 isn't less than 7
pub less-decides : IsOfSort sort.Truth (yields first_is_less data_given NoBinds [])
less-decides = refl

pub less-false : yields first_is_less data_given NoBinds [] ≡ Some (Truth false)
less-false = refl
