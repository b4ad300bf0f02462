-- The tokens that a walk over the yielders of a node lists.
use Rattle.std.specs.Prelude.{ℕ, List, [], ◌∷◌, map}
use Rattle.std.specs.Borrow.{Bor}
use Rattle.action_terms.specs.Information.{Token}
use Rattle.action_terms.specs.declared.view.YielderView.{YielderView}
use Rattle.action_terms.specs.declared.view.YielderView.TheVariants as yielder

-- tokens without where their bytes lie
abbrev pub tokens_of : List (Bor (List ℕ)) → List Token
tokens_of ts = map (λ t. t.now) ts

-- the token that a yielder itself names, without those that its arguments name
abbrev pub own_named : YielderView → List Token
own_named (yielder.BoundTo s t) = t.now ∷ []
own_named _ = []

-- the numbers of the arguments of a yielder, the first one last
abbrev pub arguments_first : YielderView → List ℕ
arguments_first (yielder.StoredIn s y) = y ∷ []
arguments_first (yielder.OnTwo f y1 y2) = y2 ∷ y1 ∷ []
arguments_first (yielder.OnOne f y) = y ∷ []
arguments_first _ = []
