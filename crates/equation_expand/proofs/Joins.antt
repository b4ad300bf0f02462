-- Meanings one behind another.
use Rattle.std.proofs.Common.{◌≡◌, ◌∙◌, List, [], Ok, Err, refl, ap, append_assoc, append-nil}
use Rattle.action_terms.specs.Labels.{Label}
use Rattle.equation_expand.specs.Meaning.{Meaning, joined}
use Rattle.equation_expand.specs.Frames.{Passes}
use Rattle.equation_expand.specs.Seen.{IsGapError}
use Rattle.equation_expand.specs.declared.errors.ExpandError.{ExpandError}
use Rattle.equation_expand.specs.declared.errors.ExpandError.TheVariants as error

pub joined-assoc : (a b c : Meaning) → joined (joined a b) c ≡ joined a (joined b c)
joined-assoc (Ok xs) (Ok ys) (Ok zs) = ap Ok (append_assoc xs ys zs)
joined-assoc (Ok xs) (Ok ys) (Err gap) = refl
joined-assoc (Ok xs) (Err gap) c = refl
joined-assoc (Err gap) b c = refl

pub nothing-before : (m : Meaning) → joined (Ok []) m ≡ m
nothing-before (Ok xs) = refl
nothing-before (Err gap) = refl

pub nothing-behind : (m : Meaning) → joined m (Ok []) ≡ m
nothing-behind (Ok xs) = ap Ok (append-nil xs)
nothing-behind (Err gap) = refl

-- nodes in front of a meaning
pub passes-nodes : (m rest all : Meaning) (xs : List Label) → m ≡ Ok xs → all ≡ joined m rest → Passes rest all
passes-nodes m rest all xs is e gap g = e ∙ ap (λ x. joined x rest) is ∙ ap (joined (Ok xs)) g

-- the meaning in front
pub passes-front : (m rest all : Meaning) → all ≡ joined m rest → Passes m all
passes-front m rest all e gap g = e ∙ ap (λ x. joined x rest) g

-- the cause of an error passes too
pub error-passes : (m n : Meaning) → Passes m n → (e : ExpandError) → IsGapError m e → IsGapError n e
error-passes m n p error.Memory h = tt
error-passes m n p (error.Uncovered f q a) h = p _ h
error-passes m n p (error.BigNumeral offset) h = p _ h
error-passes m n p error.Nodes h = h
error-passes m n p (error.StrayUnfold node) h = h
