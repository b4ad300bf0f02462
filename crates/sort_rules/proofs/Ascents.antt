-- Lists of numbers that ascend: the test and the fact.
use Rattle.std.proofs.Common.{IsTrue, List, [], nat_lt, refl, true, ℕ, ◌∷◌, ◌≡◌}
use Rattle.std.proofs.lemmas.Bool.{and_from}
use Rattle.sort_rules.specs.Numbers.{ascends, ascends_from}
use Rattle.sort_rules.specs.Wellformed.{Ascending, MoreNumbers, NoNumber, OneNumber}
use Rattle.sort_rules.proofs.Choices.{both_left, both_right}

ascends_from-sound : (n : ℕ) (ns : List ℕ) → ascends_from n ns ≡ true → Ascending (n ∷ ns)
ascends_from-sound n [] e = OneNumber
ascends_from-sound n (m ∷ ms) e = MoreNumbers (both_left (nat_lt n m) (ascends_from m ms) e) (ascends_from-sound m ms (both_right (nat_lt n m) (ascends_from m ms) e))

-- numbers that pass the test ascend
pub ascends-sound : (ns : List ℕ) → IsTrue (ascends ns) → Ascending ns
ascends-sound [] e = NoNumber
ascends-sound (n ∷ ns) e = ascends_from-sound n ns e

-- and pass it where they do
pub ascends-complete : {ns : List ℕ} → Ascending ns → IsTrue (ascends ns)
ascends-complete NoNumber = refl
ascends-complete OneNumber = refl
ascends-complete (MoreNumbers {n} {m} {ms} e h) = and_from (nat_lt n m) (ascends_from m ms) e (ascends-complete h)
