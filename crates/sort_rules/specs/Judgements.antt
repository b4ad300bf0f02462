-- What a yielder may yield and whether it fits, from the same of its arguments.
use Rattle.std.specs.Prelude.{ℕ, Bool, List, Option, if◌then◌else◌}
use Rattle.action_terms.specs.Actions.{Two, One, Yielder}
use Rattle.action_terms.specs.declared.kinds.Sort.{Sort}
use Rattle.action_terms.specs.declared.kinds.Sort.TheVariants as sort
use Rattle.sort_rules.specs.Sets.{Set}
use Rattle.sort_rules.specs.Parts.{Component, Part, Unreached, Clash, on_list, when, join}
use Rattle.sort_rules.specs.Values.{one, found, misfit, first_set, strays, stored_value, result_of_two, result_of_one, misfit_two, misfit_one, value, wrong}

-- the value of a yielder, and a clash where it or a yielder in it doesn't fit
pub record Judgement : Type 0 where
  pub value : Part
  pub wrong : Part

-- the judgement of a yielder
abbrev pub judgement : (c : ℕ → Part) (g h : Part) → Yielder → Judgement
judgement c g h y = record { value = value c g h y; wrong = wrong c g h y }

-- a clash where something doesn't fit
abbrev pub misfit_unless : Bool → Part
misfit_unless fits = if fits then Unreached else Clash

-- of what is looked up in a part
abbrev pub looked_up : Sort → (List Component → Option Set) → Part → Judgement
looked_up s f x = record { value = on_list (λ ps. found s (f ps)) x; wrong = on_list (λ ps. misfit s (f ps)) x }

-- of what is stored in a cell, from the judgement of the cell
abbrev pub stored_judged : (c : ℕ → Part) → Sort → Judgement → Judgement
stored_judged c s j = record {
  value = on_list (λ ps. found s (first_set ps)) (stored_value c j.value);
  wrong = join j.wrong (join (strays sort.Cell j.value) (strays s (stored_value c j.value)));
}

-- of an operation on two data
abbrev pub two_judged : Two → (x y : Judgement) → Judgement
two_judged f x y = record { value = when x.value (when y.value (one (result_of_two f))); wrong = join x.wrong (join y.wrong (misfit_two f x.value y.value)) }

-- of an operation on one datum
abbrev pub one_judged : One → Judgement → Judgement
one_judged f x = record { value = when x.value (one (result_of_one f)); wrong = join x.wrong (misfit_one f x.value) }
