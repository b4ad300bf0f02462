-- Raised tables lead to the least marked one.
use Rattle.std.proofs.Common.{inl, inr, length, subst, sym, zero, ℕ, ◌<◌, ◌≡◌, ◌⊎◌}
use Rattle.action_terms.specs.Actions.{Action}
use Rattle.action_terms.specs.Performances.{OneOf}
use Rattle.action_terms.specs.Steps.{joined}
use Rattle.sort_rules.specs.Admissible.{Holds, IsLeastMarked, Meets}
use Rattle.sort_rules.specs.Demands.{demands, ◌⊒◌}
use Rattle.sort_rules.specs.Parts.{Below, Least, Part}
use Rattle.sort_rules.specs.Raising.{IsJoined, IsOnTheWay, IsRaised, first_table}
use Rattle.sort_rules.specs.Tables.{BindsIn, DataIn, Entry, IsUnder, MarkedTable}
use Rattle.sort_rules.proofs.EachLaws.{each_one}
use Rattle.sort_rules.proofs.Joins.{join_least, join_left}
use Rattle.sort_rules.proofs.LeastTables.{met_above}
use Rattle.sort_rules.proofs.PartOrder.{below_refl, below_trans}

pub raised_refl : {a : Action} {t : MarkedTable} → IsRaised a t t
raised_refl = record { above = λ x. below_refl; below = λ v m h. h }

pub raised_trans : {a : Action} {t u v : MarkedTable} → IsRaised a t u → IsRaised a u v → IsRaised a t v
raised_trans f g = record { above = λ x. below_trans (f.above x) (g.above x); below = λ w m h. g.below w m (f.below w m h) }

-- one entry is joined with what a node asked for in a lower table
pub raised_by : {a : Action} {t0 t u : MarkedTable} {x : Entry} {v : Part} (k : ℕ) → k < length a → IsUnder t0 t → OneOf (x ⊒ v) (demands a t0 k) → IsJoined t u x v → IsRaised a t u
raised_by {a} {t0} {t} {u} {x} {v} k less under asked joined = record { above = λ y. up y (joined.others y); below = λ w m h y. down w m h y (joined.others y) }
  where
    up_at : Below (t x) (u x)
    up_at = subst (Below (t x)) (sym joined.at) (join_left v)

    up : (y : Entry) → (y ≡ x) ⊎ (u y ≡ t y) → Below (t y) (u y)
    up y (inl q) = subst (λ (e : Entry). Below (t e) (u e)) (sym q) up_at
    up y (inr q) = subst (Below (t y)) (sym q) below_refl

    met : (w : MarkedTable) → Meets a w → IsUnder t w → Below v (w x)
    met w m h = each_one asked (met_above a k (λ y. below_trans (under y) (h y)) (m.each k less))

    down_at : (w : MarkedTable) → Meets a w → IsUnder t w → Below (u x) (w x)
    down_at w m h = subst (λ z. Below z (w x)) (sym joined.at) (join_least (h x) (met w m h))

    down : (w : MarkedTable) → Meets a w → IsUnder t w → (y : Entry) → (y ≡ x) ⊎ (u y ≡ t y) → Below (u y) (w y)
    down w m h y (inl q) = subst (λ (e : Entry). Below (u e) (w e)) (sym q) (down_at w m h)
    down w m h y (inr q) = subst (λ z. Below z (w y)) (sym q) (h y)

-- a raised table stays on the way
pub raised_on_the_way : {a : Action} {t u : MarkedTable} → IsOnTheWay a t → IsRaised a t u → IsOnTheWay a u
raised_on_the_way w r = record {
  below = λ v m. r.below v m (w.below v m);
  root_data = below_trans w.root_data (r.above (DataIn 0));
  root_binds = below_trans w.root_binds (r.above (BindsIn 0));
}

-- a table on the way at whose nodes all demands hold is the least marked one
pub least_on_the_way : {a : Action} {t : MarkedTable} → IsOnTheWay a t → ((k : ℕ) → k < length a → Holds a t k) → IsLeastMarked a t
least_on_the_way w h = record { meets = record { root_data = w.root_data; root_binds = w.root_binds; each = h }; least = w.below }

-- the table with nothing but the root's demand is on the way
pub first_on_the_way : {a : Action} → IsOnTheWay a first_table
first_on_the_way {a} = record { below = λ u m x. under u m x; root_data = below_refl; root_binds = below_refl }
  where
    under : (u : MarkedTable) → Meets a u → (x : Entry) → Below (first_table x) (u x)
    under u m (DataIn zero) = m.root_data
    under u m (BindsIn zero) = m.root_binds
    under u m _ = Least
