-- What is yielded with sound data, bindings and cells is sound.
use Rattle.std.proofs.Common.{ℕ, zero, suc, ◌^◌, ℤ, pos, List, [], ◌∷◌, All}
use Rattle.std.specs.Prelude.{◌+ℤ◌, ◌-ℤ◌, ◌*ℤ◌, neg_ℤ, int_div, int_rem, int_le, int_lt, ◌&&◌, Option, Some, None, IfSome, option_map, slice_get}
use Rattle.std.proofs.lemmas.List.Elements.{All-nil, All-head, All-append}
use Rattle.action_terms.specs.Information.{Datum, Number, Truth, CellOf, Closure, Binds, Data, Storage}
use Rattle.action_terms.specs.Bindings.{lookup}
use Rattle.action_terms.specs.Actions.{Two, Sum, Difference, Product, Quotient, Remainder, Is, Less, BothOf, EitherOf, One, Negation, Not, Yielder, NumberLiteral, TruthLiteral, Given, GivenAt, BoundTo, StoredIn, OnTwo, OnOne, ClosureOf, Item, Single, Them}
use Rattle.action_terms.specs.Yielding.{within_64, of_sort, only, nth, set_content, stored, int_eq, divided, on_two, on_one, and_then, yields, item_yields, both_data, items_yield}
use Rattle.action_terms.specs.Steps.{closures_in, closures_in_items}
use Rattle.action_terms.specs.Sound.{Known, IsSoundDatum, AreSoundBinds, AreSoundData, AreSoundCells}
use Rattle.action_terms.specs.declared.kinds.Sort.{Sort}
use Rattle.action_terms.specs.declared.kinds.Sort.TheVariants as sort
use Rattle.action_terms.proofs.AllLaws.{All-first, All-second, All-one, All-at}
use Rattle.action_terms.proofs.SoundBindings.{of_choice, sound-lookup}

module _ (known : Known) where
  -- what is yielded, if anything is, is sound
  abbrev Sound : Option Datum → Type 0
  Sound o = IfSome o (IsSoundDatum known)

  sound-and_then : (o : Option Datum) (f : Datum → Option Datum) → Sound o → ((x : Datum) → IsSoundDatum known x → Sound (f x)) → Sound (and_then o f)
  sound-and_then None f here next = tt
  sound-and_then (Some x) f here next = next x here

  sound-of_sort : (s : Sort) (x : Datum) → IsSoundDatum known x → Sound (of_sort s x)
  sound-of_sort sort.Integer (Number n) here = tt
  sound-of_sort sort.Truth (Truth t) here = tt
  sound-of_sort sort.Cell (CellOf c) here = here
  sound-of_sort sort.Abstraction (Closure k b own) here = here
  sound-of_sort _ _ here = tt

  sound-only : (d : Data) → AreSoundData known d → Sound (only d)
  sound-only [] all = tt
  sound-only (x ∷ []) all = All-head (IsSoundDatum known) x [] all
  sound-only (x ∷ y ∷ d) all = tt

  sound-nth : (d : Data) (n : ℕ) → AreSoundData known d → Sound (nth d n)
  sound-nth d zero all = tt
  sound-nth d (suc n) all = All-at (IsSoundDatum known) d n all

  sound-set_content : (o : Option (Option Datum)) → IfSome o Sound → Sound (set_content o)
  sound-set_content None here = tt
  sound-set_content (Some None) here = tt
  sound-set_content (Some (Some x)) here = here

  sound-stored : (cells : Storage) (x : Datum) → AreSoundCells known cells → Sound (stored cells x)
  sound-stored cells (CellOf c) all = sound-set_content (slice_get cells c) (All-at Sound cells c all)
  sound-stored cells _ all = tt

  -- operations give numbers and truth values
  sound-within_64 : (n : ℤ) → Sound (within_64 n)
  sound-within_64 n = of_choice Sound (int_le (neg_ℤ (pos (2 ^ 63))) n && int_lt n (pos (2 ^ 63))) (Some (Number n)) None tt tt

  sound-divided : (f : ℤ → ℤ → ℤ) (x y : ℤ) → Sound (divided f x y)
  sound-divided f x y = of_choice Sound (int_eq y (pos 0)) None (within_64 (f x y)) tt (sound-within_64 (f x y))

  sound-on_two : (f : Two) (x y : Datum) → Sound (on_two f x y)
  sound-on_two Sum (Number x) (Number y) = sound-within_64 (x +ℤ y)
  sound-on_two Difference (Number x) (Number y) = sound-within_64 (x -ℤ y)
  sound-on_two Product (Number x) (Number y) = sound-within_64 (x *ℤ y)
  sound-on_two Quotient (Number x) (Number y) = sound-divided int_div x y
  sound-on_two Remainder (Number x) (Number y) = sound-divided int_rem x y
  sound-on_two Is (Number x) (Number y) = tt
  sound-on_two Is (Truth x) (Truth y) = tt
  sound-on_two Is (CellOf x) (CellOf y) = tt
  sound-on_two Less (Number x) (Number y) = tt
  sound-on_two BothOf (Truth x) (Truth y) = tt
  sound-on_two EitherOf (Truth x) (Truth y) = tt
  sound-on_two _ _ _ = tt

  sound-on_one : (f : One) (x : Datum) → Sound (on_one f x)
  sound-on_one Negation (Number x) = sound-within_64 (neg_ℤ x)
  sound-on_one Not (Truth x) = tt
  sound-on_one _ _ = tt

  module _ (d : Data) (b : Binds) (cells : Storage) (data_sound : AreSoundData known d) (binds_sound : AreSoundBinds known b) (cells_sound : AreSoundCells known cells) where
    pub sound-yields : (y : Yielder) → All known.body (closures_in y) → Sound (yields y d b cells)
    sound-yields (NumberLiteral n) within = tt
    sound-yields (TruthLiteral t) within = tt
    sound-yields (Given s) within = sound-and_then (only d) (of_sort s) (sound-only d data_sound) (sound-of_sort s)
    sound-yields (GivenAt s n) within = sound-and_then (nth d n) (of_sort s) (sound-nth d n data_sound) (sound-of_sort s)
    sound-yields (BoundTo s t) within = sound-and_then (lookup t b) (of_sort s) (sound-lookup known t b binds_sound) (sound-of_sort s)
    sound-yields (StoredIn s y) within =
        sound-and_then (and_then (yields y d b cells) (stored cells)) (of_sort s)
        (sound-and_then (yields y d b cells) (stored cells) (sound-yields y within) (λ x here. sound-stored cells x cells_sound)) (sound-of_sort s)
    sound-yields (OnTwo f y1 y2) within =
        sound-and_then (yields y1 d b cells) (λ x. and_then (yields y2 d b cells) (on_two f x)) (sound-yields y1 (All-first known.body (closures_in y1) (closures_in y2) within))
        (λ x first. sound-and_then (yields y2 d b cells) (on_two f x) (sound-yields y2 (All-second known.body (closures_in y1) (closures_in y2) within)) (λ y second. sound-on_two f x y))
    sound-yields (OnOne f y) within = sound-and_then (yields y d b cells) (on_one f) (sound-yields y within) (λ x here. sound-on_one f x)
    sound-yields (ClosureOf k) within = (All-head known.body k [] within, binds_sound)

    sound-single : (o : Option Datum) → Sound o → IfSome (option_map (λ x. x ∷ []) o) (AreSoundData known)
    sound-single None here = tt
    sound-single (Some x) here = All-one (IsSoundDatum known) x here

    sound-both_data : (o1 o2 : Option Data) → IfSome o1 (AreSoundData known) → IfSome o2 (AreSoundData known) → IfSome (both_data o1 o2) (AreSoundData known)
    sound-both_data (Some d1) (Some d2) first second = All-append (IsSoundDatum known) d1 d2 first second
    sound-both_data _ _ first second = tt

    pub sound-items_yield : (is : List Item) → All known.body (closures_in_items is) → IfSome (items_yield is d b cells) (AreSoundData known)
    sound-items_yield [] within = All-nil (IsSoundDatum known)
    sound-items_yield (Single y ∷ is) within =
        sound-both_data (item_yields (Single y) d b cells) (items_yield is d b cells)
        (sound-single (yields y d b cells) (sound-yields y (All-first known.body (closures_in y) (closures_in_items is) within)))
        (sound-items_yield is (All-second known.body (closures_in y) (closures_in_items is) within))
    sound-items_yield (Them ∷ is) within = sound-both_data (Some d) (items_yield is d b cells) data_sound (sound-items_yield is within)
