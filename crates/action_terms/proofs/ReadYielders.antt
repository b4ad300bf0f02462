-- What code that reads a yielder of a graph by its kind finds: the lists have it, and it tells what the yielder is.
use Rattle.std.proofs.Common.{◌≡◌, ℕ, zero, suc, ◌-◌, ◌<◌, max, List, [], ◌∷◌, length, map, refl, sym, ap, ap₂, subst, ◌∙◌, arith}
use Rattle.std.specs.Prelude.{Option, Some, IfSome, slice_get, slice_index}
use Rattle.std.proofs.lemmas.Option.{slice_get-get_or, slice_get_within, get_or_from_slice_get}
use Rattle.action_terms.specs.Labels.{AnAction, AYielder, under_yielder}
use Rattle.action_terms.specs.Numbering.{ListedYielder, Listed, yielders_of, IsGraph}
use Rattle.action_terms.specs.Actions.{Yielder, Item, Single}
use Rattle.action_terms.specs.Meaning.{item_of, item_or_them, picked, items_from}
use Rattle.action_terms.specs.Forms.{item_at, yielder_in, yielder_at, IsArgument}
use Rattle.action_terms.specs.ByKind.{argument_at, HasArgumentsRead, item_read, ArgumentsRead, IsYielderRead}
use Rattle.action_terms.specs.declared.kinds.YKind.{YKind}
use Rattle.action_terms.specs.declared.kinds.YKind.TheVariants as ykind
use Rattle.action_terms.proofs.AllLaws.{All-at}
use Rattle.action_terms.proofs.Each.{Each, Each-at_first}
use Rattle.action_terms.proofs.NodeCounts.{length-yielders_of}
use Rattle.action_terms.proofs.SoundNodes.{ItemsFit, one_single, two_singles}
use Rattle.action_terms.proofs.YielderLaws.{YielderSits, yielder_sits}
use Rattle.action_terms.proofs.ItemsAt.{item_at-listed}
use Rattle.action_terms.proofs.ProperGraphs.{yielder_bodies}

-- the arguments are picked by their own numbers, where these are behind the yielder
picked-behind : (ls : List ListedYielder) (n : ℕ) (xs : List ℕ) → ((i x : ℕ) → slice_get xs i ≡ Some x → n < x) → map (λ x. item_at ls (max x (suc n))) xs ≡ picked 0 (items_from 0 ls) xs
picked-behind ls n [] each = refl
picked-behind ls n (x ∷ xs) each =
    let first : n < x = each 0 x refl in
    let same : max x (suc n) ≡ x - 0 = omega arith in
    ap₂ (λ y is. item_or_them (slice_get (items_from 0 ls) y) ∷ is) same (picked-behind ls n xs (λ i y at. each (suc i) y at))

-- the items of one argument and of two
pub record OneArgument (ls : List ListedYielder) (l : ListedYielder) : Type 0 where
  pub some : 0 < length l.children
  pub item : item_at ls (argument_at l 0) ≡ Single (yielder_at ls (argument_at l 0))
  pub all : picked 0 (items_from 0 ls) l.children ≡ Single (yielder_at ls (argument_at l 0)) ∷ []

pub record TwoArguments (ls : List ListedYielder) (l : ListedYielder) : Type 0 where
  pub some : 1 < length l.children
  pub first : item_at ls (argument_at l 0) ≡ Single (yielder_at ls (argument_at l 0))
  pub second : item_at ls (argument_at l 1) ≡ Single (yielder_at ls (argument_at l 1))
  pub all : picked 0 (items_from 0 ls) l.children ≡ Single (yielder_at ls (argument_at l 0)) ∷ Single (yielder_at ls (argument_at l 1)) ∷ []

at_number : (items : List Item) (n : ℕ) → item_or_them (slice_get items (n - 0)) ≡ item_or_them (slice_get items n)
at_number items n = let e : n - 0 ≡ n = omega arith in rw e

single_item : (i : Item) (y : Yielder) → i ≡ Single y → i ≡ Single (yielder_in i)
single_item i y e = e ∙ ap (λ j. Single (yielder_in j)) (sym e)

one_number : (items : List Item) (xs : List ℕ) (y : Yielder) → picked 0 items xs ≡ Single y ∷ [] → (0 < length xs) × (item_or_them (slice_get items (slice_index xs 0)) ≡ Single y)
one_number items [] y e = cc
one_number items (x ∷ xs) y e = (omega arith, cc (at_number items x))

two_numbers : (items : List Item) (xs : List ℕ) (y z : Yielder) → picked 0 items xs ≡ Single y ∷ Single z ∷ []
    → (1 < length xs) × (item_or_them (slice_get items (slice_index xs 0)) ≡ Single y) × (item_or_them (slice_get items (slice_index xs 1)) ≡ Single z)
two_numbers items [] y z e = cc
two_numbers items (x ∷ []) y z e = cc
two_numbers items (x ∷ w ∷ xs) y z e = (omega arith, cc (at_number items x), cc (at_number items w))

one_argument : (ls : List ListedYielder) (l : ListedYielder) → ItemsFit (AYielder ∷ []) (picked 0 (items_from 0 ls) l.children) → OneArgument ls l
one_argument ls l h =
    let r = one_single (picked 0 (items_from 0 ls) l.children) h in
    let n = one_number (items_from 0 ls) l.children r.0 r.1 in
    record {
      some = n.0;
      item = single_item (item_at ls (argument_at l 0)) r.0 n.1;
      all = r.1 ∙ ap (λ i. Single (yielder_in i) ∷ []) (sym n.1);
    }

two_arguments : (ls : List ListedYielder) (l : ListedYielder) → ItemsFit (AYielder ∷ AYielder ∷ []) (picked 0 (items_from 0 ls) l.children) → TwoArguments ls l
two_arguments ls l h =
    let r = two_singles (picked 0 (items_from 0 ls) l.children) h in
    let n = two_numbers (items_from 0 ls) l.children r.0 r.1 r.2 in
    record {
      some = n.0;
      first = single_item (item_at ls (argument_at l 0)) r.0 n.1;
      second = single_item (item_at ls (argument_at l 1)) r.1 n.2;
      all = r.2 ∙ ap₂ (λ i j. Single (yielder_in i) ∷ Single (yielder_in j) ∷ []) (sym n.1) (sym n.2);
    }

-- what the arguments of a kind are
abbrev ArgumentsOf : List ListedYielder → YKind → ListedYielder → Type 0
ArgumentsOf ls (ykind.Number n) l = Unit {0}
ArgumentsOf ls (ykind.Truth b) l = Unit {0}
ArgumentsOf ls ykind.Them l = Unit {0}
ArgumentsOf ls (ykind.Given s place) l = Unit {0}
ArgumentsOf ls (ykind.Bound s) l = Unit {0}
ArgumentsOf ls ykind.Closure l = Unit {0}
ArgumentsOf ls (ykind.Stored s) l = OneArgument ls l
ArgumentsOf ls ykind.Negation l = OneArgument ls l
ArgumentsOf ls ykind.Not l = OneArgument ls l
ArgumentsOf ls _ l = TwoArguments ls l

arguments_of : (ls : List ListedYielder) (kd : YKind) (l : ListedYielder) → ItemsFit (under_yielder kd) (picked 0 (items_from 0 ls) l.children) → ArgumentsOf ls kd l
arguments_of ls (ykind.Number n) l h = tt
arguments_of ls (ykind.Truth b) l h = tt
arguments_of ls ykind.Them l h = tt
arguments_of ls (ykind.Given s place) l h = tt
arguments_of ls (ykind.Bound s) l h = tt
arguments_of ls ykind.Closure l h = tt
arguments_of ls (ykind.Stored s) l h = one_argument ls l h
arguments_of ls ykind.Negation l h = one_argument ls l h
arguments_of ls ykind.Not l h = one_argument ls l h
arguments_of ls _ l h = two_arguments ls l h

has-read : (ls : List ListedYielder) (kd : YKind) (l : ListedYielder) → ArgumentsOf ls kd l → HasArgumentsRead kd l
has-read ls (ykind.Number n) l h = tt
has-read ls (ykind.Truth b) l h = tt
has-read ls ykind.Them l h = tt
has-read ls (ykind.Given s place) l h = tt
has-read ls (ykind.Bound s) l h = tt
has-read ls ykind.Closure l h = tt
has-read ls (ykind.Stored s) l h = h.some
has-read ls ykind.Negation l h = h.some
has-read ls ykind.Not l h = h.some
has-read ls _ l h = h.some

item_of-read : (ls : List ListedYielder) (kd : YKind) (l : ListedYielder) → ArgumentsOf ls kd l → item_of kd l.token l.body (picked 0 (items_from 0 ls) l.children) ≡ item_read ls kd l
item_of-read ls (ykind.Number n) l h = refl
item_of-read ls (ykind.Truth b) l h = refl
item_of-read ls ykind.Them l h = refl
item_of-read ls (ykind.Given s zero) l h = refl
item_of-read ls (ykind.Given s (suc n)) l h = refl
item_of-read ls (ykind.Bound s) l h = refl
item_of-read ls ykind.Closure l h = refl
item_of-read ls (ykind.Stored s) l h = ap (item_of (ykind.Stored s) l.token l.body) h.all
item_of-read ls ykind.Negation l h = ap (item_of ykind.Negation l.token l.body) h.all
item_of-read ls ykind.Not l h = ap (item_of ykind.Not l.token l.body) h.all
item_of-read ls ykind.Sum l h = ap (item_of ykind.Sum l.token l.body) h.all
item_of-read ls ykind.Difference l h = ap (item_of ykind.Difference l.token l.body) h.all
item_of-read ls ykind.Product l h = ap (item_of ykind.Product l.token l.body) h.all
item_of-read ls ykind.Quotient l h = ap (item_of ykind.Quotient l.token l.body) h.all
item_of-read ls ykind.Remainder l h = ap (item_of ykind.Remainder l.token l.body) h.all
item_of-read ls ykind.Is l h = ap (item_of ykind.Is l.token l.body) h.all
item_of-read ls ykind.Less l h = ap (item_of ykind.Less l.token l.body) h.all
item_of-read ls ykind.Both l h = ap (item_of ykind.Both l.token l.body) h.all
item_of-read ls ykind.Either l h = ap (item_of ykind.Either l.token l.body) h.all

-- each child is a yielder behind number y
abbrev EachBehind : List ListedYielder → ℕ → ListedYielder → Type 0
EachBehind ls y l = (i x : ℕ) → slice_get l.children i ≡ Some x → (y < x) × (x < length ls)

is_argument : (ls : List ListedYielder) (y i : ℕ) (l : ListedYielder) → EachBehind ls y l → i < length l.children → item_at ls (argument_at l i) ≡ Single (yielder_at ls (argument_at l i)) → IsArgument ls y (argument_at l i)
is_argument ls y i l each less e =
    let here = each i (argument_at l i) (slice_get-get_or l.children i 0 less) in (here.0, record { within = here.1; single = e })

one_behind : (ls : List ListedYielder) (y : ℕ) (l : ListedYielder) → EachBehind ls y l → OneArgument ls l → IsArgument ls y (argument_at l 0)
one_behind ls y l each h = is_argument ls y 0 l each h.some h.item

two_behind : (ls : List ListedYielder) (y : ℕ) (l : ListedYielder) → EachBehind ls y l → TwoArguments ls l → IsArgument ls y (argument_at l 0) × IsArgument ls y (argument_at l 1)
two_behind ls y l each h =
    let some : 0 < length l.children = omega (arith, h.some) in (is_argument ls y 0 l each some h.first, is_argument ls y 1 l each h.some h.second)

arguments-read : (ls : List ListedYielder) (y : ℕ) (kd : YKind) (l : ListedYielder) → EachBehind ls y l → ArgumentsOf ls kd l → ArgumentsRead ls y kd l
arguments-read ls y (ykind.Number n) l each h = tt
arguments-read ls y (ykind.Truth b) l each h = tt
arguments-read ls y ykind.Them l each h = tt
arguments-read ls y (ykind.Given s place) l each h = tt
arguments-read ls y (ykind.Bound s) l each h = tt
arguments-read ls y ykind.Closure l each h = tt
arguments-read ls y (ykind.Stored s) l each h = one_behind ls y l each h
arguments-read ls y ykind.Negation l each h = one_behind ls y l each h
arguments-read ls y ykind.Not l each h = one_behind ls y l each h
arguments-read ls y _ l each h = two_behind ls y l each h

-- the yielders of a graph stand well
sits : (g : Listed) → IsGraph g → (y : ℕ) (l : ListedYielder) → slice_get g.yielders y ≡ Some l → YielderSits g.yielders (length g.yielders) y l
sits g w y l at =
    let yielders = ap (λ l. l.yielders) w.1.numbered in
    let P : List ListedYielder → Type 0 = λ ls. YielderSits ls (length ls) y l in
    let Q : ℕ → Type 0 = λ n. Each (YielderSits (yielders_of 0 0 w.0) n) 0 (yielders_of 0 0 w.0) in
    let each = subst Q (sym (length-yielders_of 0 0 w.0)) (yielder_sits w.0 AnAction w.1.action) in
    let R = YielderSits (yielders_of 0 0 w.0) (length (yielders_of 0 0 w.0)) in
    subst P (sym yielders) (Each-at_first R (yielders_of 0 0 w.0) y l each (ap (λ l. slice_get l y) (sym yielders) ∙ at))

item_at-read : (ls : List ListedYielder) (y : ℕ) (l : ListedYielder) → slice_get ls y ≡ Some l → EachBehind ls y l → item_at ls y ≡ item_of l.kind l.token l.body (picked 0 (items_from 0 ls) l.children)
item_at-read ls y l at each =
    let less = slice_get_within ls y l at in
    let same = get_or_from_slice_get ls y l l at in
    let P : ListedYielder → Type 0 = λ m. item_at ls y ≡ item_of m.kind m.token m.body (map (λ x. item_at ls (max x (suc y))) m.children) in
    subst P same (item_at-listed ls y l less) ∙ ap (item_of l.kind l.token l.body) (picked-behind ls y l.children (λ i x child. (each i x child).0))

pub yielder-read : (g : Listed) → IsGraph g → (y : ℕ) (l : ListedYielder) (kd : YKind) → slice_get g.yielders y ≡ Some l → l.kind ≡ kd → IsYielderRead g y kd l
yielder-read g w y l kd at is =
    let stands = sits g w y l at in
    let P : YKind → Type 0 = λ k. ItemsFit (under_yielder k) (picked 0 (items_from 0 g.yielders) l.children) in
    let h = arguments_of g.yielders kd l (subst P is stands.fits) in
    let Q : Option ListedYielder → Type 0 = λ o. IfSome o (λ m. m.body < length g.nodes) in
    record {
      has = has-read g.yielders kd l h;
      item = item_at-read g.yielders y l at stands.within ∙ ap (λ k. item_of k l.token l.body (picked 0 (items_from 0 g.yielders) l.children)) is ∙ item_of-read g.yielders kd l h;
      arguments = arguments-read g.yielders y kd l stands.within h;
      body = subst Q at (All-at (λ m. m.body < length g.nodes) g.yielders y (yielder_bodies g w));
    }
