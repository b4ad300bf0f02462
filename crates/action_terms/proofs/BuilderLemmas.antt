-- What a builder keeps when one more node is pushed.
use Rattle.std.proofs.Common.{◌≡◌, ℕ, ◌+◌, ◌<◌, ◌≤◌, Bool, List, [], ◌∷◌, ◌++◌, length, map, refl, sym, ap, ◌∙◌, append_assoc, append-nil, length-append, add-zero, subst, cond, vec_len, arith}
use Rattle.std.specs.Prelude.{count_by, Vec}
use Rattle.std.proofs.lemmas.List.{map-append, length-map}
use Rattle.std.proofs.lemmas.List.Sums.{sum_by-append}
use Rattle.action_terms.specs.Labels.{Label, AnAction}
use Rattle.action_terms.specs.Places.{fills, expects}
use Rattle.action_terms.specs.Pushed.{label_of, is_action_node, is_yielder_node, Keeps}
use Rattle.action_terms.specs.declared.places.Expected.{Expected}
use Rattle.action_terms.specs.declared.pushed.NewAction.{NewAction}
use Rattle.action_terms.specs.declared.pushed.NewYielder.{NewYielder}
use Rattle.action_terms.specs.declared.pushed.Pushed.{Pushed}
use Rattle.action_terms.specs.declared.pushed.Pushed.TheVariants.{Action, Yielder}
use Rattle.std.specs.declared.alloc.Global.{Global}

-- one more label counts where it passes
count_by-more : (p : Label → Bool) (labels : List Label) (l : Label) → count_by p (labels ++ l ∷ []) ≡ count_by p labels + count_by p (l ∷ [])
count_by-more p labels l = sum_by-append (λ x. cond (p x) 1 0) labels (l ∷ [])

-- the number of a pushed node is below the limit
pub length_below : (v : Vec Pushed Global) (n limit : ℕ) → n ≡ vec_len v → n < limit → length v.items < limit
length_below v n limit is less = omega (arith, v.ok.0)

keeps-more : (limit : ℕ) (old new : List Pushed) (n : Pushed) (e r f : Expected) (a y a' y' : ℕ) → limit ≡ 65536 → Keeps (map label_of old) e a y → length old < limit → new ≡ old ++ n ∷ []
    → ((more : List Label) → expects r more ≡ expects e more) → ((more : List Label) → expects f more ≡ expects r (label_of n ∷ more))
    → a' ≡ a + count_by is_action_node (label_of n ∷ []) → y' ≡ y + count_by is_yielder_node (label_of n ∷ [])
    → Keeps (map label_of new) f a' y'
keeps-more limit old new n e r f a y a' y' is k less pushed same follow more_actions more_yielders =
    let labels : map label_of new ≡ map label_of old ++ label_of n ∷ [] = ap (map label_of) pushed ∙ map-append label_of old (n ∷ []) in
    let one_more : length new ≡ length old + 1 = ap length pushed ∙ length-append old (n ∷ []) in
    let within : length new ≤ limit = omega arith in
    let P : ℕ → Type 0 = λ m. length (map label_of new) ≤ m in
    record {
      actions_are = more_actions ∙ ap (λ m. m + count_by is_action_node (label_of n ∷ [])) k.actions_are ∙ sym (ap (count_by is_action_node) labels ∙ count_by-more is_action_node (map label_of old) (label_of n));
      yielders_are = more_yielders ∙ ap (λ m. m + count_by is_yielder_node (label_of n ∷ [])) k.yielders_are ∙ sym (ap (count_by is_yielder_node) labels ∙ count_by-more is_yielder_node (map label_of old) (label_of n));
      few = subst P is (rw length-map within);
      expects_rest = λ more. ap (λ ls. fills (AnAction ∷ []) (ls ++ more)) labels ∙ ap (fills (AnAction ∷ [])) (append_assoc (map label_of old) (label_of n ∷ []) more) ∙ k.expects_rest (label_of n ∷ more) ∙ sym (follow more ∙ same (label_of n ∷ more));
    }

-- an action node has the next number of an action, and a yielder that of a yielder
pub keeps-action : (old new : List Pushed) (n : NewAction) (e r f : Expected) (a y : ℕ) → Keeps (map label_of old) e a y → length old < 65536 → new ≡ old ++ Action n ∷ []
    → ((more : List Label) → expects r more ≡ expects e more) → ((more : List Label) → expects f more ≡ expects r (label_of (Action n) ∷ more))
    → Keeps (map label_of new) f (a + 1) y
keeps-action old new n e r f a y k less pushed same follow = keeps-more 65536 old new (Action n) e r f a y (a + 1) y refl k less pushed same follow refl (sym (add-zero y))

pub keeps-yielder : (old new : List Pushed) (n : NewYielder) (e r f : Expected) (a y : ℕ) → Keeps (map label_of old) e a y → length old < 65536 → new ≡ old ++ Yielder n ∷ []
    → ((more : List Label) → expects r more ≡ expects e more) → ((more : List Label) → expects f more ≡ expects r (label_of (Yielder n) ∷ more))
    → Keeps (map label_of new) f a (y + 1)
keeps-yielder old new n e r f a y k less pushed same follow = keeps-more 65536 old new (Yielder n) e r f a y a (y + 1) refl k less pushed same follow (sym (add-zero a)) refl

-- the nodes so far fill the place of an action exactly where nothing more is expected
pub fills-expects : (labels : List Label) (e : Expected) (a y : ℕ) → Keeps labels e a y → fills (AnAction ∷ []) labels ≡ expects e []
fills-expects labels e a y k = ap (fills (AnAction ∷ [])) (sym (append-nil labels)) ∙ k.expects_rest []
