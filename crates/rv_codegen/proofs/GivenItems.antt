-- The code of items: it leaves their data at offsets of the frame, one behind the other, or the first item that yields nothing has led to a label.
use Rattle.std.proofs.Common.{◌≡◌, ⊎_elim, ℕ, ◌+◌, ◌*◌, ◌^◌, ◌<◌, ◌≤◌, true, inl, inr, All, List, [], ◌∷◌, ◌++◌, length, map, take, drop, get_or, Option, Some, None, refl, sym, ap, subst, ◌∙◌, arith, append_assoc, length-append, length-take, length-drop, length-set, get_or-set_other, get_or-set_same}
use Rattle.std.specs.Prelude.{option_map, slice_get}
use Rattle.std.proofs.lemmas.List.{take-append-drop}
use Rattle.std.proofs.lemmas.List.Elements.{All-nil}
use Rattle.rv_code.specs.declared.instruction.Inst.{Inst}
use Rattle.rv_asm.specs.Assembly.{address_of, total}
use Rattle.rv_asm.specs.DataWords.{Heap, StandsFor}
use Rattle.rv_asm.specs.WordMachine.{WordState, Has}
use Rattle.rv_asm.specs.declared.item.Item.TheVariants.{Plain}
use Rattle.rv_asm.proofs.Labels.{total-append}
use Rattle.rv_asm.proofs.Sending.{code_from-plain, total-plain}
use Rattle.action_terms.specs.Information.{Binds, Data, Datum, Storage}
use Rattle.action_terms.specs.Actions.{Item, Single, Them, Yielder}
use Rattle.action_terms.specs.Need.{items_yielder_count, yielder_count}
use Rattle.action_terms.specs.Performances.{OneOf, Here, Later}
use Rattle.action_terms.specs.Suited.{AreSuited, IsSuited}
use Rattle.action_terms.specs.Yielding.{both_data, items_yield, yields}
use Rattle.action_terms.proofs.AllLaws.{All-member}
use Rattle.sort_rules.proofs.ActionNumbers.{one_of-first, one_of-second}
use Rattle.sort_rules.proofs.Choices.{member_cases}
use Rattle.rv_yield.specs.Evaluates.{Finds, HasCells}
use Rattle.rv_yield.specs.Holding.{Holds, HoldsContent, word_at}
use Rattle.rv_yield.specs.Registers.{HasWords, is_built, registers_needed}
use Rattle.rv_yield.specs.YielderCode.{stored_items, value_items}
use Rattle.rv_yield.proofs.Evaluation.{value-comes}
use Rattle.rv_yield.proofs.Steps.{Arrives}
use Rattle.rv_yield.proofs.Storing.{HasLeft, stored-comes}
use Rattle.rv_yield.proofs.Targets.{Stands, stands-back, stands-front}
use Rattle.rv_yield.proofs.Valued.{Known, valued-cases}
use Rattle.rv_codegen.specs.GivenItems.{alone, give_items, moves_items}
use Rattle.rv_codegen.proofs.AliasWords.{IsOnce}
use Rattle.rv_codegen.proofs.Holding.{holds-append}
use Rattle.rv_codegen.proofs.NoSlots.{alone-near, no-slots}
use Rattle.rv_codegen.proofs.MovedWords.{HasWritten, frame-after, holds-elsewhere, moves-run, once-first, once-rest, written-at, written-none, written-then}

-- as many words as data
pub holds-length : (base : ℕ) (heap : Heap) (words : List ℕ) (f : ℕ) (os : List ℕ) (d : Data) → Holds base heap words f os d → length d ≡ length os
holds-length base heap words f [] [] h = refl
holds-length base heap words f [] (x ∷ d) h = absurd h
holds-length base heap words f (o ∷ os) [] h = absurd h
holds-length base heap words f (o ∷ os) (x ∷ d) h = omega (arith, holds-length base heap words f os d h.1)

-- no data stand at no places
pub holds-none : (base : ℕ) (heap : Heap) (words : List ℕ) (f : ℕ) (os : List ℕ) → length {A = Datum} [] ≡ length os → Holds base heap words f os []
holds-none base heap words f [] same = tt
holds-none base heap words f (o ∷ os) same = absurd (omega (arith, same))

-- the code of the yielders among items can be made
abbrev pub AreBuilt : List Item → Type 0
AreBuilt [] = Unit {0}
AreBuilt (Single y ∷ is) = (is_built y ≡ true) × HasWords y × (registers_needed y ≤ 16) × AreBuilt is
AreBuilt (Them ∷ is) = AreBuilt is

-- ---- words of which each stands once, in two rows

take-member : (n : ℕ) (os : List ℕ) (x : ℕ) → OneOf x (take n os) → OneOf x os
take-member n os x m = subst (OneOf x) (take-append-drop n os) (one_of-first (take n os) (drop n os) x m)

drop-member : (n : ℕ) (os : List ℕ) (x : ℕ) → OneOf x (drop n os) → OneOf x os
drop-member n os x m = subst (OneOf x) (take-append-drop n os) (one_of-second (take n os) (drop n os) x m)

take-once : (n : ℕ) (os : List ℕ) → IsOnce os → IsOnce (take n os)
take-once n os once us vs x e m k =
    once us (vs ++ drop n os) x (sym (take-append-drop n os) ∙ ap (λ (ys : List ℕ). ys ++ drop n os) e ∙ append_assoc us vs (drop n os)) m (one_of-first vs (drop n os) x k)

drop-once : (n : ℕ) (os : List ℕ) → IsOnce os → IsOnce (drop n os)
drop-once n os once us vs x e m k =
    once (take n os ++ us) vs x (sym (take-append-drop n os) ∙ ap (λ (ys : List ℕ). take n os ++ ys) e ∙ sym (append_assoc (take n os) us vs)) (one_of-second (take n os) us x m) k

parted : (n : ℕ) (os : List ℕ) → IsOnce os → (x : ℕ) → OneOf x (take n os) → OneOf x (drop n os) → ⊥
parted n os once x m k = once (take n os) (drop n os) x (sym (take-append-drop n os)) m k

-- ---- what the code of items comes to

module _ (base : ℕ) (code : List Inst) (heap : Heap) (f : ℕ) where
  -- all yield, and the words at the offsets stand for their data in order; or the code has gone elsewhere
  abbrev pub Gave : (limit : ℕ) (out : List ℕ) (c : WordState) (next nothing : ℕ) → Option Data → Type 0
  Gave limit out c next nothing (Some e) = (w : HasWritten base code f limit out c next) × Holds base heap w.end.words f out e
  Gave limit out c next nothing None = HasWritten base code f limit out c nothing

  -- data that are left in front, and then the rest
  gave-then : (l1 l2 limit : ℕ) (t r out : List ℕ) (c : WordState) (p next nothing : ℕ) (e : Data) (v : Option Data) → out ≡ t ++ r → ((x : ℕ) → OneOf x t → OneOf x r → ⊥) → l1 + l2 ≤ limit
      → (a : HasWritten base code f l1 t c p) → ((e2 : Data) → v ≡ Some e2 → Holds base heap a.end.words f t e) → Gave l2 r a.end next nothing v → Gave limit out c next nothing (both_data (Some e) v)
  gave-then l1 l2 limit t r out c p next nothing e v is apart few a h g = subst (λ os. Gave limit os c next nothing (both_data (Some e) v)) (sym is) (go v h g)
    where
      go : (v : Option Data) → ((e2 : Data) → v ≡ Some e2 → Holds base heap a.end.words f t e) → Gave l2 r a.end next nothing v → Gave limit (t ++ r) c next nothing (both_data (Some e) v)
      go (Some e2) h g = (
        written-then base code f l1 l2 limit t r (t ++ r) c p next a g.0 few (λ o m. one_of-first t r o m) (λ o m. one_of-second t r o m),
        holds-append base heap g.0.end.words f t r e e2 (holds-elsewhere base heap f r a.end.words g.0.end.words g.0.kept t e apart (h e2 refl)) g.1,
      )
      go None h g = written-then base code f l1 l2 limit t r (t ++ r) c p nothing a g few (λ o m. one_of-first t r o m) (λ o m. one_of-second t r o m)

  -- the first item yields nothing
  pub gave-nothing : (l limit : ℕ) (out : List ℕ) (c : WordState) (nothing : ℕ) → l ≤ limit → Arrives base code l 10 10 c nothing → HasWritten base code f limit out c nothing
  gave-nothing l limit out c nothing few a = record {
    count = a.count;
    few = omega (arith, a.few, few);
    end = a.end;
    runs = a.runs;
    at = a.at;
    others = λ k lt. a.others k (omega arith) (omega arith);
    size = ap length a.words;
    kept = λ j no. ap (λ ws. get_or ws j 0) a.words;
    input = a.input;
    output = a.output;
  }

  -- each of these words of the frame lies below all units of cells
  abbrev pub IsBelowCells : List ℕ → Type 0
  IsBelowCells os = (o number place : ℕ) → OneOf o os → slice_get heap.cells number ≡ Some place → f + o < place

  -- what a unit holds stays where the words from it on are as before
  content-kept : (ws ws' : List ℕ) (place : ℕ) (o : Option Datum) → ((j : ℕ) → place ≤ j → get_or ws' j 0 ≡ get_or ws j 0) → HoldsContent base heap ws place o → HoldsContent base heap ws' place o
  content-kept ws ws' place None same h = same place (omega arith) ∙ h
  content-kept ws ws' place (Some x) same h = (same place (omega arith) ∙ h.0, subst (λ w. StandsFor base heap w x) (sym (same (place + 1) (omega arith))) h.1)

  -- what is given is found where nothing of it was written, and no unit of a cell
  finds-elsewhere : (limit : ℕ) (t given : List ℕ) (c : WordState) (p : ℕ) (d : Data) (b : Binds) (cells : Storage) (a : HasWritten base code f limit t c p) → ((x : ℕ) → OneOf x given → OneOf x t → ⊥) → IsBelowCells t → Finds base heap (alone given) f c d b cells → Finds base heap (alone given) f a.end d b cells
  finds-elsewhere limit t given c p d b cells a apart below h = record {
    frame = frame-after base code f limit t c p a h.frame;
    inside = subst (λ n. All (λ o. f + o < n) given) (sym a.size) h.inside;
    slots_inside = All-nil (λ s. f + s.offset < length a.end.words);
    holds = holds-elsewhere base heap f t c.words a.end.words a.kept given d apart h.holds;
    binds = tt;
    cells = subst (HasCells heap) (sym a.size) h.cells;
    contents = record { many = h.contents.many; content = λ m place o p q. content-kept c.words a.end.words place o (λ j low. a.kept j (λ x k same. omega (arith, below x m place k p, same, low))) (h.contents.content m place o p q) };
  }

  module _ (at : ℕ → ℕ) (l : ℕ) (l_near : at l < 2 ^ 28) (given : List ℕ) (near_given : All (λ o. o < 33554432) given) (d : Data) (b : Binds) (cells : Storage) where
    -- where the data of items can be left: places that the frame has, each once, and none where something is given; as many as there are data, if all items yield
    pub record HasPlaces (out : List ℕ) (is : List Item) (c : WordState) : Type 0 where
      pub inside : (o : ℕ) → OneOf o out → (o < 33554432) × (f + o < length c.words)
      pub apart : (x : ℕ) → OneOf x given → OneOf x out → ⊥
      pub once : IsOnce out
      pub below : IsBelowCells out
      pub enough : (e : Data) → items_yield is d b cells ≡ Some e → length e ≡ length out

    -- the code of the items stands in the code, at a place of it
    pub record StandsAt (out : List ℕ) (is : List Item) (n : ℕ) (c : WordState) : Type 0 where
      pub near : n + total (give_items given out l is) < 2 ^ 28 + 1
      pub before : c.pc ≡ address_of n
      pub stands : Stands code at n (give_items given out l is)

    abbrev pub next_of : (out : List ℕ) (is : List Item) (n : ℕ) → ℕ
    next_of out is n = address_of (n + total (give_items given out l is))

    abbrev pub limit_of : (out : List ℕ) (is : List Item) → ℕ
    limit_of out is = 24 * items_yielder_count is + 20 * length out

    -- the rest of the items, behind what was left at the first places
    abbrev Rest : (r : List ℕ) (is : List Item) (n : ℕ) → Type 0
    Rest r is n = (c : WordState) → HasPlaces r is c → StandsAt r is n c → Finds base heap (alone given) f c d b cells → Gave (limit_of r is) r c (next_of r is n) (address_of (at l)) (items_yield is d b cells)

    -- a yielder whose datum is left at the first place
    single-stored : (y : Yielder) (o : ℕ) (os : List ℕ) (is : List Item) (n : ℕ) (c : WordState) → is_built y ≡ true → HasWords y → registers_needed y ≤ 16 → IsSuited y d b cells → HasPlaces (o ∷ os) (Single y ∷ is) c → StandsAt (o ∷ os) (Single y ∷ is) n c → Finds base heap (alone given) f c d b cells
        → Rest os is (n + total (stored_items (alone given) o l y)) → Gave (limit_of (o ∷ os) (Single y ∷ is)) (o ∷ os) c (next_of (o ∷ os) (Single y ∷ is) n) (address_of (at l)) (items_yield (Single y ∷ is) d b cells)
    single-stored y o os is n c built words few suited places at_code finds rest =
        let first = stored_items (alone given) o l y in
        let behind = give_items given os l is in
        let m = n + total first in
        let sizes : total (first ++ behind) ≡ total first + total behind = total-append first behind in
        let near_o = places.inside o Here in
        ⊎_elim
        (λ (p : HasLeft base code heap (24 * yielder_count y) f o c (address_of m) (yields y d b cells)). yielded p)
        (λ (p : (yields y d b cells ≡ None) × Arrives base code (24 * yielder_count y) 10 10 c (address_of (at l))).
        subst (λ v. Gave (limit_of (o ∷ os) (Single y ∷ is)) (o ∷ os) c (next_of (o ∷ os) (Single y ∷ is) n) (address_of (at l)) (both_data (option_map (λ x. x ∷ []) v) (items_yield is d b cells))) (sym p.0)
        (gave-nothing (24 * yielder_count y) (limit_of (o ∷ os) (Single y ∷ is)) (o ∷ os) c (address_of (at l)) (omega arith) p.1))
        (stored-comes base code at l l_near heap (alone given) (alone-near near_given) f d b cells y built words (no-slots y built b) suited few o n c near_o.0 near_o.1 (omega (arith, at_code.near, sizes)) at_code.before (stands-front code at n first behind at_code.stands) finds)
      where
        yielded : HasLeft base code heap (24 * yielder_count y) f o c (address_of (n + total (stored_items (alone given) o l y))) (yields y d b cells) → Gave (limit_of (o ∷ os) (Single y ∷ is)) (o ∷ os) c (next_of (o ∷ os) (Single y ∷ is) n) (address_of (at l)) (items_yield (Single y ∷ is) d b cells)
        yielded p =
            let first = stored_items (alone given) o l y in
            let behind = give_items given os l is in
            let m = n + total first in
            let sizes : total (first ++ behind) ≡ total first + total behind = total-append first behind in
            let near_o = places.inside o Here in
            let a : HasWritten base code f (24 * yielder_count y) (o ∷ []) c (address_of m) = record {
              count = p.count;
              few = p.few;
              end = p.end;
              runs = p.runs;
              at = p.at;
              others = p.others;
              size = ap length p.words ∙ length-set c.words (f + o) p.word;
              kept = λ j no. ap (λ ws. get_or ws j 0) p.words ∙ get_or-set_other c.words (f + o) j p.word 0 (λ same. no o Here same);
              input = p.input;
              output = p.output;
            } in
            let word : word_at p.end.words f o ≡ p.word = ap (λ ws. get_or ws (f + o) 0) p.words ∙ get_or-set_same c.words (f + o) p.word 0 near_o.1 in
            let held : Holds base heap p.end.words f (o ∷ []) (p.datum ∷ []) = (subst (λ w. StandsFor base heap w p.datum) (sym word) p.stands, tt) in
            let one : (x : ℕ) → OneOf x (o ∷ []) → x ≡ o = λ x k. elim (member_cases k) [ inl e ↦ e | inr none ↦ elim none [ ] ] in
            let finds1 = finds-elsewhere (24 * yielder_count y) (o ∷ []) given c (address_of m) d b cells a (λ x k j. places.apart x k (subst (λ z. OneOf z (o ∷ os)) (sym (one x j)) Here)) (λ x number place k q. places.below x number place (subst (λ z. OneOf z (o ∷ os)) (sym (one x k)) Here) q) finds in
            let places1 : HasPlaces os is p.end = record {
              inside = λ x k. ((places.inside x (Later k)).0, omega (arith, (places.inside x (Later k)).1, a.size));
              apart = λ x k j. places.apart x k (Later j);
              once = once-rest o os places.once;
              below = λ x number place k q. places.below x number place (Later k) q;
              enough = λ e q. omega (arith, places.enough (p.datum ∷ e) (ap (λ v. both_data (option_map (λ x. x ∷ []) v) (items_yield is d b cells)) p.is ∙ ap (both_data (Some (p.datum ∷ []))) q));
            } in
            let g = rest p.end places1 (record { near = omega (arith, at_code.near, sizes); before = p.at; stands = stands-back code at n first behind at_code.stands }) finds1 in
            let there : next_of os is m ≡ next_of (o ∷ os) (Single y ∷ is) n = omega (arith, sizes) in
            subst (λ v. Gave (limit_of (o ∷ os) (Single y ∷ is)) (o ∷ os) c (next_of (o ∷ os) (Single y ∷ is) n) (address_of (at l)) (both_data (option_map (λ x. x ∷ []) v) (items_yield is d b cells))) (sym p.is)
            (gave-then (24 * yielder_count y) (limit_of os is) (limit_of (o ∷ os) (Single y ∷ is)) (o ∷ []) os (o ∷ os) c (address_of m) (next_of (o ∷ os) (Single y ∷ is) n) (address_of (at l)) (p.datum ∷ []) (items_yield is d b cells) refl
            (λ x k j. once-first o os places.once (subst (λ z. OneOf z os) (one x k) j)) (omega arith) a (λ e2 q. held)
            (subst (λ q. Gave (limit_of os is) os p.end q (address_of (at l)) (items_yield is d b cells)) there g))

    -- a yielder whose datum has no place: one of the items behind it yields nothing
    single-dropped : (y : Yielder) (is : List Item) (n : ℕ) (c : WordState) → is_built y ≡ true → HasWords y → registers_needed y ≤ 16 → IsSuited y d b cells → HasPlaces [] (Single y ∷ is) c → StandsAt [] (Single y ∷ is) n c → Finds base heap (alone given) f c d b cells
        → Rest [] is (n + total (value_items (alone given) 10 10 l y)) → Gave (limit_of [] (Single y ∷ is)) [] c (next_of [] (Single y ∷ is) n) (address_of (at l)) (items_yield (Single y ∷ is) d b cells)
    single-dropped y is n c built words few suited places at_code finds rest =
        let first = value_items (alone given) 10 10 l y in
        let behind = give_items given [] l is in
        let m = n + total first in
        let sizes : total (first ++ behind) ≡ total first + total behind = total-append first behind in
        let value = value-comes base code at l l_near heap (alone given) (alone-near near_given) f d b cells y built words (no-slots y built b) suited 10 10 (omega arith) (omega (arith, few)) (inl refl) n c (omega (arith, at_code.near, sizes)) at_code.before (stands-front code at n first behind at_code.stands) finds in
        ⊎_elim
        (λ (p : Known base code heap (12 * yielder_count y) 10 10 c (address_of m) (yields y d b cells)). yielded p)
        (λ (p : (yields y d b cells ≡ None) × Arrives base code (12 * yielder_count y) 10 10 c (address_of (at l))).
        subst (λ v. Gave (limit_of [] (Single y ∷ is)) [] c (next_of [] (Single y ∷ is) n) (address_of (at l)) (both_data (option_map (λ x. x ∷ []) v) (items_yield is d b cells))) (sym p.0)
        (gave-nothing (12 * yielder_count y) (limit_of [] (Single y ∷ is)) [] c (address_of (at l)) (omega arith) p.1))
        (valued-cases base code heap (12 * yielder_count y) 10 10 c (address_of m) (address_of (at l)) (yields y d b cells) value)
      where
        yielded : Known base code heap (12 * yielder_count y) 10 10 c (address_of (n + total (value_items (alone given) 10 10 l y))) (yields y d b cells) → Gave (limit_of [] (Single y ∷ is)) [] c (next_of [] (Single y ∷ is) n) (address_of (at l)) (items_yield (Single y ∷ is) d b cells)
        yielded p =
            let first = value_items (alone given) 10 10 l y in
            let behind = give_items given [] l is in
            let m = n + total first in
            let sizes : total (first ++ behind) ≡ total first + total behind = total-append first behind in
            let a = gave-nothing (12 * yielder_count y) (12 * yielder_count y) [] c (address_of m) (omega arith) p.arrives in
            let over : (e : Data) → items_yield is d b cells ≡ Some e → ⊥ = λ e q. absurd (let n = places.enough (p.datum ∷ e) (ap (λ v. both_data (option_map (λ x. x ∷ []) v) (items_yield is d b cells)) p.is ∙ ap (both_data (Some (p.datum ∷ []))) q) in omega (arith, n)) in
            let finds1 = finds-elsewhere (12 * yielder_count y) [] given c (address_of m) d b cells a (λ x k none. elim none [ ]) (λ x number place none q. elim none [ ]) finds in
            let places1 : HasPlaces [] is a.end = record { inside = λ x none. elim none [ ]; apart = λ x k none. elim none [ ]; once = places.once; below = λ x number place none q. elim none [ ]; enough = λ e q. absurd (over e q) } in
            let g = rest a.end places1 (record { near = omega (arith, at_code.near, sizes); before = a.at; stands = stands-back code at n first behind at_code.stands }) finds1 in
            let there : next_of [] is m ≡ next_of [] (Single y ∷ is) n = omega (arith, sizes) in
            subst (λ v. Gave (limit_of [] (Single y ∷ is)) [] c (next_of [] (Single y ∷ is) n) (address_of (at l)) (both_data (option_map (λ x. x ∷ []) v) (items_yield is d b cells))) (sym p.is)
            (gave-then (12 * yielder_count y) (limit_of [] is) (limit_of [] (Single y ∷ is)) [] [] [] c (address_of m) (next_of [] (Single y ∷ is) n) (address_of (at l)) (p.datum ∷ []) (items_yield is d b cells) refl
            (λ x none k. elim none [ ]) (omega arith) a (λ e q. absurd (over e q))
            (subst (λ q. Gave (limit_of [] is) [] a.end q (address_of (at l)) (items_yield is d b cells)) there g))

    -- all that is given is moved to the first places
    them-moved : (out : List ℕ) (is : List Item) (n : ℕ) (c : WordState) → HasPlaces out (Them ∷ is) c → StandsAt out (Them ∷ is) n c → Finds base heap (alone given) f c d b cells
        → Rest (drop (length given) out) is (n + length (moves_items given (take (length given) out))) → Gave (limit_of out (Them ∷ is)) out c (next_of out (Them ∷ is) n) (address_of (at l)) (items_yield (Them ∷ is) d b cells)
    them-moved out is n c places at_code finds rest =
        let t = take (length given) out in
        let r = drop (length given) out in
        let moves = moves_items given t in
        let first = map Plain moves in
        let behind = give_items given r l is in
        let m = n + length moves in
        let sizes : total (first ++ behind) ≡ length moves + total behind = omega (arith, total-append first behind, total-plain moves) in
        let has : Has code c.pc moves = subst (λ q. Has code q moves) (sym at_code.before) (subst (Has code (address_of n)) (code_from-plain at n moves) (stands-front code at n first behind at_code.stands)) in
        let moved = moves-run base code f heap given t d c (λ x k. (All-member (λ o. o < 33554432) x given k near_given, All-member (λ o. f + o < length c.words) x given k finds.inside)) (λ o k. places.inside o (take-member (length given) out o k)) (λ x k j. places.apart x k (take-member (length given) out x j)) (take-once (length given) out places.once) finds.frame finds.holds has in
        let w = moved.written in
        let to_m : c.pc + 4 * length moves ≡ address_of m = omega (arith, at_code.before) in
        let a = written-at base code f (20 * length t) t c (c.pc + 4 * length moves) (address_of m) to_m w in
        let finds1 = finds-elsewhere (20 * length t) t given c (address_of m) d b cells a (λ x k j. places.apart x k (take-member (length given) out x j)) (λ x number place k q. places.below x number place (take-member (length given) out x k) q) finds in
        let whole : length d ≡ length given = holds-length base heap c.words f given d finds.holds in
        let sum : (e : Data) → items_yield is d b cells ≡ Some e → length d + length e ≡ length out = λ e q. omega (arith, length-append d e, places.enough (d ++ e) (ap (both_data (Some d)) q)) in
        let places1 : HasPlaces r is a.end = record {
          inside = λ x k. let p = places.inside x (drop-member (length given) out x k) in (p.0, omega (arith, p.1, w.size));
          apart = λ x k j. places.apart x k (drop-member (length given) out x j);
          once = drop-once (length given) out places.once;
          below = λ x number place k q. places.below x number place (drop-member (length given) out x k) q;
          enough = λ e q. omega (arith, sum e q, whole, length-drop (length given) out);
        } in
        let g = rest a.end places1 (record { near = omega (arith, at_code.near, sizes); before = a.at; stands = subst (λ k. Stands code at k behind) (let k : n + total first ≡ m = omega (arith, total-plain moves) in k) (stands-back code at n first behind at_code.stands) }) finds1 in
        let there : next_of r is m ≡ next_of out (Them ∷ is) n = omega (arith, sizes) in
        gave-then (20 * length t) (limit_of r is) (limit_of out (Them ∷ is)) t r out c (address_of m) (next_of out (Them ∷ is) n) (address_of (at l)) d (items_yield is d b cells) (sym (take-append-drop (length given) out)) (parted (length given) out places.once)
        (omega (arith, length-take (length given) out, length-drop (length given) out)) a (λ e q. moved.holds (omega (arith, sum e q, whole, length-take (length given) out)))
        (subst (λ q. Gave (limit_of r is) r a.end q (address_of (at l)) (items_yield is d b cells)) there g)

    -- wherever the code of items stands, it leaves their data
    pub gives-run : (is : List Item) (out : List ℕ) (n : ℕ) (c : WordState) → AreBuilt is → AreSuited is d b cells → HasPlaces out is c → StandsAt out is n c → Finds base heap (alone given) f c d b cells → Gave (limit_of out is) out c (next_of out is n) (address_of (at l)) (items_yield is d b cells)
    gives-run [] [] n c built suited places at_code finds = (written-none base code f 0 [] c (address_of (n + 0)) (omega (arith, at_code.before)), tt)
    gives-run [] (o ∷ out) n c built suited places at_code finds = absurd (let e = places.enough [] refl in omega (arith, e))
    gives-run (Single y ∷ is) [] n c built suited places at_code finds =
        single-dropped y is n c built.0 built.1 built.2 suited.0 places at_code finds (λ e places1 at1 finds1. gives-run is [] (n + total (value_items (alone given) 10 10 l y)) e built.3 suited.1 places1 at1 finds1)
    gives-run (Single y ∷ is) (o ∷ out) n c built suited places at_code finds =
        single-stored y o out is n c built.0 built.1 built.2 suited.0 places at_code finds (λ e places1 at1 finds1. gives-run is out (n + total (stored_items (alone given) o l y)) e built.3 suited.1 places1 at1 finds1)
    gives-run (Them ∷ is) out n c built suited places at_code finds =
        them-moved out is n c places at_code finds (λ e places1 at1 finds1. gives-run is (drop (length given) out) (n + length (moves_items given (take (length given) out))) e built suited places1 at1 finds1)
