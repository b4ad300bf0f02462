-- How the checks of a program header follow from those of all up to it, and the other way round.
use Rattle.std.proofs.Common.{◌≡◌, ℕ, zero, suc, ◌+◌, ◌-◌, ◌^◌, ◌≤◌, nat_eq, List, [], ◌∷◌, ◌++◌, length, take, drop, All, AllPairs, Result, Ok, Err, IfOk, IfErr, refl, inl, inr, sym, ◌∙◌, subst, arith, length-append}
use Rattle.std.proofs.lemmas.Bool.{cases_eq, cases_lt, cond_both, eqb-false, eqb-true}
use Rattle.std.proofs.lemmas.List.{length-take, length-drop}
use Rattle.std.proofs.lemmas.List.Elements.{All-nil, All-cons, All-head, All-tail, All-push}
use Rattle.std.proofs.lemmas.List.Kept.{AllPairs-cons}
use Rattle.std.proofs.lemmas.List.Quantifiers.{all_pairs_push}
use Rattle.std.proofs.lemmas.List.Sums.{sum_by-append}
use Rattle.rv_code.specs.Images.{Image, ImageSegment, IsImage, AreApart}
use Rattle.elf_image.specs.Fields.{entry_of, header_count, type_at, offset_at, file_size_at, segment_at}
use Rattle.elf_image.specs.Reading.{IsWithin, segments_of, image_by, Joins, Loads, IsFileOf, IsRefused}
use Rattle.elf_image.specs.declared.error.ImageError.{ImageError}
use Rattle.elf_image.specs.declared.error.ImageError.TheVariants.{Memory, Short, Magic, Class, Machine, Kind, Header, Segment}

-- ---- lists with one element more

All-last : {X : Type 0} (P : X → Type 0) (xs : List X) (x : X) → All P (xs ++ x ∷ []) → P x
All-last P [] x h = h 0 x (omega arith)
All-last P (y ∷ ys) x h = All-last P ys x (All-tail P y (ys ++ x ∷ []) h)

AllPairs-last : {X : Type 0} (R : X → X → Type 0) (xs : List X) (x : X) → AllPairs R (xs ++ x ∷ []) → All (λ y. R y x) xs
AllPairs-last R [] x h = All-nil (λ y. R y x)
AllPairs-last R (y ∷ ys) x h =
    All-cons (λ z. R z x) y ys
    (All-last (λ z. R y z) ys x (λ j d within. h zero (suc j) d (omega arith) (omega arith)))
    (AllPairs-last R ys x (λ i j d before within. h (suc i) (suc j) d (omega arith) (omega arith)))

-- ---- the segments of one header more

-- a header has at most one segment
pub segments-few : (file : List ℕ) (n : ℕ) → length (segments_of file n) ≤ n
unfolding segments_of
segments-few file zero = omega arith
segments-few file (suc n) =
    let before = segments-few file n in
    cond_both (nat_eq (type_at file n) 1) (segments_of file n ++ segment_at file n ∷ []) (segments_of file n) (λ xs. length xs ≤ suc n)
    (λ _. omega (arith, before, length-append (segments_of file n) (segment_at file n ∷ [])))
    (λ _. omega (arith, before))

-- a header with a segment
pub segments-load : (file : List ℕ) (n : ℕ) → type_at file n ≡ 1 → segments_of file (suc n) ≡ segments_of file n ++ segment_at file n ∷ []
unfolding segments_of
segments-load file n h =
    cond_both (nat_eq (type_at file n) 1) (segments_of file n ++ segment_at file n ∷ []) (segments_of file n) (λ xs. xs ≡ segments_of file n ++ segment_at file n ∷ [])
    (λ _. refl)
    (λ no. absurd (eqb-false (type_at file n) 1 no h))

-- a header for something else
pub segments-other : (file : List ℕ) (n : ℕ) → (type_at file n ≡ 1 → ⊥) → segments_of file (suc n) ≡ segments_of file n
unfolding segments_of
segments-other file n h =
    cond_both (nat_eq (type_at file n) 1) (segments_of file n ++ segment_at file n ∷ []) (segments_of file n) (λ xs. xs ≡ segments_of file n)
    (λ yes. absurd (h (eqb-true (type_at file n) 1 yes)))
    (λ _. refl)

-- ---- their checks

-- without headers no check fails
pub loads-none : (file : List ℕ) → Loads file 0
unfolding segments_of
loads-none file = record {
  within = λ k lt is. absurd (omega arith);
  valid = record {
    few = omega arith;
    flags = All-nil (λ s. s.flags ≤ 7);
    sizes = All-nil (λ s. length s.bytes ≤ s.size);
    low = All-nil (λ s. s.address + s.size ≤ 2 ^ 32);
    apart = λ i j d before within. absurd (omega arith);
    total = omega arith;
  };
}

pub loads-other : (file : List ℕ) (n : ℕ) → (type_at file n ≡ 1 → ⊥) → Loads file n → Loads file (suc n)
loads-other file n other h = record {
  within = λ k lt is. elim (cases_lt k n) [
    | inl below ↦ h.within k below is
    | inr above ↦ absurd (other (subst (λ j. type_at file j ≡ 1) (let e : k ≡ n = omega arith in e) is))
  ];
  valid = subst (λ xs. IsImage (record { entry = entry_of file; segments = xs })) (sym (segments-other file n other)) h.valid;
}

-- what a header with a segment has to join
abbrev pub JoinsAt : (file : List ℕ) (n : ℕ) → Type 0
JoinsAt file n = Joins (segments_of file n) (file_size_at file n) (segment_at file n).address (segment_at file n).size

joined : (file : List ℕ) (n : ℕ) → suc n ≤ 16 → JoinsAt file n → IsImage (image_by file n) → IsImage (record { entry = entry_of file; segments = segments_of file n ++ segment_at file n ∷ [] })
joined file n few j h =
    let before = segments_of file n in
    let s = segment_at file n in
    record {
      few = omega (arith, segments-few file n, length-append before (s ∷ []));
      flags = All-push (λ t. t.flags ≤ 7) before s h.flags (omega arith);
      sizes = All-push (λ t. length t.bytes ≤ t.size) before s h.sizes (omega (arith, j.sized, length-take (file_size_at file n) (drop (offset_at file n) file)));
      low = All-push (λ t. t.address + t.size ≤ 2 ^ 32) before s h.low j.low;
      apart = all_pairs_push AreApart before s h.apart (λ k d within. j.apart k d within);
      total = omega (arith, j.total, sum_by-append (λ t. t.size) before (s ∷ []));
    }

pub loads-more : (file : List ℕ) (n : ℕ) → suc n ≤ 16 → type_at file n ≡ 1 → IsWithin file (offset_at file n) (file_size_at file n) → JoinsAt file n → Loads file n → Loads file (suc n)
loads-more file n few load within j h = record {
  within = λ k lt is. elim (cases_lt k n) [
    | inl below ↦ h.within k below is
    | inr above ↦ subst (λ i. IsWithin file (offset_at file i) (file_size_at file i)) (let e : n ≡ k = omega arith in e) within
  ];
  valid = subst (λ xs. IsImage (record { entry = entry_of file; segments = xs })) (sym (segments-load file n load)) (joined file n few j h.valid);
}

-- the bytes of a range that doesn't pass the end
taken-whole : (file : List ℕ) (offset size : ℕ) → IsWithin file offset size → length (take size (drop offset file)) ≡ size
taken-whole file offset size (inl none) = omega (arith, length-take size (drop offset file))
taken-whole file offset size (inr most) = omega (arith, length-take size (drop offset file), length-drop offset file)

-- what joins: a header with a segment that passes its checks
pub joins-loaded : (file : List ℕ) (n : ℕ) → type_at file n ≡ 1 → Loads file (suc n) → JoinsAt file n
joins-loaded file n load h =
    let before = segments_of file n in
    let s = segment_at file n in
    let valid : IsImage (record { entry = entry_of file; segments = before ++ s ∷ [] }) =
    subst (λ xs. IsImage (record { entry = entry_of file; segments = xs })) (segments-load file n load) h.valid in
    let whole = taken-whole file (offset_at file n) (file_size_at file n) (h.within n (omega arith) load) in
    let sized : length s.bytes ≤ s.size = All-last (λ t. length t.bytes ≤ t.size) before s valid.sizes in
    record {
      sized = omega (arith, whole, sized);
      low = All-last (λ t. t.address + t.size ≤ 2 ^ 32) before s valid.low;
      total = omega (arith, valid.total, sum_by-append (λ t. t.size) before (s ∷ []));
      apart = AllPairs-last AreApart before s valid.apart;
    }

-- ---- one header less

All-before : {X : Type 0} (P : X → Type 0) (xs : List X) (x : X) → All P (xs ++ x ∷ []) → All P xs
All-before P [] x h = All-nil P
All-before P (y ∷ ys) x h = All-cons P y ys (All-head P y (ys ++ x ∷ []) h) (All-before P ys x (All-tail P y (ys ++ x ∷ []) h))

AllPairs-before : {X : Type 0} (R : X → X → Type 0) (xs : List X) (x : X) → AllPairs R (xs ++ x ∷ []) → AllPairs R xs
AllPairs-before R [] x h = λ i j d before within. absurd (omega arith)
AllPairs-before R (y ∷ ys) x h =
    AllPairs-cons R y ys
    (All-before (R y) ys x (λ j d within. h zero (suc j) d (omega arith) (omega arith)))
    (AllPairs-before R ys x (λ i j d before within. h (suc i) (suc j) d (omega arith) (omega arith)))

image-before : (entry : ℕ) (ss : List ImageSegment) (s : ImageSegment) → IsImage (record { entry = entry; segments = ss ++ s ∷ [] })
    → IsImage (record { entry = entry; segments = ss })
image-before entry ss s h = record {
  few = omega (arith, h.few, length-append ss (s ∷ []));
  flags = All-before (λ t. t.flags ≤ 7) ss s h.flags;
  sizes = All-before (λ t. length t.bytes ≤ t.size) ss s h.sizes;
  low = All-before (λ t. t.address + t.size ≤ 2 ^ 32) ss s h.low;
  apart = AllPairs-before AreApart ss s h.apart;
  total = omega (arith, h.total, sum_by-append (λ t. t.size) ss (s ∷ []));
}

loads-before : (file : List ℕ) (n : ℕ) → Loads file (suc n) → Loads file n
loads-before file n h = record {
  within = λ k below load. h.within k (omega (arith, below)) load;
  valid = elim (cases_eq (type_at file n) 1) [
    | inl load ↦
        image-before (entry_of file) (segments_of file n) (segment_at file n)
        (subst (λ xs. IsImage (record { entry = entry_of file; segments = xs })) (segments-load file n load) h.valid)
    | inr other ↦ subst (λ xs. IsImage (record { entry = entry_of file; segments = xs })) (segments-other file n other) h.valid
  ];
}

loads-below : (file : List ℕ) (d n : ℕ) → Loads file (d + n) → Loads file n
loads-below file zero n h = subst (Loads file) (omega arith) h
loads-below file (suc d) n h = loads-below file d n (loads-before file (d + n) (subst (Loads file) (omega arith) h))

-- where all checks pass, none is the first that fails
pub refused-not : (file : List ℕ) (x : Image) (e : ImageError) → IsFileOf file x → IsRefused file e → e ≡ Memory
refused-not file x Memory h r = refl
refused-not file x Short h r = absurd (r h.header.long)
refused-not file x Magic h r = absurd (r.1 h.header.magic)
refused-not file x Class h r = absurd (r.1.1 h.header.class)
refused-not file x Machine h r = absurd (r.1.1.1 h.header.machine)
refused-not file x Kind h r = absurd (r.1.1.1.1 h.header.kind)
refused-not file x Header h r = absurd (r.1.1.1.1.1 h.header.table)
refused-not file x (Segment index) h r =
    let most : header_count file ≡ (header_count file - suc index) + suc index = omega (arith, r.1.0) in
    absurd (r.1.1.1 (loads-below file (header_count file - suc index) (suc index) (subst (Loads file) most h.loads)))

-- what passes all checks is read as its image, unless memory runs out
pub read-back : (file : List ℕ) (r : Result Image ImageError) → IfOk r (λ image. IsFileOf file image) → (x : Image) → IsFileOf file x → IfOk r (λ image. image ≡ x)
read-back file (Ok image) h x f = h.gives ∙ sym f.gives
read-back file (Err e) h x f = h

pub read-taken : (file : List ℕ) (r : Result Image ImageError) → IfErr r (λ e. IsRefused file e) → (x : Image) → IsFileOf file x → IfErr r (λ e. e ≡ Memory)
read-taken file (Ok image) h x f = h
read-taken file (Err e) h x f = refused-not file x e f h
