-- The files with a name set: by a write at its place or behind the last file, and what that does to the contents.
use Rattle.std.proofs.Common.{◌≡◌, ◌≢◌, ℕ, zero, suc, true, false, List, [], ◌∷◌, ◌++◌, map, set, Option, Some, None, Vec, refl, sym, ap, cond, arith}
use Rattle.std.specs.Prelude.{option_map}
use Rattle.std.specs.Str.{bytes_eq}
use Rattle.std.specs.declared.alloc.Global.{Global}
use Rattle.std.proofs.lemmas.Slice.Eq.{bytes_eq-Decides}
use Rattle.acg_base.specs.MapStores.{File, content_of, place_in, with_file, plain_file}

abbrev pub Files : Type 0
Files = List (List ℕ × Vec ℕ Global)

same_name : (a b : List ℕ) → bytes_eq a b ≡ true → a ≡ b
same_name a b h = (bytes_eq-Decides a b).0 h

bytes_eq-refl : (a : List ℕ) → bytes_eq a a ≡ true
bytes_eq-refl a = (bytes_eq-Decides a a).1 refl

bytes_eq-other : (a b : List ℕ) → a ≢ b → bytes_eq a b ≡ false
bytes_eq-other a b other =
    elim (bytes_eq a b) as (λ t. bytes_eq a b ≡ t → t ≡ false)
    [ true ↦ λ h. absurd (other (same_name a b h)) | false ↦ λ h. refl ] refl

map-suc : (o : Option ℕ) (i : ℕ) → option_map suc o ≡ Some (suc i) → o ≡ Some i
map-suc None i h = cc
map-suc (Some k) i h = cc

some-is : (a b : ℕ) → Some a ≡ Some b → a ≡ b
some-is a b h = cc

map-suc-zero : (o : Option ℕ) → option_map suc o ≡ Some 0 → ⊥
map-suc-zero None h = cc
map-suc-zero (Some k) h = omega (arith, some-is (suc k) 0 h)

map-suc-none : (o : Option ℕ) → option_map suc o ≡ None → o ≡ None
map-suc-none None h = refl
map-suc-none (Some k) h = cc

-- what a write at the place of the name leaves
pub set-with_file : (files : Files) (i : ℕ) (name : List ℕ) (bytes : Vec ℕ Global) → place_in (map plain_file files) name ≡ Some i → map plain_file (set files i (name, bytes)) ≡ with_file (map plain_file files) name bytes.items
set-with_file [] i name bytes h = cc
set-with_file (f ∷ files) zero name bytes h =
    elim (bytes_eq f.0 name) as (λ t. cond t (Some 0) (option_map suc (place_in (map plain_file files) name)) ≡ Some 0 → (name, bytes.items) ∷ map plain_file files ≡ cond t ((name, bytes.items) ∷ map plain_file files) (plain_file f ∷ with_file (map plain_file files) name bytes.items))
    [ true ↦ λ k. refl | false ↦ λ k. absurd (map-suc-zero _ k) ] h
set-with_file (f ∷ files) (suc i) name bytes h =
    elim (bytes_eq f.0 name) as (λ t. cond t (Some 0) (option_map suc (place_in (map plain_file files) name)) ≡ Some (suc i) → plain_file f ∷ map plain_file (set files i (name, bytes)) ≡ cond t ((name, bytes.items) ∷ map plain_file files) (plain_file f ∷ with_file (map plain_file files) name bytes.items))
    [ true ↦ λ k. cc | false ↦ λ k. ap (λ rest. plain_file f ∷ rest) (set-with_file files i name bytes (map-suc _ _ k)) ] h

-- what a write behind the last file leaves
pub push-with_file : (files : Files) (name : List ℕ) (bytes : Vec ℕ Global) → place_in (map plain_file files) name ≡ None → map plain_file (files ++ (name, bytes) ∷ []) ≡ with_file (map plain_file files) name bytes.items
push-with_file [] name bytes h = refl
push-with_file (f ∷ files) name bytes h =
    elim (bytes_eq f.0 name) as (λ t. cond t (Some 0) (option_map suc (place_in (map plain_file files) name)) ≡ None → plain_file f ∷ map plain_file (files ++ (name, bytes) ∷ []) ≡ cond t ((name, bytes.items) ∷ map plain_file files) (plain_file f ∷ with_file (map plain_file files) name bytes.items))
    [ true ↦ λ k. cc | false ↦ λ k. ap (λ rest. plain_file f ∷ rest) (push-with_file files name bytes (map-suc-none _ k)) ] h

pub content-with_file : (files : List File) (name bytes : List ℕ) → content_of (with_file files name bytes) name ≡ Some bytes
content-with_file [] name bytes = rw bytes_eq-refl refl
content-with_file (f ∷ files) name bytes =
    elim (bytes_eq f.0 name) as (λ t. bytes_eq f.0 name ≡ t → content_of (cond t ((name, bytes) ∷ files) (f ∷ with_file files name bytes)) name ≡ Some bytes)
    [ true ↦ λ e. rw bytes_eq-refl refl | false ↦ λ e. rw e (content-with_file files name bytes) ] refl

pub content-with_file-other : (files : List File) (name bytes other : List ℕ) → other ≢ name → content_of (with_file files name bytes) other ≡ content_of files other
content-with_file-other [] name bytes other apart = rw (bytes_eq-other name other (λ q. apart (sym q))) refl
content-with_file-other (f ∷ files) name bytes other apart =
    elim (bytes_eq f.0 name) as (λ t. bytes_eq f.0 name ≡ t → content_of (cond t ((name, bytes) ∷ files) (f ∷ with_file files name bytes)) other ≡ cond (bytes_eq f.0 other) (Some f.1) (content_of files other)) [
      | true ↦ λ e. rw (same_name f.0 name e, bytes_eq-other name other (λ q. apart (sym q))) refl
      | false ↦ λ e. ap (cond (bytes_eq f.0 other) (Some f.1)) (content-with_file-other files name bytes other apart)
    ] refl

pub ruleset files = (set-with_file, push-with_file)

pub ruleset contents = (content-with_file, content-with_file-other)
