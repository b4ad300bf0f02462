-- Fronts of pieces: what an assembler holds where memory runs out within a piece.
use Rattle.std.proofs.Common.{◌≡◌, ℕ, zero, suc, List, [], ◌∷◌, ◌++◌, map, take, drop, sym, ap, ◌∙◌, subst, append_assoc, append-nil, refl}
use Rattle.rv_code.specs.declared.instruction.Inst.{Inst}
use Rattle.rv_asm.specs.Assembly.{Listing}
use Rattle.rv_asm.specs.Pieces.{appended}
use Rattle.rv_asm.specs.Pieces.{AppendsFrontOf as AppendsInstructions}
use Rattle.rv_asm.specs.declared.item.Item.{Item}
use Rattle.rv_asm.specs.declared.item.Item.TheVariants.{Plain}
use Rattle.rv_yield.specs.Fronts.{extended, IsAppended, AppendsFrontOf}

pub extended-none : (s : Listing) → extended s [] ≡ s
extended-none s = ap (λ i. record s { items = i }) (append-nil s.items)

pub extended-twice : (s : Listing) (a b : List Item) → extended (extended s a) b ≡ extended s (a ++ b)
extended-twice s a b = ap (λ i. record s { items = i }) (append_assoc s.items a b)

-- ---- what was appended so far

-- nothing yet
pub appended-none : (piece : List Item) (s : Listing) → IsAppended piece piece s s
appended-none piece s = record { front = []; whole = refl; is = sym (extended-none s) }

-- the first part
pub appended-first : (a rest : List Item) (old new : Listing) → new ≡ extended old a → IsAppended (a ++ rest) rest old new
appended-first a rest old new e = record { front = a; whole = refl; is = e }

-- and then more of what is left
pub appended-then : (piece rest rest' : List Item) (old mid new : Listing) → IsAppended piece rest old mid → IsAppended rest rest' mid new → IsAppended piece rest' old new
appended-then piece rest rest' old mid new a b = record {
  front = a.front ++ b.front;
  whole = append_assoc a.front b.front rest' ∙ ap (λ i. a.front ++ i) b.whole ∙ a.whole;
  is = b.is ∙ ap (λ s. extended s b.front) a.is ∙ extended-twice old a.front b.front;
}

-- all of it
pub appended-whole : (piece : List Item) (old new : Listing) → IsAppended piece [] old new → new ≡ extended old piece
appended-whole piece old new a = a.is ∙ ap (extended old) (sym (append-nil a.front) ∙ a.whole)

-- ---- fronts

-- nothing was appended
pub front-none : (piece : List Item) (old new : Listing) → new ≡ old → AppendsFrontOf piece old new
front-none piece old new e = (piece, record { front = []; whole = refl; is = e ∙ sym (extended-none old) })

-- a front of the first part is a front of the whole
pub front-first : (a b : List Item) (old new : Listing) → AppendsFrontOf a old new → AppendsFrontOf (a ++ b) old new
front-first a b old new f =
    (f.0 ++ b, record { front = f.1.front; whole = sym (append_assoc f.1.front f.0 b) ∙ ap (λ i. i ++ b) f.1.whole; is = f.1.is })

-- behind the first part, a front of the second is a front of the whole
pub front-second : (a b : List Item) (old mid new : Listing) → mid ≡ extended old a → AppendsFrontOf b mid new → AppendsFrontOf (a ++ b) old new
front-second a b old mid new e f = (f.0, appended-then (a ++ b) b f.0 old mid new (appended-first a b old mid e) f.1)

-- behind what was appended so far, a front of what is left is one of the whole
pub front-behind : (piece rest : List Item) (old mid new : Listing) → IsAppended piece rest old mid → AppendsFrontOf rest mid new → AppendsFrontOf piece old new
front-behind piece rest old mid new a f = (f.0, appended-then piece rest f.0 old mid new a f.1)

-- a front of some instructions
pub front-plain : (is : List Inst) (old new : Listing) → AppendsInstructions is old new → AppendsFrontOf (map Plain is) old new
front-plain is old new f = (map Plain (drop f.0 is), record { front = map Plain (take f.0 is); whole = taken f.0 is; is = f.1 })
  where
    taken : (n : ℕ) (is : List Inst) → map Plain (take n is) ++ map Plain (drop n is) ≡ map Plain is
    taken zero is = refl
    taken (suc n) [] = refl
    taken (suc n) (i ∷ is) = ap (λ k. Plain i ∷ k) (taken n is)

-- a front of instructions, by what they are, is one of a piece that begins with them
pub front-same : (is js : List Inst) (rest : List Item) (old new : Listing) → is ≡ js → AppendsFrontOf (map Plain is) old new → AppendsFrontOf (map Plain js ++ rest) old new
front-same is js rest old new e f = front-first (map Plain js) rest old new (subst (λ k. AppendsFrontOf (map Plain k) old new) e f)

-- ---- a constant, and instructions behind it

pub map-plain : (a b : List Inst) → map Plain (a ++ b) ≡ map Plain a ++ map Plain b
map-plain [] b = refl
map-plain (i ∷ a) b = ap (λ k. Plain i ∷ k) (map-plain a b)

-- a front of the first instructions is a front of all
pub front-instructions : (a b piece : List Inst) (old new : Listing) → piece ≡ a ++ b → AppendsInstructions a old new → AppendsFrontOf (map Plain piece) old new
front-instructions a b piece old new e f =
    subst (λ i. AppendsFrontOf i old new) (sym (ap (map Plain) e ∙ map-plain a b)) (front-first (map Plain a) (map Plain b) old new (front-plain a old new f))

-- behind the first instructions, a front of the others
pub front-others : (a b piece : List Inst) (old mid new : Listing) → piece ≡ a ++ b → mid ≡ appended old a → AppendsFrontOf (map Plain b) mid new → AppendsFrontOf (map Plain piece) old new
front-others a b piece old mid new e f g =
    subst (λ i. AppendsFrontOf i old new) (sym (ap (map Plain) e ∙ map-plain a b)) (front-second (map Plain a) (map Plain b) old mid new f g)

-- ---- a piece of three parts

module _ (a b c piece : List Item) (is : piece ≡ a ++ (b ++ c)) where
  pub front-of_first : (old new : Listing) → AppendsFrontOf a old new → AppendsFrontOf piece old new
  front-of_first old new f = subst (λ i. AppendsFrontOf i old new) (sym is) (front-first a (b ++ c) old new f)

  pub front-of_second : (old mid new : Listing) → mid ≡ extended old a → AppendsFrontOf b mid new → AppendsFrontOf piece old new
  front-of_second old mid new e f = subst (λ i. AppendsFrontOf i old new) (sym is) (front-second a (b ++ c) old mid new e (front-first b c mid new f))

  -- the first two, and not the third
  pub front-of_both : (old mid last new : Listing) → mid ≡ extended old a → last ≡ extended mid b → new ≡ last → AppendsFrontOf piece old new
  front-of_both old mid last new e f g =
      subst (λ i. AppendsFrontOf i old new) (sym is) (front-second a (b ++ c) old mid new e (front-second b c mid last new f (front-none c last new g)))
