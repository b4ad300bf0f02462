-- Fronts of pieces: what an assembler holds where memory runs out within a piece.
use Rattle.std.proofs.Common.{◌≡◌, ℕ, ◌+◌, ◌-◌, ◌<◌, List, [], ◌∷◌, ◌++◌, length, take, sym, ap, ◌∙◌, subst, arith, inl, inr}
use Rattle.std.proofs.lemmas.Bool.{cases_lt}
use Rattle.std.proofs.lemmas.List.{take-append-le, take_all}
use Rattle.std.proofs.Math.Seq.{take-append_seam, take-append-add}
use Rattle.rv_code.specs.declared.instruction.Inst.{Inst}
use Rattle.rv_code.specs.declared.instruction.Inst.TheVariants.{OpImm, Shift}
use Rattle.rv_code.specs.declared.instruction.OpImmOp.TheVariants.{Addi}
use Rattle.rv_code.specs.declared.instruction.ShiftOp.TheVariants.{Slli}
use Rattle.rv_asm.specs.Assembly.{Listing}
use Rattle.rv_asm.specs.Pieces.{appended, AppendsFrontOf, low_part, high_part, load_parts, copy_words}
use Rattle.rv_asm.proofs.Appended.{appended-none, appended-appended, load_parts-some, copy_words-split}

-- nothing was appended
pub front-none : (piece : List Inst) (old new : Listing) → new ≡ old → AppendsFrontOf piece old new
front-none piece old new same = (0, same ∙ sym (appended-none old))

-- a front of the first part is a front of the whole
pub front-first :
    (first second : List Inst) (old new : Listing) → AppendsFrontOf first old new → AppendsFrontOf (first ++ second) old new
front-first first second old new front =
    elim (cases_lt (length first) front.0) [
      | inr within ↦ (front.0, front.1 ∙ ap (appended old) (sym (take-append-le front.0 first second within)))
      | inl beyond ↦
          (length first, front.1 ∙ ap (appended old) (take_all front.0 first (omega arith) ∙ sym (take-append_seam first second)))
    ]

-- behind the first part, a front of the second is a front of the whole
pub front-second :
    (first second : List Inst) (old middle new : Listing) →
    middle ≡ appended old first → AppendsFrontOf second middle new → AppendsFrontOf (first ++ second) old new
front-second first second old middle new behind front = (
  length first + front.0,
  front.1 ∙ ap (λ l. appended l (take front.0 second)) behind ∙ appended-appended old first (take front.0 second)
      ∙ ap (appended old) (sym (take-append-add first second front.0)),
)

-- the same where the first part is one instruction
pub front-one :
    (first : Inst) (second : List Inst) (old middle new : Listing) →
    middle ≡ appended old (first ∷ []) → AppendsFrontOf second middle new → AppendsFrontOf (first ∷ second) old new
front-one first second = front-second (first ∷ []) second

-- a front of a value's parts and of what the last part takes
pub front-load_parts :
    (k rd value : ℕ) (old new : Listing) → 0 < k →
    AppendsFrontOf (load_parts (k - 1) rd (high_part value) ++ (Shift Slli rd rd 12 ∷ OpImm Addi rd rd (low_part value) ∷ [])) old new →
    AppendsFrontOf (load_parts k rd value) old new
front-load_parts k rd value old new some =
    subst (λ piece. AppendsFrontOf piece old new) (sym (load_parts-some k rd value some))

-- behind the first words of a copy, a front of the others is a front of the whole
pub front-copied :
    (i rest n scratch source from target to : ℕ) (old middle new : Listing) → i + rest ≡ n →
    middle ≡ appended old (copy_words i scratch source from target to) →
    AppendsFrontOf (copy_words rest scratch source (from + i) target (to + i)) middle new →
    AppendsFrontOf (copy_words n scratch source from target to) old new
front-copied i rest n scratch source from target to old middle new all behind front =
    let whole = front-second (copy_words i scratch source from target to) (copy_words rest scratch source (from + i) target (to + i)) old middle new behind front in
    subst (λ k. AppendsFrontOf (copy_words k scratch source from target to) old new) all
    (subst (λ piece. AppendsFrontOf piece old new) (sym (copy_words-split i rest scratch source from target to)) whole)
