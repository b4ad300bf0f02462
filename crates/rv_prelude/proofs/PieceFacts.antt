-- What pieces do, where they were appended, and how much code they are.
use Rattle.std.proofs.Common.{◌≡◌, ℕ, ◌<◌, ◌≤◌, ◌∷◌, ◌++◌, map, refl, sym, subst, arith, length-append, OnOk, Result}
use Rattle.std.proofs.lemmas.Result.{on_ok_weaker}
use Rattle.rv_asm.specs.Assembly.{Listing, total}
use Rattle.rv_asm.specs.Pieces.{appended}
use Rattle.rv_asm.specs.declared.item.Item.TheVariants.{Plain, Address}
use Rattle.rv_asm.proofs.Labels.{total-append}
use Rattle.rv_asm.proofs.Sending.{total-plain}
use Rattle.rv_prelude.specs.Items.{extended}
use Rattle.rv_prelude.specs.PieceRuns.{Commits, OpensAlternative, OpensTrap, ClosesAlternative, LeavesAlternative, ClosesTrap, TakesUnits, PassesUnits}
use Rattle.rv_prelude.specs.Pieces.{commit, record_address, keep_record, head_alternative, head_trap, open_alternative_items, open_trap_items, unlink_alternative, unlink_trap, close_alternative, close_trap, take_items}
use Rattle.rv_prelude.proofs.Closing.{commits, closes-alternative, leaves-alternative, closes-trap, takes-units, passes-units}
use Rattle.rv_prelude.proofs.Fresh.{PlaceNone, plain-none, both-none}
use Rattle.rv_prelude.proofs.Opening.{opens-alternative, opens-trap}
use Rattle.rv_prelude.proofs.Records.{length-record_address}

module _ {E : Type 0} (r : Result (Unit {0}) E) (old new : Listing) where
  pub commits-ok : OnOk r (new ≡ appended old commit) → OnOk r (Commits old new)
  commits-ok = on_ok_weaker r (λ e. subst (Commits old) (sym e) (commits old))

  module _ (keep : ℕ) (small : keep < 33554432) where
    pub opens-alternative_ok : (arm : ℕ) → OnOk r (new ≡ extended old (open_alternative_items keep arm)) → OnOk r (OpensAlternative keep arm old new)
    opens-alternative_ok arm = on_ok_weaker r (λ e. subst (OpensAlternative keep arm old) (sym e) (opens-alternative keep arm small old))

    pub opens-trap_ok : (handler : ℕ) → OnOk r (new ≡ extended old (open_trap_items keep handler)) → OnOk r (OpensTrap keep handler old new)
    opens-trap_ok handler = on_ok_weaker r (λ e. subst (OpensTrap keep handler old) (sym e) (opens-trap keep handler small old))

    pub closes-alternative_ok : OnOk r (new ≡ appended old (close_alternative keep)) → OnOk r (ClosesAlternative keep old new)
    closes-alternative_ok = on_ok_weaker r (λ e. subst (ClosesAlternative keep old) (sym e) (closes-alternative keep small old))

    pub leaves-alternative_ok : OnOk r (new ≡ appended old (close_alternative keep)) → OnOk r (LeavesAlternative keep old new)
    leaves-alternative_ok = on_ok_weaker r (λ e. subst (LeavesAlternative keep old) (sym e) (leaves-alternative keep small old))

    pub closes-trap_ok : OnOk r (new ≡ appended old (close_trap keep)) → OnOk r (ClosesTrap keep old new)
    closes-trap_ok = on_ok_weaker r (λ e. subst (ClosesTrap keep old) (sym e) (closes-trap keep small old))

  module _ (n full : ℕ) (few : n < 128) where
    pub takes-units_ok : OnOk r (new ≡ extended old (take_items n full)) → OnOk r (TakesUnits n old new)
    takes-units_ok = on_ok_weaker r (λ e. subst (TakesUnits n old) (sym e) (takes-units n full few old))

    pub passes-units_ok : OnOk r (new ≡ extended old (take_items n full)) → OnOk r (PassesUnits n full old new)
    passes-units_ok = on_ok_weaker r (λ e. subst (PassesUnits n full old) (sym e) (passes-units n full few old))

-- ---- no piece places a label

pub open_alternative-none : (keep arm : ℕ) → PlaceNone (open_alternative_items keep arm)
open_alternative-none keep arm = both-none (map Plain (record_address keep)) (Address 6 arm ∷ map Plain (keep_record ++ head_alternative)) (plain-none (record_address keep)) (λ l. refl)

pub open_trap-none : (keep handler : ℕ) → PlaceNone (open_trap_items keep handler)
open_trap-none keep handler = both-none (map Plain (record_address keep)) (Address 6 handler ∷ map Plain (keep_record ++ head_trap)) (plain-none (record_address keep)) (λ l. refl)

pub take-none : (n full : ℕ) → PlaceNone (take_items n full)
take-none n full l = refl

-- ---- how many instructions they are

pub open_alternative-short : (keep arm : ℕ) → total (open_alternative_items keep arm) ≤ 20
open_alternative-short keep arm = omega (arith, length-record_address keep, total-plain (record_address keep), total-append (map Plain (record_address keep)) (Address 6 arm ∷ map Plain (keep_record ++ head_alternative)))

pub open_trap-short : (keep handler : ℕ) → total (open_trap_items keep handler) ≤ 21
open_trap-short keep handler = omega (arith, length-record_address keep, total-plain (record_address keep), total-append (map Plain (record_address keep)) (Address 6 handler ∷ map Plain (keep_record ++ head_trap)))

pub close_alternative-short : (keep : ℕ) → total (map Plain (close_alternative keep)) ≤ 13
close_alternative-short keep = omega (arith, length-record_address keep, total-plain (close_alternative keep), length-append (record_address keep) unlink_alternative)

pub close_trap-short : (keep : ℕ) → total (map Plain (close_trap keep)) ≤ 15
close_trap-short keep = omega (arith, length-record_address keep, total-plain (close_trap keep), length-append (record_address keep) unlink_trap)

pub take-short : (n full : ℕ) → total (take_items n full) ≤ 11
take-short n full = omega arith
