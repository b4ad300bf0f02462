-- The pieces that open records, behind what was appended.
use Rattle.std.proofs.Common.{◌≡◌, ◌≢◌, ℕ, ◌+◌, ◌*◌, ◌^◌, ◌<◌, ◌≤◌, List, ◌∷◌, ◌++◌, length, map, refl, sym, ap, ◌∙◌, subst, arith, append_assoc}
use Rattle.rv_code.specs.declared.instruction.Inst.{Inst}
use Rattle.rv_asm.specs.Assembly.{Listing, total, spot, address_of, code_of}
use Rattle.rv_asm.specs.PieceRuns.{code_with, end_of}
use Rattle.rv_asm.specs.WordMachine.{WordState, Goes, run_words, Has}
use Rattle.rv_asm.specs.declared.item.Item.{Item}
use Rattle.rv_asm.specs.declared.item.Item.TheVariants.{Plain, Address}
use Rattle.rv_asm.proofs.Labels.{total-append, spot_le-total}
use Rattle.rv_asm.proofs.Registers.{put-other}
use Rattle.rv_asm.proofs.Sending.{total-plain}
use Rattle.rv_asm.proofs.Stretches.{then-runs}
use Rattle.rv_prelude.specs.Items.{extended}
use Rattle.rv_prelude.specs.PieceRuns.{HasRegion, HasPlace, IsNext, Comes, quietly, OpensAlternative, OpensTrap}
use Rattle.rv_prelude.specs.Pieces.{record_address, keep_record, head_alternative, head_trap, open_alternative_items, open_trap_items}
use Rattle.rv_prelude.specs.Region.{with_record, with_alternative, with_trap}
use Rattle.rv_prelude.proofs.Arrivals.{arrives}
use Rattle.rv_prelude.proofs.Cursors.{Cursor, regroup, plain-stands, over-plain, address-stands, over-address}
use Rattle.rv_prelude.proofs.Jumps.{addressed, address-runs}
use Rattle.rv_prelude.proofs.Records.{Located, locates, length-record_address, alternative-runs, trap-runs, written-kept}

-- a piece that was appended, and what is emitted behind it
pub appended-cursor : (old : Listing) (piece behind : List Item) → Cursor ((extended old piece).items ++ behind) (total old.items) (piece ++ behind)
appended-cursor old piece behind = record { before = old.items; split = append_assoc old.items piece behind; count = refl }

pub appended-end : (old : Listing) (piece : List Item) → end_of (extended old piece) ≡ address_of (total old.items + total piece)
appended-end old piece = ap address_of (total-append old.items piece)

-- the items of the piece, with the last of its instructions open
abbrev open_items : (keep arm : ℕ) → List Inst → List Item
open_items keep arm head = map Plain (record_address keep) ++ (Address 6 arm ∷ map Plain (keep_record ++ head))

module _ (keep arm : ℕ) (small : keep < 33554432) (old : Listing) (head : List Inst) (behind : List Item) (base f : ℕ) (c : WordState) (next : IsNext old (extended old (open_items keep arm head)) behind c) (h : HasPlace base f keep c) where
  abbrev items : List Item
  items = (extended old (open_items keep arm head)).items ++ behind

  abbrev code : List Inst
  code = code_of items

  abbrev n : ℕ
  n = total old.items

  abbrev size : ℕ
  size = length (record_address keep)

  c0 : Cursor items n (map Plain (record_address keep) ++ ((Address 6 arm ∷ map Plain (keep_record ++ head)) ++ behind))
  c0 = regroup items n (map Plain (record_address keep)) (Address 6 arm ∷ map Plain (keep_record ++ head)) behind (appended-cursor old (open_items keep arm head) behind)

  c1 : Cursor items (n + size) ((Address 6 arm ∷ map Plain (keep_record ++ head)) ++ behind)
  c1 = over-plain items n (record_address keep) ((Address 6 arm ∷ map Plain (keep_record ++ head)) ++ behind) c0

  found : Located base code f keep size c
  found = locates base code f keep c h small (subst (λ p. Has code p (record_address keep)) (sym next.before) (plain-stands items n (record_address keep) ((Address 6 arm ∷ map Plain (keep_record ++ head)) ++ behind) c0))

  abbrev located : WordState
  located = record c { pc = c.pc + 4 * size; registers = found.registers }

  abbrev place : ℕ
  place = spot items arm

  -- the state before the record is written
  abbrev ready : WordState
  ready = addressed located 5 (n + size) place

  within : n + size + 2 < 2 ^ 28
  within = omega (arith, next.near, total-append (old.items ++ open_items keep arm head) behind, total-append old.items (open_items keep arm head), total-append (map Plain (record_address keep)) (Address 6 arm ∷ map Plain (keep_record ++ head)), total-plain (record_address keep), total-plain (keep_record ++ head))

  place-near : place < 2 ^ 28
  place-near = omega (arith, next.near, spot_le-total items arm)

  ready-runs : run_words base code (size + 2) c ≡ Goes ready
  ready-runs =
      let at : c.pc + 4 * size ≡ address_of (n + size) = omega (arith, next.before) in
      then-runs base code size 2 c located ready found.runs
      (address-runs base code located 5 (n + size) place (omega (arith, within)) place-near at (address-stands items (n + size) 6 arm (map Plain (keep_record ++ head) ++ behind) c1))

  writes : Has code ready.pc (keep_record ++ head)
  writes =
      plain-stands items (n + size + 2) (keep_record ++ head) behind (over-address items (n + size) 6 arm (map Plain (keep_record ++ head) ++ behind) c1)

  ready-region : HasRegion base ready
  ready-region = record { aligned = h.region.aligned; below = h.region.below; front = h.region.front; region = put-other found.registers 3 6 (address_of place) (omega arith) ∙ found.others 3 (omega arith) ∙ h.region.region }

  ready-frame : ready.registers 2 ≡ base + 8 * f
  ready-frame = put-other found.registers 2 6 (address_of place) (omega arith) ∙ found.others 2 (omega arith) ∙ h.frame

  ready-record : ready.registers 7 ≡ base + 8 * (f + keep)
  ready-record = put-other found.registers 7 6 (address_of place) (omega arith) ∙ found.at

  -- then the piece has come to its end
  opened : (limit m : ℕ) (d : WordState) (words : List ℕ) → m ≡ length (keep_record ++ head) → 0 < m → 11 + m ≤ limit → run_words base code m ready ≡ Goes d → d.pc ≡ ready.pc + 4 * m → d.words ≡ words → d.input ≡ c.input → d.output ≡ c.output → ((j : ℕ) → j ≢ 5 → d.registers j ≡ ready.registers j) → Comes base code limit c (quietly c (end_of (extended old (open_items keep arm head))) words)
  opened limit m d words m_is some few runs at words_are input output kept =
      let short = length-record_address keep in
      let total_is : total (open_items keep arm head) ≡ size + (2 + m) = omega (arith, total-append (map Plain (record_address keep)) (Address 6 arm ∷ map Plain (keep_record ++ head)), total-plain (record_address keep), total-plain (keep_record ++ head), m_is) in
      let end : d.pc ≡ end_of (extended old (open_items keep arm head)) = omega (arith, at, appended-end old (open_items keep arm head), total_is) in (
        arrives base code limit (size + 2 + m) c d (quietly c (end_of (extended old (open_items keep arm head))) words) (omega (arith, some)) (omega (arith, short, few)) (then-runs base code (size + 2) m c ready d ready-runs runs) end words_are input output,
        λ j lt. kept j (omega arith) ∙ put-other found.registers j 6 (address_of place) (omega arith) ∙ found.others j (omega arith),
      )

pub opens-alternative : (keep arm : ℕ) → keep < 33554432 → (old : Listing) → OpensAlternative keep arm old (extended old (open_alternative_items keep arm))
opens-alternative keep arm small old behind base f chains c next h has =
    let r = ready keep arm small old head_alternative behind base f c next h in
    let rr = ready-region keep arm small old head_alternative behind base f c next h in
    let p = place keep arm small old head_alternative behind base f c next h in
    let code = code_with (extended old (open_alternative_items keep arm)) behind in
    let frame = ready-frame keep arm small old head_alternative behind base f c next h in
    let at = ready-record keep arm small old head_alternative behind base f c next h in
    let runs = alternative-runs base code f (f + keep) p chains r rr has frame h.behind_front h.inside at refl (writes keep arm small old head_alternative behind base f c next h) in
    let kept = written-kept base code f (f + keep) p chains r rr has frame h.behind_front h.inside at refl in
    opened keep arm small old head_alternative behind base f c next h 20 9 _ (with_alternative base (f + keep) (with_record base (f + keep) f chains p c.words)) refl (omega arith) (omega arith) runs refl refl refl refl kept

pub opens-trap : (keep handler : ℕ) → keep < 33554432 → (old : Listing) → OpensTrap keep handler old (extended old (open_trap_items keep handler))
opens-trap keep arm small old behind base f chains c next h has =
    let r = ready keep arm small old head_trap behind base f c next h in
    let rr = ready-region keep arm small old head_trap behind base f c next h in
    let p = place keep arm small old head_trap behind base f c next h in
    let code = code_with (extended old (open_trap_items keep arm)) behind in
    let frame = ready-frame keep arm small old head_trap behind base f c next h in
    let at = ready-record keep arm small old head_trap behind base f c next h in
    let runs = trap-runs base code f (f + keep) p chains r rr has frame h.behind_front h.inside at refl (writes keep arm small old head_trap behind base f c next h) in
    let kept = written-kept base code f (f + keep) p chains r rr has frame h.behind_front h.inside at refl in
    opened keep arm small old head_trap behind base f c next h 21 10 _ (with_trap base (f + keep) (with_record base (f + keep) f chains p c.words)) refl (omega arith) (omega arith) runs refl refl refl refl kept
