-- The pieces that close records, that commit and that take units, behind what was appended.
use Rattle.std.proofs.Common.{◌≡◌, ℕ, zero, suc, ◌+◌, ◌*◌, ◌%◌, ◌^◌, ◌<◌, ◌≤◌, List, [], ◌∷◌, ◌++◌, length, map, get_or, set, pos, refl, sym, ◌∙◌, subst, arith, length-set, length-append, get_or-set_other, eqb, eq-eqb, ne_eqb, true, false}
use Rattle.rv_code.specs.Arithmetic.{wrap}
use Rattle.rv_code.specs.declared.instruction.Inst.{Inst}
use Rattle.rv_code.specs.declared.instruction.Inst.TheVariants.{Branch, Load, Store}
use Rattle.rv_code.specs.declared.instruction.BranchOp.TheVariants.{Bne}
use Rattle.rv_code.specs.declared.instruction.LoadOp.TheVariants.{Ld}
use Rattle.rv_code.specs.declared.instruction.StoreOp.TheVariants.{Sd}
use Rattle.rv_asm.specs.Assembly.{Listing, total, spot, address_of}
use Rattle.rv_asm.specs.Pieces.{appended}
use Rattle.rv_asm.specs.PieceRuns.{code_with, end_of}
use Rattle.rv_asm.specs.WordMachine.{WordState, Goes, put, run_words, Has}
use Rattle.rv_asm.specs.declared.item.Item.{Item}
use Rattle.rv_asm.specs.declared.item.Item.TheVariants.{Plain}
use Rattle.rv_asm.proofs.Labels.{total-append, spot_le-total}
use Rattle.rv_asm.proofs.Places.{Has-front, Has-back, word_index-inside}
use Rattle.rv_asm.proofs.Registers.{put-other}
use Rattle.rv_asm.proofs.Sending.{total-plain}
use Rattle.rv_asm.proofs.Stretches.{then-runs}
use Rattle.rv_prelude.specs.Items.{extended}
use Rattle.rv_prelude.specs.PieceRuns.{HasPlace, IsNext, Comes, quietly, Commits, ClosesAlternative, LeavesAlternative, ClosesTrap, TakesUnits, PassesUnits}
use Rattle.rv_prelude.specs.Pieces.{commit, record_address, unlink_alternative, close_alternative, unlink_trap, close_trap, take_items}
use Rattle.rv_prelude.specs.Region.{committed_words, without_alternative, without_trap, either_mark}
use Rattle.rv_prelude.proofs.Arrivals.{arrives}
use Rattle.rv_prelude.proofs.Commitments.{committed, commit-runs}
use Rattle.rv_prelude.proofs.Cursors.{stands, plain-stands}
use Rattle.rv_prelude.proofs.Opening.{appended-cursor, appended-end}
use Rattle.rv_prelude.proofs.Records.{Located, locates, length-record_address}
use Rattle.rv_prelude.proofs.UnitsTaken.{take_code, take-code, takes, passes}

-- instructions that were appended stand in the code
piece-there : (old : Listing) (piece : List Inst) (behind : List Item) (c : WordState) → IsNext old (appended old piece) behind c → Has (code_with (appended old piece) behind) c.pc piece
piece-there old piece behind c next =
    subst (λ p. Has (code_with (appended old piece) behind) p piece) (sym next.before)
    (plain-stands ((appended old piece).items ++ behind) (total old.items) piece behind (appended-cursor old (map Plain piece) behind))

piece-end : (old : Listing) (piece : List Inst) → end_of (appended old piece) ≡ address_of (total old.items + length piece)
piece-end old piece = omega (arith, appended-end old (map Plain piece), total-plain piece)

pub commits : (old : Listing) → Commits old (appended old commit)
commits old behind base c next r =
    let code = code_with (appended old commit) behind in
    let there : c.pc + 4 + 4 + 4 ≡ end_of (appended old commit) = omega (arith, next.before, piece-end old commit) in
    (arrives base code 3 3 c (committed c) (quietly c (end_of (appended old commit)) (committed_words c.words)) (omega arith) (omega arith) (commit-runs base code c r (piece-there old commit behind c next)) there refl refl refl, λ k lt. put-other c.registers k 5 1 (omega arith))

-- ---- records are closed

module _ (keep : ℕ) (small : keep < 33554432) (old : Listing) (unlink : List Inst) (behind : List Item) (base f : ℕ) (c : WordState) (next : IsNext old (appended old (record_address keep ++ unlink)) behind c) (h : HasPlace base f keep c) where
  abbrev new : Listing
  new = appended old (record_address keep ++ unlink)

  abbrev code : List Inst
  code = code_with new behind

  abbrev size : ℕ
  size = length (record_address keep)

  whole : Has code c.pc (record_address keep ++ unlink)
  whole = piece-there old (record_address keep ++ unlink) behind c next

  found : Located base code f keep size c
  found = locates base code f keep c h small (Has-front code c.pc (record_address keep) unlink whole)

  -- the state before the record is read
  abbrev located : WordState
  located = record c { pc = c.pc + 4 * size; registers = found.registers }

  rest : Has code located.pc unlink
  rest = Has-back code c.pc (record_address keep) unlink whole

  three : found.registers 3 ≡ base
  three = found.others 3 (omega arith) ∙ h.region.region

  within : located.pc + 4 * length unlink < 2 ^ 31 + 2 ^ 20
  within = omega (arith, next.before, next.near, total-append (old.items ++ map Plain (record_address keep ++ unlink)) behind, total-append old.items (map Plain (record_address keep ++ unlink)), total-plain (record_address keep ++ unlink), length-append (record_address keep) unlink)

  even : located.pc % 4 ≡ 0
  even = omega (arith, next.before)

  closed : (limit m : ℕ) (d : WordState) (words : List ℕ) → 0 < m → 9 + m ≤ limit → run_words base code m located ≡ Goes d → d.pc ≡ located.pc + 4 * length unlink → d.words ≡ words → d.input ≡ c.input → d.output ≡ c.output → ((j : ℕ) → j < 5 → d.registers j ≡ found.registers j) → Comes base code limit c (quietly c (end_of new) words)
  closed limit m d words some few runs at words_are input output kept =
      let short = length-record_address keep in
      let end : d.pc ≡ end_of new = omega (arith, at, next.before, piece-end old (record_address keep ++ unlink), length-append (record_address keep) unlink) in (
        arrives base code limit (size + m) c d (quietly c (end_of new) words) (omega (arith, some)) (omega (arith, short, few)) (then-runs base code size m c located d found.runs runs) end words_are input output,
        λ j lt. kept j lt ∙ found.others j (omega arith),
      )

-- the alternative is the innermost
pub closes-alternative : (keep : ℕ) → keep < 33554432 → (old : Listing) → ClosesAlternative keep old (appended old (close_alternative keep))
closes-alternative keep small old behind base f c next h head =
    let g = found keep small old unlink_alternative behind base f c next h in
    let d = located keep small old unlink_alternative behind base f c next h in
    let hs = rest keep small old unlink_alternative behind base f c next h in
    let r3 = three keep small old unlink_alternative behind base f c next h in
    let code = code_with (appended old (close_alternative keep)) behind in
    let k = f + keep in
    let low = h.behind_front in
    let inside = h.inside in
    let h1 : wrap (d.registers 3 + 8) ≡ base + 8 * 1 = omega (arith, r3, h.region.below, h.region.front) in
    let g0 : wrap (d.registers 7 + 0) ≡ base + 8 * k = omega (arith, g.at, h.region.below, inside) in
    let q1 = word_index-inside base (length c.words) (base + 8 * 1) 1 h.region.aligned refl (omega (arith, h.region.front)) in
    let p0 = word_index-inside base (length c.words) (base + 8 * k) k h.region.aligned refl (omega (arith, inside)) in
    let t : eqb (base + 8 * k) (base + 8 * k) ≡ true = eq-eqb _ _ refl in
    let v = get_or c.words k 0 in
    let q : d.pc + 4 + 4 + 4 + 4 ≡ d.pc + 16 = omega arith in
    let e : WordState = record d { pc = d.pc + 16; registers = put (put d.registers 6 (base + 8 * k)) 6 v; words = without_alternative k c.words } in
    let runs : run_words base code 4 d ≡ Goes e = rw (hs.0, h1, q1, head, hs.1.0, g.at, t, hs.1.1.0, g0, p0, hs.1.1.1.0, h1, q1, q) refl in
    closed keep small old unlink_alternative behind base f c next h 13 4 e (without_alternative k c.words) (omega arith) (omega arith) runs refl refl refl refl
    (λ j lt. put-other (put d.registers 6 (base + 8 * k)) j 6 v (omega arith) ∙ put-other d.registers j 6 (base + 8 * k) (omega arith))

-- a commitment has closed it
pub leaves-alternative : (keep : ℕ) → keep < 33554432 → (old : Listing) → LeavesAlternative keep old (appended old (close_alternative keep))
leaves-alternative keep small old behind base f c next h other =
    let g = found keep small old unlink_alternative behind base f c next h in
    let d = located keep small old unlink_alternative behind base f c next h in
    let hs = rest keep small old unlink_alternative behind base f c next h in
    let r3 = three keep small old unlink_alternative behind base f c next h in
    let near = within keep small old unlink_alternative behind base f c next h in
    let even_pc = even keep small old unlink_alternative behind base f c next h in
    let code = code_with (appended old (close_alternative keep)) behind in
    let k = f + keep in
    let v = get_or c.words 1 0 in
    let h1 : wrap (d.registers 3 + 8) ≡ base + 8 * 1 = omega (arith, r3, h.region.below, h.region.front) in
    let q1 = word_index-inside base (length c.words) (base + 8 * 1) 1 h.region.aligned refl (omega (arith, h.region.front)) in
    let t : eqb (base + 8 * k) v ≡ false = ne_eqb _ _ (λ same. other (sym same)) in
    let w : wrap (d.pc + 4 + 12) ≡ d.pc + 16 = omega (arith, near) in
    let m : eqb ((d.pc + 16) % 4) 0 ≡ true = eq-eqb _ _ (omega (arith, even_pc)) in
    let e : WordState = record d { pc = d.pc + 16; registers = put d.registers 6 v } in
    let runs : run_words base code 2 d ≡ Goes e = rw (hs.0, h1, q1, hs.1.0, g.at, t, w, m) refl in
    closed keep small old unlink_alternative behind base f c next h 13 2 e c.words (omega arith) (omega arith) runs refl refl refl refl (λ j lt. put-other d.registers j 6 v (omega arith))

-- a trap
module _ (keep : ℕ) (small : keep < 33554432) (old : Listing) (behind : List Item) (base f : ℕ) (c : WordState) (next : IsNext old (appended old (close_trap keep)) behind c) (h : HasPlace base f keep c) where
  abbrev d : WordState
  d = located keep small old unlink_trap behind base f c next h

  abbrev trap_code : List Inst
  trap_code = code_with (appended old (close_trap keep)) behind

  -- the last three instructions
  abbrev mark_code : List Inst
  mark_code = Branch Bne 5 0 (pos 8) ∷ Load Ld 5 7 (pos 24) ∷ Store Sd 3 5 (pos 24) ∷ []

  abbrev trap : ℕ
  trap = get_or c.words (f + keep + 2) 0

  abbrev mid : WordState
  mid = record d { pc = d.pc + 12; registers = put (put d.registers 5 trap) 5 (get_or c.words 3 0); words = set c.words 2 trap }

  -- the trap from before is the innermost
  trap-runs : run_words base trap_code 3 d ≡ Goes mid
  trap-runs =
      let g = found keep small old unlink_trap behind base f c next h in
      let hs = rest keep small old unlink_trap behind base f c next h in
      let r3 = three keep small old unlink_trap behind base f c next h in
      let k = f + keep in
      let h2 : wrap (d.registers 3 + 16) ≡ base + 8 * 2 = omega (arith, r3, h.region.below, h.region.front) in
      let h3 : wrap (d.registers 3 + 24) ≡ base + 8 * 3 = omega (arith, r3, h.region.below, h.region.front) in
      let g2 : wrap (d.registers 7 + 16) ≡ base + 8 * (k + 2) = omega (arith, g.at, h.region.below, h.inside) in
      let p2 = word_index-inside base (length c.words) (base + 8 * (k + 2)) (k + 2) h.region.aligned refl (omega (arith, h.inside)) in
      let q2 = word_index-inside base (length c.words) (base + 8 * 2) 2 h.region.aligned refl (omega (arith, h.region.front)) in
      let q3 = word_index-inside base (length (set c.words 2 trap)) (base + 8 * 3) 3 h.region.aligned refl (omega (arith, h.region.front, length-set c.words 2 trap)) in
      let v3 : get_or (set c.words 2 trap) 3 0 ≡ get_or c.words 3 0 = get_or-set_other c.words 2 3 trap 0 (omega arith) in
      let q : d.pc + 4 + 4 + 4 ≡ d.pc + 12 = omega arith in
      rw (hs.0, g2, p2, hs.1.0, h2, q2, hs.1.1.0, h3, q3, v3, q) refl

  -- the mark from before, where no commitment was made since
  marks-runs : (mark : ℕ) → get_or c.words 3 0 ≡ mark → (n : ℕ) × (0 < n) × (n ≤ 3) × (rs : ℕ → ℕ) × (run_words base trap_code n mid ≡ Goes (record d { pc = d.pc + 24; registers = rs; words = set (set c.words 2 trap) 3 (either_mark mark (get_or c.words (f + keep + 3) 0)) })) × ((j : ℕ) → j < 5 → rs j ≡ d.registers j)
  marks-runs zero e =
      let g = found keep small old unlink_trap behind base f c next h in
      let hs = rest keep small old unlink_trap behind base f c next h in
      let r3 = three keep small old unlink_trap behind base f c next h in
      let low = h.behind_front in
      let k = f + keep in
      let w = set c.words 2 trap in
      let s = length-set c.words 2 trap in
      let v = get_or c.words (k + 3) 0 in
      let h3 : wrap (d.registers 3 + 24) ≡ base + 8 * 3 = omega (arith, r3, h.region.below, h.region.front) in
      let g3 : wrap (d.registers 7 + 24) ≡ base + 8 * (k + 3) = omega (arith, g.at, h.region.below, h.inside) in
      let p3 = word_index-inside base (length w) (base + 8 * (k + 3)) (k + 3) h.region.aligned refl (omega (arith, h.inside, s)) in
      let q3 = word_index-inside base (length w) (base + 8 * 3) 3 h.region.aligned refl (omega (arith, h.region.front, s)) in
      let v3 : get_or w (k + 3) 0 ≡ v = get_or-set_other c.words 2 (k + 3) trap 0 (omega (arith, low)) in
      let q : d.pc + 12 + 4 + 4 + 4 ≡ d.pc + 24 = omega arith in
      let tail : Has trap_code (d.pc + 12) mark_code = subst (λ p. Has trap_code p mark_code) (let z : d.pc + 4 + 4 + 4 ≡ d.pc + 12 = omega arith in z) hs.1.1.1 in
      let rs = put (put (put d.registers 5 trap) 5 (get_or c.words 3 0)) 5 v in
      (3, omega arith, omega arith, rs, rw (tail.0, e, tail.1.0, g3, p3, v3, tail.1.1.0, h3, q3, q) refl, λ j lt. put-other (put (put d.registers 5 trap) 5 (get_or c.words 3 0)) j 5 v (omega arith) ∙ put-other (put d.registers 5 trap) j 5 (get_or c.words 3 0) (omega arith) ∙ put-other d.registers j 5 trap (omega arith))
  marks-runs (suc m) e =
      let hs = rest keep small old unlink_trap behind base f c next h in
      let r3 = three keep small old unlink_trap behind base f c next h in
      let near = within keep small old unlink_trap behind base f c next h in
      let even_pc = even keep small old unlink_trap behind base f c next h in
      let w = set c.words 2 trap in
      let s = length-set c.words 2 trap in
      let h3 : wrap (d.registers 3 + 24) ≡ base + 8 * 3 = omega (arith, r3, h.region.below, h.region.front) in
      let q3 = word_index-inside base (length w) (base + 8 * 3) 3 h.region.aligned refl (omega (arith, h.region.front, s)) in
      let jump : wrap (d.pc + 12 + 8) ≡ d.pc + 20 = omega (arith, near) in
      let al : eqb ((d.pc + 20) % 4) 0 ≡ true = eq-eqb _ _ (omega (arith, even_pc)) in
      let tail : Has trap_code (d.pc + 12) mark_code = subst (λ p. Has trap_code p mark_code) (let z : d.pc + 4 + 4 + 4 ≡ d.pc + 12 = omega arith in z) hs.1.1.1 in
      let last : Has trap_code (d.pc + 20) (Store Sd 3 5 (pos 24) ∷ []) = subst (λ p. Has trap_code p (Store Sd 3 5 (pos 24) ∷ [])) (let z : d.pc + 12 + 4 + 4 ≡ d.pc + 20 = omega arith in z) tail.1.1 in
      let q : d.pc + 20 + 4 ≡ d.pc + 24 = omega arith in
      let t0 : eqb (suc m) 0 ≡ false = ne_eqb _ _ (omega arith) in
      let rs = put (put d.registers 5 trap) 5 (get_or c.words 3 0) in
      (2, omega arith, omega arith, rs, rw (tail.0, e, t0, jump, al, last.0, h3, q3, q) refl, λ j lt. put-other (put d.registers 5 trap) j 5 (get_or c.words 3 0) (omega arith) ∙ put-other d.registers j 5 trap (omega arith))

pub closes-trap : (keep : ℕ) → keep < 33554432 → (old : Listing) → ClosesTrap keep old (appended old (close_trap keep))
closes-trap keep small old behind base f c next h =
    let code = code_with (appended old (close_trap keep)) behind in
    let first = trap-runs keep small old behind base f c next h in
    let t = marks-runs keep small old behind base f c next h (get_or c.words 3 0) refl in
    let runs = then-runs base code 3 t.0 (d keep small old behind base f c next h) (mid keep small old behind base f c next h) _ first t.4 in
    closed keep small old unlink_trap behind base f c next h 15 (3 + t.0) _ (without_trap (f + keep) c.words) (omega arith) (omega (arith, t.2)) runs refl refl refl refl t.5

-- ---- units

pub takes-units : (n full : ℕ) → n < 128 → (old : Listing) → TakesUnits n old (extended old (take_items n full))
takes-units n full few old behind base low room spent c next r u le =
    let items = (extended old (take_items n full)).items ++ behind in
    let sizes = total-append (old.items ++ take_items n full) behind in
    let parts = total-append old.items (take_items n full) in
    let there : Has (code_with (extended old (take_items n full)) behind) c.pc (take_code n (total old.items) (spot items full)) = subst (λ p. Has (code_with (extended old (take_items n full)) behind) p (take_code n (total old.items) (spot items full))) (sym next.before) (subst (Has (code_with (extended old (take_items n full)) behind) (address_of (total old.items))) (take-code (spot items) n (total old.items) full) (stands items (total old.items) (take_items n full) behind (appended-cursor old (take_items n full) behind))) in
    let a = takes base (code_with (extended old (take_items n full)) behind) n (total old.items) (spot items full) low room spent c r u next.before few (omega (arith, next.near, sizes, parts)) there le in
    subst (λ p. (a : Comes base (code_with (extended old (take_items n full)) behind) 9 c (quietly c p (set c.words 4 (spent + n)))) × (a.0.end.registers 8 ≡ base + 8 * (low + 2 * spent))) (sym (appended-end old (take_items n full))) a

pub passes-units : (n full : ℕ) → n < 128 → (old : Listing) → PassesUnits n full old (extended old (take_items n full))
passes-units n full few old behind base low room spent c next r u lt =
    let items = (extended old (take_items n full)).items ++ behind in
    let sizes = total-append (old.items ++ take_items n full) behind in
    let parts = total-append old.items (take_items n full) in
    let there : Has (code_with (extended old (take_items n full)) behind) c.pc (take_code n (total old.items) (spot items full)) = subst (λ p. Has (code_with (extended old (take_items n full)) behind) p (take_code n (total old.items) (spot items full))) (sym next.before) (subst (Has (code_with (extended old (take_items n full)) behind) (address_of (total old.items))) (take-code (spot items) n (total old.items) full) (stands items (total old.items) (take_items n full) behind (appended-cursor old (take_items n full) behind))) in
    passes base (code_with (extended old (take_items n full)) behind) n (total old.items) (spot items full) low room spent c r u next.before few (omega (arith, next.near, sizes, parts)) there (omega (arith, next.near, spot_le-total items full)) lt
