-- The entries for failures and for escapes: to the record that is the innermost, with all that it kept, or out.
use Rattle.std.proofs.Common.{◌≡◌, ℕ, zero, suc, ◌+◌, ◌-◌, ◌*◌, ◌%◌, ◌^◌, ◌<◌, ◌≤◌, List, ◌∷◌, ◌++◌, length, get_or, set, pos, map, refl, ap, ap₂, ◌∙◌, subst, arith, length-set, get_or-set_other, eqb, eq-eqb, ne_eqb, true, false}
use Rattle.rv_code.specs.Arithmetic.{wrap}
use Rattle.rv_code.specs.declared.instruction.Inst.{Inst}
use Rattle.rv_code.specs.declared.instruction.Inst.TheVariants.{Load, Store, Branch}
use Rattle.rv_code.specs.declared.instruction.LoadOp.TheVariants.{Ld}
use Rattle.rv_code.specs.declared.instruction.StoreOp.TheVariants.{Sd}
use Rattle.rv_code.specs.declared.instruction.BranchOp.TheVariants.{Beq, Bne}
use Rattle.rv_asm.specs.Assembly.{address_of, far_jump, code_from}
use Rattle.rv_asm.specs.WordMachine.{WordState, Goes, put, run_words, Has}
use Rattle.rv_asm.specs.declared.item.Item.TheVariants.{Plain, BranchTo}
use Rattle.rv_asm.proofs.Sending.{code_from-plain}
use Rattle.rv_asm.proofs.Places.{word_index-inside, Has-front, Has-back}
use Rattle.rv_asm.proofs.Registers.{put-other}
use Rattle.rv_asm.proofs.Stretches.{then-runs}
use Rattle.rv_prelude.specs.EntryRuns.{Resumes}
use Rattle.rv_prelude.specs.PieceRuns.{Comes, HasRegion, quietly}
use Rattle.rv_prelude.specs.Pieces.{resume, restore_alternative, restore_trap}
use Rattle.rv_prelude.specs.Region.{Chains, HasRecord, with_chains, escaped_chains}
use Rattle.rv_prelude.proofs.Arrivals.{arrives}
use Rattle.rv_prelude.proofs.Jumps.{jumped, jump-runs}

-- the head of a chain goes to register 5; where there is none, a far jump leads out
abbrev pub found_code : (i from out : ℕ) → List Inst → List Inst
found_code i from out rest = Load Ld 5 3 (pos (8 * i)) ∷ Branch Bne 5 0 (pos 12) ∷ (far_jump (from + 2) out ++ rest)

pub found-code : (at : ℕ → ℕ) (i from out : ℕ) (rest : List Inst) → code_from at from (Plain (Load Ld 5 3 (pos (8 * i))) ∷ BranchTo Beq 5 0 out ∷ map Plain rest) ≡ found_code i from (at out) rest
found-code at i from out rest =
    let next : from + 1 + 1 ≡ from + 2 = omega arith in
    ap₂ (λ m is. Load Ld 5 3 (pos (8 * i)) ∷ Branch Bne 5 0 (pos 12) ∷ (far_jump m (at out) ++ is)) next (code_from-plain at (from + 1 + 3) rest)

module _ (base : ℕ) (code : List Inst) where
  -- ---- the head of a chain

  module _ (i from out : ℕ) (rest : List Inst) (c : WordState) (r : HasRegion base c) (few : i < 8) (near : from + 2 < 2 ^ 28) (here : c.pc ≡ address_of from) (has : Has code c.pc (found_code i from out rest)) where
    -- there is a record
    abbrev pub found : ℕ → WordState
    found k = record c { pc = c.pc + 16; registers = put c.registers 5 (base + 8 * k) }

    pub found-runs : (k : ℕ) → 0 < k → k < length c.words → get_or c.words i 0 ≡ base + 8 * k → run_words base code 2 c ≡ Goes (found k)
    found-runs k some inside head =
        let h0 : wrap (c.registers 3 + 8 * i) ≡ base + 8 * i = omega (arith, r.region, r.below, r.front) in
        let q0 = word_index-inside base (length c.words) (base + 8 * i) i r.aligned refl (omega (arith, r.front)) in
        let t : eqb (base + 8 * k) 0 ≡ false = ne_eqb _ _ (omega arith) in
        let w : wrap (c.pc + 4 + 12) ≡ c.pc + 16 = omega (arith, here) in
        let m : eqb ((c.pc + 16) % 4) 0 ≡ true = eq-eqb _ _ (omega (arith, here)) in
        rw (has.0, h0, q0, head, has.1.0, t, w, m) refl

    pub found-rest : Has code (c.pc + 16) rest
    found-rest =
        let e : c.pc + 4 + 4 + 8 ≡ c.pc + 16 = omega arith in
        subst (λ p. Has code p rest) e (Has-back code (c.pc + 4 + 4) (far_jump (from + 2) out) rest has.1.1)

    -- there is none
    abbrev pub lost : WordState
    lost = jumped (record c { pc = c.pc + 4 + 4; registers = put c.registers 5 0 }) (from + 2) out

    pub goes-out : out < 2 ^ 28 → get_or c.words i 0 ≡ 0 → Comes base code 4 c (quietly c (address_of out) c.words)
    goes-out out_near head =
        let h0 : wrap (c.registers 3 + 8 * i) ≡ base + 8 * i = omega (arith, r.region, r.below, r.front) in
        let q0 = word_index-inside base (length c.words) (base + 8 * i) i r.aligned refl (omega (arith, r.front)) in
        let c1 : WordState = record c { pc = c.pc + 4 + 4; registers = put c.registers 5 0 } in
        let two : run_words base code 2 c ≡ Goes c1 = rw (has.0, h0, q0, head, has.1.0) refl in
        let e : c.pc + 4 + 4 ≡ address_of (from + 2) = omega (arith, here) in
        let far = subst (λ p. Has code p (far_jump (from + 2) out)) e (Has-front code (c.pc + 4 + 4) (far_jump (from + 2) out) rest has.1.1) in
        let runs = then-runs base code 2 2 c c1 lost two (jump-runs base code c1 (from + 2) out near out_near e far) in
        (arrives base code 4 4 c lost (quietly c (address_of out) c.words) (omega arith) (omega arith) runs refl refl refl refl, λ k lt. put-other (put c.registers 5 0) k 31 _ (omega arith) ∙ put-other c.registers k 5 0 (omega arith))

  -- ---- what a record keeps

  -- the frame and the address of a record in register 5
  resume-runs : (k f arm : ℕ) (c : WordState) → HasRegion base c → k + 8 ≤ length c.words → c.registers 5 ≡ base + 8 * k → get_or c.words (k + 1) 0 ≡ address_of arm → get_or c.words (k + 4) 0 ≡ base + 8 * f → arm < 2 ^ 28 → Has code c.pc resume → run_words base code 3 c ≡ Goes (record c { pc = address_of arm; registers = put (put c.registers 2 (base + 8 * f)) 5 (address_of arm) })
  resume-runs k f arm c r inside r5 v1 v4 near hs =
      let g4 : wrap (c.registers 5 + 32) ≡ base + 8 * (k + 4) = omega (arith, r5, r.below, inside) in
      let g1 : wrap (c.registers 5 + 8) ≡ base + 8 * (k + 1) = omega (arith, r5, r.below, inside) in
      let p4 = word_index-inside base (length c.words) (base + 8 * (k + 4)) (k + 4) r.aligned refl (omega arith) in
      let p1 = word_index-inside base (length c.words) (base + 8 * (k + 1)) (k + 1) r.aligned refl (omega arith) in
      let j1 : wrap (address_of arm + 0) - wrap (address_of arm + 0) % 2 ≡ address_of arm = omega arith in
      let j2 : eqb (address_of arm % 4) 0 ≡ true = eq-eqb _ _ (omega arith) in
      rw (hs.0, g4, p4, v4, hs.1.0, g1, p1, v1, hs.1.1.0, j1, j2) refl

  module _ (k f arm : ℕ) (before : Chains) (ws : List ℕ) (kept : HasRecord base k f before arm ws) where
    -- words of the record behind the writes to the front
    far-word : (a t m j : ℕ) → 4 ≤ j → get_or (set (set (set ws 1 a) 2 t) 3 m) j 0 ≡ get_or ws j 0
    far-word a t m j far = get_or-set_other (set (set ws 1 a) 2 t) 3 j m 0 (omega arith) ∙ get_or-set_other (set ws 1 a) 2 j t 0 (omega arith) ∙ get_or-set_other ws 1 j a 0 (omega arith)

    chains-size : (a t m : ℕ) → length (set (set (set ws 1 a) 2 t) 3 m) ≡ length ws
    chains-size a t m = length-set (set (set ws 1 a) 2 t) 3 m ∙ length-set (set ws 1 a) 2 t ∙ length-set ws 1 a

    -- with the chains at the front, the record goes on
    resumed : (chains : Chains) (c : WordState) → HasRegion base c → c.words ≡ with_chains chains ws → c.registers 5 ≡ base + 8 * k → Has code c.pc resume → run_words base code 3 c ≡ Goes (record c { pc = address_of arm; registers = put (put c.registers 2 (base + 8 * f)) 5 (address_of arm) })
    resumed chains c r words r5 h =
        let size : length c.words ≡ length ws = ap length words ∙ chains-size chains.alternative chains.trap chains.mark in
        let word = λ (j : ℕ) (far : 4 ≤ j). ap (λ x. get_or x j 0) words ∙ far-word chains.alternative chains.trap chains.mark j far in
        resume-runs k f arm c r (omega (arith, size, kept.inside)) r5 (word (k + 1) (omega (arith, kept.behind_front)) ∙ kept.arm_at) (word (k + 4) (omega (arith, kept.behind_front)) ∙ kept.frame) kept.near h

    -- ---- an alternative

    restore-runs : (c : WordState) → HasRegion base c → c.words ≡ ws → c.registers 5 ≡ base + 8 * k → Has code c.pc restore_alternative → (rs : ℕ → ℕ) × (run_words base code 9 c ≡ Goes (record c { pc = address_of arm; registers = rs; words = with_chains before ws })) × (rs 2 ≡ base + 8 * f) × (rs 3 ≡ c.registers 3) × (rs 10 ≡ c.registers 10)
    restore-runs c r same r5 hs =
        let size : length c.words ≡ length ws = ap length same in
        let w1 = set ws 1 before.alternative in
        let w2 = set w1 2 before.trap in
        let w3 = set w2 3 before.mark in
        let s1 = length-set ws 1 before.alternative in
        let s2 = length-set w1 2 before.trap in
        let s3 = length-set w2 3 before.mark in
        let low = kept.behind_front in
        let inside = kept.inside in
        let g0 : wrap (c.registers 5 + 0) ≡ base + 8 * k = omega (arith, r5, r.below, inside, size) in
        let g2 : wrap (c.registers 5 + 16) ≡ base + 8 * (k + 2) = omega (arith, r5, r.below, inside, size) in
        let g3 : wrap (c.registers 5 + 24) ≡ base + 8 * (k + 3) = omega (arith, r5, r.below, inside, size) in
        let h1 : wrap (c.registers 3 + 8) ≡ base + 8 * 1 = omega (arith, r.region, r.below, r.front) in
        let h2 : wrap (c.registers 3 + 16) ≡ base + 8 * 2 = omega (arith, r.region, r.below, r.front) in
        let h3 : wrap (c.registers 3 + 24) ≡ base + 8 * 3 = omega (arith, r.region, r.below, r.front) in
        let p0 = word_index-inside base (length ws) (base + 8 * k) k r.aligned refl (omega (arith, inside)) in
        let q0 = word_index-inside base (length ws) (base + 8 * 1) 1 r.aligned refl (omega (arith, inside)) in
        let p2 = word_index-inside base (length w1) (base + 8 * (k + 2)) (k + 2) r.aligned refl (omega (arith, inside, s1)) in
        let q1 = word_index-inside base (length w1) (base + 8 * 2) 2 r.aligned refl (omega (arith, inside, low, s1)) in
        let p3 = word_index-inside base (length w2) (base + 8 * (k + 3)) (k + 3) r.aligned refl (omega (arith, inside, s1, s2)) in
        let q2 = word_index-inside base (length w2) (base + 8 * 3) 3 r.aligned refl (omega (arith, inside, low, s1, s2)) in
        let v2 : get_or w1 (k + 2) 0 ≡ before.trap = get_or-set_other ws 1 (k + 2) before.alternative 0 (omega (arith, low)) ∙ kept.trap in
        let v3 : get_or w2 (k + 3) 0 ≡ before.mark = get_or-set_other w1 2 (k + 3) before.trap 0 (omega (arith, low)) ∙ get_or-set_other ws 1 (k + 3) before.alternative 0 (omega (arith, low)) ∙ kept.mark in
        let c1 : WordState = record c { pc = c.pc + 4 + 4 + 4 + 4 + 4 + 4; registers = put (put (put c.registers 6 before.alternative) 6 before.trap) 6 before.mark; words = w3 } in
        let six : run_words base code 6 c ≡ Goes c1 = rw (same, hs.0, g0, p0, kept.alternative, hs.1.0, h1, q0, hs.1.1.0, g2, p2, v2, hs.1.1.1.0, h2, q1, hs.1.1.1.1.0, g3, p3, v3, hs.1.1.1.1.1.0, h3, q2) refl in
        let r1 : HasRegion base c1 = record { aligned = r.aligned; below = omega (arith, r.below, size, s1, s2, s3); front = omega (arith, r.front, size, s1, s2, s3); region = r.region } in
        let three = resumed before c1 r1 refl r5 hs.1.1.1.1.1.1 in
        (put (put c1.registers 2 (base + 8 * f)) 5 (address_of arm), then-runs base code 6 3 c c1 _ six three, refl, refl, refl)

    -- ---- a trap

    -- the chains are stored from registers 7 and 6, with the trap between them
    stored-runs : (a m : ℕ) (c : WordState) → HasRegion base c → c.words ≡ ws → c.registers 5 ≡ base + 8 * k → c.registers 7 ≡ a → c.registers 6 ≡ m → Has code c.pc (Store Sd 3 7 (pos 8) ∷ Load Ld 7 5 (pos 16) ∷ Store Sd 3 7 (pos 16) ∷ Store Sd 3 6 (pos 24) ∷ resume) → (rs : ℕ → ℕ) × (run_words base code 7 c ≡ Goes (record c { pc = address_of arm; registers = rs; words = with_chains (record { alternative = a; trap = before.trap; mark = m }) ws })) × (rs 2 ≡ base + 8 * f) × (rs 3 ≡ c.registers 3) × (rs 10 ≡ c.registers 10)
    stored-runs a m c r same r5 r7 r6 hs =
        let size : length c.words ≡ length ws = ap length same in
        let w1 = set ws 1 a in
        let w2 = set w1 2 before.trap in
        let w3 = set w2 3 m in
        let s1 = length-set ws 1 a in
        let s2 = length-set w1 2 before.trap in
        let s3 = length-set w2 3 m in
        let low = kept.behind_front in
        let inside = kept.inside in
        let g2 : wrap (c.registers 5 + 16) ≡ base + 8 * (k + 2) = omega (arith, r5, r.below, inside, size) in
        let h1 : wrap (c.registers 3 + 8) ≡ base + 8 * 1 = omega (arith, r.region, r.below, r.front) in
        let h2 : wrap (c.registers 3 + 16) ≡ base + 8 * 2 = omega (arith, r.region, r.below, r.front) in
        let h3 : wrap (c.registers 3 + 24) ≡ base + 8 * 3 = omega (arith, r.region, r.below, r.front) in
        let q0 = word_index-inside base (length ws) (base + 8 * 1) 1 r.aligned refl (omega (arith, inside)) in
        let p2 = word_index-inside base (length w1) (base + 8 * (k + 2)) (k + 2) r.aligned refl (omega (arith, inside, s1)) in
        let q1 = word_index-inside base (length w1) (base + 8 * 2) 2 r.aligned refl (omega (arith, inside, low, s1)) in
        let q2 = word_index-inside base (length w2) (base + 8 * 3) 3 r.aligned refl (omega (arith, inside, low, s1, s2)) in
        let v2 : get_or w1 (k + 2) 0 ≡ before.trap = get_or-set_other ws 1 (k + 2) a 0 (omega (arith, low)) ∙ kept.trap in
        let c1 : WordState = record c { pc = c.pc + 4 + 4 + 4 + 4; registers = put c.registers 7 before.trap; words = w3 } in
        let four : run_words base code 4 c ≡ Goes c1 = rw (same, hs.0, h1, q0, r7, hs.1.0, g2, p2, v2, hs.1.1.0, h2, q1, hs.1.1.1.0, h3, q2, r6) refl in
        let r1 : HasRegion base c1 = record { aligned = r.aligned; below = omega (arith, r.below, size, s1, s2, s3); front = omega (arith, r.front, size, s1, s2, s3); region = r.region } in
        let three = resumed (record { alternative = a; trap = before.trap; mark = m }) c1 r1 refl r5 hs.1.1.1.1 in
        (put (put c1.registers 2 (base + 8 * f)) 5 (address_of arm), then-runs base code 4 3 c c1 _ four three, refl, refl, refl)

  -- the rest of the entry for escapes, where no commitment was made since, and where one was
  restore_trap-runs : (k f arm mark : ℕ) (before : Chains) (c : WordState) → HasRegion base c → HasRecord base k f before arm c.words → c.registers 5 ≡ base + 8 * k → get_or c.words 3 0 ≡ mark → c.pc % 4 ≡ 0 → c.pc + 100 < 2 ^ 64 → Has code c.pc restore_trap → (n : ℕ) × (n ≤ 12) × (rs : ℕ → ℕ) × (run_words base code n c ≡ Goes (record c { pc = address_of arm; registers = rs; words = with_chains (escaped_chains mark before) c.words })) × (rs 2 ≡ base + 8 * f) × (rs 3 ≡ c.registers 3) × (rs 10 ≡ c.registers 10)
  restore_trap-runs k f arm zero before c r kept r5 head even near hs =
      let low = kept.behind_front in
      let inside = kept.inside in
      let h3 : wrap (c.registers 3 + 24) ≡ base + 8 * 3 = omega (arith, r.region, r.below, r.front) in
      let g0 : wrap (c.registers 5 + 0) ≡ base + 8 * k = omega (arith, r5, r.below, inside) in
      let g3 : wrap (c.registers 5 + 24) ≡ base + 8 * (k + 3) = omega (arith, r5, r.below, inside) in
      let q3 = word_index-inside base (length c.words) (base + 8 * 3) 3 r.aligned refl (omega (arith, r.front)) in
      let p0 = word_index-inside base (length c.words) (base + 8 * k) k r.aligned refl (omega (arith, inside)) in
      let p3 = word_index-inside base (length c.words) (base + 8 * (k + 3)) (k + 3) r.aligned refl (omega (arith, inside)) in
      let c1 : WordState = record c { pc = c.pc + 4 + 4 + 4 + 4 + 4; registers = put (put (put (put c.registers 6 0) 7 0) 7 before.alternative) 6 before.mark } in
      let five : run_words base code 5 c ≡ Goes c1 = rw (hs.0, h3, q3, head, hs.1.0, hs.1.1.0, hs.1.1.1.0, g0, p0, kept.alternative, hs.1.1.1.1.0, g3, p3, kept.mark) refl in
      let r1 : HasRegion base c1 = record { aligned = r.aligned; below = r.below; front = r.front; region = r.region } in
      let t = stored-runs k f arm before c.words kept before.alternative before.mark c1 r1 refl r5 refl refl hs.1.1.1.1.1 in
      (12, omega arith, t.0, then-runs base code 5 7 c c1 _ five t.1, t.2, t.3, t.4)
  restore_trap-runs k f arm (suc m) before c r kept r5 head even near hs =
      let h3 : wrap (c.registers 3 + 24) ≡ base + 8 * 3 = omega (arith, r.region, r.below, r.front) in
      let q3 = word_index-inside base (length c.words) (base + 8 * 3) 3 r.aligned refl (omega (arith, r.front)) in
      let t0 : eqb (suc m) 0 ≡ false = ne_eqb _ _ (omega arith) in
      let w : wrap (c.pc + 4 + 4 + 12) ≡ c.pc + 20 = omega arith in
      let al : eqb ((c.pc + 20) % 4) 0 ≡ true = eq-eqb _ _ (omega arith) in
      let c1 : WordState = record c { pc = c.pc + 20; registers = put (put c.registers 6 (suc m)) 7 0 } in
      let three : run_words base code 3 c ≡ Goes c1 = rw (hs.0, h3, q3, head, hs.1.0, hs.1.1.0, t0, w, al) refl in
      let r1 : HasRegion base c1 = record { aligned = r.aligned; below = r.below; front = r.front; region = r.region } in
      let e : c.pc + 4 + 4 + 4 + 4 + 4 ≡ c.pc + 20 = omega arith in
      let rest = subst (λ p. Has code p (Store Sd 3 7 (pos 8) ∷ Load Ld 7 5 (pos 16) ∷ Store Sd 3 7 (pos 16) ∷ Store Sd 3 6 (pos 24) ∷ resume)) e hs.1.1.1.1.1 in
      let t = stored-runs k f arm before c.words kept 0 (suc m) c1 r1 refl r5 refl refl rest in
      (10, omega arith, t.0, then-runs base code 3 7 c c1 _ three t.1, t.2, t.3, t.4)

  -- ---- the entries

  module _ (from out : ℕ) (c : WordState) (r : HasRegion base c) (near : from + 2 < 2 ^ 28) (here : c.pc ≡ address_of from) where
    pub fails-to : (k f arm : ℕ) (before : Chains) → Has code c.pc (found_code 1 from out restore_alternative) → HasRecord base k f before arm c.words → get_or c.words 1 0 ≡ base + 8 * k → Resumes base code 11 f c (quietly c (address_of arm) (with_chains before c.words))
    fails-to k f arm before has kept head =
        let two = found-runs 1 from out restore_alternative c r (omega arith) near here has k (omega (arith, kept.behind_front)) (omega (arith, kept.inside)) head in
        let c1 = found 1 from out restore_alternative c r (omega arith) near here has k in
        let rest = found-rest 1 from out restore_alternative c r (omega arith) near here has in
        let r1 : HasRegion base c1 = record { aligned = r.aligned; below = r.below; front = r.front; region = r.region } in
        let t = restore-runs k f arm before c.words kept c1 r1 refl refl rest in
        let to = quietly c (address_of arm) (with_chains before c.words) in
        (arrives base code 11 11 c _ to (omega arith) (omega arith) (then-runs base code 2 9 c c1 _ two t.1) refl refl refl refl, t.2, t.3, t.4)

    pub escapes-to : (k f arm mark : ℕ) (before : Chains) → Has code c.pc (found_code 2 from out restore_trap) → HasRecord base k f before arm c.words → get_or c.words 2 0 ≡ base + 8 * k → get_or c.words 3 0 ≡ mark → Resumes base code 14 f c (quietly c (address_of arm) (with_chains (escaped_chains mark before) c.words))
    escapes-to k f arm mark before has kept head marked =
        let two = found-runs 2 from out restore_trap c r (omega arith) near here has k (omega (arith, kept.behind_front)) (omega (arith, kept.inside)) head in
        let c1 = found 2 from out restore_trap c r (omega arith) near here has k in
        let rest = found-rest 2 from out restore_trap c r (omega arith) near here has in
        let r1 : HasRegion base c1 = record { aligned = r.aligned; below = r.below; front = r.front; region = r.region } in
        let t = restore_trap-runs k f arm mark before c1 r1 kept refl marked (omega (arith, here)) (omega (arith, here, near)) rest in
        let to = quietly c (address_of arm) (with_chains (escaped_chains mark before) c.words) in
        (arrives base code 14 (2 + t.0) c _ to (omega arith) (omega (arith, t.1)) (then-runs base code 2 t.0 c c1 _ two t.3) refl refl refl refl, t.4, t.5, t.6)
