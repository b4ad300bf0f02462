-- Records of alternatives and of traps are opened and closed.
use Rattle.std.proofs.Common.{◌≡◌, ◌≢◌, ℕ, ◌+◌, ◌*◌, ◌<◌, ◌≤◌, List, [], ◌∷◌, ◌++◌, length, get_or, set, refl, sym, ap, ◌∙◌, subst, arith, length-set, get_or-set_other, ltb, Bool, true, false, if◌then◌else◌}
use Rattle.rv_code.specs.Arithmetic.{wrap}
use Rattle.rv_code.specs.declared.instruction.Inst.{Inst}
use Rattle.rv_code.specs.declared.instruction.Inst.TheVariants.{Op}
use Rattle.rv_code.specs.declared.instruction.OpOp.TheVariants.{Add}
use Rattle.rv_asm.specs.Assembly.{address_of}
use Rattle.rv_asm.specs.Pieces.{load_constant}
use Rattle.rv_asm.specs.WordMachine.{WordState, Goes, put, run_words, Has}
use Rattle.rv_asm.proofs.Constants.{length-load_constant, load_constant-runs}
use Rattle.rv_asm.proofs.Places.{Has-front, Has-back, word_index-inside}
use Rattle.rv_asm.proofs.Registers.{put-other}
use Rattle.rv_asm.proofs.Stretches.{then-runs}
use Rattle.rv_prelude.specs.PieceRuns.{HasRegion, HasPlace}
use Rattle.rv_prelude.specs.Pieces.{record_address, keep_record, head_alternative, head_trap}
use Rattle.rv_prelude.specs.Region.{Chains, HasChains, with_record, with_alternative, with_trap}

-- ---- the address of a record

by-distance : (P : List Inst → Type 0) (b : Bool) (x y : List Inst) → (b ≡ true → P x) → P y → P (if b then x else y)
by-distance P true x y f g = f refl
by-distance P false x y f g = g

pub length-record_address : (keep : ℕ) → length (record_address keep) ≤ 9
length-record_address keep =
    by-distance (λ is. length is ≤ 9) (ltb keep 256) _ _ (λ e. omega arith)
    (let l = length-load_constant 7 (8 * keep) in omega (arith, l, length-more (load_constant 7 (8 * keep))))
  where
    length-more : (is : List Inst) → length (is ++ (Op Add 7 7 2 ∷ [])) ≡ length is + 1
    length-more [] = refl
    length-more (i ∷ is) = omega (arith, length-more is)

module _ (base : ℕ) (code : List Inst) where
  -- the address is in register 7
  pub record Located (f keep n : ℕ) (c : WordState) : Type 0 where
    pub registers : ℕ → ℕ
    pub runs : run_words base code n c ≡ Goes (record c { pc = c.pc + 4 * n; registers = registers })
    pub at : registers 7 ≡ base + 8 * (f + keep)
    pub others : (k : ℕ) → k < 7 → registers k ≡ c.registers k

  pub locates : (f keep : ℕ) (c : WordState) → HasPlace base f keep c → keep < 33554432 → Has code c.pc (record_address keep) → Located f keep (length (record_address keep)) c
  locates f keep c h small =
      by-distance (λ is. Has code c.pc is → Located f keep (length is) c) (ltb keep 256) _ _
      (λ near has.
      let sum : wrap (c.registers 2 + 8 * keep) ≡ base + 8 * (f + keep) = omega (arith, h.frame, h.region.below, h.inside) in
      record { registers = put c.registers 7 (base + 8 * (f + keep)); runs = rw (has.0, sum) refl; at = refl; others = λ k lt. put-other c.registers k 7 _ (omega arith) })
      (λ has. far (load_constant 7 (8 * keep)) (load_constant-runs base code 7 (8 * keep) c (omega arith) (omega arith)) has)
    where
      far : (is : List Inst) → (Has code c.pc is → run_words base code (length is) c ≡ Goes (record c { pc = c.pc + 4 * length is; registers = put c.registers 7 (8 * keep) })) → Has code c.pc (is ++ (Op Add 7 7 2 ∷ [])) → Located f keep (length (is ++ (Op Add 7 7 2 ∷ []))) c
      far is load has =
          let c1 : WordState = record c { pc = c.pc + 4 * length is; registers = put c.registers 7 (8 * keep) } in
          let first = load (Has-front code c.pc is (Op Add 7 7 2 ∷ []) has) in
          let last = Has-back code c.pc is (Op Add 7 7 2 ∷ []) has in
          let sum : wrap (8 * keep + c.registers 2) ≡ base + 8 * (f + keep) = omega (arith, h.frame, h.region.below, h.inside) in
          let c2 : WordState = record c { pc = c.pc + 4 * length is + 4; registers = put c1.registers 7 (base + 8 * (f + keep)) } in
          let second : run_words base code 1 c1 ≡ Goes c2 = rw (last.0, sum) refl in
          let count : length is + 1 ≡ length (is ++ (Op Add 7 7 2 ∷ [])) = sym (length-more is) in
          let there : c.pc + 4 * length is + 4 ≡ c.pc + 4 * (length is + 1) = omega arith in
          subst (λ n. Located f keep n c) count
          (record {
            registers = c2.registers;
            runs = then-runs base code (length is) 1 c c1 c2 first second ∙ ap (λ p. Goes (record c { pc = p; registers = c2.registers })) there;
            at = refl;
            others = λ k lt. put-other c1.registers k 7 _ (omega arith) ∙ put-other c.registers k 7 _ (omega arith);
          })
        where
          length-more : (is : List Inst) → length (is ++ (Op Add 7 7 2 ∷ [])) ≡ length is + 1
          length-more [] = refl
          length-more (i ∷ is) = omega (arith, length-more is)

  -- ---- a record is written

  module _ (f k arm : ℕ) (chains : Chains) (c : WordState) (r : HasRegion base c) (h : HasChains c.words chains) (frame : c.registers 2 ≡ base + 8 * f) (low : 512 ≤ k) (inside : k + 8 ≤ length c.words) (r7 : c.registers 7 ≡ base + 8 * k) (r6 : c.registers 6 ≡ address_of arm) where
    abbrev ws : List ℕ
    ws = c.words

    abbrev w5 : List ℕ
    w5 = with_record base k f chains arm c.words

    w5-size : length w5 ≡ length ws
    w5-size =
        let w1 = set ws k chains.alternative in
        let w2 = set w1 (k + 1) (address_of arm) in
        let w3 = set w2 (k + 2) chains.trap in
        let w4 = set w3 (k + 3) chains.mark in
        length-set w4 (k + 4) (base + 8 * f) ∙ length-set w3 (k + 3) chains.mark ∙ length-set w2 (k + 2) chains.trap ∙ length-set w1 (k + 1) (address_of arm) ∙ length-set ws k chains.alternative

    abbrev pub written : WordState
    written = record c { pc = c.pc + 32; registers = put (put (put c.registers 5 chains.alternative) 5 chains.trap) 5 chains.mark; words = w5 }

    pub keep-runs : Has code c.pc keep_record → run_words base code 8 c ≡ Goes written
    keep-runs hs =
        let w1 = set ws k chains.alternative in
        let w2 = set w1 (k + 1) (address_of arm) in
        let w3 = set w2 (k + 2) chains.trap in
        let w4 = set w3 (k + 3) chains.mark in
        let s1 = length-set ws k chains.alternative in
        let s2 = length-set w1 (k + 1) (address_of arm) in
        let s3 = length-set w2 (k + 2) chains.trap in
        let s4 = length-set w3 (k + 3) chains.mark in
        let h1 : wrap (c.registers 3 + 8) ≡ base + 8 * 1 = omega (arith, r.region, r.below, r.front) in
        let h2 : wrap (c.registers 3 + 16) ≡ base + 8 * 2 = omega (arith, r.region, r.below, r.front) in
        let h3 : wrap (c.registers 3 + 24) ≡ base + 8 * 3 = omega (arith, r.region, r.below, r.front) in
        let g0 : wrap (c.registers 7 + 0) ≡ base + 8 * k = omega (arith, r7, r.below, inside) in
        let g1 : wrap (c.registers 7 + 8) ≡ base + 8 * (k + 1) = omega (arith, r7, r.below, inside) in
        let g2 : wrap (c.registers 7 + 16) ≡ base + 8 * (k + 2) = omega (arith, r7, r.below, inside) in
        let g3 : wrap (c.registers 7 + 24) ≡ base + 8 * (k + 3) = omega (arith, r7, r.below, inside) in
        let g4 : wrap (c.registers 7 + 32) ≡ base + 8 * (k + 4) = omega (arith, r7, r.below, inside) in
        let q1 = word_index-inside base (length ws) (base + 8 * 1) 1 r.aligned refl (omega (arith, r.front)) in
        let p0 = word_index-inside base (length ws) (base + 8 * k) k r.aligned refl (omega arith) in
        let p1 = word_index-inside base (length w1) (base + 8 * (k + 1)) (k + 1) r.aligned refl (omega (arith, inside, s1)) in
        let q2 = word_index-inside base (length w2) (base + 8 * 2) 2 r.aligned refl (omega (arith, r.front, s1, s2)) in
        let p2 = word_index-inside base (length w2) (base + 8 * (k + 2)) (k + 2) r.aligned refl (omega (arith, inside, s1, s2)) in
        let q3 = word_index-inside base (length w3) (base + 8 * 3) 3 r.aligned refl (omega (arith, r.front, s1, s2, s3)) in
        let p3 = word_index-inside base (length w3) (base + 8 * (k + 3)) (k + 3) r.aligned refl (omega (arith, inside, s1, s2, s3)) in
        let p4 = word_index-inside base (length w4) (base + 8 * (k + 4)) (k + 4) r.aligned refl (omega (arith, inside, s1, s2, s3, s4)) in
        let v2 : get_or w2 2 0 ≡ chains.trap = get_or-set_other w1 (k + 1) 2 (address_of arm) 0 (omega arith) ∙ get_or-set_other ws k 2 chains.alternative 0 (omega arith) ∙ h.trap in
        let v3 : get_or w3 3 0 ≡ chains.mark = get_or-set_other w2 (k + 2) 3 chains.trap 0 (omega arith) ∙ get_or-set_other w1 (k + 1) 3 (address_of arm) 0 (omega arith) ∙ get_or-set_other ws k 3 chains.alternative 0 (omega arith) ∙ h.mark in
        let q : c.pc + 4 + 4 + 4 + 4 + 4 + 4 + 4 + 4 ≡ c.pc + 32 = omega arith in
        rw (hs.0, h1, q1, h.alternative, hs.1.0, g0, p0, hs.1.1.0, g1, p1, r6, hs.1.1.1.0, h2, q2, v2, hs.1.1.1.1.0, g2, p2, hs.1.1.1.1.1.0, h3, q3, v3, hs.1.1.1.1.1.1.0, g3, p3, hs.1.1.1.1.1.1.1.0, g4, p4, frame, q) refl

    pub written-kept : (j : ℕ) → j ≢ 5 → written.registers j ≡ c.registers j
    written-kept j ne = put-other (put (put c.registers 5 chains.alternative) 5 chains.trap) j 5 chains.mark ne ∙ put-other (put c.registers 5 chains.alternative) j 5 chains.trap ne ∙ put-other c.registers j 5 chains.alternative ne

    -- the head of the chain of alternatives
    pub alternative-runs : Has code c.pc (keep_record ++ head_alternative) → run_words base code 9 c ≡ Goes (record written { pc = c.pc + 36; words = with_alternative base k w5 })
    alternative-runs hs =
        let h1 : wrap (c.registers 3 + 8) ≡ base + 8 * 1 = omega (arith, r.region, r.below, r.front) in
        let q1 = word_index-inside base (length w5) (base + 8 * 1) 1 r.aligned refl (omega (arith, r.front, w5-size)) in
        let back : Has code (c.pc + 32) head_alternative = Has-back code c.pc keep_record head_alternative hs in
        let q : c.pc + 32 + 4 ≡ c.pc + 36 = omega arith in
        let last : run_words base code 1 written ≡ Goes (record written { pc = c.pc + 36; words = with_alternative base k w5 }) = rw (back.0, h1, q1, r7, q) refl in
        then-runs base code 8 1 c written _ (keep-runs (Has-front code c.pc keep_record head_alternative hs)) last

    -- and that of traps, with the mark
    pub trap-runs : Has code c.pc (keep_record ++ head_trap) → run_words base code 10 c ≡ Goes (record written { pc = c.pc + 40; words = with_trap base k w5 })
    trap-runs hs =
        let w6 = set w5 2 (base + 8 * k) in
        let s6 = length-set w5 2 (base + 8 * k) in
        let h2 : wrap (c.registers 3 + 16) ≡ base + 8 * 2 = omega (arith, r.region, r.below, r.front) in
        let h3 : wrap (c.registers 3 + 24) ≡ base + 8 * 3 = omega (arith, r.region, r.below, r.front) in
        let q2 = word_index-inside base (length w5) (base + 8 * 2) 2 r.aligned refl (omega (arith, r.front, w5-size)) in
        let q3 = word_index-inside base (length w6) (base + 8 * 3) 3 r.aligned refl (omega (arith, r.front, w5-size, s6)) in
        let back : Has code (c.pc + 32) head_trap = Has-back code c.pc keep_record head_trap hs in
        let q : c.pc + 32 + 4 + 4 ≡ c.pc + 40 = omega arith in
        let last : run_words base code 2 written ≡ Goes (record written { pc = c.pc + 40; words = with_trap base k w5 }) = rw (back.0, h2, q2, r7, back.1.0, h3, q3, q) refl in
        then-runs base code 8 2 c written _ (keep-runs (Has-front code c.pc keep_record head_trap hs)) last
