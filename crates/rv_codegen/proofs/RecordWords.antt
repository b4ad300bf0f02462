-- The words of a record that is written, and all others.
use Rattle.std.proofs.Common.{◌≡◌, ◌≢◌, ◌⊎◌, ⊎_elim, ℕ, ◌+◌, ◌*◌, ◌<◌, ◌≤◌, List, length, get_or, set, ◌∙◌, arith, length-set, get_or-set_same, get_or-set_other}
use Rattle.rv_asm.specs.Assembly.{address_of}
use Rattle.rv_prelude.specs.Region.{Chains, with_record}

module _ (base k f arm : ℕ) (before : Chains) (words : List ℕ) where
  abbrev w1 : List ℕ
  w1 = set words k before.alternative

  abbrev w2 : List ℕ
  w2 = set w1 (k + 1) (address_of arm)

  abbrev w3 : List ℕ
  w3 = set w2 (k + 2) before.trap

  abbrev w4 : List ℕ
  w4 = set w3 (k + 3) before.mark

  -- the five words of a record stand in a list of words, which is as long as before; its other words are as they were
  pub record HasWords (ws : List ℕ) : Type 0 where
    pub size : length ws ≡ length words
    pub alternative : get_or ws k 0 ≡ before.alternative
    pub arm_at : get_or ws (k + 1) 0 ≡ address_of arm
    pub trap : get_or ws (k + 2) 0 ≡ before.trap
    pub mark : get_or ws (k + 3) 0 ≡ before.mark
    pub frame : get_or ws (k + 4) 0 ≡ base + 8 * f
    pub other : (j : ℕ) → (j < k) ⊎ (k + 5 ≤ j) → get_or ws j 0 ≡ get_or words j 0

  pub has-words : k + 5 ≤ length words → HasWords (with_record base k f before arm words)
  has-words inside =
      let frame = base + 8 * f in
      let s1 = length-set words k before.alternative in
      let s2 = length-set w1 (k + 1) (address_of arm) in
      let s3 = length-set w2 (k + 2) before.trap in
      let s4 = length-set w3 (k + 3) before.mark in
      let s5 = length-set w4 (k + 4) frame in
      record {
        size = s5 ∙ s4 ∙ s3 ∙ s2 ∙ s1;
        alternative = get_or-set_other w4 (k + 4) k frame 0 (omega arith) ∙ get_or-set_other w3 (k + 3) k before.mark 0 (omega arith) ∙ get_or-set_other w2 (k + 2) k before.trap 0 (omega arith) ∙ get_or-set_other w1 (k + 1) k (address_of arm) 0 (omega arith) ∙ get_or-set_same words k before.alternative 0 (omega arith);
        arm_at = get_or-set_other w4 (k + 4) (k + 1) frame 0 (omega arith) ∙ get_or-set_other w3 (k + 3) (k + 1) before.mark 0 (omega arith) ∙ get_or-set_other w2 (k + 2) (k + 1) before.trap 0 (omega arith) ∙ get_or-set_same w1 (k + 1) (address_of arm) 0 (omega (arith, s1));
        trap = get_or-set_other w4 (k + 4) (k + 2) frame 0 (omega arith) ∙ get_or-set_other w3 (k + 3) (k + 2) before.mark 0 (omega arith) ∙ get_or-set_same w2 (k + 2) before.trap 0 (omega (arith, s1, s2));
        mark = get_or-set_other w4 (k + 4) (k + 3) frame 0 (omega arith) ∙ get_or-set_same w3 (k + 3) before.mark 0 (omega (arith, s1, s2, s3));
        frame = get_or-set_same w4 (k + 4) frame 0 (omega (arith, s1, s2, s3, s4));
        other = λ j out.
            let away = λ (m : ℕ) (lt : m < 5). ⊎_elim (λ (b : j < k). let z : j ≢ k + m = omega arith in z) (λ (b : k + 5 ≤ j). let z : j ≢ k + m = omega arith in z) out in
            let zero : j ≢ k = ⊎_elim (λ (b : j < k). omega arith) (λ (b : k + 5 ≤ j). omega arith) out in
            get_or-set_other w4 (k + 4) j frame 0 (away 4 (omega arith)) ∙ get_or-set_other w3 (k + 3) j before.mark 0 (away 3 (omega arith)) ∙ get_or-set_other w2 (k + 2) j before.trap 0 (away 2 (omega arith)) ∙ get_or-set_other w1 (k + 1) j (address_of arm) 0 (away 1 (omega arith)) ∙ get_or-set_other words k j before.alternative 0 zero;
      }
