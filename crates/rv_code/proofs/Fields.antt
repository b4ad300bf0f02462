-- What is put into the fields of a word is read from them, and the fields of a word are the whole of it.
use Rattle.std.proofs.Common.{◌≡◌, ℕ, ◌+◌, ◌-◌, ◌*◌, ◌%◌, ◌^◌, ◌<◌, [], ◌∷◌, arith}
use Rattle.rv_code.specs.Table.{field, Code}
use Rattle.rv_code.specs.Encode.{joined, i_word, s_word, b_word, u_word, j_word}

-- funct7 rs2 rs1 funct3 rd opcode
abbrev pub r_word : (upper rs2 rs1 funct3 rd opcode : ℕ) → ℕ
r_word upper rs2 rs1 funct3 rd opcode = joined (7 ∷ 5 ∷ 5 ∷ 3 ∷ 5 ∷ 7 ∷ []) (upper ∷ rs2 ∷ rs1 ∷ funct3 ∷ rd ∷ opcode ∷ [])

pub record HasRFields (w upper rs2 rs1 funct3 rd opcode : ℕ) : Type 0 where
  pub upper_is : field w 31 25 ≡ upper
  pub rs2_is : field w 24 20 ≡ rs2
  pub rs1_is : field w 19 15 ≡ rs1
  pub funct3_is : field w 14 12 ≡ funct3
  pub rd_is : field w 11 7 ≡ rd
  pub opcode_is : field w 6 0 ≡ opcode
  pub below : w < 2 ^ 32

pub r_word-fields : (upper rs2 rs1 funct3 rd opcode : ℕ) → upper < 128 → rs2 < 32 → rs1 < 32 → funct3 < 8 → rd < 32 → opcode < 128 → HasRFields (r_word upper rs2 rs1 funct3 rd opcode) upper rs2 rs1 funct3 rd opcode
r_word-fields upper rs2 rs1 funct3 rd opcode a b c d e f =
    record { upper_is = omega arith; rs2_is = omega arith; rs1_is = omega arith; funct3_is = omega arith; rd_is = omega arith; opcode_is = omega arith; below = omega arith }

pub r_word-whole : (w upper funct3 opcode : ℕ) → w < 2 ^ 32 → field w 31 25 ≡ upper → field w 14 12 ≡ funct3 → field w 6 0 ≡ opcode → r_word upper (field w 24 20) (field w 19 15) funct3 (field w 11 7) opcode ≡ w
r_word-whole w upper funct3 opcode h u f o = omega arith

pub record HasIFields (w imm rs1 funct3 rd opcode : ℕ) : Type 0 where
  pub imm_is : field w 31 20 ≡ imm
  pub rs1_is : field w 19 15 ≡ rs1
  pub funct3_is : field w 14 12 ≡ funct3
  pub rd_is : field w 11 7 ≡ rd
  pub opcode_is : field w 6 0 ≡ opcode
  pub below : w < 2 ^ 32

pub i_word-fields : (imm rs1 : ℕ) (c : Code) (rd : ℕ) → imm < 4096 → rs1 < 32 → c.funct3 < 8 → rd < 32 → c.opcode < 128 → HasIFields (i_word imm rs1 c rd) imm rs1 c.funct3 rd c.opcode
i_word-fields imm rs1 c rd a b d e f =
    record { imm_is = omega arith; rs1_is = omega arith; funct3_is = omega arith; rd_is = omega arith; opcode_is = omega arith; below = omega arith }

pub i_word-whole : (w : ℕ) (c : Code) → w < 2 ^ 32 → field w 14 12 ≡ c.funct3 → field w 6 0 ≡ c.opcode → i_word (field w 31 20) (field w 19 15) c (field w 11 7) ≡ w
i_word-whole w c h f o = omega arith

pub record HasSFields (w imm rs2 rs1 funct3 opcode : ℕ) : Type 0 where
  pub imm_is : field w 31 25 * 2 ^ 5 + field w 11 7 ≡ imm
  pub rs2_is : field w 24 20 ≡ rs2
  pub rs1_is : field w 19 15 ≡ rs1
  pub funct3_is : field w 14 12 ≡ funct3
  pub opcode_is : field w 6 0 ≡ opcode
  pub below : w < 2 ^ 32

pub s_word-fields : (imm rs2 rs1 : ℕ) (c : Code) → imm < 4096 → rs2 < 32 → rs1 < 32 → c.funct3 < 8 → c.opcode < 128 → HasSFields (s_word imm rs2 rs1 c) imm rs2 rs1 c.funct3 c.opcode
s_word-fields imm rs2 rs1 c a b d e f =
    record { imm_is = omega arith; rs2_is = omega arith; rs1_is = omega arith; funct3_is = omega arith; opcode_is = omega arith; below = omega arith }

pub s_word-whole : (w : ℕ) (c : Code) → w < 2 ^ 32 → field w 14 12 ≡ c.funct3 → field w 6 0 ≡ c.opcode → s_word (field w 31 25 * 2 ^ 5 + field w 11 7) (field w 24 20) (field w 19 15) c ≡ w
s_word-whole w c h f o = omega arith

-- the bits of an even immediate of 13 bits
abbrev pub b_bits : ℕ → ℕ
b_bits w = field w 31 31 * 2 ^ 12 + field w 7 7 * 2 ^ 11 + field w 30 25 * 2 ^ 5 + field w 11 8 * 2

pub record HasBFields (w imm rs2 rs1 funct3 opcode : ℕ) : Type 0 where
  pub imm_is : b_bits w ≡ imm
  pub rs2_is : field w 24 20 ≡ rs2
  pub rs1_is : field w 19 15 ≡ rs1
  pub funct3_is : field w 14 12 ≡ funct3
  pub opcode_is : field w 6 0 ≡ opcode
  pub below : w < 2 ^ 32

pub b_word-fields : (imm rs2 rs1 : ℕ) (c : Code) → imm < 8192 → imm % 2 ≡ 0 → rs2 < 32 → rs1 < 32 → c.funct3 < 8 → c.opcode < 128 → HasBFields (b_word imm rs2 rs1 c) imm rs2 rs1 c.funct3 c.opcode
b_word-fields imm rs2 rs1 c a ev b d e f =
    record { imm_is = omega arith; rs2_is = omega arith; rs1_is = omega arith; funct3_is = omega arith; opcode_is = omega arith; below = omega arith }

pub b_word-whole : (w : ℕ) (c : Code) → w < 2 ^ 32 → field w 14 12 ≡ c.funct3 → field w 6 0 ≡ c.opcode → b_word (b_bits w) (field w 24 20) (field w 19 15) c ≡ w
b_word-whole w c h f o = omega arith

pub record HasUFields (w imm rd opcode : ℕ) : Type 0 where
  pub imm_is : field w 31 12 * 2 ^ 12 ≡ imm
  pub rd_is : field w 11 7 ≡ rd
  pub opcode_is : field w 6 0 ≡ opcode
  pub below : w < 2 ^ 32

pub u_word-fields : (imm rd opcode : ℕ) → imm < 2 ^ 32 → imm % 4096 ≡ 0 → rd < 32 → opcode < 128 → HasUFields (u_word imm rd opcode) imm rd opcode
u_word-fields imm rd opcode a m b c = record { imm_is = omega arith; rd_is = omega arith; opcode_is = omega arith; below = omega arith }

pub u_word-whole : (w opcode : ℕ) → w < 2 ^ 32 → field w 6 0 ≡ opcode → u_word (field w 31 12 * 2 ^ 12) (field w 11 7) opcode ≡ w
u_word-whole w opcode h o = omega arith

-- the bits of an even immediate of 21 bits
abbrev pub j_bits : ℕ → ℕ
j_bits w = field w 31 31 * 2 ^ 20 + field w 19 12 * 2 ^ 12 + field w 20 20 * 2 ^ 11 + field w 30 21 * 2

pub record HasJFields (w imm rd opcode : ℕ) : Type 0 where
  pub imm_is : j_bits w ≡ imm
  pub rd_is : field w 11 7 ≡ rd
  pub opcode_is : field w 6 0 ≡ opcode
  pub below : w < 2 ^ 32

pub j_word-fields : (imm rd opcode : ℕ) → imm < 2 ^ 21 → imm % 2 ≡ 0 → rd < 32 → opcode < 128 → HasJFields (j_word imm rd opcode) imm rd opcode
j_word-fields imm rd opcode a m b c = record { imm_is = omega arith; rd_is = omega arith; opcode_is = omega arith; below = omega arith }

pub j_word-whole : (w opcode : ℕ) → w < 2 ^ 32 → field w 6 0 ≡ opcode → j_word (j_bits w) (field w 11 7) opcode ≡ w
j_word-whole w opcode h o = omega arith

-- upper amount rs1 funct3 rd opcode, where the amount has k bits
abbrev pub shift_word : (k upper amount rs1 funct3 rd opcode : ℕ) → ℕ
shift_word k upper amount rs1 funct3 rd opcode = joined ((12 - k) ∷ k ∷ 5 ∷ 3 ∷ 5 ∷ 7 ∷ []) (upper ∷ amount ∷ rs1 ∷ funct3 ∷ rd ∷ opcode ∷ [])

pub record HasShiftFields (w k upper amount rs1 funct3 rd opcode : ℕ) : Type 0 where
  pub upper_is : field w 31 (20 + k) ≡ upper
  pub amount_is : field w (19 + k) 20 ≡ amount
  pub rs1_is : field w 19 15 ≡ rs1
  pub funct3_is : field w 14 12 ≡ funct3
  pub rd_is : field w 11 7 ≡ rd
  pub opcode_is : field w 6 0 ≡ opcode
  pub below : w < 2 ^ 32

pub shift_word-fields-5 : (upper amount rs1 funct3 rd opcode : ℕ) → upper < 128 → amount < 32 → rs1 < 32 → funct3 < 8 → rd < 32 → opcode < 128 → HasShiftFields (shift_word 5 upper amount rs1 funct3 rd opcode) 5 upper amount rs1 funct3 rd opcode
shift_word-fields-5 upper amount rs1 funct3 rd opcode a b c d e f =
    record { upper_is = omega arith; amount_is = omega arith; rs1_is = omega arith; funct3_is = omega arith; rd_is = omega arith; opcode_is = omega arith; below = omega arith }

pub shift_word-fields-6 : (upper amount rs1 funct3 rd opcode : ℕ) → upper < 64 → amount < 64 → rs1 < 32 → funct3 < 8 → rd < 32 → opcode < 128 → HasShiftFields (shift_word 6 upper amount rs1 funct3 rd opcode) 6 upper amount rs1 funct3 rd opcode
shift_word-fields-6 upper amount rs1 funct3 rd opcode a b c d e f =
    record { upper_is = omega arith; amount_is = omega arith; rs1_is = omega arith; funct3_is = omega arith; rd_is = omega arith; opcode_is = omega arith; below = omega arith }

pub shift_word-whole-5 : (w upper funct3 opcode : ℕ) → w < 2 ^ 32 → field w 31 25 ≡ upper → field w 14 12 ≡ funct3 → field w 6 0 ≡ opcode → shift_word 5 upper (field w 24 20) (field w 19 15) funct3 (field w 11 7) opcode ≡ w
shift_word-whole-5 w upper funct3 opcode h u f o = omega arith

pub shift_word-whole-6 : (w upper funct3 opcode : ℕ) → w < 2 ^ 32 → field w 31 26 ≡ upper → field w 14 12 ≡ funct3 → field w 6 0 ≡ opcode → shift_word 6 upper (field w 25 20) (field w 19 15) funct3 (field w 11 7) opcode ≡ w
shift_word-whole-6 w upper funct3 opcode h u f o = omega arith
