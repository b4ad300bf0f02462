use Rattle.std.proofs.Common.{◌≡◌, ◌%◌, ℕ, suc, ◌∙◌, List, ◌++◌, [], ◌∷◌, take, drop, ap, sym, subst, rules, arith}
use Rattle.rv_code.specs.Images.{ImageSegment}
use Rattle.elf_image.specs.Fields.{number, header_at, type_at, segment_at}
use Rattle.elf_image.specs.Reading.{IsWithin, segments_of, Joins, Loads}
use Rattle.elf_image.specs.declared.reading.Program.{Program}
use Rattle.elf_image.proofs.SegmentLaws.{JoinsAt, segments-load, segments-other, loads-other, loads-more, joins-loaded}
use Rattle.elf_image.proofs.reading.add_segment.Goals as goal
use Rattle.elf_image.proofs.reading.add_segment.Goals.{then-not-is_within-via-then-not-is_within, then-not-is_within-via-else-not-is_within+then-not-joins}

-- what a program header says
abbrev said : (header : List ℕ) → Program
said header = record {
  kind = number 4 0 header;
  flags = number 4 4 header;
  offset = number 8 8 header;
  address = number 8 16 header;
  file_size = number 8 32 header;
  size = number 8 40 header;
}

joins-at : (file : List ℕ) (n : ℕ) (p : Program) (before : List ImageSegment) → p ≡ said (header_at file n) → before ≡ segments_of file n
    → Joins before p.file_size p.address p.size → JoinsAt file n
joins-at file n p before e b j =
    subst (λ r. Joins (segments_of file n) r.file_size r.address r.size) e (subst (λ xs. Joins xs p.file_size p.address p.size) b j)

joins-back : (file : List ℕ) (n : ℕ) (p : Program) (before : List ImageSegment) → p ≡ said (header_at file n) → before ≡ segments_of file n
    → JoinsAt file n → Joins before p.file_size p.address p.size
joins-back file n p before e b j =
    subst (λ xs. Joins xs p.file_size p.address p.size) (sym b) (subst (λ r. Joins (segments_of file n) r.file_size r.address r.size) (sym e) j)

pub returns-then-program-ne-LOAD-clause-added : goal.returns-then-program-ne-LOAD-clause-added
returns-then-program-ne-LOAD-clause-added c =
    let e = rw c.header_at.ensures.bytes at c.read_program-program.ensures in
    let other : type_at c.args.bytes.now c.args.index ≡ 1 → ⊥ = λ load. c.if-program-ne-LOAD.true (ap (λ p. p.kind) e ∙ load) in
    c.requires.before ∙ sym (segments-other c.args.bytes.now c.args.index other)

pub returns-then-program-ne-LOAD-clause-loads : goal.returns-then-program-ne-LOAD-clause-loads
returns-then-program-ne-LOAD-clause-loads c =
    let e = rw c.header_at.ensures.bytes at c.read_program-program.ensures in
    let other : type_at c.args.bytes.now c.args.index ≡ 1 → ⊥ = λ load. c.if-program-ne-LOAD.true (ap (λ p. p.kind) e ∙ load) in
    loads-other c.args.bytes.now c.args.index other c.requires.loads

pub returns-then-not-is_within-clause-refused : goal.returns-then-not-is_within-clause-refused
returns-then-not-is_within-clause-refused c =
    let file = c.args.bytes.now in
    let n = c.args.index in
    let p = c.read_program-program.result in
    let e : p ≡ said (header_at file n) = rw c.header_at.ensures.bytes at c.read_program-program.ensures in
    let load : type_at file n ≡ 1 = sym (ap (λ r. r.kind) e) ∙ c.if-program-ne-LOAD.false in
    let refuses : Loads file (suc n) → ⊥ = λ l. elim c.then-not-is_within.branch [
      | then-not-is_within-via-then-not-is_within w ↦
          w.if-not-is_within.ensures.no (subst (λ r. IsWithin file r.offset r.file_size) (sym e) (l.within n (omega arith) load))
      | then-not-is_within-via-else-not-is_within+then-not-joins w ↦
          w.if-not-joins.ensures.no (joins-back file n p w.deref.result.now e (w.deref.ensures.value ∙ c.requires.before) (joins-loaded file n load l))
    ] in
    (c.requires.header, (c.requires.next, (c.requires.loads, refuses)))

pub returns-clause-added : goal.returns-clause-added
returns-clause-added c =
    let file = c.args.bytes.now in
    let n = c.args.index in
    let p = c.read_program-program.result in
    let e : p ≡ said (header_at file n) = rw c.header_at.ensures.bytes at c.read_program-program.ensures in
    let load : type_at file n ≡ 1 = sym (ap (λ r. r.kind) e) ∙ c.if-program-ne-LOAD.false in
    let items : c.push.new.self.items ≡ c.args.segments.now.items ++ c.in_ok-segment.segment ∷ [] = search rules in
    let segment : c.in_ok-segment.segment ≡ segment_at file n =
    c.in_ok-segment.ensures.copied
    ∙ ap (λ (r : Program). record { address = r.address; flags = r.flags % 8; bytes = take r.file_size (drop r.offset file); size = r.size }) e in
    items ∙ ap (λ xs. xs ++ c.in_ok-segment.segment ∷ []) c.requires.before ∙ ap (λ s. segments_of file n ++ s ∷ []) segment ∙ sym (segments-load file n load)

pub returns-clause-loads : goal.returns-clause-loads
returns-clause-loads c =
    let file = c.args.bytes.now in
    let n = c.args.index in
    let p = c.read_program-program.result in
    let e : p ≡ said (header_at file n) = rw c.header_at.ensures.bytes at c.read_program-program.ensures in
    let load : type_at file n ≡ 1 = sym (ap (λ r. r.kind) e) ∙ c.if-program-ne-LOAD.false in
    let within = subst (λ r. IsWithin file r.offset r.file_size) e c.if-not-is_within.ensures.yes in
    let joins = joins-at file n p c.deref.result.now e (c.deref.ensures.value ∙ c.requires.before) c.if-not-joins.ensures.yes in
    loads-more file n (omega (arith, c.requires.next, c.requires.header.table.1.0)) load within joins c.requires.loads
