-- The code that leaves a yielder's datum in a word of the frame: wherever it stands, and behind what was appended.
use Rattle.std.proofs.Common.{◌≡◌, ◌⊎◌, ⊎_elim, ℕ, ◌+◌, ◌*◌, ◌^◌, ◌<◌, ◌≤◌, true, All, List, ◌++◌, length, map, set, Option, Some, None, refl, sym, ap, ◌∙◌, subst, arith, inl, inr, append_assoc}
use Rattle.rv_code.specs.declared.instruction.Inst.{Inst}
use Rattle.rv_asm.specs.Assembly.{Listing, total, spot, address_of}
use Rattle.rv_asm.specs.DataWords.{Heap, StandsFor}
use Rattle.rv_asm.specs.PieceRuns.{code_with, end_of}
use Rattle.rv_asm.specs.WordMachine.{WordState, Goes, run_words, Has}
use Rattle.rv_asm.specs.declared.item.Item.TheVariants.{Plain}
use Rattle.rv_asm.proofs.Labels.{total-append, spot_le-total}
use Rattle.rv_asm.proofs.LabelsArrive.{piece-stands}
use Rattle.rv_asm.proofs.Sending.{code_from-plain, total-plain}
use Rattle.rv_asm.proofs.Stretches.{then-runs}
use Rattle.action_terms.specs.Information.{Datum, Binds, Data, Storage}
use Rattle.action_terms.specs.Actions.{Yielder}
use Rattle.action_terms.specs.Need.{yielder_count}
use Rattle.action_terms.specs.Suited.{IsSuited}
use Rattle.action_terms.specs.Yielding.{yields}
use Rattle.rv_yield.specs.Evaluates.{HasSlots, label_address, Comes, Finds, Left, Stores}
use Rattle.rv_yield.specs.Fronts.{extended}
use Rattle.rv_yield.specs.Holding.{Places}
use Rattle.rv_yield.specs.Registers.{is_built, registers_needed, HasWords}
use Rattle.rv_yield.specs.YielderCode.{value_items, store_items, stored_items}
use Rattle.rv_yield.proofs.Given.{IsNear}
use Rattle.rv_yield.proofs.Evaluated.{leads-at, comes-at}
use Rattle.rv_yield.proofs.Evaluation.{value-comes}
use Rattle.rv_yield.proofs.Steps.{Arrives, arrives-weaker}
use Rattle.rv_yield.proofs.Stored.{length-store, store-stores}
use Rattle.rv_yield.proofs.Targets.{some-count, Stands, stands-front, stands-back}
use Rattle.rv_yield.proofs.Valued.{Known, valued-cases, finds-after}

-- the datum's word stands at the offset, and at most so many instructions have led to an address; registers 0 to 4 and all
-- other words are as before
pub record HasLeft (base : ℕ) (code : List Inst) (heap : Heap) (limit f offset : ℕ) (c : WordState) (address : ℕ) (v : Option Datum) : Type 0 where
  pub datum : Datum
  pub is : v ≡ Some datum
  pub word : ℕ
  pub stands : StandsFor base heap word datum
  pub count : ℕ
  pub few : count ≤ limit
  pub end : WordState
  pub runs : run_words base code count c ≡ Goes end
  pub at : end.pc ≡ address
  pub others : (k : ℕ) → k < 5 → end.registers k ≡ c.registers k
  pub words : end.words ≡ set c.words (f + offset) word
  pub input : end.input ≡ c.input
  pub output : end.output ≡ c.output

module _
    (base : ℕ) (code : List Inst) (at : ℕ → ℕ) (l : ℕ) (l_near : at l < 2 ^ 28) (heap : Heap) (places : Places) (near_places : IsNear places) (f0 : ℕ)
    (d : Data) (b : Binds) (cells : Storage)
  where
    -- wherever the code stands, it leaves what the yielder yields
    pub stored-comes :
        (y : Yielder) → is_built y ≡ true → HasWords y → HasSlots places.bound y b → IsSuited y d b cells → registers_needed y ≤ 16 → (offset n : ℕ) (c : WordState) → offset < 33554432 → f0 + offset < length c.words →
        n + total (stored_items places offset l y) < 2 ^ 28 + 1 → c.pc ≡ address_of n → Stands code at n (stored_items places offset l y) → Finds base heap places f0 c d b cells →
        HasLeft base code heap (24 * yielder_count y) f0 offset c (address_of (n + total (stored_items places offset l y))) (yields y d b cells)
        ⊎ ((yields y d b cells ≡ None) × Arrives base code (24 * yielder_count y) 10 10 c (address_of (at l)))
    stored-comes y built words slots suited few offset n c small inside near here h finds =
        let a = value_items places 10 10 l y in
        let piece = store_items offset in
        let limit = 12 * yielder_count y in
        let sizes : total (a ++ map Plain piece) ≡ total a + length piece = omega (arith, total-append a (map Plain piece), total-plain piece) in
        let value = value-comes base code at l l_near heap places near_places f0 d b cells y built words slots suited 10 10 (omega arith) (omega (arith, few)) (inl refl) n c (omega (arith, near, sizes)) here (stands-front code at n a (map Plain piece) h) finds in
        ⊎_elim
        (λ (p : Known base code heap limit 10 10 c (address_of (n + total a)) (yields y d b cells)).
        let e = p.arrives.end in
        let finds1 = finds-after base code heap places f0 c e d b cells (p.arrives.others 2 (omega arith) (omega arith)) p.arrives.words finds in
        let has : Has code e.pc piece =
        subst (λ q. Has code q piece) (sym p.arrives.at) (subst (Has code (address_of (n + total a))) (code_from-plain at (n + total a) piece) (stands-back code at n a (map Plain piece) h)) in
        let stored = store-stores base code f0 offset e small finds1.frame (omega (arith, inside, ap length p.arrives.words)) has in
        inl (record {
          datum = p.datum;
          is = p.is;
          word = e.registers 10;
          stands = p.stands;
          count = p.arrives.count + length piece;
          few = omega (arith, p.arrives.few, length-store offset, some-count y);
          end = stored.end;
          runs = then-runs base code p.arrives.count (length piece) c e stored.end p.arrives.runs stored.runs;
          at = omega (arith, stored.pc, p.arrives.at, sizes);
          others = λ k lt. stored.others k lt ∙ p.arrives.others k (omega arith) (omega arith);
          words = stored.words ∙ ap (λ ws. set ws (f0 + offset) (e.registers 10)) p.arrives.words;
          input = stored.input ∙ p.arrives.input;
          output = stored.output ∙ p.arrives.output;
        }))
        (λ (p : (yields y d b cells ≡ None) × Arrives base code limit 10 10 c (address_of (at l))).
        inr (p.0, arrives-weaker base code limit (24 * yielder_count y) 10 10 10 10 c (address_of (at l)) p.1 (omega arith) (omega arith) (inl refl)))
        (valued-cases base code heap limit 10 10 c (address_of (n + total a)) (address_of (at l)) (yields y d b cells) value)

-- ---- behind what was appended

fewer-kept : {base : ℕ} {code : List Inst} {limit : ℕ} {c : WordState} {address : ℕ} → Comes base code limit 10 c address → Comes base code limit 5 c address
fewer-kept g = record {
  instructions = g.instructions;
  few = g.few;
  end = g.end;
  leads = g.leads;
  at = g.at;
  others = λ k lt. g.others k (omega arith);
  words = g.words;
  input = g.input;
  output = g.output;
}

pub stores :
    (places : Places) (offset l : ℕ) (y : Yielder) (old : Listing) → IsNear places → is_built y ≡ true → HasWords y → registers_needed y ≤ 16 → offset < 33554432 →
    Stores places offset l y old (extended old (stored_items places offset l y))
stores places offset l y old near_places built words few small behind c base f heap d b cells can inside =
    let piece = stored_items places offset l y in
    let new = extended old piece in
    let items = new.items ++ behind in
    let code = code_with new behind in
    let limit = 24 * yielder_count y in
    let nothing = label_address new behind l in
    let parts : items ≡ old.items ++ (piece ++ behind) = append_assoc old.items piece behind in
    let sizes : total items ≡ total old.items + (total piece + total behind) = omega (arith, ap total parts, total-append old.items (piece ++ behind), total-append piece behind) in
    let next : address_of (total old.items + total piece) ≡ end_of new = omega (arith, total-append old.items piece) in
    ⊎_elim
    (λ (p : HasLeft base code heap limit f offset c (address_of (total old.items + total piece)) (yields y d b cells)).
    subst (Left base heap code limit f offset c (end_of new) nothing) (sym p.is) (
      p.word,
      p.stands,
      record {
        instructions = p.count;
        few = p.few;
        end = p.end;
        leads = leads-at base code p.count c p.end p.runs;
        at = p.at ∙ next;
        others = p.others;
        words = p.words;
        input = p.input;
        output = p.output;
      },
    ))
    (λ (p : (yields y d b cells ≡ None) × Arrives base code limit 10 10 c nothing). subst (Left base heap code limit f offset c (end_of new) nothing) (sym p.0) (fewer-kept (comes-at base code limit 10 c nothing nothing refl p.1)))
    (stored-comes base code (spot items) l (omega (arith, spot_le-total items l, can.near)) heap places near_places f d b cells y built words can.slots can.suited few offset (total old.items) c small inside (omega (arith, can.near, sizes)) can.before
    (piece-stands items old.items piece behind parts) can.finds)
