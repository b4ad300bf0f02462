-- Words of a frame that the code moves to other offsets of it.
use Rattle.std.proofs.Common.{◌≡◌, ℕ, ◌+◌, ◌-◌, ◌*◌, ◌^◌, ◌<◌, ◌≤◌, true, List, [], ◌∷◌, ◌++◌, length, get_or, refl, sym, ap, subst, ◌∙◌, arith, ltb, leb, length-append, length-set, get_or-set_other, get_or-set_same, le-leb, pos}
use Rattle.rv_code.specs.declared.instruction.Inst.{Inst}
use Rattle.rv_code.specs.declared.instruction.Inst.TheVariants.{Op, Load, Store}
use Rattle.rv_code.specs.declared.instruction.OpOp.TheVariants.{Add}
use Rattle.rv_code.specs.declared.instruction.LoadOp.TheVariants.{Ld}
use Rattle.rv_code.specs.declared.instruction.StoreOp.TheVariants.{Sd}
use Rattle.rv_asm.specs.Pieces.{load_constant, load_parts}
use Rattle.rv_asm.specs.DataWords.{Heap, StandsFor}
use Rattle.rv_asm.specs.WordMachine.{WordState, Goes, Has, run_words}
use Rattle.rv_asm.proofs.Places.{Has-front, Has-back}
use Rattle.rv_asm.proofs.Stretches.{then-runs}
use Rattle.action_terms.specs.Information.{Data}
use Rattle.action_terms.specs.Performances.{OneOf, Here, Later}
use Rattle.sort_rules.proofs.Choices.{of_choice}
use Rattle.rv_yield.specs.Evaluates.{HasFrame}
use Rattle.rv_yield.specs.Holding.{Holds, word_at}
use Rattle.rv_yield.specs.YielderCode.{load_items, store_items}
use Rattle.rv_yield.proofs.Given.{load-loads}
use Rattle.rv_yield.proofs.Stored.{length-store, store-stores}
use Rattle.rv_codegen.specs.GivenItems.{move_items, moves_items}
use Rattle.rv_codegen.proofs.AliasWords.{IsOnce}

-- of words of which each stands once, the first isn't among the rest, and the rest stand once
pub once-first : (o : ℕ) (os : List ℕ) → IsOnce (o ∷ os) → OneOf o os → ⊥
once-first o os once m = once (o ∷ []) os o refl Here m

pub once-rest : (o : ℕ) (os : List ℕ) → IsOnce (o ∷ os) → IsOnce os
once-rest o os once us vs x e m k = once (o ∷ us) vs x (ap (λ (ys : List ℕ). o ∷ ys) e) (Later m) k

-- data that stand where nothing was written still do
pub holds-elsewhere : (base : ℕ) (heap : Heap) (f : ℕ) (written words words' : List ℕ) → ((j : ℕ) → ((o : ℕ) → OneOf o written → j ≡ f + o → ⊥) → get_or words' j 0 ≡ get_or words j 0)
    → (os : List ℕ) (d : Data) → ((x : ℕ) → OneOf x os → OneOf x written → ⊥) → Holds base heap words f os d → Holds base heap words' f os d
holds-elsewhere base heap f written words words' kept [] [] apart h = tt
holds-elsewhere base heap f written words words' kept [] (x ∷ d) apart h = absurd h
holds-elsewhere base heap f written words words' kept (o ∷ os) [] apart h = absurd h
holds-elsewhere base heap f written words words' kept (o ∷ os) (x ∷ d) apart h =
    let same : word_at words' f o ≡ word_at words f o = kept (f + o) (λ z m e. apart o Here (subst (λ y. OneOf y written) (let q : z ≡ o = omega (arith, e) in q) m)) in
    (subst (λ w. StandsFor base heap w x) (sym same) h.0, holds-elsewhere base heap f written words words' kept os d (λ y m k. apart y (Later m) k) h.1)

module _ (base : ℕ) (code : List Inst) (f : ℕ) where
  -- at most so many instructions have led to an address, and no word has changed but those at the targets; registers 0 to 4 are as before
  pub record HasWritten (limit : ℕ) (targets : List ℕ) (c : WordState) (address : ℕ) : Type 0 where
    pub count : ℕ
    pub few : count ≤ limit
    pub end : WordState
    pub runs : run_words base code count c ≡ Goes end
    pub at : end.pc ≡ address
    pub others : (k : ℕ) → k < 5 → end.registers k ≡ c.registers k
    pub size : length end.words ≡ length c.words
    pub kept : (j : ℕ) → ((o : ℕ) → OneOf o targets → j ≡ f + o → ⊥) → get_or end.words j 0 ≡ get_or c.words j 0
    pub input : end.input ≡ c.input
    pub output : end.output ≡ c.output

  abbrev pub written-none : (limit : ℕ) (targets : List ℕ) (c : WordState) (address : ℕ) → c.pc ≡ address → HasWritten limit targets c address
  written-none limit targets c address at = record {
    count = 0;
    few = omega arith;
    end = c;
    runs = refl;
    at = at;
    others = λ k lt. refl;
    size = refl;
    kept = λ j no. refl;
    input = refl;
    output = refl;
  }

  -- one stretch after another
  abbrev pub written-then : (l1 l2 limit : ℕ) (t1 t2 targets : List ℕ) (c : WordState) (p q : ℕ) (a : HasWritten l1 t1 c p) (b : HasWritten l2 t2 a.end q) → l1 + l2 ≤ limit
      → ((o : ℕ) → OneOf o t1 → OneOf o targets) → ((o : ℕ) → OneOf o t2 → OneOf o targets) → HasWritten limit targets c q
  written-then l1 l2 limit t1 t2 targets c p q a b few first second = record {
    count = a.count + b.count;
    few = omega (arith, a.few, b.few, few);
    end = b.end;
    runs = then-runs base code a.count b.count c a.end b.end a.runs b.runs;
    at = b.at;
    others = λ k lt. b.others k lt ∙ a.others k lt;
    size = b.size ∙ a.size;
    kept = λ j no. b.kept j (λ o m e. no o (second o m) e) ∙ a.kept j (λ o m e. no o (first o m) e);
    input = b.input ∙ a.input;
    output = b.output ∙ a.output;
  }

  -- the same address
  abbrev pub written-at : (limit : ℕ) (targets : List ℕ) (c : WordState) (p q : ℕ) → p ≡ q → HasWritten limit targets c p → HasWritten limit targets c q
  written-at limit targets c p q same a = record {
    count = a.count;
    few = a.few;
    end = a.end;
    runs = a.runs;
    at = a.at ∙ same;
    others = a.others;
    size = a.size;
    kept = a.kept;
    input = a.input;
    output = a.output;
  }

  -- the frame stays
  pub frame-after : (limit : ℕ) (targets : List ℕ) (c : WordState) (address : ℕ) (a : HasWritten limit targets c address) → HasFrame base f c → HasFrame base f a.end
  frame-after limit targets c address a h = record { aligned = h.aligned; below = omega (arith, h.below, a.size); frame = a.others 2 (omega arith) ∙ h.frame }

  -- ---- one word

  record HasMovedOne (x o : ℕ) (c : WordState) : Type 0 where
    written : HasWritten 20 (o ∷ []) c (c.pc + 4 * length (move_items x o))
    word : get_or written.end.words (f + o) 0 ≡ get_or c.words (f + x) 0

  move-moves : (x o : ℕ) (c : WordState) → x < 33554432 → o < 33554432 → HasFrame base f c → f + x < length c.words → f + o < length c.words → Has code c.pc (move_items x o) → HasMovedOne x o c
  move-moves x o c small_x small_o frame inside_x inside_o h =
      let load = load_items 10 x in
      let store = store_items o in
      let g = load-loads base code 10 10 (omega arith) f x c small_x frame inside_x (Has-front code c.pc load store h) in
      let e = g.arrives.end in
      let frame1 : HasFrame base f e = record { aligned = frame.aligned; below = omega (arith, frame.below, ap length g.arrives.words); frame = g.arrives.others 2 (omega arith) (omega arith) ∙ frame.frame } in
      let stands : Has code e.pc store = subst (λ q. Has code q store) (sym g.arrives.at) (Has-back code c.pc load store h) in
      let inside : f + o < length e.words = omega (arith, inside_o, ap length g.arrives.words) in
      let s = store-stores base code f o e small_o frame1 inside stands in
      record {
        written = record {
          count = g.arrives.count + length store;
          few = omega (arith, g.arrives.few, length-store o);
          end = s.end;
          runs = then-runs base code g.arrives.count (length store) c e s.end g.arrives.runs s.runs;
          at = omega (arith, s.pc, g.arrives.at, length-append load store);
          others = λ k lt. s.others k lt ∙ g.arrives.others k (omega arith) (omega arith);
          size = ap length s.words ∙ length-set e.words (f + o) (e.registers 10) ∙ ap length g.arrives.words;
          kept = λ j no. ap (λ ws. get_or ws j 0) s.words ∙ get_or-set_other e.words (f + o) j (e.registers 10) 0 (λ same. no o Here same) ∙ ap (λ ws. get_or ws j 0) g.arrives.words;
          input = s.input ∙ g.arrives.input;
          output = s.output ∙ g.arrives.output;
        };
        word = ap (λ ws. get_or ws (f + o) 0) s.words ∙ get_or-set_same e.words (f + o) (e.registers 10) 0 inside ∙ g.value;
      }

  -- ---- words one behind the other

  module _ (heap : Heap) where
    -- the words have been moved; where there are as many places as words, they stand for the data there
    pub record HasMoved (xs os : List ℕ) (d : Data) (c : WordState) : Type 0 where
      pub written : HasWritten (20 * length os) os c (c.pc + 4 * length (moves_items xs os))
      pub holds : length xs ≡ length os → Holds base heap written.end.words f os d

    none-moved : (xs os : List ℕ) (d : Data) (c : WordState) → moves_items xs os ≡ [] → (length xs ≡ length os → Holds base heap c.words f os d) → HasMoved xs os d c
    none-moved xs os d c none h = record {
      written = written-none (20 * length os) os c (c.pc + 4 * length (moves_items xs os)) (omega (arith, ap length none));
      holds = h;
    }

    -- words that are to be moved, none of them to where one of them stands
    pub moves-run : (xs os : List ℕ) (d : Data) (c : WordState) → ((x : ℕ) → OneOf x xs → (x < 33554432) × (f + x < length c.words)) → ((o : ℕ) → OneOf o os → (o < 33554432) × (f + o < length c.words))
        → ((x : ℕ) → OneOf x xs → OneOf x os → ⊥) → IsOnce os → HasFrame base f c → Holds base heap c.words f xs d → Has code c.pc (moves_items xs os) → HasMoved xs os d c
    moves-run [] [] [] c near_x near_o apart once frame h has = none-moved [] [] [] c refl (λ e. tt)
    moves-run [] [] (y ∷ d) c near_x near_o apart once frame h has = absurd h
    moves-run [] (o ∷ os) d c near_x near_o apart once frame h has = none-moved [] (o ∷ os) d c refl (λ e. absurd (omega arith))
    moves-run (x ∷ xs) [] d c near_x near_o apart once frame h has = none-moved (x ∷ xs) [] d c refl (λ e. absurd (omega arith))
    moves-run (x ∷ xs) (o ∷ os) [] c near_x near_o apart once frame h has = absurd h
    moves-run (x ∷ xs) (o ∷ os) (y ∷ d) c near_x near_o apart once frame h has =
        let first = move_items x o in
        let behind = moves_items xs os in
        let one = move-moves x o c (near_x x Here).0 (near_o o Here).0 frame (near_x x Here).1 (near_o o Here).1 (Has-front code c.pc first behind has) in
        let a = one.written in
        let frame1 = frame-after 20 (o ∷ []) c (c.pc + 4 * length first) a frame in
        let not_o : (z : ℕ) → OneOf z xs → OneOf z (o ∷ []) → ⊥ = λ z m k. apart z (Later m) (only o os z k) in
        let h1 : Holds base heap a.end.words f xs d = holds-elsewhere base heap f (o ∷ []) c.words a.end.words a.kept xs d not_o h.1 in
        let stands : Has code a.end.pc behind = subst (λ q. Has code q behind) (sym a.at) (Has-back code c.pc first behind has) in
        let rest = moves-run xs os d a.end (λ z m. ((near_x z (Later m)).0, omega (arith, (near_x z (Later m)).1, a.size))) (λ z m. ((near_o z (Later m)).0, omega (arith, (near_o z (Later m)).1, a.size)))
        (λ z m k. apart z (Later m) (Later k)) (once-rest o os once) frame1 h1 stands in
        let b = rest.written in
        let there : a.end.pc + 4 * length behind ≡ c.pc + 4 * length (first ++ behind) = omega (arith, a.at, length-append first behind) in
        let b' = subst (λ q. HasWritten (20 * length os) os a.end q) there b in
        let word : word_at b.end.words f o ≡ word_at c.words f x = b.kept (f + o) (λ z m e. once-first o os once (subst (λ w. OneOf w os) (let q : z ≡ o = omega (arith, e) in q) m)) ∙ one.word in
        record {
          written = record {
            count = a.count + b.count;
            few = omega (arith, a.few, b.few);
            end = b.end;
            runs = then-runs base code a.count b.count c a.end b.end a.runs b.runs;
            at = b.at ∙ there;
            others = λ k lt. b.others k lt ∙ a.others k lt;
            size = b.size ∙ a.size;
            kept = λ j no. b.kept j (λ z m e. no z (Later m) e) ∙ a.kept j (λ z m e. no z (only o os z m) e);
            input = b.input ∙ a.input;
            output = b.output ∙ a.output;
          };
          holds = λ e. (subst (λ w. StandsFor base heap w y) (sym word) h.0, rest.holds (omega (arith, e)));
        }
      where
        only : (o : ℕ) (os : List ℕ) (z : ℕ) → OneOf z (o ∷ []) → OneOf z (o ∷ os)
        only o os z Here = Here
        only o os z (Later m) = elim m [ ]

-- ---- how many instructions

-- a constant of 28 bits takes two instructions at most
few-constant : (rd value : ℕ) → value < 2 ^ 28 → length (load_constant rd value) ≤ 2
few-constant rd value small =
    of_choice (ltb value 2048) _ _ (λ is. length is ≤ 2) (λ e. omega arith)
    (λ e. of_choice (leb (2 ^ 64 - 2048) value) _ _ (λ is. length is ≤ 2) (λ q. omega arith)
    (λ q. of_choice (leb value (2 ^ 28)) 0 _ (λ n. length (load_parts n rd value) ≤ 2) (λ r. omega arith) (λ r. absurd {0} (let yes : leb value (2 ^ 28) ≡ true = le-leb value (2 ^ 28) (omega arith) in cc))))

length-load_few : (x : ℕ) → x < 33554432 → length (load_items 10 x) ≤ 4
length-load_few x small =
    of_choice (ltb x 256) _ _ (λ is. length is ≤ 4) (λ e. omega arith)
    (λ e. omega (arith, few-constant 10 (8 * x) (omega arith), length-append (load_constant 10 (8 * x)) (Op Add 10 10 2 ∷ Load Ld 10 10 (pos 0) ∷ [])))

length-store_few : (o : ℕ) → o < 33554432 → length (store_items o) ≤ 4
length-store_few o small =
    of_choice (ltb o 256) _ _ (λ is. length is ≤ 4) (λ e. omega arith)
    (λ e. omega (arith, few-constant 11 (8 * o) (omega arith), length-append (load_constant 11 (8 * o)) (Op Add 11 11 2 ∷ Store Sd 11 10 (pos 0) ∷ [])))

-- at most 8 for each place
pub length-moves : (xs os : List ℕ) → ((x : ℕ) → OneOf x xs → x < 33554432) → ((o : ℕ) → OneOf o os → o < 33554432) → length (moves_items xs os) ≤ 8 * length os
length-moves [] os near_x near_o = omega arith
length-moves (x ∷ xs) [] near_x near_o = omega arith
length-moves (x ∷ xs) (o ∷ os) near_x near_o =
    omega (arith, length-append (move_items x o) (moves_items xs os), length-append (load_items 10 x) (store_items o), length-load_few x (near_x x Here), length-store_few o (near_o o Here), length-moves xs os (λ z m. near_x z (Later m)) (λ z m. near_o z (Later m)))
