-- What the code of yielders brings nodes to: where nothing is yielded it has gone to the entry for failures.
use Rattle.std.proofs.Common.{◌≡◌, ℕ, zero, suc, ◌+◌, ◌<◌, ◌≤◌, true, List, [], refl, ◌∙◌, arith, inl}
use Rattle.rv_code.specs.declared.instruction.Inst.{Inst}
use Rattle.rv_asm.specs.Assembly.{address_of}
use Rattle.rv_asm.specs.WordMachine.{WordState, Goes, run_words}
use Rattle.rv_asm.proofs.Places.{and-true}
use Rattle.rv_asm.proofs.Stretches.{quiet-between}
use Rattle.action_terms.specs.Actions.{Yielder, NumberLiteral, TruthLiteral, Given, GivenAt, StoredIn, OnTwo, OnOne}
use Rattle.action_terms.specs.Literals.{YielderFits}
use Rattle.action_terms.specs.Frames.{plugged}
use Rattle.action_terms.specs.Steps.{silent, failed, closures_in}
use Rattle.rv_yield.specs.Registers.{is_built, HasWords}
use Rattle.rv_yield.proofs.Steps.{Arrives}
use Rattle.rv_codegen.proofs.Holding.{grows-same}
use Rattle.rv_codegen.proofs.InputLeft.{left-same}
use Rattle.rv_codegen.proofs.Performing.{Did}
use Rattle.rv_codegen.proofs.RestPoints.{Laid, Starting}
use Rattle.rv_codegen.proofs.Settings.{Setting, code, start, failure}
use Rattle.rv_codegen.proofs.Units.{units-more}

-- ---- yielders whose code can be made

-- they make no closure
pub built-makes_none : (y : Yielder) → is_built y ≡ true → closures_in y ≡ []
built-makes_none (NumberLiteral z) built = refl
built-makes_none (TruthLiteral t) built = refl
built-makes_none (Given sort) built = refl
built-makes_none (GivenAt sort place) built = refl
built-makes_none (StoredIn sort y) built = built-makes_none y built
built-makes_none (OnTwo f y1 y2) built =
    let q = and-true (is_built y1) (is_built y2) built in
    rw (built-makes_none y1 q.0, built-makes_none y2 q.1) refl
built-makes_none (OnOne f y) built = built-makes_none y built
built-makes_none _ built = absurd (cc)

-- the numbers in a yielder are those of 64 bits
pub has-words : (y : Yielder) → YielderFits y → HasWords y
has-words (NumberLiteral z) fits = fits
has-words (OnTwo f y1 y2) fits = (has-words y1 fits.0, has-words y2 fits.1)
has-words (OnOne f y) fits = has-words y fits
has-words (StoredIn sort y) fits = has-words y fits
has-words _ fits = tt

-- a run from one place to another, further in front, has an instruction
pub moves-on : (base : ℕ) (code : List Inst) (n : ℕ) (c e : WordState) (p q : ℕ) → run_words base code n c ≡ Goes e → c.pc ≡ address_of p → e.pc ≡ address_of q → q < p → 0 < n
moves-on base code zero c e p q runs at there less =
    let stays : Goes c ≡ Goes e = runs in
    let same : c.pc ≡ e.pc = cc in
    absurd (omega (arith, at, there, same, less))
moves-on base code (suc n) c e p q runs at there less = omega arith

-- the node has failed
pub nothing-did : (s : Setting) (laid : Laid s) (x : Starting s) (limit : ℕ) → limit + 64 ≤ s.factor → (failure s).place < (start s x.k).place → Arrives s.base (code s) limit 10 10 x.state (address_of (failure s).place) → Did s laid x (silent failed) (failure s)
nothing-did s laid x limit paid less a =
    let h = x.runs.here in
    record {
      end = a.end;
      count = a.count;
      some = inl (moves-on s.base (code s) a.count x.state a.end (start s x.k).place (failure s).place a.runs x.runs.at a.at less);
      few = omega (arith, a.few, paid);
      runs = a.runs;
      between = quiet-between s.base (code s) a.count x.state a.end a.runs a.output;
      at = a.at;
      heap = h.heap;
      grows = grows-same h.heap;
      words = h.words;
      stands = record { region = a.others 3 (omega arith) (omega arith) ∙ h.stands.region; frame_at = a.others 2 (omega arith) (omega arith) ∙ h.stands.frame_at; words_are = a.words ∙ h.stands.words_are };
      region = h.region;
      agrees = record { here = λ o no. refl; below = λ j l lt. refl };
      units_are = units-more s h.heap h.words (plugged x.frames (silent failed)) x.steps x.world.cells h.units_are;
      left = left-same {ys = a.end.input} a.input x.left;
      output = a.output ∙ x.shown;
    }
