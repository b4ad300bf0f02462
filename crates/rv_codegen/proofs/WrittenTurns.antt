-- What the code of a node has done where it has written words of its frame that the node may write, and nothing beside: for steps that do nothing beside the tree.
use Rattle.std.proofs.Common.{◌≡◌, ⊎_elim, ℕ, ◌+◌, ◌^◌, ◌<◌, ◌≤◌, List, ◌∷◌, length, get_or, refl, ap, ◌∙◌, subst, arith, inl, inr}
use Rattle.rv_asm.specs.Assembly.{address_of}
use Rattle.rv_asm.proofs.Stretches.{quiet-between, then-runs}
use Rattle.action_terms.specs.Acting.{Tree}
use Rattle.action_terms.specs.Frames.{plugged}
use Rattle.action_terms.specs.Performances.{OneOf}
use Rattle.action_terms.specs.Steps.{silent}
use Rattle.rv_codegen.proofs.AroundKept.{frames-high}
use Rattle.rv_codegen.proofs.Holding.{grows-same}
use Rattle.rv_codegen.proofs.InputLeft.{left-same}
use Rattle.rv_codegen.proofs.MovedWords.{HasWritten}
use Rattle.rv_codegen.proofs.Performing.{Did}
use Rattle.rv_codegen.proofs.RestPoints.{Laid, Region, Starting}
use Rattle.rv_codegen.proofs.Settings.{Point, Way, way-runs, Setting, code, start, frame_words}
use Rattle.rv_codegen.proofs.Units.{units-kept}

module _ (s : Setting) (laid : Laid s) (x : Starting s) where
  -- the offsets are of the frame, and the node may write there
  pub record MayWriteAt (targets : List ℕ) : Type 0 where
    pub may : (o : ℕ) → OneOf o targets → s.places.Writes x.k o
    pub inside : (o : ℕ) → OneOf o targets → o < frame_words s x.k

  -- the frame lies behind the front of the region
  pub high : 512 ≤ x.runs.here.f
  high = frames-high s x.runs.here.heap x.runs.here.words x.frames x.runs.here.f x.k x.runs.here.chains x.runs.here.around

  module _ (limit : ℕ) (targets : List ℕ) (own : MayWriteAt targets) (address : ℕ) (w : HasWritten s.base (code s) x.runs.here.f limit targets x.state address) where
    -- a word that isn't at one of the targets is as it was
    pub word-kept : (j : ℕ) → ((o : ℕ) → OneOf o targets → j ≡ x.runs.here.f + o → ⊥) → get_or w.end.words j 0 ≡ get_or x.runs.here.words j 0
    word-kept j outside = w.kept j outside ∙ ap (λ ws. get_or ws j 0) x.runs.here.stands.words_are

    pub low-kept : (j : ℕ) → j < x.runs.here.f → get_or w.end.words j 0 ≡ get_or x.runs.here.words j 0
    low-kept j less = word-kept j (λ o m e. omega (arith, e, less))

    pub above-kept : (j : ℕ) → 512 + s.stack ≤ j → get_or w.end.words j 0 ≡ get_or x.runs.here.words j 0
    above-kept j above = word-kept j (λ o m e. omega (arith, e, above, own.inside o m, x.runs.here.clear))

    pub region-kept : Region s w.end.words x.runs.here.chains
    region-kept =
        let r = x.runs.here.region in
        record {
          size = w.size ∙ ap length x.runs.here.stands.words_are ∙ r.size;
          alternative = low-kept 1 (omega (arith, high)) ∙ r.alternative;
          trap = low-kept 2 (omega (arith, high)) ∙ r.trap;
          mark = low-kept 3 (omega (arith, high)) ∙ r.mark;
        }

    -- the code then goes on from a point to another
    abbrev pub written-did : (tree : Tree) (from to : Point) → address ≡ address_of from.place → from.place < 2 ^ 28 → to.place < 2 ^ 28 → from.rank ≤ (start s x.k).rank → limit + 66 ≤ s.factor → Way (code s) from to → Did s laid x (silent tree) to
    written-did tree from to at near_from near_to rank paid way =
        let h = x.runs.here in
        let g = way-runs s.base (code s) w.end from to near_from near_to (w.at ∙ at) way in
        let runs = then-runs s.base (code s) w.count g.count x.state w.end g.end w.runs g.runs in
        let output = g.output ∙ w.output in
        record {
          end = g.end;
          count = w.count + g.count;
          some = ⊎_elim (λ p. inl (omega (arith, p))) (λ p. inr (omega (arith, p, rank))) g.some;
          few = omega (arith, w.few, g.few, paid);
          runs = runs;
          between = quiet-between s.base (code s) (w.count + g.count) x.state g.end runs output;
          at = g.at;
          heap = h.heap;
          grows = grows-same h.heap;
          words = w.end.words;
          stands = record {
            region = g.others 3 (omega arith) ∙ w.others 3 (omega arith) ∙ h.stands.region;
            frame_at = g.others 2 (omega arith) ∙ w.others 2 (omega arith) ∙ h.stands.frame_at;
            words_are = g.words;
          };
          region = region-kept;
          agrees = record {
            here = λ o no. word-kept (h.f + o) (λ z m e. no (subst (s.places.Writes x.k) (let q : z ≡ o = omega (arith, e) in q) (own.may z m)));
            below = λ j l less. low-kept j less;
          };
          units_are = units-kept s h.heap h.words w.end.words x.steps (plugged x.frames (silent tree) ∷ x.steps) x.world.cells (λ j out. ⊎_elim (λ q. low-kept j (omega (arith, q.1, high))) (λ q. above-kept j q) out) (omega arith) h.units_are;
          left = left-same {ys = g.end.input} (g.input ∙ w.input) x.left;
          output = output ∙ x.shown;
        }

    -- the way leaves the registers below 31
    pub did-registers : (tree : Tree) (from to : Point) (at : address ≡ address_of from.place) (near_from : from.place < 2 ^ 28) (near_to : to.place < 2 ^ 28) (rank : from.rank ≤ (start s x.k).rank) (paid : limit + 66 ≤ s.factor) (way : Way (code s) from to) (k : ℕ) → k < 31
        → (written-did tree from to at near_from near_to rank paid way).end.registers k ≡ w.end.registers k
    did-registers tree from to at near_from near_to rank paid way k less = (way-runs s.base (code s) w.end from to near_from near_to (w.at ∙ at) way).others k less

    -- or it has arrived, by an instruction at least
    abbrev pub written-there : (tree : Tree) (to : Point) → address ≡ address_of to.place → 0 < w.count → limit + 64 ≤ s.factor → Did s laid x (silent tree) to
    written-there tree to at some paid =
        let h = x.runs.here in
        record {
          end = w.end;
          count = w.count;
          some = inl some;
          few = omega (arith, w.few, paid);
          runs = w.runs;
          between = quiet-between s.base (code s) w.count x.state w.end w.runs w.output;
          at = w.at ∙ at;
          heap = h.heap;
          grows = grows-same h.heap;
          words = w.end.words;
          stands = record { region = w.others 3 (omega arith) ∙ h.stands.region; frame_at = w.others 2 (omega arith) ∙ h.stands.frame_at; words_are = refl };
          region = region-kept;
          agrees = record {
            here = λ o no. word-kept (h.f + o) (λ z m e. no (subst (s.places.Writes x.k) (let q : z ≡ o = omega (arith, e) in q) (own.may z m)));
            below = λ j l less. low-kept j less;
          };
          units_are = units-kept s h.heap h.words w.end.words x.steps (plugged x.frames (silent tree) ∷ x.steps) x.world.cells (λ j out. ⊎_elim (λ q. low-kept j (omega (arith, q.1, high))) (λ q. above-kept j q) out) (omega arith) h.units_are;
          left = left-same {ys = w.end.input} w.input x.left;
          output = w.output ∙ x.shown;
        }
