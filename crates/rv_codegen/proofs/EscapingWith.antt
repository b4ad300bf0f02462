-- Nodes that escape with what they are given: it is put in a row, and the code goes to the entry for escapes.
use Rattle.std.proofs.Common.{◌≡◌, ℕ, ◌+◌, ◌*◌, ◌^◌, ◌<◌, ◌≤◌, List, [], ◌∷◌, ◌++◌, length, refl, sym, subst, ◌∙◌, arith, length-append}
use Rattle.rv_asm.specs.Assembly.{address_of}
use Rattle.rv_asm.specs.WordMachine.{Has}
use Rattle.rv_asm.proofs.Places.{Has-front, Has-back}
use Rattle.action_terms.specs.Actions.{Escape, Simple, node_at}
use Rattle.action_terms.specs.Acting.{Ended, Esc}
use Rattle.action_terms.specs.Need.{node_yielder_count}
use Rattle.action_terms.specs.Performances.{OneOf, Here}
use Rattle.action_terms.specs.Steps.{silent}
use Rattle.frame_layout.specs.Layouts.{AreConsecutive}
use Rattle.rv_codegen.specs.Blocks.{escape_label}
use Rattle.rv_codegen.specs.GivenItems.{escape_items, moves_items, point_items}
use Rattle.rv_codegen.proofs.AliasWords.{run-once}
use Rattle.rv_codegen.proofs.FindsGiven.{finds-given, frame-inside}
use Rattle.rv_codegen.proofs.GivenItems.{holds-length}
use Rattle.rv_codegen.proofs.MovedWords.{HasWritten, frame-after, holds-elsewhere, moves-run, written-at, written-then}
use Rattle.rv_codegen.proofs.Performing.{step-escaped}
use Rattle.rv_codegen.proofs.Pointing.{consecutive-row, first_of, points-run}
use Rattle.rv_codegen.proofs.RestPoints.{Laid, MayBeCaught, Starting, StartGoesOn, near, open-run}
use Rattle.rv_codegen.proofs.Settings.{Point, Way, Setting, code, start, escape, frame_words}
use Rattle.rv_codegen.proofs.Suited.{SuitsAt}
use Rattle.rv_codegen.proofs.WrittenTurns.{MayWriteAt, did-registers, written-did}

module _ (s : Setting) (laid : Laid s) (x : Starting s) where
  -- where the node finds its data, and where it puts those that it escapes with: near, in its frame, apart, in a row
  pub record EscapesPlaces (escaped : List ℕ) : Type 0 where
    pub near_given : (o : ℕ) → OneOf o (s.places.given x.k) → o < 33554432
    pub given_inside : (o : ℕ) → OneOf o (s.places.given x.k) → o < frame_words s x.k
    pub near_escaped : (o : ℕ) → OneOf o escaped → o < 33554432
    pub own : MayWriteAt s laid x escaped
    pub row : AreConsecutive escaped
    pub apart : (o : ℕ) → OneOf o (s.places.given x.k) → OneOf o escaped → ⊥
    pub caught : MayBeCaught s x.k (first_of escaped) (length escaped)
    pub few : length escaped ≤ s.widest
    pub some_words : 0 < frame_words s x.k

  -- some instructions stand at the node's start, and behind them the code goes to the entry
  pub record EscapesBehind (size : ℕ) : Type 0 where
    pub from : Point
    pub from_is : from.place ≡ (start s x.k).place + size
    pub within : from.place < 2 ^ 28
    pub rank : from.rank ≤ (start s x.k).rank
    pub leave : Way (code s) from (escape s)

  pub first-inside : (escaped : List ℕ) → EscapesPlaces escaped → (first_of escaped < 33554432) × (first_of escaped < frame_words s x.k)
  first-inside [] places = (omega arith, places.some_words)
  first-inside (o ∷ os) places = (places.near_escaped o Here, places.own.inside o Here)

  pub escape-moves : node_at s.action x.k ≡ Simple Escape → (escaped : ℕ → List ℕ) → SuitsAt s.action s.places.out escaped x.k x.d x.b x.world → (places : EscapesPlaces (escaped x.k)) → EscapesBehind (length (escape_items (s.places.given x.k) (escaped x.k)))
      → Has (code s) (address_of (start s x.k).place) (escape_items (s.places.given x.k) (escaped x.k)) → StartGoesOn s x
  escape-moves e escaped suits places behind stands =
      let given = s.places.given x.k in
      let os = escaped x.k in
      let h = x.runs.here in
      let moves = moves_items given os in
      let points = point_items os in
      let c = x.state in
      let f = finds-given s laid x places.given_inside in
      let has : Has (code s) c.pc (moves ++ points) = subst (λ q. Has (code s) q (escape_items given os)) (sym x.runs.at) stands in
      let moved = moves-run s.base (code s) h.f h.heap given os x.d c (λ o m. (places.near_given o m, frame-inside s laid x o (places.given_inside o m))) (λ o m. (places.near_escaped o m, frame-inside s laid x o (places.own.inside o m))) places.apart (run-once os places.row) f.frame f.holds
      (Has-front (code s) c.pc moves points has) in
      let a = moved.written in
      let first = first-inside os places in
      let frame1 = frame-after s.base (code s) h.f (20 * length os) os c (c.pc + 4 * length moves) a f.frame in
      let inside : h.f + first_of os < length a.end.words = omega (arith, a.size, frame-inside s laid x (first_of os) first.1) in
      let has1 : Has (code s) a.end.pc points = subst (λ q. Has (code s) q points) (sym a.at) (Has-back (code s) c.pc moves points has) in
      let pointed = points-run s.base (code s) h.f os a.end first.0 inside frame1 has1 in
      let there : a.end.pc + 4 * length points ≡ address_of behind.from.place = omega (arith, a.at, x.runs.at, behind.from_is, length-append moves points) in
      let b = written-at s.base (code s) h.f 9 [] a.end (a.end.pc + 4 * length points) (address_of behind.from.place) there pointed.written in
      let limit = 20 * length os + 9 in
      let w : HasWritten s.base (code s) h.f limit os c (address_of behind.from.place) = written-then s.base (code s) h.f (20 * length os) 9 limit os [] os c (c.pc + 4 * length moves) (address_of behind.from.place) a b (omega arith) (λ o m. m) (λ o none. elim none [ ]) in
      let paid : 400 + 24 * (length os + 1) * (0 + 1) ≤ s.factor = subst (λ m. 400 + 24 * (length os + 1) * (node_yielder_count m + 1) ≤ s.factor) e (laid.paid x.k (length os) places.few) in
      let n = silent (Ended (Esc x.d)) in
      let o = open-run s x.k x.d x.b x.world (Simple Escape) n e Here in
      let did = written-did s laid x limit os places.own (address_of behind.from.place) w (Ended (Esc x.d)) behind.from (escape s) refl behind.within (near s laid escape_label) behind.rank (omega (arith, paid)) behind.leave in
      let ten = did-registers s laid x limit os places.own (address_of behind.from.place) w (Ended (Esc x.d)) behind.from (escape s) refl behind.within (near s laid escape_label) behind.rank (omega (arith, paid)) behind.leave 10 (omega arith) in
      let many : length x.d ≡ length os = suits.escapes n x.d o refl in
      let moved_held = moved.holds (omega (arith, many, holds-length s.base h.heap c.words h.f given x.d f.holds)) in
      let held = holds-elsewhere s.base h.heap h.f [] a.end.words w.end.words pointed.written.kept os x.d (λ z m none. elim none [ ]) moved_held in
      step-escaped s laid x n x.d o refl did (first_of os) (ten ∙ pointed.value) (consecutive-row s.base h.heap w.end.words h.f os x.d places.row held) (subst (MayBeCaught s x.k (first_of os)) (sym many) places.caught)
