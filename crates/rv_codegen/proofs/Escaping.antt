-- Nodes that escape: the address of the data goes to register 10, and the code to the entry for escapes.
use Rattle.std.proofs.Common.{◌≡◌, ℕ, zero, suc, ◌+◌, ◌*◌, ◌^◌, ◌<◌, List, [], ◌∷◌, ◌++◌, length, get_or, map, refl, sym, ◌∙◌, subst, arith, inl, append_assoc}
use Rattle.rv_asm.specs.Assembly.{address_of, far_jump, spot}
use Rattle.rv_asm.specs.DataWords.{Heap, StandsFor}
use Rattle.rv_asm.specs.WordMachine.{Has}
use Rattle.rv_asm.specs.declared.item.Item.TheVariants.{Plain, Jump}
use Rattle.rv_asm.proofs.Stretches.{quiet-between, then-runs}
use Rattle.action_terms.specs.Information.{Data}
use Rattle.action_terms.specs.Actions.{Escape, Simple, node_at}
use Rattle.action_terms.specs.Acting.{Esc, Ended}
use Rattle.action_terms.specs.Frames.{plugged}
use Rattle.action_terms.specs.Performances.{OneOf, Here}
use Rattle.action_terms.specs.Steps.{silent}
use Rattle.rv_codegen.specs.Blocks.{address_items, escape_label, start_of, opening}
use Rattle.rv_codegen.proofs.FrameAddresses.{HasAddress, address-comes}
use Rattle.rv_codegen.proofs.GivenItems.{holds-length}
use Rattle.rv_codegen.proofs.Holding.{Holds, grows-same, in_row}
use Rattle.rv_codegen.proofs.InputLeft.{left-same}
use Rattle.rv_prelude.proofs.Jumps.{jumped, jump-runs}
use Rattle.rv_codegen.proofs.Performing.{Did, step-escaped}
use Rattle.rv_codegen.proofs.RestPoints.{Laid, MayBeCaught, Starting, StartGoesOn, near, open-run}
use Rattle.rv_codegen.proofs.Settings.{Setting, code, start, escape, node_words}
use Rattle.rv_codegen.proofs.Standing.{NodeStands}
use Rattle.rv_codegen.proofs.Units.{units-more}
use Rattle.rv_prelude.proofs.Cursors.{Cursor, plain-stands, over-plain, jump-stands, cursor-within}

-- words in a row from one on are, from that word on, the first ones
pub in-row : (base : ℕ) (heap : Heap) (words : List ℕ) (f o i n : ℕ) (d : Data) → Holds base heap words f (in_row (o + i) n) d → Holds base heap words (f + o) (in_row i n) d
in-row base heap words f o i zero [] h = tt
in-row base heap words f o i zero (x ∷ d) h = absurd h
in-row base heap words f o i (suc n) [] h = absurd h
in-row base heap words f o i (suc n) (x ∷ d) h =
    let place : f + (o + i) ≡ f + o + i = omega arith in
    let next : o + i + 1 ≡ o + (i + 1) = omega arith in
    (subst (λ j. StandsFor base heap (get_or words j 0) x) place h.0, in-row base heap words f o (i + 1) n d (subst (λ j. Holds base heap words f (in_row j n) d) next h.1))

module _ (s : Setting) (laid : Laid s) (x : Starting s) where
  -- where the data stand
  abbrev pub given : List ℕ
  given = s.places.given x.k

  abbrev pub first : ℕ
  first = get_or given 0 0

  abbrev size : ℕ
  size = length (address_items first)

  -- what stands in the code of the node
  record EscapeStands : Type 0 where
    address : Has (code s) (address_of (start s x.k).place) (address_items first)
    then : Has (code s) (address_of ((start s x.k).place + size)) (far_jump ((start s x.k).place + size) (escape s).place)
    within : (start s x.k).place + size < 2 ^ 28

  escape-stands : NodeStands s.items (node_words s) s.exits x.k (Simple Escape) → EscapeStands
  escape-stands stands =
      let n = stands.place in
      let here : spot s.items (start_of x.k) ≡ n = stands.opened.start in
      let rest = opening (suc x.k) ++ stands.behind in
      let c : Cursor s.items n (map Plain (address_items first) ++ (Jump escape_label ∷ rest)) = subst (Cursor s.items n) (append_assoc (map Plain (address_items first)) (Jump escape_label ∷ []) rest) stands.opened.cursor in
      let c1 : Cursor s.items (n + size) (Jump escape_label ∷ rest) = over-plain s.items n (address_items first) (Jump escape_label ∷ rest) c in
      record {
        address = subst (λ m. Has (code s) (address_of m) (address_items first)) (sym here) (plain-stands s.items n (address_items first) (Jump escape_label ∷ rest) c);
        then = subst (λ m. Has (code s) (address_of (m + size)) (far_jump (m + size) (escape s).place)) (sym here) (jump-stands s.items (n + size) escape_label rest c1);
        within = omega (arith, here, cursor-within s.items (n + size) (Jump escape_label ∷ rest) c1, laid.small);
      }

  -- the first of the words is one of the frame; where there is none, the frame itself stands for it
  pub first-near : first < 33554432
  first-near = by given (λ o m. omega (arith, laid.data_laid.given_within x.k o x.runs.here.node m, laid.data_laid.reached x.k x.runs.here.node))
    where
      by : (os : List ℕ) → ((o : ℕ) → OneOf o os → o < 33554432) → get_or os 0 0 < 33554432
      by [] h = omega arith
      by (o ∷ os) h = h o Here

  pub first-low : s.base + 8 * (x.runs.here.f + first) < 2 ^ 64
  first-low = omega (arith, first-near, x.runs.here.clear, laid.units_inside, laid.below)

  address-found : EscapeStands → HasAddress s.base (code s) x.runs.here.f first x.state
  address-found stands =
      address-comes s.base (code s) x.runs.here.f first x.state first-near x.runs.here.stands.frame_at first-low (subst (λ q. Has (code s) q (address_items first)) (sym x.runs.at) stands.address)

  abbrev escape-did : EscapeStands → Did s laid x (silent (Ended (Esc x.d))) (escape s)
  escape-did stands =
      let h = x.runs.here in
      let n = silent (Ended (Esc x.d)) in
      let place = (start s x.k).place in
      let a = address-found stands in
      let next = jump-runs s.base (code s) a.end (place + size) (escape s).place stands.within (near s laid escape_label) (omega (arith, x.runs.at, a.pc)) stands.then in
      let end = jumped a.end (place + size) (escape s).place in
      let runs = then-runs s.base (code s) a.count 2 x.state a.end end a.runs next in
      record {
        end = end;
        count = a.count + 2;
        some = inl (omega arith);
        few = omega (arith, s.ample, a.few);
        runs = runs;
        between = quiet-between s.base (code s) (a.count + 2) x.state end runs a.output;
        at = refl;
        heap = h.heap;
        grows = grows-same h.heap;
        words = h.words;
        stands = record { region = a.others 3 (omega arith) ∙ h.stands.region; frame_at = a.others 2 (omega arith) ∙ h.stands.frame_at; words_are = a.words ∙ h.stands.words_are };
        region = h.region;
        agrees = record { here = λ o no. refl; below = λ j l lt. refl };
        units_are = units-more s h.heap h.words (plugged x.frames n) x.steps x.world.cells h.units_are;
        left = left-same {ys = end.input} a.input x.left;
        output = a.output ∙ x.shown;
      }

  -- the node escapes with what it is given
  pub escape-goes : node_at s.action x.k ≡ Simple Escape → NodeStands s.items (node_words s) s.exits x.k (Simple Escape) → StartGoesOn s x
  escape-goes e stands =
      let h = x.runs.here in
      let n = silent (Ended (Esc x.d)) in
      let at = escape-stands stands in
      let did = escape-did at in
      let long = holds-length s.base h.heap h.words h.f given x.d x.runs.given in
      let zero : first ≡ first + 0 = omega arith in
      let row : Holds s.base h.heap h.words h.f (in_row (first + 0) (length x.d)) x.d =
      subst (λ m. Holds s.base h.heap h.words h.f (in_row (first + 0) m) x.d) (sym long) (subst (λ o. Holds s.base h.heap h.words h.f (in_row o (length given)) x.d) zero (subst (λ os. Holds s.base h.heap h.words h.f os x.d) (laid.data_laid.row x.k) x.runs.given)) in
      step-escaped s laid x n x.d (open-run s x.k x.d x.b x.world (Simple Escape) n e Here) refl did first (address-found at).value
      (in-row s.base h.heap h.words h.f first 0 (length x.d) x.d row)
      (subst (MayBeCaught s x.k first) (sym long) (laid.data_laid.caught x.k h.node))
