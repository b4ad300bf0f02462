-- Nodes that escape with the data of items: they are put in a row, and the code goes to the entry for escapes; or the first item that yields nothing has led to the entry for failures.
use Rattle.std.proofs.Common.{◌≡◌, ℕ, ◌+◌, ◌*◌, ◌<◌, ◌≤◌, List, [], ◌∷◌, length, map, Option, Some, None, refl, sym, ap, subst, ◌∙◌, arith}
use Rattle.rv_asm.specs.Assembly.{address_of, spot, total, code_from}
use Rattle.rv_asm.specs.WordMachine.{Has}
use Rattle.rv_asm.specs.declared.item.Item.{Item as AsmItem}
use Rattle.rv_asm.specs.declared.item.Item.TheVariants.{Plain}
use Rattle.rv_asm.proofs.Labels.{total-append}
use Rattle.rv_asm.proofs.Sending.{code_from-plain, total-plain}
use Rattle.action_terms.specs.Information.{Data}
use Rattle.action_terms.specs.Actions.{EscapeWith, Item, Simple, node_at}
use Rattle.action_terms.specs.Acting.{Ended, Esc, Run}
use Rattle.action_terms.specs.Need.{items_yielder_count, node_yielder_count}
use Rattle.action_terms.specs.Performances.{OneOf, Here}
use Rattle.action_terms.specs.Steps.{closures_in_items, ends_with, failed, making, open_steps, silent}
use Rattle.action_terms.specs.Suited.{AreSuited, IsSuitedNode}
use Rattle.action_terms.specs.Yielding.{items_yield}
use Rattle.rv_yield.proofs.Targets.{stands-back, stands-front}
use Rattle.rv_codegen.specs.Blocks.{escape_label, fail_label}
use Rattle.rv_codegen.specs.GivenItems.{escape_with_items, give_items, point_items}
use Rattle.rv_codegen.proofs.AliasWords.{run-once}
use Rattle.rv_codegen.proofs.EscapingWith.{EscapesBehind, EscapesPlaces, first-inside}
use Rattle.rv_codegen.proofs.FindsGiven.{all-members, finds-given, frame-inside, has-frame, units-behind}
use Rattle.rv_codegen.proofs.GivenItems.{AreBuilt, Gave, gives-run, holds-length}
use Rattle.rv_codegen.proofs.Giving.{items-paid}
use Rattle.rv_codegen.proofs.Holding.{Holds}
use Rattle.rv_codegen.proofs.MovedWords.{HasWritten, frame-after, holds-elsewhere, written-at, written-then}
use Rattle.rv_codegen.proofs.Nothing.{moves-on}
use Rattle.rv_codegen.proofs.Performing.{step-escaped, step-failed}
use Rattle.rv_codegen.proofs.Pointing.{consecutive-row, first_of, points-run}
use Rattle.rv_codegen.proofs.RestPoints.{Laid, MayBeCaught, Starting, StartGoesOn, near, open-run}
use Rattle.rv_codegen.proofs.Settings.{Setting, code, start, escape, failure}
use Rattle.rv_codegen.proofs.Suited.{SuitsAt}
use Rattle.rv_codegen.proofs.WrittenTurns.{did-registers, written-did, written-there}

module _ (s : Setting) (laid : Laid s) (x : Starting s) (is : List Item) (e : node_at s.action x.k ≡ Simple (EscapeWith is)) (escaped : ℕ → List ℕ) where
  abbrev os : List ℕ
  os = escaped x.k

  abbrev data_items : List AsmItem
  data_items = give_items (s.places.given x.k) os fail_label is

  abbrev whole_items : List AsmItem
  whole_items = escape_with_items (s.places.given x.k) os fail_label is

  abbrev limit : ℕ
  limit = 24 * items_yielder_count is + 20 * length os

  abbrev middle : ℕ
  middle = (start s x.k).place + total data_items

  abbrev yielded : Option Data
  yielded = items_yield is x.d x.b x.world.cells

  escapes-paid : EscapesPlaces s laid x os → limit + 400 ≤ s.factor
  escapes-paid places =
      let n = length os in
      let paid : 400 + 24 * (n + 1) * (items_yielder_count is + 1) ≤ s.factor = subst (λ m. 400 + 24 * (n + 1) * (node_yielder_count m + 1) ≤ s.factor) e (laid.paid x.k n places.few) in
      omega (arith, paid, items-paid n (items_yielder_count is))

  open-escaped : closures_in_items is ≡ [] → (o : Option Data) → yielded ≡ o → OneOf (silent (ends_with Esc o)) (open_steps s.action x.world (Run x.k x.d x.b))
  open-escaped none o is_o =
      let n = silent (ends_with Esc o) in
      let same : making (closures_in_items is) x.b (silent (ends_with Esc yielded)) ≡ n = ap (λ cs. making cs x.b (silent (ends_with Esc yielded))) none ∙ ap (λ v. silent (ends_with Esc v)) is_o in
      open-run s x.k x.d x.b x.world (Simple (EscapeWith is)) n e (subst (λ m. OneOf n (m ∷ [])) (sym same) Here)

  sizes : total whole_items ≡ total data_items + length (point_items os)
  sizes = total-append data_items (map Plain (point_items os)) ∙ ap (λ n. total data_items + n) (total-plain (point_items os))

  module _ (none : closures_in_items is ≡ []) (places : EscapesPlaces s laid x os) (behind : EscapesBehind s laid x (total whole_items)) (behind_failure : (failure s).place < (start s x.k).place)
      (stands : Has (code s) (address_of (start s x.k).place) (code_from (spot s.items) (start s x.k).place whole_items))
    where
      -- the row is whole, and the code goes on to the entry
      row-escapes : (d : Data) → yielded ≡ Some d → (a : HasWritten s.base (code s) x.runs.here.f limit os x.state (address_of middle)) → Holds s.base x.runs.here.heap a.end.words x.runs.here.f os d → StartGoesOn s x
      row-escapes d is_d a held =
          let h = x.runs.here in
          let points = point_items os in
          let first = first-inside s laid x os places in
          let frame1 = frame-after s.base (code s) h.f limit os x.state (address_of middle) a (has-frame s laid x) in
          let inside : h.f + first_of os < length a.end.words = omega (arith, a.size, frame-inside s laid x (first_of os) first.1) in
          let has : Has (code s) a.end.pc points = subst (λ q. Has (code s) q points) (sym a.at) (subst (Has (code s) (address_of middle)) (code_from-plain (spot s.items) middle points) (stands-back (code s) (spot s.items) (start s x.k).place data_items (map Plain points) stands)) in
          let pointed = points-run s.base (code s) h.f os a.end first.0 inside frame1 has in
          let there : a.end.pc + 4 * length points ≡ address_of behind.from.place = omega (arith, a.at, behind.from_is, sizes) in
          let b = written-at s.base (code s) h.f 9 [] a.end (a.end.pc + 4 * length points) (address_of behind.from.place) there pointed.written in
          let w : HasWritten s.base (code s) h.f (limit + 9) os x.state (address_of behind.from.place) = written-then s.base (code s) h.f limit 9 (limit + 9) os [] os x.state (address_of middle) (address_of behind.from.place) a b (omega arith) (λ o m. m) (λ o absent. elim absent [ ]) in
          let n = silent (Ended (Esc d)) in
          let did = written-did s laid x (limit + 9) os places.own (address_of behind.from.place) w (Ended (Esc d)) behind.from (escape s) refl behind.within (near s laid escape_label) behind.rank (omega (arith, escapes-paid places)) behind.leave in
          let ten = did-registers s laid x (limit + 9) os places.own (address_of behind.from.place) w (Ended (Esc d)) behind.from (escape s) refl behind.within (near s laid escape_label) behind.rank (omega (arith, escapes-paid places)) behind.leave 10 (omega arith) in
          let kept = holds-elsewhere s.base h.heap h.f [] a.end.words w.end.words pointed.written.kept os d (λ z m absent. elim absent [ ]) held in
          step-escaped s laid x n d (open-escaped none (Some d) is_d) refl did (first_of os) (ten ∙ pointed.value) (consecutive-row s.base h.heap w.end.words h.f os d places.row kept)
          (subst (MayBeCaught s x.k (first_of os)) (sym (holds-length s.base h.heap a.end.words h.f os d held)) places.caught)

      gave-escapes : (o : Option Data) → yielded ≡ o → Gave s.base (code s) x.runs.here.heap x.runs.here.f limit os x.state (address_of middle) (address_of (failure s).place) o → StartGoesOn s x
      gave-escapes (Some d) is_o (w, held) = row-escapes d is_o w held
      gave-escapes None is_o w =
          step-failed s laid x (silent failed) (open-escaped none None is_o) refl
          (written-there s laid x limit os places.own (address_of (failure s).place) w failed (failure s) refl
          (moves-on s.base (code s) w.count x.state w.end (start s x.k).place (failure s).place w.runs x.runs.at w.at behind_failure) (omega (arith, escapes-paid places)))

      -- the node escapes with its data, or it fails
      pub escape-with-goes : SuitsAt s.action s.places.out escaped x.k x.d x.b x.world → AreBuilt is → StartGoesOn s x
      escape-with-goes suits built =
          let given = s.places.given x.k in
          let suited : AreSuited is x.d x.b x.world.cells = subst (λ n. IsSuitedNode n x.d x.b x.world.cells) e suits.suited in
          gave-escapes yielded refl
          (gives-run s.base (code s) x.runs.here.heap x.runs.here.f (spot s.items) fail_label (near s laid fail_label) given (all-members (λ o. o < 33554432) given places.near_given) x.d x.b x.world.cells is os (start s x.k).place x.state built suited
          (record {
            inside = λ o m. (places.near_escaped o m, frame-inside s laid x o (places.own.inside o m));
            apart = places.apart;
            once = run-once os places.row;
            below = λ o number place m p. units-behind s laid x o number place (places.own.inside o m) p;
            enough = λ d q. suits.escapes (silent (Ended (Esc d))) d (open-escaped none (Some d) q) refl;
          })
          (record { near = omega (arith, behind.within, behind.from_is, sizes); before = x.runs.at; stands = stands-front (code s) (spot s.items) (start s x.k).place data_items (map Plain (point_items os)) stands })
          (finds-given s laid x places.given_inside))
