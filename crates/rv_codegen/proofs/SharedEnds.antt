-- A node that completes where a part of it does leaves its data where the part does, and a handler finds what the first part of its trap has escaped with: by a layout for an admissible table.
use Rattle.std.proofs.Common.{◌≡◌, ℕ, ◌<◌, ℤ, List, length, sym, ap, subst, ◌∙◌, inl, inr}
use Rattle.std.specs.Prelude.{All}
use Rattle.action_terms.specs.Information.{Binds, Data, World}
use Rattle.action_terms.specs.Actions.{Action, Either, Node, Trapping, node_at}
use Rattle.action_terms.specs.Acting.{Ended, Esc, Trap}
use Rattle.action_terms.specs.Frames.{Frame as ActingFrame, plug}
use Rattle.action_terms.specs.Performances.{OneOf, Here, Later}
use Rattle.action_terms.specs.Steps.{Step}
use Rattle.action_terms.proofs.Parts.{Reaches}
use Rattle.sort_rules.specs.Admissible.{IsAdmissible}
use Rattle.sort_rules.specs.Procedures.{parts_at}
use Rattle.sort_rules.specs.Shapes.{CompletesInShape}
use Rattle.sort_rules.specs.Tables.{MarkedTable}
use Rattle.frame_layout.specs.Layouts.{Deeper, HasApartNodes, IsLayout, Itself}
use Rattle.frame_layout.specs.Places.{Frame, PlacedNode}
use Rattle.frame_layout.proofs.GraphParts.{HasTrees}
use Rattle.rv_codegen.specs.Aliases.{AreByNumber, MayWrite, given_of, out_of, place_at}
use Rattle.rv_codegen.proofs.AliasRules.{either-out, trapping-given_right, trapping-out}
use Rattle.rv_codegen.proofs.LayoutWords.{escaped-fits, out-fits}
use Rattle.rv_codegen.proofs.SuitedPlaces.{out-length}
use Rattle.rv_codegen.proofs.SuitedTails.{EndsAs, either-ends, ends-as, trap-ends, trap-escapes}

module _ (a : Action) (trees : HasTrees a) (t : MarkedTable) (fs : List Frame) (laid : IsLayout a t fs) (apart : All HasApartNodes fs) (ns : List PlacedNode) (by_number : AreByNumber a fs ns) (admissible : IsAdmissible a t) where
  abbrev p : ℕ → PlacedNode
  p = place_at ns

  abbrev outs : ℕ → List ℕ
  outs k = out_of p a k

  -- node n leaves its data where part k does, and completes as its row says
  abbrev pub EndsWhere : (k n : ℕ) → Type 0
  EndsWhere k n = (d : Data) (b : Binds) → CompletesInShape t k d b → (outs n ≡ outs k) × CompletesInShape t n d b

  ends-where : (k n : ℕ) → k < length a → n < length a → EndsAs a t admissible k n → (length (p k).data_out ≡ length (outs n) → outs k ≡ outs n) → EndsWhere k n
  ends-where k n there within below shared d b h =
      let up = ends-as a t admissible k n d b below h in
      let own = out-fits a trees t fs laid apart ns by_number k there in
      let long = out-length a trees t fs laid apart ns by_number n within in
      (sym (shared (own ∙ sym h.given ∙ up.given ∙ sym long)), up)

  part-within : (n k : ℕ) (m : Node) → node_at a n ≡ m → OneOf k (parts_at m) → k < length a
  part-within n k m e part = trees.within n k (subst (λ x. OneOf k (parts_at x)) (sym e) part)

  pub either-where : (n l r : ℕ) → n < length a → node_at a n ≡ Either l r → EndsWhere l n × EndsWhere r n
  either-where n l r within e =
      let below = either-ends a t admissible n l r e in (
        ends-where l n (part-within n l (Either l r) e Here) within below.0 (λ same. either-out a trees p n l r l e Here same),
        ends-where r n (part-within n r (Either l r) e (Later Here)) within below.1 (λ same. either-out a trees p n l r r e (Later Here) same),
      )

  pub trap-where : (n l r : ℕ) → n < length a → node_at a n ≡ Trapping l r → EndsWhere l n × EndsWhere r n
  trap-where n l r within e =
      let below = trap-ends a t admissible n l r e in (
        ends-where l n (part-within n l (Trapping l r) e Here) within below.0 (λ same. trapping-out a trees p n l r l e Here same),
        ends-where r n (part-within n r (Trapping l r) e (Later Here)) within below.1 (λ same. trapping-out a trees p n l r r e (Later Here) same),
      )

  -- ---- handlers

  -- a handler is given as many data as it has words for them
  pub handler-fills : (input : List ℤ) (steps : List Step) (frames : List ActingFrame) (n l r : ℕ) (b : Binds) (e : Data) (w : World) → node_at a n ≡ Trapping l r → Reaches a input steps (plug frames (Trap n (Ended (Esc e)) b)) w → length e ≡ length (given_of p a r)
  handler-fills input steps frames n l r b e w node reached =
      (trap-escapes a t admissible input steps frames n l r b e w node reached).given
      ∙ sym (escaped-fits a trees t fs laid apart ns by_number l (part-within n l (Trapping l r) node Here))
      ∙ ap length (sym (trapping-given_right a trees p n l r node))

  -- its words are the first part's own, so the node may write them
  pub handler-written : (words : ℕ → ℕ) (n l r x : ℕ) → node_at a n ≡ Trapping l r → OneOf x (given_of p a r) → MayWrite p a words n x
  handler-written words n l r x node m =
      let part = subst (λ k. OneOf l (parts_at k)) (sym node) Here in
      inl (l, part-within n l (Trapping l r) node Here, Deeper part Itself, inr (inr (inl (subst (OneOf x) (trapping-given_right a trees p n l r node) m))))
