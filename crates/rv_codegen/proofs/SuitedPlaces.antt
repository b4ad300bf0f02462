-- How many words nodes find their data in, and leave them in: as many as the rows of an admissible sort table say, and no more than its width.
use Rattle.std.proofs.Common.{◌≡◌, ⊎_elim, ℕ, zero, suc, ◌<◌, ◌≤◌, ℤ, List, length, refl, sym, ap, subst, ◌∙◌, arith}
use Rattle.std.specs.Prelude.{All, Option, Some, None, nat_eq}
use Rattle.std.proofs.lemmas.Bool.{cases_lt}
use Rattle.action_terms.specs.Information.{Binds, Data, World}
use Rattle.action_terms.specs.Actions.{Action, AndThen, Before, Hence, Node, Phases, Then, Trapping, node_at}
use Rattle.action_terms.specs.Acting.{Done, Esc, Ended, Run}
use Rattle.action_terms.specs.Frames.{Frame as ActingFrame, plug}
use Rattle.action_terms.specs.Performances.{OneOf, Here}
use Rattle.action_terms.specs.Steps.{Step, open_steps}
use Rattle.action_terms.proofs.Parts.{Reaches}
use Rattle.sort_rules.specs.Admissible.{IsAdmissible}
use Rattle.sort_rules.specs.Measures.{row_width, width}
use Rattle.sort_rules.specs.Parts.{Unreached}
use Rattle.sort_rules.specs.Procedures.{parts_at, whole_of}
use Rattle.sort_rules.specs.Shapes.{IsList, part_length}
use Rattle.sort_rules.specs.Tables.{DataIn, DataOut, Escaped, MarkedTable}
use Rattle.sort_rules.proofs.Choices.{of_choice}
use Rattle.frame_layout.specs.Layouts.{HasApartNodes, IsLayout}
use Rattle.frame_layout.specs.Places.{Frame, PlacedNode}
use Rattle.frame_layout.proofs.GraphParts.{HasTrees}
use Rattle.rv_codegen.specs.Aliases.{AreByNumber, from_whole, given_in, given_of, handed_at, out_of, place_at}
use Rattle.rv_codegen.proofs.AliasLengths.{length-out_of}
use Rattle.rv_codegen.proofs.LayoutWords.{escaped-fits, in-fits, layout-words, out-fits}
use Rattle.rv_codegen.proofs.Suited.{SuitsAt, runs-in_shape, runs-suited, step-completes, step-escapes}

-- a row is no wider than the table
pub row-within : (t : MarkedTable) (k n : ℕ) → k < n → row_width t k ≤ width n t
row-within t k zero less = absurd (omega arith)
row-within t k (suc n) less = ⊎_elim (λ lt. let r = row-within t k n lt in omega arith) (λ ge. let same : k ≡ n = omega arith in subst (λ i. row_width t i ≤ width (suc n) t) (sym same) (omega arith)) (cases_lt k n)

in-within : (t : MarkedTable) (k : ℕ) → part_length (t (DataIn k)) ≤ row_width t k
in-within t k = omega arith

out-within : (t : MarkedTable) (k : ℕ) → part_length (t (DataOut k)) ≤ row_width t k
out-within t k = omega arith

escaped-within : (t : MarkedTable) (k : ℕ) → part_length (t (Escaped k)) ≤ row_width t k
escaped-within t k = omega arith

-- an unreached part is no list
unreached-no_list : IsList Unreached → ⊥
unreached-no_list h = elim h [ ]

module _ (a : Action) (trees : HasTrees a) (t : MarkedTable) (fs : List Frame) (laid : IsLayout a t fs) (apart : All HasApartNodes fs) (ns : List PlacedNode) (by_number : AreByNumber a fs ns) where
  -- a node leaves its data in as many words as its row says
  pub out-length : (k : ℕ) → k < length a → length (out_of (place_at ns) a k) ≡ part_length (t (DataOut k))
  out-length k within = length-out_of a trees (place_at ns) k ∙ out-fits a trees t fs laid apart ns by_number k within

  pub out-width : (k : ℕ) → k < length a → length (out_of (place_at ns) a k) ≤ width (length a) t
  out-width k within = omega (arith, out-length k within, out-within t k, row-within t k (length a) within)

  pub escaped-width : (k : ℕ) → k < length a → length (place_at ns k).escaped ≤ width (length a) t
  escaped-width k within = omega (arith, escaped-fits a trees t fs laid apart ns by_number k within, escaped-within t k, row-within t k (length a) within)

  own-out_width : (k : ℕ) → k < length a → length (place_at ns k).data_out ≤ width (length a) t
  own-out_width k within = omega (arith, out-fits a trees t fs laid apart ns by_number k within, out-within t k, row-within t k (length a) within)

  own-in_width : (k : ℕ) → length (place_at ns k).data_in ≤ width (length a) t
  own-in_width k = ⊎_elim
      (λ within. omega (arith, in-fits a trees t fs laid apart ns by_number k within, in-within t k, row-within t k (length a) within))
      (λ past. let none = (layout-words a trees t fs laid apart ns by_number).none_in k past in omega (arith, ap length none)) (cases_lt k (length a))

  -- where a part finds its data there are no more words than where its node does, or than some node leaves
  part-width : (n : ℕ) (m : Node) → node_at a n ≡ m → (gs : List ℕ) (k : ℕ) → length gs ≤ width (length a) t → length (given_in (place_at ns) m gs k) ≤ width (length a) t
  part-width n (Phases Then l r) e gs k few =
      of_choice (nat_eq k l) gs (place_at ns l).data_out (λ xs. length xs ≤ width (length a) t) (λ q. few) (λ q. own-out_width l (trees.within n l (subst (λ m. OneOf l (parts_at m)) (sym e) Here)))
  part-width n (Trapping l r) e gs k few =
      of_choice (nat_eq k l) gs (place_at ns l).escaped (λ xs. length xs ≤ width (length a) t) (λ q. few) (λ q. escaped-width l (trees.within n l (subst (λ m. OneOf l (parts_at m)) (sym e) Here)))
  part-width n (Phases AndThen l r) e gs k few = few
  part-width n (Phases Hence l r) e gs k few = few
  part-width n (Phases Before l r) e gs k few = few
  part-width n _ e gs k few = few

  handed-width : (m k : ℕ) → length (handed_at (given_in (place_at ns)) (λ j. (place_at ns j).data_in) a m k) ≤ width (length a) t
  handed-width zero k = own-in_width k
  handed-width (suc m) k = go (whole_of a k) (handed-width m)
    where
      go : (o : Option ℕ) → ((j : ℕ) → length (handed_at (given_in (place_at ns)) (λ j. (place_at ns j).data_in) a m j) ≤ width (length a) t)
          → length (from_whole (given_in (place_at ns)) a (handed_at (given_in (place_at ns)) (λ j. (place_at ns j).data_in) a m) (place_at ns k).data_in k o) ≤ width (length a) t
      go None below = own-in_width k
      go (Some n) below = part-width n (node_at a n) refl (handed_at (given_in (place_at ns)) (λ j. (place_at ns j).data_in) a m n) k (below n)

  -- so no node finds its data in more words than the table is wide
  pub given-width : (k : ℕ) → length (given_of (place_at ns) a k) ≤ width (length a) t
  given-width k = handed-width k k

  -- ---- node k is to be performed within frames, at a point of a performance

  module _ (admissible : IsAdmissible a t) (input : List ℤ) (steps : List Step) (frames : List ActingFrame) (k : ℕ) (within : k < length a) (d : Data) (b : Binds) (w : World) (reached : Reaches a input steps (plug frames (Run k d b)) w) where
    -- it is given as many data as its row says
    pub runs-length : length d ≡ part_length (t (DataIn k))
    runs-length = (runs-in_shape a t admissible input steps frames k d b w reached).given

    -- what its one step completes with has as many words where the node leaves its data
    pub completes-length : (n : Step) (e : Data) (p : Binds) → OneOf n (open_steps a w (Run k d b)) → n.tree ≡ Ended (Done e p) → length e ≡ length (out_of (place_at ns) a k)
    completes-length n e p m is = (step-completes a t admissible input steps frames k d b w reached n e p m is).given ∙ sym (out-length k within)

    -- where the table doesn't reach what it completes with, it doesn't complete by its step
    pub never-completes : t (DataOut k) ≡ Unreached → (n : Step) (e : Data) (p : Binds) → OneOf n (open_steps a w (Run k d b)) → n.tree ≡ Ended (Done e p) → ⊥
    never-completes none n e p m is = unreached-no_list (subst IsList none (step-completes a t admissible input steps frames k d b w reached n e p m is).data_reached)

    -- what it escapes with has as many words where the node leaves that
    pub escapes-length : (n : Step) (e : Data) → OneOf n (open_steps a w (Run k d b)) → n.tree ≡ Ended (Esc e) → length e ≡ length (place_at ns k).escaped
    escapes-length n e m is = (step-escapes a t admissible input steps frames k d b w reached n e m is).given ∙ sym (escaped-fits a trees t fs laid apart ns by_number k within)

    pub never-escapes : t (Escaped k) ≡ Unreached → (n : Step) (e : Data) → OneOf n (open_steps a w (Run k d b)) → n.tree ≡ Ended (Esc e) → ⊥
    never-escapes none n e m is = unreached-no_list (subst IsList none (step-escapes a t admissible input steps frames k d b w reached n e m is).reached)

    -- all that the code of the node counts on
    pub suits : SuitsAt a (out_of (place_at ns) a) (λ j. (place_at ns j).escaped) k d b w
    suits = record { suited = runs-suited a t admissible input steps frames k d b w reached; completes = completes-length; escapes = escapes-length }
