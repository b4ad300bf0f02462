-- What an admissible sort table tells of a node that completes where a part of it does, and of the data of a handler.
use Rattle.std.proofs.Common.{◌≡◌, ℕ, ℤ, false, List, ◌∷◌, refl, ap₂, subst, ◌∙◌}
use Rattle.action_terms.specs.Information.{Binds, Data, World}
use Rattle.action_terms.specs.Actions.{Action, Either, Trapping, node_at}
use Rattle.action_terms.specs.Acting.{Ended, Esc, Trap}
use Rattle.action_terms.specs.Frames.{Frame, plug}
use Rattle.action_terms.specs.Performances.{State}
use Rattle.action_terms.specs.Steps.{Step}
use Rattle.action_terms.proofs.Parts.{Reaches}
use Rattle.sort_rules.specs.Admissible.{IsAdmissible, is_clash}
use Rattle.sort_rules.specs.Demands.{ends_like}
use Rattle.sort_rules.specs.Fitting.{Ends, StateFits, TrapFits, TreeFits, ends_of, sorted}
use Rattle.sort_rules.specs.Parts.{AreBelow, Below, Component, Least, Lists, Most, NoneBelow, OneBelow, Part}
use Rattle.sort_rules.specs.Shapes.{AList, CompletesInShape, EscapesInShape, IsList, domain, part_length, tokens_in}
use Rattle.sort_rules.specs.Tables.{BindsOut, DataOut, MarkedTable}
use Rattle.sort_rules.proofs.EachLaws.{each_head, each_left, each_right, each_tail}
use Rattle.sort_rules.proofs.FittedFrames.{frames_fit}
use Rattle.sort_rules.proofs.PartOrder.{below_length}
use Rattle.sort_rules.proofs.Shapes.{escapes_in_shape}
use Rattle.sort_rules.proofs.SoundStates.{part_fits, stands}
use Rattle.sort_rules.proofs.Standing.{demands_at, ends_met}

-- ---- parts

below-tokens : {ps qs : List Component} → AreBelow ps qs → tokens_in ps ≡ tokens_in qs
below-tokens NoneBelow = refl
below-tokens (OneBelow e h rest) = ap₂ ◌∷◌ e (below-tokens rest)

-- what lies above a list and is no clash is a list as long, with the same tokens
same-shape : {x y : Part} → Below x y → IsList x → is_clash y ≡ false → IsList y × (part_length x ≡ part_length y) × (domain x ≡ domain y)
same-shape Least h e = elim h [ ]
same-shape (Lists below) h e = (AList, below_length below, below-tokens below)
same-shape Most h e = absurd {0} (cc)

-- ---- a table

module _ (a : Action) (t : MarkedTable) (admissible : IsAdmissible a t) where
  -- what node l may complete with lies below what node n may
  pub record EndsAs (l n : ℕ) : Type 0 where
    pub data_out : Below (t (DataOut l)) (t (DataOut n))
    pub binds_out : Below (t (BindsOut l)) (t (BindsOut n))

  -- so what l completes with has the shape of n's row
  pub ends-as : (l n : ℕ) (d : Data) (b : Binds) → EndsAs l n → CompletesInShape t l d b → CompletesInShape t n d b
  ends-as l n d b like h =
      let of_data = same-shape like.data_out h.data_reached (admissible.clear n).data_out in
      let of_binds = same-shape like.binds_out h.binds_reached (admissible.clear n).binds_out in
      record { data_reached = of_data.0; binds_reached = of_binds.0; given = h.given ∙ of_data.1; received = h.received ∙ of_binds.2 }

  -- ---- arms of `or`

  pub either-ends : (n l r : ℕ) → node_at a n ≡ Either l r → EndsAs l n × EndsAs r n
  either-ends n l r e =
      let m = each_tail (each_tail (each_tail (each_tail (demands_at n (stands a t admissible) e)))) in
      let first = ends_met {t = t} {k = n} {j = l} (each_left (ends_like t n l) (ends_like t n r) m) in
      let second = ends_met {t = t} {k = n} {j = r} (each_right (ends_like t n l) m) in
      (record { data_out = first.data_out; binds_out = first.binds_out }, record { data_out = second.data_out; binds_out = second.binds_out })

  -- ---- the parts of `trap`

  pub trap-ends : (n l r : ℕ) → node_at a n ≡ Trapping l r → EndsAs l n × EndsAs r n
  trap-ends n l r e =
      let m = each_tail (each_tail (each_tail (each_tail (demands_at n (stands a t admissible) e)))) in
      let second = ends_met {t = t} {k = n} {j = r} (each_tail (each_tail m)) in
      (record { data_out = each_head m; binds_out = each_head (each_tail m) }, record { data_out = second.data_out; binds_out = second.binds_out })

  of-first : (w : List ℕ) (n l r l' r' : ℕ) (e : Data) → node_at a n ≡ Trapping l r → node_at a n ≡ Trapping l' r' → TreeFits (sorted a t) a w (Ended (Esc e)) (ends_of t l') → EscapesInShape t l e
  of-first w n l r l' r' e node node' fits =
      let same : l' ≡ l = cc in
      escapes_in_shape {c = sorted a t} (subst (λ k. TreeFits (sorted a t) a w (Ended (Esc e)) (ends_of t k)) same fits) (admissible.clear l)

  of-trap : (w : List ℕ) (n l r : ℕ) (e : Data) (b : Binds) (z : Ends) → node_at a n ≡ Trapping l r → TreeFits (sorted a t) a w (Trap n (Ended (Esc e)) b) z → EscapesInShape t l e
  of-trap w n l r e b z node (TrapFits node' f g le) = of-first w n l r _ _ e node node' f

  -- what the first part has escaped with has the length of its row
  pub trap-escapes : (input : List ℤ) (steps : List Step) (fs : List Frame) (n l r : ℕ) (b : Binds) (e : Data) (w : World) → node_at a n ≡ Trapping l r → Reaches a input steps (plug fs (Trap n (Ended (Esc e)) b)) w → EscapesInShape t l e
  trap-escapes input steps fs n l r b e w node reached =
      let here : State = record { tree = plug fs (Trap n (Ended (Esc e)) b); world = w } in
      let f : StateFits (sorted a t) a here = part_fits a t input steps here admissible reached in
      let part = frames_fit (sorted a t) a f.nodes fs (Trap n (Ended (Esc e)) b) f.tree in
      of-trap f.nodes n l r e b part.0 node part.2
