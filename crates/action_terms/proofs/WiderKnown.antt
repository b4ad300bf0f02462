-- What is sound stays so where more bodies and more cells are known.
use Rattle.std.proofs.Common.{ℕ}
use Rattle.std.specs.Prelude.{Option, Some, None, IfSome}
use Rattle.std.proofs.lemmas.List.Elements.{All-weaker}
use Rattle.action_terms.specs.Information.{Datum, Number, Truth, CellOf, Closure, Binds, NoBinds, Bound, Data, Storage}
use Rattle.action_terms.specs.Actions.{Action}
use Rattle.action_terms.specs.Acting.{End, Done, Esc, Fail, Tree, Run, Ended, Called, Par, First, Second, Or, Cut, Trap, Over}
use Rattle.action_terms.specs.Sound.{Known, IsSoundDatum, AreSoundBinds, AreSoundData, AreSoundCells, IsSoundEnd, IsKnownTree}

module _ (known more : Known) (bodies : (c : ℕ) → known.body c → more.body c) (cells : (n : ℕ) → known.cell n → more.cell n) where
  mutual
    wider-datum : (x : Datum) → IsSoundDatum known x → IsSoundDatum more x
    wider-datum (Number n) here = tt
    wider-datum (Truth b) here = tt
    wider-datum (CellOf n) here = cells n here
    wider-datum (Closure c b own) here = (bodies c here.0, wider-binds b here.1)

    wider-binds : (b : Binds) → AreSoundBinds known b → AreSoundBinds more b
    wider-binds NoBinds here = tt
    wider-binds (Bound t x rest) here = (wider-datum x here.0, wider-binds rest here.1, here.2)

  wider-data : (d : Data) → AreSoundData known d → AreSoundData more d
  wider-data d here = All-weaker (IsSoundDatum known) (IsSoundDatum more) wider-datum d here

  wider-content : (content : Option Datum) → IfSome content (IsSoundDatum known) → IfSome content (IsSoundDatum more)
  wider-content (Some x) here = wider-datum x here
  wider-content None here = tt

  pub wider-cells : (contents : Storage) → AreSoundCells known contents → AreSoundCells more contents
  wider-cells contents here =
      All-weaker (λ content. IfSome content (IsSoundDatum known)) (λ content. IfSome content (IsSoundDatum more)) wider-content contents here

  wider-end : (z : End) → IsSoundEnd known z → IsSoundEnd more z
  wider-end (Done d b) here = (wider-data d here.0, wider-binds b here.1)
  wider-end (Esc d) here = wider-data d here
  wider-end Fail here = tt

  pub wider-tree : (a : Action) (t : Tree) → IsKnownTree known a t → IsKnownTree more a t
  wider-tree a (Run k d b) here = (here.0, wider-data d here.1, wider-binds b here.2)
  wider-tree a (Ended z) here = wider-end z here
  wider-tree a (Called c x) here = (bodies c here.0, wider-tree a x here.1)
  wider-tree a (Par k x y) here = (here.0, wider-tree a x here.1, wider-tree a y here.2)
  wider-tree a (First k x d b) here = (here.0, wider-tree a x here.1, wider-data d here.2, wider-binds b here.3)
  wider-tree a (Second k d1 b1 x) here = (here.0, wider-data d1 here.1, wider-binds b1 here.2, wider-tree a x here.3)
  wider-tree a (Or x k2 d b) here = (wider-tree a x here.0, here.1, wider-data d here.2, wider-binds b here.3)
  wider-tree a (Cut x) here = wider-tree a x here
  wider-tree a (Trap k x b) here = (here.0, wider-tree a x here.1, wider-binds b here.2)
  wider-tree a (Over x b) here = (wider-tree a x here.0, wider-binds b here.1)
