-- Acting trees: how far the parts of an action have come.
use Rattle.std.specs.Prelude.{ℕ}
use Rattle.action_terms.specs.Information.{Binds, Data}

-- how an action ends: it completes with data and bindings, escapes with data, or fails
pub data End : Type 0 where
  Done : (d : Data) (b : Binds) → End
  Esc : (d : Data) → End
  Fail : End

-- k is a node's number, d and b are what it was given and received
pub data Tree : Type 0 where
  -- the node is to be performed
  Run : (k : ℕ) (d : Data) (b : Binds) → Tree
  -- it has ended
  Ended : (z : End) → Tree
  -- the body of a closure or of an `unfolding`, its root c
  Called : (c : ℕ) (x : Tree) → Tree
  -- the two parts of `and` or `moreover`
  Par : (k : ℕ) (x y : Tree) → Tree
  -- the first of two parts in order
  First : (k : ℕ) (x : Tree) (d : Data) (b : Binds) → Tree
  -- the second, after the first has completed with d1 and b1
  Second : (k : ℕ) (d1 : Data) (b1 : Binds) (x : Tree) → Tree
  -- an arm of `or`, with the other arm k2 still open
  Or : (x : Tree) (k2 : ℕ) (d : Data) (b : Binds) → Tree
  -- an arm of `or` after a commitment
  Cut : (x : Tree) → Tree
  -- the left part of `trap`
  Trap : (k : ℕ) (x : Tree) (b : Binds) → Tree
  -- the part of `furthermore`
  Over : (x : Tree) (b : Binds) → Tree
