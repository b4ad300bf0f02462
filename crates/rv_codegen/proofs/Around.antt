-- What stands in the machine for what stands around a node, and around an end.
use Rattle.std.proofs.Common.{◌≡◌, ℕ, ◌+◌, ◌*◌, ◌<◌, ◌≤◌, List, [], ◌∷◌, ◌++◌, length}
use Rattle.rv_asm.specs.Assembly.{address_of}
use Rattle.rv_asm.specs.DataWords.{Heap}
use Rattle.action_terms.specs.Information.{Token, Binds, Data}
use Rattle.action_terms.specs.Actions.{Join, Chain, Furthermore, Both, Phases, Either, Trapping, node_at}
use Rattle.action_terms.specs.Acting.{Done, Tree, Run, Ended}
use Rattle.action_terms.specs.Frames.{Frame, InCalled, InParLeft, InParRight, InFirst, InSecond, InOr, InCut, InTrap, InOver, InTail}
use Rattle.rv_prelude.specs.Region.{Chains, left_open, either_mark}
use Rattle.rv_codegen.proofs.BindTables.{LeavesBinds, Binds_in}
use Rattle.rv_codegen.proofs.Holding.{word_at, Holds, HoldsBinds, Apart, ApartSlots}
use Rattle.rv_codegen.proofs.NodeParts.{IsPartOf, IsTailOf, Calls, KeepsRecord}
use Rattle.rv_codegen.proofs.Settings.{Point, Way, Setting, code, joint, front, start, stop, exit, frame_words}

-- the chains after a commitment
abbrev pub committed : Chains → Chains
committed c = record c { alternative = 0; mark = 1 }

module _ (s : Setting) where
  -- what holds of the places whatever runs
  pub record IsPlaced : Type 0 where
    pub given_apart : (k : ℕ) → Apart (s.places.Writes k) (s.places.given k)
    pub bound_apart : (k : ℕ) → ApartSlots (s.places.Writes k) (s.places.bound k)
    pub inside : (n k x : ℕ) → IsPartOf (node_at s.action n) k → s.places.Writes k x → s.places.Writes n x
    pub beyond : (k x : ℕ) → frame_words s k ≤ x → s.places.Writes k x
    -- the first words of the frame of a body that is called keep where it returns to
    pub low : (k x : ℕ) → s.places.Writes k x → x < frame_words s k → 32 ≤ x
    pub some_frame : (n c : ℕ) → s.procedures.calls n c → 32 ≤ frame_words s c
    pub keep_apart : (n k i : ℕ) → KeepsRecord (node_at s.action n) → IsPartOf (node_at s.action n) k → i < 8 → s.places.Writes k (s.places.keep n + i) → ⊥

  -- node n performs first its part l, then its part r
  pub record InOrder (n l r : ℕ) : Type 0 where
    pub enter : Way (code s) (start s n) (start s l)
    pub first_exit : exit s l ≡ front s r
    pub turn : Way (code s) (front s r) (start s r)
    -- where the second part has completed, the node has
    pub second_exit : exit s r ≡ exit s n
    -- what the first part leaves stays while the second is performed
    pub stays : Apart (s.places.Writes r) (s.places.out l)
    pub stays_bound : ApartSlots (s.places.Writes r) (s.places.bound_out l)

  -- where a node leaves as many data as its parts, it leaves those of both. Where it leaves others, it never completes
  abbrev pub JoinsData : (n l r : ℕ) → Type 0
  JoinsData n l r =
      length (s.places.out l) + length (s.places.out r) ≡ length (s.places.out n) → s.places.out n ≡ s.places.out l ++ s.places.out r

  -- the second part finds the data that the node found, and the node leaves those of both
  pub record Shares (n l r : ℕ) : Type 0 where
    pub right_given : s.places.given r ≡ s.places.given n
    pub joins : JoinsData n l r

  -- the second part finds the data that the first left, and the node leaves those of the second
  pub record HandsOver (n l r : ℕ) : Type 0 where
    pub right_given : s.places.given r ≡ s.places.out l
    pub ends : length (s.places.out r) ≡ length (s.places.out n) → s.places.out n ≡ s.places.out r

  -- what a record of an alternative or a trap keeps
  pub record Kept (words : List ℕ) (n f : ℕ) (before : Chains) (arm : Point) : Type 0 where
    pub alternative : word_at words f (s.places.keep n) ≡ before.alternative
    pub arm_at : word_at words f (s.places.keep n + 1) ≡ address_of arm.place
    pub trap : word_at words f (s.places.keep n + 2) ≡ before.trap
    pub mark : word_at words f (s.places.keep n + 3) ≡ before.mark
    pub frame : word_at words f (s.places.keep n + 4) ≡ s.base + 8 * f

  -- an alternative that a commitment has closed
  pub record CutFrame (k n : ℕ) : Type 0 where
    pub r : ℕ
    pub node : node_at s.action n ≡ Either k r

  -- the node has completed where its tail has, with what the tail leaves
  pub record TailFrame (k n : ℕ) : Type 0 where
    pub tail : IsTailOf (node_at s.action n) k
    pub exit_is : exit s k ≡ exit s n
    pub ends : (d : Data) (b : Binds) → s.Ends k d b → (s.places.out n ≡ s.places.out k) × s.Ends n d b
    pub ends_bound : s.places.bound_out n ≡ s.places.bound_out k
    pub table : (t : Token) → s.places.BindsAt k t → s.places.BindsAt n t

  module _ (heap : Heap) (words : List ℕ) where
    abbrev pub Given : (f n : ℕ) → Data → Type 0
    Given f n d = Holds s.base heap words f (s.places.given n) d

    abbrev pub Receives : (f n : ℕ) → Binds → Type 0
    Receives f n b = HoldsBinds s.base heap words f (s.places.bound n) b

    abbrev pub Leaves : (f n : ℕ) → Data → Type 0
    Leaves f n d = Holds s.base heap words f (s.places.out n) d

    abbrev pub BindsLeft : (f n : ℕ) → Binds → Type 0
    BindsLeft f n b = LeavesBinds s.base heap words f s.places.bound s.places.bound_out s.places.BindsAt n b

    -- the other part of node n, beside its part k: it is still to be performed after k, or it has completed before
    abbrev pub IsOther : (f n k other : ℕ) → Tree → Type 0
    IsOther f n k other (Run o d b) = (o ≡ other) × InOrder n k other × Given f n d × Receives f n b
    IsOther f n k other (Ended (Done d b)) = InOrder n other k × Leaves f other d × BindsLeft f other b
    IsOther f n k other _ = ⊥

    pub record LeftFrame (f n k : ℕ) (y : Tree) : Type 0 where
      pub j : Join
      pub r : ℕ
      pub node : node_at s.action n ≡ Both j k r
      pub other : IsOther f n k r y

    pub record RightFrame (f n k : ℕ) (x : Tree) : Type 0 where
      pub j : Join
      pub l : ℕ
      pub node : node_at s.action n ≡ Both j l k
      pub other : IsOther f n k l x

    pub record FirstFrame (f n k : ℕ) (d : Data) (b : Binds) : Type 0 where
      pub q : Chain
      pub r : ℕ
      pub node : node_at s.action n ≡ Phases q k r
      pub given : Given f n d
      pub receives : Receives f n b

    pub record SecondFrame (f n k : ℕ) (d1 : Data) (b1 : Binds) : Type 0 where
      pub q : Chain
      pub l : ℕ
      pub node : node_at s.action n ≡ Phases q l k
      pub order : InOrder n l k
      pub result : Leaves f l d1
      pub binds : BindsLeft f l b1

    pub record OrFrame (f k k2 n : ℕ) (now before : Chains) (d : Data) (b : Binds) : Type 0 where
      pub node : node_at s.action n ≡ Either k k2
      pub given : Given f n d
      pub receives : Receives f n b
      pub at : now.alternative ≡ s.base + 8 * (f + s.places.keep n)
      pub same : record now { alternative = before.alternative } ≡ before
      pub kept : Kept words n f before (front s k2)

    pub record TrapFrame (f k n : ℕ) (now before : Chains) (b : Binds) : Type 0 where
      pub r : ℕ
      pub node : node_at s.action n ≡ Trapping k r
      pub receives : Receives f n b
      pub at : now.trap ≡ s.base + 8 * (f + s.places.keep n)
      pub kept : Kept words n f before (joint s n)
      pub chain : now.alternative ≡ left_open now.mark before.alternative

    pub record OverFrame (f k n : ℕ) (b : Binds) : Type 0 where
      pub node : node_at s.action n ≡ Furthermore k
      pub receives : Receives f n b
      pub table : Binds_in (s.places.BindsAt n) b

    pub record CalledFrame (c up f k n : ℕ) : Type 0 where
      pub node : Calls (node_at s.action n) c
      pub may : s.procedures.calls n c
      pub body : k ≡ c
      pub returns : word_at words f 0 ≡ address_of (stop s n).place
      pub caller : word_at words f 1 ≡ s.base + 8 * up
      pub above : f ≡ up + frame_words s n
      -- the node completes as the body does
      pub ends : (d : Data) (b : Binds) → s.Ends c d b → s.Ends n d b

    -- node k is performed within these frames, in the frame that begins at word f, under these chains
    abbrev pub Around : List Frame → (f k : ℕ) → Chains → Type 0
    Around [] f k c = (k ≡ 0) × (f ≡ 512) × (c.alternative ≡ 0) × (c.trap ≡ 0)
    Around (InParLeft n y ∷ fs) f k c = LeftFrame f n k y × Around fs f n c
    Around (InParRight n x ∷ fs) f k c = RightFrame f n k x × Around fs f n c
    Around (InFirst n d b ∷ fs) f k c = FirstFrame f n k d b × Around fs f n c
    Around (InSecond n d b ∷ fs) f k c = SecondFrame f n k d b × Around fs f n c
    Around (InOr k2 d b ∷ fs) f k c = (n : ℕ) × (before : Chains) × OrFrame f k k2 n c before d b × Around fs f n before
    Around (InCut ∷ fs) f k c = (n : ℕ) × CutFrame k n × (c.alternative ≡ 0) × Around fs f n c
    Around (InTrap n b ∷ fs) f k c = (before : Chains) × TrapFrame f k n c before b × Around fs f n (record { alternative = c.alternative; trap = before.trap; mark = either_mark c.mark before.mark })
    Around (InTail n ∷ fs) f k c = TailFrame k n × Around fs f n c
    Around (InCalled c' ∷ fs) f k c = (n : ℕ) × (up : ℕ) × CalledFrame c' up f k n × Around fs up n c
    Around (InOver b ∷ fs) f k c = (n : ℕ) × OverFrame f k n b × Around fs f n c
