-- The items of the code of traps.
use Rattle.std.specs.Prelude.{ℕ, List, [], ◌∷◌, ◌++◌, map}
use Rattle.rv_asm.specs.declared.item.Item.{Item}
use Rattle.rv_asm.specs.declared.item.Item.TheVariants.{Plain, Mark, Jump}
use Rattle.rv_prelude.specs.Pieces.{close_trap, open_trap_items}
use Rattle.rv_codegen.specs.NodeLabels.{joint_of, start_of, stop_of}
use Rattle.rv_codegen.specs.CaughtItems.{caught_items}

-- opens the record of a trap, with which an escape goes on at the joint of node k, and goes on to node l; where that has completed, it closes the record
abbrev pub trapped : (keep k l : ℕ) → List Item
trapped keep k l =
    (open_trap_items keep (joint_of k) ++ (Jump (start_of l) ∷ []))
    ++ (Mark (stop_of k) ∷ map Plain (close_trap keep))

-- what the first part has escaped with is copied to these words, where the handler r finds it, and the handler begins
abbrev pub catches : (caught : List ℕ) → (k r : ℕ) → List Item
catches caught k r =
    Mark (joint_of k) ∷ (map Plain (caught_items caught) ++ (Jump (start_of r) ∷ []))

-- the code of node k behind its start, where the node goes on at a label
abbrev pub traps : (keep k exit l r : ℕ) → (caught : List ℕ) → List Item
traps keep k exit l r caught = trapped keep k l ++ (Jump exit ∷ catches caught k r)
