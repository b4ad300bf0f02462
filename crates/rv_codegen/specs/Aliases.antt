-- Where nodes find the data that they are given, and where they leave those that they complete with. Nothing is copied from node to node: a part finds its data where its node does, or where the part before it left them, and leaves its own where its node does.
use Rattle.std.specs.Prelude.{◌≡◌, ◌⊎◌, ℕ, zero, suc, ◌+◌, ◌<◌, ◌≤◌, List, [], ◌∷◌, length, replicate, take, drop, nat_eq, if◌then◌else◌, Option, Some, None, map, slice_index_or, slice_set}
use Rattle.std.specs.Borrow.{Bor}
use Rattle.action_terms.specs.Actions.{Then, Node, Both, Phases, Trapping, Action, node_at}
use Rattle.action_terms.specs.Performances.{OneOf}
use Rattle.sort_rules.specs.Procedures.{procedure_of, whole_of}
use Rattle.frame_layout.specs.Places.{Frame, PlacedNode, record_words}
use Rattle.frame_layout.specs.Layouts.{IsIn}

-- the words that a node wants for its data, or its own where it has another number of data: then it never completes
abbrev pub whole_places : (own wanted : List ℕ) → List ℕ
whole_places own wanted = if nat_eq (length own) (length wanted) then wanted else own

-- two nodes leave their data one behind the other
abbrev pub front_places : (first second wanted : List ℕ) → List ℕ
front_places first second wanted =
    if nat_eq (length first + length second) (length wanted) then take (length first) wanted else first

abbrev pub back_places : (first second wanted : List ℕ) → List ℕ
back_places first second wanted =
    if nat_eq (length first + length second) (length wanted) then drop (length first) wanted else second

-- one of two parts
abbrev pub of_part : {A : Type 0} → (l k : ℕ) → A → A → A
of_part l k first second = if nat_eq k l then first else second

-- of two parts that leave their data one behind the other
abbrev pub joined_in : (ℕ → PlacedNode) → (l r : ℕ) → (wanted : List ℕ) → (k : ℕ) → List ℕ
joined_in p l r os k =
    of_part l k (front_places (p l).data_out (p r).data_out os)
    (back_places (p l).data_out (p r).data_out os)

-- where part k of a node leaves its data, where the node leaves its own at these words. What is left for the second part of `then` has words of its own
abbrev pub out_in : (ℕ → PlacedNode) → Node → (wanted : List ℕ) → (k : ℕ) → List ℕ
out_in p (Both j l r) os k = joined_in p l r os k
out_in p (Phases Then l r) os k = of_part l k (p l).data_out (whole_places (p r).data_out os)
out_in p (Phases q l r) os k = joined_in p l r os k
out_in p _ os k = whole_places (p k).data_out os

-- where part k of a node finds its data, where the node finds its own at these words
abbrev pub given_in : (ℕ → PlacedNode) → Node → (found : List ℕ) → (k : ℕ) → List ℕ
given_in p (Phases Then l r) gs k = of_part l k gs (p l).data_out
given_in p (Trapping l r) gs k = of_part l k gs (p l).escaped
given_in p _ gs k = gs

-- from the node of which k is a part, or its own words where there is none
abbrev pub from_whole : (Node → List ℕ → ℕ → List ℕ) → Action → (ℕ → List ℕ) → (own : List ℕ)
    → (k : ℕ) → Option ℕ → List ℕ
from_whole part a above own k (Some n) = part (node_at a n) (above n) k
from_whole part a above own k None = own

-- so it is handed down from the root, by at most so many steps
abbrev pub handed_at : (Node → List ℕ → ℕ → List ℕ) → (own : ℕ → List ℕ) → Action
    → (steps k : ℕ) → List ℕ
handed_at part own a zero k = own k
handed_at part own a (suc m) k =
    from_whole part a (handed_at part own a m) (own k) k (whole_of a k)

-- where node k leaves its data, and where it finds what it is given
abbrev pub out_of : (ℕ → PlacedNode) → Action → ℕ → List ℕ
out_of p a k = handed_at (out_in p) (λ j. (p j).data_out) a k k

abbrev pub given_of : (ℕ → PlacedNode) → Action → ℕ → List ℕ
given_of p a k = handed_at (given_in p) (λ j. (p j).data_in) a k k

-- the words that the code of a node itself may write: of its data, its bindings and what it escapes with, and of its record
abbrev pub IsOwn : PlacedNode → ℕ → Type 0
IsOwn n x =
    OneOf x n.data_out ⊎ (OneOf x n.binds_out ⊎ (OneOf x n.escaped ⊎ OneOf x (record_words n.keep)))

-- the words that may be written while node k is performed: those of the nodes in it, those where it leaves its data, and all behind its frame
abbrev pub MayWrite : (ℕ → PlacedNode) → Action → (words : ℕ → ℕ) → (k x : ℕ) → Type 0
MayWrite p a words k x =
    ((j : ℕ) × (j < length a) × IsIn a k j × IsOwn (p j) x)
    ⊎ (OneOf x (out_of p a k) ⊎ (words (procedure_of a k) ≤ x))

-- a node that has no words
abbrev pub nowhere : PlacedNode
nowhere = record { node = 0; data_in = []; binds_in = []; data_out = []; binds_out = []; escaped = []; keep = 0 }

-- the places of nodes by their numbers
abbrev pub place_at : List PlacedNode → ℕ → PlacedNode
place_at ns k = slice_index_or ns k nowhere

-- the words of the frame with a root
abbrev pub words_at : List Frame → (root : ℕ) → ℕ
words_at [] c = 0
words_at (f ∷ fs) c = if nat_eq f.root c then f.words else words_at fs c

-- the list has the places of all nodes of an action, each at its number
pub record AreByNumber (a : Action) (fs : List Frame) (ns : List PlacedNode) : Type 0 where
  pub long : length ns ≡ length a
  pub each : (f : Frame) (n : PlacedNode) → OneOf f fs → OneOf n f.nodes → place_at ns n.node ≡ n

-- the places of some nodes, each put at its number
abbrev pub put_each : List PlacedNode → List PlacedNode → List PlacedNode
put_each [] ns = ns
put_each (m ∷ ms) ns = put_each ms (slice_set ns m.node m)

-- those of all frames
abbrev pub put_frames : List Frame → List PlacedNode → List PlacedNode
put_frames [] ns = ns
put_frames (f ∷ fs) ns = put_frames fs (put_each f.nodes ns)

-- the places of the nodes of an action in these frames, by number
abbrev pub places_in : Action → List Frame → ℕ → PlacedNode
places_in a fs = place_at (put_frames fs (replicate (length a) nowhere))

-- so many words are put at the numbers of some nodes
abbrev pub put_words : List PlacedNode → (words : ℕ) → List ℕ → List ℕ
put_words [] words xs = xs
put_words (m ∷ ms) words xs = put_words ms words (slice_set xs m.node words)

-- those of each frame at the numbers of its nodes
abbrev pub put_frame_words : List Frame → List ℕ → List ℕ
put_frame_words [] xs = xs
put_frame_words (f ∷ fs) xs = put_frame_words fs (put_words f.nodes f.words xs)

-- the list has the places of all frames, put into a list of so many
pub record ArePut (count : ℕ) (fs : List Frame) (ns : List PlacedNode) : Type 0 where
  pub start : List PlacedNode
  pub long : length start ≡ count
  pub are : ns ≡ put_frames fs start

-- of some parts, each gets its words
abbrev pub handed_to : List ℕ → (ℕ → List ℕ) → List (List ℕ) → List (List ℕ)
handed_to [] f xs = xs
handed_to (k ∷ ks) f xs = handed_to ks f (slice_set xs k (f k))

-- lists without where they lie, and the list of a number
abbrev pub lists_of : List (Bor (List ℕ)) → List (List ℕ)
lists_of xs = map (λ x. x.now) xs

abbrev pub list_at : List (List ℕ) → ℕ → List ℕ
list_at xs k = slice_index_or xs k []
