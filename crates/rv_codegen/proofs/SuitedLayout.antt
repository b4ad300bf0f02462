-- The frames of the small action, so that each premise of what its places tell is met too.
use Rattle.std.proofs.Common.{◌≡◌, ℕ, zero, suc, ◌<◌, ◌≤◌, inl, inr, List, [], ◌∷◌, length, refl, arith}
use Rattle.std.specs.Prelude.{replicate}
use Rattle.std.proofs.lemmas.List.Elements.{All-cons, All-nil}
use Rattle.action_terms.specs.Actions.{node_at}
use Rattle.action_terms.specs.Information.{NoBinds}
use Rattle.action_terms.specs.Performances.{OneOf}
use Rattle.sort_rules.specs.Procedures.{parts_at}
use Rattle.sort_rules.proofs.Choices.{member_cases}
use Rattle.frame_layout.specs.Layouts.{IsInTurn, OfPhases, front_words}
use Rattle.frame_layout.specs.Places.{Frame, PlacedNode}
use Rattle.frame_layout.proofs.GraphParts.{HasTrees}
use Rattle.frame_layout.proofs.LayoutLaws.{AreFramesBelow, frames-layout, frames_below}
use Rattle.rv_codegen.specs.Aliases.{AreByNumber, given_of, nowhere, out_of, place_at, put_frames}
use Rattle.rv_codegen.proofs.PuttingPlaces.{put-by_number}
use Rattle.rv_codegen.proofs.Suited.{SuitsAt}
use Rattle.rv_codegen.proofs.SuitedExample.{admissible, frames, given, giving, second-reached, steps, table, world}
use Rattle.rv_codegen.proofs.SuitedPlaces.{suits}

first-parts : (c : ℕ) → OneOf c (1 ∷ 2 ∷ []) → (0 < c) × (c < 3)
first-parts c m = elim (member_cases m) [
  | inl e ↦ (omega (arith, e), omega (arith, e))
  | inr later ↦ elim (member_cases later) [ inl e ↦ (omega (arith, e), omega (arith, e)) | inr none ↦ elim none [ ] ]
]

within : (k c : ℕ) → OneOf c (parts_at (node_at giving k)) → c < length giving
within zero c m = (first-parts c m).1
within (suc zero) c m = elim m [ ]
within (suc (suc zero)) c m = elim m [ ]
within (suc (suc (suc k))) c m = elim m [ ]

behind : (k c : ℕ) → OneOf c (parts_at (node_at giving k)) → k < c
behind zero c m = (first-parts c m).0
behind (suc zero) c m = elim m [ ]
behind (suc (suc zero)) c m = elim m [ ]
behind (suc (suc (suc k))) c m = elim m [ ]

with-parts : (k c : ℕ) → OneOf c (parts_at (node_at giving k)) → k ≡ 0
with-parts zero c m = refl
with-parts (suc zero) c m = elim m [ ]
with-parts (suc (suc zero)) c m = elim m [ ]
with-parts (suc (suc (suc k))) c m = elim m [ ]

in-turn : (k l r : ℕ) → IsInTurn (node_at giving k) l r → l < r
in-turn zero l r OfPhases = omega arith
in-turn (suc zero) l r h = elim h [ ]
in-turn (suc (suc zero)) l r h = elim h [ ]
in-turn (suc (suc (suc k))) l r h = elim h [ ]

trees : HasTrees giving
trees = record { within = within; behind = behind; one = λ j k c m n. omega (arith, with-parts j c m, with-parts k c n); in_turn = in-turn }

abbrev giving_frames : List Frame
giving_frames = frames_below giving table front_words 3

all : AreFramesBelow giving table front_words (length giving) giving_frames
all = record { frames = refl; reached = All-cons (λ f. f.words ≤ 33554432) _ [] (omega arith) (All-nil (λ f. f.words ≤ 33554432)) }

abbrev places : List PlacedNode
places = put_frames giving_frames (replicate 3 nowhere)

by_number : AreByNumber giving giving_frames places
by_number = put-by_number giving table giving_frames (frames-layout giving trees table giving_frames all) places (record { start = replicate 3 nowhere; long = refl; are = refl })

second-suits : SuitsAt giving (out_of (place_at places) giving) (λ j. (place_at places j).escaped) 2 given NoBinds world
second-suits = suits giving trees table giving_frames (frames-layout giving trees table giving_frames all) (frames-layout giving trees table giving_frames all).apart places by_number admissible [] steps frames 2 (omega arith) given NoBinds world second-reached

-- `send` finds its datum where `give` leaves it, behind the front of the frame
second-finds : given_of (place_at places) giving 2 ≡ 32 ∷ []
second-finds = refl

first-leaves : out_of (place_at places) giving 1 ≡ 32 ∷ []
first-leaves = refl
