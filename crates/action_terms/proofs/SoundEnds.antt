-- Where a part has ended soundly, what the whole becomes is sound.
use Rattle.std.proofs.Common.{ℕ, ◌<◌, List, [], ◌∷◌, ◌++◌, length, All}
use Rattle.std.proofs.lemmas.List.Elements.{All-nil, All-head, All-tail, All-append}
use Rattle.action_terms.specs.Information.{Binds, Data}
use Rattle.action_terms.specs.Bindings.{overlaid, meets}
use Rattle.action_terms.specs.Actions.{Join, And, Moreover, Chain, AndThen, Then, Hence, Before, Node, Both, Phases, Trapping, Action, node_at}
use Rattle.action_terms.specs.Acting.{Done, Esc, Fail, Tree, Run, Ended, Second}
use Rattle.action_terms.specs.Steps.{failed, united, joined, handed_data, handed_binds, chained, after_any, after_broken, joined_parts, after_both, second_part, after_first, chained_parts, after_second, after_or, handler, after_trap, after_over}
use Rattle.action_terms.specs.Proper.{named}
use Rattle.action_terms.specs.Sound.{Known, IsSoundDatum, AreSoundBinds, AreSoundData, IsSoundEnd, IsPhases, IsKnownTree}
use Rattle.action_terms.proofs.AllLaws.{All-one}
use Rattle.action_terms.proofs.SoundBindings.{of_choice, sound-overlaid}

module _ (known : Known) (a : Action) where
  -- data and bindings that are sound
  abbrev AreSoundBoth : Data → Binds → Type 0
  AreSoundBoth d b = AreSoundData known d × AreSoundBinds known b

  sound-united : (d : Data) (b1 b2 : Binds) → AreSoundData known d → AreSoundBinds known b1 → AreSoundBinds known b2 → IsSoundEnd known (united d b1 b2)
  sound-united d b1 b2 data_sound first second =
      of_choice (IsSoundEnd known) (meets b1 b2) Fail (Done d (overlaid b1 b2)) tt (data_sound, sound-overlaid known b1 b2 first second)

  sound-appended : (d1 d2 : Data) → AreSoundData known d1 → AreSoundData known d2 → AreSoundData known (d1 ++ d2)
  sound-appended = All-append (IsSoundDatum known)

  sound-joined : (j : Join) (d1 : Data) (b1 : Binds) (d2 : Data) (b2 : Binds) → AreSoundBoth d1 b1 → AreSoundBoth d2 b2 → IsSoundEnd known (joined j d1 b1 d2 b2)
  sound-joined And d1 b1 d2 b2 first second = sound-united (d1 ++ d2) b1 b2 (sound-appended d1 d2 first.0 second.0) first.1 second.1
  sound-joined Moreover d1 b1 d2 b2 first second = (sound-appended d1 d2 first.0 second.0, sound-overlaid known b1 b2 first.1 second.1)

  sound-handed_data : (q : Chain) (d d1 : Data) → AreSoundData known d → AreSoundData known d1 → AreSoundData known (handed_data q d d1)
  sound-handed_data AndThen d d1 whole first = whole
  sound-handed_data Then d d1 whole first = first
  sound-handed_data Hence d d1 whole first = whole
  sound-handed_data Before d d1 whole first = whole

  sound-handed_binds : (q : Chain) (b b1 : Binds) → AreSoundBinds known b → AreSoundBinds known b1 → AreSoundBinds known (handed_binds q b b1)
  sound-handed_binds AndThen b b1 whole first = whole
  sound-handed_binds Then b b1 whole first = whole
  sound-handed_binds Hence b b1 whole first = first
  sound-handed_binds Before b b1 whole first = sound-overlaid known b b1 whole first

  sound-chained : (q : Chain) (d1 : Data) (b1 : Binds) (d2 : Data) (b2 : Binds) → AreSoundBoth d1 b1 → AreSoundBoth d2 b2 → IsSoundEnd known (chained q d1 b1 d2 b2)
  sound-chained AndThen d1 b1 d2 b2 first second = sound-united (d1 ++ d2) b1 b2 (sound-appended d1 d2 first.0 second.0) first.1 second.1
  sound-chained Then d1 b1 d2 b2 first second = sound-united d2 b1 b2 second.0 first.1 second.1
  sound-chained Hence d1 b1 d2 b2 first second = (sound-appended d1 d2 first.0 second.0, second.1)
  sound-chained Before d1 b1 d2 b2 first second = (sound-appended d1 d2 first.0 second.0, sound-overlaid known b1 b2 first.1 second.1)

  -- what may follow, each time at most one tree
  abbrev AllSound : List Tree → Type 0
  AllSound ts = All (IsKnownTree known a) ts

  none-sound : AllSound []
  none-sound = All-nil (IsKnownTree known a)

  one-sound : (t : Tree) → IsKnownTree known a t → AllSound (t ∷ [])
  one-sound = All-one (IsKnownTree known a)

  pub sound-after_any : (t : Tree) → IsKnownTree known a t → AllSound (after_any t)
  sound-after_any (Ended z) here = one-sound (Ended z) here
  sound-after_any _ here = none-sound

  pub sound-after_broken : (t : Tree) → IsKnownTree known a t → AllSound (after_broken t)
  sound-after_broken (Ended (Esc e)) here = one-sound (Ended (Esc e)) here
  sound-after_broken (Ended Fail) here = one-sound failed tt
  sound-after_broken _ here = none-sound

  sound-joined_parts : (n : Node) (d1 : Data) (b1 : Binds) (d2 : Data) (b2 : Binds) → AreSoundBoth d1 b1 → AreSoundBoth d2 b2 → AllSound (joined_parts n d1 b1 d2 b2)
  sound-joined_parts (Both j l r) d1 b1 d2 b2 first second = one-sound (Ended (joined j d1 b1 d2 b2)) (sound-joined j d1 b1 d2 b2 first second)
  sound-joined_parts _ d1 b1 d2 b2 first second = none-sound

  pub sound-after_both : (n : Node) (x y : Tree) → IsKnownTree known a x → IsKnownTree known a y → AllSound (after_both n x y)
  sound-after_both n (Ended (Done d1 b1)) (Ended (Done d2 b2)) first second = sound-joined_parts n d1 b1 d2 b2 first second
  sound-after_both n _ _ first second = none-sound

  -- the second part runs soundly
  sound-second_part : (n : Node) (k : ℕ) (d : Data) (b : Binds) (d1 : Data) (b1 : Binds) → All (λ j. j < length a) (named n) → IsPhases (node_at a k) → AreSoundBoth d b → AreSoundBoth d1 b1 → AllSound (second_part n k d b d1 b1)
  sound-second_part (Phases q l r) k d b d1 b1 within is whole first =
      let less = All-head (λ j. j < length a) r [] (All-tail (λ j. j < length a) l (r ∷ []) within) in
      one-sound (Second k d1 b1 (Run r (handed_data q d d1) (handed_binds q b b1)))
      (is, first.0, first.1, (less, sound-handed_data q d d1 whole.0 first.0, sound-handed_binds q b b1 whole.1 first.1))
  sound-second_part _ k d b d1 b1 within is whole first = none-sound

  pub sound-after_first : (n : Node) (k : ℕ) (d : Data) (b : Binds) (t : Tree) → All (λ j. j < length a) (named n) → IsPhases (node_at a k) → AreSoundBoth d b → IsKnownTree known a t → AllSound (after_first n k d b t)
  sound-after_first n k d b (Ended (Done d1 b1)) within is whole here = sound-second_part n k d b d1 b1 within is whole here
  sound-after_first n k d b t within is whole here = sound-after_broken t here

  sound-chained_parts : (n : Node) (d1 : Data) (b1 : Binds) (d2 : Data) (b2 : Binds) → AreSoundBoth d1 b1 → AreSoundBoth d2 b2 → AllSound (chained_parts n d1 b1 d2 b2)
  sound-chained_parts (Phases q l r) d1 b1 d2 b2 first second = one-sound (Ended (chained q d1 b1 d2 b2)) (sound-chained q d1 b1 d2 b2 first second)
  sound-chained_parts _ d1 b1 d2 b2 first second = none-sound

  pub sound-after_second : (n : Node) (d1 : Data) (b1 : Binds) (t : Tree) → AreSoundBoth d1 b1 → IsKnownTree known a t → AllSound (after_second n d1 b1 t)
  sound-after_second n d1 b1 (Ended (Done d2 b2)) first here = sound-chained_parts n d1 b1 d2 b2 first here
  sound-after_second n d1 b1 t first here = sound-after_broken t here

  pub sound-after_or : (k2 : ℕ) (d : Data) (b : Binds) (t : Tree) → IsKnownTree known a (Run k2 d b) → IsKnownTree known a t → AllSound (after_or k2 d b t)
  sound-after_or k2 d b (Ended Fail) other here = one-sound (Run k2 d b) other
  sound-after_or k2 d b t other here = sound-after_any t here

  sound-handler : (n : Node) (e : Data) (b : Binds) → All (λ j. j < length a) (named n) → AreSoundBoth e b → AllSound (handler n e b)
  sound-handler (Trapping l r) e b within here =
      one-sound (Run r e b) (All-head (λ j. j < length a) r [] (All-tail (λ j. j < length a) l (r ∷ []) within), here.0, here.1)
  sound-handler _ e b within here = none-sound

  pub sound-after_trap : (n : Node) (b : Binds) (t : Tree) → All (λ j. j < length a) (named n) → AreSoundBinds known b → IsKnownTree known a t → AllSound (after_trap n b t)
  sound-after_trap n b (Ended (Esc e)) within binds_sound here = sound-handler n e b within (here, binds_sound)
  sound-after_trap n b t within binds_sound here = sound-after_any t here

  pub sound-after_over : (b : Binds) (t : Tree) → AreSoundBinds known b → IsKnownTree known a t → AllSound (after_over b t)
  sound-after_over b (Ended (Done d1 b1)) binds_sound here = one-sound (Ended (Done d1 (overlaid b b1))) (here.0, sound-overlaid known b b1 binds_sound here.1)
  sound-after_over b t binds_sound here = sound-after_broken t here
