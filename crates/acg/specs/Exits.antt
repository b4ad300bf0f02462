-- How the program ends for the words of its arguments.
use Rattle.std.specs.Prelude.{◌≡◌, ◌≢◌, ◌⊎◌, ℕ, IsTrue, List, []}
use Rattle.acg_base.specs.Statuses.{code_of}
use Rattle.acg_base.specs.declared.sink.Sink.{Ghosts as Sink}
use Rattle.acg_base.specs.declared.status.Status.{Status}
use Rattle.acg_base.specs.declared.status.Status.TheVariants as status
use Rattle.acg_base.specs.declared.store.Store.{Ghosts as Store}
use Rattle.acg_words.specs.Commands.{command_of}
use Rattle.acg_driver.specs.Files.{files_if}
use Rattle.acg_driver.specs.Serving.{Served, ServedSurely, Performs}

-- the words were served: the exit status is the number of the answered status
pub record ExitsServed {S K : Type 0} (store : Store S) (sink : Sink K) (words : List (List ℕ)) (old new : S) (out gained : K) (code : ℕ) : Type 0 where
  pub answered : Status
  pub number : code ≡ code_of answered
  pub served : Served store sink (command_of words) old new out gained answered
  pub surely : IsTrue (store.sure old) → ServedSurely sink (store.contents old) (command_of words) out gained answered
  pub performs : IsTrue (store.tells old) → answered ≢ status.ReadFault → answered ≢ status.WriteFault →
      Performs (store.contents old) words answered
  pub idle : files_if (command_of words) ≡ [] → new ≡ old

-- there was no memory for the words, of which there is one at least: nothing was read or written, and the exit status says
-- so. When memory runs out isn't known; where there are no words to keep, it doesn't
pub record ExitsUnserved {S K : Type 0} (words : List (List ℕ)) (old new : S) (out gained : K) (code : ℕ) : Type 0 where
  pub some : words ≢ []
  pub number : code ≡ code_of status.Memory
  pub store : new ≡ old
  pub sink : gained ≡ out

-- how the program ends, over any store and any sink
abbrev pub Exits : {S K : Type 0} (store : Store S) (sink : Sink K) (words : List (List ℕ)) (old new : S) (out gained : K) (code : ℕ) → Type 0
Exits store sink words old new out gained code = ExitsServed store sink words old new out gained code ⊎ ExitsUnserved words old new out gained code
