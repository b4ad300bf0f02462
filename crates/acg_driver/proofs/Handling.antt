-- What a command does, from what it asked the store for and what it said to the sink.
use Rattle.std.proofs.Common.{◌≡◌, ◌≢◌, ◌⊎◌, inl, inr, ℕ, List, [], ◌++◌, Some, None, Ok, Err, IsTrue, refl, sym, ap, ◌∙◌, subst}
use Rattle.acg_base.specs.declared.sink.Sink.{Ghosts as Sink}
use Rattle.acg_base.specs.declared.status.Status.{Status}
use Rattle.acg_base.specs.declared.status.Status.TheVariants as status
use Rattle.acg_base.specs.declared.store.Store.{Ghosts as Store}
use Rattle.acg_words.specs.Commands.{Command}
use Rattle.acg_words.specs.Lines.{bytes_of, status_of, read_fault_line}
use Rattle.acg_words.specs.Prints.{Answered}
use Rattle.acg_words.specs.declared.line.Line.{Line}
use Rattle.acg_words.specs.declared.line.Line.TheVariants.{ReadFault, Words, Exited}
use Rattle.acg_driver.specs.Says.{Said}
use Rattle.acg_driver.specs.Files.{files_of, readings_of, ReadOnly, Lacks, missing_file, FaultsWhere, NamesFault, Gathered}
use Rattle.acg_driver.specs.Serving.{Refuses, GoesOn, Carries, Handled}
use Rattle.acg_driver.proofs.Asking.{exit_status-other, reads-as, reads-none}

-- a status is that of a failed write, or another one
write_fault-or : (s : Status) → (s ≡ status.WriteFault) ⊎ (s ≢ status.WriteFault)
write_fault-or status.WriteFault = inl refl
write_fault-or _ = inr (λ e. cc)

-- the status of a failed read isn't that of a failed write
read-not_write : {s : Status} → s ≡ status.ReadFault → s ≢ status.WriteFault
read-not_write e w = let both : status.ReadFault ≡ status.WriteFault = sym e ∙ w in cc

-- the line of a read fault, by its name
fault-line : (name : List ℕ) (line : Line) → status_of line ≡ status.ReadFault → NamesFault name line → bytes_of line ≡ read_fault_line name
fault-line name (ReadFault other) fault named = ap read_fault_line named
fault-line name (Exited code) fault named = absurd (exit_status-other code fault)
fault-line name _ fault named = absurd cc

-- what is answered for a status, or that a write failed
faults-answered : {IsLacking : Type 0} {wanted result : Status} → FaultsWhere IsLacking wanted → (result ≢ status.WriteFault → result ≡ wanted) → FaultsWhere IsLacking result
faults-answered {IsLacking} {wanted} {result} faults answers = record {
  only = λ fault. faults.only (sym (answers (read-not_write fault)) ∙ fault);
  all = λ lacks. elim (write_fault-or result) [
    | inl fault ↦ inr (inr fault)
    | inr other ↦ elim (faults.all lacks) [
      | inl fault ↦ inl (answers other ∙ fault)
      | inr others ↦ elim others [ inl memory ↦ inr (inl (answers other ∙ memory)) | inr fault ↦ inr (inr (answers other ∙ fault)) ]
    ]
  ];
}

module _ {S K : Type 0} {store : Store S} {sink : Sink K} where
  -- a refusal says its line
  pub handled-refused : {A : Type 0} {Wanted : List (List ℕ) → A → Type 0} {old new : S} {out gained : K} {result : Status} (command : Command) (line : Line)
      → Gathered store (files_of command) (GoesOn command) (Refuses command) Wanted old new (Err line) → Answered sink (bytes_of line) (status_of line) out gained result
      → (files_of command ≡ [] → ⊥) → Handled store sink (Some command) old new out gained result
  handled-refused {A} {Wanted} {old} {new} {out} {gained} {result} command line gathered answered some = record {
    served = record {
      givens = gathered.refused.0;
      text = bytes_of line;
      status = status_of line;
      said = inl (line, gathered.refused.1, (refl, refl));
      read = gathered.refused.2;
      answered = answered;
    };
    surely = λ sure. let asks = gathered.surely sure in record {
      faults = faults-answered asks.faults answered.answer;
      named = λ fault told.
          let other = read-not_write fault in
          (answered.done other).wrote told
          ∙ ap (λ text. sink.written out ++ text)
          (fault-line (missing_file (store.contents old) (files_of command)) line (sym (answered.answer other) ∙ fault) asks.named);
    };
    idle = λ none. absurd (some none);
  }

  -- what a command says that isn't refused
  pub handled-said : {A : Type 0} {Wanted : List (List ℕ) → A → Type 0} {old new : S} {out gained : K} {result : Status} (command : Command) (a : A)
      → (gathered : Gathered store (files_of command) (GoesOn command) (Refuses command) Wanted old new (Ok a))
      → (said : Said sink (Carries command gathered.wanted.0) out gained result)
      → said.status ≢ status.ReadFault → (files_of command ≡ [] → ⊥) → Handled store sink (Some command) old new out gained result
  handled-said {A} {Wanted} {old} {new} {out} {gained} {result} command a gathered said quiet some = record {
    served = record {
      givens = gathered.wanted.0;
      text = said.text;
      status = said.status;
      said = inr said.said;
      read = reads-as said.status quiet gathered.wanted.2;
      answered = said.answered;
    };
    surely = λ sure. let asks = gathered.surely sure in record {
      faults = record {
        only = λ fault. absurd (quiet (sym (said.answered.answer (read-not_write fault)) ∙ fault));
        all = λ lacks. absurd (elim (asks.faults.all lacks) [ inl e ↦ cc | inr others ↦ elim others [ inl e ↦ cc | inr e ↦ cc ] ]);
      };
      named = λ fault told. absurd (quiet (sym (said.answered.answer (read-not_write fault)) ∙ fault));
    };
    idle = λ none. absurd (some none);
  }

  -- words that are no command
  pub handled-none : {store_now : S} {out gained : K} {result : Status} → Answered sink (bytes_of Words) (status_of Words) out gained result → Handled store sink None store_now store_now out gained result
  handled-none {store_now} answered = record {
    served = record {
      givens = [];
      text = bytes_of Words;
      status = status_of Words;
      said = (refl, (refl, refl));
      read = reads-as status.Words (λ e. cc) (reads-none store_now);
      answered = answered;
    };
    surely = λ sure. record {
      faults = record { only = λ fault. let both = sym (answered.answer (read-not_write fault)) ∙ fault in cc; all = λ lacks. absurd lacks };
      named = λ fault told. let both = sym (answered.answer (read-not_write fault)) ∙ fault in cc;
    };
    idle = λ none. refl;
  }

  -- a command without files that prints a text
  pub handled-alone : {store_now : S} {out gained : K} {result : Status} (command : Command) (text : List ℕ) → files_of command ≡ [] → Carries command [] text status.Done
      → Answered sink text status.Done out gained result → Handled store sink (Some command) store_now store_now out gained result
  handled-alone {store_now} {out} {gained} {result} command text none carries answered = record {
    served = record {
      givens = [];
      text = text;
      status = status.Done;
      said = inr carries;
      read = subst (λ files. ReadOnly store (readings_of files []) status.Done store_now store_now) (sym none) (reads-none store_now);
      answered = answered;
    };
    surely = λ sure. record {
      faults = record {
        only = λ fault. let both = sym (answered.answer (read-not_write fault)) ∙ fault in cc;
        all = λ lacks. absurd (subst (Lacks (GoesOn command) (store.contents store_now)) none lacks);
      };
      named = λ fault told. let both = sym (answered.answer (read-not_write fault)) ∙ fault in cc;
    };
    idle = λ _. refl;
  }
