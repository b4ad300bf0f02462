-- What a request asks a store for.
use Rattle.std.proofs.Common.{◌≡◌, ◌≢◌, ◌⊎◌, inl, inr, ℕ, zero, suc, ◌+◌, List, [], ◌∷◌, ◌++◌, length, Some, None, Result, Ok, Err, IsTrue, refl, sym, ap, ◌∙◌, subst, arith, append_assoc, append-nil, length-append}
use Rattle.std.proofs.lemmas.Result.{IfOk-weaker, IfErr-weaker}
use Rattle.std.specs.Prelude.{Option, IfErr}
use Rattle.acg_base.specs.Outside.{Contents, SameContents, Reading, counted, front}
use Rattle.acg_base.specs.declared.status.Status.{Status}
use Rattle.acg_base.specs.declared.status.Status.TheVariants as status
use Rattle.acg_base.specs.declared.store.Store.{Ghosts}
use Rattle.acg_words.specs.Lines.{status_of, exit_status}
use Rattle.acg_words.specs.declared.line.Line.{Line}
use Rattle.acg_words.specs.declared.line.Line.TheVariants.{Memory, ReadFault, Exited}
use Rattle.acg_driver.specs.Texts.{RefusesText, IsUnread}
use Rattle.acg_driver.specs.Files.{File, limit_of, input_files, reading, readings_of, faults_with, counted_by, ReadsWith, IsGiven, AreGiven, ReadOnly, Lacks, first_missing, missing_file, FaultsWhere, read_status, NamesFault, AsksSurely, Gathered}

-- a status that isn't that of a read fault counts none
pub other-still : (s : Status) (count : ℕ) → s ≢ status.ReadFault → faults_with s count ≡ count
other-still status.ReadFault count other = absurd (other refl)
other-still _ count other = refl

-- ---- counts of reads

counted_by-more : (first second count : ℕ) → counted_by (first + second) count ≡ counted_by second (counted_by first count)
counted_by-more zero second count =
    let none : zero + second ≡ second = omega arith in ap (λ calls. counted_by calls count) none
counted_by-more (suc first) second count =
    let next : suc first + second ≡ suc (first + second) = omega arith in
    ap (λ calls. counted_by calls count) next ∙ counted_by-more first second (counted count)

counted-behind : (first second old middle : ℕ) → middle ≡ counted_by first old → counted_by second middle ≡ counted_by (first + second) old
counted-behind first second old middle is = ap (counted_by second) is ∙ sym (counted_by-more first second old)

reads_with-as : (given : ℕ) (s : Status) (old new : ℕ) → s ≢ status.ReadFault → ReadsWith given status.Done old new → ReadsWith given s old new
reads_with-as given status.ReadFault old new other is = absurd (other refl)
reads_with-as given status.Memory old new other is = inl is
reads_with-as given _ old new other is = is

reads_with-then : (first second : ℕ) (s : Status) (old middle new : ℕ) → middle ≡ counted_by first old → ReadsWith second s middle new → ReadsWith (first + second) s old new
reads_with-then first second status.ReadFault old middle new begun is =
    let next : first + suc second ≡ suc (first + second) = omega arith in
    is ∙ counted-behind first (suc second) old middle begun ∙ ap (λ calls. counted_by calls old) next
reads_with-then first second status.Memory old middle new begun (inl is) = inl (is ∙ counted-behind first second old middle begun)
reads_with-then first second status.Memory old middle new begun (inr is) =
    let next : first + suc second ≡ suc (first + second) = omega arith in
    inr (is ∙ counted-behind first (suc second) old middle begun ∙ ap (λ calls. counted_by calls old) next)
reads_with-then first second _ old middle new begun is = is ∙ counted-behind first second old middle begun

-- ---- statuses and lines

-- no exit of an image is a read fault
pub exit_status-other : (code : ℕ) → exit_status code ≢ status.ReadFault
exit_status-other zero = λ e. cc
exit_status-other (suc zero) = λ e. cc
exit_status-other (suc (suc zero)) = λ e. cc
exit_status-other (suc (suc (suc zero))) = λ e. cc
exit_status-other (suc (suc (suc (suc code)))) = λ e. cc

-- no refusal of a text is a read fault
pub text-other : (bytes : List ℕ) (line : Line) → RefusesText bytes line → status_of line ≢ status.ReadFault
text-other bytes (ReadFault name) refused = absurd refused
text-other bytes (Exited code) refused = absurd refused
text-other bytes _ refused = λ e. cc

-- a line with another status names no file
pub other-named : (name : List ℕ) (line : Line) → status_of line ≢ status.ReadFault → NamesFault name line
other-named name (ReadFault other) not = absurd (not refl)
other-named name _ not = tt

-- ---- readings

given-then : (contents : Contents) (first second : List Reading) → AreGiven contents first → AreGiven contents second → AreGiven contents (first ++ second)
given-then contents [] second a b = b
given-then contents (r ∷ first) second a b = (a.0, given-then contents first second a.1 b)

given-same : (contents contents' : Contents) (rs : List Reading) → SameContents contents contents' → AreGiven contents' rs → AreGiven contents rs
given-same contents contents' [] same given = tt
given-same contents contents' (r ∷ rs) same given =
    ((given.0.0, sym (same r.name) ∙ given.0.1, given.0.2), given-same contents contents' rs same given.1)

module _ {S : Type 0} {store : Ghosts S} where
  -- nothing is asked
  pub reads-none : (old : S) → ReadOnly store [] status.Done old old
  reads-none old = record {
    logged = λ _. sym (append-nil (store.readings old));
    given = λ _. tt;
    same = λ _ name. refl;
    reads = refl;
    faults = refl;
    writes = refl;
    tells_still = refl;
    logs_still = refl;
    sure_still = refl;
  }

  -- a status that isn't that of a read fault
  pub reads-as : {rs : List Reading} {old new : S} (s : Status) → s ≢ status.ReadFault → ReadOnly store rs status.Done old new → ReadOnly store rs s old new
  reads-as {rs} {old} {new} s other reads = record {
    logged = reads.logged;
    given = reads.given;
    same = reads.same;
    reads = reads_with-as (length rs) s (store.reads old) (store.reads new) other reads.reads;
    faults = reads.faults ∙ sym (other-still s (store.failed_reads old) other);
    writes = reads.writes;
    tells_still = reads.tells_still;
    logs_still = reads.logs_still;
    sure_still = reads.sure_still;
  }

  -- more is asked behind readings
  pub reads-then : {first second : List Reading} {s : Status} {old middle new : S} → ReadOnly store first status.Done old middle → ReadOnly store second s middle new → ReadOnly store (first ++ second) s old new
  reads-then {first} {second} {s} {old} {middle} {new} begun more = record {
    logged = λ logs. more.logged (subst IsTrue (sym begun.logs_still) logs) ∙ ap (λ rs. rs ++ second) (begun.logged logs) ∙ append_assoc (store.readings old) first second;
    given = λ told. given-then (store.contents old) first second (begun.given told)
        (given-same (store.contents old) (store.contents middle) second (begun.same told) (more.given (subst IsTrue (sym begun.tells_still) told)));
    same = λ told name. more.same (subst IsTrue (sym begun.tells_still) told) name ∙ begun.same told name;
    reads = subst (λ given. ReadsWith given s (store.reads old) (store.reads new)) (sym (length-append first second))
        (reads_with-then (length first) (length second) s (store.reads old) (store.reads middle) (store.reads new) begun.reads more.reads);
    faults = more.faults ∙ ap (faults_with s) begun.faults;
    writes = more.writes ∙ begun.writes;
    tells_still = more.tells_still ∙ begun.tells_still;
    logs_still = more.logs_still ∙ begun.logs_still;
    sure_still = more.sure_still ∙ begun.sure_still;
  }

-- ---- files that are lacking

given-there : (contents contents' : Contents) (r : Reading) → SameContents contents contents' → IsGiven contents r → IsGiven contents' r
given-there contents contents' r same given = (given.0, same r.name ∙ given.1, given.2)

lacks-same : (GoesOn : List (List ℕ) → Type 0) (contents contents' : Contents) (files : List File) → SameContents contents contents' → Lacks GoesOn contents files → Lacks GoesOn contents' files
lacks-same GoesOn contents contents' [] same lacks = lacks
lacks-same GoesOn contents contents' (f ∷ files) same (inl gone) = inl (same f.name ∙ gone)
lacks-same GoesOn contents contents' (f ∷ files) same (inr (given, is, goes, lacks)) =
    inr (given, given-there contents contents' (reading f given) same is, goes, lacks-same (λ more. GoesOn (given ∷ more)) contents contents' files same lacks)

same-back : (contents contents' : Contents) → SameContents contents contents' → SameContents contents' contents
same-back contents contents' same = λ name. sym (same name)

missing-same : (contents contents' : Contents) (files : List File) → SameContents contents contents' → missing_file contents' files ≡ missing_file contents files
missing-same contents contents' [] same = refl
missing-same contents contents' (f ∷ files) same =
    ap (λ o. first_missing o f.name (missing_file contents' files)) (same f.name) ∙ ap (first_missing (contents f.name) f.name) (missing-same contents contents' files same)

-- a file that isn't there gives nothing
given-not_gone : (contents : Contents) (f : File) (given : List ℕ) → IsGiven contents (reading f given) → contents f.name ≡ None → ⊥
given-not_gone contents f given is gone = let both = sym gone ∙ is.1 in cc

-- a file gives the same bytes each time
one-given : (contents : Contents) (f : File) (first second : List ℕ) → IsGiven contents (reading f first) → IsGiven contents (reading f second) → first ≡ second
one-given contents f first second a b =
    let same : a.0 ≡ b.0 = (let both = sym a.1 ∙ b.1 in cc) in
    a.2 ∙ ap (front (limit_of f.role)) same ∙ sym b.2

unread-status : (name : List ℕ) (line : Line) → IsUnread name line → (status_of line ≡ status.ReadFault) ⊎ (status_of line ≡ status.Memory)
unread-status name (ReadFault other) unread = inl refl
unread-status name Memory unread = inr refl
unread-status name _ unread = absurd unread

unread-named : (contents : Contents) (f : File) (files : List File) (line : Line) → IsUnread f.name line → (status_of line ≡ status.ReadFault → contents f.name ≡ None) → NamesFault (missing_file contents (f ∷ files)) line
unread-named contents f files (ReadFault other) is gone = is ∙ sym (ap (λ o. first_missing o f.name (missing_file contents files)) (gone refl))
unread-named contents f files _ unread gone = tt

-- the first file isn't read
asks-unread : {A : Type 0} (GoesOn : List (List ℕ) → Type 0) (contents : Contents) (f : File) (files : List File) (line : Line) → IsUnread f.name line → FaultsWhere (contents f.name ≡ None) (status_of line)
    → AsksSurely {A = A} GoesOn contents (f ∷ files) (Err line)
asks-unread GoesOn contents f files line unread faults = record {
  faults = record {
    only = λ fault. inl (faults.only fault);
    all = λ lacks. elim (unread-status f.name line unread) [ inl fault ↦ inl fault | inr memory ↦ inr (inl memory) ];
  };
  named = unread-named contents f files line unread faults.only;
}

names-if : {A : Type 0} (name : List ℕ) (result : Result A Line) → read_status result ≢ status.ReadFault → IfErr result (NamesFault name)
names-if name (Ok a) other = tt
names-if name (Err line) other = other-named name line other

-- no file is lacking, and no read fault is answered
asks-all : {A : Type 0} (GoesOn : List (List ℕ) → Type 0) (contents : Contents) (files : List File) (result : Result A Line) → (Lacks GoesOn contents files → ⊥) → read_status result ≢ status.ReadFault → AsksSurely GoesOn contents files result
asks-all GoesOn contents files result all other = record {
  faults = record { only = λ fault. absurd (other fault); all = λ lacks. absurd (all lacks) };
  named = names-if (missing_file contents files) result other;
}

-- where all is asked for, no file is lacking
asks-none : {A : Type 0} (GoesOn : List (List ℕ) → Type 0) (contents : Contents) (files : List File) (a : A) → AsksSurely GoesOn contents files (Ok a) → Lacks GoesOn contents files → ⊥
asks-none GoesOn contents files a asks lacks = elim (asks.faults.all lacks) [ inl e ↦ cc | inr others ↦ elim others [ inl e ↦ cc | inr e ↦ cc ] ]

-- the first file is there, and what it gave is refused
asks-refused :
    {A : Type 0} (GoesOn : List (List ℕ) → Type 0) (contents : Contents) (f : File) (files : List File) (given : List ℕ) (line : Line) → IsGiven contents (reading f given) →
    status_of line ≢ status.ReadFault → (GoesOn (given ∷ []) → status_of line ≡ status.Memory) → AsksSurely {A = A} GoesOn contents (f ∷ files) (Err line)
asks-refused GoesOn contents f files given line is other only = record {
  faults = record {
    only = λ fault. absurd (other fault);
    all = λ lacks. elim lacks [
      | inl gone ↦ absurd (given-not_gone contents f given is gone)
      | inr more ↦ inr (inl (only (subst (λ g. GoesOn (g ∷ [])) (one-given contents f more.0 given more.1 is) more.2)))
    ];
  };
  named = other-named (missing_file contents (f ∷ files)) line other;
}

named-as : {A : Type 0} (name name' : List ℕ) (result : Result A Line) → name ≡ name' → IfErr result (NamesFault name) → IfErr result (NamesFault name')
named-as name name' result same named = subst (λ n. IfErr result (NamesFault n)) same named

-- what the first file gives leads to the others, and then they are asked for
asks-behind :
    {A : Type 0} (GoesOn : List (List ℕ) → Type 0) (contents contents' : Contents) (f : File) (files : List File) (given : List ℕ) (result : Result A Line) → IsGiven contents (reading f given) →
    GoesOn (given ∷ []) → SameContents contents contents' → AsksSurely (λ more. GoesOn (given ∷ more)) contents' files result → AsksSurely GoesOn contents (f ∷ files) result
asks-behind GoesOn contents contents' f files given result is goes same asks = record {
  faults = record {
    only = λ fault. inr (given, is, goes, lacks-same (λ more. GoesOn (given ∷ more)) contents' contents files (same-back contents contents' same) (asks.faults.only fault));
    all = λ lacks. elim lacks [
      | inl gone ↦ absurd (given-not_gone contents f given is gone)
      | inr more ↦ asks.faults.all
          (lacks-same (λ others. GoesOn (given ∷ others)) contents contents' files same
          (subst (λ g. Lacks (λ others. GoesOn (g ∷ others)) contents files) (one-given contents f more.0 given more.1 is) more.3))
    ];
  };
  named = named-as (missing_file contents' files) (missing_file contents (f ∷ files)) result
      (missing-same contents contents' files same ∙ sym (ap (λ o. first_missing o f.name (missing_file contents files)) is.1)) asks.named;
}

-- behind the last file none is read, whatever would go on
lacks-last : (GoesOn Others : List (List ℕ) → Type 0) (contents : Contents) (input : Option (List ℕ)) → Lacks GoesOn contents (input_files input) → Lacks Others contents (input_files input)
lacks-last GoesOn Others contents None lacks = lacks
lacks-last GoesOn Others contents (Some name) (inl gone) = inl gone
lacks-last GoesOn Others contents (Some name) (inr more) = absurd more.3

asks-last : {A : Type 0} (GoesOn Others : List (List ℕ) → Type 0) (contents : Contents) (input : Option (List ℕ)) (result : Result A Line) → AsksSurely GoesOn contents (input_files input) result → AsksSurely Others contents (input_files input) result
asks-last GoesOn Others contents input result asks = record {
  faults = record {
    only = λ fault. lacks-last GoesOn Others contents input (asks.faults.only fault);
    all = λ lacks. asks.faults.all (lacks-last Others GoesOn contents input lacks);
  };
  named = asks.named;
}

-- ---- what is gathered

module _ {S : Type 0} {store : Ghosts S} (tells : (s : S) → IsTrue (store.sure s) → IsTrue (store.tells s)) where
  -- the first file isn't read
  pub gathered-unread :
      {A : Type 0} {GoesOn : List (List ℕ) → Type 0} {Refuses : List (List ℕ) → Line → Type 0} {Wanted : List (List ℕ) → A → Type 0} {old new : S} (f : File) (files : List File) (line : Line) → Refuses [] line →
      IsUnread f.name line → ReadOnly store [] (status_of line) old new → (IsTrue (store.sure old) → FaultsWhere (store.contents old f.name ≡ None) (status_of line)) → Gathered store (f ∷ files) GoesOn Refuses Wanted old new (Err line)
  gathered-unread {A} {GoesOn} {Refuses} {Wanted} {old} {new} f files line refuses unread reads surely = record {
    wanted = tt;
    refused = ([], refuses, reads);
    surely = λ sure. asks-unread GoesOn (store.contents old) f files line unread (surely sure);
  }

  -- the first file is read, and what it gave is refused
  pub gathered-refused :
      {A : Type 0} {GoesOn : List (List ℕ) → Type 0} {Refuses : List (List ℕ) → Line → Type 0} {Wanted : List (List ℕ) → A → Type 0} {old new : S} (f : File) (files : List File) (given : List ℕ) (line : Line) →
      ReadOnly store (reading f given ∷ []) status.Done old new → Refuses (given ∷ []) line → status_of line ≢ status.ReadFault → (GoesOn (given ∷ []) → status_of line ≡ status.Memory) →
      Gathered store (f ∷ files) GoesOn Refuses Wanted old new (Err line)
  gathered-refused {A} {GoesOn} {Refuses} {Wanted} {old} {new} f files given line reads refuses other only = record {
    wanted = tt;
    refused = (given ∷ [], refuses, reads-as (status_of line) other reads);
    surely = λ sure. asks-refused GoesOn (store.contents old) f files given line (reads.given (tells old sure)).0 other only;
  }

  -- the first file is read, and then more is gathered
  pub gathered-behind :
      {A : Type 0} {GoesOn : List (List ℕ) → Type 0} {Refuses : List (List ℕ) → Line → Type 0} {Wanted : List (List ℕ) → A → Type 0} {old middle new : S} (f : File) (files : List File) (given : List ℕ) (result : Result A Line) →
      ReadOnly store (reading f given ∷ []) status.Done old middle → GoesOn (given ∷ []) →
      Gathered store files (λ more. GoesOn (given ∷ more)) (λ more. Refuses (given ∷ more)) (λ more. Wanted (given ∷ more)) middle new result → Gathered store (f ∷ files) GoesOn Refuses Wanted old new result
  gathered-behind {A} {GoesOn} {Refuses} {Wanted} {old} {middle} {new} f files given result reads goes more = record {
    wanted = IfOk-weaker result (λ a. (givens : List (List ℕ)) × Wanted (given ∷ givens) a × ReadOnly store (readings_of files givens) status.Done middle new)
        (λ a. (givens : List (List ℕ)) × Wanted givens a × ReadOnly store (readings_of (f ∷ files) givens) status.Done old new)
        (λ a w. (given ∷ w.0, w.1, reads-then reads w.2)) more.wanted;
    refused = IfErr-weaker result (λ line. (givens : List (List ℕ)) × Refuses (given ∷ givens) line × ReadOnly store (readings_of files givens) (status_of line) middle new)
        (λ line. (givens : List (List ℕ)) × Refuses givens line × ReadOnly store (readings_of (f ∷ files) givens) (status_of line) old new)
        (λ line w. (given ∷ w.0, w.1, reads-then reads w.2)) more.refused;
    surely = λ sure.
        let told = tells old sure in
        asks-behind GoesOn (store.contents old) (store.contents middle) f files given result (reads.given told).0 goes (reads.same told) (more.surely (subst IsTrue (sym reads.sure_still) sure));
  }

module _ {S : Type 0} {store : Ghosts S} where
  -- there is no file, and nothing is asked for
  pub gathered-none : {A : Type 0} {GoesOn : List (List ℕ) → Type 0} {Refuses : List (List ℕ) → Line → Type 0} {Wanted : List (List ℕ) → A → Type 0} {old : S} (a : A) → Wanted [] a → Gathered store [] GoesOn Refuses Wanted old old (Ok a)
  gathered-none {A} {GoesOn} {Refuses} {Wanted} {old} a wanted = record {
    wanted = ([], wanted, reads-none old);
    refused = tt;
    surely = λ sure. asks-all GoesOn (store.contents old) [] (Ok a) (λ lacks. lacks) (λ e. cc);
  }

  -- the one file is read, and gives what is wanted
  pub gathered-one : {A : Type 0} {GoesOn : List (List ℕ) → Type 0} {Refuses : List (List ℕ) → Line → Type 0} {Wanted : List (List ℕ) → A → Type 0} {old new : S} (f : File) (given : List ℕ) (a : A) → ((s : S) → IsTrue (store.sure s) → IsTrue (store.tells s))
      → ReadOnly store (reading f given ∷ []) status.Done old new → Wanted (given ∷ []) a → Gathered store (f ∷ []) GoesOn Refuses Wanted old new (Ok a)
  gathered-one {A} {GoesOn} {Refuses} {Wanted} {old} {new} f given a tells reads wanted = record {
    wanted = (given ∷ [], wanted, reads);
    refused = tt;
    surely = λ sure.
        asks-all GoesOn (store.contents old) (f ∷ []) (Ok a)
        (λ lacks. elim lacks [ inl gone ↦ given-not_gone (store.contents old) f given (reads.given (tells old sure)).0 gone | inr more ↦ more.3 ]) (λ e. cc);
  }

  -- something else is wanted of what was gathered
  pub gathered-as : {A B : Type 0} {GoesOn : List (List ℕ) → Type 0} {Refuses Others : List (List ℕ) → Line → Type 0} {Wanted : List (List ℕ) → A → Type 0} {Made : List (List ℕ) → B → Type 0} {old new : S} (files : List File) (a : A) (b : B)
      → ((givens : List (List ℕ)) → Wanted givens a → Made givens b) → Gathered store files GoesOn Refuses Wanted old new (Ok a) → Gathered store files GoesOn Others Made old new (Ok b)
  gathered-as files a b makes gathered = record {
    wanted = (gathered.wanted.0, makes gathered.wanted.0 gathered.wanted.1, gathered.wanted.2);
    refused = tt;
    surely = λ sure. let asks = gathered.surely sure in record { faults = asks.faults; named = tt };
  }

  -- it was refused, by a line that refuses in another way too
  pub gathered-err : {A B : Type 0} {GoesOn : List (List ℕ) → Type 0} {Refuses Others : List (List ℕ) → Line → Type 0} {Wanted : List (List ℕ) → A → Type 0} {Made : List (List ℕ) → B → Type 0} {old new : S} (files : List File) (line : Line)
      → ((givens : List (List ℕ)) → Refuses givens line → Others givens line) → Gathered store files GoesOn Refuses Wanted old new (Err line) → Gathered store files GoesOn Others Made old new (Err line)
  gathered-err files line refuses gathered = record {
    wanted = tt;
    refused = (gathered.refused.0, refuses gathered.refused.0 gathered.refused.1, gathered.refused.2);
    surely = λ sure. let asks = gathered.surely sure in record { faults = asks.faults; named = asks.named };
  }

  -- all was gathered, and then it is refused
  pub gathered-late : {A B : Type 0} {GoesOn : List (List ℕ) → Type 0} {Refuses Others : List (List ℕ) → Line → Type 0} {Wanted : List (List ℕ) → A → Type 0} {Made : List (List ℕ) → B → Type 0} {old new : S} (files : List File) (a : A) (line : Line)
      → status_of line ≢ status.ReadFault → ((givens : List (List ℕ)) → Wanted givens a → Others givens line) → Gathered store files GoesOn Refuses Wanted old new (Ok a) → Gathered store files GoesOn Others Made old new (Err line)
  gathered-late {A} {B} {GoesOn} {Refuses} {Others} {Wanted} {Made} {old} files a line other refuses gathered = record {
    wanted = tt;
    refused = (gathered.wanted.0, refuses gathered.wanted.0 gathered.wanted.1, reads-as (status_of line) other gathered.wanted.2);
    surely = λ sure. asks-all GoesOn (store.contents old) files (Err line) (asks-none GoesOn (store.contents old) files a (gathered.surely sure)) other;
  }

  -- behind the last file none is read, whatever would go on
  pub gathered-last : {A : Type 0} {GoesOn Others : List (List ℕ) → Type 0} {Refuses : List (List ℕ) → Line → Type 0} {Wanted : List (List ℕ) → A → Type 0} {old new : S} (input : Option (List ℕ)) (result : Result A Line)
      → Gathered store (input_files input) GoesOn Refuses Wanted old new result → Gathered store (input_files input) Others Refuses Wanted old new result
  gathered-last {A} {GoesOn} {Others} {Refuses} {Wanted} {old} input result gathered = record {
    wanted = gathered.wanted;
    refused = gathered.refused;
    surely = λ sure. asks-last GoesOn Others (store.contents old) input result (gathered.surely sure);
  }

  -- what is gathered with a line is gathered with a result that is this error
  pub gathered-at : {A : Type 0} {files : List File} {GoesOn : List (List ℕ) → Type 0} {Refuses : List (List ℕ) → Line → Type 0} {Wanted : List (List ℕ) → A → Type 0} {old new : S} (result : Result A Line) (line y : Line)
      → result ≡ Err y → y ≡ line → Gathered store files GoesOn Refuses Wanted old new (Err line) → Gathered store files GoesOn Refuses Wanted old new result
  gathered-at (Ok a) line y is same gathered = absurd (cc)
  gathered-at {A} {files} {GoesOn} {Refuses} {Wanted} {old} {new} (Err z) line y is same gathered =
      let e : line ≡ z = cc in subst (λ l. Gathered store files GoesOn Refuses Wanted old new (Err l)) e gathered
