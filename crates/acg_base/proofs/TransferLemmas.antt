-- Known bytes of readers and writers, over several reads and writes.
use Rattle.std.proofs.Common.{◌≡◌, ℕ, ◌+◌, ◌-◌, ◌≤◌, Bool, IsTrue, List, [], ◌++◌, length, take, drop, Option, Some, None, IfSome, sym, ap, ◌∙◌, subst, arith, append-nil, length-drop}
use Rattle.std.specs.Option.{is_some, unwrap_or}
use Rattle.std.specs.Io.{StartsWith}
use Rattle.std.specs.Io.KnownBytes.{Appends, Consumes, IsAtEnd}
use Rattle.std.proofs.KnownBytes.{Appends-trans, starts_with_rest}
use Rattle.std.proofs.lemmas.List.{take_at, take_all, take_rest}
use Rattle.std.proofs.Math.Seq.{take-add}
use Rattle.acg_base.specs.Outside.{Contents, SameElsewhere, GainsFrontOf, front}
use Rattle.acg_base.specs.Transfers.{AppendsFrontOf, HoldsFront}

-- a write took more of the bytes
pub handed-more :
    (a b c : Option (List ℕ)) (bytes : List ℕ) (done count : ℕ) → Appends a b (take done bytes) →
    Appends b c (take count (take (length bytes - done) (drop done bytes))) → Appends a c (take (done + count) bytes)
handed-more a b c bytes done count p q =
    let rest = subst (λ xs. Appends b c (take count xs)) (take_rest bytes done) q in
    subst (Appends a c) (sym (take-add done count bytes)) (Appends-trans a b c _ _ p rest)

-- a reader gave as many bytes as were asked for
pub front-full :
    (a b : Option (List ℕ)) (old new : List ℕ) (limit : ℕ) → StartsWith new old → Consumes a b (drop (length old) new) →
    length new ≡ length old + (limit + 1) → IfSome a (λ bytes. new ≡ old ++ front limit bytes)
unfolding front
front-full None b old new limit stays gave size = tt
front-full (Some x) None old new limit stays gave size = absurd gave
front-full (Some x) (Some y) old new limit stays gave size =
    let given = drop (length old) new in
    let many : length given ≡ limit + 1 = omega (arith, length-drop (length old) new, size) in
    starts_with_rest new old stays ∙ ap (λ bytes. old ++ bytes) (sym (ap (take (limit + 1)) gave ∙ take_at given y (limit + 1) many))

-- a reader that is at its end gave all that it had
pub front-ended :
    (a b : Option (List ℕ)) (old new : List ℕ) (limit : ℕ) → StartsWith new old → Consumes a b (drop (length old) new) →
    length new ≤ length old + (limit + 1) → IsAtEnd b → IfSome a (λ bytes. new ≡ old ++ front limit bytes)
unfolding front
front-ended None b old new limit stays gave size end = tt
front-ended (Some x) None old new limit stays gave size end = absurd gave
front-ended (Some x) (Some y) old new limit stays gave size end =
    let given = drop (length old) new in
    let few : length given ≤ limit + 1 = omega (arith, length-drop (length old) new, size) in
    let whole : x ≡ given = gave ∙ ap (λ rest. given ++ rest) end ∙ append-nil given in
    starts_with_rest new old stays ∙ ap (λ bytes. old ++ bytes) (sym (ap (take (limit + 1)) whole ∙ take_all (limit + 1) given few))

-- a new writer holds what it was handed
pub held-all : (old new : Option (List ℕ)) (bytes : List ℕ) → old ≡ Some [] → Appends old new bytes → new ≡ Some bytes
held-all None new bytes e h = cc
held-all (Some x) None bytes e h = absurd h
held-all (Some x) (Some y) bytes e h = let none : x ≡ [] = cc in ap Some (h ∙ ap (λ front. front ++ bytes) none)

-- where the bytes of each writer of a type are known or of none, the ones that a sink tells grow by what was handed on
pub told-all : (old new : Option (List ℕ)) (piece : List ℕ) (told : Bool) → is_some old ≡ told → IsTrue told → Appends old new piece → unwrap_or new [] ≡ unwrap_or old [] ++ piece
told-all None new piece told e t h = cc
told-all (Some x) None piece told e t h = absurd h
told-all (Some x) (Some y) piece told e t h = h

pub told-front : (old new : Option (List ℕ)) (piece : List ℕ) (told : Bool) → is_some old ≡ told → IsTrue told → AppendsFrontOf piece old new → GainsFrontOf piece (unwrap_or old []) (unwrap_or new [])
told-front old new piece told e t h = (h.0, told-all old new (take h.0 piece) told e t h.1)

pub ruleset known = (told-all, told-front)

-- a new writer holds a front of what it was handed, where it failed
pub held-front :
    (target old new : Option (List ℕ)) (name bytes : List ℕ) → target ≡ Some name → old ≡ Some [] →
    AppendsFrontOf bytes old new → HoldsFront target new name bytes
held-front target old new name bytes t e h = (h.0, (t, held-all old new (take h.0 bytes) e h.1))

-- contents that twice stayed at every other name
pub elsewhere :
    (old mid new : Contents) (name : List ℕ) → SameElsewhere old mid name →
    SameElsewhere mid new name → SameElsewhere old new name
elsewhere old mid new name first second = λ other differs. second other differs ∙ first other differs

pub ruleset held = (held-all, held-front)
