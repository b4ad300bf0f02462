-- What was read of the bytes of a file.
use Rattle.std.proofs.Common.{◌≡◌, ℕ, ◌+◌, ◌≤◌, List, length, Some, sym, ap, ◌∙◌, arith}
use Rattle.std.proofs.lemmas.List.{take_all, length-take}
use Rattle.acg_base.specs.Outside.{Contents, front}
use Rattle.acg_driver.specs.Files.{IsGiven}

-- a front within the limit is all bytes
pub short-front : (limit : ℕ) (bytes : List ℕ) → length (front limit bytes) ≤ limit → front limit bytes ≡ bytes
unfolding front
short-front limit bytes short = take_all (limit + 1) bytes (omega (arith, length-take (limit + 1) bytes))

-- of bytes within the limit, the front is all
pub whole-front : (limit : ℕ) (bytes : List ℕ) → length bytes ≤ limit → front limit bytes ≡ bytes
unfolding front
whole-front limit bytes within = take_all (limit + 1) bytes (omega arith)

-- what was given of a content
pub given-is :
    (contents : Contents) (name content given : List ℕ) (limit : ℕ) → contents name ≡ Some content →
    IsGiven contents (record { name = name; limit = limit; given = given }) → given ≡ front limit content
given-is contents name content given limit there is =
    let both = sym there ∙ is.1 in
    let same : is.0 ≡ content = cc in
    is.2 ∙ ap (front limit) same
