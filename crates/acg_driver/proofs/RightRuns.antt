-- Runs of a right image can be printed as they go.
use Rattle.std.proofs.Common.{◌≡◌, All, ℕ, zero, suc, ◌+◌, ◌<◌, ℤ, List, [], ◌∷◌, length, refl, ap, ◌∙◌, arith}
use Rattle.std.proofs.lemmas.List.{length-append}
use Rattle.action_terms.specs.Performances.{message_bytes, messages_bytes}
use Rattle.rv_code.specs.Machine.{Outcome, Ran, Exited, Trapped, run}
use Rattle.rv_code.specs.Images.{Image, started}
use Rattle.rv_codegen.specs.RightImage.{Subject, Shows, IsRight}
use Rattle.acg_driver.specs.Sending.{IsWhole, SendsMessages}

messages-whole : (ms : List ℤ) → IsWhole (messages_bytes ms)
messages-whole [] = (0, refl)
messages-whole (m ∷ ms) =
    let rest = messages-whole ms in
    let one : length (message_bytes m) ≡ 8 = refl in
    let both : length (messages_bytes (m ∷ ms)) ≡ length (message_bytes m) + length (messages_bytes ms) = length-append (message_bytes m) (messages_bytes ms) in
    (suc rest.0, omega (arith, one, both, rest.1))

output-whole : (output : List ℕ) (ms : List ℤ) → output ≡ messages_bytes ms → IsWhole output
output-whole output ms e = let whole = messages-whole ms in (whole.0, ap length e ∙ whole.1)

shows-messages : (x : Subject) (input : List ℕ) (m : ℕ) (o : Outcome) → Shows x input m o → SendsMessages o
shows-messages x input m (Ran s) h = output-whole s.output _ h.3
shows-messages x input m (Exited zero output) h = (output-whole output _ h.2.3, omega arith)
shows-messages x input m (Exited (suc zero) output) h = (output-whole output _ h.3, omega arith)
shows-messages x input m (Exited (suc (suc zero)) output) h = (output-whole output _ h.1.3, omega arith)
shows-messages x input m (Exited (suc (suc (suc zero))) output) h = (output-whole output _ h.3, omega arith)
shows-messages x input m (Exited (suc (suc (suc (suc code)))) output) h = absurd h
shows-messages x input m (Trapped cause) h = absurd h

-- a right image sends whole messages, exits with a code of 0 to 3 and doesn't trap
pub right-sends : (image : Image) (x : Subject) (input : List ℕ) → All (λ b. b < 256) input → IsRight image x → (m : ℕ) → SendsMessages (run m (started image input))
right-sends image x input bytes right m = shows-messages x input m (run m (started image input)) (right.shows input bytes m)
