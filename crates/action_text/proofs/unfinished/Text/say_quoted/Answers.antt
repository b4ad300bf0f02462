use Rattle.std.proofs.Common.{◌≡◌, List, ℕ, ap, ◌∙◌, ◌++◌, ◌∷◌, []}
use Rattle.std.proofs.Common.{append_assoc}
use Rattle.action_text.proofs.SpacedTokens.{said_more, quoted_gap}
use Rattle.action_text.specs.Canonical.{spaced}
use Rattle.action_text.proofs.unfinished.Text.say_quoted.Goals as goal

between : (before bytes : List ℕ) → ((before ++ 34 ∷ []) ++ bytes) ++ 34 ∷ [] ≡ before ++ (34 ∷ (bytes ++ 34 ∷ []))
between before bytes = simp append_assoc

pub returns : goal.returns
returns c tokens says =
    said_more _ tokens (34 ∷ (c.args.bytes.now ++ 34 ∷ [])) c.begin.new.self.bytes.items
    (c.in_ok-begin.ensures.bytes tokens says ∙ ap (λ y. spaced tokens ++ y) (quoted_gap tokens (c.args.bytes.now ++ 34 ∷ [])))
    (c.in_ok-push-2.ensures.items ∙ ap (λ y. y ++ 34 ∷ []) (c.in_ok-extend_from_slice.ensures.items ∙ ap (λ y. y ++ c.args.bytes.now) c.in_ok-push.ensures.items) ∙ between c.begin.new.self.bytes.items c.args.bytes.now)
    c.in_ok-begin.ensures.last
