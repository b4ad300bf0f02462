use Rattle.std.proofs.Common.{◌∙◌, ◌∷◌, [], ◌++◌, Bor, List, ℕ, ap, sym}
use Rattle.gram_form.specs.Grammars.{seen_with}
use Rattle.gram_form.proofs.Noted.{same-behind, seen-new, seen-there}
use Rattle.gram_form.proofs.literals.Literals.note.Goals as goal

pub invariant_of-self-then-branch : goal.invariant_of-self-then-branch
invariant_of-self-then-branch c =
    same-behind c.self.inside.known.keys c.insert.new.self.keys c.self.inside.list.items c.push_reserved.new.self.items c.args.bytes c.in_ok-insert.ensures.keys
    (c.push_reserved.ensures.items ∙ ap (λ (xs : List (Bor (List ℕ))). xs ++ c.args.bytes ∷ []) c.in_ok-reserve.ensures.items) c.self.invariant

pub returns-then-branch : goal.returns-then-branch
returns-then-branch c =
    seen-new c.self.inside.known.keys c.self.inside.list.items c.push_reserved.new.self.items c.args.bytes c.self.invariant
    (c.push_reserved.ensures.items ∙ ap (λ (xs : List (Bor (List ℕ))). xs ++ c.args.bytes ∷ []) c.in_ok-reserve.ensures.items) (sym c.if-branch.true ∙ c.in_ok-insert.ensures.added)
    ∙ ap (λ (seen : List (List ℕ)). seen_with seen c.args.bytes.now) c.self.view_is

pub returns-else-branch : goal.returns-else-branch
returns-else-branch c =
    seen-there c.self.inside.known.keys c.self.inside.list.items c.reserve.new.self.items c.args.bytes c.self.invariant c.in_ok-reserve.ensures.items (sym c.if-branch.false ∙ c.in_ok-insert.ensures.added)
    ∙ ap (λ (seen : List (List ℕ)). seen_with seen c.args.bytes.now) c.self.view_is
