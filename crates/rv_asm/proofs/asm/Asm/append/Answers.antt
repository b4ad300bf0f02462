-- What is kept stays so behind an item that is no mark.
use Rattle.std.proofs.Common.{◌≡◌, ◌++◌, [], ◌∷◌, ◌+◌, ◌≤◌, length, vec_capacity, arith, subst, sym, ap, ◌∙◌}
use Rattle.rv_asm.specs.Assembly.{NamesBelow}
use Rattle.rv_asm.proofs.LabelsKept.{IsKept-push}
use Rattle.rv_asm.proofs.asm.Asm.append.Goals as goal

pub invariant_of-self-2 : goal.invariant_of-self-2
invariant_of-self-2 c =
    let a = c.self.inside in
    let more = vec_capacity c.push.new.self in
    let pushed : c.push.new.self.items ≡ a.items.items ++ c.args.item ∷ [] =
    c.in_ok-push.ensures.items ∙ ap (λ xs. xs ++ c.args.item ∷ []) c.in_ok-reserve.ensures.items in
    let names : NamesBelow a.labels c.args.item =
    subst (λ v. NamesBelow v.labels c.args.item) (sym c.self.view_is) c.requires.names in
    let room : length a.items.items + (a.open_count + 1) ≤ more =
    omega (arith, c.in_ok-reserve.ensures.ok, c.in_ok-reserve.ensures.len, c.in_ok-push.ensures.capacity) in
    IsKept-push a.items.items c.push.new.self.items a.labels a.open_count (vec_capacity a.items) more c.self.invariant
    c.args.item pushed c.requires.unmarked c.requires.sound names room
