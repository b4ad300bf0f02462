use Rattle.std.proofs.Common.{◌≡◌, ◌∙◌, ◌++◌, ◌∷◌, ◌+◌, ◌-◌, sym, ap, arith}
use Rattle.action_text.specs.declared.print_jobs.Part.TheVariants as part
use Rattle.action_text.specs.Shapes.{open_paren, comma}
use Rattle.action_text.specs.Printing.{Token, Node, due_on}
use Rattle.action_text.proofs.DueItems.{more_due, item_due, list_due}
use Rattle.action_text.proofs.action_jobs.push_list.Goals as goal

pub loop-preserved : goal.loop-preserved
loop-preserved c =
    let next : (c.loop.counter + 1) - 1 ≡ c.loop.counter = omega arith in
    c.in_ok-push_jobs-2.ensures
    ∙ ap (λ y. Token comma ∷ Node part.Yielder ∷ y) c.loop.invariant
    ∙ ap (λ y. y ++ due_on c.args.stack.now.items) (sym (item_due c.loop.counter c.loop.auto.counter))
    ∙ ap (λ n. more_due n ++ due_on c.args.stack.now.items) (sym next)

pub returns : goal.returns
returns c =
    let all : c.loop.counter ≡ c.args.count = omega arith in
    c.in_ok-push_jobs-3.ensures
    ∙ ap (λ y. Token open_paren ∷ Node part.Yielder ∷ y) c.loop.invariant
    ∙ ap (λ n. Token open_paren ∷ Node part.Yielder ∷ (more_due (n - 1) ++ due_on c.args.stack.now.items)) all
    ∙ ap (λ y. y ++ due_on c.args.stack.now.items) (sym (list_due c.args.count c.requires))
