use Rattle.std.proofs.Common.{◌≡◌, ◌++◌, [], ◌∷◌, ap, ◌∙◌, refl, map, subst, sym, inr, arith, false}
use Rattle.rv_asm.specs.Assembly.{is_placed}
use Rattle.rv_asm.specs.declared.item.Item.TheVariants.{Jump, Mark, Plain}
use Rattle.rv_codegen.specs.Blocks.{completed_label, end_label, opening, return_of}
use Rattle.rv_codegen.specs.CallItems.{return_items}
use Rattle.rv_codegen.proofs.Emitting.{both-appended, mark-keeps, opening-keeps, plain-keeps}
use Rattle.rv_codegen.proofs.Fresh.{fresh-jump, fresh-opening}
use Rattle.rv_codegen.proofs.entries.append_ending.Goals as goal

pub place-requires-clause-once : goal.place-requires-clause-once
place-requires-clause-once c =
    let k = c.args.nodes in
    let kept : is_placed c.append_opening.new.asm.items (return_of k) ≡ false = subst (λ z. is_placed z.items (return_of k) ≡ false) (sym c.append_opening.ensures) (fresh-opening c.args.asm.now.items k (return_of k) c.requires.fresh (inr (omega arith))) in
    subst (λ l. is_placed c.jump.new.self.items l ≡ false) (sym c.stop.ensures)
    (subst (λ z. is_placed z.items (return_of k) ≡ false) (sym c.in_ok-jump.ensures.ok) (fresh-jump c.append_opening.new.asm.items c.args.entries.now.completed (return_of k) kept))

pub place-requires-2-clause-once : goal.place-requires-2-clause-once
place-requires-2-clause-once c =
    let end = c.args.entries.now.end in
    let kept = opening-keeps c.args.asm.now c.append_opening.new.asm c.args.nodes end c.requires.fresh c.append_opening.ensures c.args.entries.now.end_is in
    let jumped = subst (λ z. is_placed z.items end ≡ false) (sym c.in_ok-jump.ensures.ok) (fresh-jump c.append_opening.new.asm.items c.args.entries.now.completed end kept) in
    plain-keeps c.place.new.self c.append_return.new.asm return_items end c.in_ok-append_return.ensures
    (mark-keeps c.jump.new.self c.place.new.self c.stop.result end c.place.ensures (λ e. omega (arith, e, c.stop.ensures, c.args.entries.now.end_is)) jumped)

pub returns : goal.returns
returns c =
    let asm = c.args.asm.now in
    let names = c.args.entries.now in
    let s1 = c.append_opening.new.asm in
    let s2 = c.jump.new.self in
    let s3 = c.place.new.self in
    let back = map Plain return_items in
    let ends = Mark names.end ∷ [] in
    let last = both-appended s3 c.append_return.new.asm c.place-2.new.self back ends ends c.in_ok-append_return.ensures c.place-2.ensures refl in
    let marked = both-appended s2 s3 c.place-2.new.self (Mark c.stop.result ∷ []) (back ++ ends) (back ++ ends) c.place.ensures last refl in
    let jumping = both-appended s1 s2 c.place-2.new.self (Jump names.completed ∷ []) (Mark c.stop.result ∷ (back ++ ends)) (Mark c.stop.result ∷ (back ++ ends)) c.in_ok-jump.ensures.ok marked refl in
    both-appended asm s1 c.place-2.new.self (opening c.args.nodes) (Jump names.completed ∷ (Mark c.stop.result ∷ (back ++ ends))) (Jump completed_label ∷ (Mark (return_of c.args.nodes) ∷ (back ++ (Mark end_label ∷ [])))) c.append_opening.ensures jumping
    (ap (λ l. Jump l ∷ (Mark c.stop.result ∷ (back ++ ends))) names.completed_is ∙ ap (λ l. Jump completed_label ∷ (Mark l ∷ (back ++ ends))) c.stop.ensures ∙ ap (λ l. Jump completed_label ∷ (Mark (return_of c.args.nodes) ∷ (back ++ (Mark l ∷ [])))) names.end_is)
