-- Labels are placed once, and the code is short.
use Rattle.std.proofs.Common.{◌≡◌, ◌≢◌, ℕ, ◌+◌, ◌≤◌, [], ◌∷◌, false, ap, arith, rules}
use Rattle.std.proofs.lemmas.Grind.{common_steps}
use Rattle.rv_asm.specs.Assembly.{Listing, is_placed, total}
use Rattle.rv_asm.specs.declared.item.Item.TheVariants.{Mark}
use Rattle.rv_prelude_tests.proofs.Pieces.{labels-made, still-open, total-more}
use Rattle.rv_prelude_tests.proofs.programs.assembled.Goals as goal

pub place-requires-2-clause-once : goal.place-requires-2-clause-once
place-requires-2-clause-once c =
    let zero : c.in_ok-asm.asm.labels ≡ 0 = first_of (search rules, grind (arith, common_steps)) in
    let arm_is : c.in_ok-arm.arm ≡ 12 = first_of (search rules, grind (arith, common_steps)) in
    let start_is : c.in_ok-entries.entries.start ≡ 10 = first_of (search rules, grind (arith, common_steps)) in
    let first : is_placed c.label-2.new.self.items c.in_ok-arm.arm ≡ false = labels-made c.prelude.new.asm c.label.new.self c.label-2.new.self c.in_ok-arm.arm (ap (λ (s : Listing). s.items) c.in_ok-arm.ensures.ok) (ap (λ (s : Listing). s.items) c.in_ok-handler.ensures.ok) (c.in_ok-entries.ensures.open c.in_ok-arm.arm (omega (arith, zero, arm_is))) in
    still-open c.label-2.new.self c.place.new.self c.append_steps.new.asm c.in_ok-entries.entries.start c.in_ok-arm.arm (omega (arith, start_is, arm_is)) first c.place.ensures c.in_ok-append_steps.ensures.placed

pub place-requires-3-clause-once : goal.place-requires-3-clause-once
place-requires-3-clause-once c =
    let zero : c.in_ok-asm.asm.labels ≡ 0 = first_of (search rules, grind (arith, common_steps)) in
    let handler_is : c.in_ok-handler.handler ≡ 13 = first_of (search rules, grind (arith, common_steps)) in
    let start_is : c.in_ok-entries.entries.start ≡ 10 = first_of (search rules, grind (arith, common_steps)) in
    let arm_is : c.in_ok-arm.arm ≡ 12 = first_of (search rules, grind (arith, common_steps)) in
    let first : is_placed c.label-2.new.self.items c.in_ok-handler.handler ≡ false = labels-made c.prelude.new.asm c.label.new.self c.label-2.new.self c.in_ok-handler.handler (ap (λ (s : Listing). s.items) c.in_ok-arm.ensures.ok) (ap (λ (s : Listing). s.items) c.in_ok-handler.ensures.ok) (c.in_ok-entries.ensures.open c.in_ok-handler.handler (omega (arith, zero, handler_is))) in
    let then_1 = still-open c.label-2.new.self c.place.new.self c.append_steps.new.asm c.in_ok-entries.entries.start c.in_ok-handler.handler (omega (arith, start_is, handler_is)) first c.place.ensures c.in_ok-append_steps.ensures.placed in
    still-open c.append_steps.new.asm c.place-2.new.self c.append_steps-2.new.asm c.in_ok-arm.arm c.in_ok-handler.handler (omega (arith, arm_is, handler_is)) then_1 c.place-2.ensures c.in_ok-append_steps-2.ensures.placed

pub place-requires-4-clause-once : goal.place-requires-4-clause-once
place-requires-4-clause-once c =
    let zero : c.in_ok-asm.asm.labels ≡ 0 = first_of (search rules, grind (arith, common_steps)) in
    let end_is : c.in_ok-entries.entries.code_end ≡ 11 = first_of (search rules, grind (arith, common_steps)) in
    let start_is : c.in_ok-entries.entries.start ≡ 10 = first_of (search rules, grind (arith, common_steps)) in
    let arm_is : c.in_ok-arm.arm ≡ 12 = first_of (search rules, grind (arith, common_steps)) in
    let handler_is : c.in_ok-handler.handler ≡ 13 = first_of (search rules, grind (arith, common_steps)) in
    let first : is_placed c.label-2.new.self.items c.in_ok-entries.entries.code_end ≡ false = labels-made c.prelude.new.asm c.label.new.self c.label-2.new.self c.in_ok-entries.entries.code_end (ap (λ (s : Listing). s.items) c.in_ok-arm.ensures.ok) (ap (λ (s : Listing). s.items) c.in_ok-handler.ensures.ok) (c.in_ok-entries.ensures.open c.in_ok-entries.entries.code_end (omega (arith, zero, end_is))) in
    let then_1 = still-open c.label-2.new.self c.place.new.self c.append_steps.new.asm c.in_ok-entries.entries.start c.in_ok-entries.entries.code_end (omega (arith, start_is, end_is)) first c.place.ensures c.in_ok-append_steps.ensures.placed in
    let then_2 = still-open c.append_steps.new.asm c.place-2.new.self c.append_steps-2.new.asm c.in_ok-arm.arm c.in_ok-entries.entries.code_end (omega (arith, arm_is, end_is)) then_1 c.place-2.ensures c.in_ok-append_steps-2.ensures.placed in
    still-open c.append_steps-2.new.asm c.place-3.new.self c.append_steps-3.new.asm c.in_ok-handler.handler c.in_ok-entries.entries.code_end (omega (arith, handler_is, end_is)) then_2 c.place-3.ensures c.in_ok-append_steps-3.ensures.placed

pub finish-requires : goal.finish-requires
finish-requires c =
    let first = ap (λ (s : Listing). total s.items) c.in_ok-arm.ensures.ok in
    let second = ap (λ (s : Listing). total s.items) c.in_ok-handler.ensures.ok in
    let start = total-more c.label-2.new.self c.place.new.self (Mark c.in_ok-entries.entries.start ∷ []) c.place.ensures in
    let arm = total-more c.append_steps.new.asm c.place-2.new.self (Mark c.in_ok-arm.arm ∷ []) c.place-2.ensures in
    let handler = total-more c.append_steps-2.new.asm c.place-3.new.self (Mark c.in_ok-handler.handler ∷ []) c.place-3.ensures in
    let end = total-more c.append_steps-3.new.asm c.place-4.new.self (Mark c.in_ok-entries.entries.code_end ∷ []) c.place-4.ensures in
    omega (arith, c.in_ok-entries.ensures.short, first, second, start, c.in_ok-append_steps.ensures.short, arm, c.in_ok-append_steps-2.ensures.short, handler, c.in_ok-append_steps-3.ensures.short, end, c.requires.first, c.requires.arm, c.requires.handler)
