-- The program has 1129 words: the lengths of what was emitted, in order.
use Rattle.std.proofs.Common.{◌≡◌, ◌++◌, List, [], ◌∷◌, ◌+◌, length, map, ap, ◌∙◌, arith}
use Rattle.std.proofs.lemmas.Result.{IfOk-weaker}
use Rattle.std.specs.Prelude.{vec_len}
use Rattle.rv_code.specs.declared.instruction.Inst.{Inst}
use Rattle.rv_asm.specs.declared.item.Item.{Item}
use Rattle.rv_asm.specs.declared.item.Item.TheVariants.{Plain}
use Rattle.rv_asm.specs.Assembly.{Listing, size, total}
use Rattle.rv_asm.specs.Pieces.{appended, send_word, exit_with}
use Rattle.rv_asm.proofs.Labels.{total-append, total-push}
use Rattle.rv_asm.proofs.Sending.{total-plain}
use Rattle.acg_driver_tests.proofs.assembled.rounds.Goals as goal
use Rattle.acg_driver_tests.proofs.assembled.rounds.Goals.{In_ok-exit_with}

pushed : (new old : List Item) (x : Item) → new ≡ old ++ x ∷ [] → total new ≡ total old + size x
pushed new old x e = ap total e ∙ total-push old x

added : (new old : Listing) (piece : List Inst) → new ≡ appended old piece → total new.items ≡ total old.items + length piece
added new old piece e = ap (λ l. total l.items) e ∙ total-append old.items (map Plain piece) ∙ ap (λ n. total old.items + n) (total-plain piece)

words : (c : In_ok-exit_with) → total c.exit_with.new.asm.items ≡ 1129
words c =
    let none : c.in_ok-asm.asm ≡ record { items = []; labels = 0 } = cc c.in_ok-asm.ensures in
    let empty : total c.in_ok-asm.asm.items ≡ 0 = ap (λ s. total s.items) none in
    let again : total c.label.new.self.items ≡ total c.in_ok-asm.asm.items = ap (λ s. total s.items) c.in_ok-again.ensures.ok in
    let done : total c.label-2.new.self.items ≡ total c.label.new.self.items = ap (λ s. total s.items) c.in_ok-done.ensures.ok in
    let region : total c.emit.new.self.items ≡ total c.label-2.new.self.items + 1 = pushed _ _ _ (ap (λ s. s.items) c.in_ok-emit.ensures.ok) in
    let count : total c.append_sums.new.asm.items ≡ total c.emit.new.self.items + 1 = c.in_ok-append_sums.ensures.total in
    let start : total c.place.new.self.items ≡ total c.append_sums.new.asm.items + 0 = pushed _ _ _ (ap (λ s. s.items) c.place.ensures) in
    let first : total c.branch-asm-2.new.self.items ≡ total c.place.new.self.items + 3 = pushed _ _ _ (ap (λ s. s.items) c.in_ok-branch.ensures.ok) in
    let round : total c.append_sums-2.new.asm.items ≡ total c.branch-asm-2.new.self.items + 1 = c.in_ok-append_sums-2.ensures.total in
    let sums : total c.append_sums-3.new.asm.items ≡ total c.append_sums-2.new.asm.items + 1100 = c.in_ok-append_sums-3.ensures.total in
    let last : total c.branch-asm-3.new.self.items ≡ total c.append_sums-3.new.asm.items + 3 = pushed _ _ _ (ap (λ s. s.items) c.in_ok-branch-2.ensures.ok) in
    let jump : total c.jump.new.self.items ≡ total c.branch-asm-3.new.self.items + 2 = pushed _ _ _ (ap (λ s. s.items) c.in_ok-jump.ensures.ok) in
    let break : total c.emit-2.new.self.items ≡ total c.jump.new.self.items + 1 = pushed _ _ _ (ap (λ s. s.items) c.in_ok-emit-2.ensures.ok) in
    let end : total c.place-2.new.self.items ≡ total c.emit-2.new.self.items + 0 = pushed _ _ _ (ap (λ s. s.items) c.place-2.ensures) in
    let address : total c.address.new.self.items ≡ total c.place-2.new.self.items + 2 = pushed _ _ _ (ap (λ s. s.items) c.in_ok-address.ensures.ok) in
    let sum_sent : total c.send_word.new.asm.items ≡ total c.address.new.self.items + 6 = added _ _ (send_word 6 0) c.in_ok-send_word.ensures.ok in
    let address_sent : total c.send_word-2.new.asm.items ≡ total c.send_word.new.asm.items + 6 = added _ _ (send_word 7 0) c.in_ok-send_word-2.ensures.ok in
    let exit : total c.exit_with.new.asm.items ≡ total c.send_word-2.new.asm.items + 3 = added _ _ (exit_with 5) c.in_ok-exit_with.ensures.ok in
    omega (arith, empty, again, done, region, count, start, first, round, sums, last, jump, break, end, address, sum_sent, address_sent, exit)

pub finish-requires : goal.finish-requires
finish-requires c = omega (arith, words c)

pub returns : goal.returns
returns c =
    IfOk-weaker c.finish.result (λ code. vec_len code.words ≡ total c.exit_with.new.asm.items) (λ code. vec_len code.words ≡ 1129)
    (λ code size. size ∙ words (goal.at.returns c).In_ok-exit_with)
    c.finish.ensures.size
