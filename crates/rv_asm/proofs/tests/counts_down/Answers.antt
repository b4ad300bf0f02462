-- The program has few words.
use Rattle.std.proofs.Common.{◌≡◌, ◌++◌, List, [], ◌∷◌, ◌+◌, ap, ◌∙◌, arith}
use Rattle.rv_asm.specs.declared.item.Item.{Item}
use Rattle.rv_asm.specs.Assembly.{size, total}
use Rattle.rv_asm.proofs.Labels.{total-push}
use Rattle.rv_asm.proofs.tests.counts_down.Goals as goal

grown : (new old : List Item) (x : Item) → new ≡ old ++ x ∷ [] → total new ≡ total old + size x
grown new old x e = ap total e ∙ total-push old x

pub finish-requires : goal.finish-requires
finish-requires c =
    let a : total c.emit-4.new.self.items ≡ total c.address.new.self.items + 1 = grown _ _ _ (ap (λ s. s.items) c.in_ok-emit-4.ensures.ok) in
    let b : total c.address.new.self.items ≡ total c.place-2.new.self.items + 2 = grown _ _ _ (ap (λ s. s.items) c.in_ok-address.ensures.ok) in
    let d : total c.place-2.new.self.items ≡ total c.emit-3.new.self.items + 0 = grown _ _ _ (ap (λ s. s.items) c.place-2.ensures) in
    let e : total c.emit-3.new.self.items ≡ total c.jump.new.self.items + 1 = grown _ _ _ (ap (λ s. s.items) c.in_ok-emit-3.ensures.ok) in
    let f : total c.jump.new.self.items ≡ total c.branch-asm-3.new.self.items + 2 = grown _ _ _ (ap (λ s. s.items) c.in_ok-jump.ensures.ok) in
    let g : total c.branch-asm-3.new.self.items ≡ total c.append_nothing.new.asm.items + 3 = grown _ _ _ (ap (λ s. s.items) c.in_ok-branch-2.ensures.ok) in
    let i : total c.append_nothing.new.asm.items ≡ total c.emit-2.new.self.items + 1100 = c.in_ok-append_nothing.ensures.total in
    let j : total c.emit-2.new.self.items ≡ total c.branch-asm-2.new.self.items + 1 = grown _ _ _ (ap (λ s. s.items) c.in_ok-emit-2.ensures.ok) in
    let k : total c.branch-asm-2.new.self.items ≡ total c.place.new.self.items + 3 = grown _ _ _ (ap (λ s. s.items) c.in_ok-branch.ensures.ok) in
    let l : total c.place.new.self.items ≡ total c.emit.new.self.items + 0 = grown _ _ _ (ap (λ s. s.items) c.place.ensures) in
    let m : total c.emit.new.self.items ≡ total c.label-2.new.self.items + 1 = grown _ _ _ (ap (λ s. s.items) c.in_ok-emit.ensures.ok) in
    let n : total c.label-2.new.self.items ≡ total c.label.new.self.items = ap (λ s. total s.items) c.in_ok-done.ensures.ok in
    let o : total c.label.new.self.items ≡ total c.in_ok-asm.asm.items = ap (λ s. total s.items) c.in_ok-again.ensures.ok in
    let p : c.in_ok-asm.asm ≡ record { items = []; labels = 0 } = cc c.in_ok-asm.ensures in
    let q : total c.in_ok-asm.asm.items ≡ 0 = ap (λ s. total s.items) p in
    omega (arith, a, b, d, e, f, g, i, j, k, l, m, n, o, q)
