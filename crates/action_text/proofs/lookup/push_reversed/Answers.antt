use Rattle.std.proofs.Common.{◌≡◌, ◌∙◌, ◌++◌, ◌∷◌, [], ap, sym, refl, arith, List, map, reverse, drop}
use Rattle.std.proofs.lemmas.List.{map-append, reverse-append}
use Rattle.action_text.specs.declared.table.Symbol.{Symbol as TableSymbol}
use Rattle.action_text.specs.Tables.{Symbol, numbered}
use Rattle.action_text.proofs.lookup.push_reversed.Goals as goal

reverse_numbered : (xs : List TableSymbol) → map numbered (reverse xs) ≡ reverse (map numbered xs)
reverse_numbered [] = refl
reverse_numbered (x ∷ xs) =
    ap (map numbered) (reverse-append (x ∷ []) xs) ∙ map-append numbered (reverse xs) (x ∷ []) ∙ ap (λ (s : List Symbol). s ++ numbered x ∷ []) (reverse_numbered xs)
    ∙ sym (reverse-append (numbered x ∷ []) (map numbered xs))

pub returns : goal.returns
returns c =
    let none_left : c.loop-left.left ≡ 0 = omega (arith, c.loop-left-test.false) in
    ap (map numbered) (c.loop-left.invariant.1 ∙ ap (λ n. c.args.stack.now.items ++ reverse (drop n c.args.right.now)) none_left)
    ∙ map-append numbered c.args.stack.now.items (reverse c.args.right.now) ∙ ap (λ s. map numbered c.args.stack.now.items ++ s) (reverse_numbered c.args.right.now)
