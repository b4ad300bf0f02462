use Rattle.std.proofs.Common.{◌≡◌, ◌<◌, ◌∷◌, List, length, slice_get, Some, Option, Bor, subst, arith}
use Rattle.std.specs.Option.{option_and_then}
use Rattle.std.proofs.lemmas.Result.{on_ok_weaker}
use Rattle.source_lex.specs.Numbered.{Alternative}
use Rattle.source_lex.specs.declared.numbered.Symbol.{Symbol}
use Rattle.source_lex.specs.declared.numbered.Symbol.TheVariants.{Phrase}
use Rattle.tree_pick.proofs.FewAlternatives.{numbered_at}
use Rattle.tree_pick.proofs.corners.add_firsts.Goals as goal

pub returns-clause-added : goal.returns-clause-added
returns-clause-added c =
    let list : List (Bor (List (Bor (List Symbol)))) = c.args.nonterminals.now in
    let lt : c.args.nonterm < length list = omega (arith, c.if-nonterm-nonterminals.false) in
    on_ok_weaker c.add_each_first.result
    (λ h a b rest e. h a b rest (subst (λ (o : Option (List Alternative)). option_and_then (λ alternatives. slice_get alternatives a) o ≡ Some (Phrase b ∷ rest)) (numbered_at list c.args.nonterm lt) e))
    c.add_each_first.ensures.added
