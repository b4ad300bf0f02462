use Rattle.std.proofs.Common.{◌≡◌, ◌<◌, ◌∷◌, inl, inr, ℕ, List, length, slice_get, Some, Bor, subst, arith}
use Rattle.std.proofs.lemmas.List.{length-map}
use Rattle.std.proofs.lemmas.Option.{slice_get_within}
use Rattle.source_lex.specs.declared.numbered.Symbol.{Symbol}
use Rattle.source_lex.specs.declared.numbered.Symbol.TheVariants.{Phrase}
use Rattle.chart_parse.specs.Places.{alternatives_in}
use Rattle.tree_pick.specs.declared.corners.Beginning.{Beginning}
use Rattle.tree_pick.specs.Corners.{beginning}
use Rattle.tree_pick.proofs.AllCorners.{parts_at}
use Rattle.tree_pick.proofs.FoundChoices.{below}
use Rattle.tree_pick.proofs.Longer.{longer_kept, longer_more}
use Rattle.tree_pick.proofs.corners.add_each_first.Goals as goal

pub loop-a-preserved : goal.loop-a-preserved
loop-a-preserved c =
    let list : List (Bor (List Symbol)) = c.args.alternatives.now in
    let k : ℕ = c.loop-a.a in
    let S : List Beginning = c.loop-a.pairs.keys in
    let T : List Beginning = c.add_first.new.pairs.keys in
    let longer = c.in_ok-add_first.ensures.longer in
    record {
      longer = longer_more c.args.pairs.now.keys S T c.loop-a.invariant.longer longer;
      added = λ a b rest lt e. elim (below a k lt) [
        | inl before ↦ longer_kept S T longer (beginning b c.args.whole) (c.loop-a.invariant.added a b rest before e)
        | inr here ↦ c.in_ok-add_first.ensures.added b rest (parts_at list k (Phrase b ∷ rest) c.loop-a-test.true (subst (λ (n : ℕ). slice_get (alternatives_in list) n ≡ Some (Phrase b ∷ rest)) here e))
      ];
    }

pub returns-clause-added : goal.returns-clause-added
returns-clause-added c a b rest e =
    let list : List (Bor (List Symbol)) = c.args.alternatives.now in
    let within : a < length (alternatives_in list) = slice_get_within (alternatives_in list) a (Phrase b ∷ rest) e in
    c.loop-a.invariant.added a b rest (omega (arith, within, c.loop-a-test.false, length-map list (λ (p : Bor (List Symbol)). p.now))) e
