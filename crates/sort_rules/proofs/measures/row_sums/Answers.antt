use Rattle.std.proofs.Common.{◌≡◌, ◌<◌, ◌+◌, ◌-◌, ◌∙◌, ℕ, ap, arith, get_or, length, set, suc, sym, subst}
use Rattle.std.proofs.lemmas.List.{get_or_default}
use Rattle.action_terms.specs.Meaning.{action_of}
use Rattle.sort_rules.specs.Filling.{AreSums}
use Rattle.sort_rules.specs.Measures.{row_slots}
use Rattle.sort_rules.specs.Rows.{IsSortRow, row_words, unmarked}
use Rattle.sort_rules.specs.Views.{row_of}
use Rattle.sort_rules.proofs.ClearTables.{row_at}
use Rattle.sort_rules.proofs.NodeWalks.{length-nodes, nodes-few}
use Rattle.sort_rules.proofs.SlotWalks.{got_row, sums-few, sums-more}
use Rattle.sort_rules.proofs.measures.row_sums.Goals as goal

pub overflow_cast-k : goal.overflow_cast-k
overflow_cast-k c =
    let few = nodes-few c.args.graph.now c.nodes-count.result.now c.nodes-count.ensures.nodes c.nodes-count.ensures.of_an_action in
    omega (arith, few, c.loop-k.auto.k)

pub row_words-requires : goal.row_words-requires
row_words-requires c =
    let t = c.args.table.now in
    subst IsSortRow (got_row t.rows (c.loop-k.k - 1) (row_of c.row.result) c.row.ensures.row) (row_at t.rows (c.loop-k.k - 1) c.requires.table.table.rows)

pub overflow_add-index_mut : goal.overflow_add-index_mut
overflow_add-index_mut c =
    let g = c.args.graph.now in
    let k = c.loop-k.k - 1 in
    let same = length-nodes g c.nodes-count.result.now c.nodes-count.ensures.nodes in
    let few = nodes-few g c.nodes-count.result.now c.nodes-count.ensures.nodes c.nodes-count.ensures.of_an_action in
    let sums = c.loop-k.sums.items in
    let root = get_or c.args.roots.now k 0 in
    let less : k < length (action_of g) = omega (arith, same, c.loop-k.auto.k, c.loop-k-test.true) in
    let there : root < length sums = omega (arith, c.requires.before k less, less, c.loop-k.invariant.sums.long) in
    let here = c.index_mut.ensures.value ∙ get_or_default sums root c.index_mut.result.now 0 there in
    omega (arith, here, c.loop-k.invariant.few root there, few, c.row_words.ensures.few)

pub loop-k-preserved : goal.loop-k-preserved
loop-k-preserved c =
    let g = c.args.graph.now in
    let a = action_of g in
    let t = c.args.table.now in
    let k = c.loop-k.k - 1 in
    let same = length-nodes g c.nodes-count.result.now c.nodes-count.ensures.nodes in
    let sums = c.loop-k.sums.items in
    let root = get_or c.args.roots.now k 0 in
    let w = c.row_words.result in
    let next : c.loop-k.k ≡ suc k = omega (arith, c.loop-k-test.true) in
    let less : k < length a = omega (arith, same, c.loop-k.auto.k, c.loop-k-test.true) in
    let there : root < length sums = omega (arith, c.requires.before k less, less, c.loop-k.invariant.sums.long) in
    let here = c.index_mut.ensures.value ∙ get_or_default sums root c.index_mut.result.now 0 there in
    let after = set sums root (c.index_mut.result.now + w) in
    let e : after ≡ set sums root (get_or sums root 0 + w) = ap (λ (n : ℕ). set sums root (n + w)) here in
    let words : w ≡ row_slots (unmarked t) k = c.row_words.ensures.words ∙ sym (ap row_words (got_row t.rows k (row_of c.row.result) c.row.ensures.row)) in
    let left : (length c.nodes-count.result.now - c.loop-k.k) + 1 ≡ length c.nodes-count.result.now - k = omega (arith, c.loop-k.auto.k, c.loop-k-test.true) in
    record {
      sums = sums-more a (unmarked t) k root w sums after (c.requires.roots k less) words (subst (λ (n : ℕ). AreSums a (unmarked t) n sums) next c.loop-k.invariant.sums) e;
      few = λ n within.
          let most = sums-few (length c.nodes-count.result.now - c.loop-k.k) root w sums after there c.row_words.ensures.few e c.loop-k.invariant.few n within in
          omega (arith, most, left);
    }

pub returns-clause-few : goal.returns-clause-few
returns-clause-few c = λ n within.
    let few = nodes-few c.args.graph.now c.nodes-count.result.now c.nodes-count.ensures.nodes c.nodes-count.ensures.of_an_action in
    omega (arith, c.loop-k.invariant.few n within, few)
