use Rattle.std.proofs.Common.{List, ap, arith, false, get_or, length, replicate, set, subst, sym, take, true, ℕ, ◌<◌, ◌∙◌, ◌≡◌}
use Rattle.std.proofs.lemmas.List.{length-replicate, length-set, take_all, take_more}
use Rattle.std.proofs.lemmas.List.Elements.{All-get_or}
use Rattle.sort_rules.specs.Numbers.{AreFlagged}
use Rattle.sort_rules.proofs.NumberLists.{flagged_more, flagged_none}
use Rattle.sort_rules.proofs.node_list.flags_of.Goals as goal

pub loop-i-init : goal.loop-i-init
loop-i-init c =
    let items : c.in_ok-flags.flags.items ≡ replicate c.args.count false = c.in_ok-flags.ensures.items_if_clones_equal (λ y q. q) in
    record { size = ap length items ∙ length-replicate c.args.count false; flagged = flagged_none c.args.count c.in_ok-flags.flags.items items }

pub index_mut-requires : goal.index_mut-requires
index_mut-requires c =
    let less : get_or c.args.numbers.now c.loop-i.i 0 < c.args.count = All-get_or (λ n. n < c.args.count) c.args.numbers.now c.loop-i.i 0 c.loop-i-test.true c.requires in
    omega (arith, less, c.loop-i.invariant.size)

pub loop-i-preserved : goal.loop-i-preserved
loop-i-preserved c =
    let numbers = c.args.numbers.now in
    let i = c.loop-i.i in
    let flags = c.loop-i.flags.items in
    let n = get_or numbers i 0 in
    let less : get_or c.args.numbers.now c.loop-i.i 0 < c.args.count = All-get_or (λ n. n < c.args.count) c.args.numbers.now c.loop-i.i 0 c.loop-i-test.true c.requires in
    let within : get_or c.args.numbers.now c.loop-i.i 0 < length c.loop-i.flags.items = subst (λ (k : ℕ). get_or c.args.numbers.now c.loop-i.i 0 < k) (sym c.loop-i.invariant.size) less in
    record {
      size = length-set flags n true ∙ c.loop-i.invariant.size;
      flagged = subst (λ (ns : List ℕ). AreFlagged (set c.loop-i.flags.items (get_or c.args.numbers.now c.loop-i.i 0) true) ns) (sym (take_more numbers i 0 c.loop-i-test.true)) (flagged_more flags (take i numbers) n within c.loop-i.invariant.flagged);
    }

pub returns : goal.returns
returns c = subst (λ (ns : List ℕ). AreFlagged c.loop-i.flags.items ns) (take_all c.loop-i.i c.args.numbers.now c.loop-i-test.false) c.loop-i.invariant.flagged
