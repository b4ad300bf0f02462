use Rattle.std.proofs.Common.{◌≡◌, ◌<◌, ℕ, arith, ap, length, get_or, set, ◌∙◌}
use Rattle.std.proofs.lemmas.List.{get_or_default}
use Rattle.action_terms.specs.Meaning.{action_of}
use Rattle.sort_rules.proofs.ProcedureWalks.{roots-none, roots-more}
use Rattle.sort_rules.proofs.roots.procedure_roots.Goals as goal

pub loop-k-init : goal.loop-k-init
loop-k-init c = roots-none (action_of c.args.graph.now) c.in_ok-roots.roots.items c.in_ok-roots.ensures

pub loop-k-preserved : goal.loop-k-preserved
loop-k-preserved c =
    let a = action_of c.args.graph.now in
    let roots = c.loop-k.roots.items in
    let k = c.loop-k.k in
    let are = c.loop-k.invariant in
    let within : k < length roots = omega (arith, c.loop-k-test.true, c.len-k-end.ensures, c.in_ok-roots.roots.ok, c.in_ok-roots.ensures.long, are.long) in
    let less : k < length a = omega (arith, within, are.long) in
    let whole : c.index.result.now ≡ get_or roots k 0 = c.index.ensures ∙ get_or_default roots k c.index.result.now 0 within in
    let there : c.index.result.now < length roots = omega (arith, whole, are.small k less, within) in
    let root : c.index-in-loop-k.result.now ≡ get_or roots (get_or roots k 0) 0 =
    c.index-in-loop-k.ensures ∙ get_or_default roots c.index.result.now c.index-in-loop-k.result.now 0 there ∙ ap (λ (n : ℕ). get_or roots n 0) whole
    in
    roots-more a k roots (set roots k c.index-in-loop-k.result.now) less are (ap (set roots k) root)
