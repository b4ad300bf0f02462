use Rattle.std.proofs.Common.{◌≡◌, ◌<◌, true, false, length, ap, sym, subst, arith}
use Rattle.action_terms.specs.Meaning.{action_of}
use Rattle.action_terms.specs.Need.{node_yielder_count}
use Rattle.rv_asm.specs.Assembly.{is_placed, total}
use Rattle.rv_codegen.specs.Blocks.{joint_of}
use Rattle.rv_codegen.specs.Built.{is_built_node}
use Rattle.rv_codegen.proofs.Emitting.{OnOk-then}
use Rattle.rv_codegen.proofs.Fresh.{fresh-jump, total-jump}
use Rattle.rv_codegen.proofs.GraphNodes.{length-action_of}
use Rattle.rv_codegen.proofs.Unbuilt.{never_unbuilt}
use Rattle.rv_codegen.proofs.node.append_body.Goals as goal

pub append_primitive-requires-clause-built : goal.append_primitive-requires-clause-built
append_primitive-requires-clause-built c =
    let graph = c.args.plan.graph.now in
    let within : c.args.k < length (action_of graph) = omega (arith, c.requires.node, length-action_of graph) in
    subst (λ n. is_built_node n ≡ true) c.in-Simple.ensures.node (never_unbuilt (action_of graph) c.args.k within c.args.plan.built)

pub append_primitive-requires-clause-few : goal.append_primitive-requires-clause-few
append_primitive-requires-clause-few c = subst (λ n. node_yielder_count n < 65536) c.in-Simple.ensures.node (c.args.plan.few c.args.k)

pub returns-in_ok-append_arms-in-Either-clause-marks : goal.returns-in_ok-append_arms-in-Either-clause-marks
returns-in_ok-append_arms-in-Either-clause-marks c =
    OnOk-then c.jump.result
    (λ e l ne nj h. subst (λ z. is_placed z.items l ≡ false) (sym e) (fresh-jump c.append_arms.new.asm.items c.args.exit l (c.in_ok-append_arms-in-Either.ensures.marks l ne nj h)))
    c.jump.ensures.ok

pub returns-in_ok-append_arms-in-Either-clause-short : goal.returns-in_ok-append_arms-in-Either-clause-short
returns-in_ok-append_arms-in-Either-clause-short c =
    OnOk-then c.jump.result
    (λ e. omega (arith, ap (λ z. total z.items) e, total-jump c.append_arms.new.asm.items c.args.exit, c.in_ok-append_arms-in-Either.ensures.short))
    c.jump.ensures.ok

pub append_handler-requires-clause-joint : goal.append_handler-requires-clause-joint
append_handler-requires-clause-joint c =
    let k = c.args.k in
    let s1 = c.append_trapped.new.asm in
    let kept : is_placed s1.items (joint_of k) ≡ false = c.in_ok-append_trapped-in-Trapping.ensures.marks (joint_of k) (λ e. omega arith) c.requires.joint in
    subst (λ z. is_placed z.items (joint_of k) ≡ false) (sym c.in_ok-jump-in-Trapping.ensures.ok) (fresh-jump s1.items c.args.exit (joint_of k) kept)

pub returns-in_ok-jump-in-Trapping-clause-marks : goal.returns-in_ok-jump-in-Trapping-clause-marks
returns-in_ok-jump-in-Trapping-clause-marks c =
    let s1 = c.append_trapped.new.asm in
    OnOk-then c.append_handler.result
    (λ marks l ne nj h.
    marks l nj (subst (λ z. is_placed z.items l ≡ false) (sym c.in_ok-jump-in-Trapping.ensures.ok) (fresh-jump s1.items c.args.exit l (c.in_ok-append_trapped-in-Trapping.ensures.marks l ne h))))
    c.append_handler.ensures.marks

pub returns-in_ok-jump-in-Trapping-clause-short : goal.returns-in_ok-jump-in-Trapping-clause-short
returns-in_ok-jump-in-Trapping-clause-short c =
    let s1 = c.append_trapped.new.asm in
    OnOk-then c.append_handler.result
    (λ short. omega (arith, short, ap (λ z. total z.items) c.in_ok-jump-in-Trapping.ensures.ok, total-jump s1.items c.args.exit, c.in_ok-append_trapped-in-Trapping.ensures.short))
    c.append_handler.ensures.short
