use Rattle.std.proofs.Common.{ℕ, arith}
use Rattle.action_terms.specs.Meaning.{action_of}
use Rattle.action_terms.specs.Numbering.{Listed}
use Rattle.sort_rules.specs.Rows.{unmarked}
use Rattle.sort_rules.specs.Tables.{MarkedTable}
use Rattle.frame_layout.specs.Places.{frames_of}
use Rattle.rv_codegen.proofs.Emitting.{OnOk-always, OnOk-both}
use Rattle.rv_codegen.specs.RightImage.{Subject}
use Rattle.rv_codegen.proofs.Compiling.{HasFrames}
use Rattle.rv_codegen.proofs.Generated.{IfOk-on, full-right, generated-right}
use Rattle.rv_codegen.proofs.generation.generate.Goals as goal

-- what the image is compared with
abbrev subject : Listed → MarkedTable → (stack units : ℕ) → Subject
subject g t stack units = record { action = action_of g; table = t; stack = stack; units = units }

pub returns-clause-right : goal.returns-clause-right
returns-clause-right c =
    let g = c.args.graph.now in
    let code = c.assemble_framed in
    let capacity = c.args.capacity in
    let known = OnOk-both _ _ code.result code.ensures.numbers (OnOk-both _ _ code.result code.ensures.labels code.ensures.short) in
    let framed : (stack units : ℕ) → HasFrames (subject g (unmarked c.args.table.now) stack units) (frames_of c.args.layout.now) = λ stack units. record { admissible = c.requires.admissible; layout = c.requires.layout; apart = c.requires.layout.apart } in
    IfOk-on code.result _ _ _ (λ f words encoded. generated-right g c.nodes-nodes.ensures.of_an_action (unmarked c.args.table.now) (frames_of c.args.layout.now) f.0 c.requires.built framed words.words.items capacity.stack capacity.units (omega arith) f.1.0 f.1.1 encoded c.requires.stack.0 c.requires.stack.1 c.requires.units.1) known code.ensures.words

pub returns-then-from-capacity-clause-right : goal.returns-then-from-capacity-clause-right
returns-then-from-capacity-clause-right c =
    let g = c.args.graph.now in
    let code = c.full_code in
    let capacity = c.args.capacity in
    let framed : (stack units : ℕ) → HasFrames (subject g (unmarked c.args.table.now) stack units) (frames_of c.args.layout.now) = λ stack units. record { admissible = c.requires.admissible; layout = c.requires.layout; apart = c.requires.layout.apart } in
    IfOk-on code.result (Unit {0}) _ _ (λ f words encoded. full-right g c.nodes-nodes.ensures.of_an_action (unmarked c.args.table.now) (frames_of c.args.layout.now) c.nodes-nodes.ensures.numbers c.requires.built framed words.words.items capacity.stack capacity.units (omega arith) encoded c.requires.stack.0 c.requires.stack.1 c.requires.units.1) (OnOk-always (Unit {0}) code.result tt) code.ensures
