-- What the entries do, whatever is emitted behind them.
use Rattle.rv_prelude.specs.EntryRuns.{Whatever, Starts, Ends, FailsToRecord, FailsOut, EscapesToRecord, EscapesOut, CommitsBack, SendsBack, ReceivesBack, ReceivesNone, AllocatesBack, AllocatesNone}
use Rattle.rv_prelude.specs.Items.{entries_from}
use Rattle.rv_prelude.proofs.EntryFacts as facts
use Rattle.rv_prelude.proofs.EntryFacts.{known, prelude_listing}
use Rattle.rv_prelude.proofs.entries.prelude.Goals as goal

pub returns-clause-starts : goal.returns-clause-starts
returns-clause-starts c =
    known c.append_prelude.result (entries_from c.args.asm.now.labels) (prelude_listing c.args.asm.now.labels c.args.capacity.stack c.args.capacity.units) c.append_prelude.new.asm (λ e l. Whatever l (Starts e.start e.code_end c.args.capacity.stack c.args.capacity.units)) (facts.starts-whatever c.args.asm.now.labels c.args.capacity.stack c.args.capacity.units c.requires.stack_few c.requires.units_few) c.append_prelude.ensures.labels c.append_prelude.ensures.asm

pub returns-clause-completed : goal.returns-clause-completed
returns-clause-completed c =
    known c.append_prelude.result (entries_from c.args.asm.now.labels) (prelude_listing c.args.asm.now.labels c.args.capacity.stack c.args.capacity.units) c.append_prelude.new.asm (λ e l. Whatever l (Ends e.completed 0)) (facts.completed-whatever c.args.asm.now.labels c.args.capacity.stack c.args.capacity.units) c.append_prelude.ensures.labels c.append_prelude.ensures.asm

pub returns-clause-failed : goal.returns-clause-failed
returns-clause-failed c =
    known c.append_prelude.result (entries_from c.args.asm.now.labels) (prelude_listing c.args.asm.now.labels c.args.capacity.stack c.args.capacity.units) c.append_prelude.new.asm (λ e l. Whatever l (Ends e.failed 1)) (facts.failed-whatever c.args.asm.now.labels c.args.capacity.stack c.args.capacity.units) c.append_prelude.ensures.labels c.append_prelude.ensures.asm

pub returns-clause-escaped : goal.returns-clause-escaped
returns-clause-escaped c =
    known c.append_prelude.result (entries_from c.args.asm.now.labels) (prelude_listing c.args.asm.now.labels c.args.capacity.stack c.args.capacity.units) c.append_prelude.new.asm (λ e l. Whatever l (Ends e.escaped 2)) (facts.escaped-whatever c.args.asm.now.labels c.args.capacity.stack c.args.capacity.units) c.append_prelude.ensures.labels c.append_prelude.ensures.asm

pub returns-clause-full : goal.returns-clause-full
returns-clause-full c =
    known c.append_prelude.result (entries_from c.args.asm.now.labels) (prelude_listing c.args.asm.now.labels c.args.capacity.stack c.args.capacity.units) c.append_prelude.new.asm (λ e l. Whatever l (Ends e.full 3)) (facts.full-whatever c.args.asm.now.labels c.args.capacity.stack c.args.capacity.units) c.append_prelude.ensures.labels c.append_prelude.ensures.asm

pub returns-clause-fails : goal.returns-clause-fails
returns-clause-fails c =
    known c.append_prelude.result (entries_from c.args.asm.now.labels) (prelude_listing c.args.asm.now.labels c.args.capacity.stack c.args.capacity.units) c.append_prelude.new.asm (λ e l. Whatever l (FailsToRecord e.fail)) (facts.fails-whatever c.args.asm.now.labels c.args.capacity.stack c.args.capacity.units) c.append_prelude.ensures.labels c.append_prelude.ensures.asm

pub returns-clause-fails_out : goal.returns-clause-fails_out
returns-clause-fails_out c =
    known c.append_prelude.result (entries_from c.args.asm.now.labels) (prelude_listing c.args.asm.now.labels c.args.capacity.stack c.args.capacity.units) c.append_prelude.new.asm (λ e l. Whatever l (FailsOut e.fail e.failed)) (facts.fails-out-whatever c.args.asm.now.labels c.args.capacity.stack c.args.capacity.units) c.append_prelude.ensures.labels c.append_prelude.ensures.asm

pub returns-clause-escapes : goal.returns-clause-escapes
returns-clause-escapes c =
    known c.append_prelude.result (entries_from c.args.asm.now.labels) (prelude_listing c.args.asm.now.labels c.args.capacity.stack c.args.capacity.units) c.append_prelude.new.asm (λ e l. Whatever l (EscapesToRecord e.escape)) (facts.escapes-whatever c.args.asm.now.labels c.args.capacity.stack c.args.capacity.units) c.append_prelude.ensures.labels c.append_prelude.ensures.asm

pub returns-clause-escapes_out : goal.returns-clause-escapes_out
returns-clause-escapes_out c =
    known c.append_prelude.result (entries_from c.args.asm.now.labels) (prelude_listing c.args.asm.now.labels c.args.capacity.stack c.args.capacity.units) c.append_prelude.new.asm (λ e l. Whatever l (EscapesOut e.escape e.escaped)) (facts.escapes-out-whatever c.args.asm.now.labels c.args.capacity.stack c.args.capacity.units) c.append_prelude.ensures.labels c.append_prelude.ensures.asm

pub returns-clause-commits : goal.returns-clause-commits
returns-clause-commits c =
    known c.append_prelude.result (entries_from c.args.asm.now.labels) (prelude_listing c.args.asm.now.labels c.args.capacity.stack c.args.capacity.units) c.append_prelude.new.asm (λ e l. Whatever l (CommitsBack e.commit)) (facts.commits-whatever c.args.asm.now.labels c.args.capacity.stack c.args.capacity.units) c.append_prelude.ensures.labels c.append_prelude.ensures.asm

pub returns-clause-sends : goal.returns-clause-sends
returns-clause-sends c =
    known c.append_prelude.result (entries_from c.args.asm.now.labels) (prelude_listing c.args.asm.now.labels c.args.capacity.stack c.args.capacity.units) c.append_prelude.new.asm (λ e l. Whatever l (SendsBack e.send)) (facts.sends-whatever c.args.asm.now.labels c.args.capacity.stack c.args.capacity.units) c.append_prelude.ensures.labels c.append_prelude.ensures.asm

pub returns-clause-receives : goal.returns-clause-receives
returns-clause-receives c =
    known c.append_prelude.result (entries_from c.args.asm.now.labels) (prelude_listing c.args.asm.now.labels c.args.capacity.stack c.args.capacity.units) c.append_prelude.new.asm (λ e l. Whatever l (ReceivesBack e.receive)) (facts.receives-whatever c.args.asm.now.labels c.args.capacity.stack c.args.capacity.units) c.append_prelude.ensures.labels c.append_prelude.ensures.asm

pub returns-clause-receives_none : goal.returns-clause-receives_none
returns-clause-receives_none c =
    known c.append_prelude.result (entries_from c.args.asm.now.labels) (prelude_listing c.args.asm.now.labels c.args.capacity.stack c.args.capacity.units) c.append_prelude.new.asm (λ e l. Whatever l (ReceivesNone e.receive e.fail)) (facts.receives-none-whatever c.args.asm.now.labels c.args.capacity.stack c.args.capacity.units) c.append_prelude.ensures.labels c.append_prelude.ensures.asm

pub returns-clause-allocates : goal.returns-clause-allocates
returns-clause-allocates c =
    known c.append_prelude.result (entries_from c.args.asm.now.labels) (prelude_listing c.args.asm.now.labels c.args.capacity.stack c.args.capacity.units) c.append_prelude.new.asm (λ e l. Whatever l (AllocatesBack e.allocate)) (facts.allocates-whatever c.args.asm.now.labels c.args.capacity.stack c.args.capacity.units) c.append_prelude.ensures.labels c.append_prelude.ensures.asm

pub returns-clause-allocates_none : goal.returns-clause-allocates_none
returns-clause-allocates_none c =
    known c.append_prelude.result (entries_from c.args.asm.now.labels) (prelude_listing c.args.asm.now.labels c.args.capacity.stack c.args.capacity.units) c.append_prelude.new.asm (λ e l. Whatever l (AllocatesNone e.allocate e.full)) (facts.allocates-none-whatever c.args.asm.now.labels c.args.capacity.stack c.args.capacity.units) c.append_prelude.ensures.labels c.append_prelude.ensures.asm
