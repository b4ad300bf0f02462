use Rattle.gram_form.specs.Plain.{texts}
use Rattle.meta_check.proofs.Known.{function_noted}
use Rattle.meta_check.proofs.names.functions.Goals as goal

pub loop-item-preserved : goal.loop-item-preserved
loop-item-preserved c =
    function_noted c.args.items.now c.loop-item.item-index c.item-item.result (texts c.loop-item.names.keys) (texts c.note_function.new.names.keys) c.loop-item-test.true c.loop-item.invariant c.item-item.is c.in_ok-note_function.ensures
