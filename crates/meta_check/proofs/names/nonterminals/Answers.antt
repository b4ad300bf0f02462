use Rattle.gram_form.specs.Plain.{texts}
use Rattle.meta_check.proofs.Known.{nonterminal_noted}
use Rattle.meta_check.proofs.names.nonterminals.Goals as goal

pub loop-item-preserved : goal.loop-item-preserved
loop-item-preserved c =
    nonterminal_noted c.args.items.now c.loop-item.item-index c.item-item.result (texts c.loop-item.names.keys) (texts c.note_nonterminal.new.names.keys) c.loop-item-test.true c.loop-item.invariant c.item-item.is c.in_ok-note_nonterminal.ensures
