use Rattle.acg_driver.proofs.MessageLemmas.{records-first}
use Rattle.acg_driver.proofs.messages.split_message.Goals as goal

pub returns-in-len8-up-clause-first : goal.returns-in-len8-up-clause-first
returns-in-len8-up-clause-first c =
    let read = c.from_le_bytes-message in
    records-first c.args.bytes.now read.result c.in-len8-up.len_at_least read.type_inv read.ensures
