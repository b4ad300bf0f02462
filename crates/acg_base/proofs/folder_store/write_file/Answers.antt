-- Making a file and closing it leave every other name as it was.
use Rattle.std.proofs.Common.{IsTrue, sym, subst, rules}
use Rattle.acg_base.proofs.TransferLemmas.{elsewhere}
use Rattle.acg_base.proofs.folder_store.write_file.Goals as goal

pub returns-then-is_err-clause-others : goal.returns-then-is_err-clause-others
returns-then-is_err-clause-others g c = λ tells.
    let told = subst IsTrue (sym c.create.ensures.tells_still) tells in
    let closed = c.close_writer.ensures.others told c.args.name.now (search rules) in
    elsewhere _ _ _ _ (c.create.ensures.others tells) closed

pub returns-clause-others : goal.returns-clause-others
returns-clause-others g c = λ tells.
    let told = subst IsTrue (sym c.create.ensures.tells_still) tells in
    let closed = c.close_writer.ensures.others told c.args.name.now (search rules) in
    elsewhere _ _ _ _ (c.create.ensures.others tells) closed
