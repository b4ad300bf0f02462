use Rattle.std.proofs.Common.{subst}
use Rattle.source_lex.specs.ScanErrors.{IsScanError}
use Rattle.source_lex.specs.declared.errors.ScanError.{ScanError}
use Rattle.source_lex.specs.declared.errors.ScanError.TheVariants.{BadByte}
use Rattle.meta_check.specs.Checked.{PlainDescription}
use Rattle.acg_driver.proofs.sources.lexemes_of.Goals as goal

pub returns-in-Err-BadByte-clause-refused : goal.returns-in-Err-BadByte-clause-refused
returns-in-Err-BadByte-clause-refused c =
    let bad = subst (λ (e : ScanError). IsScanError c.description.inside.grammar.literals c.args.bytes.now e) c.in-Err-BadByte.field-0-is c.in-Err-BadByte.ensures.error in
    (c.requires.within, subst (λ (d : PlainDescription). IsScanError d.grammar.literals c.args.bytes.now (BadByte c.in-Err-BadByte.offset)) c.description.view_is bad)
