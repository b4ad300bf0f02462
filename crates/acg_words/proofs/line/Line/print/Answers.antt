-- The line of each variant is the text that its arm prints.
use Rattle.std.proofs.Common.{sym, subst}
use Rattle.acg_words.specs.Lines.{bytes_of}
use Rattle.acg_words.specs.Prints.{Printed}
use Rattle.acg_words.proofs.line.Line.print.Goals as goal

pub returns-in-LimitAction-clause-printed : goal.returns-in-LimitAction-clause-printed
returns-in-LimitAction-clause-printed g c =
    let call = c.print_numbered-in-LimitAction in
    subst (λ line. Printed g.K.Sink (bytes_of line) c.args.out.now call.new.out call.result) (sym c.in-LimitAction.is) call.ensures.printed

pub returns-in-LimitNodes-clause-printed : goal.returns-in-LimitNodes-clause-printed
returns-in-LimitNodes-clause-printed g c =
    let call = c.print_numbered-in-LimitNodes in
    subst (λ line. Printed g.K.Sink (bytes_of line) c.args.out.now call.new.out call.result) (sym c.in-LimitNodes.is) call.ensures.printed

pub returns-in-ActionByte-clause-printed : goal.returns-in-ActionByte-clause-printed
returns-in-ActionByte-clause-printed g c =
    let call = c.print_numbered-in-ActionByte in
    subst (λ line. Printed g.K.Sink (bytes_of line) c.args.out.now call.new.out call.result) (sym c.in-ActionByte.is) call.ensures.printed

pub returns-in-StrayUnfold-clause-printed : goal.returns-in-StrayUnfold-clause-printed
returns-in-StrayUnfold-clause-printed g c =
    let call = c.print_numbered-in-StrayUnfold in
    subst (λ line. Printed g.K.Sink (bytes_of line) c.args.out.now call.new.out call.result) (sym c.in-StrayUnfold.is) call.ensures.printed

pub returns-in-IllSorted-clause-printed : goal.returns-in-IllSorted-clause-printed
returns-in-IllSorted-clause-printed g c =
    let call = c.print_numbered-in-IllSorted in
    subst (λ line. Printed g.K.Sink (bytes_of line) c.args.out.now call.new.out call.result) (sym c.in-IllSorted.is) call.ensures.printed

pub returns-in-LimitImage-clause-printed : goal.returns-in-LimitImage-clause-printed
returns-in-LimitImage-clause-printed g c =
    let call = c.print_numbered-in-LimitImage in
    subst (λ line. Printed g.K.Sink (bytes_of line) c.args.out.now call.new.out call.result) (sym c.in-LimitImage.is) call.ensures.printed

pub returns-in-ImageShort-clause-printed : goal.returns-in-ImageShort-clause-printed
returns-in-ImageShort-clause-printed g c =
    let call = c.print-in-ImageShort in
    subst (λ line. Printed g.K.Sink (bytes_of line) c.args.out.now call.new.out call.result) (sym c.in-ImageShort.is) call.ensures.printed

pub returns-in-ImageMagic-clause-printed : goal.returns-in-ImageMagic-clause-printed
returns-in-ImageMagic-clause-printed g c =
    let call = c.print-in-ImageMagic in
    subst (λ line. Printed g.K.Sink (bytes_of line) c.args.out.now call.new.out call.result) (sym c.in-ImageMagic.is) call.ensures.printed

pub returns-in-ImageKind-clause-printed : goal.returns-in-ImageKind-clause-printed
returns-in-ImageKind-clause-printed g c =
    let call = c.print-in-ImageKind in
    subst (λ line. Printed g.K.Sink (bytes_of line) c.args.out.now call.new.out call.result) (sym c.in-ImageKind.is) call.ensures.printed

pub returns-in-LimitDescription-clause-printed : goal.returns-in-LimitDescription-clause-printed
returns-in-LimitDescription-clause-printed g c =
    let call = c.print_numbered in
    subst (λ line. Printed g.K.Sink (bytes_of line) c.args.out.now call.new.out call.result) (sym c.in-LimitDescription.is) call.ensures.printed

pub returns-in-LimitSource-clause-printed : goal.returns-in-LimitSource-clause-printed
returns-in-LimitSource-clause-printed g c =
    let call = c.print_numbered-in-LimitSource in
    subst (λ line. Printed g.K.Sink (bytes_of line) c.args.out.now call.new.out call.result) (sym c.in-LimitSource.is) call.ensures.printed

pub returns-in-DescriptionByte-clause-printed : goal.returns-in-DescriptionByte-clause-printed
returns-in-DescriptionByte-clause-printed g c =
    let call = c.print_numbered-in-DescriptionByte in
    subst (λ line. Printed g.K.Sink (bytes_of line) c.args.out.now call.new.out call.result) (sym c.in-DescriptionByte.is) call.ensures.printed

pub returns-in-DescriptionItem-clause-printed : goal.returns-in-DescriptionItem-clause-printed
returns-in-DescriptionItem-clause-printed g c =
    let call = c.print_numbered-in-DescriptionItem in
    subst (λ line. Printed g.K.Sink (bytes_of line) c.args.out.now call.new.out call.result) (sym c.in-DescriptionItem.is) call.ensures.printed

pub returns-in-NoTree-clause-printed : goal.returns-in-NoTree-clause-printed
returns-in-NoTree-clause-printed g c =
    let call = c.print-in-NoTree in
    subst (λ line. Printed g.K.Sink (bytes_of line) c.args.out.now call.new.out call.result) (sym c.in-NoTree.is) call.ensures.printed

pub returns-in-Ambiguous-clause-printed : goal.returns-in-Ambiguous-clause-printed
returns-in-Ambiguous-clause-printed g c =
    let call = c.print-in-Ambiguous in
    subst (λ line. Printed g.K.Sink (bytes_of line) c.args.out.now call.new.out call.result) (sym c.in-Ambiguous.is) call.ensures.printed
