-- A command is its name, its options, and its operands with what it does.
use Rattle.std.proofs.Common.{ℕ, List, ◌++◌, codes, subst}
use Rattle.std.specs.List.{flat_map}
use Rattle.std.proofs.lemmas.Result.{err_from_is_err_and}
use Rattle.acg_words.specs.declared.settings.Setting.{Setting}
use Rattle.acg_words.specs.Commands.{options_of}
use Rattle.acg_words.specs.Prints.{Printed}
use Rattle.acg_words.specs.Usage.{operands_of, about_of, option_text, about_text}
use Rattle.acg_words.proofs.PrintsLemmas.{broke-first, broke-then, printed-err, printed-then, printed-took}
use Rattle.acg_words.proofs.usage.print_command.Goals as goal

pub returns-in_err-print_name : goal.returns-in_err-print_name
returns-in_err-print_name g c =
    let error = err_from_is_err_and c.from_residual.result c.from_residual.ensures.1 in
    let named = subst (λ (name : List ℕ). Printed g.K.Sink (codes "acg " ++ name) c.args.out.now c.print_name.new.out c.print_name.result)
    c.row_of-row.ensures.name c.print_name.ensures in
    printed-err c.print_name.result c.from_residual.result c.in_err-print_name.was error.1 named
    (broke-first (flat_map option_text (options_of c.args.kind) ++ about_text (operands_of c.args.kind) (about_of c.args.kind)))

pub returns-in_err-print_signs : goal.returns-in_err-print_signs
returns-in_err-print_signs g c =
    let error = err_from_is_err_and c.from_residual-in_err-print_signs.result c.from_residual-in_err-print_signs.ensures.1 in
    let named = subst (λ (name : List ℕ). Printed g.K.Sink (codes "acg " ++ name) c.args.out.now c.print_name.new.out c.print_name.result)
    c.row_of-row.ensures.name c.print_name.ensures in
    let begun = printed-took c.print_name.result c.in_ok-print_name.was named in
    let signs = subst (λ (settings : List Setting). Printed g.K.Sink (flat_map option_text settings) c.print_name.new.out c.print_signs.new.out c.print_signs.result)
    c.row_of-row.ensures.settings c.print_signs.ensures in
    printed-err c.print_signs.result c.from_residual-in_err-print_signs.result c.in_err-print_signs.was error.1 signs
    (λ broke. broke-then begun (broke-first (about_text (operands_of c.args.kind) (about_of c.args.kind)) broke))

pub returns : goal.returns
returns g c =
    let named = subst (λ (name : List ℕ). Printed g.K.Sink (codes "acg " ++ name) c.args.out.now c.print_name.new.out c.print_name.result)
    c.row_of-row.ensures.name c.print_name.ensures in
    let begun = printed-took c.print_name.result c.in_ok-print_name.was named in
    let signs = subst (λ (settings : List Setting). Printed g.K.Sink (flat_map option_text settings) c.print_name.new.out c.print_signs.new.out c.print_signs.result)
    c.row_of-row.ensures.settings c.print_signs.ensures in
    let more = printed-took c.print_signs.result c.in_ok-print_signs.was signs in
    let operands = subst (λ (operands : List ℕ). Printed g.K.Sink (about_text operands c.row_of-row.result.about.now) c.print_signs.new.out c.print_about.new.out c.print_about.result)
    c.row_of-row.ensures.operands c.print_about.ensures in
    let about = subst (λ (about : List ℕ). Printed g.K.Sink (about_text (operands_of c.args.kind) about) c.print_signs.new.out c.print_about.new.out c.print_about.result)
    c.row_of-row.ensures.about operands in
    printed-then c.print_about.result begun (printed-then c.print_about.result more about)
