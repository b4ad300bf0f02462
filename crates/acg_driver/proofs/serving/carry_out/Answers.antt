use Rattle.std.proofs.Common.{◌≡◌, Some, None, Option, option_map, refl, sym, subst, rules}
use Rattle.acg_words.specs.Commands.{Command, Help, Version, asked}
use Rattle.acg_words.specs.Usage.{usage, version_line}
use Rattle.acg_driver.specs.Serving.{Handled}
use Rattle.acg_driver.proofs.Handling.{handled-alone, handled-none}
use Rattle.acg_driver.proofs.serving.carry_out.Goals as goal

pub returns-in-None : goal.returns-in-None
returns-in-None g c =
    let is : option_map asked c.args.command ≡ None = search rules in
    let HandledOf : Option Command → Type 0 = λ a. Handled g.S.Store g.K.Sink a c.args.store.now c.args.store.now c.args.out.now c.answer.new.out c.answer.result in
    subst HandledOf (sym is) (handled-none c.answer.ensures.answered)

pub returns-in-Some-Help : goal.returns-in-Some-Help
returns-in-Some-Help g c =
    let is : option_map asked c.args.command ≡ Some Help = search rules in
    let HandledOf : Option Command → Type 0 = λ a. Handled g.S.Store g.K.Sink a c.args.store.now c.args.store.now c.args.out.now c.help.new.out c.help.result in
    subst HandledOf (sym is) (handled-alone Help usage refl (refl, (refl, refl)) c.help.ensures)

pub returns-in-Some-Version : goal.returns-in-Some-Version
returns-in-Some-Version g c =
    let is : option_map asked c.args.command ≡ Some Version = search rules in
    let HandledOf : Option Command → Type 0 = λ a. Handled g.S.Store g.K.Sink a c.args.store.now c.args.store.now c.args.out.now c.version.new.out c.version.result in
    subst HandledOf (sym is) (handled-alone Version version_line refl (refl, (refl, refl)) c.version.ensures)
