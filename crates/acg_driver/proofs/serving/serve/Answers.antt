use Rattle.std.proofs.Common.{sym, ◌∙◌, subst, Option}
use Rattle.acg_words.specs.Commands.{Command, command_of}
use Rattle.acg_driver.specs.Serving.{PerformsAsked, Handled}
use Rattle.acg_driver.proofs.Performs.{served-performs}
use Rattle.acg_driver.proofs.serving.serve.Goals as goal

pub carry_out-requires : goal.carry_out-requires
carry_out-requires g c = c.parse_command.ensures.ranges

pub returns : goal.returns
returns g c =
    let store = c.args.store.now in
    let HandledOf : Option Command → Type 0 = λ a. Handled g.S.Store g.K.Sink a store c.carry_out.new.store c.args.out.now c.carry_out.new.out c.carry_out.result in
    let all : HandledOf (command_of c.args.words.now) = subst HandledOf (sym c.parse_command.ensures.parsed) c.carry_out.ensures in
    record {
      served = all.served;
      surely = λ sure. (all.surely sure).faults;
      named = λ sure. (all.surely sure).named;
      performs = served-performs (command_of c.args.words.now) all.served;
      idle = all.idle;
    }
