use Rattle.std.proofs.Common.{rules, ◌≡◌, refl}
use Rattle.acg_base.proofs.CountLemmas.{counted-rose}
use Rattle.rv_machine.proofs.StepsLemmas.{is-send-not_empty, is-send-sends}
use Rattle.rv_machine.proofs.SilentLaws.{exits-silent, traps-silent}
use Rattle.rv_machine.specs.Machines.{left, sent}
use Rattle.rv_machine.proofs.machine.Machine.step.Goals as goal

pub lent-requires : goal.lent-requires
lent-requires g c =
    let turn = c.in-Sends.ensures in
    rw (turn.stays (λ e. cc)).0 (turn.sends c.in-Sends.address c.in-Sends.size refl)

pub pass_over-requires : goal.pass_over-requires
pass_over-requires g c =
    let turn = c.in-Sends.ensures in
    rw (c.lent.follows.holds-at-none, (turn.stays (λ e. cc)).0)
    (is-send-not_empty c.args.self.now c.in-Sends.address c.in-Sends.size (turn.sends c.in-Sends.address c.in-Sends.size refl))

pub returns-in-Err-Failed : goal.returns-in-Err-Failed
returns-in-Err-Failed g c =
    let turn = c.in-Sends.ensures in
    let stays = turn.stays (λ e. cc) in
    let send = turn.sends c.in-Sends.address c.in-Sends.size refl in
    let not_empty = is-send-not_empty c.args.self.now c.in-Sends.address c.in-Sends.size send in
    let sends = is-send-sends c.args.self.now c.in-Sends.address c.in-Sends.size (left c.args.input.now) send in
    let lent : c.lent.result.now ≡ sent c.args.self.now = rw stays.0 at c.lent.ensures.bytes in
    let write = c.in-Err-Failed.ensures in
    rw (c.lent.follows.holds-at-none, stays.0, stays.1)
    (record {
      ran = λ e. absurd (cc);
      exited = λ code e. absurd (cc);
      trapped = λ cause pc e. absurd (cc);
      fault = λ _. (not_empty, sends);
      stays = λ _. (refl, refl);
      taken = λ e. absurd (cc);
      bytes = refl;
      untouched = λ e. absurd (not_empty e);
      idle = λ _ e. absurd (e refl);
      told = λ e. absurd (cc);
      part = λ _ tells. rw (← lent) (write.part tells);
      once = λ _. write.writes;
      failed = λ _. (write.failed, write.last);
      rose = λ _. counted-rose _ _ write.failed;
      still = λ e. absurd (e refl);
      counts = write.counts;
      tells_still = write.tells_still;
    })

pub returns-in-Ok : goal.returns-in-Ok
returns-in-Ok g c =
    let turn = c.in-Sends.ensures in
    let stays = turn.stays (λ e. cc) in
    let send = turn.sends c.in-Sends.address c.in-Sends.size refl in
    let not_empty = is-send-not_empty c.args.self.now c.in-Sends.address c.in-Sends.size send in
    let lent : c.lent.result.now ≡ sent c.args.self.now = rw stays.0 at c.lent.ensures.bytes in
    let passed = rw (c.lent.follows.holds-at-none, stays.0) at c.pass_over.ensures in
    let write = c.in-Ok.ensures in
    rw stays.1
    (record {
      ran = λ _. passed.ran (left c.args.input.now);
      exited = λ code e. absurd (cc);
      trapped = λ cause pc e. absurd (cc);
      fault = λ e. absurd (cc);
      stays = λ e. absurd (e refl);
      taken = λ _. passed.taken;
      bytes = refl;
      untouched = λ e. absurd (not_empty e);
      idle = λ e. absurd (e refl);
      told = λ _ tells. rw (← lent) (write.done tells);
      part = λ e. absurd (cc);
      once = λ _. write.writes;
      failed = λ e. absurd (cc);
      rose = λ e. absurd (cc);
      still = λ _. write.passed;
      counts = write.counts;
      tells_still = write.tells_still;
    })

pub returns-in-Ran : goal.returns-in-Ran
returns-in-Ran g c =
    let silent = c.in-Ran.ensures.silent refl in
    search rules

pub returns-in-Exited : goal.returns-in-Exited
returns-in-Exited g c =
    let exits = c.in-Exited.ensures.exited c.in-Exited.code refl in
    let once = exits-silent c.args.self.now (left c.args.input.now) c.in-Exited.code exits in
    search rules

pub returns-in-Trapped : goal.returns-in-Trapped
returns-in-Trapped g c =
    let traps = c.in-Trapped.ensures.trapped c.in-Trapped.cause refl in
    let once = traps-silent c.args.self.now (left c.args.input.now) c.in-Trapped.cause traps in
    search rules
