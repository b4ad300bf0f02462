-- What `serve` answers for the words is what the arguments' words get.
use Rattle.std.proofs.Common.{ℕ, List, inl, inr, refl, ◌∙◌, subst}
use Rattle.std.specs.Process.{exit_status}
use Rattle.acg.specs.Exits.{ExitsServed}
use Rattle.acg.proofs.serve_arguments.Goals as goal

pub returns-in-Ok-clause-ends : goal.returns-in-Ok-clause-ends
returns-in-Ok-clause-ends g c =
    let ServedFor : List (List ℕ) → Type 0 = λ words. ExitsServed g.S.Store g.K.Sink words c.args.store.now c.serve.new.store c.args.out.now c.serve.new.out (exit_status c.from.result) in
    inl (subst ServedFor c.in-Ok.ensures.ok (record {
      answered = c.serve.result;
      number = c.from.ensures ∙ c.code.ensures;
      served = c.serve.ensures.served;
      surely = λ sure. record { faults = c.serve.ensures.surely sure; named = c.serve.ensures.named sure };
      performs = c.serve.ensures.performs;
      idle = c.serve.ensures.idle;
    }))

pub returns-in-Ok-clause-unkept : goal.returns-in-Ok-clause-unkept
returns-in-Ok-clause-unkept g c = λ unkept. absurd (c.in-Ok.ensures.kept unkept)

pub returns-in-Err-clause-ends : goal.returns-in-Err-clause-ends
returns-in-Err-clause-ends g c = inr (record {
  some = c.in-Err.ensures.err;
  number = c.from-in-Err.ensures ∙ c.code-in-Err.ensures;
  store = refl;
  sink = refl;
})

pub returns-in-Err-clause-unkept : goal.returns-in-Err-clause-unkept
returns-in-Err-clause-unkept g c = λ _. record {
  some = c.in-Err.ensures.err;
  number = c.from-in-Err.ensures ∙ c.code-in-Err.ensures;
  store = refl;
  sink = refl;
}
