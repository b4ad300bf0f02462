use Rattle.std.proofs.Common.{List, None, Option, Some, ap, arith, length, length-set, set, suc, sym, zero, ℕ, ◌+◌, ◌-◌, ◌<◌, ◌∙◌, ◌≡◌}
use Rattle.sort_rules.specs.Procedures.{above, if_some, reaches}
use Rattle.binding_capture.specs.Asked.{tokens_of}
use Rattle.binding_capture.specs.Captures.{marked_at, marked_of, with_asked, with_asked_if}
use Rattle.binding_capture.specs.declared.marking.Candidate.{Candidate}
use Rattle.binding_capture.proofs.MarkedAbove.{marked-next, marked-one}
use Rattle.binding_capture.proofs.capturing.mark_above.Goals as goal

pub loop-preserved : goal.loop-preserved
loop-preserved c =
    let asked = tokens_of c.args.asked.now in
    let cs = c.loop.candidates.items in
    let at = c.loop.at in
    let new = c.in_ok-candidates.field-0 in
    let inv = c.loop.invariant in
    let m = c.args.node - (c.loop.counter + 1) in
    let fuel : suc (c.args.node - (c.loop.counter + 1)) ≡ c.args.node - c.loop.counter = omega (arith, c.loop-test.true) in
    let within : at < length cs = omega (arith, inv.within, inv.long, c.requires.long) in
    let marked : marked_of new.items ≡ with_asked asked (marked_of c.index.result.now.items) = c.in_ok-candidates.ensures ∙ ap (λ (vs : List Candidate). with_asked (tokens_of c.args.asked.now) (marked_of vs)) c.deref.ensures.value in
    record {
      long = length-set cs at new ∙ inv.long;
      within = c.requires.within at c.in-Some.holder inv.within c.in-Some.is;
      rest = λ a are k d less.
          let found : above a at ≡ Some c.in-Some.holder = sym (are.each at (omega (arith, inv.within, are.long))) ∙ c.in-Some.is in
          ap (λ (o : Option ℕ). with_asked_if (if_some (reaches m a k) o) asked (marked_at (set cs at new) d k)) (sym found)
          ∙ marked-next asked cs at c.index.result.now new within c.index.ensures marked a m k d (omega (arith, less, inv.long))
          ∙ ap (λ (n : ℕ). with_asked_if (reaches n a k at) asked (marked_at cs d k)) fuel
          ∙ inv.rest a are k d less;
    }

pub returns-in-None : goal.returns-in-None
returns-in-None c =
    let asked = tokens_of c.args.asked.now in
    let cs = c.loop.candidates.items in
    let at = c.loop.at in
    let new = c.in_ok-candidates.field-0 in
    let inv = c.loop.invariant in
    let m = c.args.node - (c.loop.counter + 1) in
    let fuel : suc (c.args.node - (c.loop.counter + 1)) ≡ c.args.node - c.loop.counter = omega (arith, c.loop-test.true) in
    let within : at < length cs = omega (arith, inv.within, inv.long, c.requires.long) in
    let marked : marked_of new.items ≡ with_asked asked (marked_of c.index.result.now.items) = c.in_ok-candidates.ensures ∙ ap (λ (vs : List Candidate). with_asked (tokens_of c.args.asked.now) (marked_of vs)) c.deref.ensures.value in
    λ a are.
    let found : above a at ≡ None = sym (are.each at (omega (arith, inv.within, are.long))) ∙ c.in-None.is in
    record {
      long = length-set cs at new ∙ inv.long;
      each = λ k d less.
          ap (λ (o : Option ℕ). with_asked_if (if_some (reaches m a k) o) asked (marked_at (set cs at new) d k)) (sym found)
          ∙ marked-next asked cs at c.index.result.now new within c.index.ensures marked a m k d (omega (arith, less, inv.long))
          ∙ ap (λ (n : ℕ). with_asked_if (reaches n a k at) asked (marked_at cs d k)) fuel
          ∙ inv.rest a are k d less;
    }

pub returns : goal.returns
returns c =
    let asked = tokens_of c.args.asked.now in
    let cs = c.loop.candidates.items in
    let at = c.loop.at in
    let new = c.in_ok-candidates-2.field-0 in
    let inv = c.loop.invariant in
    let fuel : zero ≡ c.args.node - c.loop.counter = omega (arith, c.loop-test.false) in
    let within : at < length cs = omega (arith, inv.within, inv.long, c.requires.long) in
    let marked : marked_of new.items ≡ with_asked asked (marked_of c.index-2.result.now.items) = c.in_ok-candidates-2.ensures ∙ ap (λ (vs : List Candidate). with_asked (tokens_of c.args.asked.now) (marked_of vs)) c.deref-2.ensures.value in
    λ a are. record {
      long = length-set cs at new ∙ inv.long;
      each = λ k d less.
          marked-one asked cs at c.index-2.result.now new within c.index-2.ensures marked k d (omega (arith, less, inv.long))
          ∙ ap (λ (n : ℕ). with_asked_if (reaches n a k at) asked (marked_at cs d k)) fuel
          ∙ inv.rest a are k d less;
    }
