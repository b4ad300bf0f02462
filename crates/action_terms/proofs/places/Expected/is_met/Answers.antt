use Rattle.std.proofs.Common.{◌≡◌, ◌∙◌, sym, ap, length, vec_len, arith}
use Rattle.std.specs.Prelude.{◌==◌}
use Rattle.action_terms.proofs.PlacesLemmas.{fills-nothing}
use Rattle.action_terms.proofs.places.Expected.is_met.Goals as goal

pub returns-then-self : goal.returns-then-self
returns-then-self c =
    let s = c.args.self.now in
    let count : length s.places.items ≡ vec_len s.places = omega (arith, s.places.ok.0) in
    rw c.if-self.true (c.is_empty.ensures ∙ sym (fills-nothing s.places.items ∙ ap (λ n. n == 0) count))
