use Rattle.std.proofs.Common.{◌≡◌, ◌∙◌, ℕ, ◌+◌, ◌<◌, List, ◌++◌, ◌∷◌, [], take, take_all, drop, Contains, add-one, length, sym, ap, subst, arith}
use Rattle.std.specs.Prelude.{◌↔◌}
use Rattle.std.proofs.Math.Seq.{take-suc}
use Rattle.std.proofs.lemmas.List.Elements.{Contains-get_or}
use Rattle.chart_parse.specs.Rows.{Has}
use Rattle.chart_parse.specs.Places.{grammar_of}
use Rattle.chart_parse.proofs.Followed.{AdvancesAmong, among_none, among_next, among_all}
use Rattle.chart_parse.proofs.Stored.{written_back}
use Rattle.chart_parse.proofs.runs.follow.Goals as goal

pub loop-q-init : goal.loop-q-init
loop-q-init c = record {
  len = c.in_ok-ends.ensures.len ∙ c.requires.wide;
  ends = λ e _. among_none (grammar_of c.args.source.now) c.args.source.now.kinds.now c.args.places.now c.args.part c.in_ok-ends.ends.items e (c.in_ok-ends.ensures.none e);
}

pub loop-q-preserved : goal.loop-q-preserved
loop-q-preserved c =
    let g = grammar_of c.args.source.now in
    let w = c.args.source.now.kinds.now in
    let old : List ℕ = c.loop-q.ends.items in
    let new : List ℕ = c.advance.new.into in
    let starts : List ℕ = c.in_ok-starts.starts.items in
    let h : ℕ = c.index.result.now in
    let was : c.deref_mut.result.now ≡ old = c.deref_mut.ensures.value in
    let len : length new ≡ length old = c.advance.ensures.len ∙ ap length was in
    let back : take c.loop-q.ends.len (new ++ drop (length new) old) ≡ new = written_back new old c.loop-q.ends.len (omega (arith, c.loop-q.ends.ok.0)) len in
    let next : take (c.loop-q.q + 1) starts ≡ take c.loop-q.q starts ++ h ∷ [] = (rw (add-one c.loop-q.q) (take-suc starts c.loop-q.q h (omega (arith, c.loop-q-test.true, c.len-q-end.ensures, c.in_ok-starts.starts.ok.0)))) ∙ ap (λ (y : ℕ). take c.loop-q.q starts ++ y ∷ []) (sym c.index.ensures) in
    record {
      len = ap length back ∙ len ∙ c.loop-q.invariant.len;
      ends = λ e le. subst (λ (r : List ℕ). Has r e ↔ AdvancesAmong g w c.args.places.now c.args.part (take (c.loop-q.q + 1) starts) e) (sym back)
          (subst (λ (t : List ℕ). Has new e ↔ AdvancesAmong g w c.args.places.now c.args.part t e) (sym next)
          (among_next g w c.args.places.now c.args.part (take c.loop-q.q starts) c.deref_mut.result.now new h e
          (subst (λ (r : List ℕ). Has r e ↔ AdvancesAmong g w c.args.places.now c.args.part (take c.loop-q.q starts) e) (sym was) (c.loop-q.invariant.ends e le)) (c.advance.ensures.joined e le)));
    }

pub advance-requires-clause-at : goal.advance-requires-clause-at
advance-requires-clause-at c =
    let starts : List ℕ = c.in_ok-starts.starts.items in
    let inside : c.loop-q.q < length starts = omega (arith, c.loop-q-test.true, c.len-q-end.ensures, c.in_ok-starts.starts.ok.0) in
    let at : ℕ = c.index.result.now in
    let h = (c.in_ok-starts.ensures at).0 (subst (Contains starts) (sym c.index.ensures) (Contains-get_or starts c.loop-q.q at inside)) in
    (let lt = h.0 in omega arith)

pub returns-clause-ends : goal.returns-clause-ends
returns-clause-ends c e le =
    let g = grammar_of c.args.source.now in
    let w = c.args.source.now.kinds.now in
    let starts : List ℕ = c.in_ok-starts.starts.items in
    let all : take c.loop-q.q starts ≡ starts = take_all c.loop-q.q starts (omega (arith, c.loop-q-test.false, c.len-q-end.ensures, c.in_ok-starts.starts.ok.0)) in
    among_all g w c.args.places.now c.args.part c.args.from.now c.deref.result.now starts c.loop-q.ends.items e
    (λ k h. c.in_ok-ends.ensures.none k (subst (λ (r : List ℕ). Has r k) c.deref.ensures.value h)) (λ k. c.in_ok-starts.ensures k)
    (subst (λ (t : List ℕ). Has c.loop-q.ends.items e ↔ AdvancesAmong g w c.args.places.now c.args.part t e) all (c.loop-q.invariant.ends e le))
