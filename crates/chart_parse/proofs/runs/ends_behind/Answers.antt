use Rattle.std.proofs.Common.{◌≡◌, ◌∙◌, ℕ, ◌+◌, ◌<◌, List, ◌∷◌, ◌++◌, take, drop, drop-cons, get_or, length, add-one, sym, ap, subst, arith}
use Rattle.std.specs.Prelude.{◌↔◌}
use Rattle.std.proofs.lemmas.List.{drop_all}
use Rattle.source_lex.specs.Numbered.{Alternative}
use Rattle.source_lex.specs.declared.numbered.Symbol.{Symbol}
use Rattle.source_lex.specs.declared.numbered.Symbol.TheVariants.{Word}
use Rattle.source_lex.specs.declared.lexeme.LexKind.TheVariants.{Literal}
use Rattle.chart_parse.specs.Rows.{Has}
use Rattle.chart_parse.specs.Places.{grammar_of, RunsTo, AdvancesFrom}
use Rattle.chart_parse.proofs.Followed.{RunsBy, run_behind, run_next, run_last}
use Rattle.chart_parse.proofs.Stored.{written_back}
use Rattle.chart_parse.proofs.runs.ends_behind.Goals as goal

next : (parts : Alternative) (p : ℕ) (d : Symbol) → p < length parts → drop p parts ≡ get_or parts p d ∷ drop (p + 1) parts
next parts p d h = rw (add-one p) (drop-cons parts p d h)

pub loop-p-init : goal.loop-p-init
loop-p-init c =
    let g = grammar_of c.args.source.now in
    let w = c.args.source.now.kinds.now in
    let p = c.args.places.now in
    let parts : Alternative = c.args.parts.now in
    let row : List ℕ = c.in_ok-ends.ends.items in
    let new : List ℕ = c.advance.new.into in
    let was : c.deref_mut.result.now ≡ row = c.deref_mut.ensures.value in
    let len : length new ≡ length row = c.advance.ensures.len ∙ ap length was in
    let back : take c.in_ok-ends.ends.len (new ++ drop (length new) row) ≡ new = written_back new row c.in_ok-ends.ends.len (omega (arith, c.in_ok-ends.ends.ok.0)) len in
    record {
      len = ap length back ∙ len ∙ c.in_ok-ends.ensures.len;
      ends = λ e le. subst (λ (r : List ℕ). RunsTo g w p parts c.args.start e ↔ RunsBy g w p r (drop 1 parts) e) (sym back)
          (run_behind g w p parts (drop 1 parts) (get_or parts 0 (Word (Literal 0))) c.args.start e c.deref_mut.result.now new (next parts 0 (Word (Literal 0)) c.requires.some)
          (λ k h. c.in_ok-ends.ensures.none k (subst (λ (r : List ℕ). Has r k) was h)) c.advance.ensures.joined);
    }

pub loop-p-preserved : goal.loop-p-preserved
loop-p-preserved c =
    let g = grammar_of c.args.source.now in
    let w = c.args.source.now.kinds.now in
    let p = c.args.places.now in
    let parts : Alternative = c.args.parts.now in
    let part : Symbol = get_or parts c.loop-p.p (Word (Literal 0)) in
    let f = next parts c.loop-p.p (Word (Literal 0)) c.loop-p-test.true in
    record {
      len = c.in_ok-ends-2.ensures.len;
      ends = λ e le. run_next g w p parts (drop c.loop-p.p parts) (drop (c.loop-p.p + 1) parts) part c.args.start e c.loop-p.ends.items c.in_ok-ends-2.ends.items f (c.loop-p.invariant.ends e le)
          (λ v within. subst (λ (l : List ℕ). Has c.in_ok-ends-2.ends.items v ↔ AdvancesFrom g w p part l v) c.deref.ensures.value (c.in_ok-ends-2.ensures.ends v within));
    }

pub returns-clause-ends : goal.returns-clause-ends
returns-clause-ends c e le =
    run_last (grammar_of c.args.source.now) c.args.source.now.kinds.now c.args.places.now c.args.parts.now (drop c.loop-p.p c.args.parts.now) c.args.start e c.loop-p.ends.items le (drop_all c.loop-p.p c.args.parts.now c.loop-p-test.false) (c.loop-p.invariant.ends e le)
