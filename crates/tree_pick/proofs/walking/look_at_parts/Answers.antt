use Rattle.std.proofs.Common.{◌<◌, ℕ, length, ◌+◌, arith, drop, sym, subst}
use Rattle.std.proofs.lemmas.Option.{slice_get_within}
use Rattle.source_lex.specs.declared.lexeme.LexKind.TheVariants.{Literal}
use Rattle.tree_pick.specs.declared.phrases.Choice.{Choice}
use Rattle.source_lex.specs.declared.numbered.Symbol.TheVariants.{Word, Phrase}
use Rattle.source_lex.specs.Numbered.{Alternative}
use Rattle.tree_pick.specs.Runs.{Cuts}
use Rattle.tree_pick.specs.Spines.{Read, First, Rest}
use Rattle.tree_pick.specs.Choices.{IsChoice}
use Rattle.tree_pick.specs.Walk.{span}
use Rattle.chart_parse.proofs.LeftCorners.{tree_within, pieces_within}
use Rattle.tree_pick.proofs.Longer.{longer_kept, longer_more}
use Rattle.tree_pick.proofs.Looked.{word_has, phrase_has, two_cuts, added_reached, next, tail, phrase_worked, not_true, not_false}
use Rattle.tree_pick.proofs.walking.look_at_parts.Goals as goal
use Rattle.tree_pick.proofs.walking.look_at_parts.Goals.{in-Word, in-Phrase+in_ok-cut-in-Phrase+else-not-cut+in_ok-add-in-Phrase}

pub overflow_add-at : goal.overflow_add-at
overflow_add-at c =
    let w = c.args.parse.now.kinds in
    let e = next c.args.parts.now c.loop-p.p (Word (Literal 0)) (Word c.in-Word.field-0) c.loop-p-test.true c.in-Word.is in
    let has = rw e at c.loop-p.invariant.has in
    let here = (word_has (c.args.parse.now.grammar) w c.in-Word.field-0 (drop (c.loop-p.p + 1) c.args.parts.now) c.loop-p.at c.args.end has).0 in
    let lt : c.loop-p.at < length w = slice_get_within w c.loop-p.at c.in-Word.field-0 here in
    let short : length w < 4294967296 = c.requires.short in
    omega arith

pub cut-requires-clause-some : goal.cut-requires-clause-some
cut-requires-clause-some c =
    let gr = c.args.parse.now.grammar in
    let w = c.args.parse.now.kinds in
    let m : ℕ = c.in-Phrase.nonterm in
    let e = next c.args.parts.now c.loop-p.p (Word (Literal 0)) (Phrase m) c.loop-p-test.true c.in-Phrase.is in
    let has = rw e at c.loop-p.invariant.has in
    let rest : Alternative = drop (c.loop-p.p + 1) c.args.parts.now in
    let h = phrase_has gr w m rest c.loop-p.at c.args.end has in
    subst (λ (r : Alternative). (x : ℕ) × Cuts gr w m r c.loop-p.at c.args.end x) (sym (tail c.args.parts.now c.loop-p.p)) h

pub cut-requires-clause-places : goal.cut-requires-clause-places
cut-requires-clause-places c = (c.loop-p.invariant.within, pieces_within c.args.parse.now.grammar c.args.parse.now.kinds c.args.parts.now c.args.start c.args.end c.requires.has.0 c.requires.within c.requires.has.1)

pub returns-then-not-cut-clause-two : goal.returns-then-not-cut-clause-two
returns-then-not-cut-clause-two c = λ _.
    let gr = c.args.parse.now.grammar in
    let w = c.args.parse.now.kinds in
    let m : ℕ = c.in-Phrase.nonterm in
    let e = next c.args.parts.now c.loop-p.p (Word (Literal 0)) (Phrase m) c.loop-p-test.true c.in-Phrase.is in
    let rest : Alternative = drop (c.loop-p.p + 1) c.args.parts.now in
    let h = subst (λ (r : Alternative). IsChoice (Cuts gr w m r c.loop-p.at c.args.end) c.in_ok-cut-in-Phrase.cut) (tail c.args.parts.now c.loop-p.p) c.in_ok-cut-in-Phrase.ensures in
    two_cuts gr w m rest c.loop-p.at c.args.end c.in_ok-cut-in-Phrase.cut h (not_true c.in_ok-cut-in-Phrase.cut.only c.if-not-cut.true) (rw e at c.loop-p.invariant.at)

pub loop-p-preserved : goal.loop-p-preserved
loop-p-preserved c =
    let gr = c.args.parse.now.grammar in
    let w = c.args.parse.now.kinds in
    let rest : Alternative = drop (c.loop-p.p + 1) c.args.parts.now in
    elim c.match-parts-p.branch [
      | in-Word w1 ↦
          let e = next c.args.parts.now c.loop-p.p (Word (Literal 0)) (Word w1.in-Word.field-0) c.loop-p-test.true w1.in-Word.is in
          let x = word_has gr w w1.in-Word.field-0 rest c.loop-p.at c.args.end (rw e at c.loop-p.invariant.has) in
          rw w1.seen-is (rw w1.at-is (record {
            at = Read w1.in-Word.field-0 rest (rw e at c.loop-p.invariant.at) x.0;
            has = x.1;
            within = omega (arith, slice_get_within w c.loop-p.at w1.in-Word.field-0 x.0);
            reached = c.loop-p.invariant.reached;
            longer = c.loop-p.invariant.longer;
            worked = λ T kept more. c.loop-p.invariant.worked T kept (rw e more);
          }))
      | in-Phrase+in_ok-cut-in-Phrase+else-not-cut+in_ok-add-in-Phrase w1 ↦
          let m : ℕ = w1.in-Phrase.nonterm in
          let cut : Choice ℕ = w1.in_ok-cut-in-Phrase.cut in
          let e = next c.args.parts.now c.loop-p.p (Word (Literal 0)) (Phrase m) c.loop-p-test.true w1.in-Phrase.is in
          let h = subst (λ (r : Alternative). IsChoice (Cuts gr w m r c.loop-p.at c.args.end) cut) (tail c.args.parts.now c.loop-p.p) w1.in_ok-cut-in-Phrase.ensures in
          let at = rw e at c.loop-p.invariant.at in
          rw w1.seen-is (rw w1.at-is (record {
            at = Rest m rest cut.first at h.0.0;
            has = h.0.1;
            within = tree_within gr w m c.loop-p.at cut.first h.0.0.0 c.loop-p.invariant.within h.0.0.1;
            reached = added_reached gr w c.loop-p.seen.keys w1.add.new.seen.keys (span m c.loop-p.at cut.first) c.loop-p.invariant.reached (record { at = First m rest cut.first at h.0.1; has = h.0.0; within = c.loop-p.invariant.within }) w1.in_ok-add-in-Phrase.ensures.only;
            longer = longer_more c.args.seen.now.keys c.loop-p.seen.keys w1.add.new.seen.keys c.loop-p.invariant.longer w1.in_ok-add-in-Phrase.ensures.longer;
            worked = λ T kept more. c.loop-p.invariant.worked T (λ x y. kept x (longer_kept c.loop-p.seen.keys w1.add.new.seen.keys w1.in_ok-add-in-Phrase.ensures.longer x y)) (rw e (phrase_worked gr w T m rest c.loop-p.at c.args.end cut h (not_false cut.only w1.if-not-cut.false) (kept _ w1.in_ok-add-in-Phrase.ensures.there) more));
          }))
    ]
