use Rattle.std.proofs.Common.{◌≡◌, ◌<◌, ℕ, List, length, true, false, ◌+◌, [], ◌∷◌, arith, drop, sym, ap, subst, ◌∙◌}
use Rattle.source_lex.specs.declared.lexeme.LexKind.{LexKind}
use Rattle.source_lex.specs.declared.numbered.Symbol.TheVariants.{Word, Phrase}
use Rattle.source_lex.specs.Numbered.{Alternative}
use Rattle.chart_parse.specs.Growths.{HasPieces}
use Rattle.tree_pick.specs.Runs.{Cuts}
use Rattle.tree_pick.specs.Walk.{span}
use Rattle.std.proofs.Common.{◌++◌, append_assoc, Bor}
use Rattle.std.proofs.lemmas.List.{drop_all}
use Rattle.gram_form.specs.declared.tree.Tree.{Tree}
use Rattle.std.proofs.lemmas.Option.{slice_get_within}
use Rattle.source_lex.specs.declared.lexeme.LexKind.TheVariants.{Literal}
use Rattle.gram_form.specs.declared.tree.TreePart.{TreePart, Sub, Word as At}
use Rattle.gram_form.specs.Trees.{Lexeme, End, Under}
use Rattle.source_lex.specs.Numbered.{Numbered}
use Rattle.chart_parse.proofs.LeftCorners.{tree_within, pieces_within}
use Rattle.source_lex.specs.Trees.{ArePieces}
use Rattle.tree_pick.proofs.Plain.{all_plain}
use Rattle.tree_pick.proofs.BuiltParts.{word_front, phrase_front, stack_more}
use Rattle.tree_pick.proofs.Looked.{word_has, phrase_has, next, tail}
use Rattle.tree_pick.proofs.building.build_parts.Goals as goal
use Rattle.tree_pick.proofs.building.build_parts.Goals.{in-Word+in_ok-push_part-in-Word, in-Phrase+in_ok-end-in-Phrase+in-Some+in_ok-push_part-in-Some, in-Phrase+in_ok-end-in-Phrase+in-None+in_ok-push_phrase-in-None}

none_left : (g : Numbered) (w : List LexKind) (k l : ℕ) → HasPieces g w [] k l → k ≡ l
none_left g w k l (End, x) = x.1
none_left g w k l (Lexeme p ps, x) = absurd (let e = x.3 in cc)
none_left g w k l (Under t ps, x) = absurd (let e = x.3 in cc)

pub overflow_add-at : goal.overflow_add-at
overflow_add-at c =
    let w = c.args.parse.now.kinds in
    let e = next c.args.parts.now c.loop-p.p (Word (Literal 0)) (Word c.in-Word.field-0) c.loop-p-test.true c.in-Word.is in
    let has = rw e at c.loop-p.invariant.has in
    let here = (word_has (c.args.parse.now.grammar) w c.in-Word.field-0 (drop (c.loop-p.p + 1) c.args.parts.now) c.loop-p.at c.args.end has).0 in
    let lt : c.loop-p.at < length w = slice_get_within w c.loop-p.at c.in-Word.field-0 here in
    let short : length w < 4294967296 = c.requires.short in
    omega arith

pub cut-requires-clause-some : goal.cut-requires-clause-some
cut-requires-clause-some c =
    let gr = c.args.parse.now.grammar in
    let w = c.args.parse.now.kinds in
    let m : ℕ = c.in-Phrase.nonterm in
    let e = next c.args.parts.now c.loop-p.p (Word (Literal 0)) (Phrase m) c.loop-p-test.true c.in-Phrase.is in
    let has = rw e at c.loop-p.invariant.has in
    let rest : Alternative = drop (c.loop-p.p + 1) c.args.parts.now in
    let h = phrase_has gr w m rest c.loop-p.at c.args.end has in
    subst (λ (r : Alternative). (x : ℕ) × Cuts gr w m r c.loop-p.at c.args.end x) (sym (tail c.args.parts.now c.loop-p.p)) h

pub cut-requires-clause-places : goal.cut-requires-clause-places
cut-requires-clause-places c = (c.loop-p.invariant.within, pieces_within c.args.parse.now.grammar c.args.parse.now.kinds c.args.parts.now c.args.start c.args.end c.requires.has.0 c.requires.within c.requires.has.1)

pub loop-p-preserved : goal.loop-p-preserved
loop-p-preserved c =
    let gr = c.args.parse.now.grammar in
    let w = c.args.parse.now.kinds in
    let parts : Alternative = c.args.parts.now in
    let rest : Alternative = drop (c.loop-p.p + 1) c.args.parts.now in
    let old : List TreePart = c.args.list.now.items in
    elim c.match-parts-p.branch [
      | in-Word+in_ok-push_part-in-Word w1 ↦
          let k : LexKind = w1.in-Word.field-0 in
          let e = next c.args.parts.now c.loop-p.p (Word (Literal 0)) (Word k) c.loop-p-test.true w1.in-Word.is in
          let x = word_has gr w k rest c.loop-p.at c.args.end (rw e at c.loop-p.invariant.has) in
          rw w1.at-is (rw w1.stack-is (rw w1.list-is (rw w1.whole-is (record {
            has = x.1;
            within = omega (arith, slice_get_within w c.loop-p.at k x.0);
            stack = c.loop-p.invariant.stack;
            whole = λ yes. let h = c.loop-p.invariant.whole yes in (
              h.0 ++ At c.loop-p.at ∷ [],
              w1.in_ok-push_part-in-Word.ensures ∙ ap (λ (l : List TreePart). l ++ At c.loop-p.at ∷ []) h.1 ∙ append_assoc old h.0 (At c.loop-p.at ∷ []),
              word_front gr w parts c.args.start c.args.end k rest (drop c.loop-p.p parts) c.loop-p.at h.0 e x.0 h.2,
            );
          }))))
      | in-Phrase+in_ok-end-in-Phrase+in-Some+in_ok-push_part-in-Some w1 ↦
          let m : ℕ = w1.in-Phrase.nonterm in
          let e = next c.args.parts.now c.loop-p.p (Word (Literal 0)) (Phrase m) c.loop-p-test.true w1.in-Phrase.is in
          let h : ℕ = w1.in_ok-end-in-Phrase.field-0.first in
          let cut = subst (λ (r : Alternative). Cuts gr w m r c.loop-p.at c.args.end h) (tail parts c.loop-p.p) w1.in_ok-end-in-Phrase.ensures.0 in
          let tree : Bor Tree = w1.in-Some.tree.now in
          let is = c.requires.built (span m c.loop-p.at h) tree (sym w1.in-Some.ensures.value) in
          rw w1.at-is (rw w1.stack-is (rw w1.list-is (rw w1.whole-is (record {
            has = cut.1;
            within = tree_within gr w m c.loop-p.at h cut.0.0 c.loop-p.invariant.within cut.0.1;
            stack = c.loop-p.invariant.stack;
            whole = λ yes. let q = c.loop-p.invariant.whole yes in (
              q.0 ++ Sub tree ∷ [],
              w1.in_ok-push_part-in-Some.ensures ∙ ap (λ (l : List TreePart). l ++ Sub tree ∷ []) q.1 ∙ append_assoc old q.0 (Sub tree ∷ []),
              phrase_front gr w parts c.args.start c.args.end m rest (drop c.loop-p.p parts) c.loop-p.at h q.0 tree e is q.2,
            );
          }))))
      | in-Phrase+in_ok-end-in-Phrase+in-None+in_ok-push_phrase-in-None w1 ↦
          let m : ℕ = w1.in-Phrase.nonterm in
          let e = next c.args.parts.now c.loop-p.p (Word (Literal 0)) (Phrase m) c.loop-p-test.true w1.in-Phrase.is in
          let h : ℕ = w1.in_ok-end-in-Phrase.field-0.first in
          let cut = subst (λ (r : Alternative). Cuts gr w m r c.loop-p.at c.args.end h) (tail parts c.loop-p.p) w1.in_ok-end-in-Phrase.ensures.0 in
          rw w1.at-is (rw w1.stack-is (rw w1.list-is (rw w1.whole-is (record {
            has = cut.1;
            within = tree_within gr w m c.loop-p.at h cut.0.0 c.loop-p.invariant.within cut.0.1;
            stack = stack_more gr w c.loop-p.stack.items w1.push_phrase.new.stack.items (span m c.loop-p.at h) w1.in_ok-push_phrase-in-None.ensures c.loop-p.invariant.stack cut.0 c.loop-p.invariant.within;
            whole = λ yes. absurd (let n : false ≡ true = yes in cc);
          }))))
    ]

pub returns-clause-whole : goal.returns-clause-whole
returns-clause-whole c = λ yes.
    let gr = c.args.parse.now.grammar in
    let w = c.args.parse.now.kinds in
    let parts : Alternative = c.args.parts.now in
    let h = c.loop-p.invariant.whole yes in
    let e : drop c.loop-p.p parts ≡ [] = drop_all c.loop-p.p parts c.loop-p-test.false in
    let at = none_left gr w c.loop-p.at c.args.end (rw e at c.loop-p.invariant.has) in
    (h.0, h.1, subst (ArePieces gr w parts c.args.start c.args.end) (all_plain h.0) (h.2 End (e, at)))
