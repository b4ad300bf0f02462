use Rattle.std.proofs.Common.{◌∙◌, List, ℕ, sym, ap, subst}
use Rattle.std.specs.Prelude.{IfErr, IfOk}
use Rattle.action_terms.specs.Labels as plain
use Rattle.equation_expand.specs.Meaning.{Meaning, applied, lexeme_of, named, valued}
use Rattle.equation_expand.specs.PlainSources.{plain_source}
use Rattle.equation_expand.specs.Seen.{IsFilled, IsGapError, node_meaning}
use Rattle.equation_expand.specs.Sources.{PlainSource}
use Rattle.equation_expand.proofs.filled.stands_for.Goals as goal

pub returns-in-ActionTokenOf-clause-filled : goal.returns-in-ActionTokenOf-clause-filled
returns-in-ActionTokenOf-clause-filled c =
    let s : PlainSource = plain_source c.args.source.now in
    let n = c.in-ActionTokenOf.node in
    let node : List ℕ → plain.Label = λ bytes. plain.ActionNode n.kind n.items bytes in
    let is = ap (node_meaning s c.args.equation.now c.args.tree.now) c.in-ActionTokenOf.is
    ∙ ap (λ p. named (lexeme_of p) node) (sym (c.part_for.ensures.part s))
    ∙ ap (λ l. named l node) (sym c.lexeme.ensures) ∙ c.name_of-name.ensures node in
    subst (λ (m : Meaning). IsFilled s m c.action_named.result) (sym is) (c.action_named.ensures.filled s)

pub returns-in-ActionTokenOf-clause-under : goal.returns-in-ActionTokenOf-clause-under
returns-in-ActionTokenOf-clause-under c = c.action_named.ensures.under c.args.tree.now

pub returns-in-YielderTokenOf-clause-filled : goal.returns-in-YielderTokenOf-clause-filled
returns-in-YielderTokenOf-clause-filled c =
    let s : PlainSource = plain_source c.args.source.now in
    let n = c.in-YielderTokenOf.node in
    let node : List ℕ → plain.Label = λ bytes. plain.YielderNode n.kind bytes in
    let is = ap (node_meaning s c.args.equation.now c.args.tree.now) c.in-YielderTokenOf.is
    ∙ ap (λ p. named (lexeme_of p) node) (sym (c.part_for-in-YielderTokenOf.ensures.part s))
    ∙ ap (λ l. named l node) (sym c.lexeme-in-YielderTokenOf.ensures) ∙ c.name_of-name-in-YielderTokenOf.ensures node in
    subst (λ (m : Meaning). IsFilled s m c.yielder_named.result) (sym is) (c.yielder_named.ensures.filled s)

pub returns-in-YielderTokenOf-clause-under : goal.returns-in-YielderTokenOf-clause-under
returns-in-YielderTokenOf-clause-under c = c.yielder_named.ensures.under c.args.tree.now

pub returns-in-ValueOf-clause-filled : goal.returns-in-ValueOf-clause-filled
returns-in-ValueOf-clause-filled c =
    let s : PlainSource = plain_source c.args.source.now in
    let is = ap (node_meaning s c.args.equation.now c.args.tree.now) c.in-ValueOf.is
    ∙ ap (λ p. valued (lexeme_of p)) (sym (c.part_for-in-ValueOf.ensures.part s)) ∙ ap valued (sym c.lexeme-in-ValueOf.ensures) in
    subst (λ (m : Meaning). IfOk c.value_of.result (IsFilled s m)) (sym is) (c.value_of.ensures.filled s)

pub returns-in-ValueOf-clause-large : goal.returns-in-ValueOf-clause-large
returns-in-ValueOf-clause-large c =
    let s : PlainSource = plain_source c.args.source.now in
    let is = ap (node_meaning s c.args.equation.now c.args.tree.now) c.in-ValueOf.is
    ∙ ap (λ p. valued (lexeme_of p)) (sym (c.part_for-in-ValueOf.ensures.part s)) ∙ ap valued (sym c.lexeme-in-ValueOf.ensures) in
    subst (λ (m : Meaning). IfErr c.value_of.result (IsGapError m)) (sym is) c.value_of.ensures.large

pub returns-in-ValueOf-clause-under : goal.returns-in-ValueOf-clause-under
returns-in-ValueOf-clause-under c = c.value_of.ensures.under c.args.tree.now

pub returns-in-Apply-clause-filled : goal.returns-in-Apply-clause-filled
returns-in-Apply-clause-filled c =
    let s : PlainSource = plain_source c.args.source.now in
    let f = c.in-Apply.function.now in
    let is = ap (node_meaning s c.args.equation.now c.args.tree.now) c.in-Apply.is
    ∙ ap (λ p. applied p f) (sym (c.part_for-in-Apply.ensures.part s)) in
    subst (λ (m : Meaning). IsFilled s m c.meaning_of.result) (sym is) (c.meaning_of.ensures.filled s)
