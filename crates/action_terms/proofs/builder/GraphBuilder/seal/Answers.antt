use Rattle.std.proofs.Common.{◌≡◌, ◌≤◌, ◌∙◌, List, [], ◌∷◌, length, map, sym, ap, subst}
use Rattle.std.specs.Prelude.{None, slice_get, Result, Ok, Err, IsErrAnd, IsErrOf}
use Rattle.std.proofs.lemmas.List.Elements.{All-same}
use Rattle.action_terms.specs.Labels.{Label}
use Rattle.action_terms.specs.Numbering.{Listed, KindFits, IsGraphOf}
use Rattle.action_terms.specs.Nodes.{listed_node, listed_yielder}
use Rattle.action_terms.specs.Pushed.{label_of}
use Rattle.action_terms.specs.Entries.{entry_of, entries, strays_in, nodes_in, yielders_in}
use Rattle.action_terms.specs.declared.graph.GraphError.{GraphError}
use Rattle.action_terms.specs.declared.graph.GraphError.TheVariants.{StrayUnfold}
use Rattle.action_terms.proofs.TreeStrays.{strays_in-action}
use Rattle.action_terms.proofs.SealLemmas.{graph-linked, is_graph-linked}
use Rattle.action_terms.proofs.builder.GraphBuilder.seal.Goals as goal

-- an error that is passed on is the same error
same_error : {S T : Type 0} (r : Result T GraphError) (e f : GraphError) → IsErrAnd r (λ x. x ≡ f) → IsErrOf r e → IsErrOf {T = S} (Err f) e
same_error (Ok x) e f h g = elim h [ ]
same_error (Err x) e f h g = let is : x ≡ e = cc in cc

pub returns-in_err-entered-clause-stray : goal.returns-in_err-entered-clause-stray
returns-in_err-entered-clause-stray c node is t action pushed =
    let labels = ap (map label_of) c.as_slice.ensures.value ∙ c.self.view_is in
    let error = same_error c.from_residual.result (StrayUnfold node) c.in_err-entered.field-0.0 c.from_residual.ensures.1 is in
    ap (λ l. slice_get l 0) (sym (strays_in-action t action) ∙ ap (strays_in (None ∷ []) 0) (pushed ∙ sym labels)) ∙ c.in_err-entered.ensures.stray node error

pub of_lists-requires-clause-numbers : goal.of_lists-requires-clause-numbers
of_lists-requires-clause-numbers c =
    All-same (λ y. KindFits y.kind) _ _ (ap (map listed_yielder) c.in_ok-nodes.ensures.yielders) c.in_ok-linker.ensures.numbers

pub of_lists-requires-clause-of_an_action : goal.of_lists-requires-clause-of_an_action
of_lists-requires-clause-of_an_action c =
    let P : List Label → Type 0 = λ l. length l ≤ 65536 in
    let labels = ap (map label_of) c.as_slice.ensures.value ∙ c.self.view_is in
    let listed = ap (map entry_of) c.as_slice-2.ensures.value ∙ c.in_ok-entered.ensures.entered ∙ ap (entries (None ∷ []) 0 0) labels in
    is_graph-linked c.args.self (map listed_node c.in_ok-nodes.nodes.now) (map listed_yielder c.in_ok-nodes.yielders.now)
    (subst P c.self.view_is c.self.invariant.few)
    (sym (ap (strays_in (None ∷ []) 0) labels) ∙ c.in_ok-entered.ensures.none_stray)
    (ap (map listed_node) c.in_ok-nodes.ensures.nodes ∙ c.in_ok-linker.ensures.nodes ∙ ap nodes_in listed)
    (ap (map listed_yielder) c.in_ok-nodes.ensures.yielders ∙ c.in_ok-linker.ensures.yielders ∙ ap yielders_in listed)
    c.requires

pub returns-clause-graph : goal.returns-clause-graph
returns-clause-graph c t action pushed =
    let P : List Label → Type 0 = λ l. length l ≤ 65536 in
    let Q : Listed → Type 0 = λ g. IsGraphOf g t in
    let labels = ap (map label_of) c.as_slice.ensures.value ∙ c.self.view_is in
    let listed = ap (map entry_of) c.as_slice-2.ensures.value ∙ c.in_ok-entered.ensures.entered ∙ ap (entries (None ∷ []) 0 0) labels in
    subst Q (sym c.of_lists.ensures) (graph-linked c.args.self (map listed_node c.in_ok-nodes.nodes.now) (map listed_yielder c.in_ok-nodes.yielders.now)
    (subst P c.self.view_is c.self.invariant.few)
    (sym (ap (strays_in (None ∷ []) 0) labels) ∙ c.in_ok-entered.ensures.none_stray)
    (ap (map listed_node) c.in_ok-nodes.ensures.nodes ∙ c.in_ok-linker.ensures.nodes ∙ ap nodes_in listed)
    (ap (map listed_yielder) c.in_ok-nodes.ensures.yielders ∙ c.in_ok-linker.ensures.yielders ∙ ap yielders_in listed)
    t action pushed)
