use Rattle.std.proofs.Common.{◌≡◌, ℕ, ◌+◌, ◌*◌, ◌<◌, ◌≤◌, List, ◌++◌, IfOk, OnOk, Some, map, length, ap, ◌∙◌, arith, subst, sym}
use Rattle.std.specs.Borrow.{Bor}
use Rattle.std.specs.Prelude.{slice_index}
use Rattle.rv_code.specs.Encode.{encode}
use Rattle.rv_asm.specs.Arrivals.{LabelsStand}
use Rattle.rv_asm.specs.Assembly.{code_of, total}
use Rattle.std.proofs.lemmas.List.{length-map}
use Rattle.action_terms.specs.Actions.{Action}
use Rattle.action_terms.specs.Nodes.{listed_node}
use Rattle.action_terms.specs.Meaning.{action_of}
use Rattle.rv_prelude.specs.Items.{entries_from, prelude_items}
use Rattle.rv_codegen.specs.Aliases.{list_at, lists_of}
use Rattle.rv_codegen.specs.Blocks.{action_items, blocks_from, ending, exits_of, start_label, table_words}
use Rattle.rv_codegen.specs.ItemCode.{AreReached}
use Rattle.rv_codegen.specs.Measures.{node_count}
use Rattle.rv_codegen.proofs.Emitting.{OnOk-always, whole-code}
use Rattle.rv_codegen.proofs.ExitLaws.{exits-made}
use Rattle.rv_codegen.proofs.GraphNodes.{length-action_of, tree-of-graph}
use Rattle.rv_codegen.proofs.Generated.{count-few}
use Rattle.sort_rules.proofs.YielderCounts.{node-few}
use Rattle.rv_codegen.proofs.generation.assemble.Goals as goal

-- the code by tables that are read
tables-named : (a : Action) (gs gs' os os' es es' : List (Bor (List ℕ))) (ks ks' fs fs' xs xs' : List ℕ) → gs ≡ gs' → os ≡ os' → es ≡ es' → ks ≡ ks' → fs ≡ fs' → xs ≡ xs'
    → blocks_from (table_words (lists_of gs) (lists_of os) (lists_of es) ks fs) 0 xs a ++ ending (length a) ≡ blocks_from (table_words (lists_of gs') (lists_of os') (lists_of es') ks' fs') 0 xs' a ++ ending (length a)
tables-named a gs gs' os os' es es' ks ks' fs fs' xs xs' e f g h i j =
    ap (λ ys. blocks_from (table_words (lists_of ys) (lists_of os) (lists_of es) ks fs) 0 xs a ++ ending (length a)) e
    ∙ ap (λ ys. blocks_from (table_words (lists_of gs') (lists_of ys) (lists_of es) ks fs) 0 xs a ++ ending (length a)) f
    ∙ ap (λ ys. blocks_from (table_words (lists_of gs') (lists_of os') (lists_of ys) ks fs) 0 xs a ++ ending (length a)) g
    ∙ ap (λ ys. blocks_from (table_words (lists_of gs') (lists_of os') (lists_of es') ys fs) 0 xs a ++ ending (length a)) h
    ∙ ap (λ ys. blocks_from (table_words (lists_of gs') (lists_of os') (lists_of es') ks' ys) 0 xs a ++ ending (length a)) i
    ∙ ap (λ ys. blocks_from (table_words (lists_of gs') (lists_of os') (lists_of es') ks' fs') 0 ys a ++ ending (length a)) j

pub returns-clause-words : goal.returns-clause-words
returns-clause-words c =
    let graph = c.args.graph.now in
    let a = action_of graph in
    let tables = c.args.tables.now in
    let ws = table_words (lists_of tables.given.items) (lists_of tables.out.items) (lists_of tables.escaped.items) tables.keeps.items tables.frames.items in
    let stack = c.args.capacity.stack in
    let units = c.args.capacity.units in
    let exits : c.deref-8.result.now ≡ exits_of a = ap (λ xs. xs) c.deref-8.ensures.value ∙ c.in_ok-exits.ensures.exits in
    let named = tables-named a c.deref-3.result.now tables.given.items c.deref-4.result.now tables.out.items c.deref-5.result.now tables.escaped.items c.deref-6.result.now tables.keeps.items c.deref-7.result.now tables.frames.items c.deref-8.result.now (exits_of a) c.deref-3.ensures.value c.deref-4.ensures.value c.deref-5.ensures.value c.deref-6.ensures.value c.deref-7.ensures.value exits in
    let whole : c.append_action.new.asm.items ≡ action_items ws stack units a = whole-code (prelude_items (entries_from 0) stack units) c.append_prelude.new.asm c.make_labels.new.asm c.append_action.new.asm start_label _ _ (ap (λ z. z.items) c.in_ok-entries.ensures.asm) (ap (λ z. z.items) c.in_ok-row.ensures.asm) c.in_ok-append_action.ensures.items named in
    subst (λ items. IfOk c.finish.result (λ code. map Some code.words.items ≡ map encode (code_of items))) whole c.finish.ensures.words

pub returns-clause-labels : goal.returns-clause-labels
returns-clause-labels c =
    let graph = c.args.graph.now in
    let a = action_of graph in
    let tables = c.args.tables.now in
    let ws = table_words (lists_of tables.given.items) (lists_of tables.out.items) (lists_of tables.escaped.items) tables.keeps.items tables.frames.items in
    let stack = c.args.capacity.stack in
    let units = c.args.capacity.units in
    let exits : c.deref-8.result.now ≡ exits_of a = ap (λ xs. xs) c.deref-8.ensures.value ∙ c.in_ok-exits.ensures.exits in
    let named = tables-named a c.deref-3.result.now tables.given.items c.deref-4.result.now tables.out.items c.deref-5.result.now tables.escaped.items c.deref-6.result.now tables.keeps.items c.deref-7.result.now tables.frames.items c.deref-8.result.now (exits_of a) c.deref-3.ensures.value c.deref-4.ensures.value c.deref-5.ensures.value c.deref-6.ensures.value c.deref-7.ensures.value exits in
    let whole : c.append_action.new.asm.items ≡ action_items ws stack units a = whole-code (prelude_items (entries_from 0) stack units) c.append_prelude.new.asm c.make_labels.new.asm c.append_action.new.asm start_label _ _ (ap (λ z. z.items) c.in_ok-entries.ensures.asm) (ap (λ z. z.items) c.in_ok-row.ensures.asm) c.in_ok-append_action.ensures.items named in
    subst (λ items. OnOk c.finish.result (LabelsStand items)) whole c.finish.ensures.labels

pub returns-clause-short : goal.returns-clause-short
returns-clause-short c =
    let graph = c.args.graph.now in
    let a = action_of graph in
    let tables = c.args.tables.now in
    let ws = table_words (lists_of tables.given.items) (lists_of tables.out.items) (lists_of tables.escaped.items) tables.keeps.items tables.frames.items in
    let stack = c.args.capacity.stack in
    let units = c.args.capacity.units in
    let exits : c.deref-8.result.now ≡ exits_of a = ap (λ xs. xs) c.deref-8.ensures.value ∙ c.in_ok-exits.ensures.exits in
    let named = tables-named a c.deref-3.result.now tables.given.items c.deref-4.result.now tables.out.items c.deref-5.result.now tables.escaped.items c.deref-6.result.now tables.keeps.items c.deref-7.result.now tables.frames.items c.deref-8.result.now (exits_of a) c.deref-3.ensures.value c.deref-4.ensures.value c.deref-5.ensures.value c.deref-6.ensures.value c.deref-7.ensures.value exits in
    let whole : c.append_action.new.asm.items ≡ action_items ws stack units a = whole-code (prelude_items (entries_from 0) stack units) c.append_prelude.new.asm c.make_labels.new.asm c.append_action.new.asm start_label _ _ (ap (λ z. z.items) c.in_ok-entries.ensures.asm) (ap (λ z. z.items) c.in_ok-row.ensures.asm) c.in_ok-append_action.ensures.items named in
    let many : total c.make_labels.new.asm.items ≤ 4096 = omega (arith, c.in_ok-entries.ensures.short, ap (λ z. total z.items) c.in_ok-row.ensures.asm) in
    let short : total c.append_action.new.asm.items ≤ 4100 + 530 * node_count (action_of c.args.graph.now) = omega (arith, c.in_ok-append_action.ensures.short, many) in
    OnOk-always _ c.finish.result (subst (λ items. total items ≤ 4100 + 530 * node_count a) whole short)

pub invariant_of-plan-clause-made : goal.invariant_of-plan-clause-made
invariant_of-plan-clause-made c =
    let graph = c.args.graph.now in
    exits-made (action_of graph) (tree-of-graph graph c.nodes-count.ensures.of_an_action) c.deref-8.result.now _ (ap (λ xs. xs) c.deref-8.ensures.value ∙ c.in_ok-exits.ensures.exits) (omega (arith, c.in_ok-row.ensures.len, c.deref.ensures.len, length-map c.nodes-count.result.now listed_node, ap length c.nodes-count.ensures.nodes, length-action_of graph))

pub invariant_of-plan-clause-few : goal.invariant_of-plan-clause-few
invariant_of-plan-clause-few c = node-few c.args.graph.now c.nodes-count.ensures.of_an_action

pub finish-requires : goal.finish-requires
finish-requires c =
    let many : total c.make_labels.new.asm.items ≤ 4096 = omega (arith, c.in_ok-entries.ensures.short, ap (λ z. total z.items) c.in_ok-row.ensures.asm) in
    let short : total c.append_action.new.asm.items ≤ 4100 + 530 * node_count (action_of c.args.graph.now) = omega (arith, c.in_ok-append_action.ensures.short, many) in
    omega (arith, short, count-few c.args.graph.now c.nodes-count.ensures.of_an_action)

pub invariant_of-plan-clause-given_reached : goal.invariant_of-plan-clause-given_reached
invariant_of-plan-clause-given_reached c = λ k. subst (λ (ys : List (Bor (List ℕ))). AreReached (list_at (lists_of ys) k)) (sym c.deref-3.ensures.value) (c.requires.given_reached k)

pub invariant_of-plan-clause-out_reached : goal.invariant_of-plan-clause-out_reached
invariant_of-plan-clause-out_reached c = λ k. subst (λ (ys : List (Bor (List ℕ))). AreReached (list_at (lists_of ys) k)) (sym c.deref-4.ensures.value) (c.requires.out_reached k)

pub invariant_of-plan-clause-keeps_reached : goal.invariant_of-plan-clause-keeps_reached
invariant_of-plan-clause-keeps_reached c = λ k. subst (λ (ks : List ℕ). slice_index ks k < 33554432) (sym c.deref-6.ensures.value) (c.requires.keeps_reached k)

pub invariant_of-plan-clause-escaped_reached : goal.invariant_of-plan-clause-escaped_reached
invariant_of-plan-clause-escaped_reached c = λ k. subst (λ (ys : List (Bor (List ℕ))). AreReached (list_at (lists_of ys) k)) (sym c.deref-5.ensures.value) (c.requires.escaped_reached k)
