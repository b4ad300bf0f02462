use Rattle.std.proofs.Common.{◌≡◌, ℕ, ◌+◌, ◌*◌, ◌<◌, ◌≤◌, List, IfOk, OnOk, Some, length, map, replicate, refl, sym, ap, subst, ◌∙◌, arith}
use Rattle.std.proofs.lemmas.List.{length-map, length-replicate}
use Rattle.std.specs.Prelude.{slice_index}
use Rattle.rv_code.specs.Encode.{encode}
use Rattle.rv_asm.specs.Arrivals.{LabelsStand}
use Rattle.rv_asm.specs.Assembly.{code_of, total}
use Rattle.rv_asm.specs.declared.item.Item.{Item}
use Rattle.action_terms.specs.Meaning.{action_of}
use Rattle.sort_rules.proofs.NodeWalks.{length-nodes}
use Rattle.frame_layout.specs.Places.{PlacedNode, frames_of, placed_node}
use Rattle.frame_layout.proofs.GraphParts.{trees-of_graph}
use Rattle.rv_codegen.specs.Aliases.{nowhere, put_frame_words, put_frames}
use Rattle.rv_codegen.specs.Measures.{node_count}
use Rattle.rv_codegen.proofs.Framed.{AreTables, escaped-table, given-table, keeps-table, out-table, tables-framed}
use Rattle.rv_codegen.proofs.FrameWords.{frame-words}
use Rattle.rv_codegen.proofs.GraphNodes.{length-action_of}
use Rattle.rv_codegen.proofs.CalledBodies.{names-of-graph}
use Rattle.rv_codegen.proofs.PuttingPlaces.{length-put_frames, node-within, put-by_number}
use Rattle.rv_codegen.proofs.generation.assemble_framed.Goals as goal

pub places_by_number-requires : goal.places_by_number-requires
places_by_number-requires c = λ f n x m.
    let g = c.args.graph.now in
    omega (arith, node-within (action_of g) c.requires.table.0 (frames_of c.args.layout.now) c.requires.table.2 f n x m, length-nodes g c.nodes-count.result.now c.nodes-count.ensures.nodes)

pub data_tables-requires-clause-places : goal.data_tables-requires-clause-places
data_tables-requires-clause-places c =
    let g = c.args.graph.now in
    let fs = frames_of c.args.layout.now in
    let same : map placed_node c.deref.result.now ≡ put_frames fs (replicate (length c.nodes-count.result.now) nowhere) = ap (map placed_node) c.deref.ensures.value ∙ c.in_ok-places.ensures in
    let long = length-put_frames fs (replicate (length c.nodes-count.result.now) nowhere) in
    omega (arith, length-map c.deref.result.now placed_node, ap length same, long, length-replicate (length c.nodes-count.result.now) nowhere, length-nodes g c.nodes-count.result.now c.nodes-count.ensures.nodes, length-action_of g)

pub data_tables-requires-clause-nodes : goal.data_tables-requires-clause-nodes
data_tables-requires-clause-nodes c = λ f n x m.
    let g = c.args.graph.now in
    omega (arith, node-within (action_of g) c.requires.table.0 (frames_of c.args.layout.now) c.requires.table.2 f n x m, length-action_of g)

pub assemble-requires-clause-given_reached : goal.assemble-requires-clause-given_reached
assemble-requires-clause-given_reached c =
    let g = c.args.graph.now in
    let a = action_of g in
    let fs = frames_of c.args.layout.now in
    let count = length-nodes g c.nodes-count.result.now c.nodes-count.ensures.nodes in
    let same : map placed_node c.deref.result.now ≡ put_frames fs (replicate (length a) nowhere) = ap (map placed_node) c.deref.ensures.value ∙ c.in_ok-places.ensures ∙ ap (λ (n : ℕ). put_frames fs (replicate n nowhere)) count in
    let tables = c.in_ok-tables.tables in
    let made : AreTables a (map placed_node c.deref.result.now) tables.given.items tables.out.items tables.escaped.items tables.keeps.items =
    record { given_at = λ k less. c.in_ok-tables.ensures.given k (omega (arith, less, length-action_of g)); out_at = λ k less. c.in_ok-tables.ensures.out k (omega (arith, less, length-action_of g)); escaped_are = c.in_ok-tables.ensures.escaped; keeps_are = c.in_ok-tables.ensures.keeps } in
    let are = subst (λ (ns : List PlacedNode). AreTables a ns tables.given.items tables.out.items tables.escaped.items tables.keeps.items) same made in
    given-table a (trees-of_graph g c.nodes-count.ensures.of_an_action) c.requires.table.0 c.requires.table.1 fs c.requires.table.2 c.requires.table.2.apart tables.given.items tables.out.items tables.escaped.items tables.keeps.items are (omega (arith, c.in_ok-tables.ensures.given_count, length-action_of g))

pub assemble-requires-clause-out_reached : goal.assemble-requires-clause-out_reached
assemble-requires-clause-out_reached c =
    let g = c.args.graph.now in
    let a = action_of g in
    let fs = frames_of c.args.layout.now in
    let count = length-nodes g c.nodes-count.result.now c.nodes-count.ensures.nodes in
    let same : map placed_node c.deref.result.now ≡ put_frames fs (replicate (length a) nowhere) = ap (map placed_node) c.deref.ensures.value ∙ c.in_ok-places.ensures ∙ ap (λ (n : ℕ). put_frames fs (replicate n nowhere)) count in
    let tables = c.in_ok-tables.tables in
    let made : AreTables a (map placed_node c.deref.result.now) tables.given.items tables.out.items tables.escaped.items tables.keeps.items =
    record { given_at = λ k less. c.in_ok-tables.ensures.given k (omega (arith, less, length-action_of g)); out_at = λ k less. c.in_ok-tables.ensures.out k (omega (arith, less, length-action_of g)); escaped_are = c.in_ok-tables.ensures.escaped; keeps_are = c.in_ok-tables.ensures.keeps } in
    let are = subst (λ (ns : List PlacedNode). AreTables a ns tables.given.items tables.out.items tables.escaped.items tables.keeps.items) same made in
    out-table a (trees-of_graph g c.nodes-count.ensures.of_an_action) c.requires.table.0 c.requires.table.1 fs c.requires.table.2 c.requires.table.2.apart tables.given.items tables.out.items tables.escaped.items tables.keeps.items are (omega (arith, c.in_ok-tables.ensures.out_count, length-action_of g))

pub assemble-requires-clause-escaped_reached : goal.assemble-requires-clause-escaped_reached
assemble-requires-clause-escaped_reached c =
    let g = c.args.graph.now in
    let a = action_of g in
    let fs = frames_of c.args.layout.now in
    let count = length-nodes g c.nodes-count.result.now c.nodes-count.ensures.nodes in
    let same : map placed_node c.deref.result.now ≡ put_frames fs (replicate (length a) nowhere) = ap (map placed_node) c.deref.ensures.value ∙ c.in_ok-places.ensures ∙ ap (λ (n : ℕ). put_frames fs (replicate n nowhere)) count in
    let tables = c.in_ok-tables.tables in
    let made : AreTables a (map placed_node c.deref.result.now) tables.given.items tables.out.items tables.escaped.items tables.keeps.items =
    record { given_at = λ k less. c.in_ok-tables.ensures.given k (omega (arith, less, length-action_of g)); out_at = λ k less. c.in_ok-tables.ensures.out k (omega (arith, less, length-action_of g)); escaped_are = c.in_ok-tables.ensures.escaped; keeps_are = c.in_ok-tables.ensures.keeps } in
    let are = subst (λ (ns : List PlacedNode). AreTables a ns tables.given.items tables.out.items tables.escaped.items tables.keeps.items) same made in
    escaped-table a (trees-of_graph g c.nodes-count.ensures.of_an_action) c.requires.table.0 c.requires.table.1 fs c.requires.table.2 c.requires.table.2.apart tables.given.items tables.out.items tables.escaped.items tables.keeps.items are (omega (arith, c.in_ok-tables.ensures.escaped_count, length-action_of g))

pub assemble-requires-clause-keeps_reached : goal.assemble-requires-clause-keeps_reached
assemble-requires-clause-keeps_reached c =
    let g = c.args.graph.now in
    let a = action_of g in
    let fs = frames_of c.args.layout.now in
    let count = length-nodes g c.nodes-count.result.now c.nodes-count.ensures.nodes in
    let same : map placed_node c.deref.result.now ≡ put_frames fs (replicate (length a) nowhere) = ap (map placed_node) c.deref.ensures.value ∙ c.in_ok-places.ensures ∙ ap (λ (n : ℕ). put_frames fs (replicate n nowhere)) count in
    let tables = c.in_ok-tables.tables in
    let made : AreTables a (map placed_node c.deref.result.now) tables.given.items tables.out.items tables.escaped.items tables.keeps.items =
    record { given_at = λ k less. c.in_ok-tables.ensures.given k (omega (arith, less, length-action_of g)); out_at = λ k less. c.in_ok-tables.ensures.out k (omega (arith, less, length-action_of g)); escaped_are = c.in_ok-tables.ensures.escaped; keeps_are = c.in_ok-tables.ensures.keeps } in
    let are = subst (λ (ns : List PlacedNode). AreTables a ns tables.given.items tables.out.items tables.escaped.items tables.keeps.items) same made in
    keeps-table a (trees-of_graph g c.nodes-count.ensures.of_an_action) c.requires.table.0 c.requires.table.1 fs c.requires.table.2 c.requires.table.2.apart tables.given.items tables.out.items tables.escaped.items tables.keeps.items are

pub returns-clause-words : goal.returns-clause-words
returns-clause-words c =
    let g = c.args.graph.now in
    let a = action_of g in
    let fs = frames_of c.args.layout.now in
    let count = length-nodes g c.nodes-count.result.now c.nodes-count.ensures.nodes in
    let same : map placed_node c.deref.result.now ≡ put_frames fs (replicate (length a) nowhere) = ap (map placed_node) c.deref.ensures.value ∙ c.in_ok-places.ensures ∙ ap (λ (n : ℕ). put_frames fs (replicate n nowhere)) count in
    let tables = c.in_ok-tables.tables in
    let made : AreTables a (map placed_node c.deref.result.now) tables.given.items tables.out.items tables.escaped.items tables.keeps.items =
    record { given_at = λ k less. c.in_ok-tables.ensures.given k (omega (arith, less, length-action_of g)); out_at = λ k less. c.in_ok-tables.ensures.out k (omega (arith, less, length-action_of g)); escaped_are = c.in_ok-tables.ensures.escaped; keeps_are = c.in_ok-tables.ensures.keeps } in
    let are = subst (λ (ns : List PlacedNode). AreTables a ns tables.given.items tables.out.items tables.escaped.items tables.keeps.items) same made in
    let words = λ (k : ℕ) (less : k < length a). ap (λ (xs : List ℕ). slice_index xs k) (c.in_ok-tables.ensures.frames ∙ ap (λ (n : ℕ). put_frame_words fs (replicate n 0)) (sym (length-action_of g)))
    ∙ frame-words a (trees-of_graph g c.nodes-count.ensures.of_an_action) c.requires.table.0 fs c.requires.table.2 c.requires.table.2.apart (put_frames fs (replicate (length a) nowhere)) (put-by_number a c.requires.table.0 fs c.requires.table.2 (put_frames fs (replicate (length a) nowhere)) (record { start = replicate (length a) nowhere; long = length-replicate (length a) nowhere; are = refl })) k less in
    let framed = tables-framed a (names-of-graph g c.nodes-count.ensures.of_an_action) fs tables.given.items tables.out.items tables.escaped.items tables.keeps.items tables.frames.items are words c.args.capacity.stack c.args.capacity.units in
    subst (λ (items : List Item). IfOk c.assemble.result (λ code. map Some code.words.items ≡ map encode (code_of items))) framed c.assemble.ensures.words

pub returns-clause-labels : goal.returns-clause-labels
returns-clause-labels c =
    let g = c.args.graph.now in
    let a = action_of g in
    let fs = frames_of c.args.layout.now in
    let count = length-nodes g c.nodes-count.result.now c.nodes-count.ensures.nodes in
    let same : map placed_node c.deref.result.now ≡ put_frames fs (replicate (length a) nowhere) = ap (map placed_node) c.deref.ensures.value ∙ c.in_ok-places.ensures ∙ ap (λ (n : ℕ). put_frames fs (replicate n nowhere)) count in
    let tables = c.in_ok-tables.tables in
    let made : AreTables a (map placed_node c.deref.result.now) tables.given.items tables.out.items tables.escaped.items tables.keeps.items =
    record { given_at = λ k less. c.in_ok-tables.ensures.given k (omega (arith, less, length-action_of g)); out_at = λ k less. c.in_ok-tables.ensures.out k (omega (arith, less, length-action_of g)); escaped_are = c.in_ok-tables.ensures.escaped; keeps_are = c.in_ok-tables.ensures.keeps } in
    let are = subst (λ (ns : List PlacedNode). AreTables a ns tables.given.items tables.out.items tables.escaped.items tables.keeps.items) same made in
    let words = λ (k : ℕ) (less : k < length a). ap (λ (xs : List ℕ). slice_index xs k) (c.in_ok-tables.ensures.frames ∙ ap (λ (n : ℕ). put_frame_words fs (replicate n 0)) (sym (length-action_of g)))
    ∙ frame-words a (trees-of_graph g c.nodes-count.ensures.of_an_action) c.requires.table.0 fs c.requires.table.2 c.requires.table.2.apart (put_frames fs (replicate (length a) nowhere)) (put-by_number a c.requires.table.0 fs c.requires.table.2 (put_frames fs (replicate (length a) nowhere)) (record { start = replicate (length a) nowhere; long = length-replicate (length a) nowhere; are = refl })) k less in
    let framed = tables-framed a (names-of-graph g c.nodes-count.ensures.of_an_action) fs tables.given.items tables.out.items tables.escaped.items tables.keeps.items tables.frames.items are words c.args.capacity.stack c.args.capacity.units in
    subst (λ (items : List Item). OnOk c.assemble.result (LabelsStand items)) framed c.assemble.ensures.labels

pub returns-clause-short : goal.returns-clause-short
returns-clause-short c =
    let g = c.args.graph.now in
    let a = action_of g in
    let fs = frames_of c.args.layout.now in
    let count = length-nodes g c.nodes-count.result.now c.nodes-count.ensures.nodes in
    let same : map placed_node c.deref.result.now ≡ put_frames fs (replicate (length a) nowhere) = ap (map placed_node) c.deref.ensures.value ∙ c.in_ok-places.ensures ∙ ap (λ (n : ℕ). put_frames fs (replicate n nowhere)) count in
    let tables = c.in_ok-tables.tables in
    let made : AreTables a (map placed_node c.deref.result.now) tables.given.items tables.out.items tables.escaped.items tables.keeps.items =
    record { given_at = λ k less. c.in_ok-tables.ensures.given k (omega (arith, less, length-action_of g)); out_at = λ k less. c.in_ok-tables.ensures.out k (omega (arith, less, length-action_of g)); escaped_are = c.in_ok-tables.ensures.escaped; keeps_are = c.in_ok-tables.ensures.keeps } in
    let are = subst (λ (ns : List PlacedNode). AreTables a ns tables.given.items tables.out.items tables.escaped.items tables.keeps.items) same made in
    let words = λ (k : ℕ) (less : k < length a). ap (λ (xs : List ℕ). slice_index xs k) (c.in_ok-tables.ensures.frames ∙ ap (λ (n : ℕ). put_frame_words fs (replicate n 0)) (sym (length-action_of g)))
    ∙ frame-words a (trees-of_graph g c.nodes-count.ensures.of_an_action) c.requires.table.0 fs c.requires.table.2 c.requires.table.2.apart (put_frames fs (replicate (length a) nowhere)) (put-by_number a c.requires.table.0 fs c.requires.table.2 (put_frames fs (replicate (length a) nowhere)) (record { start = replicate (length a) nowhere; long = length-replicate (length a) nowhere; are = refl })) k less in
    let framed = tables-framed a (names-of-graph g c.nodes-count.ensures.of_an_action) fs tables.given.items tables.out.items tables.escaped.items tables.keeps.items tables.frames.items are words c.args.capacity.stack c.args.capacity.units in
    subst (λ (items : List Item). OnOk c.assemble.result (total items ≤ 4100 + 530 * node_count a)) framed c.assemble.ensures.short
