-- The image of the code that is generated for a graph is right.
use Rattle.std.proofs.Common.{◌≡◌, ℕ, zero, suc, ◌+◌, ◌*◌, ◌<◌, ◌≤◌, List, [], ◌∷◌, length, replicate, map, Some, Result, Ok, Err, IfOk, OnOk, refl, sym, ap, ◌∙◌, subst, arith}
use Rattle.std.proofs.lemmas.List.{length-replicate}
use Rattle.std.proofs.Math.Nat.{mul-le-mul_left}
use Rattle.rv_code.specs.Encode.{encode}
use Rattle.rv_asm.specs.Arrivals.{LabelsStand}
use Rattle.rv_asm.specs.Assembly.{code_of, spot, total}
use Rattle.rv_asm.specs.Conventions.{instruction_bytes, code_bytes}
use Rattle.rv_asm.specs.Pieces.{exit_with}
use Rattle.rv_asm.specs.declared.item.Item.{Item}
use Rattle.rv_asm.proofs.Encodings.{words-encoded}
use Rattle.rv_asm.proofs.Labels.{length-code}
use Rattle.rv_asm.proofs.Places.{length-code_bytes}
use Rattle.action_terms.specs.Actions.{Action, node_at}
use Rattle.action_terms.specs.Literals.{NumbersFit}
use Rattle.action_terms.specs.Meaning.{action_of}
use Rattle.action_terms.specs.Need.{node_yielder_count, most_yielders, factor}
use Rattle.action_terms.specs.Numbering.{Listed, IsGraph}
use Rattle.action_terms.proofs.CountLaws.{graph-counts}
use Rattle.action_terms.proofs.GraphLaws.{length-nodes_some, length-nodes_few}
use Rattle.frame_layout.specs.Places.{Frame}
use Rattle.frame_layout.proofs.GraphParts.{trees-of_graph}
use Rattle.rv_codegen.specs.Aliases.{nowhere, put_frames, words_at}
use Rattle.rv_codegen.specs.Blocks.{framed_items}
use Rattle.sort_rules.specs.Measures.{width}
use Rattle.sort_rules.specs.Tables.{MarkedTable}
use Rattle.rv_codegen.specs.Measures.{node_count}
use Rattle.rv_codegen.specs.RightImage.{compiled_image, Subject, Loads, IsRight}
use Rattle.rv_codegen.specs.Built.{unbuilt}
use Rattle.rv_codegen.proofs.CalledBodies.{bodies-of-graph}
use Rattle.rv_codegen.proofs.Compiling.{IsCompilable, HasFrames, IsSized}
use Rattle.rv_codegen.proofs.Loading.{code_bytes-small, compiled-loads}
use Rattle.rv_codegen.proofs.PuttingPlaces.{put-by_number}
use Rattle.rv_codegen.proofs.LayoutWords.{words-within}
use Rattle.rv_codegen.proofs.Right.{full_items, full-shows, image-shows}
use Rattle.sort_rules.proofs.YielderCounts.{node-few}
use Rattle.rv_codegen.proofs.GraphNodes.{tree-of-graph, built-of-graph, length-action_of}

-- what holds of the value of an `Ok`, with what an `Ok` tells
pub IfOk-on : {T E : Type 0} (r : Result T E) (A : Type 0) (P Q : T → Type 0) → (A → (x : T) → P x → Q x) → OnOk r A → IfOk r P → IfOk r Q
IfOk-on (Ok x) A P Q f a p = f a x p
IfOk-on (Err e) A P Q f a p = tt

-- ---- the factor covers the code of each node

most-yielders : (a : Action) (k : ℕ) → node_yielder_count (node_at a k) ≤ most_yielders a
most-yielders [] k = omega arith
most-yielders (n ∷ a) zero = omega arith
most-yielders (n ∷ a) (suc k) = omega (arith, most-yielders a k)

pub factor-covers : (w z n y : ℕ) → n ≤ w → y ≤ z → 400 + 24 * (n + 1) * (y + 1) ≤ factor w z
factor-covers w z n y a b =
    let p : n + 1 ≤ w + 1 = omega arith in
    let q : y + 1 ≤ z + 1 = omega arith in
    let first : 24 * (n + 1) * (y + 1) ≤ 24 * (n + 1) * (z + 1) = mul-le-mul_left (24 * (n + 1)) q in
    let second : (z + 1) * (24 * (n + 1)) ≤ (z + 1) * (24 * (w + 1)) = mul-le-mul_left (z + 1) (mul-le-mul_left 24 p) in
    omega (arith, first, second)

-- a graph's action has no more nodes and yielders than a graph may have
pub count-few : (g : Listed) → IsGraph g → node_count (action_of g) ≤ 65536
count-few g graph = omega (arith, length-action_of g, graph-counts g graph, length-nodes_few g graph)

module _ (g : Listed) (graph : IsGraph g) (t : MarkedTable) (fs : List Frame) where
  abbrev a : Action
  a = action_of g

  -- how many words a node or a yielder of the code has at most
  abbrev pub most_words : ℕ
  most_words = 530

  abbrev subject : (stack units : ℕ) → Subject
  subject stack units = record { action = a; table = t; stack = stack; units = units }

  sized : (items : List Item) (stack units : ℕ) → total items ≤ 4100 + most_words * node_count a → 1 ≤ stack → stack ≤ 16777216 → units ≤ 4194304 → IsSized (subject stack units) items
  sized items stack units short low few_words few_units =
      let covers = factor-covers (width (length a) t) (most_yielders a) in
      record {
        small = omega (arith, short, count-few g graph);
        ample = omega (arith, covers 0 0 (omega arith) (omega arith));
        paid = λ k n le. covers n (node_yielder_count (node_at a k)) le (most-yielders a k);
        some_words = low;
        few_words = few_words;
        few_units = few_units;
      }

  -- the image of words that are those of some items loads
  image-loads : (items : List Item) (words : List ℕ) (stack units : ℕ) → map Some words ≡ map encode (code_of items) → IsSized (subject stack units) items → total items ≤ 4100 + most_words * node_count a → Loads (compiled_image (code_bytes (code_of items)) stack units) (subject stack units)
  image-loads items words stack units encoded it short =
      let code = code_of items in
      let size_is : length (code_bytes code) ≡ 4 * total items = length-code_bytes code ∙ ap (λ n. 4 * n) (length-code (spot items) 0 items) in
      compiled-loads (code_bytes code) (subject stack units) (code_bytes-small code) (count-few g graph) it.few_words it.few_units (omega (arith, size_is, short))

  module _ (numbers : NumbersFit a) (none : unbuilt a ≡ []) (framed : (stack units : ℕ) → HasFrames (subject stack units) fs) where
    compilable : IsCompilable a
    compilable = record {
      tree = tree-of-graph g graph;
      trees = trees-of_graph g graph;
      bodies = bodies-of-graph g graph;
      built = λ k n e. built-of-graph a none k n e;
      numbers = numbers;
      few = node-few g graph;
      some = omega (arith, length-action_of g, length-nodes_some g graph);
    }

    -- the image of the words is right where the main procedure has room
    pub generated-right : (words : List ℕ) (stack units : ℕ) → words_at fs 0 ≤ stack → LabelsStand (framed_items a fs stack units) → total (framed_items a fs stack units) ≤ 4100 + most_words * node_count a → map Some words ≡ map encode (code_of (framed_items a fs stack units)) → 1 ≤ stack → stack ≤ 16777216 → units ≤ 4194304 → IsRight (compiled_image (instruction_bytes words) stack units) (subject stack units)
    generated-right words stack units fits labels short encoded low few_words few_units =
        let items = framed_items a fs stack units in
        let known = words-encoded words (code_of items) encoded in
        let it = sized items stack units short low few_words few_units in
        subst (λ b. IsRight (compiled_image b stack units) (subject stack units)) (sym known.bytes)
        (record {
          loads = image-loads items words stack units encoded it short;
          shows = λ input is_bytes m. image-shows (subject stack units) fs compilable (framed stack units) labels it fits input is_bytes known.encodable m;
        })

    -- and where it hasn't the exit with 3 is
    pub full-right : (words : List ℕ) (stack units : ℕ) → stack < words_at fs 0 → map Some words ≡ map encode (exit_with 3) → 1 ≤ stack → stack ≤ 16777216 → units ≤ 4194304 → IsRight (compiled_image (instruction_bytes words) stack units) (subject stack units)
    full-right words stack units over encoded low few_words few_units =
        let known = words-encoded words (code_of full_items) encoded in
        let three : total full_items ≡ 3 = refl in
        let short : total full_items ≤ 4100 + most_words * node_count a = omega (arith, three) in
        let it = sized full_items stack units short low few_words few_units in
        let ns = put_frames fs (replicate (length a) nowhere) in
        let has = framed stack units in
        let by_number = put-by_number a t fs has.layout ns (record { start = replicate (length a) nowhere; long = length-replicate (length a) nowhere; are = refl }) in
        let within = words-within a compilable.trees t fs has.layout has.apart ns by_number 0 compilable.some in
        subst (λ b. IsRight (compiled_image b stack units) (subject stack units)) (sym known.bytes)
        (record {
          loads = image-loads full_items words stack units encoded it short;
          shows = λ input is_bytes m. full-shows (subject stack units) fs it (omega (arith, over, within)) input is_bytes known.encodable m;
        })
