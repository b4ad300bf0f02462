-- The code of nodes, one node after another.
use Rattle.std.proofs.Common.{◌≡◌, ℕ, ◌+◌, ◌<◌, List, ◌++◌, length, get_or, drop, refl, ap, ◌∙◌, add-one, append_assoc}
use Rattle.std.proofs.lemmas.List.{drop_more, get_or_default}
use Rattle.std.proofs.lemmas.Option.{slice_get-get_or}
use Rattle.rv_asm.specs.declared.item.Item.{Item}
use Rattle.action_terms.specs.Actions.{Stray, Action, node_or_stray, node_at}
use Rattle.rv_codegen.specs.Blocks.{NodeWords, block, blocks_from}

-- the code of one node, and then that of the nodes behind it
pub blocks_from-next : (ws : ℕ → NodeWords) (items : List Item) (exits : List ℕ) (a : Action) (k d : ℕ) → k < length a → k < length exits → (items ++ block ws k (get_or exits k d) (node_at a k)) ++ blocks_from ws (k + 1) exits (drop (k + 1) a) ≡ items ++ blocks_from ws k exits (drop k a)
blocks_from-next ws items exits a k d lt within =
    let e = drop_more a k Stray lt in
    let here : get_or exits k d ≡ get_or exits k 0 = get_or_default exits k d 0 within in
    let node : node_at a k ≡ get_or a k Stray = ap node_or_stray (slice_get-get_or a k Stray lt) in
    append_assoc items (block ws k (get_or exits k d) (node_at a k)) (blocks_from ws (k + 1) exits (drop (k + 1) a))
    ∙ ap (λ x. items ++ (block ws k x (node_at a k) ++ blocks_from ws (k + 1) exits (drop (k + 1) a))) here
    ∙ rw (node, e, add-one k) refl
