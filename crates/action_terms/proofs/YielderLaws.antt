-- Where the arguments of each yielder of a tree are, and that they are what the yielder wants.
use Rattle.std.proofs.Common.{◌≡◌, ℕ, suc, ◌+◌, ◌<◌, ◌≤◌, List, [], ◌∷◌, ◌++◌, length, refl, sym, ap, subst, ◌∙◌, append_assoc, append-nil, length-append, arith}
use Rattle.std.specs.Prelude.{Some, slice_get}
use Rattle.action_terms.specs.Labels.{ActionNode, YielderNode, Wanted, under_action, under_yielder}
use Rattle.action_terms.specs.Trees.{Tree, tree, Trees, none, more, Is, Are}
use Rattle.action_terms.specs.Numbering.{ListedYielder, closure_body, action_count, yielder_count, yielder_counts, yielder_roots, yielders_of, yielders_of_all}
use Rattle.action_terms.specs.Meaning.{picked, items_from}
use Rattle.action_terms.proofs.Each.{Each, Each-append}
use Rattle.action_terms.proofs.NodeCounts.{length-yielders_of}
use Rattle.action_terms.proofs.ChildrenLaws.{yielder_roots-within}
use Rattle.action_terms.proofs.SoundNodes.{ItemsFit, items-fit, picked-among}

-- yielder k among these stands well in a graph of so many yielders
pub record YielderSits (all : List ListedYielder) (count k : ℕ) (l : ListedYielder) : Type 0 where
  pub within : (i x : ℕ) → slice_get l.children i ≡ Some x → (k < x) × (x < count)
  pub fits : ItemsFit (under_yielder l.kind) (picked 0 (items_from 0 all) l.children)

mutual
  pub yielder_sits-tree : (t : Tree) (x : Wanted) (a y count : ℕ) (front ls all : List ListedYielder) → Is x t → length front ≡ y → y + yielder_count t ≤ count → all ≡ front ++ (yielders_of a y t ++ ls) → Each (YielderSits all count) y (yielders_of a y t)
  yielder_sits-tree (tree (ActionNode k n tk) ts) x a y count front ls all h is few split = yielder_sits-trees ts (under_action k n) (suc a) y count front ls all h.1 is few split
  yielder_sits-tree (tree (YielderNode k tk) ts) x a y count front ls all h is few split =
      let first : ListedYielder = record { kind = k; token = tk; children = yielder_roots (suc y) ts; body = closure_body k a } in
      let longer : length (front ++ first ∷ []) ≡ suc y = omega (arith, length-append front (first ∷ [])) in
      let fewer : suc y + yielder_counts ts ≤ count = omega arith in
      let here = split ∙ sym (append_assoc front (first ∷ []) (yielders_of_all a (suc y) ts ++ ls)) in
      let P = ItemsFit (under_yielder k) in (
        record {
          within = λ i c at.
              let g = yielder_roots-within ts (suc y) i c at in
              let low : y < c = omega arith in let high : c < count = omega arith in (low, high);
          fits = subst P (sym (picked-among (front ++ first ∷ []) ls all ts a (suc y) longer here)) (items-fit ts (under_yielder k) a h.1);
        },
        yielder_sits-trees ts (under_yielder k) a (suc y) count (front ++ first ∷ []) ls all h.1 longer fewer here,
      )

  yielder_sits-trees : (ts : Trees) (xs : List Wanted) (a y count : ℕ) (front ls all : List ListedYielder) → Are xs ts → length front ≡ y → y + yielder_counts ts ≤ count → all ≡ front ++ (yielders_of_all a y ts ++ ls) → Each (YielderSits all count) y (yielders_of_all a y ts)
  yielder_sits-trees none xs a y count front ls all h is few split = tt
  yielder_sits-trees (more t ts) [] a y count front ls all h is few split = elim h [ ]
  yielder_sits-trees (more t ts) (x ∷ xs) a y count front ls all h is few split =
      let a1 = a + action_count t in
      let y1 = y + yielder_count t in
      let these = yielders_of a y t in
      let rest = yielders_of_all a1 y1 ts in
      let inner : (these ++ rest) ++ ls ≡ these ++ (rest ++ ls) = append_assoc these rest ls in
      let here = split ∙ ap (λ l. front ++ l) inner in
      let longer : length (front ++ these) ≡ y1 = omega (arith, length-append front these, length-yielders_of a y t) in
      let few1 : y + yielder_count t ≤ count = omega arith in
      let few2 : y + yielder_count t + yielder_counts ts ≤ count = omega arith in
      let P : ℕ → Type 0 = λ m. Each (YielderSits all count) (y + m) rest in
      Each-append (YielderSits all count) y these rest (yielder_sits-tree t x a y count front (rest ++ ls) all h.0 is few1 here)
      (subst P (sym (length-yielders_of a y t)) (yielder_sits-trees ts xs a1 y1 count (front ++ these) ls all h.1 longer few2 (here ∙ sym (append_assoc front these (rest ++ ls)))))

pub yielder_sits : (t : Tree) (x : Wanted) → Is x t → Each (YielderSits (yielders_of 0 0 t) (yielder_count t)) 0 (yielders_of 0 0 t)
yielder_sits t x h =
    let few : 0 + yielder_count t ≤ yielder_count t = omega arith in
    yielder_sits-tree t x 0 0 (yielder_count t) [] [] (yielders_of 0 0 t) h refl few (sym (append-nil (yielders_of 0 0 t)))
