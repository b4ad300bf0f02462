-- What code that reads a node of a graph by its kind finds: the lists have it, and it tells what the node is.
use Rattle.std.proofs.Common.{◌≡◌, ℕ, ◌<◌, List, [], ◌∷◌, length, get_or, refl, sym, ap, ap₂, ◌∙◌, arith}
use Rattle.std.specs.Prelude.{Some, slice_get, slice_index}
use Rattle.std.proofs.lemmas.Option.{slice_get-get_or}
use Rattle.action_terms.specs.Actions.{Yielder, Item, Single, ClosureOf, And, Moreover, AndThen, Then, Hence, Before, Node, Simple, Give, EscapeWith, Check, Bind, BindRec, Store, Send, Enact, Apply, Furthermore, Both, Phases, Either, Trapping, Branch}
use Rattle.action_terms.specs.Numbering.{ListedNode, ListedYielder}
use Rattle.action_terms.specs.Meaning.{items_from, node_of}
use Rattle.action_terms.specs.Forms.{item_at, items_at, yielder_at, IsDatum, AreItems}
use Rattle.action_terms.specs.ByKind.{or_no_numbers, operand_at, number_at, part_at, HasOne, HasRead, node_read, OperandsRead}
use Rattle.action_terms.specs.declared.kinds.Kind.{Kind}
use Rattle.action_terms.specs.declared.kinds.Kind.TheVariants as kind
use Rattle.action_terms.proofs.NodeForms.{Wanted, AreTwo, IsOne, IsTuple}
use Rattle.action_terms.proofs.OperandItems.{operand_items, first_item, second_item, first_items, second_items, one_number, one_number_second, one_operand, two_operands, yielder_of, body_of_item}

-- two parts of a node
two_parts : (n : ListedNode) (form : ℕ → ℕ → Node) (from : List ℕ → Node) → ((l r : ℕ) → from (l ∷ r ∷ []) ≡ form l r) → AreTwo n.children → from n.children ≡ form (part_at n 0) (part_at n 1)
two_parts n form from each h = ap from h.2 ∙ each h.0 h.1 ∙ ap (λ ps. form (slice_index ps 0) (slice_index ps 1)) (sym h.2)

-- one operand of one datum
one_datum : (ls : List ListedYielder) (n : ListedNode) (form : Yielder → Node) (from : List (List Item) → Node) → ((y : Yielder) → from ((Single y ∷ []) ∷ []) ≡ form y) → IsOne (operand_items ls n) → from (operand_items ls n) ≡ form (yielder_at ls (number_at n 0))
one_datum ls n form from each h =
    ap from h.1 ∙ each h.0 ∙ ap form (yielder_of (item_at ls (number_at n 0)) h.0 (first_item (items_from 0 ls) n.operands (Single h.0) [] [] h.1))

-- one operand of items
one_tuple : (ls : List ListedYielder) (n : ListedNode) (form : List Item → Node) (from : List (List Item) → Node) → ((is : List Item) → from (is ∷ []) ≡ form is) → IsTuple (operand_items ls n) → from (operand_items ls n) ≡ form (items_at ls (operand_at n 0))
one_tuple ls n form from each h = ap from h.1 ∙ each h.0 ∙ ap form (first_items (items_from 0 ls) n.operands h.0 [] h.1)

-- the node that is read is that of the meaning
pub node_of-read : (ls : List ListedYielder) (kd : Kind) (n : ListedNode) → Wanted kd n.children (operand_items ls n) → node_of kd n.token n.body n.children (operand_items ls n) ≡ node_read ls kd n
node_of-read ls kind.Complete n h = refl
node_of-read ls kind.Fail n h = refl
node_of-read ls kind.Escape n h = refl
node_of-read ls kind.Commit n h = refl
node_of-read ls kind.Regive n h = refl
node_of-read ls kind.Rebind n h = refl
node_of-read ls kind.Allocate n h = refl
node_of-read ls kind.Receive n h = refl
node_of-read ls kind.Unfold n h = refl
node_of-read ls kind.Unfolding n h = refl
node_of-read ls kind.Give n h = one_tuple ls n (λ is. Simple (Give is)) (node_of kind.Give n.token n.body n.children) (λ is. refl) h
node_of-read ls kind.EscapeWith n h = one_tuple ls n (λ is. Simple (EscapeWith is)) (node_of kind.EscapeWith n.token n.body n.children) (λ is. refl) h
node_of-read ls kind.Check n h = one_datum ls n (λ y. Simple (Check y)) (node_of kind.Check n.token n.body n.children) (λ y. refl) h
node_of-read ls kind.Bind n h = one_datum ls n (λ y. Simple (Bind n.token y)) (node_of kind.Bind n.token n.body n.children) (λ y. refl) h
node_of-read ls kind.Send n h = one_datum ls n (λ y. Simple (Send y)) (node_of kind.Send n.token n.body n.children) (λ y. refl) h
node_of-read ls kind.Enact n h = one_datum ls n Enact (node_of kind.Enact n.token n.body n.children) (λ y. refl) h
node_of-read ls kind.BindRec n h =
    ap (node_of kind.BindRec n.token n.body n.children) h.1
    ∙ ap (λ c. Simple (BindRec n.token c)) (sym (body_of_item ls 0 (number_at n 0) h.0 (first_item (items_from 0 ls) n.operands (Single (ClosureOf h.0)) [] [] h.1)))
node_of-read ls kind.Store n h =
    let items = items_from 0 ls in
    let first = yielder_of (item_at ls (number_at n 0)) h.0 (first_item items n.operands (Single h.0) [] ((Single h.1 ∷ []) ∷ []) h.2) in
    let second = yielder_of (item_at ls (number_at n 1)) h.1 (second_item items n.operands (Single h.0 ∷ []) (Single h.1) [] [] h.2) in
    ap (node_of kind.Store n.token n.body n.children) h.2 ∙ ap₂ (λ y1 y2. Simple (Store y1 y2)) first second
node_of-read ls kind.Apply n h =
    let items = items_from 0 ls in
    let first = yielder_of (item_at ls (number_at n 0)) h.0 (first_item items n.operands (Single h.0) [] (h.1 ∷ []) h.2) in
    ap (node_of kind.Apply n.token n.body n.children) h.2 ∙ ap₂ Apply first (second_items items n.operands (Single h.0 ∷ []) h.1 [] h.2)
node_of-read ls kind.Furthermore n h = ap (λ ps. node_of kind.Furthermore n.token n.body ps (operand_items ls n)) h.1 ∙ ap (λ ps. Furthermore (slice_index ps 0)) (sym h.1)
node_of-read ls kind.Or n h = two_parts n Either (λ ps. node_of kind.Or n.token n.body ps (operand_items ls n)) (λ l r. refl) h
node_of-read ls kind.And n h = two_parts n (Both And) (λ ps. node_of kind.And n.token n.body ps (operand_items ls n)) (λ l r. refl) h
node_of-read ls kind.AndThen n h = two_parts n (Phases AndThen) (λ ps. node_of kind.AndThen n.token n.body ps (operand_items ls n)) (λ l r. refl) h
node_of-read ls kind.Then n h = two_parts n (Phases Then) (λ ps. node_of kind.Then n.token n.body ps (operand_items ls n)) (λ l r. refl) h
node_of-read ls kind.Trap n h = two_parts n Trapping (λ ps. node_of kind.Trap n.token n.body ps (operand_items ls n)) (λ l r. refl) h
node_of-read ls kind.Hence n h = two_parts n (Phases Hence) (λ ps. node_of kind.Hence n.token n.body ps (operand_items ls n)) (λ l r. refl) h
node_of-read ls kind.Moreover n h = two_parts n (Both Moreover) (λ ps. node_of kind.Moreover n.token n.body ps (operand_items ls n)) (λ l r. refl) h
node_of-read ls kind.Before n h = two_parts n (Phases Before) (λ ps. node_of kind.Before n.token n.body ps (operand_items ls n)) (λ l r. refl) h
node_of-read ls kind.Branch n h =
    two_parts n (λ l r. node_of kind.Branch n.token n.body (l ∷ r ∷ []) (operand_items ls n)) (λ ps. node_of kind.Branch n.token n.body ps (operand_items ls n)) (λ l r. refl) h.0
    ∙ one_datum ls n (λ y. Branch y (part_at n 0) (part_at n 1)) (node_of kind.Branch n.token n.body (part_at n 0 ∷ part_at n 1 ∷ [])) (λ y. refl) h.1

-- ---- the lists have what is read

two_there : (n : ListedNode) → AreTwo n.children → 1 < length n.children
two_there n h = rw h.2 (omega arith)

one_there : (ls : List ListedYielder) (n : ListedNode) → IsOne (operand_items ls n) → HasOne n 0
one_there ls n h = one_number (items_from 0 ls) n.operands (Single h.0) [] h.1

tuple_there : (ls : List ListedYielder) (n : ListedNode) → IsTuple (operand_items ls n) → 0 < length n.operands
tuple_there ls n h = one_operand (items_from 0 ls) n.operands h.0 [] h.1

pub has-read : (ls : List ListedYielder) (kd : Kind) (n : ListedNode) → Wanted kd n.children (operand_items ls n) → HasRead kd n
has-read ls kind.Give n h = tuple_there ls n h
has-read ls kind.EscapeWith n h = tuple_there ls n h
has-read ls kind.Check n h = one_there ls n h
has-read ls kind.Bind n h = one_there ls n h
has-read ls kind.BindRec n h = one_number (items_from 0 ls) n.operands (Single (ClosureOf h.0)) [] h.1
has-read ls kind.Store n h =
    (one_number (items_from 0 ls) n.operands (Single h.0) ((Single h.1 ∷ []) ∷ []) h.2, one_number_second (items_from 0 ls) n.operands (Single h.0 ∷ []) (Single h.1) [] h.2)
has-read ls kind.Send n h = one_there ls n h
has-read ls kind.Enact n h = one_there ls n h
has-read ls kind.Apply n h =
    (one_number (items_from 0 ls) n.operands (Single h.0) (h.1 ∷ []) h.2, two_operands (items_from 0 ls) n.operands (Single h.0 ∷ []) h.1 [] h.2)
has-read ls kind.Furthermore n h = rw h.1 (omega arith)
has-read ls kind.Or n h = two_there n h
has-read ls kind.And n h = two_there n h
has-read ls kind.AndThen n h = two_there n h
has-read ls kind.Then n h = two_there n h
has-read ls kind.Trap n h = two_there n h
has-read ls kind.Hence n h = two_there n h
has-read ls kind.Moreover n h = two_there n h
has-read ls kind.Before n h = two_there n h
has-read ls kind.Branch n h = (two_there n h.0, one_there ls n h.1)
has-read ls _ n h = tt

-- ---- the operands that are read are yielders

-- each item of an operand is a yielder
abbrev pub EachWithin : List ListedYielder → ListedNode → Type 0
EachWithin ls n = (i j y : ℕ) (o : List ℕ) → slice_get n.operands i ≡ Some o → slice_get o j ≡ Some y → y < length ls

operand_some : (n : ListedNode) (i : ℕ) → i < length n.operands → slice_get n.operands i ≡ Some (operand_at n i)
operand_some n i less =
    let at = slice_get-get_or n.operands i [] less in
    at ∙ ap (λ o. Some (or_no_numbers o)) (sym at)

items_within : (ls : List ListedYielder) (n : ListedNode) (i : ℕ) → EachWithin ls n → i < length n.operands → AreItems ls (operand_at n i)
items_within ls n i each less =
    λ j d short. each i j (get_or (operand_at n i) j d) (operand_at n i) (operand_some n i less) (slice_get-get_or (operand_at n i) j d short)

number_within : (ls : List ListedYielder) (n : ListedNode) (i : ℕ) → EachWithin ls n → HasOne n i → number_at n i < length ls
number_within ls n i each one =
    let P : List ℕ → Type 0 = λ o. slice_get o 0 ≡ Some (slice_index o 0) in
    let same : operand_at n i ≡ one.0 ∷ [] = ap or_no_numbers one.1 in
    each i 0 (number_at n i) (one.0 ∷ []) one.1 (ap (λ o. Some (slice_index o 0)) (sym same))

is_datum : (ls : List ListedYielder) (n : ListedNode) (i : ℕ) (y : Yielder) → number_at n i < length ls → item_at ls (number_at n i) ≡ Single y → IsDatum ls (number_at n i)
is_datum ls n i y within e = record { within = within; single = e ∙ ap Single (yielder_of (item_at ls (number_at n i)) y e) }

first_datum : (ls : List ListedYielder) (n : ListedNode) (y : Yielder) (rest : List (List Item)) → EachWithin ls n → HasOne n 0 → operand_items ls n ≡ (Single y ∷ []) ∷ rest → IsDatum ls (number_at n 0)
first_datum ls n y rest each one e = is_datum ls n 0 y (number_within ls n 0 each one) (first_item (items_from 0 ls) n.operands (Single y) [] rest e)

one_of : (ls : List ListedYielder) (n : ListedNode) → EachWithin ls n → HasOne n 0 → IsOne (operand_items ls n) → IsDatum ls (number_at n 0)
one_of ls n each one h = first_datum ls n h.0 [] each one h.1

pub operands-read : (ls : List ListedYielder) (kd : Kind) (n : ListedNode) → EachWithin ls n → HasRead kd n → Wanted kd n.children (operand_items ls n) → OperandsRead ls kd n
operands-read ls kind.Give n each has h = items_within ls n 0 each has
operands-read ls kind.EscapeWith n each has h = items_within ls n 0 each has
operands-read ls kind.Check n each has h = one_of ls n each has h
operands-read ls kind.Bind n each has h = one_of ls n each has h
operands-read ls kind.BindRec n each has h = first_datum ls n (ClosureOf h.0) [] each has h.1
operands-read ls kind.Store n each has h =
    (first_datum ls n h.0 ((Single h.1 ∷ []) ∷ []) each has.0 h.2, is_datum ls n 1 h.1 (number_within ls n 1 each has.1) (second_item (items_from 0 ls) n.operands (Single h.0 ∷ []) (Single h.1) [] [] h.2))
operands-read ls kind.Send n each has h = one_of ls n each has h
operands-read ls kind.Enact n each has h = one_of ls n each has h
operands-read ls kind.Apply n each has h = (first_datum ls n h.0 (h.1 ∷ []) each has.0 h.2, items_within ls n 1 each has.1)
operands-read ls kind.Branch n each has h = one_of ls n each has.1 h.1
operands-read ls _ n each has h = tt
