-- The code with the tables of places that are made for a layout.
use Rattle.std.proofs.Common.{◌≡◌, ◌⊎◌, ⊎_elim, ℕ, zero, suc, ◌+◌, ◌<◌, ◌≤◌, All, List, [], ◌∷◌, ◌++◌, length, map, replicate, refl, sym, ap, subst, ◌∙◌, arith, inl, inr}
use Rattle.std.specs.Borrow.{Bor}
use Rattle.std.specs.Prelude.{Some, slice_get, slice_index}
use Rattle.std.proofs.lemmas.Bool.{cases_lt}
use Rattle.std.proofs.lemmas.List.{get_or_past, length-map, length-replicate}
use Rattle.rv_asm.specs.declared.item.Item.{Item}
use Rattle.rv_asm.specs.declared.item.Item.TheVariants.{Jump, Mark}
use Rattle.action_terms.specs.Actions.{Action, Check, Either, Escape, EscapeWith, Give, Node, Regive, Store, Allocate, Receive, Send, Simple, Trapping, Unfold, Unfolding}
use Rattle.sort_rules.specs.Measures.{width}
use Rattle.sort_rules.specs.Procedures.{procedure_of}
use Rattle.sort_rules.specs.Tables.{MarkedTable}
use Rattle.frame_layout.specs.Layouts.{HasApartNodes, IsLayout}
use Rattle.frame_layout.specs.Places.{Frame, PlacedNode}
use Rattle.frame_layout.proofs.GraphParts.{HasTrees}
use Rattle.frame_layout.proofs.Words.{all-members}
use Rattle.rv_prelude.specs.Items.{entries_from, prelude_items}
use Rattle.rv_codegen.specs.Aliases.{AreByNumber, given_of, list_at, lists_of, nowhere, out_of, place_at, places_in, put_frames, words_at}
use Rattle.rv_codegen.specs.StorageItems.{fetches, stores}
use Rattle.rv_codegen.specs.Blocks.{NodeWords, action_items, allocate_label, arms, block, blocks_from, body, calls, checks, ending, escapes, escapes_with, exits_of, framed_items, gives, leaves, opening, placed_words, receive_label, regives, sends, start_label, table_words}
use Rattle.rv_codegen.specs.TrapItems.{traps}
use Rattle.rv_codegen.specs.ItemCode.{AreReached}
use Rattle.rv_codegen.proofs.AliasPlaces.{HasOwnWords, given-within, out-within}
use Rattle.rv_codegen.proofs.AliasWords.{own-word}
use Rattle.rv_codegen.proofs.NodeParts.{CallsByNumber, IsPartOf}
use Rattle.rv_codegen.proofs.LayoutWords.{keep-reached, layout-words, words-reached}
use Rattle.rv_codegen.proofs.PuttingPlaces.{put-by_number}
use Rattle.rv_codegen.proofs.SuitedPlaces.{escaped-width, given-width, out-width}

-- the nodes whose words the code of a node names beside its own: its parts, and the body that it calls
abbrev pub Names : Node → ℕ → Type 0
Names n r = IsPartOf n r ⊎ CallsByNumber n r

calls-same : (ws vs : ℕ → NodeWords) (k c : ℕ) → ws k ≡ vs k → ws c ≡ vs c → calls (ws k) (ws c) k c ≡ calls (vs k) (vs c) k c
calls-same ws vs k c e f = ap (λ (w : NodeWords). calls w (ws c) k c) e ∙ ap (λ (w : NodeWords). calls (vs k) w k c) f

-- the code of a node, by the words of the node and of those that it names
body-same : (ws vs : ℕ → NodeWords) (k exit : ℕ) (n : Node) → ws k ≡ vs k → ((r : ℕ) → Names n r → ws r ≡ vs r) → body ws k exit n ≡ body vs k exit n
body-same ws vs k exit (Simple Regive) e f = ap (λ (w : NodeWords). regives w.given w.out k ++ leaves k exit) e
body-same ws vs k exit (Simple (Give is)) e f = ap (λ (w : NodeWords). gives w.given w.out k is ++ leaves k exit) e
body-same ws vs k exit (Simple Escape) e f = ap (λ (w : NodeWords). escapes w.given) e
body-same ws vs k exit (Simple (EscapeWith is)) e f = ap (λ (w : NodeWords). escapes_with w.given w.escaped is) e
body-same ws vs k exit (Simple (Check y)) e f = ap (λ (w : NodeWords). checks w.given k y ++ leaves k exit) e
body-same ws vs k exit (Simple (Store y1 y2)) e f = ap (λ (w : NodeWords). stores w.given k y1 y2 ++ leaves k exit) e
body-same ws vs k exit (Simple Allocate) e f = ap (λ (w : NodeWords). fetches allocate_label w.out k ++ leaves k exit) e
body-same ws vs k exit (Simple Receive) e f = ap (λ (w : NodeWords). fetches receive_label w.out k ++ leaves k exit) e
body-same ws vs k exit (Simple (Send y)) e f = ap (λ (w : NodeWords). sends w.given k y ++ leaves k exit) e
body-same ws vs k exit (Either l r) e f = ap (λ (w : NodeWords). arms w.keep k l r ++ (Jump exit ∷ [])) e
body-same ws vs k exit (Trapping l r) e f =
    ap (λ (w : NodeWords). traps w.keep k exit l r (ws r).given) e ∙ ap (λ (w : NodeWords). traps (vs k).keep k exit l r w.given) (f r (inl (inr refl)))
body-same ws vs k exit (Unfolding c) e f = ap (λ is. is ++ leaves k exit) (calls-same ws vs k c e (f c (inr (inl refl))))
body-same ws vs k exit (Unfold c) e f = ap (λ is. is ++ leaves k exit) (calls-same ws vs k c e (f c (inr (inr refl))))
body-same ws vs k exit _ e f = refl

-- tables that agree on the nodes give the same code
blocks-same : (ws vs : ℕ → NodeWords) (bound : ℕ) (a : Action) (k : ℕ) (exits : List ℕ) → ((j : ℕ) → j < bound → ws j ≡ vs j) → k + length a ≤ bound → ((j r : ℕ) (n : Node) → slice_get a j ≡ Some n → Names n r → r < bound) → blocks_from ws k exits a ≡ blocks_from vs k exits a
blocks-same ws vs bound [] k exits e all parts = refl
blocks-same ws vs bound (n ∷ a) k exits e all parts =
    let exit = slice_index exits k in
    let rest = blocks-same ws vs bound a (suc k) exits e (omega (arith, all)) (λ j r m there part. parts (suc j) r m there part) in
    ap (λ (b : List Item). (opening k ++ b) ++ blocks_from ws (suc k) exits a) (body-same ws vs k exit n (e k (omega (arith, all))) (λ r part. e r (parts 0 r n refl part)))
    ∙ ap (λ (r : List Item). block vs k exit n ++ r) rest

-- the words of a node, by each of them
abbrev words_by : (given out escaped : List ℕ) (keep frame : ℕ) → NodeWords
words_by given out escaped keep frame = record { given = given; out = out; escaped = escaped; keep = keep; frame = frame }

words-same : (given given' out out' escaped escaped' : List ℕ) (keep keep' frame frame' : ℕ) → given ≡ given' → out ≡ out' → escaped ≡ escaped' → keep ≡ keep' → frame ≡ frame' → words_by given out escaped keep frame ≡ words_by given' out' escaped' keep' frame'
words-same given given' out out' escaped escaped' keep keep' frame frame' e f g h i =
    ap (λ (x : List ℕ). words_by x out escaped keep frame) e
    ∙ ap (λ (x : List ℕ). words_by given' x escaped keep frame) f
    ∙ ap (λ (x : List ℕ). words_by given' out' x keep frame) g
    ∙ ap (λ (x : ℕ). words_by given' out' escaped' x frame) h
    ∙ ap (λ (x : ℕ). words_by given' out' escaped' keep' x) i

-- the records of nodes in a table of them
keeps-at : (ns : List PlacedNode) (j : ℕ) → slice_index (map (λ (n : PlacedNode). n.keep) ns) j ≡ (place_at ns j).keep
keeps-at [] j = refl
keeps-at (n ∷ ns) zero = refl
keeps-at (n ∷ ns) (suc j) = keeps-at ns j

-- and where they put what they escape with
rows-at : (ns : List PlacedNode) (j : ℕ) → list_at (map (λ (n : PlacedNode). n.escaped) ns) j ≡ (place_at ns j).escaped
rows-at [] j = refl
rows-at (n ∷ ns) zero = refl
rows-at (n ∷ ns) (suc j) = rows-at ns j

-- the tables that are made for some places
pub record AreTables (a : Action) (ns : List PlacedNode) (given out escaped : List (Bor (List ℕ))) (keeps : List ℕ) : Type 0 where
  pub given_at : (k : ℕ) → k < length a → list_at (lists_of given) k ≡ given_of (place_at ns) a k
  pub out_at : (k : ℕ) → k < length a → list_at (lists_of out) k ≡ out_of (place_at ns) a k
  pub escaped_are : lists_of escaped ≡ map (λ (n : PlacedNode). n.escaped) ns
  pub keeps_are : keeps ≡ map (λ (n : PlacedNode). n.keep) ns

-- what an action's nodes name are nodes of it
abbrev pub NamesWithin : Action → Type 0
NamesWithin a = (j r : ℕ) (n : Node) → slice_get a j ≡ Some n → Names n r → r < length a

-- those for the places of a layout give its code, with the words of its frames
pub tables-framed : (a : Action) → NamesWithin a → (fs : List Frame) (given out escaped : List (Bor (List ℕ))) (keeps frames : List ℕ) → AreTables a (put_frames fs (replicate (length a) nowhere)) given out escaped keeps → ((k : ℕ) → k < length a → slice_index frames k ≡ words_at fs (procedure_of a k)) → (stack units : ℕ)
    → action_items (table_words (lists_of given) (lists_of out) (lists_of escaped) keeps frames) stack units a ≡ framed_items a fs stack units
tables-framed a named fs given out escaped keeps frames are words stack units =
    let ns = put_frames fs (replicate (length a) nowhere) in
    let same = λ (j : ℕ) (lt : j < length a). words-same (list_at (lists_of given) j) (given_of (place_at ns) a j) (list_at (lists_of out) j) (out_of (place_at ns) a j) (list_at (lists_of escaped) j) (place_at ns j).escaped (slice_index keeps j) (place_at ns j).keep (slice_index frames j) (words_at fs (procedure_of a j)) (are.given_at j lt) (are.out_at j lt) (ap (λ (xs : List (List ℕ)). list_at xs j) are.escaped_are ∙ rows-at ns j) (ap (λ (ks : List ℕ). slice_index ks j) are.keeps_are ∙ keeps-at ns j) (words j lt) in
    ap (λ b. prelude_items (entries_from 0) stack units ++ (Mark start_label ∷ (b ++ ending (length a))))
    (blocks-same (table_words (lists_of given) (lists_of out) (lists_of escaped) keeps frames) (placed_words (places_in a fs) (words_at fs) a) (length a) a 0 (exits_of a) same (omega arith) (λ j r n there name. named j r n there name))

-- ---- instructions reach the words of the tables

none-reached : AreReached []
none-reached = record { few = omega arith; near = all-members (λ o. o < 33554432) [] (λ o m. elim m [ ]) }

module _ (a : Action) (trees : HasTrees a) (t : MarkedTable) (narrow : width (length a) t ≤ 64) (fs : List Frame) (laid : IsLayout a t fs) (apart : All HasApartNodes fs) where
  abbrev ns : List PlacedNode
  ns = put_frames fs (replicate (length a) nowhere)

  by_number : AreByNumber a fs ns
  by_number = put-by_number a t fs laid ns (record { start = replicate (length a) nowhere; long = length-replicate (length a) nowhere; are = refl })

  own : HasOwnWords a (place_at ns) (words_at fs)
  own = layout-words a trees t fs laid apart ns by_number

  given-reached : (k : ℕ) → k < length a → AreReached (given_of (places_in a fs) a k)
  given-reached k within = record {
    few = omega (arith, given-width a trees t fs laid apart ns by_number k, narrow);
    near = all-members (λ o. o < 33554432) (given_of (places_in a fs) a k) (λ o m. omega (arith, (given-within a trees (place_at ns) (words_at fs) own k o within m).1, words-reached a trees t fs laid apart ns by_number k within));
  }

  out-reached : (k : ℕ) → k < length a → AreReached (out_of (places_in a fs) a k)
  out-reached k within = record {
    few = omega (arith, out-width a trees t fs laid apart ns by_number k within, narrow);
    near = all-members (λ o. o < 33554432) (out_of (places_in a fs) a k) (λ o m. omega (arith, (out-within a trees (place_at ns) (words_at fs) own k o within m).1, words-reached a trees t fs laid apart ns by_number k within));
  }

  table-reached : (xs : List (Bor (List ℕ))) (f : ℕ → List ℕ) → length xs ≡ length a → ((k : ℕ) → k < length a → list_at (lists_of xs) k ≡ f k) → ((k : ℕ) → k < length a → AreReached (f k)) → (k : ℕ) → AreReached (list_at (lists_of xs) k)
  table-reached xs f long is reached k = ⊎_elim
      (λ within. subst AreReached (sym (is k within)) (reached k within))
      (λ past. subst AreReached (sym (get_or_past (lists_of xs) k [] (omega (arith, past, long, length-map xs (λ (y : Bor (List ℕ)). y.now))))) none-reached) (cases_lt k (length a))

  -- so they reach those of the tables
  module _ (given out escaped : List (Bor (List ℕ))) (keeps : List ℕ) (are : AreTables a ns given out escaped keeps) where
    pub given-table : length given ≡ length a → (k : ℕ) → AreReached (list_at (lists_of given) k)
    given-table long = table-reached given (given_of (places_in a fs) a) long are.given_at given-reached

    pub out-table : length out ≡ length a → (k : ℕ) → AreReached (list_at (lists_of out) k)
    out-table long = table-reached out (out_of (places_in a fs) a) long are.out_at out-reached

    escaped-reached : (k : ℕ) → k < length a → AreReached (place_at ns k).escaped
    escaped-reached k within = record {
      few = omega (arith, escaped-width a trees t fs laid apart ns by_number k within, narrow);
      near = all-members (λ o. o < 33554432) (place_at ns k).escaped (λ o m. omega (arith, (own.within k o within (own-word (place_at ns k) o (inr (inr (inl m))))).1, words-reached a trees t fs laid apart ns by_number k within));
    }

    pub escaped-table : length escaped ≡ length a → (k : ℕ) → AreReached (list_at (lists_of escaped) k)
    escaped-table long = table-reached escaped (λ k. (place_at ns k).escaped) long (λ k less. ap (λ (xs : List (List ℕ)). list_at xs k) are.escaped_are ∙ rows-at ns k) escaped-reached

    pub keeps-table : (k : ℕ) → slice_index keeps k < 33554432
    keeps-table k =
        let is : slice_index keeps k ≡ (place_at ns k).keep = ap (λ (ks : List ℕ). slice_index ks k) are.keeps_are ∙ keeps-at ns k in
        omega (arith, is, keep-reached a trees t fs laid apart ns by_number k)
