-- The table without parameters reads what the table with them reads of tokens of action texts.
use Rattle.std.proofs.Common.{◌≡◌, ◌⊎◌, inl, inr, ℕ, zero, suc, ◌+◌, ◌<◌, ◌≤◌, length, Bool, true, false, ◌&&◌, not, List, [], ◌∷◌, ◌++◌, Option, Some, None, refl, sym, ap, subst, ◌∙◌, arith, codes, nat_eq, nat_lt, if◌then◌else◌, eqb-true, ltb-true}
use Rattle.std.proofs.lemmas.Bool.Decides.{eqb_tells, nat_tests}
use Rattle.std.specs.Prelude.{ℤ}
use Rattle.action_text.proofs.Tests.{and_left, and_right}
use Rattle.acg_base.specs.Decimals.{spelled_i64}
use Rattle.meta_lex.specs.Forms.{is_quoted, is_word}
use Rattle.action_terms.specs.Labels.{Wanted, AnAction, AYielder, AnItem, AClosure}
use Rattle.action_terms.specs.Trees.{tree, none, more}
use Rattle.action_terms.specs.declared.kinds.Kind.TheVariants as kind
use Rattle.action_terms.specs.declared.kinds.YKind.TheVariants as ykind
use Rattle.action_text.specs.declared.table.Mark.TheVariants as mark
use Rattle.action_text.specs.declared.classes.Class.TheVariants as class
use Rattle.action_text.specs.Numbers.{class_number, name_number}
use Rattle.action_text.specs.declared.names.Name.TheVariants as name
use Rattle.action_text.specs.Tables.{Symbol, Read, Keep, Emit, Name, Written, Line, line_of, Writes, Reads, line}
use Rattle.meta_terms.specs.Words.{words}
use Rattle.action_text.specs.Classes.{class_of, word_class, number_class, is_place, or_parameter, template_class}
use Rattle.action_text.specs.Shapes.{Piece, Fixed, Numeral, Quoted, Part}
use Rattle.action_text.specs.ActionText.{IsPart, IsOperand, IsEnclosed, Weaves, label_of}
use Rattle.meta_terms.specs.Names.{is_function, is_variable, is_among, begins_small, other_words}
use Rattle.meta_terms.specs.Templates.{Label, Tree, Trees, ActionNode, YielderNode, ActionTokenOf, YielderTokenOf, Applied, ValueOf, Is, Are, IsAction, serves, under}
use Rattle.action_text.specs.TemplateText.{IsPlain, IsChain, ArePartsOf, Spells, SpellsIn, IsBare, AreBare, shape, is_plain_label}
use Rattle.action_text.specs.Posts.{postorder}
use Rattle.action_text.specs.Notes.{Noting, noted}
use Rattle.action_text.specs.ActionTable.{table_in, class_in, lines_in, template_lines, action_lines, parameter_lines}
use Rattle.action_text.proofs.Starts.{Safe, safe_append}
use Rattle.action_text.proofs.ActionTablePasses.{known, table_choosing}
use Rattle.action_text.proofs.Meanings.{Does}
use Rattle.action_text.proofs.Means.{wrote}
use Rattle.action_text.proofs.TemplateWords.{no_class}
use Rattle.action_text.proofs.Spelling.{chain_label}
use Rattle.action_text.proofs.Chains.{IsOperator}
use Rattle.action_text.proofs.Agreement.{read_is_spelled, spelled_is_read, operates}
use Rattle.action_text.proofs.EmbeddedActions.{spelled_as}
use Rattle.action_text.proofs.LowTokens.{AllLow, EachLow, low_front, low_back, spelled_low}

-- no class is above that of a token that no action text has
word_low : (n : ℕ) (ws : List (List ℕ)) (t : List ℕ) → n + length ws ≤ 63 → word_class n ws t ≤ 63
word_low n [] t h = omega arith
word_low n (w ∷ ws) t h = pick (Rattle.meta_terms.specs.Words.same_bytes w t) (word_low (suc n) ws t (omega arith))
  where
    pick : (b : Bool) → word_class (suc n) ws t ≤ 63 → (if b then n else word_class (suc n) ws t) ≤ 63
    pick true k = omega arith
    pick false k = k

class_low : (t : List ℕ) → class_of t ≤ 63
class_low t = pick (is_quoted t) (spelled_i64 t)
  where
    pick : (b : Bool) (n : Option ℤ) → (if b then (class_number class.Quoted) else number_class n t) ≤ 63
    pick true n = omega arith
    pick false None = word_low 0 words t (omega arith)
    pick false (Some z) = place (is_place z)
      where
        place : (b : Bool) → (if b then (class_number class.Place) else (class_number class.Number)) ≤ 63
        place true = omega arith
        place false = omega arith

-- the lines of templates alone are for other classes
no_parameter_line : (ls : List Line) (n c : ℕ) → c ≤ 63 → line_of (ls ++ parameter_lines) n c ≡ line_of ls n c
unfolding line_of parameter_lines
no_parameter_line [] n c h = pick (apart c (class_number class.Function) (omega arith)) (apart c (class_number class.Value) (omega arith)) (apart c (class_number class.Token) (omega arith))
  where
    apart : (c d : ℕ) → c < d → nat_eq d c ≡ false
    apart c d h = elim (eqb_tells d c) [ inl e ↦ absurd (let x : d ≡ c = e.1 in omega arith) | inr e ↦ e.0 ]

    skip : (l : Line) (ls : List Line) → nat_eq l.class c ≡ false → line_of (l ∷ ls) n c ≡ line_of ls n c
    skip l ls e = rw e (same (nat_eq l.name n) (line_of ls n c))
      where
        same : (b : Bool) (x : Option Line) → (if b then x else x) ≡ x
        same true x = refl
        same false x = refl

    pick : nat_eq (class_number class.Function) c ≡ false → nat_eq (class_number class.Value) c ≡ false → nat_eq (class_number class.Token) c ≡ false → line_of parameter_lines n c ≡ None
    pick a b d =
        skip (line (name_number name.Operand) (class_number class.Function) true (Keep (class_number class.Variable) ∷ Emit mark.Applied ∷ [])) (line (name_number name.Yielder) (class_number class.Value) false (Read (class_number class.Of) ∷ Keep (class_number class.Variable) ∷ Emit mark.ValueOf ∷ []) ∷ line (name_number name.Token) (class_number class.Token) false (Read (class_number class.Of) ∷ Keep (class_number class.Variable) ∷ []) ∷ []) a
        ∙ (skip (line (name_number name.Yielder) (class_number class.Value) false (Read (class_number class.Of) ∷ Keep (class_number class.Variable) ∷ Emit mark.ValueOf ∷ [])) (line (name_number name.Token) (class_number class.Token) false (Read (class_number class.Of) ∷ Keep (class_number class.Variable) ∷ []) ∷ []) b
        ∙ skip (line (name_number name.Token) (class_number class.Token) false (Read (class_number class.Of) ∷ Keep (class_number class.Variable) ∷ [])) [] d)
no_parameter_line (l ∷ ls) n c h = pick (nat_eq l.name n) (nat_eq l.class c) (no_parameter_line ls n c h)
  where
    pick : (a b : Bool) → line_of (ls ++ parameter_lines) n c ≡ line_of ls n c
        → (if a then (if b then Some l else line_of (ls ++ parameter_lines) n c) else line_of (ls ++ parameter_lines) n c) ≡ (if a then (if b then Some l else line_of ls n c) else line_of ls n c)
    pick true true e = refl
    pick true false e = e
    pick false b e = e

-- the line of a token is that of the whole table
pub line_in : (p : Bool) (n : ℕ) (t : List ℕ) → line_of template_lines n (class_in p t) ≡ line_of (lines_in p) n (class_in p t)
unfolding template_lines
line_in true n t = refl
line_in false n t = no_parameter_line action_lines n (class_of t) (class_low t)

same_class : (t : List ℕ) → class_of t < 63 → template_class t ≡ class_of t
same_class t h = pick (nat_lt (class_of t) (class_number class.Other)) (below (class_of t) h)
  where
    below : (c : ℕ) → c < 63 → nat_lt c 63 ≡ true
    below c h = grind (arith, nat_tests)

    pick : (b : Bool) → b ≡ true → (if b then class_of t else Rattle.action_text.specs.Classes.parameter_class t) ≡ class_of t
    pick true e = refl
    pick false e = absurd (cc)

-- the lines of action texts are for their classes
unfoldable lines_low : List Line → Bool
lines_low [] = true
lines_low (l ∷ ls) = nat_lt l.class 63 && lines_low ls

line_low : (ls : List Line) (n c : ℕ) (l : Line) → lines_low ls ≡ true → line_of ls n c ≡ Some l → c < 63
unfolding lines_low line_of
line_low [] n c l h e = absurd (cc)
line_low (m ∷ ls) n c l h e = pick (nat_eq m.name n) (nat_eq m.class c) refl e (line_low ls n c l (and_right (nat_lt m.class 63) (lines_low ls) h))
  where
    pick : (a b : Bool) → nat_eq m.class c ≡ b → (if a then (if b then Some m else line_of ls n c) else line_of ls n c) ≡ Some l → (line_of ls n c ≡ Some l → c < 63) → c < 63
    pick true true p e ih = let x : m.class ≡ c = eqb-true m.class c p in let y = ltb-true m.class 63 (and_left (nat_lt m.class 63) (lines_low ls) h) in omega arith
    pick true false p e ih = ih e
    pick false b p e ih = ih e

action_lines_low : lines_low action_lines ≡ true
unfolding lines_low action_lines
action_lines_low = refl

-- what is read without parameters is read with them, and its tokens are those of action texts
reads_up : (k : ℕ) (s : List Symbol) (ts : List (List ℕ)) (o : List Written) → Safe (known false) s → Writes (table_in false) k s ts o → Writes (table_in true) k s ts o × AllLow ts
reads_up zero s ts o safe h = (h, subst AllLow (sym h.1) tt)
reads_up (suc k) [] ts o safe h = absurd h
reads_up (suc k) (Read c ∷ s) [] o safe h = absurd h
reads_up (suc k) (Read c ∷ s) (t ∷ ts) o safe h =
    let x = reads_up k s ts o safe.1 h.1 in
    let low : class_of t < 63 = let e = h.0 in let f = safe.0 in omega arith in
    ((same_class t low ∙ h.0, x.0), (low, x.1))
reads_up (suc k) (Keep c ∷ s) [] o safe h = absurd h
reads_up (suc k) (Keep c ∷ s) (t ∷ ts) o safe h =
    let x = reads_up k s ts h.1 safe.1 h.3 in
    let low : class_of t < 63 = let e = h.0 in let f = safe.0 in omega arith in
    ((same_class t low ∙ h.0, h.1, h.2, x.0), (low, x.1))
reads_up (suc k) (Emit m ∷ s) ts o safe h = let x = reads_up k s ts h.0 safe h.2 in ((h.0, h.1, x.0), x.1)
reads_up (suc k) (Name n ∷ s) [] o safe h =
    let x = reads_up k (h.0 ++ s) [] o (safe_append (known false) n h.0 s ((table_choosing false).other n h.0 h.1) safe.1 safe.2) h.2 in
    ((h.0, h.1, x.0), tt)
reads_up (suc k) (Name n ∷ s) (t ∷ ts) o safe (inl h) =
    let low : class_of t < 63 = line_low action_lines n (class_of t) h.0 action_lines_low h.2 in
    let x = reads_up k (h.0.right ++ s) ts h.1 (safe_append (known false) n h.0.right s ((table_choosing false).line n (class_of t) h.0 h.2) safe.1 safe.2) h.4 in
    let found : line_of template_lines n (template_class t) ≡ Some h.0 = ap (λ c. line_of template_lines n c) (same_class t low) ∙ line_in false n t ∙ h.2 in
    (inl (h.0, h.1, found, h.3, x.0), (low, x.1))
reads_up (suc k) (Name n ∷ s) (t ∷ ts) o safe (inr h) =
    let x = reads_up k (h.0 ++ s) (t ∷ ts) o (safe_append (known false) n h.0 s ((table_choosing false).other n h.0 h.1) safe.1 safe.2) h.2 in
    (inr (h.0, h.1, x.0), x.1)

-- what is read with parameters is read without them, where its tokens are those of action texts
reads_down : (k : ℕ) (s : List Symbol) (ts : List (List ℕ)) (o : List Written) → AllLow ts → Writes (table_in true) k s ts o → Writes (table_in false) k s ts o
reads_down zero s ts o low h = h
reads_down (suc k) [] ts o low h = absurd h
reads_down (suc k) (Read c ∷ s) [] o low h = absurd h
reads_down (suc k) (Read c ∷ s) (t ∷ ts) o low h = (sym (same_class t low.0) ∙ h.0, reads_down k s ts o low.1 h.1)
reads_down (suc k) (Keep c ∷ s) [] o low h = absurd h
reads_down (suc k) (Keep c ∷ s) (t ∷ ts) o low h = (sym (same_class t low.0) ∙ h.0, h.1, h.2, reads_down k s ts h.1 low.1 h.3)
reads_down (suc k) (Emit m ∷ s) ts o low h = (h.0, h.1, reads_down k s ts h.0 low h.2)
reads_down (suc k) (Name n ∷ s) [] o low h = (h.0, h.1, reads_down k (h.0 ++ s) [] o tt h.2)
reads_down (suc k) (Name n ∷ s) (t ∷ ts) o low (inl h) =
    let found : line_of action_lines n (class_of t) ≡ Some h.0 = sym (line_in false n t) ∙ ap (λ c. line_of template_lines n c) (sym (same_class t low.0)) ∙ h.2 in
    inl (h.0, h.1, found, h.3, reads_down k (h.0.right ++ s) ts h.1 low.1 h.4)
reads_down (suc k) (Name n ∷ s) (t ∷ ts) o low (inr h) = inr (h.0, h.1, reads_down k (h.0 ++ s) (t ∷ ts) o low h.2)

-- a node of a parameter has a token that no action text has
function_high : (f : List ℕ) → is_function f ≡ true → class_of f ≡ 63
function_high f h =
    no_class f (and_left (is_word f) (begins_small f && (not (is_among words f) && not (is_among other_words f))) h)
    (not_true (is_among words f) (and_left (not (is_among words f)) (not (is_among other_words f)) (and_right (begins_small f) (not (is_among words f) && not (is_among other_words f)) (and_right (is_word f) (begins_small f && (not (is_among words f) && not (is_among other_words f))) h))))
  where
    not_true : (a : Bool) → not a ≡ true → a ≡ false
    not_true true h = absurd (cc)
    not_true false h = refl

above : (t w : List ℕ) → t ≡ w → class_of w ≡ 63 → class_of t < 63 → ⊥
above t w e c h = let x : class_of t ≡ 63 = ap class_of e ∙ c in omega arith

-- the tokens of parts are among those of the node
weave_parts : (ps : List Piece) (parts : List (List (List ℕ))) (ts : List (List ℕ)) → AllLow ts → Weaves ps parts ts → EachLow parts
weave_parts [] [] ts low w = tt
weave_parts [] (p ∷ parts) ts low w = absurd w
weave_parts (Part ∷ ps) [] ts low w = absurd w
weave_parts (Part ∷ ps) (p ∷ parts) ts low w =
    let l : AllLow (p ++ w.0) = subst AllLow w.1 low in
    (low_front p w.0 l, weave_parts ps parts w.0 (low_back p w.0 l) w.2)
weave_parts (Fixed b ∷ ps) parts [] low w = absurd w
weave_parts (Fixed b ∷ ps) parts (t ∷ ts) low w = weave_parts ps parts ts low.1 w.1
weave_parts (Numeral z ∷ ps) parts [] low w = absurd w
weave_parts (Numeral z ∷ ps) parts (t ∷ ts) low w = weave_parts ps parts ts low.1 w.1
weave_parts (Quoted q ∷ ps) parts [] low w = absurd w
weave_parts (Quoted q ∷ ps) parts (t ∷ ts) low w = weave_parts ps parts ts low.1 w.1

abbrev TreeBare : Tree → Type 0
TreeBare t = ((x : Wanted) → Is x t → (ts : List (List ℕ)) → AllLow ts → IsPlain t ts → IsBare t) × (IsAction t → (ts : List (List ℕ)) → AllLow ts → IsChain t ts → IsBare t)

abbrev TreesBare : Trees → Type 0
TreesBare none = Unit {0}
TreesBare (more t ts) = TreeBare t × TreesBare ts

enclosed_bare : (t : Tree) → TreeBare t → IsAction t → (pairs : ℕ) (ts : List (List ℕ)) → AllLow ts → IsEnclosed pairs (IsPlain t) (IsChain t) ts → IsBare t
enclosed_bare t h is zero ts low e = h.0 AnAction is ts low e
enclosed_bare t h is (suc pairs) ts low (inner, whole, inl e) = enclosed_bare t h is pairs inner (low_front inner _ (subst AllLow whole low).1) e
enclosed_bare t h is (suc pairs) ts low (inner, whole, inr c) = h.1 is inner (low_front inner _ (subst AllLow whole low).1) c

part_bare : (t : Tree) → TreeBare t → (x : Wanted) → Is x t → (ts : List (List ℕ)) → AllLow ts → IsPart x (IsPlain t) (IsChain t) ts → IsBare t
part_bare t h AnAction is ts low e = enclosed_bare t h is e.0 ts low e.1
part_bare t h AYielder is ts low e = h.0 AYielder is ts low e
part_bare t h AnItem is ts low e = h.0 AnItem is ts low e
part_bare t h AClosure is ts low e = h.0 AClosure is ts low e

parts_bare : (ts : Trees) → TreesBare ts → (xs : List Wanted) → Are xs ts → (parts : List (List (List ℕ))) → EachLow parts → ArePartsOf ts xs parts → AreBare ts
parts_bare none h xs are parts low e = tt
parts_bare (more t ts) h [] are parts low e = absurd are
parts_bare (more t ts) h (x ∷ xs) are [] low e = absurd e
parts_bare (more t ts) h (x ∷ xs) are (p ∷ parts) low e = (part_bare t h.0 x are.0 p low.0 e.0, parts_bare ts h.1 xs are.1 parts low.1 e.1)

label_bare : (x : Wanted) (l : Label) (parts : List (List (List ℕ))) (ts : List (List ℕ)) → serves x l ≡ true → AllLow ts → Weaves (shape l) parts ts → is_plain_label l ≡ true
label_bare x (ActionNode k n t) parts ts s low w = refl
label_bare x (YielderNode k t) parts ts s low w = refl
label_bare AnAction (Applied f v) parts [] s low w = absurd w
label_bare AnAction (Applied f v) parts (t ∷ ts) s low w = absurd (above t f w.0 (function_high f (and_left (is_function f) (is_variable v) s)) low.0)
label_bare AYielder (Applied f v) parts ts s low w = absurd (cc)
label_bare AnItem (Applied f v) parts ts s low w = absurd (cc)
label_bare AClosure (Applied f v) parts ts s low w = absurd (cc)
label_bare x (ValueOf v) parts [] s low w = absurd w
label_bare x (ValueOf v) parts (t ∷ ts) s low w = absurd (above t (codes "value") w.0 refl low.0)
label_bare x (ActionTokenOf kind.Bind n o v) parts [] s low w = absurd w
label_bare x (ActionTokenOf kind.Bind n o v) parts (t ∷ []) s low w = absurd w.1
label_bare x (ActionTokenOf kind.Bind n o v) parts (t ∷ u ∷ ts) s low w = absurd (above u (codes "token") w.1.0 refl low.1.0)
label_bare x (ActionTokenOf kind.BindRec n o v) parts [] s low w = absurd w
label_bare x (ActionTokenOf kind.BindRec n o v) parts (t ∷ []) s low w = absurd w.1
label_bare x (ActionTokenOf kind.BindRec n o v) parts (t ∷ u ∷ []) s low w = absurd w.1.1
label_bare x (ActionTokenOf kind.BindRec n o v) parts (t ∷ u ∷ y ∷ ts) s low w = absurd (above y (codes "token") w.1.1.0 refl low.1.1.0)
label_bare AnAction (ActionTokenOf _ zero [] v) parts ts s low w = absurd (cc)
label_bare AnAction (ActionTokenOf _ zero (b ∷ o) v) parts ts s low w = absurd (cc)
label_bare AnAction (ActionTokenOf _ (suc n) o v) parts ts s low w = absurd (cc)
label_bare AYielder (ActionTokenOf _ n o v) parts ts s low w = absurd (cc)
label_bare AnItem (ActionTokenOf _ n o v) parts ts s low w = absurd (cc)
label_bare AClosure (ActionTokenOf _ n o v) parts ts s low w = absurd (cc)
label_bare x (YielderTokenOf (ykind.Bound b) o v) parts [] s low w = absurd w
label_bare x (YielderTokenOf (ykind.Bound b) o v) parts (t ∷ []) s low w = absurd w.1
label_bare x (YielderTokenOf (ykind.Bound b) o v) parts (t ∷ u ∷ []) s low w = absurd w.1.1
label_bare x (YielderTokenOf (ykind.Bound b) o v) parts (t ∷ u ∷ y ∷ []) s low w = absurd w.1.1.1
label_bare x (YielderTokenOf (ykind.Bound b) o v) parts (t ∷ u ∷ y ∷ z ∷ []) s low w = absurd w.1.1.1.1
label_bare x (YielderTokenOf (ykind.Bound b) o v) parts (t ∷ u ∷ y ∷ z ∷ a ∷ ts) s low w = absurd (above a (codes "token") w.1.1.1.1.0 refl low.1.1.1.1.0)
label_bare AnAction (YielderTokenOf _ o v) parts ts s low w = absurd (cc)
label_bare AYielder (YielderTokenOf _ [] v) parts ts s low w = absurd (cc)
label_bare AYielder (YielderTokenOf _ (b ∷ o) v) parts ts s low w = absurd (cc)
label_bare AnItem (YielderTokenOf _ [] v) parts ts s low w = absurd (cc)
label_bare AnItem (YielderTokenOf _ (b ∷ o) v) parts ts s low w = absurd (cc)
label_bare AClosure (YielderTokenOf _ o v) parts ts s low w = absurd (cc)

chain_bare : (l : Label) (ts : Trees) → TreesBare ts → IsAction (tree l ts) → (us : List (List ℕ)) → AllLow us → IsChain (tree l ts) us → IsBare (tree l ts)
chain_bare l none h is us low c = absurd c
chain_bare l (more a none) h is us low c = absurd c
chain_bare l (more a (more b none)) h is us low c =
    let k = chain_label (tree l (more a (more b none))) us is c in
    let e : l ≡ ActionNode k.0 0 [] = k.1 in
    let o : IsOperator k.0 k.2 k.3 = (operates k.0 k.2 k.3 k.4).is in
    let is2 : IsAction (tree (ActionNode k.0 0 []) (more a (more b none))) = subst (λ x. IsAction (tree x (more a (more b none)))) e is in
    let sides : IsAction a × (IsAction b × Unit {0}) = rw o.sides at is2.1 in
    subst (λ x. IsBare (tree x (more a (more b none)))) (sym e) (refl, (left_bare c.6 sides.0 (low_front c.0 (c.1 ∷ c.2) (low_front (c.0 ++ (c.1 ∷ c.2)) c.3 (subst AllLow c.4 low))), (enclosed_bare b h.1.0 sides.1.0 c.7.0 c.3 (low_back (c.0 ++ (c.1 ∷ c.2)) c.3 (subst AllLow c.4 low)) c.7.1, tt)))
  where
    left_bare : ((label_of a ≡ l) × IsChain a c.0) ⊎ IsOperand (IsPlain a) (IsChain a) c.0 → IsAction a → AllLow c.0 → IsBare a
    left_bare (inl x) is_a f = h.0.1 is_a c.0 f x.1
    left_bare (inr x) is_a f = enclosed_bare a h.0 is_a x.0 c.0 f x.1
chain_bare l (more a (more b (more d ts))) h is us low c = absurd c

mutual
  tree_bare : (t : Tree) → TreeBare t
  tree_bare (tree l ts) = (
    λ x is us low h. (label_bare x l h.0 us is.0 low h.2, parts_bare ts (trees_bare ts) (under l) is.1 h.0 (weave_parts (shape l) h.0 us low h.2) h.1),
    λ is us low c. chain_bare l ts (trees_bare ts) is us low c,
  )

  trees_bare : (ts : Trees) → TreesBare ts
  trees_bare none = tt
  trees_bare (more t ts) = (tree_bare t, trees_bare ts)

spelled_bare : (t : Tree) (ts : List (List ℕ)) → AllLow ts → Spells t ts → IsBare t
spelled_bare t ts low (is, inl o) = enclosed_bare t (tree_bare t) is o.0 ts low o.1
spelled_bare t ts low (is, inr c) = (tree_bare t).1 is ts low c

start_safe : Safe (known false) (Name (name_number name.Action) ∷ [])
start_safe = (omega arith, (λ c h. refl), tt)

pub read_is_spelled_in : (p : Bool) (st : Noting) (ts : List (List ℕ)) (o : List Written) → Reads (table_in p) (Name (name_number name.Action) ∷ []) ts o → (t : Tree) × SpellsIn p t ts × (noted o st ≡ wrote (postorder t) st)
read_is_spelled_in true st ts o r = read_is_spelled st ts o r
read_is_spelled_in false st ts o r =
    let x = reads_up r.0 (Name (name_number name.Action) ∷ []) ts o start_safe r.1 in
    let y = read_is_spelled st ts o (r.0, x.0) in
    (y.0, (spelled_bare y.0 ts x.1 y.1, y.1), y.2)

pub spelled_is_read_in : (p : Bool) (t : Tree) (ts : List (List ℕ)) → SpellsIn p t ts → (st : Noting) → Does (table_in p) (Name (name_number name.Action) ∷ []) st ts (wrote (postorder t) st)
spelled_is_read_in true t ts h st = spelled_is_read t ts h st
spelled_is_read_in false t ts h st =
    let a = spelled_as t ts h in
    let low : AllLow ts = spelled_low a.0 ts a.2 in
    let d = spelled_is_read t ts h.1 st in
    record { written = d.written; reads = (d.reads.0, reads_down d.reads.0 (Name (name_number name.Action) ∷ []) ts d.written low d.reads.1); ends = d.ends }
