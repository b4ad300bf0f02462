-- Each node that is spelled by its own tokens is read.
use Rattle.std.proofs.Common.{◌≡◌, ◌<◌, arith, ℕ, Bool, true, false, ◌&&◌, List, [], ◌∷◌, ◌++◌, Option, Some, None, refl, sym, ap, subst, ◌∙◌, append-nil, nat_eq, nat_lt, if◌then◌else◌, eqb-true, ◌==◌, length}
use Rattle.std.specs.Prelude.{ℤ, pos}
use Rattle.std.specs.Option.{option_map, option_and_then}
use Rattle.acg_base.specs.Decimals.{spelled_i64, fits_i64, number_of}
use Rattle.meta_lex.specs.Forms.{is_quoted, is_closed}
use Rattle.action_terms.specs.Labels.{Wanted, has_no_token, is_token}
use Rattle.meta_terms.specs.Templates.{Label, ActionNode, YielderNode, under, Trees, Are}
use Rattle.action_terms.specs.Trees.{tree, none, more}
use Rattle.action_terms.specs.declared.kinds.Kind.{Kind}
use Rattle.action_terms.specs.declared.kinds.YKind.{YKind}
use Rattle.action_text.specs.declared.table.Mark.{Mark}
use Rattle.action_text.specs.declared.classes.Class.TheVariants as class
use Rattle.action_text.specs.Numbers.{class_number}
use Rattle.action_text.specs.Tables.{Emit, Name, line_of, other_of, line}
use Rattle.action_text.specs.Shapes.{Piece, Fixed}
use Rattle.action_text.specs.TemplateText.{shape, IsPlain, ArePartsOf}
use Rattle.action_text.specs.ActionText.{Weaves}
use Rattle.action_text.specs.Posts.{postorder, postorders}
use Rattle.action_text.specs.Notes.{Noting, marked, writes}
use Rattle.action_text.specs.Classes.{class_of, template_class, is_place}
use Rattle.action_text.specs.ActionTable.{template_table, template_lines, action_others}
use Rattle.action_text.proofs.Meanings.{does_nothing, does_emit, does_other}
use Rattle.action_text.proofs.Means.{wrote}
use Rattle.action_text.proofs.Nodes.{symbols, fits, wrote_both}
use Rattle.action_text.proofs.QuotedTokens.{quoted_of_token}
use Rattle.action_text.proofs.Spelling.{Goes, AllGo, word_line, end_at, on_tokens, pieces_go}

-- a node of the label is read where the name stands
abbrev pub NodeGoes : ℕ → Label → Type 0
NodeGoes n l = (kids : Trees) → AllGo kids → Are (under l) kids → (ts : List (List ℕ)) → IsPlain (tree l kids) ts → (st : Noting) → Goes (Name n ∷ []) st ts (wrote (postorder (tree l kids)) st)

-- the mark of a node, behind its parts
pub mark_goes : (l : Label) (m : Mark) (kids : Trees) (st : Noting) → ((z : Noting) → marked m z ≡ writes 0 l z) → Goes (Emit m ∷ []) (wrote (postorders kids) st) [] (wrote (postorder (tree l kids)) st)
mark_goes l m kids st mark =
    does_emit template_table m [] (wrote (postorders kids) st) (wrote (postorder (tree l kids)) st) []
    (end_at [] (marked m (wrote (postorders kids) st)) (marked m (wrote (postorders kids) st)) (wrote (postorder (tree l kids)) st) []
    (mark (wrote (postorders kids) st) ∙ wrote_both (postorders kids) (l ∷ []) st) (does_nothing template_table (marked m (wrote (postorders kids) st))))

-- the words and parts of a node behind its first words, and its mark
pub tail_goes : (l : Label) (ps : List Piece) (m : Mark) (kids : Trees) (parts : List (List (List ℕ))) (ts : List (List ℕ)) (st : Noting) → fits ps (under l) ≡ true → ((z : Noting) → marked m z ≡ writes 0 l z)
    → AllGo kids → Are (under l) kids → ArePartsOf kids (under l) parts → Weaves ps parts ts → Goes (symbols ps (under l) ++ Emit m ∷ []) st ts (wrote (postorder (tree l kids)) st)
tail_goes l ps m kids parts ts st fit mark all are spelled woven =
    on_tokens (symbols ps (under l) ++ Emit m ∷ []) st (wrote (postorder (tree l kids)) st) (ts ++ []) ts (append-nil ts)
    (pieces_go ps (under l) (Emit m ∷ []) st (wrote (postorder (tree l kids)) st) kids parts ts [] fit all are spelled woven (mark_goes l m kids st mark))

-- a node that a row reads whole
pub node_goes : (n : ℕ) (l : Label) (w : List ℕ) (ps : List Piece) (m : Mark) → shape l ≡ Fixed w ∷ ps → fits ps (under l) ≡ true → ((z : Noting) → marked m z ≡ writes 0 l z)
    → line_of template_lines n (template_class w) ≡ Some (line n (template_class w) false (symbols ps (under l) ++ Emit m ∷ [])) → NodeGoes n l
node_goes n l w ps m form fit mark found kids all are ts (parts, spelled, woven) st = by_first ts (rw form at woven)
  where
    by_first : (ts : List (List ℕ)) → Weaves (Fixed w ∷ ps) parts ts → Goes (Name n ∷ []) st ts (wrote (postorder (tree l kids)) st)
    by_first [] h = absurd h
    by_first (t ∷ ts) h =
        word_line n w t (symbols ps (under l) ++ Emit m ∷ []) st (wrote (postorder (tree l kids)) st) ts found h.0
        (tail_goes l ps m kids parts ts st fit mark all are spelled h.1)

-- a node that one row begins and another ends
pub begun_goes : (n o : ℕ) (l : Label) (v w : List ℕ) (ps : List Piece) (m : Mark) → shape l ≡ Fixed v ∷ Fixed w ∷ ps → fits ps (under l) ≡ true → ((z : Noting) → marked m z ≡ writes 0 l z)
    → line_of template_lines n (template_class v) ≡ Some (line n (template_class v) false (Name o ∷ []))
    → line_of template_lines o (template_class w) ≡ Some (line o (template_class w) false (symbols ps (under l) ++ Emit m ∷ [])) → NodeGoes n l
begun_goes n o l v w ps m form fit mark first found kids all are ts (parts, spelled, woven) st = by_two ts (rw form at woven)
  where
    by_two : (ts : List (List ℕ)) → Weaves (Fixed v ∷ Fixed w ∷ ps) parts ts → Goes (Name n ∷ []) st ts (wrote (postorder (tree l kids)) st)
    by_two [] h = absurd h
    by_two (t ∷ []) h = absurd h.1
    by_two (t ∷ u ∷ ts) h =
        word_line n v t (Name o ∷ []) st (wrote (postorder (tree l kids)) st) (u ∷ ts) first h.0
        (word_line o w u (symbols ps (under l) ++ Emit m ∷ []) st (wrote (postorder (tree l kids)) st) ts found h.1.0
        (tail_goes l ps m kids parts ts st fit mark all are spelled h.1.1))

-- a node that a row begins, and that ends by what else a name may be
pub begun_other_goes : (n o : ℕ) (l : Label) (v : List ℕ) (ps : List Piece) (m : Mark) → shape l ≡ Fixed v ∷ ps → fits ps (under l) ≡ true → ((z : Noting) → marked m z ≡ writes 0 l z)
    → line_of template_lines n (template_class v) ≡ Some (line n (template_class v) false (Name o ∷ []))
    → other_of action_others o ≡ Some (symbols ps (under l) ++ Emit m ∷ []) → NodeGoes n l
begun_other_goes n o l v ps m form fit mark first found kids all are ts (parts, spelled, woven) st = by_one ts (rw form at woven)
  where
    by_one : (ts : List (List ℕ)) → Weaves (Fixed v ∷ ps) parts ts → Goes (Name n ∷ []) st ts (wrote (postorder (tree l kids)) st)
    by_one [] h = absurd h
    by_one (t ∷ ts) h =
        word_line n v t (Name o ∷ []) st (wrote (postorder (tree l kids)) st) ts first h.0
        (does_other template_table o (symbols ps (under l) ++ Emit m ∷ []) st (wrote (postorder (tree l kids)) st) ts found
        (tail_goes l ps m kids parts ts st fit mark all are spelled h.1))

-- a node without a spelling that has parts is in no text
pub shapeless : (n : ℕ) (l : Label) (x : Wanted) (xs : List Wanted) → shape l ≡ [] → under l ≡ x ∷ xs → NodeGoes n l
shapeless n l x xs form parts_are kids all are ts (parts, spelled, woven) st = absurd (never kids parts (rw parts_are at spelled) (rw form at woven))
  where
    never : (kids : Trees) (parts : List (List (List ℕ))) → ArePartsOf kids (x ∷ xs) parts → Weaves [] parts ts → ⊥
    never none parts s w = s
    never (more k kids) [] s w = s
    never (more k kids) (p ∷ parts) s w = w

pub no_token : (q : List ℕ) → has_no_token q ≡ true → q ≡ []
no_token [] h = refl
no_token (b ∷ q) h = absurd (cc)

-- a kind without data and token
pub bare : (n : ℕ) (k : Kind) (i : ℕ) (q : List ℕ) → nat_eq i 0 ≡ true → has_no_token q ≡ true → NodeGoes n (ActionNode k 0 []) → NodeGoes n (ActionNode k i q)
bare n k i q zero_items bare_token h =
    subst (λ l. NodeGoes n l) (sym (ap (λ m. ActionNode k m q) (eqb-true i 0 zero_items) ∙ ap (λ r. ActionNode k 0 r) (no_token q bare_token))) h

-- a yielder without token
pub bare_yielder : (n : ℕ) (k : YKind) (q : List ℕ) → has_no_token q ≡ true → NodeGoes n (YielderNode k []) → NodeGoes n (YielderNode k q)
bare_yielder n k q bare_token h = subst (λ l. NodeGoes n l) (sym (ap (λ r. YielderNode k r) (no_token q bare_token))) h

-- a token between quotes is kept
pub quoted_class : (q t : List ℕ) → is_token q ≡ true → t ≡ 34 ∷ (q ++ 34 ∷ []) → template_class t ≡ (class_number class.Quoted)
quoted_class q t h e = rw (quoted_of_token q t h e) refl

no_digits : (f : ℤ → Option ℤ) (x : Bool) (n : ℕ) → option_and_then f (option_map pos (if x && false then Some n else None)) ≡ None
no_digits f true n = refl
no_digits f false n = refl

-- a number is no quoted text
number_unquoted : (t : List ℕ) (z : ℤ) → spelled_i64 t ≡ Some z → is_quoted t ≡ false
number_unquoted [] z e = refl
number_unquoted (b ∷ rest) z e = by_quote (b == 34) refl
  where
    by_quote : (x : Bool) → (b == 34) ≡ x → (x && is_closed rest) ≡ false
    by_quote true h =
        let first : b ≡ 34 = eqb-true b 34 h in
        let none_there : spelled_i64 (34 ∷ rest) ≡ None = no_digits (λ integer. if fits_i64 integer then Some integer else None) (nat_lt 0 (length (34 ∷ rest))) (number_of (34 ∷ rest)) in
        let some : Some z ≡ None = sym e ∙ ap (λ c. spelled_i64 (c ∷ rest)) first ∙ none_there in
        absurd (cc)
    by_quote false h = refl

pub number_class_of : (t : List ℕ) (z : ℤ) (place : Bool) → spelled_i64 t ≡ Some z → is_place z ≡ place → template_class t ≡ (if place then (class_number class.Place) else (class_number class.Number))
number_class_of t z true e p = rw (number_unquoted t z e) (rw e (rw p refl))
number_class_of t z false e p = rw (number_unquoted t z e) (rw e (rw p refl))

pub quoted_low : (q t : List ℕ) → is_token q ≡ true → t ≡ 34 ∷ (q ++ 34 ∷ []) → class_of t < 63
quoted_low q t h e = let c : class_of t ≡ (class_number class.Quoted) = rw (quoted_of_token q t h e) refl in omega (arith, c)

pub number_low : (t : List ℕ) (z : ℤ) → spelled_i64 t ≡ Some z → class_of t < 63
number_low t z e = pick (is_place z) (rw (number_unquoted t z e) (rw e refl))
  where
    pick : (b : Bool) → class_of t ≡ (if b then (class_number class.Place) else (class_number class.Number)) → class_of t < 63
    pick true c = omega (arith, c)
    pick false c = omega (arith, c)
