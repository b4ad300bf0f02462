-- The meaning of a phrase is one whole action, where templates are whole and lexemes have their forms.
use Rattle.std.proofs.Common.{◌≡◌, ℕ, zero, suc, Bool, true, false, List, [], ◌∷◌, ◌++◌, Option, Some, None, Ok, Err, refl, sym, ap, subst, ◌∙◌, append_assoc}
use Rattle.std.specs.Prelude.{All, IsTrue, nat_lt, if◌then◌else◌, pos, slice_get, ◌^◌}
use Rattle.std.specs.List.{list_any}
use Rattle.std.specs.Option.{option_to_list}
use Rattle.std.specs.Str.{bytes_eq}
use Rattle.std.proofs.lemmas.List.Elements.{All-nil, All-cons, All-head, All-tail}
use Rattle.action_terms.specs.Labels as plain
use Rattle.action_terms.specs.Labels.{Wanted, AnAction, AYielder, AnItem, AClosure, is_token}
use Rattle.action_terms.specs.Places.{fills}
use Rattle.action_terms.proofs.Whole.{both}
use Rattle.action_terms.specs.declared.kinds.Kind.TheVariants as kind
use Rattle.action_terms.specs.declared.kinds.YKind.TheVariants as ykind
use Rattle.gram_form.specs.Trees.{PlainTree, Node, Pieces, End, Lexeme, Under}
use Rattle.source_lex.specs.Forms.{has_form}
use Rattle.source_lex.specs.Lexemes.{PlainLexeme}
use Rattle.source_lex.specs.declared.lexeme.LexKind.{LexKind}
use Rattle.source_lex.specs.declared.lexeme.LexKind.TheVariants.{Literal, Identifier, Numeral}
use Rattle.meta_terms.specs.PlainItems.{PlainPatternPart, PlainEquation}
use Rattle.meta_terms.specs.Templates.{Label, ActionNode, YielderNode, ActionTokenOf, YielderTokenOf, Applied, ValueOf}
use Rattle.meta_terms.specs.Templates as template
use Rattle.meta_check.specs.Checked.{PlainDescription}
use Rattle.equation_expand.specs.Kept.{HasWholeTemplates, HaveForms}
use Rattle.equation_expand.specs.Meaning.{Gap, Meaning, NoEquation, LargeNumeral, Part, Word, Phrase, equation_among, equation_of, is_equation_for, part_of, lexeme_of, named, named_by, valued, valued_by, applied, node_filled, joined, filled, equation_filled, meaning, parts_of, number_of_function}
use Rattle.equation_expand.proofs.Identifiers.{identifier-is-token}

-- ---- what is put in

-- a meaning fills the place of an action
abbrev FillsAction : Meaning → Type 0
FillsAction m = (xs : List plain.Label) (places : List Wanted) (rest : List plain.Label) → m ≡ Ok xs → fills places rest ≡ true → fills (AnAction ∷ places) (xs ++ rest) ≡ true

-- lexemes have their form, and meanings fill the place of an action
abbrev IsGood : Part → Type 0
IsGood (Word (Some l)) = IsTrue (has_form l.kind l.bytes)
IsGood (Word None) = Unit {0}
IsGood (Phrase m) = (f : List ℕ) → FillsAction (m f)

abbrev IsGoodFor : Option Part → Type 0
IsGoodFor None = Unit {0}
IsGoodFor (Some x) = IsGood x

ok-is : (x y : List plain.Label) → (let r : Meaning = Ok x in r) ≡ Ok y → x ≡ y
ok-is x y e = cc

-- one node in its place
one-fills : (x : Wanted) (m : plain.Label) (xs : List Wanted) (rest : List plain.Label) → plain.serves x m ≡ true → fills (plain.under m ++ xs) rest ≡ true → fills (x ∷ xs) ((m ∷ []) ++ rest) ≡ true
one-fills x m xs rest s h = rw s h

-- a node with the bytes of an identifier
named-fills : (o : Option Part) (f : List ℕ → plain.Label) (x : Wanted) (ys xs : List Wanted) (zs rest : List plain.Label) → IsGoodFor o → named (lexeme_of o) f ≡ Ok zs
    → ((t : List ℕ) → is_token t ≡ true → (plain.serves x (f t) ≡ true) × (plain.under (f t) ≡ ys)) → fills (ys ++ xs) rest ≡ true → fills (x ∷ xs) (zs ++ rest) ≡ true
named-fills None f x ys xs zs rest good e fit h = absurd (cc)
named-fills (Some (Phrase m)) f x ys xs zs rest good e fit h = absurd (cc)
named-fills (Some (Word None)) f x ys xs zs rest good e fit h = absurd (cc)
named-fills (Some (Word (Some l))) f x ys xs zs rest good e fit h = go l.kind l.bytes good e
  where
    go : (k : LexKind) (bytes : List ℕ) → IsTrue (has_form k bytes) → named_by k bytes f ≡ Ok zs → fills (x ∷ xs) (zs ++ rest) ≡ true
    go Identifier bytes form e =
        let s = fit bytes (identifier-is-token bytes form) in
        subst (λ q. fills (x ∷ xs) (q ++ rest) ≡ true) (ok-is (f bytes ∷ []) zs e) (one-fills x (f bytes) xs rest s.0 (rw s.1 h))
    go Numeral bytes form e = absurd (cc)
    go (Literal n) bytes form e = absurd (cc)

abbrev number : ℕ → plain.Label
number v = plain.YielderNode (ykind.Number (pos v)) []

-- a number with the value of a numeral
valued-fills : (o : Option Part) (x : Wanted) (xs : List Wanted) (zs rest : List plain.Label) → valued (lexeme_of o) ≡ Ok zs → ((v : ℕ) → plain.serves x (number v) ≡ true) → fills xs rest ≡ true → fills (x ∷ xs) (zs ++ rest) ≡ true
valued-fills None x xs zs rest e place h = absurd (cc)
valued-fills (Some (Phrase m)) x xs zs rest e place h = absurd (cc)
valued-fills (Some (Word None)) x xs zs rest e place h = absurd (cc)
valued-fills (Some (Word (Some l))) x xs zs rest e place h = go l.kind (Rattle.acg_base.specs.Decimals.number_of l.bytes) e
  where
    pick : (v : ℕ) (b : Bool) → (let r : Meaning = if b then Ok (number v ∷ []) else Err (LargeNumeral l.offset) in r) ≡ Ok zs → fills (x ∷ xs) (zs ++ rest) ≡ true
    pick v true q = subst (λ z. fills (x ∷ xs) (z ++ rest) ≡ true) (ok-is (number v ∷ []) zs q) (one-fills x (number v) xs rest (place v) h)
    pick v false q = absurd (cc)

    go : (k : LexKind) (v : ℕ) → valued_by k v l.offset ≡ Ok zs → fills (x ∷ xs) (zs ++ rest) ≡ true
    go Numeral v e = pick v (nat_lt v (2 ^ 63)) e
    go Identifier v e = absurd (cc)
    go (Literal n) v e = absurd (cc)

applied-fills : (o : Option Part) (f : List ℕ) (xs : List Wanted) (zs rest : List plain.Label) → IsGoodFor o → applied o f ≡ Ok zs → fills xs rest ≡ true → fills (AnAction ∷ xs) (zs ++ rest) ≡ true
applied-fills None f xs zs rest good e h = absurd (cc)
applied-fills (Some (Word l)) f xs zs rest good e h = absurd (cc)
applied-fills (Some (Phrase m)) f xs zs rest good e h = good f zs xs rest e h

-- ---- templates

-- a node of a template is filled by what fits its place
node-fills : (part : List ℕ → Option Part) → ((v : List ℕ) → IsGoodFor (part v)) → (l : Label) (x : Wanted) (xs : List Wanted) (zs rest : List plain.Label) → template.serves x l ≡ true → node_filled part l ≡ Ok zs → fills (template.under l ++ xs) rest ≡ true
    → fills (x ∷ xs) (zs ++ rest) ≡ true
node-fills g good (ActionNode k n t) x xs zs rest s e h = subst (λ z. fills (x ∷ xs) (z ++ rest) ≡ true) (ok-is _ zs e) (one-fills x (plain.ActionNode k n t) xs rest s h)
node-fills g good (YielderNode k t) x xs zs rest s e h = subst (λ z. fills (x ∷ xs) (z ++ rest) ≡ true) (ok-is _ zs e) (one-fills x (plain.YielderNode k t) xs rest s h)
node-fills g good (ActionTokenOf kind.Bind zero [] v) AnAction xs zs rest s e h = named-fills (g v) (λ t. plain.ActionNode kind.Bind 0 t) AnAction (AYielder ∷ []) xs zs rest (good v) e (λ t k. (k, refl)) h
node-fills g good (ActionTokenOf kind.BindRec zero [] v) AnAction xs zs rest s e h = named-fills (g v) (λ t. plain.ActionNode kind.BindRec 0 t) AnAction (AClosure ∷ []) xs zs rest (good v) e (λ t k. (k, refl)) h
node-fills g good (ActionTokenOf _ zero [] v) AnAction xs zs rest s e h = absurd (let r : false ≡ true = s in cc)
node-fills g good (ActionTokenOf k zero (b ∷ t) v) AnAction xs zs rest s e h = absurd (let r : false ≡ true = s in cc)
node-fills g good (ActionTokenOf k (suc n) t v) AnAction xs zs rest s e h = absurd (let r : false ≡ true = s in cc)
node-fills g good (ActionTokenOf k n t v) AYielder xs zs rest s e h = absurd (let r : false ≡ true = s in cc)
node-fills g good (ActionTokenOf k n t v) AnItem xs zs rest s e h = absurd (let r : false ≡ true = s in cc)
node-fills g good (ActionTokenOf k n t v) AClosure xs zs rest s e h = absurd (let r : false ≡ true = s in cc)
node-fills g good (YielderTokenOf (ykind.Bound q) [] v) AYielder xs zs rest s e h = named-fills (g v) (λ t. plain.YielderNode (ykind.Bound q) t) AYielder [] xs zs rest (good v) e (λ t k. (k, refl)) h
node-fills g good (YielderTokenOf (ykind.Bound q) [] v) AnItem xs zs rest s e h = named-fills (g v) (λ t. plain.YielderNode (ykind.Bound q) t) AnItem [] xs zs rest (good v) e (λ t k. (k, refl)) h
node-fills g good (YielderTokenOf _ [] v) AYielder xs zs rest s e h = absurd (let r : false ≡ true = s in cc)
node-fills g good (YielderTokenOf _ [] v) AnItem xs zs rest s e h = absurd (let r : false ≡ true = s in cc)
node-fills g good (YielderTokenOf k (b ∷ t) v) AYielder xs zs rest s e h = absurd (let r : false ≡ true = s in cc)
node-fills g good (YielderTokenOf k (b ∷ t) v) AnItem xs zs rest s e h = absurd (let r : false ≡ true = s in cc)
node-fills g good (YielderTokenOf k t v) AnAction xs zs rest s e h = absurd (let r : false ≡ true = s in cc)
node-fills g good (YielderTokenOf k t v) AClosure xs zs rest s e h = absurd (let r : false ≡ true = s in cc)
node-fills g good (ValueOf v) AYielder xs zs rest s e h = valued-fills (g v) AYielder xs zs rest e (λ v. refl) h
node-fills g good (ValueOf v) AnItem xs zs rest s e h = valued-fills (g v) AnItem xs zs rest e (λ v. refl) h
node-fills g good (ValueOf v) AnAction xs zs rest s e h = absurd (let r : false ≡ true = s in cc)
node-fills g good (ValueOf v) AClosure xs zs rest s e h = absurd (let r : false ≡ true = s in cc)
node-fills g good (Applied f v) AnAction xs zs rest s e h = applied-fills (g v) f xs zs rest (good v) e h
node-fills g good (Applied f v) AYielder xs zs rest s e h = absurd (let r : false ≡ true = s in cc)
node-fills g good (Applied f v) AnItem xs zs rest s e h = absurd (let r : false ≡ true = s in cc)
node-fills g good (Applied f v) AClosure xs zs rest s e h = absurd (let r : false ≡ true = s in cc)

joined-ok : (m n : Meaning) (zs : List plain.Label) → joined m n ≡ Ok zs → (xs : List plain.Label) × (ys : List plain.Label) × (m ≡ Ok xs) × (n ≡ Ok ys) × (xs ++ ys ≡ zs)
joined-ok (Ok xs) (Ok ys) zs e = (xs, ys, refl, refl, ok-is (xs ++ ys) zs e)
joined-ok (Ok xs) (Err gap) zs e = absurd (cc)
joined-ok (Err gap) n zs e = absurd (cc)

-- a template with all that is put in fills its places, with what fills the places behind it
filled-fills : (part : List ℕ → Option Part) → ((v : List ℕ) → IsGoodFor (part v)) → (ls : List Label) (xs places : List Wanted) (zs rest : List plain.Label) → template.fills xs ls ≡ true → filled part ls ≡ Ok zs → fills places rest ≡ true
    → fills (xs ++ places) (zs ++ rest) ≡ true
filled-fills g good [] [] places zs rest h e k = subst (λ z. fills places (z ++ rest) ≡ true) (ok-is [] zs e) k
filled-fills g good [] (x ∷ xs) places zs rest h e k = absurd (let r : false ≡ true = h in cc)
filled-fills g good (l ∷ ls) [] places zs rest h e k = absurd (let r : false ≡ true = h in cc)
filled-fills g good (l ∷ ls) (x ∷ xs) places zs rest h e k =
    let b = both (template.serves x l) (template.fills (template.under l ++ xs) ls) h in
    let j = joined-ok (node_filled g l) (filled g ls) zs e in
    let more = filled-fills g good ls (template.under l ++ xs) places j.1 rest b.1 j.3 k in
    let there = subst (λ q. fills q (j.1 ++ rest) ≡ true) (append_assoc (template.under l) xs places) more in
    let all = node-fills g good l x (xs ++ places) j.0 (j.1 ++ rest) b.0 j.2 there in
    subst (λ z. fills (x ∷ (xs ++ places)) z ≡ true) (sym (append_assoc j.0 j.1 rest) ∙ ap (λ q. q ++ rest) j.4) all

-- ---- phrases

abbrev AreGood : List Part → Type 0
AreGood parts = All IsGood parts

picked-good : (b : Bool) (x : Part) (o : Option Part) → IsGood x → IsGoodFor o → IsGoodFor (if b then Some x else o)
picked-good true x o g h = g
picked-good false x o g h = h

part-good : (pattern : List PlainPatternPart) (parts : List Part) → AreGood parts → (v : List ℕ) → IsGoodFor (part_of pattern parts v)
part-good [] parts good v = tt
part-good (p ∷ pattern) [] good v = tt
part-good (p ∷ pattern) (x ∷ parts) good v =
    picked-good (list_any (bytes_eq v) (option_to_list p.variable)) x (part_of pattern parts v) (All-head IsGood x parts good) (part-good pattern parts (All-tail IsGood x parts good) v)

-- the equation of a phrase is one of those of the description
abbrev IsWholeFor : Option PlainEquation → Type 0
IsWholeFor None = Unit {0}
IsWholeFor (Some e) = template.fills (AnAction ∷ []) e.action ≡ true

picked-whole : (b : Bool) (e : PlainEquation) (o : Option PlainEquation) → IsWholeFor (Some e) → IsWholeFor o → IsWholeFor (if b then Some e else o)
picked-whole true e o g h = g
picked-whole false e o g h = h

equation-whole : (d : PlainDescription) (es : List PlainEquation) → HasWholeTemplates es → (f : List ℕ) (a : ℕ) → IsWholeFor (equation_among d es f a)
equation-whole d [] h f a = tt
equation-whole d (e ∷ es) h f a =
    picked-whole (is_equation_for d f a e) e (equation_among d es f a) (All-head (λ (x : PlainEquation). template.fills (AnAction ∷ []) x.action ≡ true) e es h) (equation-whole d es (All-tail (λ (x : PlainEquation). template.fills (AnAction ∷ []) x.action ≡ true) e es h) f a)

equation-fills : (o : Option PlainEquation) (parts : List Part) (gap : Gap) → IsWholeFor o → AreGood parts → FillsAction (equation_filled o parts gap)
equation-fills None parts gap w good xs places rest e h = absurd (cc)
equation-fills (Some q) parts gap w good xs places rest e h =
    filled-fills (part_of q.pattern parts) (part-good q.pattern parts good) q.action (AnAction ∷ []) places xs rest w e h

lexeme-good : (ls : List PlainLexeme) → HaveForms ls → (k : ℕ) → IsGood (Word (slice_get ls k))
lexeme-good [] h k = tt
lexeme-good (l ∷ ls) h zero = All-head (λ (x : PlainLexeme). IsTrue (has_form x.kind x.bytes)) l ls h
lexeme-good (l ∷ ls) h (suc k) = lexeme-good ls (All-tail (λ (x : PlainLexeme). IsTrue (has_form x.kind x.bytes)) l ls h) k

module _ (d : PlainDescription) (ls : List PlainLexeme) (whole : HasWholeTemplates d.equations) (forms : HaveForms ls) where
  mutual
    -- the meaning of a phrase fills the place of an action
    pub meaning-fills : (t : PlainTree) (f : List ℕ) → FillsAction (meaning d ls t f)
    meaning-fills (Node p a pieces s e) f =
        equation-fills (equation_of d f a) (parts_of d ls pieces) (NoEquation (number_of_function d f) p a) (equation-whole d d.equations whole f a) (parts-good pieces)

    parts-good : (pieces : Pieces) → AreGood (parts_of d ls pieces)
    parts-good End = All-nil IsGood
    parts-good (Lexeme n rest) = All-cons IsGood (Word (slice_get ls n)) (parts_of d ls rest) (lexeme-good ls forms n) (parts-good rest)
    parts-good (Under t rest) = All-cons IsGood (Phrase (meaning d ls t)) (parts_of d ls rest) (λ f. meaning-fills t f) (parts-good rest)
