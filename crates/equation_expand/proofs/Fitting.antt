-- In a checked description no variable of a template stands for another part than the template asks for.
use Rattle.std.proofs.Common.{◌≡◌, ◌⊎◌, inl, inr, ◌∙◌, ℕ, zero, suc, ◌+◌, Bool, true, false, List, [], ◌∷◌, ◌++◌, map, Option, Some, None, option_to_list, Ok, Err, refl, sym, ap, subst, arith, ⊎_elim}
use Rattle.std.specs.Prelude.{◌||◌, ◌&&◌, not, nat_lt, if◌then◌else◌, slice_get, ◌^◌, pos}
use Rattle.std.specs.List.{list_any, list_all}
use Rattle.std.specs.Str.{bytes_eq}
use Rattle.std.proofs.lemmas.Bool.{and_parts, or_parts}
use Rattle.action_terms.specs.Labels as plain
use Rattle.gram_form.specs.Grammars.{names_of}
use Rattle.gram_form.specs.Plain.{PlainPart, PlainLiteral, PlainNonterm, PlainIdentifier, PlainNumeral, PlainProduction}
use Rattle.gram_form.specs.Trees.{PlainTree, Node, Pieces, End, Lexeme, Under}
use Rattle.source_lex.specs.Lexemes.{PlainLexeme}
use Rattle.source_lex.specs.Numbered.{Alternative, Numbered, numbered, place_of, symbol_of, alternative_of}
use Rattle.source_lex.specs.Numbered as source
use Rattle.source_lex.specs.Trees.{kinds_of, IsTree, ArePieces}
use Rattle.source_lex.specs.declared.lexeme.LexKind.{LexKind}
use Rattle.source_lex.specs.declared.lexeme.LexKind.TheVariants.{Identifier, Numeral}
use Rattle.source_lex.specs.declared.numbered.Symbol.TheVariants as symbol
use Rattle.meta_terms.specs.PlainItems.{PlainDeclaration, PlainPatternPart, PlainEquation}
use Rattle.meta_terms.specs.Templates.{Label, ActionNode, YielderNode, ActionTokenOf, YielderTokenOf, Applied, ValueOf}
use Rattle.meta_check.specs.Checked.{PlainDescription, IsChecked, items_of}
use Rattle.meta_check.specs.Rules.{fits, stands_for}
use Rattle.meta_check.specs.Views.{declarations_of, alternatives_of, applies_outside, is_in, nonterminal_of, part_for, parts_of_pattern, same_part, uses_outside, variables_of}
use Rattle.meta_check.proofs.InOrder.{kinds_kept}
use Rattle.meta_check.proofs.Known.{was_there}
use Rattle.meta_check.proofs.SameParts.{parts_same}
use Rattle.equation_expand.specs.Meaning.{Meaning, NoEquation, LargeNumeral, Misfit, Part, Word, Phrase, applied, equation_filled, equation_of, filled, joined, lexeme_of, meaning, named, named_by, node_filled, number_of_function, part_of, parts_of, valued, valued_by}
use Rattle.equation_expand.proofs.FoundEquations.{IsFitting, fitting}

-- ---- names and numbers

-- a function that is known has a nonterminal
declared : (fs : List PlainDeclaration) (f : List ℕ) → is_in (map (λ (q : PlainDeclaration). q.function) fs) f ≡ true → (name : List ℕ) × (nonterminal_of fs f ≡ Some name)
declared [] f h = absurd (let r : false ≡ true = h in cc)
declared (q ∷ fs) f h = go (bytes_eq f q.function) h (λ k. declared fs f k)
  where
    go : (b : Bool) → (b || is_in (map (λ (q : PlainDeclaration). q.function) fs) f) ≡ true → (is_in (map (λ (q : PlainDeclaration). q.function) fs) f ≡ true → (name : List ℕ) × (nonterminal_of fs f ≡ Some name))
        → (name : List ℕ) × ((if b then Some q.nonterminal else nonterminal_of fs f) ≡ Some name)
    go true h later = (q.nonterminal, refl)
    go false h later = later h

slice-map : {A B : Type 0} (f : A → B) (xs : List A) (k : ℕ) (x : A) → slice_get xs k ≡ Some x → slice_get (map f xs) k ≡ Some (f x)
slice-map f [] k x h = absurd (cc)
slice-map f (y ∷ xs) zero x h = ap Some (ap f (let e : y ≡ x = cc in e))
slice-map f (y ∷ xs) (suc k) x h = slice-map f xs k x h

some-is : {A : Type 0} (x y : A) → Some x ≡ Some y → x ≡ y
some-is x y e = cc

-- the alternatives of a nonterminal, with numbers
numbered-there : (names literals : List (List ℕ)) (ps : List PlainProduction) (name : List ℕ) (a : ℕ) (parts : List PlainPart) (symbols : Alternative) → slice_get (alternatives_of ps name) a ≡ Some parts
    → alternative_of (map (source.alternatives_of names literals) ps) (place_of (names_of ps) name) a ≡ Some symbols → symbols ≡ map (symbol_of names literals) parts
numbered-there names literals [] name a parts symbols h k = absurd (cc)
numbered-there names literals (p ∷ ps) name a parts symbols h k = go (bytes_eq name p.name) h k (λ h k. numbered-there names literals ps name a parts symbols h k)
  where
    go : (b : Bool) → slice_get (if b then p.alternatives else alternatives_of ps name) a ≡ Some parts
        → alternative_of (map (source.alternatives_of names literals) (p ∷ ps)) (if not b then 1 + place_of (names_of ps) name else 0) a ≡ Some symbols
        → (slice_get (alternatives_of ps name) a ≡ Some parts → alternative_of (map (source.alternatives_of names literals) ps) (place_of (names_of ps) name) a ≡ Some symbols → symbols ≡ map (symbol_of names literals) parts)
        → symbols ≡ map (symbol_of names literals) parts
    go true h k later = some-is symbols _ (sym k ∙ slice-map (map (symbol_of names literals)) p.alternatives a parts h)
    go false h k later = later h (subst (λ n. alternative_of (map (source.alternatives_of names literals) (p ∷ ps)) n a ≡ Some symbols) (let e : 1 + place_of (names_of ps) name ≡ suc (place_of (names_of ps) name) = omega arith in e) k)

-- ---- variables

-- a variable of a pattern stands for a part
stands : (pattern : List PlainPatternPart) (v : List ℕ) → is_in (variables_of pattern) v ≡ true → (p : PlainPart) × (part_for pattern v ≡ Some p)
stands [] v h = absurd (let r : false ≡ true = h in cc)
stands (p ∷ pattern) v h = go p.variable h (λ k. stands pattern v k)
  where
    pick : (b : Bool) → (b || is_in (variables_of pattern) v) ≡ true → (is_in (variables_of pattern) v ≡ true → (q : PlainPart) × (part_for pattern v ≡ Some q)) → (q : PlainPart) × ((if b || false then Some p.part else part_for pattern v) ≡ Some q)
    pick true h later = (p.part, refl)
    pick false h later = later h

    go : (o : Option (List ℕ)) → is_in (option_to_list o ++ variables_of pattern) v ≡ true → (is_in (variables_of pattern) v ≡ true → (q : PlainPart) × (part_for pattern v ≡ Some q)) → (q : PlainPart) × ((if list_any (bytes_eq v) (option_to_list o) then Some p.part else part_for pattern v) ≡ Some q)
    go None h later = later h
    go (Some x) h later = pick (bytes_eq v x) h later

module _ (d : PlainDescription) (checked : IsChecked d) (ls : List PlainLexeme) where
  abbrev g : Numbered
  g = numbered d.grammar

  abbrev w : List LexKind
  w = kinds_of ls

  abbrev names : List (List ℕ)
  names = names_of d.grammar.productions

  -- the meanings of a phrase of a nonterminal, by the functions of the nonterminal, are no misfits
  abbrev pub HasFitMeanings : (name : List ℕ) → (List ℕ → Meaning) → Type 0
  HasFitMeanings name m = (f : List ℕ) → nonterminal_of d.functions f ≡ Some name → m f ≡ Err Misfit → ⊥

  -- what stands for a part of an alternative is of its kind
  abbrev IsPartFor : PlainPart → Part → Type 0
  IsPartFor (PlainLiteral bytes) x = Unit {0}
  IsPartFor (PlainNonterm name) (Phrase m) = HasFitMeanings name m
  IsPartFor PlainIdentifier (Word (Some l)) = l.kind ≡ Identifier
  IsPartFor PlainNumeral (Word (Some l)) = l.kind ≡ Numeral
  IsPartFor _ _ = ⊥

  abbrev ArePartsFor : List PlainPart → List Part → Type 0
  ArePartsFor [] [] = Unit {0}
  ArePartsFor (p ∷ ps) (x ∷ xs) = IsPartFor p x × ArePartsFor ps xs
  ArePartsFor _ _ = ⊥

  -- what a variable stands for is of the kind of its part
  abbrev IsFor : Option PlainPart → Option Part → Type 0
  IsFor None x = Unit {0}
  IsFor (Some p) (Some x) = IsPartFor p x
  IsFor (Some p) None = ⊥

  variable-for : (pattern : List PlainPatternPart) (parts : List Part) → ArePartsFor (parts_of_pattern pattern) parts → (v : List ℕ) → IsFor (part_for pattern v) (part_of pattern parts v)
  variable-for [] parts h v = tt
  variable-for (p ∷ pattern) [] h v = absurd h
  variable-for (p ∷ pattern) (x ∷ parts) h v = go (list_any (bytes_eq v) (option_to_list p.variable)) (variable-for pattern parts h.1 v)
    where
      go : (b : Bool) → IsFor (part_for pattern v) (part_of pattern parts v) → IsFor (if b then Some p.part else part_for pattern v) (if b then Some x else part_of pattern parts v)
      go true later = h.0
      go false later = later

  -- ---- the nodes of a template

  -- the only part that a variable may stand for
  wanted : (p q : PlainPart) → stands_for (q ∷ []) (Some p) ≡ true → p ≡ q
  wanted p q h = let e : p ∷ [] ≡ q ∷ [] = parts_same (p ∷ []) (q ∷ []) (ap (λ b. b && true) (or-false (same_part p q) h)) in cc
    where
      or-false : (b : Bool) → (b || false) ≡ true → b ≡ true
      or-false true h = refl
      or-false false h = h

  -- what stands for an identifier isn't amiss, nor what stands for a numeral
  named-fits : (x : Option Part) (node : List ℕ → plain.Label) → IsFor (Some PlainIdentifier) x → named (lexeme_of x) node ≡ Err Misfit → ⊥
  named-fits None node h e = h
  named-fits (Some (Phrase m)) node h e = h
  named-fits (Some (Word None)) node h e = h
  named-fits (Some (Word (Some l))) node h e = let r : named_by Identifier l.bytes node ≡ Err Misfit = ap (λ k. named_by k l.bytes node) (sym h) ∙ e in cc

  valued-fits : (x : Option Part) → IsFor (Some PlainNumeral) x → valued (lexeme_of x) ≡ Err Misfit → ⊥
  valued-fits None h e = h
  valued-fits (Some (Phrase m)) h e = h
  valued-fits (Some (Word None)) h e = h
  valued-fits (Some (Word (Some l))) h e =
      let n = Rattle.acg_base.specs.Decimals.number_of l.bytes in
      go (nat_lt n (2 ^ 63)) n (ap (λ k. valued_by k n l.offset) (sym h) ∙ e)
    where
      go : (b : Bool) (n : ℕ) → (let m : Meaning = if b then Ok (plain.YielderNode (Rattle.action_terms.specs.declared.kinds.YKind.TheVariants.Number (pos n)) [] ∷ []) else Err (LargeNumeral l.offset) in m) ≡ Err Misfit → ⊥
      go true n e = cc
      go false n e = cc

  applied-fits : (x : Option Part) (f name : List ℕ) → nonterminal_of d.functions f ≡ Some name → IsFor (Some (PlainNonterm name)) x → applied x f ≡ Err Misfit → ⊥
  applied-fits None f name known h e = h
  applied-fits (Some (Word l)) f name known h e = h
  applied-fits (Some (Phrase m)) f name known h e = h f known e

  -- a node of a template whose variables are used as they may be
  record IsUsed (e : PlainEquation) (l : Label) : Type 0 where
    function : applies_outside (map (λ (f : PlainDeclaration). f.function) d.functions) l ≡ false
    variable : uses_outside (variables_of e.pattern) l ≡ false
    fit : fits (items_of d) e l ≡ true

  -- the part of a variable that is used
  part-used : (e : PlainEquation) (v : List ℕ) → list_any (λ u. not (is_in (variables_of e.pattern) u)) (v ∷ []) ≡ false → (p : PlainPart) × (part_for e.pattern v ≡ Some p)
  part-used e v h = stands e.pattern v (was_there (is_in (variables_of e.pattern) v) (or_parts (not (is_in (variables_of e.pattern) v)) false h).0)

  -- it is the one that is asked for
  part-is : (e : PlainEquation) (v : List ℕ) (q : PlainPart) → list_any (λ u. not (is_in (variables_of e.pattern) u)) (v ∷ []) ≡ false → stands_for (q ∷ []) (part_for e.pattern v) ≡ true → part_for e.pattern v ≡ Some q
  part-is e v q used fit =
      let r = part-used e v used in
      r.1 ∙ ap Some (wanted r.0 q (ap (stands_for (q ∷ [])) (sym r.1) ∙ fit))

  node-fits : (e : PlainEquation) (parts : List Part) → ArePartsFor (parts_of_pattern e.pattern) parts → (l : Label) → IsUsed e l → node_filled (part_of e.pattern parts) l ≡ Err Misfit → ⊥
  node-fits e parts good (ActionNode k n t) used h = cc
  node-fits e parts good (YielderNode k t) used h = cc
  node-fits e parts good (ActionTokenOf k n t v) used h =
      let is = part-is e v PlainIdentifier used.variable used.fit in
      named-fits (part_of e.pattern parts v) (λ bytes. plain.ActionNode k n bytes) (subst (λ o. IsFor o (part_of e.pattern parts v)) is (variable-for e.pattern parts good v)) h
  node-fits e parts good (YielderTokenOf k t v) used h =
      let is = part-is e v PlainIdentifier used.variable used.fit in
      named-fits (part_of e.pattern parts v) (λ bytes. plain.YielderNode k bytes) (subst (λ o. IsFor o (part_of e.pattern parts v)) is (variable-for e.pattern parts good v)) h
  node-fits e parts good (ValueOf v) used h =
      let is = part-is e v PlainNumeral used.variable used.fit in
      valued-fits (part_of e.pattern parts v) (subst (λ o. IsFor o (part_of e.pattern parts v)) is (variable-for e.pattern parts good v)) h
  node-fits e parts good (Applied f v) used h =
      let known = declared d.functions f (was_there (is_in (map (λ (q : PlainDeclaration). q.function) d.functions) f) used.function) in
      let all = kinds_kept d.grammar.productions d.functions d.equations in
      let asked : nonterminal_of (declarations_of (items_of d)) f ≡ Some known.0 = ap (λ ds. nonterminal_of ds f) all.declarations ∙ known.1 in
      let fit : stands_for (PlainNonterm known.0 ∷ []) (part_for e.pattern v) ≡ true = ap (λ o. stands_for (map PlainNonterm (option_to_list o)) (part_for e.pattern v)) (sym asked) ∙ used.fit in
      let is = part-is e v (PlainNonterm known.0) used.variable fit in
      applied-fits (part_of e.pattern parts v) f known.0 known.1 (subst (λ o. IsFor o (part_of e.pattern parts v)) is (variable-for e.pattern parts good v)) h

  -- of two meanings one is amiss where they are amiss together
  joined-misfit : (m n : Meaning) → joined m n ≡ Err Misfit → (m ≡ Err Misfit) ⊎ (n ≡ Err Misfit)
  joined-misfit (Ok xs) (Ok ys) h = absurd (cc)
  joined-misfit (Ok xs) (Err gap) h = inr (let e : gap ≡ Misfit = cc in ap Err e)
  joined-misfit (Err gap) n h = inl h

  template-fits : (e : PlainEquation) (parts : List Part) → ArePartsFor (parts_of_pattern e.pattern) parts → (ls : List Label)
      → list_any (applies_outside (map (λ (f : PlainDeclaration). f.function) d.functions)) ls ≡ false → list_any (uses_outside (variables_of e.pattern)) ls ≡ false → list_all (fits (items_of d) e) ls ≡ true
      → filled (part_of e.pattern parts) ls ≡ Err Misfit → ⊥
  template-fits e parts good [] f v s h = cc
  template-fits e parts good (l ∷ ls) f v s h =
      let fs = or_parts (applies_outside (map (λ (q : PlainDeclaration). q.function) d.functions) l) _ f in
      let vs = or_parts (uses_outside (variables_of e.pattern) l) _ v in
      let ss = and_parts (fits (items_of d) e l) _ s in
      ⊎_elim (λ (m : node_filled (part_of e.pattern parts) l ≡ Err Misfit). node-fits e parts good l (record { function = fs.0; variable = vs.0; fit = ss.0 }) m)
      (λ (m : filled (part_of e.pattern parts) ls ≡ Err Misfit). template-fits e parts good ls fs.1 vs.1 ss.1 m)
      (joined-misfit (node_filled (part_of e.pattern parts) l) (filled (part_of e.pattern parts) ls) h)

  -- ---- phrases

  lexeme-there : (ls : List PlainLexeme) (k : ℕ) (kind : LexKind) → slice_get (kinds_of ls) k ≡ Some kind → (l : PlainLexeme) × (slice_get ls k ≡ Some l) × (l.kind ≡ kind)
  lexeme-there [] k kind h = absurd (cc)
  lexeme-there (l ∷ ls) zero kind h = (l, refl, cc)
  lexeme-there (l ∷ ls) (suc k) kind h = lexeme-there ls k kind h

  word-for : (p : PlainPart) (i : ℕ) (kind : LexKind) → symbol_of names d.grammar.literals p ≡ symbol.Word kind → slice_get w i ≡ Some kind → IsPartFor p (Word (slice_get ls i))
  word-for (PlainLiteral bytes) i kind e h = tt
  word-for (PlainNonterm name) i kind e h = absurd (cc)
  word-for PlainIdentifier i kind e h =
      let l = lexeme-there ls i kind h in
      let is : Identifier ≡ kind = cc in
      subst (λ o. IsPartFor PlainIdentifier (Word o)) (sym l.1) (l.2 ∙ sym is)
  word-for PlainNumeral i kind e h =
      let l = lexeme-there ls i kind h in
      let is : Numeral ≡ kind = cc in
      subst (λ o. IsPartFor PlainNumeral (Word o)) (sym l.1) (l.2 ∙ sym is)

  phrase-for : (p : PlainPart) (n : ℕ) (m : List ℕ → Meaning) → symbol_of names d.grammar.literals p ≡ symbol.Phrase n → ((name : List ℕ) → n ≡ place_of names name → HasFitMeanings name m) → IsPartFor p (Phrase m)
  phrase-for (PlainLiteral bytes) n m e h = tt
  phrase-for (PlainNonterm name) n m e h = h name (let is : place_of names name ≡ n = cc in sym is)
  phrase-for PlainIdentifier n m e h = absurd (cc)
  phrase-for PlainNumeral n m e h = absurd (cc)

  mutual
    -- the meaning of a tree of a nonterminal by a function of it isn't amiss
    pub meaning-fits : (t : PlainTree) (n i j : ℕ) (name : List ℕ) → n ≡ place_of names name → IsTree g w n i j t → HasFitMeanings name (meaning d ls t)
    meaning-fits (Node p a pieces s z) n i j name is tree f known h = go (equation_of d f a) refl h (λ ps x. pieces-fit ps pieces i j x)
      where
        go : (o : Option PlainEquation) → equation_of d f a ≡ o → equation_filled o (parts_of d ls pieces) (NoEquation (number_of_function d f) p a) ≡ Err Misfit
            → ((ps : List PlainPart) → ArePieces g w (map (symbol_of names d.grammar.literals) ps) i j pieces → ArePartsFor ps (parts_of d ls pieces)) → ⊥
        go None e h fit = cc
        go (Some q) e h fit =
            let r : IsFitting d f a q = fitting d checked f a q e in
            let same : name ≡ r.rules.nonterminal = some-is name r.rules.nonterminal (sym known ∙ ap (nonterminal_of d.functions) r.function ∙ r.rules.declared) in
            let at : alternative_of g (place_of names r.rules.nonterminal) a ≡ Some tree.3 = ap (λ k. alternative_of g k a) (ap (place_of names) (sym same) ∙ sym is) ∙ tree.4 in
            let symbols = numbered-there names d.grammar.literals d.grammar.productions r.rules.nonterminal a (parts_of_pattern q.pattern) tree.3 r.parts at in
            let good = fit (parts_of_pattern q.pattern) (subst (λ x. ArePieces g w x i j pieces) symbols tree.5) in
            template-fits q (parts_of d ls pieces) good q.action r.rules.functions r.rules.variables r.rules.fitting h

    pieces-fit : (ps : List PlainPart) (pieces : Pieces) (i j : ℕ) → ArePieces g w (map (symbol_of names d.grammar.literals) ps) i j pieces → ArePartsFor ps (parts_of d ls pieces)
    pieces-fit [] End i j h = tt
    pieces-fit (p ∷ ps) End i j h = absurd (let e = h.0 in cc)
    pieces-fit [] (Lexeme number rest) i j h = absurd (let e = h.3 in cc)
    pieces-fit (p ∷ ps) (Lexeme number rest) i j h =
        let e : symbol_of names d.grammar.literals p ∷ map (symbol_of names d.grammar.literals) ps ≡ symbol.Word h.1 ∷ h.2 = h.3 in
        let first : symbol_of names d.grammar.literals p ≡ symbol.Word h.1 = cc in
        let others : h.2 ≡ map (symbol_of names d.grammar.literals) ps = cc in
        (subst (λ k. IsPartFor p (Word (slice_get ls k))) (sym h.0) (word-for p i h.1 first h.4), pieces-fit ps rest (i + 1) j (subst (λ x. ArePieces g w x (i + 1) j rest) others h.5))
    pieces-fit [] (Under tree rest) i j h = absurd (let e = h.3 in cc)
    pieces-fit (p ∷ ps) (Under tree rest) i j h =
        let e : symbol_of names d.grammar.literals p ∷ map (symbol_of names d.grammar.literals) ps ≡ symbol.Phrase h.0 ∷ h.1 = h.3 in
        let first : symbol_of names d.grammar.literals p ≡ symbol.Phrase h.0 = cc in
        let others : h.1 ≡ map (symbol_of names d.grammar.literals) ps = cc in
        (phrase-for p h.0 (meaning d ls tree) first (λ name is. meaning-fits tree h.0 i h.2 name is h.4), pieces-fit ps rest h.2 j (subst (λ x. ArePieces g w x h.2 j rest) others h.5))
