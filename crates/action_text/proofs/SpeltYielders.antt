-- The yielders are read as they are spelled.
use Rattle.std.proofs.Common.{◌≡◌, Some, ℕ, zero, suc, Bool, true, false, List, [], ◌∷◌, ◌++◌, refl, sym, ap, subst, ◌∙◌, append_assoc, append-nil, codes, if◌then◌else◌, arith}
use Rattle.std.specs.Prelude.{ℤ, pos, nat_le, unwrap_or}
use Rattle.std.proofs.lemmas.Bool.Decides.{nat_tests}
use Rattle.action_text.proofs.Tests.{and_left, and_right}
use Rattle.action_terms.specs.Labels.{AYielder, has_no_token, is_token}
use Rattle.meta_terms.specs.Names.{is_variable}
use Rattle.meta_terms.specs.Templates.{YielderTokenOf, ValueOf, YielderNode, serves}
use Rattle.action_terms.specs.Trees.{tree, none, more}
use Rattle.action_terms.specs.declared.kinds.YKind.{YKind}
use Rattle.action_terms.specs.declared.kinds.YKind.TheVariants as ykind
use Rattle.action_terms.specs.declared.kinds.Sort.{Sort}
use Rattle.action_terms.specs.declared.kinds.Sort.TheVariants as sort
use Rattle.action_text.specs.declared.table.Mark.TheVariants as mark
use Rattle.action_text.specs.declared.classes.Class.TheVariants as class
use Rattle.action_text.specs.Numbers.{class_number, name_number}
use Rattle.action_text.specs.declared.names.Name.TheVariants as name
use Rattle.action_text.specs.Tables.{Read, Keep, Emit, Name, line_of, other_of, Token, line}
use Rattle.action_text.specs.Shapes.{Fixed, Part, sort_word, open_paren, close_paren, comma, one_argument, two_arguments}
use Rattle.action_text.specs.ActionText.{Weaves}
use Rattle.action_text.specs.Posts.{postorder, postorders}
use Rattle.action_text.specs.Notes.{Noting, marked, note, value_of, place_of, yielder_with}
use Rattle.action_text.specs.Classes.{is_place, template_class}
use Rattle.action_text.specs.ActionTable.{template_table, template_lines, action_lines, parameter_lines, action_others}
use Rattle.action_text.proofs.Meanings.{does_keep, does_line, does_other}
use Rattle.action_text.proofs.Means.{wrote}
use Rattle.action_text.proofs.QuotedTokens.{unquoted_back, quoted_of_token}
use Rattle.action_text.proofs.YielderRows.{yielder_quoted, yielder_variable}
use Rattle.action_text.proofs.TemplateWords.{variable_class}
use Rattle.action_text.proofs.Spelling.{Goes, word_line, word_read, name_then, on_tokens, pieces_go}
use Rattle.action_text.proofs.SpeltNodes.{NodeGoes, node_goes, begun_goes, bare_yielder, number_class_of}
use Rattle.action_text.proofs.SpeltActions.{emits, token_goes, token_of_goes}

number_goes : (z : ℤ) → NodeGoes (name_number name.Yielder) (YielderNode (ykind.Number z) [])
unfolding line_of template_lines action_lines parameter_lines
number_goes z none all are [] (parts, spelled, woven) st = absurd woven
number_goes z none all are (t ∷ ts) (parts, spelled, woven) st = by_place (is_place z) refl
  where
    value : value_of t ≡ z
    value = ap (λ o. unwrap_or o (pos 0)) woven.0

    written : Goes (Emit mark.Number ∷ []) (note (Token t) st) [] (wrote (postorder (tree (YielderNode (ykind.Number z) []) none)) st)
    written = emits mark.Number (note (Token t) st) (wrote (postorder (tree (YielderNode (ykind.Number z) []) none)) st)
        (ap (λ v. wrote (YielderNode (ykind.Number v) [] ∷ []) st) value)

    by_place : (place : Bool) → is_place z ≡ place → Goes (Name (name_number name.Yielder) ∷ []) st (t ∷ ts) (wrote (postorder (tree (YielderNode (ykind.Number z) []) none)) st)
    by_place true h =
        on_tokens (Name (name_number name.Yielder) ∷ []) st (wrote (postorder (tree (YielderNode (ykind.Number z) []) none)) st) (t ∷ []) (t ∷ ts) (ap (λ y. t ∷ y) (sym (subst (λ (p : List (List (List ℕ))). Weaves [] p ts) spelled woven.1)))
        (does_line template_table (name_number name.Yielder) (line (name_number name.Yielder) (class_number class.Place) true (Emit mark.Number ∷ [])) st (wrote (postorder (tree (YielderNode (ykind.Number z) []) none)) st) t []
        (ap (λ c. line_of template_lines (name_number name.Yielder) c) (number_class_of t z true woven.0 h)) written)
    by_place false h =
        on_tokens (Name (name_number name.Yielder) ∷ []) st (wrote (postorder (tree (YielderNode (ykind.Number z) []) none)) st) (t ∷ []) (t ∷ ts) (ap (λ y. t ∷ y) (sym (subst (λ (p : List (List (List ℕ))). Weaves [] p ts) spelled woven.1)))
        (does_line template_table (name_number name.Yielder) (line (name_number name.Yielder) (class_number class.Number) true (Emit mark.Number ∷ [])) st (wrote (postorder (tree (YielderNode (ykind.Number z) []) none)) st) t []
        (ap (λ c. line_of template_lines (name_number name.Yielder) c) (number_class_of t z false woven.0 h)) written)
number_goes z (more k kids) all are ts p st = absurd are

-- the word of a sort
sort_goes : (s : Sort) (t : List ℕ) (st : Noting) → t ≡ sort_word s → Goes (Name (name_number name.Sort) ∷ []) st (t ∷ []) (marked (mark.Sort s) st)
unfolding line_of template_lines action_lines parameter_lines
sort_goes sort.Integer t st e = word_line (name_number name.Sort) (codes "integer") t (Emit (mark.Sort sort.Integer) ∷ []) st (marked (mark.Sort sort.Integer) st) [] refl e (emits (mark.Sort sort.Integer) st (marked (mark.Sort sort.Integer) st) refl)
sort_goes sort.Truth t st e = word_line (name_number name.Sort) (codes "truth-value") t (Emit (mark.Sort sort.Truth) ∷ []) st (marked (mark.Sort sort.Truth) st) [] refl e (emits (mark.Sort sort.Truth) st (marked (mark.Sort sort.Truth) st) refl)
sort_goes sort.Cell t st e = word_line (name_number name.Sort) (codes "cell") t (Emit (mark.Sort sort.Cell) ∷ []) st (marked (mark.Sort sort.Cell) st) [] refl e (emits (mark.Sort sort.Cell) st (marked (mark.Sort sort.Cell) st) refl)
sort_goes sort.Abstraction t st e = word_line (name_number name.Sort) (codes "abstraction") t (Emit (mark.Sort sort.Abstraction) ∷ []) st (marked (mark.Sort sort.Abstraction) st) [] refl e (emits (mark.Sort sort.Abstraction) st (marked (mark.Sort sort.Abstraction) st) refl)

-- `the given S`, and what stands behind it
the_given_goes : (s : Sort) (t u v : List ℕ) (rest : List (List ℕ)) (st end : Noting) → t ≡ codes "the" → u ≡ codes "given" → v ≡ sort_word s
    → Goes (Name (name_number name.AtPlace) ∷ []) (marked (mark.Sort s) st) rest end → Goes (Name (name_number name.Yielder) ∷ []) st (t ∷ u ∷ v ∷ rest) end
unfolding line_of template_lines action_lines parameter_lines
the_given_goes s t u v rest st end a b c d =
    word_line (name_number name.Yielder) (codes "the") t (Name (name_number name.The) ∷ []) st end (u ∷ v ∷ rest) refl a
    (word_line (name_number name.The) (codes "given") u (Name (name_number name.Sort) ∷ Name (name_number name.AtPlace) ∷ []) st end (v ∷ rest) refl b
    (name_then (name_number name.Sort) (Name (name_number name.AtPlace) ∷ []) st (marked (mark.Sort s) st) end (v ∷ []) rest (sort_goes s v st c) d))

-- `the S`, and what stands behind it
the_sort_goes : (s : Sort) (t v : List ℕ) (rest : List (List ℕ)) (st end : Noting) → t ≡ codes "the" → v ≡ sort_word s
    → Goes (Name (name_number name.TheRest) ∷ []) (marked (mark.Sort s) st) rest end → Goes (Name (name_number name.Yielder) ∷ []) st (t ∷ v ∷ rest) end
unfolding line_of template_lines action_lines parameter_lines other_of action_others
the_sort_goes s t v rest st end a c d =
    word_line (name_number name.Yielder) (codes "the") t (Name (name_number name.The) ∷ []) st end (v ∷ rest) refl a
    (does_other template_table (name_number name.The) (Name (name_number name.Sort) ∷ Name (name_number name.TheRest) ∷ []) st end (v ∷ rest) refl
    (name_then (name_number name.Sort) (Name (name_number name.TheRest) ∷ []) st (marked (mark.Sort s) st) end (v ∷ []) rest (sort_goes s v st c) d))

given_goes : (s : Sort) → NodeGoes (name_number name.Yielder) (YielderNode (ykind.Given s 0) [])
unfolding line_of template_lines action_lines parameter_lines other_of action_others
given_goes s none all are [] (parts, spelled, woven) st = absurd woven
given_goes s none all are (t ∷ []) (parts, spelled, woven) st = absurd woven.1
given_goes s none all are (t ∷ u ∷ []) (parts, spelled, woven) st = absurd woven.1.1
given_goes s none all are (t ∷ u ∷ v ∷ ts) (parts, spelled, woven) st =
    let end : Noting = wrote (postorder (tree (YielderNode (ykind.Given s 0) []) none)) st in
    on_tokens (Name (name_number name.Yielder) ∷ []) st end (t ∷ u ∷ v ∷ []) (t ∷ u ∷ v ∷ ts) (ap (λ y. t ∷ u ∷ v ∷ y) (sym (subst (λ (p : List (List (List ℕ))). Weaves [] p ts) spelled woven.1.1.1)))
    (the_given_goes s t u v [] st end woven.0 woven.1.0 woven.1.1.0
    (does_other template_table (name_number name.AtPlace) (Emit mark.Given ∷ []) (marked (mark.Sort s) st) end [] refl (emits mark.Given (marked (mark.Sort s) st) end refl)))
given_goes s (more k kids) all are ts p st = absurd are

given_at_goes : (s : Sort) (n : ℕ) → nat_le (suc n) 64 ≡ true → NodeGoes (name_number name.Yielder) (YielderNode (ykind.Given s (suc n)) [])
unfolding line_of template_lines action_lines parameter_lines other_of action_others
given_at_goes s n place none all are [] (parts, spelled, woven) st = absurd woven
given_at_goes s n place none all are (t ∷ []) (parts, spelled, woven) st = absurd woven.1
given_at_goes s n place none all are (t ∷ u ∷ []) (parts, spelled, woven) st = absurd woven.1.1
given_at_goes s n place none all are (t ∷ u ∷ v ∷ []) (parts, spelled, woven) st = absurd woven.1.1.1
given_at_goes s n place none all are (t ∷ u ∷ v ∷ w ∷ []) (parts, spelled, woven) st = absurd woven.1.1.1.1
given_at_goes s n place none all are (t ∷ u ∷ v ∷ w ∷ x ∷ ts) (parts, spelled, woven) st =
    let end : Noting = wrote (postorder (tree (YielderNode (ykind.Given s (suc n)) []) none)) st in
    let kept : Noting = note (Token x) (marked (mark.Sort s) st) in
    let value : place_of (value_of x) ≡ suc n = ap (λ o. place_of (unwrap_or o (pos 0))) woven.1.1.1.1.0 ∙ ap (λ b. if b then suc n else 0) place in
    on_tokens (Name (name_number name.Yielder) ∷ []) st end (t ∷ u ∷ v ∷ w ∷ x ∷ []) (t ∷ u ∷ v ∷ w ∷ x ∷ ts) (ap (λ y. t ∷ u ∷ v ∷ w ∷ x ∷ y) (sym (subst (λ (p : List (List (List ℕ))). Weaves [] p ts) spelled woven.1.1.1.1.1)))
    (the_given_goes s t u v (w ∷ x ∷ []) st end woven.0 woven.1.0 woven.1.1.0
    (word_line (name_number name.AtPlace) (35 ∷ []) w (Keep (class_number class.Place) ∷ Emit mark.GivenAt ∷ []) (marked (mark.Sort s) st) end (x ∷ []) refl woven.1.1.1.0
    (does_keep template_table (class_number class.Place) (Emit mark.GivenAt ∷ []) (marked (mark.Sort s) st) end x [] (number_class_of x (pos (suc n)) true woven.1.1.1.1.0 (within n place))
    (emits mark.GivenAt kept end (ap (λ p. wrote (YielderNode (ykind.Given s p) [] ∷ []) st) value)))))
  where
    within : (n : ℕ) → nat_le (suc n) 64 ≡ true → is_place (pos (suc n)) ≡ true
    within n h = grind (arith, nat_tests)
given_at_goes s n place (more k kids) all are ts p st = absurd are

bound_goes : (s : Sort) (q : List ℕ) → is_token q ≡ true → NodeGoes (name_number name.Yielder) (YielderNode (ykind.Bound s) q)
unfolding line_of template_lines action_lines parameter_lines
bound_goes s q token none all are [] (parts, spelled, woven) st = absurd woven
bound_goes s q token none all are (t ∷ []) (parts, spelled, woven) st = absurd woven.1
bound_goes s q token none all are (t ∷ v ∷ []) (parts, spelled, woven) st = absurd woven.1.1
bound_goes s q token none all are (t ∷ v ∷ b ∷ []) (parts, spelled, woven) st = absurd woven.1.1.1
bound_goes s q token none all are (t ∷ v ∷ b ∷ o ∷ []) (parts, spelled, woven) st = absurd woven.1.1.1.1
bound_goes s q token none all are (t ∷ v ∷ b ∷ o ∷ x ∷ ts) (parts, spelled, woven) st =
    let end : Noting = wrote (postorder (tree (YielderNode (ykind.Bound s) q) none)) st in
    let kept_as : yielder_with (ykind.Bound s) x ≡ YielderNode (ykind.Bound s) q = yielder_quoted (ykind.Bound s) x (quoted_of_token q x token woven.1.1.1.1.0) ∙ ap (λ r. YielderNode (ykind.Bound s) r) (unquoted_back q x woven.1.1.1.1.0) in
    on_tokens (Name (name_number name.Yielder) ∷ []) st end (t ∷ v ∷ b ∷ o ∷ x ∷ []) (t ∷ v ∷ b ∷ o ∷ x ∷ ts) (ap (λ y. t ∷ v ∷ b ∷ o ∷ x ∷ y) (sym (subst (λ (p : List (List (List ℕ))). Weaves [] p ts) spelled woven.1.1.1.1.1)))
    (the_sort_goes s t v (b ∷ o ∷ x ∷ []) st end woven.0 woven.1.0
    (word_line (name_number name.TheRest) (codes "bound") b (Read (class_number class.To) ∷ Name (name_number name.Token) ∷ Emit mark.Bound ∷ []) (marked (mark.Sort s) st) end (o ∷ x ∷ []) refl woven.1.1.0
    (word_read (codes "to") o (Name (name_number name.Token) ∷ Emit mark.Bound ∷ []) (marked (mark.Sort s) st) end (x ∷ []) woven.1.1.1.0
    (name_then (name_number name.Token) (Emit mark.Bound ∷ []) (marked (mark.Sort s) st) (note (Token x) (marked (mark.Sort s) st)) end (x ∷ []) [] (token_goes q x (marked (mark.Sort s) st) token woven.1.1.1.1.0)
    (emits mark.Bound (note (Token x) (marked (mark.Sort s) st)) end (ap (λ l. wrote (l ∷ []) st) kept_as))))))
bound_goes s q token (more k kids) all are ts p st = absurd are

bound_of_goes : (s : Sort) (q : List ℕ) → is_variable q ≡ true → NodeGoes (name_number name.Yielder) (YielderTokenOf (ykind.Bound s) [] q)
unfolding line_of template_lines action_lines parameter_lines
bound_of_goes s q token none all are [] (parts, spelled, woven) st = absurd woven
bound_of_goes s q token none all are (t ∷ []) (parts, spelled, woven) st = absurd woven.1
bound_of_goes s q token none all are (t ∷ v ∷ []) (parts, spelled, woven) st = absurd woven.1.1
bound_of_goes s q token none all are (t ∷ v ∷ b ∷ []) (parts, spelled, woven) st = absurd woven.1.1.1
bound_of_goes s q token none all are (t ∷ v ∷ b ∷ o ∷ []) (parts, spelled, woven) st = absurd woven.1.1.1.1
bound_of_goes s q token none all are (t ∷ v ∷ b ∷ o ∷ a ∷ []) (parts, spelled, woven) st = absurd woven.1.1.1.1.1
bound_of_goes s q token none all are (t ∷ v ∷ b ∷ o ∷ a ∷ f ∷ []) (parts, spelled, woven) st = absurd woven.1.1.1.1.1.1
bound_of_goes s q token none all are (t ∷ v ∷ b ∷ o ∷ a ∷ f ∷ x ∷ ts) (parts, spelled, woven) st =
    let end : Noting = wrote (postorder (tree (YielderTokenOf (ykind.Bound s) [] q) none)) st in
    let same : x ≡ q = woven.1.1.1.1.1.1.0 in
    let kept_as : yielder_with (ykind.Bound s) x ≡ YielderTokenOf (ykind.Bound s) [] q = ap (yielder_with (ykind.Bound s)) same ∙ yielder_variable (ykind.Bound s) q token in
    on_tokens (Name (name_number name.Yielder) ∷ []) st end (t ∷ v ∷ b ∷ o ∷ a ∷ f ∷ x ∷ []) (t ∷ v ∷ b ∷ o ∷ a ∷ f ∷ x ∷ ts) (ap (λ y. t ∷ v ∷ b ∷ o ∷ a ∷ f ∷ x ∷ y) (sym (subst (λ (p : List (List (List ℕ))). Weaves [] p ts) spelled woven.1.1.1.1.1.1.1)))
    (the_sort_goes s t v (b ∷ o ∷ a ∷ f ∷ x ∷ []) st end woven.0 woven.1.0
    (word_line (name_number name.TheRest) (codes "bound") b (Read (class_number class.To) ∷ Name (name_number name.Token) ∷ Emit mark.Bound ∷ []) (marked (mark.Sort s) st) end (o ∷ a ∷ f ∷ x ∷ []) refl woven.1.1.0
    (word_read (codes "to") o (Name (name_number name.Token) ∷ Emit mark.Bound ∷ []) (marked (mark.Sort s) st) end (a ∷ f ∷ x ∷ []) woven.1.1.1.0
    (name_then (name_number name.Token) (Emit mark.Bound ∷ []) (marked (mark.Sort s) st) (note (Token x) (marked (mark.Sort s) st)) end (a ∷ f ∷ x ∷ []) [] (token_of_goes q a f x (marked (mark.Sort s) st) token woven.1.1.1.1.0 woven.1.1.1.1.1.0 same)
    (emits mark.Bound (note (Token x) (marked (mark.Sort s) st)) end (ap (λ l. wrote (l ∷ []) st) kept_as))))))
bound_of_goes s q token (more k kids) all are ts p st = absurd are

-- the value of a numeral is read as a yielder
value_goes : (q : List ℕ) → is_variable q ≡ true → NodeGoes (name_number name.Yielder) (ValueOf q)
unfolding line_of template_lines action_lines parameter_lines
value_goes q token none all are [] (parts, spelled, woven) st = absurd woven
value_goes q token none all are (t ∷ []) (parts, spelled, woven) st = absurd woven.1
value_goes q token none all are (t ∷ o ∷ []) (parts, spelled, woven) st = absurd woven.1.1
value_goes q token none all are (t ∷ o ∷ x ∷ ts) (parts, spelled, woven) st =
    let end : Noting = wrote (ValueOf q ∷ []) st in
    let rest : ts ≡ [] = subst (λ (p : List (List (List ℕ))). Weaves [] p ts) spelled woven.1.1.1 in
    let first : line_of template_lines (name_number name.Yielder) (template_class t) ≡ Some (line (name_number name.Yielder) (class_number class.Value) false (Read (class_number class.Of) ∷ Keep (class_number class.Variable) ∷ Emit mark.ValueOf ∷ [])) =
    ap (λ y. line_of template_lines (name_number name.Yielder) (template_class y)) woven.0 in
    on_tokens (Name (name_number name.Yielder) ∷ []) st end (t ∷ o ∷ x ∷ []) (t ∷ o ∷ x ∷ ts) (ap (λ y. t ∷ o ∷ x ∷ y) (sym rest))
    (does_line template_table (name_number name.Yielder) (line (name_number name.Yielder) (class_number class.Value) false (Read (class_number class.Of) ∷ Keep (class_number class.Variable) ∷ Emit mark.ValueOf ∷ [])) st end t (o ∷ x ∷ []) first
    (word_read (codes "of") o (Keep (class_number class.Variable) ∷ Emit mark.ValueOf ∷ []) st end (x ∷ []) woven.1.0
    (does_keep template_table (class_number class.Variable) (Emit mark.ValueOf ∷ []) st end x [] (ap template_class woven.1.1.0 ∙ variable_class q token)
    (emits mark.ValueOf (note (Token x) st) end (ap (λ y. wrote (ValueOf y ∷ []) st) woven.1.1.0)))))
value_goes q token (more k kids) all are ts p st = absurd are

-- each yielder that stands for something of a part is read
pub yielder_token_goes : (k : YKind) (q : List ℕ) → serves AYielder (YielderTokenOf k [] q) ≡ true → NodeGoes (name_number name.Yielder) (YielderTokenOf k [] q)
yielder_token_goes (ykind.Bound s) q h = bound_of_goes s q h
yielder_token_goes _ q h = absurd (cc)

pub value_of_goes : (q : List ℕ) → is_variable q ≡ true → NodeGoes (name_number name.Yielder) (ValueOf q)
value_of_goes q h = value_goes q h

stored_goes : (s : Sort) → NodeGoes (name_number name.Yielder) (YielderNode (ykind.Stored s) [])
unfolding line_of template_lines action_lines parameter_lines
stored_goes s kids all are [] (parts, spelled, woven) st = absurd woven
stored_goes s kids all are (t ∷ []) (parts, spelled, woven) st = absurd woven.1
stored_goes s kids all are (t ∷ v ∷ []) (parts, spelled, woven) st = absurd woven.1.1
stored_goes s kids all are (t ∷ v ∷ b ∷ []) (parts, spelled, woven) st = absurd woven.1.1.1
stored_goes s kids all are (t ∷ v ∷ b ∷ i ∷ ts) (parts, spelled, woven) st =
    let end : Noting = wrote (postorder (tree (YielderNode (ykind.Stored s) []) kids)) st in
    let noted : Noting = marked (mark.Sort s) st in
    let written : marked mark.Stored (wrote (postorders kids) noted) ≡ end =
    ap (λ y. let r : Noting = record { notes = st.notes; labels = y } in r) (append_assoc st.labels (postorders kids) (YielderNode (ykind.Stored s) [] ∷ [])) in
    the_sort_goes s t v (b ∷ i ∷ ts) st end woven.0 woven.1.0
    (word_line (name_number name.TheRest) (codes "stored") b (Read (class_number class.In) ∷ Name (name_number name.Yielder) ∷ Emit mark.Stored ∷ []) noted end (i ∷ ts) refl woven.1.1.0
    (word_read (codes "in") i (Name (name_number name.Yielder) ∷ Emit mark.Stored ∷ []) noted end ts woven.1.1.1.0
    (on_tokens (Name (name_number name.Yielder) ∷ Emit mark.Stored ∷ []) noted end (ts ++ []) ts (append-nil ts)
    (pieces_go (Part ∷ []) (AYielder ∷ []) (Emit mark.Stored ∷ []) noted end kids parts ts [] refl all are spelled woven.1.1.1.1
    (emits mark.Stored (wrote (postorders kids) noted) end written)))))

-- each yielder is read
pub yielder_goes : (k : YKind) (q : List ℕ) → serves AYielder (YielderNode k q) ≡ true → NodeGoes (name_number name.Yielder) (YielderNode k q)
unfolding line_of template_lines action_lines parameter_lines other_of action_others
yielder_goes ykind.Sum q s = bare_yielder (name_number name.Yielder) ykind.Sum q s (node_goes (name_number name.Yielder) (YielderNode ykind.Sum []) (codes "sum") two_arguments (mark.Yielder ykind.Sum) refl refl (λ z. refl) refl)
yielder_goes ykind.Difference q s = bare_yielder (name_number name.Yielder) ykind.Difference q s (node_goes (name_number name.Yielder) (YielderNode ykind.Difference []) (codes "difference") two_arguments (mark.Yielder ykind.Difference) refl refl (λ z. refl) refl)
yielder_goes ykind.Product q s = bare_yielder (name_number name.Yielder) ykind.Product q s (node_goes (name_number name.Yielder) (YielderNode ykind.Product []) (codes "product") two_arguments (mark.Yielder ykind.Product) refl refl (λ z. refl) refl)
yielder_goes ykind.Quotient q s = bare_yielder (name_number name.Yielder) ykind.Quotient q s (node_goes (name_number name.Yielder) (YielderNode ykind.Quotient []) (codes "integer-quotient") two_arguments (mark.Yielder ykind.Quotient) refl refl (λ z. refl) refl)
yielder_goes ykind.Remainder q s = bare_yielder (name_number name.Yielder) ykind.Remainder q s (node_goes (name_number name.Yielder) (YielderNode ykind.Remainder []) (codes "integer-remainder") two_arguments (mark.Yielder ykind.Remainder) refl refl (λ z. refl) refl)
yielder_goes ykind.Negation q s = bare_yielder (name_number name.Yielder) ykind.Negation q s (node_goes (name_number name.Yielder) (YielderNode ykind.Negation []) (codes "negation") one_argument (mark.Yielder ykind.Negation) refl refl (λ z. refl) refl)
yielder_goes ykind.Not q s = bare_yielder (name_number name.Yielder) ykind.Not q s (node_goes (name_number name.Yielder) (YielderNode ykind.Not []) (codes "not") one_argument (mark.Yielder ykind.Not) refl refl (λ z. refl) refl)
yielder_goes ykind.Both q s = bare_yielder (name_number name.Yielder) ykind.Both q s (node_goes (name_number name.Yielder) (YielderNode ykind.Both []) (codes "both") two_arguments (mark.Yielder ykind.Both) refl refl (λ z. refl) refl)
yielder_goes ykind.Either q s = bare_yielder (name_number name.Yielder) ykind.Either q s (node_goes (name_number name.Yielder) (YielderNode ykind.Either []) (codes "either") two_arguments (mark.Yielder ykind.Either) refl refl (λ z. refl) refl)
yielder_goes ykind.Closure q s = bare_yielder (name_number name.Yielder) ykind.Closure q s (node_goes (name_number name.Yielder) (YielderNode ykind.Closure []) (codes "closure") (Fixed (codes "abstraction") ∷ Fixed (codes "of") ∷ Part ∷ []) (mark.Yielder ykind.Closure) refl refl (λ z. refl) refl)
yielder_goes (ykind.Truth true) q s = bare_yielder (name_number name.Yielder) (ykind.Truth true) q s (node_goes (name_number name.Yielder) (YielderNode (ykind.Truth true) []) (codes "true") [] (mark.Yielder (ykind.Truth true)) refl refl (λ z. refl) refl)
yielder_goes (ykind.Truth false) q s = bare_yielder (name_number name.Yielder) (ykind.Truth false) q s (node_goes (name_number name.Yielder) (YielderNode (ykind.Truth false) []) (codes "false") [] (mark.Yielder (ykind.Truth false)) refl refl (λ z. refl) refl)
yielder_goes ykind.Is q s = bare_yielder (name_number name.Yielder) ykind.Is q s (begun_goes (name_number name.Yielder) (name_number name.IsRest) (YielderNode ykind.Is []) (codes "is") open_paren (Part ∷ Fixed comma ∷ Part ∷ Fixed close_paren ∷ []) (mark.Yielder ykind.Is) refl refl (λ z. refl) refl refl)
yielder_goes ykind.Less q s = bare_yielder (name_number name.Yielder) ykind.Less q s (begun_goes (name_number name.Yielder) (name_number name.IsRest) (YielderNode ykind.Less []) (codes "is") (codes "less") (Fixed (codes "than") ∷ two_arguments) (mark.Yielder ykind.Less) refl refl (λ z. refl) refl refl)
yielder_goes (ykind.Number z) q s = bare_yielder (name_number name.Yielder) (ykind.Number z) q s (number_goes z)
yielder_goes (ykind.Given v zero) q s = bare_yielder (name_number name.Yielder) (ykind.Given v 0) q s (given_goes v)
yielder_goes (ykind.Given v (suc p)) q s = bare_yielder (name_number name.Yielder) (ykind.Given v (suc p)) q (and_right (nat_le (suc p) 64) (has_no_token q) s) (given_at_goes v p (and_left (nat_le (suc p) 64) (has_no_token q) s))
yielder_goes (ykind.Bound v) q s = bound_goes v q s
yielder_goes (ykind.Stored v) q s = bare_yielder (name_number name.Yielder) (ykind.Stored v) q s (stored_goes v)
yielder_goes ykind.Them q s = absurd (cc)
