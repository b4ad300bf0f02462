-- The moves of the reader over a list of tokens and a stack whose top is its last item.
use Rattle.std.proofs.Common.{◌≡◌, ◌≢◌, ◌⊎◌, inl, inr, ℕ, suc, zero, ◌+◌, ◌<◌, ◌≤◌, ◌-◌, ◌*◌, Bool, true, false, List, [], ◌∷◌, ◌++◌, length, take, drop, map, reverse, Some, None, refl, sym, ap, subst, ◌∙◌, arith, get_or, append_assoc, append-nil, add-one, take_all}
use Rattle.std.proofs.Math.Seq.{drop-cons, take-suc}
use Rattle.std.proofs.lemmas.List.{reverse-append, drop_all, reverse-reverse, map-append}
use Rattle.meta_terms.specs.Templates.{Label, Tree}
use Rattle.action_text.specs.declared.table.Mark.{Mark}
use Rattle.action_text.specs.declared.names.Name.TheVariants as name
use Rattle.action_text.specs.declared.names.Name.{Name as GrammarName}
use Rattle.action_text.specs.declared.table.Symbol.{Symbol as TableSymbol}
use Rattle.action_text.specs.declared.table.Symbol.TheVariants as symbol
use Rattle.action_text.specs.Numbers.{name_number}
use Rattle.action_text.specs.Tables.{Symbol, Read, Keep, Emit, Name, numbered, Written, Token, Noted, Line, line_of, other_of, Reads}
use Rattle.action_text.specs.TemplateText.{SpellsIn, BeginsIn, IsFirstBadIn}
use Rattle.action_text.specs.ActionTable.{table_in, class_in, template_lines, action_others}
use Rattle.std.proofs.Common.{if◌then◌else◌}
use Rattle.std.proofs.lemmas.Bool.Decides.{eqb_tells}
use Rattle.meta_lex.specs.declared.token.Token.{Token as PlaceToken}
use Rattle.meta_terms.specs.declared.template.TemplateNode.{TemplateNode}
use Rattle.action_text.specs.declared.notes.Note.{Note as ReadNote}
use Rattle.action_text.specs.Texts.{texts}
use Rattle.action_text.specs.Views.{noting_of}
use Rattle.action_text.specs.Notes.{Noting, Note, KeptToken, note, noted, marked}
use Rattle.action_text.specs.Posts.{postorder}
use Rattle.action_text.specs.Reading.{AreLabelsOf}
use Rattle.action_text.specs.Rows.{HasNoLineAt}
use Rattle.action_text.proofs.Moves.{Stands, HasNoLine, IsStuck, emit_step, read_step, keep_step, line_step, other_step, ended, begin, token_list, stuck, stuck_empty, stuck_read_end, stuck_keep_end, stuck_read, stuck_keep, stuck_name}
use Rattle.action_text.proofs.ActionTablePasses.{known, table_starting, table_choosing, table_sampled, table_ending}
use Rattle.action_text.proofs.Checked.{all_end}
use Rattle.action_text.proofs.Weights.{weigh, weights, weigh-append, line_lighter, other_lighter}
use Rattle.action_text.proofs.Meanings.{keeping, noted-append}
use Rattle.action_text.proofs.Means.{wrote}
use Rattle.action_text.proofs.OneTree.{nothing_noted}
use Rattle.action_text.proofs.Parameters.{read_is_spelled_in, spelled_is_read_in, line_in}

count_some : (p : Bool) → (name_number name.Action) < (known p).count
count_some true = omega arith
count_some false = omega arith

module _ (p : Bool) where
  -- the state of the loop: what was written so far led to the notes and labels
  abbrev pub State : List (List ℕ) → ℕ → List Symbol → Noting → Type 0
  State all at s st = (o : List Written) × Stands (table_in p) (known p) (name_number name.Action) (take at all) (drop at all) s o × (noted o nothing_noted ≡ st)

  pub first_state : (all : List (List ℕ)) → State all 0 (Name (name_number name.Action) ∷ []) nothing_noted
  first_state all = ([], begin (table_in p) (known p) (name_number name.Action) (count_some p) all, refl)

  pub start_state : (all : List (List ℕ)) (stack : List TableSymbol) (notes : List ReadNote) (labels : List TemplateNode) → stack ≡ symbol.Name name.Action ∷ [] → notes ≡ [] → labels ≡ []
      → State all 0 (reverse (map numbered stack)) (noting_of notes labels)
  start_state all stack notes labels e f g = rw e (rw f (rw g (first_state all)))

  -- the last symbol is taken off the stack
  last_off : (new : List TableSymbol) (top x : TableSymbol) (old : List TableSymbol) → old ≡ new ++ top ∷ [] → top ≡ x → reverse (map numbered old) ≡ numbered x ∷ reverse (map numbered new)
  last_off new top x old e f =
      ap (λ (s : List TableSymbol). reverse (map numbered s)) e ∙ ap reverse (map-append numbered new (top ∷ [])) ∙ reverse-append (map numbered new) (numbered top ∷ [])
      ∙ ap (λ (y : TableSymbol). numbered y ∷ reverse (map numbered new)) f

  put_on : (old right new : List Symbol) → new ≡ old ++ reverse right → reverse new ≡ right ++ reverse old
  put_on old right new e = ap reverse e ∙ (reverse-append old (reverse right) ∙ ap (λ r. r ++ reverse old) (reverse-reverse right))

  -- the symbols of a right side are put on the stack
  pub on_stack : (all : List (List ℕ)) (at : ℕ) (old right new : List Symbol) (st : Noting) → new ≡ old ++ reverse right → State all at (right ++ reverse old) st → State all at (reverse new) st
  on_stack all at old right new st e h = subst (λ s. State all at s st) (sym (put_on old right new e)) h

  -- a move that takes the token at the place
  on_token : (all : List (List ℕ)) (at : ℕ) (s r : List Symbol) (out onward : List Written) → at < length all
      → ((before rest : List (List ℕ)) → Stands (table_in p) (known p) (name_number name.Action) before (get_or all at [] ∷ rest) s out → Stands (table_in p) (known p) (name_number name.Action) (before ++ get_or all at [] ∷ []) rest r onward)
      → Stands (table_in p) (known p) (name_number name.Action) (take at all) (drop at all) s out → Stands (table_in p) (known p) (name_number name.Action) (take (at + 1) all) (drop (at + 1) all) r onward
  on_token all at s r out onward lt move h =
      let n : at + 1 ≡ suc at = add-one at in
      let a : drop at all ≡ get_or all at [] ∷ drop (suc at) all = drop-cons all at [] lt in
      let b : take (suc at) all ≡ take at all ++ get_or all at [] ∷ [] = take-suc all at [] lt in
      rw n (rw b (move (take at all) (drop (suc at) all) (rw a at h)))

  -- the reader stops where it can't go on
  first_bad : (all : List (List ℕ)) (at : ℕ) (s : List Symbol) (out : List Written) → at ≤ length all → IsStuck (table_in p) s (drop at all) → Stands (table_in p) (known p) (name_number name.Action) (take at all) (drop at all) s out → IsFirstBadIn p all at
  first_bad all at s out le none h = record {
    inside = le;
    before =
        let x = all_end (table_in p) (known p) (table_sampled p) (table_ending p) s h.safe in
        let y = read_is_spelled_in p nothing_noted (take at all ++ x.0) (out ++ x.1) (h.back x.0 x.1 x.2) in
        (x.0, y.0, y.1);
    token = λ lt b. bad_token lt b;
    early = λ e t r. too_early e t r;
  }
    where
      bad_token : at < length all → BeginsIn p (take (at + 1) all) → ⊥
      bad_token lt b =
          let n : at + 1 ≡ suc at = add-one at in
          let e : take (suc at) all ≡ take at all ++ get_or all at [] ∷ [] = take-suc all at [] lt in
          let f : drop at all ≡ get_or all at [] ∷ drop (suc at) all = drop-cons all at [] lt in
          let c : BeginsIn p (take (suc at) all) = rw n at b in
          let d = spelled_is_read_in p c.1 (take (suc at) all ++ c.0) c.2 nothing_noted in
          let whole : take (suc at) all ++ c.0 ≡ take at all ++ (get_or all at [] ∷ c.0) = ap (λ y. y ++ c.0) e ∙ append_assoc (take at all) (get_or all at [] ∷ []) c.0 in
          let r : Reads (table_in p) (Name (name_number name.Action) ∷ []) (take at all ++ (get_or all at [] ∷ c.0)) d.written = subst (λ y. Reads (table_in p) (Name (name_number name.Action) ∷ []) y d.written) whole d.reads in
          stuck (table_in p) (known p) (name_number name.Action) (take at all) (drop at all) s out h none (get_or all at [] ∷ c.0) d.written (rw f (c.0, refl)) r

      too_early : at ≡ length all → (t : Tree) → SpellsIn p t all → ⊥
      too_early e t sp =
          let d = spelled_is_read_in p t all sp nothing_noted in
          let f : drop at all ≡ [] = drop_all at all (omega arith) in
          let g : take at all ≡ all = take_all at all (omega arith) in
          let whole : all ≡ take at all ++ [] = sym g ∙ sym (append-nil (take at all)) in
          stuck (table_in p) (known p) (name_number name.Action) (take at all) (drop at all) s out h none [] d.written (rw f refl) (subst (λ y. Reads (table_in p) (Name (name_number name.Action) ∷ []) y d.written) whole d.reads)

  -- all tokens are read and nothing is expected
  pub all_read : (all : List (List ℕ)) (at : ℕ) (st : Noting) → at ≡ length all → State all at [] st → AreLabelsOf p all st.labels
  all_read all at st e (o, h, noted_is) =
      let f : drop at all ≡ [] = drop_all at all (omega arith) in
      let g : take at all ≡ all = take_all at all (omega arith) in
      let x = ended (table_in p) (known p) (name_number name.Action) all o (rw f at (rw g at h)) in
      let y = read_is_spelled_in p nothing_noted all o x.0 in
      (y.0, y.1, same_labels st (noted o nothing_noted) (postorder y.0) noted_is y.2)
    where
      same_labels : (st end : Noting) (ls : List Label) → end ≡ st → end ≡ wrote ls nothing_noted → st.labels ≡ ls
      same_labels st end ls e f = ap (λ (z : Noting). z.labels) (sym e ∙ f)

  no_more : (all : List (List ℕ)) (at : ℕ) → at ≡ length all → drop at all ≡ []
  no_more all at e = drop_all at all (omega arith)

  one_more : (all : List (List ℕ)) (at : ℕ) → at < length all → drop at all ≡ get_or all at [] ∷ drop (suc at) all
  one_more all at lt = drop-cons all at [] lt

  pub with_top : (all : List (List ℕ)) (at : ℕ) (old new : List TableSymbol) (top x : TableSymbol) (st : Noting) → old ≡ new ++ top ∷ [] → top ≡ x → State all at (reverse (map numbered old)) st → State all at (numbered x ∷ reverse (map numbered new)) st
  with_top all at old new top x st e f h = subst (λ s. State all at s st) (last_off new top x old e f) h

  pub after_emit : (all : List (List ℕ)) (at : ℕ) (m : Mark) (s : List Symbol) (st end : Noting) → end ≡ marked m st → State all at (Emit m ∷ s) st → State all at s end
  after_emit all at m s st end e (o, h, noted_is) = (
    o ++ Noted m ∷ [],
    emit_step (table_in p) (known p) (name_number name.Action) (take at all) (drop at all) m s o h,
    noted-append o (Noted m ∷ []) nothing_noted ∙ ap (marked m) noted_is ∙ sym e,
  )

  pub after_read : (all : List (List ℕ)) (at c : ℕ) (s : List Symbol) (st : Noting) → at < length all → (class_in p) (get_or all at []) ≡ c → State all at (Read c ∷ s) st → State all (at + 1) s st
  after_read all at c s st lt e (o, h, noted_is) = (o, on_token all at (Read c ∷ s) s o o lt (λ b r x. read_step (table_in p) (known p) (name_number name.Action) b r (get_or all at []) c s o e x) h, noted_is)

  pub after_keep : (all : List (List ℕ)) (at c : ℕ) (s : List Symbol) (st end : Noting) → at < length all → (class_in p) (get_or all at []) ≡ c → end ≡ note (Token (get_or all at [])) st → State all at (Keep c ∷ s) st → State all (at + 1) s end
  after_keep all at c s st end lt e kept (o, h, noted_is) = (
    o ++ Token (get_or all at []) ∷ [],
    on_token all at (Keep c ∷ s) s o (o ++ Token (get_or all at []) ∷ []) lt (λ b r x. keep_step (table_in p) (known p) (name_number name.Action) b r (get_or all at []) c s o e x) h,
    noted-append o (Token (get_or all at []) ∷ []) nothing_noted ∙ ap (note (Token (get_or all at []))) noted_is ∙ sym kept,
  )

  keeping_last : (b : Bool) (t : List ℕ) (o : List Written) → noted (o ++ token_list b t) nothing_noted ≡ keeping b t (noted o nothing_noted)
  keeping_last true t o = noted-append o (Token t ∷ []) nothing_noted
  keeping_last false t o = ap (λ y. noted y nothing_noted) (append-nil o)

  pub after_line : (all : List (List ℕ)) (at n : ℕ) (s : List Symbol) (st end : Noting) (l : Line) → at < length all → line_of template_lines n (class_in p (get_or all at [])) ≡ Some l → end ≡ keeping l.keeps (get_or all at []) st
      → State all at (Name n ∷ s) st → State all (at + 1) (l.right ++ s) end
  after_line all at n s st end l lt e kept (o, h, noted_is) = (
    o ++ token_list l.keeps (get_or all at []),
    on_token all at (Name n ∷ s) (l.right ++ s) o (o ++ token_list l.keeps (get_or all at [])) lt (λ b r x. line_step (table_in p) (known p) (name_number name.Action) (table_starting p) (table_choosing p) b r (get_or all at []) n s o l (sym (line_in p n (get_or all at [])) ∙ e) x) h,
    keeping_last l.keeps (get_or all at []) o ∙ ap (keeping l.keeps (get_or all at [])) noted_is ∙ sym kept,
  )

  -- the class at a place is that of its token
  pub class_at : (all : List (List ℕ)) (classes : List ℕ) (at : ℕ) → classes ≡ map (class_in p) all → at < length all → get_or classes at 0 ≡ (class_in p) (get_or all at [])
  class_at all classes at e lt = ap (λ y. get_or y at 0) e ∙ mapped all at lt
    where
      mapped : (all : List (List ℕ)) (at : ℕ) → at < length all → get_or (map (class_in p) all) at 0 ≡ (class_in p) (get_or all at [])
      mapped [] at lt = absurd (omega arith)
      mapped (t ∷ ts) zero lt = refl
      mapped (t ∷ ts) (suc at) lt = mapped ts at (omega arith)

  pub length_classes : (all : List (List ℕ)) (classes : List ℕ) → classes ≡ map (class_in p) all → length classes ≡ length all
  length_classes all classes e = ap length e ∙ mapped all
    where
      mapped : (all : List (List ℕ)) → length (map (class_in p) all) ≡ length all
      mapped [] = refl
      mapped (t ∷ ts) = ap suc (mapped ts)

  no_line : (all : List (List ℕ)) (classes : List ℕ) (at n : ℕ) → classes ≡ map (class_in p) all → at ≤ length all → HasNoLineAt classes at n → HasNoLine (table_in p) n (drop at all)
  no_line all classes at n e le (inl h) = rw (no_more all at (omega (arith, length_classes all classes e))) tt
  no_line all classes at n e le (inr h) =
      let lt : at < length all = omega (arith, length_classes all classes e, h.0) in
      rw (one_more all at lt) (sym (line_in p n (get_or all at [])) ∙ ap (λ c. line_of template_lines n c) (sym (class_at all classes at e lt)) ∙ h.1)

  pub after_other : (all : List (List ℕ)) (classes : List ℕ) (at n : ℕ) (s r : List Symbol) (st : Noting) → classes ≡ map (class_in p) all → at ≤ length all → HasNoLineAt classes at n → other_of action_others n ≡ Some r
      → State all at (Name n ∷ s) st → State all at (r ++ s) st
  after_other all classes at n s r st c le none e (o, h, noted_is) = (o, other_step (table_in p) (known p) (name_number name.Action) (table_choosing p) (take at all) (drop at all) n s r o (no_line all classes at n c le none) e h, noted_is)

  -- another token, or none, stands at the place
  abbrev pub NotAt : List (List ℕ) → ℕ → ℕ → Type 0
  NotAt all at c = (at ≡ length all) ⊎ ((at < length all) × ((class_in p) (get_or all at []) ≢ c))

  pub stops_read : (all : List (List ℕ)) (at c : ℕ) (s : List Symbol) (st : Noting) → at ≤ length all → NotAt all at c → State all at (Read c ∷ s) st → IsFirstBadIn p all at
  stops_read all at c s st le (inl e) (o, h, n) = first_bad all at (Read c ∷ s) o le (rw (no_more all at e) (stuck_read_end (table_in p) c s)) h
  stops_read all at c s st le (inr e) (o, h, n) = first_bad all at (Read c ∷ s) o le (rw (one_more all at e.0) (stuck_read (table_in p) c s (get_or all at []) (drop (suc at) all) e.1)) h

  pub stops_keep : (all : List (List ℕ)) (at c : ℕ) (s : List Symbol) (st : Noting) → at ≤ length all → NotAt all at c → State all at (Keep c ∷ s) st → IsFirstBadIn p all at
  stops_keep all at c s st le (inl e) (o, h, n) = first_bad all at (Keep c ∷ s) o le (rw (no_more all at e) (stuck_keep_end (table_in p) c s)) h
  stops_keep all at c s st le (inr e) (o, h, n) = first_bad all at (Keep c ∷ s) o le (rw (one_more all at e.0) (stuck_keep (table_in p) c s (get_or all at []) (drop (suc at) all) e.1)) h

  pub stops_name : (all : List (List ℕ)) (classes : List ℕ) (at n : ℕ) (s : List Symbol) (st : Noting) → classes ≡ map (class_in p) all → at ≤ length all → HasNoLineAt classes at n → other_of action_others n ≡ None → State all at (Name n ∷ s) st → IsFirstBadIn p all at
  stops_name all classes at n s st c le none e (o, h, x) = first_bad all at (Name n ∷ s) o le (stuck_name (table_in p) n s (drop at all) (no_line all classes at n c le none) e) h

  pub stops_empty : (all : List (List ℕ)) (at : ℕ) (st : Noting) → at < length all → State all at [] st → IsFirstBadIn p all at
  stops_empty all at st lt (o, h, n) = first_bad all at [] o (omega arith) (rw (one_more all at lt) (stuck_empty (table_in p) (get_or all at []) (drop (suc at) all))) h

  pub lighter_line : (size at : ℕ) (n : GrammarName) (c : ℕ) (l : Line) (old new onward : List TableSymbol) (top : TableSymbol) → at < size → line_of template_lines (name_number n) c ≡ Some l → old ≡ new ++ top ∷ [] → top ≡ symbol.Name n
      → map numbered onward ≡ map numbered new ++ reverse l.right → (size - (at + 1)) * 100 + weigh weights (reverse (map numbered onward)) < (size - at) * 100 + weigh weights (reverse (map numbered old))
  lighter_line size at n c l old new onward top lt e f g h =
      let rest : List Symbol = reverse (map numbered new) in
      let a : weigh weights l.right < 100 = line_lighter (name_number n) c l e in
      let b : weigh weights (reverse (map numbered old)) ≡ weights (name_number n) + weigh weights rest = ap (weigh weights) (last_off new top (symbol.Name n) old f g) in
      let d : weigh weights (reverse (map numbered onward)) ≡ weigh weights l.right + weigh weights rest = ap (weigh weights) (put_on (map numbered new) l.right (map numbered onward) h) ∙ weigh-append weights l.right rest in
      omega arith

  pub lighter_other : (size at : ℕ) (n : GrammarName) (r : List Symbol) (old new onward : List TableSymbol) (top : TableSymbol) → other_of action_others (name_number n) ≡ Some r → old ≡ new ++ top ∷ [] → top ≡ symbol.Name n
      → map numbered onward ≡ map numbered new ++ reverse r → (size - at) * 100 + weigh weights (reverse (map numbered onward)) < (size - at) * 100 + weigh weights (reverse (map numbered old))
  lighter_other size at n r old new onward top e f g h =
      let rest : List Symbol = reverse (map numbered new) in
      let a : weigh weights r < weights (name_number n) = other_lighter (name_number n) r e in
      let b : weigh weights (reverse (map numbered old)) ≡ weights (name_number n) + weigh weights rest = ap (weigh weights) (last_off new top (symbol.Name n) old f g) in
      let d : weigh weights (reverse (map numbered onward)) ≡ weigh weights r + weigh weights rest = ap (weigh weights) (put_on (map numbered new) r (map numbered onward) h) ∙ weigh-append weights r rest in
      omega arith

  pub at_bottom : (all : List (List ℕ)) (at : ℕ) (old : List TableSymbol) (st : Noting) → length old ≡ 0 → State all at (reverse (map numbered old)) st → State all at [] st
  at_bottom all at [] st e h = h
  at_bottom all at (x ∷ old) st e h = absurd (omega arith)

  le_cases : (n m : ℕ) → n ≤ m → (n ≡ m) ⊎ (n < m)
  le_cases n m le = elim (eqb_tells n m) [ inl e ↦ inl e.1 | inr e ↦ inr (let d : n ≢ m = e.1 in omega arith) ]

  -- no token of the class stands at the place
  pub not_at : (all : List (List ℕ)) (classes : List ℕ) (at c : ℕ) (found : Bool) → classes ≡ map (class_in p) all → at ≤ length all → ((at < length classes) × (get_or classes at 0 ≡ c) → found ≡ true) → found ≡ false → NotAt all at c
  not_at all classes at c found e le test none_found =
      elim (le_cases at (length all) le) [
        | inl end ↦ inl end
        | inr lt ↦ inr (lt, λ same. let both : true ≡ false = sym (test (omega (arith, length_classes all classes e), class_at all classes at e lt ∙ same)) ∙ none_found in cc)
      ]

  -- a token of the class stands at the place
  pub is_there : (all : List (List ℕ)) (classes : List ℕ) (at c : ℕ) → classes ≡ map (class_in p) all → (at < length classes) × (get_or classes at 0 ≡ c) → (at < length all) × ((class_in p) (get_or all at []) ≡ c)
  is_there all classes at c e h =
      let lt : at < length all = omega (arith, length_classes all classes e, h.0) in
      (lt, sym (class_at all classes at e lt) ∙ h.1)

-- the bytes of the token at a place
pub bytes_at : (tokens : List PlaceToken) (at : ℕ) (d : PlaceToken) → at < length tokens → get_or (texts tokens) at [] ≡ (get_or tokens at d).bytes.now
bytes_at [] at d lt = absurd (omega arith)
bytes_at (u ∷ tokens) zero d lt = refl
bytes_at (u ∷ tokens) (suc at) d lt = bytes_at tokens at d (omega arith)

pub length_texts : (tokens : List PlaceToken) → length (texts tokens) ≡ length tokens
length_texts [] = refl
length_texts (t ∷ tokens) = ap suc (length_texts tokens)

-- the state behind a token that is kept or not
pub kept_is : (b : Bool) (t u : List ℕ) (old new : List Note) (labels : List Label) → u ≡ t → new ≡ (if b then KeptToken t ∷ old else old)
    → (let r : Noting = record { notes = new; labels = labels } in r) ≡ keeping b u (record { notes = old; labels = labels })
kept_is true t u old new labels e f = ap (λ n. let r : Noting = record { notes = n; labels = labels } in r) (f ∙ ap (λ x. KeptToken x ∷ old) (sym e))
kept_is false t u old new labels e f = ap (λ n. let r : Noting = record { notes = n; labels = labels } in r) f
