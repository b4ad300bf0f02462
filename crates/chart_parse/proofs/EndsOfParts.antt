-- Where parts lead by the ends that a chart has.
use Rattle.std.proofs.Common.{◌≡◌, ℕ, ◌<◌, ◌≤◌, List, [], ◌∷◌, length, slice_get, Some, None, Option, refl, sym, subst, arith}
use Rattle.std.specs.Option.{option_and_then}
use Rattle.std.proofs.lemmas.Option.{slice_get_within}
use Rattle.source_lex.specs.Numbered.{Alternative, Numbered, alternative_of}
use Rattle.gram_form.specs.Trees.{End}
use Rattle.source_lex.specs.declared.numbered.Symbol.TheVariants.{Word, Phrase}
use Rattle.source_lex.specs.declared.lexeme.LexKind.{LexKind}
use Rattle.chart_parse.specs.declared.rows.Entry.{Entry}
use Rattle.chart_parse.specs.Rows.{Lists}
use Rattle.chart_parse.specs.Growths.{HasPieces}
use Rattle.chart_parse.specs.Places.{Places, list_of, IsListed, RunsTo, IsPart, IsSame, Follows, IsMet, AreMet, IsClosedAt}
use Rattle.chart_parse.proofs.LeftCorners.{word_pieces, phrase_pieces, pieces_order, tree_order}

-- parts end within the lexemes
pub run_within : (g : Numbered) (w : List LexKind) (p : Places) (parts : Alternative) (k l : ℕ) → k ≤ length w → RunsTo g w p parts k l → l ≤ length w
run_within g w p [] k l lt x = omega (arith, x)
run_within g w p (Word c ∷ rest) k l lt x = run_within g w p rest x.0 l (omega (arith, x.1.1, slice_get_within w k c x.1.0)) x.2
run_within g w p (Phrase m ∷ rest) k l lt x = run_within g w p rest x.0 l x.1.0 x.2

-- what a chart has that is true, is
pub run_true : (g : Numbered) (w : List LexKind) (p : Places) (parts : Alternative) (k l : ℕ) → IsPart g w p → RunsTo g w p parts k l → HasPieces g w parts k l
run_true g w p [] k l part x = (End, (refl, x))
run_true g w p (Word c ∷ rest) k l part x =
    word_pieces g w c rest k l x.1.0 (subst (λ (h : ℕ). HasPieces g w rest h l) x.1.1 (run_true g w p rest x.0 l part x.2))
run_true g w p (Phrase m ∷ rest) k l part x =
    phrase_pieces g w m rest k x.0 l ((part.sound k (length g) m x.0 x.1).end refl) (run_true g w p rest x.0 l part x.2)

pub run_order : (g : Numbered) (w : List LexKind) (p : Places) (parts : Alternative) (k l : ℕ) → IsPart g w p → RunsTo g w p parts k l → k ≤ l
run_order g w p parts k l part x = let y = run_true g w p parts k l part x in pieces_order g w parts k l y.0 y.1

-- the lists from a place on are the same
abbrev pub IsSameFrom : ℕ → Places → Places → Type 0
IsSameFrom b p q = (i c : ℕ) → b ≤ i → list_of q i c ≡ list_of p i c

pub same_back : (b : ℕ) (p q : Places) → IsSameFrom b p q → IsSameFrom b q p
same_back b p q same i c le = sym (same i c le)

pub listed_kept : (w : List LexKind) (p q : Places) (i c n e : ℕ) → list_of q i c ≡ list_of p i c → IsListed w p i c n e → IsListed w q i c n e
listed_kept w p q i c n e same x = (x.0, subst (λ (l : List Entry). Lists l n e) (sym same) x.1)

-- what begins at a place from which on lists are the same
pub run_kept : (g : Numbered) (w : List LexKind) (b : ℕ) (p q : Places) → IsPart g w p → IsSameFrom b p q → (parts : Alternative) (k l : ℕ) → b ≤ k → RunsTo g w p parts k l → RunsTo g w q parts k l
run_kept g w b p q part same [] k l le x = x
run_kept g w b p q part same (Word c ∷ rest) k l le x = (x.0, x.1, run_kept g w b p q part same rest x.0 l (omega (arith, x.1.1)) x.2)
run_kept g w b p q part same (Phrase m ∷ rest) k l le x =
    let t = (part.sound k (length g) m x.0 x.1).end refl in
    let up : k ≤ x.0 = tree_order g w m k x.0 t.0 t.1 in
    (x.0, listed_kept w p q k (length g) m x.0 (same k (length g) le) x.1, run_kept g w b p q part same rest x.0 l (omega arith) x.2)

pub follows_kept : (g : Numbered) (w : List LexKind) (b : ℕ) (p q : Places) → IsPart g w p → IsPart g w q → IsSameFrom b p q → (k m : ℕ) (parts : Alternative) (c : ℕ) → b ≤ k → Follows g w p k m parts c → Follows g w q k m parts c
follows_kept g w b p q part new same k m parts c le h l n e run listed =
    let old : RunsTo g w p parts k l = run_kept g w b q p new (same_back b p q same) parts k l le run in
    let up : k ≤ l = run_order g w p parts k l part old in
    let from : b ≤ l = omega arith in
    listed_kept w p q k c n e (same k c le) (h l n e old (listed_kept w q p l m n e (sym (same l m from)) listed))

pub met_kept : (g : Numbered) (w : List LexKind) (b : ℕ) (p q : Places) → IsPart g w p → IsPart g w q → IsSameFrom b p q → (k m : ℕ) (parts : Alternative) → b ≤ k → IsMet g w p k m parts → IsMet g w q k m parts
met_kept g w b p q part new same k m [] le h = follows_kept g w b p q part new same k m [] (length g) le h
met_kept g w b p q part new same k m (Word c ∷ rest) le h = follows_kept g w b p q part new same k m (Word c ∷ rest) (length g) le h
met_kept g w b p q part new same k m (Phrase c ∷ rest) le h = λ lt. follows_kept g w b p q part new same k m rest c le (h lt)

pub closed_kept : (g : Numbered) (w : List LexKind) (b : ℕ) (p q : Places) → IsPart g w p → IsPart g w q → IsSameFrom b p q → (k : ℕ) → b ≤ k → IsClosedAt g w p k → IsClosedAt g w q k
closed_kept g w b p q part new same k le h m a parts e = met_kept g w b p q part new same k m parts le (h m a parts e)

-- a number with an alternative is one of a nonterminal
pub alternative_within : (g : Numbered) (m a : ℕ) (parts : Alternative) → alternative_of g m a ≡ Some parts → m < length g
alternative_within g m a parts e = let x = some_of (slice_get g m) a parts e in slice_get_within g m x.0 x.1
  where
    some_of : (o : Option (List Alternative)) (a : ℕ) (parts : Alternative) → option_and_then (λ alternatives. slice_get alternatives a) o ≡ Some parts → (x : List Alternative) × (o ≡ Some x)
    some_of None a parts e = absurd (cc)
    some_of (Some x) a parts e = (x, refl)
