-- Lists in which all rules are met have exactly what is true.
use Rattle.std.proofs.Common.{◌≡◌, ℕ, ◌+◌, ◌<◌, ◌≤◌, List, [], ◌∷◌, length, slice_get, Some, refl, arith}
use Rattle.std.specs.Prelude.{◌↔◌}
use Rattle.std.proofs.lemmas.Option.{slice_get_within}
use Rattle.source_lex.specs.Numbered.{Alternative, Numbered}
use Rattle.source_lex.specs.Trees.{Has}
use Rattle.source_lex.specs.declared.numbered.Symbol.TheVariants.{Word, Phrase}
use Rattle.source_lex.specs.declared.lexeme.LexKind.{LexKind}
use Rattle.chart_parse.specs.Rows.{Lists}
use Rattle.chart_parse.specs.Growths.{Grows}
use Rattle.chart_parse.specs.Places.{Places, list_of, IsListed, RunsTo, IsPart, IsClosedAt, IsExact}
use Rattle.chart_parse.proofs.LeftCorners.{Closed, tree_marked, growth_marked}
use Rattle.chart_parse.proofs.EndsOfParts.{run_within, alternative_within}

-- beyond the lexemes everything counts as marked, and what grows from a number without a nonterminal
module _ (g : Numbered) (w : List LexKind) (p : Places) (part : IsPart g w p) (closed : (i : ℕ) → i ≤ length w → IsClosedAt g w p i) where
  abbrev Ends : ℕ → ℕ → ℕ → Type 0
  Ends n i j = i ≤ length w → IsListed w p i (length g) n j

  abbrev Growths : ℕ → ℕ → ℕ → ℕ → Type 0
  Growths c k n j = c < length g → k ≤ length w → IsListed w p k c n j

  abbrev Runs : Alternative → ℕ → ℕ → Type 0
  Runs parts k l = k ≤ length w → RunsTo g w p parts k l

  behind : (c : LexKind) (k : ℕ) → slice_get w k ≡ Some c → k + 1 ≤ length w
  behind c k at = omega (arith, slice_get_within w k c at)

  all_closed : Closed g w Ends Growths Runs
  all_closed = record {
    no_parts = λ k _. refl;
    word = λ c rest k l at run within. (k + 1, (at, refl), run (behind c k at));
    phrase = λ m rest k h l end run within. let x = end within in (h, x, run x.0);
    stays = λ n j some within. part.stays j n within some;
    steps = λ c k m a rest l n j e run grow some within. let x = run within in
        closed k within m a (Phrase c ∷ rest) e some l n j x (grow (alternative_within g m a (Phrase c ∷ rest) e) (run_within g w p rest k l within x));
    from_nothing = λ b a i n j e grow within. closed i within b a [] e i n j refl (grow (alternative_within g b a [] e) within);
    from_word = λ b a i c rest l n j e at run grow within. let x = run (behind c i at) in
        closed i within b a (Word c ∷ rest) e l n j (i + 1, (at, refl), x) (grow (alternative_within g b a (Word c ∷ rest) e) (run_within g w p rest (i + 1) l (behind c i at) x));
  }

  pub ends_exact : (i n e : ℕ) → i ≤ length w → e ≤ length w → Lists (list_of p i (length g)) n e ↔ Has g w n i e
  ends_exact i n e within below = (
    λ h. (part.sound i (length g) n e (below, h)).end refl,
    λ h. (tree_marked g w Ends Growths Runs all_closed n i e h.0 h.1 within).1,
  )

  pub growths_exact : (i c n e : ℕ) → i ≤ length w → e ≤ length w → c < length g → Lists (list_of p i c) n e ↔ Grows g w n e c i
  growths_exact i c n e within below some = (
    λ h. (part.sound i c n e (below, h)).growth some,
    λ h. (growth_marked g w Ends Growths Runs all_closed n e c i h some within).1,
  )

  pub closed_exact : length g < 4294967296 → length w < 4294967296 → IsExact g w p
  closed_exact few small = record {
    count = part.count;
    tables = part.tables;
    wide = part.wide;
    few = few;
    small = small;
    ends = ends_exact;
    growths = growths_exact;
  }
