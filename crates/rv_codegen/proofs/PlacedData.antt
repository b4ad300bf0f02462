-- What the turns of nodes with data ask of places, where parts share the places of their node, as a layout has them.
use Rattle.std.proofs.Common.{◌≡◌, ℕ, ◌<◌, ◌≤◌, length, None, Some, arith, inl, inr}
use Rattle.action_terms.specs.Performances.{OneOf}
use Rattle.sort_rules.specs.Procedures.{procedure_of}
use Rattle.frame_layout.specs.Layouts.{AreConsecutive, Itself}
use Rattle.frame_layout.specs.Places.{PlacedNode}
use Rattle.frame_layout.proofs.GraphParts.{HasTrees}
use Rattle.rv_codegen.specs.Aliases.{out_of}
use Rattle.rv_codegen.proofs.AliasPlaces.{HasOwnWords, given-apart, given-not_out, given-within, out-once, out-within}
use Rattle.rv_codegen.proofs.AliasSettings.{placed}
use Rattle.rv_codegen.proofs.AliasWords.{own-word}
use Rattle.rv_codegen.proofs.EscapingWith.{EscapesPlaces}
use Rattle.rv_codegen.proofs.Giving.{LeavesData}
use Rattle.rv_codegen.proofs.Pointing.{first_of}
use Rattle.rv_codegen.proofs.RestPoints.{Laid, MayBeCaught, Starting}
use Rattle.rv_codegen.proofs.Settings.{Setting}

module _ (s : Setting) (trees : HasTrees s.action) (p : ℕ → PlacedNode) (words : ℕ → ℕ) (own : HasOwnWords s.action p words) where
  abbrev at : Setting
  at = placed s trees p words own

  module _ (laid : Laid at) (x : Starting at) (within : x.k < length s.action) (reached : words (procedure_of s.action x.k) ≤ 33554432) where
    -- where data are found and left
    pub leaves-data : length (out_of p s.action x.k) ≤ s.widest → LeavesData at laid x
    leaves-data few = record {
      near_given = λ o m. let r = given-within s.action trees p words own x.k o within m in omega (arith, r.1, reached);
      given_inside = λ o m. (given-within s.action trees p words own x.k o within m).1;
      near_out = λ o m. let r = out-within s.action trees p words own x.k o within m in omega (arith, r.1, reached);
      own = record { may = λ o m. inr (inl m); inside = λ o m. (out-within s.action trees p words own x.k o within m).1 };
      once = out-once s.action trees p words own x.k within;
      apart = λ o m n. given-not_out s.action trees p words own x.k o within m n;
      few = few;
      binds = λ ws. record { held = tt; table = record { ascends = tt; among = λ t y q. absurd (let r : None ≡ Some y = q in cc) } };
    }

    escaped-inside : (o : ℕ) → OneOf o (p x.k).escaped → o < words (procedure_of s.action x.k)
    escaped-inside o m = (own.within x.k o within (own-word (p x.k) o (inr (inr (inl m))))).1

    -- where data are found, and put in a row
    pub escapes-places : AreConsecutive (p x.k).escaped → length (p x.k).escaped ≤ s.widest → 0 < words (procedure_of s.action x.k) → MayBeCaught at x.k (first_of (p x.k).escaped) (length (p x.k).escaped) → EscapesPlaces at laid x (p x.k).escaped
    escapes-places row few some caught = record {
      near_given = λ o m. let r = given-within s.action trees p words own x.k o within m in omega (arith, r.1, reached);
      given_inside = λ o m. (given-within s.action trees p words own x.k o within m).1;
      near_escaped = λ o m. omega (arith, escaped-inside o m, reached);
      own = record { may = λ o m. inl (x.k, within, Itself, inr (inr (inl m))); inside = λ o m. escaped-inside o m };
      row = row;
      apart = λ o m n. given-apart s.action trees p words own x.k o m (inl (x.k, within, Itself, inr (inr (inl n))));
      caught = caught;
      few = few;
      some_words = some;
    }
