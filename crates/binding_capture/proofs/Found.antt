-- The marks of all nodes, one node after the other, and the tokens that have one.
use Rattle.std.proofs.Common.{Bool, List, [], Some, Vec, ap, arith, false, if◌then◌else◌, length, map, get_or, refl, subst, suc, sym, true, zero, ℕ, ◌+◌, ◌<◌, ◌||◌, ◌++◌, ◌∙◌, ◌∷◌, ◌≡◌}
use Rattle.std.specs.Prelude.{slice_get}
use Rattle.std.specs.Global.{Global}
use Rattle.std.proofs.lemmas.List.{length-map}
use Rattle.action_terms.specs.Actions.{Action}
use Rattle.action_terms.specs.Information.{Token}
use Rattle.action_terms.specs.Proper.{IsProper}
use Rattle.sort_rules.specs.Demands.{closure_bodies}
use Rattle.sort_rules.specs.Measures.{asked_at, asked_beneath, has_token, kept_tokens, node_numbers, numbers_before}
use Rattle.sort_rules.specs.Numbers.{is_listed}
use Rattle.sort_rules.specs.Parts.{same_token}
use Rattle.sort_rules.specs.Procedures.{is_beneath}
use Rattle.sort_rules.specs.Shapes.{domain}
use Rattle.sort_rules.specs.Tables.{BindsIn, MarkedTable}
use Rattle.sort_rules.proofs.ActionNumbers.{closure_bodies-below}
use Rattle.sort_rules.proofs.NumberLists.{is_listed_of}
use Rattle.binding_capture.specs.Captures.{AreCaptured, AreMarked, IsMarkedAbove, Marked, asked_of, marked_at, marked_of, marks, with_asked, with_asked_if}
use Rattle.binding_capture.specs.declared.marking.Candidate.{Candidate}

-- ---- one list more

pub marked-push : (cs : List (Vec Candidate Global)) (v d : Vec Candidate Global) (k : ℕ) (x : List Marked) → k < length cs + 1
    → (k < length cs → marked_at cs d k ≡ x) → (k ≡ length cs → marked_of v.items ≡ x) → marked_at (cs ++ v ∷ []) d k ≡ x
marked-push [] v d zero x less first last = last refl
marked-push [] v d (suc k) x less first last = absurd (omega arith)
marked-push (c ∷ cs) v d zero x less first last = first (omega arith)
marked-push (c ∷ cs) v d (suc k) x less first last = marked-push cs v d k x (omega arith) (λ l. first (omega arith)) (λ e. last (ap suc e))

-- ---- one node more asks

or-assoc : (a b c : Bool) → ((a || b) || c) ≡ (a || (b || c))
or-assoc true b c = refl
or-assoc false b c = refl

pub has_token-append : (t : Token) (xs ys : List Token) → has_token t (xs ++ ys) ≡ (has_token t xs || has_token t ys)
has_token-append t [] ys = refl
has_token-append t (x ∷ xs) ys = ap (λ (b : Bool). same_token t x || b) (has_token-append t xs ys) ∙ sym (or-assoc (same_token t x) (has_token t xs) (has_token t ys))

marks-append : (ts xs ys : List Token) → with_asked xs (marks ts ys) ≡ marks ts (xs ++ ys)
marks-append [] xs ys = refl
marks-append (t ∷ ts) xs ys =
    ap (λ (b : Bool). record { token = t; asked = b } ∷ with_asked xs (marks ts ys)) (sym (has_token-append t xs ys))
    ∙ ap (λ (ms : List Marked). record { token = t; asked = has_token t (xs ++ ys) } ∷ ms) (marks-append ts xs ys)

marks-more : (b : Bool) (ts xs ys : List Token) → with_asked_if b xs (marks ts ys) ≡ marks ts ((if b then xs else []) ++ ys)
marks-more true ts xs ys = marks-append ts xs ys
marks-more false ts xs ys = refl

body-below : (a : Action) (c : ℕ) → IsProper a → is_listed c (closure_bodies a) ≡ true → c < length a
body-below a c proper h = closure_bodies-below (length a) a c proper.nodes (is_listed_of c (closure_bodies a) h)

-- the marks for which the nodes from number k on ask
pub record AreMarkedFrom (a : Action) (t : MarkedTable) (k : ℕ) (cs : List (Vec Candidate Global)) : Type 0 where
  pub last : List ℕ
  pub numbers : numbers_before k last ≡ node_numbers a
  pub marked : AreMarked a t last cs

pub marked-none : (a : Action) (t : MarkedTable) (cs : List (Vec Candidate Global)) → IsProper a → length cs ≡ length a
    → ((k : ℕ) (d : Vec Candidate Global) → k < length a → is_listed k (closure_bodies a) ≡ true → marked_at cs d k ≡ marks (domain (t (BindsIn k))) [])
    → AreMarkedFrom a t (length a) cs
marked-none a t cs proper long none = record {
  last = [];
  numbers = refl;
  marked = record { long = long; each = λ c d h. none c d (body-below a c proper h) h };
}

pub marked-more : (a : Action) (t : MarkedTable) (k : ℕ) (cs after : List (Vec Candidate Global)) (asked : List Token) → IsProper a → asked ≡ asked_at a t k
    → AreMarkedFrom a t (suc k) cs → IsMarkedAbove a k asked cs after → AreMarkedFrom a t k after
marked-more a t k cs after asked proper e are step = record {
  last = k ∷ are.last;
  numbers = are.numbers;
  marked = record {
    long = step.long ∙ are.marked.long;
    each = λ c d h.
        step.each c d (omega (arith, are.marked.long, body-below a c proper h))
        ∙ ap (with_asked_if (is_beneath a c k) asked) (are.marked.each c d h)
        ∙ marks-more (is_beneath a c k) (domain (t (BindsIn c))) asked (asked_beneath a t c are.last)
        ∙ ap (λ (zs : List Token). marks (domain (t (BindsIn c))) ((if is_beneath a c k then zs else []) ++ asked_beneath a t c are.last)) e;
  };
}

pub marked-all : (a : Action) (t : MarkedTable) (cs : List (Vec Candidate Global)) → AreMarkedFrom a t 0 cs → AreMarked a t (node_numbers a) cs
marked-all a t cs are = subst (λ (ks : List ℕ). AreMarked a t ks cs) are.numbers are.marked

-- ---- the tokens with a mark

kept-marks : (ts asked : List Token) → asked_of (marks ts asked) ≡ kept_tokens ts asked
kept-marks [] asked = refl
kept-marks (t ∷ ts) asked =
    ap (λ (zs : List Token). if has_token t asked then t ∷ zs else zs) (kept-marks ts asked)

abbrev pub found_in : Vec Candidate Global → List Token
found_in v = asked_of (marked_of v.items)

found-at : (cs : List (Vec Candidate Global)) (d : Vec Candidate Global) (k : ℕ) → k < length cs → slice_get (map found_in cs) k ≡ Some (found_in (get_or cs k d))
found-at [] d k less = absurd (omega arith)
found-at (c ∷ cs) d zero less = refl
found-at (c ∷ cs) d (suc k) less = found-at cs d k (omega arith)

-- an entry that is there
entry : (cs : List (Vec Candidate Global)) (k : ℕ) → k < length cs → Vec Candidate Global
entry [] k less = absurd (omega arith)
entry (c ∷ cs) k less = c

pub all-captured : (a : Action) (t : MarkedTable) (cs : List (Vec Candidate Global)) (found : List (List Token)) → IsProper a → AreMarked a t (node_numbers a) cs
    → found ≡ map found_in cs → AreCaptured a t found
all-captured a t cs found proper are e = record {
  long = ap length e ∙ length-map cs found_in ∙ are.long;
  each = λ c h.
      let less : c < length cs = omega (arith, are.long, body-below a c proper h) in
      let d = entry cs c less in
      ap (λ (zs : List (List Token)). slice_get zs c) e
      ∙ found-at cs d c less
      ∙ ap (λ (ms : List Marked). Some (asked_of ms)) (are.each c d h)
      ∙ ap Some (kept-marks (domain (t (BindsIn c))) (asked_beneath a t c (node_numbers a)));
}
