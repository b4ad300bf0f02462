-- The table of action text passes the tests: one token chooses, and each name can be read to its end.
use Rattle.std.proofs.Common.{◌≡◌, ℕ, Bool, true, false, List, [], ◌∷◌, ◌++◌, refl, get_or, map, codes, nat_eq, eqb-true}
use Rattle.action_text.specs.declared.classes.Class.{Class}
use Rattle.action_text.specs.declared.classes.Class.TheVariants as class
use Rattle.action_text.specs.Numbers.{class_number}
use Rattle.action_text.specs.Tables.{other_of}
use Rattle.action_text.specs.ActionTable.{table_in, class_in, lines_in, template_lines, action_lines, parameter_lines, action_others}
use Rattle.meta_terms.specs.Words.{words}
use Rattle.action_text.proofs.Starts.{Known, Starting, Choosing}
use Rattle.action_text.proofs.Checked.{each, starts_of, right_is_safe, line_is_good, other_is_good, lines_are_good, others_are_good, starting, choosing, can_end, below, below_each, Ending, ending, Sampled}

-- the classes with which each name can begin
abbrev firsts : List (List Class)
firsts =
    (class.Complete ∷ class.Fail ∷ class.Commit ∷ class.Regive ∷ class.Rebind ∷ class.Unfold ∷ class.OpenParen ∷ class.Unfolding ∷ class.Furthermore ∷ class.Escape ∷ class.Give ∷ class.Check ∷ class.Bind ∷ class.Recursively ∷ class.Store ∷ class.Allocate ∷ class.Send ∷ class.Receive ∷ class.Enact ∷ [])
    ∷ (class.Or ∷ class.Then ∷ class.Trap ∷ class.Hence ∷ class.Moreover ∷ class.Before ∷ class.And ∷ [])
    ∷ (class.Then ∷ class.Complete ∷ class.Fail ∷ class.Commit ∷ class.Regive ∷ class.Rebind ∷ class.Unfold ∷ class.OpenParen ∷ class.Unfolding ∷ class.Furthermore ∷ class.Escape ∷ class.Give ∷ class.Check ∷ class.Bind ∷ class.Recursively ∷ class.Store ∷ class.Allocate ∷ class.Send ∷ class.Receive ∷ class.Enact ∷ [])
    ∷ (class.Or ∷ [])
    ∷ (class.And ∷ [])
    ∷ (class.And ∷ [])
    ∷ (class.Then ∷ [])
    ∷ (class.Trap ∷ [])
    ∷ (class.Hence ∷ [])
    ∷ (class.Moreover ∷ [])
    ∷ (class.Before ∷ [])
    ∷ (class.Complete ∷ class.Fail ∷ class.Commit ∷ class.Regive ∷ class.Rebind ∷ class.Unfold ∷ class.OpenParen ∷ class.Unfolding ∷ class.Furthermore ∷ class.Escape ∷ class.Give ∷ class.Check ∷ class.Bind ∷ class.Recursively ∷ class.Store ∷ class.Allocate ∷ class.Send ∷ class.Receive ∷ class.Enact ∷ [])
    ∷ (class.Application ∷ class.Number ∷ class.Place ∷ class.True ∷ class.False ∷ class.The ∷ class.Sum ∷ class.Difference ∷ class.Product ∷ class.IntegerQuotient ∷ class.IntegerRemainder ∷ class.Both ∷ class.Either ∷ class.Is ∷ class.Negation ∷ class.Not ∷ class.Closure ∷ [])
    ∷ (class.With ∷ [])
    ∷ (class.Them ∷ class.OpenParen ∷ class.Number ∷ class.Place ∷ class.True ∷ class.False ∷ class.The ∷ class.Sum ∷ class.Difference ∷ class.Product ∷ class.IntegerQuotient ∷ class.IntegerRemainder ∷ class.Both ∷ class.Either ∷ class.Is ∷ class.Negation ∷ class.Not ∷ class.Closure ∷ [])
    ∷ (class.CloseParen ∷ class.Them ∷ class.Number ∷ class.Place ∷ class.True ∷ class.False ∷ class.The ∷ class.Sum ∷ class.Difference ∷ class.Product ∷ class.IntegerQuotient ∷ class.IntegerRemainder ∷ class.Both ∷ class.Either ∷ class.Is ∷ class.Negation ∷ class.Not ∷ class.Closure ∷ [])
    ∷ (class.CloseParen ∷ class.Comma ∷ [])
    ∷ (class.Them ∷ class.Number ∷ class.Place ∷ class.True ∷ class.False ∷ class.The ∷ class.Sum ∷ class.Difference ∷ class.Product ∷ class.IntegerQuotient ∷ class.IntegerRemainder ∷ class.Both ∷ class.Either ∷ class.Is ∷ class.Negation ∷ class.Not ∷ class.Closure ∷ [])
    ∷ (class.Number ∷ class.Place ∷ class.True ∷ class.False ∷ class.The ∷ class.Sum ∷ class.Difference ∷ class.Product ∷ class.IntegerQuotient ∷ class.IntegerRemainder ∷ class.Both ∷ class.Either ∷ class.Is ∷ class.Negation ∷ class.Not ∷ class.Closure ∷ [])
    ∷ (class.Less ∷ class.OpenParen ∷ [])
    ∷ (class.Given ∷ class.Integer ∷ class.TruthValue ∷ class.Cell ∷ class.Abstraction ∷ [])
    ∷ (class.Bound ∷ class.Stored ∷ [])
    ∷ (class.Hash ∷ [])
    ∷ (class.Integer ∷ class.TruthValue ∷ class.Cell ∷ class.Abstraction ∷ [])
    ∷ (class.Closure ∷ [])
    ∷ (class.Quoted ∷ [])
    ∷ []

-- the same for templates
abbrev template_firsts : List (List Class)
template_firsts =
    (class.Complete ∷ class.Fail ∷ class.Commit ∷ class.Regive ∷ class.Rebind ∷ class.Unfold ∷ class.OpenParen ∷ class.Unfolding ∷ class.Furthermore ∷ class.Escape ∷ class.Give ∷ class.Check ∷ class.Bind ∷ class.Recursively ∷ class.Store ∷ class.Allocate ∷ class.Send ∷ class.Receive ∷ class.Enact ∷ class.Function ∷ [])
    ∷ (class.Or ∷ class.Then ∷ class.Trap ∷ class.Hence ∷ class.Moreover ∷ class.Before ∷ class.And ∷ [])
    ∷ (class.Then ∷ class.Complete ∷ class.Fail ∷ class.Commit ∷ class.Regive ∷ class.Rebind ∷ class.Unfold ∷ class.OpenParen ∷ class.Unfolding ∷ class.Furthermore ∷ class.Escape ∷ class.Give ∷ class.Check ∷ class.Bind ∷ class.Recursively ∷ class.Store ∷ class.Allocate ∷ class.Send ∷ class.Receive ∷ class.Enact ∷ class.Function ∷ [])
    ∷ (class.Or ∷ [])
    ∷ (class.And ∷ [])
    ∷ (class.And ∷ [])
    ∷ (class.Then ∷ [])
    ∷ (class.Trap ∷ [])
    ∷ (class.Hence ∷ [])
    ∷ (class.Moreover ∷ [])
    ∷ (class.Before ∷ [])
    ∷ (class.Complete ∷ class.Fail ∷ class.Commit ∷ class.Regive ∷ class.Rebind ∷ class.Unfold ∷ class.OpenParen ∷ class.Unfolding ∷ class.Furthermore ∷ class.Escape ∷ class.Give ∷ class.Check ∷ class.Bind ∷ class.Recursively ∷ class.Store ∷ class.Allocate ∷ class.Send ∷ class.Receive ∷ class.Enact ∷ class.Function ∷ [])
    ∷ (class.Application ∷ class.Number ∷ class.Place ∷ class.True ∷ class.False ∷ class.The ∷ class.Sum ∷ class.Difference ∷ class.Product ∷ class.IntegerQuotient ∷ class.IntegerRemainder ∷ class.Both ∷ class.Either ∷ class.Is ∷ class.Negation ∷ class.Not ∷ class.Closure ∷ class.Value ∷ [])
    ∷ (class.With ∷ [])
    ∷ (class.Them ∷ class.OpenParen ∷ class.Number ∷ class.Place ∷ class.True ∷ class.False ∷ class.The ∷ class.Sum ∷ class.Difference ∷ class.Product ∷ class.IntegerQuotient ∷ class.IntegerRemainder ∷ class.Both ∷ class.Either ∷ class.Is ∷ class.Negation ∷ class.Not ∷ class.Closure ∷ class.Value ∷ [])
    ∷ (class.CloseParen ∷ class.Them ∷ class.Number ∷ class.Place ∷ class.True ∷ class.False ∷ class.The ∷ class.Sum ∷ class.Difference ∷ class.Product ∷ class.IntegerQuotient ∷ class.IntegerRemainder ∷ class.Both ∷ class.Either ∷ class.Is ∷ class.Negation ∷ class.Not ∷ class.Closure ∷ class.Value ∷ [])
    ∷ (class.CloseParen ∷ class.Comma ∷ [])
    ∷ (class.Them ∷ class.Number ∷ class.Place ∷ class.True ∷ class.False ∷ class.The ∷ class.Sum ∷ class.Difference ∷ class.Product ∷ class.IntegerQuotient ∷ class.IntegerRemainder ∷ class.Both ∷ class.Either ∷ class.Is ∷ class.Negation ∷ class.Not ∷ class.Closure ∷ class.Value ∷ [])
    ∷ (class.Number ∷ class.Place ∷ class.True ∷ class.False ∷ class.The ∷ class.Sum ∷ class.Difference ∷ class.Product ∷ class.IntegerQuotient ∷ class.IntegerRemainder ∷ class.Both ∷ class.Either ∷ class.Is ∷ class.Negation ∷ class.Not ∷ class.Closure ∷ class.Value ∷ [])
    ∷ (class.Less ∷ class.OpenParen ∷ [])
    ∷ (class.Given ∷ class.Integer ∷ class.TruthValue ∷ class.Cell ∷ class.Abstraction ∷ [])
    ∷ (class.Bound ∷ class.Stored ∷ [])
    ∷ (class.Hash ∷ [])
    ∷ (class.Integer ∷ class.TruthValue ∷ class.Cell ∷ class.Abstraction ∷ [])
    ∷ (class.Closure ∷ [])
    ∷ (class.Quoted ∷ class.Token ∷ [])
    ∷ []

-- the classes that never follow each name
abbrev nevers : List (List Class)
nevers =
    (class.With ∷ class.Or ∷ class.Then ∷ class.Trap ∷ class.Hence ∷ class.Moreover ∷ class.Before ∷ class.And ∷ class.Hash ∷ [])
    ∷ (class.Or ∷ class.Then ∷ class.Trap ∷ class.Hence ∷ class.Moreover ∷ class.Before ∷ class.And ∷ class.With ∷ class.Hash ∷ [])
    ∷ (class.And ∷ class.With ∷ class.Hash ∷ [])
    ∷ (class.Or ∷ class.With ∷ class.Hash ∷ [])
    ∷ (class.And ∷ class.With ∷ class.Hash ∷ [])
    ∷ (class.And ∷ class.With ∷ class.Hash ∷ [])
    ∷ (class.Then ∷ class.With ∷ class.Hash ∷ [])
    ∷ (class.Trap ∷ class.With ∷ class.Hash ∷ [])
    ∷ (class.Hence ∷ class.With ∷ class.Hash ∷ [])
    ∷ (class.Moreover ∷ class.With ∷ class.Hash ∷ [])
    ∷ (class.Before ∷ class.With ∷ class.Hash ∷ [])
    ∷ (class.With ∷ class.Hash ∷ [])
    ∷ (class.With ∷ class.Hash ∷ [])
    ∷ (class.With ∷ class.Hash ∷ [])
    ∷ (class.With ∷ class.Hash ∷ [])
    ∷ ([])
    ∷ ([])
    ∷ (class.With ∷ class.Hash ∷ [])
    ∷ (class.With ∷ class.Hash ∷ [])
    ∷ ([])
    ∷ (class.Hash ∷ class.With ∷ [])
    ∷ (class.With ∷ class.Hash ∷ [])
    ∷ (class.Hash ∷ [])
    ∷ ([])
    ∷ (class.With ∷ class.Hash ∷ [])
    ∷ ([])
    ∷ []

-- whether each name can be nothing
abbrev empties : List Bool
empties = false ∷ true ∷ false ∷ true ∷ true ∷ true ∷ true ∷ true ∷ true ∷ true ∷ true ∷ false ∷ false ∷ true ∷ false ∷ false ∷ false ∷ false ∷ false ∷ false ∷ false ∷ false ∷ true ∷ false ∷ false ∷ false ∷ []

-- a token of each class
abbrev samples : List (List ℕ)
samples = words ++ codes "0" ∷ codes "1" ∷ (34 ∷ 120 ∷ 34 ∷ []) ∷ []

abbrev template_samples : List (List ℕ)
template_samples = samples ++ codes "|" ∷ codes "value" ∷ codes "token" ∷ codes "f" ∷ codes "V" ∷ []

abbrev pub known : Bool → Known
known false = record {
  firsts = λ n. map class_number (get_or firsts n []);
  empty = λ n. get_or empties n false;
  never = λ n. map class_number (get_or nevers n []);
  count = 26;
  classes = class_number class.Other;
  sample = λ c. get_or samples c [];
}
known true = record {
  firsts = λ n. map class_number (get_or template_firsts n []);
  empty = λ n. get_or empties n false;
  never = λ n. map class_number (get_or nevers n []);
  count = 26;
  classes = 68;
  sample = λ c. get_or template_samples c [];
}

lines_pass : (p : Bool) → lines_are_good (table_in p) (known p) (lines_in p) ≡ true
unfolding each right_is_safe line_is_good lines_are_good other_of template_lines action_lines parameter_lines action_others
lines_pass true = refl
lines_pass false = refl

others_pass : (p : Bool) → others_are_good (known p) action_others ≡ true
unfolding each starts_of right_is_safe other_is_good others_are_good action_others
others_pass true = refl
others_pass false = refl

pub table_starting : (p : Bool) → Starting (table_in p) (known p)
table_starting p = starting (table_in p) (known p) (lines_pass p) (others_pass p)

pub table_choosing : (p : Bool) → Choosing (table_in p) (known p)
table_choosing p = choosing (table_in p) (known p) (lines_pass p) (others_pass p)

samples_pass : (p : Bool) → below (λ c. nat_eq (class_in p ((known p).sample c)) c) (known p).classes ≡ true
unfolding below
samples_pass true = refl
samples_pass false = refl

pub table_sampled : (p : Bool) → Sampled (table_in p) (known p)
table_sampled p c h = eqb-true (class_in p ((known p).sample c)) c (below_each (λ c. nat_eq (class_in p ((known p).sample c)) c) (known p).classes c (samples_pass p) h)

pub table_ending : (p : Bool) → Ending (table_in p) (known p)
unfolding below can_end other_of template_lines action_lines parameter_lines action_others
table_ending true = ending (table_in true) (known true) (table_sampled true) 40 refl
table_ending false = ending (table_in false) (known false) (table_sampled false) 40 refl
