-- The grammar of action text as a table in which one token chooses the line.
use Rattle.std.specs.Prelude.{ℕ, Bool, true, false, List, [], ◌∷◌, ◌++◌, map}
use Rattle.action_terms.specs.declared.kinds.Kind.TheVariants as kind
use Rattle.action_terms.specs.declared.kinds.YKind.TheVariants as ykind
use Rattle.action_terms.specs.declared.kinds.Sort.TheVariants as sort
use Rattle.action_text.specs.declared.table.Mark.TheVariants as mark
use Rattle.action_text.specs.declared.table.Symbol.{Symbol}
use Rattle.action_text.specs.declared.table.Symbol.TheVariants.{Read, Keep, Emit, Name}
use Rattle.action_text.specs.declared.classes.Class.{Class}
use Rattle.action_text.specs.declared.classes.Class.TheVariants as class
use Rattle.action_text.specs.Numbers.{class_number, name_number}
use Rattle.action_text.specs.declared.names.Name.TheVariants as name
use Rattle.action_text.specs.declared.names.Name.{Name as GrammarName}
use Rattle.action_text.specs.Tables.{Line, Other, Table, numbered}
use Rattle.action_text.specs.Classes.{class_of, template_class}

-- a line, with the numbers of its name, its class and its symbols
abbrev pub row : GrammarName → Class → Bool → List Symbol → Line
row n c k r = record { name = name_number n; class = class_number c; keeps = k; right = map numbered r }

abbrev pub other_row : GrammarName → List Symbol → Other
other_row n r = record { name = name_number n; right = map numbered r }

-- the lines that a token chooses
unfoldable pub action_lines : List Line
action_lines =
    row name.Chain class.Or false (Name name.Operand ∷ Emit (mark.Action kind.Or) ∷ Name name.MoreOr ∷ [])
    ∷ row name.Chain class.Then false (Name name.Operand ∷ Emit (mark.Action kind.Then) ∷ Name name.MoreThen ∷ [])
    ∷ row name.Chain class.Trap false (Name name.Operand ∷ Emit (mark.Action kind.Trap) ∷ Name name.MoreTrap ∷ [])
    ∷ row name.Chain class.Hence false (Name name.Operand ∷ Emit (mark.Action kind.Hence) ∷ Name name.MoreHence ∷ [])
    ∷ row name.Chain class.Moreover false (Name name.Operand ∷ Emit (mark.Action kind.Moreover) ∷ Name name.MoreMoreover ∷ [])
    ∷ row name.Chain class.Before false (Name name.Operand ∷ Emit (mark.Action kind.Before) ∷ Name name.MoreBefore ∷ [])
    ∷ row name.Chain class.And false (Name name.AndNext ∷ [])
    ∷ row name.AndNext class.Then false (Name name.Operand ∷ Emit (mark.Action kind.AndThen) ∷ Name name.MoreAndThen ∷ [])
    ∷ row name.MoreOr class.Or false (Name name.Operand ∷ Emit (mark.Action kind.Or) ∷ Name name.MoreOr ∷ [])
    ∷ row name.MoreThen class.Then false (Name name.Operand ∷ Emit (mark.Action kind.Then) ∷ Name name.MoreThen ∷ [])
    ∷ row name.MoreTrap class.Trap false (Name name.Operand ∷ Emit (mark.Action kind.Trap) ∷ Name name.MoreTrap ∷ [])
    ∷ row name.MoreHence class.Hence false (Name name.Operand ∷ Emit (mark.Action kind.Hence) ∷ Name name.MoreHence ∷ [])
    ∷ row name.MoreMoreover class.Moreover false (Name name.Operand ∷ Emit (mark.Action kind.Moreover) ∷ Name name.MoreMoreover ∷ [])
    ∷ row name.MoreBefore class.Before false (Name name.Operand ∷ Emit (mark.Action kind.Before) ∷ Name name.MoreBefore ∷ [])
    ∷ row name.MoreAnd class.And false (Name name.Operand ∷ Emit (mark.Action kind.And) ∷ Name name.MoreAnd ∷ [])
    ∷ row name.MoreAndThen class.And false (Read class.Then ∷ Name name.Operand ∷ Emit (mark.Action kind.AndThen) ∷ Name name.MoreAndThen ∷ [])
    ∷ row name.Operand class.Complete false (Emit (mark.Action kind.Complete) ∷ [])
    ∷ row name.Operand class.Fail false (Emit (mark.Action kind.Fail) ∷ [])
    ∷ row name.Operand class.Commit false (Emit (mark.Action kind.Commit) ∷ [])
    ∷ row name.Operand class.Regive false (Emit (mark.Action kind.Regive) ∷ [])
    ∷ row name.Operand class.Rebind false (Emit (mark.Action kind.Rebind) ∷ [])
    ∷ row name.Operand class.Unfold false (Emit (mark.Action kind.Unfold) ∷ [])
    ∷ row name.Operand class.OpenParen false (Name name.Action ∷ Read class.CloseParen ∷ [])
    ∷ row name.Operand class.Unfolding false (Name name.Operand ∷ Emit (mark.Action kind.Unfolding) ∷ [])
    ∷ row name.Operand class.Furthermore false (Name name.Operand ∷ Emit (mark.Action kind.Furthermore) ∷ [])
    ∷ row name.Operand class.Escape false (Name name.Escaped ∷ [])
    ∷ row name.Operand class.Give false (Name name.Data ∷ Emit (mark.ActionWithItems kind.Give) ∷ [])
    ∷ row name.Operand class.Check false (Name name.Yielder ∷ Emit (mark.Action kind.Check) ∷ [])
    ∷ row name.Operand class.Bind false (Name name.Token ∷ Read class.To ∷ Name name.Yielder ∷ Emit (mark.ActionWithToken kind.Bind) ∷ [])
    ∷ row name.Operand class.Recursively false (Read class.Bind ∷ Name name.Token ∷ Read class.To ∷ Name name.Closure ∷ Emit (mark.ActionWithToken kind.BindRec) ∷ [])
    ∷ row name.Operand class.Store false (Name name.Yielder ∷ Read class.In ∷ Name name.Yielder ∷ Emit (mark.Action kind.Store) ∷ [])
    ∷ row name.Operand class.Allocate false (Read class.A ∷ Read class.Cell ∷ Emit (mark.Action kind.Allocate) ∷ [])
    ∷ row name.Operand class.Send false (Name name.Yielder ∷ Emit (mark.Action kind.Send) ∷ [])
    ∷ row name.Operand class.Receive false (Read class.An ∷ Read class.Integer ∷ Emit (mark.Action kind.Receive) ∷ [])
    ∷ row name.Operand class.Enact false (Name name.Enacted ∷ [])
    ∷ row name.Enacted class.Application false (Read class.Of ∷ Name name.Yielder ∷ Read class.To ∷ Name name.Data ∷ Emit (mark.ActionWithItems kind.Apply) ∷ [])
    ∷ row name.Escaped class.With false (Name name.Data ∷ Emit (mark.ActionWithItems kind.EscapeWith) ∷ [])
    ∷ row name.Data class.Them false (Emit (mark.Yielder ykind.Them) ∷ Emit mark.FirstItem ∷ [])
    ∷ row name.Data class.OpenParen false (Name name.Items ∷ [])
    ∷ row name.Items class.CloseParen false (Emit mark.NoItems ∷ [])
    ∷ row name.MoreItems class.CloseParen false ([])
    ∷ row name.MoreItems class.Comma false (Name name.Item ∷ Emit mark.NextItem ∷ Name name.MoreItems ∷ [])
    ∷ row name.Item class.Them false (Emit (mark.Yielder ykind.Them) ∷ [])
    ∷ row name.Yielder class.Number true (Emit mark.Number ∷ [])
    ∷ row name.Yielder class.Place true (Emit mark.Number ∷ [])
    ∷ row name.Yielder class.True false (Emit (mark.Yielder (ykind.Truth true)) ∷ [])
    ∷ row name.Yielder class.False false (Emit (mark.Yielder (ykind.Truth false)) ∷ [])
    ∷ row name.Yielder class.The false (Name name.The ∷ [])
    ∷ row name.Yielder class.Sum false (Read class.OpenParen ∷ Name name.Yielder ∷ Read class.Comma ∷ Name name.Yielder ∷ Read class.CloseParen ∷ Emit (mark.Yielder ykind.Sum) ∷ [])
    ∷ row name.Yielder class.Difference false (Read class.OpenParen ∷ Name name.Yielder ∷ Read class.Comma ∷ Name name.Yielder ∷ Read class.CloseParen ∷ Emit (mark.Yielder ykind.Difference) ∷ [])
    ∷ row name.Yielder class.Product false (Read class.OpenParen ∷ Name name.Yielder ∷ Read class.Comma ∷ Name name.Yielder ∷ Read class.CloseParen ∷ Emit (mark.Yielder ykind.Product) ∷ [])
    ∷ row name.Yielder class.IntegerQuotient false (Read class.OpenParen ∷ Name name.Yielder ∷ Read class.Comma ∷ Name name.Yielder ∷ Read class.CloseParen ∷ Emit (mark.Yielder ykind.Quotient) ∷ [])
    ∷ row name.Yielder class.IntegerRemainder false (Read class.OpenParen ∷ Name name.Yielder ∷ Read class.Comma ∷ Name name.Yielder ∷ Read class.CloseParen ∷ Emit (mark.Yielder ykind.Remainder) ∷ [])
    ∷ row name.Yielder class.Both false (Read class.OpenParen ∷ Name name.Yielder ∷ Read class.Comma ∷ Name name.Yielder ∷ Read class.CloseParen ∷ Emit (mark.Yielder ykind.Both) ∷ [])
    ∷ row name.Yielder class.Either false (Read class.OpenParen ∷ Name name.Yielder ∷ Read class.Comma ∷ Name name.Yielder ∷ Read class.CloseParen ∷ Emit (mark.Yielder ykind.Either) ∷ [])
    ∷ row name.Yielder class.Is false (Name name.IsRest ∷ [])
    ∷ row name.Yielder class.Negation false (Read class.OpenParen ∷ Name name.Yielder ∷ Read class.CloseParen ∷ Emit (mark.Yielder ykind.Negation) ∷ [])
    ∷ row name.Yielder class.Not false (Read class.OpenParen ∷ Name name.Yielder ∷ Read class.CloseParen ∷ Emit (mark.Yielder ykind.Not) ∷ [])
    ∷ row name.Yielder class.Closure false (Read class.Abstraction ∷ Read class.Of ∷ Name name.Operand ∷ Emit (mark.Yielder ykind.Closure) ∷ [])
    ∷ row name.Closure class.Closure false (Read class.Abstraction ∷ Read class.Of ∷ Name name.Operand ∷ Emit (mark.Yielder ykind.Closure) ∷ [])
    ∷ row name.IsRest class.Less false (Read class.Than ∷ Read class.OpenParen ∷ Name name.Yielder ∷ Read class.Comma ∷ Name name.Yielder ∷ Read class.CloseParen ∷ Emit (mark.Yielder ykind.Less) ∷ [])
    ∷ row name.IsRest class.OpenParen false (Name name.Yielder ∷ Read class.Comma ∷ Name name.Yielder ∷ Read class.CloseParen ∷ Emit (mark.Yielder ykind.Is) ∷ [])
    ∷ row name.The class.Given false (Name name.Sort ∷ Name name.AtPlace ∷ [])
    ∷ row name.TheRest class.Bound false (Read class.To ∷ Name name.Token ∷ Emit mark.Bound ∷ [])
    ∷ row name.TheRest class.Stored false (Read class.In ∷ Name name.Yielder ∷ Emit mark.Stored ∷ [])
    ∷ row name.AtPlace class.Hash false (Keep class.Place ∷ Emit mark.GivenAt ∷ [])
    ∷ row name.Sort class.Integer false (Emit (mark.Sort sort.Integer) ∷ [])
    ∷ row name.Sort class.TruthValue false (Emit (mark.Sort sort.Truth) ∷ [])
    ∷ row name.Sort class.Cell false (Emit (mark.Sort sort.Cell) ∷ [])
    ∷ row name.Sort class.Abstraction false (Emit (mark.Sort sort.Abstraction) ∷ [])
    ∷ row name.Token class.Quoted true []
    ∷ []

-- the lines that a token chooses in templates alone
unfoldable pub parameter_lines : List Line
parameter_lines =
    row name.Operand class.Function true (Keep class.Variable ∷ Emit mark.Applied ∷ [])
    ∷ row name.Yielder class.Value false (Read class.Of ∷ Keep class.Variable ∷ Emit mark.ValueOf ∷ [])
    ∷ row name.Token class.Token false (Read class.Of ∷ Keep class.Variable ∷ [])
    ∷ []

unfoldable pub template_lines : List Line
template_lines = action_lines ++ parameter_lines

-- what else a name may be
unfoldable pub action_others : List Other
action_others =
    other_row name.Action (Name name.Operand ∷ Name name.Chain ∷ [])
    ∷ other_row name.Chain ([])
    ∷ other_row name.AndNext (Name name.Operand ∷ Emit (mark.Action kind.And) ∷ Name name.MoreAnd ∷ [])
    ∷ other_row name.MoreOr ([])
    ∷ other_row name.MoreAnd ([])
    ∷ other_row name.MoreAndThen ([])
    ∷ other_row name.MoreThen ([])
    ∷ other_row name.MoreTrap ([])
    ∷ other_row name.MoreHence ([])
    ∷ other_row name.MoreMoreover ([])
    ∷ other_row name.MoreBefore ([])
    ∷ other_row name.Enacted (Name name.Yielder ∷ Emit (mark.Action kind.Enact) ∷ [])
    ∷ other_row name.Escaped (Emit (mark.Action kind.Escape) ∷ [])
    ∷ other_row name.Data (Name name.Yielder ∷ Emit mark.FirstItem ∷ [])
    ∷ other_row name.Items (Name name.Item ∷ Emit mark.FirstItem ∷ Read class.Comma ∷ Name name.Item ∷ Emit mark.NextItem ∷ Name name.MoreItems ∷ [])
    ∷ other_row name.Item (Name name.Yielder ∷ [])
    ∷ other_row name.The (Name name.Sort ∷ Name name.TheRest ∷ [])
    ∷ other_row name.AtPlace (Emit mark.Given ∷ [])
    ∷ []

abbrev pub template_table : Table
template_table = record { class = template_class; lines = template_lines; others = action_others }

-- the table for texts with parameters, or without
abbrev pub class_in : Bool → List ℕ → ℕ
class_in true bytes = template_class bytes
class_in false bytes = class_of bytes

abbrev pub lines_in : Bool → List Line
lines_in true = template_lines
lines_in false = action_lines

abbrev pub table_in : Bool → Table
table_in p = record { class = class_in p; lines = lines_in p; others = action_others }
