-- What a description and a source give together: the graph of an action, or the cause for which they are refused.
use Rattle.std.specs.Prelude.{◌<◌, ◌≤◌, ℕ, List, length}
use Rattle.acg_base.specs.declared.limits.TheConstants.{LIMIT_SOURCE}
use Rattle.action_terms.specs.Meaning.{action_of}
use Rattle.action_terms.specs.Numbering.{Listed, IsGraphOf}
use Rattle.action_terms.specs.Trees.{Tree}
use Rattle.meta_check.specs.Checked.{PlainDescription}
use Rattle.equation_expand.specs.SourceMeanings as cause
use Rattle.equation_expand.specs.SourceMeanings.{SourceCause, SourceMeans, IsSourceCause}
use Rattle.equation_expand.specs.declared.errors.ExpandError.TheVariants as expansion
use Rattle.acg_driver.specs.Compiling.{IsUncompiledFor}
use Rattle.acg_driver.specs.Descriptions.{Describes, TooLong, NoToken, NoItem, BrokenRule, IsDescriptionCause}
use Rattle.acg_driver.specs.declared.compiling.CompileError.{CompileError}
use Rattle.acg_driver.specs.declared.compiling.CompileError.TheVariants as compile_error
use Rattle.acg_driver.specs.declared.sources.SourceError.{SourceError}
use Rattle.acg_driver.specs.declared.sources.SourceError.TheVariants as error

-- the source is within its limit, its one tree by the description means an action, and the graph is that action's
abbrev pub SourceGives : PlainDescription → (source : List ℕ) → Listed → Type 0
SourceGives d source g =
    (length source ≤ LIMIT_SOURCE) × (action : Tree) × SourceMeans d source action × IsGraphOf g action

-- the first bytes are a description, and by it the second ones give the graph
abbrev pub Gives : (description source : List ℕ) → Listed → Type 0
Gives description source g =
    (d : PlainDescription) × Describes description d × SourceGives d source g

-- a source within its limit has no graph by the description, for this cause
abbrev pub Misses : PlainDescription → (source : List ℕ) → SourceCause → Type 0
Misses d source why = (length source ≤ LIMIT_SOURCE) × IsSourceCause d source why

-- the error with which bytes are refused as a description: want of memory, or the cause; no other error comes
abbrev pub RefusesDescription : (bytes : List ℕ) → SourceError → Type 0
RefusesDescription bytes error.Memory = Unit {0}
RefusesDescription bytes error.LimitDescription = IsDescriptionCause bytes TooLong
RefusesDescription bytes (error.DescriptionByte offset) = IsDescriptionCause bytes (NoToken offset)
RefusesDescription bytes (error.DescriptionItem index) = IsDescriptionCause bytes (NoItem index)
RefusesDescription bytes (error.DescriptionRule rule item) = IsDescriptionCause bytes (BrokenRule rule item)
RefusesDescription bytes _ = ⊥

-- the error with which bytes are refused as a source by a description: want of memory, or the cause; no other error comes
abbrev pub RefusesSource : PlainDescription → (source : List ℕ) → SourceError → Type 0
RefusesSource d source error.Memory = Unit {0}
RefusesSource d source error.LimitSource = LIMIT_SOURCE < length source
RefusesSource d source (error.SourceByte offset) = Misses d source (cause.Byte offset)
RefusesSource d source error.LimitLexemes = Misses d source cause.Lexemes
RefusesSource d source error.NoTree = Misses d source cause.NoTree
RefusesSource d source error.Ambiguous = Misses d source cause.Ambiguous
RefusesSource d source (error.Uncovered function production alternative) =
    Misses d source (cause.Expansion (expansion.Uncovered function production alternative))
RefusesSource d source (error.BigNumeral offset) =
    Misses d source (cause.Expansion (expansion.BigNumeral offset))
RefusesSource d source error.LimitNodes = Misses d source (cause.Expansion expansion.Nodes)
RefusesSource d source (error.StrayUnfold node) =
    Misses d source (cause.Expansion (expansion.StrayUnfold node))
RefusesSource d source _ = ⊥

-- the first bytes are a description, by which the second ones are refused with the error
abbrev pub IsRefusedBySome : (description source : List ℕ) → SourceError → Type 0
IsRefusedBySome description source e =
    (d : PlainDescription) × Describes description d × RefusesSource d source e

-- the action that the two give isn't compiled, for this cause
abbrev pub IsUncompiled : (description source : List ℕ) → CompileError → Type 0
IsUncompiled description source e =
    (g : Listed) × Gives description source g × IsUncompiledFor (action_of g) e

-- why a description and a source aren't compiled, in the order of what is looked at: the description, then the source by it, and
-- then the sorts of the action that they give. Want of memory is free to come
abbrev pub IsSourceRefused : (description source : List ℕ) → SourceError → Type 0
IsSourceRefused description source error.Memory = Unit {0}
IsSourceRefused description source error.LimitDescription =
    RefusesDescription description error.LimitDescription
IsSourceRefused description source (error.DescriptionByte offset) =
    RefusesDescription description (error.DescriptionByte offset)
IsSourceRefused description source (error.DescriptionItem index) =
    RefusesDescription description (error.DescriptionItem index)
IsSourceRefused description source (error.DescriptionRule rule item) =
    RefusesDescription description (error.DescriptionRule rule item)
IsSourceRefused description source (error.IllSorted node) =
    IsUncompiled description source (compile_error.IllSorted node)
IsSourceRefused description source (error.Unbuilt node) =
    IsUncompiled description source (compile_error.Unbuilt node)
IsSourceRefused description source e = IsRefusedBySome description source e
