-- Trees that are built.
use Rattle.std.specs.Prelude.{◌≡◌, ◌≤◌, ℕ, ◌&&◌, nat_eq, Bool, List, Some, Contains, length}
use Rattle.std.specs.Borrow.{Bor}
use Rattle.indexmap.specs.IndexMap.{IndexMap, get}
use Rattle.gram_form.specs.declared.tree.Tree.{Tree}
use Rattle.gram_form.specs.Trees.{plain_tree}
use Rattle.source_lex.specs.Numbered.{Numbered}
use Rattle.source_lex.specs.Trees.{IsTree, Has}
use Rattle.source_lex.specs.declared.lexeme.LexKind.{LexKind}
use Rattle.tree_pick.specs.declared.phrases.Span.{Span}

-- whether the phrases are the same
abbrev pub same_span : Span → Span → Bool
same_span x y = nat_eq x.nonterm y.nonterm && (nat_eq x.start y.start && nat_eq x.end y.end)

-- the tree in an arena is one of the nonterminal over i to j
abbrev pub IsTreeOf : (g : Numbered) (w : List LexKind) (n i j : ℕ) → Tree → Type 0
IsTreeOf g w n i j t = IsTree g w n i j (plain_tree t)

-- what is kept for a phrase is a tree of it
abbrev pub AreTrees : {S : Type 0} → (g : Numbered) (w : List LexKind) → IndexMap Span (Bor Tree) S
    → Type 0
AreTrees g w built =
    (x : Span) (t : Bor Tree) → get same_span built x ≡ Some t
    → IsTreeOf g w x.nonterm x.start x.end t.now

-- each phrase has a tree, and begins within the lexemes
abbrev pub HaveTrees : (g : Numbered) (w : List LexKind) → List Span → Type 0
HaveTrees g w phrases =
    (x : Span) → Contains phrases x → Has g w x.nonterm x.start x.end × (x.start ≤ length w)
