-- A text that is read as a graph has no error, and so it isn't refused.
use Rattle.std.proofs.Common.{◌≡◌, inl, inr, ℕ, ◌+◌, ◌≤◌, List, [], length, drop, Some, slice_get, refl, sym, ap, ◌∙◌, subst, arith}
use Rattle.std.proofs.lemmas.List.{take-append-drop}
use Rattle.std.proofs.lemmas.Bool.{cases_lt}
use Rattle.acg_base.specs.Outside.{front}
use Rattle.meta_lex.proofs.OneReading.{one_token_list, tokens_or_bad_byte}
use Rattle.action_terms.specs.Trees.{Tree, preorder}
use Rattle.action_terms.specs.Numbering.{Listed, strays, node_limit}
use Rattle.action_terms.proofs.SealLemmas.{length-preorder}
use Rattle.action_text.specs.ActionText.{Spells}
use Rattle.action_text.specs.Answers.{IsTextOf, IsBadText, IsReadAs, IsTextError, token_bytes}
use Rattle.action_text.specs.declared.errors.TextError.{TextError}
use Rattle.action_text.specs.declared.errors.TextError.TheVariants as error
use Rattle.action_text.proofs.ActionTemplates.{one_action}
use Rattle.acg_base.specs.declared.limits.TheConstants.{LIMIT_ACTION}
use Rattle.acg_words.specs.declared.line.Line.{Line}
use Rattle.acg_words.specs.declared.line.Line.TheVariants.{Memory, LimitAction, LimitNodes, ActionByte, ActionText, StrayUnfold}
use Rattle.acg_driver.specs.Texts.{Errs, Reads, RefusesText}
use Rattle.acg_driver.proofs.Fronts.{short-front, whole-front}

-- a text is that of one action
pub one_text : (bytes : List ℕ) (t u : Tree) → IsTextOf bytes t → IsTextOf bytes u → t ≡ u
one_text bytes t u first second =
    let same = one_token_list bytes first.tokens second.tokens first.are_tokens second.are_tokens in
    one_action t u (token_bytes second.tokens) (subst (λ ts. Spells t (token_bytes ts)) same first.spells) second.spells

-- the text of an action goes wrong nowhere
not_bad : (bytes : List ℕ) (t : Tree) (offset : ℕ) → IsTextOf bytes t → IsBadText bytes offset → ⊥
not_bad bytes t offset text bad =
    let same = one_token_list bytes text.tokens bad.tokens text.are_tokens bad.are_tokens in
    let spelled : Spells t (token_bytes bad.tokens) = subst (λ ts. Spells t (token_bytes ts)) same text.spells in
    let tokens = token_bytes bad.tokens in
    elim (cases_lt bad.place (length tokens)) [
      | inl inside ↦ bad.first_bad.token inside (drop (bad.place + 1) tokens, t, subst (λ ts. Spells t ts) (sym (take-append-drop (bad.place + 1) tokens)) spelled)
      | inr past ↦ bad.first_bad.early (omega (arith, bad.first_bad.inside)) t spelled
    ]

-- only want of memory is left
only_memory : (bytes : List ℕ) (g : Listed) (e : TextError) → IsReadAs bytes g → IsTextError bytes e → e ≡ error.Memory
only_memory bytes g error.Memory read errs = refl
only_memory bytes g (error.BadByte offset) (t, text, graph) errs = absurd (tokens_or_bad_byte bytes text.tokens offset text.are_tokens errs)
only_memory bytes g (error.NotAction offset) (t, text, graph) errs = absurd (not_bad bytes t offset text errs)
only_memory bytes g error.Nodes (t, text, graph) (u, other, many) =
    let few : length (preorder u) ≤ node_limit = subst (λ v. length (preorder v) ≤ node_limit) (one_text bytes t u text other) (omega (arith, length-preorder t, graph.few)) in
    absurd (omega (arith, few, many))
only_memory bytes g (error.StrayUnfold node) (t, text, graph) (u, other, few, least) =
    let none : strays u ≡ [] = subst (λ v. strays v ≡ []) (one_text bytes t u text other) graph.none_stray in
    let first : slice_get [] 0 ≡ Some node = sym (ap (λ ns. slice_get ns 0) none) ∙ least in
    absurd (cc)

not_refused : (bytes : List ℕ) (g : Listed) (e : TextError) → Reads bytes g → (e ≡ error.Memory → ⊥) → Errs bytes e → ⊥
not_refused bytes g e reads other errs = other (only_memory bytes g e reads.1 errs.1)

-- bytes that read are refused for want of memory alone
pub reads-refused : (bytes : List ℕ) (g : Listed) (line : Line) → Reads bytes g → RefusesText bytes line → line ≡ Memory
reads-refused bytes g Memory reads refused = refl
reads-refused bytes g LimitAction reads long = absurd (omega (arith, reads.0, long))
reads-refused bytes g LimitNodes reads errs = absurd (not_refused bytes g error.Nodes reads (λ e. cc) errs)
reads-refused bytes g (ActionByte offset) reads errs = absurd (not_refused bytes g (error.BadByte offset) reads (λ e. cc) errs)
reads-refused bytes g (ActionText offset) reads errs = absurd (not_refused bytes g (error.NotAction offset) reads (λ e. cc) errs)
reads-refused bytes g (StrayUnfold node) reads errs = absurd (not_refused bytes g (error.StrayUnfold node) reads (λ e. cc) errs)
reads-refused bytes g _ reads refused = absurd refused

-- what was read of a content that reads is the content
pub reads-whole : (content given : List ℕ) (g : Listed) → given ≡ front LIMIT_ACTION content → Reads content g → given ≡ content
reads-whole content given g is reads = is ∙ whole-front LIMIT_ACTION content reads.0

-- a content reads where what was read of it does
pub reads-content : (content given : List ℕ) (g : Listed) → given ≡ front LIMIT_ACTION content → Reads given g → Reads content g
reads-content content given g is reads =
    let short : length (front LIMIT_ACTION content) ≤ LIMIT_ACTION = subst (λ b. length b ≤ LIMIT_ACTION) is reads.0 in
    subst (λ b. Reads b g) (is ∙ short-front LIMIT_ACTION content short) reads

-- where a content reads, what was read of it is refused for want of memory alone
pub content-refused : (content given : List ℕ) (g : Listed) (line : Line) → given ≡ front LIMIT_ACTION content → Reads content g → RefusesText given line → line ≡ Memory
content-refused content given g line is reads refused =
    reads-refused content g line reads (subst (λ b. RefusesText b line) (reads-whole content given g is reads) refused)
