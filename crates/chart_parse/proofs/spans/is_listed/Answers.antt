use Rattle.std.proofs.Common.{◌≡◌, ◌∙◌, ◌+◌, ◌++◌, inl, inr, true, false, ℕ, List, [], ◌∷◌, take, take_all, get_or, add-one, sym, subst, refl}
use Rattle.std.proofs.Math.Seq.{take-suc}
use Rattle.chart_parse.specs.declared.rows.Entry.{Entry}
use Rattle.chart_parse.specs.Rows.{Lists}
use Rattle.chart_parse.proofs.Lists.{listed_at, room_at, push_lists}
use Rattle.chart_parse.proofs.spans.is_listed.Goals as goal
use Rattle.chart_parse.proofs.spans.is_listed.Goals.{else-entry-nonterminal-via-then-entry-nonterminal+else-has, else-entry-nonterminal-via-else-entry-nonterminal}

abbrev no_entry : Entry
no_entry = record { nonterm = 0; row = record { ref_ptr = (0, 0); now = [] } }

pub has-requires : goal.has-requires
has-requires c = room_at c.args.e c.args.list.now c.loop-entry.entry-index no_entry c.loop-entry-test.true c.requires

pub returns-then-has : goal.returns-then-has
returns-then-has c = (
  λ _. listed_at c.args.list.now c.loop-entry.entry-index no_entry c.args.nonterminal c.args.e c.loop-entry-test.true c.if-entry-nonterminal.true (c.has.ensures.0 c.if-has.true),
  λ _. refl,
)

pub loop-entry-preserved : goal.loop-entry-preserved
loop-entry-preserved c h =
    let list : List Entry = c.args.list.now in
    let k : ℕ = c.loop-entry.entry-index in
    let x : Entry = get_or list k no_entry in
    let e : take (k + 1) list ≡ take k list ++ x ∷ [] = rw (add-one k) (take-suc list k no_entry c.loop-entry-test.true) in
    elim ((push_lists (take k list) x c.args.nonterminal c.args.e).0 (subst (λ (l : List Entry). Lists l c.args.nonterminal c.args.e) e h)) [
      | inl old ↦ c.loop-entry.invariant old
      | inr here ↦ elim c.else-entry-nonterminal.branch [
        | else-entry-nonterminal-via-then-entry-nonterminal+else-has w ↦ (let t : true ≡ false = sym (w.has.ensures.1 here.1) ∙ w.if-has.false in cc)
        | else-entry-nonterminal-via-else-entry-nonterminal w ↦ absurd (w.if-entry-nonterminal.false here.0)
      ]
    ]

pub returns : goal.returns
returns c = (
  λ q. absurd (cc),
  λ h. absurd (c.loop-entry.invariant (subst (λ (l : List Entry). Lists l c.args.nonterminal c.args.e) (sym (take_all c.loop-entry.entry-index c.args.list.now c.loop-entry-test.false)) h)),
)
