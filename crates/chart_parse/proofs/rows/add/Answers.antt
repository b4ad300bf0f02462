use Rattle.std.proofs.Common.{◌≡◌, ◌⊎◌, ◌<◌, ◌*◌, ◌++◌, [], ◌∷◌, ℕ, sym, ap, subst, ◌∙◌, length, List, get_or, slice_set, arith, refl}
use Rattle.std.specs.Prelude.{◌↔◌}
use Rattle.chart_parse.specs.declared.rows.Entry.{Entry}
use Rattle.chart_parse.specs.Rows.{Has, HasMore, Lists, AreWide}
use Rattle.chart_parse.proofs.Lists.{wide_at, set_wide, push_wide, set_lists, push_lists, same_lists}
use Rattle.chart_parse.proofs.rows.add.Goals as goal

found_wide : (width : ℕ) (xs ys : List Entry) (k : ℕ) (f : Entry) (row : List ℕ) → xs ≡ ys → AreWide width ys → k < length xs → f ≡ get_or xs k f → length row ≡ width → length row ≡ length f.row.now
found_wide width xs ys k f row same wide lt e r = r ∙ sym (ap (λ (x : Entry). length x.row.now) e ∙ wide_at width xs k f lt (subst (AreWide width) (sym same) wide))

pub has_more-requires : goal.has_more-requires
has_more-requires c = found_wide c.args.width c.loop-k.list.items c.args.list.now.items c.loop-k.k c.index-found.result.now c.args.entry.row.now c.loop-k.invariant c.requires.wide (omega (arith, c.loop-k-test.true, ap length c.loop-k.invariant, c.args.list.now.ok.0, c.len-k-end.ensures)) c.index-found.ensures c.requires.row

pub union-requires : goal.union-requires
union-requires c = found_wide c.args.width c.loop-k.list.items c.args.list.now.items c.loop-k.k c.index-found.result.now c.args.entry.row.now c.loop-k.invariant c.requires.wide (omega (arith, c.loop-k-test.true, ap length c.loop-k.invariant, c.args.list.now.ok.0, c.len-k-end.ensures)) c.index-found.ensures c.requires.row

pub returns-then-not-has_more-clause-joined : goal.returns-then-not-has_more-clause-joined
returns-then-not-has_more-clause-joined c n e within =
    let xs : List Entry = c.loop-k.list.items in
    let f : Entry = c.index-found.result.now in
    let x : Entry = c.args.entry in
    let at : f ≡ get_or xs c.loop-k.k f = c.index-found.ensures in
    let wide : length x.row.now ≡ length f.row.now = found_wide c.args.width xs c.args.list.now.items c.loop-k.k f x.row.now c.loop-k.invariant c.requires.wide (omega (arith, c.loop-k-test.true, ap length c.loop-k.invariant, c.args.list.now.ok.0, c.len-k-end.ensures)) at c.requires.row in
    let less : e < 64 * length f.row.now = subst (λ (w : ℕ). e < 64 * w) (sym c.requires.row ∙ wide) within in
    let h : HasMore f.row.now x.row.now f.row.now e = c.has_more.ensures c.if-not-has_more.true e less in
    let r = same_lists xs c.loop-k.k f x n e (omega (arith, c.loop-k-test.true, ap length c.loop-k.invariant, c.args.list.now.ok.0, c.len-k-end.ensures)) (ap (λ (y : Entry). y.nonterm) (sym at) ∙ c.if-found-entry.true) (subst (λ (y : Entry). HasMore y.row.now x.row.now y.row.now e) at h) in
    subst (λ (l : List Entry). Lists xs n e ↔ (Lists l n e ⊎ ((x.nonterm ≡ n) × Has x.row.now e))) c.loop-k.invariant r

pub returns-then-found-entry-clause-wide : goal.returns-then-found-entry-clause-wide
returns-then-found-entry-clause-wide c =
    let xs : List Entry = c.loop-k.list.items in
    let f : Entry = c.index-found.result.now in
    let y : Entry = record { nonterm = c.args.entry.nonterm; row = c.in_ok-union.field-0 } in
    let at : f ≡ get_or xs c.loop-k.k f = c.index-found.ensures in
    let old : length f.row.now ≡ c.args.width = ap (λ (x : Entry). length x.row.now) at ∙ wide_at c.args.width xs c.loop-k.k f (omega (arith, c.loop-k-test.true, ap length c.loop-k.invariant, c.args.list.now.ok.0, c.len-k-end.ensures)) (subst (AreWide c.args.width) (sym c.loop-k.invariant) c.requires.wide) in
    set_wide c.args.width xs c.loop-k.k y (c.in_ok-union.ensures.len ∙ old) (subst (AreWide c.args.width) (sym c.loop-k.invariant) c.requires.wide)

pub returns-then-found-entry-clause-joined : goal.returns-then-found-entry-clause-joined
returns-then-found-entry-clause-joined c n e within =
    let xs : List Entry = c.loop-k.list.items in
    let f : Entry = c.index-found.result.now in
    let x : Entry = c.args.entry in
    let y : Entry = record { nonterm = c.args.entry.nonterm; row = c.in_ok-union.field-0 } in
    let at : f ≡ get_or xs c.loop-k.k f = c.index-found.ensures in
    let wide : length x.row.now ≡ length f.row.now = found_wide c.args.width xs c.args.list.now.items c.loop-k.k f x.row.now c.loop-k.invariant c.requires.wide (omega (arith, c.loop-k-test.true, ap length c.loop-k.invariant, c.args.list.now.ok.0, c.len-k-end.ensures)) at c.requires.row in
    let less : e < 64 * length f.row.now = subst (λ (w : ℕ). e < 64 * w) (sym c.requires.row ∙ wide) within in
    let h : HasMore f.row.now x.row.now y.row.now e = c.in_ok-union.ensures.both e less in
    let r = set_lists xs c.loop-k.k f x y n e (omega (arith, c.loop-k-test.true, ap length c.loop-k.invariant, c.args.list.now.ok.0, c.len-k-end.ensures)) (ap (λ (z : Entry). z.nonterm) (sym at) ∙ c.if-found-entry.true) refl (subst (λ (z : Entry). HasMore z.row.now x.row.now y.row.now e) at h) in
    subst (λ (l : List Entry). Lists (slice_set xs c.loop-k.k y) n e ↔ (Lists l n e ⊎ ((x.nonterm ≡ n) × Has x.row.now e))) c.loop-k.invariant r

pub returns-in-Ok-clause-wide : goal.returns-in-Ok-clause-wide
returns-in-Ok-clause-wide c =
    subst (AreWide c.args.width) (sym (c.in-Ok.ensures.items ∙ ap (λ (l : List Entry). l ++ c.args.entry ∷ []) c.loop-k.invariant)) (push_wide c.args.width c.args.list.now.items c.args.entry c.requires.row c.requires.wide)

pub returns-in-Ok-clause-joined : goal.returns-in-Ok-clause-joined
returns-in-Ok-clause-joined c n e within =
    let x : Entry = c.args.entry in
    let old : List Entry = c.args.list.now.items in
    subst (λ (l : List Entry). Lists l n e ↔ (Lists old n e ⊎ ((x.nonterm ≡ n) × Has x.row.now e))) (sym (c.in-Ok.ensures.items ∙ ap (λ (l : List Entry). l ++ x ∷ []) c.loop-k.invariant)) (push_lists old x n e)
