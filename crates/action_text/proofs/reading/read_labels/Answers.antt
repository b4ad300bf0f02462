use Rattle.std.proofs.Common.{◌∙◌, ◌<◌, ◌+◌, sym, ap, arith, reverse, map, List, ℕ, ◌++◌, ◌∷◌, [], rules, length, get_or, true, false, refl}
use Rattle.std.proofs.lemmas.Result.{err_from_is_err_and}
use Rattle.action_text.specs.declared.table.Symbol.TheVariants as symbol
use Rattle.action_text.specs.declared.names.Name.TheVariants as name
use Rattle.action_text.specs.Numbers.{class_number, name_number}
use Rattle.action_text.specs.Tables.{Symbol, numbered, line_of}
use Rattle.action_text.specs.ActionTable.{template_lines}
use Rattle.action_text.specs.Rows.{line_at}
use Rattle.action_text.specs.Texts.{texts}
use Rattle.action_text.specs.Views.{noting_of, plain_note}
use Rattle.meta_terms.specs.Nodes.{label_of}
use Rattle.action_text.proofs.ReadingMoves.{start_state, on_stack, with_top, after_emit, after_read, after_keep, after_line, after_other, not_at, is_there, bytes_at, length_texts, length_classes, kept_is, stops_read, stops_keep, stops_name, stops_empty, all_read, lighter_line, lighter_other, at_bottom}
use Rattle.action_text.proofs.reading.read_labels.Goals as goal

pub loop-top-init : goal.loop-top-init
loop-top-init c = record { within = omega arith; state = start_state c.args.parameters (texts c.args.tokens.now) c.push.new.self.items c.new-notes.result.items c.new-labels.result.items (c.in_ok-push.ensures.items ∙ ap (λ y. y ++ symbol.Name name.Action ∷ []) c.new-stack.ensures.items) c.new-notes.ensures.items c.new-labels.ensures.items }

pub loop-top-preserved-in-Continue-branch-3 : goal.loop-top-preserved-in-Continue-branch-3
loop-top-preserved-in-Continue-branch-3 c = record {
  within = omega (arith, c.loop-top.invariant.within);
  state = after_emit c.args.parameters (texts c.args.tokens.now) c.loop-top.at c.in-Emit.mark (reverse (map numbered c.pop.new.self.items)) (noting_of c.loop-top.notes.items c.loop-top.labels.items) (noting_of c.follow.new.notes.items c.follow.new.labels.items) c.in_ok-follow-in-Emit.ensures
      (with_top c.args.parameters (texts c.args.tokens.now) c.loop-top.at c.loop-top.stack.items c.pop.new.self.items c.in-Some.top _ (noting_of c.loop-top.notes.items c.loop-top.labels.items) c.in-Some.ensures.items c.in-Emit.is c.loop-top.invariant.state);
}

pub returns-in_err-expect-in-Read : goal.returns-in_err-expect-in-Read
returns-in_err-expect-in-Read c =
    let classes = ap (map class_number) c.as_slice-classes.ensures.value ∙ c.in_ok-list.ensures in
    let error = err_from_is_err_and c.from_residual-in_err-expect-in-Read.result c.from_residual-in_err-expect-in-Read.ensures.1 in
    rw (error.1, error.2, c.in_err-expect-in-Read.ensures.place)
    (stops_read c.args.parameters (texts c.args.tokens.now) c.loop-top.at (class_number c.in-Read.class) (reverse (map numbered c.pop.new.self.items)) (noting_of c.loop-top.notes.items c.loop-top.labels.items) c.loop-top.invariant.within
    (not_at c.args.parameters (texts c.args.tokens.now) (map class_number c.as_slice-classes.result.now) c.loop-top.at (class_number c.in-Read.class) false classes c.loop-top.invariant.within (λ there. absurd (c.in_err-expect-in-Read.ensures.missing there)) refl)
    (with_top c.args.parameters (texts c.args.tokens.now) c.loop-top.at c.loop-top.stack.items c.pop.new.self.items c.in-Some.top _ (noting_of c.loop-top.notes.items c.loop-top.labels.items) c.in-Some.ensures.items c.in-Read.is c.loop-top.invariant.state))

pub loop-top-preserved-in-Read : goal.loop-top-preserved-in-Read
loop-top-preserved-in-Read c =
    let classes = ap (map class_number) c.as_slice-classes.ensures.value ∙ c.in_ok-list.ensures in
    let there = is_there c.args.parameters (texts c.args.tokens.now) (map class_number c.as_slice-classes.result.now) c.loop-top.at (class_number c.in-Read.class) classes c.in_ok-expect-in-Read.ensures.there in
    record {
      within = omega (arith, there.0);
      state = after_read c.args.parameters (texts c.args.tokens.now) c.loop-top.at (class_number c.in-Read.class) (reverse (map numbered c.pop.new.self.items)) (noting_of c.loop-top.notes.items c.loop-top.labels.items) there.0 there.1
          (with_top c.args.parameters (texts c.args.tokens.now) c.loop-top.at c.loop-top.stack.items c.pop.new.self.items c.in-Some.top _ (noting_of c.loop-top.notes.items c.loop-top.labels.items) c.in-Some.ensures.items c.in-Read.is c.loop-top.invariant.state);
    }

pub returns-in_err-expect-in-Keep : goal.returns-in_err-expect-in-Keep
returns-in_err-expect-in-Keep c =
    let classes = ap (map class_number) c.as_slice-classes.ensures.value ∙ c.in_ok-list.ensures in
    let error = err_from_is_err_and c.from_residual-in_err-expect-in-Keep.result c.from_residual-in_err-expect-in-Keep.ensures.1 in
    rw (error.1, error.2, c.in_err-expect-in-Keep.ensures.place)
    (stops_keep c.args.parameters (texts c.args.tokens.now) c.loop-top.at (class_number c.in-Keep.class) (reverse (map numbered c.pop.new.self.items)) (noting_of c.loop-top.notes.items c.loop-top.labels.items) c.loop-top.invariant.within
    (not_at c.args.parameters (texts c.args.tokens.now) (map class_number c.as_slice-classes.result.now) c.loop-top.at (class_number c.in-Keep.class) false classes c.loop-top.invariant.within (λ there. absurd (c.in_err-expect-in-Keep.ensures.missing there)) refl)
    (with_top c.args.parameters (texts c.args.tokens.now) c.loop-top.at c.loop-top.stack.items c.pop.new.self.items c.in-Some.top _ (noting_of c.loop-top.notes.items c.loop-top.labels.items) c.in-Some.ensures.items c.in-Keep.is c.loop-top.invariant.state))

pub loop-top-preserved-in-Keep : goal.loop-top-preserved-in-Keep
loop-top-preserved-in-Keep c =
    let all : List (List ℕ) = texts c.args.tokens.now in
    let classes = ap (map class_number) c.as_slice-classes.ensures.value ∙ c.in_ok-list.ensures in
    let there = is_there c.args.parameters (texts c.args.tokens.now) (map class_number c.as_slice-classes.result.now) c.loop-top.at (class_number c.in-Keep.class) classes c.in_ok-expect-in-Keep.ensures.there in
    let lt : c.loop-top.at < length c.args.tokens.now = omega (arith, there.0, length_texts c.args.tokens.now) in
    record {
      within = omega (arith, there.0);
      state = after_keep c.args.parameters (texts c.args.tokens.now) c.loop-top.at (class_number c.in-Keep.class) (reverse (map numbered c.pop.new.self.items)) (noting_of c.loop-top.notes.items c.loop-top.labels.items) (noting_of c.keep_if.new.notes.items c.loop-top.labels.items) there.0 there.1
          (kept_is true (get_or c.args.tokens.now c.loop-top.at c.index-tokens-at.result).bytes.now _ (reverse (map plain_note c.loop-top.notes.items)) (reverse (map plain_note c.keep_if.new.notes.items)) (map label_of c.loop-top.labels.items)
          (bytes_at c.args.tokens.now c.loop-top.at c.index-tokens-at.result lt) c.in_ok-keep_if-in-Keep.ensures)
          (with_top c.args.parameters (texts c.args.tokens.now) c.loop-top.at c.loop-top.stack.items c.pop.new.self.items c.in-Some.top _ (noting_of c.loop-top.notes.items c.loop-top.labels.items) c.in-Some.ensures.items c.in-Keep.is c.loop-top.invariant.state);
    }

pub loop-top-smaller-in-Continue-branch-8 : goal.loop-top-smaller-in-Continue-branch-8
loop-top-smaller-in-Continue-branch-8 c =
    let classes = ap (map class_number) c.as_slice-classes.ensures.value ∙ c.in_ok-list.ensures in
    let line = c.in-Some-row_at.ensures in
    let lt : c.loop-top.at < length (texts c.args.tokens.now) = omega (arith, line.0, length_classes c.args.parameters (texts c.args.tokens.now) (map class_number c.as_slice-classes.result.now) classes) in
    lighter_line c.args.parameters (length (texts c.args.tokens.now)) c.loop-top.at c.in-Name.name _ (line_at c.in-Some-row_at.row) c.loop-top.stack.items c.pop.new.self.items c.push_reversed.new.stack.items c.in-Some.top
    lt line.1 c.in-Some.ensures.items c.in-Name.is c.in_ok-push_reversed-in-Name.ensures

pub loop-top-preserved-in-Continue-branch-8 : goal.loop-top-preserved-in-Continue-branch-8
loop-top-preserved-in-Continue-branch-8 c =
    let classes = ap (map class_number) c.as_slice-classes.ensures.value ∙ c.in_ok-list.ensures in
    let line = c.in-Some-row_at.ensures in
    let there = is_there c.args.parameters (texts c.args.tokens.now) (map class_number c.as_slice-classes.result.now) c.loop-top.at _ classes (line.0, refl) in
    let lt : c.loop-top.at < length c.args.tokens.now = omega (arith, there.0, length_texts c.args.tokens.now) in
    record {
      within = omega (arith, there.0);
      state = on_stack c.args.parameters (texts c.args.tokens.now) (c.loop-top.at + 1) (map numbered c.pop.new.self.items) (line_at c.in-Some-row_at.row).right (map numbered c.push_reversed.new.stack.items) (noting_of c.keep_if-in-Some-row_at.new.notes.items c.loop-top.labels.items) c.in_ok-push_reversed-in-Name.ensures
          (after_line c.args.parameters (texts c.args.tokens.now) c.loop-top.at (name_number c.in-Name.name) (reverse (map numbered c.pop.new.self.items)) (noting_of c.loop-top.notes.items c.loop-top.labels.items) (noting_of c.keep_if-in-Some-row_at.new.notes.items c.loop-top.labels.items) (line_at c.in-Some-row_at.row) there.0
          (ap (λ k. line_of template_lines (name_number c.in-Name.name) k) there.1 ∙ line.1)
          (kept_is c.in-Some-row_at.row.keeps (get_or c.args.tokens.now c.loop-top.at c.index-tokens-at-in-Some-row_at.result).bytes.now _ (reverse (map plain_note c.loop-top.notes.items)) (reverse (map plain_note c.keep_if-in-Some-row_at.new.notes.items)) (map label_of c.loop-top.labels.items)
          (bytes_at c.args.tokens.now c.loop-top.at c.index-tokens-at-in-Some-row_at.result lt) c.in_ok-keep_if-in-Name.ensures)
          (with_top c.args.parameters (texts c.args.tokens.now) c.loop-top.at c.loop-top.stack.items c.pop.new.self.items c.in-Some.top _ (noting_of c.loop-top.notes.items c.loop-top.labels.items) c.in-Some.ensures.items c.in-Name.is c.loop-top.invariant.state));
    }

pub loop-top-smaller : goal.loop-top-smaller
loop-top-smaller c =
    lighter_other c.args.parameters (length (texts c.args.tokens.now)) c.loop-top.at c.in-Name.name _ c.loop-top.stack.items c.pop.new.self.items c.push_reversed-in-Some-find_other.new.stack.items c.in-Some.top
    (sym c.in-Some-find_other.ensures) c.in-Some.ensures.items c.in-Name.is c.in_ok-push_reversed-in-Name-2.ensures

pub loop-top-preserved : goal.loop-top-preserved
loop-top-preserved c =
    let classes = ap (map class_number) c.as_slice-classes.ensures.value ∙ c.in_ok-list.ensures in
    let right : List Symbol = map numbered c.in-Some-find_other.other.right.now in
    record {
      within = c.loop-top.invariant.within;
      state = on_stack c.args.parameters (texts c.args.tokens.now) c.loop-top.at (map numbered c.pop.new.self.items) right (map numbered c.push_reversed-in-Some-find_other.new.stack.items) (noting_of c.loop-top.notes.items c.loop-top.labels.items) c.in_ok-push_reversed-in-Name-2.ensures
          (after_other c.args.parameters (texts c.args.tokens.now) (map class_number c.as_slice-classes.result.now) c.loop-top.at (name_number c.in-Name.name) (reverse (map numbered c.pop.new.self.items)) right (noting_of c.loop-top.notes.items c.loop-top.labels.items) classes c.loop-top.invariant.within c.in_default-row_at.ensures (sym c.in-Some-find_other.ensures)
          (with_top c.args.parameters (texts c.args.tokens.now) c.loop-top.at c.loop-top.stack.items c.pop.new.self.items c.in-Some.top _ (noting_of c.loop-top.notes.items c.loop-top.labels.items) c.in-Some.ensures.items c.in-Name.is c.loop-top.invariant.state));
    }

pub returns-in_default-find_other : goal.returns-in_default-find_other
returns-in_default-find_other c =
    let classes = ap (map class_number) c.as_slice-classes.ensures.value ∙ c.in_ok-list.ensures in
    stops_name c.args.parameters (texts c.args.tokens.now) (map class_number c.as_slice-classes.result.now) c.loop-top.at (name_number c.in-Name.name) (reverse (map numbered c.pop.new.self.items)) (noting_of c.loop-top.notes.items c.loop-top.labels.items) classes c.loop-top.invariant.within c.in_default-row_at.ensures (sym c.in_default-find_other.ensures)
    (with_top c.args.parameters (texts c.args.tokens.now) c.loop-top.at c.loop-top.stack.items c.pop.new.self.items c.in-Some.top _ (noting_of c.loop-top.notes.items c.loop-top.labels.items) c.in-Some.ensures.items c.in-Name.is c.loop-top.invariant.state)

pub returns-then-at-tokens : goal.returns-then-at-tokens
returns-then-at-tokens c =
    all_read c.args.parameters (texts c.args.tokens.now) c.loop-top.at (noting_of c.loop-top.notes.items c.loop-top.labels.items) (c.if-at-tokens.true ∙ sym (length_texts c.args.tokens.now))
    (at_bottom c.args.parameters (texts c.args.tokens.now) c.loop-top.at c.loop-top.stack.items (noting_of c.loop-top.notes.items c.loop-top.labels.items) (search (rules, c.in_default.ensures.cases.0)) c.loop-top.invariant.state)

pub returns : goal.returns
returns c =
    stops_empty c.args.parameters (texts c.args.tokens.now) c.loop-top.at (noting_of c.loop-top.notes.items c.loop-top.labels.items) (omega (arith, c.loop-top.invariant.within, length_texts c.args.tokens.now, c.if-at-tokens.false))
    (at_bottom c.args.parameters (texts c.args.tokens.now) c.loop-top.at c.loop-top.stack.items (noting_of c.loop-top.notes.items c.loop-top.labels.items) (search (rules, c.in_default.ensures.cases.0)) c.loop-top.invariant.state)
