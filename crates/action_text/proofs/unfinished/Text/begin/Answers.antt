use Rattle.std.proofs.Common.{◌∙◌, ◌++◌, [], ◌∷◌, Bool, sym, ap, append-nil, drop, if◌then◌else◌}
use Rattle.std.proofs.lemmas.List.{take_rest}
use Rattle.action_text.specs.Canonical.{is_joined}
use Rattle.action_text.proofs.SpacedTokens.{begins_behind, begins_first}
use Rattle.action_text.proofs.unfinished.Text.begin.Goals as goal
use Rattle.action_text.proofs.unfinished.Text.begin.Goals.{in-Some+then-not-is_joined+in_ok-push, in-Some+else-not-is_joined, in_default}

pub returns-clause-bytes : goal.returns-clause-bytes
returns-clause-bytes c tokens says =
    elim c.match-self.branch [
      | in-Some+then-not-is_joined+in_ok-push w ↦ ap (λ m. m.1.0.items) w.self-is
          ∙ begins_behind c.args.self.now.bytes.items w.push.new.self.items c.args.self.now.last w.in-Some.start tokens c.args.token.now w.in-Some.is says.last_at says.bytes_are
          (w.in_ok-push.ensures.items
          ∙ ap (λ (b : Bool). c.args.self.now.bytes.items ++ (if b then [] else 32 ∷ []))
          (sym w.if-not-is_joined.true ∙ w.is_joined.ensures
          ∙ ap (λ y. is_joined y c.args.token.now) (take_rest w.deref.result.now w.in-Some.start ∙ ap (drop w.in-Some.start) w.deref.ensures.value)))
      | in-Some+else-not-is_joined w ↦ ap (λ m. m.1.0.items) w.self-is
          ∙ begins_behind c.args.self.now.bytes.items c.args.self.now.bytes.items c.args.self.now.last w.in-Some.start tokens c.args.token.now w.in-Some.is says.last_at says.bytes_are
          (sym (append-nil c.args.self.now.bytes.items)
          ∙ ap (λ (b : Bool). c.args.self.now.bytes.items ++ (if b then [] else 32 ∷ []))
          (sym w.if-not-is_joined.false ∙ w.is_joined.ensures
          ∙ ap (λ y. is_joined y c.args.token.now) (take_rest w.deref.result.now w.in-Some.start ∙ ap (drop w.in-Some.start) w.deref.ensures.value)))
      | in_default w ↦ ap (λ m. m.1.0.items) w.self-is ∙ begins_first c.args.self.now.bytes.items c.args.self.now.last tokens c.args.token.now w.in_default.is says.last_at says.bytes_are
    ]
