use Rattle.std.proofs.Common.{List, [], ap, length, subst, sym, ℕ, ◌++◌, ◌+◌, ◌∙◌, ◌∷◌, ◌≡◌}
use Rattle.std.proofs.lemmas.List.{length_push}
use Rattle.sort_rules.specs.MarkedRows.{marked_table}
use Rattle.sort_rules.specs.Raising.{first_table}
use Rattle.sort_rules.specs.Tables.{Entry}
use Rattle.sort_rules.specs.declared.rows.MarkedRow.{MarkedRow}
use Rattle.sort_infer.proofs.FirstRows.{first-more, first-one}
use Rattle.sort_infer.proofs.settling.first_rows.Goals as goal

pub loop-node-init : goal.loop-node-init
loop-node-init c =
    let items : c.push.new.self.items ≡ c.root_row.result ∷ [] = c.in_ok-push.ensures.items ∙ ap (λ (zs : List MarkedRow). zs ++ c.root_row.result ∷ []) c.in_ok-rows.ensures.items in
    record {
      count = ap length items;
      table = subst (λ (zs : List MarkedRow). (x : Entry) → marked_table zs x ≡ first_table x) (sym items) (first-one c.root_row.result c.root_row.ensures);
    }

pub loop-node-preserved : goal.loop-node-preserved
loop-node-preserved c =
    let items = c.in_ok-push-2.ensures.items in
    record {
      count = ap length items ∙ length_push c.loop-node.rows.items c.unreached_row.result ∙ ap (λ (n : ℕ). n + 1) c.loop-node.invariant.count;
      table = subst (λ (zs : List MarkedRow). (x : Entry) → marked_table zs x ≡ first_table x) (sym items) (first-more c.loop-node.rows.items c.unreached_row.result c.unreached_row.ensures c.loop-node.invariant.table);
    }
