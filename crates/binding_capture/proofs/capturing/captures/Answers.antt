use Rattle.std.proofs.Common.{List, [], ap, arith, drop, map, sym, ◌++◌, ◌∙◌, ◌≡◌}
use Rattle.std.proofs.lemmas.List.{append-nil, drop_all}
use Rattle.action_terms.specs.Information.{Token}
use Rattle.action_terms.specs.Meaning.{action_of}
use Rattle.sort_rules.specs.Rows.{unmarked}
use Rattle.sort_rules.proofs.NodeWalks.{length-action}
use Rattle.binding_capture.specs.Asked.{tokens_of}
use Rattle.binding_capture.proofs.Found.{all-captured, found_in}
use Rattle.binding_capture.proofs.Read.{captures-read}
use Rattle.binding_capture.proofs.capturing.captures.Goals as goal

pub returns : goal.returns
returns c =
    let cs = c.in_ok-marked.marked.items in
    let found : List (List Token) = map (λ ts. tokens_of ts.now) c.loop-node.tokens.items in
    let past : drop c.loop-node.node c.in_ok-marked.marked.items ≡ [] = drop_all c.loop-node.node c.in_ok-marked.marked.items (omega (arith, c.loop-node-test.false, c.len-node-end.ensures)) in
    let all : map (λ ts. tokens_of ts.now) c.loop-node.tokens.items ≡ map found_in c.in_ok-marked.marked.items =
    sym (append-nil (map (λ ts. tokens_of ts.now) c.loop-node.tokens.items))
    ∙ ap (λ (zs : List (List Token)). map (λ ts. tokens_of ts.now) c.loop-node.tokens.items ++ zs) (sym (ap (map found_in) past))
    ∙ c.loop-node.invariant in
    let captured = all-captured (action_of c.args.graph.now) (unmarked c.args.table.now) cs c.make.result c.nodes-few.ensures.proper c.in_ok-marked.ensures
    (c.make.ensures ∙ ap (map (λ ts. tokens_of ts.now)) c.into_bump_slice.ensures ∙ all) in
    record {
      captured = captured;
      long = captured.long ∙ sym (length-action c.args.graph.now);
      reads = captures-read (action_of c.args.graph.now) (unmarked c.args.table.now) c.make.result captured;
    }
