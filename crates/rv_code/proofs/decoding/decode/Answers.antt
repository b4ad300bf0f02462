-- What the way by opcodes finds is what the table says.
use Rattle.std.proofs.Common.{◌≡◌, ◌∙◌, sym, subst, arith, IsNone, ◌↔◌}
use Rattle.std.specs.List.{count_by}
use Rattle.rv_code.specs.Table.{fits, table}
use Rattle.rv_code.proofs.Rows.{at-most-one}
use Rattle.rv_code.proofs.Found.{search-decode, decode-none, decode-row, encoded-decode}
use Rattle.rv_code.proofs.decoding.decode.Goals as goal

pub returns-clause-is : goal.returns-clause-is
returns-clause-is c = c.found.ensures ∙ search-decode c.args.word (omega arith)

pub returns-clause-one_row : goal.returns-clause-one_row
returns-clause-one_row c = at-most-one c.args.word

pub returns-clause-none : goal.returns-clause-none
returns-clause-none c =
    let e = c.found.ensures ∙ search-decode c.args.word (omega arith) in
    subst (λ r. IsNone r ↔ (count_by (fits c.args.word) table ≡ 0)) (sym e) (decode-none c.args.word)

pub returns-clause-row : goal.returns-clause-row
returns-clause-row c = λ k d h p. c.found.ensures ∙ search-decode c.args.word (omega arith) ∙ decode-row c.args.word k d h p

pub returns-clause-encoded : goal.returns-clause-encoded
returns-clause-encoded c = encoded-decode c.args.word _ (omega arith) (c.found.ensures ∙ search-decode c.args.word (omega arith))
