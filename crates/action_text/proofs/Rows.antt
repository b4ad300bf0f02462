-- Each row of the table of action text does what its name means.
use Rattle.std.proofs.Common.{true, false, [], ◌∷◌, refl, codes}
use Rattle.action_terms.specs.Labels.{AnAction, AYielder, AnItem, AClosure}
use Rattle.meta_terms.specs.Templates.{ActionNode, YielderNode}
use Rattle.action_terms.specs.declared.kinds.Kind.TheVariants as kind
use Rattle.action_terms.specs.declared.kinds.YKind.TheVariants as ykind
use Rattle.action_terms.specs.declared.kinds.Sort.TheVariants as sort
use Rattle.action_text.specs.declared.table.Mark.TheVariants as mark
use Rattle.action_text.specs.declared.names.Name.TheVariants as name
use Rattle.action_text.specs.Numbers.{name_number}
use Rattle.action_text.specs.Shapes.{Fixed, Part, open_paren, close_paren, comma, one_argument, two_arguments}
use Rattle.action_text.specs.ActionTable.{template_table, template_lines, action_lines, parameter_lines, action_others}
use Rattle.action_text.proofs.Meanings.{LinesMean, OthersMean}
use Rattle.action_text.proofs.Means.{means}
use Rattle.action_text.proofs.Nodes.{node_row, rest_row, rest_other}
use Rattle.action_text.proofs.Chains.{chain_ends, operand_alone}
use Rattle.action_text.proofs.ChainRows.{op_Or, op_And, op_Then, op_Trap, op_Hence, op_Moreover, op_Before, chain_row, more_row, chain_and, and_next_then, and_next_other, more_and_then, action_other, operand_paren}
use Rattle.action_text.proofs.OperandRows.{operand_escape, operand_enact, operand_give, escaped_with, operand_bind, operand_recursively, enacted_application, token_quoted, token_of, operand_applied, yielder_value}
use Rattle.action_text.proofs.ItemRows.{data_them, data_other, data_paren, items_none, item_other, more_items_close, more_items_comma, items_other}
use Rattle.action_text.proofs.YielderRows.{yielder_number, yielder_the, yielder_is, the_given, the_other, the_bound, the_stored, at_place, at_no_place, sort_row}

pub lines_mean : LinesMean template_table means template_table.lines
unfolding template_lines action_lines parameter_lines
lines_mean = (
  (λ t st end ts e h. chain_row kind.Or (codes "or") (name_number name.MoreOr) op_Or (λ z u v m. m) refl t st end ts e h),
  (
    (λ t st end ts e h. chain_row kind.Then (codes "then") (name_number name.MoreThen) op_Then (λ z u v m. m) refl t st end ts e h),
    (
      (λ t st end ts e h. chain_row kind.Trap (codes "trap") (name_number name.MoreTrap) op_Trap (λ z u v m. m) refl t st end ts e h),
      (
        (λ t st end ts e h. chain_row kind.Hence (codes "hence") (name_number name.MoreHence) op_Hence (λ z u v m. m) refl t st end ts e h),
        (
          (λ t st end ts e h. chain_row kind.Moreover (codes "moreover") (name_number name.MoreMoreover) op_Moreover (λ z u v m. m) refl t st end ts e h),
          (
            (λ t st end ts e h. chain_row kind.Before (codes "before") (name_number name.MoreBefore) op_Before (λ z u v m. m) refl t st end ts e h),
            (
              chain_and,
              (
                and_next_then,
                (
                  (λ t st end ts e h. more_row kind.Or (codes "or") (name_number name.MoreOr) op_Or (λ z u v m. m) refl t st end ts e h),
                  (
                    (λ t st end ts e h. more_row kind.Then (codes "then") (name_number name.MoreThen) op_Then (λ z u v m. m) refl t st end ts e h),
                    (
                      (λ t st end ts e h. more_row kind.Trap (codes "trap") (name_number name.MoreTrap) op_Trap (λ z u v m. m) refl t st end ts e h),
                      (
                        (λ t st end ts e h. more_row kind.Hence (codes "hence") (name_number name.MoreHence) op_Hence (λ z u v m. m) refl t st end ts e h),
                        (
                          (λ t st end ts e h. more_row kind.Moreover (codes "moreover") (name_number name.MoreMoreover) op_Moreover (λ z u v m. m) refl t st end ts e h),
                          (
                            (λ t st end ts e h. more_row kind.Before (codes "before") (name_number name.MoreBefore) op_Before (λ z u v m. m) refl t st end ts e h),
                            (
                              (λ t st end ts e h. more_row kind.And (codes "and") (name_number name.MoreAnd) op_And (λ z u v m. m) refl t st end ts e h),
                              (
                                more_and_then,
                                (
                                  (λ t st end ts e h. node_row AnAction (ActionNode kind.Complete 0 []) (codes "complete") [] (mark.Action kind.Complete) refl refl refl refl (λ z. refl) t st end ts e h),
                                  (
                                    (λ t st end ts e h. node_row AnAction (ActionNode kind.Fail 0 []) (codes "fail") [] (mark.Action kind.Fail) refl refl refl refl (λ z. refl) t st end ts e h),
                                    (
                                      (λ t st end ts e h. node_row AnAction (ActionNode kind.Commit 0 []) (codes "commit") [] (mark.Action kind.Commit) refl refl refl refl (λ z. refl) t st end ts e h),
                                      (
                                        (λ t st end ts e h. node_row AnAction (ActionNode kind.Regive 0 []) (codes "regive") [] (mark.Action kind.Regive) refl refl refl refl (λ z. refl) t st end ts e h),
                                        (
                                          (λ t st end ts e h. node_row AnAction (ActionNode kind.Rebind 0 []) (codes "rebind") [] (mark.Action kind.Rebind) refl refl refl refl (λ z. refl) t st end ts e h),
                                          (
                                            (λ t st end ts e h. node_row AnAction (ActionNode kind.Unfold 0 []) (codes "unfold") [] (mark.Action kind.Unfold) refl refl refl refl (λ z. refl) t st end ts e h),
                                            (
                                              operand_paren,
                                              (
                                                (λ t st end ts e h. node_row AnAction (ActionNode kind.Unfolding 0 []) (codes "unfolding") (Part ∷ []) (mark.Action kind.Unfolding) refl refl refl refl (λ z. refl) t st end ts e h),
                                                (
                                                  (λ t st end ts e h. node_row AnAction (ActionNode kind.Furthermore 0 []) (codes "furthermore") (Part ∷ []) (mark.Action kind.Furthermore) refl refl refl refl (λ z. refl) t st end ts e h),
                                                  (
                                                    operand_escape,
                                                    (
                                                      operand_give,
                                                      (
                                                        (λ t st end ts e h. node_row AnAction (ActionNode kind.Check 0 []) (codes "check") (Part ∷ []) (mark.Action kind.Check) refl refl refl refl (λ z. refl) t st end ts e h),
                                                        (
                                                          operand_bind,
                                                          (
                                                            operand_recursively,
                                                            (
                                                              (λ t st end ts e h. node_row AnAction (ActionNode kind.Store 0 []) (codes "store") (Part ∷ Fixed (codes "in") ∷ Part ∷ []) (mark.Action kind.Store) refl refl refl refl (λ z. refl) t st end ts e h),
                                                              (
                                                                (λ t st end ts e h. node_row AnAction (ActionNode kind.Allocate 0 []) (codes "allocate") (Fixed (codes "a") ∷ Fixed (codes "cell") ∷ []) (mark.Action kind.Allocate) refl refl refl refl (λ z. refl) t st end ts e h),
                                                                (
                                                                  (λ t st end ts e h. node_row AnAction (ActionNode kind.Send 0 []) (codes "send") (Part ∷ []) (mark.Action kind.Send) refl refl refl refl (λ z. refl) t st end ts e h),
                                                                  (
                                                                    (λ t st end ts e h. node_row AnAction (ActionNode kind.Receive 0 []) (codes "receive") (Fixed (codes "an") ∷ Fixed (codes "integer") ∷ []) (mark.Action kind.Receive) refl refl refl refl (λ z. refl) t st end ts e h),
                                                                    (
                                                                      operand_enact,
                                                                      (
                                                                        enacted_application,
                                                                        (
                                                                          escaped_with,
                                                                          (
                                                                            data_them,
                                                                            (
                                                                              data_paren,
                                                                              (
                                                                                items_none,
                                                                                (
                                                                                  more_items_close,
                                                                                  (
                                                                                    more_items_comma,
                                                                                    (
                                                                                      (λ t st end ts e h. node_row AnItem (YielderNode ykind.Them []) (codes "them") [] (mark.Yielder ykind.Them) refl refl refl refl (λ z. refl) t st end ts e h),
                                                                                      (
                                                                                        (yielder_number false),
                                                                                        (
                                                                                          (yielder_number true),
                                                                                          (
                                                                                            (λ t st end ts e h. node_row AYielder (YielderNode (ykind.Truth true) []) (codes "true") [] (mark.Yielder (ykind.Truth true)) refl refl refl refl (λ z. refl) t st end ts e h),
                                                                                            (
                                                                                              (λ t st end ts e h. node_row AYielder (YielderNode (ykind.Truth false) []) (codes "false") [] (mark.Yielder (ykind.Truth false)) refl refl refl refl (λ z. refl) t st end ts e h),
                                                                                              (
                                                                                                yielder_the,
                                                                                                (
                                                                                                  (λ t st end ts e h. node_row AYielder (YielderNode ykind.Sum []) (codes "sum") two_arguments (mark.Yielder ykind.Sum) refl refl refl refl (λ z. refl) t st end ts e h),
                                                                                                  (
                                                                                                    (λ t st end ts e h. node_row AYielder (YielderNode ykind.Difference []) (codes "difference") two_arguments (mark.Yielder ykind.Difference) refl refl refl refl (λ z. refl) t st end ts e h),
                                                                                                    (
                                                                                                      (λ t st end ts e h. node_row AYielder (YielderNode ykind.Product []) (codes "product") two_arguments (mark.Yielder ykind.Product) refl refl refl refl (λ z. refl) t st end ts e h),
                                                                                                      (
                                                                                                        (λ t st end ts e h. node_row AYielder (YielderNode ykind.Quotient []) (codes "integer-quotient") two_arguments (mark.Yielder ykind.Quotient) refl refl refl refl (λ z. refl) t st end ts e h),
                                                                                                        (
                                                                                                          (λ t st end ts e h. node_row AYielder (YielderNode ykind.Remainder []) (codes "integer-remainder") two_arguments (mark.Yielder ykind.Remainder) refl refl refl refl (λ z. refl) t st end ts e h),
                                                                                                          (
                                                                                                            (λ t st end ts e h. node_row AYielder (YielderNode ykind.Both []) (codes "both") two_arguments (mark.Yielder ykind.Both) refl refl refl refl (λ z. refl) t st end ts e h),
                                                                                                            (
                                                                                                              (λ t st end ts e h. node_row AYielder (YielderNode ykind.Either []) (codes "either") two_arguments (mark.Yielder ykind.Either) refl refl refl refl (λ z. refl) t st end ts e h),
                                                                                                              (
                                                                                                                yielder_is,
                                                                                                                (
                                                                                                                  (λ t st end ts e h. node_row AYielder (YielderNode ykind.Negation []) (codes "negation") one_argument (mark.Yielder ykind.Negation) refl refl refl refl (λ z. refl) t st end ts e h),
                                                                                                                  (
                                                                                                                    (λ t st end ts e h. node_row AYielder (YielderNode ykind.Not []) (codes "not") one_argument (mark.Yielder ykind.Not) refl refl refl refl (λ z. refl) t st end ts e h),
                                                                                                                    (
                                                                                                                      (λ t st end ts e h. node_row AYielder (YielderNode ykind.Closure []) (codes "closure") (Fixed (codes "abstraction") ∷ Fixed (codes "of") ∷ Part ∷ []) (mark.Yielder ykind.Closure) refl refl refl refl (λ z. refl) t st end ts e h),
                                                                                                                      (
                                                                                                                        (λ t st end ts e h. node_row AClosure (YielderNode ykind.Closure []) (codes "closure") (Fixed (codes "abstraction") ∷ Fixed (codes "of") ∷ Part ∷ []) (mark.Yielder ykind.Closure) refl refl refl refl (λ z. refl) t st end ts e h),
                                                                                                                        (
                                                                                                                          (λ t st end ts e h. rest_row AYielder (YielderNode ykind.Less []) (codes "is") (codes "less") (Fixed (codes "than") ∷ two_arguments) (mark.Yielder ykind.Less) refl refl refl refl (λ z. refl) t st end ts e h),
                                                                                                                          (
                                                                                                                            (λ t st end ts e h. rest_row AYielder (YielderNode ykind.Is []) (codes "is") open_paren (Part ∷ Fixed comma ∷ Part ∷ Fixed close_paren ∷ []) (mark.Yielder ykind.Is) refl refl refl refl (λ z. refl) t st end ts e h),
                                                                                                                            (
                                                                                                                              the_given,
                                                                                                                              (
                                                                                                                                the_bound,
                                                                                                                                (
                                                                                                                                  the_stored,
                                                                                                                                  (
                                                                                                                                    at_place,
                                                                                                                                    (
                                                                                                                                      (sort_row sort.Integer refl),
                                                                                                                                      (
                                                                                                                                        (sort_row sort.Truth refl),
                                                                                                                                        (
                                                                                                                                          (sort_row sort.Cell refl),
                                                                                                                                          (
                                                                                                                                            (sort_row sort.Abstraction refl),
                                                                                                                                            (token_quoted, (operand_applied, (yielder_value, (token_of, tt)))),
                                                                                                                                          ),
                                                                                                                                        ),
                                                                                                                                      ),
                                                                                                                                    ),
                                                                                                                                  ),
                                                                                                                                ),
                                                                                                                              ),
                                                                                                                            ),
                                                                                                                          ),
                                                                                                                        ),
                                                                                                                      ),
                                                                                                                    ),
                                                                                                                  ),
                                                                                                                ),
                                                                                                              ),
                                                                                                            ),
                                                                                                          ),
                                                                                                        ),
                                                                                                      ),
                                                                                                    ),
                                                                                                  ),
                                                                                                ),
                                                                                              ),
                                                                                            ),
                                                                                          ),
                                                                                        ),
                                                                                      ),
                                                                                    ),
                                                                                  ),
                                                                                ),
                                                                              ),
                                                                            ),
                                                                          ),
                                                                        ),
                                                                      ),
                                                                    ),
                                                                  ),
                                                                ),
                                                              ),
                                                            ),
                                                          ),
                                                        ),
                                                      ),
                                                    ),
                                                  ),
                                                ),
                                              ),
                                            ),
                                          ),
                                        ),
                                      ),
                                    ),
                                  ),
                                ),
                              ),
                            ),
                          ),
                        ),
                      ),
                    ),
                  ),
                ),
              ),
            ),
          ),
        ),
      ),
    ),
  ),
)

pub others_mean : OthersMean template_table means template_table.others
unfolding action_others
others_mean = (
  action_other,
  (
    (λ st end ts h. operand_alone st end ts h.0 h.1),
    (
      and_next_other,
      (
        (λ st end ts h. chain_ends kind.Or st end ts h.0 h.1),
        (
          (λ st end ts h. chain_ends kind.And st end ts h.0 h.1),
          (
            (λ st end ts h. chain_ends kind.AndThen st end ts h.0 h.1),
            (
              (λ st end ts h. chain_ends kind.Then st end ts h.0 h.1),
              (
                (λ st end ts h. chain_ends kind.Trap st end ts h.0 h.1),
                (
                  (λ st end ts h. chain_ends kind.Hence st end ts h.0 h.1),
                  (
                    (λ st end ts h. chain_ends kind.Moreover st end ts h.0 h.1),
                    (
                      (λ st end ts h. chain_ends kind.Before st end ts h.0 h.1),
                      (
                        (λ st end ts h. rest_other AnAction (ActionNode kind.Enact 0 []) (codes "enact") (Part ∷ []) (mark.Action kind.Enact) refl refl refl (λ z. refl) st end ts h),
                        (
                          (λ st end ts h. rest_other AnAction (ActionNode kind.Escape 0 []) (codes "escape") [] (mark.Action kind.Escape) refl refl refl (λ z. refl) st end ts h),
                          (
                            data_other,
                            (
                              items_other,
                              (
                                item_other,
                                (
                                  the_other,
                                  (
                                    at_no_place,
                                    tt,
                                  ),
                                ),
                              ),
                            ),
                          ),
                        ),
                      ),
                    ),
                  ),
                ),
              ),
            ),
          ),
        ),
      ),
    ),
  ),
)
