use Rattle.std.proofs.Common.{map, take}
use Rattle.gram_form.specs.Plain.{texts}
use Rattle.meta_terms.specs.PlainItems.{plain_item}
use Rattle.meta_check.specs.Rules.{repeats_function}
use Rattle.meta_check.specs.Views.{functions_of}
use Rattle.gram_form.specs.Grammars.{HaveSame}
use Rattle.meta_check.proofs.Searching.{HoldsBelow}
use Rattle.meta_check.proofs.names.repeated_function.Given as goal

abbrev pub invariant-loop-number : goal.invariant-loop-number
invariant-loop-number l = record {
  holds : HoldsBelow repeats_function l.items l.number;
  seen : HaveSame (texts l.names.keys) (functions_of (take l.number (map plain_item l.items)));
}
