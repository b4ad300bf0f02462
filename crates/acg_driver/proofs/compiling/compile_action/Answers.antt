use Rattle.std.proofs.Common.{◌≡◌, [], rules, arith}
use Rattle.std.proofs.lemmas.Grind.{common_steps}
use Rattle.action_terms.specs.Meaning.{action_of}
use Rattle.rv_codegen.specs.Built.{unbuilt}
use Rattle.sort_rules.specs.Rows.{unmarked}
use Rattle.acg_driver.proofs.ActLemmas.{nothing-first}
use Rattle.acg_driver.proofs.compiling.compile_action.Goals as goal

pub build-requires-clause-whole : goal.build-requires-clause-whole
build-requires-clause-whole c = first_of (search rules, grind (arith, common_steps), grind (arith, nothing-first))
