use Rattle.std.proofs.Common.{◌≡◌, ◌+◌, drop, map}
use Rattle.std.specs.List.{position_or_len}
use Rattle.std.specs.Str.{bytes_eq}
use Rattle.meta_terms.specs.declared.items.Declaration.{Declaration}
use Rattle.equation_expand.proofs.table.function_number.Given as goal

abbrev pub invariant-loop-number : goal.invariant-loop-number
invariant-loop-number l =
    position_or_len (bytes_eq l.function) (map (λ (f : Declaration). f.function.now) l.functions) ≡ l.number + position_or_len (bytes_eq l.function) (map (λ (f : Declaration). f.function.now) (drop l.number l.functions))
