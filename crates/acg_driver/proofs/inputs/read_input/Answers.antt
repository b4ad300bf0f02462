use Rattle.std.proofs.Common.{ℕ, List, [], ◌∷◌, Option, option_map, Bor, Vec, Global, Result, Ok, Err, refl, sym, subst, arith}
use Rattle.acg_words.specs.declared.line.Line.{Line}
use Rattle.acg_words.specs.declared.line.Line.TheVariants.{LimitInput}
use Rattle.acg_driver.specs.Files.{file, Input, input_files, never, Gathered}
use Rattle.acg_driver.specs.Inputs.{IsBytesOf, RefusesInput}
use Rattle.acg_driver.proofs.Asking.{gathered-refused, gathered-one}
use Rattle.acg_driver.proofs.inputs.read_input.Goals as goal

pub returns-then-len : goal.returns-then-len
returns-then-len g c =
    let IsGathered : Option (Bor (List ℕ)) → Type 0 = λ input. Gathered {A = Vec ℕ Global} g.S.Store (input_files (option_map (λ f. f.now) input)) never (RefusesInput (option_map (λ f. f.now) input))
    (λ givens bytes. IsBytesOf (option_map (λ f. f.now) input) givens bytes.items) c.args.store.now c.read_file.new.store (Err LimitInput) in
    subst IsGathered (sym c.in-Some.is)
    (gathered-refused g.met.S.Store.sure_tells (file Input c.in-Some.name.now) [] c.in_ok-bytes.bytes.items LimitInput c.in_ok-bytes.ensures.given (omega arith) (λ e. cc) (λ goes. absurd goes))

pub returns : goal.returns
returns g c =
    let IsGathered : Option (Bor (List ℕ)) → Type 0 = λ input. Gathered {A = Vec ℕ Global} g.S.Store (input_files (option_map (λ f. f.now) input)) never (RefusesInput (option_map (λ f. f.now) input))
    (λ givens bytes. IsBytesOf (option_map (λ f. f.now) input) givens bytes.items) c.args.store.now c.read_file.new.store (Ok c.in_ok-bytes.bytes) in
    subst IsGathered (sym c.in-Some.is)
    (gathered-one (file Input c.in-Some.name.now) c.in_ok-bytes.bytes.items c.in_ok-bytes.bytes g.met.S.Store.sure_tells c.in_ok-bytes.ensures.given (omega arith, refl))
