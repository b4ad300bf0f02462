use Rattle.std.proofs.Common.{[], ◌∷◌, ◌++◌, ap, ◌∙◌, map, arith}
use Rattle.rv_asm.specs.Assembly.{is_placed}
use Rattle.rv_asm.specs.declared.item.Item.TheVariants.{Mark, Plain}
use Rattle.rv_codegen.specs.Aliases.{list_at, lists_of}
use Rattle.rv_codegen.specs.Blocks.{regives}
use Rattle.rv_codegen.specs.GivenItems.{moves_items}
use Rattle.rv_codegen.proofs.DataItems.{moves-take}
use Rattle.rv_codegen.proofs.Emitting.{piece-keeps, piece-short, piece-unplaced, whole-piece}
use Rattle.rv_codegen.proofs.ItemLengths.{moves-short}
use Rattle.rv_codegen.proofs.gives.append_regives.Goals as goal

pub returns-clause-items : goal.returns-clause-items
returns-clause-items c =
    let given = c.given_at.result.now in
    let out = c.out_at.result.now in
    let asm = c.args.asm.now in
    let k = c.args.k in
    whole-piece asm c.append_them.new.asm c.place.new.self (map Plain (moves_items given out)) c.stop.result (c.in_ok-_rest.ensures.items ∙ ap (λ is. record asm { items = asm.items ++ map Plain is }) (moves-take given out)) c.place.ensures
    ∙ ap (λ m. record asm { items = asm.items ++ (map Plain (moves_items given out) ++ Mark m ∷ []) }) c.stop.ensures
    ∙ ap (λ g. record asm { items = asm.items ++ regives g out k }) c.given_at.ensures.is
    ∙ ap (λ o. record asm { items = asm.items ++ regives (list_at (lists_of c.args.plan.given.now) k) o k }) c.out_at.ensures.is

pub returns-clause-marks : goal.returns-clause-marks
returns-clause-marks c =
    let given = c.given_at.result.now in
    let out = c.out_at.result.now in
    let first = c.in_ok-_rest.ensures.items ∙ ap (λ is. record c.args.asm.now { items = c.args.asm.now.items ++ map Plain is }) (moves-take given out) in
    piece-keeps c.args.asm.now c.append_them.new.asm c.place.new.self (map Plain (moves_items given out)) 512 c.stop.result (moves-short given out c.given_at.ensures.reached c.out_at.ensures.reached) first c.place.ensures c.args.k c.stop.ensures

pub returns-clause-short : goal.returns-clause-short
returns-clause-short c =
    let given = c.given_at.result.now in
    let out = c.out_at.result.now in
    let first = c.in_ok-_rest.ensures.items ∙ ap (λ is. record c.args.asm.now { items = c.args.asm.now.items ++ map Plain is }) (moves-take given out) in
    omega (arith, piece-short c.args.asm.now c.append_them.new.asm c.place.new.self (map Plain (moves_items given out)) 512 c.stop.result (moves-short given out c.given_at.ensures.reached c.out_at.ensures.reached) first c.place.ensures)

pub place-requires-clause-once : goal.place-requires-clause-once
place-requires-clause-once c =
    let given = c.given_at.result.now in
    let out = c.out_at.result.now in
    let first = c.in_ok-_rest.ensures.items ∙ ap (λ is. record c.args.asm.now { items = c.args.asm.now.items ++ map Plain is }) (moves-take given out) in
    piece-unplaced c.args.asm.now c.append_them.new.asm (map Plain (moves_items given out)) 512 c.stop.result (moves-short given out c.given_at.ensures.reached c.out_at.ensures.reached) first (ap (is_placed c.args.asm.now.items) c.stop.ensures ∙ c.requires.stop)
