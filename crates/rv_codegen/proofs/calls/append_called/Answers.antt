use Rattle.std.proofs.Common.{◌≡◌, [], ◌∷◌, ap, ◌∙◌, map, subst, sym, false}
use Rattle.std.specs.Prelude.{slice_index}
use Rattle.rv_asm.specs.Assembly.{is_placed}
use Rattle.rv_asm.specs.declared.item.Item.TheVariants.{Mark, Plain}
use Rattle.rv_codegen.specs.Aliases.{list_at, lists_of}
use Rattle.rv_codegen.specs.Blocks.{full_label, start_of, stop_of}
use Rattle.rv_codegen.specs.CallItems.{call_items, fetch_items}
use Rattle.rv_codegen.proofs.CalledItems.{call-keeps}
use Rattle.rv_codegen.proofs.Emitting.{OnOk-then, both-appended}
use Rattle.rv_codegen.proofs.calls.append_called.Goals as goal

pub place-requires-clause-once : goal.place-requires-clause-once
place-requires-clause-once c =
    let p = c.args.plan in
    let k = c.args.k in
    let kept = call-keeps c.args.asm.now.items (slice_index p.frames.now k) (slice_index p.frames.now c.args.body) (list_at (lists_of p.given.now) k) (list_at (lists_of p.given.now) c.args.body) (stop_of k) (start_of c.args.body) (stop_of k) c.requires.stop in
    subst (λ l. is_placed c.append_call.new.asm.items l ≡ false) (sym c.stop.ensures) (subst (λ z. is_placed z.items (stop_of k) ≡ false) (sym c.in_ok-append_call.ensures) kept)

pub returns : goal.returns
returns c =
    let p = c.args.plan in
    let k = c.args.k in
    let asm = c.args.asm.now in
    let s1 = c.append_call.new.asm in
    let s2 = c.place.new.self in
    let call = call_items (slice_index p.frames.now k) (slice_index p.frames.now c.args.body) (list_at (lists_of p.given.now) k) (list_at (lists_of p.given.now) c.args.body) full_label (stop_of k) (start_of c.args.body) in
    let left = list_at (lists_of p.out.now) c.args.body in
    let wanted = list_at (lists_of p.out.now) k in
    let fetch = map Plain (fetch_items left wanted) in
    let named : map Plain (fetch_items c.out_at.result.now c.out_at-2.result.now) ≡ fetch = ap (λ xs. map Plain (fetch_items xs c.out_at-2.result.now)) c.out_at.ensures.is ∙ ap (λ xs. map Plain (fetch_items left xs)) c.out_at-2.ensures.is in
    OnOk-then c.append_fetch.result
    (λ e.
    let last = both-appended s1 s2 c.append_fetch.new.asm (Mark c.stop.result ∷ []) (map Plain (fetch_items c.out_at.result.now c.out_at-2.result.now)) fetch c.place.ensures e named in
    both-appended asm s1 c.append_fetch.new.asm call (Mark c.stop.result ∷ fetch) (Mark (stop_of k) ∷ fetch) c.in_ok-append_call.ensures last (ap (λ m. Mark m ∷ fetch) c.stop.ensures))
    c.append_fetch.ensures
