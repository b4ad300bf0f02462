-- One turn of the way to a step, and of the way back.
use Rattle.std.proofs.Common.{◌≡◌, ℕ, ◌-◌, Bool, Option, Some, None, Box, Global, refl, sym, ap, ◌∙◌}
use Rattle.action_terms.specs.Acting.{Tree}
use Rattle.action_sos.specs.Branches.{child_of, turned, count_in, way, rest_of, by_way, target, target_index, grown, grown_held, refitted, renewed, regrown_in, regrown}
use Rattle.action_sos.specs.declared.part.Side.{Side}
use Rattle.action_sos.specs.declared.part.Side.TheVariants as side
use Rattle.action_sos.specs.declared.branch.Branch.{Branch, Branch', Held-Branch-left, None', Some', out-Branch}
use Rattle.action_sos.specs.declared.branch.Branch.TheViews.{roll-Branch}

-- ---- where the step is on a side, the way goes on in the part there

pub target-turn : (b : Branch) (c : ℕ) (s : Side) (x : Box Branch Global) → way b c ≡ Some s → child_of s b ≡ Some x → target b c ≡ target x.value (rest_of s b c)
unfolding out-Branch denote.Hole.Carrier.out
target-turn (Branch' part count went None' right) c s x w e = cc
target-turn (Branch' part count went (Some' p l) None') c s x w e = cc
target-turn (Branch' part count went (Some' p l) (Some' q r)) c side.Left x w e =
    let same : l ≡ x.value = cc in
    ap (λ o. by_way o (target l c) (target r (c - count_in l)) (Branch' part count went (Some' p l) (Some' q r))) w ∙ ap (λ b. target b c) same
target-turn (Branch' part count went (Some' p l) (Some' q r)) c side.Right x w e =
    let same : r ≡ x.value = cc in
    ap (λ o. by_way o (target l c) (target r (c - count_in l)) (Branch' part count went (Some' p l) (Some' q r))) w ∙ ap (λ b. target b (c - count_in l)) same

pub index-turn : (b : Branch) (c : ℕ) (s : Side) (x : Box Branch Global) → way b c ≡ Some s → child_of s b ≡ Some x → target_index b c ≡ target_index x.value (rest_of s b c)
unfolding out-Branch denote.Hole.Carrier.out
index-turn (Branch' part count went None' right) c s x w e = cc
index-turn (Branch' part count went (Some' p l) None') c s x w e = cc
index-turn (Branch' part count went (Some' p l) (Some' q r)) c side.Left x w e =
    let same : l ≡ x.value = cc in
    ap (λ o. by_way o (target_index l c) (target_index r (c - count_in l)) c) w ∙ ap (λ b. target_index b c) same
index-turn (Branch' part count went (Some' p l) (Some' q r)) c side.Right x w e =
    let same : r ≡ x.value = cc in
    ap (λ o. by_way o (target_index l c) (target_index r (c - count_in l)) c) w ∙ ap (λ b. target_index b (c - count_in l)) same

-- the branch with the ones around in place of its part
regrown-left : (q : Bool) (part : _) (count : _) (went : Side) (left : Held-Branch-left) (right : Held-Branch-left) (h : Option (Box Branch Global)) (t : Tree) →
    regrown_in q (turned side.Left h (Branch' part count went left right)) t ≡ regrown q h (refitted q part t (grown_held right))
unfolding out-Branch denote.Hole.Carrier.out roll-Branch denote.Hole.Carrier.roll
regrown-left q part count went left None' None t = refl
regrown-left q part count went left (Some' p r) None t = refl
regrown-left q part count went left None' (Some y) t = refl
regrown-left q part count went left (Some' p r) (Some y) t = refl

regrown-right : (q : Bool) (part : _) (count : _) (went : Side) (left : Held-Branch-left) (right : Held-Branch-left) (h : Option (Box Branch Global)) (t : Tree) →
    regrown_in q (turned side.Right h (Branch' part count went left right)) t ≡ regrown q h (refitted q part (grown_held left) t)
unfolding out-Branch denote.Hole.Carrier.out roll-Branch denote.Hole.Carrier.roll
regrown-right q part count went None' right None t = refl
regrown-right q part count went (Some' p l) right None t = refl
regrown-right q part count went None' right (Some y) t = refl
regrown-right q part count went (Some' p l) right (Some y) t = refl

pub regrown-turn : (q : Bool) (b : Branch) (c : ℕ) (s : Side) (x : Box Branch Global) (y : Branch) (h : Option (Box Branch Global)) (t : Tree) →
    way b c ≡ Some s → child_of s b ≡ Some x → y ≡ turned s h b → regrown_in q y (renewed q x.value (rest_of s b c) t) ≡ regrown q h (renewed q b c t)
unfolding out-Branch denote.Hole.Carrier.out
regrown-turn q (Branch' part count went None' right) c s x y h t w e f = cc
regrown-turn q (Branch' part count went (Some' p l) None') c s x y h t w e f = cc
regrown-turn q (Branch' part count went (Some' p l) (Some' r' r)) c side.Left x y h t w e f =
    let same : l ≡ x.value = cc in
    ap (λ b. regrown_in q b (renewed q x.value c t)) f
    ∙ regrown-left q part count went (Some' p l) (Some' r' r) h (renewed q x.value c t)
    ∙ ap (λ b. regrown q h (refitted q part (renewed q b c t) (grown r))) (sym same)
    ∙ sym (ap (λ o. regrown q h (by_way o (refitted q part (renewed q l c t) (grown r)) (refitted q part (grown l) (renewed q r (c - count_in l) t)) t)) w)
regrown-turn q (Branch' part count went (Some' p l) (Some' r' r)) c side.Right x y h t w e f =
    let same : r ≡ x.value = cc in
    ap (λ b. regrown_in q b (renewed q x.value (c - count_in l) t)) f
    ∙ regrown-right q part count went (Some' p l) (Some' r' r) h (renewed q x.value (c - count_in l) t)
    ∙ ap (λ b. regrown q h (refitted q part (grown l) (renewed q b (c - count_in l) t))) (sym same)
    ∙ sym (ap (λ o. regrown q h (by_way o (refitted q part (renewed q l c t) (grown r)) (refitted q part (grown l) (renewed q r (c - count_in l) t)) t)) w)

-- ---- where it is on none, the way has ended

pub target-here : (b : Branch) (c : ℕ) → way b c ≡ None → target b c ≡ b
unfolding out-Branch denote.Hole.Carrier.out
target-here (Branch' part count went None' right) c w = refl
target-here (Branch' part count went (Some' p l) None') c w = refl
target-here (Branch' part count went (Some' p l) (Some' q r)) c w =
    ap (λ o. by_way o (target l c) (target r (c - count_in l)) (Branch' part count went (Some' p l) (Some' q r))) w

pub index-here : (b : Branch) (c : ℕ) → way b c ≡ None → target_index b c ≡ c
unfolding out-Branch denote.Hole.Carrier.out
index-here (Branch' part count went None' right) c w = refl
index-here (Branch' part count went (Some' p l) None') c w = refl
index-here (Branch' part count went (Some' p l) (Some' q r)) c w = ap (λ o. by_way o (target_index l c) (target_index r (c - count_in l)) c) w

pub renewed-here : (q : Bool) (b : Branch) (c : ℕ) (t : Tree) → way b c ≡ None → renewed q b c t ≡ t
unfolding out-Branch denote.Hole.Carrier.out
renewed-here q (Branch' part count went None' right) c t w = refl
renewed-here q (Branch' part count went (Some' p l) None') c t w = refl
renewed-here q (Branch' part count went (Some' p l) (Some' r' r)) c t w =
    ap (λ o. by_way o (refitted q part (renewed q l c t) (grown r)) (refitted q part (grown l) (renewed q r (c - count_in l) t)) t) w
