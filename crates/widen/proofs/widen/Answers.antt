-- `widen` stores one number more.
use Rattle.std.proofs.Common.{rules, arith, ◌≡◌, ◌∙◌, sym, ap, pos}
use native.Mathlib.Nat.{zero-add}
use native.Mathlib.Numerals.{add-one}
use lib.IntN.{ℤ}
use lib.ListN.{get_or, set}
use lib.Seq.{paste, paste-suc}
use mir.Syntax.{w32, w64}
use mir.Val.{SFits, to_z, of_z}
use mir.Facts.{to_z-of_z, sfits_widen}
use Rattle.widen.proofs.widen.Goals as goal

-- a number of 32 bits, read and stored in 64, is the number
same : (z v : ℤ) → SFits w32 z → v ≡ to_z w32 (of_z w32 z) → to_z w64 (of_z w64 v) ≡ z
same z v fits e =
    ap (λ (x : ℤ). to_z w64 (of_z w64 x)) (e ∙ to_z-of_z fits) ∙ to_z-of_z {w = w64} (sfits_widen {w = w32} tt fits)

pub loop-i-preserved : goal.loop-i-preserved
loop-i-preserved c =
    let old = c.args.old.now in
    let new = c.args.new.now in
    let i = c.loop-i.i in
    let number = same (get_or old i (pos 0)) c.from.result (search rules) c.from.ensures in
    (λ t. set (c.loop-i.invariant t) (sym (zero-add i) t) (number t))
    ∙ paste-suc new 0 old i (pos 0) (omega arith) c.loop-i-test.true
    ∙ ap (paste new 0 old) (sym (add-one i))
