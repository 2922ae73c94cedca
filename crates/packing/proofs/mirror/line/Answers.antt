-- `mirror::line` meets its contract: two runs.
use mathlib.Core.Path.{◌≡◌, ap}
use Prim.Native.Nat.{ℕ, ◌+◌, ◌*◌}
use native.Mathlib.Omega.{arith}
use Rattle.arrays.proofs.PartLaws.{tail-length}
use Rattle.packing.proofs.MirrorLaws.{lower-mirrored, lower-stored, upper-stored, upper-mirrored, lower-line, upper-line}
use Rattle.packing.proofs.mirror.line.Goals as goal

pub mirrored-requires : goal.mirrored-requires
mirrored-requires c = (omega (arith, c.rows_before-k.ensures.0), λ y b. omega (arith, c.requires.3 y (omega (arith, c.rows_before-k.ensures.0)), lower-mirrored c.args.ld c.args.i c.args.j y c.if-lower.true (c.rows_before-k.ensures.1 y b)))

pub stored-requires : goal.stored-requires
stored-requires c = let k = c.rows_before-k.result in (simp tail-length (omega (arith, c.rows_before-k.ensures.0)), λ y b. omega (arith, c.requires.3 (k + y) (omega arith), lower-stored c.args.ld c.args.i c.args.j (k + y) c.if-lower.true (c.rows_before-k.ensures.2 (k + y) (omega arith) (omega arith))))

pub returns-then-lower : goal.returns-then-lower
returns-then-lower c = lower-line c.args.a.now c.args.ld c.args.i c.args.j c.rows_before-k.result c.args.n c.args.dest.now _ _ (omega arith) c.if-lower.true c.rows_before-k.ensures c.mirrored.ensures c.stored.ensures

pub stored-requires-2 : goal.stored-requires-2
stored-requires-2 c = (omega (arith, c.rows_before-h.ensures.0), λ y b. omega (arith, c.requires.3 y (omega (arith, c.rows_before-h.ensures.0)), upper-stored c.args.ld c.args.i c.args.j y c.if-lower.false (c.rows_before-h.ensures.1 y b)))

pub mirrored-requires-2 : goal.mirrored-requires-2
mirrored-requires-2 c = let k = c.rows_before-h.result in (simp tail-length (omega (arith, c.rows_before-h.ensures.0)), λ y b. let z : c.args.i + k + y ≡ c.args.i + (k + y) = omega arith in let e = ap (λ (r : ℕ). r * c.args.ld) z in omega (arith, e, c.requires.3 (k + y) (omega arith), upper-mirrored c.args.ld c.args.i c.args.j (k + y) c.if-lower.false (c.rows_before-h.ensures.2 (k + y) (omega arith) (omega arith))))

pub returns : goal.returns
returns c = upper-line c.args.a.now c.args.ld c.args.i c.args.j c.rows_before-h.result c.args.n c.args.dest.now _ _ (omega arith) c.if-lower.false c.rows_before-h.ensures c.stored-2.ensures c.mirrored-2.ensures
