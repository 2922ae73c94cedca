-- A product that is added to its start.
--     summed   the start, and unless alpha is zero all terms of alpha times L times R after it
use Rattle.std.specs.Prelude.{ℕ, Float, false, if◌then◌else◌}
use Rattle.arrays.specs.Update.{EntryMap}
use Rattle.definitions.specs.Number.{is_zero, factor, start}
use Rattle.definitions.specs.declared.Scalar.{Scalar}
use Rattle.packing.specs.Factor.{Matrix}
use Rattle.direct.specs.Product.{product}

unfoldable pub summed : Scalar → Scalar → Matrix → Matrix → ℕ → EntryMap Float
summed alpha beta L R k i j x =
    let e = start beta x in
    let r = product (factor alpha) L R false k i j e in
    if is_zero alpha then e else r
