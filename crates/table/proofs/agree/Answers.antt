-- `table::agree` tells one list from another.
use Rattle.std.proofs.Common.{rules, ℕ, ◌<◌, ◌≡◌, length, get_or, true, ap}
use lib.Ieee.{nan}
use lib.Seq.{ext_get_or}
use Rattle.table.proofs.agree.Goals as goal

pub returns-then-list-res : goal.returns-then-list-res
returns-then-list-res c =
    let each : c.all.result ≡ true → (k : ℕ) → k < length c.args.list.now → get_or c.args.list.now k nan ≡ get_or c.args.res.now k nan = search rules in
    let all : ((k : ℕ) → k < length c.args.list.now → get_or c.args.list.now k nan ≡ get_or c.args.res.now k nan) → c.all.result ≡ true = search rules in
    (λ h. ext_get_or nan _ _ c.if-list-res.true (each h), λ e. all (λ k b. ap (λ xs. get_or xs k nan) e))
