-- `part_length` is what the array has from the offset on.
use Prim.Native.Nat.{◌-◌}
use mathlib.Core.Path.{ap, ◌∙◌}
use Rattle.definitions.specs.Sheet.{part_length}
use Rattle.records.specs.declared.Part.{Part}
use Rattle.records.specs.Judgement.{sizes, part_at}
use Rattle.records.proofs.Record.part_length.Goals as goal

pub returns : goal.returns
unfolding part_length part_at
returns c =
    c.saturating_sub.ensures
    ∙ ap (λ n. n - c.part-part.result.offset) c.of.ensures
    ∙ ap (λ (m : Part). sizes c.args.lengths m.array - m.offset) c.part-part.ensures
