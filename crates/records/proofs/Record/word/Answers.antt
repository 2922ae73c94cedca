-- `word` is the word of the record.
use Prim.Native.Nat.{◌+◌}
use mathlib.Core.Path.{◌≡◌, ◌∙◌}
use lib.IntN.{pos}
use lib.ListN.{get_or}
use mir.Syntax.{w32}
use mir.Val.{to_z, of_z}
use Rattle.std.proofs.Common.{rules}
use Rattle.records.specs.Judgement.{sheet_in}
use Rattle.records.proofs.Judgements.{field_is}
use Rattle.records.proofs.Record.word.Goals as goal

pub returns : goal.returns
returns c =
    let same : to_z w32 (of_z w32 (get_or c.args.self.sheet.words.now (c.args.self.at + c.args.q) (pos 0))) ≡ get_or c.args.self.sheet.words.now (c.args.self.at + c.args.q) (pos 0) = search rules in
    same ∙ field_is (sheet_in c.args.self.sheet) c.args.self.p c.args.self.at c.args.self.placed.0 c.args.q
