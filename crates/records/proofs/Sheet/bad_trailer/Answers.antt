-- `bad_trailer` tests the last two words.
use Prim.Native.Nat.{◌-◌}
use mathlib.Core.Path.{◌≡◌, ap, ◌∙◌}
use native.Mathlib.Omega.{arith}
use lib.IntN.{pos}
use lib.ListN.{get_or, length}
use mir.Syntax.{w32}
use mir.Val.{to_z, of_z}
use Rattle.std.proofs.Common.{rules}
use Rattle.definitions.specs.Check.{negative}
use Rattle.definitions.specs.Sheet.{index, count, word, records}
use Rattle.records.specs.Judgement.{sheet_in}
use Rattle.records.proofs.Trailer.{no-trailer, trailer-is}
use Rattle.records.proofs.Sheet.bad_trailer.Goals as goal

pub returns-then-length-lt2 : goal.returns-then-length-lt2
returns-then-length-lt2 c = no-trailer (sheet_in c.args.self) c.if-length-lt2.true

pub returns : goal.returns
unfolding index count word records
returns c =
    let words = c.args.self.words.now in
    let first : to_z w32 (of_z w32 (get_or words (length words - 2) (pos 0))) ≡ get_or words (length words - 2) (pos 0) = search rules in
    let last : to_z w32 (of_z w32 (get_or words (length words - 1) (pos 0))) ≡ get_or words (length words - 1) (pos 0) = search rules in
    trailer-is (sheet_in c.args.self) (omega (arith, c.if-length-lt2.false)) _ _ _ _ (c.negative-negative.ensures ∙ ap negative first) (c.negative-minus.ensures ∙ ap negative last)
    c.index.ensures.0 c.count.ensures.0
