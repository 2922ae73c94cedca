-- `go` makes the steps one after the other: after each the machine has made as many.
use Prim.Native.Nat.{◌^◌, ◌<◌}
use Rattle.definitions.specs.Sheet.{records, act}
use Rattle.definitions.specs.Run.{begin}
use Rattle.definitions.proofs.Records.{act-stable}
use Rattle.records.specs.Judgement.{sheet_in, arrays_of}
use Rattle.sheet.proofs.Steps.{Running}
use Rattle.sheet.proofs.go.Given as goal

abbrev pub invariant-loop-steps : goal.invariant-loop-steps
invariant-loop-steps l =
    let t = sheet_in l.sheet in
    Running (records t) (act t) (act-stable t) l.budget (begin (arrays_of l.initial.x l.initial.y l.initial.z) l.initial.answers l.initial.cursor.p l.initial.cursor.s) l.steps l.zero
    (begin (arrays_of l.x l.y l.z) l.answers l.cursor.p l.cursor.s)
    × (l.cursor.s < 2 ^ 31)
