-- `gemm_many` is the call of the definitions: its words go through their bits once.
use mathlib.Core.Path.{refl}
use mir.Syntax.{w32}
use mir.ValLaws.{to_z-of_z}
use Rattle.definitions.specs.Check.{is, trans_of, call_of}
use Rattle.many.proofs.RunLaws.{is-many}
use Rattle.many.proofs.gemm_many.Goals as goal

pub run-requires : goal.run-requires
unfolding call_of trans_of is
run-requires c = record {
  is-gemm = refl;
  plain = refl;
  has-a = refl;
  has-b = c.from_last.ensures;
  has-c = c.from_last-2.ensures;
}

pub returns : goal.returns
returns c =
    let g = c.args in
    let f = c.ranges in
    is-many g.transb g.m g.n g.k g.alpha g.a.now g.lda g.b.now g.ldb g.strideb g.beta g.c.now g.ldc g.stridec g.items g.pack.now g.w g.r _ _ _
    (simp (
      to_z-of_z w32 g.transb f.transb,
      to_z-of_z w32 g.m f.m,
      to_z-of_z w32 g.n f.n,
      to_z-of_z w32 g.k f.k,
      to_z-of_z w32 g.lda f.lda,
      to_z-of_z w32 g.ldb f.ldb,
      to_z-of_z w32 g.ldc f.ldc,
      to_z-of_z w32 g.strideb f.strideb,
      to_z-of_z w32 g.stridec f.stridec,
      to_z-of_z w32 g.items f.items,
      to_z-of_z w32 g.w f.w,
      to_z-of_z w32 g.r f.r,
      c.from.ensures,
      c.from-2.ensures,
      c.from_last.ensures,
      c.from_last-2.ensures,
    ) at c.run.ensures)
