-- `strips::strip` lends the part of the output from the strip's start on to the routine's update.
use Prim.Native.Nat.{◌≤◌}
use mathlib.Core.Path.{refl, ap, ◌∙◌}
use lib.ListN.{length}
use mir.Syntax.{w32}
use mir.ValLaws.{to_z-of_z}
use Rattle.definitions.specs.Call.{in_place}
use Rattle.definitions.specs.Element.{zero_of}
use Rattle.definitions.specs.declared.Routine.TheVariants.{Gemm, Symm, Syrk, Syr2k, Trmm, Trsm}
use Rattle.arguments.specs.Strip.{strip_start}
use Rattle.strips.specs.Lengths.{widest}
use Rattle.strips.proofs.Lent.{start-inside, put-strip, start-in-C, columns-of-C, fits-C, start-in-B, fits-B, reports}
use native.Mathlib.Omega.{arith}
use Rattle.strips.proofs.strip.Goals as goal
use Rattle.strips.proofs.strip.Goals.{After-strip_start-x, Start}

start : (c : Start) → strip_start c.args.call c.args.from ≤ length c.args.out.now
start c =
    start-inside c.args.call _ _ _ _ c.args.lines c.requires.fits_arrays (omega (arith, c.requires.lines_nonzero)) (omega (arith, c.requires.lines_nonzero))

inside : (c : After-strip_start-x) → c.strip_start-x.result ≤ length c.args.out.now
inside c =
    let start : strip_start c.args.call c.args.from ≤ length c.args.out.now = start-inside c.args.call _ _ _ _ c.args.lines c.requires.fits_arrays (omega (arith, c.requires.lines_nonzero)) (omega (arith, c.requires.lines_nonzero)) in
    omega (arith, c.strip_start-x.ensures, start)

pub strip_start-x-requires : goal.strip_start-x-requires
strip_start-x-requires c = omega (arith, start (goal.at.strip_start-x-requires c).Start, c.well_formed)

pub offset_bounds-out-x : goal.offset_bounds-out-x
offset_bounds-out-x c = omega (arith, inside (goal.at.offset_bounds-out-x c).After-strip_start-x, c.well_formed)

pub slice_bounds-part-count : goal.slice_bounds-part-count
slice_bounds-part-count c = omega (arith, inside (goal.at.slice_bounds-part-count c).After-strip_start-x)

pub slice_bounds-part-start : goal.slice_bounds-part-start
slice_bounds-part-start c = omega (arith, inside (goal.at.slice_bounds-part-start c).After-strip_start-x)

pub gemm_strip-requires : goal.gemm_strip-requires
unfolding in_place
gemm_strip-requires c = record {
  fits = fits-C Gemm c.args.call c.in-Gemm.is refl _ _ _ _ c.args.out.now c.strip_start-x.ensures (inside (goal.at.gemm_strip-requires c).After-strip_start-x) c.requires.fits_arrays;
  cols_nonzero = omega (arith, columns-of-C Gemm c.args.call c.in-Gemm.is refl, c.requires.lines_nonzero, ap widest c.in-Gemm.is);
}

pub symm_strip-requires : goal.symm_strip-requires
unfolding in_place
symm_strip-requires c = record {
  fits = fits-C Symm c.args.call c.in-Symm.is refl _ _ _ _ c.args.out.now c.strip_start-x.ensures (inside (goal.at.symm_strip-requires c).After-strip_start-x) c.requires.fits_arrays;
  cols_nonzero = omega (arith, columns-of-C Symm c.args.call c.in-Symm.is refl, c.requires.lines_nonzero, ap widest c.in-Symm.is);
}

pub syrk_strip-requires : goal.syrk_strip-requires
unfolding in_place
syrk_strip-requires c = record {
  fits = fits-C Syrk c.args.call c.in-Syrk.is refl _ _ _ _ c.args.out.now c.strip_start-x.ensures (inside (goal.at.syrk_strip-requires c).After-strip_start-x) c.requires.fits_arrays;
  cols_nonzero = omega (arith, columns-of-C Syrk c.args.call c.in-Syrk.is refl, c.requires.lines_nonzero, ap widest c.in-Syrk.is);
}

pub syr2k_strip-requires : goal.syr2k_strip-requires
unfolding in_place
syr2k_strip-requires c = record {
  fits = fits-C Syr2k c.args.call c.in-Syr2k.is refl _ _ _ _ c.args.out.now c.strip_start-x.ensures (inside (goal.at.syr2k_strip-requires c).After-strip_start-x) c.requires.fits_arrays;
  cols_nonzero = omega (arith, columns-of-C Syr2k c.args.call c.in-Syr2k.is refl, c.requires.lines_nonzero, ap widest c.in-Syr2k.is);
}

pub trmm_strip-requires : goal.trmm_strip-requires
unfolding in_place
trmm_strip-requires c = record {
  by_index = fits-B Trmm c.args.call c.in-Trmm.is refl _ _ _ _ c.args.out.now c.strip_start-x.ensures (inside (goal.at.trmm_strip-requires c).After-strip_start-x) c.requires.fits_arrays;
  lines_nonzero = omega (arith, c.requires.lines_nonzero, ap widest c.in-Trmm.is);
}

pub trsm_strip-requires : goal.trsm_strip-requires
unfolding in_place
trsm_strip-requires c = record {
  by_index = fits-B Trsm c.args.call c.in-Trsm.is refl _ _ _ _ c.args.out.now c.strip_start-x.ensures (inside (goal.at.trsm_strip-requires c).After-strip_start-x) c.requires.fits_arrays;
  lines_nonzero = omega (arith, c.requires.lines_nonzero, ap widest c.in-Trsm.is);
}

pub returns-in-Gemm : goal.returns-in-Gemm
unfolding in_place zero_of
returns-in-Gemm c = (
  put-strip c.args.call _ _ _ _ _ _ _ _ (inside (goal.at.returns-in-Gemm c).After-strip_start-x) (start-in-C Gemm c.args.call c.in-Gemm.is refl _ _ c.strip_start-x.ensures) c.gemm_strip.ensures,
  reports Gemm c.args.call c.in-Gemm.is _ _ refl,
)

pub returns-in-Symm : goal.returns-in-Symm
unfolding in_place zero_of
returns-in-Symm c = (
  put-strip c.args.call _ _ _ _ _ _ _ _ (inside (goal.at.returns-in-Symm c).After-strip_start-x) (start-in-C Symm c.args.call c.in-Symm.is refl _ _ c.strip_start-x.ensures) c.symm_strip.ensures,
  reports Symm c.args.call c.in-Symm.is _ _ refl,
)

pub returns-in-Syrk : goal.returns-in-Syrk
unfolding in_place zero_of
returns-in-Syrk c = (
  put-strip c.args.call _ _ _ _ _ _ _ _ (inside (goal.at.returns-in-Syrk c).After-strip_start-x) (start-in-C Syrk c.args.call c.in-Syrk.is refl _ _ c.strip_start-x.ensures) c.syrk_strip.ensures,
  reports Syrk c.args.call c.in-Syrk.is _ _ refl,
)

pub returns-in-Syr2k : goal.returns-in-Syr2k
unfolding in_place zero_of
returns-in-Syr2k c = (
  put-strip c.args.call _ _ _ _ _ _ _ _ (inside (goal.at.returns-in-Syr2k c).After-strip_start-x) (start-in-C Syr2k c.args.call c.in-Syr2k.is refl _ _ c.strip_start-x.ensures) c.syr2k_strip.ensures,
  reports Syr2k c.args.call c.in-Syr2k.is _ _ refl,
)

pub returns-in-Trmm : goal.returns-in-Trmm
unfolding in_place zero_of
returns-in-Trmm c = (
  put-strip c.args.call _ _ _ _ _ _ _ _ (inside (goal.at.returns-in-Trmm c).After-strip_start-x) (start-in-B Trmm c.args.call c.in-Trmm.is refl _ _ c.strip_start-x.ensures) (c.trmm_strip.ensures _),
  reports Trmm c.args.call c.in-Trmm.is _ _ refl,
)

pub returns-in-Trsm : goal.returns-in-Trsm
unfolding in_place
returns-in-Trsm c = (
  put-strip c.args.call _ _ _ _ _ _ _ _ (inside (goal.at.returns-in-Trsm c).After-strip_start-x) (start-in-B Trsm c.args.call c.in-Trsm.is refl _ _ c.strip_start-x.ensures) (c.trsm_strip.ensures.0 _),
  reports Trsm c.args.call c.in-Trsm.is _ _ (to_z-of_z w32 c.trsm_strip.result (record { sfits = c.trsm_strip.type_inv }) ∙ c.trsm_strip.ensures.1),
)
