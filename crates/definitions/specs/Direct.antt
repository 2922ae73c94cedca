-- The six direct calls, with their arguments in the order of their places; then w and r.
use Rattle.std.specs.Prelude.{ℕ, List, [], ℤ, pos, length, Float}
use Rattle.definitions.specs.Number.{scalar}
use Rattle.definitions.specs.Check.{checked, number, leaves, reports}
use Rattle.definitions.specs.declared.Routine.{Routine}
use Rattle.definitions.specs.declared.Routine.TheVariants.{Gemm, Symm, Syrk, Syr2k, Trmm, Trsm}
use Rattle.definitions.specs.declared.Scalar.TheVariants.{Zero}
use Rattle.definitions.specs.declared.Args.{Args}
use Rattle.definitions.specs.declared.SolveEnd.{SolveEnd}

-- The number that a direct call gives, and the output's array after it.
pub record Done : Type 0 where
  pub number : ℤ
  pub array : List Float

-- "A direct call gives 0 or its number; refused, it writes nothing."
unfoldable pub done : ℤ → ℤ → Args → List Float → List Float → List Float → Done
done w r g a b out =
    let answer = checked w r g in
    record { number = number answer; array = leaves answer a b out }

-- An argument that the routine lacks.
abbrev none : ℤ
none = pos 0

abbrev pub gemm_args : ℤ → ℤ → ℤ → ℤ → ℤ → Float → ℕ → ℤ → ℕ → ℤ → Float → ℕ → ℤ → Args
gemm_args transa transb m n k alpha lena lda lenb ldb beta lenc ldc = record {
  routine = Gemm;
  side = none;
  uplo = none;
  transa = transa;
  transb = transb;
  diag = none;
  m = m;
  n = n;
  k = k;
  alpha = scalar alpha;
  beta = scalar beta;
  lda = lda;
  ldb = ldb;
  ldc = ldc;
  lena = lena;
  lenb = lenb;
  lenc = lenc;
}

unfoldable pub gemm : ℤ → ℤ → ℤ → ℤ → ℤ → Float → List Float → ℤ → List Float → ℤ → Float → List Float → ℤ → ℤ → ℤ → Done
gemm transa transb m n k alpha a lda b ldb beta c ldc w r =
    done w r (gemm_args transa transb m n k alpha (length a) lda (length b) ldb beta (length c) ldc) a b c

abbrev pub symm_args : ℤ → ℤ → ℤ → ℤ → Float → ℕ → ℤ → ℕ → ℤ → Float → ℕ → ℤ → Args
symm_args side uplo m n alpha lena lda lenb ldb beta lenc ldc = record {
  routine = Symm;
  side = side;
  uplo = uplo;
  transa = none;
  transb = none;
  diag = none;
  m = m;
  n = n;
  k = none;
  alpha = scalar alpha;
  beta = scalar beta;
  lda = lda;
  ldb = ldb;
  ldc = ldc;
  lena = lena;
  lenb = lenb;
  lenc = lenc;
}

unfoldable pub symm : ℤ → ℤ → ℤ → ℤ → Float → List Float → ℤ → List Float → ℤ → Float → List Float → ℤ → ℤ → ℤ → Done
symm side uplo m n alpha a lda b ldb beta c ldc w r =
    done w r (symm_args side uplo m n alpha (length a) lda (length b) ldb beta (length c) ldc) a b c

abbrev pub syrk_args : ℤ → ℤ → ℤ → ℤ → Float → ℕ → ℤ → Float → ℕ → ℤ → Args
syrk_args uplo trans n k alpha lena lda beta lenc ldc = record {
  routine = Syrk;
  side = none;
  uplo = uplo;
  transa = trans;
  transb = none;
  diag = none;
  m = none;
  n = n;
  k = k;
  alpha = scalar alpha;
  beta = scalar beta;
  lda = lda;
  ldb = none;
  ldc = ldc;
  lena = lena;
  lenb = 0;
  lenc = lenc;
}

unfoldable pub syrk : ℤ → ℤ → ℤ → ℤ → Float → List Float → ℤ → Float → List Float → ℤ → ℤ → ℤ → Done
syrk uplo trans n k alpha a lda beta c ldc w r =
    done w r (syrk_args uplo trans n k alpha (length a) lda beta (length c) ldc) a [] c

abbrev pub syr2k_args : ℤ → ℤ → ℤ → ℤ → Float → ℕ → ℤ → ℕ → ℤ → Float → ℕ → ℤ → Args
syr2k_args uplo trans n k alpha lena lda lenb ldb beta lenc ldc = record {
  routine = Syr2k;
  side = none;
  uplo = uplo;
  transa = trans;
  transb = none;
  diag = none;
  m = none;
  n = n;
  k = k;
  alpha = scalar alpha;
  beta = scalar beta;
  lda = lda;
  ldb = ldb;
  ldc = ldc;
  lena = lena;
  lenb = lenb;
  lenc = lenc;
}

unfoldable pub syr2k : ℤ → ℤ → ℤ → ℤ → Float → List Float → ℤ → List Float → ℤ → Float → List Float → ℤ → ℤ → ℤ → Done
syr2k uplo trans n k alpha a lda b ldb beta c ldc w r =
    done w r (syr2k_args uplo trans n k alpha (length a) lda (length b) ldb beta (length c) ldc) a b c

-- TRMM and TRSM; b is the output.
abbrev pub triangular_args : Routine → ℤ → ℤ → ℤ → ℤ → ℤ → ℤ → Float → ℕ → ℤ → ℕ → ℤ → Args
triangular_args f side uplo transa diag m n alpha lena lda lenb ldb = record {
  routine = f;
  side = side;
  uplo = uplo;
  transa = transa;
  transb = none;
  diag = diag;
  m = m;
  n = n;
  k = none;
  alpha = scalar alpha;
  beta = Zero;
  lda = lda;
  ldb = ldb;
  ldc = none;
  lena = lena;
  lenb = lenb;
  lenc = 0;
}

unfoldable pub trmm : ℤ → ℤ → ℤ → ℤ → ℤ → ℤ → Float → List Float → ℤ → List Float → ℤ → ℤ → ℤ → Done
trmm side uplo transa diag m n alpha a lda b ldb w r =
    done w r (triangular_args Trmm side uplo transa diag m n alpha (length a) lda (length b) ldb) a [] b

-- Document 02, K11: a solve "also reports the lowest diagonal index at which A is zero".
pub record Solved : Type 0 where
  pub end : SolveEnd
  pub array : List Float

unfoldable pub solved : ℤ → ℤ → Args → List Float → List Float → List Float → Solved
solved w r g a b out =
    let d = done w r g a b out in
    record { end = record { number = d.number; zero = reports (checked w r g) a }; array = d.array }

unfoldable pub trsm : ℤ → ℤ → ℤ → ℤ → ℤ → ℤ → Float → List Float → ℤ → List Float → ℤ → ℤ → ℤ → Solved
trsm side uplo transa diag m n alpha a lda b ldb w r =
    solved w r (triangular_args Trsm side uplo transa diag m n alpha (length a) lda (length b) ldb) a [] b
