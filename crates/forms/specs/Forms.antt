-- The forms in which the kernel reads the matrices of a call.
--     op_form        of op(A)
--     mirrored_form  of a symmetric A of which one triangle is stored
-- op(A), as an array holds A:
--     op_matrix      its entries
--     Square         those of an op(A) of order m are within the array
use Rattle.std.specs.Prelude.{ℕ, ◌<◌, length}
use Rattle.definitions.specs.declared.Transpose.{Transpose}
use Rattle.definitions.specs.declared.Transpose.TheVariants.{No, Yes}
use Rattle.definitions.specs.declared.Triangle.{Triangle}
use Rattle.definitions.specs.declared.Triangle.TheVariants.{Lower, Upper}
use Rattle.packing.specs.Factor.{Matrix, index_of, entry_of}
use Rattle.packing.specs.declared.Form as Form
use Rattle.packing.specs.declared.Form.{Form}
use Rattle.forms.specs.declared.Op.{Op}

abbrev pub op_form : Transpose → Form
op_form No = Form.TheVariants.Plain
op_form Yes = Form.TheVariants.Transposed

abbrev pub mirrored_form : Triangle → Form
mirrored_form Lower = Form.TheVariants.Lower
mirrored_form Upper = Form.TheVariants.Upper

abbrev pub op_matrix : Op → Matrix
op_matrix o = entry_of (op_form o.t) o.cells.now o.ld

abbrev pub Square : Op → ℕ → Type 0
Square o m = (i j : ℕ) → i < m → j < m → index_of (op_form o.t) o.ld i j < length o.cells.now
