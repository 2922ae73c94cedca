-- How a strip of SYRK or SYR2K reads its options.
--     is_lower          of a triangle
--     transposed_form   how the kernel reads the transpose of op(A)
use Rattle.std.specs.Prelude.{Bool, true, false}
use Rattle.definitions.specs.declared.Transpose.{Transpose}
use Rattle.definitions.specs.declared.Transpose.TheVariants.{No, Yes}
use Rattle.definitions.specs.declared.Triangle.{Triangle}
use Rattle.definitions.specs.declared.Triangle.TheVariants.{Lower, Upper}
use Rattle.packing.specs.declared.Form.{Form}
use Rattle.packing.specs.declared.Form.TheVariants.{Plain, Transposed}

abbrev pub is_lower : Triangle → Bool
is_lower Lower = true
is_lower Upper = false

abbrev pub transposed_form : Transpose → Form
transposed_form No = Transposed
transposed_form Yes = Plain
