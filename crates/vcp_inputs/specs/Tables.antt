-- Tables: ROWS, as lines name it.
use Rattle.std.specs.Prelude.{ℕ, List, codes}
use Rattle.vcp_inputs.specs.Forms.{Rows, file, cycles}

-- ROWS, as lines name it
abbrev pub rows_name : Rows → List ℕ
rows_name (file r) = r
rows_name (cycles n) = codes "--cycles"
