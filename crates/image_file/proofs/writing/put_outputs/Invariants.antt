use Rattle.std.proofs.Common.{[], take, ℕ}
use Rattle.vcp_base.specs.declared.code.Profile.{Profile}
use Rattle.image_file.specs.Pieces.{entries}
use Rattle.image_file.specs.Written.{Writes}
use Rattle.image_file.specs.Entries.{output_piece}
use Rattle.image_file.proofs.writing.put_outputs.Given as goal

abbrev pub invariant-entries : goal.invariant-entries
invariant-entries l =
    (p : Profile) (names operations : ℕ) → Writes l.initial.out l.out (entries (λ b. (output_piece p names operations b).spell) [] (take l.i l.graph.outputs))
