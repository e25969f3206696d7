use Rattle.std.proofs.Common.{[], List, ℕ, length, take, ◌≤◌, subst, arith}
use Rattle.std.proofs.lemmas.List.{take_all}
use Rattle.image_file.specs.Pieces.{entries}
use Rattle.image_file.specs.Entries.{name_piece}
use Rattle.image_file.specs.Written.{Writes}
use Rattle.image_file.proofs.Appended.{next_entry, nothing, each_at}
use Rattle.vcp_base.specs.Limits.{most_name_bytes}
use Rattle.vcp_base.specs.Names.{NameFits}
use Rattle.image_file.proofs.writing.put_names.Goals as goal

pub entries-init : goal.entries-init
entries-init c = nothing

pub entries-preserved : goal.entries-preserved
entries-preserved c = next_entry (λ b. (name_piece b).spell) c.args.graph.now.names c.entries.i c.name.result.now c.name.ensures c.entries.invariant
    (c.put_name-out.ensures (take c.entries.i c.args.graph.now.names))

pub put_name-out-requires : goal.put_name-out-requires
put_name-out-requires c =
    each_at (NameFits (λ n. n)) (λ (n : List ℕ). length n ≤ most_name_bytes) [] c.args.graph.now.names c.entries.i c.name.result.now
    (λ b n f. f.short) c.requires.part.names c.name.ensures

pub returns : goal.returns
returns c = subst (λ l. Writes c.args.out c.entries.out (entries (λ b. (name_piece b).spell) [] l))
    (take_all c.entries.i c.args.graph.now.names (omega (arith, c.names-i-end.ensures))) c.entries.invariant
