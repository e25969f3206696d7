use Rattle.std.proofs.Common.{◌≡◌, append_assoc, slice_index_or}
use Rattle.std.proofs.lemmas.Option.{get_or_from_slice_get}
use Rattle.run_report.proofs.operations.then_code.Goals as goal

pub returns : goal.returns
returns g c sink name text is =
    let own = rw c.signature.ensures.value at (c.numbered.ensures sink name text is) in
    let all = c.numbered-2.ensures _ _ _ own in
    let there : slice_index_or c.args.table.now.corrections c.args.i 0 ≡ c.correction.result =
    get_or_from_slice_get c.args.table.now.corrections c.args.i c.correction.result 0 c.correction.ensures.value in
    rw there (simp append_assoc at all)
