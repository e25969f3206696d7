use Rattle.std.proofs.Common.{◌≡◌, length, slice_get, Some, refl, sym, ap, subst, arith}
use Rattle.std.proofs.lemmas.Option.{slice_get_read}
use Rattle.range_audit.proofs.boxes.Boxes.at.Goals as goal

pub returns : goal.returns
returns c =
    let list = c.as_slice-list.result.now in
    let same = c.as_slice-list.ensures.value in
    let b = c.index-list-k in
    let there = slice_get_read list (length list) c.args.k b.result refl (omega (arith, ap length same, c.requires)) b.is in
    (b.result, subst (λ xs. slice_get xs c.args.k ≡ Some b.result) same there, sym c.deref.ensures.value)
