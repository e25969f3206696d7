use Rattle.std.proofs.Common.{◌≡◌, rules}
use Rattle.std.proofs.lemmas.Bool.Decides.{Decides-eqb}
use Rattle.std.proofs.lemmas.Slice.Eq.{ends_is}
use Rattle.vcp_outside.proofs.line.Line.ends_at.Goals as goal

pub returns-then-len-at : goal.returns-then-len-at
returns-then-len-at c ends =
    let seen : c.as_slice.result.now ≡ c.args.self.now.pending = search rules in
    (ends_is Decides-eqb c.args.self.now.pending c.args.piece.now c.ends_with.result (rw seen at c.ends_with.ensures.value)).1 ends.front ends.joined
