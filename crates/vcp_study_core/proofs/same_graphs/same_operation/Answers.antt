use Rattle.std.proofs.Common.{◌≡◌, rules}
use borrow.Author.Tests.{tests}
use Rattle.vcp_study_core.proofs.Comparing.{same_fields}
use Rattle.vcp_study_core.proofs.same_graphs.same_operation.Goals as goal

pub returns : goal.returns
returns c same =
    let a = c.args.a.now in
    let b = c.args.b.now in
    let kind : a.kind ≡ b.kind = search (tests, rules) in
    let from : a.from ≡ b.from = search (tests, rules) in
    let ty : a.ty ≡ b.ty = search (tests, rules) in
    let imm : a.imm ≡ b.imm = search (tests, rules) in
    same_fields a b kind from ty c.if-a-b.false c.if-a-b-2.false c.if-a-b-3.false imm c.if-a-b-5.false
