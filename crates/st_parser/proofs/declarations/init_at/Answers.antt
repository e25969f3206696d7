use Rattle.std.proofs.Common.{Err, refl, subst}
use Rattle.st_tree.specs.Spelling.{bytes_in}
use Rattle.st_parser.specs.ExprMachine as expr_machine
use Rattle.st_parser.specs.declared.forms.Mode.{Mode}
use Rattle.st_parser.specs.FormViews.{Reads, forms, mode}
use Rattle.st_parser.specs.ProgramViews.{names, opening, program}
use Rattle.st_parser.specs.ProgramMachine as machine
use Rattle.st_parser.proofs.HandedOn.{reads-on}
use Rattle.st_parser.proofs.declarations.init_at.Goals as goal

pub returns-in-Err : goal.returns-in-Err
returns-in-Err c =
    let k : expr_machine.Context = record { bytes = bytes_in c.args.source.text.now; most = c.args.source.most } in
    let o = opening c.args.parsed.now in
    let ns = names c.args.parsed.now in
    let fs = forms c.args.parsed.now.forms.items in
    let m = mode c.args.parsed.now.mode in
    let on = machine.init_read_on o ns c.args.parsed.now.ty in
    let whole = machine.init_at k o ns c.args.parsed.now.ty fs m c.args.t in
    let given = subst
    (λ (x : Mode). Reads (Err c.in-Err.fault) c.read.new.forms.items (expr_machine.ends_before fs (mode x) c.args.t) (expr_machine.step k 0 fs (mode x) c.args.t))
    c.replace-mode.ensures.value c.in-Err.ensures in
    reads-on (program c.args.parsed.now) whole on c.in-Err.fault _ _ _ refl (λ g. refl) given
