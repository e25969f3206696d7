use Rattle.std.proofs.Common.{◌≡◌, ◌∙◌, ℤ, pos, refl, ap, map, take_all, get_or, w64, rules}
use Rattle.std.proofs.lemmas.Int.{to_z-of_z}
use mir.Val.{SFits}
use Rattle.vcp_base.specs.declared.ty.Ty.TheVariants as types
use Rattle.op_graph.specs.declared.op.Cell.{Cell}
use Rattle.op_graph.specs.declared.op.Loaded.{Loaded}
use Rattle.image_file.specs.Image.{load_of}
use Rattle.image_file.proofs.Chains.{stays, and_then}
use Rattle.image_file.proofs.Loop.{one_mapped}
use Rattle.image_file.proofs.whole.loads_of.Goals as goal

copied : (c : Cell) (value : ℤ) → value ≡ c.init → record { name = c.name; ty = c.ty; init = value; load = c.load } ≡ load_of c
copied c value is = ap {B = Loaded} (λ (v : ℤ). record { name = c.name; ty = c.ty; init = v; load = c.load }) is

pub cells-init : goal.cells-init
cells-init c = (stays refl, λ o. c.new-loads.ensures.items)

pub cells-preserved : goal.cells-preserved
cells-preserved c =
    let none : Cell = record { name = 0; ty = types.Bool; init = pos 0; load = 0; store = 0 } in
    let cell : Cell = get_or c.args.cells.now c.cells.i none in
    let fits : SFits w64 cell.init = search rules in (
      and_then c.cells.invariant.0 c.push.ensures.keeps,
      λ o. one_mapped load_of c.args.cells.now c.cells.i none c.cells-test.true (copied cell _ (to_z-of_z w64 cell.init fits))
          (c.cells.invariant.1 (c.push.ensures.keeps.before o)) (c.push.ensures.pushed o),
    )

pub returns-clause-keeps : goal.returns-clause-keeps
returns-clause-keeps c = c.cells.invariant.0

pub returns-clause-loads : goal.returns-clause-loads
returns-clause-loads c = λ o. c.cells.invariant.1 o ∙ ap (map load_of) (take_all c.cells.i c.args.cells.now c.cells-test.false)
