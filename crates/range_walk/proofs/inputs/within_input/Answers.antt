use Rattle.range_walk.proofs.inputs.within_input.Goals as goal

pub returns : goal.returns
returns c = λ row inside is. c.shared.ensures _ is (inside c.args.place c.range_at-input.result c.range_at-input.ensures)
