use Rattle.image_file.proofs.Found.{only_image, reads_table}
use Rattle.image_file.proofs.image.read_image.Goals as goal

pub returns-clause-image : goal.returns-clause-image
returns-clause-image c = λ g seed step has e. only_image c.images_are_told_apart.ensures.one_graph c.images_are_told_apart.ensures.no_fault
    c.args.bytes.now c.answered.result c.answered.ensures g seed step has e

pub returns-clause-table : goal.returns-clause-table
returns-clause-table c = reads_table c.args.bytes.now c.answered.result c.answered.ensures
