use Rattle.coded_unit.proofs.Totals.{short_total}
use Rattle.coded_unit.proofs.table.short_total.Goals as goal

pub overflow_add-result : goal.overflow_add-result
overflow_add-result c =
    (short_total c.args.first c.args.second c.args.third c.args.corr c.args.share c.requires.first c.requires.second c.requires.third c.ranges.corr.fits c.requires.share).two

pub overflow_add-result-2 : goal.overflow_add-result-2
overflow_add-result-2 c =
    (short_total c.args.first c.args.second c.args.third c.args.corr c.args.share c.requires.first c.requires.second c.requires.third c.ranges.corr.fits c.requires.share).three

pub overflow_add-result-3 : goal.overflow_add-result-3
overflow_add-result-3 c =
    (short_total c.args.first c.args.second c.args.third c.args.corr c.args.share c.requires.first c.requires.second c.requires.third c.ranges.corr.fits c.requires.share).four

pub overflow_add-result-4 : goal.overflow_add-result-4
overflow_add-result-4 c =
    (short_total c.args.first c.args.second c.args.third c.args.corr c.args.share c.requires.first c.requires.second c.requires.third c.ranges.corr.fits c.requires.share).five

pub returns : goal.returns
returns c =
    (short_total c.args.first c.args.second c.args.third c.args.corr c.args.share c.requires.first c.requires.second c.requires.third c.ranges.corr.fits c.requires.share).is
