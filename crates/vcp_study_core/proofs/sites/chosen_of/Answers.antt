use Rattle.std.proofs.Common.{◌≡◌}
use Rattle.fault_sites.specs.declared.scripts.unwritten.Unwritten.TheVariants as unwritten
use Rattle.vcp_study_core.specs.Texts.{Chooses, ChoosesGroups}
use Rattle.vcp_study_core.proofs.ChosenSites.{groups_wrote, sites_wrote, that_fault, wrote_broken, wrote_refused, wrote_unmade, wrote_whole}
use Rattle.vcp_study_core.proofs.sites.chosen_of.Goals as goal

pub returns-in-Ok-clause-sites : goal.returns-in-Ok-clause-sites
returns-in-Ok-clause-sites c i named xs which old new w failed =
    wrote_whole c.args.name.now (Chooses c.args.name.now i named xs which) old new (sites_wrote c.args.name.now i named xs which old.written new.written _ (rw c.in-Ok.is at w))

pub returns-in-Err-TooMany-clause-sites : goal.returns-in-Err-TooMany-clause-sites
returns-in-Err-TooMany-clause-sites c i named xs which old new w failed =
    let same : c.in-Err-TooMany.field-0 ≡ unwritten.TooMany = rw c.in-Err-TooMany.is at c.in-Err-TooMany.field-0-is in
    let is = that_fault c.args.wrote c.in-Err-TooMany.field-0 unwritten.TooMany c.in-Err-TooMany.is same in
    rw c.bytes.ensures (wrote_refused c.args.name.now (Chooses c.args.name.now i named xs which) old new (sites_wrote c.args.name.now i named xs which old.written new.written _ (rw is at w)))

pub returns-in-Err-Memory-clause-sites : goal.returns-in-Err-Memory-clause-sites
returns-in-Err-Memory-clause-sites c i named xs which old new w failed =
    let same : c.in-Err-Memory.field-0 ≡ unwritten.Memory = rw c.in-Err-Memory.is at c.in-Err-Memory.field-0-is in
    let is = that_fault c.args.wrote c.in-Err-Memory.field-0 unwritten.Memory c.in-Err-Memory.is same in
    wrote_unmade c.args.name.now (Chooses c.args.name.now i named xs which) old new (sites_wrote c.args.name.now i named xs which old.written new.written _ (rw is at w))

pub returns-in-Err-Failed-clause-sites : goal.returns-in-Err-Failed-clause-sites
returns-in-Err-Failed-clause-sites c i named xs which old new w failed =
    let same : c.in-Err-Failed.field-0 ≡ unwritten.Failed = rw c.in-Err-Failed.is at c.in-Err-Failed.field-0-is in
    let is = that_fault c.args.wrote c.in-Err-Failed.field-0 unwritten.Failed c.in-Err-Failed.is same in
    wrote_broken c.args.name.now (Chooses c.args.name.now i named xs which) old new (sites_wrote c.args.name.now i named xs which old.written new.written _ (rw is at w)) (failed is)

pub returns-in-Ok-clause-groups : goal.returns-in-Ok-clause-groups
returns-in-Ok-clause-groups c i gs which old new w failed =
    wrote_whole c.args.name.now (ChoosesGroups c.args.name.now i gs which) old new (groups_wrote c.args.name.now i gs which old.written new.written _ (rw c.in-Ok.is at w))

pub returns-in-Err-TooMany-clause-groups : goal.returns-in-Err-TooMany-clause-groups
returns-in-Err-TooMany-clause-groups c i gs which old new w failed =
    let same : c.in-Err-TooMany.field-0 ≡ unwritten.TooMany = rw c.in-Err-TooMany.is at c.in-Err-TooMany.field-0-is in
    let is = that_fault c.args.wrote c.in-Err-TooMany.field-0 unwritten.TooMany c.in-Err-TooMany.is same in
    rw c.bytes.ensures (wrote_refused c.args.name.now (ChoosesGroups c.args.name.now i gs which) old new (groups_wrote c.args.name.now i gs which old.written new.written _ (rw is at w)))

pub returns-in-Err-Memory-clause-groups : goal.returns-in-Err-Memory-clause-groups
returns-in-Err-Memory-clause-groups c i gs which old new w failed =
    let same : c.in-Err-Memory.field-0 ≡ unwritten.Memory = rw c.in-Err-Memory.is at c.in-Err-Memory.field-0-is in
    let is = that_fault c.args.wrote c.in-Err-Memory.field-0 unwritten.Memory c.in-Err-Memory.is same in
    wrote_unmade c.args.name.now (ChoosesGroups c.args.name.now i gs which) old new (groups_wrote c.args.name.now i gs which old.written new.written _ (rw is at w))

pub returns-in-Err-Failed-clause-groups : goal.returns-in-Err-Failed-clause-groups
returns-in-Err-Failed-clause-groups c i gs which old new w failed =
    let same : c.in-Err-Failed.field-0 ≡ unwritten.Failed = rw c.in-Err-Failed.is at c.in-Err-Failed.field-0-is in
    let is = that_fault c.args.wrote c.in-Err-Failed.field-0 unwritten.Failed c.in-Err-Failed.is same in
    wrote_broken c.args.name.now (ChoosesGroups c.args.name.now i gs which) old new (groups_wrote c.args.name.now i gs which old.written new.written _ (rw is at w)) (failed is)
