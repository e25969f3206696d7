use Rattle.std.proofs.Common.{◌∙◌, ◌++◌, ◌∷◌, [], ap, sym, not, bytes_eq, refl}
use Rattle.std.specs.List.{list_any}
use Rattle.vcp_base.specs.Names.{is_name}
use Rattle.image_file.specs.declared.fields.fault.FieldFault.TheVariants.{Field}
use Rattle.image_file.specs.Entries.{name_by, lower}
use Rattle.image_file.proofs.Chains.{then, stays, twice_tested, copied, was_none, was_passed}
use Rattle.image_file.proofs.fields.names.name_of.Goals as goal

pub returns-clause-is : goal.returns-clause-is
unfolding name_by
returns-clause-is c =
    then _ c.between-n.ensures.is
    (then _
    (copied
    (twice_tested is_name (λ t. not (list_any (bytes_eq (lower t)) c.args.seen.now)) c.between-n.result c.between-n.new.self.left.now
    (λ left. Field left) c.insert-is_new.result c.take-text.ensures c.check.ensures.left
    (rw c.is_name.ensures at c.check.ensures.fault) c.insert-is_new.ensures.keeps c.insert-is_new.ensures.said c.check-2.ensures.left
    c.check-2.ensures.fault)
    c.copy.ensures.keeps c.copy.ensures.copied) (stays refl))

pub returns-clause-seen : goal.returns-clause-seen
returns-clause-seen c = λ o.
    let end = c.copy.ensures.keeps.before o in
    c.insert-is_new.ensures.added (was_none _ _ _ c.check-2.ensures.fault end) (was_passed _ _ _ c.check-2.ensures.fault end)
    ∙ ap (λ t. c.args.seen.now ++ lower t ∷ []) (sym (c.copy.ensures.copied o))
