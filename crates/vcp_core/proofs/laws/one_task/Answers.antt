use Rattle.vcp_core.proofs.EachTask.{AnswerLaws, some_task}
use Rattle.vcp_core.proofs.Meanings.{task_once, own_status, all_found, run_means_plain}
use Rattle.vcp_core.proofs.OneText.{ImageLaws, Laws, ListingLaws}
use Rattle.vcp_core.proofs.laws.one_task.Goals as goal

pub returns-clause-some : goal.returns-clause-some
returns-clause-some c =
    let laws : AnswerLaws = record {
      lexed = c.one_reading.ensures.total;
      parsed = c.one_answer.ensures.some;
      once = c.one_answer.ensures.program;
      typed = c.answers_are_one.ensures.some;
      listings = c.il_answers_are_one.ensures.some;
      images = c.images_are_told_apart.ensures.either;
      audited = c.an_audit_has_one_text.ensures.some;
    } in
    some_task laws

pub returns-clause-one : goal.returns-clause-one
returns-clause-one c =
    let images : ImageLaws = record {
      graph = c.images_are_told_apart.ensures.one_graph;
      fault = c.images_are_told_apart.ensures.one_fault;
      none = c.images_are_told_apart.ensures.no_fault;
    } in
    let listings : ListingLaws = record {
      one = c.il_answers_are_one.ensures.one;
      either = c.il_answers_are_one.ensures.either;
      refused = c.il_answers_are_one.ensures.refused;
    } in
    let laws : Laws = record {
      tokens = c.one_reading.ensures.tokens;
      either = c.one_reading.ensures.either;
      place = c.one_reading.ensures.place;
      reason = c.one_reading.ensures.reason;
      spelled = c.one_answer.ensures.either;
      parsed = c.one_answer.ensures.refused;
      typed = c.answers_are_one.ensures.typed;
      apart = c.answers_are_one.ensures.either;
      refused = c.answers_are_one.ensures.refused;
      listings = listings;
      images = images;
      audits = c.an_audit_has_one_text.ensures.one;
    } in
    task_once laws

pub returns-clause-own : goal.returns-clause-own
returns-clause-own c = own_status

pub returns-clause-found : goal.returns-clause-found
returns-clause-found c = all_found

pub returns-clause-as_plain : goal.returns-clause-as_plain
returns-clause-as_plain c =
    let images : ImageLaws = record {
      graph = c.images_are_told_apart.ensures.one_graph;
      fault = c.images_are_told_apart.ensures.one_fault;
      none = c.images_are_told_apart.ensures.no_fault;
    } in
    let listings : ListingLaws = record {
      one = c.il_answers_are_one.ensures.one;
      either = c.il_answers_are_one.ensures.either;
      refused = c.il_answers_are_one.ensures.refused;
    } in
    let laws : Laws = record {
      tokens = c.one_reading.ensures.tokens;
      either = c.one_reading.ensures.either;
      place = c.one_reading.ensures.place;
      reason = c.one_reading.ensures.reason;
      spelled = c.one_answer.ensures.either;
      parsed = c.one_answer.ensures.refused;
      typed = c.answers_are_one.ensures.typed;
      apart = c.answers_are_one.ensures.either;
      refused = c.answers_are_one.ensures.refused;
      listings = listings;
      images = images;
      audits = c.an_audit_has_one_text.ensures.one;
    } in
    run_means_plain laws
