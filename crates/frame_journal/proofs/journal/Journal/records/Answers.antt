use Rattle.std.proofs.Common.{sym, subst, ◌∙◌}
use Rattle.std.specs.List.{AllByRecursion}
use Rattle.frame_journal.proofs.Entries.{values_of}
use Rattle.frame_journal.proofs.journal.Journal.records.Goals as goal

pub returns-clause-records : goal.returns-clause-records
returns-clause-records g c =
    let j = c.self.inside in
    rw (← c.self.view_is) (c.as_slice.ensures.value ∙ sym (values_of j.versions.items j.records.items c.self.invariant.side_by_side))

pub returns-clause-are_records : goal.returns-clause-are_records
returns-clause-are_records g c =
    let j = c.self.inside in
    rw (← c.self.view_is) (subst (AllByRecursion g.F.Format.is_record) (sym (values_of j.versions.items j.records.items c.self.invariant.side_by_side)) c.self.invariant.are_records)
