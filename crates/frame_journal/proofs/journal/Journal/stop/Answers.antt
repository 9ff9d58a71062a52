use Rattle.std.proofs.Common.{refl, sym, ap, subst, length, arith}
use Rattle.std.specs.List.{AllByRecursion}
use Rattle.frame_journal.specs.Records.{entries_of, entry_frame, values}
use Rattle.frame_journal.proofs.Entries.{length-entries, values_of}
use Rattle.frame_journal.proofs.Within.{right_within, values_within, within_fewer, within_fits}
use Rattle.frame_journal.proofs.Keeping.{stop_keeps}
use Rattle.frame_journal.proofs.journal.Journal.stop.Goals as goal

pub invariant_of-self : goal.invariant_of-self
invariant_of-self g c =
    let k = c.keep_within-self-inside.ensures in
    let i = c.self.invariant in
    let shape = entry_frame g.F.Format.spelling in
    let j = c.self.inside in
    let entries = entries_of j.versions.items j.records.items in
    let vs = c.keep_within-self-inside.new.versions.items in
    let rs = c.keep_within-self-inside.new.records.items in
    let old = subst (AllByRecursion g.F.Format.is_record) (sym (values_of j.versions.items j.records.items i.side_by_side)) i.are_records in
    let kept = subst (λ es. AllByRecursion g.F.Format.is_record (values es)) (sym k.records) (values_within g.F.Format.is_record shape c.len-left.result entries old) in
    let fewer = within_fewer shape c.len-left.result entries in
    record {
      are_records = subst (AllByRecursion g.F.Format.is_record) (values_of vs rs k.side_by_side) kept;
      side_by_side = k.side_by_side;
      are_right = rw k.records (right_within shape c.len-left.result entries i.are_right);
      sized = k.whole;
      has_places = rw k.room (omega (arith, length-entries vs rs k.side_by_side, ap length k.records, fewer, length-entries j.versions.items j.records.items i.side_by_side, i.has_places));
      has_versions = rw k.versions (omega (arith, length-entries vs rs k.side_by_side, ap length k.records, fewer, length-entries j.versions.items j.records.items i.side_by_side, i.has_versions));
      has_bytes = i.has_bytes;
    }

pub returns-clause-count : goal.returns-clause-count
returns-clause-count g c =
    let k = c.keep_within-self-inside.ensures in
    omega (arith, c.len.ensures, ap length (values_of c.keep_within-self-inside.new.versions.items c.keep_within-self-inside.new.records.items k.side_by_side))

pub returns-clause-are_records : goal.returns-clause-are_records
returns-clause-are_records g c =
    let k = c.keep_within-self-inside.ensures in
    let i = c.self.invariant in
    let j = c.self.inside in
    let old = subst (AllByRecursion g.F.Format.is_record) (sym (values_of j.versions.items j.records.items i.side_by_side)) i.are_records in
    rw k.records (values_within g.F.Format.is_record (entry_frame g.F.Format.spelling) c.len-left.result (entries_of j.versions.items j.records.items) old)

pub returns-clause-kept_on : goal.returns-clause-kept_on
returns-clause-kept_on g c =
    let kept = rw (← c.self.view_is) at c.requires in
    let k = c.keep_within-self-inside.ensures in
    let shape = entry_frame g.F.Format.spelling in
    let j = c.self.inside in
    let entries = entries_of j.versions.items j.records.items in
    let old = g.D.Disk.seen c.args.disk.now in
    let new = g.D.Disk.seen c.stop.new.self in
    let left = rw c.len-left.ensures at k.records in
    record {
      records = λ told. stop_keeps shape old.image new.image entries (entries_of c.keep_within-self-inside.new.versions.items c.keep_within-self-inside.new.records.items) c.args.cut new.size (kept.records told) (c.stop.ensures.image told) (g.met.D.Disk.told_size c.stop.new.self told) left;
      whole = rw left (within_fits shape new.size entries);
      is_torn = rw (c.len-left.ensures, k.whole) refl;
      room = omega (arith, c.stop.ensures.spare, kept.room);
    }
