use Rattle.std.proofs.Common.{List, ap, sym, subst, ◌∙◌, map, rules}
use Rattle.std.proofs.lemmas.Result.{err_from_is_err_and}
use Rattle.std.specs.List.{AllByRecursion}
use Rattle.journal_disk.specs.Frames.{Frame, frames_size}
use Rattle.frame_journal.specs.declared.journal.Journal.{Journal}
use Rattle.frame_journal.specs.Records.{entries_at, entry_frame, LoadFails}
use Rattle.frame_journal.proofs.Entries.{values_of}
use Rattle.frame_journal.proofs.Fronts.{same_whole, same_damaged, stops_before, not_both}
use Rattle.frame_journal.proofs.ReadOn.{records_again}
use Rattle.frame_journal.proofs.journal.Journal.load.Goals as goal

pub returns-in_err-records-clause-exact : goal.returns-in_err-records-clause-exact
returns-in_err-records-clause-exact g c = λ told found whole.
    let p = err_from_is_err_and c.from_residual-in_err-records.result c.from_residual-in_err-records.ensures.1 in
    let same = (same_whole (g.D.Disk.seen c.args.disk.now).image.bytes c.in_ok-frames.frames found c.in_ok-frames.is_damaged (c.in_ok-frames.ensures.front told) whole).0 in
    rw (p.1, p.2) (subst (λ (fs : List Frame). LoadFails c.in_err-records.field-0.0 (entries_at g.F.Format.reading 0 fs)) same c.in_err-records.ensures.read)

pub returns-in_err-records-clause-damaged : goal.returns-in_err-records-clause-damaged
returns-in_err-records-clause-damaged g c = λ told before damaged.
    let p = err_from_is_err_and c.from_residual-in_err-records.result c.from_residual-in_err-records.ensures.1 in
    let same = (same_damaged (g.D.Disk.seen c.args.disk.now).image.bytes c.in_ok-frames.frames before c.in_ok-frames.is_damaged (c.in_ok-frames.ensures.front told) damaged).0 in
    rw (p.1, p.2) (stops_before (Journal g.row.R.Denot g.row.F.Denot) (frames_size before) c.in_err-records.field-0.0 (entries_at g.F.Format.reading 0 before) (subst (λ (fs : List Frame). LoadFails c.in_err-records.field-0.0 (entries_at g.F.Format.reading 0 fs)) same c.in_err-records.ensures.read))

pub returns-in_err-records-clause-again : goal.returns-in_err-records-clause-again
returns-in_err-records-clause-again g c = λ told entries all holds.
    let again = records_again g.F.Format.spelling g.F.Format.reading g.F.Format.is_record g.met.F.Format.spelled_is_read 0 entries all in
    rw again at (returns-in_err-records-clause-exact g c told (map (entry_frame g.F.Format.spelling) entries) holds)

pub returns-then-is_damaged-clause-exact : goal.returns-then-is_damaged-clause-exact
returns-then-is_damaged-clause-exact g c = λ told found whole.
    let same = same_whole (g.D.Disk.seen c.args.disk.now).image.bytes c.in_ok-frames.frames found c.in_ok-frames.is_damaged (c.in_ok-frames.ensures.front told) whole in
    not_both c.in_ok-frames.is_damaged c.if-is_damaged.true same.1

pub returns-then-is_damaged-clause-damaged : goal.returns-then-is_damaged-clause-damaged
returns-then-is_damaged-clause-damaged g c = λ told before damaged.
    let same = same_damaged (g.D.Disk.seen c.args.disk.now).image.bytes c.in_ok-frames.frames before c.in_ok-frames.is_damaged (c.in_ok-frames.ensures.front told) damaged in
    let read = ap (entries_at g.F.Format.reading 0) (sym same.0) ∙ c.in_ok-records.ensures.read in
    (c.whole-whole.ensures ∙ ap frames_size same.0, rw read tt)

pub returns-then-is_damaged-clause-again : goal.returns-then-is_damaged-clause-again
returns-then-is_damaged-clause-again g c = λ told entries all holds. returns-then-is_damaged-clause-exact g c told (map (entry_frame g.F.Format.spelling) entries) holds

pub returns-clause-exact : goal.returns-clause-exact
returns-clause-exact g c = λ told found whole.
    let same = same_whole (g.D.Disk.seen c.args.disk.now).image.bytes c.in_ok-frames.frames found c.in_ok-frames.is_damaged (c.in_ok-frames.ensures.front told) whole in
    ap (entries_at g.F.Format.reading 0) (sym same.0) ∙ c.in_ok-records.ensures.read

pub returns-clause-damaged : goal.returns-clause-damaged
returns-clause-damaged g c = λ told before damaged.
    let same = same_damaged (g.D.Disk.seen c.args.disk.now).image.bytes c.in_ok-frames.frames before c.in_ok-frames.is_damaged (c.in_ok-frames.ensures.front told) damaged in
    not_both c.in_ok-frames.is_damaged same.1 (search rules)

pub returns-clause-again : goal.returns-clause-again
returns-clause-again g c = λ told entries all holds.
    let again = records_again g.F.Format.spelling g.F.Format.reading g.F.Format.is_record g.met.F.Format.spelled_is_read 0 entries all in
    sym again ∙ returns-clause-exact g c told (map (entry_frame g.F.Format.spelling) entries) holds

pub returns-clause-are_records : goal.returns-clause-are_records
returns-clause-are_records g c =
    subst (AllByRecursion g.F.Format.is_record) (sym (values_of c.in_ok-records.versions.items c.in_ok-records.records.items c.in_ok-records.ensures.side_by_side)) c.in_ok-records.ensures.are_records
