use Rattle.std.proofs.Common.{◌≤◌, refl, arith}
use Rattle.std.proofs.lemmas.Result.{on_ok_weaker, on_err_weaker}
use Rattle.frame_journal.specs.Records.{entry_frame, entries_of}
use Rattle.frame_journal.proofs.Keeping.{cut_image, cut_keeps, cut_size}
use Rattle.frame_journal.proofs.journal.Journal.cut.Goals as goal

pub returns-clause-ok : goal.returns-clause-ok
returns-clause-ok g c =
    let kept = rw (← c.self.view_is) at c.requires in
    let shape = entry_frame g.F.Format.spelling in
    let entries = entries_of c.self.inside.versions.items c.self.inside.records.items in
    rw (← c.self.view_is) (on_ok_weaker c.cut_back-outcome.result (λ e told. cut_image shape (g.D.Disk.seen c.args.disk.now).image (g.D.Disk.seen c.cut_back-outcome.new.self).image entries c.self.inside.whole (kept.records told) c.self.invariant.sized (e told)) c.cut_back-outcome.ensures.ok)

pub returns-clause-kept_on : goal.returns-clause-kept_on
returns-clause-kept_on g c =
    let kept = rw (← c.self.view_is) at c.requires in
    let shape = entry_frame g.F.Format.spelling in
    let entries = entries_of c.self.inside.versions.items c.self.inside.records.items in
    let r = c.cut_back-outcome.result in
    let e = c.cut_back-outcome.ensures in
    let within : c.self.inside.whole ≤ (g.D.Disk.seen c.args.disk.now).size = omega (arith, kept.whole, c.self.invariant.sized) in
    record {
      records = λ told. cut_keeps shape r (g.D.Disk.seen c.args.disk.now).image (g.D.Disk.seen c.cut_back-outcome.new.self).image entries c.self.inside.whole (kept.records told) c.self.invariant.sized (on_ok_weaker r (λ h. h told) e.ok) (on_err_weaker r (λ h. h told) e.err);
      whole = omega (arith, cut_size r (g.D.Disk.seen c.args.disk.now).size (g.D.Disk.seen c.cut_back-outcome.new.self).size c.self.inside.whole within e.size_ok e.size_err, c.self.invariant.sized);
      is_torn = rw (c.len.ensures, c.self.invariant.sized) refl;
      room = omega (arith, e.spare, kept.room);
    }
