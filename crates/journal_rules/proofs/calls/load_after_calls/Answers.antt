use Rattle.std.proofs.Common.{◌≡◌, ℕ, IsTrue, arith, ◌∙◌, sym, subst}
use Rattle.std.proofs.lemmas.List.{nil_from_length}
use Rattle.std.proofs.lemmas.Result.{on_ok_weaker}
use Rattle.journal_disk.specs.Disk.{HasCalled, Image, reads}
use Rattle.journal_disk.proofs.ForCallers.{calls_add}
use Rattle.frame_journal.specs.Journal.{Kept}
use Rattle.frame_journal.proofs.ForCallers.{all_last, new_is_kept, on_ok}
use Rattle.journal_rules.specs.Calls.{MayBeMade, NoneFailed, bytes_after, disk_after, made_calls}
use Rattle.journal_rules.specs.Stands.{StandsFor}
use Rattle.journal_rules.proofs.Journals.{ok_is_no_err}
use Rattle.journal_rules.proofs.Making.{entries_stand, loaded_is, makes_all, makes_none, makes_one, none_within, risen_within, standing_entries}
use Rattle.journal_rules.proofs.calls.load_after_calls.Goals as goal

pub loop-calls-init : goal.loop-calls-init
loop-calls-init g c =
    let seen = g.D.Disk.seen c.args.disk.now in
    record {
      kept_on = rw c.new-journal.ensures (new_is_kept g.F.Format.spelling g.D.Disk.tells seen c.requires.empty (λ told. nil_from_length seen.image.bytes (omega (arith, g.met.D.Disk.told_size c.args.disk.now told, c.requires.empty))));
      may = c.requires.may;
      later = omega arith;
      makes = λ told none.
          let size = g.met.D.Disk.told_size c.args.disk.now told in
          makes_none g.F.Format.spelling g.F.Format.is_record g.F.Format.frame_bytes g.met.F.Format.counts_frames seen c.args.calls.items (omega (arith, size, c.requires.empty)) (g.met.D.Disk.is_sound c.args.disk.now told);
    }

pub make_call-requires-clause-may : goal.make_call-requires-clause-may
make_call-requires-clause-may g c =
    let may = rw c.take_last-call.ensures.items at c.loop-calls.invariant.may in
    (all_last (MayBeMade g.F.Format.spelling g.F.Format.in_range g.F.Format.is_checkpoint) c.take_last-call.new.self.items c.take_last-call.result may).1

pub loop-calls-preserved : goal.loop-calls-preserved
loop-calls-preserved g c =
    let may = rw c.take_last-call.ensures.items at c.loop-calls.invariant.may in
    let i = c.loop-calls.invariant in
    let m = c.make_call.ensures in
    let start = g.D.Disk.seen c.args.disk.now in
    let old = g.D.Disk.seen c.loop-calls.disk in
    let new = g.D.Disk.seen c.make_call.new.disk in
    record {
      kept_on = m.kept_on;
      may = (all_last (MayBeMade g.F.Format.spelling g.F.Format.in_range g.F.Format.is_checkpoint) c.take_last-call.new.self.items c.take_last-call.result may).0;
      later = omega (arith, i.later, m.later);
      makes = λ told none.
          let before : NoneFailed start.faults old.faults = none_within start.faults start.faults old.faults new.faults (omega arith) i.later m.later none in
          let here : NoneFailed old.faults new.faults = none_within start.faults old.faults new.faults new.faults i.later m.later (omega arith) none in
          makes_one g.F.Format.spelling g.F.Format.is_record g.F.Format.frame_bytes g.met.F.Format.counts_frames start old new c.args.calls.items c.loop-calls.calls.items c.take_last-call.new.self.items c.take_last-call.result
          c.take_last-call.ensures.items (i.makes told before) (c.in_ok-make_call.ensures.follows told here);
    }

pub returns-clause-records : goal.returns-clause-records
returns-clause-records g c = λ at fails told.
    let entries = c.loop-calls.journal.entries in
    let loads = rw fails at (c.load.ensures.again told entries c.records-written.ensures.are_records (c.loop-calls.invariant.kept_on.records told)) in
    ok_is_no_err entries at loads

pub returns-clause-undamaged : goal.returns-clause-undamaged
returns-clause-undamaged g c = λ at fails told.
    rw fails at (c.load.ensures.again told c.loop-calls.journal.entries c.records-written.ensures.are_records (c.loop-calls.invariant.kept_on.records told))

pub returns-clause-failed : goal.returns-clause-failed
returns-clause-failed g c = λ fails.
    let cause = c.load.ensures.cause in
    risen_within (g.D.Disk.seen c.args.disk.now).faults (g.D.Disk.seen c.loop-calls.disk).faults (g.D.Disk.seen c.load.new.disk).faults c.loop-calls.invariant.later cause.later (cause.failed fails)

pub returns-clause-loaded : goal.returns-clause-loaded
returns-clause-loaded g c =
    let size = g.F.Format.frame_bytes in
    let i = c.loop-calls.invariant in
    let cause = c.load.ensures.cause in
    let start = g.D.Disk.seen c.args.disk.now in
    let last = g.D.Disk.seen c.loop-calls.disk in
    let new = g.D.Disk.seen c.load.new.disk in
    let entries = standing_entries g.F.Format.spelling g.F.Format.is_record size g.met.F.Format.counts_frames (disk_after size c.args.calls.items) in
    loaded_is (λ (journal : Kept g.row.R.Denot). journal.entries) c.load.result entries
    (λ told none.
    let before : NoneFailed start.faults last.faults = none_within start.faults start.faults last.faults new.faults (omega arith) i.later cause.later none in
    let all = makes_all g.F.Format.spelling g.F.Format.is_record size g.met.F.Format.counts_frames start last c.args.calls.items c.loop-calls.calls.items (i.makes told before) (omega (arith, c.loop-calls-test.false)) in
    let stand = entries_stand g.F.Format.spelling g.F.Format.is_record size g.met.F.Format.counts_frames last.image (disk_after size c.args.calls.items) all.1 in
    c.load.ensures.again told entries stand.0 stand.1)

pub returns-clause-called : goal.returns-clause-called
returns-clause-called g c =
    let size = g.F.Format.frame_bytes in
    let i = c.loop-calls.invariant in
    let cause = c.load.ensures.cause in
    let start = g.D.Disk.seen c.args.disk.now in
    let last = g.D.Disk.seen c.loop-calls.disk in
    let new = g.D.Disk.seen c.load.new.disk in
    on_ok_weaker c.load.result
    (λ read told none.
    let before : NoneFailed start.faults last.faults = none_within start.faults start.faults last.faults new.faults (omega arith) i.later cause.later none in
    let all = makes_all g.F.Format.spelling g.F.Format.is_record size g.met.F.Format.counts_frames start last c.args.calls.items c.loop-calls.calls.items (i.makes told before) (omega (arith, c.loop-calls-test.false)) in
    calls_add (made_calls size c.args.calls.items) (reads new.size) start last new all.2 (subst (λ (n : ℕ). HasCalled (reads n) last new) (sym c.load.ensures.size) read))
    c.load.ensures.called.done

pub returns-clause-image : goal.returns-clause-image
returns-clause-image g c =
    let size = g.F.Format.frame_bytes in
    let i = c.loop-calls.invariant in
    let cause = c.load.ensures.cause in
    let start = g.D.Disk.seen c.args.disk.now in
    let last = g.D.Disk.seen c.loop-calls.disk in
    let new = g.D.Disk.seen c.load.new.disk in
    on_ok c.load.result (IsTrue g.D.Disk.tells → NoneFailed start.faults new.faults → new.image ≡ bytes_after g.F.Format.spelling size c.args.calls.items)
    (λ told none.
    let before : NoneFailed start.faults last.faults = none_within start.faults start.faults last.faults new.faults (omega arith) i.later cause.later none in
    let all = makes_all g.F.Format.spelling g.F.Format.is_record size g.met.F.Format.counts_frames start last c.args.calls.items c.loop-calls.calls.items (i.makes told before) (omega (arith, c.loop-calls-test.false)) in
    c.load.ensures.image told ∙ all.0)

pub returns-clause-stands : goal.returns-clause-stands
returns-clause-stands g c =
    let size = g.F.Format.frame_bytes in
    let i = c.loop-calls.invariant in
    let cause = c.load.ensures.cause in
    let start = g.D.Disk.seen c.args.disk.now in
    let last = g.D.Disk.seen c.loop-calls.disk in
    let new = g.D.Disk.seen c.load.new.disk in
    on_ok c.load.result (IsTrue g.D.Disk.tells → NoneFailed start.faults new.faults → StandsFor g.F.Format.spelling size new.image (disk_after size c.args.calls.items))
    (λ told none.
    let before : NoneFailed start.faults last.faults = none_within start.faults start.faults last.faults new.faults (omega arith) i.later cause.later none in
    let all = makes_all g.F.Format.spelling g.F.Format.is_record size g.met.F.Format.counts_frames start last c.args.calls.items c.loop-calls.calls.items (i.makes told before) (omega (arith, c.loop-calls-test.false)) in
    subst (λ (image : Image). StandsFor g.F.Format.spelling size image (disk_after size c.args.calls.items)) (sym (c.load.ensures.image told)) all.1.stands)
