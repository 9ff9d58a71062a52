use Rattle.std.proofs.Common.{List, refl, sym, ap, subst, ◌∙◌, arith}
use Rattle.std.specs.Prelude.{◌<◌, All}
use Rattle.mdb_base.specs.declared.names.Tid.{Tid}
use Rattle.mdb_base.specs.Words.{Each}
use Rattle.fed_rules.specs.declared.records.CoordRecord.{CoordRecord}
use Rattle.journal_disk.specs.Disk.{reads}
use Rattle.journal_disk.proofs.ForCallers.{at_most}
use Rattle.frame_journal.specs.Journal.{records}
use Rattle.coord_core.specs.Found.{found_disk}
use Rattle.coord_core.proofs.CalledLaws.{takes_failed}
use Rattle.coord_core.proofs.FoundDisks.{disk_found}
use Rattle.coord_core.proofs.FoundPasts.{found_kept}
use Rattle.coord_core.proofs.Opened.{attempts_small, cause_on, stands_opened}
use Rattle.coord_core.proofs.coord.CoordCore.reopen.Goals as goal
use Rattle.coord_tables.specs.Found.{attempts_in, found_attempts}

pub found-requires-clause-found : goal.found-requires-clause-found
found-requires-clause-found g c =
    let s = c.requires.found in
    let o = disk_found _ s.0 s.1.stands in
    (o.0, found_disk s.0, o.1)

pub begun_by-requires : goal.begun_by-requires
begun_by-requires g c =
    let s = c.requires.found in
    let o = disk_found _ s.0 s.1.stands in
    let kept = c.in_ok-store.ensures.keeps o.0 (found_disk s.0) o.1 in
    subst (λ (rs : List CoordRecord). All (λ (r : CoordRecord). Each (λ (tid : Tid). tid.attempt < 32) (attempts_in r)) rs) (sym c.records.ensures) (attempts_small (records c.in_ok-store.store.journal) kept.are_records)

pub returns-in_err-store-clause-cause : goal.returns-in_err-store-clause-cause
returns-in_err-store-clause-cause g c =
    cause_on (g.D.Disk.seen c.args.disk.now).faults (g.D.Disk.seen c.found.new.disk).faults c.from_residual.result c.in_err-store.field-0.0 c.from_residual.ensures c.in_err-store.ensures.cause

pub returns-in_err-store-clause-called : goal.returns-in_err-store-clause-called
returns-in_err-store-clause-called g c =
    let before = g.D.Disk.seen c.args.disk.now in
    takes_failed (reads before.size) before (g.D.Disk.seen c.found.new.disk) c.from_residual.result c.from_residual.ensures.0 c.in_err-store.ensures.called.failed

pub returns-in_default-clause-called : goal.returns-in_default-clause-called
returns-in_default-clause-called g c =
    let before = g.D.Disk.seen c.args.disk.now in
    let few = at_most (reads before.size) (reads before.size) before (g.D.Disk.seen c.found.new.disk) (omega arith) c.in_ok-store.ensures.called.done in
    record { done = tt; failed = few }

pub returns-in_default-new-clause-called : goal.returns-in_default-new-clause-called
returns-in_default-new-clause-called g c =
    let before = g.D.Disk.seen c.args.disk.now in
    let few = at_most (reads before.size) (reads before.size) before (g.D.Disk.seen c.found.new.disk) (omega arith) c.in_ok-store.ensures.called.done in
    record { done = tt; failed = few }

pub returns-clause-stands : goal.returns-clause-stands
returns-clause-stands g c journal f =
    let o = disk_found _ journal f.stands in
    let kept = found_kept c.in_ok-store.store c.args.protocols journal o.0 (c.in_ok-store.ensures.keeps o.0 (found_disk journal) o.1) in
    stands_opened (g.D.Disk.seen c.args.disk.now).image c.args.protocols journal c.len.ensures.rising f g.P.TakePolicy.policy g.D.Disk.tells
    (record { protocols = c.args.protocols; policy = c.args.policy; tables = c.in-Ok-new.tables; begun = c.in-Ok.begun; store = c.in_ok-store.store }) (g.D.Disk.seen c.found.new.disk)
    c.requires.sites refl kept c.in_ok-store.ensures.down (λ tx. c.in-Ok.ensures tx ∙ ap (found_attempts tx) c.records.ensures)
