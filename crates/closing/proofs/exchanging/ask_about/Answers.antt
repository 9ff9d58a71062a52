use Rattle.std.proofs.Common.{map, take, get_or, sym, ◌∙◌, subst}
use Rattle.std.proofs.lemmas.List.{take_all}
use Rattle.std.proofs.lemmas.Result.{err_from_is_err_and}
use Rattle.mdb_base.specs.declared.names.Tid.{Tid}
use Rattle.fed_world.specs.Worlds.{Stands}
use Rattle.fed_rules.specs.Closing as rules
use Rattle.closing.specs.Steps.{asks_about}
use Rattle.fed_world.proofs.ForCallers.{failed_later}
use Rattle.closing.proofs.Grows.{inquire_grows}
use Rattle.closing.proofs.Loops.{each_extends, each_more, next_begins, room_for}
use Rattle.closing.proofs.Towards.{fails_within}
use Rattle.closing.proofs.exchanging.ask_about.Goals as goal

-- some item
abbrev none : Tid
none = record { tx = record { 0 = 0 }; attempt = 0 }

pub inquire-requires-clause-stood : goal.inquire-requires-clause-stood
inquire-requires-clause-stood g c =
    let r = c.requires.stood in
    let items = c.args.tids.now in
    let i = c.loop-tid.tid-index in
    record {
      session = r.session;
      commands = asks_about c.args.site (take i items) r.session r.commands;
      stood = c.loop-tid.invariant.stands r.session r.commands r.stood r.holds;
      holds = room_for (rules.inquire r.session c.args.site) (inquire_grows r.session c.args.site) r.session items i none r.commands c.loop-tid-test.true r.holds;
    }

pub returns-in_err-inquire-clause-failed : goal.returns-in_err-inquire-clause-failed
returns-in_err-inquire-clause-failed g c =
    let p = err_from_is_err_and c.from_residual.result c.from_residual.ensures.1 in
    rw (p.1, p.2) (λ session before s fits.
    let items = c.args.tids.now in
    let i = c.loop-tid.tid-index in
    let add = rules.inquire session c.args.site in
    let grows = inquire_grows session c.args.site in
    let mid = asks_about c.args.site (take i items) session before in
    fails_within g.D.Disk.seen g.D.Disk.tells c.inquire.new.world (map g.D.Disk.seen c.inquire.new.disks.items) session c.in_err-inquire.field-0.0 (asks_about c.args.site items session before) (add (get_or items i none) mid) mid before
    (next_begins add grows items i none before c.loop-tid-test.true) (each_extends add grows (take i items) before)
    _ _ c.loop-tid.invariant.calm (c.in_err-inquire.ensures.failed session mid (c.loop-tid.invariant.stands session before s fits) (room_for add grows session items i none before c.loop-tid-test.true fits)))

pub returns-in_err-inquire-clause-cause : goal.returns-in_err-inquire-clause-cause
returns-in_err-inquire-clause-cause g c =
    let p = err_from_is_err_and c.from_residual.result c.from_residual.ensures.1 in
    rw (p.1, p.2) (failed_later c.in_err-inquire.field-0.0 _ _ _ c.loop-tid.invariant.calm c.in_err-inquire.ensures.cause)

pub loop-tid-preserved : goal.loop-tid-preserved
loop-tid-preserved g c =
    let items = c.args.tids.now in
    let i = c.loop-tid.tid-index in
    record {
      stands = λ session before s fits.
          subst (λ more. Stands g.D.Disk.tells c.inquire.new.world (map g.D.Disk.seen c.inquire.new.disks.items) session more) (sym (each_more (rules.inquire session c.args.site) items i none before c.loop-tid-test.true))
          (c.in_ok-inquire.ensures.done session (asks_about c.args.site (take i items) session before) (c.loop-tid.invariant.stands session before s fits) (room_for (rules.inquire session c.args.site) (inquire_grows session c.args.site) session items i none before c.loop-tid-test.true fits));
      calm = c.in_ok-inquire.ensures.cause ∙ c.loop-tid.invariant.calm;
    }

pub returns-clause-done : goal.returns-clause-done
returns-clause-done g c session before s fits =
    subst (λ xs. Stands g.D.Disk.tells c.loop-tid.world (map g.D.Disk.seen c.loop-tid.disks.items) session (asks_about c.args.site xs session before)) (take_all c.loop-tid.tid-index c.args.tids.now c.loop-tid-test.false)
    (c.loop-tid.invariant.stands session before s fits)
