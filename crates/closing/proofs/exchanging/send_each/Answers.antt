use Rattle.std.proofs.Common.{map, take, get_or, sym, ◌∙◌, subst}
use Rattle.std.proofs.lemmas.List.{take_all}
use Rattle.std.proofs.lemmas.Result.{err_from_is_err_and}
use Rattle.mdb_base.specs.declared.names.Tid.{Tid}
use Rattle.fed_world.specs.Worlds.{Stands}
use Rattle.fed_rules.specs.Closing as rules
use Rattle.closing.specs.Steps.{sent_for}
use Rattle.fed_world.proofs.ForCallers.{failed_later}
use Rattle.closing.proofs.Grows.{send_again_grows}
use Rattle.closing.proofs.Loops.{each_extends, each_more, next_begins, room_for}
use Rattle.closing.proofs.Towards.{fails_within}
use Rattle.closing.proofs.exchanging.send_each.Goals as goal

-- some item
abbrev none : Tid
none = record { tx = record { 0 = 0 }; attempt = 0 }

pub send_again-requires-clause-stood : goal.send_again-requires-clause-stood
send_again-requires-clause-stood g c =
    let r = c.requires.stood in
    let items = c.args.tids.now in
    let i = c.loop-tid.tid-index in
    record {
      session = r.session;
      commands = sent_for (take i items) r.session r.commands;
      stood = c.loop-tid.invariant.stands r.session r.commands r.stood r.holds;
      holds = room_for (rules.send_again r.session) (send_again_grows r.session) r.session items i none r.commands c.loop-tid-test.true r.holds;
    }

pub returns-in_err-send_again-clause-failed : goal.returns-in_err-send_again-clause-failed
returns-in_err-send_again-clause-failed g c =
    let p = err_from_is_err_and c.from_residual.result c.from_residual.ensures.1 in
    rw (p.1, p.2) (λ session before s fits.
    let items = c.args.tids.now in
    let i = c.loop-tid.tid-index in
    let add = rules.send_again session in
    let grows = send_again_grows session in
    let mid = sent_for (take i items) session before in
    fails_within g.D.Disk.seen g.D.Disk.tells c.send_again.new.world (map g.D.Disk.seen c.send_again.new.disks.items) session c.in_err-send_again.field-0.0 (sent_for items session before) (add (get_or items i none) mid) mid before
    (next_begins add grows items i none before c.loop-tid-test.true) (each_extends add grows (take i items) before)
    _ _ c.loop-tid.invariant.calm (c.in_err-send_again.ensures.failed session mid (c.loop-tid.invariant.stands session before s fits) (room_for add grows session items i none before c.loop-tid-test.true fits)))

pub returns-in_err-send_again-clause-cause : goal.returns-in_err-send_again-clause-cause
returns-in_err-send_again-clause-cause g c =
    let p = err_from_is_err_and c.from_residual.result c.from_residual.ensures.1 in
    rw (p.1, p.2) (failed_later c.in_err-send_again.field-0.0 _ _ _ c.loop-tid.invariant.calm c.in_err-send_again.ensures.cause)

pub loop-tid-preserved : goal.loop-tid-preserved
loop-tid-preserved g c =
    let items = c.args.tids.now in
    let i = c.loop-tid.tid-index in
    record {
      stands = λ session before s fits.
          subst (λ more. Stands g.D.Disk.tells c.send_again.new.world (map g.D.Disk.seen c.send_again.new.disks.items) session more) (sym (each_more (rules.send_again session) items i none before c.loop-tid-test.true))
          (c.in_ok-send_again.ensures.done session (sent_for (take i items) session before) (c.loop-tid.invariant.stands session before s fits) (room_for (rules.send_again session) (send_again_grows session) session items i none before c.loop-tid-test.true fits));
      calm = c.in_ok-send_again.ensures.cause ∙ c.loop-tid.invariant.calm;
    }

pub returns-clause-done : goal.returns-clause-done
returns-clause-done g c session before s fits =
    subst (λ xs. Stands g.D.Disk.tells c.loop-tid.world (map g.D.Disk.seen c.loop-tid.disks.items) session (sent_for xs session before)) (take_all c.loop-tid.tid-index c.args.tids.now c.loop-tid-test.false)
    (c.loop-tid.invariant.stands session before s fits)
