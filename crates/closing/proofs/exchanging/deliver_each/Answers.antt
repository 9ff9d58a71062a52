use Rattle.std.proofs.Common.{map, take, get_or, sym, ◌∙◌, subst}
use Rattle.std.proofs.lemmas.List.{take_all}
use Rattle.std.proofs.lemmas.Result.{err_from_is_err_and}
use Rattle.fed_rules.specs.declared.commands.Place.{Place}
use Rattle.fed_world.specs.Worlds.{Stands}
use Rattle.fed_rules.specs.Closing as rules
use Rattle.closing.specs.Steps.{deliver_all}
use Rattle.fed_world.proofs.ForCallers.{failed_later}
use Rattle.closing.proofs.Grows.{deliver_grows}
use Rattle.closing.proofs.Loops.{each_extends, each_more, next_begins, room_for}
use Rattle.closing.proofs.Towards.{fails_within}
use Rattle.closing.proofs.exchanging.deliver_each.Goals as goal

-- some item
abbrev none : Place
none = record { site = record { 0 = 0 }; place = 0 }

pub deliver-requires-clause-stood : goal.deliver-requires-clause-stood
deliver-requires-clause-stood g c =
    let r = c.requires.stood in
    let items = c.args.places.now in
    let i = c.loop-place.place-index in
    record {
      session = r.session;
      commands = deliver_all (take i items) r.session r.commands;
      stood = c.loop-place.invariant.stands r.session r.commands r.stood r.holds;
      holds = room_for (rules.deliver r.session) (deliver_grows r.session) r.session items i none r.commands c.loop-place-test.true r.holds;
    }

pub returns-in_err-deliver-clause-failed : goal.returns-in_err-deliver-clause-failed
returns-in_err-deliver-clause-failed g c =
    let p = err_from_is_err_and c.from_residual.result c.from_residual.ensures.1 in
    rw (p.1, p.2) (λ session before s fits.
    let items = c.args.places.now in
    let i = c.loop-place.place-index in
    let add = rules.deliver session in
    let grows = deliver_grows session in
    let mid = deliver_all (take i items) session before in
    fails_within g.D.Disk.seen g.D.Disk.tells c.deliver.new.world (map g.D.Disk.seen c.deliver.new.disks.items) session c.in_err-deliver.field-0.0 (deliver_all items session before) (add (get_or items i none) mid) mid before
    (next_begins add grows items i none before c.loop-place-test.true) (each_extends add grows (take i items) before)
    _ _ c.loop-place.invariant.calm (c.in_err-deliver.ensures.failed session mid (c.loop-place.invariant.stands session before s fits) (room_for add grows session items i none before c.loop-place-test.true fits)))

pub returns-in_err-deliver-clause-cause : goal.returns-in_err-deliver-clause-cause
returns-in_err-deliver-clause-cause g c =
    let p = err_from_is_err_and c.from_residual.result c.from_residual.ensures.1 in
    rw (p.1, p.2) (failed_later c.in_err-deliver.field-0.0 _ _ _ c.loop-place.invariant.calm c.in_err-deliver.ensures.cause)

pub loop-place-preserved : goal.loop-place-preserved
loop-place-preserved g c =
    let items = c.args.places.now in
    let i = c.loop-place.place-index in
    record {
      stands = λ session before s fits.
          subst (λ more. Stands g.D.Disk.tells c.deliver.new.world (map g.D.Disk.seen c.deliver.new.disks.items) session more) (sym (each_more (rules.deliver session) items i none before c.loop-place-test.true))
          (c.in_ok-deliver.ensures.done session (deliver_all (take i items) session before) (c.loop-place.invariant.stands session before s fits) (room_for (rules.deliver session) (deliver_grows session) session items i none before c.loop-place-test.true fits));
      calm = c.in_ok-deliver.ensures.cause ∙ c.loop-place.invariant.calm;
    }

pub returns-clause-done : goal.returns-clause-done
returns-clause-done g c session before s fits =
    subst (λ xs. Stands g.D.Disk.tells c.loop-place.world (map g.D.Disk.seen c.loop-place.disks.items) session (deliver_all xs session before)) (take_all c.loop-place.place-index c.args.places.now c.loop-place-test.false)
    (c.loop-place.invariant.stands session before s fits)
