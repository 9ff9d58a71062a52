use Rattle.std.proofs.Common.{List, map, take, get_or, sym, ◌∙◌, subst}
use Rattle.std.proofs.lemmas.List.{take_all}
use Rattle.std.proofs.lemmas.Result.{err_from_is_err_and}
use Rattle.closing.specs.declared.actors.SiteTids.{SiteTids}
use Rattle.fed_world.specs.Worlds.{Stands}
use Rattle.fed_rules.specs.declared.commands.Command.{Command}
use Rattle.fed_rules.specs.Sessions.{Session}
use Rattle.fed_rules.specs.Closing as rules
use Rattle.fed_rules.specs.Closing.{for_each}
use Rattle.closing.specs.Steps.{asks_about, asks_all}
use Rattle.closing.specs.Towards.{FailsToward, Fits}
use Rattle.fed_world.proofs.ForCallers.{failed_later}
use Rattle.closing.proofs.Grows.{inquire_grows}
use Rattle.closing.proofs.Loops.{each_extends, each_more, next_begins, room_for}
use Rattle.closing.proofs.Towards.{Extends, fails_within}
use Rattle.closing.proofs.exchanging.ask_each.Goals as goal

-- what one site asks
abbrev add_at : Session → SiteTids → List Command → List Command
add_at session at = for_each (rules.inquire session at.site) at.tids.items

grows_at : (session : Session) (at : SiteTids) (commands : List Command) → Extends (add_at session at commands) commands
grows_at session at commands = each_extends (rules.inquire session at.site) (inquire_grows session at.site) at.tids.items commands

pub ask_about-requires-clause-stood : goal.ask_about-requires-clause-stood
ask_about-requires-clause-stood g c =
    let r = c.requires.stood in
    let items = c.args.sites.now in
    let i = c.loop-at.at-index in
    record {
      session = r.session;
      commands = asks_all (take i items) r.session r.commands;
      stood = c.loop-at.invariant.stands r.session r.commands r.stood r.holds;
      holds = subst (λ tids. Fits r.session (asks_about c.at-item.result.site tids r.session (asks_all (take i items) r.session r.commands))) (sym c.as_slice.ensures.value)
          (subst (λ (at : SiteTids). Fits r.session (add_at r.session at (asks_all (take i items) r.session r.commands))) (sym c.at-item.is) (room_for (add_at r.session) (grows_at r.session) r.session items i c.at-item.result r.commands c.loop-at-test.true r.holds));
    }

pub returns-in_err-ask_about-clause-failed : goal.returns-in_err-ask_about-clause-failed
returns-in_err-ask_about-clause-failed g c =
    let p = err_from_is_err_and c.from_residual.result c.from_residual.ensures.1 in
    rw (p.1, p.2) (λ session before s fits.
    let items = c.args.sites.now in
    let i = c.loop-at.at-index in
    let add = add_at session in
    let grows = grows_at session in
    let mid = asks_all (take i items) session before in
    fails_within g.D.Disk.seen g.D.Disk.tells c.ask_about.new.world (map g.D.Disk.seen c.ask_about.new.disks.items) session c.in_err-ask_about.field-0.0 (asks_all items session before) (add (get_or items i c.at-item.result) mid) mid before
    (next_begins add grows items i c.at-item.result before c.loop-at-test.true) (each_extends add grows (take i items) before)
    _ _ c.loop-at.invariant.calm (subst (λ (at : SiteTids). FailsToward g.D.Disk.seen g.D.Disk.tells c.in_err-ask_about.field-0.0 (map g.D.Disk.seen c.loop-at.disks.items) c.ask_about.new.world (map g.D.Disk.seen c.ask_about.new.disks.items) (add at mid) session mid) c.at-item.is
    (subst (λ tids. FailsToward g.D.Disk.seen g.D.Disk.tells c.in_err-ask_about.field-0.0 (map g.D.Disk.seen c.loop-at.disks.items) c.ask_about.new.world (map g.D.Disk.seen c.ask_about.new.disks.items) (asks_about c.at-item.result.site tids session mid) session mid) c.as_slice.ensures.value
    (c.in_err-ask_about.ensures.failed session mid (c.loop-at.invariant.stands session before s fits)
    (subst (λ tids. Fits session (asks_about c.at-item.result.site tids session mid)) (sym c.as_slice.ensures.value)
    (subst (λ (at : SiteTids). Fits session (add at mid)) (sym c.at-item.is) (room_for add grows session items i c.at-item.result before c.loop-at-test.true fits)))))))

pub returns-in_err-ask_about-clause-cause : goal.returns-in_err-ask_about-clause-cause
returns-in_err-ask_about-clause-cause g c =
    let p = err_from_is_err_and c.from_residual.result c.from_residual.ensures.1 in
    rw (p.1, p.2) (failed_later c.in_err-ask_about.field-0.0 _ _ _ c.loop-at.invariant.calm c.in_err-ask_about.ensures.cause)

pub loop-at-preserved : goal.loop-at-preserved
loop-at-preserved g c =
    let items = c.args.sites.now in
    let i = c.loop-at.at-index in
    record {
      stands = λ session before s fits.
          subst (λ more. Stands g.D.Disk.tells c.ask_about.new.world (map g.D.Disk.seen c.ask_about.new.disks.items) session more) (sym (each_more (add_at session) items i c.at-item.result before c.loop-at-test.true))
          (let mid = asks_all (take i items) session before in
          subst (λ (at : SiteTids). Stands g.D.Disk.tells c.ask_about.new.world (map g.D.Disk.seen c.ask_about.new.disks.items) session (add_at session at mid)) c.at-item.is
          (subst (λ tids. Stands g.D.Disk.tells c.ask_about.new.world (map g.D.Disk.seen c.ask_about.new.disks.items) session (asks_about c.at-item.result.site tids session mid)) c.as_slice.ensures.value
          (c.in_ok-ask_about.ensures.done session mid (c.loop-at.invariant.stands session before s fits)
          (subst (λ tids. Fits session (asks_about c.at-item.result.site tids session mid)) (sym c.as_slice.ensures.value)
          (subst (λ (at : SiteTids). Fits session (add_at session at mid)) (sym c.at-item.is) (room_for (add_at session) (grows_at session) session items i c.at-item.result before c.loop-at-test.true fits))))));
      calm = c.in_ok-ask_about.ensures.cause ∙ c.loop-at.invariant.calm;
    }

pub returns-clause-done : goal.returns-clause-done
returns-clause-done g c session before s fits =
    subst (λ xs. Stands g.D.Disk.tells c.loop-at.world (map g.D.Disk.seen c.loop-at.disks.items) session (asks_all xs session before)) (take_all c.loop-at.at-index c.args.sites.now c.loop-at-test.false)
    (c.loop-at.invariant.stands session before s fits)
