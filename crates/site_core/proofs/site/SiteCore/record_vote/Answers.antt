use Rattle.std.proofs.Common.{ℕ, ◌+◌, None, refl, ap, ◌∙◌}
use Rattle.fed_rules.specs.declared.answers.Answer.TheVariants as Say
use Rattle.fed_rules.specs.declared.events.SiteEvent.TheVariants as Ev
use Rattle.fed_rules.specs.declared.events.SiteStep.{SiteStep}
use Rattle.fed_rules.specs.declared.messages.ToSite.TheVariants as To
use Rattle.fed_rules.specs.SitePast.{disk, engine_lines, epoch_start, trip}
use Rattle.journal_disk.proofs.ForCallers.{at_most_behind, calls_behind, none_at_most}
use Rattle.actor_store.proofs.ForCallers.{from_done, from_failed, from_kept, from_stopped, stop_behind}
use Rattle.site_core.specs.declared.site.SiteCore.{SiteCore}
use Rattle.site_core.specs.Stands.{calls_for}
use Rattle.site_core.proofs.SealingLaws.{unsealed_stands}
use Rattle.prepared_state.specs.Book.{doubt_about}
use Rattle.site_core.proofs.VoteLaws.{reserved_sealing, vote_done, vote_failed, vote_fits, vote_stopped}
use Rattle.site_core.proofs.site.SiteCore.record_vote.Goals as goal

pub frame_len-bytes-requires : goal.frame_len-bytes-requires
frame_len-bytes-requires g c =
    let m = c.requires.may in
    vote_fits g.E.LocalEngine.stands g.D.Disk.tells c.args.tid c.args.sealed c.args.self.now (g.D.Disk.seen c.args.disk.now) m.home m.past c.args.ticket m.stood c.requires.up

pub force-requires-clause-payload : goal.force-requires-clause-payload
force-requires-clause-payload g c =
    let m = c.requires.may in
    vote_fits g.E.LocalEngine.stands g.D.Disk.tells c.args.tid c.args.sealed c.args.self.now (g.D.Disk.seen c.args.disk.now) m.home m.past c.args.ticket m.stood c.requires.up

pub force-requires-clause-kept : goal.force-requires-clause-kept
force-requires-clause-kept g c =
    let m = c.requires.may in
    (m.stood.stood.stored.old, (disk m.home m.past, trip m.past, c.make_room.ensures.keeps _ _ _ m.stood.stood.stored.behind))

pub add-requires-clause-apart : goal.add-requires-clause-apart
add-requires-clause-apart g c = ap (doubt_about c.args.tid) c.reserve.ensures.doubts ∙ c.requires.apart

pub returns-in_default-clause-failed : goal.returns-in_default-clause-failed
returns-in_default-clause-failed g c = λ home past k may n finished.
    let core = c.args.self.now in
    let reserved : SiteCore _ = record core { doubts = c.reserve.new.self } in
    let ready = reserved_sealing g.E.LocalEngine.stands g.D.Disk.tells c.args.tid c.args.sealed core c.reserve.new.self (g.D.Disk.seen c.args.disk.now) home past c.requires.up c.reserve.ensures.doubts k in (
      unsealed_stands g.E.LocalEngine.stands g.D.Disk.tells c.args.tid c.args.sealed reserved _ (g.D.Disk.seen c.args.disk.now) (g.D.Disk.seen c.args.disk.now) home past ready c.requires.up
          k.stood.stored c.requires.up refl (c.unseal.ensures (epoch_start home past) (engine_lines past) c.args.sealed.number k.sealing),
      none_at_most (0 + calls_for home past (Ev.Give (To.Prepare c.args.tid core.epoch n))) (g.D.Disk.seen c.args.disk.now) (g.D.Disk.seen c.args.disk.now) refl,
    )

pub returns-in_default-make_room-clause-failed : goal.returns-in_default-make_room-clause-failed
returns-in_default-make_room-clause-failed g c = λ home past k may n finished.
    let core = c.args.self.now in
    let reserved : SiteCore _ = record core { doubts = c.reserve.new.self } in
    let ready = reserved_sealing g.E.LocalEngine.stands g.D.Disk.tells c.args.tid c.args.sealed core c.reserve.new.self (g.D.Disk.seen c.args.disk.now) home past c.requires.up c.reserve.ensures.doubts k in (
      unsealed_stands g.E.LocalEngine.stands g.D.Disk.tells c.args.tid c.args.sealed reserved _ (g.D.Disk.seen c.args.disk.now) (g.D.Disk.seen c.make_room.new.disk) home past ready c.requires.up
          (from_kept k.stood.stored (c.make_room.ensures.keeps _ _ _ k.stood.stored.behind)) (c.make_room.ensures.standing ∙ c.requires.up) refl
          (c.unseal-in_default-make_room.ensures (epoch_start home past) (engine_lines past) c.args.sealed.number k.sealing),
      none_at_most (0 + calls_for home past (Ev.Give (To.Prepare c.args.tid core.epoch n))) (g.D.Disk.seen c.args.disk.now) (g.D.Disk.seen c.make_room.new.disk) c.make_room.ensures.called,
    )

pub returns-in-Ok-force-clause-answered : goal.returns-in-Ok-force-clause-answered
returns-in-Ok-force-clause-answered g c = λ home past k may n finished.
    let core = c.args.self.now in
    let reserved : SiteCore _ = record core { doubts = c.reserve.new.self } in
    let ready = reserved_sealing g.E.LocalEngine.stands g.D.Disk.tells c.args.tid c.args.sealed core c.reserve.new.self (g.D.Disk.seen c.args.disk.now) home past c.requires.up c.reserve.ensures.doubts k in
    let absent = ap (doubt_about c.args.tid) c.reserve.ensures.doubts ∙ c.requires.apart in
    vote_done g.E.LocalEngine.stands g.D.Disk.tells c.args.tid c.args.sealed reserved _ c.votes_yes.result (g.D.Disk.seen c.args.disk.now) (g.D.Disk.seen c.force.new.disk) home past n c.args.ticket ready c.requires.up may.apart
    absent c.requires.ticket finished (from_done k.stood.stored (c.in-Ok-force.ensures.ends _ _ _ (c.make_room.ensures.keeps _ _ _ k.stood.stored.behind))) c.in-Ok-force.ensures.standing
    (ap (λ b. let new : SiteCore _ = record reserved { book = b; doubts = c.add.new.self; store = c.force.new.self } in new) c.seal.ensures) c.add.ensures.doubts c.votes_yes.ensures
    (calls_behind 2 (g.D.Disk.seen c.args.disk.now) (g.D.Disk.seen c.make_room.new.disk) (g.D.Disk.seen c.force.new.disk) c.make_room.ensures.called (c.in-Ok-force.ensures.called _ _ _ (c.make_room.ensures.keeps _ _ _ k.stood.stored.behind)))

pub returns-in-Err-Stopped-clause-answered : goal.returns-in-Err-Stopped-clause-answered
returns-in-Err-Stopped-clause-answered g c = λ home past k may n finished.
    let core = c.args.self.now in
    let reserved : SiteCore _ = record core { doubts = c.reserve.new.self } in
    let ready = reserved_sealing g.E.LocalEngine.stands g.D.Disk.tells c.args.tid c.args.sealed core c.reserve.new.self (g.D.Disk.seen c.args.disk.now) home past c.requires.up c.reserve.ensures.doubts k in
    let absent = ap (doubt_about c.args.tid) c.reserve.ensures.doubts ∙ c.requires.apart in
    let told = rw c.in-Err-Stopped.field-0-is at (c.in-Err-Stopped.ensures.ends _ _ _ (c.make_room.ensures.keeps _ _ _ k.stood.stored.behind)) in
    let ends = from_stopped k.stood.stored told in
    let stop = rw c.in-Err-Stopped.field-0-is at (c.in-Err-Stopped.ensures.called _ _ _ (c.make_room.ensures.keeps _ _ _ k.stood.stored.behind)) in
    vote_stopped g.E.LocalEngine.stands g.D.Disk.tells c.args.tid c.args.sealed reserved _ c.says.result (g.D.Disk.seen c.args.disk.now) (g.D.Disk.seen c.force.new.disk) home past n c.args.ticket _ ready c.requires.up
    absent c.requires.ticket finished ends c.in-Err-Stopped.ensures.down refl (c.says.ensures ∙ ap (λ (m : ℕ). let s : SiteStep = record { answer = Say.Stopped m; sends = None } in s) c.in-Err-Stopped.kept-is)
    (stop_behind 0 (trip past) (g.D.Disk.seen c.args.disk.now) (g.D.Disk.seen c.make_room.new.disk) (g.D.Disk.seen c.force.new.disk) c.make_room.ensures.called stop)

pub returns-in-Err-Failed-clause-failed : goal.returns-in-Err-Failed-clause-failed
returns-in-Err-Failed-clause-failed g c = λ home past k may n finished.
    let core = c.args.self.now in
    let reserved : SiteCore _ = record core { doubts = c.reserve.new.self } in
    let ready = reserved_sealing g.E.LocalEngine.stands g.D.Disk.tells c.args.tid c.args.sealed core c.reserve.new.self (g.D.Disk.seen c.args.disk.now) home past c.requires.up c.reserve.ensures.doubts k in
    let absent = ap (doubt_about c.args.tid) c.reserve.ensures.doubts ∙ c.requires.apart in
    let told = rw c.in-Err-Failed.field-0-is at (c.in-Err-Failed.ensures.ends _ _ _ (c.make_room.ensures.keeps _ _ _ k.stood.stored.behind)) in
    let ends = from_failed k.stood.stored told in
    let failed = rw c.in-Err-Failed.field-0-is at (c.in-Err-Failed.ensures.called _ _ _ (c.make_room.ensures.keeps _ _ _ k.stood.stored.behind)) in
    vote_failed g.E.LocalEngine.stands g.D.Disk.tells c.args.tid c.args.sealed reserved _ (g.D.Disk.seen c.args.disk.now) (g.D.Disk.seen c.force.new.disk) home past n c.args.ticket ready c.requires.up
    absent c.requires.ticket finished ends c.in-Err-Failed.ensures.down refl
    (at_most_behind 2 (g.D.Disk.seen c.args.disk.now) (g.D.Disk.seen c.make_room.new.disk) (g.D.Disk.seen c.force.new.disk) c.make_room.ensures.called failed)
