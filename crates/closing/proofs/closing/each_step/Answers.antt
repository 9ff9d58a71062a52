use Rattle.std.proofs.Common.{map, refl, ◌∙◌}
use Rattle.std.proofs.lemmas.Result.{err_from_is_err_and}
use Rattle.fed_rules.specs.Closing.{closed_in}
use Rattle.fed_world.proofs.ForCallers.{failed_later, told_later}
use Rattle.closing.proofs.Parts.{first, second, third, fourth, fifth, first_in, second_in, third_in, fourth_in, fifth_in, first_on, second_on, third_on, fourth_on, fifth_on}
use Rattle.closing.proofs.Towards.{extends_here, fails_within, fits_less, on_failure, on_success}
use Rattle.closing.proofs.closing.each_step.Goals as goal

pub disarm-requires-clause-stood : goal.disarm-requires-clause-stood
disarm-requires-clause-stood g c =
    let r = c.requires.stood in
    let can = r.holds in
    record { session = r.session; commands = r.commands; stood = r.stood; holds = (fits_less r.session (closed_in r.session r.commands) (first r.session r.commands) (first_in r.session r.commands) can.fits) }

pub returns-in_err-disarm-clause-failed : goal.returns-in_err-disarm-clause-failed
returns-in_err-disarm-clause-failed g c =
    let p = err_from_is_err_and c.from_residual.result c.from_residual.ensures.1 in
    rw (p.1, p.2) (λ session commands s can.
    fails_within g.D.Disk.seen g.D.Disk.tells c.disarm.new.world (map g.D.Disk.seen c.disarm.new.disks.items) session c.in_err-disarm.field-0.0 (closed_in session commands) (first session commands) commands commands (first_in session commands) (extends_here commands)
    _ _ refl (c.in_err-disarm.ensures.failed session commands s (fits_less session (closed_in session commands) (first session commands) (first_in session commands) can.fits)))

pub bring_up-requires-clause-stood : goal.bring_up-requires-clause-stood
bring_up-requires-clause-stood g c =
    let r = c.requires.stood in
    let can = r.holds in
    let s1 = c.in_ok-disarm.ensures.done r.session r.commands r.stood (fits_less r.session (closed_in r.session r.commands) (first r.session r.commands) (first_in r.session r.commands) can.fits) in
    record { session = r.session; commands = first r.session r.commands; stood = s1; holds = (fits_less r.session (closed_in r.session r.commands) (second r.session r.commands) (second_in r.session r.commands) can.fits) }

pub returns-in_err-bring_up-clause-failed : goal.returns-in_err-bring_up-clause-failed
returns-in_err-bring_up-clause-failed g c =
    let p = err_from_is_err_and c.from_residual-in_err-bring_up.result c.from_residual-in_err-bring_up.ensures.1 in
    rw (p.1, p.2) (λ session commands s can.
    let s1 = c.in_ok-disarm.ensures.done session commands s (fits_less session (closed_in session commands) (first session commands) (first_in session commands) can.fits) in
    fails_within g.D.Disk.seen g.D.Disk.tells c.bring_up.new.world (map g.D.Disk.seen c.bring_up.new.disks.items) session c.in_err-bring_up.field-0.0 (closed_in session commands) (second session commands) (first session commands) commands (second_in session commands) (first_on session commands)
    _ _ c.in_ok-disarm.ensures.cause (c.in_err-bring_up.ensures.failed session (first session commands) s1 (fits_less session (closed_in session commands) (second session commands) (second_in session commands) can.fits)))

pub returns-in_err-bring_up-clause-cause : goal.returns-in_err-bring_up-clause-cause
returns-in_err-bring_up-clause-cause g c =
    let p = err_from_is_err_and c.from_residual-in_err-bring_up.result c.from_residual-in_err-bring_up.ensures.1 in
    let f1 = c.in_ok-disarm.ensures.cause in
    rw (p.1, p.2) (failed_later c.in_err-bring_up.field-0.0 _ _ _ f1 c.in_err-bring_up.ensures.cause)

pub give_up-requires-clause-stood : goal.give_up-requires-clause-stood
give_up-requires-clause-stood g c =
    let r = c.requires.stood in
    let can = r.holds in
    let stays = can.stays in
    let s1 = c.in_ok-disarm.ensures.done r.session r.commands r.stood (fits_less r.session (closed_in r.session r.commands) (first r.session r.commands) (first_in r.session r.commands) can.fits) in
    let s2 = c.in_ok-bring_up.ensures.done r.session (first r.session r.commands) s1 (fits_less r.session (closed_in r.session r.commands) (second r.session r.commands) (second_in r.session r.commands) can.fits) in
    record { session = r.session; commands = second r.session r.commands; stood = s2; holds = (record { up = stays.brought_up; fits = (fits_less r.session (closed_in r.session r.commands) (third r.session r.commands) (third_in r.session r.commands) can.fits) }) }

pub returns-in_err-give_up-clause-failed : goal.returns-in_err-give_up-clause-failed
returns-in_err-give_up-clause-failed g c =
    let p = err_from_is_err_and c.from_residual-in_err-give_up.result c.from_residual-in_err-give_up.ensures.1 in
    rw (p.1, p.2) (λ session commands s can.
    let stays = can.stays in
    let s1 = c.in_ok-disarm.ensures.done session commands s (fits_less session (closed_in session commands) (first session commands) (first_in session commands) can.fits) in
    let s2 = c.in_ok-bring_up.ensures.done session (first session commands) s1 (fits_less session (closed_in session commands) (second session commands) (second_in session commands) can.fits) in
    fails_within g.D.Disk.seen g.D.Disk.tells c.give_up.new.world (map g.D.Disk.seen c.give_up.new.disks.items) session c.in_err-give_up.field-0.0 (closed_in session commands) (third session commands) (second session commands) commands (third_in session commands) (second_on session commands)
    _ _ (c.in_ok-bring_up.ensures.cause ∙ c.in_ok-disarm.ensures.cause) (c.in_err-give_up.ensures.failed session (second session commands) s2 (record { up = stays.brought_up; fits = (fits_less session (closed_in session commands) (third session commands) (third_in session commands) can.fits) })))

pub returns-in_err-give_up-clause-cause : goal.returns-in_err-give_up-clause-cause
returns-in_err-give_up-clause-cause g c =
    let p = err_from_is_err_and c.from_residual-in_err-give_up.result c.from_residual-in_err-give_up.ensures.1 in
    let f1 = c.in_ok-disarm.ensures.cause in
    let f2 = c.in_ok-bring_up.ensures.cause ∙ f1 in
    rw (p.1, p.2) (failed_later c.in_err-give_up.field-0.0 _ _ _ f2 c.in_err-give_up.ensures.cause)

pub clear-requires-clause-stood : goal.clear-requires-clause-stood
clear-requires-clause-stood g c =
    let r = c.requires.stood in
    let can = r.holds in
    let stays = can.stays in
    let s1 = c.in_ok-disarm.ensures.done r.session r.commands r.stood (fits_less r.session (closed_in r.session r.commands) (first r.session r.commands) (first_in r.session r.commands) can.fits) in
    let s2 = c.in_ok-bring_up.ensures.done r.session (first r.session r.commands) s1 (fits_less r.session (closed_in r.session r.commands) (second r.session r.commands) (second_in r.session r.commands) can.fits) in
    let s3 = c.in_ok-give_up.ensures.done r.session (second r.session r.commands) s2 (record { up = stays.brought_up; fits = (fits_less r.session (closed_in r.session r.commands) (third r.session r.commands) (third_in r.session r.commands) can.fits) }) in
    record { session = r.session; commands = third r.session r.commands; stood = s3; holds = (record { up = stays.given_up; fits = (fits_less r.session (closed_in r.session r.commands) (fourth r.session r.commands) (fourth_in r.session r.commands) can.fits) }) }

pub returns-in_err-clear-clause-failed : goal.returns-in_err-clear-clause-failed
returns-in_err-clear-clause-failed g c =
    let p = err_from_is_err_and c.from_residual-in_err-clear.result c.from_residual-in_err-clear.ensures.1 in
    rw (p.1, p.2) (λ session commands s can.
    let stays = can.stays in
    let s1 = c.in_ok-disarm.ensures.done session commands s (fits_less session (closed_in session commands) (first session commands) (first_in session commands) can.fits) in
    let s2 = c.in_ok-bring_up.ensures.done session (first session commands) s1 (fits_less session (closed_in session commands) (second session commands) (second_in session commands) can.fits) in
    let s3 = c.in_ok-give_up.ensures.done session (second session commands) s2 (record { up = stays.brought_up; fits = (fits_less session (closed_in session commands) (third session commands) (third_in session commands) can.fits) }) in
    fails_within g.D.Disk.seen g.D.Disk.tells c.clear.new.world (map g.D.Disk.seen c.clear.new.disks.items) session c.in_err-clear.field-0.0 (closed_in session commands) (fourth session commands) (third session commands) commands (fourth_in session commands) (third_on session commands)
    _ _ (c.in_ok-give_up.ensures.cause ∙ (c.in_ok-bring_up.ensures.cause ∙ c.in_ok-disarm.ensures.cause)) (c.in_err-clear.ensures.failed session (third session commands) s3 (record { up = stays.given_up; fits = (fits_less session (closed_in session commands) (fourth session commands) (fourth_in session commands) can.fits) })))

pub returns-in_err-clear-clause-cause : goal.returns-in_err-clear-clause-cause
returns-in_err-clear-clause-cause g c =
    let p = err_from_is_err_and c.from_residual-in_err-clear.result c.from_residual-in_err-clear.ensures.1 in
    let f1 = c.in_ok-disarm.ensures.cause in
    let f2 = c.in_ok-bring_up.ensures.cause ∙ f1 in
    let f3 = c.in_ok-give_up.ensures.cause ∙ f2 in
    rw (p.1, p.2) (failed_later c.in_err-clear.field-0.0 _ _ _ f3 c.in_err-clear.ensures.cause)

pub end_known-requires-clause-stood : goal.end_known-requires-clause-stood
end_known-requires-clause-stood g c =
    let r = c.requires.stood in
    let can = r.holds in
    let stays = can.stays in
    let s1 = c.in_ok-disarm.ensures.done r.session r.commands r.stood (fits_less r.session (closed_in r.session r.commands) (first r.session r.commands) (first_in r.session r.commands) can.fits) in
    let s2 = c.in_ok-bring_up.ensures.done r.session (first r.session r.commands) s1 (fits_less r.session (closed_in r.session r.commands) (second r.session r.commands) (second_in r.session r.commands) can.fits) in
    let s3 = c.in_ok-give_up.ensures.done r.session (second r.session r.commands) s2 (record { up = stays.brought_up; fits = (fits_less r.session (closed_in r.session r.commands) (third r.session r.commands) (third_in r.session r.commands) can.fits) }) in
    let s4 = c.in_ok-clear.ensures.done r.session (third r.session r.commands) s3 (record { up = stays.given_up; fits = (fits_less r.session (closed_in r.session r.commands) (fourth r.session r.commands) (fourth_in r.session r.commands) can.fits) }) in
    record { session = r.session; commands = fourth r.session r.commands; stood = s4; holds = (record { up = stays.cleared; fits = (fits_less r.session (closed_in r.session r.commands) (fifth r.session r.commands) (fifth_in r.session r.commands) can.fits) }) }

pub returns-in_err-end_known-clause-failed : goal.returns-in_err-end_known-clause-failed
returns-in_err-end_known-clause-failed g c =
    let p = err_from_is_err_and c.from_residual-in_err-end_known.result c.from_residual-in_err-end_known.ensures.1 in
    rw (p.1, p.2) (λ session commands s can.
    let stays = can.stays in
    let s1 = c.in_ok-disarm.ensures.done session commands s (fits_less session (closed_in session commands) (first session commands) (first_in session commands) can.fits) in
    let s2 = c.in_ok-bring_up.ensures.done session (first session commands) s1 (fits_less session (closed_in session commands) (second session commands) (second_in session commands) can.fits) in
    let s3 = c.in_ok-give_up.ensures.done session (second session commands) s2 (record { up = stays.brought_up; fits = (fits_less session (closed_in session commands) (third session commands) (third_in session commands) can.fits) }) in
    let s4 = c.in_ok-clear.ensures.done session (third session commands) s3 (record { up = stays.given_up; fits = (fits_less session (closed_in session commands) (fourth session commands) (fourth_in session commands) can.fits) }) in
    fails_within g.D.Disk.seen g.D.Disk.tells c.end_known.new.world (map g.D.Disk.seen c.end_known.new.disks.items) session c.in_err-end_known.field-0.0 (closed_in session commands) (fifth session commands) (fourth session commands) commands (fifth_in session commands) (fourth_on session commands)
    _ _ (c.in_ok-clear.ensures.cause ∙ (c.in_ok-give_up.ensures.cause ∙ (c.in_ok-bring_up.ensures.cause ∙ c.in_ok-disarm.ensures.cause))) (c.in_err-end_known.ensures.failed session (fourth session commands) s4 (record { up = stays.cleared; fits = (fits_less session (closed_in session commands) (fifth session commands) (fifth_in session commands) can.fits) })))

pub returns-in_err-end_known-clause-cause : goal.returns-in_err-end_known-clause-cause
returns-in_err-end_known-clause-cause g c =
    let p = err_from_is_err_and c.from_residual-in_err-end_known.result c.from_residual-in_err-end_known.ensures.1 in
    let f1 = c.in_ok-disarm.ensures.cause in
    let f2 = c.in_ok-bring_up.ensures.cause ∙ f1 in
    let f3 = c.in_ok-give_up.ensures.cause ∙ f2 in
    let f4 = c.in_ok-clear.ensures.cause ∙ f3 in
    rw (p.1, p.2) (failed_later c.in_err-end_known.field-0.0 _ _ _ f4 c.in_err-end_known.ensures.cause)

pub ask_all-requires-clause-stood : goal.ask_all-requires-clause-stood
ask_all-requires-clause-stood g c =
    let r = c.requires.stood in
    let can = r.holds in
    let stays = can.stays in
    let s1 = c.in_ok-disarm.ensures.done r.session r.commands r.stood (fits_less r.session (closed_in r.session r.commands) (first r.session r.commands) (first_in r.session r.commands) can.fits) in
    let s2 = c.in_ok-bring_up.ensures.done r.session (first r.session r.commands) s1 (fits_less r.session (closed_in r.session r.commands) (second r.session r.commands) (second_in r.session r.commands) can.fits) in
    let s3 = c.in_ok-give_up.ensures.done r.session (second r.session r.commands) s2 (record { up = stays.brought_up; fits = (fits_less r.session (closed_in r.session r.commands) (third r.session r.commands) (third_in r.session r.commands) can.fits) }) in
    let s4 = c.in_ok-clear.ensures.done r.session (third r.session r.commands) s3 (record { up = stays.given_up; fits = (fits_less r.session (closed_in r.session r.commands) (fourth r.session r.commands) (fourth_in r.session r.commands) can.fits) }) in
    let s5 = c.in_ok-end_known.ensures.done r.session (fourth r.session r.commands) s4 (record { up = stays.cleared; fits = (fits_less r.session (closed_in r.session r.commands) (fifth r.session r.commands) (fifth_in r.session r.commands) can.fits) }) in
    record { session = r.session; commands = fifth r.session r.commands; stood = s5; holds = (record { up = stays.ended; fits = can.fits }) }

pub returns-clause-done : goal.returns-clause-done
returns-clause-done g c =
    on_success c.ask_all.result
    (λ done session commands s can.
    let stays = can.stays in
    let s1 = c.in_ok-disarm.ensures.done session commands s (fits_less session (closed_in session commands) (first session commands) (first_in session commands) can.fits) in
    let s2 = c.in_ok-bring_up.ensures.done session (first session commands) s1 (fits_less session (closed_in session commands) (second session commands) (second_in session commands) can.fits) in
    let s3 = c.in_ok-give_up.ensures.done session (second session commands) s2 (record { up = stays.brought_up; fits = (fits_less session (closed_in session commands) (third session commands) (third_in session commands) can.fits) }) in
    let s4 = c.in_ok-clear.ensures.done session (third session commands) s3 (record { up = stays.given_up; fits = (fits_less session (closed_in session commands) (fourth session commands) (fourth_in session commands) can.fits) }) in
    let s5 = c.in_ok-end_known.ensures.done session (fourth session commands) s4 (record { up = stays.cleared; fits = (fits_less session (closed_in session commands) (fifth session commands) (fifth_in session commands) can.fits) }) in
    done session (fifth session commands) s5 (record { up = stays.ended; fits = can.fits }))
    c.ask_all.ensures.done

pub returns-clause-failed : goal.returns-clause-failed
returns-clause-failed g c =
    on_failure _ _ c.ask_all.result
    (λ why failed session commands s can.
    let stays = can.stays in
    let s1 = c.in_ok-disarm.ensures.done session commands s (fits_less session (closed_in session commands) (first session commands) (first_in session commands) can.fits) in
    let s2 = c.in_ok-bring_up.ensures.done session (first session commands) s1 (fits_less session (closed_in session commands) (second session commands) (second_in session commands) can.fits) in
    let s3 = c.in_ok-give_up.ensures.done session (second session commands) s2 (record { up = stays.brought_up; fits = (fits_less session (closed_in session commands) (third session commands) (third_in session commands) can.fits) }) in
    let s4 = c.in_ok-clear.ensures.done session (third session commands) s3 (record { up = stays.given_up; fits = (fits_less session (closed_in session commands) (fourth session commands) (fourth_in session commands) can.fits) }) in
    let s5 = c.in_ok-end_known.ensures.done session (fourth session commands) s4 (record { up = stays.cleared; fits = (fits_less session (closed_in session commands) (fifth session commands) (fifth_in session commands) can.fits) }) in
    fails_within g.D.Disk.seen g.D.Disk.tells c.ask_all.new.world (map g.D.Disk.seen c.ask_all.new.disks.items) session why (closed_in session commands) (closed_in session commands) (fifth session commands) commands (extends_here (closed_in session commands)) (fifth_on session commands)
    _ _ (c.in_ok-end_known.ensures.cause ∙ (c.in_ok-clear.ensures.cause ∙ (c.in_ok-give_up.ensures.cause ∙ (c.in_ok-bring_up.ensures.cause ∙ c.in_ok-disarm.ensures.cause)))) (failed session (fifth session commands) s5 (record { up = stays.ended; fits = can.fits })))
    c.ask_all.ensures.failed

pub returns-clause-cause : goal.returns-clause-cause
returns-clause-cause g c =
    let f1 = c.in_ok-disarm.ensures.cause in
    let f2 = c.in_ok-bring_up.ensures.cause ∙ f1 in
    let f3 = c.in_ok-give_up.ensures.cause ∙ f2 in
    let f4 = c.in_ok-clear.ensures.cause ∙ f3 in
    let f5 = c.in_ok-end_known.ensures.cause ∙ f4 in
    told_later c.ask_all.result _ _ _ f5 c.ask_all.ensures.cause
