use Rattle.std.proofs.Common.{map}
use Rattle.world_recovery.proofs.Reopens.{made_back}
use Rattle.world_recovery.proofs.reopening.reopen_world.Goals as goal

pub reopen_actors-requires-clause-told : goal.reopen_actors-requires-clause-told
reopen_actors-requires-clause-told g c = c.requires.told

pub reopen_actors-requires-clause-nine : goal.reopen_actors-requires-clause-nine
reopen_actors-requires-clause-nine g c = c.requires.nine

pub reopen_actors-requires-clause-found : goal.reopen_actors-requires-clause-found
reopen_actors-requires-clause-found g c = c.requires.found

pub returns-in-Ok-resume-clause-back : goal.returns-in-Ok-resume-clause-back
returns-in-Ok-resume-clause-back g c found first on =
    made_back g.D.Disk.tells c.in-Ok-resume.world c.args.plan c.in-Ok.actors (map g.D.Disk.seen c.reopen_actors.new.disks.items) found c.in-Ok-resume.ensures (c.in-Ok.ensures.back found first on)

pub returns-in-Ok-resume-clause-images : goal.returns-in-Ok-resume-clause-images
returns-in-Ok-resume-clause-images g c = c.in-Ok.ensures.images

pub returns-in-Ok-resume-clause-cause : goal.returns-in-Ok-resume-clause-cause
returns-in-Ok-resume-clause-cause g c = c.in-Ok.ensures.cause

pub returns-in-Ok-resume-clause-count : goal.returns-in-Ok-resume-clause-count
returns-in-Ok-resume-clause-count g c = c.reopen_actors.ensures.count

pub returns-in-Err-resume-clause-failed : goal.returns-in-Err-resume-clause-failed
returns-in-Err-resume-clause-failed g c = tt

pub returns-in-Err-resume-clause-images : goal.returns-in-Err-resume-clause-images
returns-in-Err-resume-clause-images g c = c.in-Ok.ensures.images

pub returns-in-Err-resume-clause-cause : goal.returns-in-Err-resume-clause-cause
returns-in-Err-resume-clause-cause g c = c.in-Ok.ensures.cause

pub returns-in-Err-resume-clause-count : goal.returns-in-Err-resume-clause-count
returns-in-Err-resume-clause-count g c = c.reopen_actors.ensures.count

pub returns-in-Err-clause-failed : goal.returns-in-Err-clause-failed
returns-in-Err-clause-failed g c = c.in-Err.ensures.failed

pub returns-in-Err-clause-images : goal.returns-in-Err-clause-images
returns-in-Err-clause-images g c = c.in-Err.ensures.images

pub returns-in-Err-clause-cause : goal.returns-in-Err-clause-cause
returns-in-Err-clause-cause g c = c.in-Err.ensures.cause

pub returns-in-Err-clause-count : goal.returns-in-Err-clause-count
returns-in-Err-clause-count g c = c.reopen_actors.ensures.count
