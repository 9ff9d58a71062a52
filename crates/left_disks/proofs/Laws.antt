-- What a session leaves on its disks is what a session that goes on from them finds there, and it goes on rightly.
use Rattle.std.proofs.Common.{◌++◌, Ok, Err, sym, subst}
use Rattle.fed_rules.specs.Found.{Found}
use Rattle.fed_rules.specs.GoingOn.{SessionsGoOn}
use Rattle.fed_rules.specs.Resumed.{plan_of, resumed}
use Rattle.closing_laws.specs.AtRest.{IsAtRest}
use Rattle.resume_laws.specs.Rightly.{SessionsRest}
use Rattle.found_disks.specs.declared.errors.ReopenErr.TheVariants as Err_is
use Rattle.found_disks.specs.Reading.{images_of}
use Rattle.found_disks.proofs.ForCallers.{usable_or_foreign}
use Rattle.left_disks.specs.Ended.{EndedSessionsAreFoundAgain, EndedSessionsLeaveDisks}
use Rattle.left_disks.specs.Left.{LeftDisksAreAccepted, LeftDisksAreFoundAgain, LeftDisksAreUsable, LeftDisksGoOn, LeftDisksTellTheSession}
use Rattle.left_disks.proofs.Accepted.{none_is_damaged, none_is_named}
use Rattle.left_disks.proofs.HaltedStories.{left_by_halts}
use Rattle.left_disks.proofs.LeftJournals.{left_is_found}
use Rattle.left_disks.proofs.Readable.{readable}

pub accepted : LeftDisksAreAccepted
accepted disks scenario commands left = record {
  readable = readable disks scenario commands left;
  undamaged = λ number at damaged. none_is_damaged disks scenario commands left number at damaged;
  usable = λ number first.
      usable_or_foreign (images_of disks) first.journals number first.read (none_is_named disks scenario commands left first.journals first.read) first;
}

pub tell_the_session : LeftDisksTellTheSession
tell_the_session disks scenario commands left journals read = left_is_found disks scenario commands left journals read

pub usable : LeftDisksAreUsable
usable disks scenario commands left journals read = none_is_named disks scenario commands left journals read

pub go_on : SessionsGoOn → SessionsRest → LeftDisksGoOn
go_on rightly rest disks scenario commands left journals read =
    let is = left_is_found disks scenario commands left journals read in
    record {
      is = is;
      rightly = rightly scenario left.whole commands left.few left.down;
      rests = subst (λ (found : Found). IsAtRest (plan_of found) (resumed found)) (sym is) (rest scenario left.whole commands left.few);
    }

pub found_again : SessionsGoOn → SessionsRest → LeftDisksAreFoundAgain
found_again rightly rest disks scenario commands left (Ok journals) f = go_on rightly rest disks scenario commands left journals f.0
found_again rightly rest disks scenario commands left (Err (Err_is.Damaged number at)) f = (accepted disks scenario commands left).undamaged number at f
found_again rightly rest disks scenario commands left (Err (Err_is.Foreign number)) f = (accepted disks scenario commands left).usable number f
found_again rightly rest disks scenario commands left (Err (Err_is.Disk number)) f = tt
found_again rightly rest disks scenario commands left (Err Err_is.Memory) f = tt

pub ended_leave : EndedSessionsLeaveDisks
ended_leave disks scenario commands e = left_by_halts disks scenario commands e

pub ended_found : SessionsGoOn → SessionsRest → EndedSessionsAreFoundAgain
ended_found rightly rest disks scenario commands e result f =
    let by = left_by_halts disks scenario commands e in (by, found_again rightly rest disks scenario (by.halts ++ commands) by.left result f)
