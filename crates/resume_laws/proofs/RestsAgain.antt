-- The session that goes on from the disks that another one left is at rest at its end.
use Rattle.std.proofs.Common.{◌≡◌, false, Some, List, [], refl, ap}
use Rattle.mdb_base.specs.declared.names.Tid.{Tid}
use Rattle.fed_rules.specs.declared.commands.Command.{Command}
use Rattle.fed_rules.specs.Closing.{bring_up, disarm}
use Rattle.fed_rules.specs.CoordPast.{is_open}
use Rattle.fed_rules.specs.Found.{Found}
use Rattle.fed_rules.specs.Resumed.{going_on, left_by, plan_of}
use Rattle.fed_rules.specs.Scenarios.{home_of}
use Rattle.fed_rules.specs.Sessions.{Session}
use Rattle.fed_rules.specs.SiteRecords.{Home}
use Rattle.fed_rules.specs.Story.{coord_past, past_of, story_in, story_of}
use Rattle.resume_laws.specs.Premises.{coord_left, site_left}
use Rattle.resume_laws.specs.Rests.{ResumedSessionsRest}
use Rattle.resume_laws.proofs.GentleClosing.{brought_gentle}
use Rattle.resume_laws.proofs.GoesOn.{fits_left, home_before, never_happens}
use Rattle.found_laws.proofs.ForCallers.{idle, outcomes_on, session_begins}
use Rattle.resume_laws.proofs.LiveWalk.{IsDormantIn, dormant_on, opens_dormant}
use Rattle.resume_laws.proofs.Rest.{closed_rests}

pub all_rest : ResumedSessionsRest
all_rest scenario whole commands says plan_whole =
    closed_rests session (fits_left scenario whole commands says) plan_whole [] (λ site more none. never_happens scenario whole commands says site none more) (record {
      nobody = (outcomes_on session (fits_left scenario whole commands says) (idle found) any none up).nobody;
      lives = λ home declared. (dormant home declared).lives;
    })
  where
    found : Found
    found = left_by scenario (story_of scenario commands)

    session : Session
    session = going_on found

    up : List Command
    up = bring_up session (disarm session [])

    any : Tid
    any = record { tx = record { 0 = 0 }; attempt = 0 }

    none : (tid : Tid) → is_open (coord_past (story_in session [])) tid ≡ false
    none tid = ap (λ p. is_open p tid) (session_begins session (coord_left (coord_past (story_of scenario commands))) refl (record { 0 = 0 })).coordinator

    dormant : (home : Home) → home_of (plan_of found) home.site ≡ Some home → IsDormantIn home (story_in session up)
    dormant home declared =
        let b = home_before scenario whole commands says home.site home declared in
        dormant_on session (idle found) home declared
        (opens_dormant session (coord_left (coord_past (story_of scenario commands))) refl home (site_left b.0 (past_of home.site (story_of scenario commands))) b.1)
        up (brought_gentle session [] tt)
