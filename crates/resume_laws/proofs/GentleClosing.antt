-- The commands that close a session stop nothing.
use Rattle.std.proofs.Common.{not, is_some, List, [], ◌∷◌, refl}
use Rattle.mdb_base.specs.declared.names.SiteId.{SiteId}
use Rattle.mdb_base.specs.declared.names.Tid.{Tid}
use Rattle.mdb_base.specs.Words.{Each, those}
use Rattle.fed_rules.specs.declared.commands.Command.{Command}
use Rattle.fed_rules.specs.declared.commands.Command.TheVariants as Cmd
use Rattle.fed_rules.specs.declared.commands.Place.{Place}
use Rattle.fed_rules.specs.declared.scenario.Scenario.{Scenario}
use Rattle.fed_rules.specs.Closing.{actors, ask_site, bring_up, clear, clear_site, closed_in, deliver, disarm, end_known, for_each, give_up, in_doubt_at, inquire, known, last_sends, live, send_again, take_answers, taken, undecided}
use Rattle.fed_rules.specs.CoordPast as Coordinator
use Rattle.fed_rules.specs.Happenings.{is_down}
use Rattle.fed_rules.specs.Scenarios.{home_of, sites}
use Rattle.fed_rules.specs.Sessions.{Session}
use Rattle.fed_rules.specs.SitePast.{is_local, trip}
use Rattle.fed_rules.specs.Story.{Story, past_of, story_in}
use Rattle.resume_laws.specs.Gentle.{IsGentle}

abbrev AreGentle : List Command → Type 0
AreGentle commands = Each IsGentle commands

-- commands that each item adds
each_for : {A : Type 0} (add : A → List Command → List Command) → ((a : A) (commands : List Command) → AreGentle commands → AreGentle (add a commands))
    → (xs : List A) (commands : List Command) → AreGentle commands → AreGentle (for_each add xs commands)
each_for add more [] commands h = h
each_for add more (x ∷ xs) commands h = each_for add more xs (add x commands) (more x commands h)

takes_gentle : (places : List Place) (commands : List Command) → AreGentle commands → AreGentle (take_answers places commands)
takes_gentle [] commands h = h
takes_gentle (place ∷ places) commands h = takes_gentle places (Cmd.Take place.site place.place ∷ commands) (tt, h)

taken_gentle : (session : Session) (commands : List Command) → AreGentle commands → AreGentle (taken session commands)
taken_gentle session commands h = takes_gentle (last_sends session commands) commands h

deliver_gentle : (session : Session) (place : Place) (commands : List Command) → AreGentle commands → AreGentle (deliver session place commands)
deliver_gentle session place commands h = taken_gentle session (Cmd.Give place.site place.place ∷ commands) (tt, h)

again_gentle : (session : Session) (tid : Tid) (commands : List Command) → AreGentle commands → AreGentle (send_again session tid commands)
again_gentle session tid commands h =
    each_for (deliver session) (deliver_gentle session) (last_sends session (Cmd.Again tid ∷ commands)) (Cmd.Again tid ∷ commands) (tt, h)

inquire_gentle : (session : Session) (site : SiteId) (tid : Tid) (commands : List Command) → AreGentle commands → AreGentle (inquire session site tid commands)
inquire_gentle session site tid commands h =
    let asked = taken session (Cmd.Ask site tid ∷ commands) in
    each_for (λ (place : Place) more. Cmd.Give place.site place.place ∷ more) (λ place more k. (tt, k)) (last_sends session asked) asked
    (taken_gentle session (Cmd.Ask site tid ∷ commands) (tt, h))

ask_gentle : (session : Session) (story : Story) (site : SiteId) (commands : List Command) → AreGentle commands → AreGentle (ask_site session story site commands)
ask_gentle session story site commands h = each_for (inquire session site) (inquire_gentle session site) (in_doubt_at (home_of session.plan site) story) commands h

clear_gentle : (scenario : Scenario) (story : Story) (site : SiteId) (commands : List Command) → AreGentle commands → AreGentle (clear_site scenario story site commands)
clear_gentle scenario story site commands h =
    let locals = those (is_local (past_of site story)) (live scenario story site) in
    each_for (λ (tid : Tid) more. Cmd.Drop site tid ∷ more) (λ tid more k. (tt, k)) (those (λ tid. not (is_local (past_of site story) tid)) (live scenario story site))
    (for_each (λ tid more. Cmd.Abort tid.tx ∷ more) locals commands)
    (each_for (λ (tid : Tid) more. Cmd.Abort tid.tx ∷ more) (λ tid more k. (tt, k)) locals commands h)

pub closing_gentle : (session : Session) (commands : List Command) → Each IsGentle commands → Each IsGentle (closed_in session commands)
closing_gentle session commands h =
    let disarmed = disarm session commands in
    let up = bring_up session disarmed in
    let late = give_up session up in
    let swept = clear session late in
    let told = end_known session swept in
    let first : AreGentle disarmed = each_for (λ actor more. Cmd.Trip actor 0 0 ∷ more) (λ actor more k. (refl, k))
    (actors (λ past. is_some (Coordinator.trip past)) (λ past. is_some (trip past)) session.plan (story_in session commands)) commands h in
    let second : AreGentle up = each_for (λ actor more. Cmd.Back actor ∷ more) (λ actor more k. (tt, k))
    (actors (λ past. is_down past) (λ past. is_down past) session.plan (story_in session disarmed)) disarmed first in
    let third : AreGentle late = each_for (λ (tid : Tid) more. Cmd.Late tid ∷ more) (λ tid more k. (tt, k)) (undecided (story_in session up)) up second in
    let fourth : AreGentle swept = each_for (clear_site session.plan (story_in session late)) (clear_gentle session.plan (story_in session late)) (sites session.plan) late third in
    let fifth : AreGentle told = each_for (send_again session) (again_gentle session) (known session.plan (story_in session swept)) swept fourth in
    each_for (ask_site session (story_in session told)) (ask_gentle session (story_in session told)) (sites session.plan) told fifth

pub brought_gentle : (session : Session) (commands : List Command) → Each IsGentle commands → Each IsGentle (bring_up session (disarm session commands))
brought_gentle session commands h =
    let disarmed = disarm session commands in
    let first : AreGentle disarmed = each_for (λ actor more. Cmd.Trip actor 0 0 ∷ more) (λ actor more k. (refl, k))
    (actors (λ past. is_some (Coordinator.trip past)) (λ past. is_some (trip past)) session.plan (story_in session commands)) commands h in
    each_for (λ actor more. Cmd.Back actor ∷ more) (λ actor more k. (tt, k))
    (actors (λ past. is_down past) (λ past. is_down past) session.plan (story_in session disarmed)) disarmed first
