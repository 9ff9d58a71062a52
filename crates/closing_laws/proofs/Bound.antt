-- Closing makes few commands: each step goes once through the actors, or through attempts that differ, and these are few.
use Rattle.std.proofs.Common.{◌≡◌, ℕ, suc, ◌+◌, ◌*◌, ◌≤◌, Bool, true, false, not, is_some, List, [], ◌∷◌, map, length, refl, arith}
use Rattle.mdb_base.specs.declared.names.SiteId.{SiteId}
use Rattle.mdb_base.specs.declared.names.Tid.{Tid}
use Rattle.mdb_base.specs.Words.{those}
use Rattle.mdb_base.proofs.ForCallers.{length-map, length_those}
use Rattle.presumptions.specs.declared.Participant.{Participant}
use Rattle.fed_rules.specs.declared.commands.Command.{Command}
use Rattle.fed_rules.specs.declared.commands.Command.TheVariants as Cmd
use Rattle.fed_rules.specs.declared.commands.Place.{Place}
use Rattle.fed_rules.specs.declared.scenario.Scenario.{Scenario}
use Rattle.fed_rules.specs.Closing.{actors, ask_all, ask_site, bring_up, clear, clear_site, closed_in, deliver, disarm, end_known, for_each, give_up, in_doubt_at, inquire, known, last_sends, live, one, send_again, take_answers, taken, undecided}
use Rattle.fed_rules.specs.CoordPast as Coordinator
use Rattle.fed_rules.specs.CoordPast.{CoordPast, begun_tids, is_known, is_open, standing}
use Rattle.fed_rules.specs.Happenings.{is_down}
use Rattle.fed_rules.specs.Scenarios.{home_of, protocols, sites}
use Rattle.fed_rules.specs.Sessions.{Session, fresh}
use Rattle.fed_rules.specs.SitePast.{SitePast, is_local, trip}
use Rattle.fed_rules.specs.Story.{Story, coord_past, past_of, story_in}
use Rattle.commit_laws.proofs.ForCallers.{CoordinatorFits, fresh_fits}
use Rattle.closing_laws.specs.Bound.{ClosingIsShort, most_closing}
use Rattle.closing_laws.proofs.FewAttempts.{begun_few, doubt_few, live_few}
use Rattle.closing_laws.proofs.FewSites.{at_most_eight}
use Rattle.closing_laws.proofs.Lengths.{adds_each, length_parts, length_rising}
use Rattle.closing_laws.proofs.SentPlaces.{again_places, answer_places, ask_places, give_places, taken_many}

-- what each part of closing adds
deliver_adds : (session : Session) (place : Place) (commands : List Command) → length (deliver session place commands) ≤ 2 + length commands
deliver_adds session place commands =
    let more = taken_many (last_sends session (Cmd.Give place.site place.place ∷ commands)) (Cmd.Give place.site place.place ∷ commands) in
    let few = give_places session commands place in omega (arith, more, few)

again_adds : (session : Session) → CoordinatorFits session → length (protocols session.plan) ≤ 8 → (tid : Tid) (commands : List Command) → length (send_again session tid commands) ≤ 17 + length commands
again_adds session fits eight tid commands =
    let sent = last_sends session (Cmd.Again tid ∷ commands) in
    let all = adds_each (deliver session) 2 sent (λ place cs i. deliver_adds session place cs) (Cmd.Again tid ∷ commands) in
    let few = again_places session fits commands tid in omega (arith, all, few, eight)

-- one command for each
one_each : {A : Type 0} (make : A → Command) (xs : List A) (commands : List Command) → length (for_each (λ x more. make x ∷ more) xs commands) ≡ length xs + length commands
one_each make [] commands = omega arith
one_each make (x ∷ xs) commands = let rest = one_each make xs (make x ∷ commands) in omega (arith, rest)

inquire_adds : (session : Session) (site : SiteId) (tid : Tid) (commands : List Command) → length (inquire session site tid commands) ≤ 3 + length commands
inquire_adds session site tid commands =
    let asked = taken session (Cmd.Ask site tid ∷ commands) in
    let more = taken_many (last_sends session (Cmd.Ask site tid ∷ commands)) (Cmd.Ask site tid ∷ commands) in
    let one = ask_places session commands site tid in
    let given = one_each (λ (place : Place). Cmd.Give place.site place.place) (last_sends session asked) asked in
    let few = by_places (last_sends session (Cmd.Ask site tid ∷ commands)) refl one in
    omega (arith, more, one, given, few)
  where
    by_places : (places : List Place) → last_sends session (Cmd.Ask site tid ∷ commands) ≡ places → length places ≤ 1
        → length (last_sends session (take_answers places (Cmd.Ask site tid ∷ commands))) ≤ 1
    by_places [] sent h = ask_places session commands site tid
    by_places (place ∷ []) sent h = answer_places session commands site tid place sent
    by_places (place ∷ other ∷ more) sent h = absurd (omega (arith, h))

clear_adds : (scenario : Scenario) (story : Story) (site : SiteId) (commands : List Command) → length (clear_site scenario story site commands) ≤ length (live scenario story site) + length commands
clear_adds scenario story site commands =
    let at = live scenario story site in
    let aborted = one_each (λ (tid : Tid). Cmd.Abort tid.tx) (those (is_local (past_of site story)) at) commands in
    let dropped = one_each (λ (tid : Tid). Cmd.Drop site tid) (those (λ tid. not (is_local (past_of site story) tid)) at)
    (for_each (λ (tid : Tid) more. Cmd.Abort tid.tx ∷ more) (those (is_local (past_of site story)) at) commands) in
    let parts = length_parts (is_local (past_of site story)) at in omega (arith, aborted, dropped, parts)

-- the declared sites are the participants
sites_many : (scenario : Scenario) → length (sites scenario) ≡ length (protocols scenario)
sites_many scenario = length-map (λ (member : Participant). member.site) (protocols scenario)

-- the actors are at most the sites and the coordinator
few_actors : (of_coordinator : CoordPast → Bool) (of_site : SitePast → Bool) (scenario : Scenario) (story : Story)
    → length (actors of_coordinator of_site scenario story) ≤ suc (length (protocols scenario))
few_actors of_coordinator of_site scenario story = by_test (of_coordinator (coord_past story))
  where
    own : List ℕ
    own = map (λ (site : SiteId). site.0) (those (λ site. of_site (past_of site story)) (sites scenario))

    by_test : (b : Bool) → length (one b 0 own) ≤ suc (length (protocols scenario))
    by_test true =
        let named_by = length-map (λ (site : SiteId). site.0) (those (λ site. of_site (past_of site story)) (sites scenario)) in
        let few = length_those (λ site. of_site (past_of site story)) (sites scenario) in
        let all = sites_many scenario in omega (arith, named_by, few, all)
    by_test false =
        let named_by = length-map (λ (site : SiteId). site.0) (those (λ site. of_site (past_of site story)) (sites scenario)) in
        let few = length_those (λ site. of_site (past_of site story)) (sites scenario) in
        let all = sites_many scenario in omega (arith, named_by, few, all)

-- at most eight sites, and few attempts that were begun, that are live at a site and that a site is in doubt of, whatever the commands
pub record HasFew (session : Session) : Type 0 where
  pub fits : CoordinatorFits session
  pub sites : length (protocols session.plan) ≤ 8
  pub begun : (commands : List Command) → length (begun_tids (coord_past (story_in session commands))) ≤ 32768
  pub lives : (commands : List Command) (site : SiteId) → length (live session.plan (story_in session commands) site) ≤ 32768
  pub doubts : (commands : List Command) (site : SiteId) → length (in_doubt_at (home_of session.plan site) (story_in session commands)) ≤ 32768

module _ (session : Session) (few_of : HasFew session) where
  -- the undecided and the known attempts are some of those that were begun
  undecided_few : (commands : List Command) → length (undecided (story_in session commands)) ≤ 32768
  undecided_few commands =
      let past = coord_past (story_in session commands) in
      let sorted = length_rising (those (is_open past) (begun_tids past)) in
      let some = length_those (is_open past) (begun_tids past) in
      let few = few_of.begun commands in omega (arith, sorted, some, few)

  known_few : (commands : List Command) → length (known session.plan (story_in session commands)) ≤ 32768
  known_few commands =
      let past = coord_past (story_in session commands) in
      let sorted = length_rising (those (λ tid. is_known (standing (protocols session.plan) past tid)) (begun_tids past)) in
      let some = length_those (λ tid. is_known (standing (protocols session.plan) past tid)) (begun_tids past) in
      let few = few_of.begun commands in omega (arith, sorted, some, few)

  -- what each step adds
  disarm_adds : (commands : List Command) → length (disarm session commands) ≤ 9 + length commands
  disarm_adds commands =
      let all = one_each (λ actor. Cmd.Trip actor 0 0) (actors (λ past. is_some (Coordinator.trip past)) (λ past. is_some (trip past)) session.plan (story_in session commands)) commands in
      let few = few_actors (λ past. is_some (Coordinator.trip past)) (λ past. is_some (trip past)) session.plan (story_in session commands) in
      let eight = few_of.sites in omega (arith, all, few, eight)

  bring_up_adds : (commands : List Command) → length (bring_up session commands) ≤ 9 + length commands
  bring_up_adds commands =
      let all = one_each Cmd.Back (actors (λ past. is_down past) (λ past. is_down past) session.plan (story_in session commands)) commands in
      let few = few_actors (λ past. is_down past) (λ past. is_down past) session.plan (story_in session commands) in
      let eight = few_of.sites in omega (arith, all, few, eight)

  give_up_adds : (commands : List Command) → length (give_up session commands) ≤ 32768 + length commands
  give_up_adds commands =
      let all = one_each Cmd.Late (undecided (story_in session commands)) commands in
      let few = undecided_few commands in omega (arith, all, few)

  clear_all_adds : (commands : List Command) → length (clear session commands) ≤ 8 * 32768 + length commands
  clear_all_adds commands =
      let all = adds_each (clear_site session.plan (story_in session commands)) 32768 (sites session.plan)
      (λ site cs i.
      let here = clear_adds session.plan (story_in session commands) site cs in
      let few = few_of.lives commands site in omega (arith, here, few)) commands in
      let many = sites_many session.plan in
      let eight = few_of.sites in omega (arith, all, many, eight)

  end_known_adds : (commands : List Command) → length (end_known session commands) ≤ 17 * 32768 + length commands
  end_known_adds commands =
      let eight = few_of.sites in
      let all = adds_each (send_again session) 17 (known session.plan (story_in session commands)) (λ tid cs i. again_adds session few_of.fits eight tid cs) commands in
      let few = known_few commands in omega (arith, all, few)

  ask_all_adds : (commands : List Command) → length (ask_all session commands) ≤ 24 * 32768 + length commands
  ask_all_adds commands =
      let all = adds_each (ask_site session (story_in session commands)) (3 * 32768) (sites session.plan)
      (λ site cs i.
      let tids = in_doubt_at (home_of session.plan site) (story_in session commands) in
      let here = adds_each (inquire session site) 3 tids (λ tid more j. inquire_adds session site tid more) cs in
      let few = few_of.doubts commands site in omega (arith, here, few)) commands in
      let many = sites_many session.plan in
      let eight = few_of.sites in omega (arith, all, many, eight)

-- so closing adds few commands
pub session_short : (session : Session) → HasFew session → (commands : List Command) → length (closed_in session commands) ≤ most_closing + length commands
session_short session few commands =
    let disarmed = disarm session commands in
    let up = bring_up session disarmed in
    let late = give_up session up in
    let swept = clear session late in
    let told = end_known session swept in
    let first = disarm_adds session few commands in
    let second = bring_up_adds session few disarmed in
    let third = give_up_adds session few up in
    let fourth = clear_all_adds session few late in
    let fifth = end_known_adds session few swept in
    let sixth = ask_all_adds session few told in omega (arith, first, second, third, fourth, fifth, sixth)

pub closing_short : ClosingIsShort
closing_short scenario whole = session_short (fresh scenario) (record {
  fits = fresh_fits scenario;
  sites = at_most_eight scenario whole.sites;
  begun = begun_few scenario whole;
  lives = live_few scenario whole;
  doubts = doubt_few scenario whole;
})
