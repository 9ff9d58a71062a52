-- A closed session is at rest.
use Rattle.fed_rules.specs.Closing.{disarm, bring_up, give_up, clear, end_known, ask_all}
use Rattle.fed_rules.specs.Sessions.{fresh}
use Rattle.fed_rules.specs.Story.{Story, story_of}
use Rattle.commit_laws.proofs.ForCallers.{fresh_fits, undeclared}
use Rattle.site_history.specs.Stories.{StoriesHaveRightLines}
use Rattle.closing_laws.specs.AtRest.{AllUp, ClosedSessionsRest, ClosingStaysUp}
use Rattle.closing_laws.proofs.Clear.{cleared}
use Rattle.closing_laws.proofs.EndKnown.{ended}
use Rattle.closing_laws.proofs.GiveUp.{given_up}
use Rattle.closing_laws.proofs.Inquire.{settled}
use Rattle.closing_laws.proofs.Onward.{IsCalm}
use Rattle.closing_laws.proofs.Quiet.{quiet_rests}
use Rattle.closing_laws.proofs.Ready.{brought_calm}

pub closed_rests : StoriesHaveRightLines → ClosedSessionsRest
closed_rests rights scenario commands whole =
    let session = fresh scenario in
    let fits = fresh_fits scenario in
    let up = bring_up session (disarm session commands) in
    let late = give_up session up in
    let swept = clear session late in
    let told = end_known session swept in
    let calm = brought_calm session (undeclared scenario) commands whole.sites in
    let third = given_up session fits up calm in
    let fourth = cleared rights scenario late whole third.onward.calm in
    let fifth = ended session fits swept whole.sites fourth.onward.calm (λ tid. fourth.onward.decided tid (third.decided tid)) in
    let sixth = settled session fits told fifth.onward.calm fifth.gone in
    quiet_rests scenario (story_of scenario (ask_all session told)) (record {
      calm = sixth.onward.calm;
      clear = λ home tid d. sixth.onward.quiets home tid d (fifth.onward.quiets home tid d (fourth.clear home tid d));
      settled = sixth.settled;
      gone = λ tid. sixth.onward.gone tid (fifth.gone tid);
    })

pub calm_up : (story : Story) → IsCalm story → AllUp story
calm_up story c = record { coordinator = c.coordinator.up; sites = λ site. (c.sites site).up }

-- and every actor is up from the second step on
pub closing_up : StoriesHaveRightLines → ClosingStaysUp
closing_up rights scenario commands whole =
    let session = fresh scenario in
    let fits = fresh_fits scenario in
    let up = bring_up session (disarm session commands) in
    let late = give_up session up in
    let swept = clear session late in
    let calm = brought_calm session (undeclared scenario) commands whole.sites in
    let third = given_up session fits up calm in
    let fourth = cleared rights scenario late whole third.onward.calm in
    let fifth = ended session fits swept whole.sites fourth.onward.calm (λ tid. fourth.onward.decided tid (third.decided tid)) in
    record {
      brought_up = calm_up (story_of scenario up) calm;
      given_up = calm_up (story_of scenario late) third.onward.calm;
      cleared = calm_up (story_of scenario swept) fourth.onward.calm;
      ended = calm_up (story_of scenario (end_known session swept)) fifth.onward.calm;
    }
