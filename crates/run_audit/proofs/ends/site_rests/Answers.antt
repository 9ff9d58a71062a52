use Rattle.std.proofs.Common.{◌&&◌, List, is_some, sym, ap, ap₂, subst, ◌∙◌}
use Rattle.mdb_base.specs.declared.names.Tid.{Tid}
use Rattle.mdb_base.specs.Words.{is_empty}
use Rattle.commit_laws.proofs.ForCallers.{undeclared}
use Rattle.fed_rules.specs.Closing as rules
use Rattle.fed_rules.specs.SitePast.{live, records}
use Rattle.fed_rules.specs.SiteRecords.{doubt_of}
use Rattle.fed_rules.specs.Sessions.{fresh}
use Rattle.fed_rules.specs.Story.{past_of, story_of}
use Rattle.fed_rules.proofs.ForCallers.{its-site}
use Rattle.site_book.specs.Listing.{Lists}
use Rattle.closing.proofs.ForCallers.{doubts_listed, live_listed}
use Rattle.run_audit.proofs.Rests.{armed, nowhere, quiet, stopped}
use Rattle.run_audit.proofs.ends.site_rests.Goals as goal

pub returns-in_default : goal.returns-in_default
returns-in_default c = λ scenario commands r.
    let away = c.in_default.ensures (fresh scenario) commands r in
    nowhere scenario (story_of scenario commands) c.args.site (undeclared scenario c.args.site commands away) away

pub returns-then-is_down : goal.returns-then-is_down
returns-then-is_down c = λ scenario commands r.
    let l = c.in-Some.ensures (fresh scenario) commands r in
    stopped scenario (story_of scenario commands) c.args.site (c.if-is_down.ensures l.home _ (c.core-site_core.ensures.held l.home _ _ l.recalls))

pub returns-then-is_armed : goal.returns-then-is_armed
returns-then-is_armed c = λ scenario commands r.
    let l = c.in-Some.ensures (fresh scenario) commands r in
    let holds = c.core-site_core.ensures.held l.home _ _ l.recalls in
    armed scenario (story_of scenario commands) c.args.site (c.if-is_down.ensures l.home _ holds) (c.if-is_armed.ensures l.home _ holds)

pub returns : goal.returns
returns c = λ scenario commands r.
    let l = c.in-Some.ensures (fresh scenario) commands r in
    let story = story_of scenario commands in
    let holds = c.core-site_core.ensures.held l.home _ _ l.recalls in
    let up = c.if-is_down.ensures l.home _ holds in
    let own = its-site scenario c.args.site l.home l.declared in
    let lives = live_listed c.stories_have_right_lines.ensures c.sites_begin_attempts_once.ensures scenario commands c.args.site l.home l.declared c.in_ok-live.live.items
    (subst (λ s. Lists (λ tid. is_some (live l.home (past_of s story) tid)) c.in_ok-live.live.items) (sym own) (c.in_ok-live.ensures l.home _ holds (sym up)))
    ∙ ap (λ o. rules.live_at o story) (sym l.declared) in
    let doubts = doubts_listed l.home (records l.home (past_of l.home.site story)) c.in_ok-doubtful.doubtful.items
    (subst (λ s. Lists (λ tid. is_some (doubt_of (records l.home (past_of s story)) tid)) c.in_ok-doubtful.doubtful.items) (sym own) (c.in_ok-doubtful.ensures l.home _ holds (sym up)))
    ∙ ap (λ o. rules.in_doubt_at o story) (sym l.declared) in
    c.are_both_empty.ensures
    ∙ (ap₂ (λ (a b : List Tid). is_empty a && is_empty b) c.as_slice.ensures.value c.as_slice-2.ensures.value
    ∙ quiet scenario story c.args.site c.in_ok-live.live.items c.in_ok-doubtful.doubtful.items up (c.if-is_armed.ensures l.home _ holds) lives doubts)
