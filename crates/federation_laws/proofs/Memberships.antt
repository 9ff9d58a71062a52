-- Each member of each site's order follows its program, and the commits agree, in every story.
use Rattle.std.proofs.Common.{◌≡◌, ℕ, Bool, true, false, Some, None, List, [], refl, sym, ap, subst, ◌∙◌}
use Rattle.mdb_base.specs.declared.names.SiteId.{SiteId}
use Rattle.mdb_base.specs.declared.names.Tid.{Tid}
use Rattle.mdb_base.specs.Names.{same_site, same_tid}
use Rattle.mdb_base.proofs.ForCallers.{same_site-equal, some_parts}
use Rattle.order_laws.specs.Chains.{In}
use Rattle.order_laws.specs.Orders.{is_in}
use Rattle.order_laws.proofs.ForCallers.{in_is_true, tells_tids}
use Rattle.fed_rules.specs.declared.commands.Command.{Command}
use Rattle.fed_rules.specs.declared.scenario.Scenario.{Scenario}
use Rattle.fed_rules.specs.Orders.{is_committed, records_at, records_of, order_at, reads_at}
use Rattle.fed_rules.specs.Plans.{IsScenario}
use Rattle.fed_rules.specs.Scenarios.{home_of, home_at, local_site, local_home}
use Rattle.fed_rules.specs.SitePast.{records}
use Rattle.fed_rules.specs.SiteRecords.{Home}
use Rattle.fed_rules.specs.Story.{past_of, story_of}
use Rattle.site_history.specs.Accesses.{acts_at}
use Rattle.federation_laws.specs.Accesses.{at}
use Rattle.federation_laws.specs.Parts.{IsAgreed, CommitsAgree, IsByProgram, MembersFollowPrograms}
use Rattle.site_history.specs.Records.{IsPrepared}
use Rattle.federation_laws.proofs.Agreement.{has_sealed}
use Rattle.federation_laws.proofs.CommitOnce.{one-commit}
use Rattle.federation_laws.proofs.Declared.{member-declared}
use Rattle.federation_laws.proofs.Globals.{global-agreed, prepared-visits, global-program}
use Rattle.federation_laws.proofs.LocalRuns.{tagged, tagged-here, tagged-elsewhere}
use Rattle.federation_laws.proofs.LocalStories.{local-site-of, local-story, local-record}
use Rattle.federation_laws.proofs.Members.{IsLocal, IsMember, AsLocal, AsGlobal, member-of, prepared-sealed, local-sealed}
use Rattle.federation_laws.proofs.StoryGlobals.{story-holds}
use Rattle.federation_laws.proofs.Told.{home_is-site, home-again}

-- a member of a declared site: a local one at its home, or a global one that is prepared there and commits
pub record LocalMember (scenario : Scenario) (commands : List Command) (home : Home) (tid : Tid) : Type 0 where
  pub record_kept : IsLocal (records home (past_of home.site (story_of scenario commands))) tid
  pub here : local_home scenario tid.tx ≡ Some home

pub record GlobalMember (scenario : Scenario) (commands : List Command) (home : Home) (tid : Tid) : Type 0 where
  pub ticket : ℕ
  pub prepared : IsPrepared (records home (past_of home.site (story_of scenario commands))) tid ticket
  pub commit : is_committed (story_of scenario commands) tid ≡ true
  pub roams : local_site scenario tid.tx ≡ None

pub data Kind (scenario : Scenario) (commands : List Command) (home : Home) (tid : Tid) : Type 0 where
  AtHome : LocalMember scenario commands home tid → Kind scenario commands home tid
  Roaming : GlobalMember scenario commands home tid → Kind scenario commands home tid

kind-by : (scenario : Scenario) → IsScenario scenario → (commands : List Command) (home : Home) (tid : Tid) → home_of scenario home.site ≡ Some home → IsMember (is_committed (story_of scenario commands)) (records home (past_of home.site (story_of scenario commands))) tid → Kind scenario commands home tid
kind-by scenario good commands home tid declared (AsLocal l) = AtHome (record { record_kept = l; here = local-record scenario commands home tid declared l })
kind-by scenario good commands home tid declared (AsGlobal c) =
    let h = story-holds scenario good commands tid in
    Roaming (record { ticket = c.ticket; prepared = c.prepared; commit = c.commit; roams = (h.programmed (h.holds.committed c.commit).known).1 })

-- which kind a member of a site's order is
pub kind-of : (scenario : Scenario) → IsScenario scenario → (commands : List Command) (site : SiteId) (home : Home) (tid : Tid) → home_of scenario site ≡ Some home → In tid (order_at scenario (story_of scenario commands) site) → Kind scenario commands home tid
kind-of scenario good commands site home tid declared i =
    let story = story_of scenario commands in
    let kept : records_of scenario story site ≡ records home (past_of home.site story) = ap (λ o. records_at o story) declared in
    kind-by scenario good commands home tid (home-again scenario site home declared)
    (subst (λ rs. IsMember (is_committed story) rs tid) kept (member-of (is_committed story) (records_of scenario story site) tid i))

-- a member was sealed
member-sealed : (scenario : Scenario) → IsScenario scenario → (commands : List Command) (site : SiteId) (home : Home) (tid : Tid) → home_of scenario site ≡ Some home → In tid (order_at scenario (story_of scenario commands) site) → has_sealed (past_of site (story_of scenario commands)) tid ≡ true
member-sealed scenario good commands site home tid declared i =
    subst (λ z. has_sealed (past_of z (story_of scenario commands)) tid ≡ true) (home_is-site scenario site home declared) (of_kind (kind-of scenario good commands site home tid declared i))
  where
    of_kind : Kind scenario commands home tid → has_sealed (past_of home.site (story_of scenario commands)) tid ≡ true
    of_kind (AtHome m) = local-sealed home (past_of home.site (story_of scenario commands)) tid m.record_kept
    of_kind (Roaming m) = prepared-sealed home (past_of home.site (story_of scenario commands)) tid m.ticket m.prepared

-- a local member follows its program
local-program : (scenario : Scenario) → IsScenario scenario → (commands : List Command) (home : Home) (tid : Tid) → home_of scenario home.site ≡ Some home → In tid (order_at scenario (story_of scenario commands) home.site) → LocalMember scenario commands home tid → IsByProgram scenario (story_of scenario commands) tid
local-program scenario good commands home tid declared i m =
    let settled = (local-story scenario good commands home tid m.here).settled (local-sealed home (past_of home.site (story_of scenario commands)) tid m.record_kept) in
    record {
      accesses = tagged home.site (acts_at home (past_of home.site (story_of scenario commands)) tid);
      ran = settled.ran;
      reads = sym settled.reads ∙ sym (ap (λ o. reads_at o (story_of scenario commands) tid) m.here);
      here = here;
      elsewhere = λ site out. elsewhere site out (same_site home.site site) refl;
    }
  where
    here : (site : SiteId) (there : Home) → home_of scenario site ≡ Some there → In tid (order_at scenario (story_of scenario commands) site) → at site (tagged home.site (acts_at home (past_of home.site (story_of scenario commands)) tid)) ≡ acts_at there (past_of site (story_of scenario commands)) tid
    here site there d j = of_kind (kind-of scenario good commands site there tid d j)
      where
        same-home : home ≡ there → at site (tagged home.site (acts_at home (past_of home.site (story_of scenario commands)) tid)) ≡ acts_at there (past_of site (story_of scenario commands)) tid
        same-home same =
            let place : home.site ≡ site = ap (λ (h : Home). h.site) same ∙ home_is-site scenario site there d in
            ap (λ z. at z (tagged home.site (acts_at home (past_of home.site (story_of scenario commands)) tid))) (sym place)
            ∙ (tagged-here home.site (acts_at home (past_of home.site (story_of scenario commands)) tid)
            ∙ (ap (λ z. acts_at home (past_of z (story_of scenario commands)) tid) place
            ∙ ap (λ h. acts_at h (past_of site (story_of scenario commands)) tid) same))

        of_kind : Kind scenario commands there tid → at site (tagged home.site (acts_at home (past_of home.site (story_of scenario commands)) tid)) ≡ acts_at there (past_of site (story_of scenario commands)) tid
        of_kind (AtHome other) = same-home (some_parts (sym m.here ∙ other.here))
        of_kind (Roaming other) = (let none = ap (home_at scenario) other.roams in let clash = sym none ∙ m.here in cc)

    elsewhere : (site : SiteId) → is_in same_tid (order_at scenario (story_of scenario commands) site) tid ≡ false → (b : Bool) → same_site home.site site ≡ b → at site (tagged home.site (acts_at home (past_of home.site (story_of scenario commands)) tid)) ≡ []
    elsewhere site out true q =
        let member = subst (λ z. In tid (order_at scenario (story_of scenario commands) z)) (same_site-equal home.site site q) i in
        let inside = in_is_true same_tid tells_tids (order_at scenario (story_of scenario commands) site) tid member in
        (let clash = sym inside ∙ out in cc)
    elsewhere site out false q = tagged-elsewhere home.site site (acts_at home (past_of home.site (story_of scenario commands)) tid) q

-- each member of each site's order follows its program
pub members-follow : (scenario : Scenario) → IsScenario scenario → (commands : List Command) → MembersFollowPrograms scenario (story_of scenario commands)
members-follow scenario good commands site tid i =
    let (home, declared) = member-declared scenario (story_of scenario commands) site tid i in
    of_kind home declared (kind-of scenario good commands site home tid declared i)
  where
    of_kind : (home : Home) → home_of scenario site ≡ Some home → Kind scenario commands home tid → IsByProgram scenario (story_of scenario commands) tid
    of_kind home declared (AtHome m) =
        local-program scenario good commands home tid (home-again scenario site home declared) (subst (λ z. In tid (order_at scenario (story_of scenario commands) z)) (sym (home_is-site scenario site home declared)) i) m
    of_kind home declared (Roaming m) = global-program scenario good commands tid m.roams m.commit (λ s h d j. member-sealed scenario good commands s h tid d j)

-- and the commits agree
pub commits-agree : (scenario : Scenario) → IsScenario scenario → (commands : List Command) → CommitsAgree scenario (story_of scenario commands)
commits-agree scenario good commands = record { at_home = at_home; global = global; once = one-commit scenario good commands }
  where
    at_home : (site home : SiteId) (tid : Tid) → In tid (order_at scenario (story_of scenario commands) site) → local_site scenario tid.tx ≡ Some home → home ≡ site
    at_home site home tid i e = let (there, declared) = member-declared scenario (story_of scenario commands) site tid i in of_kind there declared (kind-of scenario good commands site there tid declared i)
      where
        of_kind : (there : Home) → home_of scenario site ≡ Some there → Kind scenario commands there tid → home ≡ site
        of_kind there declared (AtHome m) = some_parts (sym e ∙ local-site-of scenario tid.tx there m.here) ∙ home_is-site scenario site there declared
        of_kind there declared (Roaming m) = (let none = m.roams in let clash = sym none ∙ e in cc)

    global : (site : SiteId) (tid : Tid) → In tid (order_at scenario (story_of scenario commands) site) → local_site scenario tid.tx ≡ None → IsAgreed scenario (story_of scenario commands) site tid
    global site tid i e = let (there, declared) = member-declared scenario (story_of scenario commands) site tid i in of_kind there declared (kind-of scenario good commands site there tid declared i)
      where
        of_kind : (there : Home) → home_of scenario site ≡ Some there → Kind scenario commands there tid → IsAgreed scenario (story_of scenario commands) site tid
        of_kind there declared (AtHome m) = (let none = ap (home_at scenario) e in let clash = sym none ∙ m.here in cc)
        of_kind there declared (Roaming m) =
            let again = home-again scenario site there declared in
            subst (λ z. IsAgreed scenario (story_of scenario commands) z tid) (home_is-site scenario site there declared)
            (global-agreed scenario good commands there tid again m.roams m.commit (prepared-visits scenario good commands there tid m.ticket again m.roams m.commit m.prepared))
