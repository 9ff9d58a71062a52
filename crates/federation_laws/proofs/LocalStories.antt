-- In every story a local attempt follows its program at its home, and only there is it a member.
use Rattle.std.proofs.Common.{◌≡◌, ◌⊎◌, Bool, true, false, cond, nat_lt, length, Option, Some, None, List, [], ◌∷◌, ◌++◌, inl, inr, refl, sym, ap, subst, ◌∙◌}
use Rattle.mdb_base.specs.declared.names.SiteId.{SiteId}
use Rattle.mdb_base.specs.declared.names.Tid.{Tid}
use Rattle.mdb_base.specs.declared.names.Tx.{Tx}
use Rattle.mdb_base.specs.Names.{same_site}
use Rattle.mdb_base.specs.Words.{Among, item_at}
use Rattle.mdb_base.specs.Programs.{plain_act}
use Rattle.fed_rules.specs.Disk.{Append}
use Rattle.fed_rules.specs.Runs.{Run}
use Rattle.order_laws.specs.Chains.{In}
use Rattle.order_laws.proofs.ForCallers.{each_at, item_at-in}
use Rattle.fed_rules.specs.declared.commands.Command.{Command}
use Rattle.fed_rules.specs.declared.events.SiteEvent.{SiteEvent}
use Rattle.fed_rules.specs.declared.events.SiteEvent.TheVariants as Ev
use Rattle.fed_rules.specs.declared.records.SiteRecord.TheVariants as Rec
use Rattle.fed_rules.specs.declared.scenario.Scenario.{Scenario}
use Rattle.fed_rules.specs.Plans.{IsScenario}
use Rattle.fed_rules.specs.Scenarios.{home_of, home_at, local_site, local_home, program_of}
use Rattle.fed_rules.specs.Site.{site_line, done}
use Rattle.fed_rules.specs.SitePast.{SiteHappening, disk, records}
use Rattle.fed_rules.specs.SiteRecords.{Home}
use Rattle.fed_rules.specs.Story.{Story, Happened, AtSite, AtCoordinator, Nowhere, past_of, with_site, coord_past, sent_to, sends_to, story_of, run_reads}
use Rattle.federation_laws.proofs.Asked.{IsOf, Asked, asked-next}
use Rattle.federation_laws.proofs.CoordEffects.{effect}
use Rattle.federation_laws.proofs.CoordHolds.{is_begun}
use Rattle.federation_laws.proofs.LocalLines.{NotAsked, local-made}
use Rattle.federation_laws.proofs.LocalMoves.{Made}
use Rattle.federation_laws.proofs.LocalRuns.{LocalHolds, local-first, Cause, local-next}
use Rattle.federation_laws.proofs.Members.{IsLocal, record-from}
use Rattle.federation_laws.proofs.ScenarioFacts.{local-at-home}
use Rattle.federation_laws.proofs.SiteLocals.{local-by-commit}
use Rattle.federation_laws.proofs.StoryGlobals.{StoryHolds, story-holds, coord-made, fresh-line, live_of_tx-is}
use Rattle.federation_laws.proofs.Told.{home_is-site, local_home-declared, SiteCause, IsSiteLine, IsLine, line_is}
use Rattle.std.proofs.lemmas.List.{append-nil}
use Rattle.mdb_base.proofs.ForCallers.{same_site-equal, same_tx-equal, some_parts}

-- what was sent to a site was asked of begun attempts
asked-happened : (scenario : Scenario) (story : Story) (command : Command) (happened : Happened) (site : SiteId) (g : Tid) → IsLine scenario story happened → StoryHolds scenario story g → StoryHolds scenario (record { command = command; happened = happened } ∷ story) g → Asked (coord_past story) g site (sent_to site story)
    → Asked (coord_past (record { command = command; happened = happened } ∷ story)) g site (sent_to site story ++ sends_to site happened)
asked-happened scenario story command (AtSite s x) site g line h now a = subst (Asked (coord_past story) g site) (sym (append-nil (sent_to site story))) a
asked-happened scenario story command (AtCoordinator x) site g line h now a =
    let made = coord-made scenario story x line in
    asked-next (coord_past story) g x site (sent_to site story) (fresh-line scenario story g x line made h) now.holds made.sends (effect (coord_past story) g x line.event made.heard made.counted) a
asked-happened scenario story command (Nowhere answer) site g line h now a = subst (Asked (coord_past story) g site) (sym (append-nil (sent_to site story))) a

story-asked : (scenario : Scenario) → IsScenario scenario → (commands : List Command) (site : SiteId) (g : Tid) → Asked (coord_past (story_of scenario commands)) g site (sent_to site (story_of scenario commands))
story-asked scenario good [] site g = record { begun = tt; old = λ d. tt }
story-asked scenario good (command ∷ commands) site g =
    asked-happened scenario (story_of scenario commands) command _ site g (line_is scenario (story_of scenario commands) command) (story-holds scenario good commands g) (story-holds scenario good (command ∷ commands) g) (story-asked scenario good commands site g)

-- an attempt with a home isn't begun at the coordinator
local-unbegun : (scenario : Scenario) → IsScenario scenario → (commands : List Command) (t : Tid) (home : Home) → local_home scenario t.tx ≡ Some home → is_begun (coord_past (story_of scenario commands)) t ≡ true → ⊥
local-unbegun scenario good commands t home here begun =
    let none = ((story-holds scenario good commands t).programmed begun).1 in
    let clash = sym (ap (home_at scenario) none) ∙ here in cc

-- so no operation is sent to it
pub not-asked : (scenario : Scenario) → IsScenario scenario → (commands : List Command) (t : Tid) (own at_home : Home) (event : SiteEvent) → local_home scenario t.tx ≡ Some own → SiteCause scenario (story_of scenario commands) at_home event → NotAsked t event
not-asked scenario good commands t own at_home (Ev.Give message) here c =
    λ about. local-unbegun scenario good commands t own here (each_at (λ m. IsOf t m → is_begun (coord_past (story_of scenario commands)) t ≡ true) message (sent_to at_home.site (story_of scenario commands)) (story-asked scenario good commands at_home.site t).begun c about)
not-asked scenario good commands t own at_home (Ev.Begin tid) here c = tt
not-asked scenario good commands t own at_home (Ev.Act tid act) here c = tt
not-asked scenario good commands t own at_home (Ev.Commit tid) here c = tt
not-asked scenario good commands t own at_home (Ev.Abort tid) here c = tt
not-asked scenario good commands t own at_home (Ev.Fate tx) here c = tt
not-asked scenario good commands t own at_home (Ev.Ask tid) here c = tt
not-asked scenario good commands t own at_home (Ev.Drop tid) here c = tt
not-asked scenario good commands t own at_home (Ev.Halt cut) here c = tt
not-asked scenario good commands t own at_home (Ev.Trip calls cut) here c = tt
not-asked scenario good commands t own at_home Ev.Back here c = tt
not-asked scenario good commands t own at_home Ev.Check here c = tt

-- the home of a local transaction is its declared site
pub local-site-of : (scenario : Scenario) (tx : Tx) (home : Home) → local_home scenario tx ≡ Some home → local_site scenario tx ≡ Some home.site
local-site-of scenario tx home e = of_site (local_site scenario tx) e
  where
    of_site : (o : Option SiteId) → home_at scenario o ≡ Some home → o ≡ Some home.site
    of_site None e = cc
    of_site (Some s) e = ap (λ z. Some z) (sym (home_is-site scenario s home e))

-- why an event of a local attempt comes at its home
local-cause : (scenario : Scenario) → IsScenario scenario → (story : Story) (home : Home) (t : Tid) (event : SiteEvent) → local_home scenario t.tx ≡ Some home → SiteCause scenario story home event → Cause home (past_of home.site story) t (program_of scenario t.tx) event
local-cause scenario good story home t event here c =
    record {
      begins = λ e. let k = subst (SiteCause scenario story home) e c in k.next;
      acts = λ act run e alive.
          let k = subst (SiteCause scenario story home) e c in
          let tx : t.tx ≡ k.tx = same_tx-equal t.tx k.tx (live_of_tx-is home (past_of home.site story) k.tx t k.found_live) in
          let same : k.run ≡ run = some_parts (sym k.is_live ∙ alive) in
          let place = subst (λ z. item_at (program_of scenario z) (done k.run) ≡ Some k.step) (sym tx) k.is_next in (
            k.step,
            subst (λ (r : Run). item_at (program_of scenario t.tx) (done r) ≡ Some k.step) same place,
            subst (λ (r : Run). act ≡ plain_act (run_reads r) k.step.act) same k.is_act,
            local-at-home scenario good t.tx home.site (local-site-of scenario t.tx home here) k.step (item_at-in (program_of scenario t.tx) (done k.run) k.step place),
          );
      commits = λ run e alive.
          let k = subst (SiteCause scenario story home) e c in
          let tx : t.tx ≡ k.tx = same_tx-equal t.tx k.tx (live_of_tx-is home (past_of home.site story) k.tx t k.found_live) in
          let same : k.run ≡ run = some_parts (sym k.is_live ∙ alive) in
          subst (λ (r : Run). nat_lt (done r) (length (program_of scenario t.tx)) ≡ false) same
          (subst (λ z. nat_lt (done k.run) (length (program_of scenario z)) ≡ false) (sym tx) k.all);
    }

-- after a line of the site
local-here : (scenario : Scenario) → IsScenario scenario → (commands : List Command) (home : Home) (t : Tid) (x : SiteHappening) (event : SiteEvent) → local_home scenario t.tx ≡ Some home → x ≡ site_line home (past_of home.site (story_of scenario commands)) event → SiteCause scenario (story_of scenario commands) home event
    → LocalHolds home (past_of home.site (story_of scenario commands)) t (program_of scenario t.tx) → LocalHolds home (x ∷ past_of home.site (story_of scenario commands)) t (program_of scenario t.tx)
local-here scenario good commands home t x event here is c h =
    let past = past_of home.site (story_of scenario commands) in
    let made = subst (λ (y : SiteHappening). Made home past t event y) (sym is) (local-made home past t event (not-asked scenario good commands t home home event here c)) in
    local-next home past t (program_of scenario t.tx) event x made.move (local-cause scenario good (story_of scenario commands) home t event here c) h

local-site-line : (scenario : Scenario) → IsScenario scenario → (commands : List Command) (home : Home) (t : Tid) (s : SiteId) (x : SiteHappening) → home_of scenario home.site ≡ Some home → local_home scenario t.tx ≡ Some home → IsSiteLine scenario (story_of scenario commands) s x
    → LocalHolds home (past_of home.site (story_of scenario commands)) t (program_of scenario t.tx) → (b : Bool) → same_site s home.site ≡ b
    → LocalHolds home (cond b (x ∷ past_of home.site (story_of scenario commands)) (past_of home.site (story_of scenario commands))) t (program_of scenario t.tx)
local-site-line scenario good commands home t s x declared here line h true q =
    let own : line.home.site ≡ home.site = sym line.here ∙ same_site-equal s home.site q in
    let same : line.home ≡ home = some_parts (sym line.declared ∙ (ap (home_of scenario) own ∙ declared)) in
    local-here scenario good commands home t x line.event here
    (subst (λ (z : Home). x ≡ site_line z (past_of z.site (story_of scenario commands)) line.event) same line.is_next)
    (subst (λ z. SiteCause scenario (story_of scenario commands) z line.event) same line.cause) h
local-site-line scenario good commands home t s x declared here line h false q = h

local-happened : (scenario : Scenario) → IsScenario scenario → (commands : List Command) (happened : Happened) (home : Home) (t : Tid) → home_of scenario home.site ≡ Some home → local_home scenario t.tx ≡ Some home → IsLine scenario (story_of scenario commands) happened → LocalHolds home (past_of home.site (story_of scenario commands)) t (program_of scenario t.tx)
    → LocalHolds home (with_site home.site happened (past_of home.site (story_of scenario commands))) t (program_of scenario t.tx)
local-happened scenario good commands (AtSite s x) home t declared here line h = local-site-line scenario good commands home t s x declared here line h (same_site s home.site) refl
local-happened scenario good commands (AtCoordinator x) home t declared here line h = h
local-happened scenario good commands (Nowhere answer) home t declared here line h = h

-- in every story a local attempt follows its program
pub local-story : (scenario : Scenario) → IsScenario scenario → (commands : List Command) (home : Home) (t : Tid) → local_home scenario t.tx ≡ Some home → LocalHolds home (past_of home.site (story_of scenario commands)) t (program_of scenario t.tx)
local-story scenario good [] home t here = local-first home t (program_of scenario t.tx)
local-story scenario good (command ∷ commands) home t here =
    local-happened scenario good commands _ home t (local_home-declared scenario t.tx home here) here (line_is scenario (story_of scenario commands) command) (local-story scenario good commands home t here)

-- a Local record is of a local attempt at its home
record-here : (scenario : Scenario) (story : Story) (home : Home) (x : SiteHappening) (event : SiteEvent) (t : Tid) → x ≡ site_line home (past_of home.site story) event → SiteCause scenario story home event → IsLocal (records home (x ∷ past_of home.site story)) t
    → (IsLocal (records home (past_of home.site story)) t → local_home scenario t.tx ≡ Some home) → local_home scenario t.tx ≡ Some home
record-here scenario story home x event t is c l old = of_case (record-from x.calls (disk home (past_of home.site story)) (Rec.Local t l.number l.writes) l.kept)
  where
    of_case : In (Rec.Local t l.number l.writes) (records home (past_of home.site story)) ⊎ Among (λ call. call ≡ Append (Rec.Local t l.number l.writes)) x.calls → local_home scenario t.tx ≡ Some home
    of_case (inl kept) = old (record { number = l.number; writes = l.writes; kept = kept })
    of_case (inr new) =
        let commit = local-by-commit home (past_of home.site story) event t l.number l.writes (subst (λ (y : SiteHappening). Among (λ call. call ≡ Append (Rec.Local t l.number l.writes)) y.calls) is new) in
        let k = subst (SiteCause scenario story home) commit c in
        let tx : t.tx ≡ k.tx = same_tx-equal t.tx k.tx (live_of_tx-is home (past_of home.site story) k.tx t k.found_live) in
        ap (local_home scenario) tx ∙ k.here

record-site-line : (scenario : Scenario) (story : Story) (home : Home) (s : SiteId) (x : SiteHappening) (t : Tid) → home_of scenario home.site ≡ Some home → IsSiteLine scenario story s x → (IsLocal (records home (past_of home.site story)) t → local_home scenario t.tx ≡ Some home) → (b : Bool) → same_site s home.site ≡ b
    → IsLocal (records home (cond b (x ∷ past_of home.site story) (past_of home.site story))) t → local_home scenario t.tx ≡ Some home
record-site-line scenario story home s x t declared line old true q l =
    let own : line.home.site ≡ home.site = sym line.here ∙ same_site-equal s home.site q in
    let same : line.home ≡ home = some_parts (sym line.declared ∙ (ap (home_of scenario) own ∙ declared)) in
    record-here scenario story home x line.event t
    (subst (λ (z : Home). x ≡ site_line z (past_of z.site story) line.event) same line.is_next)
    (subst (λ z. SiteCause scenario story z line.event) same line.cause) l old
record-site-line scenario story home s x t declared line old false q l = old l

record-happened : (scenario : Scenario) (story : Story) (happened : Happened) (home : Home) (t : Tid) → home_of scenario home.site ≡ Some home → IsLine scenario story happened → (IsLocal (records home (past_of home.site story)) t → local_home scenario t.tx ≡ Some home) → IsLocal (records home (with_site home.site happened (past_of home.site story))) t → local_home scenario t.tx ≡ Some home
record-happened scenario story (AtSite s x) home t declared line old l = record-site-line scenario story home s x t declared line old (same_site s home.site) refl l
record-happened scenario story (AtCoordinator x) home t declared line old l = old l
record-happened scenario story (Nowhere answer) home t declared line old l = old l

pub local-record : (scenario : Scenario) (commands : List Command) (home : Home) (t : Tid) → home_of scenario home.site ≡ Some home → IsLocal (records home (past_of home.site (story_of scenario commands))) t → local_home scenario t.tx ≡ Some home
local-record scenario [] home t declared l = elim l.kept [ inl e ↦ cc | inr i ↦ elim i [ inl e ↦ cc | inr j ↦ absurd j ] ]
local-record scenario (command ∷ commands) home t declared l =
    record-happened scenario (story_of scenario commands) _ home t declared (line_is scenario (story_of scenario commands) command) (local-record scenario commands home t declared) l
