-- In every story the coordinator holds each attempt to its program, and agrees with each site on a global one.
use Rattle.std.proofs.Common.{◌≡◌, ◌⊎◌, ℕ, ◌<◌, Bool, true, false, cond, not, ◌&&◌, Option, Some, None, List, [], ◌∷◌, ◌++◌, inl, inr, refl, sym, ap, subst, ◌∙◌, arith}
use Rattle.std.proofs.lemmas.Bool.{and_parts}
use Rattle.mdb_base.specs.declared.acts.Step.{Step}
use Rattle.mdb_base.specs.declared.names.SiteId.{SiteId}
use Rattle.mdb_base.specs.declared.names.Tid.{Tid}
use Rattle.mdb_base.specs.declared.names.Tx.{Tx}
use Rattle.mdb_base.specs.declared.replies.Reply.{Reply}
use Rattle.mdb_base.specs.Names.{same_site, same_tid, same_tx}
use Rattle.mdb_base.specs.Words.{Among, map_some, first_where}
use Rattle.order_laws.specs.Chains.{In}
use Rattle.order_laws.proofs.ForCallers.{first_or_second, first_where_some}
use Rattle.fed_rules.specs.declared.commands.Command.{Command}
use Rattle.fed_rules.specs.declared.events.CoordEvent.TheVariants as To_coord
use Rattle.fed_rules.specs.declared.events.SiteEvent.{SiteEvent}
use Rattle.fed_rules.specs.declared.events.SiteEvent.TheVariants as To_site
use Rattle.fed_rules.specs.declared.messages.FromSite.TheVariants as From
use Rattle.fed_rules.specs.declared.messages.ToSite.{ToSite}
use Rattle.fed_rules.specs.declared.scenario.Scenario.{Scenario}
use Rattle.fed_rules.specs.CoordPast.{CoordHappening, begins, begun_by, begun_tids, attempts_of, program_in, or_steps, program, visits}
use Rattle.fed_rules.specs.Disk.{empty_disk}
use Rattle.fed_rules.specs.Plans.{IsScenario}
use Rattle.fed_rules.specs.Runs.{Run, unended, is_sealed}
use Rattle.fed_rules.specs.Scenarios.{home_of, local_site, local_home, home_at, program_of, policy, protocols}
use Rattle.fed_rules.specs.Site.{site_line}
use Rattle.fed_rules.specs.SitePast.{SiteHappening, SitePast, set_up_calls, epoch_start, engine_lines, live_of_tx}
use Rattle.fed_rules.specs.SiteRecords.{Home, site_frame}
use Rattle.fed_rules.specs.Story.{Story, Happened, AtSite, AtCoordinator, Nowhere, past_of, with_site, coord_past, sent_to, sends_to, sent_from, sends_from, story_of}
use Rattle.commit_laws.specs.Records.{IsLooseEnded}
use Rattle.fed_rules.proofs.ForCallers.{firm_quiet}
use Rattle.commit_laws.proofs.ForCallers.{Line, site-lines}
use Rattle.federation_laws.proofs.Agreement.{Agrees, agrees-site}
use Rattle.federation_laws.proofs.CoordAgreement.{agrees-coord}
use Rattle.federation_laws.proofs.CoordEffects.{program-stays, effect}
use Rattle.federation_laws.proofs.CoordHolds.{is_begun, Holds, holds-first, holds-next, IsFresh, AreDeclared, begun-next, begins-answer}
use Rattle.coord_laws.proofs.ForCallers.{Begins, IsMade, begun_number, coord_made, more_attempts}
use Rattle.federation_laws.proofs.ScenarioFacts.{global_program-is, global-declared}
use Rattle.federation_laws.proofs.SiteLines.{IsForeign, site_moves}
use Rattle.federation_laws.proofs.SiteMoves.{Moves}
use Rattle.federation_laws.proofs.SiteRuns.{RunsHold}
use Rattle.federation_laws.proofs.Told.{CoordCause, SiteCause, IsCoordLine, IsSiteLine, IsLine, line_is}
use Rattle.std.proofs.lemmas.List.{append-nil}
use Rattle.mdb_base.proofs.ForCallers.{same_site-equal, same_tid-equal, same_tid-refl, same_tx-equal, some_parts}

-- what holds of an attempt at the coordinator of a story
pub record StoryHolds (scenario : Scenario) (story : Story) (g : Tid) : Type 0 where
  pub holds : Holds (coord_past story) g
  pub numbered : is_begun (coord_past story) g ≡ true → g.attempt < attempts_of (coord_past story) g.tx
  pub programmed : is_begun (coord_past story) g ≡ true → (program (coord_past story) g ≡ program_of scenario g.tx) × (local_site scenario g.tx ≡ None)

-- how many attempts there are after a line
-- an attempt that begins is the next one of its transaction
record Beginning (scenario : Scenario) (story : Story) (g : Tid) (x : CoordHappening) : Type 0 where
  steps : List Step
  heard : x.event ≡ To_coord.Go g steps
  next : g.attempt ≡ attempts_of (coord_past story) g.tx
  known : (program_of scenario g.tx ≡ steps) × (local_site scenario g.tx ≡ None)

beginning : (scenario : Scenario) (story : Story) (g : Tid) (x : CoordHappening) (line : IsCoordLine scenario story x) → IsMade (protocols scenario) (coord_past story) line.event x → begins g x.answer ≡ true → Beginning scenario story g x
beginning scenario story g x line made e =
    let (tid, is) = begins-answer g x.answer e in
    let own : tid ≡ g = same_tid-equal tid g (sym (ap (begins g) is) ∙ e) in
    let go = subst (Begins line.event) is made.begun in
    let at : line.event ≡ To_coord.Go g go.0 = go.1 ∙ ap (λ t. To_coord.Go t go.0) own in
    let cause : CoordCause scenario story (To_coord.Go g go.0) = subst (CoordCause scenario story) at line.cause in
    record { steps = go.0; heard = made.heard ∙ at; next = cause.1; known = global_program-is scenario g.tx go.0 cause.0 }

pub fresh-line : (scenario : Scenario) (story : Story) (g : Tid) (x : CoordHappening) (line : IsCoordLine scenario story x) → IsMade (protocols scenario) (coord_past story) line.event x → StoryHolds scenario story g → IsFresh (coord_past story) g x
fresh-line scenario story g x line made h e = by_test (is_begun (coord_past story) g) refl
  where
    by_test : (t : Bool) → is_begun (coord_past story) g ≡ t → is_begun (coord_past story) g ≡ false
    by_test true k = (let next = (beginning scenario story g x line made e).next in let below = h.numbered k in absurd (omega (arith, next, below)))
    by_test false k = k

-- the sites of an attempt's program are participants
pub declared-program : (scenario : Scenario) → IsScenario scenario → (story : Story) (g : Tid) → StoryHolds scenario story g → AreDeclared (protocols scenario) (program (coord_past story) g)
declared-program scenario good story g h s v = by_test (is_begun (coord_past story) g) refl
  where
    by_test : (t : Bool) → is_begun (coord_past story) g ≡ t → Among (λ p. p.site ≡ s) (protocols scenario)
    by_test true k = (let p = h.programmed k in global-declared scenario good g.tx p.1 s (ap (visits s) (sym p.0) ∙ v))
    by_test false k = (let none = ap (visits s) (h.holds.unbegun k) in let clash = sym v ∙ none in cc)

pub coord-made : (scenario : Scenario) (story : Story) (x : CoordHappening) (line : IsCoordLine scenario story x) → IsMade (protocols scenario) (coord_past story) line.event x
coord-made scenario story x line = subst (λ (y : CoordHappening). IsMade (protocols scenario) (coord_past story) line.event y) (sym line.is_next) (coord_made (protocols scenario) (policy scenario) (coord_past story) line.event)

-- a line of the coordinator keeps what holds
coord-holds : (scenario : Scenario) → IsScenario scenario → (story : Story) (g : Tid) (x : CoordHappening) → IsCoordLine scenario story x → StoryHolds scenario story g → (Holds (x ∷ coord_past story) g)
    × (is_begun (x ∷ coord_past story) g ≡ true → g.attempt < attempts_of (x ∷ coord_past story) g.tx)
    × (is_begun (x ∷ coord_past story) g ≡ true → (program (x ∷ coord_past story) g ≡ program_of scenario g.tx) × (local_site scenario g.tx ≡ None))
coord-holds scenario good story g x line h = (
  holds-next (protocols scenario) (coord_past story) g line.event x made (fresh-line scenario story g x line made h) (declared-program scenario good story g h) h.holds,
  λ k. numbered (first_or_second (begins g x.answer) (is_begun (coord_past story) g) (sym (begun-next (coord_past story) g x) ∙ k)),
  λ k. programmed (first_or_second (begins g x.answer) (is_begun (coord_past story) g) (sym (begun-next (coord_past story) g x) ∙ k)),
)
  where
    made : IsMade (protocols scenario) (coord_past story) line.event x
    made = coord-made scenario story x line

    numbered : (begins g x.answer ≡ true) ⊎ ((begins g x.answer ≡ false) × (is_begun (coord_past story) g ≡ true)) → g.attempt < attempts_of (x ∷ coord_past story) g.tx
    numbered (inl e) =
        let next = (beginning scenario story g x line made e).next in
        let one = begun_number g x.answer (begun_tids (coord_past story)) e in omega (arith, next, one)
    numbered (inr e) =
        let below = h.numbered e.1 in
        let more = more_attempts g.tx (begun_by x.answer) (begun_tids (coord_past story)) in omega (arith, below, more)

    programmed : (begins g x.answer ≡ true) ⊎ ((begins g x.answer ≡ false) × (is_begun (coord_past story) g ≡ true)) → (program (x ∷ coord_past story) g ≡ program_of scenario g.tx) × (local_site scenario g.tx ≡ None)
    programmed (inl e) =
        let b = beginning scenario story g x line made e in
        let steps_are : program (x ∷ coord_past story) g ≡ b.steps =
        ap (λ t. cond t (or_steps (program_in g x.event) []) (program (coord_past story) g)) e
        ∙ (ap (λ ev. or_steps (program_in g ev) []) b.heard ∙ ap (λ t. or_steps (cond t (Some b.steps) None) []) (same_tid-refl g)) in
        (steps_are ∙ sym b.known.0, b.known.1)
    programmed (inr e) = let p = h.programmed e.1 in (program-stays (coord_past story) g x e.0 ∙ p.0, p.1)

holds-happened : (scenario : Scenario) → IsScenario scenario → (story : Story) (command : Command) (happened : Happened) (g : Tid) → IsLine scenario story happened → StoryHolds scenario story g → StoryHolds scenario (record { command = command; happened = happened } ∷ story) g
holds-happened scenario good story command (AtSite s x) g line h = record { holds = h.holds; numbered = h.numbered; programmed = h.programmed }
holds-happened scenario good story command (AtCoordinator x) g line h = let r = coord-holds scenario good story g x line h in record { holds = r.0; numbered = r.1; programmed = r.2 }
holds-happened scenario good story command (Nowhere answer) g line h = record { holds = h.holds; numbered = h.numbered; programmed = h.programmed }

pub story-holds : (scenario : Scenario) → IsScenario scenario → (commands : List Command) (g : Tid) → StoryHolds scenario (story_of scenario commands) g
story-holds scenario good [] g = record { holds = holds-first g; numbered = λ e. cc; programmed = λ e. cc }
story-holds scenario good (command ∷ commands) g =
    holds-happened scenario good (story_of scenario commands) command _ g (line_is scenario (story_of scenario commands) command) (story-holds scenario good commands g)

-- a site and the coordinator of a story agree on an attempt
abbrev pub AgreesIn : Story → Home → Tid → Type 0
AgreesIn story home g = Agrees home (past_of home.site story) (coord_past story) (sent_to home.site story) (sent_from home.site story) g

first-runs : (home : Home) (g : Tid) → RunsHold home [] g
first-runs home g =
    record {
      firm = firm_quiet site_frame (IsLooseEnded home.protocol) empty_disk (set_up_calls home) (inr tt) (record { sound = record { frames = omega arith; synced = omega arith }; loose = tt });
      some = omega arith;
      zeroth = refl;
      future = λ e less. refl;
      quiet = λ none over up. refl;
      now = λ run e. cc;
    }

agrees-first : (home : Home) (g : Tid) → AgreesIn [] home g
agrees-first home g =
    record { runs = first-runs home g; asked = record { begun = tt; old = λ d. tt }; said = tt; from = λ e. tt; behind = λ d. ([], refl); sealed = λ e. cc }

-- the live attempt of a transaction is one of it
pub live_of_tx-is : (home : Home) (past : SitePast) (tx : Tx) (tid : Tid) → live_of_tx home past tx ≡ Some tid → same_tx tid.tx tx ≡ true
live_of_tx-is home past tx tid e = of_first (first_where (λ run. same_tx run.tid.tx tx && not (is_sealed run)) (unended (epoch_start home past) (engine_lines past))) refl e
  where
    of_first : (o : Option Run) → first_where (λ run. same_tx run.tid.tx tx && not (is_sealed run)) (unended (epoch_start home past) (engine_lines past)) ≡ o → map_some (λ run. run.tid) o ≡ Some tid → same_tx tid.tx tx ≡ true
    of_first None q e = cc
    of_first (Some run) q e =
        let test = (first_where_some (λ (run : Run). same_tx run.tid.tx tx && not (is_sealed run)) (unended (epoch_start home past) (engine_lines past)) run q).1 in
        let is : run.tid ≡ tid = some_parts e in
        subst (λ (t : Tid). same_tx t.tx tx ≡ true) is (and_parts (same_tx run.tid.tx tx) (not (is_sealed run)) test).0

-- an attempt of a local transaction is no global one
local-other : (scenario : Scenario) (g tid : Tid) (home : Home) → local_site scenario g.tx ≡ None → local_home scenario tid.tx ≡ Some home → same_tid tid g ≡ false
local-other scenario g tid home none here = by_test (same_tid tid g) refl
  where
    by_test : (t : Bool) → same_tid tid g ≡ t → same_tid tid g ≡ false
    by_test true q = (let own = same_tid-equal tid g q in let clash = sym (ap (λ (t : Tid). local_home scenario t.tx) own ∙ ap (home_at scenario) none) ∙ here in cc)
    by_test false q = q

-- no event of a site is one of a global attempt as a local one
foreign : (scenario : Scenario) (story : Story) (home : Home) (g : Tid) (event : SiteEvent) → local_site scenario g.tx ≡ None → SiteCause scenario story home event → IsForeign g event
foreign scenario story home g (To_site.Begin tid) none c = local-other scenario g tid home none c.here
foreign scenario story home g (To_site.Act tid act) none c = local-other scenario g tid home none (ap (local_home scenario) (same_tx-equal tid.tx c.tx (live_of_tx-is home (past_of home.site story) c.tx tid c.found_live)) ∙ c.here)
foreign scenario story home g (To_site.Commit tid) none c = local-other scenario g tid home none (ap (local_home scenario) (same_tx-equal tid.tx c.tx (live_of_tx-is home (past_of home.site story) c.tx tid c.found_live)) ∙ c.here)
foreign scenario story home g (To_site.Abort tid) none c = local-other scenario g tid home none (ap (local_home scenario) (same_tx-equal tid.tx c.tx (live_of_tx-is home (past_of home.site story) c.tx tid c.found_live)) ∙ c.here)
foreign scenario story home g (To_site.Fate tx) none c = tt
foreign scenario story home g (To_site.Give message) none c = tt
foreign scenario story home g (To_site.Ask tid) none c = tt
foreign scenario story home g (To_site.Drop tid) none c = tt
foreign scenario story home g (To_site.Halt cut) none c = tt
foreign scenario story home g (To_site.Trip calls cut) none c = tt
foreign scenario story home g To_site.Back none c = tt
foreign scenario story home g To_site.Check none c = tt

given-sent : (scenario : Scenario) (story : Story) (home : Home) (event : SiteEvent) → SiteCause scenario story home event → (message : ToSite) → event ≡ To_site.Give message → In message (sent_to home.site story)
given-sent scenario story home event c message e = subst (SiteCause scenario story home) e c

-- after a line of this site
agrees-here : (scenario : Scenario) (story : Story) (home : Home) (g : Tid) (x : SiteHappening) (event : SiteEvent) → local_site scenario g.tx ≡ None → StoryHolds scenario story g → x ≡ site_line home (past_of home.site story) event → SiteCause scenario story home event → AgreesIn story home g
    → Agrees home (x ∷ past_of home.site story) (coord_past story) (sent_to home.site story) (sent_from home.site story ++ x.sends) g
agrees-here scenario story home g x event none h is c a =
    let past = past_of home.site story in
    let moves = subst (λ (y : SiteHappening). Moves home g past event y) (sym is) (site_moves home g past event (foreign scenario story home g event none c)) in
    let line = subst (λ (y : SiteHappening). Line home g past event y) (sym is) (site-lines home g past event a.runs.firm) in
    agrees-site home past g event x (coord_past story) (sent_to home.site story) (sent_from home.site story) h.holds (given-sent scenario story home event c) moves line a

agrees-site-line : (scenario : Scenario) (story : Story) (home : Home) (g : Tid) (s : SiteId) (x : SiteHappening) → home_of scenario home.site ≡ Some home → local_site scenario g.tx ≡ None → StoryHolds scenario story g → IsSiteLine scenario story s x → AgreesIn story home g → (t : Bool) → same_site s home.site ≡ t
    → Agrees home (cond t (x ∷ past_of home.site story) (past_of home.site story)) (coord_past story) (sent_to home.site story) (sent_from home.site story ++ cond t x.sends []) g
agrees-site-line scenario story home g s x declared none h line a true q =
    let own : line.home.site ≡ home.site = sym line.here ∙ same_site-equal s home.site q in
    let same : line.home ≡ home = some_parts (sym line.declared ∙ (ap (home_of scenario) own ∙ declared)) in
    agrees-here scenario story home g x line.event none h
    (subst (λ (z : Home). x ≡ site_line z (past_of z.site story) line.event) same line.is_next)
    (subst (λ z. SiteCause scenario story z line.event) same line.cause) a
agrees-site-line scenario story home g s x declared none h line a false q =
    subst (λ ms. Agrees home (past_of home.site story) (coord_past story) (sent_to home.site story) ms g) (sym (append-nil (sent_from home.site story))) a

-- after any line
agrees-happened : (scenario : Scenario) → IsScenario scenario → (story : Story) (command : Command) (happened : Happened) (home : Home) (g : Tid) → home_of scenario home.site ≡ Some home → local_site scenario g.tx ≡ None → IsLine scenario story happened → StoryHolds scenario story g → StoryHolds scenario (record { command = command; happened = happened } ∷ story) g → AgreesIn story home g → AgreesIn (record { command = command; happened = happened } ∷ story) home g
agrees-happened scenario good story command (AtSite s x) home g declared none line h now a =
    let r = agrees-site-line scenario story home g s x declared none h line a (same_site s home.site) refl in
    subst (λ ms. Agrees home (with_site home.site (AtSite s x) (past_of home.site story)) (coord_past story) ms (sent_from home.site story ++ sends_from home.site (AtSite s x)) g) (sym (append-nil (sent_to home.site story))) r
agrees-happened scenario good story command (AtCoordinator x) home g declared none line h now a =
    let made = coord-made scenario story x line in
    let r = agrees-coord home (past_of home.site story) (coord_past story) g x (sent_to home.site story) (sent_from home.site story) h.holds now.holds (fresh-line scenario story g x line made h) made.sends (heard made.heard) (effect (coord_past story) g x line.event made.heard made.counted) a in
    subst (λ ms. Agrees home (past_of home.site story) (x ∷ coord_past story) (sent_to home.site story ++ sends_to home.site (AtCoordinator x)) ms g) (sym (append-nil (sent_from home.site story))) r
  where
    heard : x.event ≡ line.event → (epoch n : ℕ) (reply : Reply) → x.event ≡ To_coord.Take home.site (From.Did g epoch n reply) → In (From.Did g epoch n reply) (sent_from home.site story)
    heard is epoch n reply e = subst (CoordCause scenario story) (sym is ∙ e) line.cause
agrees-happened scenario good story command (Nowhere answer) home g declared none line h now a =
    subst (λ ms. Agrees home (past_of home.site story) (coord_past story) ms (sent_from home.site story ++ []) g) (sym (append-nil (sent_to home.site story)))
    (subst (λ ms. Agrees home (past_of home.site story) (coord_past story) (sent_to home.site story) ms g) (sym (append-nil (sent_from home.site story))) a)

-- in every story each declared site agrees with the coordinator on each global attempt
pub story-agrees : (scenario : Scenario) → IsScenario scenario → (commands : List Command) (home : Home) (g : Tid) → home_of scenario home.site ≡ Some home → local_site scenario g.tx ≡ None → AgreesIn (story_of scenario commands) home g
story-agrees scenario good [] home g declared none = agrees-first home g
story-agrees scenario good (command ∷ commands) home g declared none =
    agrees-happened scenario good (story_of scenario commands) command _ home g declared none (line_is scenario (story_of scenario commands) command)
    (story-holds scenario good commands g) (story-holds scenario good (command ∷ commands) g) (story-agrees scenario good commands home g declared none)
