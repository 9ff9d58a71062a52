-- Commands behind which every actor is still ready, and nothing came up anew.
use Rattle.std.proofs.Common.{◌≡◌, ℕ, Bool, true, false, cond, ◌||◌, Option, Some, None, [], ◌∷◌, refl, sym, ap, subst, ◌∙◌}
use Rattle.mdb_base.specs.declared.names.SiteId.{SiteId}
use Rattle.mdb_base.specs.declared.names.Tid.{Tid}
use Rattle.mdb_base.specs.declared.names.Tx.{Tx}
use Rattle.mdb_base.specs.Names.{same_site}
use Rattle.mdb_base.specs.Words.{when, given, item_at}
use Rattle.mdb_base.proofs.ForCallers.{item_at-front, same_site-equal, some_parts}
use Rattle.presumptions.specs.declared.Decision.{Decision}
use Rattle.fed_rules.specs.declared.answers.Answer.{Answer}
use Rattle.fed_rules.specs.declared.answers.Answer.TheVariants as Say
use Rattle.fed_rules.specs.declared.commands.Command.{Command}
use Rattle.fed_rules.specs.declared.commands.Command.TheVariants as Cmd
use Rattle.fed_rules.specs.declared.events.SiteEvent.{SiteEvent}
use Rattle.fed_rules.specs.declared.events.SiteEvent.TheVariants as Ev
use Rattle.fed_rules.specs.declared.messages.ToSite.{ToSite}
use Rattle.fed_rules.specs.declared.messages.ToSite.TheVariants as To
use Rattle.fed_rules.specs.declared.scenario.Scenario.{Scenario}
use Rattle.fed_rules.specs.CoordPast as Coordinator
use Rattle.fed_rules.specs.CoordPast.{CoordHappening, CoordPast, Standing, Undecided, Decided, Gone, standing, begun_tids}
use Rattle.fed_rules.specs.Scenarios.{home_of, protocols}
use Rattle.fed_rules.specs.Site.{site_line, of_give}
use Rattle.fed_rules.specs.SitePast.{SiteHappening, records, live, trip_of, is_local}
use Rattle.fed_rules.specs.SiteRecords.{Home, doubt_of}
use Rattle.fed_rules.specs.Story.{Story, Happened, AtSite, AtCoordinator, Nowhere, past_of, coord_past, sent_to, sends_to, at_site, on_site, on_give, happens}
use Rattle.commit_laws.proofs.ForCallers.{home-again}
use Rattle.closing_laws.proofs.Calm.{IsReady, ready_next, gives, aborts_here, drops, asks, IsMild, decide_mild, abort_mild, drop_mild, ask_mild, IsCoordMild}
use Rattle.coord_laws.proofs.ForCallers.{is_undecided}
use Rattle.fed_rules.specs.Lines.{IsLine}
use Rattle.fed_rules.proofs.ForCallers.{line_is}

-- every actor is up, and no trip is armed
pub record IsCalm (story : Story) : Type 0 where
  pub coordinator : IsReady Coordinator.trip_of (coord_past story)
  pub sites : (site : SiteId) → IsReady trip_of (past_of site story)

-- what happens is a mild line of a declared site or of the coordinator, or no line of them
abbrev pub Mildly : Scenario → Story → Happened → Type 0
Mildly scenario story (AtSite at x) = (home : Home) × (home_of scenario home.site ≡ Some home) × (at ≡ home.site) × IsMild home (past_of home.site story) x
Mildly scenario story (AtCoordinator x) = IsCoordMild (protocols scenario) (coord_past story) x
Mildly scenario story (Nowhere answer) = Unit {0}

pub record IsGentle (scenario : Scenario) (story : Story) (happened : Happened) : Type 0 where
  pub mildly : Mildly scenario story happened

-- from one story to a longer one every actor stays ready, what isn't live, in doubt, known or undecided stays so, and what was sent was sent
pub record Onward (scenario : Scenario) (before now : Story) : Type 0 where
  pub calm : IsCalm now
  pub quiets : (home : Home) (tid : Tid) → home_of scenario home.site ≡ Some home → live home (past_of home.site before) tid ≡ None → live home (past_of home.site now) tid ≡ None
  pub settles : (home : Home) (tid : Tid) → home_of scenario home.site ≡ Some home → doubt_of (records home (past_of home.site before)) tid ≡ None
      → doubt_of (records home (past_of home.site now)) tid ≡ None
  pub gone : (tid : Tid) → standing (protocols scenario) (coord_past before) tid ≡ Gone → standing (protocols scenario) (coord_past now) tid ≡ Gone
  pub decided : (tid : Tid) → is_undecided (standing (protocols scenario) (coord_past before) tid) ≡ false → is_undecided (standing (protocols scenario) (coord_past now) tid) ≡ false
  pub locals : (site : SiteId) (tid : Tid) → is_local (past_of site now) tid ≡ is_local (past_of site before) tid
  pub sent : (site : SiteId) (n : ℕ) (message : ToSite) → item_at (sent_to site before) n ≡ Some message → item_at (sent_to site now) n ≡ Some message

pub onward_here : (scenario : Scenario) (story : Story) → IsCalm story → Onward scenario story story
onward_here scenario story c = record { calm = c; quiets = λ home tid d e. e; settles = λ home tid d e. e; gone = λ tid e. e; decided = λ tid e. e; locals = λ site tid. refl; sent = λ site n m e. e }

pub onward_on : (scenario : Scenario) (a b c : Story) → Onward scenario a b → Onward scenario b c → Onward scenario a c
onward_on scenario a b c p q = record {
  calm = q.calm;
  quiets = λ home tid d e. q.quiets home tid d (p.quiets home tid d e);
  settles = λ home tid d e. q.settles home tid d (p.settles home tid d e);
  gone = λ tid e. q.gone tid (p.gone tid e);
  decided = λ tid e. q.decided tid (p.decided tid e);
  locals = λ site tid. q.locals site tid ∙ p.locals site tid;
  sent = λ site n m e. q.sent site n m (p.sent site n m e);
}

-- one home for a site
pub one_home : (scenario : Scenario) (a b : Home) → home_of scenario a.site ≡ Some a → home_of scenario b.site ≡ Some b → a.site ≡ b.site → a ≡ b
one_home scenario a b e f same = some_parts (sym e ∙ (ap (home_of scenario) same ∙ f))

-- one more gentle line
pub onward_next : (scenario : Scenario) (story : Story) (command : Command) (happened : Happened) → IsCalm story → IsGentle scenario story happened
    → Onward scenario story (record { command = command; happened = happened } ∷ story)
onward_next scenario story command (Nowhere answer) c g = record {
  calm = record { coordinator = c.coordinator; sites = c.sites };
  quiets = λ home tid d e. e;
  settles = λ home tid d e. e;
  gone = λ tid e. e;
  decided = λ tid e. e;
  locals = λ site tid. refl;
  sent = λ site n m e. item_at-front (sent_to site story) [] n m e;
}
onward_next scenario story command (AtCoordinator x) c g = record {
  calm = record { coordinator = ready_next Coordinator.trip_of (coord_past story) x g.mildly.stays g.mildly.unarmed c.coordinator; sites = c.sites };
  quiets = λ home tid d e. e;
  settles = λ home tid d e. e;
  gone = λ tid e. g.mildly.gone tid e;
  decided = λ tid e. g.mildly.decided tid e;
  locals = λ site tid. refl;
  sent = λ site n m e. item_at-front (sent_to site story) (sends_to site (AtCoordinator x)) n m e;
}
onward_next scenario story command (AtSite at x) c g = record {
  calm = record { coordinator = c.coordinator; sites = λ site. ready site (same_site at site) refl };
  quiets = λ home tid d e. calm_run home tid d e (same_site at home.site) refl;
  settles = λ home tid d e. calm_doubt home tid d e (same_site at home.site) refl;
  gone = λ tid e. e;
  decided = λ tid e. e;
  locals = λ site tid. same_locals site tid (same_site at site);
  sent = λ site n m e. item_at-front (sent_to site story) [] n m e;
}
  where
    own : Home
    own = g.mildly.0

    mild : IsMild own (past_of own.site story) x
    mild = g.mildly.3

    same_home : (home : Home) → home_of scenario home.site ≡ Some home → same_site at home.site ≡ true → own ≡ home
    same_home home d q = one_home scenario own home g.mildly.1 d (sym g.mildly.2 ∙ same_site-equal at home.site q)

    same_locals : (site : SiteId) (tid : Tid) (b : Bool) → is_local (cond b (x ∷ past_of site story) (past_of site story)) tid ≡ is_local (past_of site story) tid
    same_locals site tid false = refl
    same_locals site tid true = ap (λ b. b || is_local (past_of site story) tid) (mild.unbegun tid.tx)

    ready : (site : SiteId) (b : Bool) → same_site at site ≡ b → IsReady trip_of (cond b (x ∷ past_of site story) (past_of site story))
    ready site false q = c.sites site
    ready site true q = ready_next trip_of (past_of site story) x mild.stays mild.unarmed (c.sites site)

    calm_run : (home : Home) (tid : Tid) → home_of scenario home.site ≡ Some home → live home (past_of home.site story) tid ≡ None → (b : Bool) → same_site at home.site ≡ b
        → live home (cond b (x ∷ past_of home.site story) (past_of home.site story)) tid ≡ None
    calm_run home tid d e false q = e
    calm_run home tid d e true q =
        let same = same_home home d q in
        subst (λ h. live h (x ∷ past_of h.site story) tid ≡ None) same (mild.quiets tid (subst (λ h. live h (past_of h.site story) tid ≡ None) (sym same) e))

    calm_doubt : (home : Home) (tid : Tid) → home_of scenario home.site ≡ Some home → doubt_of (records home (past_of home.site story)) tid ≡ None → (b : Bool) → same_site at home.site ≡ b
        → doubt_of (records home (cond b (x ∷ past_of home.site story) (past_of home.site story))) tid ≡ None
    calm_doubt home tid d e false q = e
    calm_doubt home tid d e true q =
        let same = same_home home d q in
        subst (λ h. doubt_of (records h (x ∷ past_of h.site story)) tid ≡ None) same
        (mild.settles tid (subst (λ h. doubt_of (records h (past_of h.site story)) tid ≡ None) (sym same) e))

-- branches of a rule
gentle_when : (scenario : Scenario) (story : Story) (t : Bool) (a b : Happened) → IsGentle scenario story a → IsGentle scenario story b → IsGentle scenario story (when t a b)
unfolding when
gentle_when scenario story true a b p q = p
gentle_when scenario story false a b p q = q

gentle_given : {A : Type 0} (scenario : Scenario) (story : Story) (o : Option A) (none : Happened) (some : A → Happened) → IsGentle scenario story none
    → ((x : A) → o ≡ Some x → IsGentle scenario story (some x)) → IsGentle scenario story (given o some none)
unfolding given
gentle_given scenario story None none some p q = p
gentle_given scenario story (Some x) none some p q = q x refl

pub gentle_nowhere : (scenario : Scenario) (story : Story) (answer : Answer) → IsGentle scenario story (Nowhere answer)
gentle_nowhere scenario story answer = record { mildly = tt }

-- a mild line of a declared site
pub gentle_site : (scenario : Scenario) (story : Story) (home : Home) (x : SiteHappening) → home_of scenario home.site ≡ Some home → IsMild home (past_of home.site story) x
    → IsGentle scenario story (AtSite home.site x)
gentle_site scenario story home x d m = record { mildly = (home, d, refl, m) }

-- what happens at the commands of closing
pub gentle_abort : (scenario : Scenario) (story : Story) (tx : Tx) → IsCalm story → IsGentle scenario story (happens scenario story (Cmd.Abort tx))
gentle_abort scenario story tx c = by_line (happens scenario story (Cmd.Abort tx)) (line_is scenario story (Cmd.Abort tx))
  where
    by_line : (happened : Happened) → IsLine scenario story (Cmd.Abort tx) happened → IsGentle scenario story happened
    by_line (Nowhere answer) line = gentle_nowhere scenario story answer
    by_line (AtCoordinator x) line = absurd line.cause
    by_line (AtSite site x) line =
        let home = line.home in
        let past = past_of home.site story in
        let tid = line.cause.asks.tid in
        let next : x ≡ site_line home past (Ev.Abort tid) = line.is_next ∙ ap (site_line home past) line.cause.asks.is in
        record {
          mildly = (
            home,
            line.declared,
            line.here,
            subst (IsMild home past) (sym (next ∙ aborts_here home past tid (c.sites home.site))) (abort_mild home past tid),
          );
        }

-- an event of a declared site is its next line
pub at_home : (scenario : Scenario) (story : Story) (home : Home) (event : SiteEvent) → home_of scenario home.site ≡ Some home → on_site scenario story home.site event ≡ at_site home story event
unfolding on_site given
at_home scenario story home event d = ap (λ o. given o (λ h. at_site h story event) (Nowhere Say.None)) d

-- an event of a site, where it is mild
pub gentle_on_site : (scenario : Scenario) (story : Story) (site : SiteId) (event : SiteEvent) → ((home : Home) → IsMild home (past_of home.site story) (site_line home (past_of home.site story) event))
    → IsGentle scenario story (on_site scenario story site event)
unfolding on_site
gentle_on_site scenario story site event m =
    gentle_given scenario story (home_of scenario site) _ _ (gentle_nowhere scenario story _) (λ home d. gentle_site scenario story home _ (home-again scenario site home d) (m home))

pub gentle_drop : (scenario : Scenario) (story : Story) (site : SiteId) (tid : Tid) → IsCalm story → IsGentle scenario story (happens scenario story (Cmd.Drop site tid))
unfolding happens
gentle_drop scenario story site tid c =
    gentle_on_site scenario story site (Ev.Drop tid) (λ home.
    subst (IsMild home (past_of home.site story)) (sym (drops home (past_of home.site story) tid (c.sites home.site))) (drop_mild home (past_of home.site story) tid))

pub gentle_ask : (scenario : Scenario) (story : Story) (site : SiteId) (tid : Tid) → IsCalm story → IsGentle scenario story (happens scenario story (Cmd.Ask site tid))
unfolding happens
gentle_ask scenario story site tid c =
    gentle_on_site scenario story site (Ev.Ask tid) (λ home.
    subst (IsMild home (past_of home.site story)) (sym (asks home (past_of home.site story) tid (c.sites home.site))) (ask_mild home (past_of home.site story) tid))

-- a decision that is given
pub gentle_give : (scenario : Scenario) (story : Story) (site : SiteId) (n : ℕ) (tid : Tid) (decision : Decision) → IsCalm story → item_at (sent_to site story) n ≡ Some (To.Decide tid decision)
    → IsGentle scenario story (happens scenario story (Cmd.Give site n))
unfolding happens on_give of_give
gentle_give scenario story site n tid decision c e =
    gentle_given scenario story (item_at (sent_to site story) n) _ _ (gentle_nowhere scenario story _) (λ message f.
    (let same : To.Decide tid decision ≡ message = some_parts (sym e ∙ f) in
    subst (λ m. IsGentle scenario story (on_site scenario story site (Ev.Give m))) same
    (gentle_on_site scenario story site (Ev.Give (To.Decide tid decision)) (λ home.
    subst (IsMild home (past_of home.site story)) (sym (gives home (past_of home.site story) (To.Decide tid decision) (c.sites home.site))) (decide_mild home (past_of home.site story) tid decision)))))
