-- The reads of local attempts that the lines tell of are those that their site's past tells of.
use Rattle.std.proofs.Common.{◌≡◌, ℕ, Bool, true, false, cond, is_some, Option, Some, None, List, [], ◌∷◌, ◌++◌, map, refl, sym, ◌∙◌, ap, subst, arith}
use Rattle.std.specs.BTreeMap.{insert_entry, is_at}
use Rattle.std.specs.Map.{lookup}
use Rattle.mdb_base.specs.declared.acts.PlainAct.{PlainAct}
use Rattle.mdb_base.specs.declared.names.Tid.{Tid}
use Rattle.mdb_base.specs.declared.names.Tx.{Tx}
use Rattle.mdb_base.specs.Names.{same_site, same_tid, same_tx, tx_cmp}
use Rattle.mdb_base.specs.Words.{found, map_some, or_else, with_some}
use Rattle.mdb_base.proofs.ForCallers.{same_site-refl, same_tid-equal, same_tid-refl, same_tx-equal, some_parts}
use Rattle.fed_rules.specs.declared.answers.Answer.{Answer}
use Rattle.fed_rules.specs.declared.answers.Answer.TheVariants as Say
use Rattle.fed_rules.specs.declared.commands.Command.{Command}
use Rattle.fed_rules.specs.declared.commands.Command.TheVariants as Cmd
use Rattle.fed_rules.specs.declared.commands.Line.{Line}
use Rattle.fed_rules.specs.declared.events.SiteEvent.{SiteEvent}
use Rattle.fed_rules.specs.declared.events.SiteEvent.TheVariants as Ev
use Rattle.fed_rules.specs.declared.scenario.Scenario.{Scenario}
use Rattle.fed_rules.specs.CoordPast.{oldest_first}
use Rattle.fed_rules.specs.Orders.{local_reads, read_by}
use Rattle.fed_rules.specs.Plans.{IsScenario}
use Rattle.fed_rules.specs.Requests.{attempt}
use Rattle.fed_rules.specs.Right.{IsAnswer, IsRightStory, story_told}
use Rattle.fed_rules.specs.Scenarios.{home_of, local_home, protocols}
use Rattle.fed_rules.specs.Site.{site_line}
use Rattle.fed_rules.specs.SitePast.{SiteHappening, SitePast, attempts_of}
use Rattle.fed_rules.specs.SiteRecords.{Home}
use Rattle.fed_rules.specs.Story.{Story, Happened, AtSite, AtCoordinator, Nowhere, happens, past_of, story_of}
use Rattle.fed_rules.specs.Lines as Lines
use Rattle.fed_rules.proofs.ForCallers as Asked
use Rattle.fed_rules.proofs.ForCallers.{BeginsNone as NoBegin, live_is_of}
use Rattle.site_history.specs.Stories.{StoriesHaveRightLines}
use Rattle.federation_laws.proofs.ForCallers.{local-story}
use Rattle.session_routes.specs.declared.traffic.Traffic.{Traffic}
use Rattle.session_report.specs.Told.{Told, after_begin, after_command, after_step, told_by, with_begun, with_step, with_value}
use Rattle.session_report.proofs.Answered.{BeginsSo, Says, site_says}
use Rattle.session_report.proofs.LastBegun.{begun_in, last_begun, lasts}
use Rattle.session_report.proofs.Lookups.{look, look_begun, look_running, look_value}
use Rattle.session_report.proofs.Silences.{BeginsNone, IsSilent, ReadsNone, Silence, silent}

-- what the lines tell of a local attempt, with nothing for one that they don't name
abbrev read_told : Told → Tid → List ℕ
read_told told tid = or_else (look told.locals tid) []

abbrev running_told : Told → Tx → Option Tid
running_told told tx = lookup (is_at (tx_cmp tx)) told.running

-- what the lines tell of the local transactions is what their sites' pasts tell
pub record Locals (scenario : Scenario) (story : Story) (told : Told) : Type 0 where
  pub reads : (home : Home) (tid : Tid) → local_home scenario tid.tx ≡ Some home → read_told told tid ≡ local_reads (past_of home.site story) tid
  pub running : (home : Home) (tx : Tx) → local_home scenario tx ≡ Some home → running_told told tx ≡ last_begun (past_of home.site story) tx
  pub stands : (tx : Tx) (tid : Tid) → running_told told tx ≡ Some tid → is_some (look told.locals tid) ≡ true

-- the event is no access
abbrev NoAct : SiteEvent → Type 0
NoAct (Ev.Act tid act) = ⊥
NoAct event = Unit {0}

no_read : (tid : Tid) (event : SiteEvent) (answer : Answer) → NoAct event → read_by tid event answer ≡ None
no_read tid (Ev.Act t act) answer off = absurd off
no_read tid event answer off = refl

-- at another event than a `begin` no attempt begins
no_begun : (home : Home) (past : SitePast) (event : SiteEvent) (answer : Answer) → BeginsSo home past event answer → NoBegin event → (tx : Tx) (older : Option Tid) → begun_in tx answer older ≡ older
no_begun home past event (Say.Begun t) b off tx older = absurd (subst NoBegin b.0 off)
no_begun home past event answer b off tx older = refl

begins_none : (answer : Answer) → BeginsNone answer → (tx : Tx) (told : Told) → after_begin tx answer told ≡ told
begins_none (Say.Begun t) b tx told = absurd b
begins_none answer b tx told = refl

reads_none : (answer : Answer) → ReadsNone answer → (tx : Tx) (told : Told) → after_step tx answer told ≡ told
reads_none (Say.Read key value) b tx told = absurd b
reads_none answer b tx told = refl

-- one value more, or none
read_more : (past : SitePast) (x : SiteHappening) (tid : Tid) (o : Option ℕ) → read_by tid x.event x.answer ≡ o
    → local_reads (x ∷ past) tid ≡ oldest_first (with_some o (found (λ y. read_by tid y.event y.answer) past))
read_more past x tid o e = ap (λ v. oldest_first (with_some v (found (λ y. read_by tid y.event y.answer) past))) e

begin_parts : {a b : Tid} → Ev.Begin a ≡ Ev.Begin b → a ≡ b
begin_parts {a} {b} e = cc

module _ (rights : StoriesHaveRightLines) (scenario : Scenario) (whole : IsScenario scenario) (commands : List Command) where
  abbrev story : Story
  story = story_of scenario commands

  -- behind a line that neither begins an attempt nor reads
  kept_on : (home : Home) (x : SiteHappening) (command : Command) (told : Told) → ((tid : Tid) → read_by tid x.event x.answer ≡ None) → ((tx : Tx) (older : Option Tid) → begun_in tx x.answer older ≡ older)
      → Locals scenario story told → Locals scenario (record { command = command; happened = AtSite home.site x } ∷ story) told
  kept_on home x command told none unbegun h = record {
    reads = λ other tid here. h.reads other tid here ∙ sym (read_same other tid (same_site home.site other.site));
    running = λ other tx here. h.running other tx here ∙ sym (run_same other tx (same_site home.site other.site));
    stands = h.stands;
  }
    where
      read_same : (other : Home) (tid : Tid) (b : Bool) → local_reads (cond b (x ∷ past_of other.site story) (past_of other.site story)) tid ≡ local_reads (past_of other.site story) tid
      read_same other tid false = refl
      read_same other tid true = read_more (past_of other.site story) x tid None (none tid)

      run_same : (other : Home) (tx : Tx) (b : Bool) → last_begun (cond b (x ∷ past_of other.site story) (past_of other.site story)) tx ≡ last_begun (past_of other.site story) tx
      run_same other tx false = refl
      run_same other tx true = unbegun tx (last_begun (past_of other.site story) tx)

  -- behind a line that begins an attempt
  begun_on : (home : Home) (x : SiteHappening) (command : Command) (tx : Tx) (tid : Tid) (told : Told) → local_home scenario tx ≡ Some home → x.event ≡ Ev.Begin tid → x.answer ≡ Say.Begun tid → tid ≡ attempt tx (attempts_of (past_of home.site story) tx)
      → Locals scenario story told → Locals scenario (record { command = command; happened = AtSite home.site x } ∷ story) (after_begin tx (Say.Begun tid) told)
  begun_on home x command tx tid told here heard is next h = record {
    reads = λ other q there. read_now other q there (same_tid tid q) refl;
    running = λ other q there. run_now other q there (same_tx tx q) refl;
    stands = stands_now;
  }
    where
      own : tid.tx ≡ tx
      own = ap (λ (t : Tid). t.tx) next

      silent_read : (q : Tid) → read_by q x.event x.answer ≡ None
      silent_read q = ap (λ ev. read_by q ev x.answer) heard

      past_now : (other : Home) (q : Tid) → local_reads (past_of other.site (record { command = command; happened = AtSite home.site x } ∷ story)) q ≡ local_reads (past_of other.site story) q
      past_now other q = by_test (same_site home.site other.site)
        where
          by_test : (b : Bool) → local_reads (cond b (x ∷ past_of other.site story) (past_of other.site story)) q ≡ local_reads (past_of other.site story) q
          by_test false = refl
          by_test true = read_more (past_of other.site story) x q None (silent_read q)

      new : local_reads (past_of home.site story) tid ≡ []
      new =
          ((local-story scenario whole commands home tid (ap (local_home scenario) own ∙ here)).unbegun
          (let at : tid.attempt ≡ attempts_of (past_of home.site story) tx = ap (λ (t : Tid). t.attempt) next in
          let same : attempts_of (past_of home.site story) tid.tx ≡ attempts_of (past_of home.site story) tx = ap (attempts_of (past_of home.site story)) own in
          omega (arith, at, same))).reads

      read_now : (other : Home) (q : Tid) → local_home scenario q.tx ≡ Some other → (b : Bool) → same_tid tid q ≡ b
          → or_else (look (with_begun tid told.locals) q) [] ≡ local_reads (past_of other.site (record { command = command; happened = AtSite home.site x } ∷ story)) q
      read_now other q there false e =
          ap (λ o. or_else o []) (look_begun told.locals tid q ∙ ap (λ b. cond b (Some []) (look told.locals q)) e) ∙ (h.reads other q there ∙ sym (past_now other q))
      read_now other q there true e =
          let same : tid ≡ q = same_tid-equal tid q e in
          let one : home ≡ other = some_parts (sym here ∙ (ap (local_home scenario) (sym own ∙ ap (λ (t : Tid). t.tx) same) ∙ there)) in
          ap (λ o. or_else o []) (look_begun told.locals tid q ∙ ap (λ b. cond b (Some []) (look told.locals q)) e)
          ∙ (sym new ∙ (subst (λ z. local_reads (past_of home.site story) tid ≡ local_reads (past_of z.site story) q) one (ap (local_reads (past_of home.site story)) same) ∙ sym (past_now other q)))

      run_now : (other : Home) (q : Tx) → local_home scenario q ≡ Some other → (b : Bool) → same_tx tx q ≡ b
          → lookup (is_at (tx_cmp q)) (insert_entry tx_cmp told.running tx tid) ≡ last_begun (past_of other.site (record { command = command; happened = AtSite home.site x } ∷ story)) q
      run_now other q there false e =
          look_running told.running tx q tid ∙ (ap (λ b. cond b (Some tid) (lookup (is_at (tx_cmp q)) told.running)) e ∙ (h.running other q there ∙ sym (by_test (same_site home.site other.site))))
        where
          by_test : (b : Bool) → last_begun (cond b (x ∷ past_of other.site story) (past_of other.site story)) q ≡ last_begun (past_of other.site story) q
          by_test false = refl
          by_test true =
              ap (λ a. begun_in q a (last_begun (past_of other.site story) q)) is
              ∙ ap (λ b. cond b (Some tid) (last_begun (past_of other.site story) q)) (ap (λ t. same_tx t q) own ∙ e)
      run_now other q there true e =
          let same : tx ≡ q = same_tx-equal tx q e in
          let one : home ≡ other = some_parts (sym here ∙ (ap (local_home scenario) same ∙ there)) in
          look_running told.running tx q tid ∙ (ap (λ b. cond b (Some tid) (lookup (is_at (tx_cmp q)) told.running)) e
          ∙ sym (at_home (same_site home.site other.site) (subst (λ z. same_site home.site z.site ≡ true) one (same_site-refl home.site))))
        where
          at_home : (b : Bool) → b ≡ true → last_begun (cond b (x ∷ past_of other.site story) (past_of other.site story)) q ≡ Some tid
          at_home false t = cc
          at_home true t =
              ap (λ a. begun_in q a (last_begun (past_of other.site story) q)) is
              ∙ ap (λ b. cond b (Some tid) (last_begun (past_of other.site story) q)) (ap (λ t. same_tx t q) own ∙ e)

      some_stays : (q : Tid) → is_some (look told.locals q) ≡ true → is_some (look (with_begun tid told.locals) q) ≡ true
      some_stays q s = ap (λ o. is_some o) (look_begun told.locals tid q) ∙ by_test (same_tid tid q)
        where
          by_test : (b : Bool) → is_some (cond b (Some []) (look told.locals q)) ≡ true
          by_test true = refl
          by_test false = s

      stands_now : (q : Tx) (t : Tid) → lookup (is_at (tx_cmp q)) (insert_entry tx_cmp told.running tx tid) ≡ Some t → is_some (look (with_begun tid told.locals) t) ≡ true
      stands_now q t e = by_test (same_tx tx q) (sym (look_running told.running tx q tid) ∙ e)
        where
          by_test : (b : Bool) → cond b (Some tid) (lookup (is_at (tx_cmp q)) told.running) ≡ Some t → is_some (look (with_begun tid told.locals) t) ≡ true
          by_test false f = some_stays t (h.stands q t f)
          by_test true f =
              let same : tid ≡ t = some_parts f in
              ap (λ o. is_some o) (look_begun told.locals tid t ∙ ap (λ b. cond b (Some []) (look told.locals t)) (subst (λ z. same_tid tid z ≡ true) same (same_tid-refl tid)))

  -- behind a line that reads
  read_on : (home : Home) (x : SiteHappening) (command : Command) (tx : Tx) (tid : Tid) (act : PlainAct) (key : _) (value : ℕ) (told : Told) → local_home scenario tx ≡ Some home → x.event ≡ Ev.Act tid act → x.answer ≡ Say.Read key value
      → tid.tx ≡ tx → last_begun (past_of home.site story) tx ≡ Some tid
      → Locals scenario story told → Locals scenario (record { command = command; happened = AtSite home.site x } ∷ story) (after_step tx (Say.Read key value) told)
  read_on home x command tx tid act key value told here heard is own last h = record {
    reads = λ other q there. read_now other q there (same_tid tid q) refl;
    running = λ other q there. h.running other q there ∙ sym (run_same other q (same_site home.site other.site));
    stands = λ q t e. some_stays t (h.stands q t e);
  }
    where
      runs : running_told told tx ≡ Some tid
      runs = h.running home tx here ∙ last

      locals_now : (after_step tx (Say.Read key value) told).locals ≡ with_value tid value told.locals
      locals_now = ap (λ o. with_step o value told.locals) runs

      found_now : (q : Tid) → look (after_step tx (Say.Read key value) told).locals q ≡ cond (same_tid tid q) (map_some (λ values. values ++ value ∷ []) (look told.locals q)) (look told.locals q)
      found_now q = ap (λ rs. look rs q) locals_now ∙ look_value told.locals tid q value

      heard_by : (q : Tid) → read_by q x.event x.answer ≡ cond (same_tid tid q) (Some value) None
      heard_by q = ap (λ ev. read_by q ev x.answer) heard ∙ ap (read_by q (Ev.Act tid act)) is

      run_same : (other : Home) (q : Tx) (b : Bool) → last_begun (cond b (x ∷ past_of other.site story) (past_of other.site story)) q ≡ last_begun (past_of other.site story) q
      run_same other q false = refl
      run_same other q true = ap (λ a. begun_in q a (last_begun (past_of other.site story) q)) is

      past_other : (other : Home) (q : Tid) → same_tid tid q ≡ false → (b : Bool) → local_reads (cond b (x ∷ past_of other.site story) (past_of other.site story)) q ≡ local_reads (past_of other.site story) q
      past_other other q e false = refl
      past_other other q e true = read_more (past_of other.site story) x q None (heard_by q ∙ ap (λ b. cond b (Some value) None) e)

      past_here : (b : Bool) → b ≡ true → local_reads (cond b (x ∷ past_of home.site story) (past_of home.site story)) tid ≡ local_reads (past_of home.site story) tid ++ value ∷ []
      past_here false t = cc
      past_here true t = read_more (past_of home.site story) x tid (Some value) (heard_by tid ∙ ap (λ b. cond b (Some value) None) (same_tid-refl tid))

      one_more : (o : Option (List ℕ)) → is_some o ≡ true → or_else (map_some (λ values. values ++ value ∷ []) o) [] ≡ or_else o [] ++ value ∷ []
      one_more None e = cc
      one_more (Some values) e = refl

      read_now : (other : Home) (q : Tid) → local_home scenario q.tx ≡ Some other → (b : Bool) → same_tid tid q ≡ b
          → or_else (look (after_step tx (Say.Read key value) told).locals q) [] ≡ local_reads (past_of other.site (record { command = command; happened = AtSite home.site x } ∷ story)) q
      read_now other q there false e =
          ap (λ o. or_else o []) (found_now q ∙ ap (λ b. cond b (map_some (λ values. values ++ value ∷ []) (look told.locals q)) (look told.locals q)) e)
          ∙ (h.reads other q there ∙ sym (past_other other q e (same_site home.site other.site)))
      read_now other q there true e =
          let same : tid ≡ q = same_tid-equal tid q e in
          let one : home ≡ other = some_parts (sym here ∙ (ap (local_home scenario) (sym own ∙ ap (λ (t : Tid). t.tx) same) ∙ there)) in
          let mine : local_home scenario tid.tx ≡ Some home = ap (local_home scenario) own ∙ here in
          subst (λ z. or_else (look (after_step tx (Say.Read key value) told).locals z) [] ≡ local_reads (past_of other.site (record { command = command; happened = AtSite home.site x } ∷ story)) z) same
          (subst (λ (z : Home). or_else (look (after_step tx (Say.Read key value) told).locals tid) [] ≡ local_reads (past_of z.site (record { command = command; happened = AtSite home.site x } ∷ story)) tid) one
          (ap (λ o. or_else o []) (found_now tid ∙ ap (λ b. cond b (map_some (λ values. values ++ value ∷ []) (look told.locals tid)) (look told.locals tid)) (same_tid-refl tid))
          ∙ (one_more (look told.locals tid) (h.stands tx tid runs) ∙ (ap (λ vs. vs ++ value ∷ []) (h.reads home tid mine) ∙ sym (past_here (same_site home.site home.site) (same_site-refl home.site))))))

      some_stays : (q : Tid) → is_some (look told.locals q) ≡ true → is_some (look (after_step tx (Say.Read key value) told).locals q) ≡ true
      some_stays q s = ap (λ o. is_some o) (found_now q) ∙ by_test (same_tid tid q)
        where
          still : (o : Option (List ℕ)) → is_some o ≡ true → is_some (map_some (λ values. values ++ value ∷ []) o) ≡ true
          still None e = e
          still (Some values) e = refl

          by_test : (b : Bool) → is_some (cond b (map_some (λ values. values ++ value ∷ []) (look told.locals q)) (look told.locals q)) ≡ true
          by_test true = still (look told.locals q) s
          by_test false = s

  module _ (home : Home) (declared : home_of scenario home.site ≡ Some home) (x : SiteHappening) (event : SiteEvent) (is : x ≡ site_line home (past_of home.site story) event) (told : Told) (h : Locals scenario story told) where
    says : Says home (past_of home.site story) event x
    says = subst (Says home (past_of home.site story) event) (sym is) (site_says home (past_of home.site story) event)

    -- a line of another event than a `begin` or an access
    other_line : (command : Command) (other : SiteEvent) → event ≡ other → NoAct other → NoBegin other → Locals scenario (record { command = command; happened = AtSite home.site x } ∷ story) told
    other_line command other e off quiet =
        kept_on home x command told (λ tid. ap (λ ev. read_by tid ev x.answer) (says.heard ∙ e) ∙ no_read tid other x.answer off)
        (no_begun home (past_of home.site story) event x.answer says.begins (subst NoBegin (sym e) quiet)) h

    begin_line : (tx : Tx) → local_home scenario tx ≡ Some home → event ≡ Ev.Begin (attempt tx (attempts_of (past_of home.site story) tx)) → (answer : Answer) → x.answer ≡ answer
        → Locals scenario (record { command = Cmd.Begin tx; happened = AtSite home.site x } ∷ story) (after_begin tx answer told)
    begin_line tx here e (Say.Begun t) a =
        let begins = subst (BeginsSo home (past_of home.site story) event) a says.begins in
        let both : Ev.Begin t ≡ Ev.Begin (attempt tx (attempts_of (past_of home.site story) tx)) = sym begins.0 ∙ e in
        let same : t ≡ attempt tx (attempts_of (past_of home.site story) tx) = begin_parts both in
        begun_on home x (Cmd.Begin tx) tx t told here (says.heard ∙ begins.0) a same h
    begin_line tx here e answer a =
        kept_on home x (Cmd.Begin tx) told (λ tid. ap (λ ev. read_by tid ev x.answer) (says.heard ∙ e)) (λ q older. ap (λ z. begun_in q z older) a) h

    step_line : (tx : Tx) (tid : Tid) (act : PlainAct) → local_home scenario tx ≡ Some home → event ≡ Ev.Act tid act → tid.tx ≡ tx → last_begun (past_of home.site story) tx ≡ Some tid → (answer : Answer) → x.answer ≡ answer
        → Locals scenario (record { command = Cmd.Step tx; happened = AtSite home.site x } ∷ story) (after_step tx answer told)
    step_line tx tid act here e own last (Say.Read key value) a = read_on home x (Cmd.Step tx) tx tid act key value told here (says.heard ∙ e) a own last h
    step_line tx tid act here e own last (Say.Begun t) a =
        let begins = subst (BeginsSo home (past_of home.site story) event) a says.begins in
        let clash : Ev.Begin t ≡ Ev.Act tid act = sym begins.0 ∙ e in
        cc
    step_line tx tid act here e own last answer a =
        kept_on home x (Cmd.Step tx) told (λ q. ap (λ ev. read_by q ev x.answer) (says.heard ∙ e) ∙ ap (read_by q (Ev.Act tid act)) a) (λ q older. ap (λ z. begun_in q z older) a) h

    site_locals : (channels : List Traffic) (command : Command) (printed : Answer) → Lines.SiteCause scenario home story command event → printed ≡ x.answer
        → Locals scenario (record { command = command; happened = AtSite home.site x } ∷ story) (after_command channels command printed told)
    site_locals channels (Cmd.Begin tx) printed c a = begin_line tx c.here c.asks.is printed (sym a)
    site_locals channels (Cmd.Step tx) printed c a =
        let own = live_is_of home (past_of home.site story) tx c.asks.tid c.asks.is_live.found in
        step_line tx c.asks.tid _ c.here c.asks.is own
        (subst (λ t. last_begun (past_of home.site story) t ≡ Some c.asks.tid) own (lasts rights scenario whole commands home declared c.asks.tid c.asks.run (ap (local_home scenario) own ∙ c.here) c.asks.is_live.own))
        printed (sym a)
    site_locals channels (Cmd.Commit tx) printed c a = other_line (Cmd.Commit tx) (Ev.Commit c.asks.tid) c.asks.is tt tt
    site_locals channels (Cmd.Abort tx) printed c a = other_line (Cmd.Abort tx) (Ev.Abort c.asks.tid) c.asks.is tt tt
    site_locals channels (Cmd.Fate tx) printed c a = other_line (Cmd.Fate tx) (Ev.Fate tx) c.asks tt tt
    site_locals channels (Cmd.Give site place) printed c a = other_line (Cmd.Give site place) (Ev.Give c.1.message) c.1.is tt tt
    site_locals channels (Cmd.Ask site tid) printed c a = other_line (Cmd.Ask site tid) (Ev.Ask tid) c.1 tt tt
    site_locals channels (Cmd.Drop site tid) printed c a = other_line (Cmd.Drop site tid) (Ev.Drop tid) c.1 tt tt
    site_locals channels (Cmd.Halt actor cut) printed c a = other_line (Cmd.Halt actor cut) (Ev.Halt cut) c.1 tt tt
    site_locals channels (Cmd.Trip actor calls cut) printed c a = other_line (Cmd.Trip actor calls cut) (Ev.Trip calls cut) c.1 tt tt
    site_locals channels (Cmd.Back actor) printed c a = other_line (Cmd.Back actor) Ev.Back c.1 tt tt
    site_locals channels (Cmd.Check actor) printed c a = other_line (Cmd.Check actor) Ev.Check c.1 tt tt
    site_locals channels (Cmd.Go tx) printed c a = absurd c
    site_locals channels (Cmd.Again tid) printed c a = absurd c
    site_locals channels (Cmd.Late tid) printed c a = absurd c
    site_locals channels (Cmd.Take site place) printed c a = absurd c

  -- a line of the coordinator tells nothing of them
  coord_locals : (channels : List Traffic) (command : Command) (x : _) (event : _) (printed : Answer) (told : Told) → Lines.CoordCause scenario story command event → Locals scenario story told
      → Locals scenario (record { command = command; happened = AtCoordinator x } ∷ story) (after_command channels command printed told)
  coord_locals channels (Cmd.Begin tx) x event printed told c h = absurd c
  coord_locals channels (Cmd.Step tx) x event printed told c h = absurd c
  coord_locals channels command x event printed told c h = record { reads = h.reads; running = h.running; stands = h.stands }

  -- nor does one that no actor hears of
  nowhere_locals : (channels : List Traffic) (command : Command) (answer printed : Answer) (told : Told) → IsSilent command printed → Locals scenario story told
      → Locals scenario (record { command = command; happened = Nowhere answer } ∷ story) (after_command channels command printed told)
  nowhere_locals channels (Cmd.Begin tx) answer printed told s h =
      subst (Locals scenario (record { command = Cmd.Begin tx; happened = Nowhere answer } ∷ story)) (sym (begins_none printed s tx told)) (record { reads = h.reads; running = h.running; stands = h.stands })
  nowhere_locals channels (Cmd.Step tx) answer printed told s h =
      subst (Locals scenario (record { command = Cmd.Step tx; happened = Nowhere answer } ∷ story)) (sym (reads_none printed s tx told)) (record { reads = h.reads; running = h.running; stands = h.stands })
  nowhere_locals channels command answer printed told s h = record { reads = h.reads; running = h.running; stands = h.stands }

  line_locals : (channels : List Traffic) (command : Command) (happened : Happened) (printed : Answer) (told : Told) → Lines.IsLine scenario story command happened → ((answer : Answer) → happened ≡ Nowhere answer → IsSilent command answer)
      → IsAnswer (protocols scenario) story happened printed → Locals scenario story told → Locals scenario (record { command = command; happened = happened } ∷ story) (after_command channels command printed told)
  line_locals channels command (AtSite site x) printed told line s a h =
      subst (λ z. Locals scenario (record { command = command; happened = AtSite z x } ∷ story) (after_command channels command printed told)) (sym line.here)
      (site_locals line.home line.declared x line.event line.is_next told h channels command printed line.cause a)
  line_locals channels command (AtCoordinator x) printed told line s a h = coord_locals channels command x line.event printed told line.cause h
  line_locals channels command (Nowhere answer) printed told line s a h = nowhere_locals channels command answer printed told (subst (IsSilent command) (sym a) (s answer refl)) h

-- what right lines tell of them
pub locals_told : StoriesHaveRightLines → (scenario : Scenario) → IsScenario scenario → (channels : List Traffic) (lines : List Line) → IsRightStory scenario lines → Locals scenario (story_told scenario lines) (told_by channels lines)
locals_told rights scenario whole channels [] right = record { reads = λ home tid here. refl; running = λ home tx here. refl; stands = λ tx tid e. cc }
locals_told rights scenario whole channels (line ∷ lines) (right, next) =
    let commands = map (λ (l : Line). l.command) lines in
    let story = story_of scenario commands in
    line_locals rights scenario whole commands channels line.command (happens scenario story line.command) line.answer (told_by channels lines) (Asked.line_is scenario story line.command)
    (λ answer e. subst (Silence line.command) e (silent scenario story line.command)) next.answer (locals_told rights scenario whole channels lines right)
