-- What a world hands to the report of its session is that of its story.
use Rattle.std.proofs.Common.{◌≡◌, ℕ, zero, suc, ◌+◌, Option, Some, List, [], ◌∷◌, ◌++◌, length, map, take, reverse, slice_get, refl, sym, ◌∙◌, ap, ap₂, subst, add-one, arith}
use Rattle.std.proofs.lemmas.Option.{slice_get_within}
use Rattle.mdb_base.specs.declared.names.SiteId.{SiteId}
use Rattle.mdb_base.specs.declared.names.Tid.{Tid}
use Rattle.mdb_base.specs.declared.names.Tx.{Tx}
use Rattle.mdb_base.specs.declared.rows.Put.{Put}
use Rattle.mdb_base.specs.declared.rows.SiteRows.{SiteRows}
use Rattle.mdb_base.specs.Words.{Each}
use Rattle.mdb_base.proofs.ForCallers.{slice_get-there}
use Rattle.fed_rules.specs.declared.commands.Command.{Command}
use Rattle.fed_rules.specs.declared.commands.Line.{Line}
use Rattle.fed_rules.specs.declared.scenario.Scenario.{Scenario}
use Rattle.fed_rules.specs.CoordPast as Coordinator
use Rattle.fed_rules.specs.CoordRecords.{committed_of}
use Rattle.fed_rules.specs.Orders.{table_at, table_of}
use Rattle.fed_rules.specs.Reports.{tables}
use Rattle.fed_rules.specs.Scenarios.{home_of, sites}
use Rattle.fed_rules.specs.SitePast.{records}
use Rattle.fed_rules.specs.SiteRecords.{Home, site_rows}
use Rattle.fed_rules.specs.Sessions.{Session, fresh}
use Rattle.fed_rules.specs.Story.{Story, coord_past, past_of, sent_from, story_in, story_of}
use Rattle.any_engine.specs.declared.engine.AnyEngine.{AnyEngine}
use Rattle.closing_laws.specs.AtRest.{IsAtRest}
use Rattle.local_dbms.specs.declared.dbms.LocalDbms.{LocalDbms}
use Rattle.session_report.specs.declared.marks.Marks.{Marks}
use Rattle.session_report.specs.Marks.{kept_marks}
use Rattle.session_report.specs.Session.{HoldsMarks, HoldsMessages, IsOver, IsSession, marks_at, marks_of, story_of_lines}
use Rattle.session_routes.specs.declared.traffic.Traffic.{Traffic}
use Rattle.fed_world.specs.Seats.{OfDbms, SiteAt, SitesAt}
use Rattle.fed_world.specs.declared.world.World.{World}
use Rattle.fed_world.specs.Reporting.{Tells, rows_at}
use Rattle.fed_world.specs.Worlds.{DbmsRecalls, HasLines, Recalls}
use Rattle.fed_world.specs.Beginnings.{programs_at}
use Rattle.fed_world.proofs.RightLines.{right_fresh}

-- ---- lists place by place

-- each item of one list with that of the other at its place
abbrev pub AllPairs : {A B : Type 0} → (A → B → Type 0) → List A → List B → Type 0
AllPairs R [] [] = Unit {0}
AllPairs R (x ∷ xs) (y ∷ ys) = R x y × AllPairs R xs ys
AllPairs R [] (y ∷ ys) = ⊥
AllPairs R (x ∷ xs) [] = ⊥

pub paired : {A B : Type 0} (R : A → B → Type 0) (xs : List A) (ys : List B) → length xs ≡ length ys
    → ((n : ℕ) (x : A) (y : B) → slice_get xs n ≡ Some x → slice_get ys n ≡ Some y → R x y) → AllPairs R xs ys
paired R [] [] e at = tt
paired R (x ∷ xs) (y ∷ ys) e at = (at zero x y refl refl, paired R xs ys (omega (arith, e)) (λ n a b p q. at (suc n) a b p q))
paired R [] (y ∷ ys) e at = absurd (omega (arith, e))
paired R (x ∷ xs) [] e at = absurd (omega (arith, e))

-- one place more
pub taken_more : {A B : Type 0} (f : A → B) (xs : List A) (n : ℕ) (x : A) → slice_get xs n ≡ Some x → map f (take (n + 1) xs) ≡ map f (take n xs) ++ f x ∷ []
taken_more f xs n x e = ap (λ m. map f (take m xs)) (add-one n) ∙ by_place xs n x e
  where
    by_place : (ys : List _) (m : ℕ) (y : _) → slice_get ys m ≡ Some y → map f (take (suc m) ys) ≡ map f (take m ys) ++ f y ∷ []
    by_place [] m y e = cc
    by_place (z ∷ ys) zero y e = let same : z ≡ y = cc in ap (λ w. f w ∷ []) same
    by_place (z ∷ ys) (suc m) y e = ap (λ ws. f z ∷ ws) (by_place ys m y e)

same_one : {A : Type 0} (x y : A) (o : Option A) → o ≡ Some x → o ≡ Some y → x ≡ y
same_one x y o p q = let e : Some x ≡ Some y = sym p ∙ q in cc

-- ---- the parts of a site

-- what stands at the place of a site
pub record StandsThere (K : OfDbms) (cores : List (LocalDbms AnyEngine)) (marks : List Marks) (channels : List Traffic) (session : Session) (story : Story) (place : ℕ) (site : SiteId) : Type 0 where
  pub dbms : LocalDbms AnyEngine
  pub own : Marks
  pub traffic : Traffic
  pub core_is : slice_get cores place ≡ Some dbms
  pub marks_are : slice_get marks place ≡ Some own
  pub traffic_is : slice_get channels place ≡ Some traffic
  pub site_at : SiteAt K dbms own traffic session site story

module _ (K : OfDbms) (cores : List (LocalDbms AnyEngine)) (marks : List Marks) (channels : List Traffic) (session : Session) (story : Story) (all : SitesAt K cores marks channels session story) where
  pub there : (place : ℕ) (site : SiteId) → slice_get (sites session.plan) place ≡ Some site → StandsThere K cores marks channels session story place site
  there place site e =
      let within = slice_get_within (sites session.plan) place site e in
      let (dbms, core_is) = slice_get-there cores place (let n = all.all_cores in omega (arith, within, n)) in
      let (own, marks_are) = slice_get-there marks place (let n = all.all_marks in omega (arith, within, n)) in
      let (traffic, traffic_is) = slice_get-there channels place (let n = all.all_channels in omega (arith, within, n)) in
      record {
        dbms = dbms;
        own = own;
        traffic = traffic;
        core_is = core_is;
        marks_are = marks_are;
        traffic_is = traffic_is;
        site_at = all.each place site dbms own traffic e core_is marks_are traffic_is;
      }

  -- the messages of a site are in its channel
  abbrev IsOf : Traffic → SiteId → Type 0
  IsOf traffic site = (traffic.site ≡ site) × (traffic.from.items ≡ sent_from site story)

  are_of : AllPairs IsOf channels (sites session.plan)
  are_of = paired IsOf channels (sites session.plan) all.all_channels (λ n traffic site at e.
      let t = there n site e in
      let same = same_one t.traffic traffic (slice_get channels n) t.traffic_is at in
      subst (λ (one : Traffic). IsOf one site) same (t.site_at.part.site ∙ t.site_at.is, t.site_at.part.from))

  pub messages_held : HoldsMessages session.plan story channels
  messages_held = record { sites = named channels (sites session.plan) are_of; sent = sent channels (sites session.plan) are_of }
    where
      named : (ts : List Traffic) (ss : List SiteId) → AllPairs IsOf ts ss → map (λ (channel : Traffic). channel.site) ts ≡ ss
      named [] [] h = refl
      named (t ∷ ts) (s ∷ ss) h = ap₂ (λ (x : SiteId) (xs : List SiteId). x ∷ xs) h.0.0 (named ts ss h.1)
      named [] (s ∷ ss) h = absurd h
      named (t ∷ ts) [] h = absurd h

      sent : (ts : List Traffic) (ss : List SiteId) → AllPairs IsOf ts ss → Each (λ (channel : Traffic). channel.from.items ≡ sent_from channel.site story) ts
      sent [] [] h = tt
      sent (t ∷ ts) (s ∷ ss) h = (h.0.1 ∙ ap (λ z. sent_from z story) (sym h.0.0), sent ts ss h.1)
      sent [] (s ∷ ss) h = absurd h
      sent (t ∷ ts) [] h = absurd h

module _ (K : OfDbms) (cores : List (LocalDbms AnyEngine)) (marks : List Marks) (channels : List Traffic) (scenario : Scenario) (story : Story) (all : SitesAt K cores marks channels (fresh scenario) story) where
  -- the marks of a site are those of its records
  abbrev Marks_of : Marks → SiteId → Type 0
  Marks_of own site = (own.site ≡ site) × (own.kept.items ≡ marks_of scenario story site)

  are_marked : AllPairs Marks_of marks (sites scenario)
  are_marked = paired Marks_of marks (sites scenario) all.all_marks (λ n own site at e.
      let t = there K cores marks channels (fresh scenario) story all n site e in
      let same = same_one t.own own (slice_get marks n) t.marks_are at in
      let s = t.site_at in
      let kept : t.own.kept.items ≡ marks_of scenario story site =
      s.part.marks ∙ (ap (λ z. kept_marks s.home (past_of z story)) (sym s.is) ∙ ap (λ o. marks_at o story) (sym s.declared)) in
      subst (λ (one : Marks). Marks_of one site) same (s.part.marked ∙ s.is, kept))

  pub marks_held : HoldsMarks scenario story marks
  marks_held = record { sites = named marks (sites scenario) are_marked; kept = kept marks (sites scenario) are_marked }
    where
      named : (ms : List Marks) (ss : List SiteId) → AllPairs Marks_of ms ss → map (λ (one : Marks). one.site) ms ≡ ss
      named [] [] h = refl
      named (m ∷ ms) (s ∷ ss) h = ap₂ (λ (x : SiteId) (xs : List SiteId). x ∷ xs) h.0.0 (named ms ss h.1)
      named [] (s ∷ ss) h = absurd h
      named (m ∷ ms) [] h = absurd h

      kept : (ms : List Marks) (ss : List SiteId) → AllPairs Marks_of ms ss → Each (λ (one : Marks). one.kept.items ≡ marks_of scenario story one.site) ms
      kept [] [] h = tt
      kept (m ∷ ms) (s ∷ ss) h = (h.0.1 ∙ ap (λ z. marks_of scenario story z) (sym h.0.0), kept ms ss h.1)
      kept [] (s ∷ ss) h = absurd h
      kept (m ∷ ms) [] h = absurd h

-- ---- the rows of a site

-- the table of a declared site is that of its records
pub declared_table : (scenario : Scenario) (story : Story) (site : SiteId) (home : Home) → home.site ≡ site → home_of scenario site ≡ Some home
    → site_rows home (records home (past_of site story)) ≡ table_of scenario story site
declared_table scenario story site home is declared =
    ap (λ z. site_rows home (records home (past_of z story))) (sym is) ∙ ap (λ o. table_at o story) (sym declared)

-- what the core of the site at a place gives
pub rows_are : (session : Session) (commands : List Command) (world : World) → Recalls world session commands → (place : ℕ) (site : SiteId) → slice_get (sites session.plan) place ≡ Some site
    → (dbms : LocalDbms AnyEngine) (traffic : Traffic) → slice_get world.cores.sites.items.items place ≡ Some dbms → slice_get world.traffic.items place ≡ Some traffic
    → (puts : List Put) → ((home : Home) → DbmsRecalls dbms home (programs_at session site) (past_of site (story_in session commands))
    → puts ≡ site_rows home (records home (past_of site (story_in session commands))))
    → record { site = traffic.site; rows = puts } ≡ rows_at session.plan (story_in session commands) site
rows_are session commands world r place site e dbms traffic core channel puts gives =
    let story = story_in session commands in
    let all = r.actors.sites in
    let t = there DbmsRecalls world.cores.sites.items.items world.cores.marks.items world.traffic.items session story all place site e in
    let s = all.each place site dbms t.own traffic e core t.marks_are channel in
    let named = s.part.site ∙ s.is in
    let same = gives s.home s.part.dbms ∙ declared_table session.plan story site s.home s.is s.declared in
    λ i. record { site = named i; rows = same i }

-- ---- the session

-- the lines determine the commands
pub told_story : (world : World) (scenario : Scenario) (commands : List Command) → HasLines world (fresh scenario) commands → story_of_lines world.cores.scenario world.lines.items ≡ story_of scenario commands
told_story world scenario commands h =
    ap₂ (λ (z : Scenario) (cs : List Command). story_of z cs) h.scenario_is (ap (λ (z : Scenario). map (λ (line : Line). line.command) (reverse world.lines.items)) h.scenario_is ∙ h.commands_are)

-- it is a session, with these rows
pub is_session : (scenario : Scenario) (commands : List Command) (world : World) → Recalls world (fresh scenario) commands → IsAtRest scenario (story_of scenario commands) → (puts : List SiteRows)
    → puts ≡ tables scenario (story_of scenario commands) → IsSession world.cores.scenario world.lines.items world.traffic.items world.cores.marks.items puts
is_session scenario commands world r rest puts shown =
    subst (λ (z : Scenario). IsSession z world.lines.items world.traffic.items world.cores.marks.items puts) (sym r.has.scenario_is)
    (record {
      right = right_fresh scenario (reverse world.lines.items) r.has.right;
      over = subst (λ (cs : List Command). IsOver scenario (story_of scenario cs)) (sym r.has.commands_are) (record { up = rest.coordinator_up; none_known = rest.none_known });
      messages = subst (λ (cs : List Command). HoldsMessages scenario (story_of scenario cs) world.traffic.items) (sym r.has.commands_are)
          (messages_held DbmsRecalls world.cores.sites.items.items world.cores.marks.items world.traffic.items (fresh scenario) (story_of scenario commands) r.actors.sites);
      marked = subst (λ (cs : List Command). HoldsMarks scenario (story_of scenario cs) world.cores.marks.items) (sym r.has.commands_are)
          (marks_held DbmsRecalls world.cores.sites.items.items world.cores.marks.items world.traffic.items scenario (story_of scenario commands) r.actors.sites);
      shown = shown ∙ ap (λ (cs : List Command). tables scenario (story_of scenario cs)) (sym r.has.commands_are);
    })

-- with its lines, its channels and its marks as slices too
pub session_again : (world : World) (puts : List SiteRows) → IsSession world.cores.scenario world.lines.items world.traffic.items world.cores.marks.items puts → (lines : List Line) (sent : List Traffic)
    (marks : List Marks) → lines ≡ world.lines.items → sent ≡ world.traffic.items → marks ≡ world.cores.marks.items → IsSession world.cores.scenario lines sent marks puts
session_again world puts session lines sent marks told lent kept =
    subst (λ (ls : List Line). IsSession world.cores.scenario ls sent marks puts) (sym told)
    (subst (λ (ts : List Traffic). IsSession world.cores.scenario world.lines.items ts marks puts) (sym lent)
    (subst (λ (ms : List Marks). IsSession world.cores.scenario world.lines.items world.traffic.items ms puts) (sym kept) session))

-- the coordinator tells of its commits
pub tells_commits : (scenario : Scenario) (commands : List Command) (world : World) → Recalls world (fresh scenario) commands → IsAtRest scenario (story_of scenario commands) → (lines : List Line) → lines ≡ world.lines.items
    → (tx : Tx) (found : Option Tid) → Tells world tx found → found ≡ committed_of (Coordinator.records (coord_past (story_of_lines world.cores.scenario lines))) tx
tells_commits scenario commands world r rest lines told tx found gives =
    gives _ _ _ r.actors.coordinator rest.coordinator_up
    ∙ ap (λ story. committed_of (Coordinator.records (coord_past story)) tx) (sym (ap (story_of_lines world.cores.scenario) told ∙ told_story world scenario commands r.has))
