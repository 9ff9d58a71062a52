-- What is gathered of a session is what its report says.
use Rattle.std.proofs.Common.{◌≡◌, ℕ, Bool, true, false, not, cond, ◌&&◌, ◌||◌, is_some, Option, Some, None, List, [], ◌∷◌, map, reverse, inl, inr, refl, sym, ◌∙◌, ap, ap₂, subst}
use Rattle.mdb_base.specs.declared.names.SiteId.{SiteId}
use Rattle.mdb_base.specs.declared.names.Tid.{Tid}
use Rattle.mdb_base.specs.declared.names.Tx.{Tx}
use Rattle.mdb_base.specs.declared.rows.Put.{Put}
use Rattle.mdb_base.specs.declared.rows.SiteRows.{SiteRows}
use Rattle.mdb_base.specs.Names.{same_site, same_tid, tid_before}
use Rattle.mdb_base.specs.Words.{Among, Each, item_at, or_else, some_of, those}
use Rattle.mdb_base.proofs.ForCallers.{each_inserted, same_site-equal, same_site-refl}
use Rattle.presumptions.specs.declared.Participant.{Participant}
use Rattle.order_laws.specs.Chains.{In}
use Rattle.order_laws.specs.Merge as merge
use Rattle.order_laws.specs.Orders.{is_in}
use Rattle.order_laws.proofs.ForCallers.{each_of_at, is_in_true, map_same, some_of_is, tells_tids}
use Rattle.fed_rules.specs.declared.commands.Command.{Command}
use Rattle.fed_rules.specs.declared.commands.Line.{Line}
use Rattle.fed_rules.specs.declared.messages.FromSite.{FromSite}
use Rattle.fed_rules.specs.declared.records.SiteRecord.TheVariants as Rec
use Rattle.fed_rules.specs.declared.report.Outcome.{Outcome}
use Rattle.fed_rules.specs.declared.report.TxReads.{TxReads}
use Rattle.fed_rules.specs.declared.scenario.Scenario.{Scenario}
use Rattle.fed_rules.specs.Closing.{rising}
use Rattle.fed_rules.specs.CoordPast as Coordinator
use Rattle.fed_rules.specs.CoordPast.{CoordPast, begins, begun_tids, is_known, standing}
use Rattle.fed_rules.specs.CoordRecords.{committed_of, outcome}
use Rattle.fed_rules.specs.Orders.{is_committed, order_at, orders, reads_at, reads_of, records_at}
use Rattle.fed_rules.specs.Plans.{IsScenario}
use Rattle.fed_rules.specs.Reports.{begun, forgotten, is_forgotten, outcomes}
use Rattle.fed_rules.specs.Scenarios.{home_at, home_of, local_home, protocols, sites}
use Rattle.fed_rules.specs.SitePast.{records}
use Rattle.fed_rules.specs.SiteRecords.{Home, order_of}
use Rattle.fed_rules.specs.Story.{Story, coord_past, past_of, sent_from, story_of}
use Rattle.commit_laws.specs.Records.{IsPrepared}
use Rattle.commit_laws.proofs.ForCallers.{agreed, declared_sends, is-declared}
use Rattle.site_history.specs.Stories.{StoriesHaveRightLines}
use Rattle.federation_laws.specs.OneOrder.{HasOneOrder, OfStories}
use Rattle.federation_laws.proofs.ForCallers.{AtHome, Kind, Roaming, begun-next, global-once, home-again, is_begun, kind-of, local-record, member-declared, none_rising, story-holds}
use Rattle.session_report.specs.declared.gathering.Gathered.{Gathered}
use Rattle.session_report.specs.declared.marks.Marks.{Marks}
use Rattle.session_routes.specs.declared.traffic.Traffic.{Traffic}
use Rattle.session_report.specs.Gathering.{IsGathered}
use Rattle.session_report.specs.Outcomes.{decision_by, is_abort, is_refused, outcomes_by}
use Rattle.session_report.specs.Ranks.{order_told, orders_told}
use Rattle.session_report.specs.Session.{HoldsMessages, IsSession, marks_at, marks_of}
use Rattle.session_report.specs.Told.{Told, message_at, reads_told, tids_told, told_by, values_told}
use Rattle.session_report.proofs.GlobalsTold.{Covers, globals_of, globals_told, story_globals}
use Rattle.session_report.proofs.LocalsTold.{locals_told}
use Rattle.session_report.proofs.Lookups.{look, tids_of}
use Rattle.session_report.proofs.OrdersTold.{Agree, order_is}
use Rattle.session_report.proofs.OutcomesTold.{abort_is, decision_is, refused_is}

covers_in : (story : Story) (channels : List Traffic) (site : SiteId) (place : ℕ) (message : FromSite) → Among (λ channel. channel.site ≡ site) channels → Each (λ channel. channel.from.items ≡ sent_from channel.site story) channels
    → item_at (sent_from site story) place ≡ Some message → message_at channels site place ≡ Some message
covers_in story [] site place message i sent e = absurd i
covers_in story (channel ∷ channels) site place message i sent e = by_test (same_site channel.site site) refl i (λ j. covers_in story channels site place message j sent.1 e)
  where
    by_test : (b : Bool) → same_site channel.site site ≡ b → Among (λ (c : Traffic). c.site ≡ site) (channel ∷ channels) → (Among (λ (c : Traffic). c.site ≡ site) channels → message_at channels site place ≡ Some message)
        → cond b (item_at channel.from.items place) (message_at channels site place) ≡ Some message
    by_test true q i h = ap (λ ms. item_at ms place) (sent.0 ∙ ap (λ z. sent_from z story) (same_site-equal channel.site site q)) ∙ e
    by_test false q (inl same) h = (let tie = subst (λ z. same_site channel.site z ≡ true) same (same_site-refl channel.site) in let clash = sym q ∙ tie in cc)
    by_test false q (inr j) h = h j

listed_in : (ms : List Participant) (site : SiteId) → Among (λ m. m.site ≡ site) ms → In site (map (λ m. m.site) ms)
listed_in [] site i = i
listed_in (m ∷ ms) site (inl e) = inl e
listed_in (m ∷ ms) site (inr i) = inr (listed_in ms site i)

channel_in : (channels : List Traffic) (site : SiteId) → In site (map (λ channel. channel.site) channels) → Among (λ channel. channel.site ≡ site) channels
channel_in [] site i = i
channel_in (c ∷ cs) site (inl e) = inl e
channel_in (c ∷ cs) site (inr i) = inr (channel_in cs site i)

covers : (scenario : Scenario) (commands : List Command) (channels : List Traffic) → HoldsMessages scenario (story_of scenario commands) channels → Covers channels (story_of scenario commands)
covers scenario commands channels m site place message e = by_home (home_of scenario site) refl
  where
    weaker : (ms : List Participant) (home : Home) → Among (λ (p : Participant). (p.site ≡ site) × (p.protocol ≡ home.protocol)) ms → Among (λ (p : Participant). p.site ≡ site) ms
    weaker [] home i = i
    weaker (p ∷ ms) home (inl both) = inl both.0
    weaker (p ∷ ms) home (inr i) = inr (weaker ms home i)

    by_home : (o : Option Home) → home_of scenario site ≡ o → message_at channels site place ≡ Some message
    by_home None none = (let clash = sym (ap (λ ms. item_at ms place) (declared_sends scenario commands site none)) ∙ e in cc)
    by_home (Some home) d =
        covers_in (story_of scenario commands) channels site place message
        (channel_in channels site (subst (In site) (sym m.sites) (listed_in (protocols scenario) site (weaker (protocols scenario) home (is-declared scenario site home d).0)))) m.sent e

-- an attempt that a line begins was begun
begun_some : (g : Tid) (past : CoordPast) → Among (λ x. begins g x.answer ≡ true) past → is_begun past g ≡ true
begun_some g [] i = absurd i
begun_some g (x ∷ past) (inl e) = begun-next past g x ∙ ap (λ b. b || is_begun past g) e
begun_some g (x ∷ past) (inr i) = begun-next past g x ∙ (ap (λ b. begins g x.answer || b) (begun_some g past i) ∙ or_true (begins g x.answer))
  where
    or_true : (b : Bool) → (b || true) ≡ true
    or_true true = refl
    or_true false = refl

none_of : (test : Tid → Bool) (tids : List Tid) → those test tids ≡ [] → Each (λ t. test t ≡ false) tids
none_of test [] e = tt
none_of test (t ∷ tids) e = by_test (test t) refl e (none_of test tids)
  where
    by_test : (b : Bool) → test t ≡ b → cond b (t ∷ those test tids) (those test tids) ≡ [] → (those test tids ≡ [] → Each (λ t. test t ≡ false) tids) → Each (λ t. test t ≡ false) (t ∷ tids)
    by_test true q f h = cc
    by_test false q f h = (q, h f)

each_rising : (P : Tid → Type 0) (tids : List Tid) → Each P tids → Each P (rising tids)
each_rising P [] h = tt
each_rising P (t ∷ tids) h = each_inserted P tid_before t (rising tids) h.0 (each_rising P tids h.1)

all_of : (test : Tid → Bool) (tids : List Tid) → Each (λ t. test t ≡ true) tids → those test tids ≡ tids
all_of test [] h = refl
all_of test (t ∷ tids) h = ap (λ b. cond b (t ∷ those test tids) (those test tids)) h.0 ∙ ap (λ ts. t ∷ ts) (all_of test tids h.1)

each_more : (P Q : Tid → Type 0) → ((t : Tid) → P t → Q t) → (tids : List Tid) → Each P tids → Each Q tids
each_more P Q f [] h = tt
each_more P Q f (t ∷ tids) h = (f t h.0, each_more P Q f tids h.1)

site_of_order : (scenario : Scenario) (story : Story) (ss : List SiteId) (ts : List Tid) → In ts (map (order_at scenario story) ss) → (site : SiteId) × (order_at scenario story site ≡ ts)
site_of_order scenario story [] ts i = absurd i
site_of_order scenario story (s ∷ ss) ts (inl e) = (s, e)
site_of_order scenario story (s ∷ ss) ts (inr i) = site_of_order scenario story ss ts i

module _ (rights : StoriesHaveRightLines) (one_order : OfStories HasOneOrder) (scenario : Scenario) (whole : IsScenario scenario) (lines : List Line) (channels : List Traffic) (marks : List Marks) (rows : List SiteRows)
    (session : IsSession scenario lines channels marks rows) where
  abbrev commands : List Command
  commands = map (λ (l : Line). l.command) (reverse lines)

  abbrev story : Story
  story = story_of scenario commands

  abbrev past : CoordPast
  past = coord_past story

  abbrev told : Told
  told = told_by channels (reverse lines)

  abbrev pub committed : Tx → Option Tid
  committed = committed_of (Coordinator.records past)

  globals_are : told.globals ≡ globals_of past
  globals_are = globals_told scenario channels (reverse lines) session.right (covers scenario commands channels session.messages)

  looked : (g : Tid) → look told.globals g ≡ cond (is_begun past g) (Some (Coordinator.reads past g)) None
  looked g = ap (λ rs. look rs g) globals_are ∙ (story_globals scenario whole commands).looks g

  begun_are : tids_of told.globals ≡ begun story
  begun_are = ap tids_of globals_are ∙ (story_globals scenario whole commands).tids

  decided : (g : Tid) → decision_by committed g ≡ outcome (Coordinator.records past) g
  decided g = decision_is (Coordinator.records past) (λ a b e p q. (global-once scenario commands).once a b e (inr p) (inr q)) g

  outcomes_are : outcomes_by committed (tids_of told.globals) ≡ outcomes story
  outcomes_are =
      ap (outcomes_by committed) begun_are
      ∙ map_same (λ (tid : Tid). let o : Outcome = record { tid = tid; decision = decision_by committed tid } in o) (λ tid. record { tid = tid; decision = outcome (Coordinator.records past) tid }) (begun story)
      (λ tid i. ap (λ d. record { tid = tid; decision = d }) (decided tid))

  -- a refused attempt was begun and has no commit
  refused_so : (g : Tid) → is_refused (outcomes_by committed (tids_of told.globals)) g ≡ (is_begun past g && not (is_committed story g))
  refused_so g =
      refused_is committed told.globals g
      ∙ ap₂ (λ (a b : Bool). a && b) (ap (λ o. is_some o) (looked g) ∙ some_begun (is_begun past g)) (ap is_abort (decided g) ∙ abort_is (Coordinator.records past) g)
    where
      some_begun : (b : Bool) → is_some (cond b (Some (Coordinator.reads past g)) None) ≡ b
      some_begun true = refl
      some_begun false = refl

  unbegun : (tid : Tid) (home : Home) → local_home scenario tid.tx ≡ Some home → is_begun past tid ≡ false
  unbegun tid home here = by_test (is_begun past tid) refl
    where
      by_test : (b : Bool) → is_begun past tid ≡ b → is_begun past tid ≡ false
      by_test false q = q
      by_test true q = (let none = ((story-holds scenario whole commands tid).programmed q).1 in let clash = sym (ap (home_at scenario) none) ∙ here in cc)

  module _ (refused : Tid → Bool) (same : (g : Tid) → refused g ≡ is_refused (outcomes_by committed (tids_of told.globals)) g) where
    agree : (home : Home) → home_of scenario home.site ≡ Some home → Agree (is_committed story) refused (records home (past_of home.site story))
    agree home declared = record {
      locals = λ tid number writes i. same tid ∙ (refused_so tid ∙ ap (λ b. b && not (is_committed story tid)) (unbegun tid home (local-record scenario commands home tid declared (record { number = number; writes = writes; kept = i }))));
      globals = λ tid epoch number ticket writes i.
          let a = agreed scenario home tid commands declared in
          let (n, sent) = a.prepared epoch (prepared_in tid epoch number ticket writes (records home (past_of home.site story)) i) in
          same tid ∙ (refused_so tid ∙ ap (λ b. b && not (is_committed story tid)) (begun_some tid past (a.preparing epoch n sent).begun));
    }
      where
        prepared_in : (tid : Tid) (epoch number ticket : ℕ) (writes : List Put) (rs : _) → In (Rec.Prepared tid epoch number ticket writes) rs → Among (IsPrepared tid epoch) rs
        prepared_in tid epoch number ticket writes [] i = i
        prepared_in tid epoch number ticket writes (r ∷ rs) (inl e) = inl (subst (IsPrepared tid epoch) (sym e) (refl, refl))
        prepared_in tid epoch number ticket writes (r ∷ rs) (inr i) = inr (prepared_in tid epoch number ticket writes rs i)

    one_order_is : (site : SiteId) → order_told refused (marks_of scenario story site) ≡ order_at scenario story site
    one_order_is site = by_home (home_of scenario site) refl
      where
        by_home : (o : Option Home) → home_of scenario site ≡ o → order_told refused (marks_at o story) ≡ order_of (is_committed story) (records_at o story)
        by_home None e = refl
        by_home (Some home) e = order_is (is_committed story) refused (records home (past_of home.site story)) (agree home (home-again scenario site home e))

    sites_orders : (ms : List Marks) → Each (λ one. one.kept.items ≡ marks_of scenario story one.site) ms → orders_told refused ms ≡ map (order_at scenario story) (map (λ one. one.site) ms)
    sites_orders [] h = refl
    sites_orders (one ∷ ms) h = ap₂ (λ (t : List Tid) (ts : List (List Tid)). t ∷ ts) (ap (order_told refused) h.0 ∙ one_order_is one.site) (sites_orders ms h.1)

    orders_are : orders_told refused marks ≡ orders scenario story
    orders_are = sites_orders marks session.marked.kept ∙ ap (map (order_at scenario story)) session.marked.sites

  -- what a member read
  kind_reads : (tid : Tid) (site : SiteId) (home : Home) → Kind scenario commands home tid → values_told told tid ≡ reads_of scenario story tid
  kind_reads tid site home (AtHome m) =
      ap (λ o. or_else o (or_else (look told.locals tid) [])) (looked tid ∙ ap (λ b. cond b (Some (Coordinator.reads past tid)) None) (unbegun tid home m.here))
      ∙ ((locals_told rights scenario whole channels (reverse lines) session.right).reads home tid m.here ∙ sym (ap (λ o. reads_at o story tid) m.here))
  kind_reads tid site home (Roaming m) =
      ap (λ o. or_else o (or_else (look told.locals tid) [])) (looked tid ∙ ap (λ b. cond b (Some (Coordinator.reads past tid)) None) ((story-holds scenario whole commands tid).holds.committed m.commit).known)
      ∙ sym (ap (λ o. reads_at o story tid) (ap (home_at scenario) m.roams))

  member_reads : (order : List Tid) → merge.IsMerge same_tid (orders scenario story) order → (tid : Tid) → In tid order → values_told told tid ≡ reads_of scenario story tid
  member_reads order merged tid i =
      let a = some_of_is (λ ts. is_in same_tid ts tid) (orders scenario story) (each_of_at (λ t. some_of (λ ts. is_in same_tid ts t) (orders scenario story)) order tid merged.named i) in
      let (site, e) = site_of_order scenario story (sites scenario) a.0 a.1 in
      let j : In tid (order_at scenario story site) = subst (In tid) (sym e) (is_in_true same_tid tells_tids a.0 tid a.2) in
      let (home, declared) = member-declared scenario story site tid j in
      kind_reads tid site home (kind-of scenario whole commands site home tid declared j)

  reads_are : (order : List Tid) → merge.IsMerge same_tid (orders scenario story) order → map (λ tid. let r : TxReads = record { tid = tid; values = values_told told tid } in r) order
      ≡ map (λ tid. record { tid = tid; values = reads_of scenario story tid }) order
  reads_are order merged = map_same _ _ order (λ tid i. ap (λ vs. record { tid = tid; values = vs }) (member_reads order merged tid i))

  forgotten_are : tids_of told.globals ≡ forgotten scenario story
  forgotten_are =
      begun_are
      ∙ sym (all_of (is_forgotten scenario story) (begun story)
      (each_rising (λ t. is_forgotten scenario story t ≡ true) (begun_tids past)
      (each_more (λ t. is_known (standing (protocols scenario) past t) ≡ false) (λ t. is_forgotten scenario story t ≡ true)
      (λ t e. ap₂ (λ (a b : Bool). not a && not b) session.over.up e) (begun_tids past)
      (none_of (λ t. is_known (standing (protocols scenario) past t)) (begun_tids past) (none_rising _ session.over.none_known)))))

  -- all together
  pub is_gathered : (gathered : Gathered) (refused : Tid → Bool) → gathered.telling ≡ told → gathered.begun.items ≡ tids_told gathered.telling → gathered.ends.items ≡ outcomes_by committed gathered.begun.items
      → ((g : Tid) → refused g ≡ is_refused gathered.ends.items g) → gathered.orders.items ≡ orders_told refused marks → gathered.tables.items ≡ rows → IsGathered scenario story gathered
  is_gathered gathered refused telling begins ends refuses ordered shown =
      let tids = begins ∙ ap (λ (t : Told). tids_told t) telling in
      let ended = ends ∙ ap (outcomes_by committed) tids in
      record {
        one_order = one_order scenario whole commands;
        ordered = ordered ∙ orders_are refused (λ g. refuses g ∙ ap (λ (os : List Outcome). is_refused os g) ended);
        read = λ order merged. ap (λ (t : Told). map (reads_told t) order) telling ∙ reads_are order merged;
        ended = ended ∙ outcomes_are;
        begun = tids ∙ forgotten_are;
        shown = shown ∙ session.shown;
      }
