-- The messages of a session that goes on from disks: each to a site is about an attempt that may be told there.
use Rattle.std.proofs.Common.{◌≡◌, ◌⊎◌, Bool, true, false, cond, Option, Some, None, List, [], ◌∷◌, ◌++◌, inl, inr, refl, sym, ap, ◌∙◌, subst}
use Rattle.std.specs.List.{AllByRecursion}
use Rattle.mdb_base.specs.declared.names.Tid.{Tid}
use Rattle.mdb_base.specs.declared.names.Tx.{Tx}
use Rattle.mdb_base.specs.Names.{same_site}
use Rattle.mdb_base.specs.Words.{Among, Each}
use Rattle.mdb_base.proofs.ForCallers.{among_append, among_split, append_nil, same_tid-refl, some_parts}
use Rattle.order_laws.specs.Chains.{In}
use Rattle.order_laws.proofs.ForCallers.{each_at}
use Rattle.field_bytes.specs.Fields.{IsTid}
use Rattle.presumptions.specs.declared.Decision.{Decision}
use Rattle.presumptions.specs.declared.Participant.{Participant}
use Rattle.fed_rules.specs.declared.commands.Command.{Command}
use Rattle.fed_rules.specs.declared.events.CoordEvent.{CoordEvent}
use Rattle.fed_rules.specs.declared.events.CoordEvent.TheVariants as Coord_event
use Rattle.fed_rules.specs.declared.messages.FromSite.{FromSite}
use Rattle.fed_rules.specs.declared.messages.FromSite.TheVariants as From
use Rattle.fed_rules.specs.declared.messages.ToSite.{ToSite}
use Rattle.fed_rules.specs.declared.messages.ToSite.TheVariants as To
use Rattle.fed_rules.specs.declared.records.CoordRecord.{CoordRecord}
use Rattle.fed_rules.specs.declared.records.CoordRecord.TheVariants as Coord_rec
use Rattle.fed_rules.specs.declared.records.SiteRecord.{SiteRecord}
use Rattle.fed_rules.specs.declared.scenario.Scenario.{Scenario}
use Rattle.fed_rules.specs.CoordPast.{CoordHappening, CoordPast, begins, begun_tids}
use Rattle.fed_rules.specs.CoordRecords.{recorded}
use Rattle.fed_rules.specs.Found.{Found, Journal}
use Rattle.fed_rules.specs.Resumed.{going_on, plan_of}
use Rattle.fed_rules.specs.Scenarios.{home_of, policy, protocols}
use Rattle.fed_rules.specs.Site.{site_line}
use Rattle.fed_rules.specs.SitePast.{records}
use Rattle.fed_rules.specs.SiteRecords.{Home}
use Rattle.fed_rules.specs.Site_of.{about}
use Rattle.fed_rules.specs.Story.{AtCoordinator, AtSite, Happened, Nowhere, Story, coord_past, happens, past_of, sends_from, sends_to, sent_from, sent_to, story_in, with_coordinator}
use Rattle.fed_rules.specs.Usable.{AreUnnamed, IsAttemptOf, coord_read as read_records}
use Rattle.coord_laws.proofs.ForCallers.{CoordSound, IsBegun, IsTelling, Known, Now, Presumed, begins_go, begun_in, coord_lines, names_declared, opened_begun, read_is}
use Rattle.commit_laws.proofs.ForCallers.{CoordCame, IsNext, Says, linked, linked-here, member_of, protocols_rise, session_sound, site-lines, told-to}
use Rattle.found_laws.specs.FoundSessions.{AreUsable, IsOfFormat}
use Rattle.found_laws.proofs.ForCallers.{IsDecide, begins as begins_so, begins_nothing, closed_standing, decisions_alone, each_here, fits, idle, nobody_on, plan_sites, rise_all, session_begins}
use Rattle.fed_rules.specs.Coord.{coord_line}
use Rattle.fed_rules.specs.Reopened.{opened_coordinator}
use Rattle.fed_rules.proofs.ForCallers.{BeginsNothing, with_in}
use Rattle.site_journal.specs.Spelling.{IsRecord}
use Rattle.local_dbms.specs.Found.{found_programs}
use Rattle.local_dbms.specs.Stands.{OwnPrograms, own_programs}
use Rattle.fed_world.specs.Beginnings.{either, journal_at, programs_at, with_found}
use Rattle.fed_world.proofs.FoundSites.{IsHere, MayBeTold, doubt_on, firm_on, found_here, not_local_there}

-- ---- what is recorded

-- an attempt that is recorded has a record
recorded_among : (rs : List CoordRecord) (tid : Tid) → In tid (recorded rs) → Among (IsAttemptOf tid.tx) rs
recorded_among [] tid i = absurd i
recorded_among (Coord_rec.Initiation t ms ∷ rs) tid i = elim (with_in t tid (recorded rs) i) [ inl e ↦ inl (ap (λ (g : Tid). g.tx) e) | inr j ↦ inr (recorded_among rs tid j) ]
recorded_among (Coord_rec.Commit t ks ∷ rs) tid i = elim (with_in t tid (recorded rs) i) [ inl e ↦ inl (ap (λ (g : Tid). g.tx) e) | inr j ↦ inr (recorded_among rs tid j) ]
recorded_among (Coord_rec.Abort t ms ∷ rs) tid i = elim (with_in t tid (recorded rs) i) [ inl e ↦ inl (ap (λ (g : Tid). g.tx) e) | inr j ↦ inr (recorded_among rs tid j) ]
recorded_among (Coord_rec.End t ∷ rs) tid i = elim (with_in t tid (recorded rs) i) [ inl e ↦ inl (ap (λ (g : Tid). g.tx) e) | inr j ↦ inr (recorded_among rs tid j) ]
recorded_among (Coord_rec.Checkpoint sum ∷ rs) tid i = inr (recorded_among rs tid i)

-- the programs of a site are those that are found there, where it has no transactions
found_alone : (o : Option (Journal SiteRecord)) (journal : Journal SiteRecord) (own : OwnPrograms) (tx : Tx) → o ≡ Some journal → own tx ≡ None → found_programs journal.records tx ≡ None
    → with_found o own tx ≡ None
found_alone None journal own tx e none f = none
found_alone (Some other) journal own tx e none f =
    let same : other ≡ journal = some_parts e in
    ap (λ (p : Option _). either p (found_programs other.records tx)) none ∙ (ap (λ (j : Journal SiteRecord). found_programs j.records tx) same ∙ f)

module _ (found : Found) (u : AreUsable found) (format : Each IsOfFormat found.sites) (written : Each (λ (journal : Journal SiteRecord). AllByRecursion IsRecord journal.records) found.sites)
    (home : Home) (declared : home_of (plan_of found) home.site ≡ Some home) where
  abbrev plan : Scenario
  plan = plan_of found

  abbrev members : List Participant
  members = protocols (plan_of found)

  abbrev story_on : List Command → Story
  story_on commands = story_in (going_on found) commands

  sound : (g : Tid) (commands : List Command) → CoordSound (protocols (plan_of found)) (member_of home) g (coord_past (story_on commands))
  sound g commands = session_sound (going_on found) (fits found u) (member_of home) g commands

  -- at first nothing was sent
  first_silent : (sent_to home.site (story_on []) ≡ []) × (sent_from home.site (story_on []) ≡ [])
  first_silent = let b = session_begins (going_on found) u.coordinator u.is home.site in (b.to, b.from)

  -- ---- who began

  never_goes : (event go : CoordEvent) (g : Tid) (steps : List _) → BeginsNothing event → event ≡ go → go ≡ Coord_event.Go g steps → ⊥
  never_goes event go g steps nothing is goes = subst BeginsNothing (is ∙ goes) nothing

  -- no attempt begins
  begun_first : (commands : List Command) (g : Tid) → IsBegun (coord_past (story_on commands)) g → IsBegun (coord_past (story_on [])) g
  begun_first [] g b = b
  begun_first (command ∷ commands) g b = by_line (happens plan (story_on commands) command) (linked plan (story_on commands) command).next b (begun_first commands g)
    where
      by_line : (happened : Happened) → IsNext plan (story_on commands) happened → IsBegun (with_coordinator happened (coord_past (story_on commands))) g
          → (IsBegun (coord_past (story_on commands)) g → IsBegun (coord_past (story_on [])) g) → IsBegun (coord_past (story_on [])) g
      by_line (Nowhere answer) next b before = before b
      by_line (AtSite at x) next b before = before b
      by_line (AtCoordinator x) (event, is, came) (inr b) before = before b
      by_line (AtCoordinator x) (event, is, came) (inl b) before =
          let past : CoordPast = coord_past (story_on commands) in
          let line = coord_lines members (policy plan) g past event (sound g commands).firm in
          let goes = begins_go members g past (coord_line members (policy plan) past event) line.stood (ap (λ (y : CoordHappening). begins g y.answer) (sym is) ∙ b) in
          absurd (never_goes event (coord_line members (policy plan) past event).event g goes.0 (begins_nothing plan (story_on commands) event (idle found) came) (sym line.is) goes.1)

  -- who began before the session is of a transaction with a record
  begun_recorded : (g : Tid) → IsBegun (coord_past (story_on [])) g → Among (IsAttemptOf g.tx) (read_records u.coordinator.records)
  begun_recorded g b =
      let first = (begins_so found u).at_coordinator in
      let listed : In g (begun_tids (opened_coordinator members u.coordinator)) = subst (λ (p : CoordPast). In g (begun_tids p)) first (begun_in (coord_past (story_on [])) g b) in
      let rise = rise_all members (protocols_rise plan.sites (plan_sites found u).differ) in
      let (greater, i, same, most) = opened_begun members u.coordinator (names_declared members u.coordinator rise u.usable u.members) g listed in
      subst (λ (tx : Tx). Among (IsAttemptOf tx) (read_records u.coordinator.records)) same
      (recorded_among (read_records u.coordinator.records) greater (subst (λ (rs : List CoordRecord). In greater (recorded rs)) (read_is u.coordinator.records u.coordinator.torn) i))

  -- ---- what was sent

  -- who asks is in doubt
  asked : (commands : List Command) (g : Tid) → In (From.Inquiry g) (sent_from home.site (story_on commands)) → (journal : Journal SiteRecord) × IsHere found home journal × MayBeTold journal g
  asked [] g i = absurd (subst (In (From.Inquiry g)) first_silent.1 i)
  asked (command ∷ commands) g i = by_line (happens plan (story_on commands) command) (linked plan (story_on commands) command).next i (asked commands g)
    where
      Answers : Type 0
      Answers = (journal : Journal SiteRecord) × IsHere found home journal × MayBeTold journal g

      by_line : (happened : Happened) → IsNext plan (story_on commands) happened → In (From.Inquiry g) (sent_from home.site (story_on commands) ++ sends_from home.site happened)
          → (In (From.Inquiry g) (sent_from home.site (story_on commands)) → Answers) → Answers
      by_line (Nowhere answer) next j old = old (subst (In (From.Inquiry g)) (append_nil (sent_from home.site (story_on commands))) j)
      by_line (AtCoordinator x) next j old = old (subst (In (From.Inquiry g)) (append_nil (sent_from home.site (story_on commands))) j)
      by_line (AtSite at x) next j old =
          elim (among_split (λ (y : FromSite). y ≡ From.Inquiry g) (sent_from home.site (story_on commands)) (sends_from home.site (AtSite at x)) j) [
            | inl before ↦ old before
            | inr new ↦ by_test (same_site at home.site) refl new
          ]
        where
          by_test : (b : Bool) → same_site at home.site ≡ b → In (From.Inquiry g) (cond b x.sends []) → Answers
          by_test false q k = absurd k
          by_test true q k =
              let (event, is, came) = linked-here plan home (story_on commands) x at declared q next in
              let past = past_of home.site (story_on commands) in
              let line = site-lines home g past event (firm_on found u format written home declared commands) in
              let sent : In (From.Inquiry g) (site_line home past event).sends = subst (λ y. In (From.Inquiry g) y.sends) is k in
              let doubt = each_at (Says home g past (site_line home past event)) (From.Inquiry g) (site_line home past event).sends line.says sent (same_tid-refl g) in
              doubt_on found u format written home declared commands g doubt.0 doubt.1

  -- a decision is told of who began, or of who was asked about
  told : (commands : List Command) (m : ToSite) → In m (sent_to home.site (story_on commands))
      → IsBegun (coord_past (story_on commands)) (about m) ⊎ In (From.Inquiry (about m)) (sent_from home.site (story_on commands))
  told [] m i = absurd (subst (In m) first_silent.0 i)
  told (command ∷ commands) m i = by_line (happens plan (story_on commands) command) (linked plan (story_on commands) command).next i (told commands m)
    where
      Told : Happened → Type 0
      Told happened = IsBegun (with_coordinator happened (coord_past (story_on commands))) (about m) ⊎ In (From.Inquiry (about m)) (sent_from home.site (story_on commands) ++ sends_from home.site happened)

      more : (happened : Happened) → ((g : Tid) → IsBegun (coord_past (story_on commands)) g → IsBegun (with_coordinator happened (coord_past (story_on commands))) g)
          → IsBegun (coord_past (story_on commands)) (about m) ⊎ In (From.Inquiry (about m)) (sent_from home.site (story_on commands)) → Told happened
      more happened stays (inl b) = inl (stays (about m) b)
      more happened stays (inr i) = inr (among_append (λ (y : FromSite). y ≡ From.Inquiry (about m)) (sent_from home.site (story_on commands)) (sends_from home.site happened) i)

      by_line : (happened : Happened) → IsNext plan (story_on commands) happened → In m (sent_to home.site (story_on commands) ++ sends_to home.site happened)
          → (In m (sent_to home.site (story_on commands)) → IsBegun (coord_past (story_on commands)) (about m) ⊎ In (From.Inquiry (about m)) (sent_from home.site (story_on commands)))
          → Told happened
      by_line (Nowhere answer) next j old = more (Nowhere answer) (λ g b. b) (old (subst (In m) (append_nil (sent_to home.site (story_on commands))) j))
      by_line (AtSite at x) next j old = more (AtSite at x) (λ g b. b) (old (subst (In m) (append_nil (sent_to home.site (story_on commands))) j))
      by_line (AtCoordinator x) (event, is, came) j old =
          elim (among_split (λ (y : ToSite). y ≡ m) (sent_to home.site (story_on commands)) (sends_to home.site (AtCoordinator x)) j) [
            | inl before ↦ more (AtCoordinator x) (λ g b. inr b) (old before)
            | inr new ↦ subst (λ (y : CoordHappening). Told (AtCoordinator y)) (sym is) (by_message m (a_decision (subst (λ (y : CoordHappening). In m (sends_to home.site (AtCoordinator y))) is new)) (subst (λ (y : CoordHappening). In m (sends_to home.site (AtCoordinator y))) is new))
          ]
        where
          past : CoordPast
          past = coord_past (story_on commands)

          line : CoordHappening
          line = coord_line members (policy plan) (coord_past (story_on commands)) event

          -- the line sends nothing but decisions
          a_decision : In m (sends_to home.site (AtCoordinator line)) → IsDecide m
          a_decision sent =
              each_here home.site line.sends m
              (decisions_alone members (policy plan) (coord_past (story_on commands)) (nobody_on found u commands) event (begins_nothing plan (story_on commands) event (idle found) came)) sent

          Says_so : ToSite → Type 0
          Says_so k = IsBegun (line ∷ coord_past (story_on commands)) (about k) ⊎ In (From.Inquiry (about k)) (sent_from home.site (story_on commands) ++ [])

          by_why : (g : Tid) (d : Decision) → IsTelling members g (coord_past (story_on commands)) line home.site d → Says_so (To.Decide g d)
          by_why g d (Now f o e news known by) = absurd (closed_standing members (coord_past (story_on commands)) g (nobody_on found u commands g) o)
          by_why g d (Known e) = inl (inr ((sound g commands).decided d e).0)
          by_why g d (Presumed e q p) =
              let lines = coord_lines members (policy plan) g (coord_past (story_on commands)) event (sound g commands).firm in
              let inquired : event ≡ Coord_event.Take home.site (From.Inquiry g) = sym lines.is ∙ q in
              let i : In (From.Inquiry g) (sent_from home.site (story_on commands)) = subst (CoordCame plan (story_on commands)) inquired came in
              inr (subst (In (From.Inquiry g)) (sym (append_nil (sent_from home.site (story_on commands)))) i)

          by_message : (k : ToSite) → IsDecide k → In k (sends_to home.site (AtCoordinator line)) → Says_so k
          by_message (To.Decide g d) decide sent =
              let lines = coord_lines members (policy plan) g (coord_past (story_on commands)) event (sound g commands).firm in
              by_why g d (told-to members g (coord_past (story_on commands)) line home.site line.sends (To.Decide g d) lines.tells sent (same_tid-refl g))
          by_message (To.Work tid e n act) decide sent = absurd decide
          by_message (To.Take tid e n) decide sent = absurd decide
          by_message (To.Prepare tid e n) decide sent = absurd decide

  -- so each message may be told
  pub may_be_told : (commands : List Command) → Each IsTid (begun_tids (coord_past (story_in (going_on found) commands))) → (m : ToSite) → In m (sent_to home.site (story_in (going_on found) commands))
      → (programs_at (going_on found) home.site (about m).tx ≡ None) × IsTid (about m)
  may_be_told commands in_range m i = elim (told commands m i) [
    | inl begun ↦
        let here = found_here found u format written home declared in
        let unnamed = each_at (λ (site : Journal SiteRecord). AreUnnamed u.coordinator.records site.records) here.0 found.sites u.unnamed here.1.among in
        let foreign = not_local_there found home here.0 here.1 (about m) (λ locals. unnamed (about m).tx locals (begun_recorded (about m) (begun_first commands (about m) begun))) in (
          found_alone (journal_at found.sites home.site) here.0 (own_programs home.site []) (about m).tx here.1.is refl foreign,
          each_at IsTid (about m) (begun_tids (coord_past (story_on commands))) in_range (begun_in (coord_past (story_on commands)) (about m) begun),
        )
    | inr inquired ↦
        let (journal, here, may) = asked commands (about m) inquired in
        (found_alone (journal_at found.sites home.site) journal (own_programs home.site []) (about m).tx here.is refl may.foreign, may.in_range)
  ]
