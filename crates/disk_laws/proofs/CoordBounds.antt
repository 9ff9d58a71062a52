-- The tickets of committed attempts are those of Prepared records, so they are at most as many as the lines of their site.
use Rattle.std.proofs.Common.{◌≡◌, ◌<◌, ◌^◌, true, Option, Some, None, List, [], ◌∷◌, length, refl, sym, subst, inl, inr, arith}
use Rattle.mdb_base.specs.declared.names.SiteId.{SiteId}
use Rattle.mdb_base.specs.declared.names.SiteTicket.{SiteTicket}
use Rattle.mdb_base.specs.declared.names.Tid.{Tid}
use Rattle.mdb_base.specs.Words.{Among, Each}
use Rattle.order_laws.specs.Chains.{In}
use Rattle.order_laws.specs.Tickets.{Ticketed}
use Rattle.order_laws.proofs.ForCallers.{each_at, each_from}
use Rattle.fed_rules.specs.declared.commands.Command.{Command}
use Rattle.fed_rules.specs.declared.messages.FromSite.TheVariants as From
use Rattle.fed_rules.specs.declared.records.CoordRecord.{CoordRecord}
use Rattle.fed_rules.specs.declared.records.CoordRecord.TheVariants.{Initiation, Commit, Abort, End, Checkpoint}
use Rattle.fed_rules.specs.declared.records.SiteRecord.TheVariants as Rec
use Rattle.fed_rules.specs.declared.scenario.Scenario.{Scenario}
use Rattle.fed_rules.specs.declared.sums.CommittedAttempt.{CommittedAttempt}
use Rattle.fed_rules.specs.CoordPast.{journal, program, records, visits}
use Rattle.fed_rules.specs.CoordRecords.{commits}
use Rattle.fed_rules.specs.CoordSums.{committed_with}
use Rattle.fed_rules.specs.Plans.{IsScenario}
use Rattle.fed_rules.specs.Scenarios.{home_of, policy, protocols}
use Rattle.fed_rules.specs.SitePast as Site
use Rattle.fed_rules.specs.SiteRecords.{Home}
use Rattle.fed_rules.specs.Story.{coord_past, past_of, sent_from, story_of}
use Rattle.fed_rules.specs.Usable.{IsCoordBelow, IsTicketBelow}
use Rattle.commit_laws.proofs.ForCallers.{home-again, its-site, story_made}
use Rattle.coord_laws.proofs.ForCallers.{committed_tid}
use Rattle.federation_laws.proofs.ForCallers.{IsSaid, declared-program, node-tid, story-agrees, story-holds, undeclared, votes-sent}
use Rattle.site_history.proofs.ForCallers.{of_events}
use Rattle.coord_laws.specs.Sums.{AreCoordSums}
use Rattle.disk_laws.specs.Left.{CoordinatorsAreBelow, OfShortCoordinators}
use Rattle.disk_laws.proofs.CoordLeft.{each_standing, stands, sums_hold}
use Rattle.disk_laws.proofs.ReadRecords.{Commits, committed_from}
use Rattle.fed_rules.proofs.ForCallers.{past_short}
use Rattle.disk_laws.proofs.SiteBounds.{AreBelow, IsBelow, pasts_below}

-- a record whose tickets are those of committed attempts
abbrev AreTicketed : List CoordRecord → CoordRecord → Type 0
AreTicketed rs (Commit t ks) = In (record { tid = t; tickets = ks }) (commits rs)
AreTicketed rs other = Unit {0}

module _ (scenario : Scenario) (good : IsScenario scenario) (commands : List Command) (short : length commands < 2 ^ 30) where
  -- the declared site of a step
  declared_site : (g : Tid) (s : SiteId) → visits s (program (coord_past (story_of scenario commands)) g) ≡ true → (home : Home) × (home_of scenario home.site ≡ Some home) × (s ≡ home.site)
  declared_site g s v = by_home (home_of scenario s) refl
    where
      by_home : (o : Option Home) → home_of scenario s ≡ o → (home : Home) × (home_of scenario home.site ≡ Some home) × (s ≡ home.site)
      by_home None e = absurd (undeclared scenario.sites scenario.items s e (declared-program scenario good (story_of scenario commands) g (story-holds scenario good commands g) s v))
      by_home (Some home) e = (home, home-again scenario s home e, sym (its-site scenario s home e))

  ticket_below : (node : Ticketed) → In node (commits (records (coord_past (story_of scenario commands)))) → (k : SiteTicket) → In k node.tickets → IsTicketBelow k
  ticket_below node i k j =
      let story = story_of scenario commands in
      let vote = (votes-sent scenario good commands).tickets node i k j in
      let (home, declared, at) = declared_site node.tid k.site vote.visited in
      let h = story-holds scenario good commands node.tid in
      let known = (h.holds.committed (committed_tid (records (coord_past story)) node.tid (node-tid (records (coord_past story)) node i))).known in
      let a = story-agrees scenario good commands home node.tid declared (h.programmed known).1 in
      let p = each_at (IsSaid home (past_of home.site story) node.tid) (From.Vote node.tid (Some k.ticket)) (sent_from home.site story) a.said
      (subst (λ z. In (From.Vote node.tid (Some k.ticket)) (sent_from z story)) at vote.sent) refl in
      let b = of_events AreBelow pasts_below scenario commands home.site home declared in
      let le = (each_at (IsBelow (length (past_of home.site story))) (Rec.Prepared node.tid p.epoch p.number k.ticket p.writes) (Site.records home (past_of home.site story)) b.kept p.kept).1 in
      let most = past_short scenario commands home.site in
      omega (arith, le, most, short)

  -- of all committed ones that these records have
  from_node : (rs : List CoordRecord) → ((node : Ticketed) → In node (commits rs) → In node (commits (records (coord_past (story_of scenario commands))))) → (c : CommittedAttempt)
      → Among (Commits (λ d. d ≡ c)) rs → Each IsTicketBelow c.tickets
  from_node [] sub c m = absurd m
  from_node (Commit t ks ∷ rs) sub c (inl e) =
      subst (λ (d : CommittedAttempt). Each IsTicketBelow d.tickets) e
      (each_from IsTicketBelow ks (ticket_below (record { tid = t; tickets = ks }) (sub (record { tid = t; tickets = ks }) (inl refl))))
  from_node (Commit t ks ∷ rs) sub c (inr m) = from_node rs (λ node i. sub node (inr i)) c m
  from_node (Initiation t ms ∷ rs) sub c (inl never) = absurd never
  from_node (Initiation t ms ∷ rs) sub c (inr m) = from_node rs sub c m
  from_node (Abort t ms ∷ rs) sub c (inl never) = absurd never
  from_node (Abort t ms ∷ rs) sub c (inr m) = from_node rs sub c m
  from_node (End t ∷ rs) sub c (inl never) = absurd never
  from_node (End t ∷ rs) sub c (inr m) = from_node rs sub c m
  from_node (Checkpoint sum ∷ rs) sub c (inl never) = absurd never
  from_node (Checkpoint sum ∷ rs) sub c (inr m) = from_node rs sub c m

  all_below : (rs : List CoordRecord) → ((node : Ticketed) → In node (commits rs) → In node (commits (records (coord_past (story_of scenario commands)))))
      → AreCoordSums (protocols scenario) rs → Each IsCoordBelow rs
  all_below [] sub s = tt
  all_below (Commit t ks ∷ rs) sub s = (
    each_from IsTicketBelow ks (ticket_below (record { tid = t; tickets = ks }) (sub (record { tid = t; tickets = ks }) (inl refl))),
    all_below rs (λ node i. sub node (inr i)) s,
  )
  all_below (Checkpoint sum ∷ rs) sub s = (
    subst (λ z. IsCoordBelow (Checkpoint z)) (sym s.0)
        (each_from (λ (attempt : CommittedAttempt). Each IsTicketBelow attempt.tickets) (committed_with [] rs)
        (λ c i. from_node rs sub c (committed_from (λ d. d ≡ c) rs i))),
    all_below rs sub s.1,
  )
  all_below (Initiation t ms ∷ rs) sub s = (tt, all_below rs sub s)
  all_below (Abort t ms ∷ rs) sub s = (tt, all_below rs sub s)
  all_below (End t ∷ rs) sub s = (tt, all_below rs sub s)

pub leave_coord_below : OfShortCoordinators CoordinatorsAreBelow
leave_coord_below scenario good commands short =
    let past = coord_past (story_of scenario commands) in
    let made = story_made scenario commands in
    each_standing (protocols scenario) IsCoordBelow (records past) (journal past) (stands (protocols scenario) (policy scenario) past made)
    (all_below scenario good commands short (records past) (λ node i. i) (sums_hold (protocols scenario) (policy scenario) past made))
