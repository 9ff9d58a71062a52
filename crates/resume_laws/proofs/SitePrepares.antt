-- In a session without transactions no site prepares anything: each Prepared record, and so each doubt, is of an attempt that a found record names.
use Rattle.std.proofs.Common.{◌≡◌, ℕ, ◌+◌, nat_le, Bool, true, false, cond, Option, Some, None, List, [], ◌∷◌, ◌++◌, length, map, sym, subst, ◌∙◌, inl, inr}
use Rattle.mdb_base.specs.declared.names.Tid.{Tid}
use Rattle.mdb_base.specs.Words.{Each, given, when, with_some}
use Rattle.mdb_base.proofs.ForCallers.{append_each}
use Rattle.order_laws.specs.Chains.{In}
use Rattle.presumptions.specs.declared.Decision.{Decision}
use Rattle.presumptions.specs.Table.{forces}
use Rattle.fed_rules.specs.declared.answers.Answer.TheVariants as Say
use Rattle.fed_rules.specs.declared.events.SiteEvent.{SiteEvent}
use Rattle.fed_rules.specs.declared.events.SiteEvent.TheVariants as Ev
use Rattle.fed_rules.specs.declared.messages.ToSite.TheVariants as To
use Rattle.fed_rules.specs.declared.records.SiteRecord.{SiteRecord}
use Rattle.fed_rules.specs.declared.records.SiteRecord.TheVariants.{Setup, Start, Prepared, Ended, Local, Checkpoint}
use Rattle.fed_rules.specs.Disk.{Append, Call, CutBack, Stops, Sync, TrimFront, is_torn}
use Rattle.fed_rules.specs.Found.{Journal}
use Rattle.fed_rules.specs.Happenings.{Trip, is_down, quiet, stopped, tripped}
use Rattle.fed_rules.specs.Reopened.{appends, local_read, long_site, opened_site, owner_read, rewritten, site_reads_as, torn_off, written}
use Rattle.fed_rules.specs.Resumed.{names}
use Rattle.fed_rules.specs.Site.{answered, of_ask, of_back, of_check, of_decide, of_drop, of_give, settles, site_line, site_past_on, unheld}
use Rattle.fed_rules.specs.SitePast.{SiteHappening, SitePast, disk, epoch, is_local, live, records, trip}
use Rattle.fed_rules.specs.SiteRecords.{Held, Home, doubt_of, prepared_tids, site_frame}
use Rattle.fed_rules.specs.SiteSums.{carried}
use Rattle.engine_laws.proofs.ForCallers.{doubt_among}
use Rattle.site_history.proofs.ForCallers.{EachAppend, append_take, disk_is, each_after}
use Rattle.found_laws.specs.Resuming.{IsResuming}

module _ (P : Tid → Type 0) where
  -- the attempt of a Prepared record has the fact
  abbrev pub Prepares : SiteRecord → Type 0
  Prepares (Prepared tid epoch number ticket writes) = P tid
  Prepares other = Unit {0}

  abbrev pub Appends : List (Call SiteRecord) → Type 0
  Appends calls = EachAppend Prepares calls

  both : (calls more : List (Call SiteRecord)) → Appends calls → Appends more → Appends (calls ++ more)
  both [] more a b = b
  both (Append r ∷ calls) more a b = (a.0, both calls more a.1 b)
  both (Sync ∷ calls) more a b = both calls more a b
  both (CutBack ∷ calls) more a b = both calls more a b
  both (TrimFront ∷ calls) more a b = both calls more a b
  both (Stops cut ∷ calls) more a b = both calls more a b

  -- ---- what is found

  named : (r : SiteRecord) → Each P (names r) → Prepares r
  named (Setup site engine protocol items) h = tt
  named (Start n) h = tt
  named (Prepared tid n number ticket writes) h = h.0
  named (Ended tid decision) h = tt
  named (Local tid number writes) h = tt
  named (Checkpoint sum) h = tt

  carried_named : (helds : List Held) (more : List Tid) → Each P (map (λ (held : Held). held.tid) helds ++ more) → Each Prepares (carried helds) × Each P more
  carried_named [] more h = (tt, h)
  carried_named (held ∷ helds) more h = let rest = carried_named helds more h.1 in ((h.0, rest.0), rest.1)

  locals_prepare : (number : ℕ) (tids : List Tid) → Each Prepares (map (local_read number) tids)
  locals_prepare number [] = tt
  locals_prepare number (tid ∷ tids) = (tt, locals_prepare number tids)

  read_named : (r : SiteRecord) → Each P (names r) → Each Prepares (site_reads_as r)
  read_named (Setup site engine protocol items) h = (tt, tt)
  read_named (Start n) h = (tt, tt)
  read_named (Prepared tid n number ticket writes) h = (tt, tt)
  read_named (Ended tid decision) h = (tt, tt)
  read_named (Local tid number writes) h = (tt, tt)
  read_named (Checkpoint sum) h = by_owner sum.owner h
    where
      locals : List SiteRecord
      locals = map (local_read sum.counter) sum.locals

      owned : (o : Option Tid) → Each P (with_some o []) → Each Prepares (owner_read o sum)
      owned None k = tt
      owned (Some tid) k = (tt, (k.0, tt))

      by_owner : (o : Option Tid) → Each P (map (λ (held : Held). held.tid) sum.doubtful ++ with_some o [])
          → Each Prepares (carried sum.doubtful ++ locals ++ owner_read o sum ++ Start sum.epoch ∷ [])
      by_owner o k =
          let parts = carried_named sum.doubtful (with_some o []) k in
          append_each Prepares (carried sum.doubtful ++ locals ++ owner_read o sum) (Start sum.epoch ∷ [])
          (append_each Prepares (carried sum.doubtful ++ locals) (owner_read o sum)
          (append_each Prepares (carried sum.doubtful) locals parts.0 (locals_prepare sum.counter sum.locals)) (owned o parts.1)) (tt, tt)

  all_appended : (rs : List SiteRecord) → Each Prepares rs → Appends (appends rs)
  all_appended [] h = tt
  all_appended (r ∷ rs) h = both (appends rs) (Append r ∷ []) (all_appended rs h.1) (h.0, tt)

  all_written : (newest : SiteRecord) (older : List SiteRecord) → Each (λ r. Each P (names r)) (newest ∷ older) → Appends (written site_reads_as newest older)
  all_written first [] h =
      both (appends (site_reads_as first)) (Append first ∷ Sync ∷ TrimFront ∷ []) (all_appended (site_reads_as first) (read_named first h.0)) (named first h.0, tt)
  all_written newest (next ∷ older) h = both (written site_reads_as next older) (Append newest ∷ []) (all_written next older h.1) (named newest h.0, tt)

  all_found : (home : Home) (journal : Journal SiteRecord) → Each (λ r. Each P (names r)) journal.records → Each Prepares (records home (opened_site journal))
  all_found home journal h = by_records journal.records journal.torn h
    where
      by_records : (rs : List SiteRecord) (torn : ℕ) → Each (λ r. Each P (names r)) rs → Each Prepares (records home (opened_site (record { records = rs; torn = torn })))
      by_records [] torn k = each_after site_frame Prepares (disk home []) (torn_off (long_site torn) torn) (tt, (tt, tt)) (tt, tt)
      by_records (newest ∷ older) torn k =
          subst (λ d. Each Prepares d.records) (sym (disk_is home newest older torn))
          (each_after site_frame Prepares (disk home []) (rewritten site_reads_as (newest ∷ older) ++ torn_off (long_site torn) torn) (tt, (tt, tt))
          (both (written site_reads_as newest older) (torn_off (long_site torn) torn) (all_written newest older k) (tt, tt)))

  -- ---- what is appended

  appends_when : (b : Bool) (x y : SiteHappening) → Appends x.calls → Appends y.calls → Appends (when b x y).calls
  unfolding when
  appends_when true x y p q = p
  appends_when false x y p q = q

  appends_given : {A : Type 0} (o : Option A) (none : SiteHappening) (some : A → SiteHappening) → Appends none.calls → ((a : A) → Appends (some a).calls) → Appends (given o some none).calls
  unfolding given
  appends_given None none some p q = p
  appends_given (Some a) none some p q = q a

  module _ (home : Home) (here : SitePast) where
    appends_tripped : (t : Option Trip) (y : SiteHappening) → Appends y.calls → Appends (tripped site_frame (disk home here) t y).calls
    unfolding tripped stopped
    appends_tripped None y p = p
    appends_tripped (Some t) y p = appends_when (nat_le t.calls (length y.calls)) _ y (append_take Prepares t.calls y.calls (Stops t.cut ∷ []) p tt) p

    while_up : (event : SiteEvent) (y : SiteHappening) → Appends y.calls
        → Appends (when (is_down here) (quiet event Say.Down) (tripped site_frame (disk home here) (trip here) y)).calls
    while_up event y p = appends_when (is_down here) _ _ tt (appends_tripped (trip here) y p)

    decide_appends : (tid : Tid) (decision : Decision) → Appends (of_decide home here tid decision).calls
    unfolding of_decide unheld settles
    decide_appends tid decision =
        appends_given (doubt_of (records home here) tid) _ _ (appends_given (live home here tid) _ _ tt (λ run. tt)) (λ held. (tt, by_force (forces home.protocol decision)))
      where
        by_force : (b : Bool) → Appends (cond b (Sync ∷ []) [])
        by_force true = tt
        by_force false = tt

    back_appends : Appends (of_back home here).calls
    unfolding of_back
    back_appends = by_torn (is_torn site_frame (disk home here))
      where
        by_torn : (b : Bool) → Appends (cond b (CutBack ∷ []) [] ++ Append (Start (epoch home here + 1)) ∷ Sync ∷ [])
        by_torn true = (tt, tt)
        by_torn false = (tt, tt)

    line_appends : (event : SiteEvent) → IsResuming event → Appends (site_line home here event).calls
    unfolding site_line answered of_give of_ask of_drop of_check stopped
    line_appends (Ev.Give (To.Decide tid decision)) i = while_up (Ev.Give (To.Decide tid decision)) (of_decide home here tid decision) (decide_appends tid decision)
    line_appends (Ev.Give (To.Work tid e n act)) i = absurd i
    line_appends (Ev.Give (To.Take tid e n)) i = absurd i
    line_appends (Ev.Give (To.Prepare tid e n)) i = absurd i
    line_appends (Ev.Trip calls cut) i = tt
    line_appends (Ev.Ask tid) i = while_up (Ev.Ask tid) _ (appends_given (doubt_of (records home here) tid) _ _ tt (λ held. tt))
    line_appends (Ev.Drop tid) i = while_up (Ev.Drop tid) _ (appends_when (is_local here tid) _ _ tt (appends_given (live home here tid) _ _ tt (λ run. tt)))
    line_appends Ev.Back i = appends_when (is_down here) _ _ (appends_tripped (trip here) (of_back home here) back_appends) tt
    line_appends Ev.Check i = while_up Ev.Check _ (appends_when _ _ _ tt (tt, tt))
    line_appends (Ev.Halt cut) i = appends_when (is_down here) _ _ tt tt
    line_appends (Ev.Begin tid) i = absurd i
    line_appends (Ev.Act tid act) i = absurd i
    line_appends (Ev.Commit tid) i = absurd i
    line_appends (Ev.Abort tid) i = absurd i
    line_appends (Ev.Fate tx) i = absurd i

  -- so it is behind all such events
  all_prepare : (home : Home) (journal : Journal SiteRecord) → Each (λ r. Each P (names r)) journal.records → (events : List SiteEvent) → Each IsResuming events
      → Each Prepares (records home (site_past_on home (opened_site journal) events))
  all_prepare home journal h [] i = all_found home journal h
  all_prepare home journal h (event ∷ events) i =
      let past = site_past_on home (opened_site journal) events in
      each_after site_frame Prepares (disk home past) (site_line home past event).calls (all_prepare home journal h events i.1) (line_appends home past event i.0)

  prepared_has : (rs : List SiteRecord) (tid : Tid) → Each Prepares rs → In tid (prepared_tids rs) → P tid
  prepared_has [] tid h i = absurd i
  prepared_has (Prepared t n number ticket writes ∷ rs) tid h (inl e) = subst P e h.0
  prepared_has (Prepared t n number ticket writes ∷ rs) tid h (inr i) = prepared_has rs tid h.1 i
  prepared_has (Setup site engine protocol items ∷ rs) tid h i = prepared_has rs tid h.1 i
  prepared_has (Start n ∷ rs) tid h i = prepared_has rs tid h.1 i
  prepared_has (Ended t decision ∷ rs) tid h i = prepared_has rs tid h.1 i
  prepared_has (Local t number writes ∷ rs) tid h i = prepared_has rs tid h.1 i
  prepared_has (Checkpoint sum ∷ rs) tid h i = prepared_has rs tid h.1 i

  -- and a site is in doubt of such attempts alone
  pub doubt_has : (home : Home) (journal : Journal SiteRecord) → Each (λ r. Each P (names r)) journal.records → (events : List SiteEvent) → Each IsResuming events
      → (tid : Tid) (held : Held) → doubt_of (records home (site_past_on home (opened_site journal) events)) tid ≡ Some held → P tid
  doubt_has home journal h events i tid held e =
      let rs = records home (site_past_on home (opened_site journal) events) in
      elim (doubt_among rs tid) [
        | inl among ↦ prepared_has rs tid (all_prepare home journal h events i) among
        | inr none ↦ (let clash = sym none ∙ e in cc)
      ]
