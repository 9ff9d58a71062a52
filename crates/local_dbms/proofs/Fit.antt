-- The event that a command of a local transaction comes to may come to the core, and fits the programs; and what a line leaves of what is stood for.
use Rattle.std.proofs.Common.{◌≡◌, ℕ, ◌≤◌, ◌<◌, ◌^◌, ◌⊎◌, Bool, true, false, not, is_some, IsSome, Some, None, List, length, inl, inr, refl, sym, ap, subst, arith}
use Rattle.mdb_base.specs.declared.acts.PlainAct.{PlainAct}
use Rattle.mdb_base.specs.declared.acts.Step.{Step}
use Rattle.mdb_base.specs.declared.names.Tid.{Tid}
use Rattle.mdb_base.specs.declared.names.Tx.{Tx}
use Rattle.field_bytes.specs.Fields.{IsTid}
use Rattle.fed_rules.specs.declared.events.SiteEvent.{SiteEvent}
use Rattle.fed_rules.specs.declared.events.SiteEvent.TheVariants as Ev
use Rattle.fed_rules.specs.declared.events.SiteStep.{SiteStep}
use Rattle.fed_rules.specs.declared.messages.ToSite.{ToSite}
use Rattle.fed_rules.specs.declared.messages.ToSite.TheVariants as To
use Rattle.fed_rules.specs.Happenings.{is_down}
use Rattle.fed_rules.specs.Requests.{Submits, attempt}
use Rattle.fed_rules.specs.Runs.{Start, EngineLine, Run}
use Rattle.fed_rules.specs.Site.{done, site_line}
use Rattle.fed_rules.specs.SitePast.{SitePast, attempts_of, live, live_of_tx}
use Rattle.fed_rules.specs.SiteRecords.{Home}
use Rattle.journal_disk.specs.Disk.{Seen}
use Rattle.fed_rules.proofs.ForCallers.{live_is_of}
use Rattle.actor_store.specs.declared.errors.StepErr.{StepErr}
use Rattle.actor_store.specs.declared.errors.StepErr.TheVariants as Err_is
use Rattle.actor_store.specs.declared.store.Standing.{Standing}
use Rattle.actor_store.specs.declared.store.Standing.TheVariants.{Up, Down, Failing}
use Rattle.actor_store.specs.Store.{is_up}
use Rattle.site_core.specs.declared.site.SiteCore.{SiteCore}
use Rattle.site_core.specs.Made.{about, was_begun, was_global}
use Rattle.site_core.specs.Stands.{Fails as CoreFails, IsIn, IsUp, Remembers, Steps}
use Rattle.site_core.specs.Steps.{CanStep}
use Rattle.local_dbms.specs.declared.dbms.LocalDbms.{LocalDbms}
use Rattle.local_dbms.specs.Stands.{CanGive, CanSubmit, Fails, FitsPrograms, OwnPrograms, Owns, Recalls, Stands, Tells}
use Rattle.local_dbms.proofs.Bounds.{epoch_fits, number_fits, published_fits}
use Rattle.local_dbms.proofs.Owned.{begun_below, few_begun, foreign_apart, next_unbegun, own_apart, owned_more, owned_stopped}

-- what a site that is up has in memory
pub up_past : {E : Type 0} (stands : E → Start → List EngineLine → Type 0) (core : SiteCore E) (home : Home) (past : SitePast) → Remembers stands core home past → is_down past ≡ false → IsUp stands core home past
up_past stands core home past m up = from core.store.standing m.standing m.standing_in where
  from : (standing : Standing) → is_down past ≡ not (is_up standing) → IsIn stands core standing home past → IsUp stands core home past
  from Up e u = u
  from Down e u = cc
  from Failing e u = cc

module _ {E : Type 0} (stands : E → Start → List EngineLine → Type 0) (dbms : LocalDbms E) (home : Home) (programs : OwnPrograms) (past : SitePast) (r : Recalls stands dbms home programs past) where
  pub can_begin : (tx : Tx) → IsSome (programs tx) → attempts_of past tx < 32 → length past < 2 ^ 30 → CanSubmit (Ev.Begin (attempt tx (attempts_of past tx))) home programs past
  can_begin tx own few short = (
    record {
      apart = own_apart programs past tx r.owns.owned own;
      new = next_unbegun home programs past tx (attempts_of past tx) r.core.made r.owns.owned (omega arith);
      few = few;
      fits = number_fits home past r.core.made short;
    },
    (own, refl, few),
  )

  pub can_fate : (tx : Tx) → IsSome (programs tx) → CanSubmit (Ev.Fate tx) home programs past
  can_fate tx own = (own_apart programs past tx r.owns.owned own, own)

  module _ (tx : Tx) (tid : Tid) (own : IsSome (programs tx)) (runs : live_of_tx home past tx ≡ Some tid) where
    own_live : IsSome (programs tid.tx)
    own_live = subst (λ (t : Tx). IsSome (programs t)) (sym (live_is_of home past tx tid runs)) own

    live_apart : was_global tid.tx past ≡ false
    live_apart = own_apart programs past tid.tx r.owns.owned own_live

    pub can_abort : CanSubmit (Ev.Abort tid) home programs past
    can_abort = (live_apart, own_live)

    pub can_act : (act : PlainAct) (run : Run) (steps : List Step) → live home past tid ≡ Some run → done run < length steps → length steps ≤ 32 → CanSubmit (Ev.Act tid act) home programs past
    can_act act run steps lives less few = (record { apart = live_apart; few = small }, own_live) where
      small : (now : Run) → live home past tid ≡ Some now → length now.acts < 32
      small now e =
          let same : run ≡ now = cc in
          let acts : length run.acts < 32 = omega arith in
          subst (λ (x : Run). length x.acts < 32) same acts

    pub can_commit : (run : Run) → live home past tid ≡ Some run → is_down past ≡ false → length past < 2 ^ 30 → CanSubmit (Ev.Commit tid) home programs past
    can_commit run lives up short = (record { apart = live_apart; in_range = in_range; fits = number_fits home past r.core.made short }, own_live) where
      begun : (was_begun tid past ≡ true) ⊎ (was_global tid.tx past ≡ true) → was_begun tid past ≡ true
      begun (inl e) = e
      begun (inr e) = let apart = live_apart in cc

      in_range : IsTid tid
      in_range =
          let u = up_past stands dbms.core home past r.core.memory up in
          let below = begun_below home programs past tid r.core.made r.owns.owned (begun (u.notes.known tid (inr (ap is_some lives)))) in
          let few = few_begun home programs past tid.tx r.core.made r.owns.owned in
          let named = r.owns.named tid.tx own_live in
          record { least = named.0; greatest = named.1; attempts = omega arith }

  pub can_back : length past < 2 ^ 30 → CanSubmit Ev.Back home programs past
  can_back short = (epoch_fits home past r.core.made short, tt)

  -- a message about no transaction of the site's own
  pub can_give : (message : ToSite) → CanGive message home programs past → CanSubmit (Ev.Give message) home programs past
  can_give message g = (taken message g.foreign g.in_range, g.foreign) where
    taken : (m : ToSite) → programs (about m).tx ≡ None → IsTid (about m) → CanStep (Ev.Give m) home past
    taken (To.Take tid epoch n) foreign in_range = record { apart = foreign_apart programs past tid.tx r.owns.owned foreign; fits = published_fits home past r.core.made g.short }
    taken (To.Work tid epoch n act) foreign in_range = record { apart = foreign_apart programs past tid.tx r.owns.owned foreign; fits = number_fits home past r.core.made g.short }
    taken (To.Prepare tid epoch n) foreign in_range =
        record { apart = foreign_apart programs past tid.tx r.owns.owned foreign; in_range = in_range; fits = number_fits home past r.core.made g.short }
    taken (To.Decide tid decision) foreign in_range = record { apart = foreign_apart programs past tid.tx r.owns.owned foreign; in_range = in_range }

-- the same of what is in memory alone
pub recalled : {E : Type 0} (stands : E → Start → List EngineLine → Type 0) (tells : Bool) (dbms : LocalDbms E) (disk : Seen) (home : Home) (programs : OwnPrograms) (past : SitePast)
    → Stands stands tells dbms disk home programs past → Recalls stands dbms home programs past
recalled stands tells dbms disk home programs past s = record { core = s.core.holds; owns = s.owns }

module _ {E : Type 0} (stands : E → Start → List EngineLine → Type 0) (tells : Bool) (old : LocalDbms E) (core : SiteCore E) (disk : Seen) (home : Home) (programs : OwnPrograms) (past : SitePast)
    (event : SiteEvent) (owns : Owns old.programs.items programs past) (fits : FitsPrograms programs past event) where
  -- the core answered
  pub tells_of : (beside : ℕ) (before : Seen) (step : SiteStep) → Steps stands tells beside before step core disk home past (site_line home past event) → Tells (Stands stands tells (record old { core = core }) disk) step home programs past (Submits event)
  tells_of beside before step s = record {
    said = s.answer;
    sent = s.sends;
    next = record { core = s.stood; owns = record { held = owns.held; named = owns.named; owned = owned_more home programs past event owns.owned fits } };
  }

  -- or it didn't
  pub fails : (most : ℕ) (before : Seen) (why : StepErr) → CoreFails stands tells most before why core disk home past event → Fails (Stands stands tells (record old { core = core }) disk) why home programs past (Submits event)
  fails most before Err_is.Memory (s, called) = record { core = s; owns = owns }
  fails most before Err_is.Disk (at, s, down, called) =
      (at, record { core = s; owns = record { held = owns.held; named = owns.named; owned = owned_stopped home programs past event at owns.owned fits } }, down)
