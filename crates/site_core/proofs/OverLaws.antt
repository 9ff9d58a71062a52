-- An attempt of a global transaction that is closed or in doubt has no live run.
use Rattle.std.proofs.Common.{◌≡◌, Bool, false, ◌==◌, ◌&&◌, Option, Some, None, List, [], ◌∷◌, ◌++◌, inl, inr, refl, sym, ap, ◌∙◌, subst, arith}
use Rattle.std.proofs.lemmas.Bool.{or_parts}
use Rattle.mdb_base.specs.declared.names.Tid.{Tid}
use Rattle.fed_rules.specs.declared.events.SiteEvent.{SiteEvent}
use Rattle.fed_rules.specs.declared.events.SiteEvent.TheVariants as Ev
use Rattle.fed_rules.specs.declared.records.SiteRecord.{SiteRecord}
use Rattle.fed_rules.specs.Disk.{Append, Call, Sync, after_calls, empty_disk}
use Rattle.fed_rules.specs.Found.{Journal}
use Rattle.fed_rules.specs.Reopened.{all_named, long_site, opened_site, rewritten, site_reads_as}
use Rattle.fed_rules.specs.Runs.{run_at}
use Rattle.fed_rules.specs.SitePast.{SiteHappening, SitePast, disk, live_one, records, set_up_calls}
use Rattle.fed_rules.specs.SiteRecords.{Held, Home, doubt_of, site_frame, start_of}
use Rattle.fed_rules.specs.Durable.{IsFirm, IsSound}
use Rattle.fed_rules.proofs.ForCallers.{calls_split, firm_quiet, firm_stop, sound_calls}
use Rattle.site_history.proofs.ForCallers.{named_writes, restored_doubt, restored_held}
use Rattle.commit_laws.specs.Records.{IsLooseEnded}
use Rattle.commit_laws.proofs.ForCallers.{NotBegun, Shut, site-lines}
use Rattle.site_core.specs.Made.{IsGoingOn, IsOpened, is_of_local, was_local}

-- an event that is of no local attempt of its transaction doesn't begin an attempt
not_begun : (tid : Tid) (event : SiteEvent) → is_of_local tid.tx event ≡ false → NotBegun tid event
not_begun tid (Ev.Begin begun) e = ap (λ (b : Bool). b && (begun.attempt == tid.attempt)) e
not_begun tid (Ev.Act t act) e = tt
not_begun tid (Ev.Commit t) e = tt
not_begun tid (Ev.Abort t) e = tt
not_begun tid (Ev.Fate tx) e = tt
not_begun tid (Ev.Give message) e = tt
not_begun tid (Ev.Ask t) e = tt
not_begun tid (Ev.Drop t) e = tt
not_begun tid (Ev.Halt cut) e = tt
not_begun tid (Ev.Trip calls cut) e = tt
not_begun tid Ev.Back e = tt
not_begun tid Ev.Check e = tt

first_firm : (home : Home) → IsFirm site_frame (IsLooseEnded home.protocol) (disk home [])
first_firm home =
    firm_quiet site_frame (IsLooseEnded home.protocol) empty_disk (set_up_calls home) (inr tt)
    (record { sound = record { frames = omega arith; synced = omega arith }; loose = tt })

-- behind the stop that leaves a journal all that stands is synced
pub opened_firm : (Loose : SiteRecord → Type 0) (home : Home) (journal : Journal SiteRecord) → IsFirm site_frame Loose (disk home (opened_site journal))
opened_firm Loose home journal =
    let named : SitePast = all_named journal.records in
    let before : List (Call SiteRecord) = rewritten site_reads_as journal.records ++ Sync ∷ Append (long_site journal.torn) ∷ [] in
    let sound : IsSound site_frame (disk home named) = subst (IsSound site_frame) (sym (named_writes home journal.records)) (record { frames = omega arith; synced = omega arith }) in
    subst (IsFirm site_frame Loose) (sym (calls_split site_frame (disk home named) (rewritten site_reads_as journal.records) (long_site journal.torn) journal.torn))
    (firm_stop site_frame Loose (after_calls site_frame (disk home named) before) journal.torn (sound_calls site_frame (disk home named) before sound))

-- what the records restore is sealed, so no run lives
opened_dead : (home : Home) (rs : List SiteRecord) (tid : Tid) → live_one (run_at (start_of home rs) [] tid) ≡ None
opened_dead home rs tid = ap live_one (restored_doubt rs tid) ∙ by_held (doubt_of rs tid)
  where
    by_held : (o : Option Held) → live_one (restored_held o) ≡ None
    by_held None = refl
    by_held (Some held) = refl

opened_shut : (home : Home) (past : SitePast) (tid : Tid) → IsOpened home past → IsFirm site_frame (IsLooseEnded home.protocol) (disk home past) × Shut home tid past
opened_shut home past tid o =
    let F : SitePast → Type 0 = λ p. IsFirm site_frame (IsLooseEnded home.protocol) (disk home p) × Shut home tid p in
    let dead = opened_dead home (records home (opened_site o.journal)) tid in
    subst F (sym o.is) (opened_firm (IsLooseEnded home.protocol) home o.journal, record { down = (λ f. dead); over = (λ f. dead) })

firmly_shut : (home : Home) (past : SitePast) (tid : Tid) → IsGoingOn home past → was_local tid.tx past ≡ false → IsFirm site_frame (IsLooseEnded home.protocol) (disk home past) × Shut home tid past
firmly_shut home [] tid made e = (first_firm home, record { down = (λ f. cc); over = (λ f. cc) })
firmly_shut home (x ∷ past) tid (inl opened) e = opened_shut home (x ∷ past) tid opened
firmly_shut home (x ∷ past) tid (inr (line, made)) e =
    let (here, before) = or_parts (is_of_local tid.tx x.event) (was_local tid.tx past) e in
    let (firm, shut) = firmly_shut home past tid made before in
    let next = site-lines home tid past x.event firm in
    let F : SiteHappening → Type 0 = λ y. IsFirm site_frame (IsLooseEnded home.protocol) (disk home (y ∷ past)) in
    let S : SiteHappening → Type 0 = λ y. Shut home tid (y ∷ past) in
    (subst F (sym line.is) next.firm, subst S (sym line.is) (next.shut (not_begun tid x.event here) shut))

pub shut_made : (home : Home) (past : SitePast) (tid : Tid) → IsGoingOn home past → was_local tid.tx past ≡ false → Shut home tid past
shut_made home past tid made e = (firmly_shut home past tid made e).1
