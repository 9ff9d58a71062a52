-- A site on whose disk a journal is found: what its records have to keep so that the laws of a site go on from them, and that they do.
use Rattle.std.proofs.Common.{◌≡◌, ℕ, ◌≤◌, ◌<◌, Bool, true, false, cond, Option, Some, None, List, [], ◌∷◌, ◌++◌, map, refl, sym, ap, ◌∙◌, subst, arith, max}
use Rattle.mdb_base.specs.declared.names.Tid.{Tid}
use Rattle.mdb_base.specs.declared.names.Tx.{Tx}
use Rattle.mdb_base.specs.Names.{same_tid}
use Rattle.mdb_base.specs.Words.{Each}
use Rattle.fed_rules.specs.declared.events.SiteEvent.{SiteEvent}
use Rattle.fed_rules.specs.declared.records.SiteRecord.{SiteRecord}
use Rattle.fed_rules.specs.declared.records.SiteRecord.TheVariants.{Setup, Start, Prepared, Ended, Local, Checkpoint}
use Rattle.fed_rules.specs.declared.runs.Kept.{Kept}
use Rattle.fed_rules.specs.Disk.{after_calls}
use Rattle.fed_rules.specs.EngineLines.{AllApart, AreApart, IsNumbered}
use Rattle.fed_rules.specs.Found.{Journal}
use Rattle.fed_rules.specs.Reopened.{all_named, long_site, opened_site, owner_named, site_names, site_opening, site_reads_as, was_global, was_local}
use Rattle.fed_rules.specs.Site.{site_past_on}
use Rattle.fed_rules.specs.SitePast.{SiteHappening, SitePast, disk, records}
use Rattle.fed_rules.specs.SiteRecords.{Held, Home, doubt_of, doubts, kept_held, last_ticket, site_frame, start_of}
use Rattle.fed_rules.specs.Usable.{OfFronts}
use Rattle.engine_laws.specs.Laws.{EachOnce}
use Rattle.fed_rules.proofs.ForCallers.{expanded, opened_records}
use Rattle.site_history.specs.Events.{AreSorted}
use Rattle.site_history.specs.Lines.{HasRightLines}
use Rattle.site_history.specs.SiteOrders.{HasGoodStarts}
use Rattle.site_history.proofs.Histories.{IsSortedRecord}
use Rattle.site_history.proofs.Records.{doubt_number}
use Rattle.engine_laws.proofs.ForCallers.{each_doubt, once_doubts}
use Rattle.site_history.proofs.RightLines.{right_of_kept}
use Rattle.site_history.proofs.Starts.{HasRisingWrites}
use Rattle.site_history.proofs.WellKept.{IsWellKept, StartsWell, anew, good_starts_on, well_on}

-- ---- which records make a good start

-- the ticket of one in doubt is at most the published one
doubt_ticket : (rs : List SiteRecord) (tid : Tid) (held : Held) → doubt_of rs tid ≡ Some held → held.ticket ≤ last_ticket rs
doubt_ticket [] tid held e = cc
doubt_ticket (Prepared prepared epoch number ticket writes ∷ rs) tid held e = by_test (same_tid prepared tid) e (doubt_ticket rs tid held)
  where
    by_test : (b : Bool)
        → cond b (Some (record { tid = prepared; epoch = epoch; number = number; ticket = ticket; writes = writes })) (doubt_of rs tid) ≡ Some held
        → (doubt_of rs tid ≡ Some held → held.ticket ≤ last_ticket rs) → held.ticket ≤ max ticket (last_ticket rs)
    by_test true e rest =
        let here : Held = record { tid = prepared; epoch = epoch; number = number; ticket = ticket; writes = writes } in
        let same : here ≡ held = cc in
        subst (λ n. n ≤ max ticket (last_ticket rs)) (ap (λ (h : Held). h.ticket) same) (omega arith)
    by_test false e rest = let h = rest e in omega (arith, h)
doubt_ticket (Ended ended decision ∷ rs) tid held e = by_test (same_tid ended tid) e (doubt_ticket rs tid held)
  where
    by_test : (b : Bool) → cond b None (doubt_of rs tid) ≡ Some held → (doubt_of rs tid ≡ Some held → held.ticket ≤ last_ticket rs) → held.ticket ≤ last_ticket rs
    by_test true e rest = cc
    by_test false e rest = rest e
doubt_ticket (Setup site engine protocol items ∷ rs) tid held e = doubt_ticket rs tid held e
doubt_ticket (Checkpoint sum ∷ rs) tid held e = doubt_ticket rs tid held e
doubt_ticket (Start epoch ∷ rs) tid held e = doubt_ticket rs tid held e
doubt_ticket (Local local number writes ∷ rs) tid held e = doubt_ticket rs tid held e

abbrev IsDoubt : List SiteRecord → Kept → Type 0
IsDoubt rs kept = (tid : Tid) × (held : Held) × (doubt_of rs tid ≡ Some held) × (kept_held held ≡ kept)

-- those in doubt have a number and a ticket, and any two of them are apart
pub record DoubtsFit (rs : List SiteRecord) : Type 0 where
  pub some : (tid : Tid) (held : Held) → doubt_of rs tid ≡ Some held → (0 < held.number) × (0 < held.ticket)
  pub apart : (s t : Tid) (a b : Held) → doubt_of rs s ≡ Some a → doubt_of rs t ≡ Some b → same_tid a.tid b.tid ≡ false → AreApart (kept_held a) (kept_held b)

all_apart : (rs : List SiteRecord) → DoubtsFit rs → (kepts : List Kept) → Each (IsDoubt rs) kepts → EachOnce kepts → AllApart kepts
all_apart rs fit [] each once = tt
all_apart rs fit (kept ∷ more) each once = (with_more more each.1 once.0, all_apart rs fit more each.1 once.1)
  where
    with_more : (others : List Kept) → Each (IsDoubt rs) others → Each (λ other. same_tid kept.tid other.tid ≡ false) others → Each (AreApart kept) others
    with_more [] left tids = tt
    with_more (other ∷ others) left tids =
        let (s, a, e, is) = each.0 in
        let (t, b, f, same) = left.0 in (
          subst (λ k. AreApart k other) is (subst (AreApart (kept_held a)) same
              (fit.apart s t a b e f (subst (λ (k : Kept). same_tid a.tid k.tid ≡ false) (sym same) (subst (λ (k : Kept). same_tid k.tid other.tid ≡ false) (sym is) tids.0)))),
          with_more others left.1 tids.1,
        )

-- records make a good start exactly by those in doubt
pub starts_by : (home : Home) (rs : List SiteRecord) → DoubtsFit rs → StartsWell home rs
starts_by home rs fit = record {
  numbered = each_doubt (IsNumbered (start_of home rs)) rs (λ tid held e. record {
    number_some = (fit.some tid held e).0;
    number_kept = doubt_number rs tid held e;
    ticket_some = (fit.some tid held e).1;
    ticket_kept = doubt_ticket rs tid held e;
  });
  apart = all_apart rs fit (map kept_held (doubts rs)) (each_doubt (IsDoubt rs) rs (λ tid held e. (tid, held, e, refl))) (once_doubts rs);
}

-- ---- the past that a journal stands for

-- what the records that a journal is read as have to keep
pub record IsGoodJournal (home : Home) (local : Tx → Bool) (rs : List SiteRecord) : Type 0 where
  pub rising : Each HasRisingWrites rs
  pub sorted : Each (IsSortedRecord local) rs
  pub starts : OfFronts (StartsWell home) rs

-- the named attempts write nothing
pub named_writes : (home : Home) (rs : List SiteRecord) → disk home (all_named rs) ≡ disk home []
named_writes home [] = refl
named_writes home (newest ∷ older) = quiet_before (site_names newest) (names_quiet newest) ∙ named_writes home older
  where
    quiet_before : (past : SitePast) → Each (λ x. x.calls ≡ []) past → disk home (past ++ all_named older) ≡ disk home (all_named older)
    quiet_before [] q = refl
    quiet_before (x ∷ past) q = ap (after_calls site_frame (disk home (past ++ all_named older))) q.0 ∙ quiet_before past q.1

    each_quiet : {A : Type 0} (f : A → SiteHappening) (xs : List A) → ((x : A) → (f x).calls ≡ []) → Each (λ x. x.calls ≡ []) (map f xs)
    each_quiet f [] h = tt
    each_quiet f (x ∷ xs) h = (h x, each_quiet f xs h)

    both : (xs ys : SitePast) → Each (λ x. x.calls ≡ []) xs → Each (λ x. x.calls ≡ []) ys → Each (λ x. x.calls ≡ []) (xs ++ ys)
    both [] ys p q = q
    both (x ∷ xs) ys p q = (p.0, both xs ys p.1 q)

    owner_quiet : (o : Option Tid) → Each (λ x. x.calls ≡ []) (owner_named o)
    owner_quiet None = tt
    owner_quiet (Some tid) = (refl, tt)

    names_quiet : (r : SiteRecord) → Each (λ x. x.calls ≡ []) (site_names r)
    names_quiet (Prepared tid epoch number ticket writes) = (refl, tt)
    names_quiet (Ended tid decision) = (refl, tt)
    names_quiet (Local tid number writes) = (refl, tt)
    names_quiet (Setup site engine protocol items) = tt
    names_quiet (Start epoch) = tt
    names_quiet (Checkpoint sum) =
        both (map (λ held. was_global held.tid) sum.doubtful ++ owner_named sum.owner) (map was_local sum.locals)
        (both (map (λ held. was_global held.tid) sum.doubtful) (owner_named sum.owner) (each_quiet (λ (held : Held). was_global held.tid) sum.doubtful (λ h. refl)) (owner_quiet sum.owner))
        (each_quiet was_local sum.locals (λ t. refl))

-- all that was ever written on the disk of the made-up past: the journal with what its first record is read as, behind the set-up
pub opened_is : (home : Home) (newest : SiteRecord) (older : List SiteRecord) (torn : ℕ) → torn < site_frame (long_site torn)
    → records home (opened_site (record { records = newest ∷ older; torn = torn }))
    ≡ expanded site_reads_as newest older ++ Start 1 ∷ Setup home.site home.engine home.protocol home.items ∷ []
opened_is home newest older torn short = by_named (all_named (newest ∷ older)) (named_writes home (newest ∷ older))
  where
    by_named : (past : SitePast) → disk home past ≡ disk home [] → (after_calls site_frame (disk home past) (site_opening (record { records = newest ∷ older; torn = torn })).calls).records
        ≡ expanded site_reads_as newest older ++ Start 1 ∷ Setup home.site home.engine home.protocol home.items ∷ []
    by_named past same =
        ap (λ d. (after_calls site_frame d (site_opening (record { records = newest ∷ older; torn = torn })).calls).records) same
        ∙ opened_records site_frame site_reads_as newest older (long_site torn) torn (disk home []) short (omega arith)

-- the past is one on which the rules go on: what holds of every past that sorted events make holds of it, and of what further events make of it
pub opened_well : (home : Home) (local : Tx → Bool) (found : Journal SiteRecord) → IsGoodJournal home local (records home (opened_site found)) → IsWellKept home local (opened_site found)
opened_well home local found good = anew home local (all_named found.records) (site_opening found) refl good.rising good.sorted good.starts

pub goes_on_well : (home : Home) (local : Tx → Bool) (found : Journal SiteRecord) → IsGoodJournal home local (records home (opened_site found))
    → (events : List SiteEvent) → AreSorted local events → HasGoodStarts home (site_past_on home (opened_site found) events)
goes_on_well home local found good events sorted = good_starts_on home local (opened_site found) (opened_well home local found good) events sorted

pub goes_on_right : (home : Home) (local : Tx → Bool) (found : Journal SiteRecord) → IsGoodJournal home local (records home (opened_site found))
    → (events : List SiteEvent) → AreSorted local events → HasRightLines home (site_past_on home (opened_site found) events)
goes_on_right home local found good events sorted =
    right_of_kept home (site_past_on home (opened_site found) events) (well_on home local (opened_site found) (opened_well home local found good) events sorted).kept
