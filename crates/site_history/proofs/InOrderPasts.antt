-- In every past that sorted events make installs come in order.
use Rattle.std.proofs.Common.{◌≡◌, ℕ, ◌≤◌, Bool, true, cond, ◌||◌, Option, Some, None, List, [], ◌∷◌, ◌++◌, refl, sym, subst, inl, arith}
use Rattle.std.specs.Prelude.{nat_lt}
use Rattle.mdb_base.specs.declared.names.Tx.{Tx}
use Rattle.mdb_base.specs.Words.{Each}
use Rattle.mdb_base.proofs.ForCallers.{each_inserted, each_map}
use Rattle.presumptions.specs.declared.Decision.TheVariants as Decided
use Rattle.fed_rules.specs.declared.events.SiteEvent.{SiteEvent}
use Rattle.fed_rules.specs.declared.records.SiteRecord.{SiteRecord}
use Rattle.fed_rules.specs.declared.records.SiteRecord.TheVariants.{Setup, Start, Prepared, Ended, Local, Checkpoint}
use Rattle.fed_rules.specs.Happenings.{stops, comes_up}
use Rattle.fed_rules.specs.Site.{site_past, site_past_on}
use Rattle.fed_rules.specs.SitePast.{SiteHappening, SitePast, epoch, epoch_start, engine_lines, records}
use Rattle.fed_rules.specs.SiteRecords.{Home, Held, Install, doubt_of, install_held, installs, last_number, start_of}
use Rattle.site_history.specs.Events.{AreSorted}
use Rattle.site_history.specs.SiteOrders.{OfSortedEvents}
use Rattle.site_history.proofs.Records.{doubt_number}
use Rattle.site_history.proofs.MovedPasts.{KeptByMoves, moves_keep, moves_keep_on}
use Rattle.site_history.proofs.WellKept.{IsWellKept}
use Rattle.site_history.specs.Sums.{ComeInOrder}
use Rattle.site_history.proofs.InOrder.{IsInOrder, IsOrderly, IsSince, move_orderly}

-- no number is greater than the last one
installs_most : (rs : List SiteRecord) → Each (λ i. i.number ≤ last_number rs) (installs rs)
installs_most [] = tt
installs_most (Setup site engine protocol items ∷ rs) = installs_most rs
installs_most (Checkpoint sum ∷ rs) = installs_most rs
installs_most (Start epoch ∷ rs) = installs_most rs
installs_most (Prepared t epoch n ticket writes ∷ rs) =
    each_map (λ (i : Install). i.number ≤ last_number rs) (λ (i : Install). i.number ≤ last_number (Prepared t epoch n ticket writes ∷ rs)) (λ i le. omega arith) (installs rs) (installs_most rs)
installs_most (Ended t Decided.Abort ∷ rs) = installs_most rs
installs_most (Ended t Decided.Commit ∷ rs) = by_held (doubt_of rs t) refl (installs_most rs)
  where
    by_held : (o : Option Held) → doubt_of rs t ≡ o → Each (λ i. i.number ≤ last_number rs) (installs rs) → Each (λ i. i.number ≤ last_number rs) (install_held o (installs rs))
    by_held None e rest = rest
    by_held (Some held) e rest =
        each_inserted (λ i. i.number ≤ last_number rs) (λ (a b : Install). nat_lt b.number a.number)
        (record { tid = held.tid; number = held.number; writes = held.writes }) (installs rs) (doubt_number rs t held e) rest
installs_most (Local t n writes ∷ rs) =
    each_inserted (λ i. i.number ≤ last_number (Local t n writes ∷ rs)) (λ (a b : Install). nat_lt b.number a.number) (record { tid = t; number = n; writes = writes }) (installs rs) (omega arith)
    (each_map (λ (i : Install). i.number ≤ last_number rs) (λ (i : Install). i.number ≤ last_number (Local t n writes ∷ rs)) (λ i le. omega arith) (installs rs) (installs_most rs))

pub order_behind : (newest : SiteRecord) (rs : List SiteRecord) → ComeInOrder (newest ∷ rs) → ComeInOrder rs
order_behind (Setup site engine protocol items) rs c = c
order_behind (Checkpoint sum) rs c = c
order_behind (Start epoch) rs c = c
order_behind (Prepared t epoch n ticket writes) rs c = c
order_behind (Ended t Decided.Abort) rs c = c
order_behind (Ended t Decided.Commit) rs c = c.1
order_behind (Local t n writes) rs c = c.1

behind : (newest : SiteRecord) (rs : List SiteRecord) → IsInOrder (newest ∷ rs) → IsInOrder rs
behind newest rs o = record { order = order_behind newest rs o.order; fit = o.fit.1 }

-- the past's installs come in order
pub record OrdersPast (home : Home) (past : SitePast) : Type 0 where
  pub orderly : IsOrderly (records home past) (epoch_start home past) (engine_lines past)

started : (rs : List SiteRecord) (n : ℕ) → IsInOrder rs → IsInOrder (Start n ∷ rs)
started [] n o = record { order = tt; fit = (λ tid held e. cc, tt) }
started (newest ∷ rs) n o = record { order = o.order; fit = (o.fit.0, o.fit) }

afresh : (home : Home) (rs : List SiteRecord) → IsInOrder rs → IsOrderly rs (start_of home rs) []
afresh home rs o =
    record { all = o; since = each_map (λ (i : Install). i.number ≤ last_number rs) (IsSince (start_of home rs) []) (λ i le. inl le) (installs rs) (installs_most rs) }

-- behind a stop or a start
pub anew : (home : Home) (past : SitePast) (x : SiteHappening) → (stops x.answer || comes_up x.answer) ≡ true
    → IsInOrder (records home (x ∷ past)) → OrdersPast home (x ∷ past)
anew home past x new o =
    let rs = records home (x ∷ past) in
    record {
      orderly = subst (λ t. IsOrderly rs (cond t (start_of home rs) (epoch_start home past)) (cond t [] (x.lines ++ engine_lines past))) (sym new) (afresh home rs o);
    }

moves_orderly : KeptByMoves IsInOrder IsOrderly
moves_orderly = record {
  first = λ home. record { order = tt; fit = (λ tid held e. cc, (λ tid held e. cc, tt)) };
  started = started;
  behind = behind;
  afresh = afresh;
  all = λ rs start lines o. o.all;
  moved = λ home local past event calls lines well right m o.
      move_orderly home past local event calls lines well.started right (record { begun = well.started; right = well.kept.right; agrees = well.kept.agrees }) o m;
}

pub orders_on : (home : Home) (local : Tx → Bool) (first : SitePast) → IsWellKept home local first → OrdersPast home first → (events : List SiteEvent)
    → AreSorted local events → OrdersPast home (site_past_on home first events)
orders_on home local first w o events sorted = record {
  orderly = (moves_keep_on IsInOrder IsOrderly moves_orderly home local first w (record { top = o.orderly }) events sorted).top;
}

pub orders_past : (home : Home) (local : Tx → Bool) (events : List SiteEvent) → AreSorted local events → OrdersPast home (site_past home events)
orders_past home local events sorted = record { orderly = (moves_keep IsInOrder IsOrderly moves_orderly home local events sorted).top }

pub comes_in_order : OfSortedEvents (λ home past. ComeInOrder (records home past))
comes_in_order home local events sorted = (orders_past home local events sorted).orderly.all.order
