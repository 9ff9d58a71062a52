-- The Checkpoints of a site are Sums of some records: their owner fits the published ticket, and their lists rise.
use Rattle.std.proofs.Common.{◌≡◌, ℕ, ◌≤◌, ◌⊎◌, true, false, is_some, Option, Some, None, List, [], ◌∷◌, refl, sym, subst, inl, inr, arith}
use Rattle.std.specs.Prelude.{nat_lt}
use Rattle.std.proofs.lemmas.Bool.{ltb-false, ltb-true}
use Rattle.mdb_base.specs.declared.names.Tid.{Tid}
use Rattle.mdb_base.specs.Names.{same_tid, tid_before}
use Rattle.mdb_base.specs.Words.{Among, Each}
use Rattle.order_laws.proofs.ForCallers.{bool_is}
use Rattle.mdb_base.proofs.ForCallers.{same_tid-equal}
use Rattle.fed_rules.specs.declared.records.SiteRecord.{SiteRecord}
use Rattle.fed_rules.specs.declared.records.SiteRecord.TheVariants.{Setup, Start, Prepared, Ended, Local, Checkpoint}
use Rattle.fed_rules.specs.SitePast.{journal, records}
use Rattle.fed_rules.specs.SiteRecords.{Home, last_number, last_ticket, ticket_owner}
use Rattle.fed_rules.specs.SiteSums.{locals_with, site_sum}
use Rattle.fed_rules.specs.Story.{past_of, story_of}
use Rattle.fed_rules.specs.Usable.{AreSumsOfSome, IsSumOfSome, RiseBy, OfFronts}
use Rattle.site_history.specs.Records.{Binds, BindOnce}
use Rattle.site_history.proofs.ForCallers.{StartsWell, doubts_rise, of_events, sites_serial}
use Rattle.site_history.specs.Sums.{AreSums}
use Rattle.disk_laws.specs.Left.{OfSites, SumsAreOfSome}
use Rattle.disk_laws.proofs.ReadRecords.{among_insert}
use Rattle.disk_laws.proofs.Rises.{rise_inserted}
use Rattle.disk_laws.proofs.SiteLeft.{each_counted, marked, none_counts, owner_counts, owner_is}
use Rattle.disk_laws.proofs.SiteOnce.{Known, pasts_known}

-- ---- the local ones

local_bound : (rs : List SiteRecord) (t : Tid) → Among (λ (u : Tid). u ≡ t) (locals_with [] rs) → Among (Binds t) rs
local_bound [] t m = absurd m
local_bound (Local u n w ∷ rs) t m = elim (among_insert tid_before (λ (v : Tid). v ≡ t) u (locals_with [] rs) m) [ inl e ↦ inl e | inr i ↦ inr (local_bound rs t i) ]
local_bound (Setup site engine protocol items ∷ rs) t m = inr (local_bound rs t m)
local_bound (Start e ∷ rs) t m = inr (local_bound rs t m)
local_bound (Prepared u e n k w ∷ rs) t m = inr (local_bound rs t m)
local_bound (Ended u d ∷ rs) t m = inr (local_bound rs t m)
local_bound (Checkpoint sum ∷ rs) t m = inr (local_bound rs t m)

pub others : (t : Tid) (ts : List Tid) → (Among (λ (u : Tid). u ≡ t) ts → ⊥) → Each (λ u. same_tid u t ≡ false) ts
others t [] never = tt
others t (u ∷ ts) never = (
  elim (bool_is (same_tid u t)) [ inl e ↦ absurd (never (inl (same_tid-equal u t e))) | inr e ↦ e ],
  others t ts (λ i. never (inr i)),
)

locals_rise : (rs : List SiteRecord) → BindOnce rs → RiseBy (λ (tid : Tid). tid) (locals_with [] rs)
locals_rise [] once = tt
locals_rise (Local t n w ∷ rs) once =
    rise_inserted (λ (tid : Tid). tid) t (locals_with [] rs) (locals_rise rs once.1) (others t (locals_with [] rs) (λ m. once.0 (local_bound rs t m)))
locals_rise (Prepared t e n k w ∷ rs) once = locals_rise rs once.1
locals_rise (Setup site engine protocol items ∷ rs) once = locals_rise rs once
locals_rise (Start e ∷ rs) once = locals_rise rs once
locals_rise (Ended t d ∷ rs) once = locals_rise rs once
locals_rise (Checkpoint sum ∷ rs) once = locals_rise rs once

-- ---- the Sum

pub owned : (o : Option Tid) (ticket number : ℕ) → is_some o ≡ nat_lt 0 ticket → (nat_lt 0 ticket ≡ true → 1 ≤ number)
    → ((o ≡ None) × (ticket ≡ 0)) ⊎ ((owner : Tid) × (o ≡ Some owner) × (1 ≤ ticket) × (1 ≤ number))
owned None ticket number is counts = inl (refl, (let most = ltb-false 0 ticket (sym is) in omega (arith, most)))
owned (Some owner) ticket number is counts = inr (owner, refl, (let less = ltb-true 0 ticket (sym is) in omega (arith, less)), counts (sym is))

pub is_of_some : (home : Home) (rs : List SiteRecord) → OfFronts (StartsWell home) rs → BindOnce rs → IsSumOfSome (site_sum home rs)
is_of_some home rs starts once = record {
  owned = owned (ticket_owner rs) (last_ticket rs) (last_number rs) (owner_is rs) (owner_counts rs (marked home rs starts));
  counts = none_counts rs (marked home rs starts);
  doubtful_rise = doubts_rise rs;
  locals_rise = locals_rise rs once;
}

all_of_some : (home : Home) (rs : List SiteRecord) → OfFronts (StartsWell home) rs → BindOnce rs → AreSums home rs → Each AreSumsOfSome rs
all_of_some home [] starts once s = tt
all_of_some home (Checkpoint sum ∷ rs) starts once s = (subst IsSumOfSome (sym s.0) (is_of_some home rs starts.1 once), all_of_some home rs starts.1 once s.1)
all_of_some home (Setup site engine protocol items ∷ rs) starts once s = (tt, all_of_some home rs starts.1 once s)
all_of_some home (Start e ∷ rs) starts once s = (tt, all_of_some home rs starts.1 once s)
all_of_some home (Prepared t e n k w ∷ rs) starts once s = (tt, all_of_some home rs starts.1 once.1 s)
all_of_some home (Ended t d ∷ rs) starts once s = (tt, all_of_some home rs starts.1 once s)
all_of_some home (Local t n w ∷ rs) starts once s = (tt, all_of_some home rs starts.1 once.1 s)

pub leave_lists : OfSites SumsAreOfSome
leave_lists scenario commands site home declared =
    let past = past_of home.site (story_of scenario commands) in
    let k = of_events Known pasts_known scenario commands site home declared in
    each_counted home AreSumsOfSome (records home past) (journal home past) k.counts
    (all_of_some home (records home past) k.starts (sites_serial scenario commands site home declared).once k.sums)
