-- No transaction with a Local on a site's disk is named by a record on the coordinator's disk.
use Rattle.std.proofs.Common.{◌≡◌, Some, List, [], ◌∷◌, refl, sym, ap, subst, ◌∙◌, inl, inr}
use Rattle.mdb_base.specs.declared.acts.Step.{Step}
use Rattle.mdb_base.specs.declared.names.Tid.{Tid}
use Rattle.mdb_base.specs.declared.names.Tx.{Tx}
use Rattle.mdb_base.specs.Words.{Among}
use Rattle.order_laws.specs.Chains.{In}
use Rattle.order_laws.proofs.ForCallers.{in_each}
use Rattle.presumptions.specs.declared.Participant.{Participant}
use Rattle.fed_rules.specs.declared.commands.Command.{Command}
use Rattle.fed_rules.specs.declared.records.CoordRecord.{CoordRecord}
use Rattle.fed_rules.specs.declared.records.CoordRecord.TheVariants.{Initiation, Commit, Abort, End, Checkpoint}
use Rattle.fed_rules.specs.declared.records.SiteRecord.{SiteRecord}
use Rattle.fed_rules.specs.declared.records.SiteRecord.TheVariants as Rec
use Rattle.fed_rules.specs.declared.scenario.Scenario.{Scenario}
use Rattle.fed_rules.specs.CoordPast as Coordinator
use Rattle.fed_rules.specs.CoordRecords.{recorded}
use Rattle.fed_rules.specs.Scenarios.{global_program, local_home, policy, protocols}
use Rattle.fed_rules.specs.SitePast.{journal, records}
use Rattle.fed_rules.specs.SiteRecords.{Home}
use Rattle.fed_rules.specs.SiteSums.{site_sum}
use Rattle.fed_rules.specs.Story.{coord_past, past_of, story_of}
use Rattle.fed_rules.specs.Usable.{IsAnyOf, IsAttemptOf, IsLocalOf, coord_read, counted}
use Rattle.coord_laws.proofs.ForCallers.{in_begun, recorded_begun, with_more, with_own}
use Rattle.commit_laws.proofs.ForCallers.{begun_global, home-again, not-both, story_goes_on, story_made}
use Rattle.federation_laws.proofs.ForCallers.{local-record}
use Rattle.site_history.proofs.ForCallers.{of_events}
use Rattle.disk_laws.specs.Left.{LocalsAreNotNamed}
use Rattle.disk_laws.proofs.CoordLeft.{read_here}
use Rattle.disk_laws.proofs.ReadRecords.{IsRead, Whole, BehindSum}
use Rattle.disk_laws.proofs.CoordRead.{any_read}
use Rattle.disk_laws.proofs.CoordRead as Read
use Rattle.disk_laws.proofs.SiteOnce.{Known, local_at, local_read_from, over, pasts_known}
use Rattle.disk_laws.proofs.SiteRead as Site
use Rattle.disk_laws.proofs.SiteRead.{Counts, count_behind, count_founded, counts_as}

-- ---- on the coordinator's disk

attempt_at : (tx : Tx) (rs : List CoordRecord) → Among (IsAttemptOf tx) rs → (tid : Tid) × (tid.tx ≡ tx) × Among (IsAnyOf tid) rs
attempt_at tx [] m = absurd m
attempt_at tx (Initiation t ms ∷ rs) (inl e) = (t, e, inl refl)
attempt_at tx (Commit t ks ∷ rs) (inl e) = (t, e, inl refl)
attempt_at tx (Abort t ms ∷ rs) (inl e) = (t, e, inl refl)
attempt_at tx (End t ∷ rs) (inl e) = (t, e, inl refl)
attempt_at tx (Checkpoint sum ∷ rs) (inl never) = absurd never
attempt_at tx (r ∷ rs) (inr m) = let a = attempt_at tx rs m in (a.0, a.1, inr a.2)

any_of : (protocols : List Participant) (g : Tid) (rs ks : List CoordRecord) → IsRead protocols rs ks → Among (IsAnyOf g) ks → Among (IsAnyOf g) rs
any_of protocols g rs ks (Whole e) m = subst (Among (IsAnyOf g)) e m
any_of protocols g rs ks (BehindSum newer before e f) m =
    subst (Among (IsAnyOf g)) (sym e) (Read.over protocols (IsAnyOf g) newer before (λ c. c) (any_read protocols g before) (subst (Among (IsAnyOf g)) f m))

any_recorded : (g : Tid) (rs : List CoordRecord) → Among (IsAnyOf g) rs → In g (recorded rs)
any_recorded g [] m = absurd m
any_recorded g (Initiation t ms ∷ rs) (inl e) = subst (λ u. In u (recorded (Initiation t ms ∷ rs))) e (with_own t (recorded rs))
any_recorded g (Commit t ks ∷ rs) (inl e) = subst (λ u. In u (recorded (Commit t ks ∷ rs))) e (with_own t (recorded rs))
any_recorded g (Abort t ms ∷ rs) (inl e) = subst (λ u. In u (recorded (Abort t ms ∷ rs))) e (with_own t (recorded rs))
any_recorded g (End t ∷ rs) (inl e) = subst (λ u. In u (recorded (End t ∷ rs))) e (with_own t (recorded rs))
any_recorded g (Checkpoint sum ∷ rs) (inl never) = absurd never
any_recorded g (Initiation t ms ∷ rs) (inr m) = with_more t g (recorded rs) (any_recorded g rs m)
any_recorded g (Commit t ks ∷ rs) (inr m) = with_more t g (recorded rs) (any_recorded g rs m)
any_recorded g (Abort t ms ∷ rs) (inr m) = with_more t g (recorded rs) (any_recorded g rs m)
any_recorded g (End t ∷ rs) (inr m) = with_more t g (recorded rs) (any_recorded g rs m)
any_recorded g (Checkpoint sum ∷ rs) (inr m) = any_recorded g rs m

named_global : (scenario : Scenario) (commands : List Command) (tx : Tx) → Among (IsAttemptOf tx) (coord_read (Coordinator.journal (coord_past (story_of scenario commands))))
    → (steps : List Step) × (global_program scenario tx ≡ Some steps)
named_global scenario commands tx m =
    let past = coord_past (story_of scenario commands) in
    let a = attempt_at tx (coord_read (Coordinator.journal past)) m in
    let kept = any_of (protocols scenario) a.0 (Coordinator.records past) (coord_read (Coordinator.journal past))
    (read_here (protocols scenario) (policy scenario) past (story_made scenario commands)) a.2 in
    let begun = in_each (λ t. In t (Coordinator.begun_tids past)) (recorded (Coordinator.records past)) a.0
    (recorded_begun (protocols scenario) (policy scenario) past (story_goes_on scenario commands)).1 (any_recorded a.0 (Coordinator.records past) kept) in
    let g = begun_global scenario a.0 commands (in_begun past a.0 begun) in
    (g.0, ap (global_program scenario) (sym a.1) ∙ g.1)

-- ---- on the site's disk

local_of : (home : Home) (tx : Tx) (rs js : List SiteRecord) → Counts home rs js → Among (IsLocalOf tx) (counted js) → Among (IsLocalOf tx) rs
local_of home tx rs js (Site.Whole newer e f) m = subst (Among (IsLocalOf tx)) (ap counted f ∙ count_founded home newer ∙ sym e) m
local_of home tx rs js (Site.Behind newer before e f) m =
    subst (Among (IsLocalOf tx)) (sym e)
    (over (IsLocalOf tx) newer (Rec.Checkpoint (site_sum home before) ∷ before) (counts_as (site_sum home before)) (local_read_from home before tx)
    (subst (Among (IsLocalOf tx)) (ap counted f ∙ count_behind newer (site_sum home before)) m))

pub locals_not_named : LocalsAreNotNamed
locals_not_named scenario commands site home declared tx l c =
    let past = past_of home.site (story_of scenario commands) in
    let k = of_events Known pasts_known scenario commands site home declared in
    let a = local_at tx (records home past) (local_of home tx (records home past) (journal home past) k.counts l) in
    let mine : local_home scenario tx ≡ Some home = ap (local_home scenario) (sym a.2) ∙ local-record scenario commands home a.0 (home-again scenario site home declared) a.1 in
    let g = named_global scenario commands tx c in not-both scenario tx home g.0 mine g.1
