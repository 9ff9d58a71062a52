-- An attempt that is finished at a site stands in its order by an old Prepared record.
use Rattle.std.proofs.Common.{ℕ, List, [], ◌∷◌, inl, inr, refl, sym, ap, subst}
use Rattle.mdb_base.specs.declared.names.Tid.{Tid}
use Rattle.mdb_base.specs.Words.{Among}
use Rattle.order_laws.specs.Chains.{In}
use Rattle.fed_rules.specs.declared.records.SiteRecord.{SiteRecord}
use Rattle.fed_rules.specs.declared.records.SiteRecord.TheVariants as Rec
use Rattle.fed_rules.specs.Orders.{records_at}
use Rattle.fed_rules.specs.SitePast.{records}
use Rattle.fed_rules.specs.Story.{past_of, story_of}
use Rattle.commit_laws.specs.LaterRuns.{LaterRunsLeaveNoRecord}
use Rattle.commit_laws.specs.Records as commit
use Rattle.site_history.specs.Records.{IsPrepared}
use Rattle.federation_laws.specs.LaterRuns.{LaterRunsStandInNoOrder}
use Rattle.federation_laws.proofs.Memberships.{commits-agree}
use Rattle.federation_laws.proofs.Told.{home_is-site}

-- a Prepared record in the words of commitment
as_prepared : (rs : List SiteRecord) (tid : Tid) (ticket : ℕ) → (p : IsPrepared rs tid ticket) → Among (commit.IsPrepared tid p.epoch) rs
as_prepared rs tid ticket p = at_place rs p.kept where
  at_place : (some : List SiteRecord) → In (Rec.Prepared tid p.epoch p.number ticket p.writes) some → Among (commit.IsPrepared tid p.epoch) some
  at_place [] i = absurd i
  at_place (r ∷ more) (inl e) = inl (subst (commit.IsPrepared tid p.epoch) (sym e) (refl, refl))
  at_place (r ∷ more) (inr i) = inr (at_place more i)

pub in_no_order : LaterRunsLeaveNoRecord → LaterRunsStandInNoOrder
in_no_order old scenario good commands site home declared newer older is tid roams finished i =
    let story = story_of scenario commands in
    let p = ((commits-agree scenario good commands).global site tid i roams).prepared in
    let kept = subst (λ rs. IsPrepared rs tid ((commits-agree scenario good commands).global site tid i roams).ticket) (ap (λ o. records_at o story) declared) p in
    let here = subst (λ s. IsPrepared (records home (past_of s story)) tid ((commits-agree scenario good commands).global site tid i roams).ticket) (home_is-site scenario site home declared) kept in (
      here.epoch,
      old scenario commands site home declared newer older is tid finished here.epoch
          (subst (λ past. Among (commit.IsPrepared tid here.epoch) (records home past)) is (as_prepared (records home (past_of site story)) tid _ here)),
    )
