-- Each site by itself is serial, in the story of any commands: the Ended records tell the outcomes.
use Rattle.std.proofs.Common.{◌≡◌, Bool, true, false, cond, Some, List, [], ◌∷◌, inl, inr, refl, sym, ap, subst}
use Rattle.mdb_base.specs.declared.names.Tid.{Tid}
use Rattle.mdb_base.specs.Words.{Among}
use Rattle.presumptions.specs.declared.Decision.{Decision}
use Rattle.presumptions.specs.declared.Decision.TheVariants as Decided
use Rattle.order_laws.specs.Chains.{In}
use Rattle.order_laws.proofs.ForCallers.{each_from}
use Rattle.fed_rules.specs.declared.commands.Command.{Command}
use Rattle.fed_rules.specs.declared.records.SiteRecord.{SiteRecord}
use Rattle.fed_rules.specs.declared.records.SiteRecord.TheVariants as Rec
use Rattle.fed_rules.specs.declared.scenario.Scenario.{Scenario}
use Rattle.fed_rules.specs.CoordPast as Coordinator
use Rattle.fed_rules.specs.CoordRecords.{outcome}
use Rattle.fed_rules.specs.Orders.{is_committed, records_at, records_of, due_at, due_of}
use Rattle.fed_rules.specs.Scenarios.{home_of}
use Rattle.fed_rules.specs.SitePast.{records}
use Rattle.fed_rules.specs.SiteRecords.{Home, order_of, due_rows}
use Rattle.fed_rules.specs.Story.{Story, coord_past, past_of, story_of}
use Rattle.commit_laws.specs.Records.{IsEnded}
use Rattle.commit_laws.proofs.ForCallers.{agreed}
use Rattle.site_history.specs.Records.{TellOutcomes, TellsOutcome}
use Rattle.site_history.specs.SiteOrders.{IsSerialOrder, IsSerialPast}
use Rattle.site_history.specs.Stories.{OfSites}
use Rattle.federation_laws.specs.SiteOrders.{SitesAreSerial}
use Rattle.federation_laws.proofs.Told.{home-again}

-- each Ended record tells the outcome
pub tells-outcomes : (scenario : Scenario) (commands : List Command) (home : Home) → home_of scenario home.site ≡ Some home → TellOutcomes (is_committed (story_of scenario commands)) (records home (past_of home.site (story_of scenario commands)))
tells-outcomes scenario commands home declared = each_from (TellsOutcome (is_committed (story_of scenario commands))) (records home (past_of home.site (story_of scenario commands))) tells
  where
    ended-in : (tid : Tid) (decision : Decision) (rs : List SiteRecord) → In (Rec.Ended tid decision) rs → Among (IsEnded tid decision) rs
    ended-in tid decision [] i = absurd i
    ended-in tid decision (r ∷ rs) (inl e) = inl (subst (IsEnded tid decision) (sym e) (refl, refl))
    ended-in tid decision (r ∷ rs) (inr i) = inr (ended-in tid decision rs i)

    is-outcome : (tid : Tid) (decision : Decision) → In (Rec.Ended tid decision) (records home (past_of home.site (story_of scenario commands))) → decision ≡ outcome (Coordinator.records (coord_past (story_of scenario commands))) tid
    is-outcome tid decision i = ((agreed scenario home tid commands declared).ended decision (ended-in tid decision (records home (past_of home.site (story_of scenario commands))) i)).1

    committed : (b : Bool) → Decided.Commit ≡ cond b Decided.Commit Decided.Abort → b ≡ true
    committed true e = refl
    committed false e = cc

    aborted : (b : Bool) → Decided.Abort ≡ cond b Decided.Commit Decided.Abort → b ≡ false
    aborted true e = cc
    aborted false e = refl

    tells : (r : SiteRecord) → In r (records home (past_of home.site (story_of scenario commands))) → TellsOutcome (is_committed (story_of scenario commands)) r
    tells (Rec.Ended tid Decided.Commit) i = committed (is_committed (story_of scenario commands) tid) (is-outcome tid Decided.Commit i)
    tells (Rec.Ended tid Decided.Abort) i = aborted (is_committed (story_of scenario commands) tid) (is-outcome tid Decided.Abort i)
    tells (Rec.Setup site engine protocol items) i = tt
    tells (Rec.Checkpoint sum) i = tt
    tells (Rec.Start epoch) i = tt
    tells (Rec.Prepared tid epoch number ticket writes) i = tt
    tells (Rec.Local tid number writes) i = tt

-- the records and the due rows of a declared site
records-are : (scenario : Scenario) (story : Story) (home : Home) → home_of scenario home.site ≡ Some home → records_of scenario story home.site ≡ records home (past_of home.site story)
records-are scenario story home declared = ap (λ o. records_at o story) declared

due-are : (scenario : Scenario) (story : Story) (home : Home) → home_of scenario home.site ≡ Some home → due_of scenario story home.site ≡ due_rows (is_committed story) home (records home (past_of home.site story))
due-are scenario story home declared = ap (λ o. due_at o story) declared

-- so each declared site is serial
pub sites-serial : OfSites IsSerialPast → (scenario : Scenario) (commands : List Command) → SitesAreSerial scenario (story_of scenario commands)
sites-serial serial scenario commands site home declared =
    let again = home-again scenario site home declared in
    let story = story_of scenario commands in
    let past = serial scenario commands home.site home again in
    subst (λ ts. IsSerialOrder home (past_of home.site story) ts (due_of scenario story home.site)) (sym (ap (order_of (is_committed story)) (records-are scenario story home again)))
    (subst (λ rows. IsSerialOrder home (past_of home.site story) (order_of (is_committed story) (records home (past_of home.site story))) rows) (sym (due-are scenario story home again))
    (past.due (is_committed story) (tells-outcomes scenario commands home again)))
