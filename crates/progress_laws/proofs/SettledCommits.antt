-- At rest each global attempt that committed is settled at each site of its program.
use Rattle.std.proofs.Common.{◌≡◌, ℕ, Bool, true, false, cond, Option, Some, None, List, [], ◌∷◌, inl, inr, refl, sym, ap, subst, ◌∙◌}
use Rattle.mdb_base.specs.declared.names.SiteId.{SiteId}
use Rattle.mdb_base.specs.declared.names.Tid.{Tid}
use Rattle.mdb_base.specs.declared.rows.Put.{Put}
use Rattle.mdb_base.specs.Names.{same_tid}
use Rattle.mdb_base.proofs.ForCallers.{same_tid-equal, same_tid-refl}
use Rattle.order_laws.specs.Chains.{In}
use Rattle.presumptions.specs.declared.Decision.TheVariants as Decided
use Rattle.fed_rules.specs.declared.records.SiteRecord.{SiteRecord}
use Rattle.fed_rules.specs.declared.records.SiteRecord.TheVariants as Rec
use Rattle.fed_rules.specs.declared.scenario.Scenario.{Scenario}
use Rattle.fed_rules.specs.Closing.{in_doubt_at}
use Rattle.fed_rules.specs.Headline.{OfStories}
use Rattle.fed_rules.specs.Orders.{is_committed, records_at, records_of}
use Rattle.fed_rules.specs.Scenarios.{home_of, local_site}
use Rattle.fed_rules.specs.SitePast.{records}
use Rattle.fed_rules.specs.SiteRecords.{Held, Home, doubt_of}
use Rattle.fed_rules.specs.Story.{Story, past_of, story_of}
use Rattle.site_history.specs.Records.{TellOutcomes}
use Rattle.federation_laws.specs.OneOrder.{AllAreOrdered}
use Rattle.federation_laws.specs.Parts.{CommitsAgree}
use Rattle.federation_laws.proofs.ForCallers.{home-again, member-declared, story-holds, tells-outcomes}
use Rattle.closing_laws.specs.AtRest.{IsAtRest}
use Rattle.closing_laws.proofs.ForCallers.{doubt_listed}
use Rattle.progress_laws.specs.Settled.{CommitsAreSettledAtRest}

-- where each Ended record says the outcome, which is commit, and an attempt was prepared and is in doubt no more, an Ended record of it says commit
ended_behind : (commits : Tid → Bool) (rs : List SiteRecord) (tid : Tid) (epoch number ticket : ℕ) (writes : List Put) → TellOutcomes commits rs → commits tid ≡ true
    → In (Rec.Prepared tid epoch number ticket writes) rs → doubt_of rs tid ≡ None → In (Rec.Ended tid Decided.Commit) rs
ended_behind commits [] tid epoch number ticket writes tells commit i none = absurd i
ended_behind commits (Rec.Prepared t p n k w ∷ rs) tid epoch number ticket writes tells commit i none =
    by_test (same_tid t tid) refl none i (ended_behind commits rs tid epoch number ticket writes tells.1 commit)
  where
    here : Held
    here = record { tid = t; epoch = p; number = n; ticket = k; writes = w }

    by_test : (b : Bool) → same_tid t tid ≡ b → cond b (Some here) (doubt_of rs tid) ≡ None → In (Rec.Prepared tid epoch number ticket writes) (Rec.Prepared t p n k w ∷ rs)
        → (In (Rec.Prepared tid epoch number ticket writes) rs → doubt_of rs tid ≡ None → In (Rec.Ended tid Decided.Commit) rs) → In (Rec.Ended tid Decided.Commit) (Rec.Prepared t p n k w ∷ rs)
    by_test true q e i rest = cc
    by_test false q e (inl same) rest = (let own : t ≡ tid = cc in let yes = ap (λ (z : Tid). same_tid t z) (sym own) ∙ same_tid-refl t in let clash = sym yes ∙ q in cc)
    by_test false q e (inr j) rest = inr (rest j e)
ended_behind commits (Rec.Ended t Decided.Commit ∷ rs) tid epoch number ticket writes tells commit (inl e) none = cc
ended_behind commits (Rec.Ended t Decided.Commit ∷ rs) tid epoch number ticket writes tells commit (inr i) none =
    by_test (same_tid t tid) refl none (ended_behind commits rs tid epoch number ticket writes tells.1 commit i)
  where
    by_test : (b : Bool) → same_tid t tid ≡ b → cond b None (doubt_of rs tid) ≡ None → (doubt_of rs tid ≡ None → In (Rec.Ended tid Decided.Commit) rs)
        → In (Rec.Ended tid Decided.Commit) (Rec.Ended t Decided.Commit ∷ rs)
    by_test true q e rest = inl (ap (λ z. Rec.Ended z Decided.Commit) (same_tid-equal t tid q))
    by_test false q e rest = inr (rest e)
ended_behind commits (Rec.Ended t Decided.Abort ∷ rs) tid epoch number ticket writes tells commit (inl e) none = cc
ended_behind commits (Rec.Ended t Decided.Abort ∷ rs) tid epoch number ticket writes tells commit (inr i) none =
    by_test (same_tid t tid) refl none (ended_behind commits rs tid epoch number ticket writes tells.1 commit i)
  where
    by_test : (b : Bool) → same_tid t tid ≡ b → cond b None (doubt_of rs tid) ≡ None → (doubt_of rs tid ≡ None → In (Rec.Ended tid Decided.Commit) rs)
        → In (Rec.Ended tid Decided.Commit) (Rec.Ended t Decided.Abort ∷ rs)
    by_test true q e rest = (let aborts : commits tid ≡ false = ap commits (sym (same_tid-equal t tid q)) ∙ tells.0 in let clash = sym commit ∙ aborts in cc)
    by_test false q e rest = inr (rest e)
ended_behind commits (Rec.Setup site engine protocol items ∷ rs) tid epoch number ticket writes tells commit (inl e) none = cc
ended_behind commits (Rec.Setup site engine protocol items ∷ rs) tid epoch number ticket writes tells commit (inr i) none =
    inr (ended_behind commits rs tid epoch number ticket writes tells.1 commit i none)
ended_behind commits (Rec.Start s ∷ rs) tid epoch number ticket writes tells commit (inl e) none = cc
ended_behind commits (Rec.Start s ∷ rs) tid epoch number ticket writes tells commit (inr i) none =
    inr (ended_behind commits rs tid epoch number ticket writes tells.1 commit i none)
ended_behind commits (Rec.Local t n w ∷ rs) tid epoch number ticket writes tells commit (inl e) none = cc
ended_behind commits (Rec.Local t n w ∷ rs) tid epoch number ticket writes tells commit (inr i) none =
    inr (ended_behind commits rs tid epoch number ticket writes tells.1 commit i none)
ended_behind commits (Rec.Checkpoint sum ∷ rs) tid epoch number ticket writes tells commit (inl e) none = cc
ended_behind commits (Rec.Checkpoint sum ∷ rs) tid epoch number ticket writes tells commit (inr i) none =
    inr (ended_behind commits rs tid epoch number ticket writes tells.1 commit i none)

-- at rest a declared site is in doubt of nothing
no_doubt : (scenario : Scenario) (story : Story) → IsAtRest scenario story → (site : SiteId) (home : Home) → home_of scenario site ≡ Some home → (tid : Tid)
    → doubt_of (records home (past_of home.site story)) tid ≡ None
no_doubt scenario story rest site home declared tid = by_doubt (doubt_of (records home (past_of home.site story)) tid) refl
  where
    by_doubt : (o : Option Held) → doubt_of (records home (past_of home.site story)) tid ≡ o → doubt_of (records home (past_of home.site story)) tid ≡ None
    by_doubt None e = e
    by_doubt (Some held) e = absurd (subst (λ ts. In tid ts) (ap (λ o. in_doubt_at o story) (sym declared) ∙ rest.none_in_doubt site) (doubt_listed home story tid held e))

-- so each attempt that committed is settled at each site of its program: it is prepared there by its ticket, and it ended by its outcome
pub commits_settled : OfStories AllAreOrdered → OfStories CommitsAgree → CommitsAreSettledAtRest
commits_settled all agree scenario good commands rest tid commit step i =
    let story = story_of scenario commands in
    let here = (all scenario good commands).globals tid commit step i in
    let (home, declared) = member-declared scenario story step.site tid here in
    let held = story-holds scenario good commands tid in
    let roams : local_site scenario tid.tx ≡ None = (held.programmed (held.holds.committed commit).known).1 in
    let prepared = ((agree scenario good commands).global step.site tid here roams).prepared in
    let kept : records_of scenario story step.site ≡ records home (past_of home.site story) = ap (λ o. records_at o story) declared in
    let tells = subst (λ rs. TellOutcomes (is_committed story) rs) (sym kept) (tells-outcomes scenario commands home (home-again scenario step.site home declared)) in
    let none : doubt_of (records_of scenario story step.site) tid ≡ None = ap (λ rs. doubt_of rs tid) kept ∙ no_doubt scenario story rest step.site home declared tid in
    let ended =
    ended_behind (is_committed story) (records_of scenario story step.site) tid prepared.epoch prepared.number
    ((agree scenario good commands).global step.site tid here roams).ticket prepared.writes tells commit prepared.kept none in
    record {
      epoch = prepared.epoch;
      number = prepared.number;
      ticket = ((agree scenario good commands).global step.site tid here roams).ticket;
      writes = prepared.writes;
      prepared = prepared.kept;
      ended = ended;
      settled = none;
    }
