-- What holds of a story at rest, from the laws.
use Rattle.std.proofs.Common.{◌≡◌, ℕ, Bool, true, false, cond, is_some, Option, Some, None, List, [], ◌∷◌, refl, sym, ◌∙◌, ap, subst, inl, inr}
use Rattle.mdb_base.specs.declared.names.SiteId.{SiteId}
use Rattle.mdb_base.specs.declared.names.Tid.{Tid}
use Rattle.mdb_base.specs.declared.names.Tx.{Tx}
use Rattle.mdb_base.specs.declared.rows.Put.{Put}
use Rattle.mdb_base.specs.Names.{same_tid, same_tx}
use Rattle.mdb_base.proofs.ForCallers.{same_tid-refl, same_tx-equal}
use Rattle.order_laws.specs.Chains.{In}
use Rattle.order_laws.proofs.ForCallers.{merge_names, tells_tids}
use Rattle.fed_rules.specs.declared.commands.Command.{Command}
use Rattle.fed_rules.specs.declared.records.CoordRecord.{CoordRecord}
use Rattle.fed_rules.specs.declared.records.CoordRecord.TheVariants as Coord_rec
use Rattle.fed_rules.specs.declared.records.SiteRecord.{SiteRecord}
use Rattle.fed_rules.specs.declared.records.SiteRecord.TheVariants as Rec
use Rattle.fed_rules.specs.declared.scenario.Scenario.{Scenario}
use Rattle.fed_rules.specs.Closing.{is_done, is_done_at}
use Rattle.fed_rules.specs.CoordPast as Coordinator
use Rattle.fed_rules.specs.CoordRecords.{committed_of, has_commit}
use Rattle.fed_rules.specs.Headline.{Headline, OfStories}
use Rattle.fed_rules.specs.Orders.{IsMerge, is_committed, orders, records_at, records_of}
use Rattle.fed_rules.specs.Plans.{IsScenario}
use Rattle.fed_rules.specs.Reports.{printed_order}
use Rattle.fed_rules.specs.Scenarios.{local_home}
use Rattle.fed_rules.specs.SitePast.{records}
use Rattle.fed_rules.specs.SiteRecords.{Home, local_of}
use Rattle.fed_rules.specs.Story.{Story, coord_past, past_of, story_of}
use Rattle.closing_laws.specs.AtRest.{IsAtRest}
use Rattle.closing_laws.specs.Finished.{AllFinished}
use Rattle.progress_laws.specs.Settled.{CommitsAreSettledAtRest}
use Rattle.federation_laws.proofs.ForCallers.{AsGlobal, AsLocal, IsMember, local_home-declared, member-of, order-of}
use Rattle.session_outputs.specs.Sessions.{AllCommit, AreSettled, HasCommitted, IsRight}

-- a member of a site's order committed
member_committed : (scenario : Scenario) (story : Story) (site : SiteId) (tid : Tid) → IsMember (is_committed story) (records_of scenario story site) tid → HasCommitted scenario story tid
member_committed scenario story site tid (AsLocal l) = inl (record { site = site; number = l.number; writes = l.writes; kept = l.kept })
member_committed scenario story site tid (AsGlobal c) = inr c.commit

-- so did each of the printed order, which is a merge
ordered_committed : (scenario : Scenario) (story : Story) (order : List Tid) → IsMerge scenario story order → (tid : Tid) → In tid order → HasCommitted scenario story tid
ordered_committed scenario story order merge tid i =
    let (ts, listed, here) = merge_names same_tid tells_tids (orders scenario story) order merge tid i in
    let (site, e) = order-of scenario story ts listed in
    member_committed scenario story site tid (member-of (is_committed story) (records_of scenario story site) tid (subst (In tid) (sym e) here))

-- and each that committed is there
committed_ordered : (scenario : Scenario) (story : Story) → Headline scenario story → (tid : Tid) → HasCommitted scenario story tid → In tid (printed_order scenario story)
committed_ordered scenario story headline tid (inl l) = headline.holds_committed.locals l.site tid l.number l.writes l.kept
committed_ordered scenario story headline tid (inr commit) = headline.holds_committed.globals tid commit

-- at rest each site has what it is due
settled : (scenario : Scenario) (story : Story) → Headline scenario story → IsAtRest scenario story → AreSettled scenario story
settled scenario story headline rest site home declared key =
    sym (headline.leaves_tables site home declared (rest.none_in_doubt site) key) ∙ headline.gives_reads_and_dues.tables site home declared key

-- a story at rest is right
pub story_right : OfStories Headline → CommitsAreSettledAtRest → (scenario : Scenario) → IsScenario scenario → (commands : List Command) → IsAtRest scenario (story_of scenario commands) → IsRight scenario (story_of scenario commands)
story_right headlines everywhere scenario whole commands rest =
    let story = story_of scenario commands in
    let headline = headlines scenario whole commands in
    record {
      headline = headline;
      at_rest = rest;
      settled = settled scenario story headline rest;
      commits_settled = everywhere scenario whole commands rest;
      members = λ tid. (ordered_committed scenario story (printed_order scenario story) headline.is_merge tid, committed_ordered scenario story headline tid);
    }

-- ---- each transaction with a commit is committed once

-- a Local record of the transaction
record KeepsLocal (rs : List SiteRecord) (tx : Tx) : Type 0 where
  tid : Tid
  of_tx : tid.tx ≡ tx
  number : ℕ
  writes : List Put
  kept : In (Rec.Local tid number writes) rs

local_kept : (rs : List SiteRecord) (tx : Tx) → is_some (local_of rs tx) ≡ true → KeepsLocal rs tx
local_kept [] tx e = absurd cc
local_kept (Rec.Local t n w ∷ rs) tx e = by_test (same_tx t.tx tx) refl e (local_kept rs tx)
  where
    by_test : (b : Bool) → same_tx t.tx tx ≡ b → is_some (cond b (Some t) (local_of rs tx)) ≡ true → (is_some (local_of rs tx) ≡ true → KeepsLocal rs tx) → KeepsLocal (Rec.Local t n w ∷ rs) tx
    by_test true q e more = record { tid = t; of_tx = same_tx-equal t.tx tx q; number = n; writes = w; kept = inl refl }
    by_test false q e more = (let k = more e in record { tid = k.tid; of_tx = k.of_tx; number = k.number; writes = k.writes; kept = inr k.kept })
local_kept (r ∷ rs) tx e = let k = local_kept rs tx e in record { tid = k.tid; of_tx = k.of_tx; number = k.number; writes = k.writes; kept = inr k.kept }

-- a Commit record of it
commit_kept : (rs : List CoordRecord) (tx : Tx) → is_some (committed_of rs tx) ≡ true → (tid : Tid) × (tid.tx ≡ tx) × (has_commit rs tid ≡ true)
commit_kept [] tx e = absurd cc
commit_kept (Coord_rec.Commit t ks ∷ rs) tx e = by_test (same_tx t.tx tx) refl e (commit_kept rs tx)
  where
    later : (tid : Tid) (b : Bool) → has_commit rs tid ≡ true → cond b true (has_commit rs tid) ≡ true
    later tid true h = refl
    later tid false h = h

    by_test : (b : Bool) → same_tx t.tx tx ≡ b → is_some (cond b (Some t) (committed_of rs tx)) ≡ true
        → (is_some (committed_of rs tx) ≡ true → (tid : Tid) × (tid.tx ≡ tx) × (has_commit rs tid ≡ true)) → (tid : Tid) × (tid.tx ≡ tx) × (has_commit (Coord_rec.Commit t ks ∷ rs) tid ≡ true)
    by_test true q e more = (t, same_tx-equal t.tx tx q, ap (λ b. cond b true (has_commit rs t)) (same_tid-refl t))
    by_test false q e more = (let k = more e in (k.0, k.1, later k.0 (same_tid t k.0) k.2))
commit_kept (r ∷ rs) tx e = commit_kept rs tx e

done_committed : (scenario : Scenario) (story : Story) (tx : Tx) → is_done scenario story tx ≡ true → (tid : Tid) × (tid.tx ≡ tx) × HasCommitted scenario story tid
done_committed scenario story tx e = by_home (local_home scenario tx) refl e
  where
    by_home : (o : Option Home) → local_home scenario tx ≡ o → is_done_at o story tx ≡ true → (tid : Tid) × (tid.tx ≡ tx) × HasCommitted scenario story tid
    by_home None h e = let k = commit_kept (Coordinator.records (coord_past story)) tx e in (k.0, k.1, inr k.2)
    by_home (Some home) h e =
        let k = local_kept (records home (past_of home.site story)) tx e in
        let declared = local_home-declared scenario tx home h in (
          k.tid,
          k.of_tx,
          inl (record {
            site = home.site;
            number = k.number;
            writes = k.writes;
            kept = subst (λ (o : Option Home). In (Rec.Local k.tid k.number k.writes) (records_at o story)) (sym declared) k.kept;
          }),
        )

pub all_commit : (scenario : Scenario) (story : Story) → IsRight scenario story → AllFinished scenario story → AllCommit scenario story
all_commit scenario story right finished line i =
    let (tid, of_tx, committed) = done_committed scenario story line.tx (finished.done line i) in
    let ordered = (right.members tid).1 committed in
    record {
      tid = tid;
      of_tx = of_tx;
      committed = committed;
      ordered = ordered;
      once = λ other j e. right.headline.names_once.transactions other tid j ordered (e ∙ sym of_tx);
    }
