-- The orders of all sites have no cycle together: between two global members of a site's order leads a ticket edge, and ticket edges have
-- no cycle. So there is one order for all sites.
use Rattle.std.proofs.Common.{◌≡◌, Bool, true, false, cond, Option, Some, None, List, [], ◌∷◌, refl, sym, ap, ◌∙◌, subst, inl, inr}
use Rattle.mdb_base.specs.declared.names.SiteId.{SiteId}
use Rattle.mdb_base.specs.declared.names.Tid.{Tid}
use Rattle.mdb_base.specs.Names.{same_tid, tid_before}
use Rattle.mdb_base.proofs.ForCallers.{same_tid-equal, same_tid-refl}
use Rattle.order_laws.specs.Chains.{In, Distinct, Acyclic, Within}
use Rattle.order_laws.specs.Merge.{IsLeastOrder}
use Rattle.order_laws.specs.Orders.{Before, Union}
use Rattle.order_laws.specs.Sites.{BeforeAtSite}
use Rattle.order_laws.specs.Tickets.{Ticketed}
use Rattle.order_laws.proofs.ForCallers.{acyclic_map, among_is, before_in, each_from, least_is_merge, least_merge_one, least_merge_placed, least_order_left, merge_distinct, merged_is_least, ranks_tids, sites_acyclic, tells_tids}
use Rattle.fed_rules.specs.declared.scenario.Scenario.{Scenario}
use Rattle.fed_rules.specs.Orders.{records_at, records_of, order_at, orders, IsMerge}
use Rattle.fed_rules.specs.Reports.{printed_order}
use Rattle.fed_rules.specs.Scenarios.{home_of, local_site}
use Rattle.fed_rules.specs.SitePast.{records}
use Rattle.fed_rules.specs.SiteRecords.{Home}
use Rattle.fed_rules.specs.Story.{Story, past_of}
use Rattle.federation_laws.specs.Edges.{committed, HasEdge}
use Rattle.federation_laws.specs.Parts.{CommitsAgree}
use Rattle.site_history.specs.Records.{IsPrepared}
use Rattle.federation_laws.specs.SiteOrders.{SitesAreSerial}
use Rattle.federation_laws.proofs.Declared.{order-of, nobody-there, member-declared}
use Rattle.federation_laws.proofs.Told.{home-again, home_is-site}

-- an edge between the Commit records of two attempts
pub record Edge (story : Story) (a b : Tid) : Type 0 where
  pub from : Ticketed
  pub to : Ticketed
  pub has_from : In from (committed story)
  pub has_to : In to (committed story)
  pub leaves : from.tid ≡ a
  pub enters : to.tid ≡ b
  pub edge : HasEdge from to

-- the first Commit record of an attempt, or one without tickets
commit_of : List Ticketed → Tid → Ticketed
commit_of [] tid = record { tid = tid; tickets = [] }
commit_of (node ∷ nodes) tid = cond (same_tid node.tid tid) node (commit_of nodes tid)

commit_is : (nodes : List Ticketed) (node : Ticketed) (tid : Tid) → In node nodes → node.tid ≡ tid → In (commit_of nodes tid) nodes × ((commit_of nodes tid).tid ≡ tid)
unfolding commit_of
commit_is [] node tid i e = absurd i
commit_is (x ∷ nodes) node tid i e = by_test (same_tid x.tid tid) refl i (λ j. commit_is nodes node tid j e)
  where
    first : In node (x ∷ nodes) → same_tid x.tid tid ≡ false → In node nodes
    first (inl p) f = let t : same_tid x.tid tid ≡ true = subst (λ (y : Ticketed). same_tid y.tid tid ≡ true) (sym p) (subst (λ u. same_tid u tid ≡ true) (sym e) (same_tid-refl tid)) in cc
    first (inr j) f = j

    by_test : (t : Bool) → same_tid x.tid tid ≡ t → In node (x ∷ nodes) → (In node nodes → In (commit_of nodes tid) nodes × ((commit_of nodes tid).tid ≡ tid))
        → In (cond t x (commit_of nodes tid)) (x ∷ nodes) × ((cond t x (commit_of nodes tid)).tid ≡ tid)
    by_test true q i rest = (inl refl, same_tid-equal x.tid tid q)
    by_test false q i rest = let found = rest (first i q) in (inr found.0, found.1)

-- where no attempt has two Commit records, edges between attempts have no cycle either
edges-acyclic : (story : Story) → Acyclic (Within HasEdge (committed story)) → ((a b : Ticketed) → In a (committed story) → In b (committed story) → a.tid ≡ b.tid → a ≡ b) → Acyclic (Edge story)
edges-acyclic story free once =
    acyclic_map (Edge story) (Within HasEdge all) (commit_of all) (λ a b e.
    let f = commit_is all e.from a e.has_from e.leaves in
    let t = commit_is all e.to b e.has_to e.enters in
    let p : e.from ≡ commit_of all a = once e.from (commit_of all a) e.has_from f.0 (e.leaves ∙ sym f.1) in
    let q : e.to ≡ commit_of all b = once e.to (commit_of all b) e.has_to t.0 (e.enters ∙ sym t.1) in
    record { edge = subst (λ y. HasEdge (commit_of all a) y) q (subst (λ x. HasEdge x e.to) p e.edge); from = f.0; to = t.0 }) free
  where
    all : List Ticketed
    all = committed story

-- of two global members of a site's order the one before has the smaller ticket
agrees : (scenario : Scenario) (story : Story) → SitesAreSerial scenario story → CommitsAgree scenario story → (s : SiteId) (a b : Tid) → Before (order_at scenario story s) a b → local_site scenario a.tx ≡ None → local_site scenario b.tx ≡ None → Edge story a b
agrees scenario story sites commits s a b before ga gb =
    let members = before_in (order_at scenario story s) a b before in
    let first = commits.global s a members.0 ga in
    let second = commits.global s b members.1 gb in
    let (home, declared) = member-declared scenario story s a members.0 in
    let same : home.site ≡ s = home_is-site scenario s home declared in
    let kept : records_of scenario story s ≡ records home (past_of home.site story) =
    ap (records_of scenario story) (sym same) ∙ ap (λ o. records_at o story) (home-again scenario s home declared) in
    let less = (sites s home declared).rising a b first.ticket second.ticket
    (subst (λ z. Before (order_at scenario story z) a b) (sym same) before)
    (subst (λ rs. IsPrepared rs a first.ticket) kept first.prepared)
    (subst (λ rs. IsPrepared rs b second.ticket) kept second.prepared) in
    record {
      from = first.commit;
      to = second.commit;
      has_from = first.kept;
      has_to = second.kept;
      leaves = first.theirs;
      enters = second.theirs;
      edge = (
        s,
        record {
          smaller = record { site = s; ticket = first.ticket };
          greater = record { site = s; ticket = second.ticket };
          first = first.named;
          second = second.named;
          there = refl;
          here = refl;
          less = less;
        },
      );
    }

-- no order names an attempt twice
order-distinct : (scenario : Scenario) (story : Story) → SitesAreSerial scenario story → (s : SiteId) → Distinct (order_at scenario story s)
order-distinct scenario story sites s = by_home (home_of scenario s) refl
  where
    by_home : (o : Option Home) → home_of scenario s ≡ o → Distinct (order_at scenario story s)
    by_home None e = subst Distinct (sym (nobody-there scenario story s e)) tt
    by_home (Some home) e = subst (λ z. Distinct (order_at scenario story z)) (home_is-site scenario s home e) (sites s home e).distinct

-- the orders of all sites have no cycle together
pub orders-acyclic : (scenario : Scenario) (story : Story) → Acyclic (Within HasEdge (committed story)) → SitesAreSerial scenario story → CommitsAgree scenario story → Acyclic (Union (orders scenario story))
orders-acyclic scenario story free sites commits =
    acyclic_map (Union (orders scenario story)) (BeforeAtSite (order_at scenario story)) (λ (a : Tid). a) at-a-site
    (sites_acyclic (order_at scenario story) (λ tid. local_site scenario tid.tx) (Edge story)
    (record { distinct = order-distinct scenario story sites; at_home = λ s h a i e. commits.at_home s h a i e; agree = agrees scenario story sites commits })
    (edges-acyclic story free commits.once))
  where
    at-a-site : (a b : Tid) → Union (orders scenario story) a b → BeforeAtSite (order_at scenario story) a b
    at-a-site a b u =
        let (ts, i, before) = among_is (λ ts. Before ts a b) (orders scenario story) u in
        let (s, e) = order-of scenario story ts i in
        record { site = s; before = subst (λ us. Before us a b) (sym e) before }

-- so the printed order is a merge of them
pub printed-merge : (scenario : Scenario) (story : Story) → Acyclic (Union (orders scenario story)) → IsMerge scenario story (printed_order scenario story)
printed-merge scenario story none =
    least_is_merge same_tid tid_before tells_tids (orders scenario story) (printed_order scenario story) (merged_is_least same_tid tid_before tells_tids ranks_tids (orders scenario story) none)

-- the one with the least attempt at each place
pub printed-least : (scenario : Scenario) (story : Story) → Acyclic (Union (orders scenario story)) → IsLeastOrder tid_before (orders scenario story) [] (printed_order scenario story)
printed-least scenario story none =
    least_merge_placed same_tid tid_before tells_tids (orders scenario story) (printed_order scenario story) (merged_is_least same_tid tid_before tells_tids ranks_tids (orders scenario story) none)

-- and there is no other such
pub printed-only : (scenario : Scenario) (story : Story) → Acyclic (Union (orders scenario story)) → (order : List Tid) → IsLeastOrder tid_before (orders scenario story) [] order → order ≡ printed_order scenario story
printed-only scenario story none order least =
    least_merge_one same_tid tid_before ranks_tids (orders scenario story) order (printed_order scenario story)
    (least_order_left same_tid tid_before tells_tids (orders scenario story) order least)
    (merged_is_least same_tid tid_before tells_tids ranks_tids (orders scenario story) none)

-- a merge names each attempt once, since each order does
pub merge-once : (scenario : Scenario) (story : Story) → SitesAreSerial scenario story → (order : List Tid) → IsMerge scenario story order → Distinct order
merge-once scenario story sites order merge =
    merge_distinct same_tid (orders scenario story) order
    (each_from Distinct (orders scenario story) (λ ts i. let (site, e) = order-of scenario story ts i in subst Distinct e (order-distinct scenario story sites site))) merge
