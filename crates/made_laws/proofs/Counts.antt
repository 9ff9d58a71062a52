-- Each transaction that is done has one commit.
use Rattle.std.proofs.Common.{◌≡◌, ℕ, ◌+◌, ◌≤◌, Bool, true, false, cond, is_some, Option, Some, None, List, [], ◌∷◌, ◌++◌, map, length, inl, inr, refl, sym, ap, ap₂, subst, ◌∙◌, arith, length-append, eqb-true}
use Rattle.std.proofs.lemmas.List.Sums.{sum_by-cons}
use Rattle.std.specs.Prelude.{◌==◌, count_by, sum_by}
use Rattle.mdb_base.specs.declared.names.SiteId.{SiteId}
use Rattle.mdb_base.specs.declared.names.Tid.{Tid}
use Rattle.mdb_base.specs.declared.names.Tx.{Tx}
use Rattle.mdb_base.specs.declared.acts.Step.{Step}
use Rattle.mdb_base.specs.Names.{same_tid, same_tx}
use Rattle.mdb_base.specs.Words.{map_some}
use Rattle.mdb_base.proofs.ForCallers.{among_append, among_behind, among_split, length-map, same_tid-refl}
use Rattle.order_laws.specs.Chains.{Distinct, In}
use Rattle.order_laws.specs.Tickets.{Ticketed}
use Rattle.order_laws.proofs.ForCallers.{distinct_joined, first_where_some, in_map}
use Rattle.fed_rules.specs.declared.commands.Command.{Command}
use Rattle.fed_rules.specs.declared.records.CoordRecord.{CoordRecord}
use Rattle.fed_rules.specs.declared.records.CoordRecord.TheVariants as Coord_record
use Rattle.fed_rules.specs.declared.records.SiteRecord.{SiteRecord}
use Rattle.fed_rules.specs.declared.records.SiteRecord.TheVariants as Rec
use Rattle.fed_rules.specs.declared.scenario.Scenario.{Scenario}
use Rattle.fed_rules.specs.declared.scenario.TxLine.{TxLine}
use Rattle.fed_rules.specs.Closing.{is_done, is_done_at}
use Rattle.fed_rules.specs.CoordPast as Coordinator
use Rattle.fed_rules.specs.CoordRecords.{commits, committed_of, has_commit}
use Rattle.fed_rules.specs.Headline.{Headline, OfStories}
use Rattle.fed_rules.specs.Orders.{records_at, records_of}
use Rattle.fed_rules.specs.Plans.{IsScenario, one_transaction}
use Rattle.fed_rules.specs.Reports.{printed_order}
use Rattle.fed_rules.specs.Scenarios.{global_line, global_program, home_at, home_of, home_of_line, local_home, sites, transaction}
use Rattle.fed_rules.specs.SitePast.{records}
use Rattle.fed_rules.specs.SiteRecords.{Home, local_of}
use Rattle.fed_rules.specs.Story.{Story, coord_past, past_of, story_of}
use Rattle.coord_laws.proofs.ForCallers.{commit_among, commit_mark}
use Rattle.commit_laws.proofs.ForCallers.{begun_global, coord-sound, home-again, its-site, nowhere}
use Rattle.site_history.specs.Records.{BindOnce, IsBound}
use Rattle.site_history.specs.Stories.{OfSites}
use Rattle.site_history.specs.SiteOrders.{IsSerialPast}
use Rattle.federation_laws.proofs.ForCallers.{IsLocal, commits-once, declared-in, global_program-is, local-record, local_home-declared}
use Rattle.closing_laws.proofs.ForCallers.{distinct_in_others, numbers_differ}
use Rattle.report_text.specs.Summaries.{is_global_commit, is_local_commit}
use Rattle.made_laws.specs.Counted.{AreDone, CommitsAreCounted, kept_commits}
use Rattle.made_laws.proofs.SiteLists.{sites_distinct}

-- ---- lists

distinct_map : {A B : Type 0} (f : A → B) (xs : List A) → Distinct xs → ((a b : A) → In a xs → In b xs → f a ≡ f b → a ≡ b) → Distinct (map f xs)
distinct_map f [] d one = tt
distinct_map {A = A} {B = B} f (x ∷ xs) d one = (λ i. again xs i (λ b j e. one x b (inl refl) (inr j) e) d.0, distinct_map f xs d.1 (λ a b i j e. one a b (inr i) (inr j) e))
  where
    again : (ys : List A) → In (f x) (map f ys) → ((b : A) → In b ys → f x ≡ f b → x ≡ b) → (In x ys → ⊥) → ⊥
    again [] i one n = i
    again (y ∷ ys) (inl e) one n = n (inl (sym (one y (inl refl) (sym e))))
    again (y ∷ ys) (inr i) one n = again ys i (λ b j e. one b (inr j) e) (λ j. n (inr j))

image_in : {A B : Type 0} (f : A → B) (y : B) (xs : List A) → In y (map f xs) → (x : A) × In x xs × (f x ≡ y)
image_in f y [] i = absurd i
image_in f y (x ∷ xs) (inl e) = (x, inl refl, e)
image_in f y (x ∷ xs) (inr i) = let r = image_in f y xs i in (r.0, inr r.1, r.2)

-- ---- records

locals_in : List SiteRecord → List Tid
locals_in [] = []
locals_in (Rec.Local tid number writes ∷ rs) = tid ∷ locals_in rs
locals_in (r ∷ rs) = locals_in rs

abbrev tids_in : List CoordRecord → List Tid
tids_in rs = map (λ (c : Ticketed). c.tid) (commits rs)

locals_counted : (rs : List SiteRecord) → count_by is_local_commit rs ≡ length (locals_in rs)
unfolding locals_in
locals_counted [] = refl
locals_counted (Rec.Local t n w ∷ rs) = sum_by-cons (λ r. cond (is_local_commit r) 1 0) (Rec.Local t n w) rs ∙ (ap (λ m. 1 + m) (locals_counted rs) ∙ omega arith)
locals_counted (Rec.Prepared t e n k w ∷ rs) = sum_by-cons (λ r. cond (is_local_commit r) 1 0) (Rec.Prepared t e n k w) rs ∙ (ap (λ m. 0 + m) (locals_counted rs) ∙ omega arith)
locals_counted (Rec.Ended t d ∷ rs) = sum_by-cons (λ r. cond (is_local_commit r) 1 0) (Rec.Ended t d) rs ∙ (ap (λ m. 0 + m) (locals_counted rs) ∙ omega arith)
locals_counted (Rec.Start k ∷ rs) = sum_by-cons (λ r. cond (is_local_commit r) 1 0) (Rec.Start k) rs ∙ (ap (λ m. 0 + m) (locals_counted rs) ∙ omega arith)
locals_counted (Rec.Setup s g p i ∷ rs) = sum_by-cons (λ r. cond (is_local_commit r) 1 0) (Rec.Setup s g p i) rs ∙ (ap (λ m. 0 + m) (locals_counted rs) ∙ omega arith)
locals_counted (Rec.Checkpoint s ∷ rs) = sum_by-cons (λ r. cond (is_local_commit r) 1 0) (Rec.Checkpoint s) rs ∙ (ap (λ m. 0 + m) (locals_counted rs) ∙ omega arith)

commits_counted : (rs : List CoordRecord) → count_by is_global_commit rs ≡ length (tids_in rs)
commits_counted [] = refl
commits_counted (Coord_record.Commit t ks ∷ rs) = sum_by-cons (λ r. cond (is_global_commit r) 1 0) (Coord_record.Commit t ks) rs ∙ (ap (λ m. 1 + m) (commits_counted rs) ∙ omega arith)
commits_counted (Coord_record.Initiation t ms ∷ rs) = sum_by-cons (λ r. cond (is_global_commit r) 1 0) (Coord_record.Initiation t ms) rs ∙ (ap (λ m. 0 + m) (commits_counted rs) ∙ omega arith)
commits_counted (Coord_record.Abort t ms ∷ rs) = sum_by-cons (λ r. cond (is_global_commit r) 1 0) (Coord_record.Abort t ms) rs ∙ (ap (λ m. 0 + m) (commits_counted rs) ∙ omega arith)
commits_counted (Coord_record.End t ∷ rs) = sum_by-cons (λ r. cond (is_global_commit r) 1 0) (Coord_record.End t) rs ∙ (ap (λ m. 0 + m) (commits_counted rs) ∙ omega arith)
commits_counted (Coord_record.Checkpoint s ∷ rs) = sum_by-cons (λ r. cond (is_global_commit r) 1 0) (Coord_record.Checkpoint s) rs ∙ (ap (λ m. 0 + m) (commits_counted rs) ∙ omega arith)

more_local : (t : Tid) (r : SiteRecord) (rs : List SiteRecord) → IsLocal rs t → IsLocal (r ∷ rs) t
more_local t r rs l = record { number = l.number; writes = l.writes; kept = inr l.kept }

local_kept : (rs : List SiteRecord) (t : Tid) → In t (locals_in rs) → IsLocal rs t
unfolding locals_in
local_kept [] t i = absurd i
local_kept (Rec.Local u n w ∷ rs) t (inl e) = record { number = n; writes = w; kept = inl (ap (λ x. Rec.Local x n w) e) }
local_kept (Rec.Local u n w ∷ rs) t (inr i) = more_local t (Rec.Local u n w) rs (local_kept rs t i)
local_kept (Rec.Prepared u e n k w ∷ rs) t i = more_local t (Rec.Prepared u e n k w) rs (local_kept rs t i)
local_kept (Rec.Ended u d ∷ rs) t i = more_local t (Rec.Ended u d) rs (local_kept rs t i)
local_kept (Rec.Start k ∷ rs) t i = more_local t (Rec.Start k) rs (local_kept rs t i)
local_kept (Rec.Setup s g p q ∷ rs) t i = more_local t (Rec.Setup s g p q) rs (local_kept rs t i)
local_kept (Rec.Checkpoint s ∷ rs) t i = more_local t (Rec.Checkpoint s) rs (local_kept rs t i)

local_bound : (rs : List SiteRecord) (t : Tid) → In t (locals_in rs) → IsBound t rs
unfolding locals_in
local_bound [] t i = absurd i
local_bound (Rec.Local u n w ∷ rs) t (inl e) = inl e
local_bound (Rec.Local u n w ∷ rs) t (inr i) = inr (local_bound rs t i)
local_bound (r ∷ rs) t i = inr (local_bound rs t i)

locals_distinct : (rs : List SiteRecord) → BindOnce rs → Distinct (locals_in rs)
unfolding locals_in
locals_distinct [] once = tt
locals_distinct (Rec.Local u n w ∷ rs) once = (λ i. once.0 (local_bound rs u i), locals_distinct rs once.1)
locals_distinct (Rec.Prepared u e n k w ∷ rs) once = locals_distinct rs once.1
locals_distinct (Rec.Ended u d ∷ rs) once = locals_distinct rs once
locals_distinct (Rec.Start k ∷ rs) once = locals_distinct rs once
locals_distinct (Rec.Setup s g p q ∷ rs) once = locals_distinct rs once
locals_distinct (Rec.Checkpoint s ∷ rs) once = locals_distinct rs once

local_found : (tx : Tx) (rs : List SiteRecord) → is_some (local_of rs tx) ≡ true → (t : Tid) × In t (locals_in rs) × (same_tx t.tx tx ≡ true)
unfolding locals_in
local_found tx [] e = absurd cc
local_found tx (Rec.Local u n w ∷ rs) e = by_test (same_tx u.tx tx) refl e (local_found tx rs)
  where
    by_test : (b : Bool) → same_tx u.tx tx ≡ b → is_some (cond b (Some u) (local_of rs tx)) ≡ true → (is_some (local_of rs tx) ≡ true → (t : Tid) × In t (locals_in rs) × (same_tx t.tx tx ≡ true))
        → (t : Tid) × In t (u ∷ locals_in rs) × (same_tx t.tx tx ≡ true)
    by_test true q e k = (u, inl refl, q)
    by_test false q e k = let r = k e in (r.0, inr r.1, r.2)
local_found tx (r ∷ rs) e = local_found tx rs e

commit_found : (tx : Tx) (rs : List CoordRecord) → is_some (committed_of rs tx) ≡ true → (t : Tid) × In t (tids_in rs) × (same_tx t.tx tx ≡ true)
commit_found tx [] e = absurd cc
commit_found tx (Coord_record.Commit u ks ∷ rs) e = by_test (same_tx u.tx tx) refl e (commit_found tx rs)
  where
    by_test : (b : Bool) → same_tx u.tx tx ≡ b → is_some (cond b (Some u) (committed_of rs tx)) ≡ true → (is_some (committed_of rs tx) ≡ true → (t : Tid) × In t (tids_in rs) × (same_tx t.tx tx ≡ true))
        → (t : Tid) × In t (u ∷ tids_in rs) × (same_tx t.tx tx ≡ true)
    by_test true q e k = (u, inl refl, q)
    by_test false q e k = let r = k e in (r.0, inr r.1, r.2)
commit_found tx (r ∷ rs) e = commit_found tx rs e

has_one : (rs : List CoordRecord) (t : Tid) → In t (tids_in rs) → has_commit rs t ≡ true
has_one [] t i = absurd i
has_one (Coord_record.Commit u ks ∷ rs) t (inl e) = ap (λ b. cond b true (has_commit rs t)) (subst (λ z. same_tid u z ≡ true) e (same_tid-refl u))
has_one (Coord_record.Commit u ks ∷ rs) t (inr i) = either (same_tid u t) (has_one rs t i)
  where
    either : (b : Bool) → has_commit rs t ≡ true → cond b true (has_commit rs t) ≡ true
    either true e = refl
    either false e = e
has_one (r ∷ rs) t i = has_one rs t i

-- ---- a story

line_there : (scenario : Scenario) (tx : Tx) (line : TxLine) → transaction scenario tx ≡ Some line → In tx.0 (map (λ (l : TxLine). l.tx.0) scenario.transactions)
line_there scenario tx line e =
    let f = first_where_some (λ (l : TxLine). same_tx l.tx tx) scenario.transactions line e in
    subst (λ n. In n (map (λ (l : TxLine). l.tx.0) scenario.transactions)) (eqb-true line.tx.0 tx.0 f.1) (in_map (λ (l : TxLine). l.tx.0) line scenario.transactions f.0)

module _ (scenario : Scenario) (whole : IsScenario scenario) (commands : List Command) (headline : Headline scenario (story_of scenario commands)) (serial : OfSites IsSerialPast) where
  abbrev story : Story
  story = story_of scenario commands

  abbrev kept : List CoordRecord
  kept = Coordinator.records (coord_past story)

  -- a Local record is of a local transaction of the site
  record IsHere (s : SiteId) (t : Tid) : Type 0 where
    home : Home
    declared : home_of scenario s ≡ Some home
    site : home.site ≡ s
    of_home : local_home scenario t.tx ≡ Some home
    local : IsLocal (records_of scenario story s) t

  local_here : (s : SiteId) (t : Tid) → In t (locals_in (records_of scenario story s)) → IsHere s t
  unfolding locals_in
  local_here s t i = by_home (home_of scenario s) refl i
    where
      by_home : (o : Option Home) → home_of scenario s ≡ o → In t (locals_in (records_at o story)) → IsHere s t
      by_home None e i = absurd i
      by_home (Some home) e i =
          let site : home.site ≡ s = its-site scenario s home e in
          let local = local_kept (records home (past_of home.site story)) t i in
          record {
            home = home;
            declared = e;
            site = site;
            of_home = local-record scenario commands home t (home-again scenario s home e) local;
            local = subst (λ o. IsLocal (records_at o story) t) (sym e) local;
          }

  locals_at : List SiteId → List Tid
  locals_at [] = []
  locals_at (s ∷ ss) = locals_in (records_of scenario story s) ++ locals_at ss

  place_of : (ss : List SiteId) (t : Tid) → In t (locals_at ss) → (s : SiteId) × In s ss × IsHere s t
  unfolding locals_at
  place_of [] t i = absurd i
  place_of (s ∷ ss) t i = elim (among_split (λ z. z ≡ t) (locals_in (records_of scenario story s)) (locals_at ss) i) [
    | inl j ↦ (s, inl refl, local_here s t j)
    | inr j ↦ (let r = place_of ss t j in (r.0, inr r.1, r.2))
  ]

  one_place : (a b : SiteId) (t : Tid) → IsHere a t → IsHere b t → a ≡ b
  one_place a b t p q =
      let same : p.home ≡ q.home = (let e : Some p.home ≡ Some q.home = sym p.of_home ∙ q.of_home in cc) in
      sym p.site ∙ (ap (λ (h : Home). h.site) same ∙ q.site)

  once_at : (s : SiteId) → BindOnce (records_of scenario story s)
  once_at s = by_home (home_of scenario s) refl
    where
      by_home : (o : Option Home) → home_of scenario s ≡ o → BindOnce (records_at o story)
      by_home None e = tt
      by_home (Some home) e = (serial scenario commands s home e).once

  locals_once : (ss : List SiteId) → Distinct ss → Distinct (locals_at ss)
  unfolding locals_at
  locals_once [] d = tt
  locals_once (s ∷ ss) d =
      distinct_joined (locals_in (records_of scenario story s)) (locals_at ss) (locals_distinct (records_of scenario story s) (once_at s)) (locals_once ss d.1)
      (λ t i j. (let r = place_of ss t j in d.0 (subst (λ z. In z ss) (one_place r.0 s t r.2 (local_here s t i)) r.1)))

  -- a Commit record is of a global transaction
  committed_global : (t : Tid) → In t (tids_in kept) → (steps : List Step) × (global_program scenario t.tx ≡ Some steps)
  committed_global t i =
      let e = has_one kept t i in
      begun_global scenario t commands ((coord-sound scenario nowhere t commands).marked (commit_mark t kept (commit_among t kept e))).0

  abbrev all : List Tid
  all = locals_at (sites scenario) ++ tids_in kept

  -- no transaction is both
  not_both : (t : Tid) (s : SiteId) (steps : List Step) → IsHere s t → global_program scenario t.tx ≡ Some steps → ⊥
  not_both t s steps here e =
      let roams = (global_program-is scenario t.tx steps e).1 in
      let none : local_home scenario t.tx ≡ None = ap (home_at scenario) roams in
      let some = here.of_home in
      (let clash = sym none ∙ some in cc)

  all_once : Distinct (locals_at (sites scenario) ++ tids_in kept)
  all_once =
      distinct_joined (locals_at (sites scenario)) (tids_in kept) (locals_once (sites scenario) (sites_distinct scenario.sites whole.sites.differ)) (commits-once scenario commands)
      (λ t i j. (let r = place_of (sites scenario) t i in let (steps, e) = committed_global t j in not_both t r.0 steps r.2 e))

  ordered : (t : Tid) → In t (locals_at (sites scenario) ++ tids_in kept) → In t (printed_order scenario story)
  ordered t i = elim (among_split (λ z. z ≡ t) (locals_at (sites scenario)) (tids_in kept) i) [
    | inl j ↦ (let (s, k, here) = place_of (sites scenario) t j in headline.holds_committed.locals s t here.local.number here.local.writes here.local.kept)
    | inr j ↦ headline.holds_committed.globals t (has_one kept t j)
  ]

  numbers_once : Distinct (map (λ (t : Tid). t.tx.0) (locals_at (sites scenario) ++ tids_in kept))
  numbers_once =
      distinct_map (λ (t : Tid). t.tx.0) (locals_at (sites scenario) ++ tids_in kept) all_once
      (λ a b i j e. headline.names_once.transactions a b (ordered a i) (ordered b j) (ap (λ n. record { 0 = n }) e))

  -- each is of a transaction of the scenario
  of_scenario : (t : Tid) → In t (locals_at (sites scenario) ++ tids_in kept) → In t.tx.0 (map (λ (l : TxLine). l.tx.0) scenario.transactions)
  of_scenario t i = elim (among_split (λ z. z ≡ t) (locals_at (sites scenario)) (tids_in kept) i) [
    | inl j ↦ (let (s, k, here) = place_of (sites scenario) t j in homed here.home here.of_home)
    | inr j ↦ (let (steps, e) = committed_global t j in roaming steps e)
  ]
    where
      homed : (home : Home) → local_home scenario t.tx ≡ Some home → In t.tx.0 (map (λ (l : TxLine). l.tx.0) scenario.transactions)
      homed home e = by_line (transaction scenario t.tx) refl e
        where
          by_line : (o : Option TxLine) → transaction scenario t.tx ≡ o → home_at scenario (home_of_line o) ≡ Some home → In t.tx.0 (map (λ (l : TxLine). l.tx.0) scenario.transactions)
          by_line None f e = absurd cc
          by_line (Some line) f e = line_there scenario t.tx line f

      roaming : (steps : List Step) → global_program scenario t.tx ≡ Some steps → In t.tx.0 (map (λ (l : TxLine). l.tx.0) scenario.transactions)
      roaming steps e = by_line (transaction scenario t.tx) refl e
        where
          by_line : (o : Option TxLine) → transaction scenario t.tx ≡ o → map_some (λ (line : TxLine). line.program) (global_line o) ≡ Some steps → In t.tx.0 (map (λ (l : TxLine). l.tx.0) scenario.transactions)
          by_line None f e = absurd cc
          by_line (Some line) f e = line_there scenario t.tx line f

  -- each transaction has one
  in_all : (ss : List SiteId) (s : SiteId) (t : Tid) → In s ss → In t (locals_in (records_of scenario story s)) → In t (locals_at ss)
  unfolding locals_at
  in_all [] s t i j = absurd i
  in_all (z ∷ ss) s t (inl e) j = among_append (λ u. u ≡ t) (locals_in (records_of scenario story z)) (locals_at ss) (subst (λ y. In t (locals_in (records_of scenario story y))) (sym e) j)
  in_all (z ∷ ss) s t (inr i) j = among_behind (λ u. u ≡ t) (locals_in (records_of scenario story z)) (locals_at ss) (in_all ss s t i j)

  has_one_of : (tx : Tx) → is_done scenario story tx ≡ true → (t : Tid) × In t (locals_at (sites scenario) ++ tids_in kept) × (same_tx t.tx tx ≡ true)
  has_one_of tx done = by_home (local_home scenario tx) refl done
    where
      by_home : (o : Option Home) → local_home scenario tx ≡ o → is_done_at o story tx ≡ true → (t : Tid) × In t (locals_at (sites scenario) ++ tids_in kept) × (same_tx t.tx tx ≡ true)
      by_home None e d = (let (t, i, same) = commit_found tx kept d in (t, among_behind (λ u. u ≡ t) (locals_at (sites scenario)) (tids_in kept) i, same))
      by_home (Some home) e d =
          let declared = local_home-declared scenario tx home e in
          let (t, i, same) = local_found tx (records home (past_of home.site story)) d in (
            t,
            among_append (λ u. u ≡ t) (locals_at (sites scenario)) (tids_in kept) (in_all (sites scenario) home.site t (declared-in scenario home.site home declared) (subst (λ o. In t (locals_in (records_at o story))) (sym declared) i)),
            same,
          )

  lengths : (ss : List SiteId) → sum_by (λ site. count_by is_local_commit (records_of scenario story site)) ss ≡ length (locals_at ss)
  unfolding locals_at
  lengths [] = refl
  lengths (s ∷ ss) =
      sum_by-cons (λ site. count_by is_local_commit (records_of scenario story site)) s ss
      ∙ (ap₂ (λ a b. a + b) (locals_counted (records_of scenario story s)) (lengths ss) ∙ sym (length-append (locals_in (records_of scenario story s)) (locals_at ss)))

  counted : AreDone scenario (story_of scenario commands) → kept_commits scenario (story_of scenario commands) ≡ length scenario.transactions
  counted done =
      let total : kept_commits scenario story ≡ length (locals_at (sites scenario) ++ tids_in kept) =
      ap₂ (λ a b. a + b) (lengths (sites scenario)) (commits_counted kept) ∙ sym (length-append (locals_at (sites scenario)) (tids_in kept)) in
      let numbers = map (λ (t : Tid). t.tx.0) (locals_at (sites scenario) ++ tids_in kept) in
      let theirs = map (λ (l : TxLine). l.tx.0) scenario.transactions in
      let less = distinct_in_others numbers theirs numbers_once
      (λ n i. (let (t, j, e) = image_in (λ (t : Tid). t.tx.0) n (locals_at (sites scenario) ++ tids_in kept) i in subst (λ m. In m theirs) e (of_scenario t j))) in
      let more = distinct_in_others theirs numbers (numbers_differ one_transaction (λ (l : TxLine). l.tx.0) (λ a b e. alike a.tx.0 b.tx.0 e) scenario.transactions whole.transactions.differ)
      (λ n i. (let (line, j, e) = image_in (λ (l : TxLine). l.tx.0) n scenario.transactions i in
      let (t, k, same) = has_one_of line.tx (done line j) in
      subst (λ m. In m numbers) (eqb-true t.tx.0 line.tx.0 same ∙ e) (in_map (λ (t : Tid). t.tx.0) t (locals_at (sites scenario) ++ tids_in kept) k))) in
      joined (kept_commits scenario story) (length (locals_at (sites scenario) ++ tids_in kept)) (length numbers) (length theirs) (length scenario.transactions) total
      (length-map (λ (t : Tid). t.tx.0) (locals_at (sites scenario) ++ tids_in kept)) (length-map (λ (l : TxLine). l.tx.0) scenario.transactions) less more
    where
      alike : (m n : ℕ) → m ≡ n → (m == n) ≡ true
      alike m n e = grind arith

      joined : (k x n t l : ℕ) → k ≡ x → n ≡ x → t ≡ l → n ≤ t → t ≤ n → k ≡ l
      joined k x n t l a b c d e = omega (arith, a, b, c, d, e)

pub commits_counted_once : OfStories Headline → OfSites IsSerialPast → CommitsAreCounted
commits_counted_once law serial scenario whole commands done = counted scenario whole commands (law scenario whole commands) serial done
