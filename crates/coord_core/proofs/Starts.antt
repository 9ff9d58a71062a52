-- The tables of a coordinator that starts: they are those of its past, with the line of the start.
use Rattle.std.proofs.Common.{◌≡◌, suc, ◌^◌, ◌≤◌, Bool, true, false, cond, not, ◌&&◌, ◌||◌, is_some, Option, Some, None, List, [], ◌∷◌, length, map, reverse, inl, inr, refl, sym, ap, ap₂, subst, ◌∙◌, arith}
use Rattle.std.specs.List.{AllByRecursion}
use Rattle.std.proofs.lemmas.Bool.{cond-true, cond-false, eqb-true}
use Rattle.mdb_base.specs.declared.names.SiteTicket.{SiteTicket}
use Rattle.mdb_base.specs.declared.names.Tid.{Tid}
use Rattle.mdb_base.specs.declared.names.Tx.{Tx}
use Rattle.mdb_base.specs.Names.{same_tid, same_tx}
use Rattle.mdb_base.specs.Words.{Among, Each, first_where, how_many, map_some, or_else, those}
use Rattle.mdb_base.proofs.ForCallers.{each_filtered, same_tid-equal, same_tid-refl, same_tx-from}
use Rattle.order_laws.specs.Chains.{Distinct, In}
use Rattle.order_laws.specs.Tickets.{HasNoCycle, IsEdge, OneEach, Ticketed}
use Rattle.order_laws.proofs.ForCallers.{distinct_those, first_where_none, first_where_some, in_reverse, in_those, those_in}
use Rattle.presumptions.specs.declared.Decision.{Decision}
use Rattle.presumptions.specs.declared.Decision.TheVariants as Decided
use Rattle.presumptions.specs.declared.Participant.{Participant}
use Rattle.field_bytes.specs.Fields.{IsTid}
use Rattle.fed_rules.specs.declared.records.CoordRecord.{CoordRecord}
use Rattle.fed_rules.specs.declared.records.CoordRecord.TheVariants as Rec
use Rattle.fed_rules.specs.declared.sums.CommittedAttempt.{CommittedAttempt}
use Rattle.fed_rules.specs.declared.sums.CoordSum.{CoordSum}
use Rattle.fed_rules.specs.declared.sums.OpenAttempt.{OpenAttempt}
use Rattle.fed_rules.specs.Attempts.{with_attempt}
use Rattle.fed_rules.specs.CoordPast.{CoordHappening, CoordPast, Standing, begun_tids, is_open, records, standing, standing_of}
use Rattle.fed_rules.specs.CoordRecords.{acking, committed_of, commits, has_commit, has_end, is_kept, is_nobody, named, outcome, recorded, required_of, ticketed}
use Rattle.fed_rules.specs.CoordSums.{coord_sum}
use Rattle.fed_rules.specs.Happenings.{comes_up, stops}
use Rattle.coord_journal.specs.Spelling.{IsRecord}
use Rattle.coord_laws.proofs.ForCallers.{commits_close_none, going_journals_say_all, going_tells, recorded_begun}
use Rattle.coord_laws.specs.CoordRestarts.{TellsRecords, outcome_of}
use Rattle.global_exec.specs.Live.{Live, live_of}
use Rattle.protocol_table.specs.declared.known.Known.{Known}
use Rattle.protocol_table.specs.declared.known.Restored.{Restored}
use Rattle.protocol_table.specs.Agreement.{IsDecidedAs, IsKnownAs}
use Rattle.protocol_table.specs.Attempts.{AreApart, decision_of, known_of, restored}
use Rattle.protocol_table.proofs.ForCallers.{restarts_go}
use Rattle.ticket_graph.specs.Graph.{Graph, StandsFor}
use Rattle.ticket_graph.proofs.ForCallers.{in_tids, tid_in}
use Rattle.fed_rules.proofs.ForCallers.{in_with, none_committed, some_committed}
use Rattle.coord_tables.specs.declared.stages.Stage.{Stage}
use Rattle.coord_tables.specs.declared.tables.Tables.{Tables}
use Rattle.coord_tables.specs.Attempts.{IsLiveAs, last_of}
use Rattle.coord_tables.specs.Stages.{AreStagesOf}
use Rattle.coord_tables.specs.Starting.{BeginWith, is_awaited, is_committed, kept_by, restored_by, ticketed_by}
use Rattle.coord_tables.specs.Tables.{IsServing}
use Rattle.coord_tables.specs.Terms.{Terms, IsSound}
use Rattle.coord_core.proofs.EachOnce.{apart_distinct, apart_from, few, how_many_those, map_rises, no_longer, rises_distinct, to_reverse}
use Rattle.coord_core.proofs.KnownAgain.{known_by, known_is}
use Rattle.coord_core.proofs.SumRanges.{Rises, committed_rises, open_rises, open_tids_in_range, those_rises}

module _ (terms : Terms) (past : CoordPast) (sound : IsSound terms past) (written : AllByRecursion IsRecord (records past)) where
  abbrev the_sum : CoordSum
  the_sum = coord_sum terms.protocols (records past)

  tells : TellsRecords terms.protocols the_sum (records past)
  tells =
      subst (λ (sum : CoordSum). TellsRecords terms.protocols sum (records past)) (going_journals_say_all terms.protocols terms.policy past sound.made)
      (going_tells terms.protocols terms.policy past sound.made)

  open_up : Rises (λ (attempt : OpenAttempt). attempt.tid) the_sum.open_attempts
  open_up = open_rises terms past sound written

  committed_up : Rises (λ (attempt : CommittedAttempt). attempt.tid) the_sum.committed
  committed_up = committed_rises terms past sound written

  -- the attempts that are kept rise
  kept_tids : (xs : List OpenAttempt) → map (λ (kept : Restored). kept.tid) (map (restored_by the_sum.committed) xs) ≡ map (λ (attempt : OpenAttempt). attempt.tid) xs
  kept_tids [] = refl
  kept_tids (x ∷ xs) = ap (λ (ts : List Tid). x.tid ∷ ts) (kept_tids xs)

  kept_up : Rises (λ t. t) (map (λ (kept : Restored). kept.tid) (kept_by the_sum))
  kept_up =
      subst (Rises (λ t. t)) (sym (kept_tids (those (is_awaited the_sum.committed) the_sum.open_attempts)))
      (map_rises (λ (attempt : OpenAttempt). attempt.tid) (those (is_awaited the_sum.committed) the_sum.open_attempts)
      (those_rises (λ (attempt : OpenAttempt). attempt.tid) (is_awaited the_sum.committed) the_sum.open_attempts open_up))

  pub kept_apart : AreApart (map (λ (kept : Restored). kept.tid) (kept_by the_sum))
  kept_apart = apart_distinct (map (λ (kept : Restored). kept.tid) (kept_by the_sum)) kept_up

  -- ---- the committed attempts

  ticketed_tids : (xs : List CommittedAttempt) → map (λ (a : Ticketed). a.tid) (map ticketed_by xs) ≡ map (λ (attempt : CommittedAttempt). attempt.tid) xs
  ticketed_tids [] = refl
  ticketed_tids (x ∷ xs) = ap (λ (ts : List Tid). x.tid ∷ ts) (ticketed_tids xs)

  pub commits_apart : OneEach (map ticketed_by the_sum.committed)
  commits_apart =
      subst (λ (ts : List Tid). Distinct ts) (sym (ticketed_tids the_sum.committed))
      (rises_distinct (map (λ (attempt : CommittedAttempt). attempt.tid) the_sum.committed) (map_rises (λ (attempt : CommittedAttempt). attempt.tid) the_sum.committed committed_up))

  -- they are the attempts with a Commit, and their tickets
  to_commits : (a : Ticketed) → In a (map ticketed_by the_sum.committed) → In a (commits (records past))
  to_commits a i =
      exact (commits (records past)) ((tells.tickets a.tid a.tickets).0 (parts the_sum.committed i))
    where
      parts : (xs : List CommittedAttempt) → In a (map ticketed_by xs) → Among (λ attempt. (attempt.tid ≡ a.tid) × (attempt.tickets ≡ a.tickets)) xs
      parts [] j = absurd j
      parts (x ∷ xs) (inl e) = inl (ap (λ (t : Ticketed). t.tid) e, ap (λ (t : Ticketed). t.tickets) e)
      parts (x ∷ xs) (inr j) = inr (parts xs j)

      exact : (xs : List Ticketed) → Among (λ commit. (commit.tid ≡ a.tid) × (commit.tickets ≡ a.tickets)) xs → In a xs
      exact [] j = absurd j
      exact (x ∷ xs) (inl (e, f)) = inl (ap₂ (λ (t : Tid) (ks : List SiteTicket). let n : Ticketed = record { tid = t; tickets = ks } in n) e f)
      exact (x ∷ xs) (inr j) = inr (exact xs j)

  from_commits : (a : Ticketed) → In a (commits (records past)) → In a (map ticketed_by the_sum.committed)
  from_commits a i =
      exact the_sum.committed ((tells.tickets a.tid a.tickets).1 (parts (commits (records past)) i))
    where
      parts : (xs : List Ticketed) → In a xs → Among (λ commit. (commit.tid ≡ a.tid) × (commit.tickets ≡ a.tickets)) xs
      parts [] j = absurd j
      parts (x ∷ xs) (inl e) = inl (ap (λ (t : Ticketed). t.tid) e, ap (λ (t : Ticketed). t.tickets) e)
      parts (x ∷ xs) (inr j) = inr (parts xs j)

      exact : (xs : List CommittedAttempt) → Among (λ attempt. (attempt.tid ≡ a.tid) × (attempt.tickets ≡ a.tickets)) xs → In a (map ticketed_by xs)
      exact [] j = absurd j
      exact (x ∷ xs) (inl (e, f)) = inl (ap₂ (λ (t : Tid) (ks : List SiteTicket). let n : Ticketed = record { tid = t; tickets = ks } in n) e f)
      exact (x ∷ xs) (inr j) = inr (exact xs j)

  -- an attempt that isn't among the ones isn't among the others
  pub fresh_apart : (tid : Tid) (tickets : List SiteTicket) → OneEach (record { tid = tid; tickets = tickets } ∷ commits (records past)) → OneEach (record { tid = tid; tickets = tickets } ∷ map ticketed_by the_sum.committed)
  fresh_apart tid tickets fresh = (
    (λ i.
        let (a, j, is) = tid_in (map ticketed_by the_sum.committed) tid i in
        fresh.0 (subst (λ (t : Tid). In t (map (λ (b : Ticketed). b.tid) (commits (records past)))) is (in_tids (commits (records past)) a (to_commits a j)))),
    commits_apart,
  )

  edges_among : (es : List _) → Each (IsEdge (map ticketed_by the_sum.committed)) es → Each (IsEdge (commits (records past))) es
  edges_among [] h = tt
  edges_among (e ∷ es) h = (
    record {
      from = h.0.from;
      to = h.0.to;
      has_from = to_commits h.0.from h.0.has_from;
      has_to = to_commits h.0.to h.0.has_to;
      leaves = h.0.leaves;
      enters = h.0.enters;
      precedes = h.0.precedes;
    },
    edges_among es h.1,
  )

  pub commits_free : HasNoCycle (map ticketed_by the_sum.committed)
  commits_free t es cycle = commits_close_none terms.protocols terms.policy past sound.made t es (record { some = cycle.some; edges = edges_among es cycle.edges; round = cycle.round })

  pub graph_stands : (graph : Graph) → StandsFor (map ticketed_by the_sum.committed) graph → StandsFor (commits (records past)) graph
  graph_stands graph s = record {
    kept = λ a i. to_commits a (s.kept a i);
    closed = λ a b site i j apart p. s.closed a b site i (from_commits b j) apart p;
    below = λ b j apart. s.below b (from_commits b j) apart;
  }

  -- whether an attempt is among them
  committed_is : (tid : Tid) → is_committed the_sum.committed tid ≡ has_commit (records past) tid
  committed_is tid = one (is_committed the_sum.committed tid) (has_commit (records past) tid) (tells.outcomes tid) where
    one : (b c : Bool) → cond b Decided.Commit Decided.Abort ≡ cond c Decided.Commit Decided.Abort → b ≡ c
    one true true e = refl
    one true false e = cc
    one false true e = cc
    one false false e = refl

  in_committed : (tid : Tid) → has_commit (records past) tid ≡ true → In tid (map (λ (attempt : CommittedAttempt). attempt.tid) the_sum.committed)
  in_committed tid h = from the_sum.committed (committed_is tid ∙ h) where
    from : (xs : List CommittedAttempt) → is_committed xs tid ≡ true → In tid (map (λ (attempt : CommittedAttempt). attempt.tid) xs)
    from [] e = cc
    from (x ∷ xs) e = by_test (same_tid x.tid tid) refl e (from xs) where
      by_test : (b : Bool) → same_tid x.tid tid ≡ b → (b || is_committed xs tid) ≡ true → (is_committed xs tid ≡ true → In tid (map (λ (attempt : CommittedAttempt). attempt.tid) xs))
          → In tid (map (λ (attempt : CommittedAttempt). attempt.tid) (x ∷ xs))
      by_test true q f rest = inl (same_tid-equal x.tid tid q)
      by_test false q f rest = inr (rest f)

  committed_in : (tid : Tid) → In tid (map (λ (attempt : CommittedAttempt). attempt.tid) the_sum.committed) → has_commit (records past) tid ≡ true
  committed_in tid i = sym (committed_is tid) ∙ from the_sum.committed i where
    from : (xs : List CommittedAttempt) → In tid (map (λ (attempt : CommittedAttempt). attempt.tid) xs) → is_committed xs tid ≡ true
    from [] j = absurd j
    from (x ∷ xs) (inl e) = ap (λ b. b || is_committed xs tid) (subst (λ (t : Tid). same_tid x.tid t ≡ true) e (same_tid-refl x.tid))
    from (x ∷ xs) (inr j) = by_test (same_tid x.tid tid) (from xs j) where
      by_test : (b : Bool) → is_committed xs tid ≡ true → (b || is_committed xs tid) ≡ true
      by_test true h = refl
      by_test false h = h

  last_committed : (tx : Tx) → last_of tx (map (λ (attempt : CommittedAttempt). attempt.tid) the_sum.committed) ≡ committed_of (records past) tx
  last_committed tx = by_both (last_of tx tids) refl (committed_of (records past) tx) refl where
    tids : List Tid
    tids = map (λ (attempt : CommittedAttempt). attempt.tid) the_sum.committed

    of_tx : (t : Tid) → same_tx t.tx tx ≡ true → t.tx ≡ tx
    of_tx t e = ap (λ n. let u : Tx = record { 0 = n } in u) (eqb-true t.tx.0 tx.0 e)

    by_both : (o : Option Tid) → last_of tx tids ≡ o → (p : Option Tid) → committed_of (records past) tx ≡ p → last_of tx tids ≡ committed_of (records past) tx
    by_both None e None f = e ∙ sym f
    by_both (Some t) e None f =
        let found = first_where_some (λ (u : Tid). same_tx u.tx tx) (reverse tids) t e in
        absurd (none_committed (records past) tx t f (of_tx t found.1) (committed_in t (in_reverse tids t found.0)))
    by_both None e (Some u) f =
        let c = some_committed (records past) tx u f in
        let none = first_where_none (λ (v : Tid). same_tx v.tx tx) (reverse tids) u e (to_reverse tids u (in_committed u c.0)) in
        let own = same_tx-from u.tx tx c.1 in
        cc
    by_both (Some t) e (Some u) f =
        let found = first_where_some (λ (v : Tid). same_tx v.tx tx) (reverse tids) t e in
        let c = some_committed (records past) tx u f in
        let same : t ≡ u = sound.alone t u (of_tx t found.1 ∙ sym c.1) (inr (committed_in t (in_reverse tids t found.0))) (inr c.0) in
        e ∙ ap (λ (v : Tid). Some v) same ∙ sym f

  -- ---- the known ones

  abbrev open_entry : Tid → Option OpenAttempt
  open_entry tid = first_where (λ (attempt : OpenAttempt). same_tid attempt.tid tid) the_sum.open_attempts

  -- an open attempt is known where an acknowledgement of it is required
  awaited_is : (tid : Tid) (attempt : OpenAttempt) → open_entry tid ≡ Some attempt → (attempt.tid ≡ tid) × (is_awaited the_sum.committed attempt ≡ is_kept terms.protocols (records past) tid)
  awaited_is tid attempt e =
      let found = first_where_some (λ (a : OpenAttempt). same_tid a.tid tid) the_sum.open_attempts attempt e in
      let own = same_tid-equal attempt.tid tid found.1 in (
        own,
        ap (λ (t : Tid). not (is_nobody (acking (decision_of (is_committed the_sum.committed t)) attempt.participants))) own
            ∙ ap (λ (o : Option (List Participant)). not (is_nobody (required_of (outcome_of the_sum tid) o))) (sym (ap (map_some (λ (a : OpenAttempt). a.participants)) e))
            ∙ tells.kept tid,
      )

  none_kept : (tid : Tid) → open_entry tid ≡ None → is_kept terms.protocols (records past) tid ≡ false
  none_kept tid e = sym (tells.kept tid) ∙ ap (λ (o : Option (List Participant)). not (is_nobody (required_of (outcome_of the_sum tid) o))) (ap (map_some (λ (a : OpenAttempt). a.participants)) e)

  module _ (x : CoordHappening) (anew : (stops x.answer || comes_up x.answer) ≡ true) (same : records (x ∷ past) ≡ records past) where
    -- whether an attempt is known, and its decision
    stands_by : (b : Bool) (tid : Tid) → is_kept terms.protocols (records past) tid ≡ b → standing terms.protocols (x ∷ past) tid ≡ standing_of false (cond b (Some (outcome (records past) tid)) None)
    stands_by b tid e =
        ap₂ (λ o d. standing_of o d) (cond-true _ _ _ anew)
        (cond-true _ _ _ anew ∙ ap (λ (rs : List CoordRecord). cond (is_kept terms.protocols rs tid) (Some (outcome rs tid)) None) same ∙ ap (λ c. cond c (Some (outcome (records past) tid)) None) e)

    known_starts : (tid : Tid) → IsKnownAs terms.protocols (x ∷ past) tid (standing terms.protocols (x ∷ past) tid) (known_of tid (map restored (kept_by the_sum)))
    known_starts tid =
        subst (λ (o : Option Known). IsKnownAs terms.protocols (x ∷ past) tid (standing terms.protocols (x ∷ past) tid) o) (sym (known_is the_sum.committed tid the_sum.open_attempts open_up))
        (by_entry (open_entry tid) refl)
      where
        by_entry : (o : Option OpenAttempt) → open_entry tid ≡ o → IsKnownAs terms.protocols (x ∷ past) tid (standing terms.protocols (x ∷ past) tid) (known_by the_sum.committed (open_entry tid))
        by_entry None e =
            subst (λ (o : Option OpenAttempt). IsKnownAs terms.protocols (x ∷ past) tid (standing terms.protocols (x ∷ past) tid) (known_by the_sum.committed o)) (sym e)
            (subst (λ (s : Standing). IsKnownAs terms.protocols (x ∷ past) tid s None) (sym (stands_by false tid (none_kept tid e))) tt)
        by_entry (Some attempt) e =
            subst (λ (o : Option OpenAttempt). IsKnownAs terms.protocols (x ∷ past) tid (standing terms.protocols (x ∷ past) tid) (known_by the_sum.committed o)) (sym e)
            (by_kept (is_awaited the_sum.committed attempt) refl)
          where
            is : (attempt.tid ≡ tid) × (is_awaited the_sum.committed attempt ≡ is_kept terms.protocols (records past) tid)
            is = awaited_is tid attempt e

            decided : is_kept terms.protocols (records past) tid ≡ true → IsDecidedAs terms.protocols (x ∷ past) tid (outcome (records past) tid) (restored (restored_by the_sum.committed attempt))
            decided kept =
                let entry : Restored = restored_by the_sum.committed attempt in
                let names : named terms.protocols (records (x ∷ past)) attempt.tid ≡ Some attempt.participants =
                ap₂ (λ (rs : List CoordRecord) (t : Tid). named terms.protocols rs t) same is.0 ∙ sym (tells.participants tid kept) ∙ ap (map_some (λ (a : OpenAttempt). a.participants)) e in
                let there = restarts_go terms.protocols past x entry anew names in
                let D : Tid → Decision → Type 0 = λ t d. IsDecidedAs terms.protocols (x ∷ past) t d (restored entry) in
                subst (λ (t : Tid). D t (outcome (records past) tid)) is.0
                (subst (λ (d : Decision). D attempt.tid d) (ap (λ (t : Tid). decision_of (is_committed the_sum.committed t)) is.0 ∙ tells.outcomes tid) there)

            by_kept : (b : Bool) → is_awaited the_sum.committed attempt ≡ b
                → IsKnownAs terms.protocols (x ∷ past) tid (standing terms.protocols (x ∷ past) tid) (cond (is_awaited the_sum.committed attempt) (Some (restored (restored_by the_sum.committed attempt))) None)
            by_kept true w =
                let kept = sym is.1 ∙ w in
                subst (λ c. IsKnownAs terms.protocols (x ∷ past) tid (standing terms.protocols (x ∷ past) tid) (cond c (Some (restored (restored_by the_sum.committed attempt))) None)) (sym w)
                (subst (λ (s : Standing). IsKnownAs terms.protocols (x ∷ past) tid s (Some (restored (restored_by the_sum.committed attempt)))) (sym (stands_by true tid kept)) (decided kept))
            by_kept false w =
                subst (λ c. IsKnownAs terms.protocols (x ∷ past) tid (standing terms.protocols (x ∷ past) tid) (cond c (Some (restored (restored_by the_sum.committed attempt))) None)) (sym w)
                (subst (λ (s : Standing). IsKnownAs terms.protocols (x ∷ past) tid s None) (sym (stands_by false tid (sym is.1 ∙ w))) tt)

    -- none is undecided
    none_open : (tid : Tid) → is_open (x ∷ past) tid ≡ false
    none_open tid = cond-true _ _ _ anew

    nothing_open : (tids : List Tid) → those (is_open (x ∷ past)) tids ≡ []
    nothing_open [] = refl
    nothing_open (t ∷ ts) = cond-false _ _ _ (none_open t) ∙ nothing_open ts

    pub begin_serving : (tables : Tables) → BeginWith the_sum tables → IsServing tables terms (x ∷ past)
    begin_serving tables b = record {
      known = λ tid. subst (λ (ks : List Known). IsKnownAs terms.protocols (x ∷ past) tid (standing terms.protocols (x ∷ past) tid) (known_of tid ks)) (sym b.known) (known_starts tid);
      live = λ tid.
          subst (λ u. IsLiveAs terms.protocols (x ∷ past) tid u (live_of tid tables.exec)) (sym (none_open tid))
          (subst (λ (ls : List Live). IsLiveAs terms.protocols (x ∷ past) tid false (live_of tid ls)) (sym b.exec) tt);
      stages =
          subst (λ (ss : List Stage). AreStagesOf terms.protocols (x ∷ past) ss) (sym b.stages)
          (record { order = ap reverse (sym (nothing_open (begun_tids (x ∷ past)))); each = tt });
      committed = λ tx. b.committed tx ∙ last_committed tx ∙ ap (λ (rs : List CoordRecord). committed_of rs tx) (sym same);
      graph = subst (λ (rs : List CoordRecord). StandsFor (commits rs) tables.graph) (sym same) (graph_stands tables.graph b.graph);
      pruned = λ a i. absurd (subst (λ (ts : List Ticketed). In a ts) b.bare i);
    }

  -- ---- how many are known

  -- who is named has a record
  named_recorded : (rs : List CoordRecord) (tid : Tid) → is_some (named terms.protocols rs tid) ≡ true → In tid (recorded rs)
  named_recorded [] tid e = cc
  named_recorded (Rec.Initiation t members ∷ rs) tid e = by_test (same_tid t tid) refl e (named_recorded rs tid) where
    by_test : (b : Bool) → same_tid t tid ≡ b → is_some (cond b (Some members) (named terms.protocols rs tid)) ≡ true → (is_some (named terms.protocols rs tid) ≡ true → In tid (recorded rs)) → In tid (with_attempt t (recorded rs))
    by_test true q f rest = in_with t tid (recorded rs) (inl (same_tid-equal t tid q))
    by_test false q f rest = in_with t tid (recorded rs) (inr (rest f))
  named_recorded (Rec.Commit t tickets ∷ rs) tid e = by_test (same_tid t tid) refl e (named_recorded rs tid) where
    by_test : (b : Bool) → same_tid t tid ≡ b → is_some (cond b (Some (or_else (named terms.protocols rs tid) (ticketed terms.protocols tickets))) (named terms.protocols rs tid)) ≡ true → (is_some (named terms.protocols rs tid) ≡ true → In tid (recorded rs)) → In tid (with_attempt t (recorded rs))
    by_test true q f rest = in_with t tid (recorded rs) (inl (same_tid-equal t tid q))
    by_test false q f rest = in_with t tid (recorded rs) (inr (rest f))
  named_recorded (Rec.Abort t members ∷ rs) tid e = by_test (same_tid t tid) refl e (named_recorded rs tid) where
    by_test : (b : Bool) → same_tid t tid ≡ b → is_some (cond b (Some (or_else (named terms.protocols rs tid) members)) (named terms.protocols rs tid)) ≡ true → (is_some (named terms.protocols rs tid) ≡ true → In tid (recorded rs)) → In tid (with_attempt t (recorded rs))
    by_test true q f rest = in_with t tid (recorded rs) (inl (same_tid-equal t tid q))
    by_test false q f rest = in_with t tid (recorded rs) (inr (rest f))
  named_recorded (Rec.End t ∷ rs) tid e = in_with t tid (recorded rs) (inr (named_recorded rs tid e))
  named_recorded (Rec.Checkpoint sum ∷ rs) tid e = named_recorded rs tid e

  kept_recorded : (tid : Tid) → is_kept terms.protocols (records past) tid ≡ true → In tid (recorded (records past))
  kept_recorded tid k = named_recorded (records past) tid (by_named (named terms.protocols (records past) tid) (and_second (not (has_end (records past) tid)) _ k)) where
    and_second : (a b : Bool) → (a && b) ≡ true → b ≡ true
    and_second true b e = e
    and_second false b e = cc

    by_named : (o : Option (List Participant)) → not (is_nobody (required_of (outcome (records past) tid) o)) ≡ true → is_some o ≡ true
    by_named None e = cc
    by_named (Some ms) e = refl

  kept_listed : (tid : Tid) → is_kept terms.protocols (records past) tid ≡ true → In tid (map (λ (kept : Restored). kept.tid) (kept_by the_sum))
  kept_listed tid k = by_entry (open_entry tid) refl where
    there : (xs : List OpenAttempt) (attempt : OpenAttempt) → In attempt xs → attempt.tid ≡ tid → In tid (map (λ (kept : Restored). kept.tid) (map (restored_by the_sum.committed) xs))
    there [] attempt i own = absurd i
    there (x ∷ xs) attempt (inl e) own = inl (ap (λ (a : OpenAttempt). a.tid) e ∙ own)
    there (x ∷ xs) attempt (inr i) own = inr (there xs attempt i own)

    by_entry : (o : Option OpenAttempt) → open_entry tid ≡ o → In tid (map (λ (kept : Restored). kept.tid) (kept_by the_sum))
    by_entry None e = let none = none_kept tid e in cc
    by_entry (Some attempt) e =
        let is = awaited_is tid attempt e in
        let found = first_where_some (λ (a : OpenAttempt). same_tid a.tid tid) the_sum.open_attempts attempt e in
        there (those (is_awaited the_sum.committed) the_sum.open_attempts) attempt (in_those (is_awaited the_sum.committed) attempt the_sum.open_attempts found.0 (is.1 ∙ k)) is.0

  -- an entry of a list that rises is the one that is found
  own_entry : (xs : List OpenAttempt) (attempt : OpenAttempt) → Rises (λ (a : OpenAttempt). a.tid) xs → In attempt xs → first_where (λ (a : OpenAttempt). same_tid a.tid attempt.tid) xs ≡ Some attempt
  own_entry [] attempt r i = absurd i
  own_entry (x ∷ xs) attempt r (inl e) =
      cond-true _ _ _ (subst (λ (a : OpenAttempt). same_tid x.tid a.tid ≡ true) e (same_tid-refl x.tid)) ∙ ap (λ (a : OpenAttempt). Some a) e
  own_entry (x ∷ xs) attempt r (inr i) = cond-false _ _ _ (other xs attempt i (apart_from (λ (a : OpenAttempt). a.tid) x.tid xs r.0)) ∙ own_entry xs attempt r.1 i where
    other : (ys : List OpenAttempt) (a : OpenAttempt) → In a ys → Each (λ y. same_tid x.tid y.tid ≡ false) ys → same_tid x.tid a.tid ≡ false
    other [] a j h = absurd j
    other (y ∷ ys) a (inl f) h = subst (λ (b : OpenAttempt). same_tid x.tid b.tid ≡ false) f h.0
    other (y ∷ ys) a (inr j) h = other ys a j h.1

  listed_kept : (tid : Tid) → In tid (map (λ (kept : Restored). kept.tid) (kept_by the_sum)) → is_kept terms.protocols (records past) tid ≡ true
  listed_kept tid i = from (those (is_awaited the_sum.committed) the_sum.open_attempts) i (λ a j. those_in (is_awaited the_sum.committed) a the_sum.open_attempts j) where
    from : (xs : List OpenAttempt) → In tid (map (λ (kept : Restored). kept.tid) (map (restored_by the_sum.committed) xs)) → ((a : OpenAttempt) → In a xs → In a the_sum.open_attempts × (is_awaited the_sum.committed a ≡ true))
        → is_kept terms.protocols (records past) tid ≡ true
    from [] j all = absurd j
    from (x ∷ xs) (inl e) all =
        let h = all x (inl refl) in
        let is = awaited_is x.tid x (own_entry the_sum.open_attempts x open_up h.0) in
        subst (λ (t : Tid). is_kept terms.protocols (records past) t ≡ true) e (sym is.1 ∙ h.1)
    from (x ∷ xs) (inr j) all = from xs j (λ a k. all a (inr k))

  length_restored : (xs : List Restored) → length (map restored xs) ≡ length (map (λ (kept : Restored). kept.tid) xs)
  length_restored [] = refl
  length_restored (x ∷ xs) = ap suc (length_restored xs)

  pub known_count : length (map restored (kept_by the_sum)) ≡ how_many (is_kept terms.protocols (records past)) (recorded (records past))
  known_count =
      let kept = map (λ (r : Restored). r.tid) (kept_by the_sum) in
      let those_kept = those (is_kept terms.protocols (records past)) (recorded (records past)) in
      let there = no_longer kept those_kept (rises_distinct kept kept_up) (λ t i. let k = listed_kept t i in in_those (is_kept terms.protocols (records past)) t (recorded (records past)) (kept_recorded t k) k) in
      let back = no_longer those_kept kept (distinct_those (is_kept terms.protocols (records past)) (recorded (records past)) (recorded_begun terms.protocols terms.policy past sound.made).0)
      (λ t i. kept_listed t (those_in (is_kept terms.protocols (records past)) t (recorded (records past)) i).1) in
      let same : length kept ≡ length those_kept = omega (arith, there, back) in
      length_restored (kept_by the_sum) ∙ same ∙ sym (how_many_those (is_kept terms.protocols (records past)) (recorded (records past)))

  -- they are few
  pub known_few : length (map restored (kept_by the_sum)) ≤ 2 ^ 20
  known_few =
      let most = few (map (λ (r : Restored). r.tid) (kept_by the_sum)) kept_up in_range in
      let same = length_restored (kept_by the_sum) in
      omega (arith, most, same)
    where
      tids_of_kept : (xs : List OpenAttempt) → Each (λ (a : OpenAttempt). IsTid a.tid) xs → Each IsTid (map (λ (kept : Restored). kept.tid) (map (restored_by the_sum.committed) xs))
      tids_of_kept [] e = tt
      tids_of_kept (x ∷ xs) e = (e.0, tids_of_kept xs e.1)

      in_range : Each IsTid (map (λ (r : Restored). r.tid) (kept_by the_sum))
      in_range = tids_of_kept (those (is_awaited the_sum.committed) the_sum.open_attempts) (each_filtered (λ (a : OpenAttempt). IsTid a.tid) (is_awaited the_sum.committed) the_sum.open_attempts (open_tids_in_range terms past sound written))
