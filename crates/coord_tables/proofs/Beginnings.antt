-- What the tables stand for once an attempt has begun.
use Rattle.std.proofs.Common.{◌≡◌, ℕ, suc, ◌+◌, Bool, true, false, cond, not, ◌&&◌, ◌||◌, is_some, Option, Some, None, List, [], ◌∷◌, ◌++◌, inl, inr, map, refl, sym, ap, ap₂, subst, ◌∙◌, arith, add-one}
use Rattle.std.specs.Prelude.{reverse}
use Rattle.std.proofs.lemmas.Bool.{cond-true, cond-false}
use Rattle.mdb_base.specs.declared.acts.Step.{Step}
use Rattle.mdb_base.specs.declared.names.SiteId.{SiteId}
use Rattle.mdb_base.specs.declared.names.Tid.{Tid}
use Rattle.mdb_base.specs.declared.names.Tx.{Tx}
use Rattle.mdb_base.specs.Names.{same_site, same_tid, same_tx}
use Rattle.mdb_base.specs.Words.{Each, first_where, found, given, how_many, some_of, those}
use Rattle.mdb_base.proofs.ForCallers.{append_each, reverse_more, same_tid-equal, same_tid-refl, same_tid-sym, same_tx-equal}
use Rattle.order_laws.specs.Chains.{In}
use Rattle.order_laws.proofs.ForCallers.{each_from, in_reverse, those_in}
use Rattle.std.proofs.lemmas.List.{map_push}
use Rattle.presumptions.specs.declared.Decision.{Decision}
use Rattle.presumptions.specs.declared.Participant.{Participant}
use Rattle.fed_rules.specs.declared.answers.Answer.TheVariants as Say
use Rattle.fed_rules.specs.declared.events.CoordEvent.TheVariants as Ev
use Rattle.fed_rules.specs.declared.messages.Due.{Due}
use Rattle.fed_rules.specs.declared.messages.Sent.{Sent}
use Rattle.fed_rules.specs.Happenings.{quiet}
use Rattle.fed_rules.specs.Coord.{all_outstanding, answered, is_prepare, is_take, of_go, send_due}
use Rattle.fed_rules.specs.CoordRecords.{commits, committed_of, named}
use Rattle.fed_rules.specs.CoordPast.{CoordHappening, CoordPast, begins, Counted, Standing, Undecided, Gone, attempts_of, begun_tids, counted, is_known, is_open, is_ticket, is_wait, known_decision, last_epoch, oldest_first, or_steps, participants_of, program, records, standing, standing_of, undecided_of, value_in, vote_at}
use Rattle.coord_laws.proofs.ForCallers.{any_member, begin_in_order, begun_in, known_begun, past_sound, unbegun_unsent}
use Rattle.global_exec.specs.declared.policy.SiteSet.{SiteSet}
use Rattle.global_exec.specs.declared.progress.Progress.{Progress}
use Rattle.global_exec.specs.Agreement.{IsOfPast, progress_in}
use Rattle.global_exec.specs.Due.{fresh}
use Rattle.global_exec.specs.Firsts.{taken_out}
use Rattle.global_exec.specs.Live as live
use Rattle.global_exec.specs.Live.{Live, all_sites, live_of}
use Rattle.global_exec.specs.Pasts.{IsAmong}
use Rattle.protocol_table.specs.declared.known.Known.{Known}
use Rattle.protocol_table.specs.Agreement.{IsKnownAs, IsUndecidedAs}
use Rattle.protocol_table.specs.Attempts as table
use Rattle.protocol_table.specs.Attempts.{known_of}
use Rattle.protocol_table.proofs.ForCallers.{begins_go}
use Rattle.ticket_graph.specs.Graph.{AreHeld, StandsFor}
use Rattle.coord_tables.specs.declared.stages.Stage.{Stage}
use Rattle.coord_tables.specs.declared.tables.Tables.{Tables}
use Rattle.coord_tables.specs.Attempts.{IsLiveAs, open_tids}
use Rattle.coord_tables.specs.Trees.{committed_in}
use Rattle.coord_tables.specs.Stages.{AreStagesOf, IsStageOf, fresh_stage}
use Rattle.coord_tables.specs.Beginning.{CanGo}
use Rattle.coord_tables.specs.Tables.{IsServing}
use Rattle.coord_tables.specs.Terms.{Terms, IsSound, answer_of}
use Rattle.coord_tables.proofs.Lines.{IsAsBefore, elsewhere, sent_as, stage_stays}
use Rattle.coord_tables.proofs.Own.{serving_own}
use Rattle.coord_tables.proofs.Phases.{open_begun}
use Rattle.coord_tables.proofs.Sent.{prepares_other, prepares_own, takes_other, takes_own}
use Rattle.coord_tables.specs.Waiting.{waiting}
use Rattle.coord_tables.proofs.Waiting.{held_more, none_noted}
use Rattle.coord_tables.proofs.Visits.{HasVisited, at, fresh_those, sites_for, those_alike, visited_are, visited_sites}

-- ---- lists

-- one more item at the end
pub first_last : {A : Type 0} (test : A → Bool) (xs : List A) (y : A) → first_where test xs ≡ None → test y ≡ true → first_where test (xs ++ y ∷ []) ≡ Some y
first_last test [] y none is = cond-true _ _ _ is
first_last test (x ∷ xs) y none is = by_test (test x) none (first_last test xs y) where
  by_test : (b : Bool) → cond b (Some x) (first_where test xs) ≡ None → (first_where test xs ≡ None → test y ≡ true → first_where test (xs ++ y ∷ []) ≡ Some y)
      → cond b (Some x) (first_where test (xs ++ y ∷ [])) ≡ Some y
  by_test true e rest = cc
  by_test false e rest = rest e is

pub first_before : {A : Type 0} (test : A → Bool) (xs : List A) (y : A) → test y ≡ false → first_where test (xs ++ y ∷ []) ≡ first_where test xs
first_before test [] y out = cond-false _ _ _ out
first_before test (x ∷ xs) y out = ap (λ o. cond (test x) (Some x) o) (first_before test xs y out)

pub taken_last : {A : Type 0} (test : A → Bool) (xs : List A) (y : A) → first_where test xs ≡ None → test y ≡ true → taken_out test (xs ++ y ∷ []) ≡ xs
taken_last test [] y none is = cond-true _ _ _ is
taken_last test (x ∷ xs) y none is = by_test (test x) none (taken_last test xs y) where
  by_test : (b : Bool) → cond b (Some x) (first_where test xs) ≡ None → (first_where test xs ≡ None → test y ≡ true → taken_out test (xs ++ y ∷ []) ≡ xs)
      → cond b (xs ++ y ∷ []) (x ∷ taken_out test (xs ++ y ∷ [])) ≡ x ∷ xs
  by_test true e rest = cc
  by_test false e rest = ap (λ ys. x ∷ ys) (rest e is)

-- ---- the line

abbrev pub begun_line : Tid → List Step → List Sent → CoordHappening
begun_line tid steps sends = record { event = Ev.Go tid steps; answer = Say.Begun tid; sends = sends; calls = []; lines = [] }

abbrev progress_by : List Counted → Option ℕ → SiteId → Progress
progress_by replies vote site = record {
  site = site;
  epoch = last_epoch (those (λ r. same_site r.site site) replies);
  n = how_many (λ r. not (is_wait r.reply)) (those (λ r. same_site r.site site) replies);
  ticket = some_of (λ r. is_ticket r.reply) (those (λ r. same_site r.site site) replies);
  voted = is_some vote;
}

-- what the past says of an attempt that has just begun
module _ (past : CoordPast) (tid : Tid) (steps : List Step) (sends : List Sent) where
  counted_none : counted (begun_line tid steps sends ∷ past) tid ≡ []
  counted_none = cond-true _ _ _ (same_tid-refl tid)

  vote_none : (site : SiteId) → vote_at (begun_line tid steps sends ∷ past) tid site ≡ None
  vote_none site = cond-true _ _ _ (same_tid-refl tid)

  program_is : program (begun_line tid steps sends ∷ past) tid ≡ steps
  program_is = ap (λ b. cond b (or_steps (cond b (Some steps) None) []) (program past tid)) (same_tid-refl tid)

  progress_is : (ps : List Participant) → map fresh (map (λ (p : Participant). p.site) ps) ≡ map (progress_in (begun_line tid steps sends ∷ past) tid) ps
  progress_is [] = refl
  progress_is (p ∷ ps) = ap₂ (λ (y : Progress) ys. y ∷ ys) (ap₂ (λ cs v. progress_by cs v p.site) (sym counted_none) (sym (vote_none p.site))) (progress_is ps)

  pub begun_live : (terms : Terms) (set : SiteSet) → IsSound terms past → Each (λ step. IsAmong step.site terms.protocols) steps → HasVisited steps set
      → IsOfPast terms.protocols (begun_line tid steps sends ∷ past) tid (live.submitted tid steps)
  begun_live terms set sound h has = record {
    program = sym program_is;
    reads = sym (ap (λ cs. oldest_first (found value_in cs)) counted_none);
    done = sym (ap (λ cs. how_many (λ r. not (is_wait r.reply) && not (is_ticket r.reply)) cs) counted_none);
    sites = fresh_those steps all_sites ∙ ap (map fresh) (visited_are terms past steps set sound h has) ∙ progress_is (participants_of terms.protocols steps);
  }

gone_of : (o : Bool) (d : Option Decision) → (is_known (standing_of o d) ≡ true → ⊥) → standing_of o d ≡ Gone
gone_of true d h = absurd (h refl)
gone_of false (Some d) h = absurd (h refl)
gone_of false None h = refl

-- an attempt that may go wasn't begun
module _ (terms : Terms) (past : CoordPast) (tid : Tid) (steps : List Step) (sound : IsSound terms past) (can : CanGo tid steps terms past) where
  pub new_attempt : In tid (begun_tids past) → ⊥
  new_attempt i = let less = (begin_in_order terms.protocols terms.policy past sound.made tid).0 i in let next = can.next in omega (arith, less, next)

  closed : is_open past tid ≡ false
  closed = by_test (is_open past tid) refl where
    by_test : (b : Bool) → is_open past tid ≡ b → b ≡ false
    by_test true e = absurd (new_attempt (open_begun terms past tid sound e))
    by_test false e = refl

  unknown : standing terms.protocols past tid ≡ Gone
  unknown = gone_of (is_open past tid) (known_decision terms.protocols past tid) (λ k. new_attempt (known_begun terms.protocols terms.policy past sound.made tid k))

  pub none_known : (tables : Tables) → IsServing tables terms past → known_of tid tables.known ≡ None
  none_known tables s = by_known (known_of tid tables.known) (subst (λ (st : Standing). IsKnownAs terms.protocols past tid st (known_of tid tables.known)) unknown (s.known tid)) where
    by_known : (o : Option Known) → IsKnownAs terms.protocols past tid Gone o → o ≡ None
    by_known None k = refl
    by_known (Some known) k = absurd k

  pub none_live : (tables : Tables) → IsServing tables terms past → live_of tid tables.exec ≡ None
  none_live tables s = by_live (live_of tid tables.exec) (subst (λ u. IsLiveAs terms.protocols past tid u (live_of tid tables.exec)) closed (s.live tid)) where
    by_live : (o : Option Live) → IsLiveAs terms.protocols past tid false o → o ≡ None
    by_live None l = refl
    by_live (Some one) l = absurd l

  unnamed : named terms.protocols (records past) tid ≡ None
  unnamed = by_named (named terms.protocols (records past) tid) refl where
    by_named : (o : Option (List Participant)) → named terms.protocols (records past) tid ≡ o → o ≡ None
    by_named None e = refl
    by_named (Some ms) e = absurd (new_attempt (begun_in past tid ((past_sound terms.protocols terms.policy any_member tid past sound.made).names ms e).0))

  other_begun : (t : Tid) → In t (begun_tids past) → same_tid tid t ≡ false
  other_begun t i = by_test (same_tid tid t) refl where
    by_test : (b : Bool) → same_tid tid t ≡ b → b ≡ false
    by_test true e = absurd (new_attempt (subst (λ (u : Tid). In u (begun_tids past)) (sym (same_tid-equal tid t e)) i))
    by_test false e = refl

  module _ (dues : List Due) where
    abbrev x : CoordHappening
    x = begun_line tid steps (map (send_due tid) dues)

    others : (t : Tid) → same_tid tid t ≡ false → IsAsBefore terms.protocols past x t
    others t e = elsewhere terms.protocols past x t (record {
      goes = refl;
      about = e;
      begins = e;
      named = refl;
      takes = takes_other tid t dues e;
      prepares = prepares_other tid t dues e;
    })

    open_now : is_open (x ∷ past) tid ≡ true
    open_now = cond-true _ _ _ (same_tid-refl tid)

    undecided_now : standing terms.protocols (x ∷ past) tid ≡ Undecided
    undecided_now = ap (λ o. standing_of o (known_decision terms.protocols (x ∷ past) tid)) open_now

    known_as : (members : List Participant) → members ≡ participants_of terms.protocols steps → IsUndecidedAs terms.protocols (x ∷ past) tid (table.submitted tid members)
    known_as members is =
        subst (λ (ps : List Participant). IsUndecidedAs terms.protocols (x ∷ past) tid (table.submitted tid ps))
        (sym (is ∙ ap (participants_of terms.protocols) (sym (program_is past tid steps (map (send_due tid) dues)))))
        (begins_go terms.protocols past tid x (same_tid-refl tid) unnamed)

    opens : open_tids (x ∷ past) ≡ tid ∷ open_tids past
    opens =
        cond-true _ _ _ open_now
        ∙ ap (λ ts. tid ∷ ts) (those_alike (is_open (x ∷ past)) (is_open past) (begun_tids past) (each_from (λ t. is_open (x ∷ past) t ≡ is_open past t) (begun_tids past) (λ t i. (others t (other_begun t i)).undecided)))

    old_stages : (stages : List Stage) → ((t : Tid) → In t (map (λ (s : Stage). s.tid) stages) → same_tid tid t ≡ false) → Each (IsStageOf terms.protocols past) stages → Each (IsStageOf terms.protocols (x ∷ past)) stages
    old_stages [] apart h = tt
    old_stages (s ∷ ss) apart h =
        (stage_stays terms.protocols past x s (sent_as terms.protocols past x s.tid (others s.tid (apart s.tid (inl refl)))) h.0, old_stages ss (λ t i. apart t (inr i)) h.1)

    stages_begin : (stages : List Stage) (set : SiteSet) → some_of is_take dues ≡ false → some_of is_prepare dues ≡ false → HasVisited steps set → AreStagesOf terms.protocols past stages
        → AreStagesOf terms.protocols (x ∷ past) (stages ++ fresh_stage tid set ∷ [])
    stages_begin stages set no_take no_prepare has s =
        let unsent = unbegun_unsent terms.protocols terms.policy past sound.made tid new_attempt in
        record {
          order =
              map_push (λ (one : Stage). one.tid) stages (fresh_stage tid set)
              ∙ ap (λ (ts : List Tid). ts ++ tid ∷ []) s.order
              ∙ sym (reverse_more tid (open_tids past))
              ∙ ap reverse (sym opens);
          each = append_each (IsStageOf terms.protocols (x ∷ past)) stages (fresh_stage tid set ∷ [])
              (old_stages stages (λ t i. other_begun t (those_in (is_open past) t (begun_tids past) (in_reverse (open_tids past) t (subst (In t) s.order i))).0) s.each) (
                record {
                  sites = λ site least most.
                      visited_sites terms.protocols steps set can.sites has site least most
                      ∙ ap (λ (ps : List Step). at site (sites_for terms.protocols ps)) (sym (program_is past tid steps (map (send_due tid) dues)));
                  takes = sym (ap₂ (λ a b. a || b) (takes_own tid dues ∙ no_take) unsent.0);
                  prepares = sym (ap₂ (λ a b. a || b) (prepares_own tid dues ∙ no_prepare) unsent.1);
                  tickets = none_noted (x ∷ past) tid (counted_none past tid steps (map (send_due tid) dues));
                },
                tt,
              );
        }

    -- who is undecided stays so
    stay_open : (t : Tid) → is_open past t ≡ true → (is_open (x ∷ past) t ≡ true) × (begins t x.answer ≡ false)
    stay_open t u = let e = other_begun t (open_begun terms past t sound u) in ((others t e).undecided ∙ u, e)

    -- the tables follow
    pub begun_serving : (tables now : Tables) (set : SiteSet) (members : List Participant) → some_of is_take dues ≡ false → some_of is_prepare dues ≡ false → HasVisited steps set → members ≡ participants_of terms.protocols steps
        → now.known ≡ tables.known ++ table.submitted tid members ∷ [] → now.exec ≡ tables.exec ++ live.submitted tid steps ∷ []
        → now.stages.listed ≡ tables.stages.listed ++ fresh_stage tid set ∷ []
        → now.committed ≡ tables.committed → now.graph ≡ tables.graph → IsServing tables terms past → IsServing now terms (x ∷ past)
    begun_serving tables now set members no_take no_prepare has are known exec stages committed graph s =
        serving_own tables now terms past x tid (record {
          others = others;
          known_others = λ t e. ap (known_of t) known ∙ first_before (table.is_of t) tables.known (table.submitted tid members) (same_tid-sym t tid ∙ e);
          live_others = λ t e. ap (live_of t) exec ∙ first_before (live.is_of t) tables.exec (live.submitted tid steps) e;
          known_own = subst (λ (st : Standing). IsKnownAs terms.protocols (x ∷ past) tid st (known_of tid now.known)) (sym undecided_now)
              (subst (λ (o : Option Known). IsKnownAs terms.protocols (x ∷ past) tid Undecided o)
              (sym (ap (known_of tid) known ∙ first_last (table.is_of tid) tables.known (table.submitted tid members) (none_known tables s) (same_tid-refl tid))) (known_as members are));
          live_own = subst (λ u. IsLiveAs terms.protocols (x ∷ past) tid u (live_of tid now.exec)) (sym open_now)
              (subst (λ (o : Option Live). IsLiveAs terms.protocols (x ∷ past) tid true o)
              (sym (ap (live_of tid) exec ∙ first_last (live.is_of tid) tables.exec (live.submitted tid steps) (none_live tables s) (same_tid-refl tid)))
              (begun_live past tid steps (map (send_due tid) dues) terms set sound can.sites has));
          stages = subst (λ (ss : List Stage). AreStagesOf terms.protocols (x ∷ past) ss) (sym stages) (stages_begin tables.stages.listed set no_take no_prepare has s.stages);
          committed = λ tx. ap (λ cs. committed_in cs.listed tx) committed ∙ s.committed tx;
          graph = subst (λ g. StandsFor (commits (records past)) g) (sym graph) s.graph;
          pruned = held_more past x stay_open now.graph (subst (λ g. AreHeld (waiting past) g) (sym graph) s.pruned);
        }) s

-- ---- the step

pub go_begins : (terms : Terms) (past : CoordPast) (tid : Tid) (steps : List Step) → committed_of (records past) tid.tx ≡ None → undecided_of past tid.tx ≡ None
    → answer_of terms past (Ev.Go tid steps) ≡ begun_line tid steps (map (send_due tid) (all_outstanding terms.protocols (begun_line tid steps [] ∷ past) tid))
unfolding answered of_go given
go_begins terms past tid steps c u =
    ap₂ (λ (o p : Option Tid). given o (λ committed. quiet (Ev.Go tid steps) (Say.Committed committed)) (given p (λ running. quiet (Ev.Go tid steps) (Say.Running running)) (begun_line tid steps (map (send_due tid) (all_outstanding terms.protocols (begun_line tid steps [] ∷ past) tid))))) c u

pub go_committed : (terms : Terms) (past : CoordPast) (tid : Tid) (steps : List Step) (t : Tid) → committed_of (records past) tid.tx ≡ Some t → answer_of terms past (Ev.Go tid steps) ≡ quiet (Ev.Go tid steps) (Say.Committed t)
unfolding answered of_go given
go_committed terms past tid steps t c =
    ap (λ (o : Option Tid). given o (λ committed. quiet (Ev.Go tid steps) (Say.Committed committed)) (given (undecided_of past tid.tx) (λ running. quiet (Ev.Go tid steps) (Say.Running running)) (begun_line tid steps (map (send_due tid) (all_outstanding terms.protocols (begun_line tid steps [] ∷ past) tid))))) c

pub go_running : (terms : Terms) (past : CoordPast) (tid : Tid) (steps : List Step) (t : Tid) → committed_of (records past) tid.tx ≡ None → undecided_of past tid.tx ≡ Some t → answer_of terms past (Ev.Go tid steps) ≡ quiet (Ev.Go tid steps) (Say.Running t)
unfolding answered of_go given
go_running terms past tid steps t c u =
    ap₂ (λ (o p : Option Tid). given o (λ committed. quiet (Ev.Go tid steps) (Say.Committed committed)) (given p (λ running. quiet (Ev.Go tid steps) (Say.Running running)) (begun_line tid steps (map (send_due tid) (all_outstanding terms.protocols (begun_line tid steps [] ∷ past) tid))))) c u

pub noted_next : (past : CoordPast) (tid : Tid) (tx : Tx) → tid.attempt ≡ attempts_of past tid.tx → cond (same_tx tid.tx tx) (tid.attempt + 1) (attempts_of past tx) ≡ cond (same_tx tid.tx tx) (suc (attempts_of past tx)) (attempts_of past tx)
noted_next past tid tx next = by_test (same_tx tid.tx tx) refl where
  by_test : (b : Bool) → same_tx tid.tx tx ≡ b → cond b (tid.attempt + 1) (attempts_of past tx) ≡ cond b (suc (attempts_of past tx)) (attempts_of past tx)
  by_test true e = add-one tid.attempt ∙ ap suc (next ∙ ap (attempts_of past) (same_tx-equal tid.tx tx e))
  by_test false e = refl

-- the tables list one more attempt, which has just begun
pub record HasBegun (tables now : Tables) (tid : Tid) (steps : List Step) (set : SiteSet) (members : List Participant) : Type 0 where
  pub known : now.known ≡ tables.known ++ table.submitted tid members ∷ []
  pub exec : now.exec ≡ tables.exec ++ live.submitted tid steps ∷ []
  pub stages : now.stages.listed ≡ tables.stages.listed ++ fresh_stage tid set ∷ []
  pub committed : now.committed ≡ tables.committed
  pub graph : now.graph ≡ tables.graph
