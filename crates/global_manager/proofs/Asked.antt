-- What the rules make of the commands of a coordinator, in each case.
use Rattle.std.proofs.Common.{◌≡◌, ℕ, ◌≤◌, ◌<◌, ◌||◌, leb, ltb, Bool, true, false, Option, Some, None, List, [], ◌∷◌, length, inl, inr, refl, sym, ap, ◌∙◌, subst}
use Rattle.std.proofs.lemmas.Bool.{le-leb, lt-leb, lt-ltb, ltb-true, or_right}
use Rattle.mdb_base.specs.declared.acts.Step.{Step}
use Rattle.mdb_base.specs.declared.names.Tid.{Tid}
use Rattle.mdb_base.specs.declared.names.Tx.{Tx}
use Rattle.mdb_base.specs.Names.{same_tid}
use Rattle.mdb_base.specs.Words.{given, some_of, when}
use Rattle.mdb_base.proofs.ForCallers.{same_tid-equal, same_tid-refl, tests_agree}
use Rattle.presumptions.specs.declared.Participant.{Participant}
use Rattle.order_laws.specs.Chains.{In}
use Rattle.fed_rules.specs.declared.answers.Answer.TheVariants as Say
use Rattle.fed_rules.specs.declared.events.CoordEvent.{CoordEvent}
use Rattle.fed_rules.specs.declared.events.CoordEvent.TheVariants as Ev
use Rattle.fed_rules.specs.declared.records.CoordRecord.{CoordRecord}
use Rattle.fed_rules.specs.Coord.{answered, coord_line, of_go}
use Rattle.fed_rules.specs.CoordCommands.{attempt_request, fate_request, go_next, go_request}
use Rattle.fed_rules.specs.CoordPast.{CoordHappening, CoordPast, attempts_of, begun_tids, records, trip, undecided_of}
use Rattle.fed_rules.specs.CoordRecords.{committed_of}
use Rattle.fed_rules.specs.Disk.{Call}
use Rattle.fed_rules.specs.Happenings.{is_down}
use Rattle.fed_rules.specs.Policies.{Policy}
use Rattle.fed_rules.specs.Requests.{Submits, Declines, attempt, unless_begun}
use Rattle.coord_laws.specs.Pasts.{IsGoingOn}
use Rattle.coord_laws.proofs.ForCallers.{begin_in_order}
use Rattle.actor_store.specs.Store.{Passes}
use Rattle.coord_tables.specs.Terms.{Terms, line_of}
use Rattle.coord_core.proofs.ForCallers.{passes_is, usual_line}

module _ (protocols : List Participant) (policy : Policy) (program : Option (List Step)) (past : CoordPast) (tx : Tx) where
  -- one that is no global transaction
  pub go_none : program ≡ None → go_request protocols policy program past tx ≡ Declines Say.None
  unfolding go_request given
  go_none e = rw e refl

  pub fate_none : program ≡ None → fate_request program tx ≡ Declines Say.None
  unfolding fate_request given
  fate_none e = rw e refl

  module _ (steps : List Step) (own : program ≡ Some steps) where
    pub fate_submits : fate_request program tx ≡ Submits (Ev.Fate tx)
    unfolding fate_request given
    fate_submits = rw own refl

    go_is : go_request protocols policy program past tx ≡ go_next protocols policy past tx steps (attempts_of past tx)
    unfolding go_request given
    go_is = rw own refl

    next_spent : 32 ≤ attempts_of past tx → go_next protocols policy past tx steps (attempts_of past tx) ≡ Declines (unless_begun (coord_line protocols policy past (Ev.Go (attempt tx (attempts_of past tx)) steps)).answer)
    unfolding go_next when
    next_spent all = let e : leb 32 (attempts_of past tx) ≡ true = le-leb _ _ all in rw e refl

    next_submits : attempts_of past tx < 32 → go_next protocols policy past tx steps (attempts_of past tx) ≡ Submits (Ev.Go (attempt tx (attempts_of past tx)) steps)
    unfolding go_next when
    next_submits few = let e : leb 32 (attempts_of past tx) ≡ false = lt-leb _ _ few in rw e refl

    pub go_spent : 32 ≤ attempts_of past tx → go_request protocols policy program past tx ≡ Declines (unless_begun (coord_line protocols policy past (Ev.Go (attempt tx (attempts_of past tx)) steps)).answer)
    go_spent all = go_is ∙ next_spent all

    pub go_submits : attempts_of past tx < 32 → go_request protocols policy program past tx ≡ Submits (Ev.Go (attempt tx (attempts_of past tx)) steps)
    go_submits few = go_is ∙ next_submits few

-- an attempt that was begun, and one that wasn't
pub attempt_submits : (past : CoordPast) (tid : Tid) (event : CoordEvent) → some_of (same_tid tid) (begun_tids past) ≡ true → attempt_request past tid event ≡ Submits event
unfolding attempt_request when
attempt_submits past tid event e = rw e refl

pub attempt_none : (past : CoordPast) (tid : Tid) (event : CoordEvent) → some_of (same_tid tid) (begun_tids past) ≡ false → attempt_request past tid event ≡ Declines Say.None
unfolding attempt_request when
attempt_none past tid event e = rw e refl

in_some : (tid : Tid) (tids : List Tid) → In tid tids → some_of (same_tid tid) tids ≡ true
in_some tid [] i = absurd i
in_some tid (t ∷ tids) (inl e) = let is : same_tid tid t ≡ true = ap (same_tid tid) e ∙ same_tid-refl tid in ap (λ b. b || some_of (same_tid tid) tids) is
in_some tid (t ∷ tids) (inr i) = or_right (same_tid tid t) (some_of (same_tid tid) tids) (in_some tid tids i)

some_in : (tid : Tid) (tids : List Tid) → some_of (same_tid tid) tids ≡ true → In tid tids
some_in tid [] e = cc
some_in tid (t ∷ tids) e = by_test (same_tid tid t) refl e (some_in tid tids) where
  by_test : (b : Bool) → same_tid tid t ≡ b → (b || some_of (same_tid tid) tids) ≡ true → (some_of (same_tid tid) tids ≡ true → In tid tids) → In tid (t ∷ tids)
  by_test true is h rest = inl (sym (same_tid-equal tid t is))
  by_test false is h rest = inr (rest h)

-- an attempt was begun exactly where its number is below the count of its transaction
pub begun_test : (terms : Terms) (past : CoordPast) (tid : Tid) (n : ℕ) → IsGoingOn terms.protocols terms.policy past → n ≡ attempts_of past tid.tx → ltb tid.attempt n ≡ some_of (same_tid tid) (begun_tids past)
begun_test terms past tid n made is =
    let (below, listed) = begin_in_order terms.protocols terms.policy past made tid in
    tests_agree (ltb tid.attempt n) (some_of (same_tid tid) (begun_tids past))
    (λ e. in_some tid (begun_tids past) (listed (subst (λ (m : ℕ). tid.attempt < m) is (ltb-true _ _ e))))
    (λ e. lt-ltb _ _ (subst (λ (m : ℕ). tid.attempt < m) (sym is) (below (some_in tid (begun_tids past) e))))

-- what a `go` is answered
by_given : {A : Type 0} (P : CoordHappening → Type 0) (o : Option A) (none : CoordHappening) (some : A → CoordHappening) → P none → ((x : A) → P (some x)) → P (given o some none)
unfolding given
by_given P None none some n s = n
by_given P (Some x) none some n s = s x

module _ (terms : Terms) (past : CoordPast) (tid : Tid) (steps : List Step) where
  silent_go : (of_go terms.protocols past tid steps).calls ≡ []
  unfolding of_go
  silent_go = by_given (λ (x : CoordHappening). x.calls ≡ []) _ _ _ (by_given (λ (x : CoordHappening). x.calls ≡ []) _ _ _ refl (λ running. refl)) (λ committed. refl)

  go_committed : (committed : Tid) → committed_of (records past) tid.tx ≡ Some committed → (of_go terms.protocols past tid steps).answer ≡ Say.Committed committed
  unfolding of_go given
  go_committed committed e = rw e refl

  go_running : (running : Tid) → committed_of (records past) tid.tx ≡ None → undecided_of past tid.tx ≡ Some running → (of_go terms.protocols past tid steps).answer ≡ Say.Running running
  unfolding of_go given
  go_running running e f = rw (e, f) refl

  go_begun : committed_of (records past) tid.tx ≡ None → undecided_of past tid.tx ≡ None → (of_go terms.protocols past tid steps).answer ≡ Say.Begun tid
  unfolding of_go given
  go_begun e f = rw (e, f) refl

  go_up : Passes (trip past) 0 → is_down past ≡ false → line_of terms past (Ev.Go tid steps) ≡ of_go terms.protocols past tid steps
  unfolding answered
  go_up passes up =
      usual_line terms past (Ev.Go tid steps) tt up
      ∙ passes_is past (of_go terms.protocols past tid steps) (subst (λ (calls : List (Call CoordRecord)). Passes (trip past) (length calls)) (sym silent_go) passes)

  pub spent_down : is_down past ≡ true → Say.Down ≡ unless_begun (line_of terms past (Ev.Go tid steps)).answer
  unfolding coord_line when
  spent_down down = rw down refl

  module _ (passes : Passes (trip past) 0) (up : is_down past ≡ false) where
    pub spent_committed : (committed : Tid) → committed_of (records past) tid.tx ≡ Some committed → Say.Committed committed ≡ unless_begun (line_of terms past (Ev.Go tid steps)).answer
    spent_committed committed e = sym (ap (λ (x : CoordHappening). unless_begun x.answer) (go_up passes up) ∙ ap unless_begun (go_committed committed e))

    pub spent_running : (running : Tid) → committed_of (records past) tid.tx ≡ None → undecided_of past tid.tx ≡ Some running → Say.Running running ≡ unless_begun (line_of terms past (Ev.Go tid steps)).answer
    spent_running running e f = sym (ap (λ (x : CoordHappening). unless_begun x.answer) (go_up passes up) ∙ ap unless_begun (go_running running e f))

    pub spent_all : committed_of (records past) tid.tx ≡ None → undecided_of past tid.tx ≡ None → Say.Spent ≡ unless_begun (line_of terms past (Ev.Go tid steps)).answer
    spent_all e f = sym (ap (λ (x : CoordHappening). unless_begun x.answer) (go_up passes up) ∙ ap unless_begun (go_begun e f))
