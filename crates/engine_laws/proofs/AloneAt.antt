-- A run that is alone at its engine: every other run has ended and is older. So each access, the ticket and the sealing are granted.
use Rattle.std.proofs.Common.{◌≡◌, ℕ, ◌+◌, ◌<◌, Bool, true, false, cond, not, ◌&&◌, Option, Some, None, List, [], ◌∷◌, ◌++◌, map, inl, inr, refl, sym, ap, ap₂, ◌∙◌, arith, eq-eqb}
use Rattle.std.proofs.lemmas.Bool.{le-ltb}
use Rattle.mdb_base.specs.declared.acts.PlainAct.{PlainAct}
use Rattle.mdb_base.specs.declared.acts.PlainAct.TheVariants.{Read, Write}
use Rattle.mdb_base.specs.declared.names.Engine.{Engine}
use Rattle.mdb_base.specs.declared.names.Engine.TheVariants.{Locking, Timestamp, Validation, Multiversion}
use Rattle.mdb_base.specs.declared.names.Key.{Key}
use Rattle.mdb_base.specs.declared.names.Tid.{Tid}
use Rattle.mdb_base.specs.declared.replies.Reply.TheVariants as Reply_is
use Rattle.mdb_base.specs.declared.replies.Why.{Why}
use Rattle.mdb_base.specs.Names.{same_tid}
use Rattle.mdb_base.specs.Words.{Each, those, found, with_some, least, greatest, some_of, is_empty}
use Rattle.mdb_base.proofs.ForCallers.{among_split, cond-false, cond-true, same_tid-equal, same_tid-refl}
use Rattle.order_laws.specs.Chains.{In}
use Rattle.order_laws.proofs.ForCallers.{each_at, none_pass}
use Rattle.fed_rules.specs.Replies.{is_other, is_younger, is_older, is_in_the_way, conflicts_with_read, has_written, has_read, key_of, access_key, age_of, wait_die, late_or_wait, access_stop, granted, or_reply, access_reply, ticket_stop, ticket_reply, spoilers, bad_keys, invalid_at, moved, moved_by, or_why, seal_stop, wait_for_writer, rule, age_stop, age_ticket_stop}
use Rattle.fed_rules.specs.Runs.{Start, EngineLine, Begins, Acts, Takes, Seals, Commits, Access, Got, Wrote, Run, run_at, attempts, unended, begun, changed, after, committed, aborted, committed_since, published, owner, is_sealed, has_ticket}

-- the run is live, and every other one has ended and is older; who ended by commit did so before it began; its ticket, if it has one, is the next
pub record IsAlone (start : Start) (lines : List EngineLine) (me : Run) : Type 0 where
  pub own : run_at start lines me.tid ≡ Some me
  pub unsealed : me.sealed ≡ None
  pub others : (tid : Tid) → same_tid me.tid tid ≡ false → run_at start lines tid ≡ None
  pub committed : Each (λ run. run.age < me.age) (committed start lines)
  pub aborted : Each (λ run. run.age < me.age) (aborted start lines)
  pub since : committed_since start lines me.tid ≡ []
  pub ticket : (n : ℕ) → me.ticket ≡ Some n → n ≡ published start lines + 1

-- what is found, is found somewhere
pub found_from : {A B : Type 0} (look : A → Option B) (xs : List A) (y : B) → In y (found look xs) → (x : A) × (look x ≡ Some y)
found_from look [] y i = absurd i
found_from look (z ∷ xs) y i = by_look (look z) refl i (found_from look xs y)
  where
    by_look : (o : Option _) → look z ≡ o → In y (with_some o (found look xs)) → (In y (found look xs) → (x : _) × (look x ≡ Some y)) → (x : _) × (look x ≡ Some y)
    by_look None e i k = k i
    by_look (Some w) e (inl same) k = (z, e ∙ ap (λ v. Some v) same)
    by_look (Some w) e (inr i) k = k i

module _ (start : Start) (lines : List EngineLine) (me : Run) (alone : IsAlone start lines me) where
  -- it is the only unended run
  only_me : (run : Run) → In run (unended start lines) → run ≡ me
  only_me run i = by_test (same_tid me.tid at.0) refl
    where
      at : (tid : Tid) × (run_at start lines tid ≡ Some run)
      at = found_from (run_at start lines) (attempts start lines) run i

      by_test : (b : Bool) → same_tid me.tid at.0 ≡ b → run ≡ me
      by_test true q = (let same : run_at start lines me.tid ≡ Some run = ap (run_at start lines) (same_tid-equal me.tid at.0 q) ∙ at.1 in let own = alone.own in cc)
      by_test false q = (let none = alone.others at.0 q in let some = at.1 in cc)

  none_unended : (test : Run → Bool) → test me ≡ false → those test (unended start lines) ≡ []
  none_unended test e = none_pass test (unended start lines) (λ run i. ap test (only_me run i) ∙ e)

  not_other : is_other me me ≡ false
  not_other = ap not (same_tid-refl me.tid)

  not_younger : is_younger me me ≡ false
  not_younger = le-ltb me.age me.age (omega arith)

  not_older : is_older me me ≡ false
  not_older = le-ltb me.age me.age (omega arith)

  older_run : (run : Run) → run.age < me.age → is_younger me run ≡ false
  older_run run less = le-ltb me.age run.age (omega (arith, less))

  none_younger : (test : Run → Bool) (runs : List Run) → Each (λ run. run.age < me.age) runs → those (λ run. is_younger me run && test run) runs ≡ []
  none_younger test runs h = none_pass (λ run. is_younger me run && test run) runs (λ run i. ap (λ b. b && test run) (older_run run (each_at (λ r. r.age < me.age) run runs h i)))

  none_younger_all : (test : Run → Bool) → those (λ run. is_younger me run && test run) (unended start lines ++ committed start lines) ≡ []
  none_younger_all test = none_pass (λ run. is_younger me run && test run) (unended start lines ++ committed start lines) (λ run i. elim (among_split (λ r. r ≡ run) (unended start lines) (committed start lines) i) [
    | inl j ↦ ap (λ r. is_younger me r && test r) (only_me run j) ∙ ap (λ b. b && test me) not_younger
    | inr j ↦ ap (λ b. b && test run) (older_run run (each_at (λ r. r.age < me.age) run (committed start lines) alone.committed j))
  ])

  -- nothing stops an access by its age
  age_free : (act : PlainAct) → age_stop start lines me act ≡ None
  age_free act =
      ap₂ (λ (a b : List Run). late_or_wait (greatest age_of a) (greatest age_of b))
      (ap₂ (λ (a b : List Run). a ++ b) (none_younger_all (is_in_the_way act)) (none_younger (λ run. some_read run) (aborted start lines) alone.aborted))
      (none_unended (λ run. is_older me run && has_written (key_of act) run) (ap (λ b. b && has_written (key_of act) me) not_older))
    where
      some_read : Run → Bool
      some_read run = some_of (conflicts_with_read act) run.acts

  -- nothing stops an access
  pub access_free : (kind : Engine) (act : PlainAct) → access_stop kind start lines me act ≡ None
  access_free Locking act =
      ap (λ runs. wait_die me (least age_of runs)) (none_unended (λ run. is_other me run && is_in_the_way act run) (ap (λ b. b && is_in_the_way act me) not_other))
  access_free Timestamp act = age_free act
  access_free Validation act = refl
  access_free Multiversion (Read key) =
      ap (λ runs. wait_for_writer (has_written key me) (greatest age_of runs)) (none_unended (λ run. is_older me run && has_written key run) (ap (λ b. b && has_written key me) not_older))
      ∙ no_writer (has_written key me)
    where
      no_writer : (b : Bool) → wait_for_writer b None ≡ None
      no_writer true = refl
      no_writer false = refl
  access_free Multiversion (Write key value) = age_free (Write key value)

  pub access_granted : (act : PlainAct) → access_reply start lines me act ≡ granted start lines me act
  access_granted act = ap (λ o. or_reply o (granted start lines me act)) (access_free start.kind act)

  -- nor the ticket
  age_ticket_free : age_ticket_stop start lines me ≡ None
  age_ticket_free =
      ap₂ (λ (a b : List Run). late_or_wait (greatest age_of a) (greatest age_of b)) (none_younger_all has_ticket)
      (none_unended (λ run. is_older me run && has_ticket run && not (is_sealed run)) (ap (λ b. b && has_ticket me && not (is_sealed me)) not_older))

  pub ticket_free : (kind : Engine) → ticket_stop kind start lines me ≡ None
  ticket_free Locking =
      ap (λ runs. wait_die me (least age_of runs)) (none_unended (λ run. is_other me run && has_ticket run && not (is_sealed run)) (ap (λ b. b && has_ticket me && not (is_sealed me)) not_other))
  ticket_free Timestamp = age_ticket_free
  ticket_free Validation = refl
  ticket_free Multiversion = age_ticket_free

  pub ticket_granted : ticket_reply start lines me ≡ Reply_is.Ticket (published start lines + 1)
  ticket_granted = ap (λ o. or_reply o (Reply_is.Ticket (published start lines + 1))) (ticket_free start.kind)

  -- nor the sealing
  none_spoil : (key : Key) → spoilers start lines me key ≡ []
  none_spoil key =
      ap₂ (λ (a b : List Run). a ++ b) (ap (those (λ run. has_read key me && has_written key run)) alone.since)
      (none_unended (λ run. is_other me run && is_sealed run && has_written key run) (ap (λ b. b && is_sealed me && has_written key me) not_other))

  none_bad : bad_keys start lines me ≡ []
  none_bad = none_pass (λ key. not (is_empty (spoilers start lines me key))) (map access_key me.acts) (λ key i. ap (λ runs. not (is_empty runs)) (none_spoil key))

  unmoved : (o : Option ℕ) → me.ticket ≡ o → moved start lines o ≡ None
  unmoved None e = refl
  unmoved (Some n) e = ap (λ b. cond b None (moved_by (owner start lines))) (eq-eqb n (published start lines + 1) (alone.ticket n e))

  pub seal_free : (kind : Engine) → seal_stop kind start lines me ≡ None
  seal_free Locking = refl
  seal_free Timestamp = refl
  seal_free Multiversion = refl
  seal_free Validation =
      ap₂ (λ (a b : Option Why). or_why a b) (ap (λ keys. invalid_at start lines me (least (λ (key : Key). key.0) keys)) none_bad) (unmoved me.ticket refl)

-- the access that an act is granted
abbrev pub access_of : Start → List EngineLine → Run → PlainAct → Access
access_of start lines me (Read key) = Got key (after me.acts ((rule start.kind).reads_from start lines me) key)
access_of start lines me (Write key value) = Wrote key value

-- it stays alone behind each of its operations
pub acts_alone : (start : Start) (lines : List EngineLine) (me : Run) (act : PlainAct) → IsAlone start lines me
    → IsAlone start (Acts me.tid act (granted start lines me act) ∷ lines) (record me { acts = access_of start lines me act ∷ me.acts })
acts_alone start lines me (Read key) h = record {
  own = cond-true _ _ _ (same_tid-refl me.tid) ∙ ap (changed (Acts me.tid (Read key) (granted start lines me (Read key)))) h.own;
  unsealed = h.unsealed;
  others = λ tid e. cond-false _ _ _ e ∙ h.others tid e;
  committed = h.committed;
  aborted = h.aborted;
  since = h.since;
  ticket = h.ticket;
}
acts_alone start lines me (Write key value) h = record {
  own = cond-true _ _ _ (same_tid-refl me.tid) ∙ ap (changed (Acts me.tid (Write key value) Reply_is.Done)) h.own;
  unsealed = h.unsealed;
  others = λ tid e. cond-false _ _ _ e ∙ h.others tid e;
  committed = h.committed;
  aborted = h.aborted;
  since = h.since;
  ticket = h.ticket;
}

pub takes_alone : (start : Start) (lines : List EngineLine) (me : Run) → IsAlone start lines me
    → IsAlone start (Takes me.tid (Reply_is.Ticket (published start lines + 1)) ∷ lines) (record me { ticket = Some (published start lines + 1) })
takes_alone start lines me h = record {
  own = cond-true _ _ _ (same_tid-refl me.tid) ∙ ap (changed (Takes me.tid (Reply_is.Ticket (published start lines + 1)))) h.own;
  unsealed = h.unsealed;
  others = λ tid e. cond-false _ _ _ e ∙ h.others tid e;
  committed = h.committed;
  aborted = h.aborted;
  since = h.since;
  ticket = λ n e. (let same : published start lines + 1 ≡ n = cc in sym same);
}

-- and so it begins where no run is unended
pub begins_alone : (start : Start) (lines : List EngineLine) (tid : Tid) (n : ℕ) → ((t : Tid) → run_at start lines t ≡ None)
    → Each (λ run. run.age < n) (committed start lines) → Each (λ run. run.age < n) (aborted start lines) → IsAlone start (Begins tid n ∷ lines) (begun tid n)
begins_alone start lines tid n none c a = record {
  own = cond-true _ _ _ (same_tid-refl tid);
  unsealed = refl;
  others = λ t e. cond-false _ _ _ e ∙ none t;
  committed = c;
  aborted = a;
  since = cond-true _ _ _ (same_tid-refl tid);
  ticket = λ m e. cc;
}

-- behind its commit no run is unended
pub commits_alone : (start : Start) (lines : List EngineLine) (me : Run) (n : ℕ) (tid : Tid) → IsAlone start lines me → run_at start (Commits me.tid ∷ Seals me.tid n ∷ lines) tid ≡ None
commits_alone start lines me n tid h = by_test (same_tid me.tid tid) refl
  where
    by_test : (b : Bool) → same_tid me.tid tid ≡ b → run_at start (Commits me.tid ∷ Seals me.tid n ∷ lines) tid ≡ None
    by_test true q = cond-true _ _ _ q
    by_test false q = cond-false _ _ _ q ∙ (cond-false _ _ _ q ∙ h.others tid q)
