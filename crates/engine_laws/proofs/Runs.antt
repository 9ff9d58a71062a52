-- The unended runs over one line: how the run of the line's attempt came about, and what goes over to each run and to each two.
use Rattle.std.proofs.Common.{◌≡◌, ℕ, ◌+◌, ◌⊎◌, Bool, true, false, cond, Some, None, List, [], ◌∷◌, map, refl, sym, ap, ◌∙◌, subst, inl, inr}
use Rattle.mdb_base.specs.declared.names.Tid.{Tid}
use Rattle.mdb_base.specs.declared.names.Key.{Key}
use Rattle.mdb_base.specs.declared.acts.PlainAct.{PlainAct}
use Rattle.mdb_base.specs.declared.acts.PlainAct.TheVariants.{Read, Write}
use Rattle.mdb_base.specs.declared.replies.Reply.{Reply}
use Rattle.mdb_base.specs.declared.replies.Reply.TheVariants as Reply_is
use Rattle.mdb_base.specs.Names.{same_tid}
use Rattle.mdb_base.specs.Words.{Each, Among, inserted, or_else}
use Rattle.mdb_base.proofs.ForCallers.{each_found, each_inserted, same_tid-equal, same_tid-refl, same_tid-sym}
use Rattle.fed_rules.specs.declared.runs.Kept.{Kept}
use Rattle.fed_rules.specs.Runs.{Start, EngineLine, Begins, Acts, Takes, Seals, Refuses, Commits, Aborts, Got, Wrote, Run, tid_of, restored, restored_at, begun, acted, took, changed, run_at, attempts, unended, counter, number, committed, by_number}
use Rattle.fed_rules.specs.Replies.{access_reply, ticket_reply, seal_stop, seal_number}
use Rattle.fed_rules.specs.EngineLines.{IsFree, IsLive, IsTicketless, IsSealed, IsRightLine, IsRight}
use Rattle.engine_laws.specs.Unended.{EachRun, EachPair}
use Rattle.engine_laws.proofs.ByNumber.{is_later}

-- an access or a taking of the ticket, which may have to wait
abbrev pub may_wait : EngineLine → Bool
may_wait (Acts tid act reply) = true
may_wait (Takes tid reply) = true
may_wait line = false

-- how the unended run of a right line's attempt came about
pub data Own (start : Start) (older : List EngineLine) : EngineLine → Run → Type 0 where
  begins : {tid : Tid} {n : ℕ} → IsFree start older tid → n ≡ counter start older + 1
      → Own start older (Begins tid n) (begun tid n)
  stays : {line : EngineLine} {run : Run} → may_wait line ≡ true → run_at start older (tid_of line) ≡ Some run
      → Own start older line run
  got : {tid : Tid} {key : Key} {value : ℕ} (run : Run) → IsLive start older tid run
      → Reply_is.Value value ≡ access_reply start older run (Read key)
      → Own start older (Acts tid (Read key) (Reply_is.Value value)) (record run { acts = Got key value ∷ run.acts })
  wrote : {tid : Tid} {key : Key} {value : ℕ} (run : Run) → IsLive start older tid run
      → Reply_is.Done ≡ access_reply start older run (Write key value)
      → Own start older (Acts tid (Write key value) Reply_is.Done) (record run { acts = Wrote key value ∷ run.acts })
  takes : {tid : Tid} {n : ℕ} (run : Run) → IsTicketless start older tid run
      → Reply_is.Ticket n ≡ ticket_reply start older run
      → Own start older (Takes tid (Reply_is.Ticket n)) (record run { ticket = Some n })
  seals : {tid : Tid} {n : ℕ} (run : Run) → IsLive start older tid run
      → seal_stop start.kind start older run ≡ None → n ≡ seal_number start.kind start older run
      → Own start older (Seals tid n) (record run { sealed = Some n })

own_acted : (start : Start) (older : List EngineLine) (tid : Tid) (act : PlainAct) (reply : Reply) (run r : Run)
    → IsLive start older tid run → reply ≡ access_reply start older run act → acted reply act run ≡ Some r
    → Own start older (Acts tid act reply) r
own_acted start older tid act (Reply_is.Refused why) run r live is e = cc
own_acted start older tid act (Reply_is.Wait by) run r live is e = stays refl (live.0 ∙ e)
own_acted start older tid act (Reply_is.Ticket n) run r live is e = stays refl (live.0 ∙ e)
own_acted start older tid act Reply_is.Unknown run r live is e = stays refl (live.0 ∙ e)
own_acted start older tid (Read key) (Reply_is.Value value) run r live is e =
    let same : record run { acts = Got key value ∷ run.acts } ≡ r = cc in subst (Own start older _) same (got run live is)
own_acted start older tid (Write key v) (Reply_is.Value value) run r live is e = stays refl (live.0 ∙ e)
own_acted start older tid (Read key) Reply_is.Done run r live is e = stays refl (live.0 ∙ e)
own_acted start older tid (Write key value) Reply_is.Done run r live is e =
    let same : record run { acts = Wrote key value ∷ run.acts } ≡ r = cc in subst (Own start older _) same (wrote run live is)

own_took : (start : Start) (older : List EngineLine) (tid : Tid) (reply : Reply) (run r : Run)
    → IsTicketless start older tid run → reply ≡ ticket_reply start older run → took reply run ≡ Some r
    → Own start older (Takes tid reply) r
own_took start older tid (Reply_is.Ticket n) run r live is e =
    let same : record run { ticket = Some n } ≡ r = cc in subst (Own start older _) same (takes run live is)
own_took start older tid (Reply_is.Refused why) run r live is e = cc
own_took start older tid (Reply_is.Wait by) run r live is e = stays refl (live.0 ∙ e)
own_took start older tid (Reply_is.Value value) run r live is e = stays refl (live.0 ∙ e)
own_took start older tid Reply_is.Done run r live is e = stays refl (live.0 ∙ e)
own_took start older tid Reply_is.Unknown run r live is e = stays refl (live.0 ∙ e)

-- the unended run that a right line leaves to its attempt came about in one of these ways
pub own : (start : Start) (older : List EngineLine) (line : EngineLine) (r : Run)
    → IsRightLine start older line → changed line (run_at start older (tid_of line)) ≡ Some r → Own start older line r
own start older (Begins tid n) r (free, next) e =
    let same : begun tid n ≡ r = cc in subst (Own start older _) same (begins free next)
own start older (Acts tid act reply) r (run, (live, is)) e =
    own_acted start older tid act reply run r live is (sym (ap (changed (Acts tid act reply)) live.0) ∙ e)
own start older (Takes tid reply) r (run, (live, is)) e =
    own_took start older tid reply run r live is (sym (ap (changed (Takes tid reply)) live.0) ∙ e)
own start older (Seals tid n) r (run, (live, stop, next)) e =
    let now : Some (record run { sealed = Some n }) ≡ Some r = sym (ap (changed (Seals tid n)) live.0) ∙ e in
    let same : record run { sealed = Some n } ≡ r = cc in subst (Own start older _) same (seals run live stop next)
own start older (Refuses tid why) r right e = cc
own start older (Commits tid) r right e = cc
own start older (Aborts tid) r right e = cc

-- the run of an attempt after a line is the one before it, or it is the line's own one
pub at_line : (start : Start) (older : List EngineLine) (line : EngineLine) (t : Tid) (r : Run)
    → run_at start (line ∷ older) t ≡ Some r
    → ((same_tid (tid_of line) t ≡ false) × (run_at start older t ≡ Some r))
    ⊎ ((tid_of line ≡ t) × (changed line (run_at start older (tid_of line)) ≡ Some r))
at_line start older line t r e = by_test (same_tid (tid_of line) t) refl e
  where
    by_test : (b : Bool) → same_tid (tid_of line) t ≡ b
        → cond b (changed line (run_at start older t)) (run_at start older t) ≡ Some r
        → ((same_tid (tid_of line) t ≡ false) × (run_at start older t ≡ Some r))
        ⊎ ((tid_of line ≡ t) × (changed line (run_at start older (tid_of line)) ≡ Some r))
    by_test true is e =
        let same = same_tid-equal (tid_of line) t is in inr (same, ap (λ u. changed line (run_at start older u)) same ∙ e)
    by_test false is e = inl (is, e)

-- a fact of each unended run after a line: of the other runs, and of the line's own one
pub each_run : (start : Start) (older : List EngineLine) (line : EngineLine) (P : Run → Type 0)
    → ((t : Tid) (r : Run) → same_tid (tid_of line) t ≡ false → run_at start older t ≡ Some r → P r)
    → ((r : Run) → changed line (run_at start older (tid_of line)) ≡ Some r → P r)
    → EachRun start (line ∷ older) P
each_run start older line P others mine t r e = elim (at_line start older line t r e) [
  | inl (other, was) ↦ others t r other was
  | inr (same, now) ↦ mine r now
]

-- a fact of each two unended runs after a line: of two others, and of the line's own one with each other one, both ways round
pub each_pair : (start : Start) (older : List EngineLine) (line : EngineLine) (Q : Run → Run → Type 0)
    → EachPair start older Q
    → ((u : Tid) (r b : Run) → same_tid (tid_of line) u ≡ false → changed line (run_at start older (tid_of line)) ≡ Some r
    → run_at start older u ≡ Some b → Q r b × Q b r)
    → EachPair start (line ∷ older) Q
each_pair start older line Q others mine t u a b apart ea eb = elim (at_line start older line t a ea) [
  | inl (other_t, was_a) ↦ elim (at_line start older line u b eb) [
    | inl (other_u, was_b) ↦ others t u a b apart was_a was_b
    | inr (same_u, now_b) ↦ (mine t b a other_t now_b was_a).1
  ]
  | inr (same_t, now_a) ↦ elim (at_line start older line u b eb) [
    | inl (other_u, was_b) ↦ (mine u a b other_u now_a was_b).0
    | inr (same_u, now_b) ↦
        let one : same_tid t u ≡ true = subst (λ x. same_tid x u ≡ true) (sym same_u ∙ same_t) (same_tid-refl u) in cc
  ]
]

-- a fact of each two, both ways round
pub both_ways : (start : Start) (lines : List EngineLine) (Q : Run → Run → Type 0) → EachPair start lines Q
    → (t u : Tid) (a b : Run) → same_tid t u ≡ false → run_at start lines t ≡ Some a → run_at start lines u ≡ Some b
    → Q a b × Q b a
both_ways start lines Q h t u a b apart ea eb = (h t u a b apart ea eb, h u t b a (same_tid-sym u t ∙ apart) eb ea)

-- a fact of each restored run
pub each_restored : (P : Run → Type 0) (doubtful : List Kept) → Each (λ kept. P (restored kept)) doubtful
    → (t : Tid) (r : Run) → restored_at doubtful t ≡ Some r → P r
each_restored P [] h t r e = cc
each_restored P (kept ∷ more) h t r e = by_test (same_tid kept.tid t) e (each_restored P more h.1 t r)
  where
    by_test : (b : Bool) → cond b (Some (restored kept)) (restored_at more t) ≡ Some r → (restored_at more t ≡ Some r → P r) → P r
    by_test true e rest = let same : restored kept ≡ r = cc in subst P same h.0
    by_test false e rest = rest e

-- the run of an attempt is a run of that attempt
restored_tid : (doubtful : List Kept) (t : Tid) (r : Run) → restored_at doubtful t ≡ Some r → r.tid ≡ t
restored_tid [] t r e = cc
restored_tid (kept ∷ more) t r e = by_test (same_tid kept.tid t) refl e (restored_tid more t r)
  where
    by_test : (b : Bool) → same_tid kept.tid t ≡ b → cond b (Some (restored kept)) (restored_at more t) ≡ Some r
        → (restored_at more t ≡ Some r → r.tid ≡ t) → r.tid ≡ t
    by_test true is e rest = let same : restored kept ≡ r = cc in sym (ap (λ x. x.tid) same) ∙ same_tid-equal kept.tid t is
    by_test false is e rest = rest e

own_tid : (start : Start) (older : List EngineLine) (line : EngineLine) (r : Run)
    → ((t : Tid) (run : Run) → run_at start older t ≡ Some run → run.tid ≡ t) → Own start older line r → r.tid ≡ tid_of line
own_tid start older line r rest (begins free next) = refl
own_tid start older line r rest (stays waits at) = rest _ _ at
own_tid start older line r rest (got run live is) = rest _ _ live.0
own_tid start older line r rest (wrote run live is) = rest _ _ live.0
own_tid start older line r rest (takes run live is) = rest _ _ live.0
own_tid start older line r rest (seals run live stop next) = rest _ _ live.0

pub tid_is : (start : Start) (lines : List EngineLine) → IsRight start lines → (t : Tid) (r : Run) → run_at start lines t ≡ Some r
    → r.tid ≡ t
tid_is start [] right t r e = restored_tid start.doubtful t r e
tid_is start (line ∷ older) right t r e = elim (at_line start older line t r e) [
  | inl (other, was) ↦ tid_is start older right.1 t r was
  | inr (same, now) ↦ own_tid start older line r (tid_is start older right.1) (own start older line r right.0 now) ∙ same
]

-- the attempt of an unended run was restored or begun
restored_attempt : (doubtful : List Kept) (t : Tid) (r : Run) → restored_at doubtful t ≡ Some r
    → Among (λ u. u ≡ t) (map (λ kept. kept.tid) doubtful)
restored_attempt [] t r e = cc
restored_attempt (kept ∷ more) t r e = by_test (same_tid kept.tid t) refl e (restored_attempt more t r)
  where
    by_test : (b : Bool) → same_tid kept.tid t ≡ b → cond b (Some (restored kept)) (restored_at more t) ≡ Some r
        → (restored_at more t ≡ Some r → Among (λ u. u ≡ t) (map (λ kept. kept.tid) more))
        → Among (λ u. u ≡ t) (map (λ kept. kept.tid) (kept ∷ more))
    by_test true is e rest = inl (same_tid-equal kept.tid t is)
    by_test false is e rest = inr (rest e)

attempts_more : (start : Start) (older : List EngineLine) (line : EngineLine) (P : Tid → Type 0) → Among P (attempts start older)
    → Among P (attempts start (line ∷ older))
attempts_more start older (Begins tid n) P h = inr h
attempts_more start older (Acts tid act reply) P h = h
attempts_more start older (Takes tid reply) P h = h
attempts_more start older (Seals tid n) P h = h
attempts_more start older (Refuses tid why) P h = h
attempts_more start older (Commits tid) P h = h
attempts_more start older (Aborts tid) P h = h

own_attempt : (start : Start) (older : List EngineLine) (line : EngineLine) (r : Run)
    → ((t : Tid) (run : Run) → run_at start older t ≡ Some run → Among (λ u. u ≡ t) (attempts start older))
    → Own start older line r → Among (λ u. u ≡ tid_of line) (attempts start (line ∷ older))
own_attempt start older line r rest (begins free next) = inl refl
own_attempt start older line r rest (stays waits at) = attempts_more start older line _ (rest _ _ at)
own_attempt start older line r rest (got run live is) = rest _ _ live.0
own_attempt start older line r rest (wrote run live is) = rest _ _ live.0
own_attempt start older line r rest (takes run live is) = rest _ _ live.0
own_attempt start older line r rest (seals run live stop next) = rest _ _ live.0

pub attempts_have : (start : Start) (lines : List EngineLine) → IsRight start lines → (t : Tid) (r : Run)
    → run_at start lines t ≡ Some r → Among (λ u. u ≡ t) (attempts start lines)
attempts_have start [] right t r e = restored_attempt start.doubtful t r e
attempts_have start (line ∷ older) right t r e = elim (at_line start older line t r e) [
  | inl (other, was) ↦ attempts_more start older line _ (attempts_have start older right.1 t r was)
  | inr (same, now) ↦
      subst (λ u. Among (λ v. v ≡ u) (attempts start (line ∷ older))) same
      (own_attempt start older line r (attempts_have start older right.1) (own start older line r right.0 now))
]

-- what holds of each one in the list of the unended runs
pub each_unended : (start : Start) (lines : List EngineLine) → IsRight start lines → (P : Run → Type 0)
    → Each P (unended start lines) → EachRun start lines P
each_unended start lines right P h t r e =
    each_found P (run_at start lines) t r (attempts start lines) h (attempts_have start lines right t r e) e

-- the number of a sealed run
pub number_is : (run : Run) (n : ℕ) → run.sealed ≡ Some n → number run ≡ n
number_is run n e = ap (λ o. or_else o 0) e

-- a commit puts the run among the committed ones by its number
pub committed_is : (start : Start) (older : List EngineLine) (tid : Tid) (run : Run) → run_at start older tid ≡ Some run
    → committed start (Commits tid ∷ older) ≡ inserted is_later run (committed start older)
committed_is start older tid run e = ap (λ o. by_number o (committed start older)) e

-- a fact of each committed run after a line: of those before it, and of the sealed one that it commits
pub each_committed : (start : Start) (older : List EngineLine) (line : EngineLine) (P : Run → Type 0)
    → IsRightLine start older line
    → ((run : Run) (n : ℕ) → line ≡ Commits (tid_of line) → IsSealed start older (tid_of line) run n → P run)
    → Each P (committed start older) → Each P (committed start (line ∷ older))
each_committed start older (Commits tid) P (run, n, sealed) here h =
    subst (Each P) (sym (committed_is start older tid run sealed.0))
    (each_inserted P is_later run (committed start older) (here run n refl sealed) h)
each_committed start older line P right here h = h
