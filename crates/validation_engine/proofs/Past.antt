-- The last writer of a key that ended by commit: below every sealed one, and the last of those that ended since a run began.
use Rattle.std.proofs.Common.{◌≡◌, ℕ, ◌+◌, ◌<◌, ◌≤◌, Bool, true, false, ◌||◌, cond, Option, Some, List, [], ◌∷◌, inl, inr, refl, sym, ap, ◌∙◌, subst, arith}
use Rattle.std.proofs.lemmas.Bool.{cond-true, cond-false, cases_Bool, eqb-true}
use Rattle.std.proofs.lemmas.Option.{same_Some}
use Rattle.mdb_base.specs.declared.names.Engine.{Engine}
use Rattle.mdb_base.specs.declared.names.Engine.TheVariants.{Validation}
use Rattle.mdb_base.specs.declared.names.Key.{Key}
use Rattle.mdb_base.specs.declared.names.Tid.{Tid}
use Rattle.mdb_base.specs.Names.{same_tid, same_key}
use Rattle.mdb_base.specs.Words.{with_some}
use Rattle.mdb_base.proofs.ForCallers.{same_tid-equal, same_tid-refl}
use Rattle.fed_rules.specs.Runs.{Start, EngineLine, Begins, Acts, Takes, Seals, Refuses, Commits, Aborts, Access, Got, Wrote, Run, tid_of, run_at, counter, number, committed_since}
use Rattle.fed_rules.specs.Replies.{has_written, seal_number}
use Rattle.fed_rules.specs.EngineLines.{IsRight, IsRightLine, IsStart, IsSealed}
use Rattle.engine_laws.specs.Unended.{IsClear, has_write}
use Rattle.engine_laws.proofs.ForCallers.{Own, at_line, begins, counted, counter_grows, got, number_is, own, seals, stays, takes, validation_sound, wrote}
use Rattle.run_book.proofs.ForCallers.{Is, age-le, own_or_other, through_line}
use Rattle.validation_engine.specs.declared.index.Ended.{Ended}
use Rattle.validation_engine.specs.Stands.{IsSealedWriter, ended_last, last_writer}

-- who keeps clear of what another one wrote doesn't write it
clear_writes : (first second : List Access) (key : Key) → IsClear first second → has_write key first ≡ true → has_write key second ≡ true → ⊥
clear_writes first [] key clear done also = cc
clear_writes first (Got k value ∷ acts) key clear done also = clear_writes first acts key clear.1 done also
clear_writes first (Wrote k value ∷ acts) key clear done also = by_key (same_key k key) refl also (clear_writes first acts key clear.1 done)
  where
    by_key : (b : Bool) → same_key k key ≡ b → (b || has_write key acts) ≡ true → (has_write key acts ≡ true → ⊥) → ⊥
    by_key true e also rest =
        let same : k ≡ key = ap (λ (n : ℕ). let x : Key = record { 0 = n } in x) (eqb-true k.0 key.0 e) in
        let bad : false ≡ true = sym clear.0 ∙ (ap (λ (x : Key). has_write x first) same ∙ done) in cc
    by_key false e also rest = rest also

-- a key has at most one sealed writer
pub one_writer : (start : Start) (lines : List EngineLine) → start.kind ≡ Validation → IsStart start → IsRight start lines → (key : Key) (t u : Tid) (m n : ℕ) →
    IsSealedWriter (run_at start lines t) key m → IsSealedWriter (run_at start lines u) key n → t ≡ u
one_writer start lines kind starts right key t u m n a b =
    elim (cases_Bool (same_tid t u)) [
      | inl e ↦ same_tid-equal t u e
      | inr e ↦ elim ((validation_sound start lines kind starts right).apart t u a.run b.run e a.at b.at m n a.sealed b.sealed) [
        | inl less ↦ absurd (clear_writes a.run.acts b.run.acts key less.1 a.wrote b.wrote)
        | inr more ↦ absurd (clear_writes b.run.acts a.run.acts key more.1 b.wrote a.wrote)
      ]
    ]

-- a writer of the key that ended by commit: its number and its moment were drawn, and a sealed one has a greater number
pub record IsPast (start : Start) (lines : List EngineLine) (key : Key) (ended : Ended) : Type 0 where
  pub number_kept : ended.number ≤ counter start lines
  pub moment_kept : ended.moment ≤ counter start lines
  pub above : (u : Tid) (n : ℕ) → IsSealedWriter (run_at start lines u) key n → ended.number < n

own_above : (start : Start) (older : List EngineLine) (line : EngineLine) (key : Key) (ended : Ended) (r : Run) (n : ℕ) → start.kind ≡ Validation → IsPast start older key ended →
    Own start older line r → r.sealed ≡ Some n → has_written key r ≡ true → ended.number < n
own_above start older line key ended r n kind past (begins free next) sealed done = cc
own_above start older line key ended r n kind past (stays waits at) sealed done = past.above (tid_of line) n (record { run = r; at = at; sealed = sealed; wrote = done })
own_above start older line key ended r n kind past (got run live is) sealed done = let open_run = live.1 in cc
own_above start older line key ended r n kind past (wrote run live is) sealed done = let open_run = live.1 in cc
own_above start older line key ended r n kind past (takes run live is) sealed done = let open_run = live.1 in cc
own_above start older (Seals tid m) key ended r n kind past (seals run live stop next) sealed done =
    let same : m ≡ n = cc in
    let last : m ≡ counter start older + 1 = next ∙ ap (λ (k : Engine). seal_number k start older run) kind in
    let kept = past.number_kept in
    omega arith

past_on : (start : Start) (older : List EngineLine) (line : EngineLine) (key : Key) (ended : Ended) → start.kind ≡ Validation → IsRightLine start older line → IsPast start older key ended →
    IsPast start (line ∷ older) key ended
past_on start older line key ended kind right past =
    let grows = counter_grows start older line in
    record {
      number_kept = let kept = past.number_kept in omega arith;
      moment_kept = let kept = past.moment_kept in omega arith;
      above = λ u n w. elim (at_line start older line u w.run w.at) [
        | inl other ↦ past.above u n (record { run = w.run; at = other.1; sealed = w.sealed; wrote = w.wrote })
        | inr mine ↦ own_above start older line key ended w.run n kind past (own start older line w.run right mine.1) w.sealed w.wrote
      ];
    }

-- a run that is committed is past
past_committed : (start : Start) (older : List EngineLine) (tid : Tid) (run : Run) (n : ℕ) (key : Key) → start.kind ≡ Validation → IsStart start → IsRight start older → IsSealed start older tid run n →
    has_written key run ≡ true → IsPast start (Commits tid ∷ older) key (record { tid = run.tid; number = number run; moment = counter start older })
past_committed start older tid run n key kind starts right sealed done =
    let is = number_is run n sealed.1 in
    let kept = ((counted start older starts right).unended tid run sealed.0).sealed n sealed.1 in
    record {
      number_kept = omega (arith, kept.1, is);
      moment_kept = omega arith;
      above = λ u m w. elim (at_line start older (Commits tid) u w.run w.at) [
        | inl other ↦
            let mine : IsSealedWriter (run_at start older tid) key n = record { run = run; at = sealed.0; sealed = sealed.1; wrote = done } in
            let its : IsSealedWriter (run_at start older u) key m = record { run = w.run; at = other.1; sealed = w.sealed; wrote = w.wrote } in
            let one = one_writer start older kind starts right key tid u n m mine its in
            let bad : true ≡ false = sym (same_tid-refl tid) ∙ (ap (λ (t : Tid). same_tid tid t) one ∙ other.0) in cc
        | inr mine ↦ let none = mine.1 in cc
      ];
    }

-- what a commit leaves of the last writer
pub last_committed : (start : Start) (older : List EngineLine) (tid : Tid) (run : Run) (key : Key) → run_at start older tid ≡ Some run →
    last_writer start (Commits tid ∷ older) key ≡ cond (has_written key run) (Some (record { tid = run.tid; number = number run; moment = counter start older })) (last_writer start older key)
last_committed start older tid run key at = ap (λ (o : Option Run). ended_last (counter start older) key o (last_writer start older key)) at

pub last_past : (start : Start) (lines : List EngineLine) → start.kind ≡ Validation → IsStart start → IsRight start lines → (key : Key) (ended : Ended) → last_writer start lines key ≡ Some ended → IsPast start lines key ended
last_past start [] kind starts right key ended is = cc
last_past start (Commits tid ∷ older) kind starts right key ended is =
    let run = right.0.0 in
    let n = right.0.1 in
    by_wrote (has_written key run) refl (sym (last_committed start older tid run key right.0.2.0) ∙ is) (last_past start older kind starts right.1 key ended)
  where
    by_wrote : (b : Bool) → has_written key right.0.0 ≡ b → cond b (Some (record { tid = right.0.0.tid; number = number right.0.0; moment = counter start older })) (last_writer start older key) ≡ Some ended →
        (last_writer start older key ≡ Some ended → IsPast start older key ended) → IsPast start (Commits tid ∷ older) key ended
    by_wrote true done is rest =
        subst (λ (e : Ended). IsPast start (Commits tid ∷ older) key e) (same_Some _ ended is) (past_committed start older tid right.0.0 right.0.1 key kind starts right.1 right.0.2 done)
    by_wrote false done is rest = past_on start older (Commits tid) key ended kind right.0 (rest is)
last_past start (line ∷ older) kind starts right key ended is = past_on start older line key ended kind right.0 (last_past start older kind starts right.1 key ended is)

-- the last writer of those that ended since a run of this age began
pub record IsLastSince (since : List Run) (last : Option Ended) (age : ℕ) (key : Key) : Type 0 where
  pub there : (ended : Ended) → last ≡ Some ended → age ≤ ended.moment → (y : Run) × Is y since × (has_written key y ≡ true) × (y.tid ≡ ended.tid) × (number y ≡ ended.number)
  pub below : (y : Run) → Is y since → has_written key y ≡ true →
      (ended : Ended) × (last ≡ Some ended) × (age ≤ ended.moment) × (number y ≤ ended.number) × (number y ≡ ended.number → y.tid ≡ ended.tid)

-- a line that begins nothing leaves its run's age
goes_on : (start : Start) (older : List EngineLine) (line : EngineLine) (t : Tid) (me : Run) → ((tid : Tid) (n : ℕ) → line ≡ Begins tid n → ⊥) → run_at start (line ∷ older) t ≡ Some me →
    (was : Run) × (run_at start older t ≡ Some was) × (was.age ≡ me.age)
goes_on start older line t me other at =
    elim (own_or_other start line older t me at) [
      | inl mine ↦ elim (through_line line (run_at start older t) me mine.1) [
        | inl begun ↦ absurd (other begun.tid begun.number begun.line_is)
        | inr on ↦ (on.run, on.was, sym on.age)
      ]
      | inr another ↦ (me, another.1, refl)
    ]

since_committed : (since : List Run) (last : Option Ended) (age moment : ℕ) (key : Key) (run : Run) → age ≤ moment → ((ended : Ended) → last ≡ Some ended → has_written key run ≡ true → ended.number < number run) →
    IsLastSince since last age key → IsLastSince (run ∷ since) (cond (has_written key run) (Some (record { tid = run.tid; number = number run; moment = moment })) last) age key
since_committed since last age moment key run old above h = by_wrote (has_written key run) refl
  where
    now : Ended
    now = record { tid = run.tid; number = number run; moment = moment }

    by_wrote : (b : Bool) → has_written key run ≡ b → IsLastSince (run ∷ since) (cond b (Some (record { tid = run.tid; number = number run; moment = moment })) last) age key
    by_wrote true done = record {
      there = λ ended is le. let same = same_Some now ended is in (run, inl refl, done, ap (λ (e : Ended). e.tid) same, ap (λ (e : Ended). e.number) same);
      below = λ y member also. elim member [
        | inl same ↦ (now, refl, old, (let n : number run ≡ number y = ap (λ (r : Run). number r) same in omega arith), λ e. ap (λ (r : Run). r.tid) (sym same))
        | inr more ↦
            let b = h.below y more also in
            let lt = above b.0 b.1 done in
            let le = b.3 in
            (now, refl, old, omega arith, λ e. let n : number y ≡ number run = e in absurd (omega arith))
      ];
    }
    by_wrote false none = record {
      there = λ ended is le. let t = h.there ended is le in (t.0, inr t.1, t.2, t.3, t.4);
      below = λ y member also. elim member [
        | inl same ↦ let bad : false ≡ true = sym none ∙ (ap (λ (r : Run). has_written key r) same ∙ also) in cc
        | inr more ↦ h.below y more also
      ];
    }

pub last_since : (start : Start) (lines : List EngineLine) → start.kind ≡ Validation → IsStart start → IsRight start lines → (key : Key) (t : Tid) (me : Run) → run_at start lines t ≡ Some me →
    IsLastSince (committed_since start lines t) (last_writer start lines key) me.age key
last_since start [] kind starts right key t me at = record { there = λ ended is le. cc; below = λ y member done. absurd member }
last_since start (Begins tid n ∷ older) kind starts right key t me at =
    elim (at_line start older (Begins tid n) t me at) [
      | inl other ↦ subst (λ (runs : List Run). IsLastSince runs (last_writer start older key) me.age key) (sym (cond-false _ _ _ other.0)) (last_since start older kind starts right.1 key t me other.1)
      | inr mine ↦
          let mine_is : same_tid tid t ≡ true = ap (λ (u : Tid). same_tid tid u) (sym mine.0) ∙ same_tid-refl tid in
          let age : n ≡ me.age = ap (λ (r : Run). r.age) (same_Some _ me mine.1) in
          subst (λ (runs : List Run). IsLastSince runs (last_writer start older key) me.age key) (sym (cond-true _ _ _ mine_is))
          (record {
            there = λ ended is le.
                let kept = (last_past start older kind starts right.1 key ended is).moment_kept in
                let next = right.0.1 in
                absurd (omega arith);
            below = λ y member done. absurd member;
          })
    ]
last_since start (Commits tid ∷ older) kind starts right key t me at =
    let run = right.0.0 in
    let n = right.0.1 in
    let sealed = right.0.2 in
    elim (at_line start older (Commits tid) t me at) [
      | inl other ↦
          subst (λ (o : Option Run). IsLastSince (with_some o (committed_since start older t)) (ended_last (counter start older) key o (last_writer start older key)) me.age key) (sym sealed.0)
          (since_committed (committed_since start older t) (last_writer start older key) me.age (counter start older) key run (age-le start older t me starts right.1 other.1)
          (λ ended is done.
          let lt = (last_past start older kind starts right.1 key ended is).above tid n (record { run = run; at = sealed.0; sealed = sealed.1; wrote = done }) in
          let its = number_is run n sealed.1 in
          omega arith)
          (last_since start older kind starts right.1 key t me other.1))
      | inr mine ↦ let none = mine.1 in cc
    ]
last_since start (Acts tid act reply ∷ older) kind starts right key t me at =
    let was = goes_on start older (Acts tid act reply) t me (λ u n e. cc) at in
    subst (λ (age : ℕ). IsLastSince (committed_since start older t) (last_writer start older key) age key) was.2 (last_since start older kind starts right.1 key t was.0 was.1)
last_since start (Takes tid reply ∷ older) kind starts right key t me at =
    let was = goes_on start older (Takes tid reply) t me (λ u n e. cc) at in
    subst (λ (age : ℕ). IsLastSince (committed_since start older t) (last_writer start older key) age key) was.2 (last_since start older kind starts right.1 key t was.0 was.1)
last_since start (Seals tid n ∷ older) kind starts right key t me at =
    let was = goes_on start older (Seals tid n) t me (λ u m e. cc) at in
    subst (λ (age : ℕ). IsLastSince (committed_since start older t) (last_writer start older key) age key) was.2 (last_since start older kind starts right.1 key t was.0 was.1)
last_since start (Refuses tid why ∷ older) kind starts right key t me at =
    let was = goes_on start older (Refuses tid why) t me (λ u n e. cc) at in
    subst (λ (age : ℕ). IsLastSince (committed_since start older t) (last_writer start older key) age key) was.2 (last_since start older kind starts right.1 key t was.0 was.1)
last_since start (Aborts tid ∷ older) kind starts right key t me at =
    let was = goes_on start older (Aborts tid) t me (λ u n e. cc) at in
    subst (λ (age : ℕ). IsLastSince (committed_since start older t) (last_writer start older key) age key) was.2 (last_since start older kind starts right.1 key t was.0 was.1)
