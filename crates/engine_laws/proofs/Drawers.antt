-- Each number was drawn by one attempt, so runs with one age, or with one serial number, are of one attempt.
use Rattle.std.proofs.Common.{◌≡◌, ℕ, ◌<◌, ◌≤◌, ◌⊎◌, Bool, true, false, cond, ◌==◌, Option, Some, None, List, [], ◌∷◌, refl, sym, ap, ◌∙◌, subst, inl, inr, arith, eq-eqb, ne_eqb, eqb-true}
use Rattle.mdb_base.specs.declared.names.Tid.{Tid}
use Rattle.mdb_base.specs.Names.{same_tid}
use Rattle.mdb_base.specs.Words.{Each, with_some}
use Rattle.mdb_base.proofs.ForCallers.{each_map}
use Rattle.fed_rules.specs.declared.runs.Kept.{Kept}
use Rattle.fed_rules.specs.Runs.{Start, EngineLine, Begins, Seals, Commits, Run, tid_of, restored, run_at, counter, number, committed, aborted, committed_since, gives_up}
use Rattle.fed_rules.specs.Replies.{Drawn, AtBegin, AtSealing, rule, number_drawn}
use Rattle.fed_rules.specs.EngineLines.{IsRight, IsRightLine, IsStart, AreApart, AllApart, IsNumbered, IsSealed}
use Rattle.engine_laws.specs.Unended.{EachRun}
use Rattle.engine_laws.proofs.Runs.{Own, begins, stays, got, wrote, takes, seals, own, each_run, each_restored, each_committed, tid_is, number_is}
use Rattle.engine_laws.proofs.Counted.{counter_grows}

-- the attempt of a restored run with this number
abbrev pub drawer_among : List Kept → ℕ → Option Tid
drawer_among [] n = None
drawer_among (kept ∷ more) n = cond (kept.number == n) (Some kept.tid) (drawer_among more n)

-- the attempt that drew the number
abbrev pub drawer : Start → List EngineLine → ℕ → Option Tid
drawer start [] n = drawer_among start.doubtful n
drawer start (Begins tid m ∷ older) n = cond (m == n) (Some tid) (drawer start older n)
drawer start (Seals tid m ∷ older) n = cond (m == n) (Some tid) (drawer start older n)
drawer start (line ∷ older) n = drawer start older n

-- the run's attempt drew its numbers, none above this counter
pub record IsDrawer (start : Start) (lines : List EngineLine) (run : Run) : Type 0 where
  pub age_kept : run.age ≤ counter start lines
  pub age : drawer start lines run.age ≡ Some run.tid
  pub sealed_kept : (n : ℕ) → run.sealed ≡ Some n → n ≤ counter start lines
  pub sealed : (n : ℕ) → run.sealed ≡ Some n → drawer start lines n ≡ Some run.tid

-- runs of one age are of one attempt
pub same_age : (start : Start) (lines : List EngineLine) (a b : Run) → IsDrawer start lines a → IsDrawer start lines b
    → a.age ≡ b.age → a.tid ≡ b.tid
same_age start lines a b drew_a drew_b same =
    let x = drew_a.age in
    let y = drew_b.age in
    let both : Some a.tid ≡ Some b.tid = sym x ∙ ap (drawer start lines) same ∙ y in cc

-- runs of one serial number are of one attempt
pub same_number : (start : Start) (lines : List EngineLine) (a b : Run) (n : ℕ) → IsDrawer start lines a → IsDrawer start lines b
    → a.sealed ≡ Some n → b.sealed ≡ Some n → a.tid ≡ b.tid
same_number start lines a b n drew_a drew_b sealed_a sealed_b =
    let both : Some a.tid ≡ Some b.tid = sym (drew_a.sealed n sealed_a) ∙ drew_b.sealed n sealed_b in cc

-- a line leaves each drawer: the number of a sealing is the next one, or the run's own
sealing_keeps : (drawn : Drawn) (start : Start) (older : List EngineLine) (tid t : Tid) (run : Run) (m n : ℕ)
    → IsDrawer start older run → run.tid ≡ tid
    → m ≡ number_drawn drawn start older run → n ≤ counter start older → drawer start older n ≡ Some t
    → drawer start (Seals tid m ∷ older) n ≡ Some t
sealing_keeps AtSealing start older tid t run m n drew is_tid next kept e =
    ap (λ b. cond b (Some tid) (drawer start older n)) (ne_eqb m n (λ same. absurd (omega arith))) ∙ e
sealing_keeps AtBegin start older tid t run m n drew is_tid next kept e = by_test (m == n) refl
  where
    by_test : (b : Bool) → (m == n) ≡ b → cond b (Some tid) (drawer start older n) ≡ Some t
    by_test true is =
        let age : run.age ≡ n = sym next ∙ eqb-true m n is in
        ap Some (sym is_tid) ∙ sym drew.age ∙ ap (drawer start older) age ∙ e
    by_test false is = e

pub drawer_keeps : (start : Start) (older : List EngineLine) (line : EngineLine) (t : Tid) (n : ℕ) → IsRightLine start older line
    → IsRight start older → EachRun start older (IsDrawer start older)
    → n ≤ counter start older → drawer start older n ≡ Some t → drawer start (line ∷ older) n ≡ Some t
drawer_keeps start older (Begins tid m) t n (free, next) right drew kept e =
    ap (λ b. cond b (Some tid) (drawer start older n)) (ne_eqb m n (λ same. absurd (omega arith))) ∙ e
drawer_keeps start older (Seals tid m) t n (run, (live, stop, next)) right drew kept e =
    sealing_keeps (rule start.kind).drawn start older tid t run m n (drew tid run live.0) (tid_is start older right tid run live.0) next kept e
drawer_keeps start older line t n line_right right drew kept e = e

drew_next : (start : Start) (older : List EngineLine) (line : EngineLine) (r : Run) → IsRightLine start older line
    → IsRight start older → EachRun start older (IsDrawer start older)
    → IsDrawer start older r → IsDrawer start (line ∷ older) r
drew_next start older line r line_right right drew h =
    let grows = counter_grows start older line in
    record {
      age_kept = let kept = h.age_kept in omega arith;
      age = drawer_keeps start older line r.tid r.age line_right right drew h.age_kept h.age;
      sealed_kept = λ n e. let kept = h.sealed_kept n e in omega arith;
      sealed = λ n e. drawer_keeps start older line r.tid n line_right right drew (h.sealed_kept n e) (h.sealed n e);
    }

own_drew : (start : Start) (older : List EngineLine) (line : EngineLine) (r : Run) → IsRightLine start older line
    → IsRight start older → EachRun start older (IsDrawer start older)
    → Own start older line r → IsDrawer start (line ∷ older) r
own_drew start older (Begins tid n) r line_right right drew (begins free next) = record {
  age_kept = omega arith;
  age = ap (λ b. cond b (Some tid) (drawer start older n)) (eq-eqb n n refl);
  sealed_kept = λ m e. cc;
  sealed = λ m e. cc;
}
own_drew start older line r line_right right drew (stays waits at) =
    drew_next start older line r line_right right drew (drew _ r at)
own_drew start older line r line_right right drew (got run live is) =
    let old = drew_next start older line run line_right right drew (drew _ run live.0) in
    record { age_kept = old.age_kept; age = old.age; sealed_kept = old.sealed_kept; sealed = old.sealed }
own_drew start older line r line_right right drew (wrote run live is) =
    let old = drew_next start older line run line_right right drew (drew _ run live.0) in
    record { age_kept = old.age_kept; age = old.age; sealed_kept = old.sealed_kept; sealed = old.sealed }
own_drew start older line r line_right right drew (takes run live is) =
    let old = drew_next start older line run line_right right drew (drew _ run live.0) in
    record { age_kept = old.age_kept; age = old.age; sealed_kept = old.sealed_kept; sealed = old.sealed }
own_drew start older (Seals tid m) r line_right right drew (seals run live stop next) =
    let old = drew_next start older (Seals tid m) run line_right right drew (drew tid run live.0) in
    record {
      age_kept = old.age_kept;
      age = old.age;
      sealed_kept = λ n e. let same : m ≡ n = cc in omega arith;
      sealed = λ n e.
          let same : m ≡ n = cc in
          subst (λ x. cond (m == x) (Some tid) (drawer start older x) ≡ Some run.tid) same
          (ap (λ b. cond b (Some tid) (drawer start older m)) (eq-eqb m m refl)
          ∙ ap Some (sym (tid_is start older right tid run live.0)));
    }

-- a fact of each aborted run after a line
pub each_aborted : (start : Start) (older : List EngineLine) (line : EngineLine) (P : Run → Type 0)
    → ((run : Run) → run_at start older (tid_of line) ≡ Some run → P run) → Each P (aborted start older)
    → Each P (aborted start (line ∷ older))
each_aborted start older line P here h = by_test (gives_up line)
  where
    by_run : (o : Option Run) → run_at start older (tid_of line) ≡ o → Each P (with_some o (aborted start older))
    by_run None is = h
    by_run (Some run) is = (here run is, h)

    by_test : (b : Bool) → Each P (cond b (with_some (run_at start older (tid_of line)) (aborted start older))
        (aborted start older))
    by_test true = by_run (run_at start older (tid_of line)) refl
    by_test false = h

-- a fact of each run that committed since an attempt began, after a line
pub each_since : (start : Start) (older : List EngineLine) (line : EngineLine) (tid : Tid) (P : Run → Type 0)
    → IsRightLine start older line
    → ((run : Run) (n : ℕ) → IsSealed start older (tid_of line) run n → P run) → Each P (committed_since start older tid)
    → Each P (committed_since start (line ∷ older) tid)
each_since start older (Begins begun n) tid P right here h = by_test (same_tid begun tid)
  where
    by_test : (b : Bool) → Each P (cond b [] (committed_since start older tid))
    by_test true = tt
    by_test false = h
each_since start older (Commits ended) tid P (run, n, sealed) here h =
    subst (λ o. Each P (with_some o (committed_since start older tid))) (sym sealed.0) (here run n sealed, h)
each_since start older line tid P right here h = h

-- every run drew its numbers: the unended, the committed and the aborted ones
pub record AllDrew (start : Start) (lines : List EngineLine) : Type 0 where
  pub unended : EachRun start lines (IsDrawer start lines)
  pub committed : Each (IsDrawer start lines) (committed start lines)
  pub aborted : Each (IsDrawer start lines) (aborted start lines)
  pub since : (tid : Tid) → Each (λ run. IsDrawer start lines run × (run.sealed ≡ Some (number run)))
      (committed_since start lines tid)

drawers_start : (doubtful : List Kept) → AllApart doubtful
    → Each (λ kept. drawer_among doubtful kept.number ≡ Some kept.tid) doubtful
drawers_start [] apart = tt
drawers_start (kept ∷ more) apart = (
  ap (λ b. cond b (Some kept.tid) (drawer_among more kept.number)) (eq-eqb kept.number kept.number refl),
  rest more apart.0 (drawers_start more apart.1),
)
  where
    differ : (other : Kept) → ((kept.number < other.number) × (kept.ticket < other.ticket))
        ⊎ ((other.number < kept.number) × (other.ticket < kept.ticket)) → kept.number ≡ other.number → ⊥
    differ other (inl less) e = absurd (omega (arith, less.0))
    differ other (inr more) e = absurd (omega (arith, more.0))

    rest : (others : List Kept) → Each (AreApart kept) others
        → Each (λ other. drawer_among more other.number ≡ Some other.tid) others
        → Each (λ other. drawer_among (kept ∷ more) other.number ≡ Some other.tid) others
    rest [] apart h = tt
    rest (other ∷ others) apart h = (
      ap (λ b. cond b (Some kept.tid) (drawer_among more other.number))
          (ne_eqb kept.number other.number (differ other apart.0.order)) ∙ h.0,
      rest others apart.1 h.1,
    )

pub all_drew : (start : Start) (lines : List EngineLine) → IsStart start → IsRight start lines → AllDrew start lines
all_drew start [] begun right = record {
  unended = each_restored (IsDrawer start []) start.doubtful
      (both start.doubtful begun.numbered (drawers_start start.doubtful begun.apart));
  committed = tt;
  aborted = tt;
  since = λ tid. tt;
}
  where
    both : (doubtful : List Kept) → Each (IsNumbered start) doubtful
        → Each (λ kept. drawer_among start.doubtful kept.number ≡ Some kept.tid) doubtful
        → Each (λ kept. IsDrawer start [] (restored kept)) doubtful
    both [] numbered drew = tt
    both (kept ∷ more) numbered drew = (
      record {
        age_kept = numbered.0.number_kept;
        age = drew.0;
        sealed_kept = λ n e. let same : kept.number ≡ n = cc in let kept_too = numbered.0.number_kept in omega arith;
        sealed = λ n e. let same : kept.number ≡ n = cc in ap (drawer_among start.doubtful) (sym same) ∙ drew.0;
      },
      both more numbered.1 drew.1,
    )
all_drew start (line ∷ older) begun right =
    let h = all_drew start older begun right.1 in
    let next : (run : Run) → IsDrawer start older run → IsDrawer start (line ∷ older) run =
    λ run. drew_next start older line run right.0 right.1 h.unended in
    record {
      unended = each_run start older line (IsDrawer start (line ∷ older))
          (λ t r other was. next r (h.unended t r was))
          (λ r now. own_drew start older line r right.0 right.1 h.unended (own start older line r right.0 now));
      committed = each_committed start older line (IsDrawer start (line ∷ older)) right.0
          (λ run n is sealed. next run (h.unended _ run sealed.0))
          (each_map _ (IsDrawer start (line ∷ older)) next (committed start older) h.committed);
      aborted = each_aborted start older line (IsDrawer start (line ∷ older))
          (λ run at. next run (h.unended _ run at))
          (each_map _ (IsDrawer start (line ∷ older)) next (aborted start older) h.aborted);
      since = λ tid. each_since start older line tid (λ run. IsDrawer start (line ∷ older) run × (run.sealed ≡ Some (number run)))
          right.0
          (λ run n sealed. (next run (h.unended _ run sealed.0), sealed.1 ∙ ap Some (sym (number_is run n sealed.1))))
          (each_map _ (λ run. IsDrawer start (line ∷ older) run × (run.sealed ≡ Some (number run)))
          (λ run both. (next run both.0, both.1)) (committed_since start older tid) (h.since tid));
    }
