-- A line of the coordinator keeps its part of the invariant: what was begun, decided, committed and initiated.
use Rattle.std.proofs.Common.{◌≡◌, ◌<◌, inl, inr, Bool, true, false, cond, not, is_some, arith, Some, None, List, [], ◌∷◌, ◌++◌, refl, sym, ap, subst, ◌∙◌}
use Rattle.std.proofs.lemmas.Bool.{and_parts, not-true}
use Rattle.mdb_base.specs.declared.names.Tid.{Tid}
use Rattle.mdb_base.specs.Words.{Among}
use Rattle.mdb_base.proofs.ForCallers.{among_split, tests_agree}
use Rattle.presumptions.specs.declared.Decision.{Decision}
use Rattle.presumptions.specs.declared.Decision.TheVariants as Decided
use Rattle.presumptions.specs.declared.Participant.{Participant}
use Rattle.fed_rules.specs.declared.answers.Answer.TheVariants as Say
use Rattle.fed_rules.specs.declared.events.CoordEvent.{CoordEvent}
use Rattle.fed_rules.specs.declared.records.CoordRecord.{CoordRecord}
use Rattle.fed_rules.specs.declared.records.CoordRecord.TheVariants as Rec
use Rattle.fed_rules.specs.CoordPast.{CoordHappening, CoordPast, records, Undecided, Decided, Gone, standing_of, standing, begins, participants, participants_of, program, visits, attempts_of, begun_by, begun_tids, vote_at}
use Rattle.fed_rules.specs.CoordRecords.{named, has_commit, has_end, outcome, required, is_nobody, is_kept}
use Rattle.coord_laws.specs.Pasts.{IsNumbered}
use Rattle.coord_laws.specs.Records.{IsCommit}
use Rattle.fed_rules.proofs.ForCallers.{appended}
use Rattle.order_laws.proofs.ForCallers.{each_not, same_of}
use Rattle.coord_laws.proofs.Begun.{begun_number, more_attempts}
use Rattle.coord_laws.proofs.Facts.{is_undecided, IsOpen, IsUnmarked, IsCommitting, WroteAll, Same, Starts, Decides, Forgets, Restarts}
use Rattle.coord_laws.proofs.Lines.{Kept, Stood, Stopped, Through, Line}
use Rattle.coord_laws.proofs.RecordLists.{commit_among, among_commit, named_behind, named_some, required_named, ends_silent, decided_outcome, those_among}
use Rattle.fed_rules.specs.Happenings.{quiet}
use Rattle.coord_laws.proofs.Sound.{Declared, IsBegun, IsYes, IsMark, CoordSound, kept_from, kept_stays, end_commit, commit_mark, written_commit, written_named, kept_not_open, decided_not_open, still_open, begins_go, program_stays}
use Rattle.coord_laws.proofs.Taken.{vote_taken, each_of_at}

-- the next line of a coordinator of which the invariant holds
pub record Turn (protocols : List Participant) (member : Participant) (g : Tid) (past : CoordPast) (event : CoordEvent)
    (x : CoordHappening) : Type 0 where
  pub sound : CoordSound protocols member g past
  pub line : Line protocols g past event x
  pub numbered : IsNumbered past event

-- a line that begins the attempt is of a new one
pub begins_new : (protocols : List Participant) (member : Participant) (g : Tid) (past : CoordPast) (event : CoordEvent) (x : CoordHappening)
    → Turn protocols member g past event x → begins g x.answer ≡ true → g.attempt ≡ attempts_of past g.tx
begins_new protocols member g past event x t b =
    let go = begins_go protocols g past x t.line.stood b in subst (IsNumbered past) (sym t.line.is ∙ go.1) t.numbered

pub fresh : (protocols : List Participant) (member : Participant) (g : Tid) (past : CoordPast) (event : CoordEvent) (x : CoordHappening)
    → Turn protocols member g past event x → IsBegun past g → begins g x.answer ≡ false
fresh protocols member g past event x t begun = by_test (begins g x.answer) refl where
  by_test : (b : Bool) → begins g x.answer ≡ b → begins g x.answer ≡ false
  by_test false e = e
  by_test true e =
      let new = begins_new protocols member g past event x t e in
      let less = t.sound.numbered begun in
      let no : ⊥ = omega (arith, new, less) in absurd no

pub same_program : (protocols : List Participant) (member : Participant) (g : Tid) (past : CoordPast) (event : CoordEvent) (x : CoordHappening)
    → Turn protocols member g past event x → IsBegun past g → program (x ∷ past) g ≡ program past g
same_program protocols member g past event x t begun = program_stays g past x (fresh protocols member g past event x t begun)

-- what isn't open any more stays so
pub stays_closed : (protocols : List Participant) (member : Participant) (g : Tid) (past : CoordPast) (event : CoordEvent) (x : CoordHappening)
    → Turn protocols member g past event x → IsBegun past g → (IsOpen protocols past g → ⊥) → IsOpen protocols (x ∷ past) g → ⊥
stays_closed protocols member g past event x t begun closed h = elim (still_open protocols g past x t.line.stood h) [
  | inl b ↦ let f = fresh protocols member g past event x t begun in let no : true ≡ false = sym b ∙ f in cc
  | inr o ↦ closed o
]

-- and its outcome too
pub same_outcome : (protocols : List Participant) (member : Participant) (g : Tid) (past : CoordPast) (event : CoordEvent) (x : CoordHappening)
    → Turn protocols member g past event x → (IsOpen protocols past g → ⊥) → outcome (records (x ∷ past)) g ≡ outcome (records past) g
same_outcome protocols member g past event x t closed =
    ap (λ b. cond b Decided.Commit Decided.Abort)
    (tests_agree (has_commit (records (x ∷ past)) g) (has_commit (records past) g)
    (λ e. among_commit g (records past) (back (commit_among g (records (x ∷ past)) e)))
    (λ e. among_commit g (records (x ∷ past)) (kept_stays protocols g past event (records (x ∷ past)) (IsCommit g)
    (end_commit g) t.line.kept (commit_among g (records past) e))))
  where
    back : Among (IsCommit g) (records (x ∷ past)) → Among (IsCommit g) (records past)
    back m = elim (kept_from protocols g past event (records (x ∷ past)) (IsCommit g) t.line.kept m) [
      | inl i ↦ i
      | inr (kept, w, e, i) ↦ absurd (closed (written_commit protocols g past event kept w i).undecided)
    ]

pub turn_numbered : (protocols : List Participant) (member : Participant) (g : Tid) (past : CoordPast) (event : CoordEvent) (x : CoordHappening)
    → Turn protocols member g past event x → IsBegun (x ∷ past) g → g.attempt < attempts_of (x ∷ past) g.tx
turn_numbered protocols member g past event x t (inl b) =
    let new = begins_new protocols member g past event x t b in
    let one = begun_number g x.answer (begun_tids past) b in
    omega (arith, new, one)
turn_numbered protocols member g past event x t (inr begun) =
    let less = t.sound.numbered begun in
    let more = more_attempts g.tx (begun_by x.answer) (begun_tids past) in
    omega (arith, less, more)

pub turn_undecided : (protocols : List Participant) (member : Participant) (g : Tid) (past : CoordPast) (event : CoordEvent) (x : CoordHappening)
    → Turn protocols member g past event x → IsOpen protocols (x ∷ past) g → IsBegun (x ∷ past) g
turn_undecided protocols member g past event x t h = elim (still_open protocols g past x t.line.stood h) [
  | inl b ↦ inl b
  | inr o ↦ inr (t.sound.undecided o)
]

-- the records name the participants
pub turn_named : (protocols : List Participant) (member : Participant) (g : Tid) (past : CoordPast) (event : CoordEvent) (x : CoordHappening)
    → Turn protocols member g past event x → (ms : List Participant) → named protocols (records (x ∷ past)) g ≡ Some ms
    → IsBegun (x ∷ past) g × (ms ≡ participants protocols (x ∷ past) g)
turn_named protocols member g past event x t ms m = by_kept t.line.kept where
  now : IsBegun past g → ms ≡ participants protocols past g
      → IsBegun (x ∷ past) g × (ms ≡ participants protocols (x ∷ past) g)
  now begun e = (
    inr begun,
    e ∙ ap (participants_of protocols)
        (sym (same_program protocols member g past event x t begun)),
  )

  old : named protocols (records past) g ≡ Some ms
      → IsBegun (x ∷ past) g × (ms ≡ participants protocols (x ∷ past) g)
  old e = let r = t.sound.names ms e in now r.0 r.1

  by_kept : Kept protocols g past event (records (x ∷ past))
      → IsBegun (x ∷ past) g × (ms ≡ participants protocols (x ∷ past) g)
  by_kept (inl (kept, w, e)) = elim
      (written_named protocols g past event ms kept w (sym (ap (λ rs. named protocols rs g) e) ∙ m)) [
        | inl i ↦ old i
        | inr (o, is) ↦ now (t.sound.undecided o) is
      ]
  by_kept (inr (newer, each, e)) =
      old (ap (λ rs. named protocols rs g) e
      ∙ named_behind protocols g newer (records (x ∷ past)) (ends_silent g newer each) ∙ m)

-- a record that a line appends is of an attempt that was begun
written_begun : (protocols : List Participant) (member : Participant) (g : Tid) (past : CoordPast) (event : CoordEvent) (kept : List CoordRecord)
    → CoordSound protocols member g past → WroteAll protocols g past event kept → Among (IsMark g) kept → IsBegun past g
written_begun protocols member g past event [] s w m = absurd m
written_begun protocols member g past event (Rec.Commit t ks ∷ kept) s w (inl c) = s.undecided (w.0 (same_of t g c)).0.undecided
written_begun protocols member g past event (Rec.End t ∷ kept) s w (inl c) =
    let r = w.0 (same_of t g c) in (s.decided r.decision r.known).0
written_begun protocols member g past event (Rec.Initiation t ms ∷ kept) s w (inl c) = absurd c
written_begun protocols member g past event (Rec.Abort t ms ∷ kept) s w (inl c) = absurd c
written_begun protocols member g past event (Rec.Checkpoint sum ∷ kept) s w (inl c) = absurd c
written_begun protocols member g past event (r ∷ kept) s w (inr m) = written_begun protocols member g past event kept s w.1 m

unmarked : (g : Tid) (r : CoordRecord) → IsUnmarked g r → IsMark g r → ⊥
unmarked g (Rec.Commit t ks) u m = let s = same_of t g m in cc
unmarked g (Rec.End t) u m = let s = same_of t g m in cc
unmarked g (Rec.Initiation t ms) u m = m
unmarked g (Rec.Abort t ms) u m = m
unmarked g (Rec.Checkpoint sum) u m = m

-- an attempt with a Commit or End record isn't open
pub turn_marked : (protocols : List Participant) (member : Participant) (g : Tid) (past : CoordPast) (event : CoordEvent) (x : CoordHappening)
    → Turn protocols member g past event x → Among (IsMark g) (records (x ∷ past)) → IsBegun (x ∷ past) g × (IsOpen protocols (x ∷ past) g → ⊥)
turn_marked protocols member g past event x t m = (
  elim (kept_from protocols g past event (records (x ∷ past)) (IsMark g) t.line.kept m) [
    | inl i ↦ inr (t.sound.marked i).0
    | inr (kept, w, e, i) ↦ inr (written_begun protocols member g past event kept t.sound w i)
  ],
  (λ h. by_stood t.line.stood h),
) where
  by_stood : Stood protocols g past x → IsOpen protocols (x ∷ past) g → ⊥
  by_stood (Stopped b e a stop) h = kept_not_open protocols (records (x ∷ past)) g (ap is_undecided (sym e) ∙ h)
  by_stood (Through (Same e b u a) r) h = elim
      (among_split (IsMark g) (appended x.calls []) (records past) (subst (Among (IsMark g)) r m)) [
        | inl i ↦ each_not (IsUnmarked g) (IsMark g) (unmarked g) (appended x.calls []) u i
        | inr i ↦ (t.sound.marked i).1 (ap is_undecided (sym e) ∙ h)
      ]
  by_stood (Through (Starts b e n steps v) r) h =
      let old : Among (IsMark g) (records past) = subst (Among (IsMark g)) (r ∙ ap (λ news. news ++ records past) n) m in
      let f = fresh protocols member g past event x t (t.sound.marked old).0 in
      let no : true ≡ false = sym b ∙ f in cc
  by_stood (Through (Decides d f o b e n by a) r) h = decided_not_open f d (ap is_undecided (sym e) ∙ h)
  by_stood (Through (Forgets d o b e n ends a) r) h = let no : is_undecided Gone ≡ true = ap is_undecided (sym e) ∙ h in cc
  by_stood (Through (Restarts b e a stop) r) h = kept_not_open protocols (records (x ∷ past)) g (ap is_undecided (sym e) ∙ h)

pub uncommitted_of : (protocols : List Participant) (member : Participant) (g : Tid) (past : CoordPast) → CoordSound protocols member g past → IsOpen protocols past g
    → has_commit (records past) g ≡ false
uncommitted_of protocols member g past s o = by_test (has_commit (records past) g) refl where
  by_test : (b : Bool) → has_commit (records past) g ≡ b → has_commit (records past) g ≡ false
  by_test false e = e
  by_test true e = absurd ((s.marked (commit_mark g (records past) (commit_among g (records past) e))).1 o)

-- a known decision is the outcome
pub turn_decided : (protocols : List Participant) (member : Participant) (g : Tid) (past : CoordPast) (event : CoordEvent) (x : CoordHappening)
    → Turn protocols member g past event x → (d : Decision) → standing protocols (x ∷ past) g ≡ Decided d
    → IsBegun (x ∷ past) g × (d ≡ outcome (records (x ∷ past)) g)
turn_decided protocols member g past event x t d is = by_stood t.line.stood where
  -- behind a stop or a start
  by_kept : (b : Bool) → is_kept protocols (records (x ∷ past)) g ≡ b
      → standing_of false (cond b (Some (outcome (records (x ∷ past)) g)) None) ≡ Decided d
      → IsBegun (x ∷ past) g × (d ≡ outcome (records (x ∷ past)) g)
  by_kept false k h = cc
  by_kept true k h =
      let kept = records (x ∷ past) in
      let somebody = not-true (is_nobody (required protocols kept g (outcome kept g))) (and_parts
      (not (has_end kept g)) (not (is_nobody (required protocols kept g (outcome kept g)))) k).1 in
      let found = named_some (named protocols kept g)
      (required_named (outcome kept g) (named protocols kept g) somebody) in
      ((turn_named protocols member g past event x t found.0 found.1).0, cc)

  by_stood : Stood protocols g past x → IsBegun (x ∷ past) g × (d ≡ outcome (records (x ∷ past)) g)
  by_stood (Stopped b e a stop) = by_kept (is_kept protocols (records (x ∷ past)) g) refl (sym e ∙ is)
  by_stood (Through (Same e b u a) r) =
      let old = t.sound.decided d (sym e ∙ is) in (
        inr old.0,
        old.1 ∙ sym (same_outcome protocols member g past event x t
            (λ o. let no : is_undecided (Decided d) ≡ true = ap is_undecided (sym (sym e ∙ is)) ∙ o in cc)),
      )
  by_stood (Through (Starts b e n steps v) r) = let no : Undecided ≡ Decided d = sym e ∙ is in cc
  by_stood (Through (Decides made f o b e n by a) r) = (
    inr (t.sound.undecided o),
    (let same : made ≡ d = of_cond f (sym e ∙ is) in
        sym same ∙ sym (ap (λ rs. outcome rs g) r ∙ decided_outcome g made (appended x.calls []) (records past)
        (uncommitted_of protocols member g past t.sound o) by)),
  ) where
    of_cond : (b : Bool) → cond b Gone (Decided made) ≡ Decided d → made ≡ d
    of_cond true h = cc
    of_cond false h = cc
  by_stood (Through (Forgets made o b e n ends a) r) = let no : Gone ≡ Decided d = sym e ∙ is in cc
  by_stood (Through (Restarts b e a stop) r) = by_kept (is_kept protocols (records (x ∷ past)) g) refl (sym e ∙ is)

-- the site is a participant
pub is_participant : (protocols : List Participant) (member : Participant) (past : CoordPast) (g : Tid)
    → Among (λ m. (m.site ≡ member.site) × (m.protocol ≡ member.protocol)) protocols → visits member.site (program past g) ≡ true
    → Among (λ m. (m.site ≡ member.site) × (m.protocol ≡ member.protocol)) (participants protocols past g)
is_participant protocols member past g declared v =
    those_among (λ m. (m.site ≡ member.site) × (m.protocol ≡ member.protocol)) (λ m. visits m.site (program past g))
    (λ m is. ap (λ s. visits s (program past g)) is.0 ∙ v) protocols declared

-- a commit was voted for by the site
pub turn_voted : (protocols : List Participant) (member : Participant) (g : Tid) (past : CoordPast) (event : CoordEvent) (x : CoordHappening)
    → Turn protocols member g past event x → Declared protocols member → Among (IsCommit g) (records (x ∷ past))
    → visits member.site (program (x ∷ past) g) ≡ true → Among (λ y. IsYes g member.site y.event) (x ∷ past)
turn_voted protocols member g past event x t declared m v = elim
    (kept_from protocols g past event (records (x ∷ past)) (IsCommit g) t.line.kept m) [
      | inl i ↦
          let begun = (t.sound.marked (commit_mark g (records past) i)).0 in
          inr (t.sound.voted declared i (ap (visits member.site) (sym (same_program protocols member g past event x t begun)) ∙ v))
      | inr (kept, w, e, i) ↦ by_commit (written_commit protocols g past event kept w i)
    ] where
      by_commit : IsCommitting protocols g past event → Among (λ y. IsYes g member.site y.event) (x ∷ past)
      by_commit c =
          let visited = ap (visits member.site) (sym (same_program protocols member g past event x t (t.sound.undecided c.undecided))) ∙ v in
          let now : CoordPast = quiet event Say.Voted ∷ past in
          let voted = each_of_at (λ s. is_some (vote_at now g s)) member.site (λ k. (k.site ≡ member.site) × (k.protocol ≡ member.protocol))
          (λ k is. is.0)
          (participants protocols past g) c.all (is_participant protocols member past g declared visited) in
          elim (vote_taken now g member.site voted) [
            | inl y ↦ inl (y.0, t.line.is ∙ y.1)
            | inr i ↦ inr i
          ]
