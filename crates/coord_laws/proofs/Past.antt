-- What holds of every past that events make of a coordinator.
use Rattle.std.proofs.Common.{◌≡◌, ◌⊎◌, Bool, true, false, cond, is_some, Option, Some, None, List, [], ◌∷◌, inl, inr, refl, sym, ap, subst, ◌∙◌, arith}
use Rattle.std.proofs.lemmas.Bool.{and_parts}
use Rattle.mdb_base.specs.declared.names.Tid.{Tid}
use Rattle.mdb_base.specs.Words.{Among, with_some, or_else}
use Rattle.mdb_base.proofs.ForCallers.{each_filtered, each_self}
use Rattle.order_laws.specs.Chains.{In, Distinct}
use Rattle.order_laws.proofs.ForCallers.{acyclic_no_cycle, bool_is, each_from, no_cycle_acyclic, same_of}
use Rattle.presumptions.specs.declared.Participant.{Participant}
use Rattle.presumptions.specs.declared.Protocol.TheVariants as By
use Rattle.fed_rules.specs.declared.events.CoordEvent.{CoordEvent}
use Rattle.fed_rules.specs.declared.records.CoordRecord.{CoordRecord}
use Rattle.fed_rules.specs.declared.records.CoordRecord.TheVariants as Rec
use Rattle.fed_rules.specs.CoordPast.{CoordHappening, CoordPast, disk, records, Standing, Undecided, Decided, Gone, standing, is_known, is_open, begun_by, begun_tids, program, visits}
use Rattle.fed_rules.specs.CoordRecords.{named, has_end, commits, recorded}
use Rattle.fed_rules.specs.Policies.{Policy}
use Rattle.fed_rules.proofs.ForCallers.{with_distinct, with_in}
use Rattle.coord_laws.specs.Laws.{BeginOnce, BeginInOrder, KnownAreBegun, UndecidedAreUnmarked, DecisionsAreOutcomes, DecidedAreAwaited, RecordsNameParticipants, RecordedAreBegun, ParticipantsAreDeclared, CommitOnce, CommitsCloseNoCycle}
use Rattle.coord_laws.specs.Pasts.{IsGoingOn, IsMadeByEvents, IsNextLine, OfPasts}
use Rattle.coord_laws.proofs.OpenedPasts.{is_cycle_free, is_numbered, is_once, is_sound}
use Rattle.coord_laws.proofs.Begun.{AreNumbered, begun_in, begins_some, numbered_below, below_listed, numbered_distinct}
use Rattle.coord_laws.proofs.Clear.{coord_turn}
use Rattle.coord_laws.proofs.Cycles.{IsFree, free_line, nothing_free}
use Rattle.coord_laws.proofs.Facts.{is_undecided}
use Rattle.coord_laws.proofs.Lines.{coord_lines}
use Rattle.coord_laws.proofs.Made.{IsMade}
use Rattle.coord_laws.proofs.MadeLines.{coord_made}
use Rattle.coord_laws.proofs.OneEach.{tids_of, committed_tid, accepted_distinct}
use Rattle.coord_laws.proofs.RecordLists.{end_among, named_more, named_some}
use Rattle.coord_laws.proofs.Rules.{open_undecided}
use Rattle.coord_laws.proofs.Sound.{IsMark, CoordSound, end_mark}
use Rattle.coord_laws.proofs.Standings.{AppendsCommit, last_vote_of}
use Rattle.coord_laws.proofs.Turns.{Turn, begins_new, uncommitted_of}

-- nothing holds of a past without lines that could fail
nothing_sound : (protocols : List Participant) (member : Participant) (g : Tid) → CoordSound protocols member g []
nothing_sound protocols member g = record {
  firm = record { sound = record { frames = omega arith; synced = omega arith }; loose = tt };
  numbered = (λ b. absurd b);
  undecided = (λ o. cc);
  marked = (λ m. absurd m);
  names = (λ ms e. cc);
  decided = (λ d e. cc);
  voted = (λ h m v. absurd m);
  ended = (λ m h a v. absurd m);
  gone = (λ e m h a v. cc);
  waits = (λ d e. cc);
}

-- the next line of a past
pub next_turn : (protocols : List Participant) (policy : Policy) (member : Participant) (g : Tid) (past : CoordPast) (x : CoordHappening)
    → (made : IsNextLine protocols policy past x) → CoordSound protocols member g past → Turn protocols member g past made.event x
next_turn protocols policy member g past x made s =
    subst (Turn protocols member g past made.event) (sym made.is)
    (record { sound = s; line = coord_lines protocols policy g past made.event s.firm; numbered = made.numbered })

-- what holds of one attempt and one member holds of every past
pub past_sound : (protocols : List Participant) (policy : Policy) (member : Participant) (g : Tid) (past : CoordPast)
    → IsGoingOn protocols policy past → CoordSound protocols member g past
past_sound protocols policy member g [] made = nothing_sound protocols member g
past_sound protocols policy member g (x ∷ past) (inl opened) = is_sound protocols (x ∷ past) opened member g
past_sound protocols policy member g (x ∷ past) (inr (next, made)) =
    coord_turn protocols member g past next.event x
    (next_turn protocols policy member g past x next (past_sound protocols policy member g past made))

-- what events make of nothing goes on
pub going_on : (protocols : List Participant) (policy : Policy) (past : CoordPast) → IsMadeByEvents protocols policy past → IsGoingOn protocols policy past
going_on protocols policy [] made = tt
going_on protocols policy (x ∷ past) (event, is, numbered, made) =
    inr (record { event = event; is = is; numbered = numbered }, going_on protocols policy past made)

-- any site, where nothing depends on it
pub any_member : Participant
any_member = record { site = record { 0 = 0 }; protocol = By.Nothing }

begun_numbered : (protocols : List Participant) (policy : Policy) (past : CoordPast) → IsGoingOn protocols policy past
    → AreNumbered (begun_tids past)
begun_numbered protocols policy [] made = tt
begun_numbered protocols policy (x ∷ past) (inl opened) = is_numbered protocols (x ∷ past) opened
begun_numbered protocols policy (x ∷ past) (inr (next, made)) = by_answer (begun_by x.answer) refl (begun_numbered protocols policy past made) where
  by_answer : (o : Option Tid) → begun_by x.answer ≡ o → AreNumbered (begun_tids past) → AreNumbered (with_some o (begun_tids past))
  by_answer None e n = n
  by_answer (Some g) e n = (
    begins_new protocols any_member g past next.event x
        (next_turn protocols policy any_member g past x next (past_sound protocols policy any_member g past made))
        (begins_some g x.answer e),
    n,
  )

pub begin_once : OfPasts BeginOnce
begin_once protocols policy past made = numbered_distinct (begun_tids past) (begun_numbered protocols policy past made)

pub begin_in_order : OfPasts BeginInOrder
begin_in_order protocols policy past made g =
    let n = begun_numbered protocols policy past made in
    (numbered_below (begun_tids past) g n, below_listed (begun_tids past) g n)

pub known_begun : OfPasts KnownAreBegun
known_begun protocols policy past made g k = by_standing (standing protocols past g) refl k where
  s : CoordSound protocols any_member g past
  s = past_sound protocols policy any_member g past made

  by_standing : (now : Standing) → standing protocols past g ≡ now → is_known now ≡ true → In g (begun_tids past)
  by_standing Undecided e k = begun_in past g (s.undecided (ap is_undecided e))
  by_standing (Decided d) e k = begun_in past g (s.decided d e).0
  by_standing Gone e k = cc

not_true : (b : Bool) → (b ≡ true → ⊥) → b ≡ false
not_true b not_so = elim (bool_is b) [ inl e ↦ absurd (not_so e) | inr e ↦ e ]

pub undecided_unmarked : OfPasts UndecidedAreUnmarked
undecided_unmarked protocols policy past made g u =
    let s = past_sound protocols policy any_member g past made in
    let o = ap is_undecided u in (
      uncommitted_of protocols any_member g past s o,
      not_true (has_end (records past) g) (λ e. (s.marked (end_mark g (records past) (end_among g (records past) e))).1 o),
    )

pub decisions_outcomes : OfPasts DecisionsAreOutcomes
decisions_outcomes protocols policy past made g d e = ((past_sound protocols policy any_member g past made).decided d e).1

pub decided_awaited : OfPasts DecidedAreAwaited
decided_awaited protocols policy past made g d e = (past_sound protocols policy any_member g past made).waits d e

pub records_name : OfPasts RecordsNameParticipants
records_name protocols policy past made g members e = ((past_sound protocols policy any_member g past made).names members e).1

recorded_differ : (rs : List CoordRecord) → Distinct (recorded rs)
recorded_differ [] = tt
recorded_differ (Rec.Initiation t ms ∷ rs) = with_distinct t (recorded rs) (recorded_differ rs)
recorded_differ (Rec.Commit t ks ∷ rs) = with_distinct t (recorded rs) (recorded_differ rs)
recorded_differ (Rec.Abort t ms ∷ rs) = with_distinct t (recorded rs) (recorded_differ rs)
recorded_differ (Rec.End t ∷ rs) = with_distinct t (recorded rs) (recorded_differ rs)
recorded_differ (Rec.Checkpoint sum ∷ rs) = recorded_differ rs

-- a record of the attempt names participants, or is a Commit or an End
abbrev IsSpokenOf : List Participant → Tid → List CoordRecord → Type 0
IsSpokenOf protocols g rs = (is_some (named protocols rs g) ≡ true) ⊎ Among (IsMark g) rs

spoken_more : (protocols : List Participant) (g : Tid) (r : CoordRecord) (rs : List CoordRecord) → IsSpokenOf protocols g rs
    → IsSpokenOf protocols g (r ∷ rs)
spoken_more protocols g r rs (inl n) = inl (named_more protocols g (r ∷ []) rs n)
spoken_more protocols g r rs (inr m) = inr (inr m)

recorded_spoken : (protocols : List Participant) (g : Tid) (rs : List CoordRecord) → In g (recorded rs) → IsSpokenOf protocols g rs
recorded_spoken protocols g [] i = absurd i
recorded_spoken protocols g (Rec.Initiation t ms ∷ rs) i = elim (with_in t g (recorded rs) i) [
  | inl own ↦ inl (ap (λ b. is_some (cond b (Some ms) (named protocols rs g))) (same_of t g own))
  | inr old ↦ spoken_more protocols g (Rec.Initiation t ms) rs (recorded_spoken protocols g rs old)
]
recorded_spoken protocols g (Rec.Abort t ms ∷ rs) i = elim (with_in t g (recorded rs) i) [
  | inl own ↦ inl (ap (λ b. is_some (cond b (Some (or_else (named protocols rs g) ms)) (named protocols rs g))) (same_of t g own))
  | inr old ↦ spoken_more protocols g (Rec.Abort t ms) rs (recorded_spoken protocols g rs old)
]
recorded_spoken protocols g (Rec.Commit t ks ∷ rs) i = elim (with_in t g (recorded rs) i) [
  | inl own ↦ inr (inl own)
  | inr old ↦ spoken_more protocols g (Rec.Commit t ks) rs (recorded_spoken protocols g rs old)
]
recorded_spoken protocols g (Rec.End t ∷ rs) i = elim (with_in t g (recorded rs) i) [
  | inl own ↦ inr (inl own)
  | inr old ↦ spoken_more protocols g (Rec.End t) rs (recorded_spoken protocols g rs old)
]
recorded_spoken protocols g (Rec.Checkpoint sum ∷ rs) i = spoken_more protocols g (Rec.Checkpoint sum) rs (recorded_spoken protocols g rs i)

pub recorded_begun : OfPasts RecordedAreBegun
recorded_begun protocols policy past made =
    (recorded_differ (records past), each_from (λ tid. In tid (begun_tids past)) (recorded (records past)) (λ g i. by_record g (recorded_spoken protocols g (records past) i)))
  where
    by_record : (g : Tid) → IsSpokenOf protocols g (records past) → In g (begun_tids past)
    by_record g (inl n) =
        let found = named_some (named protocols (records past) g) n in
        begun_in past g ((past_sound protocols policy any_member g past made).names found.0 found.1).0
    by_record g (inr m) = begun_in past g ((past_sound protocols policy any_member g past made).marked m).0

pub participants_declared : OfPasts ParticipantsAreDeclared
participants_declared protocols policy past made g =
    each_filtered (λ member. In member protocols) (λ member. visits member.site (program past g)) protocols (each_self protocols)

-- who is about to be committed has no Commit record
new_commit : (protocols : List Participant) (policy : Policy) (past : CoordPast) (event : CoordEvent) (x : CoordHappening)
    → IsGoingOn protocols policy past → IsMade protocols past event x → (g : Tid) → Among (AppendsCommit g) x.calls
    → In g (tids_of (records past)) → ⊥
new_commit protocols policy past event x before made g i old =
    let v = (last_vote_of protocols past event g x.calls made.writes i).1 in
    let undecided : is_open past g ≡ true = (and_parts _ _ v.is_counted).0 in
    let none = uncommitted_of protocols any_member g past (past_sound protocols policy any_member g past before) (open_undecided protocols past g undecided) in
    let some = committed_tid (records past) g old in
    let no : true ≡ false = sym some ∙ none in cc

-- what a line of such a past records, sends and counts
pub past_made : (protocols : List Participant) (policy : Policy) (past : CoordPast) (x : CoordHappening)
    → (made : IsNextLine protocols policy past x) → IsMade protocols past made.event x
past_made protocols policy past x made =
    subst (IsMade protocols past made.event) (sym made.is) (coord_made protocols policy past made.event)

pub commits_once : OfPasts CommitOnce
commits_once protocols policy [] made = tt
commits_once protocols policy (x ∷ past) (inl opened) = is_once protocols (x ∷ past) opened
commits_once protocols policy (x ∷ past) (inr (next, made)) =
    accepted_distinct x.calls (disk past) (commits (records past)) (tids_of (records past)) (past_made protocols policy past x next).accepted
    (new_commit protocols policy past next.event x made (past_made protocols policy past x next)) (λ t i. i)
    (commits_once protocols policy past made)

pub commits_free : OfPasts (λ protocols past. IsFree (commits (records past)))
commits_free protocols policy [] made = nothing_free
commits_free protocols policy (x ∷ past) (inl opened) = no_cycle_acyclic (commits (records (x ∷ past))) (is_cycle_free protocols (x ∷ past) opened)
commits_free protocols policy (x ∷ past) (inr (next, made)) =
    free_line past x (past_made protocols policy past x next).accepted (commits_free protocols policy past made)

pub commits_close_none : OfPasts CommitsCloseNoCycle
commits_close_none protocols policy past made =
    acyclic_no_cycle (commits (records past)) (commits_once protocols policy past made) (commits_free protocols policy past made)
