-- Whatever happens at a coordinator that goes on from a usable journal without transactions, stops included: its journal stays one that is usable.
use Rattle.std.proofs.Common.{append-nil, ◌⊎◌, ◌≡◌, ℕ, Bool, true, false, cond, is_some, not, ◌&&◌, Option, Some, None, List, [], ◌∷◌, ◌++◌, refl, sym, ap, ap₂, subst, ◌∙◌, inl, inr, arith}
use Rattle.mdb_base.specs.declared.names.SiteId.{SiteId}
use Rattle.mdb_base.specs.declared.names.Tid.{Tid}
use Rattle.mdb_base.specs.declared.replies.Reply.{Reply}
use Rattle.mdb_base.specs.Names.{same_tid}
use Rattle.mdb_base.specs.Words.{Among, or_else, those, when, given}
use Rattle.mdb_base.proofs.ForCallers.{never, same_tid-equal}
use Rattle.presumptions.specs.declared.Decision.{Decision}
use Rattle.presumptions.specs.declared.Participant.{Participant}
use Rattle.fed_rules.specs.declared.answers.Answer.TheVariants as Say
use Rattle.fed_rules.specs.declared.events.CoordEvent.{CoordEvent}
use Rattle.fed_rules.specs.declared.events.CoordEvent.TheVariants as Ev
use Rattle.fed_rules.specs.declared.messages.FromSite.TheVariants as From
use Rattle.fed_rules.specs.declared.records.CoordRecord.{CoordRecord}
use Rattle.fed_rules.specs.declared.records.CoordRecord.TheVariants as Rec
use Rattle.fed_rules.specs.declared.sums.CoordSum.{CoordSum}
use Rattle.fed_rules.specs.Coord.{ack_counts, acked_while, again_while, answered, asked_while, checkpoint, coord_line, did_counts, fits, of_ack, of_again, of_back, of_check, of_did, of_fate, of_inquiry, of_late, of_take, of_vote, is_due_vote, vote_counts}
use Rattle.fed_rules.specs.CoordPast.{CoordHappening, CoordPast, Standing, Undecided, Decided, Gone, disk, is_open, journal, outstanding, records, standing, trip}
use Rattle.fed_rules.specs.CoordRecords.{coord_frame, has_commit, has_end, is_kept, is_nobody, named, outcome, required, required_of, ticketed}
use Rattle.fed_rules.specs.CoordSums.{coord_journal_sum, coord_sum}
use Rattle.fed_rules.specs.Disk.{Call, CutBack, Disk, bytes_of, is_torn, standing as standing_at}
use Rattle.fed_rules.specs.Found.{Journal}
use Rattle.fed_rules.specs.Happenings.{is_down, quiet, stopped, tripped}
use Rattle.fed_rules.specs.Policies.{Policy}
use Rattle.fed_rules.specs.Reopened.{opened_coordinator}
use Rattle.fed_rules.specs.Usable.{IsAttemptOf, IsEndOf, coord_read}
use Rattle.fed_rules.proofs.ForCallers.{BeginsNothing}
use Rattle.coord_laws.proofs.ForCallers.{IsTrimmed, among_end, any_member, end_among, going_journals_say_all, going_tells, is_fine, is_undecided, left_open, open_is, past_sound, standing_all, standing_trimmed, tidy_in_order, usable_go_on}
use Rattle.sum_laws.proofs.ForCallers.{coordinators_read, some_coord_frame}
use Rattle.coord_laws.specs.Pasts.{IsGoingOn, IsOpened}
use Rattle.coord_laws.specs.CoordRestarts.{keeps, open_of, outcome_of}
use Rattle.coord_laws.specs.FoundCoordinators.{RiseBySite}
use Rattle.disk_laws.proofs.ForCallers.{past_ended}
use Rattle.found_laws.proofs.ForCallers.{NobodyIsOpen, closed_standing}
use Rattle.resume_laws.proofs.CoordMore.{IsGoingCoord, coord_alone, coord_checked, coord_ended, coord_front}
use Rattle.resume_laws.proofs.Stands as Disks

abbrev pub IsAny : List CoordRecord → Type 0
IsAny base = Unit {0}

pub cut : (protocols : List Participant) (found : List CoordRecord) (x : CoordRecord) (newer base : List CoordRecord) → IsAny base → IsGoingCoord protocols found (x ∷ (newer ++ base))
    → IsGoingCoord protocols found (newer ++ base)
cut protocols found x newer base b u = coord_front protocols found x (newer ++ base) u

module _ (protocols : List Participant) (found : List CoordRecord) where
  abbrev pub StandsSo : Disk CoordRecord → Type 0
  StandsSo d = Disks.Stands coord_frame some_coord_frame IsAny (IsGoingCoord protocols found) (λ r. tt) (cut protocols found) d

  abbrev pub GoesSo : Disk CoordRecord → List (Call CoordRecord) → Type 0
  GoesSo d calls = Disks.Goes coord_frame some_coord_frame IsAny (IsGoingCoord protocols found) (λ r. tt) (cut protocols found) d calls

-- ---- who is decided is open in the Sum of the journal

named_among : (protocols : List Participant) (g : Tid) (rs : List CoordRecord) → is_some (named protocols rs g) ≡ true → Among (IsAttemptOf g.tx) rs
named_among protocols g [] e = cc
named_among protocols g (Rec.Initiation t ms ∷ rs) e = by_test (same_tid t g) refl e (named_among protocols g rs)
  where
    by_test : (b : Bool) → same_tid t g ≡ b → is_some (cond b (Some ms) (named protocols rs g)) ≡ true → (is_some (named protocols rs g) ≡ true → Among (IsAttemptOf g.tx) rs)
        → Among (IsAttemptOf g.tx) (Rec.Initiation t ms ∷ rs)
    by_test true q h rest = inl (ap (λ (u : Tid). u.tx) (same_tid-equal t g q))
    by_test false q h rest = inr (rest h)
named_among protocols g (Rec.Commit t ks ∷ rs) e = by_test (same_tid t g) refl e (named_among protocols g rs)
  where
    by_test : (b : Bool) → same_tid t g ≡ b → is_some (cond b (Some (or_else (named protocols rs g) (ticketed protocols ks))) (named protocols rs g)) ≡ true
        → (is_some (named protocols rs g) ≡ true → Among (IsAttemptOf g.tx) rs) → Among (IsAttemptOf g.tx) (Rec.Commit t ks ∷ rs)
    by_test true q h rest = inl (ap (λ (u : Tid). u.tx) (same_tid-equal t g q))
    by_test false q h rest = inr (rest h)
named_among protocols g (Rec.Abort t ms ∷ rs) e = by_test (same_tid t g) refl e (named_among protocols g rs)
  where
    by_test : (b : Bool) → same_tid t g ≡ b → is_some (cond b (Some (or_else (named protocols rs g) ms)) (named protocols rs g)) ≡ true
        → (is_some (named protocols rs g) ≡ true → Among (IsAttemptOf g.tx) rs) → Among (IsAttemptOf g.tx) (Rec.Abort t ms ∷ rs)
    by_test true q h rest = inl (ap (λ (u : Tid). u.tx) (same_tid-equal t g q))
    by_test false q h rest = inr (rest h)
named_among protocols g (Rec.End t ∷ rs) e = inr (named_among protocols g rs e)
named_among protocols g (Rec.Checkpoint sum ∷ rs) e = inr (named_among protocols g rs e)

some_left : (test : Participant → Bool) (ms : List Participant) → is_nobody (those test ms) ≡ false → is_nobody ms ≡ false
some_left test [] e = e
some_left test (m ∷ ms) e = refl

not_open : (sum : CoordSum) (g : Tid) → open_of sum g ≡ None → keeps sum g ≡ true → ⊥
not_open sum g e k = let no : keeps sum g ≡ false = ap (λ o. not (is_nobody (required_of (outcome_of sum g) o))) e in let clash : true ≡ false = sym k ∙ no in cc

none_left : (ended committed : Bool) → left_open ended committed None ≡ None
none_left true committed = refl
none_left false true = refl
none_left false false = refl

module _ (protocols : List Participant) (policy : Policy) (past : CoordPast) (made : IsGoingOn protocols policy past) where
  decided_kept : (g : Tid) (d : Decision) → standing protocols past g ≡ Decided d → is_kept protocols (records past) g ≡ true
  decided_kept g d known =
      let sound = past_sound protocols policy any_member g past made in
      let some = some_left _ (required protocols (records past) g d) (sound.waits d known) in
      let here : is_nobody (required protocols (records past) g (outcome (records past) g)) ≡ false =
      subst (λ e. is_nobody (required protocols (records past) g e) ≡ false) (sound.decided d known).1 some in
      ap₂ (λ a b. not a && not b) (by_end (has_end (records past) g) refl) here
    where
      by_end : (b : Bool) → has_end (records past) g ≡ b → has_end (records past) g ≡ false
      by_end false e = e
      by_end true e = absurd (past_ended protocols policy g past made (end_among g (records past) e) d known)

-- ---- the lines

module _ (protocols : List Participant) (rise : RiseBySite protocols) (found : List CoordRecord) (policy : Policy) (past : CoordPast) (made : IsGoingOn protocols policy past)
    (closed : NobodyIsOpen past) (s : StandsSo protocols found (disk past)) where
  abbrev d : Disk CoordRecord
  d = disk past

  abbrev js : List CoordRecord
  js = journal past

  here : IsGoingCoord protocols found js
  here = Disks.holds_of coord_frame some_coord_frame IsAny (IsGoingCoord protocols found) (λ r. tt) (cut protocols found) d s

  abbrev js_found : Journal CoordRecord
  js_found = record { records = js; torn = 0 }

  says : coord_journal_sum protocols js ≡ coord_sum protocols (coord_read js)
  says =
      let o = usable_go_on protocols js_found rise here.usable here.members in
      let r = coordinators_read protocols js_found rise here.usable here.members in
      sym (ap (coord_journal_sum protocols) r.stands)
      ∙ going_journals_say_all protocols policy (opened_coordinator protocols js_found) (inl o)
      ∙ ap (coord_sum protocols) r.read

  same_sum : coord_sum protocols (records past) ≡ coord_sum protocols (coord_read js)
  same_sum = sym (going_journals_say_all protocols policy past made) ∙ says

  ended : (t : Tid) (decision : Decision) → standing protocols past t ≡ Decided decision → IsGoingCoord protocols found (Rec.End t ∷ js)
  ended t decision known = coord_ended protocols found t js none there here
    where
      kept : keeps (coord_sum protocols (coord_read js)) t ≡ true
      kept = subst (λ sum. keeps sum t ≡ true) says ((going_tells protocols policy past made).kept t ∙ decided_kept protocols policy past made t decision known)

      opens : open_of (coord_sum protocols (coord_read js)) t ≡ left_open (has_end (coord_read js) t) (has_commit (coord_read js) t) (named protocols (coord_read js) t)
      opens = open_is protocols t (coord_read js) (tidy_in_order protocols t (coord_read js) here.usable.order)

      none : Among (IsEndOf t) (coord_read js) → ⊥
      none m =
          not_open (coord_sum protocols (coord_read js)) t
          (opens ∙ ap (λ b. left_open b (has_commit (coord_read js) t) (named protocols (coord_read js) t)) (among_end t (coord_read js) m)) kept

      there : Among (IsAttemptOf t.tx) (coord_read js)
      there = by_named (named protocols (coord_read js) t) refl
        where
          by_named : (o : Option (List Participant)) → named protocols (coord_read js) t ≡ o → Among (IsAttemptOf t.tx) (coord_read js)
          by_named (Some ms) e = named_among protocols t (coord_read js) (ap is_some e)
          by_named None e =
              absurd (not_open (coord_sum protocols (coord_read js)) t
              (opens ∙ ap (left_open (has_end (coord_read js) t) (has_commit (coord_read js) t)) e
              ∙ none_left (has_end (coord_read js) t) (has_commit (coord_read js) t)) kept)

  checked : IsGoingCoord protocols found (checkpoint protocols past ∷ js)
  checked = subst (λ sum. IsGoingCoord protocols found (Rec.Checkpoint sum ∷ js)) (sym same_sum) (coord_checked protocols rise found js here)

  alone : IsGoingCoord protocols found (checkpoint protocols past ∷ [])
  alone = subst (λ sum. IsGoingCoord protocols found (Rec.Checkpoint sum ∷ [])) (sym same_sum) (coord_alone protocols rise found js here)

  abbrev Goes : List (Call CoordRecord) → Type 0
  Goes calls = GoesSo protocols found d calls

  goes_when : (b : Bool) (x y : CoordHappening) → (b ≡ true → Goes x.calls) → (b ≡ false → Goes y.calls) → Goes (when b x y).calls
  unfolding when
  goes_when true x y p q = p refl
  goes_when false x y p q = q refl

  goes_given : {A : Type 0} (o : Option A) (none : CoordHappening) (some : A → CoordHappening) → Goes none.calls → ((v : A) → Goes (some v).calls) → Goes (given o some none).calls
  unfolding given
  goes_given None none some p q = p
  goes_given (Some v) none some p q = q v

  did_goes : (site : SiteId) (tid : Tid) (epoch n : ℕ) (reply : Reply) → Goes (of_did protocols policy past site tid epoch n reply).calls
  unfolding of_did
  did_goes site tid epoch n reply =
      goes_when (did_counts past site tid epoch n reply) _ _
      (λ e. never (did_counts past site tid epoch n reply) (not_counted (is_open past tid) (fits (outstanding past tid site) n reply) _ (closed tid)) e) (λ e. tt)
    where
      not_counted : (a b c : Bool) → a ≡ false → (a && b && c) ≡ false
      not_counted true b c e = cc
      not_counted false b c e = refl

  vote_goes : (site : SiteId) (tid : Tid) (vote : Option ℕ) → Goes (of_vote protocols past site tid vote).calls
  unfolding of_vote
  vote_goes site tid vote =
      goes_when (vote_counts past site tid) _ _ (λ e. never (vote_counts past site tid) (ap (λ b. b && is_due_vote (outstanding past tid site)) (closed tid)) e) (λ e. tt)

  ack_goes : (site : SiteId) (tid : Tid) → Goes (of_ack protocols past site tid).calls
  unfolding of_ack acked_while ack_counts
  ack_goes site tid = by_standing (standing protocols past tid) refl
    where
      by_standing : (k : Standing) → standing protocols past tid ≡ k → Goes (acked_while protocols past site tid k).calls
      by_standing Undecided e = tt
      by_standing (Decided decision) e = goes_when _ _ _ (λ q. goes_when _ _ _ (λ r. (ended tid decision e, tt)) (λ r. tt)) (λ q. tt)
      by_standing Gone e = tt

  inquiry_goes : (site : SiteId) (tid : Tid) → Goes (of_inquiry protocols past site tid).calls
  unfolding of_inquiry asked_while
  inquiry_goes site tid = by_standing (standing protocols past tid)
    where
      by_standing : (k : Standing) → Goes (asked_while protocols site tid k).calls
      by_standing Undecided = tt
      by_standing (Decided decision) = tt
      by_standing Gone = tt

  again_goes : (tid : Tid) → Goes (of_again protocols policy past tid).calls
  unfolding of_again again_while
  again_goes tid = by_standing (standing protocols past tid) refl
    where
      by_standing : (k : Standing) → standing protocols past tid ≡ k → Goes (again_while protocols policy past tid k).calls
      by_standing Undecided e = absurd (closed_standing protocols past tid (closed tid) (ap is_undecided e))
      by_standing (Decided decision) e = tt
      by_standing Gone e = tt

  late_goes : (tid : Tid) → Goes (of_late protocols past tid).calls
  unfolding of_late
  late_goes tid = goes_when (is_open past tid) _ _ (λ e. never (is_open past tid) (closed tid) e) (λ e. tt)

  back_goes : Goes (of_back protocols past).calls
  unfolding of_back
  back_goes = by_torn (is_torn coord_frame d)
    where
      by_torn : (b : Bool) → GoesSo protocols found d (cond b (CutBack ∷ []) [])
      by_torn true = tt
      by_torn false = tt

  check_goes : Goes (of_check protocols past).calls
  unfolding of_check
  check_goes =
      let frames = s.sound.frames in
      goes_when _ _ _ (λ e. tt) (λ e. (checked, ((checkpoint protocols past, records past, refl, omega (arith, frames), alone), tt)))

  answered_goes : (event : CoordEvent) → BeginsNothing event → Goes (answered protocols policy past event).calls
  unfolding answered of_take of_fate
  answered_goes (Ev.Go tid steps) i = absurd i
  answered_goes (Ev.Take site (From.Did tid epoch n reply)) i = did_goes site tid epoch n reply
  answered_goes (Ev.Take site (From.Vote tid vote)) i = vote_goes site tid vote
  answered_goes (Ev.Take site (From.Ack tid)) i = ack_goes site tid
  answered_goes (Ev.Take site (From.Inquiry tid)) i = inquiry_goes site tid
  answered_goes (Ev.Again tid) i = again_goes tid
  answered_goes (Ev.Late tid) i = late_goes tid
  answered_goes (Ev.Fate tx) i = goes_given _ _ _ (goes_given _ _ _ tt (λ t. tt)) (λ t. tt)
  answered_goes (Ev.Halt c) i = tt
  answered_goes (Ev.Trip calls c) i = tt
  answered_goes Ev.Back i = back_goes
  answered_goes Ev.Check i = check_goes

  tripped_goes : (y : CoordHappening) → Goes y.calls → Goes (tripped coord_frame d (trip past) y).calls
  tripped_goes y g = Disks.goes_tripped coord_frame some_coord_frame IsAny (IsGoingCoord protocols found) (λ r. tt) (cut protocols found) d (trip past) y g

  while_up : (event : CoordEvent) → BeginsNothing event
      → Goes (when (is_down past) (quiet event Say.Down) (tripped coord_frame d (trip past) (answered protocols policy past event))).calls
  while_up event i = goes_when _ _ _ (λ e. tt) (λ e. tripped_goes (answered protocols policy past event) (answered_goes event i))

  line_goes : (event : CoordEvent) → BeginsNothing event → Goes (coord_line protocols policy past event).calls
  unfolding coord_line stopped
  line_goes (Ev.Go tid steps) i = absurd i
  line_goes (Ev.Take site message) i = while_up (Ev.Take site message) tt
  line_goes (Ev.Again tid) i = while_up (Ev.Again tid) tt
  line_goes (Ev.Late tid) i = while_up (Ev.Late tid) tt
  line_goes (Ev.Fate tx) i = while_up (Ev.Fate tx) tt
  line_goes (Ev.Halt c) i = goes_when _ _ _ (λ e. tt) (λ e. tt)
  line_goes (Ev.Trip calls c) i = tt
  line_goes Ev.Back i = goes_when _ _ _ (λ e. tripped_goes (of_back protocols past) back_goes) (λ e. tt)
  line_goes Ev.Check i = while_up Ev.Check tt

  pub coord_next : (event : CoordEvent) → BeginsNothing event → StandsSo protocols found (disk (coord_line protocols policy past event ∷ past))
  coord_next event i =
      Disks.goes_calls coord_frame some_coord_frame IsAny (IsGoingCoord protocols found) (λ r. tt) (cut protocols found) d (coord_line protocols policy past event).calls (line_goes event i) s

-- ---- from the opening on

module _ (protocols : List Participant) (found : Journal CoordRecord) (u : IsGoingCoord protocols found.records found.records) (o : IsOpened protocols (opened_coordinator protocols found))
    (stands : journal (opened_coordinator protocols found) ≡ found.records) where
  abbrev past : CoordPast
  past = opened_coordinator protocols found

  pub coord_opens : StandsSo protocols found.records (disk past)
  coord_opens = by_front (is_fine protocols past o).front
    where
      by_front : ((disk past).trimmed ≡ 0) ⊎ IsTrimmed (disk past).records (disk past).synced (disk past).trimmed → StandsSo protocols found.records (disk past)
      by_front (inl e) = record {
        newer = records past;
        base = [];
        before = [];
        is = sym (append-nil (records past));
        at = e;
        kept = omega arith;
        based = tt;
        holds = subst (IsGoingCoord protocols found.records)
            (sym (append-nil (records past) ∙ sym (standing_all (records past)) ∙ sym (ap (λ n. standing_at coord_frame n (records past)) e) ∙ stands)) u;
        sound = (is_fine protocols past o).sound;
      }
      by_front (inr t) = record {
        newer = t.newer;
        base = Rec.Checkpoint t.sum ∷ [];
        before = t.before;
        is = t.all;
        at = t.at;
        kept = t.kept;
        based = tt;
        holds = subst (IsGoingCoord protocols found.records)
            (sym (sym (standing_trimmed t.newer t.sum t.before)
            ∙ sym (ap (λ n. standing_at coord_frame n (records past)) t.at ∙ ap (λ rs. standing_at coord_frame (bytes_of coord_frame t.before) rs) t.all)
            ∙ stands)) u;
        sound = (is_fine protocols past o).sound;
      }
