-- In every past of a coordinator the journal that stands on its disk tells what all its records say.
use Rattle.std.proofs.Common.{◌≡◌, ◌↔◌, suc, ◌≤◌, ◌⊎◌, Bool, true, false, cond, not, ◌&&◌, ◌||◌, Option, Some, None, List, [], ◌∷◌, ◌++◌, length, refl, sym, ap, ap₂, subst, ◌∙◌, inl, inr, arith}
use Rattle.mdb_base.specs.declared.names.SiteTicket.{SiteTicket}
use Rattle.mdb_base.specs.declared.names.Tid.{Tid}
use Rattle.mdb_base.specs.Names.{same_tid, tid_before}
use Rattle.mdb_base.specs.Words.{Among, inserted, some_of}
use Rattle.presumptions.specs.declared.Decision.TheVariants as Decided
use Rattle.presumptions.specs.declared.Participant.{Participant}
use Rattle.presumptions.specs.declared.Protocol.{Protocol}
use Rattle.presumptions.specs.declared.Protocol.TheVariants as By
use Rattle.presumptions.specs.Table.{acks}
use Rattle.order_laws.specs.Tickets.{Ticketed}
use Rattle.fed_rules.specs.declared.events.CoordEvent.{CoordEvent}
use Rattle.fed_rules.specs.declared.records.CoordRecord.{CoordRecord}
use Rattle.fed_rules.specs.declared.records.CoordRecord.TheVariants.{Initiation, Commit, Abort, End, Checkpoint}
use Rattle.fed_rules.specs.declared.sums.CommittedAttempt.{CommittedAttempt}
use Rattle.fed_rules.specs.CoordPast.{CoordPast, disk, records}
use Rattle.fed_rules.specs.CoordRecords.{acking, all_follow, class_of, commits, ends_at_once, has_commit, has_end, is_nobody, named, outcome, required_of, same_protocol, Uniform, Mixed}
use Rattle.fed_rules.specs.CoordSums.{committed_with, coord_sum}
use Rattle.coord_laws.proofs.CoordTold.{IsTidy, left_open, open_is}
use Rattle.coord_laws.specs.Sums.{OfCoordinators}
use Rattle.coord_laws.proofs.CoordOpened.{is_fine, is_tidy}
use Rattle.coord_laws.proofs.CoordPasts.{coordinators_say, going_say}
use Rattle.coord_laws.proofs.CoordTrims.{IsFine, journal_same, line_fine, past_fine}
use Rattle.fed_rules.specs.Coord.{coord_past}
use Rattle.fed_rules.specs.Policies.{Policy}
use Rattle.coord_laws.specs.Pasts.{IsGoingOn, OfFreshPasts, OfPasts}
use Rattle.coord_laws.proofs.Facts.{IsOpen, Wrote}
use Rattle.coord_laws.proofs.Lines.{Kept}
use Rattle.coord_laws.proofs.Past.{going_on, any_member, next_turn, past_sound}
use Rattle.coord_laws.proofs.RecordLists.{commit_among, end_among}
use Rattle.coord_laws.proofs.Sound.{CoordSound, commit_mark, end_mark}
use Rattle.coord_laws.specs.CoordRestarts.{CoordJournalSaysAll, JournalTellsRestart, TellsRecords, outcome_of}

abbrev earlier : CommittedAttempt → CommittedAttempt → Bool
earlier a b = tid_before a.tid b.tid

-- the committed attempts of the Sum are those with a Commit
some_inserted : (test : CommittedAttempt → Bool) (x : CommittedAttempt) (ys : List CommittedAttempt) → some_of test (inserted earlier x ys) ≡ (test x || some_of test ys)
some_inserted test x [] = refl
some_inserted test x (y ∷ ys) = by_test (earlier y x) (some_inserted test x ys)
  where
    by_own : (a b c : Bool) → some_of test (inserted earlier x ys) ≡ (a || c) → (b || some_of test (inserted earlier x ys)) ≡ (a || (b || c))
    by_own true true c h = refl
    by_own true false c h = h
    by_own false true c h = refl
    by_own false false c h = h

    by_test : (b : Bool) → some_of test (inserted earlier x ys) ≡ (test x || some_of test ys) → some_of test (cond b (y ∷ inserted earlier x ys) (x ∷ y ∷ ys)) ≡ (test x || (test y || some_of test ys))
    by_test false h = refl
    by_test true h = by_own (test x) (test y) (some_of test ys) h

pub committed_is : (rs : List CoordRecord) (g : Tid) → some_of (λ (a : CommittedAttempt). same_tid a.tid g) (committed_with [] rs) ≡ has_commit rs g
committed_is [] g = refl
committed_is (Commit t ks ∷ rs) g =
    some_inserted (λ (a : CommittedAttempt). same_tid a.tid g) (record { tid = t; tickets = ks }) (committed_with [] rs) ∙ by_own (same_tid t g) (committed_is rs g)
  where
    by_own : (b : Bool) → some_of (λ (a : CommittedAttempt). same_tid a.tid g) (committed_with [] rs) ≡ has_commit rs g
        → (b || some_of (λ (a : CommittedAttempt). same_tid a.tid g) (committed_with [] rs)) ≡ cond b true (has_commit rs g)
    by_own true h = refl
    by_own false h = h
committed_is (Initiation t ms ∷ rs) g = committed_is rs g
committed_is (Abort t ms ∷ rs) g = committed_is rs g
committed_is (End t ∷ rs) g = committed_is rs g
committed_is (Checkpoint sum ∷ rs) g = committed_is rs g

pub among_inserted : (P : CommittedAttempt → Type 0) (x : CommittedAttempt) (ys : List CommittedAttempt) → Among P (inserted earlier x ys) ↔ (P x ⊎ Among P ys)
among_inserted P x [] = ((λ i. i), (λ i. i))
among_inserted P x (y ∷ ys) = by_test (earlier y x) (among_inserted P x ys)
  where
    by_test : (b : Bool) → Among P (inserted earlier x ys) ↔ (P x ⊎ Among P ys) → Among P (cond b (y ∷ inserted earlier x ys) (x ∷ y ∷ ys)) ↔ (P x ⊎ Among P (y ∷ ys))
    by_test false h = ((λ i. i), (λ i. i))
    by_test true h = (
      (λ i. elim i [ inl p ↦ inr (inl p) | inr j ↦ elim (h.0 j) [ inl p ↦ inl p | inr k ↦ inr (inr k) ] ]),
      (λ i. elim i [ inl p ↦ inr (h.1 (inl p)) | inr j ↦ elim j [ inl p ↦ inl p | inr k ↦ inr (h.1 (inr k)) ] ]),
    )

pub tickets_are : (rs : List CoordRecord) (g : Tid) (ks : List SiteTicket)
    → Among (λ (a : CommittedAttempt). (a.tid ≡ g) × (a.tickets ≡ ks)) (committed_with [] rs) ↔ Among (λ (c : Ticketed). (c.tid ≡ g) × (c.tickets ≡ ks)) (commits rs)
tickets_are [] g ks = ((λ i. i), (λ i. i))
tickets_are (Commit t us ∷ rs) g ks =
    let old = tickets_are rs g ks in
    let new = among_inserted (λ (a : CommittedAttempt). (a.tid ≡ g) × (a.tickets ≡ ks)) (record { tid = t; tickets = us }) (committed_with [] rs) in (
      (λ i. elim (new.0 i) [ inl p ↦ inl p | inr j ↦ inr (old.0 j) ]),
      (λ i. elim i [ inl p ↦ new.1 (inl p) | inr j ↦ new.1 (inr (old.1 j)) ]),
    )
tickets_are (Initiation t ms ∷ rs) g ks = tickets_are rs g ks
tickets_are (Abort t ms ∷ rs) g ks = tickets_are rs g ks
tickets_are (End t ∷ rs) g ks = tickets_are rs g ks
tickets_are (Checkpoint sum ∷ rs) g ks = tickets_are rs g ks

-- where a commit is forgotten at once, no acknowledgement of it is required
all_commit : (ms : List Participant) → all_follow By.Commit ms ≡ true → acking Decided.Commit ms ≡ []
all_commit [] e = refl
all_commit (m ∷ ms) e = by_protocol m.protocol e (all_commit ms)
  where
    by_protocol : (p : Protocol) → (same_protocol p By.Commit && all_follow By.Commit ms) ≡ true → (all_follow By.Commit ms ≡ true → acking Decided.Commit ms ≡ [])
        → cond (acks p Decided.Commit) (m ∷ acking Decided.Commit ms) (acking Decided.Commit ms) ≡ []
    by_protocol By.Commit f k = k f
    by_protocol By.Nothing f k = cc
    by_protocol By.Abort f k = cc

pub none_required : (ms : List Participant) → ends_at_once (class_of ms) ≡ true → acking Decided.Commit ms ≡ []
none_required [] e = refl
none_required (m ∷ ms) e = by_protocol m.protocol e (all_follow m.protocol ms) refl
  where
    by_protocol : (p : Protocol) → ends_at_once (cond (all_follow p ms) (Uniform p) Mixed) ≡ true → (b : Bool) → all_follow m.protocol ms ≡ b
        → cond (acks p Decided.Commit) (m ∷ acking Decided.Commit ms) (acking Decided.Commit ms) ≡ []
    by_protocol By.Commit f b q = by_all (all_follow By.Commit ms) refl f
      where
        by_all : (c : Bool) → all_follow By.Commit ms ≡ c → ends_at_once (cond c (Uniform By.Commit) Mixed) ≡ true → acking Decided.Commit ms ≡ []
        by_all true h g = all_commit ms h
        by_all false h g = cc
    by_protocol By.Nothing f b q = by_all (all_follow By.Nothing ms) f
      where
        by_all : (c : Bool) → ends_at_once (cond c (Uniform By.Nothing) Mixed) ≡ true → cond (acks By.Nothing Decided.Commit) (m ∷ acking Decided.Commit ms) (acking Decided.Commit ms) ≡ []
        by_all true g = cc
        by_all false g = cc
    by_protocol By.Abort f b q = by_all (all_follow By.Abort ms) f
      where
        by_all : (c : Bool) → ends_at_once (cond c (Uniform By.Abort) Mixed) ≡ true → cond (acks By.Abort Decided.Commit) (m ∷ acking Decided.Commit ms) (acking Decided.Commit ms) ≡ []
        by_all true g = cc
        by_all false g = cc

-- who is left open is who is known after a restart
kept_is : (ended committed : Bool) (some : Option (List Participant))
    → not (is_nobody (required_of (cond committed Decided.Commit Decided.Abort) (left_open ended committed some)))
    ≡ (not ended && not (is_nobody (required_of (cond committed Decided.Commit Decided.Abort) some)))
kept_is true committed some = refl
kept_is false false some = refl
kept_is false true None = refl
kept_is false true (Some ms) = by_end (ends_at_once (class_of ms)) refl
  where
    by_end : (b : Bool) → ends_at_once (class_of ms) ≡ b
        → not (is_nobody (required_of Decided.Commit (cond b None (Some ms)))) ≡ not (is_nobody (acking Decided.Commit ms))
    by_end false e = refl
    by_end true e = ap (λ ks. not (is_nobody ks)) (sym (none_required ms e))

named_is : (ended committed : Bool) (some : Option (List Participant))
    → (not ended && not (is_nobody (required_of (cond committed Decided.Commit Decided.Abort) some))) ≡ true → left_open ended committed some ≡ some
named_is true committed some e = cc
named_is false false some e = refl
named_is false true None e = refl
named_is false true (Some ms) e = by_end (ends_at_once (class_of ms)) refl
  where
    by_end : (b : Bool) → ends_at_once (class_of ms) ≡ b → cond b None (Some ms) ≡ Some ms
    by_end false f = refl
    by_end true f = let none : not (is_nobody (acking Decided.Commit ms)) ≡ false = ap (λ ks. not (is_nobody ks)) (none_required ms f) in let clash : true ≡ false = sym e ∙ none in cc

-- the Sum of tidy records tells what they say
tells : (protocols : List Participant) (rs : List CoordRecord) → ((g : Tid) → IsTidy protocols g rs) → TellsRecords protocols (coord_sum protocols rs) rs
tells protocols rs tidy =
    record {
      outcomes = outcomes;
      kept = λ g.
          ap₂ (λ d o. not (is_nobody (required_of d o))) (outcomes g) (open_is protocols g rs (tidy g))
          ∙ kept_is (has_end rs g) (has_commit rs g) (named protocols rs g);
      participants = λ g e. open_is protocols g rs (tidy g) ∙ named_is (has_end rs g) (has_commit rs g) (named protocols rs g) e;
      tickets = tickets_are rs;
    }
  where
    outcomes : (g : Tid) → outcome_of (coord_sum protocols rs) g ≡ outcome rs g
    outcomes g = ap (λ b. cond b Decided.Commit Decided.Abort) (committed_is rs g)

-- the records of a past are tidy
tidy_behind : (protocols : List Participant) (g : Tid) (r : CoordRecord) (rs : List CoordRecord) → IsTidy protocols g (r ∷ rs) → IsTidy protocols g rs
tidy_behind protocols g (Initiation t ms) rs tidy = tidy.1
tidy_behind protocols g (Commit t ks) rs tidy = tidy.1
tidy_behind protocols g (Abort t ms) rs tidy = tidy.1
tidy_behind protocols g (End t) rs tidy = tidy
tidy_behind protocols g (Checkpoint sum) rs tidy = tidy

pub tidy_front : (protocols : List Participant) (g : Tid) (newer rs : List CoordRecord) → IsTidy protocols g (newer ++ rs) → IsTidy protocols g rs
tidy_front protocols g [] rs tidy = tidy
tidy_front protocols g (r ∷ newer) rs tidy = tidy_front protocols g newer rs (tidy_behind protocols g r (newer ++ rs) tidy)

-- of an attempt that is undecided neither an End nor a Commit is kept
unmarked : (protocols : List Participant) (g : Tid) (past : CoordPast) → CoordSound protocols any_member g past → IsOpen protocols past g
    → (has_end (records past) g ≡ false) × (has_commit (records past) g ≡ false)
unmarked protocols g past s open_now = (by_end (has_end (records past) g) refl, by_commit (has_commit (records past) g) refl)
  where
    by_end : (b : Bool) → has_end (records past) g ≡ b → has_end (records past) g ≡ false
    by_end false e = e
    by_end true e = absurd ((s.marked (end_mark g (records past) (end_among g (records past) e))).1 open_now)

    by_commit : (b : Bool) → has_commit (records past) g ≡ b → has_commit (records past) g ≡ false
    by_commit false e = e
    by_commit true e = absurd ((s.marked (commit_mark g (records past) (commit_among g (records past) e))).1 open_now)

-- one more record
tidy_more : (protocols : List Participant) (g : Tid) (past : CoordPast) (event : CoordEvent) (r : CoordRecord) → CoordSound protocols any_member g past
    → Wrote protocols g past event [] r → IsTidy protocols g (records past) → IsTidy protocols g (r ∷ records past)
tidy_more protocols g past event (Initiation t ms) s w tidy = (
  (λ own.
      let (open_now, is, none) = w own in
      let (ended, committed) = unmarked protocols g past s open_now in
      (ended, committed, (λ ns e. (s.names ns e).1 ∙ sym is))),
  tidy,
)
tidy_more protocols g past event (Commit t ks) s w tidy = ((λ own. unmarked protocols g past s (w own).0.undecided), tidy)
tidy_more protocols g past event (Abort t ms) s w tidy = ((λ own. unmarked protocols g past s (w own).0), tidy)
tidy_more protocols g past event (End t) s w tidy = tidy
tidy_more protocols g past event (Checkpoint sum) s w tidy = tidy

tidy_kept : (protocols : List Participant) (g : Tid) (past : CoordPast) (event : CoordEvent) (now : List CoordRecord) → CoordSound protocols any_member g past
    → Kept protocols g past event now → length now ≤ suc (length (records past)) → IsTidy protocols g (records past) → IsTidy protocols g now
tidy_kept protocols g past event now s (inr (newer, each, e)) few tidy = tidy_front protocols g newer now (subst (IsTidy protocols g) e tidy)
tidy_kept protocols g past event now s (inl ([], w, e)) few tidy = subst (IsTidy protocols g) (sym e) tidy
tidy_kept protocols g past event now s (inl (r ∷ [], w, e)) few tidy =
    subst (IsTidy protocols g) (sym e) (tidy_more protocols g past event r s w.0 tidy)
tidy_kept protocols g past event now s (inl (r ∷ q ∷ more, w, e)) few tidy =
    let long = subst (λ rs. length rs ≤ suc (length (records past))) e few in
    let adds = longer more (records past) in absurd (omega (arith, long, adds))
  where
    longer : (xs ys : List CoordRecord) → length ys ≤ length (xs ++ ys)
    longer [] ys = omega arith
    longer (x ∷ xs) ys = let h = longer xs ys in omega (arith, h)

pub past_tidy : (protocols : List Participant) (policy : Policy) (g : Tid) (past : CoordPast) → IsGoingOn protocols policy past → IsTidy protocols g (records past)
past_tidy protocols policy g [] made = tt
past_tidy protocols policy g (x ∷ past) (inl opened) = is_tidy protocols (x ∷ past) opened g
past_tidy protocols policy g (x ∷ past) (inr (next, made)) =
    let t = next_turn protocols policy any_member g past x next (past_sound protocols policy any_member g past made) in
    let few = subst (λ y. length (records (y ∷ past)) ≤ suc (length (records past))) (sym next.is) (line_fine protocols policy past next.event).one in
    tidy_kept protocols g past next.event (records (x ∷ past)) t.sound t.line.kept few (past_tidy protocols policy g past made)

-- what was trimmed stands before a Checkpoint
going_fine : (protocols : List Participant) (policy : Policy) (past : CoordPast) → IsGoingOn protocols policy past → IsFine (disk past)
going_fine protocols policy [] made = past_fine protocols policy []
going_fine protocols policy (x ∷ past) (inl opened) = is_fine protocols (x ∷ past) opened
going_fine protocols policy (x ∷ past) (inr (next, made)) =
    subst (λ y. IsFine (disk (y ∷ past))) (sym next.is) ((line_fine protocols policy past next.event).fine (going_fine protocols policy past made))

-- the journal on the disk says what all records say
pub going_journals_say_all : OfPasts CoordJournalSaysAll
going_journals_say_all protocols policy past made =
    journal_same protocols (disk past) (going_fine protocols policy past made) ∙ going_say protocols policy past made

pub going_tells : OfPasts JournalTellsRestart
going_tells protocols policy past made =
    subst (λ sum. TellsRecords protocols sum (records past)) (sym (going_journals_say_all protocols policy past made))
    (tells protocols (records past) (λ g. past_tidy protocols policy g past made))

-- of what events make of nothing
pub journal_tells : OfFreshPasts JournalTellsRestart
journal_tells protocols policy past made = going_tells protocols policy past (going_on protocols policy past made)

pub coord_journals_say_all : OfCoordinators CoordJournalSaysAll
coord_journals_say_all protocols policy events =
    journal_same protocols (disk (coord_past protocols policy events)) (past_fine protocols policy events) ∙ coordinators_say protocols policy events
