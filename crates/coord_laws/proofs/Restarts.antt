-- Acknowledgements and restarts of the coordinator, and then each event: the facts on one attempt hold of every line that no stop ends.
use Rattle.std.proofs.Common.{◌≡◌, ◌⊎◌, inl, inr, Bool, true, false, cond, not, ◌&&◌, is_some, Option, Some, None, List, [], ◌∷◌, refl, ap, subst, ◌∙◌}
use Rattle.std.proofs.lemmas.Bool.{and_right}
use Rattle.mdb_base.specs.declared.names.SiteId.{SiteId}
use Rattle.mdb_base.specs.declared.names.Tid.{Tid}
use Rattle.mdb_base.specs.Names.{same_tid, same_site}
use Rattle.mdb_base.specs.Words.{those}
use Rattle.mdb_base.proofs.ForCallers.{each_all, each_filtered, each_map, each_of_mapped}
use Rattle.presumptions.specs.declared.Decision.{Decision}
use Rattle.presumptions.specs.declared.Participant.{Participant}
use Rattle.fed_rules.specs.declared.answers.Answer.TheVariants as Say
use Rattle.fed_rules.specs.declared.answers.Cause.TheVariants as For
use Rattle.fed_rules.specs.declared.events.CoordEvent.{CoordEvent}
use Rattle.fed_rules.specs.declared.events.CoordEvent.TheVariants as Ev
use Rattle.fed_rules.specs.declared.messages.Due.{Due}
use Rattle.fed_rules.specs.declared.messages.Due.TheVariants as Due_is
use Rattle.fed_rules.specs.declared.messages.FromSite.{FromSite}
use Rattle.fed_rules.specs.declared.messages.FromSite.TheVariants as From
use Rattle.fed_rules.specs.declared.records.CoordRecord.TheVariants as Rec
use Rattle.fed_rules.specs.Disk.{Append, CutBack, Sync, TrimFront, is_torn, longest}
use Rattle.fed_rules.specs.Happenings.{quiet}
use Rattle.fed_rules.specs.Coord.{is_take, may_take, held_back, let_through, defers_all, sends_all, all_outstanding, decide_to, aborts, missing, is_member, ack_counts, acked_while, of_ack, of_take, again_while, of_again, of_late, of_back, answered, of_check, checkpoint}
use Rattle.fed_rules.specs.CoordPast.{CoordHappening, CoordPast, disk, records, Standing, Undecided, Decided, Gone, is_open, standing, has_acked}
use Rattle.fed_rules.specs.CoordRecords.{coord_frame, named, required_of, is_nobody, coord_payload}
use Rattle.fed_rules.specs.Policies.{Policy}
use Rattle.coord_laws.specs.Records.{IsEnd}
use Rattle.fed_rules.proofs.ForCallers.{IsQuiet, all_sending, appended}
use Rattle.coord_laws.proofs.Facts.{is_undecided, IsEnding, WroteAll, Stands, Same, Forgets, Restarts, IsTelling, Known, Tells, Goes}
use Rattle.coord_laws.proofs.Rules.{goes_when, open_undecided, standing_on, acked_on, calm_standing, calm_acked, silently, ignored, no_ack}
use Rattle.coord_laws.proofs.Dues.{IsOwed, all_owed, by_go, by_dues, by_inquiry, by_fate}
use Rattle.coord_laws.proofs.Ends.{by_aborts}
use Rattle.coord_laws.proofs.LastVotes.{at_vote, by_did}
use Rattle.order_laws.proofs.ForCallers.{of_same}
use Rattle.std.specs.Prelude.{nat_lt}

-- where an acknowledgement is missing the attempt has a record
missing_recorded : (protocols : List Participant) (past : CoordPast) (t : Tid) (decision : Decision) (site : SiteId)
    → is_member site (missing protocols past t decision) ≡ true → is_some (named protocols (records past) t) ≡ true
missing_recorded protocols past t decision site m = by_value (named protocols (records past) t) m where
  by_value : (o : Option (List Participant))
      → is_member site (those (λ k. not (has_acked past t k.site)) (required_of decision o)) ≡ true → is_some o ≡ true
  by_value None m = cc
  by_value (Some ms) m = refl

-- an acknowledgement that counts
by_ack_counts : (protocols : List Participant) (g : Tid) (past : CoordPast) (site : SiteId) (t : Tid) (decision : Decision)
    → standing protocols past t ≡ Decided decision → is_some (named protocols (records past) t) ≡ true
    → Goes protocols g past (Ev.Take site (From.Ack t)) (ack_counts protocols past site t decision)
unfolding ack_counts
by_ack_counts protocols g past site t decision known recorded =
    goes_when protocols g past event (is_nobody (missing protocols (quiet event Say.Acked ∷ past) t decision)) _ _ (λ e. by_last e)
    (λ e. by_more e)
  where
    event : CoordEvent
    event = Ev.Take site (From.Ack t)

    y : CoordHappening
    y = record { event = Ev.Take site (From.Ack t); answer = Say.Forgets; sends = []; calls = Append (Rec.End t) ∷ []; lines = [] }

    acked-here : (u : Tid) (at : SiteId)
        → has_acked (y ∷ past) u at ≡ has_acked (quiet (Ev.Take site (From.Ack t)) Say.Acked ∷ past) u at
    acked-here u at = refl

    stands : is_nobody (missing protocols (quiet (Ev.Take site (From.Ack t)) Say.Acked ∷ past) t decision) ≡ true → (q : Bool)
        → same_tid t g ≡ q → Stands protocols g past y (Rec.End t ∷ [])
    stands e true q =
        Forgets decision (of_same (λ u. standing protocols past u ≡ Decided decision) t g known q) refl
        (standing_on protocols g past y refl refl ∙ ap (λ b. cond b Gone (standing protocols past g)) q)
        (of_same (λ u. is_nobody (missing protocols (quiet (Ev.Take site (From.Ack t)) Say.Acked ∷ past) u decision) ≡ true) t g e q)
        (tt, tt) (acked-here g)
    stands e false q =
        Same (standing_on protocols g past y refl refl ∙ ap (λ b. cond b Gone (standing protocols past g)) q) refl (q, tt)
        (inl (λ at. acked_on g past y at refl refl (and_right (same_tid t g) false refl)
        (ap (λ b. (b && same_site site at) && true) q)))

    by_last : is_nobody (missing protocols (quiet (Ev.Take site (From.Ack t)) Say.Acked ∷ past) t decision) ≡ true
        → Goes protocols g past (Ev.Take site (From.Ack t)) y
    by_last e = record {
      is = refl;
      quiet = inl (tt, tt);
      wrote = (
        (λ q. of_same (λ u. IsEnding protocols u past (Ev.Take site (From.Ack t)) []) t g
            (record { decision = decision; known = known; alone = refl; none = e; recorded = recorded }) q),
        tt,
      );
      stands = stands e (same_tid t g) refl;
      tells = tt;
      counted = (λ c. tt);
      committed = tt;
    }

    more : CoordHappening
    more = quiet (Ev.Take site (From.Ack t)) Say.Acked

    waits : is_nobody (missing protocols (quiet (Ev.Take site (From.Ack t)) Say.Acked ∷ past) t decision) ≡ false → (q : Bool)
        → same_tid t g ≡ q
        → ((at : SiteId) → has_acked (more ∷ past) g at ≡ has_acked past g at) ⊎
        ((made : Decision) → standing protocols past g ≡ Decided made → is_nobody (missing protocols (more ∷ past) g made) ≡ false)
    waits e true q = inr (λ made is.
        let here = of_same (λ u. standing protocols past u ≡ Decided decision) t g known q in
        let same : decision ≡ made = cc in
        subst (λ d. is_nobody (missing protocols (more ∷ past) g d) ≡ false) same
        (of_same (λ u. is_nobody (missing protocols (more ∷ past) u decision) ≡ false) t g e q))
    waits e false q = inl
        (λ at. acked_on g past more at refl refl (and_right (same_tid t g) false refl) (ap (λ b. (b && same_site site at) && true) q))

    by_more : is_nobody (missing protocols (quiet (Ev.Take site (From.Ack t)) Say.Acked ∷ past) t decision) ≡ false
        → Goes protocols g past (Ev.Take site (From.Ack t)) more
    by_more e = record {
      is = refl;
      quiet = tt;
      wrote = tt;
      stands = Same (calm_standing protocols g past more tt) refl tt (waits e (same_tid t g) refl);
      tells = tt;
      counted = (λ c. tt);
      committed = tt;
    }

by_acked_while : (protocols : List Participant) (g : Tid) (past : CoordPast) (site : SiteId) (t : Tid) (s : Standing)
    → standing protocols past t ≡ s → Goes protocols g past (Ev.Take site (From.Ack t)) (acked_while protocols past site t s)
unfolding acked_while
by_acked_while protocols g past site t (Decided decision) e =
    goes_when protocols g past (Ev.Take site (From.Ack t)) (is_member site (missing protocols past t decision)) _ _
    (λ m. by_ack_counts protocols g past site t decision e (missing_recorded protocols past t decision site m))
    (λ m. ignored protocols g past (Ev.Take site (From.Ack t)))
by_acked_while protocols g past site t Undecided e = ignored protocols g past (Ev.Take site (From.Ack t))
by_acked_while protocols g past site t Gone e = ignored protocols g past (Ev.Take site (From.Ack t))

by_ack : (protocols : List Participant) (g : Tid) (past : CoordPast) (site : SiteId) (t : Tid)
    → Goes protocols g past (Ev.Take site (From.Ack t)) (of_ack protocols past site t)
unfolding of_ack
by_ack protocols g past site t = by_acked_while protocols g past site t (standing protocols past t) refl

by_take : (protocols : List Participant) (policy : Policy) (g : Tid) (past : CoordPast) (site : SiteId) (message : FromSite)
    → Goes protocols g past (Ev.Take site message) (of_take protocols policy past site message)
unfolding of_take
by_take protocols policy g past site (From.Did t e n reply) = by_did protocols policy g past site t e n reply
by_take protocols policy g past site (From.Vote t vote) = at_vote protocols g past site t vote
by_take protocols policy g past site (From.Ack t) = by_ack protocols g past site t
by_take protocols policy g past site (From.Inquiry t) = by_inquiry protocols g past site t

-- `again`
still_owed : (past : CoordPast) (t : Tid) (due : Due) → IsOwed past t due → IsOwed (quiet (Ev.Again t) Say.Only ∷ past) t due
still_owed past t (Due_is.Work site e n act) o = tt
still_owed past t (Due_is.Take site e n) o = tt
still_owed past t (Due_is.Prepare site e n) o = o

by_again_while : (protocols : List Participant) (policy : Policy) (g : Tid) (past : CoordPast) (t : Tid) (s : Standing)
    → standing protocols past t ≡ s → Goes protocols g past (Ev.Again t) (again_while protocols policy past t s)
unfolding again_while sends_all
by_again_while protocols policy g past t Undecided e =
    by_dues protocols g past (Ev.Again t) t (defers_all (held_back protocols policy past t due) (let_through protocols policy past t due))
    (let_through protocols policy past t due) (ap is_undecided e)
    (all_sending (held_back protocols policy past t due) (let_through protocols policy past t due)) tt tt
    (each_filtered (IsOwed (quiet (Ev.Again t) Say.Only ∷ past) t) (λ d. not (is_take d && not (may_take protocols policy past t))) due
    (each_map (IsOwed past t) (IsOwed (quiet (Ev.Again t) Say.Only ∷ past) t) (still_owed past t) due (all_owed protocols past t)))
  where
    due : List Due
    due = all_outstanding protocols past t
by_again_while protocols policy g past t (Decided decision) e = record {
  is = refl;
  quiet = tt;
  wrote = tt;
  stands = Same (calm_standing protocols g past y tt) refl tt (inl (λ at. calm_acked g past y at tt refl));
  tells = each_of_mapped (Tells protocols g past y) (λ member. record { site = member.site; message = _ })
      (missing protocols past t decision)
      (each_all (λ member. same_tid t g ≡ true → IsTelling protocols g past y member.site decision)
      (λ member q. of_same (λ u. IsTelling protocols u past y member.site decision) t g (Known e) q)
      (missing protocols past t decision));
  counted = (λ c. tt);
  committed = tt;
} where
  y : CoordHappening
  y = record {
    event = Ev.Again t;
    answer = Say.Only;
    sends = decide_to t decision (missing protocols past t decision);
    calls = [];
    lines = [];
  }
by_again_while protocols policy g past t Gone e = silently protocols g past (Ev.Again t) Say.Idle tt tt tt

by_again : (protocols : List Participant) (policy : Policy) (g : Tid) (past : CoordPast) (t : Tid)
    → Goes protocols g past (Ev.Again t) (of_again protocols policy past t)
unfolding of_again
by_again protocols policy g past t = by_again_while protocols policy g past t (standing protocols past t) refl

by_late : (protocols : List Participant) (g : Tid) (past : CoordPast) (t : Tid)
    → Goes protocols g past (Ev.Late t) (of_late protocols past t)
unfolding of_late aborts
by_late protocols g past t =
    goes_when protocols g past (Ev.Late t) (is_open past t) _ _
    (λ e. by_aborts protocols g past (Ev.Late t) t For.Late (open_undecided protocols past t e) (λ u. refl) tt (λ at. refl) tt)
    (λ e. silently protocols g past (Ev.Late t) Say.Idle tt tt tt)

-- a restart
pub by_back : (protocols : List Participant) (g : Tid) (past : CoordPast) → Goes protocols g past Ev.Back (of_back protocols past)
unfolding of_back
by_back protocols g past = record {
  is = refl;
  quiet = quiet_calls (is_torn coord_frame (disk past));
  wrote = wrote_nothing (is_torn coord_frame (disk past));
  stands = Restarts refl refl (λ at. refl) refl;
  tells = tt;
  counted = (λ c. tt);
  committed = tt;
} where
  quiet_calls : (b : Bool) → IsQuiet IsEnd false (cond b (CutBack ∷ []) [])
  quiet_calls true = tt
  quiet_calls false = tt

  wrote_nothing : (b : Bool) → WroteAll protocols g past Ev.Back (appended (cond b (CutBack ∷ []) []) [])
  wrote_nothing true = tt
  wrote_nothing false = tt

-- a Checkpoint
by_check : (protocols : List Participant) (g : Tid) (past : CoordPast) → Goes protocols g past Ev.Check (of_check protocols past)
unfolding of_check
by_check protocols g past =
    goes_when protocols g past Ev.Check (nat_lt longest (coord_payload (checkpoint protocols past))) _ sums
    (λ b. silently protocols g past Ev.Check Say.Large tt tt tt) (λ b. by_sum)
  where
    sums : CoordHappening
    sums = record { event = Ev.Check; answer = Say.Checked; sends = []; calls = Append (checkpoint protocols past) ∷ Sync ∷ TrimFront ∷ []; lines = [] }

    by_sum : Goes protocols g past Ev.Check sums
    by_sum = record {
      is = refl;
      quiet = inr tt;
      wrote = ((refl, refl), tt);
      stands = Same (calm_standing protocols g past sums tt) refl (tt, tt) (inl (λ site. calm_acked g past sums site tt (no_ack g site sums tt)));
      tells = tt;
      counted = (λ c. tt);
      committed = tt;
    }

-- what a coordinator that is up answers
pub by_answered : (protocols : List Participant) (policy : Policy) (g : Tid) (past : CoordPast) (event : CoordEvent)
    → Goes protocols g past event (answered protocols policy past event)
unfolding answered
by_answered protocols policy g past (Ev.Go t steps) = by_go protocols g past t steps
by_answered protocols policy g past (Ev.Take site message) = by_take protocols policy g past site message
by_answered protocols policy g past (Ev.Again t) = by_again protocols policy g past t
by_answered protocols policy g past (Ev.Late t) = by_late protocols g past t
by_answered protocols policy g past (Ev.Fate tx) = by_fate protocols g past tx
by_answered protocols policy g past (Ev.Halt cut) = silently protocols g past (Ev.Halt cut) Say.Down tt tt tt
by_answered protocols policy g past (Ev.Trip calls cut) = silently protocols g past (Ev.Trip calls cut) Say.Set tt tt tt
by_answered protocols policy g past Ev.Back = by_back protocols g past
by_answered protocols policy g past Ev.Check = by_check protocols g past
