-- What a line of the coordinator sends where nobody is undecided and nothing begins: decisions alone; and then nobody is undecided behind it.
use Rattle.std.proofs.Common.{◌≡◌, ℕ, ◌&&◌, Bool, true, false, cond, Option, Some, None, List, [], ◌∷◌, map, refl, sym, ap, subst, inl, inr}
use Rattle.mdb_base.specs.declared.names.SiteId.{SiteId}
use Rattle.mdb_base.specs.declared.names.Tid.{Tid}
use Rattle.mdb_base.specs.declared.replies.Reply.{Reply}
use Rattle.mdb_base.specs.Names.{same_site}
use Rattle.mdb_base.specs.Words.{Each, when, given, those}
use Rattle.mdb_base.proofs.ForCallers.{never}
use Rattle.order_laws.specs.Chains.{In}
use Rattle.order_laws.proofs.ForCallers.{bool_is}
use Rattle.presumptions.specs.declared.Decision.{Decision}
use Rattle.presumptions.specs.declared.Participant.{Participant}
use Rattle.fed_rules.specs.declared.answers.Answer.{Answer}
use Rattle.fed_rules.specs.declared.answers.Answer.TheVariants as Say
use Rattle.fed_rules.specs.declared.events.CoordEvent.{CoordEvent}
use Rattle.fed_rules.specs.declared.events.CoordEvent.TheVariants as Ev
use Rattle.fed_rules.specs.declared.messages.FromSite.TheVariants as From
use Rattle.fed_rules.specs.declared.messages.Sent.{Sent}
use Rattle.fed_rules.specs.declared.messages.ToSite.{ToSite}
use Rattle.fed_rules.specs.declared.messages.ToSite.TheVariants as To
use Rattle.fed_rules.specs.Coord.{ack_counts, acked_while, again_while, answered, asked_while, coord_line, decide_to, did_counts, fits, of_ack, of_again, of_back, of_check, of_did, of_fate, of_inquiry, of_late, of_take, of_vote, vote_counts, is_due_vote}
use Rattle.fed_rules.specs.CoordPast.{CoordHappening, CoordPast, Standing, Undecided, Decided, Gone, begins, disk, is_open, known_decision, outstanding, standing, standing_of, trip}
use Rattle.fed_rules.specs.CoordRecords.{coord_frame}
use Rattle.fed_rules.specs.Happenings.{Trip, is_down, quiet, stopped, tripped}
use Rattle.fed_rules.specs.Policies.{Policy}
use Rattle.fed_rules.proofs.ForCallers.{BeginsNothing}
use Rattle.coord_laws.proofs.ForCallers.{Begins, IsMade, IsOpen, is_undecided, undecided_from}
use Rattle.commit_laws.proofs.ForCallers.{to_site}

-- a decision
abbrev pub IsDecide : ToSite → Type 0
IsDecide (To.Decide tid decision) = Unit {0}
IsDecide message = ⊥

-- each message is a decision
abbrev pub AreDecisions : List Sent → Type 0
AreDecisions sends = Each (λ (sent : Sent). IsDecide sent.message) sends

-- no attempt is undecided
abbrev pub NobodyIsOpen : CoordPast → Type 0
NobodyIsOpen past = (tid : Tid) → is_open past tid ≡ false

pub closed_standing : (protocols : List Participant) (past : CoordPast) (tid : Tid) → is_open past tid ≡ false → IsOpen protocols past tid → ⊥
closed_standing protocols past tid closed o = by_open (is_open past tid) (known_decision protocols past tid) closed o
  where
    by_open : (b : Bool) (d : Option Decision) → b ≡ false → is_undecided (standing_of b d) ≡ true → ⊥
    by_open true d e o = cc
    by_open false None e o = cc
    by_open false (Some decision) e o = cc

sends_when : (b : Bool) (x y : CoordHappening) → (b ≡ true → AreDecisions x.sends) → (b ≡ false → AreDecisions y.sends) → AreDecisions (when b x y).sends
unfolding when
sends_when true x y p q = p refl
sends_when false x y p q = q refl

sends_given : {A : Type 0} (o : Option A) (none : CoordHappening) (some : A → CoordHappening) → AreDecisions none.sends → ((a : A) → AreDecisions (some a).sends) → AreDecisions (given o some none).sends
unfolding given
sends_given None none some p q = p
sends_given (Some a) none some p q = q a

to_each : (tid : Tid) (decision : Decision) (members : List Participant) → AreDecisions (decide_to tid decision members)
to_each tid decision [] = tt
to_each tid decision (member ∷ members) = (tt, to_each tid decision members)

module _ (protocols : List Participant) (policy : Policy) (past : CoordPast) (closed : NobodyIsOpen past) where
  did_sends : (site : SiteId) (tid : Tid) (epoch n : ℕ) (reply : Reply) → AreDecisions (of_did protocols policy past site tid epoch n reply).sends
  unfolding of_did
  did_sends site tid epoch n reply =
      sends_when (did_counts past site tid epoch n reply) _ _
      (λ e. never (did_counts past site tid epoch n reply) (not_counted (is_open past tid) (fits (outstanding past tid site) n reply) _ (closed tid)) e)
      (λ e. tt)
    where
      not_counted : (a b c : Bool) → a ≡ false → (a && b && c) ≡ false
      not_counted true b c e = cc
      not_counted false b c e = refl

  vote_sends : (site : SiteId) (tid : Tid) (vote : Option ℕ) → AreDecisions (of_vote protocols past site tid vote).sends
  unfolding of_vote
  vote_sends site tid vote =
      sends_when (vote_counts past site tid) _ _ (λ e. never (vote_counts past site tid) (ap (λ b. b && is_due_vote (outstanding past tid site)) (closed tid)) e) (λ e. tt)

  ack_sends : (site : SiteId) (tid : Tid) → AreDecisions (of_ack protocols past site tid).sends
  unfolding of_ack acked_while ack_counts
  ack_sends site tid = by_standing (standing protocols past tid)
    where
      by_standing : (s : Standing) → AreDecisions (acked_while protocols past site tid s).sends
      by_standing Undecided = tt
      by_standing (Decided decision) = sends_when _ _ _ (λ e. sends_when _ _ _ (λ e. tt) (λ e. tt)) (λ e. tt)
      by_standing Gone = tt

  inquiry_sends : (site : SiteId) (tid : Tid) → AreDecisions (of_inquiry protocols past site tid).sends
  unfolding of_inquiry asked_while
  inquiry_sends site tid = by_standing (standing protocols past tid)
    where
      by_standing : (s : Standing) → AreDecisions (asked_while protocols site tid s).sends
      by_standing Undecided = tt
      by_standing (Decided decision) = (tt, tt)
      by_standing Gone = (tt, tt)

  again_sends : (tid : Tid) → AreDecisions (of_again protocols policy past tid).sends
  unfolding of_again again_while
  again_sends tid = by_standing (standing protocols past tid) refl
    where
      by_standing : (s : Standing) → standing protocols past tid ≡ s → AreDecisions (again_while protocols policy past tid s).sends
      by_standing Undecided e = absurd (closed_standing protocols past tid (closed tid) (ap is_undecided e))
      by_standing (Decided decision) e = to_each tid decision _
      by_standing Gone e = tt

  late_sends : (tid : Tid) → AreDecisions (of_late protocols past tid).sends
  unfolding of_late
  late_sends tid = sends_when (is_open past tid) _ _ (λ e. never (is_open past tid) (closed tid) e) (λ e. tt)

  answered_sends : (event : CoordEvent) → BeginsNothing event → AreDecisions (answered protocols policy past event).sends
  unfolding answered of_take of_fate of_back of_check
  answered_sends (Ev.Go tid steps) i = absurd i
  answered_sends (Ev.Take site (From.Did tid epoch n reply)) i = did_sends site tid epoch n reply
  answered_sends (Ev.Take site (From.Vote tid vote)) i = vote_sends site tid vote
  answered_sends (Ev.Take site (From.Ack tid)) i = ack_sends site tid
  answered_sends (Ev.Take site (From.Inquiry tid)) i = inquiry_sends site tid
  answered_sends (Ev.Again tid) i = again_sends tid
  answered_sends (Ev.Late tid) i = late_sends tid
  answered_sends (Ev.Fate tx) i = sends_given _ _ _ (sends_given _ _ _ tt (λ t. tt)) (λ t. tt)
  answered_sends (Ev.Halt cut) i = tt
  answered_sends (Ev.Trip calls cut) i = tt
  answered_sends Ev.Back i = tt
  answered_sends Ev.Check i = sends_when _ _ _ (λ e. tt) (λ e. tt)

  tripped_sends : (t : Option Trip) (y : CoordHappening) → AreDecisions y.sends → AreDecisions (tripped coord_frame (disk past) t y).sends
  unfolding tripped stopped
  tripped_sends None y h = h
  tripped_sends (Some t) y h = sends_when _ _ _ (λ e. tt) (λ e. h)

  while_up : (event : CoordEvent) → BeginsNothing event
      → AreDecisions (when (is_down past) (quiet event Say.Down) (tripped coord_frame (disk past) (trip past) (answered protocols policy past event))).sends
  while_up event i = sends_when _ _ _ (λ e. tt) (λ e. tripped_sends (trip past) (answered protocols policy past event) (answered_sends event i))

  -- each line sends decisions alone
  pub decisions_alone : (event : CoordEvent) → BeginsNothing event → AreDecisions (coord_line protocols policy past event).sends
  unfolding coord_line of_back stopped
  decisions_alone (Ev.Go tid steps) i = absurd i
  decisions_alone (Ev.Take site message) i = while_up (Ev.Take site message) tt
  decisions_alone (Ev.Again tid) i = while_up (Ev.Again tid) tt
  decisions_alone (Ev.Late tid) i = while_up (Ev.Late tid) tt
  decisions_alone (Ev.Fate tx) i = while_up (Ev.Fate tx) tt
  decisions_alone (Ev.Halt cut) i = sends_when _ _ _ (λ e. tt) (λ e. tt)
  decisions_alone (Ev.Trip calls cut) i = tt
  decisions_alone Ev.Back i = sends_when _ _ _ (λ e. tripped_sends (trip past) (of_back protocols past) tt) (λ e. tt)
  decisions_alone Ev.Check i = while_up Ev.Check tt

-- so is each one that reaches a site
pub each_here : (site : SiteId) (sends : List Sent) (m : ToSite) → AreDecisions sends → In m (to_site site sends) → IsDecide m
each_here site [] m each i = absurd i
each_here site (s ∷ sends) m each i = by_test (same_site s.site site) i (each_here site sends m each.1)
  where
    by_test : (b : Bool) → In m (map (λ k. k.message) (cond b (s ∷ those (λ k. same_site k.site site) sends) (those (λ k. same_site k.site site) sends)))
        → (In m (to_site site sends) → IsDecide m) → IsDecide m
    by_test true (inl e) k = subst IsDecide e each.0
    by_test true (inr j) k = k j
    by_test false j k = k j

no_begin : (event : CoordEvent) (tid : Tid) (answer : Answer) → Begins event answer → BeginsNothing event → begins tid answer ≡ true → ⊥
no_begin event tid (Say.Begun t) b i e = subst BeginsNothing b.1 i
no_begin event tid answer b i e = cc

-- and leaves nobody undecided
pub still_nobody : (protocols : List Participant) (past : CoordPast) (event : CoordEvent) (x : CoordHappening) → IsMade protocols past event x → BeginsNothing event
    → NobodyIsOpen past → NobodyIsOpen (x ∷ past)
still_nobody protocols past event x made i closed tid = elim (bool_is (is_open (x ∷ past) tid)) [
  | inl e ↦ elim (undecided_from past tid x (subst (λ ev. Begins ev x.answer) (sym made.heard) made.begun) e) [
    | inl b ↦ absurd (no_begin event tid x.answer made.begun i b)
    | inr (old, rest, more) ↦ never (is_open past tid) (closed tid) old
  ]
  | inr e ↦ e
]
