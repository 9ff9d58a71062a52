-- What a line of the coordinator makes of a known attempt.
use Rattle.std.proofs.Common.{ℕ, ◌≡◌, Bool, true, false, cond, ◌&&◌, ◌||◌, Some, None, List, [], ◌∷◌, map, refl, sym, ap, ◌∙◌, subst}
use Rattle.mdb_base.specs.declared.names.SiteId.{SiteId}
use Rattle.mdb_base.specs.declared.names.Tid.{Tid}
use Rattle.mdb_base.specs.Names.{same_site, same_tid}
use Rattle.mdb_base.specs.Words.{Each}
use Rattle.mdb_base.proofs.ForCallers.{same_site-sym, same_tid-refl}
use Rattle.presumptions.specs.declared.Decision.{Decision}
use Rattle.presumptions.specs.declared.Participant.{Participant}
use Rattle.fed_rules.specs.declared.events.CoordEvent.TheVariants as Ev
use Rattle.fed_rules.specs.declared.messages.FromSite.TheVariants as From
use Rattle.fed_rules.specs.Happenings.{stops, comes_up}
use Rattle.fed_rules.specs.CoordRecords.{named}
use Rattle.fed_rules.specs.CoordPast.{CoordHappening, CoordPast, begins, counts, decides, is_about, participants, records, has_acked, vote_at, vote_in, or_vote, acks_in}
use Rattle.protocol_table.specs.declared.members.Member.{Member}
use Rattle.protocol_table.specs.declared.known.Known.{Known}
use Rattle.protocol_table.specs.declared.known.Restored.{Restored}
use Rattle.protocol_table.specs.Agreement.{IsDecidedAs, IsNamedAs, IsUndecidedAs, voter}
use Rattle.protocol_table.specs.Attempts.{decision_of, member_of, participant_of, restored, submitted, with_ack, with_vote}
use Rattle.protocol_table.specs.Ends.{acked, decide, initiate, voted}
use Rattle.protocol_table.specs.Pasts.{GoesOn, NamesAsBefore, VotesAsBefore}
use Rattle.protocol_table.proofs.Agreeing.{voters_are}

-- ---- sites and attempts

-- ---- the members as participants

members_are : (ps : List Participant) → map participant_of (map member_of ps) ≡ ps
members_are [] = refl
members_are (p ∷ ps) = ap (λ qs. p ∷ qs) (members_are ps)

-- ---- begin

fresh_voters : (past : CoordPast) (tid : Tid) (ps : List Participant) → ((site : SiteId) → vote_at past tid site ≡ None) → map member_of ps ≡ map (voter past tid) ps
fresh_voters past tid [] none = refl
fresh_voters past tid (p ∷ ps) none =
    ap (λ v. record { site = p.site; protocol = p.protocol; vote = v; acked = false } ∷ map member_of ps) (sym (none p.site))
    ∙ ap (λ ms. voter past tid p ∷ ms) (fresh_voters past tid ps none)

pub begins_go : (protocols : List Participant) (past : CoordPast) (tid : Tid) (x : CoordHappening) → begins tid x.answer ≡ true →
    named protocols (records (x ∷ past)) tid ≡ None → IsUndecidedAs protocols (x ∷ past) tid (submitted tid (participants protocols (x ∷ past) tid))
begins_go protocols past tid x begun none =
    record {
      name = refl;
      undecided = refl;
      members = fresh_voters (x ∷ past) tid (participants protocols (x ∷ past) tid) (λ site. rw begun refl);
      named = sym none;
    }

-- ---- votes

one_vote : (past : CoordPast) (tid : Tid) (x : CoordHappening) (site : SiteId) (ticket : ℕ) → x.event ≡ Ev.Take site (From.Vote tid (Some ticket)) →
    begins tid x.answer ≡ false → counts x.answer ≡ true → (p : Participant) → with_vote site ticket (voter past tid p) ≡ voter (x ∷ past) tid p
one_vote past tid x site ticket event old new p =
    let now : vote_at (x ∷ past) tid p.site ≡ or_vote (vote_in tid p.site x.event) (vote_at past tid p.site) = rw old (rw new refl) in
    let here : (same_tid tid tid && same_site site p.site) ≡ same_site p.site site =
    ap (λ b. b && same_site site p.site) (same_tid-refl tid) ∙ same_site-sym site p.site in
    let cast : vote_in tid p.site x.event ≡ cond (same_site p.site site) (Some ticket) None =
    ap (vote_in tid p.site) event ∙ ap (λ b. cond b (Some ticket) None) here in
    by_site (same_site p.site site)
    ∙ ap (λ v. record { site = p.site; protocol = p.protocol; vote = v; acked = false }) (sym (now ∙ ap (λ v. or_vote v (vote_at past tid p.site)) cast))
  where
    by_site : (b : Bool) → cond b (record (voter past tid p) { vote = Some ticket }) (voter past tid p)
        ≡ record { site = p.site; protocol = p.protocol; vote = or_vote (cond b (Some ticket) None) (vote_at past tid p.site); acked = false }
    by_site true = refl
    by_site false = refl

new_votes : (past : CoordPast) (tid : Tid) (x : CoordHappening) (site : SiteId) (ticket : ℕ) → x.event ≡ Ev.Take site (From.Vote tid (Some ticket)) →
    begins tid x.answer ≡ false → counts x.answer ≡ true → (ps : List Participant) →
    map (with_vote site ticket) (map (voter past tid) ps) ≡ map (voter (x ∷ past) tid) ps
new_votes past tid x site ticket event old new [] = refl
new_votes past tid x site ticket event old new (p ∷ ps) =
    ap (λ m. m ∷ map (with_vote site ticket) (map (voter past tid) ps)) (one_vote past tid x site ticket event old new p)
    ∙ ap (λ ms. voter (x ∷ past) tid p ∷ ms) (new_votes past tid x site ticket event old new ps)

same_participants : (protocols : List Participant) (past : CoordPast) (tid : Tid) (x : CoordHappening) → begins tid x.answer ≡ false →
    participants protocols (x ∷ past) tid ≡ participants protocols past tid
same_participants protocols past tid x old = rw old refl

-- with a vote the members are the same participants
with_votes_are : (site : SiteId) (ticket : ℕ) (ms : List Member) → map participant_of (map (with_vote site ticket) ms) ≡ map participant_of ms
with_votes_are site ticket [] = refl
with_votes_are site ticket (m ∷ ms) =
    ap (λ p. p ∷ map participant_of (map (with_vote site ticket) ms)) (by_test (same_site m.site site)) ∙ ap (λ ps. participant_of m ∷ ps) (with_votes_are site ticket ms)
  where
    by_test : (b : Bool) → participant_of (cond b (record m { vote = Some ticket }) m) ≡ participant_of m
    by_test true = refl
    by_test false = refl

pub votes_go : (protocols : List Participant) (past : CoordPast) (tid : Tid) (known : Known) → IsUndecidedAs protocols past tid known →
    (site : SiteId) (ticket : ℕ) (x : CoordHappening) → x.event ≡ Ev.Take site (From.Vote tid (Some ticket)) → begins tid x.answer ≡ false → counts x.answer ≡ true →
    NamesAsBefore protocols past x tid → IsUndecidedAs protocols (x ∷ past) tid (voted site ticket known)
votes_go protocols past tid known h site ticket x event old new names =
    record {
      name = h.name;
      undecided = h.undecided;
      members =
          ap (map (with_vote site ticket)) h.members
          ∙ (new_votes past tid x site ticket event old new (participants protocols past tid)
          ∙ ap (map (voter (x ∷ past) tid)) (sym (same_participants protocols past tid x old)));
      named = ap (λ ps. cond known.initiated (Some ps) None) (with_votes_are site ticket known.members) ∙ (h.named ∙ sym names);
    }

-- ---- lines that leave program and votes

same_voters : (past : CoordPast) (x : CoordHappening) (tid : Tid) (ps : List Participant) → ((site : SiteId) → vote_at (x ∷ past) tid site ≡ vote_at past tid site) →
    map (voter past tid) ps ≡ map (voter (x ∷ past) tid) ps
same_voters past x tid [] h = refl
same_voters past x tid (p ∷ ps) h =
    ap (λ v. record { site = p.site; protocol = p.protocol; vote = v; acked = false } ∷ map (voter past tid) ps) (sym (h p.site))
    ∙ ap (λ ms. voter (x ∷ past) tid p ∷ ms) (same_voters past x tid ps h)

still : (protocols : List Participant) (past : CoordPast) (tid : Tid) (known : Known) → IsUndecidedAs protocols past tid known →
    (x : CoordHappening) → VotesAsBefore past x tid → known.members ≡ map (voter (x ∷ past) tid) (participants protocols (x ∷ past) tid)
still protocols past tid known h x v =
    h.members ∙ (same_voters past x tid (participants protocols past tid) v.votes ∙ ap (map (voter (x ∷ past) tid)) (sym (v.participants protocols)))

pub undecided_stay : (protocols : List Participant) (past : CoordPast) (tid : Tid) (known : Known) → IsUndecidedAs protocols past tid known →
    (x : CoordHappening) → VotesAsBefore past x tid → NamesAsBefore protocols past x tid → IsUndecidedAs protocols (x ∷ past) tid known
undecided_stay protocols past tid known h x v names =
    record { name = h.name; undecided = h.undecided; members = still protocols past tid known h x v; named = h.named ∙ sym names }

pub records_go : (protocols : List Participant) (past : CoordPast) (tid : Tid) (known : Known) → IsUndecidedAs protocols past tid known →
    (x : CoordHappening) → VotesAsBefore past x tid → named protocols (records (x ∷ past)) tid ≡ Some (participants protocols past tid) →
    IsUndecidedAs protocols (x ∷ past) tid (initiate known)
records_go protocols past tid known h x v names =
    record {
      name = h.name;
      undecided = h.undecided;
      members = still protocols past tid known h x v;
      named = ap (λ ps. Some ps) (ap (map participant_of) h.members ∙ voters_are past tid (participants protocols past tid)) ∙ sym names;
    }

-- ---- decisions and restarts

none_acked : (past : CoordPast) (tid : Tid) (ms : List Member) → ((site : SiteId) → has_acked past tid site ≡ false) → Each (λ m. m.acked ≡ false) ms →
    Each (λ m. m.acked ≡ has_acked past tid m.site) ms
none_acked past tid [] none h = tt
none_acked past tid (m ∷ ms) none h = (h.0 ∙ sym (none m.site), none_acked past tid ms none h.1)

voters_silent : (past : CoordPast) (tid : Tid) (ps : List Participant) → Each (λ m. m.acked ≡ false) (map (voter past tid) ps)
voters_silent past tid [] = tt
voters_silent past tid (p ∷ ps) = (refl, voters_silent past tid ps)

members_silent : (ps : List Participant) → Each (λ m. m.acked ≡ false) (map member_of ps)
members_silent [] = tt
members_silent (p ∷ ps) = (refl, members_silent ps)

decided_anew : (past : CoordPast) (tid : Tid) (x : CoordHappening) → is_about tid x.event ≡ true → decides x.answer ≡ true → (site : SiteId) →
    has_acked (x ∷ past) tid site ≡ false
decided_anew past tid x about new site = rw about (rw new (by_test (stops x.answer) (comes_up x.answer) (acks_in tid site x || has_acked past tid site)))
  where
    by_test : (b d e : Bool) → cond (b || d || true) false e ≡ false
    by_test true d e = refl
    by_test false true e = refl
    by_test false false e = refl

restarted : (past : CoordPast) (tid : Tid) (x : CoordHappening) → (stops x.answer || comes_up x.answer) ≡ true → (site : SiteId) → has_acked (x ∷ past) tid site ≡ false
restarted past tid x anew site = by_test (stops x.answer) (comes_up x.answer) (is_about tid x.event && decides x.answer) (acks_in tid site x || has_acked past tid site) anew
  where
    by_test : (b d e f : Bool) → (b || d) ≡ true → cond (b || d || e) false f ≡ false
    by_test true d e f h = refl
    by_test false true e f h = refl
    by_test false false e f h = cc

pub decisions_go : (protocols : List Participant) (past : CoordPast) (tid : Tid) (known : Known) → IsUndecidedAs protocols past tid known →
    (decision : Decision) (first : Bool) (x : CoordHappening) → is_about tid x.event ≡ true → decides x.answer ≡ true →
    IsNamedAs protocols (x ∷ past) tid (cond first (initiate known) known) →
    IsDecidedAs protocols (x ∷ past) tid decision (decide decision (cond first (initiate known) known))
decisions_go protocols past tid known h decision true x about new names =
    record {
      name = h.name;
      decided = refl;
      acks = none_acked (x ∷ past) tid known.members (decided_anew past tid x about new)
          (subst (Each (λ m. m.acked ≡ false)) (sym h.members) (voters_silent past tid (participants protocols past tid)));
      named = names;
    }
decisions_go protocols past tid known h decision false x about new names =
    record {
      name = h.name;
      decided = refl;
      acks = none_acked (x ∷ past) tid known.members (decided_anew past tid x about new)
          (subst (Each (λ m. m.acked ≡ false)) (sym h.members) (voters_silent past tid (participants protocols past tid)));
      named = names;
    }

pub restarts_go : (protocols : List Participant) (past : CoordPast) (x : CoordHappening) (kept : Restored) → (stops x.answer || comes_up x.answer) ≡ true →
    named protocols (records (x ∷ past)) kept.tid ≡ Some kept.participants →
    IsDecidedAs protocols (x ∷ past) kept.tid (decision_of kept.committed) (restored kept)
restarts_go protocols past x kept anew names =
    record {
      name = refl;
      decided = refl;
      acks = none_acked (x ∷ past) kept.tid (map member_of kept.participants) (restarted past kept.tid x anew) (members_silent kept.participants);
      named = ap (λ ps. Some ps) (members_are kept.participants) ∙ sym names;
    }

-- ---- acknowledgements

one_ack : (past : CoordPast) (tid : Tid) (x : CoordHappening) (site : SiteId) → x.event ≡ Ev.Take site (From.Ack tid) → GoesOn x → decides x.answer ≡ false →
    counts x.answer ≡ true → (m : Member) → m.acked ≡ has_acked past tid m.site → (with_ack site m).acked ≡ has_acked (x ∷ past) tid (with_ack site m).site
one_ack past tid x site event on still new m h = by_site (same_site m.site site) (off ∙ ap (λ b. b || has_acked past tid m.site) acks)
  where
    and_true : (b : Bool) → (b && true) ≡ b
    and_true true = refl
    and_true false = refl

    goes : (b d e f : Bool) → (b || d) ≡ false → e ≡ false → cond (b || d || e) false f ≡ f
    goes true d e f p q = cc
    goes false true e f p q = cc
    goes false false true f p q = cc
    goes false false false f p q = refl

    no_decision : (b d : Bool) → d ≡ false → (b && d) ≡ false
    no_decision true d e = e
    no_decision false d e = refl

    off : has_acked (x ∷ past) tid m.site ≡ (acks_in tid m.site x || has_acked past tid m.site)
    off = goes (stops x.answer) (comes_up x.answer) (is_about tid x.event && decides x.answer) (acks_in tid m.site x || has_acked past tid m.site) on.stays
        (no_decision (is_about tid x.event) (decides x.answer) still)

    acks : acks_in tid m.site x ≡ same_site m.site site
    acks =
        ap (λ e. acks_in tid m.site (record x { event = e })) event
        ∙ (ap (λ b. (b && same_site site m.site) && counts x.answer) (same_tid-refl tid)
        ∙ (ap (λ b. same_site site m.site && b) new ∙ (and_true (same_site site m.site) ∙ same_site-sym site m.site)))

    by_site : (b : Bool) → has_acked (x ∷ past) tid m.site ≡ (b || has_acked past tid m.site) →
        (cond b (record m { acked = true }) m).acked ≡ has_acked (x ∷ past) tid (cond b (record m { acked = true }) m).site
    by_site true e = sym e
    by_site false e = h ∙ sym e

new_acks : (past : CoordPast) (tid : Tid) (x : CoordHappening) (site : SiteId) → x.event ≡ Ev.Take site (From.Ack tid) → GoesOn x → decides x.answer ≡ false →
    counts x.answer ≡ true → (ms : List Member) → Each (λ m. m.acked ≡ has_acked past tid m.site) ms →
    Each (λ m. m.acked ≡ has_acked (x ∷ past) tid m.site) (map (with_ack site) ms)
new_acks past tid x site event on still new [] h = tt
new_acks past tid x site event on still new (m ∷ ms) h = (one_ack past tid x site event on still new m h.0, new_acks past tid x site event on still new ms h.1)

with_acks_are : (site : SiteId) (ms : List Member) → map participant_of (map (with_ack site) ms) ≡ map participant_of ms
with_acks_are site [] = refl
with_acks_are site (m ∷ ms) =
    ap (λ p. p ∷ map participant_of (map (with_ack site) ms)) (by_test (same_site m.site site)) ∙ ap (λ ps. participant_of m ∷ ps) (with_acks_are site ms)
  where
    by_test : (b : Bool) → participant_of (cond b (record m { acked = true }) m) ≡ participant_of m
    by_test true = refl
    by_test false = refl

pub acks_go : (protocols : List Participant) (past : CoordPast) (tid : Tid) (decision : Decision) (known : Known) → IsDecidedAs protocols past tid decision known →
    (site : SiteId) (x : CoordHappening) → x.event ≡ Ev.Take site (From.Ack tid) → GoesOn x → decides x.answer ≡ false → counts x.answer ≡ true →
    NamesAsBefore protocols past x tid → IsDecidedAs protocols (x ∷ past) tid decision (acked site known)
acks_go protocols past tid decision known h site x event on undecided new names =
    record {
      name = h.name;
      decided = h.decided;
      acks = new_acks past tid x site event on undecided new known.members h.acks;
      named = ap (λ ps. cond known.initiated (Some ps) None) (with_acks_are site known.members) ∙ (h.named ∙ sym names);
    }
