-- What the table and the coordinator's past say alike.
use Rattle.std.proofs.Common.{◌≡◌, Bool, true, false, cond, not, is_some, is_none, ◌&&◌, ◌||◌, Option, Some, None, List, [], ◌∷◌, map, refl, ap, ◌∙◌}
use Rattle.mdb_base.specs.declared.names.SiteId.{SiteId}
use Rattle.mdb_base.specs.declared.names.Tid.{Tid}
use Rattle.mdb_base.specs.Names.{same_site}
use Rattle.mdb_base.specs.Words.{Each, some_of, found, holds_of, those, with_some}
use Rattle.mdb_base.proofs.ForCallers.{and_false, and_true}
use Rattle.presumptions.specs.declared.Decision.{Decision}
use Rattle.presumptions.specs.declared.Participant.{Participant}
use Rattle.presumptions.specs.declared.Protocol.{Protocol}
use Rattle.presumptions.specs.Table.{acks}
use Rattle.fed_rules.specs.CoordRecords.{acking, class_of, has_abort, has_initiation, is_nobody, named, required_of}
use Rattle.fed_rules.specs.CoordPast.{CoordPast, Standing, participants, records, has_acked, vote_at}
use Rattle.fed_rules.specs.CoordPast.Standing.{Undecided, Decided, Gone}
use Rattle.fed_rules.specs.Coord.{all_voted as all_voted_past, is_member, missing as missing_past, vote_ticket, vote_tickets}
use Rattle.protocol_table.specs.declared.members.Member.{Member}
use Rattle.protocol_table.specs.declared.known.Known.{Known}
use Rattle.protocol_table.specs.Agreement.{IsDecidedAs, IsKnownAs, IsUndecidedAs, member_ticket, told, voter}
use Rattle.protocol_table.specs.Attempts.{all_voted, lacks_ack, missing, participant_of}
use Rattle.protocol_table.specs.Ends.{lacks_ack_of, said, said_of}
use Rattle.protocol_table.specs.Pasts.{AcksAgreeAt, ClassAgreesAt, VotesAgreeAt}

-- ---- inquiries

pub answers_agree : (protocols : List Participant) (past : CoordPast) (tid : Tid) (standing : Standing) (known : Option Known) (inquirer : Protocol) →
    IsKnownAs protocols past tid standing known → said inquirer known ≡ told inquirer standing
answers_agree protocols past tid Undecided (Some known) inquirer h = ap said_of h.undecided
answers_agree protocols past tid Undecided None inquirer h = absurd h
answers_agree protocols past tid (Decided decision) (Some known) inquirer h = ap said_of h.decided
answers_agree protocols past tid (Decided decision) None inquirer h = absurd h
answers_agree protocols past tid Gone (Some known) inquirer h = absurd h
answers_agree protocols past tid Gone None inquirer h = refl

-- ---- votes

voters_voted : (past : CoordPast) (tid : Tid) (ps : List Participant) → all_voted (map (voter past tid) ps) ≡ all_voted_past past tid ps
voters_voted past tid [] = refl
voters_voted past tid (p ∷ ps) = ap (λ b. is_some (vote_at past tid p.site) && b) (voters_voted past tid ps)

voters_tickets : (past : CoordPast) (tid : Tid) (ps : List Participant) → found member_ticket (map (voter past tid) ps) ≡ vote_tickets past tid ps
voters_tickets past tid [] = refl
voters_tickets past tid (p ∷ ps) = ap (λ ks. with_some (vote_ticket p.site (vote_at past tid p.site)) ks) (voters_tickets past tid ps)

pub votes_agree : (protocols : List Participant) (past : CoordPast) (tid : Tid) (known : Known) → IsUndecidedAs protocols past tid known →
    VotesAgreeAt past tid (participants protocols past tid) known
votes_agree protocols past tid known h =
    record {
      all = ap all_voted h.members ∙ voters_voted past tid (participants protocols past tid);
      tickets = ap (found member_ticket) h.members ∙ voters_tickets past tid (participants protocols past tid);
    }

-- ---- classes

pub voters_are : (past : CoordPast) (tid : Tid) (ps : List Participant) → map participant_of (map (voter past tid) ps) ≡ ps
voters_are past tid [] = refl
voters_are past tid (p ∷ ps) = ap (λ qs. p ∷ qs) (voters_are past tid ps)

lacks_step : (ps : List Participant) (initiated : Bool) (b : Bool) → (not initiated && b) ≡ (b && is_none (cond initiated (Some ps) None))
lacks_step ps true true = refl
lacks_step ps true false = refl
lacks_step ps false true = refl
lacks_step ps false false = refl

pub classes_agree : (protocols : List Participant) (past : CoordPast) (tid : Tid) (known : Known) → IsUndecidedAs protocols past tid known →
    ClassAgreesAt protocols past tid known
classes_agree protocols past tid known h =
    let same : map participant_of known.members ≡ participants protocols past tid =
    ap (map participant_of) h.members ∙ voters_are past tid (participants protocols past tid) in
    record {
      initiation =
          lacks_step (map participant_of known.members) known.initiated (has_initiation (class_of (map participant_of known.members)))
          ∙ (ap (λ qs. has_initiation (class_of (map participant_of known.members)) && is_none qs) h.named
          ∙ ap (λ ps. has_initiation (class_of ps) && is_none (named protocols (records past) tid)) same);
      abort = ap (λ ps. has_abort (class_of ps)) same;
    }

-- ---- acknowledgements

none_of : {A : Type 0} (xs : List A) → those (λ x. false) xs ≡ []
none_of [] = refl
none_of (x ∷ xs) = none_of xs

-- the members that lack an acknowledgement are those of the participants that do
lacking : (past : CoordPast) (tid : Tid) (decision : Decision) (ms : List Member) → Each (λ m. m.acked ≡ has_acked past tid m.site) ms →
    map participant_of (those (lacks_ack decision true) ms) ≡ those (λ p. not (has_acked past tid p.site)) (acking decision (map participant_of ms))
lacking past tid decision [] h = refl
lacking past tid decision (m ∷ ms) h = by_test (acks m.protocol decision) m.acked h.0 (lacking past tid decision ms h.1)
  where
    by_test : (a b : Bool) → b ≡ has_acked past tid m.site →
        map participant_of (those (lacks_ack decision true) ms) ≡ those (λ p. not (has_acked past tid p.site)) (acking decision (map participant_of ms)) →
        map participant_of (cond (a && not b) (m ∷ those (lacks_ack decision true) ms) (those (lacks_ack decision true) ms))
        ≡ those (λ p. not (has_acked past tid p.site)) (cond a (participant_of m ∷ acking decision (map participant_of ms)) (acking decision (map participant_of ms)))
    by_test false b e rest = rest
    by_test true true e rest =
        rest ∙ ap (λ d. cond (not d) (participant_of m ∷ those (λ p. not (has_acked past tid p.site)) (acking decision (map participant_of ms)))
        (those (λ p. not (has_acked past tid p.site)) (acking decision (map participant_of ms)))) e
    by_test true false e rest =
        ap (λ qs. participant_of m ∷ qs) rest
        ∙ ap (λ d. cond (not d) (participant_of m ∷ those (λ p. not (has_acked past tid p.site)) (acking decision (map participant_of ms)))
        (those (λ p. not (has_acked past tid p.site)) (acking decision (map participant_of ms)))) e

missing_step : (protocols : List Participant) (past : CoordPast) (tid : Tid) (decision : Decision) (ms : List Member) (initiated : Bool) →
    Each (λ m. m.acked ≡ has_acked past tid m.site) ms → cond initiated (Some (map participant_of ms)) None ≡ named protocols (records past) tid →
    map participant_of (those (lacks_ack decision initiated) ms) ≡ missing_past protocols past tid decision
missing_step protocols past tid decision ms true h e =
    lacking past tid decision ms h ∙ ap (λ ps. those (λ p. not (has_acked past tid p.site)) (required_of decision ps)) e
missing_step protocols past tid decision ms false h e =
    ap (map participant_of) (none_of ms) ∙ ap (λ ps. those (λ p. not (has_acked past tid p.site)) (required_of decision ps)) e

some_of_those : (site : SiteId) (test : Member → Bool) (ms : List Member) →
    some_of (λ m. same_site m.site site && test m) ms ≡ some_of (λ p. same_site p.site site) (map participant_of (those test ms))
some_of_those site test [] = refl
some_of_those site test (m ∷ ms) = by_test (test m) (some_of_those site test ms)
  where
    by_test : (b : Bool) → some_of (λ m. same_site m.site site && test m) ms ≡ some_of (λ p. same_site p.site site) (map participant_of (those test ms)) →
        ((same_site m.site site && b) || some_of (λ m. same_site m.site site && test m) ms)
        ≡ some_of (λ p. same_site p.site site) (map participant_of (cond b (m ∷ those test ms) (those test ms)))
    by_test true rest =
        ap (λ d. d || some_of (λ m. same_site m.site site && test m) ms) (and_true (same_site m.site site)) ∙ ap (λ d. same_site m.site site || d) rest
    by_test false rest = ap (λ d. d || some_of (λ m. same_site m.site site && test m) ms) (and_false (same_site m.site site)) ∙ rest

nobody_left : (test : Member → Bool) (ms : List Member) → some_of test ms ≡ not (is_nobody (map participant_of (those test ms)))
nobody_left test [] = refl
nobody_left test (m ∷ ms) = by_test (test m) (nobody_left test ms)
  where
    by_test : (b : Bool) → some_of test ms ≡ not (is_nobody (map participant_of (those test ms))) →
        (b || some_of test ms) ≡ not (is_nobody (map participant_of (cond b (m ∷ those test ms) (those test ms))))
    by_test true rest = refl
    by_test false rest = rest

pub acks_agree : (protocols : List Participant) (past : CoordPast) (tid : Tid) (decision : Decision) (known : Known) → IsDecidedAs protocols past tid decision known →
    AcksAgreeAt protocols past tid decision known
acks_agree protocols past tid decision known h =
    let left : map participant_of (missing decision known) ≡ missing_past protocols past tid decision =
    missing_step protocols past tid decision known.members known.initiated h.acks h.named in
    record {
      required = ap (required_of decision) h.named;
      missing = left;
      counts = λ site.
          ap (holds_of (λ d. some_of (lacks_ack_of site d known.initiated) known.members)) h.decided
          ∙ (some_of_those site (lacks_ack decision known.initiated) known.members ∙ ap (is_member site) left);
      left =
          ap (holds_of (λ d. some_of (lacks_ack d known.initiated) known.members)) h.decided
          ∙ (nobody_left (lacks_ack decision known.initiated) known.members ∙ ap (λ ps. not (is_nobody ps)) left);
    }
