-- A message that counts is about an attempt that the coordinator knows.
use Rattle.std.proofs.Common.{◌≡◌, ℕ, Bool, true, false, Option, Some, None, List, length, nat_le, refl, ap}
use Rattle.std.proofs.lemmas.Bool.{and_parts}
use Rattle.mdb_base.specs.declared.names.SiteId.{SiteId}
use Rattle.mdb_base.specs.declared.names.Tid.{Tid}
use Rattle.mdb_base.specs.declared.replies.Reply.{Reply}
use Rattle.mdb_base.specs.Words.{when}
use Rattle.presumptions.specs.declared.Participant.{Participant}
use Rattle.fed_rules.specs.declared.events.CoordEvent.TheVariants as Ev
use Rattle.fed_rules.specs.declared.messages.FromSite.{FromSite}
use Rattle.fed_rules.specs.declared.messages.FromSite.TheVariants as From
use Rattle.fed_rules.specs.declared.records.CoordRecord.{CoordRecord}
use Rattle.fed_rules.specs.Coord.{did_counts, vote_counts, of_did, of_vote, of_ack, acked_while, of_take, answered, coord_line}
use Rattle.fed_rules.specs.CoordPast.{CoordHappening, CoordPast, Standing, Undecided, Decided, Gone, is_open, known_decision, standing_of, standing, is_known, counts, message_tid, trip, disk}
use Rattle.fed_rules.specs.CoordRecords.{coord_frame}
use Rattle.fed_rules.specs.Disk.{Disk}
use Rattle.fed_rules.specs.Policies.{Policy}
use Rattle.fed_rules.specs.Happenings.{Trip, is_down, stopped, tripped}
use Rattle.fed_rules.specs.Heard.{is_inquiry}

-- where the second counts nothing, the test is true
when-first : (t : Bool) (a b : CoordHappening) → counts b.answer ≡ false → counts (when t a b).answer ≡ true → t ≡ true
unfolding when
when-first true a b e h = refl
when-first false a b e h = cc

-- where the first counts nothing, the second is what counts
when-second : (t : Bool) (a b : CoordHappening) → counts a.answer ≡ false → counts (when t a b).answer ≡ true → counts b.answer ≡ true
unfolding when
when-second true a b e h = cc
when-second false a b e h = h

-- a line that a trip ends counts nothing
counts-tripped : (d : Disk CoordRecord) (t : Option Trip) (x : CoordHappening) → counts (tripped coord_frame d t x).answer ≡ true → counts x.answer ≡ true
unfolding tripped stopped
counts-tripped d None x h = h
counts-tripped d (Some t) x h = when-second (nat_le t.calls (length x.calls)) _ x refl h

open-known : (protocols : List Participant) (past : CoordPast) (tid : Tid) → is_open past tid ≡ true
    → is_known (standing protocols past tid) ≡ true
open-known protocols past tid h = ap (λ o. is_known (standing_of o (known_decision protocols past tid))) h

did-known : (protocols : List Participant) (policy : Policy) (past : CoordPast) (site : SiteId) (tid : Tid) (epoch n : ℕ) (reply : Reply) → counts (of_did protocols policy past site tid epoch n reply).answer ≡ true → is_known (standing protocols past tid) ≡ true
unfolding of_did
did-known protocols policy past site tid epoch n reply h =
    let t = when-first (did_counts past site tid epoch n reply) _ _ refl h in
    open-known protocols past tid (and_parts _ _ (and_parts _ _ t).0).0

vote-known : (protocols : List Participant) (past : CoordPast) (site : SiteId) (tid : Tid) (vote : Option ℕ) → counts (of_vote protocols past site tid vote).answer ≡ true → is_known (standing protocols past tid) ≡ true
unfolding of_vote
vote-known protocols past site tid vote h =
    let t = when-first (vote_counts past site tid) _ _ refl h in open-known protocols past tid (and_parts _ _ t).0

ack-while : (protocols : List Participant) (past : CoordPast) (site : SiteId) (tid : Tid) (s : Standing) → counts (acked_while protocols past site tid s).answer ≡ true → is_known s ≡ true
unfolding acked_while
ack-while protocols past site tid (Decided d) h = refl
ack-while protocols past site tid Undecided h = refl
ack-while protocols past site tid Gone h = cc

ack-known : (protocols : List Participant) (past : CoordPast) (site : SiteId) (tid : Tid) → counts (of_ack protocols past site tid).answer ≡ true → is_known (standing protocols past tid) ≡ true
unfolding of_ack
ack-known protocols past site tid h = ack-while protocols past site tid (standing protocols past tid) h

take-known : (protocols : List Participant) (policy : Policy) (past : CoordPast) (site : SiteId) (message : FromSite) → is_inquiry message ≡ false → counts (of_take protocols policy past site message).answer ≡ true → is_known (standing protocols past (message_tid message)) ≡ true
unfolding of_take
take-known protocols policy past site (From.Did tid epoch n reply) e h = did-known protocols policy past site tid epoch n reply h
take-known protocols policy past site (From.Vote tid vote) e h = vote-known protocols past site tid vote h
take-known protocols policy past site (From.Ack tid) e h = ack-known protocols past site tid h
take-known protocols policy past site (From.Inquiry tid) e h = cc

-- a message that counts, an inquiry apart, is about an attempt that is known
pub heard-known : (protocols : List Participant) (policy : Policy) (past : CoordPast) (site : SiteId) (message : FromSite) → is_inquiry message ≡ false → counts (coord_line protocols policy past (Ev.Take site message)).answer ≡ true → is_known (standing protocols past (message_tid message)) ≡ true
unfolding coord_line answered
heard-known protocols policy past site message e h =
    take-known protocols policy past site message e (counts-tripped (disk past) (trip past) _ (when-second (is_down past) _ _ refl h))
