-- Lines that say nothing new of any attempt.
use Rattle.std.proofs.Common.{◌≡◌, Bool, true, false, ◌&&◌, Option, None, List, [], refl, ap, ◌∙◌}
use Rattle.mdb_base.specs.declared.names.SiteId.{SiteId}
use Rattle.mdb_base.specs.declared.names.Tid.{Tid}
use Rattle.mdb_base.specs.Names.{same_site, same_tid}
use Rattle.mdb_base.specs.Words.{some_of}
use Rattle.presumptions.specs.declared.Decision.{Decision}
use Rattle.presumptions.specs.declared.Participant.{Participant}
use Rattle.fed_rules.specs.declared.answers.Answer.{Answer}
use Rattle.fed_rules.specs.declared.answers.Answer.TheVariants as Say
use Rattle.fed_rules.specs.declared.events.CoordEvent.{CoordEvent}
use Rattle.fed_rules.specs.declared.events.CoordEvent.TheVariants as Ev
use Rattle.fed_rules.specs.declared.messages.FromSite.TheVariants as From
use Rattle.fed_rules.specs.Happenings.{comes_up, quiet, stops}
use Rattle.fed_rules.specs.CoordPast.{CoordHappening, CoordPast, acks_in, begins, begun_by, counts, decided, decides, did_in, is_prepare_of, is_take_of, opened, vote_in}
use Rattle.fed_rules.specs.Right.{IsRefusal, SameButCycle}
use Rattle.global_exec.proofs.ForCallers.{elsewhere_same, uncounted_same}
use Rattle.coord_tables.proofs.Lines.{IsCalm}

-- an answer that changes nothing
pub record IsCalmAnswer (answer : Answer) : Type 0 where
  pub runs : stops answer ≡ false
  pub stays : comes_up answer ≡ false
  pub begun : begun_by answer ≡ None
  pub begins : (t : Tid) → begins t answer ≡ false
  pub opened : (old : Bool) → opened answer old ≡ old
  pub decided : (old : Option Decision) → decided answer old ≡ old
  pub decides : decides answer ≡ false
  pub prints : (protocols : List Participant) (past : CoordPast) (y : CoordHappening) (tid : Tid) → SameButCycle (IsRefusal protocols past y tid) answer answer

-- such an answer
abbrev pub IsCalmOne : Answer → Type 0
IsCalmOne Say.Down = Unit {0}
IsCalmOne Say.Idle = Unit {0}
IsCalmOne Say.Unbegun = Unit {0}
IsCalmOne Say.Ended = Unit {0}
IsCalmOne Say.Set = Unit {0}
IsCalmOne Say.Awake = Unit {0}
IsCalmOne Say.Only = Unit {0}
IsCalmOne Say.Defers = Unit {0}
IsCalmOne Say.Ignored = Unit {0}
IsCalmOne Say.TookWaits = Unit {0}
IsCalmOne Say.Voted = Unit {0}
IsCalmOne Say.Acked = Unit {0}
IsCalmOne Say.Undecided = Unit {0}
IsCalmOne Say.Initiates = Unit {0}
IsCalmOne Say.Large = Unit {0}
IsCalmOne (Say.Committed tid) = Unit {0}
IsCalmOne (Say.Running tid) = Unit {0}
IsCalmOne (Say.Answers decision) = Unit {0}
IsCalmOne (Say.Presumes decision) = Unit {0}
IsCalmOne answer = ⊥

pub calm_answer : (answer : Answer) → IsCalmOne answer → IsCalmAnswer answer
calm_answer Say.Down c = record { runs = refl; stays = refl; begun = refl; begins = λ t. refl; opened = λ old. refl; decided = λ old. refl; decides = refl; prints = λ protocols past y tid. refl }
calm_answer Say.Idle c = record { runs = refl; stays = refl; begun = refl; begins = λ t. refl; opened = λ old. refl; decided = λ old. refl; decides = refl; prints = λ protocols past y tid. refl }
calm_answer Say.Unbegun c = record { runs = refl; stays = refl; begun = refl; begins = λ t. refl; opened = λ old. refl; decided = λ old. refl; decides = refl; prints = λ protocols past y tid. refl }
calm_answer Say.Ended c = record { runs = refl; stays = refl; begun = refl; begins = λ t. refl; opened = λ old. refl; decided = λ old. refl; decides = refl; prints = λ protocols past y tid. refl }
calm_answer Say.Set c = record { runs = refl; stays = refl; begun = refl; begins = λ t. refl; opened = λ old. refl; decided = λ old. refl; decides = refl; prints = λ protocols past y tid. refl }
calm_answer Say.Awake c = record { runs = refl; stays = refl; begun = refl; begins = λ t. refl; opened = λ old. refl; decided = λ old. refl; decides = refl; prints = λ protocols past y tid. refl }
calm_answer Say.Only c = record { runs = refl; stays = refl; begun = refl; begins = λ t. refl; opened = λ old. refl; decided = λ old. refl; decides = refl; prints = λ protocols past y tid. refl }
calm_answer Say.Defers c = record { runs = refl; stays = refl; begun = refl; begins = λ t. refl; opened = λ old. refl; decided = λ old. refl; decides = refl; prints = λ protocols past y tid. refl }
calm_answer Say.Ignored c = record { runs = refl; stays = refl; begun = refl; begins = λ t. refl; opened = λ old. refl; decided = λ old. refl; decides = refl; prints = λ protocols past y tid. refl }
calm_answer Say.TookWaits c = record { runs = refl; stays = refl; begun = refl; begins = λ t. refl; opened = λ old. refl; decided = λ old. refl; decides = refl; prints = λ protocols past y tid. refl }
calm_answer Say.Voted c = record { runs = refl; stays = refl; begun = refl; begins = λ t. refl; opened = λ old. refl; decided = λ old. refl; decides = refl; prints = λ protocols past y tid. refl }
calm_answer Say.Acked c = record { runs = refl; stays = refl; begun = refl; begins = λ t. refl; opened = λ old. refl; decided = λ old. refl; decides = refl; prints = λ protocols past y tid. refl }
calm_answer Say.Undecided c = record { runs = refl; stays = refl; begun = refl; begins = λ t. refl; opened = λ old. refl; decided = λ old. refl; decides = refl; prints = λ protocols past y tid. refl }
calm_answer Say.Initiates c = record { runs = refl; stays = refl; begun = refl; begins = λ t. refl; opened = λ old. refl; decided = λ old. refl; decides = refl; prints = λ protocols past y tid. refl }
calm_answer Say.Large c = record { runs = refl; stays = refl; begun = refl; begins = λ t. refl; opened = λ old. refl; decided = λ old. refl; decides = refl; prints = λ protocols past y tid. refl }
calm_answer (Say.Committed tid) c = record { runs = refl; stays = refl; begun = refl; begins = λ t. refl; opened = λ old. refl; decided = λ old. refl; decides = refl; prints = λ protocols past y tid. refl }
calm_answer (Say.Running tid) c = record { runs = refl; stays = refl; begun = refl; begins = λ t. refl; opened = λ old. refl; decided = λ old. refl; decides = refl; prints = λ protocols past y tid. refl }
calm_answer (Say.Answers decision) c = record { runs = refl; stays = refl; begun = refl; begins = λ t. refl; opened = λ old. refl; decided = λ old. refl; decides = refl; prints = λ protocols past y tid. refl }
calm_answer (Say.Presumes decision) c = record { runs = refl; stays = refl; begun = refl; begins = λ t. refl; opened = λ old. refl; decided = λ old. refl; decides = refl; prints = λ protocols past y tid. refl }
calm_answer answer c = absurd c

-- an event that takes no reply, vote or acknowledgement
abbrev pub TakesNothing : CoordEvent → Type 0
TakesNothing (Ev.Take site (From.Did tid epoch n reply)) = ⊥
TakesNothing (Ev.Take site (From.Vote tid ticket)) = ⊥
TakesNothing (Ev.Take site (From.Ack tid)) = ⊥
TakesNothing event = Unit {0}

nothing_did : (t : Tid) (event : CoordEvent) → TakesNothing event → did_in t event ≡ None
nothing_did t (Ev.Take site (From.Did tid epoch k reply)) n = absurd n
nothing_did t (Ev.Take site (From.Vote tid ticket)) n = absurd n
nothing_did t (Ev.Take site (From.Ack tid)) n = absurd n
nothing_did t (Ev.Take site (From.Inquiry tid)) n = refl
nothing_did t (Ev.Go tid steps) n = refl
nothing_did t (Ev.Again tid) n = refl
nothing_did t (Ev.Late tid) n = refl
nothing_did t (Ev.Fate tx) n = refl
nothing_did t (Ev.Halt cut) n = refl
nothing_did t (Ev.Trip calls cut) n = refl
nothing_did t Ev.Back n = refl
nothing_did t Ev.Check n = refl

nothing_vote : (t : Tid) (at : SiteId) (event : CoordEvent) → TakesNothing event → vote_in t at event ≡ None
nothing_vote t at (Ev.Take site (From.Did tid epoch k reply)) n = absurd n
nothing_vote t at (Ev.Take site (From.Vote tid ticket)) n = absurd n
nothing_vote t at (Ev.Take site (From.Ack tid)) n = absurd n
nothing_vote t at (Ev.Take site (From.Inquiry tid)) n = refl
nothing_vote t at (Ev.Go tid steps) n = refl
nothing_vote t at (Ev.Again tid) n = refl
nothing_vote t at (Ev.Late tid) n = refl
nothing_vote t at (Ev.Fate tx) n = refl
nothing_vote t at (Ev.Halt cut) n = refl
nothing_vote t at (Ev.Trip calls cut) n = refl
nothing_vote t at Ev.Back n = refl
nothing_vote t at Ev.Check n = refl

nothing_ack : (t : Tid) (at : SiteId) (x : CoordHappening) (event : CoordEvent) → TakesNothing event → acks_in t at (record x { event = event }) ≡ false
nothing_ack t at x (Ev.Take site (From.Did tid epoch k reply)) n = absurd n
nothing_ack t at x (Ev.Take site (From.Vote tid ticket)) n = absurd n
nothing_ack t at x (Ev.Take site (From.Ack tid)) n = absurd n
nothing_ack t at x (Ev.Take site (From.Inquiry tid)) n = refl
nothing_ack t at x (Ev.Go tid steps) n = refl
nothing_ack t at x (Ev.Again tid) n = refl
nothing_ack t at x (Ev.Late tid) n = refl
nothing_ack t at x (Ev.Fate tx) n = refl
nothing_ack t at x (Ev.Halt cut) n = refl
nothing_ack t at x (Ev.Trip calls cut) n = refl
nothing_ack t at x Ev.Back n = refl
nothing_ack t at x Ev.Check n = refl

-- where the answer counts nothing, no acknowledgement counts
uncounted_ack : (t : Tid) (at : SiteId) (x : CoordHappening) (event : CoordEvent) → counts x.answer ≡ false → acks_in t at (record x { event = event }) ≡ false
uncounted_ack t at x (Ev.Take site (From.Did tid epoch k reply)) n = refl
uncounted_ack t at x (Ev.Take site (From.Vote tid ticket)) n = refl
uncounted_ack t at x (Ev.Take site (From.Ack tid)) n = ap (λ b. (same_tid tid t && same_site site at) && b) n ∙ none (same_tid tid t && same_site site at) where
  none : (b : Bool) → (b && false) ≡ false
  none true = refl
  none false = refl
uncounted_ack t at x (Ev.Take site (From.Inquiry tid)) n = refl
uncounted_ack t at x (Ev.Go tid steps) n = refl
uncounted_ack t at x (Ev.Again tid) n = refl
uncounted_ack t at x (Ev.Late tid) n = refl
uncounted_ack t at x (Ev.Fate tx) n = refl
uncounted_ack t at x (Ev.Halt cut) n = refl
uncounted_ack t at x (Ev.Trip calls cut) n = refl
uncounted_ack t at x Ev.Back n = refl
uncounted_ack t at x Ev.Check n = refl

-- a line without a call, a Take and a Prepare, with such an answer to an event that takes nothing
pub calm_taking : (x : CoordHappening) → IsCalmAnswer x.answer → TakesNothing x.event → x.calls ≡ [] → ((t : Tid) → some_of (is_take_of t) x.sends ≡ false) → ((t : Tid) → some_of (is_prepare_of t) x.sends ≡ false) → IsCalm x
calm_taking x a n calls takes prepares = record {
  runs = a.runs;
  stays = a.stays;
  begun = a.begun;
  opened = a.opened;
  decided = a.decided;
  decides = a.decides;
  same = λ past t. elsewhere_same past t x (a.begins t) (nothing_did t x.event n) (λ site. nothing_vote t site x.event n);
  acks = λ t site. nothing_ack t site x x.event n;
  takes = takes;
  prepares = prepares;
  calls = calls;
  prints = a.prints;
}

-- a quiet line with such an answer, to an event that takes nothing
pub quiet_calm : (event : CoordEvent) (answer : Answer) → IsCalmOne answer → TakesNothing event → IsCalm (quiet event answer)
quiet_calm event answer c n = calm_taking (quiet event answer) (calm_answer answer c) n refl (λ t. refl) (λ t. refl)

-- or with one that counts nothing
pub uncounted_calm : (event : CoordEvent) (answer : Answer) → IsCalmOne answer → counts answer ≡ false → IsCalm (quiet event answer)
uncounted_calm event answer c n =
    let a = calm_answer answer c in
    let x = quiet event answer in
    record {
      runs = a.runs;
      stays = a.stays;
      begun = a.begun;
      opened = a.opened;
      decided = a.decided;
      decides = a.decides;
      same = λ past t. uncounted_same past t x (a.begins t) n;
      acks = λ t site. uncounted_ack t site x event n;
      takes = λ t. refl;
      prepares = λ t. refl;
      calls = refl;
      prints = a.prints;
    }
