-- Messages whose numbers have their bytes on the wire: their bytes tell them apart.
use Rattle.std.specs.Prelude.{ℕ, ◌^◌, ◌<◌}
use Rattle.mdb_base.specs.declared.names.Tid.{Tid}
use Rattle.mdb_base.specs.declared.replies.Reply.{Reply}
use Rattle.mdb_base.specs.declared.replies.Reply.TheVariants as Reply_is
use Rattle.mdb_base.specs.declared.replies.Why.{Why}
use Rattle.mdb_base.specs.declared.replies.Why.TheVariants as Because
use Rattle.fed_rules.specs.declared.messages.FromSite.{FromSite}
use Rattle.fed_rules.specs.declared.messages.FromSite.TheVariants as From
use Rattle.fed_rules.specs.declared.messages.ToSite.{ToSite}
use Rattle.fed_rules.specs.declared.messages.ToSite.TheVariants as To
use Rattle.fed_messages.specs.Spelling.{IsAct, IsVote}

-- the numbers of an attempt, whether or not it lies in its range
pub record FitsTid (tid : Tid) : Type 0 where
  pub tx : tid.tx.0 < 2 ^ 32
  pub attempts : tid.attempt < 2 ^ 8

-- those of an operation
pub record FitsOperation (tid : Tid) (epoch n : ℕ) : Type 0 where
  pub attempt : FitsTid tid
  pub epochs : epoch < 2 ^ 32
  pub count : n < 2 ^ 8

-- those of a message to a site
abbrev pub FitsToSite : ToSite → Type 0
FitsToSite (To.Work tid epoch n act) = FitsOperation tid epoch n × IsAct act
FitsToSite (To.Take tid epoch n) = FitsOperation tid epoch n
FitsToSite (To.Prepare tid epoch n) = FitsOperation tid epoch n
FitsToSite (To.Decide tid decision) = FitsTid tid

-- those of a refusal
abbrev pub FitsWhy : Why → Type 0
FitsWhy (Because.Die by) = FitsTid by
FitsWhy (Because.Late by) = FitsTid by
FitsWhy (Because.Invalid by key) = FitsTid by × (key.0 < 2 ^ 16)
FitsWhy (Because.TicketMoved by) = FitsTid by

-- those of a reply
abbrev pub FitsReply : Reply → Type 0
FitsReply Reply_is.Done = Unit {0}
FitsReply (Reply_is.Value value) = value < 2 ^ 64
FitsReply (Reply_is.Ticket ticket) = ticket < 2 ^ 64
FitsReply (Reply_is.Wait by) = FitsTid by
FitsReply (Reply_is.Refused why) = FitsWhy why
FitsReply Reply_is.Unknown = Unit {0}

-- those of a message from a site
abbrev pub FitsFromSite : FromSite → Type 0
FitsFromSite (From.Did tid epoch n reply) = FitsOperation tid epoch n × FitsReply reply
FitsFromSite (From.Vote tid vote) = FitsTid tid × IsVote vote
FitsFromSite (From.Ack tid) = FitsTid tid
FitsFromSite (From.Inquiry tid) = FitsTid tid
