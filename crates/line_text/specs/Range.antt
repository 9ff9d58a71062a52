-- The ranges of the numbers of a line.
use Rattle.std.specs.Prelude.{ℕ, ◌^◌, Option, Some, None, Bool, true, ◌&&◌, nat_le, nat_lt}
use Rattle.mdb_base.specs.Words.{each_of}
use Rattle.mdb_base.specs.declared.names.Key.{Key}
use Rattle.mdb_base.specs.declared.names.SiteId.{SiteId}
use Rattle.mdb_base.specs.declared.names.Tid.{Tid}
use Rattle.mdb_base.specs.declared.names.Tx.{Tx}
use Rattle.mdb_base.specs.declared.replies.Edge.{Edge}
use Rattle.mdb_base.specs.declared.replies.Reply.{Reply}
use Rattle.mdb_base.specs.declared.replies.Reply.TheVariants.{Done, Value, Ticket, Wait, Refused, Unknown}
use Rattle.mdb_base.specs.declared.replies.Why.{Why}
use Rattle.mdb_base.specs.declared.replies.Why.TheVariants as Refusal
use Rattle.fed_rules.specs.declared.commands.Command.{Command}
use Rattle.fed_rules.specs.declared.commands.Command.TheVariants as Ask
use Rattle.fed_rules.specs.declared.commands.Line.{Line}
use Rattle.fed_rules.specs.declared.commands.Place.{Place}
use Rattle.fed_rules.specs.declared.answers.Answer.{Answer}
use Rattle.fed_rules.specs.declared.answers.Answer.TheVariants as Say
use Rattle.fed_rules.specs.declared.answers.Cause.{Cause}
use Rattle.fed_rules.specs.declared.answers.Cause.TheVariants as Because
use Rattle.line_text.specs.declared.word.Word.{Word}
use Rattle.line_text.specs.declared.word.Word.TheVariants.{Plain, Number, Attempt, Sent, Joined}
use Rattle.line_text.specs.Fits.{line_fits}

-- sites are numbered from 1 to 8
abbrev pub is_site : SiteId → Bool
is_site site = nat_le 1 site.0 && nat_le site.0 8

-- actor 0 is the coordinator, and the others are the sites
abbrev pub is_actor : ℕ → Bool
is_actor actor = nat_le actor 8

-- transactions are numbered from 1 to 1,024
abbrev pub is_tx : Tx → Bool
is_tx tx = nat_le 1 tx.0 && nat_le tx.0 1024

-- attempts are numbered from 0 to 31
abbrev pub is_tid : Tid → Bool
is_tid tid = is_tx tid.tx && nat_le tid.attempt 31

-- a key has 16 bits
abbrev pub is_key : Key → Bool
is_key key = nat_lt key.0 (2 ^ 16)

-- a number of 32 bits, as an epoch and a place in a channel
abbrev pub is_small : ℕ → Bool
is_small n = nat_lt n (2 ^ 32)

-- a number of 64 bits, as a value, a ticket and a serial number
abbrev pub is_large : ℕ → Bool
is_large n = nat_lt n (2 ^ 64)

-- a cut keeps at most 65,535 bytes
abbrev pub is_cut : ℕ → Bool
is_cut cut = nat_le cut 65535

-- a trip counts at most 1,000 calls
abbrev pub is_count : ℕ → Bool
is_count calls = nat_le calls 1000

-- whether an edge goes between attempts at a site
abbrev pub is_edge : Edge → Bool
is_edge edge = is_tid edge.from && is_tid edge.to && is_site edge.site

-- whether the numbers of a command are in range
abbrev pub command_in_range : Command → Bool
command_in_range (Ask.Begin tx) = is_tx tx
command_in_range (Ask.Step tx) = is_tx tx
command_in_range (Ask.Commit tx) = is_tx tx
command_in_range (Ask.Abort tx) = is_tx tx
command_in_range (Ask.Fate tx) = is_tx tx
command_in_range (Ask.Go tx) = is_tx tx
command_in_range (Ask.Again tid) = is_tid tid
command_in_range (Ask.Late tid) = is_tid tid
command_in_range (Ask.Give site place) = is_site site && is_small place
command_in_range (Ask.Take site place) = is_site site && is_small place
command_in_range (Ask.Ask site tid) = is_site site && is_tid tid
command_in_range (Ask.Drop site tid) = is_site site && is_tid tid
command_in_range (Ask.Halt actor cut) = is_actor actor && is_cut cut
command_in_range (Ask.Trip actor calls cut) = is_actor actor && is_count calls && is_cut cut
command_in_range (Ask.Back actor) = is_actor actor
command_in_range (Ask.Check actor) = is_actor actor

-- of a refusal
abbrev pub refusal_in_range : Why → Bool
refusal_in_range (Refusal.Die by) = is_tid by
refusal_in_range (Refusal.Late by) = is_tid by
refusal_in_range (Refusal.Invalid by key) = is_tid by && is_key key
refusal_in_range (Refusal.TicketMoved by) = is_tid by

-- of a reply
abbrev pub reply_in_range : Reply → Bool
reply_in_range Done = true
reply_in_range (Value value) = is_large value
reply_in_range (Ticket ticket) = is_large ticket
reply_in_range (Wait by) = is_tid by
reply_in_range (Refused why) = refusal_in_range why
reply_in_range Unknown = true

-- of a no vote
abbrev pub no_in_range : Option Why → Bool
no_in_range None = true
no_in_range (Some why) = refusal_in_range why

-- of a cause
abbrev pub cause_in_range : Cause → Bool
cause_in_range Because.Late = true
cause_in_range (Because.Dies site by) = is_site site && is_tid by
cause_in_range (Because.TooLate site by) = is_site site && is_tid by
cause_in_range (Because.Unknown site) = is_site site
cause_in_range (Because.No site) = is_site site
cause_in_range (Because.Cycle edges) = each_of is_edge edges

-- of a cause, where there is one
abbrev pub maybe_cause_in_range : Option Cause → Bool
maybe_cause_in_range None = true
maybe_cause_in_range (Some cause) = cause_in_range cause

-- of an answer
abbrev pub answer_in_range : Answer → Bool
answer_in_range (Say.Committed tid) = is_tid tid
answer_in_range (Say.Running tid) = is_tid tid
answer_in_range (Say.Begun tid) = is_tid tid
answer_in_range (Say.Aborted tid) = is_tid tid
answer_in_range (Say.Unheld tid) = is_tid tid
answer_in_range (Say.Asks tid) = is_tid tid
answer_in_range (Say.Dropped tid) = is_tid tid
answer_in_range (Say.Read key value) = is_key key && is_large value
answer_in_range (Say.Wrote key value) = is_key key && is_large value
answer_in_range (Say.Waits by) = is_tid by
answer_in_range (Say.Dies by) = is_tid by
answer_in_range (Say.Late by) = is_tid by
answer_in_range (Say.Invalid by key) = is_tid by && is_key key
answer_in_range (Say.Sealed tid number) = is_tid tid && is_large number
answer_in_range (Say.Stopped kept) = is_large kept
answer_in_range (Say.Did tid reply) = is_tid tid && reply_in_range reply
answer_in_range (Say.VotesYes tid ticket) = is_tid tid && is_large ticket
answer_in_range (Say.VotesNo tid why) = is_tid tid && no_in_range why
answer_in_range (Say.Settles tid decision) = is_tid tid
answer_in_range (Say.Decides decision cause forgets) = maybe_cause_in_range cause
answer_in_range (Say.UpSite epoch doubtful) = is_small epoch && is_small doubtful
answer_in_range (Say.UpCoord known) = is_small known
answer_in_range answer = true

-- whether the place of a message is in range
abbrev pub is_place : Place → Bool
is_place sent = is_site sent.site && is_small sent.place

-- whether the numbers of a word are in range
abbrev pub is_word : Word → Bool
is_word (Plain keyword) = true
is_word (Number number) = is_large number
is_word (Attempt tid) = is_tid tid
is_word (Sent sent) = is_place sent
is_word (Joined edge) = is_edge edge

-- whether the numbers of a line are in range
abbrev pub line_in_range : Line → Bool
line_in_range line =
    command_in_range line.command && answer_in_range line.answer && each_of is_place line.sends

-- what is spelled as a line: an answer and places that the command can have, and numbers in range
abbrev pub is_line : Line → Bool
is_line line = line_fits line && line_in_range line
