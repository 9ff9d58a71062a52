-- How a line is spelled: the words of its command, `=>`, the words of its answer, and where messages were sent `sends` and their
-- places, with one space between each two words.
use Rattle.std.specs.Prelude.{ℕ, List, [], ◌∷◌, ◌++◌, Option, Some, None, Bool, true, false, map}
use Rattle.std.specs.List.{join_with_byte, flat_map}
use Rattle.mdb_base.specs.declared.replies.Reply.{Reply}
use Rattle.mdb_base.specs.declared.replies.Reply.TheVariants.{Done, Value, Ticket, Wait, Refused, Unknown}
use Rattle.mdb_base.specs.declared.replies.Why.{Why}
use Rattle.mdb_base.specs.declared.replies.Why.TheVariants as Refusal
use Rattle.presumptions.specs.declared.Decision.{Decision}
use Rattle.presumptions.specs.declared.Decision.TheVariants as Final
use Rattle.fed_rules.specs.declared.commands.Command.{Command}
use Rattle.fed_rules.specs.declared.commands.Command.TheVariants as Ask
use Rattle.fed_rules.specs.declared.commands.Line.{Line}
use Rattle.fed_rules.specs.declared.commands.Place.{Place}
use Rattle.fed_rules.specs.declared.answers.Answer.{Answer}
use Rattle.fed_rules.specs.declared.answers.Answer.TheVariants as Say
use Rattle.fed_rules.specs.declared.answers.Cause.{Cause}
use Rattle.fed_rules.specs.declared.answers.Cause.TheVariants as Because
use Rattle.line_text.specs.declared.word.Keyword.TheVariants as Key
use Rattle.line_text.specs.declared.word.Word.{Word}
use Rattle.line_text.specs.declared.word.Word.TheVariants.{Plain, Number, Attempt, Sent, Joined}
use Rattle.line_text.specs.Words.{word_text}

-- the words of a command
abbrev pub command_words : Command → List Word
command_words (Ask.Begin tx) = Plain Key.Begin ∷ Number tx.0 ∷ []
command_words (Ask.Step tx) = Plain Key.Step ∷ Number tx.0 ∷ []
command_words (Ask.Commit tx) = Plain Key.Commit ∷ Number tx.0 ∷ []
command_words (Ask.Abort tx) = Plain Key.Abort ∷ Number tx.0 ∷ []
command_words (Ask.Fate tx) = Plain Key.Fate ∷ Number tx.0 ∷ []
command_words (Ask.Go tx) = Plain Key.Go ∷ Number tx.0 ∷ []
command_words (Ask.Again tid) = Plain Key.Again ∷ Attempt tid ∷ []
command_words (Ask.Late tid) = Plain Key.Late ∷ Attempt tid ∷ []
command_words (Ask.Give site place) = Plain Key.Give ∷ Number site.0 ∷ Number place ∷ []
command_words (Ask.Take site place) = Plain Key.Take ∷ Number site.0 ∷ Number place ∷ []
command_words (Ask.Ask site tid) = Plain Key.Ask ∷ Number site.0 ∷ Attempt tid ∷ []
command_words (Ask.Drop site tid) = Plain Key.Drop ∷ Number site.0 ∷ Attempt tid ∷ []
command_words (Ask.Halt actor cut) = Plain Key.Halt ∷ Number actor ∷ Number cut ∷ []
command_words (Ask.Trip actor calls cut) = Plain Key.Trip ∷ Number actor ∷ Number calls ∷ Number cut ∷ []
command_words (Ask.Back actor) = Plain Key.Back ∷ Number actor ∷ []
command_words (Ask.Check actor) = Plain Key.Check ∷ Number actor ∷ []

-- the words of a refusal, with the attempt that stood in the way
abbrev pub refusal_words : Why → List Word
refusal_words (Refusal.Die by) = Plain Key.Dies ∷ Attempt by ∷ []
refusal_words (Refusal.Late by) = Plain Key.Late ∷ Attempt by ∷ []
refusal_words (Refusal.Invalid by key) = Plain Key.Invalid ∷ Attempt by ∷ Number key.0 ∷ []
refusal_words (Refusal.TicketMoved by) = Plain Key.Moved ∷ Attempt by ∷ []

-- the words of a site's reply to an operation
abbrev pub reply_words : Reply → List Word
reply_words Done = Plain Key.Done ∷ []
reply_words (Value value) = Plain Key.Value ∷ Number value ∷ []
reply_words (Ticket ticket) = Plain Key.Ticket ∷ Number ticket ∷ []
reply_words (Wait by) = Plain Key.Waits ∷ Attempt by ∷ []
reply_words (Refused why) = refusal_words why
reply_words Unknown = Plain Key.Unknown ∷ []

-- the words of a no vote, with the refusal of the sealing where there was one
abbrev pub no_words : Option Why → List Word
no_words None = Plain Key.Unknown ∷ []
no_words (Some why) = refusal_words why

-- the word of a decision
abbrev pub decision_word : Decision → Word
decision_word Final.Commit = Plain Key.Commit
decision_word Final.Abort = Plain Key.Abort

-- the words of the cause of an abort
abbrev pub cause_words : Cause → List Word
cause_words Because.Late = Plain Key.Late ∷ []
cause_words (Because.Dies site by) = Plain Key.Site ∷ Number site.0 ∷ Plain Key.Dies ∷ Attempt by ∷ []
cause_words (Because.TooLate site by) = Plain Key.Site ∷ Number site.0 ∷ Plain Key.Late ∷ Attempt by ∷ []
cause_words (Because.Unknown site) = Plain Key.Site ∷ Number site.0 ∷ Plain Key.Unknown ∷ []
cause_words (Because.No site) = Plain Key.Site ∷ Number site.0 ∷ Plain Key.No ∷ []
cause_words (Because.Cycle edges) = Plain Key.Cycle ∷ map Joined edges

-- the words of a cause, where there is one
abbrev pub maybe_cause_words : Option Cause → List Word
maybe_cause_words None = []
maybe_cause_words (Some cause) = cause_words cause

-- the word that says that the attempt is forgotten, where it is
abbrev pub forgets_words : Bool → List Word
forgets_words true = Plain Key.Forgets ∷ []
forgets_words false = []

-- the words of an answer; the fields stand in their order, and an answer of what is sent alone has none
abbrev pub answer_words : Answer → List Word
answer_words Say.None = Plain Key.None ∷ []
answer_words Say.Down = Plain Key.Down ∷ []
answer_words Say.Idle = Plain Key.Idle ∷ []
answer_words Say.Spent = Plain Key.Spent ∷ []
answer_words Say.End = Plain Key.End ∷ []
answer_words Say.Unfinished = Plain Key.Unfinished ∷ []
answer_words Say.Unbegun = Plain Key.Unbegun ∷ []
answer_words Say.Ended = Plain Key.Aborted ∷ []
answer_words Say.Set = Plain Key.Set ∷ []
answer_words Say.Awake = Plain Key.Awake ∷ []
answer_words Say.Only = []
answer_words Say.Defers = Plain Key.Defers ∷ []
answer_words Say.Ignored = Plain Key.Ignored ∷ []
answer_words Say.TookWaits = Plain Key.Waits ∷ []
answer_words Say.Voted = Plain Key.Voted ∷ []
answer_words Say.Acked = Plain Key.Acked ∷ []
answer_words Say.Forgets = Plain Key.Forgets ∷ []
answer_words Say.Undecided = Plain Key.Undecided ∷ []
answer_words Say.Initiates = Plain Key.Initiates ∷ []
answer_words Say.Large = Plain Key.Large ∷ []
answer_words Say.Checked = Plain Key.Checked ∷ []
answer_words (Say.Committed tid) = Plain Key.Committed ∷ Attempt tid ∷ []
answer_words (Say.Running tid) = Plain Key.Running ∷ Attempt tid ∷ []
answer_words (Say.Begun tid) = Plain Key.Begun ∷ Attempt tid ∷ []
answer_words (Say.Aborted tid) = Plain Key.Aborted ∷ Attempt tid ∷ []
answer_words (Say.Unheld tid) = Plain Key.Unheld ∷ Attempt tid ∷ []
answer_words (Say.Asks tid) = Plain Key.Asks ∷ Attempt tid ∷ []
answer_words (Say.Dropped tid) = Plain Key.Dropped ∷ Attempt tid ∷ []
answer_words (Say.Read key value) = Plain Key.Read ∷ Number key.0 ∷ Number value ∷ []
answer_words (Say.Wrote key value) = Plain Key.Wrote ∷ Number key.0 ∷ Number value ∷ []
answer_words (Say.Waits by) = Plain Key.Waits ∷ Attempt by ∷ []
answer_words (Say.Dies by) = Plain Key.Dies ∷ Attempt by ∷ []
answer_words (Say.Late by) = Plain Key.Late ∷ Attempt by ∷ []
answer_words (Say.Invalid by key) = Plain Key.Invalid ∷ Attempt by ∷ Number key.0 ∷ []
answer_words (Say.Sealed tid number) = Plain Key.Committed ∷ Attempt tid ∷ Plain Key.Number ∷ Number number ∷ []
answer_words (Say.Stopped kept) = Plain Key.Stopped ∷ Plain Key.Kept ∷ Number kept ∷ []
answer_words (Say.Did tid reply) = Plain Key.Did ∷ Attempt tid ∷ reply_words reply
answer_words (Say.VotesYes tid ticket) = Plain Key.Votes ∷ Attempt tid ∷ Plain Key.Yes ∷ Number ticket ∷ []
answer_words (Say.VotesNo tid why) = Plain Key.Votes ∷ Attempt tid ∷ Plain Key.No ∷ no_words why
answer_words (Say.Settles tid decision) = Plain Key.Settles ∷ Attempt tid ∷ decision_word decision ∷ []
answer_words (Say.Answers decision) = Plain Key.Answers ∷ decision_word decision ∷ []
answer_words (Say.Presumes decision) = Plain Key.Presumes ∷ decision_word decision ∷ []
answer_words (Say.Decides decision cause forgets) =
    Plain Key.Decides ∷ decision_word decision ∷ maybe_cause_words cause ++ forgets_words forgets
answer_words (Say.UpSite epoch doubtful) =
    Plain Key.Up ∷ Plain Key.Epoch ∷ Number epoch ∷ Plain Key.Doubtful ∷ Number doubtful ∷ []
answer_words (Say.UpCoord known) = Plain Key.Up ∷ Plain Key.Known ∷ Number known ∷ []

-- an answer without fields
abbrev pub is_bare : Answer → Bool
is_bare Say.None = true
is_bare Say.Down = true
is_bare Say.Idle = true
is_bare Say.Spent = true
is_bare Say.End = true
is_bare Say.Unfinished = true
is_bare Say.Unbegun = true
is_bare Say.Ended = true
is_bare Say.Set = true
is_bare Say.Awake = true
is_bare Say.Only = true
is_bare Say.Defers = true
is_bare Say.Ignored = true
is_bare Say.TookWaits = true
is_bare Say.Voted = true
is_bare Say.Acked = true
is_bare Say.Forgets = true
is_bare Say.Undecided = true
is_bare Say.Initiates = true
is_bare Say.Large = true
is_bare Say.Checked = true
is_bare answer = false

-- the place of a message: a site prints the number in its channel to the coordinator, and the coordinator `S/I`
abbrev pub place_word : Command → Place → Word
place_word (Ask.Give site place) sent = Number sent.place
place_word (Ask.Ask site tid) sent = Number sent.place
place_word command sent = Sent sent

-- the words of what was sent, none where nothing was
abbrev pub sends_words : Command → List Place → List Word
sends_words command [] = []
sends_words command (sent ∷ more) = Plain Key.Sends ∷ map (place_word command) (sent ∷ more)

-- the words of a line
abbrev pub line_words : Line → List Word
line_words line =
    command_words line.command ++ Plain Key.Arrow ∷ answer_words line.answer ++ sends_words line.command line.sends

-- the bytes of words, with one space before each
abbrev pub spaced : List Word → List ℕ
spaced = flat_map (λ word. 32 ∷ word_text word)

-- the bytes of words, with one space between each two
abbrev pub words_bytes : List Word → List ℕ
words_bytes words = join_with_byte 32 (map word_text words)

-- the bytes of a line, without a line feed
abbrev pub line_bytes : Line → List ℕ
line_bytes line = words_bytes (line_words line)

-- the bytes of lines, each with its line feed
abbrev pub lines_bytes : List Line → List ℕ
lines_bytes = flat_map (λ line. line_bytes line ++ 10 ∷ [])
