-- What the lines of a session tell of its attempts: which were begun, and which values they read.
use Rattle.std.specs.Prelude.{ℕ, Bool, false, cond, Option, Some, None, List, [], ◌∷◌, ◌++◌, map}
use Rattle.std.specs.BTreeMap.{insert_entry, is_at}
use Rattle.std.specs.Map.{lookup}
use Rattle.mdb_base.specs.declared.names.SiteId.{SiteId}
use Rattle.mdb_base.specs.declared.names.Tid.{Tid}
use Rattle.mdb_base.specs.declared.names.Tx.{Tx}
use Rattle.mdb_base.specs.declared.replies.Reply.TheVariants as Reply_is
use Rattle.mdb_base.specs.Names.{same_site, tid_cmp, tx_cmp}
use Rattle.mdb_base.specs.Words.{item_at, or_else}
use Rattle.fed_rules.specs.declared.answers.Answer.{Answer}
use Rattle.fed_rules.specs.declared.answers.Answer.TheVariants as Say
use Rattle.fed_rules.specs.declared.commands.Command.{Command}
use Rattle.fed_rules.specs.declared.commands.Command.TheVariants as Cmd
use Rattle.fed_rules.specs.declared.commands.Line.{Line}
use Rattle.fed_rules.specs.declared.messages.FromSite.{FromSite}
use Rattle.fed_rules.specs.declared.messages.FromSite.TheVariants as From
use Rattle.fed_rules.specs.declared.report.TxReads.{TxReads}
use Rattle.fed_rules.specs.CoordPast.{counts}
use Rattle.session_routes.specs.declared.traffic.Traffic.{Traffic}

-- values with the attempts that read them, by rising attempt
abbrev pub Reads : Type 0
Reads = List (Tid × List ℕ)

-- one value more of an attempt that stands there
abbrev pub with_value : Tid → ℕ → Reads → Reads
with_value tid value [] = []
with_value tid value (entry ∷ entries) =
    cond (is_at (tid_cmp tid) entry.0) ((entry.0, entry.1 ++ value ∷ []) ∷ entries) (entry ∷ with_value tid value entries)

-- an attempt that has read nothing yet
abbrev pub with_begun : Tid → Reads → Reads
with_begun tid reads = insert_entry tid_cmp reads tid []

-- what the lines tell: the global attempts that were begun and the local ones, each with what it read, and of each local transaction the
-- attempt that was begun last
pub record Told : Type 0 where
  pub globals : Reads
  pub locals : Reads
  pub running : List (Tx × Tid)

-- nothing is told yet
abbrev pub untold : Told
untold = record { globals = []; locals = []; running = [] }

-- the message at this place of those that the site sent
abbrev pub message_at : List Traffic → SiteId → ℕ → Option FromSite
message_at [] site place = None
message_at (channel ∷ channels) site place = cond (same_site channel.site site) (item_at channel.from.items place) (message_at channels site place)

-- whether a line that takes a message counts it: there is one, the coordinator is up, and the message is a new one
abbrev pub is_counted : Answer → Bool
is_counted Say.None = false
is_counted answer = counts answer

-- the reads of global attempts with the value of a reply that counts
abbrev pub with_reply : Option FromSite → Reads → Reads
with_reply (Some (From.Did tid epoch n (Reply_is.Value value))) reads = with_value tid value reads
with_reply message reads = reads

-- a message was taken
abbrev pub with_taken : Option FromSite → Answer → Reads → Reads
with_taken message answer reads = cond (is_counted answer) (with_reply message reads) reads

-- a global attempt begins, or a transaction has one already
abbrev pub with_go : Answer → Reads → Reads
with_go (Say.Begun tid) reads = with_begun tid reads
with_go answer reads = reads

-- a local attempt begins, or its transaction has one already
abbrev pub after_begin : Tx → Answer → Told → Told
after_begin tx (Say.Begun tid) told =
    record told { locals = with_begun tid told.locals; running = insert_entry tx_cmp told.running tx tid }
after_begin tx answer told = told

-- the running attempt of a local transaction read a value
abbrev pub with_step : Option Tid → ℕ → Reads → Reads
with_step None value reads = reads
with_step (Some tid) value reads = with_value tid value reads

-- the running attempt of a local transaction makes its next step
abbrev pub after_step : Tx → Answer → Told → Told
after_step tx (Say.Read key value) told = record told { locals = with_step (lookup (is_at (tx_cmp tx)) told.running) value told.locals }
after_step tx answer told = told

-- one line more
abbrev pub after_command : List Traffic → Command → Answer → Told → Told
after_command channels (Cmd.Begin tx) answer told = after_begin tx answer told
after_command channels (Cmd.Step tx) answer told = after_step tx answer told
after_command channels (Cmd.Go tx) answer told = record told { globals = with_go answer told.globals }
after_command channels (Cmd.Take site place) answer told =
    record told { globals = with_taken (message_at channels site place) answer told.globals }
after_command channels command answer told = told

abbrev pub after_line : List Traffic → Line → Told → Told
after_line channels line told = after_command channels line.command line.answer told

-- what these lines tell, the last one first
abbrev pub told_by : List Traffic → List Line → Told
told_by channels [] = untold
told_by channels (line ∷ lines) = after_line channels line (told_by channels lines)

-- what is told behind these further lines, the first one first
abbrev pub told_on : List Traffic → List Line → Told → Told
told_on channels [] told = told
told_on channels (line ∷ lines) told = told_on channels lines (after_line channels line told)

-- the global attempts that were begun, as the lines tell it
abbrev pub tids_told : Told → List Tid
tids_told told = map (λ entry. entry.0) told.globals

-- the values that an attempt read, as the lines tell it
abbrev pub values_told : Told → Tid → List ℕ
values_told told tid = or_else (lookup (is_at (tid_cmp tid)) told.globals) (or_else (lookup (is_at (tid_cmp tid)) told.locals) [])

abbrev pub reads_told : Told → Tid → TxReads
reads_told told tid = record { tid = tid; values = values_told told tid }
