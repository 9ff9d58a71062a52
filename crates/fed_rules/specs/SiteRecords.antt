-- What the records of a site say, the newest first: who is in doubt, the greatest number and ticket, the table, and what it is due.
-- A Checkpoint among them says nothing new, and every word here passes over it.
use Rattle.std.specs.Prelude.{ℕ, ◌+◌, ◌*◌, max, nat_lt, Bool, cond, Option, Some, None, List, [], ◌∷◌, map, length, reverse}
use Rattle.mdb_base.specs.declared.names.Engine.{Engine}
use Rattle.mdb_base.specs.declared.names.SiteId.{SiteId}
use Rattle.mdb_base.specs.declared.names.Tid.{Tid}
use Rattle.mdb_base.specs.declared.names.Tx.{Tx}
use Rattle.mdb_base.specs.declared.rows.Put.{Put}
use Rattle.mdb_base.specs.Names.{same_tid, same_tx, tid_before}
use Rattle.mdb_base.specs.Rows.{with_rows}
use Rattle.mdb_base.specs.Words.{found, inserted}
use Rattle.presumptions.specs.declared.Protocol.{Protocol}
use Rattle.presumptions.specs.declared.Decision.TheVariants as Decided
use Rattle.fed_rules.specs.Attempts.{each_attempt}
use Rattle.fed_rules.specs.declared.records.SiteRecord.{SiteRecord}
use Rattle.fed_rules.specs.declared.records.SiteRecord.TheVariants.{Setup, Start, Prepared, Ended, Local, Checkpoint}
use Rattle.fed_rules.specs.declared.sums.DoubtfulSum.{DoubtfulSum}
use Rattle.fed_rules.specs.declared.sums.SiteSum.{SiteSum}
use Rattle.fed_rules.specs.Disk.{framed}
use Rattle.fed_rules.specs.declared.runs.Kept.{Kept}
use Rattle.fed_rules.specs.Runs as Runs

-- a site as it was set up
pub record Home : Type 0 where
  pub site : SiteId
  pub engine : Engine
  pub protocol : Protocol
  pub items : List Put

-- the bytes of a list of writes: its length in two bytes, and ten bytes for each
abbrev pub writes_size : List Put → ℕ
writes_size writes = 2 + 10 * length writes

-- the bytes of a subtransaction in doubt in a Checkpoint
abbrev pub doubtful_size : List DoubtfulSum → ℕ
doubtful_size [] = 0
doubtful_size (held ∷ more) = 25 + writes_size held.writes + doubtful_size more

-- the bytes of what may be an attempt
abbrev pub owner_size : Option Tid → ℕ
owner_size None = 1
owner_size (Some tid) = 6

-- the bytes of a Checkpoint's payload
abbrev pub sum_size : SiteSum → ℕ
sum_size sum = 24 + owner_size sum.owner + writes_size sum.rows + (2 + 5 * length sum.locals) + (2 + doubtful_size sum.doubtful)

-- the bytes of a record's payload
abbrev pub site_payload : SiteRecord → ℕ
site_payload (Setup site engine protocol items) = 4 + writes_size items
site_payload (Start epoch) = 5
site_payload (Prepared tid epoch number ticket writes) = 26 + writes_size writes
site_payload (Ended tid decision) = 7
site_payload (Local tid number writes) = 14 + writes_size writes
site_payload (Checkpoint sum) = sum_size sum

-- the bytes of a record's frame
abbrev pub site_frame : SiteRecord → ℕ
site_frame kept = framed (site_payload kept)

-- the epoch of the last Start
abbrev pub epoch_of : List SiteRecord → ℕ
epoch_of [] = 0
epoch_of (Start epoch ∷ records) = epoch
epoch_of (newest ∷ records) = epoch_of records

-- a Prepared record's content
abbrev pub Held : Type 0
Held = DoubtfulSum

-- the Prepared record of an attempt with no Ended record behind it: the site is in doubt of it
abbrev pub doubt_of : List SiteRecord → Tid → Option Held
doubt_of [] tid = None
doubt_of (Prepared prepared epoch number ticket writes ∷ records) tid =
    cond (same_tid prepared tid) (Some (record { tid = prepared; epoch = epoch; number = number; ticket = ticket; writes = writes }))
    (doubt_of records tid)
doubt_of (Ended ended decision ∷ records) tid = cond (same_tid ended tid) None (doubt_of records tid)
doubt_of (newest ∷ records) tid = doubt_of records tid

-- the attempts of the Prepared records
abbrev pub prepared_tids : List SiteRecord → List Tid
prepared_tids [] = []
prepared_tids (Prepared tid epoch number ticket writes ∷ records) = tid ∷ prepared_tids records
prepared_tids (newest ∷ records) = prepared_tids records

abbrev pub held_before : Held → Held → Bool
held_before a b = tid_before a.tid b.tid

-- these by rising attempt
abbrev pub by_tid : List Held → List Held
by_tid [] = []
by_tid (held ∷ more) = inserted held_before held (by_tid more)

-- all that the site is in doubt of, by rising attempt, each attempt once
abbrev pub doubts : List SiteRecord → List Held
doubts records = by_tid (found (doubt_of records) (each_attempt (prepared_tids records)))

-- the greatest serial number
abbrev pub last_number : List SiteRecord → ℕ
last_number [] = 0
last_number (Prepared tid epoch number ticket writes ∷ records) = max number (last_number records)
last_number (Local tid number writes ∷ records) = max number (last_number records)
last_number (newest ∷ records) = last_number records

-- the published ticket: the greatest one
abbrev pub last_ticket : List SiteRecord → ℕ
last_ticket [] = 0
last_ticket (Prepared tid epoch number ticket writes ∷ records) = max ticket (last_ticket records)
last_ticket (newest ∷ records) = last_ticket records

-- the attempt that the published ticket belongs to
abbrev pub ticket_owner : List SiteRecord → Option Tid
ticket_owner [] = None
ticket_owner (Prepared tid epoch number ticket writes ∷ records) =
    cond (nat_lt (last_ticket records) ticket) (Some tid) (ticket_owner records)
ticket_owner (newest ∷ records) = ticket_owner records

-- the local attempt of a transaction that committed here
abbrev pub local_of : List SiteRecord → Tx → Option Tid
local_of [] tx = None
local_of (Local tid number writes ∷ records) tx = cond (same_tx tid.tx tx) (Some tid) (local_of records tx)
local_of (newest ∷ records) tx = local_of records tx

-- a transaction that committed here, or is due to
pub record Install : Type 0 where
  pub tid : Tid
  pub number : ℕ
  pub writes : List Put

-- the list with this one, kept by serial number, the greatest first
abbrev pub by_number : Install → List Install → List Install
by_number = inserted (λ a b. nat_lt b.number a.number)

abbrev pub install_held : Option Held → List Install → List Install
install_held None installs = installs
install_held (Some held) installs = by_number (record { tid = held.tid; number = held.number; writes = held.writes }) installs

-- the committed ones: local ones, and prepared ones whose first Ended record behind is a commit
abbrev pub installs : List SiteRecord → List Install
installs [] = []
installs (Local tid number writes ∷ records) = by_number (record { tid = tid; number = number; writes = writes }) (installs records)
installs (Ended tid Decided.Commit ∷ records) = install_held (doubt_of records tid) (installs records)
installs (newest ∷ records) = installs records

-- the local ones, and all prepared ones whose outcome is commit, settled or not
abbrev pub due_installs : (Tid → Bool) → List SiteRecord → List Install
due_installs commits [] = []
due_installs commits (Local tid number writes ∷ records) =
    by_number (record { tid = tid; number = number; writes = writes }) (due_installs commits records)
due_installs commits (Prepared tid epoch number ticket writes ∷ records) =
    cond (commits tid) (by_number (record { tid = tid; number = number; writes = writes }) (due_installs commits records)) (due_installs commits records)
due_installs commits (newest ∷ records) = due_installs commits records

-- the rows that these leave: of several writes of a key the one with the greatest number
abbrev pub rows_after : List Put → List Install → List Put
rows_after items [] = items
rows_after items (last ∷ installs) = with_rows last.writes (rows_after items installs)

-- the rows of a site
abbrev pub site_rows : Home → List SiteRecord → List Put
site_rows home records = rows_after home.items (installs records)

-- the table that a site is due, with every prepared transaction whose outcome is commit
abbrev pub due_rows : (Tid → Bool) → Home → List SiteRecord → List Put
due_rows commits home records = rows_after home.items (due_installs commits records)

-- the site's order: the members by rising serial number
abbrev pub order_of : (Tid → Bool) → List SiteRecord → List Tid
order_of commits records = reverse (map (λ install. install.tid) (due_installs commits records))

abbrev pub kept_held : Held → Kept
kept_held held = record { tid = held.tid; number = held.number; ticket = held.ticket; writes = held.writes }

-- what an engine starts from at a start of the site
abbrev pub start_of : Home → List SiteRecord → Runs.Start
start_of home records =
    record {
      kind = home.engine;
      rows = site_rows home records;
      doubtful = map kept_held (doubts records);
      counter = last_number records;
      published = last_ticket records;
      owner = ticket_owner records;
    }
