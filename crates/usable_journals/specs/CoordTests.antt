-- The rules that a usable journal of the coordinator keeps, as tests. Lists of records stand newest first.
use Rattle.std.specs.Prelude.{◌^◌, ◌==◌, Bool, true, false, not, ◌&&◌, nat_lt, None, List, [], ◌∷◌}
use Rattle.mdb_base.specs.declared.names.SiteTicket.{SiteTicket}
use Rattle.mdb_base.specs.declared.names.Tid.{Tid}
use Rattle.mdb_base.specs.declared.names.Tx.{Tx}
use Rattle.mdb_base.specs.Names.{same_site, same_tid, same_tx}
use Rattle.mdb_base.specs.Words.{each_of, some_of}
use Rattle.presumptions.specs.declared.Participant.{Participant}
use Rattle.fed_rules.specs.declared.records.CoordRecord.{CoordRecord}
use Rattle.fed_rules.specs.declared.records.CoordRecord.TheVariants.{Initiation, Commit, Abort, End, Checkpoint}
use Rattle.fed_rules.specs.declared.sums.CommittedAttempt.{CommittedAttempt}
use Rattle.fed_rules.specs.declared.sums.CoordSum.{CoordSum}
use Rattle.fed_rules.specs.declared.sums.OpenAttempt.{OpenAttempt}
use Rattle.fed_rules.specs.CoordRecords.{class_of, ends_at_once, same_protocol}
use Rattle.usable_journals.specs.Rising.{rises}

-- ---- tickets below 2^62

abbrev pub is_low : SiteTicket → Bool
is_low ticket = nat_lt ticket.ticket (2 ^ 62)

abbrev pub are_low : List SiteTicket → Bool
are_low tickets = each_of is_low tickets

abbrev pub is_below : CoordRecord → Bool
is_below (Commit tid tickets) = are_low tickets
is_below (Checkpoint sum) = each_of (λ (attempt : CommittedAttempt). are_low attempt.tickets) sum.committed
is_below other = true

-- ---- the sites that are named are declared

abbrev pub same_member : Participant → Participant → Bool
same_member a b = same_site a.site b.site && same_protocol a.protocol b.protocol

abbrev pub same_ticket : SiteTicket → SiteTicket → Bool
same_ticket a b = same_site a.site b.site && (a.ticket == b.ticket)

abbrev pub is_declared : List Participant → Participant → Bool
is_declared protocols member = some_of (λ declared. same_member declared member) protocols

abbrev pub are_declared : List Participant → List Participant → Bool
are_declared protocols members = each_of (is_declared protocols) members

abbrev pub is_at_declared : List Participant → SiteTicket → Bool
is_at_declared protocols ticket = some_of (λ (declared : Participant). same_site declared.site ticket.site) protocols

abbrev pub are_at_declared : List Participant → List SiteTicket → Bool
are_at_declared protocols tickets = each_of (is_at_declared protocols) tickets

abbrev pub sum_names_declared : List Participant → CoordSum → Bool
sum_names_declared protocols sum =
    each_of (λ (attempt : OpenAttempt). are_declared protocols attempt.participants) sum.open_attempts
    && each_of (λ (attempt : CommittedAttempt). are_at_declared protocols attempt.tickets) sum.committed

abbrev pub names_declared : List Participant → CoordRecord → Bool
names_declared protocols (Initiation tid participants) = are_declared protocols participants
names_declared protocols (Commit tid tickets) = are_at_declared protocols tickets
names_declared protocols (Abort tid participants) = are_declared protocols participants
names_declared protocols (End tid) = true
names_declared protocols (Checkpoint sum) = sum_names_declared protocols sum

-- ---- an acknowledgement of each open attempt that committed is awaited

abbrev pub is_committed_in : CoordSum → Tid → Bool
is_committed_in sum tid = some_of (λ (done : CommittedAttempt). same_tid done.tid tid) sum.committed

-- by whether an attempt is committed
abbrev pub is_awaited_by : (Tid → Bool) → OpenAttempt → Bool
is_awaited_by committed attempt = not (committed attempt.tid && ends_at_once (class_of attempt.participants))

abbrev pub is_awaited_in : CoordSum → OpenAttempt → Bool
is_awaited_in sum attempt = is_awaited_by (is_committed_in sum) attempt

abbrev pub sum_awaits : CoordSum → Bool
sum_awaits sum = each_of (is_awaited_in sum) sum.open_attempts

abbrev pub is_awaited : CoordRecord → Bool
is_awaited (Checkpoint sum) = sum_awaits sum
is_awaited other = true

-- ---- a Checkpoint's lists stand by rising attempt

abbrev pub sum_rises : CoordSum → Bool
sum_rises sum = rises (λ (attempt : OpenAttempt). attempt.tid) None sum.open_attempts && rises (λ (attempt : CommittedAttempt). attempt.tid) None sum.committed

abbrev pub is_rising : CoordRecord → Bool
is_rising (Checkpoint sum) = sum_rises sum
is_rising other = true

-- ---- the records of an attempt stand in order

abbrev pub is_any_of : Tid → CoordRecord → Bool
is_any_of tid (Initiation begun participants) = same_tid begun tid
is_any_of tid (Commit decided tickets) = same_tid decided tid
is_any_of tid (Abort decided participants) = same_tid decided tid
is_any_of tid (End ended) = same_tid ended tid
is_any_of tid (Checkpoint sum) = false

abbrev pub is_decided_of : Tid → CoordRecord → Bool
is_decided_of tid (Initiation begun participants) = false
is_decided_of tid (Commit decided tickets) = same_tid decided tid
is_decided_of tid (Abort decided participants) = same_tid decided tid
is_decided_of tid (End ended) = same_tid ended tid
is_decided_of tid (Checkpoint sum) = false

abbrev pub is_end_of : Tid → CoordRecord → Bool
is_end_of tid (End ended) = same_tid ended tid
is_end_of tid other = false

abbrev pub is_commit_of : Tx → CoordRecord → Bool
is_commit_of tx (Commit tid tickets) = same_tx tid.tx tx
is_commit_of tx other = false

-- whether the record may stand behind these
abbrev pub may_stand : CoordRecord → List CoordRecord → Bool
may_stand (Initiation tid participants) older = not (some_of (is_any_of tid) older)
may_stand (Commit tid tickets) older = not (some_of (is_decided_of tid) older) && not (some_of (is_commit_of tid.tx) older)
may_stand (Abort tid participants) older = not (some_of (is_decided_of tid) older)
may_stand (End tid) older = not (some_of (is_end_of tid) older)
may_stand (Checkpoint sum) older = true

-- whether each record may stand behind those before it
abbrev pub in_order : List CoordRecord → Bool
in_order [] = true
in_order (newest ∷ older) = may_stand newest older && in_order older
