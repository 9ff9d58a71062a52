-- The ticket edges between the committed attempts and one that is refused, as the coordinator's journal tells them, the newest record first.
use Rattle.std.specs.Prelude.{Bool, false, ◌&&◌, ◌||◌, nat_lt, List, [], ◌∷◌}
use Rattle.mdb_base.specs.declared.names.SiteId.{SiteId}
use Rattle.mdb_base.specs.declared.names.SiteTicket.{SiteTicket}
use Rattle.mdb_base.specs.declared.names.Tid.{Tid}
use Rattle.mdb_base.specs.declared.replies.Edge.{Edge}
use Rattle.mdb_base.specs.Names.{same_site, same_tid}
use Rattle.mdb_base.specs.Words.{some_of}
use Rattle.fed_rules.specs.declared.records.CoordRecord.{CoordRecord}
use Rattle.fed_rules.specs.declared.records.CoordRecord.TheVariants as Rec
use Rattle.fed_rules.specs.declared.sums.CommittedAttempt.{CommittedAttempt}

-- whether the test holds of an attempt of these with its tickets
abbrev pub some_attempt : (Tid → List SiteTicket → Bool) → List CommittedAttempt → Bool
some_attempt test attempts = some_of (λ attempt. test attempt.tid attempt.tickets) attempts

-- whether the test holds of a committed attempt with its tickets: a Checkpoint stands for all before it
abbrev pub some_commit : (Tid → List SiteTicket → Bool) → List CoordRecord → Bool
some_commit test [] = false
some_commit test (Rec.Initiation tid participants ∷ records) = some_commit test records
some_commit test (Rec.Commit tid tickets ∷ records) = test tid tickets || some_commit test records
some_commit test (Rec.Abort tid participants ∷ records) = some_commit test records
some_commit test (Rec.End tid ∷ records) = some_commit test records
some_commit test (Rec.Checkpoint sum ∷ records) = some_attempt test sum.committed

-- whether one of the tickets is a greater one of this site
abbrev pub has_greater : SiteId → SiteTicket → List SiteTicket → Bool
has_greater site ticket others = some_of (λ other. same_site other.site site && nat_lt ticket.ticket other.ticket) others

-- whether at this site some ticket of the first is smaller than one of the second
abbrev pub has_smaller : SiteId → List SiteTicket → List SiteTicket → Bool
has_smaller site from to = some_of (λ ticket. same_site ticket.site site && has_greater site ticket to) from

-- whether the edge enters the attempt with the second tickets from one with the first
abbrev pub enters : Edge → List SiteTicket → Tid → List SiteTicket → Bool
enters edge from tid tickets = same_tid tid edge.to && has_smaller edge.site from tickets

-- whether it enters the candidate or a committed attempt from one with these tickets
abbrev pub enters_some : Tid → List SiteTicket → List CoordRecord → Edge → List SiteTicket → Bool
enters_some candidate votes records edge from = enters edge from candidate votes || some_commit (enters edge from) records

-- whether the edge leaves the attempt with these tickets, and enters the candidate or a committed one
abbrev pub leaves : Tid → List SiteTicket → List CoordRecord → Edge → Tid → List SiteTicket → Bool
leaves candidate votes records edge tid tickets = same_tid tid edge.from && enters_some candidate votes records edge tickets

-- whether the edge leads from the candidate or a committed attempt to one of them
abbrev pub is_edge : Tid → List SiteTicket → List CoordRecord → Edge → Bool
is_edge candidate votes records edge =
    leaves candidate votes records edge candidate votes || some_commit (leaves candidate votes records edge) records

-- whether the first edge leaves the attempt, each enters the one that the next leaves, the last enters the other, and the test holds of each
abbrev pub goes_on : (Edge → Bool) → Tid → List Edge → Tid → Bool
goes_on test at [] to = same_tid at to
goes_on test at (edge ∷ edges) to = same_tid edge.from at && (test edge && goes_on test edge.to edges to)

-- whether these are one or more edges that go round from the candidate to itself
abbrev pub goes_round : Tid → List SiteTicket → List CoordRecord → List Edge → Bool
goes_round candidate votes records [] = false
goes_round candidate votes records (edge ∷ edges) = goes_on (is_edge candidate votes records) candidate (edge ∷ edges) candidate
