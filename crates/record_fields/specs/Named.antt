-- The fields of records by name: sites are 1 to 8, and the variants of an enum are numbered from 1 as they stand in it.
use Rattle.std.specs.Prelude.{ℕ, ◌≤◌, ◌==◌, nat_le, ◌&&◌, List, Option, Some, None, if◌then◌else◌}
use Rattle.mdb_base.specs.declared.names.SiteId.{SiteId}
use Rattle.mdb_base.specs.declared.names.Tid.{Tid}
use Rattle.mdb_base.specs.declared.names.SiteTicket.{SiteTicket}
use Rattle.mdb_base.specs.declared.names.Engine.{Engine}
use Rattle.mdb_base.specs.declared.names.Engine.TheVariants.{Locking, Timestamp, Validation, Multiversion}
use Rattle.mdb_base.specs.declared.rows.Put.{Put}
use Rattle.presumptions.specs.declared.Protocol.{Protocol}
use Rattle.presumptions.specs.declared.Protocol.TheVariants as By
use Rattle.presumptions.specs.declared.Decision.{Decision}
use Rattle.presumptions.specs.declared.Participant.{Participant}
use Rattle.field_bytes.specs.Fields.{IsTid, tid_bytes, tid_at, decision_bytes, decision_at}
use Rattle.record_fields.specs.Field.{Field, a_number, coded, both, made}
use Rattle.record_fields.specs.Items.{rising_list}

-- sites are 1 to 8
pub record IsSite (site : SiteId) : Type 0 where
  pub least : 1 ≤ site.0
  pub greatest : site.0 ≤ 8

abbrev pub site_of : ℕ → Option SiteId
site_of n = if nat_le 1 n && nat_le n 8 then Some (record { 0 = n }) else None

abbrev pub a_site : Field SiteId
a_site = coded 1 (λ site. site.0) site_of IsSite

abbrev pub engine_code : Engine → ℕ
engine_code Locking = 1
engine_code Timestamp = 2
engine_code Validation = 3
engine_code Multiversion = 4

abbrev pub engine_of : ℕ → Option Engine
engine_of n = if n == 1 then Some Locking else (if n == 2 then Some Timestamp else (if n == 3 then Some Validation else (if n == 4 then Some Multiversion else None)))

abbrev pub an_engine : Field Engine
an_engine = coded 1 engine_code engine_of (λ _. Unit {0})

abbrev pub protocol_code : Protocol → ℕ
protocol_code By.Nothing = 1
protocol_code By.Abort = 2
protocol_code By.Commit = 3

abbrev pub protocol_of : ℕ → Option Protocol
protocol_of n = if n == 1 then Some By.Nothing else (if n == 2 then Some By.Abort else (if n == 3 then Some By.Commit else None))

abbrev pub a_protocol : Field Protocol
a_protocol = coded 1 protocol_code protocol_of (λ _. Unit {0})

abbrev pub a_tid : Field Tid
a_tid = record { spelling = tid_bytes; reading = tid_at; Fits = IsTid }

abbrev pub a_decision : Field Decision
a_decision = record { spelling = decision_bytes; reading = decision_at; Fits = λ _. Unit {0} }

-- a row: its key in two bytes, and its value in eight
abbrev pub a_put : Field Put
a_put = made (λ p. record { key = record { 0 = p.0 }; value = p.1 }) (λ row. (row.key.0, row.value)) (both (a_number 2) (a_number 8))

abbrev pub a_participant : Field Participant
a_participant = made (λ p. record { site = p.0; protocol = p.1 }) (λ x. (x.site, x.protocol)) (both a_site a_protocol)

-- a site with its ticket in eight bytes
abbrev pub a_ticket : Field SiteTicket
a_ticket = made (λ p. record { site = p.0; ticket = p.1 }) (λ x. (x.site, x.ticket)) (both a_site (a_number 8))

-- rows by rising key, behind their number in two bytes
abbrev pub writes : Field (List Put)
writes = rising_list 2 (λ put. put.key.0) a_put

-- sites with their protocols by rising site, behind their number in one byte
abbrev pub participants : Field (List Participant)
participants = rising_list 1 (λ participant. participant.site.0) a_participant

-- sites with their tickets by rising site, behind their number in one byte
abbrev pub tickets : Field (List SiteTicket)
tickets = rising_list 1 (λ ticket. ticket.site.0) a_ticket
