-- What each line of the coordinator records fits into a frame, and its names lie in their ranges.
use Rattle.std.proofs.Common.{◌≡◌, ℕ, ◌≤◌, Bool, true, false, cond, ◌&&◌, All, IfSome, Option, Some, None, List, [], ◌∷◌, length, sym, ap, subst, arith}
use Rattle.std.proofs.lemmas.List.Elements.{All-from_recursion}
use Rattle.mdb_base.specs.declared.names.SiteId.{SiteId}
use Rattle.mdb_base.specs.declared.names.SiteTicket.{SiteTicket}
use Rattle.mdb_base.specs.declared.names.Tid.{Tid}
use Rattle.mdb_base.specs.Rising.{IsRising}
use Rattle.mdb_base.specs.Words.{Each, some_of, with_some}
use Rattle.mdb_base.proofs.ForCallers.{each_filtered, each_recursion, some_parts}
use Rattle.order_laws.proofs.ForCallers.{in_each}
use Rattle.presumptions.specs.declared.Decision.{Decision}
use Rattle.presumptions.specs.declared.Participant.{Participant}
use Rattle.field_bytes.specs.Fields.{IsTid}
use Rattle.record_fields.specs.Named.{IsSite}
use Rattle.record_fields.proofs.ForCallers.{few_sites}
use Rattle.fed_rules.specs.declared.messages.Due.{Due}
use Rattle.fed_rules.specs.declared.records.CoordRecord.{CoordRecord}
use Rattle.fed_rules.specs.declared.records.CoordRecord.TheVariants as Rec
use Rattle.fed_rules.specs.Coord.{all_voted, is_prepare, lacks_initiation, vote_ticket, vote_tickets}
use Rattle.fed_rules.specs.CoordPast.{CoordPast, Decided, begun_tids, is_known, is_open, participants, program, standing, visits, vote_at}
use Rattle.coord_laws.proofs.ForCallers.{known_begun}
use Rattle.journal_disk.specs.Frames.{IsPayload}
use Rattle.coord_journal.specs.PayloadSizes.{payload_has_size}
use Rattle.coord_journal.specs.Spelling.{InRange, spelling}
use Rattle.coord_tables.specs.Deciding.{abort_of}
use Rattle.coord_tables.specs.Sending.{initiation_of}
use Rattle.coord_tables.specs.Terms.{Terms, IsSound}
use Rattle.coord_tables.specs.Voting.{IsLastVote, voted_past}
use Rattle.coord_tables.proofs.ForCallers.{found_rise, is_recorded, last_open, last_parts, open_begun, participants_rise}

-- ---- the participants of an attempt

pub all_of : {A : Type 0} (P : A → Type 0) (xs : List A) → Each P xs → All P xs
all_of P xs h = All-from_recursion P xs (each_recursion P xs h)

pub participants_declared : (terms : Terms) (past : CoordPast) (tid : Tid) → IsSound terms past → All (λ p. IsSite p.site) (participants terms.protocols past tid)
participants_declared terms past tid sound =
    all_of (λ (p : Participant). IsSite p.site) (participants terms.protocols past tid) (each_filtered (λ (p : Participant). IsSite p.site) (λ (p : Participant). visits p.site (program past tid)) terms.protocols sound.declared)

pub few_participants : (terms : Terms) (past : CoordPast) (tid : Tid) → IsSound terms past → length (participants terms.protocols past tid) ≤ 8
few_participants terms past tid sound = few_sites (λ (p : Participant). p.site) (participants terms.protocols past tid) (participants_declared terms past tid sound) (participants_rise terms past tid sound)

pub begun_in_range : (terms : Terms) (past : CoordPast) (tid : Tid) → IsSound terms past → is_open past tid ≡ true → IsTid tid
begun_in_range terms past tid sound u = in_each IsTid (begun_tids past) tid sound.in_range (open_begun terms past tid sound u)

-- ---- an Initiation

pub initiation_fits : (terms : Terms) (past : CoordPast) (tid : Tid) (dues : List Due) (entry : Option CoordRecord) → IsSound terms past → entry ≡ initiation_of terms.protocols past tid dues → IfSome entry (λ e. IsPayload (spelling e))
initiation_fits terms past tid dues entry sound e = subst (λ (o : Option CoordRecord). IfSome o (λ r. IsPayload (spelling r))) (sym e) (by_test (some_of is_prepare dues && lacks_initiation terms.protocols past tid)) where
  by_test : (b : Bool) → IfSome (cond b (Some (Rec.Initiation tid (participants terms.protocols past tid))) None) (λ r. IsPayload (spelling r))
  by_test false = tt
  by_test true =
      let size = payload_has_size (Rec.Initiation tid (participants terms.protocols past tid)) in
      let few = few_participants terms past tid sound in
      omega arith

pub initiation_in_range : (terms : Terms) (past : CoordPast) (tid : Tid) (dues : List Due) (entry : Option CoordRecord) → IsSound terms past → is_open past tid ≡ true → entry ≡ initiation_of terms.protocols past tid dues → IfSome entry InRange
initiation_in_range terms past tid dues entry sound u e = subst (λ (o : Option CoordRecord). IfSome o InRange) (sym e) (by_test (some_of is_prepare dues && lacks_initiation terms.protocols past tid)) where
  by_test : (b : Bool) → IfSome (cond b (Some (Rec.Initiation tid (participants terms.protocols past tid))) None) InRange
  by_test false = tt
  by_test true = (begun_in_range terms past tid sound u, participants_declared terms past tid sound)

-- ---- a Commit, with the tickets of the votes

votes_declared : (past : CoordPast) (tid : Tid) (ps : List Participant) → Each (λ p. IsSite p.site) ps → Each (λ k. IsSite k.site) (vote_tickets past tid ps)
votes_declared past tid [] h = tt
votes_declared past tid (p ∷ ps) h = by_vote (vote_at past tid p.site) (votes_declared past tid ps h.1) where
  by_vote : (v : Option ℕ) → Each (λ k. IsSite k.site) (vote_tickets past tid ps) → Each (λ k. IsSite k.site) (with_some (vote_ticket p.site v) (vote_tickets past tid ps))
  by_vote None rest = rest
  by_vote (Some n) rest = (h.0, rest)

ticket_at : (site : SiteId) (v : Option ℕ) (k : SiteTicket) → vote_ticket site v ≡ Some k → k.site.0 ≡ site.0
ticket_at site None k e = cc
ticket_at site (Some n) k e = ap (λ (t : SiteTicket). t.site.0) (sym (some_parts e))

votes_rise : (past : CoordPast) (tid : Tid) (ps : List Participant) → IsRising (λ p. p.site.0) ps → IsRising (λ k. k.site.0) (vote_tickets past tid ps)
votes_rise past tid ps h = found_rise (λ (p : Participant). p.site.0) (λ (k : SiteTicket). k.site.0) (λ p. vote_ticket p.site (vote_at past tid p.site)) (λ p k e. ticket_at p.site (vote_at past tid p.site) k e) ps h

module _ (terms : Terms) (past : CoordPast) (site : SiteId) (tid : Tid) (ticket : ℕ) (tickets : List SiteTicket) (sound : IsSound terms past) (l : IsLastVote site tid ticket tickets terms past) where
  parts : (all_voted (voted_past past site tid ticket) tid (participants terms.protocols past tid) ≡ true) × (vote_tickets (voted_past past site tid ticket) tid (participants terms.protocols past tid) ≡ tickets)
  parts = last_parts terms.protocols past site tid ticket tickets l.last

  declared : All (λ k. IsSite k.site) tickets
  declared = subst (λ (ks : List SiteTicket). All (λ k. IsSite k.site) ks) parts.1
      (all_of (λ (k : SiteTicket). IsSite k.site) _ (votes_declared (voted_past past site tid ticket) tid (participants terms.protocols past tid)
      (each_filtered (λ (p : Participant). IsSite p.site) (λ (p : Participant). visits p.site (program past tid)) terms.protocols sound.declared)))

  rise : IsRising (λ k. k.site.0) tickets
  rise = subst (λ (ks : List SiteTicket). IsRising (λ k. k.site.0) ks) parts.1 (votes_rise (voted_past past site tid ticket) tid (participants terms.protocols past tid) (participants_rise terms past tid sound))

  pub commit_fits : IsPayload (spelling (Rec.Commit tid tickets))
  commit_fits =
      let size = payload_has_size (Rec.Commit tid tickets) in
      let few : length tickets ≤ 8 = few_sites (λ (k : SiteTicket). k.site) tickets declared rise in
      omega arith

  pub commit_in_range : InRange (Rec.Commit tid tickets)
  commit_in_range = (begun_in_range terms past tid sound (last_open terms past site tid ticket tickets sound l), declared)

-- ---- an Abort

abort_fits : (terms : Terms) (past : CoordPast) (tid : Tid) → IsSound terms past → (b : Bool) → IfSome (cond b (Some (Rec.Abort tid (participants terms.protocols past tid))) None) (λ r. IsPayload (spelling r))
abort_fits terms past tid sound false = tt
abort_fits terms past tid sound true =
    let size = payload_has_size (Rec.Abort tid (participants terms.protocols past tid)) in
    let few = few_participants terms past tid sound in
    omega arith

abort_in_range : (terms : Terms) (past : CoordPast) (tid : Tid) → IsSound terms past → is_open past tid ≡ true → (b : Bool) → IfSome (cond b (Some (Rec.Abort tid (participants terms.protocols past tid))) None) InRange
abort_in_range terms past tid sound u false = tt
abort_in_range terms past tid sound u true = (begun_in_range terms past tid sound u, participants_declared terms past tid sound)

pub abort_record_fits : (terms : Terms) (past : CoordPast) (tid : Tid) (entry : Option CoordRecord) → IsSound terms past → entry ≡ abort_of terms.protocols past tid → IfSome entry (λ e. IsPayload (spelling e))
abort_record_fits terms past tid entry sound e = subst (λ (o : Option CoordRecord). IfSome o (λ r. IsPayload (spelling r))) (sym e) (abort_fits terms past tid sound (is_recorded terms.protocols past tid))

pub abort_record_in_range : (terms : Terms) (past : CoordPast) (tid : Tid) (entry : Option CoordRecord) → IsSound terms past → is_open past tid ≡ true → entry ≡ abort_of terms.protocols past tid → IfSome entry InRange
abort_record_in_range terms past tid entry sound u e = subst (λ (o : Option CoordRecord). IfSome o InRange) (sym e) (abort_in_range terms past tid sound u (is_recorded terms.protocols past tid))

-- ---- an End

pub end_fits : (tid : Tid) → IsPayload (spelling (Rec.End tid))
end_fits tid = let size = payload_has_size (Rec.End tid) in omega arith

pub decided_in_range : (terms : Terms) (past : CoordPast) (tid : Tid) (d : Decision) → IsSound terms past → standing terms.protocols past tid ≡ Decided d → IsTid tid
decided_in_range terms past tid d sound st = in_each IsTid (begun_tids past) tid sound.in_range (known_begun terms.protocols terms.policy past sound.made tid (ap is_known st))
