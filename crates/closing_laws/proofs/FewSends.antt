-- No line that closing makes the coordinator write sends many messages: one that sends again at most one for each declared site, and one that
-- takes an inquiry one.
use Rattle.std.proofs.Common.{◌≡◌, ℕ, ◌≤◌, Bool, true, false, not, ◌&&◌, nat_le, Option, Some, None, List, [], ◌++◌, ◌∷◌, length, take, refl, ap, arith}
use Rattle.mdb_base.specs.declared.names.SiteId.{SiteId}
use Rattle.mdb_base.specs.declared.names.Tid.{Tid}
use Rattle.mdb_base.specs.Words.{some_of, when}
use Rattle.mdb_base.proofs.ForCallers.{length-map, length_those}
use Rattle.presumptions.specs.Table.{acks}
use Rattle.presumptions.specs.declared.Decision.{Decision}
use Rattle.presumptions.specs.declared.Participant.{Participant}
use Rattle.fed_rules.specs.declared.answers.Answer.{Answer}
use Rattle.fed_rules.specs.declared.events.CoordEvent.{CoordEvent}
use Rattle.fed_rules.specs.declared.events.CoordEvent.TheVariants as Ev
use Rattle.fed_rules.specs.declared.messages.Due.{Due}
use Rattle.fed_rules.specs.declared.messages.FromSite.TheVariants as From
use Rattle.fed_rules.specs.declared.messages.Sent.{Sent}
use Rattle.fed_rules.specs.declared.messages.ToSite.TheVariants as To
use Rattle.fed_rules.specs.declared.records.CoordRecord.{CoordRecord}
use Rattle.fed_rules.specs.Coord.{again_while, all_outstanding, answered, asked_while, coord_line, defers_all, held_back, is_prepare, is_take, lacks_initiation, let_through, may_take, missing, of_again, of_inquiry, of_take, send_due, sends_all, sends_dues}
use Rattle.fed_rules.specs.CoordPast.{CoordHappening, CoordPast, Decided, Gone, Standing, Undecided, disk, has_acked, outstanding, participants, records, standing, trip}
use Rattle.fed_rules.specs.CoordRecords.{coord_frame, named, required_of}
use Rattle.fed_rules.specs.Disk.{Disk, Stops}
use Rattle.fed_rules.specs.Happenings.{Trip, is_down, quiet, stopped, tripped}
use Rattle.fed_rules.specs.Policies.{Policy}
use Rattle.closing_laws.proofs.Lengths.{length_found}

sent_of : Tid → Decision → Participant → Sent
sent_of tid decision member = record { site = member.site; message = To.Decide tid decision }

-- the line sends at most so many messages
pub record SendsFew (most : ℕ) (x : CoordHappening) : Type 0 where
  pub few : length x.sends ≤ most

few_none : (most : ℕ) (x : CoordHappening) → x.sends ≡ [] → SendsFew most x
few_none most x e = record { few = (let n = ap length e in omega (arith, n)) }

few_quiet : (most : ℕ) (event : CoordEvent) (answer : Answer) → SendsFew most (quiet event answer)
few_quiet most event answer = few_none most (quiet event answer) refl

few_when : (most : ℕ) (b : Bool) (x y : CoordHappening) → SendsFew most x → SendsFew most y → SendsFew most (when b x y)
unfolding when
few_when most true x y p q = p
few_when most false x y p q = q

few_tripped : (most : ℕ) (d : Disk CoordRecord) (t : Option Trip) (x : CoordHappening) → SendsFew most x → SendsFew most (tripped coord_frame d t x)
unfolding tripped stopped
few_tripped most d None x p = p
few_tripped most d (Some t) x p =
    few_when most (nat_le t.calls (length x.calls)) _ x (few_none most (stopped coord_frame d x.event (take t.calls x.calls ++ Stops t.cut ∷ [])) refl) p

-- the line of an inquiry that is taken
module _ (protocols : List Participant) (past : CoordPast) (site : SiteId) (tid : Tid) where
  few_asked : (s : Standing) → SendsFew 1 (asked_while protocols site tid s)
  unfolding asked_while
  few_asked Undecided = few_quiet 1 _ _
  few_asked (Decided decision) = record { few = omega arith }
  few_asked Gone = record { few = omega arith }

  pub inquiries_few : (policy : Policy) → SendsFew 1 (coord_line protocols policy past (Ev.Take site (From.Inquiry tid)))
  unfolding coord_line answered of_take of_inquiry
  inquiries_few policy =
      few_when 1 (is_down past) _ _ (few_quiet 1 _ _)
      (few_tripped 1 (disk past) (trip past) (of_inquiry protocols past site tid) (few_asked (standing protocols past tid)))

-- the line of an attempt that is sent again
module _ (protocols : List Participant) (past : CoordPast) (tid : Tid) where
  few_participants : length (participants protocols past tid) ≤ length protocols
  few_participants = length_those _ protocols

  few_dues : (event : CoordEvent) (answer : Answer) (dues : List Due) → length dues ≤ length protocols → SendsFew (length protocols) (sends_dues protocols past event tid answer dues)
  unfolding sends_dues
  few_dues event answer dues h =
      let n = length-map (send_due tid) dues in
      few_when (length protocols) (some_of is_prepare dues && lacks_initiation protocols past tid) _ _ (record { few = omega (arith, n, h) }) (record { few = omega (arith, n, h) })

  few_through : (policy : Policy) (dues : List Due) → length dues ≤ length protocols → length (let_through protocols policy past tid dues) ≤ length protocols
  few_through policy dues h = let less = length_those (λ due. not (is_take due && not (may_take protocols policy past tid))) dues in omega (arith, less, h)

  few_outstanding : length (all_outstanding protocols past tid) ≤ length protocols
  few_outstanding =
      let found_few = length_found (λ (member : Participant). outstanding past tid member.site) (participants protocols past tid) in
      let few = few_participants in omega (arith, found_few, few)

  -- who is missing is named by the records
  few_missing : (decision : Decision) → ((ms : List Participant) → named protocols (records past) tid ≡ Some ms → length ms ≤ length protocols)
      → length (missing protocols past tid decision) ≤ length protocols
  few_missing decision h =
      let less = length_those (λ (m : Participant). not (has_acked past tid m.site)) (required_of decision (named protocols (records past) tid)) in
      let few = by_named (named protocols (records past) tid) refl in omega (arith, less, few)
    where
      by_named : (o : Option (List Participant)) → named protocols (records past) tid ≡ o → length (required_of decision o) ≤ length protocols
      by_named None e = omega arith
      by_named (Some ms) e =
          let acking = length_those (λ (m : Participant). acks m.protocol decision) ms in
          let few = h ms e in omega (arith, acking, few)

  few_again : (policy : Policy) (s : Standing) → ((ms : List Participant) → named protocols (records past) tid ≡ Some ms → length ms ≤ length protocols)
      → SendsFew (length protocols) (again_while protocols policy past tid s)
  unfolding again_while sends_all sent_of
  few_again policy Undecided h =
      let dues = all_outstanding protocols past tid in
      few_dues (Ev.Again tid) (defers_all (held_back protocols policy past tid dues) (let_through protocols policy past tid dues))
      (let_through protocols policy past tid dues) (few_through policy dues few_outstanding)
  few_again policy (Decided decision) h =
      record { few = (let n = length-map (sent_of tid decision) (missing protocols past tid decision) in let few = few_missing decision h in omega (arith, n, few)) }
  few_again policy Gone h = few_quiet (length protocols) _ _

  pub agains_few : (policy : Policy) → ((ms : List Participant) → named protocols (records past) tid ≡ Some ms → length ms ≤ length protocols)
      → SendsFew (length protocols) (coord_line protocols policy past (Ev.Again tid))
  unfolding coord_line answered of_again
  agains_few policy h =
      few_when (length protocols) (is_down past) _ _ (few_quiet (length protocols) _ _)
      (few_tripped (length protocols) (disk past) (trip past) (again_while protocols policy past tid (standing protocols past tid)) (few_again policy (standing protocols past tid) h))
