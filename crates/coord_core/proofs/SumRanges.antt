-- What the records of a coordinator say together has its names in their ranges, and lists that rise.
use Rattle.std.proofs.Common.{◌≡◌, ℕ, ◌^◌, ◌<◌, ◌≤◌, ◌==◌, ◌||◌, ◌&&◌, not, ltb, Bool, true, false, cond, All, List, [], ◌∷◌, inl, inr, refl, arith}
use Rattle.std.specs.Prelude.{nat_lt}
use Rattle.std.specs.List.{AllByRecursion}
use Rattle.std.proofs.lemmas.Bool.{eqb-true, eq-eqb, ltb-true, ltb-false}
use Rattle.std.proofs.lemmas.List.Elements.{All-from_recursion}
use Rattle.mdb_base.specs.declared.names.SiteTicket.{SiteTicket}
use Rattle.mdb_base.specs.declared.names.Tid.{Tid}
use Rattle.mdb_base.specs.Names.{same_tid, tid_before}
use Rattle.mdb_base.specs.Rising.{IsRising}
use Rattle.mdb_base.specs.Words.{Each, inserted, some_of, those}
use Rattle.mdb_base.proofs.ForCallers.{each_filtered, each_inserted, each_map, each_recursion, same_tid-equal}
use Rattle.order_laws.specs.Chains.{In, Distinct}
use Rattle.presumptions.specs.declared.Participant.{Participant}
use Rattle.field_bytes.specs.Fields.{IsTid}
use Rattle.record_fields.specs.Named.{IsSite}
use Rattle.record_fields.specs.Sums.{tid_number}
use Rattle.fed_rules.specs.declared.records.CoordRecord.{CoordRecord}
use Rattle.fed_rules.specs.declared.records.CoordRecord.TheVariants as Rec
use Rattle.fed_rules.specs.declared.sums.CommittedAttempt.{CommittedAttempt}
use Rattle.fed_rules.specs.declared.sums.OpenAttempt.{OpenAttempt}
use Rattle.fed_rules.specs.CoordPast.{CoordPast, records}
use Rattle.fed_rules.specs.CoordRecords.{class_of, ends_at_once, has_ticket, ticketed}
use Rattle.fed_rules.specs.CoordSums.{also_open, committed_with, coord_sum, open_with}
use Rattle.record_fields.specs.AttemptOrder.{before-less}
use Rattle.coord_journal.specs.Spelling.{IsCommittedInRange, IsOpenInRange, IsRecord, IsSumInRange}
use Rattle.coord_laws.proofs.ForCallers.{commits_once, tids_of}
use Rattle.coord_tables.specs.Terms.{Terms, IsSound}

-- ---- attempts by their numbers

not_before_number : (a b : Tid) → IsTid a → IsTid b → tid_before a b ≡ false → same_tid a b ≡ false → tid_number b < tid_number a
not_before_number a b ra rb e apart = by_less (nat_lt a.tx.0 b.tx.0) refl e where
  small : b.attempt < 32
  small = rb.attempts

  less : (m n : ℕ) → n ≤ m → (m == n) ≡ false → n < m
  less m n le differ = by_lt (ltb n m) refl where
    by_lt : (t : Bool) → ltb n m ≡ t → n < m
    by_lt true l = ltb-true n m l
    by_lt false l =
        let ge = ltb-false n m l in
        let same : m ≡ n = omega (arith, ge, le) in
        let bad : (m == n) ≡ true = eq-eqb m n same in
        cc

  by_less : (t : Bool) → nat_lt a.tx.0 b.tx.0 ≡ t → (t || ((a.tx.0 == b.tx.0) && nat_lt a.attempt b.attempt)) ≡ false → tid_number b < tid_number a
  by_less true l f = cc
  by_less false l f = by_same (a.tx.0 == b.tx.0) refl f apart where
    le : b.tx.0 ≤ a.tx.0
    le = ltb-false a.tx.0 b.tx.0 l

    by_same : (t : Bool) → (a.tx.0 == b.tx.0) ≡ t → (t && nat_lt a.attempt b.attempt) ≡ false → (t && (a.attempt == b.attempt)) ≡ false → tid_number b < tid_number a
    by_same true s f g =
        let same = eqb-true a.tx.0 b.tx.0 s in
        let more = less a.attempt b.attempt (ltb-false a.attempt b.attempt f) g in
        omega (arith, same, more)
    by_same false s f g = let more = less a.tx.0 b.tx.0 le s in omega (arith, more, small)

-- ---- lists by rising attempt

-- the attempts rise
abbrev pub Rises : {A : Type 0} → (A → Tid) → List A → Type 0
Rises at [] = Unit {0}
Rises at (x ∷ xs) = Each (λ y. tid_number (at x) < tid_number (at y)) xs × Rises at xs

pub rising_from : {A : Type 0} (at : A → Tid) (xs : List A) → Rises at xs → IsRising (λ x. tid_number (at x)) xs
rising_from at [] r = tt
rising_from at (x ∷ []) r = tt
rising_from at (x ∷ y ∷ ys) r = (r.0.0, rising_from at (y ∷ ys) r.1)

put_rises : {A : Type 0} (at : A → Tid) (x : A) (xs : List A) → IsTid (at x) → Each (λ y. IsTid (at y)) xs → Each (λ y. same_tid (at y) (at x) ≡ false) xs → Rises at xs
    → Rises at (inserted (λ a b. tid_before (at a) (at b)) x xs)
put_rises at x [] r rs apart up = (tt, tt)
put_rises at x (y ∷ ys) r rs apart up = by_test (tid_before (at y) (at x)) refl (put_rises at x ys r rs.1 apart.1 up.1) where
  by_test : (b : Bool) → tid_before (at y) (at x) ≡ b → Rises at (inserted (λ a b. tid_before (at a) (at b)) x ys)
      → Rises at (cond b (y ∷ inserted (λ a b. tid_before (at a) (at b)) x ys) (x ∷ y ∷ ys))
  by_test true e rest =
      (each_inserted (λ z. tid_number (at y) < tid_number (at z)) (λ a b. tid_before (at a) (at b)) x ys (before-less (at y) (at x) rs.0 r e) up.0, rest)
  by_test false e rest =
      let first : tid_number (at x) < tid_number (at y) = not_before_number (at y) (at x) rs.0 r e apart.0 in
      ((first, each_map (λ z. tid_number (at y) < tid_number (at z)) (λ z. tid_number (at x) < tid_number (at z)) (λ z l. omega (arith, l, first)) ys up.0), up)

pub those_rises : {A : Type 0} (at : A → Tid) (test : A → Bool) (xs : List A) → Rises at xs → Rises at (those test xs)
those_rises at test [] r = tt
those_rises at test (x ∷ xs) r = by_test (test x) (those_rises at test xs r.1) where
  by_test : (b : Bool) → Rises at (those test xs) → Rises at (cond b (x ∷ those test xs) (those test xs))
  by_test true rest = (each_filtered (λ y. tid_number (at x) < tid_number (at y)) test xs r.0, rest)
  by_test false rest = rest

none_passes : {A : Type 0} (test : A → Bool) (xs : List A) → some_of test xs ≡ false → Each (λ x. test x ≡ false) xs
none_passes test [] e = tt
none_passes test (x ∷ xs) e = by_test (test x) refl e (none_passes test xs) where
  by_test : (b : Bool) → test x ≡ b → (b || some_of test xs) ≡ false → (some_of test xs ≡ false → Each (λ y. test y ≡ false) xs) → (test x ≡ false) × Each (λ y. test y ≡ false) xs
  by_test true q f rest = cc
  by_test false q f rest = (q, rest f)

-- ---- open attempts

-- the attempts and their participants lie in their ranges, and the attempts rise
record IsOpenList (attempts : List OpenAttempt) : Type 0 where
  tids : Each (λ attempt. IsTid attempt.tid) attempts
  sites : Each (λ attempt. All (λ participant. IsSite participant.site) attempt.participants) attempts
  rises : Rises (λ attempt. attempt.tid) attempts

open_those : (test : OpenAttempt → Bool) (attempts : List OpenAttempt) → IsOpenList attempts → IsOpenList (those test attempts)
open_those test attempts o = record {
  tids = each_filtered (λ attempt. IsTid attempt.tid) test attempts o.tids;
  sites = each_filtered (λ attempt. All (λ participant. IsSite participant.site) attempt.participants) test attempts o.sites;
  rises = those_rises (λ attempt. attempt.tid) test attempts o.rises;
}

open_also : (tid : Tid) (participants : List Participant) (attempts : List OpenAttempt) → IsTid tid → All (λ participant. IsSite participant.site) participants → IsOpenList attempts
    → IsOpenList (also_open tid participants attempts)
open_also tid participants attempts r sites o = by_test (some_of (λ attempt. same_tid attempt.tid tid) attempts) refl where
  entry : OpenAttempt
  entry = record { tid = tid; participants = participants }

  by_test : (b : Bool) → some_of (λ attempt. same_tid attempt.tid tid) attempts ≡ b → IsOpenList (cond b attempts (inserted (λ a b. tid_before a.tid b.tid) entry attempts))
  by_test true e = o
  by_test false e = record {
    tids = each_inserted (λ attempt. IsTid attempt.tid) (λ a b. tid_before a.tid b.tid) entry attempts r o.tids;
    sites = each_inserted (λ attempt. All (λ participant. IsSite participant.site) attempt.participants) (λ a b. tid_before a.tid b.tid) entry attempts sites o.sites;
    rises = put_rises (λ attempt. attempt.tid) entry attempts r o.tids (none_passes (λ attempt. same_tid attempt.tid tid) attempts e) o.rises;
  }

-- what fits lies in its range
participants_fit : (participants : List Participant) → AllByRecursion (λ participant. IsSite participant.site × Unit {0}) participants → All (λ participant. IsSite participant.site) participants
participants_fit participants fits = All-from_recursion (λ (participant : Participant). IsSite participant.site) participants (parts participants fits) where
  parts : (ps : List Participant) → AllByRecursion (λ participant. IsSite participant.site × Unit {0}) ps → AllByRecursion (λ participant. IsSite participant.site) ps
  parts [] f = tt
  parts (p ∷ ps) f = (f.0.0, parts ps f.1)

tickets_fit : (tickets : List SiteTicket) → AllByRecursion (λ ticket. IsSite ticket.site × (ticket.ticket < 256 ^ 8)) tickets → All (λ ticket. IsSite ticket.site) tickets
tickets_fit tickets fits = All-from_recursion (λ (ticket : SiteTicket). IsSite ticket.site) tickets (parts tickets fits) where
  parts : (ks : List SiteTicket) → AllByRecursion (λ ticket. IsSite ticket.site × (ticket.ticket < 256 ^ 8)) ks → AllByRecursion (λ ticket. IsSite ticket.site) ks
  parts [] f = tt
  parts (k ∷ ks) f = (f.0.0, parts ks f.1)

module _ (protocols : List Participant) (declared : Each (λ participant. IsSite participant.site) protocols) where
  ticketed_fit : (tickets : List SiteTicket) → All (λ participant. IsSite participant.site) (ticketed protocols tickets)
  ticketed_fit tickets =
      All-from_recursion (λ (participant : Participant). IsSite participant.site) (ticketed protocols tickets)
      (each_recursion (λ (participant : Participant). IsSite participant.site) (ticketed protocols tickets)
      (each_filtered (λ (participant : Participant). IsSite participant.site) (λ (participant : Participant). has_ticket tickets participant.site) protocols declared))

  open_in_range : (rs : List CoordRecord) → AllByRecursion IsRecord rs → IsOpenList (open_with protocols [] rs)
  open_in_range [] r = record { tids = tt; sites = tt; rises = tt }
  open_in_range (Rec.Initiation tid participants ∷ rs) r =
      open_also tid participants (open_with protocols [] rs) r.0.0 (participants_fit participants r.0.1.2) (open_in_range rs r.1)
  open_in_range (Rec.Commit tid tickets ∷ rs) r =
      open_those (λ attempt. not (same_tid attempt.tid tid && ends_at_once (class_of attempt.participants))) (also_open tid (ticketed protocols tickets) (open_with protocols [] rs))
      (open_also tid (ticketed protocols tickets) (open_with protocols [] rs) r.0.0 (ticketed_fit tickets) (open_in_range rs r.1))
  open_in_range (Rec.Abort tid participants ∷ rs) r =
      open_also tid participants (open_with protocols [] rs) r.0.0 (participants_fit participants r.0.1.2) (open_in_range rs r.1)
  open_in_range (Rec.End tid ∷ rs) r = open_those (λ attempt. not (same_tid attempt.tid tid)) (open_with protocols [] rs) (open_in_range rs r.1)
  open_in_range (Rec.Checkpoint sum ∷ rs) r = open_in_range rs r.1

-- ---- committed attempts

-- an attempt without a Commit is none of them
uncommitted : (rs : List CoordRecord) (tid : Tid) → (In tid (tids_of rs) → ⊥) → Each (λ attempt. same_tid attempt.tid tid ≡ false) (committed_with [] rs)
uncommitted [] tid new = tt
uncommitted (Rec.Initiation t participants ∷ rs) tid new = uncommitted rs tid new
uncommitted (Rec.Abort t participants ∷ rs) tid new = uncommitted rs tid new
uncommitted (Rec.End t ∷ rs) tid new = uncommitted rs tid new
uncommitted (Rec.Checkpoint sum ∷ rs) tid new = uncommitted rs tid new
uncommitted (Rec.Commit t tickets ∷ rs) tid new =
    each_inserted (λ attempt. same_tid attempt.tid tid ≡ false) (λ a b. tid_before a.tid b.tid) (record { tid = t; tickets = tickets }) (committed_with [] rs)
    (by_test (same_tid t tid) refl) (uncommitted rs tid (λ i. new (inr i)))
  where
    by_test : (b : Bool) → same_tid t tid ≡ b → same_tid t tid ≡ false
    by_test false e = e
    by_test true e = absurd (new (inl (same_tid-equal t tid e)))

-- the attempts and their tickets' sites lie in their ranges, and the attempts rise
record IsCommittedList (attempts : List CommittedAttempt) : Type 0 where
  tids : Each (λ attempt. IsTid attempt.tid) attempts
  sites : Each (λ attempt. All (λ ticket. IsSite ticket.site) attempt.tickets) attempts
  rises : Rises (λ attempt. attempt.tid) attempts

committed_in_range : (rs : List CoordRecord) → AllByRecursion IsRecord rs → Distinct (tids_of rs) → IsCommittedList (committed_with [] rs)
committed_in_range [] r d = record { tids = tt; sites = tt; rises = tt }
committed_in_range (Rec.Initiation tid participants ∷ rs) r d = committed_in_range rs r.1 d
committed_in_range (Rec.Abort tid participants ∷ rs) r d = committed_in_range rs r.1 d
committed_in_range (Rec.End tid ∷ rs) r d = committed_in_range rs r.1 d
committed_in_range (Rec.Checkpoint sum ∷ rs) r d = committed_in_range rs r.1 d
committed_in_range (Rec.Commit tid tickets ∷ rs) r d =
    let entry : CommittedAttempt = record { tid = tid; tickets = tickets } in
    let c = committed_in_range rs r.1 d.1 in
    record {
      tids = each_inserted (λ attempt. IsTid attempt.tid) (λ a b. tid_before a.tid b.tid) entry (committed_with [] rs) r.0.0 c.tids;
      sites = each_inserted (λ attempt. All (λ ticket. IsSite ticket.site) attempt.tickets) (λ a b. tid_before a.tid b.tid) entry (committed_with [] rs) (tickets_fit tickets r.0.1.2) c.sites;
      rises = put_rises (λ attempt. attempt.tid) entry (committed_with [] rs) r.0.0 c.tids (uncommitted rs tid d.0) c.rises;
    }

-- ---- both

pairs : {A : Type 0} (P Q : A → Type 0) (xs : List A) → Each P xs → Each Q xs → AllByRecursion (λ x. P x × Q x) xs
pairs P Q [] p q = tt
pairs P Q (x ∷ xs) p q = ((p.0, q.0), pairs P Q xs p.1 q.1)

pub open_rises : (terms : Terms) (past : CoordPast) → IsSound terms past → AllByRecursion IsRecord (records past) → Rises (λ (attempt : OpenAttempt). attempt.tid) (open_with terms.protocols [] (records past))
open_rises terms past s r = (open_in_range terms.protocols s.declared (records past) r).rises

pub open_tids_in_range : (terms : Terms) (past : CoordPast) → IsSound terms past → AllByRecursion IsRecord (records past) → Each (λ (attempt : OpenAttempt). IsTid attempt.tid) (open_with terms.protocols [] (records past))
open_tids_in_range terms past s r = (open_in_range terms.protocols s.declared (records past) r).tids

pub committed_rises : (terms : Terms) (past : CoordPast) → IsSound terms past → AllByRecursion IsRecord (records past) → Rises (λ (attempt : CommittedAttempt). attempt.tid) (committed_with [] (records past))
committed_rises terms past s r = (committed_in_range (records past) r (commits_once terms.protocols terms.policy past s.made)).rises

pub sum_in_range : (terms : Terms) (past : CoordPast) → IsSound terms past → AllByRecursion IsRecord (records past) → IsSumInRange (coord_sum terms.protocols (records past))
sum_in_range terms past s r =
    let o = open_in_range terms.protocols s.declared (records past) r in
    let c = committed_in_range (records past) r (commits_once terms.protocols terms.policy past s.made) in
    record {
      open_attempts = All-from_recursion IsOpenInRange (open_with terms.protocols [] (records past))
          (pairs (λ (attempt : OpenAttempt). IsTid attempt.tid) (λ (attempt : OpenAttempt). All (λ participant. IsSite participant.site) attempt.participants) (open_with terms.protocols [] (records past)) o.tids o.sites);
      open_attempts_rise = rising_from (λ (attempt : OpenAttempt). attempt.tid) (open_with terms.protocols [] (records past)) o.rises;
      committed = All-from_recursion IsCommittedInRange (committed_with [] (records past))
          (pairs (λ (attempt : CommittedAttempt). IsTid attempt.tid) (λ (attempt : CommittedAttempt). All (λ ticket. IsSite ticket.site) attempt.tickets) (committed_with [] (records past)) c.tids c.sites);
      committed_rise = rising_from (λ (attempt : CommittedAttempt). attempt.tid) (committed_with [] (records past)) c.rises;
    }
