-- How many attempts were begun by a journal that is found is how many were in the past that it stands for.
use Rattle.std.proofs.Common.{◌≡◌, ℕ, zero, suc, ◌<◌, ◌≤◌, Bool, true, false, cond, not, ◌&&◌, List, [], ◌∷◌, ◌++◌, map, refl, sym, ap, subst, ◌∙◌, inl, inr, arith}
use Rattle.std.specs.Prelude.{reverse}
use Rattle.std.proofs.lemmas.List.{reverse-reverse}
use Rattle.mdb_base.specs.declared.names.Tid.{Tid}
use Rattle.mdb_base.specs.declared.names.Tx.{Tx}
use Rattle.mdb_base.specs.Names.{same_tid, tid_before}
use Rattle.mdb_base.specs.Words.{Each, inserted, some_of, those}
use Rattle.mdb_base.proofs.ForCallers.{append_each, each_append, each_filtered, each_inserted, each_map, each_of_map}
use Rattle.order_laws.specs.Chains.{In}
use Rattle.order_laws.proofs.ForCallers.{each_from, each_reverse, in_each}
use Rattle.presumptions.specs.declared.Participant.{Participant}
use Rattle.fed_rules.specs.declared.records.CoordRecord.{CoordRecord}
use Rattle.fed_rules.specs.declared.records.CoordRecord.TheVariants as Rec
use Rattle.fed_rules.specs.declared.sums.CommittedAttempt.{CommittedAttempt}
use Rattle.fed_rules.specs.declared.sums.CoordSum.{CoordSum}
use Rattle.fed_rules.specs.declared.sums.OpenAttempt.{OpenAttempt}
use Rattle.fed_rules.specs.Attempts.{with_attempt}
use Rattle.fed_rules.specs.CoordPast.{CoordPast, attempts_of, begun_tids}
use Rattle.fed_rules.specs.CoordRecords.{class_of, ends_at_once, recorded, ticketed}
use Rattle.fed_rules.specs.CoordSums.{also_open, committed_with, coord_sum, open_with}
use Rattle.fed_rules.specs.Found.{Journal}
use Rattle.fed_rules.specs.Reopened.{coord_read, commit_read, coord_sum_read, end_read, initiation_read, is_open_in, opened_coordinator}
use Rattle.fed_rules.specs.Usable.{CoordSumsFit}
use Rattle.fed_rules.specs.Usable as Usable
use Rattle.coord_laws.specs.Pasts.{NameDeclared}
use Rattle.coord_laws.proofs.ForCallers.{below_listed, opened_attempts, opened_begun, opened_numbered, read_is, with_more, with_own}
use Rattle.coord_tables.specs.Found.{attempts_in, found_attempts}
use Rattle.coord_tables.proofs.Reaches.{found_all, found_most}

-- ---- whom records name, and who is recorded

with_each : (P : Tid → Type 0) (t : Tid) (ts : List Tid) → P t → Each P ts → Each P (with_attempt t ts)
with_each P t ts p ps = by_test (some_of (same_tid t) ts)
  where
    by_test : (b : Bool) → Each P (cond b ts (t ∷ ts))
    by_test true = ps
    by_test false = (p, ps)

each_with : (P : Tid → Type 0) (t : Tid) (ts : List Tid) → Each P (with_attempt t ts) → P t × Each P ts
each_with P t ts h = (in_each P (with_attempt t ts) t h (with_own t ts), each_from P ts (λ u i. in_each P (with_attempt t ts) u h (with_more t u ts i)))

-- what a first Checkpoint is read as
abbrev parts : List CommittedAttempt → List CommittedAttempt → List OpenAttempt → List CoordRecord
parts es cs os = (map end_read es ++ map commit_read cs) ++ map initiation_read os

parts_each : (P : Tid → Type 0) (es cs : List CommittedAttempt) (os : List OpenAttempt) → Each (λ (a : CommittedAttempt). P a.tid) es → Each (λ (a : CommittedAttempt). P a.tid) cs → Each (λ (a : OpenAttempt). P a.tid) os
    → Each P (recorded (parts es cs os))
parts_each P [] [] [] e c o = tt
parts_each P [] [] (a ∷ os) e c o = with_each P a.tid (recorded (parts [] [] os)) o.0 (parts_each P [] [] os e c o.1)
parts_each P [] (a ∷ cs) os e c o = with_each P a.tid (recorded (parts [] cs os)) c.0 (parts_each P [] cs os e c.1 o)
parts_each P (a ∷ es) cs os e c o = with_each P a.tid (recorded (parts es cs os)) e.0 (parts_each P es cs os e.1 c o)

each_parts : (P : Tid → Type 0) (es cs : List CommittedAttempt) (os : List OpenAttempt) → Each P (recorded (parts es cs os)) → Each (λ (a : CommittedAttempt). P a.tid) cs × Each (λ (a : OpenAttempt). P a.tid) os
each_parts P [] [] [] h = (tt, tt)
each_parts P [] [] (a ∷ os) h = let (first, rest) = each_with P a.tid (recorded (parts [] [] os)) h in (tt, (first, (each_parts P [] [] os rest).1))
each_parts P [] (a ∷ cs) os h =
    let (first, rest) = each_with P a.tid (recorded (parts [] cs os)) h in
    let (committed, opens) = each_parts P [] cs os rest in
    ((first, committed), opens)
each_parts P (a ∷ es) cs os h = each_parts P es cs os (each_with P a.tid (recorded (parts es cs os)) h).1

map_each : {A : Type 0} (P : Tid → Type 0) (at : A → Tid) (xs : List A) → Each (λ x. P (at x)) xs → Each P (map at xs)
map_each P at [] h = tt
map_each P at (x ∷ xs) h = (h.0, map_each P at xs h.1)

both_lists : (P : Tid → Type 0) (sum : CoordSum) → Each (λ (a : OpenAttempt). P a.tid) sum.open_attempts → Each (λ (a : CommittedAttempt). P a.tid) sum.committed → Each P (attempts_in (Rec.Checkpoint sum))
both_lists P sum opens committed =
    append_each P (map (λ (a : OpenAttempt). a.tid) sum.open_attempts) (map (λ (a : CommittedAttempt). a.tid) sum.committed) (map_each P (λ (a : OpenAttempt). a.tid) sum.open_attempts opens)
    (map_each P (λ (a : CommittedAttempt). a.tid) sum.committed committed)

-- whoever is recorded in what is read is named by a record
pub named_recorded : (P : Tid → Type 0) (rs : List CoordRecord) → Each (λ r. Each P (attempts_in r)) rs → Each P (recorded (Usable.coord_read rs))
named_recorded P [] h = tt
named_recorded P (Rec.Initiation t ms ∷ rs) h = with_each P t (recorded (Usable.coord_read rs)) h.0.0 (named_recorded P rs h.1)
named_recorded P (Rec.Commit t ks ∷ rs) h = with_each P t (recorded (Usable.coord_read rs)) h.0.0 (named_recorded P rs h.1)
named_recorded P (Rec.Abort t ms ∷ rs) h = with_each P t (recorded (Usable.coord_read rs)) h.0.0 (named_recorded P rs h.1)
named_recorded P (Rec.End t ∷ rs) h = with_each P t (recorded (Usable.coord_read rs)) h.0.0 (named_recorded P rs h.1)
named_recorded P (Rec.Checkpoint sum ∷ []) h =
    let (opens, committed) = each_append P (map (λ (a : OpenAttempt). a.tid) sum.open_attempts) (map (λ (a : CommittedAttempt). a.tid) sum.committed) h.0 in
    let cs = each_of_map P (λ (a : CommittedAttempt). a.tid) sum.committed committed in
    parts_each P (those (λ (a : CommittedAttempt). not (is_open_in sum a.tid)) sum.committed) sum.committed sum.open_attempts
    (each_filtered (λ (a : CommittedAttempt). P a.tid) (λ (a : CommittedAttempt). not (is_open_in sum a.tid)) sum.committed cs) cs (each_of_map P (λ (a : OpenAttempt). a.tid) sum.open_attempts opens)
named_recorded P (Rec.Checkpoint sum ∷ r ∷ rs) h = named_recorded P (r ∷ rs) h.1

-- those that a Sum of records names are recorded in them
also_named : (P : Tid → Type 0) (t : Tid) (ms : List Participant) (os : List OpenAttempt) → P t → Each (λ (a : OpenAttempt). P a.tid) os → Each (λ (a : OpenAttempt). P a.tid) (also_open t ms os)
also_named P t ms os p ps = by_test (some_of (λ (a : OpenAttempt). same_tid a.tid t) os)
  where
    by_test : (b : Bool) → Each (λ (a : OpenAttempt). P a.tid) (cond b os (inserted (λ a b. tid_before a.tid b.tid) (record { tid = t; participants = ms }) os))
    by_test true = ps
    by_test false = each_inserted (λ (a : OpenAttempt). P a.tid) (λ a b. tid_before a.tid b.tid) (record { tid = t; participants = ms }) os p ps

open_named : (P : Tid → Type 0) (protocols : List Participant) (rs : List CoordRecord) → Each P (recorded rs) → Each (λ (a : OpenAttempt). P a.tid) (open_with protocols [] rs)
open_named P protocols [] h = tt
open_named P protocols (Rec.Initiation t ms ∷ rs) h = let (first, rest) = each_with P t (recorded rs) h in also_named P t ms (open_with protocols [] rs) first (open_named P protocols rs rest)
open_named P protocols (Rec.Abort t ms ∷ rs) h = let (first, rest) = each_with P t (recorded rs) h in also_named P t ms (open_with protocols [] rs) first (open_named P protocols rs rest)
open_named P protocols (Rec.Commit t ks ∷ rs) h =
    let (first, rest) = each_with P t (recorded rs) h in
    let ms = ticketed protocols ks in
    let opens = open_with protocols [] rs in
    each_filtered (λ (a : OpenAttempt). P a.tid) (λ (a : OpenAttempt). not (same_tid a.tid t && ends_at_once (class_of a.participants))) (also_open t ms opens) (also_named P t ms opens first (open_named P protocols rs rest))
open_named P protocols (Rec.End t ∷ rs) h =
    each_filtered (λ (a : OpenAttempt). P a.tid) (λ (a : OpenAttempt). not (same_tid a.tid t)) (open_with protocols [] rs) (open_named P protocols rs (each_with P t (recorded rs) h).1)
open_named P protocols (Rec.Checkpoint sum ∷ rs) h = open_named P protocols rs h

committed_named : (P : Tid → Type 0) (rs : List CoordRecord) → Each P (recorded rs) → Each (λ (a : CommittedAttempt). P a.tid) (committed_with [] rs)
committed_named P [] h = tt
committed_named P (Rec.Initiation t ms ∷ rs) h = committed_named P rs (each_with P t (recorded rs) h).1
committed_named P (Rec.Abort t ms ∷ rs) h = committed_named P rs (each_with P t (recorded rs) h).1
committed_named P (Rec.End t ∷ rs) h = committed_named P rs (each_with P t (recorded rs) h).1
committed_named P (Rec.Checkpoint sum ∷ rs) h = committed_named P rs h
committed_named P (Rec.Commit t ks ∷ rs) h =
    let (first, rest) = each_with P t (recorded rs) h in
    each_inserted (λ (a : CommittedAttempt). P a.tid) (λ a b. tid_before a.tid b.tid) (record { tid = t; tickets = ks }) (committed_with [] rs) first (committed_named P rs rest)

-- whoever a record names is recorded in what is read, where each Checkpoint behind other records is the Sum of them
pub recorded_named : (P : Tid → Type 0) (protocols : List Participant) (rs : List CoordRecord) → CoordSumsFit protocols rs → Each P (recorded (Usable.coord_read rs)) → Each (λ r. Each P (attempts_in r)) rs
recorded_named P protocols [] fit h = tt
recorded_named P protocols (Rec.Initiation t ms ∷ []) fit h = ((h.0, tt), tt)
recorded_named P protocols (Rec.Commit t ks ∷ []) fit h = ((h.0, tt), tt)
recorded_named P protocols (Rec.Abort t ms ∷ []) fit h = ((h.0, tt), tt)
recorded_named P protocols (Rec.End t ∷ []) fit h = ((h.0, tt), tt)
recorded_named P protocols (Rec.Checkpoint sum ∷ []) fit h =
    let (committed, opens) = each_parts P (those (λ (a : CommittedAttempt). not (is_open_in sum a.tid)) sum.committed) sum.committed sum.open_attempts h in
    (both_lists P sum opens committed, tt)
recorded_named P protocols (Rec.Initiation t ms ∷ r ∷ rs) fit h =
    let (first, rest) = each_with P t (recorded (Usable.coord_read (r ∷ rs))) h in ((first, tt), recorded_named P protocols (r ∷ rs) fit rest)
recorded_named P protocols (Rec.Commit t ks ∷ r ∷ rs) fit h =
    let (first, rest) = each_with P t (recorded (Usable.coord_read (r ∷ rs))) h in ((first, tt), recorded_named P protocols (r ∷ rs) fit rest)
recorded_named P protocols (Rec.Abort t ms ∷ r ∷ rs) fit h =
    let (first, rest) = each_with P t (recorded (Usable.coord_read (r ∷ rs))) h in ((first, tt), recorded_named P protocols (r ∷ rs) fit rest)
recorded_named P protocols (Rec.End t ∷ r ∷ rs) fit h =
    let (first, rest) = each_with P t (recorded (Usable.coord_read (r ∷ rs))) h in ((first, tt), recorded_named P protocols (r ∷ rs) fit rest)
recorded_named P protocols (Rec.Checkpoint sum ∷ r ∷ rs) fit h =
    let older = Usable.coord_read (r ∷ rs) in
    let summed : Each P (attempts_in (Rec.Checkpoint (coord_sum protocols older))) = both_lists P (coord_sum protocols older) (open_named P protocols older h) (committed_named P older h) in
    (subst (λ (s : CoordSum). Each P (attempts_in (Rec.Checkpoint s))) (sym fit.0) summed, recorded_named P protocols (r ∷ rs) fit.1 h)

-- ---- the law

module _ (protocols : List Participant) (journal : Journal CoordRecord) (declared : NameDeclared protocols (coord_read journal)) (fit : CoordSumsFit protocols journal.records) (tx : Tx) where
  abbrev past : CoordPast
  past = opened_coordinator protocols journal

  abbrev begun : ℕ
  begun = attempts_of past tx

  abbrev counted : ℕ
  counted = found_attempts tx (reverse journal.records)

  read : recorded (coord_read journal) ≡ recorded (Usable.coord_read journal.records)
  read = ap recorded (read_is journal.records journal.torn)

  -- each that is recorded was begun
  all_begun : Each (λ tid. tid.tx ≡ tx → tid.attempt < begun) (recorded (Usable.coord_read journal.records))
  all_begun = subst (Each (λ tid. tid.tx ≡ tx → tid.attempt < begun)) read
      (each_from (λ tid. tid.tx ≡ tx → tid.attempt < begun) (recorded (coord_read journal))
      (λ tid i is. subst (λ (u : Tx). tid.attempt < attempts_of past u) is (opened_attempts protocols journal declared tid i)))

  no_more : counted ≤ begun
  no_more = found_most tx begun 0 (reverse journal.records) (omega arith)
      (each_reverse (λ r. Each (λ tid. tid.tx ≡ tx → tid.attempt < begun) (attempts_in r)) journal.records
      (recorded_named (λ tid. tid.tx ≡ tx → tid.attempt < begun) protocols journal.records fit all_begun))

  -- each that is recorded counts
  all_counted : Each (λ tid. tid.tx ≡ tx → tid.attempt < counted) (recorded (coord_read journal))
  all_counted =
      let turned = each_reverse (λ r. Each (λ tid. tid.tx ≡ tx → tid.attempt < counted) (attempts_in r)) (reverse journal.records) (found_all tx 0 (reverse journal.records)) in
      subst (Each (λ tid. tid.tx ≡ tx → tid.attempt < counted)) (sym read)
      (named_recorded (λ tid. tid.tx ≡ tx → tid.attempt < counted) journal.records
      (subst (Each (λ r. Each (λ tid. tid.tx ≡ tx → tid.attempt < counted) (attempts_in r))) (reverse-reverse journal.records) turned))

  -- the last one that was begun is at most the greatest that is recorded
  no_less : begun ≤ counted
  no_less = by_count begun refl
    where
      by_count : (n : ℕ) → begun ≡ n → n ≤ counted
      by_count zero is = omega arith
      by_count (suc n) is =
          let last : Tid = record { tx = tx; attempt = n } in
          let listed : In last (begun_tids past) = below_listed (begun_tids past) last (opened_numbered protocols journal declared) (omega (arith, is)) in
          let greater = opened_begun protocols journal declared last listed in
          let less = in_each (λ tid. tid.tx ≡ tx → tid.attempt < counted) (recorded (coord_read journal)) greater.0 all_counted greater.1 greater.2 in
          let most = greater.3 in
          omega (arith, less, most)

  -- so as many were begun as the journal's records say
  pub attempts_found : counted ≡ begun
  attempts_found = let le = no_more in let ge = no_less in omega (arith, le, ge)
