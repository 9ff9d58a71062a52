-- What a journal tells of the committed attempts is what all records say.
use Rattle.std.proofs.Common.{◌≡◌, ℕ, ◌+◌, ◌<◌, Bool, true, false, cond, ◌||◌, ◌&&◌, List, [], ◌∷◌, length, take, reverse, get_or, refl, sym, ap, ap₂, ◌∙◌}
use Rattle.std.proofs.lemmas.List.{reverse-append, take_more}
use Rattle.mdb_base.specs.declared.names.SiteTicket.{SiteTicket}
use Rattle.mdb_base.specs.declared.names.Tid.{Tid}
use Rattle.mdb_base.specs.declared.replies.Edge.{Edge}
use Rattle.mdb_base.specs.Names.{same_tid, tid_before}
use Rattle.mdb_base.specs.Words.{each_of, inserted, some_of}
use Rattle.presumptions.specs.declared.Participant.{Participant}
use Rattle.order_laws.specs.Tickets.{Ticketed}
use Rattle.fed_rules.specs.declared.records.CoordRecord.{CoordRecord}
use Rattle.fed_rules.specs.declared.records.CoordRecord.TheVariants as Rec
use Rattle.fed_rules.specs.declared.sums.CommittedAttempt.{CommittedAttempt}
use Rattle.fed_rules.specs.declared.sums.CoordSum.{CoordSum}
use Rattle.fed_rules.specs.CoordPast.{CoordPast, journal, records}
use Rattle.fed_rules.specs.CoordRecords.{commits}
use Rattle.fed_rules.specs.CoordSums.{committed_with, coord_journal_sum}
use Rattle.coord_laws.specs.CoordRestarts.{CoordJournalSaysAll}
use Rattle.audit_rules.specs.Faults as rules
use Rattle.audit_lines.specs.Edges.{some_attempt, some_commit, enters, enters_some, leaves, is_edge, goes_on, goes_round}

-- the first records with one more, the newest first
pub next_first : (entries : List CoordRecord) (n : ℕ) (entry : CoordRecord) → n < length entries → entry ≡ get_or entries n entry → reverse (take (n + 1) entries) ≡ entry ∷ reverse (take n entries)
next_first entries n entry within here =
    ap reverse (take_more entries n entry within)
    ∙ reverse-append (take n entries) (get_or entries n entry ∷ [])
    ∙ ap (λ (e : CoordRecord). e ∷ reverse (take n entries)) (sym here)

-- an attempt put among others
some_put : (test : CommittedAttempt → Bool) (x : CommittedAttempt) (ys : List CommittedAttempt) → some_of test (inserted (λ a b. tid_before a.tid b.tid) x ys) ≡ (test x || some_of test ys)
some_put test x [] = refl
some_put test x (y ∷ ys) = by_order (tid_before y.tid x.tid) (some_put test x ys) where
  other_way : (a b c d : Bool) → d ≡ (a || c) → (b || d) ≡ (a || (b || c))
  other_way true true c d h = refl
  other_way true false c d h = h
  other_way false true c d h = refl
  other_way false false c d h = h

  by_order : (b : Bool) → some_of test (inserted (λ a b. tid_before a.tid b.tid) x ys) ≡ (test x || some_of test ys)
      → some_of test (cond b (y ∷ inserted (λ a b. tid_before a.tid b.tid) x ys) (x ∷ y ∷ ys)) ≡ (test x || (test y || some_of test ys))
  by_order false h = refl
  by_order true h = other_way (test x) (test y) (some_of test ys) _ h

-- a journal tells what its Sum holds
in_sum : (protocols : List Participant) (test : Tid → List SiteTicket → Bool) (rs : List CoordRecord) → some_commit test rs ≡ some_attempt test (coord_journal_sum protocols rs).committed
in_sum protocols test [] = refl
in_sum protocols test (Rec.Initiation tid participants ∷ rs) = in_sum protocols test rs
in_sum protocols test (Rec.Commit tid tickets ∷ rs) =
    ap (λ b. test tid tickets || b) (in_sum protocols test rs)
    ∙ sym (some_put (λ attempt. test attempt.tid attempt.tickets) (record { tid = tid; tickets = tickets }) (coord_journal_sum protocols rs).committed)
in_sum protocols test (Rec.Abort tid participants ∷ rs) = in_sum protocols test rs
in_sum protocols test (Rec.End tid ∷ rs) = in_sum protocols test rs
in_sum protocols test (Rec.Checkpoint sum ∷ rs) = refl

-- and the Sum of all records holds the committed attempts
in_records : (test : Tid → List SiteTicket → Bool) (rs : List CoordRecord) → some_attempt test (committed_with [] rs) ≡ some_of (λ (c : Ticketed). test c.tid c.tickets) (commits rs)
in_records test [] = refl
in_records test (Rec.Initiation tid participants ∷ rs) = in_records test rs
in_records test (Rec.Commit tid tickets ∷ rs) =
    some_put (λ attempt. test attempt.tid attempt.tickets) (record { tid = tid; tickets = tickets }) (committed_with [] rs)
    ∙ ap (λ b. test tid tickets || b) (in_records test rs)
in_records test (Rec.Abort tid participants ∷ rs) = in_records test rs
in_records test (Rec.End tid ∷ rs) = in_records test rs
in_records test (Rec.Checkpoint sum ∷ rs) = in_records test rs

some_same : {A : Type 0} (p q : A → Bool) (xs : List A) → ((x : A) → p x ≡ q x) → some_of p xs ≡ some_of q xs
some_same p q [] h = refl
some_same p q (x ∷ xs) h = ap₂ (λ (a b : Bool). a || b) (h x) (some_same p q xs h)

module _ (protocols : List Participant) (past : CoordPast) (says : CoordJournalSaysAll protocols past) (candidate : Ticketed) where
  attempts : List Ticketed
  attempts = candidate ∷ commits (records past)

  -- of a journal that says all
  told : (test : Tid → List SiteTicket → Bool) → some_commit test (journal past) ≡ some_of (λ (c : Ticketed). test c.tid c.tickets) (commits (records past))
  told test =
      in_sum protocols test (journal past)
      ∙ (ap (λ (sum : CoordSum). some_attempt test sum.committed) says ∙ in_records test (records past))

  entered : (edge : Edge) (a : Ticketed) → enters_some candidate.tid candidate.tickets (journal past) edge a.tickets
      ≡ some_of (λ (b : Ticketed). same_tid b.tid edge.to && rules.precedes a b edge.site) (candidate ∷ commits (records past))
  entered edge a = ap (λ b. enters edge a.tickets candidate.tid candidate.tickets || b) (told (enters edge a.tickets))

  edge_is : (edge : Edge) → is_edge candidate.tid candidate.tickets (journal past) edge ≡ rules.is_edge (candidate ∷ commits (records past)) edge
  edge_is edge =
      ap (λ b. leaves candidate.tid candidate.tickets (journal past) edge candidate.tid candidate.tickets || b) (told (leaves candidate.tid candidate.tickets (journal past) edge))
      ∙ some_same (λ (a : Ticketed). leaves candidate.tid candidate.tickets (journal past) edge a.tid a.tickets)
      (λ (a : Ticketed). same_tid a.tid edge.from && some_of (λ (b : Ticketed). same_tid b.tid edge.to && rules.precedes a b edge.site) (candidate ∷ commits (records past)))
      (candidate ∷ commits (records past))
      (λ a. ap (λ b. same_tid a.tid edge.from && b) (entered edge a))

  swapped : (a b c d : Bool) → (a && (b && (c && d))) ≡ ((b && c) && (a && d))
  swapped true true c d = refl
  swapped true false c d = refl
  swapped false true true d = refl
  swapped false true false d = refl
  swapped false false c d = refl

  on_is : (at to : Tid) (edges : List Edge) → goes_on (is_edge candidate.tid candidate.tickets (journal past)) at edges to
      ≡ (each_of (rules.is_edge (candidate ∷ commits (records past))) edges && rules.leads at edges to)
  on_is at to [] = refl
  on_is at to (edge ∷ edges) =
      ap₂ (λ (b c : Bool). same_tid edge.from at && (b && c)) (edge_is edge) (on_is edge.to to edges)
      ∙ swapped (same_tid edge.from at) (rules.is_edge (candidate ∷ commits (records past)) edge) (each_of (rules.is_edge (candidate ∷ commits (records past))) edges) (rules.leads edge.to edges to)

  -- the edges go round by the journal where they are a cycle of the committed attempts and the candidate
  pub round_is : (edges : List Edge) → goes_round candidate.tid candidate.tickets (journal past) edges ≡ rules.is_cycle (candidate ∷ commits (records past)) candidate.tid edges
  round_is [] = refl
  round_is (edge ∷ edges) = on_is candidate.tid candidate.tid (edge ∷ edges)
