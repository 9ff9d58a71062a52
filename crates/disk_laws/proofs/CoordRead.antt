-- What a coordinator's journal is read as, where a Checkpoint stands for what was trimmed: no more records than the trimmed ones, in the same order.
use Rattle.std.proofs.Common.{◌≡◌, ◌≤◌, suc, Bool, true, false, cond, not, ◌||◌, Option, Some, None, List, [], ◌∷◌, ◌++◌, map, refl, sym, ap, ap₂, subst, ◌∙◌, inl, inr, arith}
use Rattle.mdb_base.specs.declared.names.Tid.{Tid}
use Rattle.mdb_base.specs.declared.names.Tx.{Tx}
use Rattle.mdb_base.specs.Names.{same_tid, tid_before}
use Rattle.mdb_base.specs.Words.{Among, how_many, inserted, or_else, some_of, those}
use Rattle.mdb_base.proofs.ForCallers.{among_append, among_behind, among_split, each_map, same_tid-refl}
use Rattle.order_laws.specs.Chains.{In}
use Rattle.order_laws.specs.Tickets.{HasNoCycle, IsEdge, Ticketed}
use Rattle.order_laws.proofs.ForCallers.{among_map, among_weaker, same_of}
use Rattle.presumptions.specs.declared.Participant.{Participant}
use Rattle.fed_rules.specs.declared.records.CoordRecord.{CoordRecord}
use Rattle.fed_rules.specs.declared.records.CoordRecord.TheVariants.{Initiation, Commit, Abort, End, Checkpoint}
use Rattle.fed_rules.specs.declared.sums.CommittedAttempt.{CommittedAttempt}
use Rattle.fed_rules.specs.declared.sums.CoordSum.{CoordSum}
use Rattle.fed_rules.specs.declared.sums.OpenAttempt.{OpenAttempt}
use Rattle.fed_rules.specs.CoordRecords.{class_of, commits, ends_at_once, has_commit, has_end, named, ticketed}
use Rattle.fed_rules.specs.CoordSums.{committed_with, coord_sum, open_with}
use Rattle.fed_rules.specs.Reopened.{commit_read, coord_sum_read, end_read, initiation_read, is_open_in}
use Rattle.fed_rules.specs.Usable.{CommitOnce, IsAnyOf, IsCommitOf, IsDecidedOf, IsEndOf, StandInOrder, coord_read}
use Rattle.coord_laws.proofs.ForCallers.{IsTidy, Once, commit_named, committed_is, found_or_not, is_of, left_open, named_some, once_open, open_is, unless_ended}
use Rattle.coord_laws.specs.Sums.{AreCoordSums}
use Rattle.coord_laws.specs.CoordRestarts.{open_in}
use Rattle.disk_laws.proofs.CoordOrder.{IsOrderly}
use Rattle.disk_laws.proofs.ReadRecords.{BehindSum, Commits, IsRead, Opens, Whole, among_insert, among_read, among_those, committed_from, open_from, read_all, read_trimmed, tested}

-- ---- no record is read that wasn't there, but for an Initiation in place of an Abort, and an End of a commit that is forgotten at once

committed_any : (g : Tid) (r : CoordRecord) → Commits (λ c. c.tid ≡ g) r → IsDecidedOf g r
committed_any g (Commit t ks) e = e
committed_any g (Initiation t ms) e = absurd e
committed_any g (Abort t ms) e = absurd e
committed_any g (End t) e = absurd e
committed_any g (Checkpoint sum) e = absurd e

decided_any : (g : Tid) (r : CoordRecord) → IsDecidedOf g r → IsAnyOf g r
decided_any g (Commit t ks) e = e
decided_any g (Initiation t ms) e = absurd e
decided_any g (Abort t ms) e = e
decided_any g (End t) e = e
decided_any g (Checkpoint sum) e = absurd e

opens_any : (protocols : List Participant) (g : Tid) (r : CoordRecord) → Opens protocols (λ o. o.tid ≡ g) r → IsAnyOf g r
opens_any protocols g (Commit t ks) e = e
opens_any protocols g (Initiation t ms) e = e
opens_any protocols g (Abort t ms) e = e
opens_any protocols g (End t) e = absurd e
opens_any protocols g (Checkpoint sum) e = absurd e

decided_read : (protocols : List Participant) (g : Tid) (rs : List CoordRecord) → Among (IsDecidedOf g) (coord_sum_read (coord_sum protocols rs)) → Among (IsDecidedOf g) rs
decided_read protocols g rs m = elim (among_read (IsDecidedOf g) (coord_sum protocols rs) m) [
  | inl i ↦ of_committed (among_those (λ c. c.tid ≡ g) (λ attempt. not (is_open_in (coord_sum protocols rs) attempt.tid)) (committed_with [] rs) i)
  | inr i ↦ elim i [
    | inl j ↦ of_committed j
    | inr j ↦ absurd (undecided (open_with protocols [] rs) j)
  ]
]
  where
    of_committed : Among (λ (c : CommittedAttempt). c.tid ≡ g) (committed_with [] rs) → Among (IsDecidedOf g) rs
    of_committed i = among_weaker (Commits (λ c. c.tid ≡ g)) (IsDecidedOf g) (committed_any g) rs (committed_from (λ c. c.tid ≡ g) rs i)

    undecided : (xs : List OpenAttempt) → Among (λ (o : OpenAttempt). IsDecidedOf g (initiation_read o)) xs → ⊥
    undecided [] j = j
    undecided (x ∷ xs) (inl never) = never
    undecided (x ∷ xs) (inr j) = undecided xs j

pub any_read : (protocols : List Participant) (g : Tid) (rs : List CoordRecord) → Among (IsAnyOf g) (coord_sum_read (coord_sum protocols rs)) → Among (IsAnyOf g) rs
any_read protocols g rs m = elim (among_read (IsAnyOf g) (coord_sum protocols rs) m) [
  | inl i ↦ of_committed (among_those (λ c. c.tid ≡ g) (λ attempt. not (is_open_in (coord_sum protocols rs) attempt.tid)) (committed_with [] rs) i)
  | inr i ↦ elim i [
    | inl j ↦ of_committed j
    | inr j ↦ among_weaker (Opens protocols (λ o. o.tid ≡ g)) (IsAnyOf g) (opens_any protocols g) rs (open_from protocols (λ o. o.tid ≡ g) rs j)
  ]
]
  where
    of_committed : Among (λ (c : CommittedAttempt). c.tid ≡ g) (committed_with [] rs) → Among (IsAnyOf g) rs
    of_committed i =
        among_weaker (IsDecidedOf g) (IsAnyOf g) (decided_any g) rs
        (among_weaker (Commits (λ c. c.tid ≡ g)) (IsDecidedOf g) (committed_any g) rs (committed_from (λ c. c.tid ≡ g) rs i))

-- an End is read where there is a commit that isn't open
ends_read : (protocols : List Participant) (g : Tid) (rs : List CoordRecord) → Among (IsEndOf g) (coord_sum_read (coord_sum protocols rs))
    → (has_commit rs g ≡ true) × (open_in (open_with protocols [] rs) g ≡ None)
ends_read protocols g rs m = elim (among_read (IsEndOf g) (coord_sum protocols rs) m) [
  | inl i ↦ closed (committed_with [] rs) (tested (λ (c : CommittedAttempt). c.tid ≡ g) (λ attempt. not (is_open_in (coord_sum protocols rs) attempt.tid)) (committed_with [] rs) i) (among_commits i)
  | inr i ↦ absurd (elim i [ inl j ↦ no_commit (committed_with [] rs) j | inr j ↦ no_open (open_with protocols [] rs) j ])
]
  where
    no_commit : (xs : List CommittedAttempt) → Among (λ (c : CommittedAttempt). IsEndOf g (commit_read c)) xs → ⊥
    no_commit [] j = j
    no_commit (x ∷ xs) (inl never) = never
    no_commit (x ∷ xs) (inr j) = no_commit xs j

    no_open : (xs : List OpenAttempt) → Among (λ (o : OpenAttempt). IsEndOf g (initiation_read o)) xs → ⊥
    no_open [] j = j
    no_open (x ∷ xs) (inl never) = never
    no_open (x ∷ xs) (inr j) = no_open xs j

    some_is : (xs : List CommittedAttempt) → Among (λ (c : CommittedAttempt). c.tid ≡ g) xs → some_of (λ (a : CommittedAttempt). same_tid a.tid g) xs ≡ true
    some_is [] j = absurd j
    some_is (x ∷ xs) (inl e) = ap (λ b. b || some_of (λ (a : CommittedAttempt). same_tid a.tid g) xs) (same_of x.tid g e)
    some_is (x ∷ xs) (inr j) = by_test (same_tid x.tid g) (some_is xs j)
      where
        by_test : (b : Bool) → some_of (λ (a : CommittedAttempt). same_tid a.tid g) xs ≡ true → (b || some_of (λ (a : CommittedAttempt). same_tid a.tid g) xs) ≡ true
        by_test true h = refl
        by_test false h = h

    among_commits : Among (λ (c : CommittedAttempt). c.tid ≡ g) (those (λ attempt. not (is_open_in (coord_sum protocols rs) attempt.tid)) (committed_with [] rs))
        → has_commit rs g ≡ true
    among_commits i =
        sym (committed_is rs g)
        ∙ some_is (committed_with [] rs) (among_those (λ c. c.tid ≡ g) (λ attempt. not (is_open_in (coord_sum protocols rs) attempt.tid)) (committed_with [] rs) i)

    closed_at : (b : Bool) → is_open_in (coord_sum protocols rs) g ≡ b → not b ≡ true → open_in (open_with protocols [] rs) g ≡ None
    closed_at true e n = cc
    closed_at false e n = elim (found_or_not g (open_with protocols [] rs)) [
      | inl none ↦ none.1
      | inr some ↦ (let clash : true ≡ false = sym some.0 ∙ e in cc)
    ]

    closed : (xs : List CommittedAttempt) → Among (λ (c : CommittedAttempt). (c.tid ≡ g) × (not (is_open_in (coord_sum protocols rs) c.tid) ≡ true)) xs
        → has_commit rs g ≡ true → (has_commit rs g ≡ true) × (open_in (open_with protocols [] rs) g ≡ None)
    closed [] j c = absurd j
    closed (x ∷ xs) (inr j) c = closed xs j c
    closed (x ∷ xs) (inl (e, n)) c = (c, closed_at (is_open_in (coord_sum protocols rs) g) refl (subst (λ (t : Tid). not (is_open_in (coord_sum protocols rs) t) ≡ true) e n))

-- ---- each is read once

abbrev pub OneOf : List CommittedAttempt → Type 0
OneOf [] = Unit {0}
OneOf (c ∷ cs) = (Among (λ d. d.tid.tx ≡ c.tid.tx) cs → ⊥) × OneOf cs

one_inserted : (x : CommittedAttempt) (ys : List CommittedAttempt) → (before : CommittedAttempt → CommittedAttempt → Bool)
    → (Among (λ d. d.tid.tx ≡ x.tid.tx) ys → ⊥) → OneOf ys → OneOf (inserted before x ys)
one_inserted x [] before none o = ((λ m. m), tt)
one_inserted x (y ∷ ys) before none o = by_test (before y x) (one_inserted x ys before (λ m. none (inr m)) o.1)
  where
    by_test : (b : Bool) → OneOf (inserted before x ys) → OneOf (cond b (y ∷ inserted before x ys) (x ∷ y ∷ ys))
    by_test false rest = (none, o)
    by_test true rest = (
      (λ m. elim (among_insert before (λ d. d.tid.tx ≡ y.tid.tx) x ys m) [ inl e ↦ none (inl (sym e)) | inr i ↦ o.0 i ]),
      rest,
    )

pub commit_of : (tx : Tx) (r : CoordRecord) → Commits (λ c. c.tid.tx ≡ tx) r → IsCommitOf tx r
commit_of tx (Commit t ks) e = e
commit_of tx (Initiation t ms) e = absurd e
commit_of tx (Abort t ms) e = absurd e
commit_of tx (End t) e = absurd e
commit_of tx (Checkpoint sum) e = absurd e

one_committed : (rs : List CoordRecord) → CommitOnce rs → OneOf (committed_with [] rs)
one_committed [] o = tt
one_committed (Commit t ks ∷ rs) o =
    one_inserted (record { tid = t; tickets = ks }) (committed_with [] rs) (λ a b. tid_before a.tid b.tid)
    (λ m. o.0 (among_weaker (Commits (λ c. c.tid.tx ≡ t.tx)) (IsCommitOf t.tx) (commit_of t.tx) rs (committed_from (λ c. c.tid.tx ≡ t.tx) rs m))) (one_committed rs o.1)
one_committed (Initiation t ms ∷ rs) o = one_committed rs o
one_committed (Abort t ms ∷ rs) o = one_committed rs o
one_committed (End t ∷ rs) o = one_committed rs o
one_committed (Checkpoint sum ∷ rs) o = one_committed rs o

one_those : (test : CommittedAttempt → Bool) (xs : List CommittedAttempt) → OneOf xs → OneOf (those test xs)
one_those test [] o = tt
one_those test (x ∷ xs) o = by_test (test x) (one_those test xs o.1)
  where
    by_test : (b : Bool) → OneOf (those test xs) → OneOf (cond b (x ∷ those test xs) (those test xs))
    by_test true rest = ((λ m. o.0 (among_those (λ d. d.tid.tx ≡ x.tid.tx) test xs m)), rest)
    by_test false rest = rest

abbrev OneOpen : List OpenAttempt → Type 0
OneOpen [] = Unit {0}
OneOpen (o ∷ os) = (Among (λ p. p.tid ≡ o.tid) os → ⊥) × OneOpen os

counted : (g : Tid) (os : List OpenAttempt) → Among (λ p. p.tid ≡ g) os → 1 ≤ how_many (is_of g) os
counted g [] m = absurd m
counted g (o ∷ os) (inl e) = subst (λ b. 1 ≤ cond b (suc (how_many (is_of g) os)) (how_many (is_of g) os)) (sym (same_of o.tid g e)) (omega arith)
counted g (o ∷ os) (inr m) = by_test (same_tid o.tid g) (counted g os m)
  where
    by_test : (b : Bool) → 1 ≤ how_many (is_of g) os → 1 ≤ cond b (suc (how_many (is_of g) os)) (how_many (is_of g) os)
    by_test true h = omega arith
    by_test false h = h

one_open : (os : List OpenAttempt) → ((g : Tid) → Once g os) → OneOpen os
one_open [] once = tt
one_open (o ∷ os) once = (
  (λ m.
      let most = subst (λ b. cond b (suc (how_many (is_of o.tid) os)) (how_many (is_of o.tid) os) ≤ 1) (same_tid-refl o.tid) (once o.tid) in
      let least = counted o.tid os m in absurd (omega (arith, most, least))),
  one_open os (λ g. fewer g (same_tid o.tid g) (once g)),
)
  where
    fewer : (g : Tid) (b : Bool) → cond b (suc (how_many (is_of g) os)) (how_many (is_of g) os) ≤ 1 → how_many (is_of g) os ≤ 1
    fewer g true h = omega (arith, h)
    fewer g false h = h

-- ---- so what a Sum is read as stands in order

opened_stand : (os : List OpenAttempt) → OneOpen os → StandInOrder (map initiation_read os)
opened_stand [] one = tt
opened_stand (o ∷ os) one = ((λ m. one.0 (among_map (IsAnyOf o.tid) initiation_read os m)), opened_stand os one.1)

none_decided : (g : Tid) (os : List OpenAttempt) → Among (IsDecidedOf g) (map initiation_read os) → ⊥
none_decided g [] m = m
none_decided g (o ∷ os) (inl never) = never
none_decided g (o ∷ os) (inr m) = none_decided g os m

none_ended : (g : Tid) (os : List OpenAttempt) → Among (IsEndOf g) (map initiation_read os) → ⊥
none_ended g [] m = m
none_ended g (o ∷ os) (inl never) = never
none_ended g (o ∷ os) (inr m) = none_ended g os m

none_ends : (g : Tid) (cs : List CommittedAttempt) → Among (IsEndOf g) (map commit_read cs) → ⊥
none_ends g [] m = m
none_ends g (c ∷ cs) (inl never) = never
none_ends g (c ∷ cs) (inr m) = none_ends g cs m

of_tx : (c : CommittedAttempt) (cs : List CommittedAttempt) → Among (λ d. d.tid ≡ c.tid) cs → Among (λ d. d.tid.tx ≡ c.tid.tx) cs
of_tx c cs m = among_weaker (λ (d : CommittedAttempt). d.tid ≡ c.tid) (λ d. d.tid.tx ≡ c.tid.tx) (λ d e. ap (λ (t : Tid). t.tx) e) cs m

commits_stand : (cs : List CommittedAttempt) (os : List OpenAttempt) → OneOf cs → OneOpen os → StandInOrder (map commit_read cs ++ map initiation_read os)
commits_stand [] os one opened = opened_stand os opened
commits_stand (c ∷ cs) os one opened = (
  (λ m. elim (among_split (IsDecidedOf c.tid) (map commit_read cs) (map initiation_read os) m) [
    | inl i ↦ one.0 (of_tx c cs (among_map (IsDecidedOf c.tid) commit_read cs i))
    | inr i ↦ none_decided c.tid os i
  ]),
  commits_stand cs os one.1 opened,
)

ends_stand : (es cs : List CommittedAttempt) (os : List OpenAttempt) → OneOf es → OneOf cs → OneOpen os
    → StandInOrder ((map end_read es ++ map commit_read cs) ++ map initiation_read os)
ends_stand [] cs os ends one opened = commits_stand cs os one opened
ends_stand (e ∷ es) cs os ends one opened = (
  (λ m. elim (among_split (IsEndOf e.tid) (map end_read es ++ map commit_read cs) (map initiation_read os) m) [
    | inl i ↦ elim (among_split (IsEndOf e.tid) (map end_read es) (map commit_read cs) i) [
      | inl j ↦ ends.0 (of_tx e es (among_map (IsEndOf e.tid) end_read es j))
      | inr j ↦ none_ends e.tid cs j
    ]
    | inr i ↦ none_ended e.tid os i
  ]),
  ends_stand es cs os ends.1 one opened,
)

pub sum_stands : (protocols : List Participant) (rs : List CoordRecord) → CommitOnce rs → StandInOrder (coord_sum_read (coord_sum protocols rs))
sum_stands protocols rs once =
    let one = one_committed rs once in
    ends_stand (those (λ attempt. not (is_open_in (coord_sum protocols rs) attempt.tid)) (committed_with [] rs)) (committed_with [] rs) (open_with protocols [] rs)
    (one_those (λ attempt. not (is_open_in (coord_sum protocols rs) attempt.tid)) (committed_with [] rs) one) one (one_open (open_with protocols [] rs) (λ g. once_open protocols g rs))

-- and with the newer records
pub over : (protocols : List Participant) (P : CoordRecord → Type 0) (newer before : List CoordRecord) → (P (Checkpoint (coord_sum protocols before)) → ⊥)
    → (Among P (coord_sum_read (coord_sum protocols before)) → Among P before)
    → Among P (newer ++ Checkpoint (coord_sum protocols before) ∷ coord_sum_read (coord_sum protocols before)) → Among P (newer ++ Checkpoint (coord_sum protocols before) ∷ before)
over protocols P newer before not_here sub m =
    elim (among_split P newer (Checkpoint (coord_sum protocols before) ∷ coord_sum_read (coord_sum protocols before)) m) [
      | inl i ↦ among_append P newer (Checkpoint (coord_sum protocols before) ∷ before) i
      | inr i ↦ elim i [ inl c ↦ absurd (not_here c) | inr j ↦ among_behind P newer (Checkpoint (coord_sum protocols before) ∷ before) (inr (sub j)) ]
    ]

-- who is named stays
named_keeps : (protocols : List Participant) (g : Tid) (ms : List Participant) (newer rs : List CoordRecord) → IsTidy protocols g (newer ++ rs)
    → named protocols rs g ≡ Some ms → named protocols (newer ++ rs) g ≡ Some ms
named_keeps protocols g ms [] rs tidy e = e
named_keeps protocols g ms (Initiation t ns ∷ newer) rs tidy e = by_test (same_tid t g) refl (named_keeps protocols g ms newer rs tidy.1 e)
  where
    by_test : (b : Bool) → same_tid t g ≡ b → named protocols (newer ++ rs) g ≡ Some ms → cond b (Some ns) (named protocols (newer ++ rs) g) ≡ Some ms
    by_test true q old = ap (λ z. Some z) (sym ((tidy.0 q).2 ms old))
    by_test false q old = old
named_keeps protocols g ms (Commit t ks ∷ newer) rs tidy e = by_test (same_tid t g) (named_keeps protocols g ms newer rs tidy.1 e)
  where
    by_test : (b : Bool) → named protocols (newer ++ rs) g ≡ Some ms
        → cond b (Some (or_else (named protocols (newer ++ rs) g) (ticketed protocols ks))) (named protocols (newer ++ rs) g) ≡ Some ms
    by_test true old = ap (λ o. Some (or_else o (ticketed protocols ks))) old
    by_test false old = old
named_keeps protocols g ms (Abort t ns ∷ newer) rs tidy e = by_test (same_tid t g) (named_keeps protocols g ms newer rs tidy.1 e)
  where
    by_test : (b : Bool) → named protocols (newer ++ rs) g ≡ Some ms → cond b (Some (or_else (named protocols (newer ++ rs) g) ns)) (named protocols (newer ++ rs) g) ≡ Some ms
    by_test true old = ap (λ o. Some (or_else o ns)) old
    by_test false old = old
named_keeps protocols g ms (End t ∷ newer) rs tidy e = named_keeps protocols g ms newer rs tidy e
named_keeps protocols g ms (Checkpoint sum ∷ newer) rs tidy e = named_keeps protocols g ms newer rs tidy e

commit_keeps : (g : Tid) (newer rs : List CoordRecord) → has_commit rs g ≡ true → has_commit (newer ++ rs) g ≡ true
commit_keeps g [] rs e = e
commit_keeps g (Commit t ks ∷ newer) rs e = by_test (same_tid t g) (commit_keeps g newer rs e)
  where
    by_test : (b : Bool) → has_commit (newer ++ rs) g ≡ true → cond b true (has_commit (newer ++ rs) g) ≡ true
    by_test true h = refl
    by_test false h = h
commit_keeps g (Initiation t ms ∷ newer) rs e = commit_keeps g newer rs e
commit_keeps g (Abort t ms ∷ newer) rs e = commit_keeps g newer rs e
commit_keeps g (End t ∷ newer) rs e = commit_keeps g newer rs e
commit_keeps g (Checkpoint sum ∷ newer) rs e = commit_keeps g newer rs e

module _ (protocols : List Participant) (before : List CoordRecord) where
  abbrev all : List CoordRecord → List CoordRecord
  all newer = newer ++ Checkpoint (coord_sum protocols before) ∷ before

  abbrev short : List CoordRecord → List CoordRecord
  short newer = newer ++ Checkpoint (coord_sum protocols before) ∷ coord_sum_read (coord_sum protocols before)

  -- behind an End that is read none is written
  no_second : (newer : List CoordRecord) (t : Tid) → IsTidy protocols t (all newer) → IsOrderly protocols t (all (End t ∷ newer)) → Among (IsEndOf t) (short newer) → ⊥
  no_second newer t tidy o m = elim (among_split (IsEndOf t) newer (Checkpoint (coord_sum protocols before) ∷ coord_sum_read (coord_sum protocols before)) m) [
    | inl i ↦ (o.0 (same_tid-refl t)).0 (among_append (IsEndOf t) newer (Checkpoint (coord_sum protocols before) ∷ before) i)
    | inr i ↦ elim i [
      | inl c ↦ c
      | inr j ↦ (let r = ends_read protocols t before j in by_end (has_end before t) refl r.0 r.1)
    ]
  ]
    where
      tidy_here : IsTidy protocols t before
      tidy_here = tidy_front_here newer tidy
        where
          tidy_front_here : (newer : List CoordRecord) → IsTidy protocols t (all newer) → IsTidy protocols t before
          tidy_front_here [] u = u
          tidy_front_here (Initiation a ms ∷ more) u = tidy_front_here more u.1
          tidy_front_here (Commit a ks ∷ more) u = tidy_front_here more u.1
          tidy_front_here (Abort a ms ∷ more) u = tidy_front_here more u.1
          tidy_front_here (End a ∷ more) u = tidy_front_here more u
          tidy_front_here (Checkpoint sum ∷ more) u = tidy_front_here more u

      by_named : (x : Option (List Participant)) → named protocols before t ≡ x → has_commit before t ≡ true → unless_ended x ≡ None → ⊥
      by_named None e c n =
          let some = named_some (named protocols before t) (commit_named protocols t before c) in let no : None ≡ Some some.0 = sym e ∙ some.1 in cc
      by_named (Some ms) e c n = by_class (ends_at_once (class_of ms)) refl n
        where
          by_class : (b : Bool) → ends_at_once (class_of ms) ≡ b → cond b None (Some ms) ≡ None → ⊥
          by_class false q h = cc
          by_class true q h =
              let later = (o.0 (same_tid-refl t)).1 (commit_keeps t newer (Checkpoint (coord_sum protocols before) ∷ before) c) ms
              (named_keeps protocols t ms newer (Checkpoint (coord_sum protocols before) ∷ before) tidy e) in
              let no : true ≡ false = sym q ∙ later in cc

      by_end : (b : Bool) → has_end before t ≡ b → has_commit before t ≡ true → open_in (open_with protocols [] before) t ≡ None → ⊥
      by_end true e c none =
          (o.0 (same_tid-refl t)).0 (among_behind (IsEndOf t) newer (Checkpoint (coord_sum protocols before) ∷ before) (inr (end_in before e)))
        where
          end_in : (rs : List CoordRecord) → has_end rs t ≡ true → Among (IsEndOf t) rs
          end_in [] h = cc
          end_in (End u ∷ rs) h = by_test (same_tid u t) refl h (end_in rs)
            where
              by_test : (b : Bool) → same_tid u t ≡ b → cond b true (has_end rs t) ≡ true → (has_end rs t ≡ true → Among (IsEndOf t) rs) → Among (IsEndOf t) (End u ∷ rs)
              by_test true q h k = inl (Rattle.mdb_base.proofs.ForCallers.same_tid-equal u t q)
              by_test false q h k = inr (k h)
          end_in (Initiation u ms ∷ rs) h = inr (end_in rs h)
          end_in (Commit u ks ∷ rs) h = inr (end_in rs h)
          end_in (Abort u ms ∷ rs) h = inr (end_in rs h)
          end_in (Checkpoint sum ∷ rs) h = inr (end_in rs h)
      by_end false e c none =
          by_named (named protocols before t) refl c
          (sym (ap (λ b. left_open b (has_commit before t) (named protocols before t)) e ∙ ap (λ b. left_open false b (named protocols before t)) c)
          ∙ (sym (open_is protocols t before tidy_here) ∙ none))

  stand_short : (newer : List CoordRecord) → CommitOnce before → ((g : Tid) → IsTidy protocols g (all newer)) → ((g : Tid) → IsOrderly protocols g (all newer))
      → StandInOrder (short newer)
  stand_short [] once tidy o = sum_stands protocols before once
  stand_short (Initiation t ms ∷ newer) once tidy o = (
    (λ m. (o t).0 (same_tid-refl t) (over protocols (IsAnyOf t) newer before (λ c. c) (any_read protocols t before) m)),
    stand_short newer once (λ g. (tidy g).1) (λ g. (o g).1),
  )
  stand_short (Commit t ks ∷ newer) once tidy o = (
    (λ m. (o t).0 (same_tid-refl t) (over protocols (IsDecidedOf t) newer before (λ c. c) (decided_read protocols t before) m)),
    stand_short newer once (λ g. (tidy g).1) (λ g. (o g).1),
  )
  stand_short (Abort t ms ∷ newer) once tidy o = (
    (λ m. (o t).0 (same_tid-refl t) (over protocols (IsDecidedOf t) newer before (λ c. c) (decided_read protocols t before) m)),
    stand_short newer once (λ g. (tidy g).1) (λ g. (o g).1),
  )
  stand_short (End t ∷ newer) once tidy o = (
    no_second newer t (tidy t) (o t),
    stand_short newer once tidy (λ g. (o g).1),
  )
  stand_short (Checkpoint sum ∷ newer) once tidy o = stand_short newer once tidy o

pub stand_all : (protocols : List Participant) (rs : List CoordRecord) → ((g : Tid) → IsOrderly protocols g rs) → StandInOrder rs
stand_all protocols [] o = tt
stand_all protocols (Initiation t ms ∷ rs) o = ((λ m. (o t).0 (same_tid-refl t) m), stand_all protocols rs (λ g. (o g).1))
stand_all protocols (Commit t ks ∷ rs) o = ((λ m. (o t).0 (same_tid-refl t) m), stand_all protocols rs (λ g. (o g).1))
stand_all protocols (Abort t ms ∷ rs) o = ((λ m. (o t).0 (same_tid-refl t) m), stand_all protocols rs (λ g. (o g).1))
stand_all protocols (End t ∷ rs) o = ((λ m. ((o t).0 (same_tid-refl t)).0 m), stand_all protocols rs (λ g. (o g).1))
stand_all protocols (Checkpoint sum ∷ rs) o = stand_all protocols rs o

-- ---- commits

pub once_front : (newer rs : List CoordRecord) → CommitOnce (newer ++ rs) → CommitOnce rs
once_front [] rs o = o
once_front (Commit t ks ∷ newer) rs o = once_front newer rs o.1
once_front (Initiation t ms ∷ newer) rs o = once_front newer rs o
once_front (Abort t ms ∷ newer) rs o = once_front newer rs o
once_front (End t ∷ newer) rs o = once_front newer rs o
once_front (Checkpoint sum ∷ newer) rs o = once_front newer rs o

commit_read_of : (protocols : List Participant) (tx : Tx) (rs : List CoordRecord) → Among (IsCommitOf tx) (coord_sum_read (coord_sum protocols rs)) → Among (IsCommitOf tx) rs
commit_read_of protocols tx rs m = elim (among_read (IsCommitOf tx) (coord_sum protocols rs) m) [
  | inl i ↦ absurd (no_end (those (λ attempt. not (is_open_in (coord_sum protocols rs) attempt.tid)) (committed_with [] rs)) i)
  | inr i ↦ elim i [
    | inl j ↦ among_weaker (Commits (λ c. c.tid.tx ≡ tx)) (IsCommitOf tx) (commit_of tx) rs (committed_from (λ c. c.tid.tx ≡ tx) rs j)
    | inr j ↦ absurd (no_open (open_with protocols [] rs) j)
  ]
]
  where
    no_end : (xs : List CommittedAttempt) → Among (λ (c : CommittedAttempt). IsCommitOf tx (end_read c)) xs → ⊥
    no_end [] j = j
    no_end (x ∷ xs) (inl never) = never
    no_end (x ∷ xs) (inr j) = no_end xs j

    no_open : (xs : List OpenAttempt) → Among (λ (o : OpenAttempt). IsCommitOf tx (initiation_read o)) xs → ⊥
    no_open [] j = j
    no_open (x ∷ xs) (inl never) = never
    no_open (x ∷ xs) (inr j) = no_open xs j

opened_once : (os : List OpenAttempt) → CommitOnce (map initiation_read os)
opened_once [] = tt
opened_once (o ∷ os) = opened_once os

no_opened : (tx : Tx) (os : List OpenAttempt) → Among (IsCommitOf tx) (map initiation_read os) → ⊥
no_opened tx [] m = m
no_opened tx (o ∷ os) (inl never) = never
no_opened tx (o ∷ os) (inr m) = no_opened tx os m

commits_once : (cs : List CommittedAttempt) (os : List OpenAttempt) → OneOf cs → CommitOnce (map commit_read cs ++ map initiation_read os)
commits_once [] os one = opened_once os
commits_once (c ∷ cs) os one = (
  (λ m. elim (among_split (IsCommitOf c.tid.tx) (map commit_read cs) (map initiation_read os) m) [
    | inl i ↦ one.0 (among_map (IsCommitOf c.tid.tx) commit_read cs i)
    | inr i ↦ no_opened c.tid.tx os i
  ]),
  commits_once cs os one.1,
)

ends_once : (es cs : List CommittedAttempt) (os : List OpenAttempt) → OneOf cs → CommitOnce ((map end_read es ++ map commit_read cs) ++ map initiation_read os)
ends_once [] cs os one = commits_once cs os one
ends_once (e ∷ es) cs os one = ends_once es cs os one

once_short : (protocols : List Participant) (newer before : List CoordRecord) → CommitOnce (newer ++ Checkpoint (coord_sum protocols before) ∷ before)
    → CommitOnce (newer ++ Checkpoint (coord_sum protocols before) ∷ coord_sum_read (coord_sum protocols before))
once_short protocols [] before o =
    ends_once (those (λ attempt. not (is_open_in (coord_sum protocols before) attempt.tid)) (committed_with [] before)) (committed_with [] before) (open_with protocols [] before)
    (one_committed before o)
once_short protocols (Commit t ks ∷ newer) before o =
    ((λ m. o.0 (over protocols (IsCommitOf t.tx) newer before (λ c. c) (commit_read_of protocols t.tx before) m)), once_short protocols newer before o.1)
once_short protocols (Initiation t ms ∷ newer) before o = once_short protocols newer before o
once_short protocols (Abort t ms ∷ newer) before o = once_short protocols newer before o
once_short protocols (End t ∷ newer) before o = once_short protocols newer before o
once_short protocols (Checkpoint sum ∷ newer) before o = once_short protocols newer before o

-- ---- the ticket graph

abbrev IsThat : Ticketed → CoordRecord → Type 0
IsThat a r = Commits (λ c. (c.tid ≡ a.tid) × (c.tickets ≡ a.tickets)) r

ticketed_is : (a b : Ticketed) → a.tid ≡ b.tid → a.tickets ≡ b.tickets → a ≡ b
ticketed_is a b e f = ap₂ (λ t ks. let r : Ticketed = record { tid = t; tickets = ks } in r) e f

commit_in : (a : Ticketed) (rs : List CoordRecord) → Among (IsThat a) rs → In a (commits rs)
commit_in a [] m = m
commit_in a (Commit t ks ∷ rs) (inl (e, f)) = inl (ticketed_is (record { tid = t; tickets = ks }) a e f)
commit_in a (Commit t ks ∷ rs) (inr m) = inr (commit_in a rs m)
commit_in a (Initiation t ms ∷ rs) (inl never) = absurd never
commit_in a (Initiation t ms ∷ rs) (inr m) = commit_in a rs m
commit_in a (Abort t ms ∷ rs) (inl never) = absurd never
commit_in a (Abort t ms ∷ rs) (inr m) = commit_in a rs m
commit_in a (End t ∷ rs) (inl never) = absurd never
commit_in a (End t ∷ rs) (inr m) = commit_in a rs m
commit_in a (Checkpoint sum ∷ rs) (inl never) = absurd never
commit_in a (Checkpoint sum ∷ rs) (inr m) = commit_in a rs m

in_commit : (a : Ticketed) (rs : List CoordRecord) → In a (commits rs) → Among (IsThat a) rs
in_commit a [] m = m
in_commit a (Commit t ks ∷ rs) (inl e) = inl (ap (λ (b : Ticketed). b.tid) e, ap (λ (b : Ticketed). b.tickets) e)
in_commit a (Commit t ks ∷ rs) (inr m) = inr (in_commit a rs m)
in_commit a (Initiation t ms ∷ rs) m = inr (in_commit a rs m)
in_commit a (Abort t ms ∷ rs) m = inr (in_commit a rs m)
in_commit a (End t ∷ rs) m = inr (in_commit a rs m)
in_commit a (Checkpoint sum ∷ rs) m = inr (in_commit a rs m)

that_read : (protocols : List Participant) (a : Ticketed) (rs : List CoordRecord) → Among (IsThat a) (coord_sum_read (coord_sum protocols rs)) → Among (IsThat a) rs
that_read protocols a rs m = elim (among_read (IsThat a) (coord_sum protocols rs) m) [
  | inl i ↦ absurd (no_end (those (λ attempt. not (is_open_in (coord_sum protocols rs) attempt.tid)) (committed_with [] rs)) i)
  | inr i ↦ elim i [
    | inl j ↦ committed_from (λ c. (c.tid ≡ a.tid) × (c.tickets ≡ a.tickets)) rs j
    | inr j ↦ absurd (no_open (open_with protocols [] rs) j)
  ]
]
  where
    no_end : (xs : List CommittedAttempt) → Among (λ (c : CommittedAttempt). IsThat a (end_read c)) xs → ⊥
    no_end [] j = j
    no_end (x ∷ xs) (inl never) = never
    no_end (x ∷ xs) (inr j) = no_end xs j

    no_open : (xs : List OpenAttempt) → Among (λ (o : OpenAttempt). IsThat a (initiation_read o)) xs → ⊥
    no_open [] j = j
    no_open (x ∷ xs) (inl never) = never
    no_open (x ∷ xs) (inr j) = no_open xs j

pub fewer_cycles : (xs ys : List Ticketed) → ((a : Ticketed) → In a xs → In a ys) → HasNoCycle ys → HasNoCycle xs
fewer_cycles xs ys sub free t es c =
    free t es (record {
      some = c.some;
      edges = each_map (IsEdge xs) (IsEdge ys)
          (λ e i. record { from = i.from; to = i.to; has_from = sub i.from i.has_from; has_to = sub i.to i.has_to; leaves = i.leaves; enters = i.enters; precedes = i.precedes })
          es c.edges;
      round = c.round;
    })

-- ---- all of it, of what a journal is read as

pub read_order : (protocols : List Participant) (rs ks : List CoordRecord) → IsRead protocols rs ks → CommitOnce rs → ((g : Tid) → IsTidy protocols g rs)
    → ((g : Tid) → IsOrderly protocols g rs) → StandInOrder ks
read_order protocols rs ks (Whole e) once tidy o = subst StandInOrder (sym e) (stand_all protocols rs o)
read_order protocols rs ks (BehindSum newer before e f) once tidy o =
    subst StandInOrder (sym f)
    (stand_short protocols before newer (once_front newer (Checkpoint (coord_sum protocols before) ∷ before) (subst CommitOnce e once))
    (λ g. subst (IsTidy protocols g) e (tidy g)) (λ g. subst (IsOrderly protocols g) e (o g)))

pub read_once : (protocols : List Participant) (rs ks : List CoordRecord) → IsRead protocols rs ks → CommitOnce rs → CommitOnce ks
read_once protocols rs ks (Whole e) once = subst CommitOnce (sym e) once
read_once protocols rs ks (BehindSum newer before e f) once = subst CommitOnce (sym f) (once_short protocols newer before (subst CommitOnce e once))

pub read_acyclic : (protocols : List Participant) (rs ks : List CoordRecord) → IsRead protocols rs ks → HasNoCycle (commits rs) → HasNoCycle (commits ks)
read_acyclic protocols rs ks (Whole e) free = subst (λ xs. HasNoCycle (commits xs)) (sym e) free
read_acyclic protocols rs ks (BehindSum newer before e f) free =
    subst (λ xs. HasNoCycle (commits xs)) (sym f)
    (fewer_cycles _ (commits (newer ++ Checkpoint (coord_sum protocols before) ∷ before))
    (λ a i. commit_in a (newer ++ Checkpoint (coord_sum protocols before) ∷ before)
    (over protocols (IsThat a) newer before (λ c. c) (that_read protocols a before)
    (in_commit a (newer ++ Checkpoint (coord_sum protocols before) ∷ coord_sum_read (coord_sum protocols before)) i)))
    (subst (λ xs. HasNoCycle (commits xs)) e free))

pub is_whole : (protocols : List Participant) (rs js : List CoordRecord) → AreCoordSums protocols rs → js ≡ rs → IsRead protocols rs (coord_read js)
is_whole protocols rs js s e = Whole (ap coord_read e ∙ read_all protocols rs s)

pub is_behind : (protocols : List Participant) (rs js newer before : List CoordRecord) (sum : CoordSum) → sum ≡ coord_sum protocols before
    → rs ≡ newer ++ Checkpoint sum ∷ before → js ≡ newer ++ Checkpoint sum ∷ [] → IsRead protocols rs (coord_read js)
is_behind protocols rs js newer before sum is e f =
    BehindSum newer before (e ∙ ap (λ z. newer ++ Checkpoint z ∷ before) is)
    (ap coord_read f ∙ read_trimmed newer sum ∙ ap (λ z. newer ++ Checkpoint z ∷ coord_sum_read z) is)
