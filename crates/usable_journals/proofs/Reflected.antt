-- The tests of the coordinator's journal say what its rules say.
use Rattle.std.proofs.Common.{◌^◌, ◌≡◌, Bool, true, false, not, Option, Some, None, ◌&&◌, ◌||◌, List, [], ◌∷◌, reverse, refl, sym, ap, ap₂, subst, ◌∙◌, ◌⊎◌, inl, inr, lt-ltb, ltb-true}
use Rattle.std.proofs.lemmas.List.{reverse-reverse}
use Rattle.mdb_base.specs.declared.names.SiteTicket.{SiteTicket}
use Rattle.mdb_base.specs.declared.names.Tid.{Tid}
use Rattle.mdb_base.specs.declared.names.Tx.{Tx}
use Rattle.mdb_base.specs.Names.{same_site, same_tid, same_tx, tid_before}
use Rattle.mdb_base.specs.Words.{Among, Each, each_of, some_of}
use Rattle.mdb_base.proofs.ForCallers.{each_map, is_true_both, is_true_parts, same_site-equal, same_site-refl, same_tid-equal, same_tx-equal, same_tx-refl}
use Rattle.order_laws.specs.Chains.{In}
use Rattle.order_laws.proofs.ForCallers.{each_reverse, ranks_tids, same_of}
use Rattle.presumptions.specs.declared.Participant.{Participant}
use Rattle.presumptions.specs.declared.Protocol.{Protocol}
use Rattle.presumptions.specs.declared.Protocol.TheVariants as By
use Rattle.fed_rules.specs.declared.records.CoordRecord.{CoordRecord}
use Rattle.fed_rules.specs.declared.records.CoordRecord.TheVariants.{Initiation, Commit, Abort, End, Checkpoint}
use Rattle.fed_rules.specs.declared.sums.CommittedAttempt.{CommittedAttempt}
use Rattle.fed_rules.specs.declared.sums.CoordSum.{CoordSum}
use Rattle.fed_rules.specs.declared.sums.OpenAttempt.{OpenAttempt}
use Rattle.fed_rules.specs.CoordRecords.{class_of, ends_at_once, same_protocol}
use Rattle.fed_rules.specs.Usable.{AreSumsOfOpen, CommitOnce, IsAnyOf, IsCommitOf, IsCoordBelow, IsDecidedOf, IsDeclaredAt, IsEndOf, IsTicketBelow, NamesSites, RiseBy, StandInOrder}
use Rattle.usable_journals.specs.CoordTests as tests
use Rattle.usable_journals.specs.CoordTests.{in_order, is_any_of, is_commit_of, is_decided_of, is_end_of, may_stand}
use Rattle.usable_journals.specs.Rising.{is_behind, rises}
use Rattle.usable_journals.proofs.Words.{or_second}

-- ---- lists

-- the test says what the fact says
pub record Tells {A : Type 0} (test : A → Bool) (P : A → Type 0) : Type 0 where
  pub there : (x : A) → test x ≡ true → P x
  pub back : (x : A) → P x → test x ≡ true

each_there : {A : Type 0} (test : A → Bool) (P : A → Type 0) → Tells test P → (xs : List A) → each_of test xs ≡ true → Each P xs
each_there test P t [] e = tt
each_there test P t (x ∷ xs) e = let both = is_true_parts (test x) (each_of test xs) e in (t.there x both.0, each_there test P t xs both.1)

each_back : {A : Type 0} (test : A → Bool) (P : A → Type 0) → Tells test P → (xs : List A) → Each P xs → each_of test xs ≡ true
each_back test P t [] e = refl
each_back test P t (x ∷ xs) e = is_true_both (test x) (each_of test xs) (t.back x e.0) (each_back test P t xs e.1)

pub tells_each : {A : Type 0} (test : A → Bool) (P : A → Type 0) → Tells test P → Tells (each_of test) (Each P)
tells_each test P t = record { there = each_there test P t; back = each_back test P t }

some_there : {A : Type 0} (test : A → Bool) (P : A → Type 0) → Tells test P → (xs : List A) → some_of test xs ≡ true → Among P xs
some_there test P t [] e = absurd cc
some_there test P t (x ∷ xs) e = by_test (test x) refl (some_there test P t xs)
  where
    by_test : (b : Bool) → test x ≡ b → (some_of test xs ≡ true → Among P xs) → P x ⊎ Among P xs
    by_test true is rest = inl (t.there x is)
    by_test false is rest = inr (rest (ap (λ b. b || some_of test xs) (sym is) ∙ e))

some_back : {A : Type 0} (test : A → Bool) (P : A → Type 0) → Tells test P → (xs : List A) → Among P xs → some_of test xs ≡ true
some_back test P t [] i = absurd i
some_back test P t (x ∷ xs) (inl p) = ap (λ b. b || some_of test xs) (t.back x p)
some_back test P t (x ∷ xs) (inr i) = or_second (test x) (some_of test xs) (some_back test P t xs i)

pub tells_some : {A : Type 0} (test : A → Bool) (P : A → Type 0) → Tells test P → Tells (some_of test) (Among P)
tells_some test P t = record { there = some_there test P t; back = some_back test P t }

not_there : {A : Type 0} (test : A → Bool) (P : A → Type 0) → Tells test P → (x : A) → not (test x) ≡ true → P x → ⊥
not_there test P t x e p = by_test (test x) (t.back x p) e
  where
    by_test : (b : Bool) → b ≡ true → not b ≡ true → ⊥
    by_test true f g = cc
    by_test false f g = cc

not_back : {A : Type 0} (test : A → Bool) (P : A → Type 0) → Tells test P → (x : A) → (P x → ⊥) → not (test x) ≡ true
not_back test P t x none = by_test (test x) refl
  where
    by_test : (b : Bool) → test x ≡ b → not b ≡ true
    by_test true e = absurd (none (t.there x e))
    by_test false e = refl

pub tells_not : {A : Type 0} (test : A → Bool) (P : A → Type 0) → Tells test P → Tells (λ x. not (test x)) (λ x. P x → ⊥)
tells_not test P t = record { there = not_there test P t; back = not_back test P t }

-- a fact of each record, the newest first
pub record Says {A : Type 0} (test : A → Bool) (P : A → Type 0) (xs : List A) : Type 0 where
  pub there : each_of test xs ≡ true → Each P (reverse xs)
  pub back : Each P (reverse xs) → each_of test xs ≡ true

pub says_each : {A : Type 0} (test : A → Bool) (P : A → Type 0) → Tells test P → (xs : List A) → Says test P xs
says_each test P t xs = record { there = λ e. each_reverse P xs (each_there test P t xs e); back = λ e. each_back test P t xs (subst (Each P) (reverse-reverse xs) (each_reverse P (reverse xs) e)) }

-- ---- tickets below 2^62

low_tells : Tells tests.is_low IsTicketBelow
low_tells = record { there = λ ticket e. ltb-true ticket.ticket (2 ^ 62) e; back = λ ticket e. lt-ltb ticket.ticket (2 ^ 62) e }

low_there : (r : CoordRecord) → tests.is_below r ≡ true → IsCoordBelow r
low_there (Commit tid tickets) e = (tells_each tests.is_low IsTicketBelow low_tells).there tickets e
low_there (Checkpoint sum) e =
    each_there (λ (attempt : CommittedAttempt). tests.are_low attempt.tickets) (λ (attempt : CommittedAttempt). Each IsTicketBelow attempt.tickets)
    (record { there = λ a f. (tells_each tests.is_low IsTicketBelow low_tells).there a.tickets f; back = λ a f. (tells_each tests.is_low IsTicketBelow low_tells).back a.tickets f }) sum.committed e
low_there (Initiation tid participants) e = tt
low_there (Abort tid participants) e = tt
low_there (End tid) e = tt

low_back : (r : CoordRecord) → IsCoordBelow r → tests.is_below r ≡ true
low_back (Commit tid tickets) e = (tells_each tests.is_low IsTicketBelow low_tells).back tickets e
low_back (Checkpoint sum) e =
    each_back (λ (attempt : CommittedAttempt). tests.are_low attempt.tickets) (λ (attempt : CommittedAttempt). Each IsTicketBelow attempt.tickets)
    (record { there = λ a f. (tells_each tests.is_low IsTicketBelow low_tells).there a.tickets f; back = λ a f. (tells_each tests.is_low IsTicketBelow low_tells).back a.tickets f }) sum.committed e
low_back (Initiation tid participants) e = refl
low_back (Abort tid participants) e = refl
low_back (End tid) e = refl

pub below_says : (records : List CoordRecord) → Says tests.is_below IsCoordBelow records
below_says records = says_each tests.is_below IsCoordBelow (record { there = low_there; back = low_back }) records

-- ---- declared sites

same_protocol_alike : (a b : Protocol) → same_protocol a b ≡ true → a ≡ b
same_protocol_alike By.Nothing By.Nothing e = refl
same_protocol_alike By.Abort By.Abort e = refl
same_protocol_alike By.Commit By.Commit e = refl
same_protocol_alike By.Nothing By.Abort e = absurd cc
same_protocol_alike By.Nothing By.Commit e = absurd cc
same_protocol_alike By.Abort By.Nothing e = absurd cc
same_protocol_alike By.Abort By.Commit e = absurd cc
same_protocol_alike By.Commit By.Nothing e = absurd cc
same_protocol_alike By.Commit By.Abort e = absurd cc

same_protocol_self : (a : Protocol) → same_protocol a a ≡ true
same_protocol_self By.Nothing = refl
same_protocol_self By.Abort = refl
same_protocol_self By.Commit = refl

pub member_there : (member declared : Participant) → tests.same_member declared member ≡ true → declared ≡ member
member_there member declared e =
    let both = is_true_parts (same_site declared.site member.site) (same_protocol declared.protocol member.protocol) e in
    let one = same_site-equal declared.site member.site both.0 in
    let two = same_protocol_alike declared.protocol member.protocol both.1 in
    ap₂ (λ s p. record { site = s; protocol = p }) one two

pub member_back : (member declared : Participant) → declared ≡ member → tests.same_member declared member ≡ true
member_back member declared e =
    subst (λ m. tests.same_member declared m ≡ true) e
    (is_true_both (same_site declared.site declared.site) (same_protocol declared.protocol declared.protocol) (same_site-refl declared.site) (same_protocol_self declared.protocol))

member_tells : (protocols : List Participant) → Tells (tests.is_declared protocols) (λ member. In member protocols)
member_tells protocols = record {
  there = λ member e. some_there (λ declared. tests.same_member declared member) (λ declared. declared ≡ member) (record { there = member_there member; back = member_back member }) protocols e;
  back = λ member i. some_back (λ declared. tests.same_member declared member) (λ declared. declared ≡ member) (record { there = member_there member; back = member_back member }) protocols i;
}

site_tells : (ticket : SiteTicket) → Tells (λ (declared : Participant). same_site declared.site ticket.site) (λ (declared : Participant). declared.site ≡ ticket.site)
site_tells ticket = record {
  there = λ declared e. same_site-equal declared.site ticket.site e;
  back = λ declared e. subst (λ s. same_site declared.site s ≡ true) e (same_site-refl declared.site);
}

ticket_tells : (protocols : List Participant) → Tells (tests.is_at_declared protocols) (IsDeclaredAt protocols)
ticket_tells protocols = record {
  there = λ ticket e. some_there (λ (declared : Participant). same_site declared.site ticket.site) (λ (declared : Participant). declared.site ≡ ticket.site) (site_tells ticket) protocols e;
  back = λ ticket i. some_back (λ (declared : Participant). same_site declared.site ticket.site) (λ (declared : Participant). declared.site ≡ ticket.site) (site_tells ticket) protocols i;
}

open_tells : (protocols : List Participant) → Tells (λ (attempt : OpenAttempt). tests.are_declared protocols attempt.participants) (λ (attempt : OpenAttempt). Each (λ member. In member protocols) attempt.participants)
open_tells protocols = record {
  there = λ a e. each_there (tests.is_declared protocols) (λ member. In member protocols) (member_tells protocols) a.participants e;
  back = λ a e. each_back (tests.is_declared protocols) (λ member. In member protocols) (member_tells protocols) a.participants e;
}

committed_tells : (protocols : List Participant) → Tells (λ (attempt : CommittedAttempt). tests.are_at_declared protocols attempt.tickets) (λ (attempt : CommittedAttempt). Each (IsDeclaredAt protocols) attempt.tickets)
committed_tells protocols = record {
  there = λ a e. each_there (tests.is_at_declared protocols) (IsDeclaredAt protocols) (ticket_tells protocols) a.tickets e;
  back = λ a e. each_back (tests.is_at_declared protocols) (IsDeclaredAt protocols) (ticket_tells protocols) a.tickets e;
}

names_there : (protocols : List Participant) (r : CoordRecord) → tests.names_declared protocols r ≡ true → NamesSites protocols r
names_there protocols (Initiation tid participants) e = each_there (tests.is_declared protocols) (λ member. In member protocols) (member_tells protocols) participants e
names_there protocols (Commit tid tickets) e = each_there (tests.is_at_declared protocols) (IsDeclaredAt protocols) (ticket_tells protocols) tickets e
names_there protocols (Abort tid participants) e = each_there (tests.is_declared protocols) (λ member. In member protocols) (member_tells protocols) participants e
names_there protocols (End tid) e = tt
names_there protocols (Checkpoint sum) e =
    let both = is_true_parts (each_of (λ (attempt : OpenAttempt). tests.are_declared protocols attempt.participants) sum.open_attempts) (each_of (λ (attempt : CommittedAttempt). tests.are_at_declared protocols attempt.tickets) sum.committed) e in
    ((tells_each _ _ (open_tells protocols)).there sum.open_attempts both.0, (tells_each _ _ (committed_tells protocols)).there sum.committed both.1)

names_back : (protocols : List Participant) (r : CoordRecord) → NamesSites protocols r → tests.names_declared protocols r ≡ true
names_back protocols (Initiation tid participants) e = each_back (tests.is_declared protocols) (λ member. In member protocols) (member_tells protocols) participants e
names_back protocols (Commit tid tickets) e = each_back (tests.is_at_declared protocols) (IsDeclaredAt protocols) (ticket_tells protocols) tickets e
names_back protocols (Abort tid participants) e = each_back (tests.is_declared protocols) (λ member. In member protocols) (member_tells protocols) participants e
names_back protocols (End tid) e = refl
names_back protocols (Checkpoint sum) e =
    is_true_both (each_of (λ (attempt : OpenAttempt). tests.are_declared protocols attempt.participants) sum.open_attempts) (each_of (λ (attempt : CommittedAttempt). tests.are_at_declared protocols attempt.tickets) sum.committed)
    ((tells_each _ _ (open_tells protocols)).back sum.open_attempts e.0) ((tells_each _ _ (committed_tells protocols)).back sum.committed e.1)

pub names_says : (protocols : List Participant) (records : List CoordRecord) → Says (tests.names_declared protocols) (NamesSites protocols) records
names_says protocols records = says_each (tests.names_declared protocols) (NamesSites protocols) (record { there = names_there protocols; back = names_back protocols }) records

-- ---- lists that rise

behind_on : (last : Option Tid) (t u : Tid) → is_behind last t ≡ true → tid_before t u ≡ true → is_behind last u ≡ true
behind_on None t u e f = refl
behind_on (Some l) t u e f = ranks_tids.onward l t u e f

rises_there : {A : Type 0} (f : A → Tid) (last : Option Tid) (xs : List A) → rises f last xs ≡ true → Each (λ y. is_behind last (f y) ≡ true) xs × RiseBy f xs
rises_there f last [] e = (tt, tt)
rises_there f last (x ∷ xs) e =
    let both = is_true_parts (is_behind last (f x)) (rises f (Some (f x)) xs) e in
    let rest = rises_there f (Some (f x)) xs both.1 in
    ((both.0, each_map (λ y. tid_before (f x) (f y) ≡ true) (λ y. is_behind last (f y) ≡ true) (λ y h. behind_on last (f x) (f y) both.0 h) xs rest.0), (rest.0, rest.1))

rises_back : {A : Type 0} (f : A → Tid) (last : Option Tid) (xs : List A) → Each (λ y. is_behind last (f y) ≡ true) xs → RiseBy f xs → rises f last xs ≡ true
rises_back f last [] b r = refl
rises_back f last (x ∷ xs) b r = is_true_both (is_behind last (f x)) (rises f (Some (f x)) xs) b.0 (rises_back f (Some (f x)) xs r.0 r.1)

all_behind : {A : Type 0} (f : A → Tid) (xs : List A) → Each (λ y. is_behind None (f y) ≡ true) xs
all_behind f [] = tt
all_behind f (x ∷ xs) = (refl, all_behind f xs)

pub rise_tells : {A : Type 0} (f : A → Tid) → Tells (rises f None) (RiseBy f)
rise_tells f = record { there = λ xs e. (rises_there f None xs e).1; back = λ xs r. rises_back f None xs (all_behind f xs) r }

-- ---- a coordinator's Checkpoint

-- the attempts of a Checkpoint stand by rising attempt
abbrev pub AreRising : CoordRecord → Type 0
AreRising (Checkpoint sum) = RiseBy (λ (attempt : OpenAttempt). attempt.tid) sum.open_attempts × RiseBy (λ (attempt : CommittedAttempt). attempt.tid) sum.committed
AreRising other = Unit {0}

rising_there : (r : CoordRecord) → tests.is_rising r ≡ true → AreRising r
rising_there (Checkpoint sum) e =
    let both = is_true_parts (rises (λ (attempt : OpenAttempt). attempt.tid) None sum.open_attempts) (rises (λ (attempt : CommittedAttempt). attempt.tid) None sum.committed) e in
    ((rise_tells _).there sum.open_attempts both.0, (rise_tells _).there sum.committed both.1)
rising_there (Initiation tid participants) e = tt
rising_there (Commit tid tickets) e = tt
rising_there (Abort tid participants) e = tt
rising_there (End tid) e = tt

rising_back : (r : CoordRecord) → AreRising r → tests.is_rising r ≡ true
rising_back (Checkpoint sum) h =
    is_true_both (rises (λ (attempt : OpenAttempt). attempt.tid) None sum.open_attempts) (rises (λ (attempt : CommittedAttempt). attempt.tid) None sum.committed)
    ((rise_tells _).back sum.open_attempts h.0) ((rise_tells _).back sum.committed h.1)
rising_back (Initiation tid participants) h = refl
rising_back (Commit tid tickets) h = refl
rising_back (Abort tid participants) h = refl
rising_back (End tid) h = refl

pub rising_says : (records : List CoordRecord) → Says tests.is_rising AreRising records
rising_says records = says_each tests.is_rising AreRising (record { there = rising_there; back = rising_back }) records

-- no attempt of a Checkpoint is open and committed of which a commit is forgotten at once
abbrev pub AreAwaited : CoordRecord → Type 0
AreAwaited (Checkpoint sum) =
    Each (λ (attempt : OpenAttempt). some_of (λ (done : CommittedAttempt). same_tid done.tid attempt.tid) sum.committed ≡ true
    → ends_at_once (class_of attempt.participants) ≡ false) sum.open_attempts
AreAwaited other = Unit {0}

-- both together are what a usable journal's Checkpoints keep
of_open : (r : CoordRecord) → AreRising r → AreAwaited r → AreSumsOfOpen r
of_open (Checkpoint sum) rise awaited = record { open_rise = rise.0; committed_rise = rise.1; awaited = awaited }
of_open (Initiation tid participants) rise awaited = tt
of_open (Commit tid tickets) rise awaited = tt
of_open (Abort tid participants) rise awaited = tt
of_open (End tid) rise awaited = tt

pub all_of_open : (rs : List CoordRecord) → Each AreRising rs → Each AreAwaited rs → Each AreSumsOfOpen rs
all_of_open [] rise awaited = tt
all_of_open (r ∷ rs) rise awaited = (of_open r rise.0 awaited.0, all_of_open rs rise.1 awaited.1)

open_rising : (r : CoordRecord) → AreSumsOfOpen r → AreRising r
open_rising (Checkpoint sum) h = (h.open_rise, h.committed_rise)
open_rising (Initiation tid participants) h = tt
open_rising (Commit tid tickets) h = tt
open_rising (Abort tid participants) h = tt
open_rising (End tid) h = tt

open_awaited : (r : CoordRecord) → AreSumsOfOpen r → AreAwaited r
open_awaited (Checkpoint sum) h = h.awaited
open_awaited (Initiation tid participants) h = tt
open_awaited (Commit tid tickets) h = tt
open_awaited (Abort tid participants) h = tt
open_awaited (End tid) h = tt

pub all_rising : (rs : List CoordRecord) → Each AreSumsOfOpen rs → Each AreRising rs
all_rising rs h = each_map AreSumsOfOpen AreRising open_rising rs h

pub all_awaited : (rs : List CoordRecord) → Each AreSumsOfOpen rs → Each AreAwaited rs
all_awaited rs h = each_map AreSumsOfOpen AreAwaited open_awaited rs h

-- ---- awaited acknowledgements

awaits_there : (a b : Bool) → not (a && b) ≡ true → a ≡ true → b ≡ false
awaits_there true true e f = absurd cc
awaits_there true false e f = refl
awaits_there false b e f = absurd cc

awaits_back : (a b : Bool) → (a ≡ true → b ≡ false) → not (a && b) ≡ true
awaits_back true true e = let f = e refl in absurd cc
awaits_back true false e = refl
awaits_back false b e = refl

attempt_tells : (sum : CoordSum) → Tells (tests.is_awaited_in sum) (λ (attempt : OpenAttempt). some_of (λ (done : CommittedAttempt). same_tid done.tid attempt.tid) sum.committed ≡ true → ends_at_once (class_of attempt.participants) ≡ false)
attempt_tells sum = record {
  there = λ a e. awaits_there (tests.is_committed_in sum a.tid) (ends_at_once (class_of a.participants)) e;
  back = λ a e. awaits_back (tests.is_committed_in sum a.tid) (ends_at_once (class_of a.participants)) e;
}

awaited_there : (r : CoordRecord) → tests.is_awaited r ≡ true → AreAwaited r
awaited_there (Checkpoint sum) e = (tells_each _ _ (attempt_tells sum)).there sum.open_attempts e
awaited_there (Initiation tid participants) e = tt
awaited_there (Commit tid tickets) e = tt
awaited_there (Abort tid participants) e = tt
awaited_there (End tid) e = tt

awaited_back : (r : CoordRecord) → AreAwaited r → tests.is_awaited r ≡ true
awaited_back (Checkpoint sum) e = (tells_each _ _ (attempt_tells sum)).back sum.open_attempts e
awaited_back (Initiation tid participants) e = refl
awaited_back (Commit tid tickets) e = refl
awaited_back (Abort tid participants) e = refl
awaited_back (End tid) e = refl

pub awaited_says : (records : List CoordRecord) → Says tests.is_awaited AreAwaited records
awaited_says records = says_each tests.is_awaited AreAwaited (record { there = awaited_there; back = awaited_back }) records

-- ---- records in order

any_tells : (tid : Tid) → Tells (is_any_of tid) (IsAnyOf tid)
any_tells tid = record { there = there; back = back }
  where
    there : (r : CoordRecord) → is_any_of tid r ≡ true → IsAnyOf tid r
    there (Initiation begun participants) e = same_tid-equal begun tid e
    there (Commit decided tickets) e = same_tid-equal decided tid e
    there (Abort decided participants) e = same_tid-equal decided tid e
    there (End ended) e = same_tid-equal ended tid e
    there (Checkpoint sum) e = absurd cc

    back : (r : CoordRecord) → IsAnyOf tid r → is_any_of tid r ≡ true
    back (Initiation begun participants) e = same_of begun tid e
    back (Commit decided tickets) e = same_of decided tid e
    back (Abort decided participants) e = same_of decided tid e
    back (End ended) e = same_of ended tid e
    back (Checkpoint sum) e = absurd e

decided_tells : (tid : Tid) → Tells (is_decided_of tid) (IsDecidedOf tid)
decided_tells tid = record { there = there; back = back }
  where
    there : (r : CoordRecord) → is_decided_of tid r ≡ true → IsDecidedOf tid r
    there (Initiation begun participants) e = absurd cc
    there (Commit decided tickets) e = same_tid-equal decided tid e
    there (Abort decided participants) e = same_tid-equal decided tid e
    there (End ended) e = same_tid-equal ended tid e
    there (Checkpoint sum) e = absurd cc

    back : (r : CoordRecord) → IsDecidedOf tid r → is_decided_of tid r ≡ true
    back (Initiation begun participants) e = absurd e
    back (Commit decided tickets) e = same_of decided tid e
    back (Abort decided participants) e = same_of decided tid e
    back (End ended) e = same_of ended tid e
    back (Checkpoint sum) e = absurd e

end_tells : (tid : Tid) → Tells (is_end_of tid) (IsEndOf tid)
end_tells tid = record { there = there; back = back }
  where
    there : (r : CoordRecord) → is_end_of tid r ≡ true → IsEndOf tid r
    there (Initiation begun participants) e = absurd cc
    there (Commit decided tickets) e = absurd cc
    there (Abort decided participants) e = absurd cc
    there (End ended) e = same_tid-equal ended tid e
    there (Checkpoint sum) e = absurd cc

    back : (r : CoordRecord) → IsEndOf tid r → is_end_of tid r ≡ true
    back (Initiation begun participants) e = absurd e
    back (Commit decided tickets) e = absurd e
    back (Abort decided participants) e = absurd e
    back (End ended) e = same_of ended tid e
    back (Checkpoint sum) e = absurd e

commit_tells : (tx : Tx) → Tells (is_commit_of tx) (IsCommitOf tx)
commit_tells tx = record { there = there; back = back }
  where
    there : (r : CoordRecord) → is_commit_of tx r ≡ true → IsCommitOf tx r
    there (Commit tid tickets) e = same_tx-equal tid.tx tx e
    there (Initiation tid participants) e = absurd cc
    there (Abort tid participants) e = absurd cc
    there (End tid) e = absurd cc
    there (Checkpoint sum) e = absurd cc

    back : (r : CoordRecord) → IsCommitOf tx r → is_commit_of tx r ≡ true
    back (Commit tid tickets) e = subst (λ t. same_tx tid.tx t ≡ true) e (same_tx-refl tid.tx)
    back (Initiation tid participants) e = absurd e
    back (Abort tid participants) e = absurd e
    back (End tid) e = absurd e
    back (Checkpoint sum) e = absurd e

none_of : {A : Type 0} (test : A → Bool) (P : A → Type 0) → Tells test P → Tells (λ xs. not (some_of test xs)) (λ xs. Among P xs → ⊥)
none_of test P t = tells_not (some_of test) (Among P) (tells_some test P t)

pub order_there : (rs : List CoordRecord) → in_order rs ≡ true → StandInOrder rs × CommitOnce rs
order_there [] e = (tt, tt)
order_there (Initiation tid participants ∷ rs) e =
    let both = is_true_parts (may_stand (Initiation tid participants) rs) (in_order rs) e in
    let rest = order_there rs both.1 in
    (((none_of _ _ (any_tells tid)).there rs both.0, rest.0), rest.1)
order_there (Commit tid tickets ∷ rs) e =
    let both = is_true_parts (may_stand (Commit tid tickets) rs) (in_order rs) e in
    let here = is_true_parts (not (some_of (is_decided_of tid) rs)) (not (some_of (is_commit_of tid.tx) rs)) both.0 in
    let rest = order_there rs both.1 in
    (((none_of _ _ (decided_tells tid)).there rs here.0, rest.0), ((none_of _ _ (commit_tells tid.tx)).there rs here.1, rest.1))
order_there (Abort tid participants ∷ rs) e =
    let both = is_true_parts (may_stand (Abort tid participants) rs) (in_order rs) e in
    let rest = order_there rs both.1 in
    (((none_of _ _ (decided_tells tid)).there rs both.0, rest.0), rest.1)
order_there (End tid ∷ rs) e =
    let both = is_true_parts (may_stand (End tid) rs) (in_order rs) e in
    let rest = order_there rs both.1 in
    (((none_of _ _ (end_tells tid)).there rs both.0, rest.0), rest.1)
order_there (Checkpoint sum ∷ rs) e = order_there rs e

pub order_back : (rs : List CoordRecord) → StandInOrder rs → CommitOnce rs → in_order rs ≡ true
order_back [] s o = refl
order_back (Initiation tid participants ∷ rs) s o = is_true_both (may_stand (Initiation tid participants) rs) (in_order rs) ((none_of _ _ (any_tells tid)).back rs s.0) (order_back rs s.1 o)
order_back (Commit tid tickets ∷ rs) s o =
    is_true_both (may_stand (Commit tid tickets) rs) (in_order rs)
    (is_true_both (not (some_of (is_decided_of tid) rs)) (not (some_of (is_commit_of tid.tx) rs)) ((none_of _ _ (decided_tells tid)).back rs s.0) ((none_of _ _ (commit_tells tid.tx)).back rs o.0))
    (order_back rs s.1 o.1)
order_back (Abort tid participants ∷ rs) s o = is_true_both (may_stand (Abort tid participants) rs) (in_order rs) ((none_of _ _ (decided_tells tid)).back rs s.0) (order_back rs s.1 o)
order_back (End tid ∷ rs) s o = is_true_both (may_stand (End tid) rs) (in_order rs) ((none_of _ _ (end_tells tid)).back rs s.0) (order_back rs s.1 o)
order_back (Checkpoint sum ∷ rs) s o = order_back rs s o
