-- Lists that are compared item by item, and maps that give the same.
use Rattle.std.proofs.Common.{◌≡◌, ℕ, ◌+◌, ◌<◌, Bool, true, false, cond, Option, Some, None, List, [], ◌∷◌, ◌++◌, length, take, drop, get_or, reverse, ◌↔◌, map, refl, sym, ap, ap₂, subst, ◌∙◌, arith}
use Rattle.std.specs.Bool.{Decides}
use Rattle.std.specs.declared.cmp.Ordering.TheVariants.{Less}
use Rattle.std.specs.List.{AllByRecursion}
use Rattle.std.specs.List.Sorted.{IsStrictlySortedBy}
use Rattle.std.specs.Map.{lookup, keys_of}
use Rattle.std.specs.BTreeMap.{IsOrdered, is_at}
use Rattle.std.proofs.lemmas.List.{append_assoc, append-nil, reverse-append}
use Rattle.std.specs.Ordering.{is_eq}
use Rattle.std.proofs.lemmas.Bool.Decides.{nat_tests}
use Rattle.mdb_base.specs.declared.names.SiteTicket.{SiteTicket}
use Rattle.mdb_base.specs.declared.names.Tid.{Tid}
use Rattle.mdb_base.specs.Names.{tid_before, tid_cmp}
use Rattle.mdb_base.specs.Words.{Each}
use Rattle.mdb_base.proofs.ForCallers.{less_before, same_tid-refl, some_parts}
use Rattle.order_laws.proofs.ForCallers.{is_eq-tid_cmp, ranks_tids}
use Rattle.presumptions.specs.declared.Participant.{Participant}
use Rattle.fed_rules.specs.declared.sums.CommittedAttempt.{CommittedAttempt}
use Rattle.fed_rules.specs.declared.sums.OpenAttempt.{OpenAttempt}
use Rattle.fed_rules.specs.declared.records.CoordRecord.{CoordRecord}
use Rattle.fed_rules.specs.declared.records.CoordRecord.TheVariants.{Initiation, Commit, Abort, End, Checkpoint}
use Rattle.fed_rules.specs.declared.sums.CoordSum.{CoordSum}
use Rattle.fed_rules.specs.CoordSums.{committed_with, coord_sum, open_with}
use Rattle.fed_rules.specs.Usable.{CoordSumsFit, RiseBy, coord_read}
use Rattle.usable_journals.specs.CoordTests.{in_order, same_member, same_ticket}
use Rattle.usable_journals.specs.declared.coord_sums.Reading.{Reading}
use Rattle.usable_journals.specs.Reads.{Fits, Reads, Says, committed_pair, open_in, open_pair, tickets_in}
use Rattle.usable_journals.proofs.Committing.{stays_true}
use Rattle.usable_journals.proofs.Readings.{committed_rise, open_rise}
use Rattle.usable_journals.proofs.Recording.{read_behind, reverse_more, reverse_rest}
use Rattle.usable_journals.proofs.Reflected.{member_back, member_there}

pub member_decides : (a b : Participant) → Decides (same_member a b) (a ≡ b)
member_decides a b = (member_there b a, member_back b a)

ticket_there : (a b : SiteTicket) → same_ticket a b ≡ true → a ≡ b
ticket_there a b e = grind arith

ticket_back : (a b : SiteTicket) → a ≡ b → same_ticket a b ≡ true
ticket_back a b e = subst (λ t. same_ticket a t ≡ true) e (self a)
  where
    self : (t : SiteTicket) → same_ticket t t ≡ true
    self t = grind arith

pub ticket_decides : (a b : SiteTicket) → Decides (same_ticket a b) (a ≡ b)
ticket_decides a b = (ticket_there a b, ticket_back a b)

-- ---- two lists of entries by rising attempt that give the same are one

abbrev look : {V : Type 0} → List (Tid × V) → Tid → Option V
look entries tid = lookup (is_at (tid_cmp tid)) entries

before_differs : (a b : Tid) → tid_before a b ≡ true → is_eq (tid_cmp a b) ≡ false
before_differs a b e = grind (arith, nat_tests)

own : (a : Tid) → is_eq (tid_cmp a a) ≡ true
own a = is_eq-tid_cmp a a ∙ same_tid-refl a

-- what is before all keys isn't found
not_found : {V : Type 0} (es : List (Tid × V)) (tid : Tid) → Each (λ e. tid_before tid e.0 ≡ true) es → look es tid ≡ None
not_found [] tid above = refl
not_found (e ∷ es) tid above = ap (λ b. cond b (Some e.1) (look es tid)) (before_differs tid e.0 above.0) ∙ not_found es tid above.1

onward : {V : Type 0} (a b : Tid) (es : List (Tid × V)) → tid_before a b ≡ true → Each (λ e. tid_before b e.0 ≡ true) es → Each (λ e. tid_before a e.0 ≡ true) es
onward a b [] less above = tt
onward a b (e ∷ es) less above = (ranks_tids.onward a b e.0 less above.0, onward a b es less above.1)

first_found : {V : Type 0} (e : Tid × V) (es : List (Tid × V)) → look (e ∷ es) e.0 ≡ Some e.1
first_found e es = ap (λ b. cond b (Some e.1) (look es e.0)) (own e.0)

by_first : {V : Type 0} (b : Bool) (x y : Option V) → b ≡ false → cond b x y ≡ y
by_first true x y e = absurd cc
by_first false x y e = refl

pub same_entries : {V : Type 0} (xs ys : List (Tid × V)) → RiseBy (λ e. e.0) xs → RiseBy (λ e. e.0) ys → ((tid : Tid) → look xs tid ≡ look ys tid) → xs ≡ ys
same_entries [] [] up above same = refl
same_entries [] (y ∷ ys) up above same = (let clash = same y.0 ∙ first_found y ys in absurd cc)
same_entries (x ∷ xs) [] up above same = (let clash = sym (same x.0) ∙ first_found x xs in absurd cc)
same_entries (x ∷ xs) (y ∷ ys) up above same = by_tests (tid_before x.0 y.0) refl (tid_before y.0 x.0) refl (same_entries xs ys up.1 above.1)
  where
    by_tests : (b : Bool) → tid_before x.0 y.0 ≡ b → (c : Bool) → tid_before y.0 x.0 ≡ c → (((tid : Tid) → look xs tid ≡ look ys tid) → xs ≡ ys) → x ∷ xs ≡ y ∷ ys
    by_tests true is c other rest =
        let none : look (y ∷ ys) x.0 ≡ None = not_found (y ∷ ys) x.0 (is, onward x.0 y.0 ys is above.0) in
        let clash = sym (first_found x xs) ∙ same x.0 ∙ none in absurd cc
    by_tests false is true other rest =
        let none : look (x ∷ xs) y.0 ≡ None = not_found (x ∷ xs) y.0 (other, onward y.0 x.0 xs other up.0) in
        let clash = sym (first_found y ys) ∙ sym (same y.0) ∙ none in absurd cc
    by_tests false is false other rest =
        let name : x.0 ≡ y.0 = ranks_tids.total x.0 y.0 is other in
        let value : Some x.1 ≡ Some y.1 = sym (first_found x xs) ∙ same x.0 ∙ ap (look (y ∷ ys)) name ∙ first_found y ys in
        ap₂ (λ e es. e ∷ es) (ap₂ (λ t v. (t, v)) name (some_parts value)) (rest (λ tid. tails tid name (is_eq (tid_cmp tid x.0)) refl))
      where
        tails : (tid : Tid) → x.0 ≡ y.0 → (b : Bool) → is_eq (tid_cmp tid x.0) ≡ b → look xs tid ≡ look ys tid
        tails tid name true e =
            let here : x.0 ≡ tid = alike tid x.0 e in
            not_found xs tid (subst (λ t. Each (λ f. tid_before t f.0 ≡ true) xs) here up.0) ∙ sym (not_found ys tid (subst (λ t. Each (λ f. tid_before t f.0 ≡ true) ys) (sym name ∙ here) above.0))
          where
            alike : (a b : Tid) → is_eq (tid_cmp a b) ≡ true → b ≡ a
            alike a b f = grind (arith, nat_tests)
        tails tid name false e =
            sym (by_first (is_eq (tid_cmp tid x.0)) (Some x.1) (look xs tid) e) ∙ same tid ∙ by_first (is_eq (tid_cmp tid y.0)) (Some y.1) (look ys tid) (ap (λ t. is_eq (tid_cmp tid t)) (sym name) ∙ e)

all_behind : {V : Type 0} (tid : Tid) (more : List (Tid × V)) → AllByRecursion (λ other. tid_cmp tid other ≡ Less) (keys_of more) → Each (λ f. tid_before tid f.0 ≡ true) more
all_behind tid [] less = tt
all_behind tid (f ∷ more) less = (less_before tid f.0 less.0, all_behind tid more less.1)

-- sorted keys rise
pub sorted_rise : {V : Type 0} (es : List (Tid × V)) → IsStrictlySortedBy tid_cmp (keys_of es) → RiseBy (λ e. e.0) es
unfolding IsStrictlySortedBy
sorted_rise [] sorted = tt
sorted_rise (e ∷ es) sorted = (all_behind e.0 es sorted.0, sorted_rise es sorted.1)

-- ---- the lists of a Checkpoint as entries

pub open_rises : (xs : List OpenAttempt) → RiseBy (λ (a : OpenAttempt). a.tid) xs → RiseBy (λ e. e.0) (map open_pair xs)
open_rises [] up = tt
open_rises (x ∷ xs) up = (behind xs up.0, open_rises xs up.1)
  where
    behind : (more : List OpenAttempt) → Each (λ (y : OpenAttempt). tid_before x.tid y.tid ≡ true) more → Each (λ e. tid_before x.tid e.0 ≡ true) (map open_pair more)
    behind [] above = tt
    behind (y ∷ more) above = (above.0, behind more above.1)

pub committed_rises : (xs : List CommittedAttempt) → RiseBy (λ (a : CommittedAttempt). a.tid) xs → RiseBy (λ e. e.0) (map committed_pair xs)
committed_rises [] up = tt
committed_rises (x ∷ xs) up = (behind xs up.0, committed_rises xs up.1)
  where
    behind : (more : List CommittedAttempt) → Each (λ (y : CommittedAttempt). tid_before x.tid y.tid ≡ true) more → Each (λ e. tid_before x.tid e.0 ≡ true) (map committed_pair more)
    behind [] above = tt
    behind (y ∷ more) above = (above.0, behind more above.1)

pub open_look : (xs : List OpenAttempt) (tid : Tid) → open_in xs tid ≡ look (map open_pair xs) tid
open_look [] tid = refl
open_look (x ∷ xs) tid = ap₂ (λ b o. cond b (Some x.participants) o) (sym (is_eq-tid_cmp tid x.tid)) (open_look xs tid)

pub tickets_look : (xs : List CommittedAttempt) (tid : Tid) → tickets_in xs tid ≡ look (map committed_pair xs) tid
tickets_look [] tid = refl
tickets_look (x ∷ xs) tid = ap₂ (λ b o. cond b (Some x.tickets) o) (sym (is_eq-tid_cmp tid x.tid)) (tickets_look xs tid)

-- a list is told by its entries
pub open_of_pairs : (xs ys : List OpenAttempt) → map open_pair xs ≡ map open_pair ys → xs ≡ ys
open_of_pairs [] [] e = refl
open_of_pairs [] (y ∷ ys) e = absurd cc
open_of_pairs (x ∷ xs) [] e = absurd cc
open_of_pairs (x ∷ xs) (y ∷ ys) e = (let h : open_pair x ≡ open_pair y = cc in let t : map open_pair xs ≡ map open_pair ys = cc in ap₂ (λ (p : Tid × List Participant) (zs : List OpenAttempt). record { tid = p.0; participants = p.1 } ∷ zs) h (open_of_pairs xs ys t))

pub committed_of_pairs : (xs ys : List CommittedAttempt) → map committed_pair xs ≡ map committed_pair ys → xs ≡ ys
committed_of_pairs [] [] e = refl
committed_of_pairs [] (y ∷ ys) e = absurd cc
committed_of_pairs (x ∷ xs) [] e = absurd cc
committed_of_pairs (x ∷ xs) (y ∷ ys) e = (let h : committed_pair x ≡ committed_pair y = cc in let t : map committed_pair xs ≡ map committed_pair ys = cc in ap₂ (λ (p : Tid × List SiteTicket) (zs : List CommittedAttempt). record { tid = p.0; tickets = p.1 } ∷ zs) h (committed_of_pairs xs ys t))

-- ---- what was read and a Checkpoint

open_entries : (protocols : List Participant) (reading : Reading) (records : List CoordRecord) → Says protocols reading records → IsOrdered tid_cmp reading.attempts →
    reading.attempts.entries ≡ map open_pair (open_with protocols [] records)
open_entries protocols reading records says ordered =
    same_entries reading.attempts.entries (map open_pair (open_with protocols [] records)) (sorted_rise reading.attempts.entries ordered)
    (open_rises (open_with protocols [] records) (open_rise protocols records)) (λ tid. says.attempts tid ∙ open_look (open_with protocols [] records) tid)

committed_entries : (protocols : List Participant) (reading : Reading) (records : List CoordRecord) → Says protocols reading records → IsOrdered tid_cmp reading.committed → in_order records ≡ true →
    reading.committed.entries ≡ map committed_pair (committed_with [] records)
committed_entries protocols reading records says ordered stands =
    same_entries reading.committed.entries (map committed_pair (committed_with [] records)) (sorted_rise reading.committed.entries ordered)
    (committed_rises (committed_with [] records) (committed_rise records stands)) (λ tid. says.committed tid ∙ tickets_look (committed_with [] records) tid)

pub is_sum : (protocols : List Participant) (reading : Reading) (records : List CoordRecord) (sum : CoordSum) → Says protocols reading records → in_order records ≡ true →
    IsOrdered tid_cmp reading.attempts → IsOrdered tid_cmp reading.committed → map open_pair sum.open_attempts ≡ reading.attempts.entries →
    map committed_pair sum.committed ≡ reading.committed.entries → sum ≡ coord_sum protocols records
is_sum protocols reading records sum says stands ordered sorted opens commits =
    ap₂ (λ xs ys. record { open_attempts = xs; committed = ys })
    (open_of_pairs sum.open_attempts (open_with protocols [] records) (opens ∙ open_entries protocols reading records says ordered))
    (committed_of_pairs sum.committed (committed_with [] records) (commits ∙ committed_entries protocols reading records says sorted stands))

pub sum_opens : (protocols : List Participant) (reading : Reading) (records : List CoordRecord) (sum : CoordSum) → Says protocols reading records →
    IsOrdered tid_cmp reading.attempts → sum ≡ coord_sum protocols records → map open_pair sum.open_attempts ≡ reading.attempts.entries
sum_opens protocols reading records sum says ordered is =
    ap (λ (s : CoordSum). map open_pair s.open_attempts) is ∙ sym (open_entries protocols reading records says ordered)

pub sum_commits : (protocols : List Participant) (reading : Reading) (records : List CoordRecord) (sum : CoordSum) → Says protocols reading records → in_order records ≡ true →
    IsOrdered tid_cmp reading.committed → sum ≡ coord_sum protocols records → map committed_pair sum.committed ≡ reading.committed.entries
sum_commits protocols reading records sum says stands sorted is =
    ap (λ (s : CoordSum). map committed_pair s.committed) is ∙ sym (committed_entries protocols reading records says sorted stands)

-- ---- Checkpoints among records

-- a record behind others
pub fit_cons : (protocols : List Participant) (entry : CoordRecord) (newer : List CoordRecord) (first : CoordRecord) →
    Fits protocols entry (coord_read (newer ++ first ∷ [])) → CoordSumsFit protocols (newer ++ first ∷ []) → CoordSumsFit protocols (entry ∷ (newer ++ first ∷ []))
fit_cons protocols (Checkpoint sum) [] first here rest = (here, rest)
fit_cons protocols (Checkpoint sum) (x ∷ newer) first here rest = (here, rest)
fit_cons protocols (Initiation tid participants) [] first here rest = rest
fit_cons protocols (Initiation tid participants) (x ∷ newer) first here rest = rest
fit_cons protocols (Commit tid tickets) [] first here rest = rest
fit_cons protocols (Commit tid tickets) (x ∷ newer) first here rest = rest
fit_cons protocols (Abort tid participants) [] first here rest = rest
fit_cons protocols (Abort tid participants) (x ∷ newer) first here rest = rest
fit_cons protocols (End tid) [] first here rest = rest
fit_cons protocols (End tid) (x ∷ newer) first here rest = rest

pub fit_parts : (protocols : List Participant) (entry : CoordRecord) (newer : List CoordRecord) (first : CoordRecord) →
    CoordSumsFit protocols (entry ∷ (newer ++ first ∷ [])) → Fits protocols entry (coord_read (newer ++ first ∷ [])) × CoordSumsFit protocols (newer ++ first ∷ [])
fit_parts protocols (Checkpoint sum) [] first all = (all.0, all.1)
fit_parts protocols (Checkpoint sum) (x ∷ newer) first all = (all.0, all.1)
fit_parts protocols (Initiation tid participants) [] first all = (tt, all)
fit_parts protocols (Initiation tid participants) (x ∷ newer) first all = (tt, all)
fit_parts protocols (Commit tid tickets) [] first all = (tt, all)
fit_parts protocols (Commit tid tickets) (x ∷ newer) first all = (tt, all)
fit_parts protocols (Abort tid participants) [] first all = (tt, all)
fit_parts protocols (Abort tid participants) (x ∷ newer) first all = (tt, all)
fit_parts protocols (End tid) [] first all = (tt, all)
fit_parts protocols (End tid) (x ∷ newer) first all = (tt, all)

pub fit_front : (protocols : List Participant) (xs newer : List CoordRecord) (first : CoordRecord) → CoordSumsFit protocols (xs ++ (newer ++ first ∷ [])) → CoordSumsFit protocols (newer ++ first ∷ [])
fit_front protocols [] newer first all = all
fit_front protocols (x ∷ xs) newer first all =
    fit_front protocols xs newer first
    (subst (CoordSumsFit protocols) (append_assoc xs newer (first ∷ []))
    (fit_parts protocols x (xs ++ newer) first (subst (λ rs. CoordSumsFit protocols (x ∷ rs)) (sym (append_assoc xs newer (first ∷ []))) all)).1)

-- the next record of a list behind a first one
pub one_more : (entries : List CoordRecord) (n : ℕ) (d first : CoordRecord) → n < length entries → reverse (take (n + 1) entries) ++ first ∷ [] ≡ get_or entries n d ∷ (reverse (take n entries) ++ first ∷ [])
one_more entries n d first within = ap (λ rs. rs ++ first ∷ []) (reverse_more entries n d within)

pub rest_behind : (entries : List CoordRecord) (n : ℕ) (first : CoordRecord) → reverse entries ++ first ∷ [] ≡ reverse (drop n entries) ++ (reverse (take n entries) ++ first ∷ [])
rest_behind entries n first = ap (λ rs. rs ++ first ∷ []) (reverse_rest entries n) ∙ append_assoc (reverse (drop n entries)) (reverse (take n entries)) (first ∷ [])

-- the front of records in order, a first Checkpoint read as what it sums
pub front_stands : (xs newer : List CoordRecord) (first : CoordRecord) → in_order (coord_read (xs ++ (newer ++ first ∷ []))) ≡ true → in_order (coord_read (newer ++ first ∷ [])) ≡ true
front_stands xs newer first stands =
    ap in_order (read_behind newer first)
    ∙ stays_true xs (newer ++ coord_read (first ∷ []))
    (ap in_order (sym (append_assoc xs newer (coord_read (first ∷ []))) ∙ sym (read_behind (xs ++ newer) first) ∙ ap coord_read (append_assoc xs newer (first ∷ []))) ∙ stands)

pub read_cons : (entry : CoordRecord) (newer : List CoordRecord) (first : CoordRecord) → coord_read (entry ∷ (newer ++ first ∷ [])) ≡ entry ∷ coord_read (newer ++ first ∷ [])
read_cons entry newer first = read_behind (entry ∷ newer) first ∙ ap (λ rs. entry ∷ rs) (sym (read_behind newer first))

-- so far: it was read, and each Checkpoint fits
pub record IsSoFar (protocols : List Participant) (reading : Reading) (newer : List CoordRecord) (first : CoordRecord) : Type 0 where
  pub says : Says protocols reading (coord_read (newer ++ first ∷ []))
  pub fits : CoordSumsFit protocols (newer ++ first ∷ [])

pub goes_on : (protocols : List Participant) (b c : Reading) (entries : List CoordRecord) (n : ℕ) (d first : CoordRecord) → n < length entries →
    in_order (coord_read (reverse entries ++ first ∷ [])) ≡ true → IsSoFar protocols b (reverse (take n entries)) first →
    Fits protocols (get_or entries n d) (coord_read (reverse (take n entries) ++ first ∷ [])) → Reads protocols b c (get_or entries n d ∷ []) → IsSoFar protocols c (reverse (take (n + 1) entries)) first
goes_on protocols b c entries n d first within stands far here reads =
    let x = get_or entries n d in
    let before = reverse (take n entries) in
    let next = one_more entries n d first within in
    let all : in_order (coord_read (x ∷ (before ++ first ∷ []))) ≡ true =
    ap (λ rs. in_order (coord_read rs)) (sym next) ∙ front_stands (reverse (drop (n + 1) entries)) (reverse (take (n + 1) entries)) first (ap (λ rs. in_order (coord_read rs)) (sym (rest_behind entries (n + 1) first)) ∙ stands) in
    record {
      says = subst (λ rs. Says protocols c (coord_read rs)) (sym next) (subst (Says protocols c) (sym (read_cons x before first)) (reads (coord_read (before ++ first ∷ [])) far.says (ap in_order (sym (read_cons x before first)) ∙ all)));
      fits = subst (CoordSumsFit protocols) (sym next) (fit_cons protocols x before first here far.fits);
    }

pub here_stands : (entries : List CoordRecord) (n : ℕ) (first : CoordRecord) → in_order (coord_read (reverse entries ++ first ∷ [])) ≡ true → in_order (coord_read (reverse (take n entries) ++ first ∷ [])) ≡ true
here_stands entries n first stands = front_stands (reverse (drop n entries)) (reverse (take n entries)) first (ap (λ rs. in_order (coord_read rs)) (sym (rest_behind entries n first)) ∙ stands)

pub breaks : (protocols : List Participant) (entries : List CoordRecord) (n : ℕ) (d first : CoordRecord) → n < length entries → CoordSumsFit protocols (reverse entries ++ first ∷ []) →
    Fits protocols (get_or entries n d) (coord_read (reverse (take n entries) ++ first ∷ []))
breaks protocols entries n d first within all =
    (fit_parts protocols (get_or entries n d) (reverse (take n entries)) first
    (subst (CoordSumsFit protocols) (one_more entries n d first within)
    (fit_front protocols (reverse (drop (n + 1) entries)) (reverse (take (n + 1) entries)) first (subst (CoordSumsFit protocols) (rest_behind entries (n + 1) first) all)))).0

-- ---- a whole journal

pub empty_fits : (protocols : List Participant) (records : List CoordRecord) → length records ≡ 0 → (true ≡ true) ↔ CoordSumsFit protocols (reverse records)
empty_fits protocols [] none = (λ e. tt, λ f. refl)
empty_fits protocols (x ∷ records) none = absurd (omega (arith, none))

pub reverse_first : (first : CoordRecord) (newer : List CoordRecord) → reverse (first ∷ newer) ≡ reverse newer ++ first ∷ []
reverse_first first newer = reverse-append (first ∷ []) newer

pub first_stands : (newer : List CoordRecord) (first : CoordRecord) → in_order (coord_read (reverse newer ++ first ∷ [])) ≡ true → in_order (coord_read (first ∷ [])) ≡ true
first_stands newer first stands = front_stands (reverse newer) [] first stands

pub first_says : (protocols : List Participant) (a b : Reading) (first : CoordRecord) → Says protocols a [] → in_order (coord_read (first ∷ [])) ≡ true → Reads protocols a b (coord_read (first ∷ [])) →
    Says protocols b (coord_read (first ∷ []))
first_says protocols a b first says stands reads =
    subst (Says protocols b) (append-nil (coord_read (first ∷ []))) (reads [] says (ap in_order (append-nil (coord_read (first ∷ []))) ∙ stands))
