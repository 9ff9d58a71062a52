-- What is found on disks of which none is named is usable.
use Rattle.std.proofs.Common.{◌≡◌, ◌≤◌, ◌<◌, ◌+◌, ℕ, zero, suc, Bool, true, false, cond, nat_lt, Some, None, Option, List, [], ◌∷◌, ◌++◌, length, map, reverse, refl, sym, ◌∙◌, ap, subst, arith}
use Rattle.std.proofs.lemmas.Bool.{ltb-true}
use Rattle.std.specs.List.{AllByRecursion}
use Rattle.mdb_base.specs.Words.{Each, inserted, map_some, with_some}
use Rattle.mdb_base.proofs.ForCallers.{reverse_more}
use Rattle.order_laws.proofs.ForCallers.{each_reverse}
use Rattle.presumptions.specs.declared.Participant.{Participant}
use Rattle.record_fields.specs.Sums.{an_open_attempt}
use Rattle.fed_rules.specs.declared.records.CoordRecord.{CoordRecord}
use Rattle.fed_rules.specs.declared.records.CoordRecord.TheVariants as Rec
use Rattle.fed_rules.specs.declared.records.SiteRecord.{SiteRecord}
use Rattle.fed_rules.specs.declared.sums.OpenAttempt.{OpenAttempt}
use Rattle.fed_rules.specs.Found.{Journal}
use Rattle.fed_rules.specs.Reopened.{first_of, home_by, oldest}
use Rattle.fed_rules.specs.Resumed.{homes, plan_of, site_line_by}
use Rattle.fed_rules.specs.Scenarios.{protocols, protocols_in}
use Rattle.fed_rules.specs.SiteRecords.{Home}
use Rattle.fed_rules.specs.Story.{home_found}
use Rattle.fed_rules.specs.Usable.{AreUnnamed, IsOfSite, IsUsableCoordinator, IsUsableSite, home_of_first}
use Rattle.coord_laws.specs.FoundCoordinators.{MembersRise, RiseBySite}
use Rattle.journal_disk.specs.Disk.{Image}
use Rattle.frame_journal.specs.Journal.{Kept, records}
use Rattle.coord_journal.specs.Spelling as Coordinators
use Rattle.site_journal.specs.Spelling as Sites
use Rattle.found_laws.specs.FoundSessions.{AreOfDisks, AreUsable}
use Rattle.found_laws.proofs.ForCallers.{rise_all}
use Rattle.usable_journals.specs.Disks.{AreAllUnnamed, AreUsableFrom, IsUsableDisk, listed, member_at, members_from, on_disk}
use Rattle.usable_journals.specs.SiteTests.{member_of}
use Rattle.found_disks.specs.declared.reading.Journals.{Journals}
use Rattle.found_disks.specs.Finding.{NamesOf, found_in, journal_on, sites_from, unless_empty}
use Rattle.found_disks.specs.Reading.{AreRead}

-- ---- the first record

-- of records the newest of which stands first the first one is the last
last_is : (x y : SiteRecord) (ys : List SiteRecord) → oldest y (ys ++ x ∷ []) ≡ x
last_is x y [] = refl
last_is x y (z ∷ zs) = last_is x z zs

first_behind : (x : SiteRecord) (ys : List SiteRecord) → first_of (ys ++ x ∷ []) ≡ Some x
first_behind x [] = refl
first_behind x (y ∷ ys) = ap (λ (r : SiteRecord). Some r) (last_is x y ys)

pub first_reversed : (x : SiteRecord) (xs : List SiteRecord) → first_of (reverse (x ∷ xs)) ≡ Some x
first_reversed x xs = ap first_of (reverse_more x xs) ∙ first_behind x (reverse xs)

-- ---- the sites

abbrev by_site : Participant → Participant → Bool
by_site a b = nat_lt a.site.0 b.site.0

abbrev IsAbove : ℕ → Participant → Type 0
IsAbove least member = least < member.site.0

-- a member that stands before all others is put first
put_first : (m : Participant) (ms : List Participant) → Each (IsAbove m.site.0) ms → inserted by_site m ms ≡ m ∷ ms
put_first m [] above = refl
put_first m (n ∷ ns) above = by_test (nat_lt n.site.0 m.site.0) refl
  where
    by_test : (b : Bool) → nat_lt n.site.0 m.site.0 ≡ b → cond b (n ∷ inserted by_site m ns) (m ∷ n ∷ ns) ≡ m ∷ n ∷ ns
    by_test true e = let less = ltb-true n.site.0 m.site.0 e in let more = above.0 in absurd (omega (arith, less, more))
    by_test false e = refl

-- those of disks from a number on stand above each lesser one
members_above : (least number : ℕ) → least < number → (sites : List (List SiteRecord)) → Each (IsAbove least) (members_from number sites)
members_above least number less [] = tt
members_above least number less ([] ∷ more) = members_above least (number + 1) (omega (arith, less)) more
members_above least number less ((first ∷ newer) ∷ more) = by_home (members_above least (number + 1) (omega (arith, less)) more) (map_some member_of (home_by first))
  where
    by_home : Each (IsAbove least) (members_from (number + 1) more) → (o : Option Participant)
        → Each (IsAbove least) (listed (map_some (on_disk number) o) ++ members_from (number + 1) more)
    by_home rest None = rest
    by_home rest (Some m) = (less, rest)

-- one journal in front of others
in_front : (number : ℕ) (rs : List SiteRecord) (journal : Journal SiteRecord) → journal.records ≡ reverse rs → IsUsableDisk number rs
    → (rest : List (Journal SiteRecord)) (ms : List Participant) → protocols_in (map site_line_by (homes rest)) ≡ ms → Each (IsAbove number) ms
    → protocols_in (map site_line_by (homes (unless_empty rs journal ++ rest))) ≡ listed (member_at number rs) ++ ms
in_front number [] journal is usable rest ms same above = same
in_front number (first ∷ newer) journal is usable rest ms same above = by_home (home_by first) of_site (home_found (first_of journal.records)) home_is
  where
    home_is : home_found (first_of journal.records) ≡ home_by first
    home_is = ap (λ (rs : List SiteRecord). home_found (first_of rs)) is ∙ ap home_found (first_reversed first newer)

    of_site : IsOfSite number (home_by first)
    of_site = subst (λ (o : Option SiteRecord). IsOfSite number (home_of_first o)) (first_reversed first newer) usable.first

    by_home : (o : Option Home) → IsOfSite number o → (got : Option Home) → got ≡ o
        → protocols_in (map site_line_by (with_some got (homes rest))) ≡ listed (map_some (on_disk number) (map_some member_of o)) ++ ms
    by_home None of got e = absurd of
    by_home (Some home) of got e =
        subst (λ (z : Option Home). protocols_in (map site_line_by (with_some z (homes rest))) ≡ on_disk number (member_of home) ∷ ms) (sym e)
        (ap (inserted by_site (member_of home)) same ∙ (put_first (member_of home) ms (subst (λ k. Each (IsAbove k) ms) (sym of) above)
        ∙ ap (λ k. record { site = record { 0 = k }; protocol = home.protocol } ∷ ms) of))

pub members_are : (number : ℕ) (images : List Image) (journals : List (Kept SiteRecord)) → AreUsableFrom number (map records journals)
    → protocols_in (map site_line_by (homes (sites_from number images journals))) ≡ members_from number (map records journals)
members_are number images [] usable = refl
members_are number images (kept ∷ more) usable =
    in_front number (records kept) (journal_on Sites.spelling images number kept) refl usable.0 (sites_from (number + 1) images more) (members_from (number + 1) (map records more))
    (members_are (number + 1) images more usable.1) (members_above number (number + 1) (omega arith) (map records more))

-- each journal is one of its disk
of_disks : (least number : ℕ) (images : List Image) (journals : List (Kept SiteRecord)) → least < number → number + length journals ≤ 9 → AreUsableFrom number (map records journals)
    → AreOfDisks least (sites_from number images journals)
of_disks least number images [] less few usable = tt
of_disks least number images (kept ∷ more) less few usable =
    by_records (of_disks least (number + 1) images more (omega (arith, less)) (omega (arith, few)) usable.1)
    (of_disks number (number + 1) images more (omega arith) (omega (arith, few)) usable.1) (records kept) (journal_on Sites.spelling images number kept) refl usable.0
  where
    by_records : AreOfDisks least (sites_from (number + 1) images more) → AreOfDisks number (sites_from (number + 1) images more)
        → (rs : List SiteRecord) (journal : Journal SiteRecord) → journal.records ≡ reverse rs → IsUsableDisk number rs
        → AreOfDisks least (unless_empty rs journal ++ sites_from (number + 1) images more)
    by_records over behind [] journal is u = over
    by_records over behind (first ∷ newer) journal is u =
        (number, less, omega (arith, few), subst (λ (rs : List SiteRecord). IsUsableSite number rs) (sym is) u, behind)

-- no transaction of the coordinator is local at one
are_unnamed : (number : ℕ) (images : List Image) (coordinator : List CoordRecord) (journals : List (Kept SiteRecord)) → AreAllUnnamed coordinator (map records journals)
    → Each (λ (site : Journal SiteRecord). AreUnnamed (reverse coordinator) site.records) (sites_from number images journals)
are_unnamed number images coordinator [] all = tt
are_unnamed number images coordinator (kept ∷ more) all =
    by_records (are_unnamed (number + 1) images coordinator more all.1) (records kept) (journal_on Sites.spelling images number kept) refl all.0
  where
    by_records : Each (λ (site : Journal SiteRecord). AreUnnamed (reverse coordinator) site.records) (sites_from (number + 1) images more)
        → (rs : List SiteRecord) (journal : Journal SiteRecord) → journal.records ≡ reverse rs → AreUnnamed (reverse coordinator) (reverse rs)
        → Each (λ (site : Journal SiteRecord). AreUnnamed (reverse coordinator) site.records) (unless_empty rs journal ++ sites_from (number + 1) images more)
    by_records others [] journal is un = others
    by_records others (first ∷ newer) journal is un = (subst (λ (rs : List SiteRecord). AreUnnamed (reverse coordinator) rs) (sym is) un, others)

-- ---- the coordinator

open_rise : (os : List OpenAttempt) → AllByRecursion an_open_attempt.Fits os → Each (λ (o : OpenAttempt). RiseBySite o.participants) os
open_rise [] f = tt
open_rise (o ∷ os) f = (rise_all o.participants f.0.1.1, open_rise os f.1)

-- the participants of each record of the format rise
members_rise : (rs : List CoordRecord) → AllByRecursion Coordinators.IsRecord rs → Each MembersRise rs
members_rise [] f = tt
members_rise (Rec.Initiation t ms ∷ rs) f = (rise_all ms f.0.1.1, members_rise rs f.1)
members_rise (Rec.Abort t ms ∷ rs) f = (rise_all ms f.0.1.1, members_rise rs f.1)
members_rise (Rec.Commit t ks ∷ rs) f = (tt, members_rise rs f.1)
members_rise (Rec.End t ∷ rs) f = (tt, members_rise rs f.1)
members_rise (Rec.Checkpoint sum ∷ rs) f = (open_rise sum.open_attempts f.0.0.2, members_rise rs f.1)

-- ---- all of them

pub usable_found : (images : List Image) (journals : Journals) → AreRead images journals → NamesOf journals None → AreUsable (found_in images journals)
usable_found images journals read named =
    record {
      coordinator = journal_on Coordinators.spelling images 0 journals.coordinator;
      is = refl;
      usable = subst (λ (ms : List Participant). IsUsableCoordinator ms (reverse (records journals.coordinator))) (sym (members_are 1 images journals.sites.items named.1)) named.0.journal;
      members = each_reverse MembersRise (records journals.coordinator) (members_rise (records journals.coordinator) read.coordinator.holds.are_records);
      sites = of_disks 0 1 images journals.sites.items (omega arith) (let all = read.all in omega (arith, all)) named.1;
      unnamed = are_unnamed 1 images (records journals.coordinator) journals.sites.items named.0.unnamed;
    }
