-- What the past of a site in a session that goes on from disks says of its attempts: each in doubt is of the format, and of no transaction that is local in the journal.
use Rattle.std.proofs.Common.{◌≡◌, ℕ, ◌<◌, Bool, true, false, is_some, Option, Some, None, List, [], ◌∷◌, ◌++◌, length, map, inl, inr, refl, sym, ap, ◌∙◌, subst, arith}
use Rattle.std.specs.List.{AllByRecursion}
use Rattle.std.proofs.lemmas.Bool.{cond-true, cond-false, false_from_ne_true, ne_eqb, or_left}
use Rattle.mdb_base.specs.declared.acts.Step.{Step}
use Rattle.mdb_base.specs.declared.names.Tid.{Tid}
use Rattle.mdb_base.specs.declared.names.Tx.{Tx}
use Rattle.mdb_base.specs.Names.{same_tx}
use Rattle.mdb_base.specs.Words.{Among, Each}
use Rattle.mdb_base.proofs.ForCallers.{append_each, same_site-refl, same_tx-refl}
use Rattle.order_laws.specs.Chains.{In}
use Rattle.order_laws.proofs.ForCallers.{each_at}
use Rattle.record_fields.specs.Sums.{MaybeFits, a_doubtful}
use Rattle.field_bytes.specs.Fields.{IsTid}
use Rattle.fed_rules.specs.declared.commands.Command.{Command}
use Rattle.fed_rules.specs.declared.events.SiteEvent.{SiteEvent}
use Rattle.fed_rules.specs.declared.records.SiteRecord.{SiteRecord}
use Rattle.fed_rules.specs.declared.records.SiteRecord.TheVariants as Rec
use Rattle.fed_rules.specs.declared.sums.SiteSum.{SiteSum}
use Rattle.fed_rules.specs.Found.{Found, Journal}
use Rattle.fed_rules.specs.Reopened.{first_of, local_read, opened_site, owner_read, site_reads_as}
use Rattle.fed_rules.specs.Resumed.{going_on, plan_of}
use Rattle.fed_rules.specs.Scenarios.{home_of}
use Rattle.fed_rules.specs.Site.{site_line, site_past_on}
use Rattle.fed_rules.specs.SitePast.{SitePast, disk, records}
use Rattle.fed_rules.specs.SiteRecords.{Held, Home, doubt_of, site_frame}
use Rattle.fed_rules.specs.SiteSums.{carried}
use Rattle.fed_rules.specs.Story.{home_found, past_of, story_in}
use Rattle.fed_rules.specs.Usable.{AreParted, HaveSums, IsGlobalOf, IsLocalOf, IsOfSite, IsUsableSite, SumsFit, counted, home_of_first}
use Rattle.fed_rules.specs.Durable.{IsFirm}
use Rattle.commit_laws.proofs.ForCallers.{IsSealing, held-prepared, new-prepared, site-lines}
use Rattle.commit_laws.specs.Records.{IsLooseEnded, IsPrepared}
use Rattle.fed_rules.proofs.ForCallers.{expanded}
use Rattle.site_history.proofs.ForCallers.{all_sums, foundation, no_local_doubt, opened_is, torn_short, well_on}
use Rattle.site_journal.specs.Spelling.{IsRecord}
use Rattle.found_laws.specs.FoundSessions.{AreOfDisks, AreUsable, IsOfFormat}
use Rattle.found_laws.specs.Resuming.{IsResuming}
use Rattle.found_laws.proofs.ForCallers.{IsResumedPast, all_sorted, resumes, same_home}
use Rattle.site_core.specs.Made.{IsOpened, was_local}
use Rattle.site_core.proofs.ForCallers.{lawful, named_apart, opened_firm}
use Rattle.presumptions.specs.declared.Decision.TheVariants as Decided
use Rattle.fed_rules.specs.Reopened.{all_named}
use Rattle.local_dbms.specs.Found.{found_programs}
use Rattle.local_dbms.proofs.ForCallers.{are_found}
use Rattle.fed_world.specs.Beginnings.{is_at, journal_at}

-- ---- which journal is found at a site

-- the journals of greater disks are of greater sites
above : (least : ℕ) (journals : List (Journal SiteRecord)) (journal : Journal SiteRecord) (home : Home) → AreOfDisks least journals → In journal journals
    → home_of_first (first_of journal.records) ≡ Some home → least < home.site.0
above least [] journal home d i is = absurd i
above least (j ∷ journals) journal home (number, less, most, usable, d) (inl e) is =
    let own : IsOfSite number (home_of_first (first_of journal.records)) = subst (λ (k : Journal SiteRecord). IsOfSite number (home_of_first (first_of k.records))) e usable.first in
    let at : home.site.0 ≡ number = subst (IsOfSite number) is own in
    omega (arith, at, less)
above least (j ∷ journals) journal home (number, less, most, usable, d) (inr i) is = let more = above number journals journal home d i is in omega (arith, more, less)

-- each is the one at its site
pub its_journal : (least : ℕ) (journals : List (Journal SiteRecord)) (journal : Journal SiteRecord) (home : Home) → AreOfDisks least journals → In journal journals
    → home_of_first (first_of journal.records) ≡ Some home → journal_at journals home.site ≡ Some journal
its_journal least [] journal home d i is = absurd i
its_journal least (j ∷ journals) journal home (number, less, most, usable, d) (inl e) is =
    let begins : home_found (first_of j.records) ≡ Some home = same_home (first_of j.records) ∙ ap (λ (k : Journal SiteRecord). home_of_first (first_of k.records)) e ∙ is in
    let test : is_at home.site (home_found (first_of j.records)) ≡ true = ap (is_at home.site) begins ∙ same_site-refl home.site in
    cond-true _ (Some j) (journal_at journals home.site) test ∙ ap (λ (k : Journal SiteRecord). Some k) e
its_journal least (j ∷ journals) journal home (number, less, most, usable, d) (inr i) is =
    let more = above number journals journal home d i is in
    cond-false _ (Some j) (journal_at journals home.site) (other (home_of_first (first_of j.records)) refl usable.first more) ∙ its_journal number journals journal home d i is
  where
    other : (o : Option Home) → home_of_first (first_of j.records) ≡ o → IsOfSite number o → number < home.site.0 → is_at home.site (home_found (first_of j.records)) ≡ false
    other None e own more = absurd own
    other (Some first) e own more =
        ap (is_at home.site) (same_home (first_of j.records) ∙ e) ∙ ne_eqb first.site.0 home.site.0 (λ same. omega (arith, own, more, same))

-- ---- records of the format

-- a Prepared record is of an attempt in its range
abbrev pub IsFine : SiteRecord → Type 0
IsFine (Rec.Prepared tid e n ticket writes) = IsTid tid
IsFine other = Unit {0}

fine_record : (r : SiteRecord) → IsRecord r → IsFine r
fine_record (Rec.Prepared tid e n ticket writes) f = f.0
fine_record (Rec.Setup site engine protocol items) f = tt
fine_record (Rec.Start e) f = tt
fine_record (Rec.Ended tid d) f = tt
fine_record (Rec.Local tid n writes) f = tt
fine_record (Rec.Checkpoint sum) f = tt

fine_carried : (held : List Held) → AllByRecursion a_doubtful.Fits held → Each IsFine (carried held)
fine_carried [] f = tt
fine_carried (h ∷ held) f = (f.0.0, fine_carried held f.1)

fine_locals : (n : ℕ) (tids : List Tid) → Each IsFine (map (local_read n) tids)
fine_locals n [] = tt
fine_locals n (t ∷ tids) = (tt, fine_locals n tids)

fine_owner : (sum : SiteSum) (o : Option Tid) → MaybeFits IsTid o → Each IsFine (owner_read o sum)
fine_owner sum None f = tt
fine_owner sum (Some owner) f = (tt, (f, tt))

fine_first : (r : SiteRecord) → IsRecord r → Each IsFine (site_reads_as r)
fine_first (Rec.Checkpoint sum) f =
    append_each IsFine ((carried sum.doubtful ++ map (local_read sum.counter) sum.locals) ++ owner_read sum.owner sum) (Rec.Start sum.epoch ∷ [])
    (append_each IsFine (carried sum.doubtful ++ map (local_read sum.counter) sum.locals) (owner_read sum.owner sum)
    (append_each IsFine (carried sum.doubtful) (map (local_read sum.counter) sum.locals) (fine_carried sum.doubtful f.1.1.1.1.1.1.1.1.1.2) (fine_locals sum.counter sum.locals))
    (fine_owner sum sum.owner f.1.1.1.1.1.1.0)) (tt, tt)
fine_first (Rec.Setup site engine protocol items) f = (tt, tt)
fine_first (Rec.Start e) f = (tt, tt)
fine_first (Rec.Prepared tid e n ticket writes) f = (tt, tt)
fine_first (Rec.Ended tid d) f = (tt, tt)
fine_first (Rec.Local tid n writes) f = (tt, tt)

fine_read : (newest : SiteRecord) (older : List SiteRecord) → AllByRecursion IsRecord (newest ∷ older) → Each IsFine (expanded site_reads_as newest older)
fine_read first [] f = (fine_record first f.0, fine_first first f.0)
fine_read newest (next ∷ older) f = (fine_record newest f.0, fine_read next older f.1)

-- so are all that the made-up past has
fine_opened : (home : Home) (journal : Journal SiteRecord) → AllByRecursion IsRecord journal.records → home_of_first (first_of journal.records) ≡ Some home
    → Each IsFine (records home (opened_site journal))
fine_opened home journal f is = by_records journal.records journal.torn f is
  where
    by_records : (rs : List SiteRecord) (torn : ℕ) → AllByRecursion IsRecord rs → home_of_first (first_of rs) ≡ Some home
        → Each IsFine (records home (opened_site (record { records = rs; torn = torn })))
    by_records [] torn f is = cc
    by_records (newest ∷ older) torn f is =
        subst (Each IsFine) (sym (opened_is home newest older torn (torn_short torn)))
        (append_each IsFine (expanded site_reads_as newest older) (foundation home) (fine_read newest older f) (tt, (tt, tt)))

prepared_fine : (rs : List SiteRecord) (tid : Tid) (e : ℕ) → Each IsFine rs → Among (IsPrepared tid e) rs → IsTid tid
prepared_fine [] tid e f m = absurd m
prepared_fine (r ∷ rs) tid e f (inr m) = prepared_fine rs tid e f.1 m
prepared_fine (r ∷ rs) tid e f (inl p) = by_record r f.0 p
  where
    by_record : (r : SiteRecord) → IsFine r → IsPrepared tid e r → IsTid tid
    by_record (Rec.Prepared t k n ticket writes) g p = subst IsTid p.0 g
    by_record (Rec.Setup site engine protocol items) g p = absurd p
    by_record (Rec.Start k) g p = absurd p
    by_record (Rec.Ended t d) g p = absurd p
    by_record (Rec.Local t n writes) g p = absurd p
    by_record (Rec.Checkpoint sum) g p = absurd p

-- ---- what a session without transactions adds

-- nothing is prepared
never_seals : (home : Home) (tid : Tid) (past : SitePast) (event : SiteEvent) (e : ℕ) → IsResuming event → IsSealing home tid past event e → ⊥
never_seals home tid past event e i s = subst IsResuming s.taken i

-- how far the disk of the site is firm, and which records were prepared
record IsGone (home : Home) (first past : SitePast) : Type 0 where
  firm : IsFirm site_frame (IsLooseEnded home.protocol) (disk home past)
  prepared : (tid : Tid) (e : ℕ) → Among (IsPrepared tid e) (records home past) → Among (IsPrepared tid e) (records home first)

gone_on : (home : Home) (first : SitePast) → IsFirm site_frame (IsLooseEnded home.protocol) (disk home first) → (events : List SiteEvent) → Each IsResuming events
    → IsGone home first (site_past_on home first events)
gone_on home first firm [] i = record { firm = firm; prepared = λ tid e m. m }
gone_on home first firm (event ∷ events) i =
    let past : SitePast = site_past_on home first events in
    let before = gone_on home first firm events i.1 in
    let any : Tid = record { tx = record { 0 = 0 }; attempt = 0 } in
    record {
      firm = (site-lines home any past event before.firm).firm;
      prepared = λ tid e m.
          elim (new-prepared home tid past event (records home (site_line home past event ∷ past)) e (site-lines home tid past event before.firm).kept m) [
            | inl old ↦ before.prepared tid e old
            | inr s ↦ absurd (never_seals home tid past event e i.0 s)
          ];
    }

-- an attempt that may be told to a site: in its range, and of no transaction that is local in the site's journal
pub record MayBeTold (journal : Journal SiteRecord) (tid : Tid) : Type 0 where
  pub in_range : IsTid tid
  pub foreign : found_programs journal.records tid.tx ≡ None

no_program : (o : Option (List Step)) → is_some o ≡ false → o ≡ None
no_program None e = refl
no_program (Some program) e = cc

-- the journal that is found at the site
pub record IsHere (found : Found) (home : Home) (journal : Journal SiteRecord) : Type 0 where
  pub among : In journal found.sites
  pub is : journal_at found.sites home.site ≡ Some journal
  pub number : ℕ
  pub usable : IsUsableSite number journal.records
  pub is_home : home_of_first (first_of journal.records) ≡ Some home

-- a transaction without a Local record that counts isn't local there
pub not_local_there : (found : Found) (home : Home) (journal : Journal SiteRecord) → IsHere found home journal → (tid : Tid) → (Among (IsLocalOf tid.tx) (counted journal.records) → ⊥)
    → found_programs journal.records tid.tx ≡ None
not_local_there found home journal here tid never = by_records journal.records journal.torn here.number here.usable here.is_home never
  where
    by_records : (rs : List SiteRecord) (torn : ℕ) (number : ℕ) → IsUsableSite number rs → home_of_first (first_of rs) ≡ Some home → (Among (IsLocalOf tid.tx) (counted rs) → ⊥)
        → found_programs rs tid.tx ≡ None
    by_records [] torn number usable is never = cc
    by_records (newest ∷ older) torn number usable is never =
        let rs : List SiteRecord = newest ∷ older in
        let fit : SumsFit home rs = subst (λ o. HaveSums o rs) is usable.sums in
        let sums = all_sums home newest older is usable.within usable.sums_of_some fit in
        let ended : SiteRecord = Rec.Ended tid Decided.Abort in
        let parted : AreParted (ended ∷ counted rs) (ended ∷ rs) = λ tx local global. apart usable.parted tx local global in
        let named : was_local tid.tx (all_named (ended ∷ rs)) ≡ false = named_apart home ended rs sums parted tid.tx (or_left (same_tx tid.tx tid.tx) _ (same_tx-refl tid.tx)) in
        no_program (found_programs rs tid.tx) (are_found (record { records = rs; torn = torn }) tid.tx ∙ named)
      where
        apart : AreParted (counted (newest ∷ older)) (newest ∷ older) → (tx : Tx) → Among (IsLocalOf tx) (Rec.Ended tid Decided.Abort ∷ counted (newest ∷ older))
            → Among (IsGlobalOf tx) (Rec.Ended tid Decided.Abort ∷ newest ∷ older) → ⊥
        apart parted tx (inl absent) global = absurd absent
        apart parted tx (inr local) (inr global) = parted tx local global
        apart parted tx (inr local) (inl same) = never (subst (λ (t : Tx). Among (IsLocalOf t) (counted (newest ∷ older))) (sym same) local)

module _ (found : Found) (u : AreUsable found) (format : Each IsOfFormat found.sites) (written : Each (λ (journal : Journal SiteRecord). AllByRecursion IsRecord journal.records) found.sites)
    (home : Home) (declared : home_of (plan_of found) home.site ≡ Some home) where
  here_on : (commands : List Command) → (r : IsResumedPast found.sites home (length commands) (past_of home.site (story_in (going_on found) commands))) → IsHere found home r.journal
  here_on commands r = record {
    among = r.among;
    is = its_journal 0 found.sites r.journal home u.sites r.among r.found.is_home;
    number = r.found.number;
    usable = r.found.usable;
    is_home = r.found.is_home;
  }

  pub found_here : (journal : Journal SiteRecord) × IsHere found home journal
  found_here = let r = resumes found u format [] home.site home declared in (r.journal, here_on [] r)

  -- the disk is firm at any time
  pub firm_on : (commands : List Command) → IsFirm site_frame (IsLooseEnded home.protocol) (disk home (past_of home.site (story_in (going_on found) commands)))
  firm_on commands =
      let r = resumes found u format commands home.site home declared in
      subst (λ (p : SitePast). IsFirm site_frame (IsLooseEnded home.protocol) (disk home p)) (sym r.is)
      (gone_on home (opened_site r.journal) (opened_firm (IsLooseEnded home.protocol) home r.journal) r.events r.resuming).firm

  -- an attempt in doubt at any time
  pub doubt_on : (commands : List Command) (tid : Tid) (held : Held) → doubt_of (records home (past_of home.site (story_in (going_on found) commands))) tid ≡ Some held
      → (journal : Journal SiteRecord) × IsHere found home journal × MayBeTold journal tid
  doubt_on commands tid held e =
      let r = resumes found u format commands home.site home declared in
      let doubt : doubt_of (records home (site_past_on home (opened_site r.journal) r.events)) tid ≡ Some held = ap (λ (p : SitePast). doubt_of (records home p) tid) (sym r.is) ∙ e in
      let opened : IsOpened home (opened_site r.journal) =
      record { journal = r.journal; is = refl; number = r.found.number; usable = r.found.usable; is_home = r.found.is_home; rising = r.found.rising } in
      let local : Tx → Bool = λ tx. was_local tx (opened_site r.journal) in
      let well = well_on home local (opened_site r.journal) (lawful home (opened_site r.journal) (inl opened)).well r.events (all_sorted local r.events r.resuming) in
      let gone = gone_on home (opened_site r.journal) (opened_firm (IsLooseEnded home.protocol) home r.journal) r.events r.resuming in (
        r.journal,
        here_on commands r,
        record {
          in_range = prepared_fine (records home (opened_site r.journal)) tid held.epoch
              (fine_opened home r.journal (each_at (λ (j : Journal SiteRecord). AllByRecursion IsRecord j.records) r.journal found.sites written r.among) r.found.is_home)
              (gone.prepared tid held.epoch (held-prepared (records home (site_past_on home (opened_site r.journal) r.events)) tid held doubt));
          foreign = no_program (found_programs r.journal.records tid.tx) (are_found r.journal tid.tx
              ∙ false_from_ne_true (local tid.tx) (λ yes. (let none = no_local_doubt local _ tid well.sorted yes in cc)));
        },
      )
