-- Whatever happens at a site that goes on from a usable journal without transactions, stops included: its journal stays one that is usable.
use Rattle.std.proofs.Common.{◌≡◌, ℕ, suc, ◌+◌, ◌≤◌, ◌<◌, ◌^◌, Bool, true, false, cond, length, Option, Some, None, List, [], ◌∷◌, ◌++◌, refl, sym, ap, subst, ◌∙◌, inl, arith}
use Rattle.std.specs.Prelude.{nat_le}
use Rattle.mdb_base.specs.declared.names.Tid.{Tid}
use Rattle.mdb_base.specs.declared.names.Tx.{Tx}
use Rattle.mdb_base.specs.Words.{Each, when, given}
use Rattle.presumptions.specs.declared.Decision.{Decision}
use Rattle.presumptions.specs.Table.{forces}
use Rattle.fed_rules.specs.declared.answers.Answer.TheVariants as Say
use Rattle.fed_rules.specs.declared.events.SiteEvent.{SiteEvent}
use Rattle.fed_rules.specs.declared.events.SiteEvent.TheVariants as Ev
use Rattle.fed_rules.specs.declared.messages.ToSite.TheVariants as To
use Rattle.fed_rules.specs.declared.records.SiteRecord.{SiteRecord}
use Rattle.fed_rules.specs.declared.records.SiteRecord.TheVariants as Rec
use Rattle.fed_rules.specs.Disk.{Append, Call, CutBack, Disk, Sync, after_call, after_calls, bytes_of, is_torn}
use Rattle.fed_rules.specs.Found.{Journal}
use Rattle.fed_rules.specs.Happenings.{Trip, is_down, quiet, stopped, tripped}
use Rattle.fed_rules.specs.Reopened.{opened_site}
use Rattle.fed_rules.specs.Site.{answered, checkpoint, of_ask, of_back, of_check, of_decide, of_drop, of_give, settles, site_line, site_past_on, unheld}
use Rattle.fed_rules.specs.SitePast.{SiteHappening, SitePast, disk, epoch, is_local, journal, live, records, trip}
use Rattle.fed_rules.specs.SiteRecords.{Held, Home, doubt_of, epoch_of, site_frame}
use Rattle.fed_rules.specs.SiteSums.{journal_sum, site_sum}
use Rattle.fed_rules.specs.Usable.{IsOfSite, home_of_first, read}
use Rattle.fed_rules.specs.Disk.{standing}
use Rattle.fed_rules.specs.Reopened.{first_of}
use Rattle.fed_rules.specs.Usable.{IsUsableSite}
use Rattle.sum_laws.proofs.ForCallers.{sites_read, some_site_frame}
use Rattle.site_history.specs.Events.{AreSorted}
use Rattle.site_history.specs.FoundSites.{IsFoundSite}
use Rattle.site_history.proofs.ForCallers.{found_says_all, front, reopened, standing_trimmed}
use Rattle.found_laws.specs.FoundSessions.{RowsRise}
use Rattle.found_laws.specs.Resuming.{IsResuming}
use Rattle.resume_laws.proofs.SiteGoes.{IsGoing, epoch_same, goes_alone, goes_checked, goes_ended, goes_started, going_front, later}
use Rattle.resume_laws.proofs.Stands as Disks

-- the base is one record
abbrev pub IsOne : List SiteRecord → Type 0
IsOne base = (r : SiteRecord) × (base ≡ r ∷ [])

pub cut : (home : Home) (found : List SiteRecord) (most : ℕ) (x : SiteRecord) (newer base : List SiteRecord) → IsOne base → IsGoing home found most (x ∷ (newer ++ base))
    → IsGoing home found most (newer ++ base)
cut home found most x [] base (r, e) u = subst (IsGoing home found most) (sym e) (going_front home found most x r [] (subst (λ b. IsGoing home found most (x ∷ b)) e u))
cut home found most x (y ∷ newer) base b u = going_front home found most x y (newer ++ base) u

module _ (home : Home) (found : List SiteRecord) (most : ℕ) where
  abbrev pub StandsSo : Disk SiteRecord → Type 0
  StandsSo d = Disks.Stands site_frame some_site_frame IsOne (IsGoing home found most) (λ r. (r, refl)) (cut home found most) d

  abbrev pub GoesSo : Disk SiteRecord → List (Call SiteRecord) → Type 0
  GoesSo d calls = Disks.Goes site_frame some_site_frame IsOne (IsGoing home found most) (λ r. (r, refl)) (cut home found most) d calls

-- the journal is usable, and a site that is up has started
pub record Again (home : Home) (found : List SiteRecord) (most : ℕ) (past : SitePast) : Type 0 where
  pub stands : StandsSo home found most (disk home past)
  pub up : is_down past ≡ false → 1 ≤ epoch home past

more : (home : Home) (found : List SiteRecord) (most : ℕ) (d : Disk SiteRecord) → StandsSo home found most d → StandsSo home found (suc most) d
more home found most d s = record {
  newer = s.newer;
  base = s.base;
  before = s.before;
  is = s.is;
  at = s.at;
  kept = s.kept;
  based = s.based;
  holds = later home found most (s.newer ++ s.base) s.holds;
  sound = s.sound;
}

module _ (home : Home) (found : List SiteRecord) (most : ℕ) (past : SitePast) (a : Again home found most past) (few : suc most < 2 ^ 31)
    (equal : site_sum home (records home past) ≡ journal_sum home (journal home past)) where
  abbrev d : Disk SiteRecord
  d = disk home past

  here : IsGoing home found most (journal home past)
  here = Disks.holds_of site_frame some_site_frame IsOne (IsGoing home found most) (λ r. (r, refl)) (cut home found most) d a.stands

  -- what holds behind the journal and a record holds behind the journal on the disk
  with_first : (P : List SiteRecord → Type 0)
      → ((newest : SiteRecord) (older : List SiteRecord) → IsGoing home found most (newest ∷ older) → site_sum home (records home past) ≡ journal_sum home (newest ∷ older) → P (newest ∷ older))
      → P (journal home past)
  with_first P each = by_journal (journal home past) here equal
    where
      by_journal : (js : List SiteRecord) → IsGoing home found most js → site_sum home (records home past) ≡ journal_sum home js → P js
      by_journal [] u e = absurd u.usable.first
      by_journal (newest ∷ older) u e = each newest older u e

  epoch_few : epoch home past + 1 < 2 ^ 31
  epoch_few = let b = with_first (λ js. epoch home past ≤ most) (λ newest older u e. let s = epoch_same home found most past newest older u e in let k = u.bound in omega (arith, s, k)) in omega (arith, b, few)

  started : IsGoing home found (suc most) (Rec.Start (epoch home past + 1) ∷ journal home past)
  started = with_first (λ js. IsGoing home found (suc most) (Rec.Start (epoch home past + 1) ∷ js)) (λ newest older u e. goes_started home found most past newest older u e epoch_few)

  ended : (t : Tid) (decision : Decision) (held : Held) → doubt_of (records home past) t ≡ Some held → IsGoing home found (suc most) (Rec.Ended t decision ∷ journal home past)
  ended t decision held is =
      with_first (λ js. IsGoing home found (suc most) (Rec.Ended t decision ∷ js)) (λ newest older u e. goes_ended home found most past newest older u e t decision held is)

  checked : 1 ≤ epoch home past → IsGoing home found (suc most) (checkpoint home past ∷ journal home past)
  checked one = with_first (λ js. IsGoing home found (suc most) (checkpoint home past ∷ js)) (λ newest older u e. goes_checked home found most past newest older u e one)

  alone : 1 ≤ epoch home past → IsGoing home found (suc most) (checkpoint home past ∷ [])
  alone one = with_first (λ js. IsGoing home found (suc most) (checkpoint home past ∷ [])) (λ newest older u e. goes_alone home found most past newest older u e one)

  abbrev Goes : List (Call SiteRecord) → Type 0
  Goes calls = GoesSo home found (suc most) d calls

  goes_when : (b : Bool) (x y : SiteHappening) → (b ≡ true → Goes x.calls) → (b ≡ false → Goes y.calls) → Goes (when b x y).calls
  unfolding when
  goes_when true x y p q = p refl
  goes_when false x y p q = q refl

  goes_given : {A : Type 0} (o : Option A) (none : SiteHappening) (some : A → SiteHappening) → Goes none.calls → ((v : A) → o ≡ Some v → Goes (some v).calls) → Goes (given o some none).calls
  unfolding given
  goes_given None none some p q = p
  goes_given (Some v) none some p q = q v refl

  decide_goes : (tid : Tid) (decision : Decision) → Goes (of_decide home past tid decision).calls
  unfolding of_decide unheld settles
  decide_goes tid decision =
      goes_given (doubt_of (records home past) tid) _ _ (goes_given (live home past tid) _ _ tt (λ run e. tt)) (λ held e. (ended tid decision held e, by_force (forces home.protocol decision)))
    where
      by_force : (b : Bool) → GoesSo home found (suc most) (after_call site_frame d (Append (Rec.Ended tid decision))) (cond b (Sync ∷ []) [])
      by_force true = tt
      by_force false = tt

  ask_goes : (tid : Tid) → Goes (of_ask home past tid).calls
  unfolding of_ask
  ask_goes tid = goes_given (doubt_of (records home past) tid) _ _ tt (λ held e. tt)

  drop_goes : (tid : Tid) → Goes (of_drop home past tid).calls
  unfolding of_drop
  drop_goes tid = goes_when (is_local past tid) _ _ (λ e. tt) (λ e. goes_given (live home past tid) _ _ tt (λ run f. tt))

  back_goes : Goes (of_back home past).calls
  unfolding of_back
  back_goes = by_torn (is_torn site_frame d)
    where
      by_torn : (b : Bool) → GoesSo home found (suc most) d (cond b (CutBack ∷ []) [] ++ Append (Rec.Start (epoch home past + 1)) ∷ Sync ∷ [])
      by_torn true = (started, tt)
      by_torn false = (started, tt)

  check_goes : is_down past ≡ false → Goes (of_check home past).calls
  unfolding of_check
  check_goes up =
      let one = a.up up in
      let frames = a.stands.sound.frames in
      goes_when _ _ _ (λ e. tt) (λ e. (checked one, ((checkpoint home past, records home past, refl, omega (arith, frames), alone one), tt)))

  tripped_goes : (y : SiteHappening) → Goes y.calls → Goes (tripped site_frame d (trip past) y).calls
  tripped_goes y g =
      Disks.goes_tripped site_frame some_site_frame IsOne (IsGoing home found (suc most)) (λ r. (r, refl)) (cut home found (suc most)) d (trip past) y g

  while_up : (event : SiteEvent) (y : SiteHappening) → (is_down past ≡ false → Goes y.calls)
      → Goes (when (is_down past) (quiet event Say.Down) (tripped site_frame d (trip past) y)).calls
  while_up event y g = goes_when (is_down past) _ _ (λ e. tt) (λ e. tripped_goes y (g e))

  line_goes : (event : SiteEvent) → IsResuming event → Goes (site_line home past event).calls
  unfolding site_line answered of_give stopped
  line_goes (Ev.Give (To.Decide tid decision)) i = while_up (Ev.Give (To.Decide tid decision)) (of_decide home past tid decision) (λ e. decide_goes tid decision)
  line_goes (Ev.Give (To.Work tid e n act)) i = absurd i
  line_goes (Ev.Give (To.Take tid e n)) i = absurd i
  line_goes (Ev.Give (To.Prepare tid e n)) i = absurd i
  line_goes (Ev.Trip calls c) i = tt
  line_goes (Ev.Ask tid) i = while_up (Ev.Ask tid) (of_ask home past tid) (λ e. ask_goes tid)
  line_goes (Ev.Drop tid) i = while_up (Ev.Drop tid) (of_drop home past tid) (λ e. drop_goes tid)
  line_goes Ev.Back i = goes_when (is_down past) _ _ (λ e. tripped_goes (of_back home past) back_goes) (λ e. tt)
  line_goes Ev.Check i = while_up Ev.Check (of_check home past) (λ e. check_goes e)
  line_goes (Ev.Halt c) i = goes_when (is_down past) _ _ (λ e. tt) (λ e. tt)
  line_goes (Ev.Begin tid) i = absurd i
  line_goes (Ev.Act tid act) i = absurd i
  line_goes (Ev.Commit tid) i = absurd i
  line_goes (Ev.Abort tid) i = absurd i
  line_goes (Ev.Fate tx) i = absurd i

  -- ---- a site that is up has started

  abbrev Up : SiteHappening → Type 0
  Up x = is_down (x ∷ past) ≡ false → 1 ≤ epoch home (x ∷ past)

  up_when : (b : Bool) (x y : SiteHappening) → Up x → Up y → Up (when b x y)
  unfolding when
  up_when true x y p q = p
  up_when false x y p q = q

  up_given : {A : Type 0} (o : Option A) (none : SiteHappening) (some : A → SiteHappening) → Up none → ((v : A) → Up (some v)) → Up (given o some none)
  unfolding given
  up_given None none some p q = p
  up_given (Some v) none some p q = q v

  tripped_up : (t : Option Trip) (y : SiteHappening) → Up y → Up (tripped site_frame d t y)
  unfolding tripped stopped
  tripped_up None y p = p
  tripped_up (Some t) y p = up_when (nat_le t.calls (length y.calls)) _ y (λ e. cc) p

  decide_up : (tid : Tid) (decision : Decision) → Up (of_decide home past tid decision)
  unfolding of_decide unheld settles
  decide_up tid decision = up_given (doubt_of (records home past) tid) _ _ (up_given (live home past tid) _ _ a.up (λ run. a.up)) (λ held e. by_force (forces home.protocol decision) e)
    where
      by_force : (b : Bool) → is_down past ≡ false
          → 1 ≤ epoch_of (after_calls site_frame d (Append (Rec.Ended tid decision) ∷ cond b (Sync ∷ []) [])).records
      by_force true e = a.up e
      by_force false e = a.up e

  back_up : Up (of_back home past)
  unfolding of_back
  back_up e = by_torn (is_torn site_frame d)
    where
      by_torn : (b : Bool) → 1 ≤ epoch_of (after_calls site_frame d (cond b (CutBack ∷ []) [] ++ Append (Rec.Start (epoch home past + 1)) ∷ Sync ∷ [])).records
      by_torn true = omega arith
      by_torn false = omega arith

  line_up : (event : SiteEvent) → IsResuming event → Up (site_line home past event)
  unfolding site_line answered of_give of_ask of_drop of_check stopped
  line_up (Ev.Give (To.Decide tid decision)) i = up_when (is_down past) _ _ a.up (tripped_up (trip past) (of_decide home past tid decision) (decide_up tid decision))
  line_up (Ev.Give (To.Work tid e n act)) i = absurd i
  line_up (Ev.Give (To.Take tid e n)) i = absurd i
  line_up (Ev.Give (To.Prepare tid e n)) i = absurd i
  line_up (Ev.Trip calls c) i = a.up
  line_up (Ev.Ask tid) i = up_when (is_down past) _ _ a.up (tripped_up (trip past) _ (up_given (doubt_of (records home past) tid) _ _ a.up (λ held. a.up)))
  line_up (Ev.Drop tid) i =
      up_when (is_down past) _ _ a.up (tripped_up (trip past) _ (up_when (is_local past tid) _ _ a.up (up_given (live home past tid) _ _ a.up (λ run. a.up))))
  line_up Ev.Back i = up_when (is_down past) _ _ (tripped_up (trip past) (of_back home past) back_up) a.up
  line_up Ev.Check i = up_when (is_down past) _ _ a.up (tripped_up (trip past) _ (up_when _ _ _ a.up a.up))
  line_up (Ev.Halt c) i = up_when (is_down past) _ _ a.up (λ e. cc)
  line_up (Ev.Begin tid) i = absurd i
  line_up (Ev.Act tid act) i = absurd i
  line_up (Ev.Commit tid) i = absurd i
  line_up (Ev.Abort tid) i = absurd i
  line_up (Ev.Fate tx) i = absurd i

  pub again_next : (event : SiteEvent) → IsResuming event → Again home found (suc most) (site_line home past event ∷ past)
  again_next event i = record {
    stands = Disks.goes_calls site_frame some_site_frame IsOne (IsGoing home found (suc most)) (λ r. (r, refl)) (cut home found (suc most)) d (site_line home past event).calls
        (line_goes event i) (more home found most d a.stands);
    up = line_up event i;
  }

-- ---- from the opening on

with_most : (home : Home) (found : List SiteRecord) (a b : ℕ) (past : SitePast) → a ≡ b → Again home found a past → Again home found b past
with_most home found a b past e = subst (λ n. Again home found n past) e

module _ (home : Home) (local : Tx → Bool) (found : Journal SiteRecord) (f : IsFoundSite home local found) (rows : RowsRise (home_of_first (first_of found.records))) where
  abbrev least : ℕ
  least = epoch_of (read found.records)

  is_going : IsGoing home found.records least found.records
  is_going = record {
    usable = subst (λ n. IsUsableSite n found.records) (sym (subst (IsOfSite f.number) f.is_home f.usable.first)) f.usable;
    rising = f.rising;
    rows = rows;
    begins = inl f.is_home;
    locals = λ tx m. m;
    bound = omega arith;
  }

  opens : Again home found.records least (opened_site found)
  opens = record { stands = by_front found.records found.torn f is_going refl; up = λ e. cc }
    where
      by_front : (rs : List SiteRecord) (torn : ℕ) → IsFoundSite home local (record { records = rs; torn = torn }) → IsGoing home found.records least rs
          → found ≡ record { records = rs; torn = torn } → StandsSo home found.records least (disk home (opened_site (record { records = rs; torn = torn })))
      by_front [] torn g u e = let none : None ≡ Some home = g.is_home in cc
      by_front (newest ∷ older) torn g u e =
          let here : Journal SiteRecord = record { records = newest ∷ older; torn = torn } in
          let t = front home newest older torn g.is_home in
          let stands : t.newer ++ t.first ∷ [] ≡ newest ∷ older =
          sym (standing_trimmed t.newer t.first t.before)
          ∙ sym (ap (λ n. standing site_frame n (records home (opened_site here))) t.at ∙ ap (λ rs. standing site_frame (bytes_of site_frame t.before) rs) t.all)
          ∙ (sites_read home local here g).stands in
          record {
            newer = t.newer;
            base = t.first ∷ [];
            before = t.before;
            is = t.all;
            at = t.at;
            kept = t.kept;
            based = (t.first, refl);
            holds = subst (IsGoing home found.records least) (sym stands) u;
            sound = (reopened home local here g).sums.summed.sound;
          }

  pub again_on : (events : List SiteEvent) → Each IsResuming events → AreSorted local events → least + length events < 2 ^ 31
      → Again home found.records (least + length events) (site_past_on home (opened_site found) events)
  again_on [] i sorted few = with_most home found.records least (least + 0) (opened_site found) (omega arith) opens
  again_on (event ∷ events) i sorted few =
      let past = site_past_on home (opened_site found) events in
      with_most home found.records (suc (least + length events)) (least + suc (length events)) (site_line home past event ∷ past) (omega arith)
      (again_next home found.records (least + length events) past (again_on events i.1 sorted.1 (omega (arith, few))) (omega (arith, few))
      (sym (found_says_all home local found f events sorted.1)) event i.0)

  -- so what stands on its disk is usable and of the format, and names no other local transaction
  pub journal_again : (events : List SiteEvent) → Each IsResuming events → AreSorted local events → least + length events < 2 ^ 31
      → IsGoing home found.records (least + length events) (journal home (site_past_on home (opened_site found) events))
  journal_again events i sorted few =
      Disks.holds_of site_frame some_site_frame IsOne (IsGoing home found.records (least + length events)) (λ r. (r, refl)) (cut home found.records (least + length events))
      (disk home (site_past_on home (opened_site found) events)) (again_on events i sorted few).stands
