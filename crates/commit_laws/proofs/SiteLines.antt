-- Every line of a site, also one that a stop ends: what it leaves on the disk and what it does about one attempt.
use Rattle.std.proofs.Common.{◌≡◌, ℕ, zero, suc, ◌||◌, ◌<◌, ◌⊎◌, inl, inr, Bool, true, false, nat_le, Option, Some, None, List, [], ◌∷◌, ◌++◌, take, length, refl, sym, ap, ◌∙◌}
use Rattle.mdb_base.specs.declared.names.Tid.{Tid}
use Rattle.mdb_base.specs.Words.{Each, Among, some_of, when}
use Rattle.fed_rules.specs.declared.answers.Answer.{Answer}
use Rattle.fed_rules.specs.declared.answers.Answer.TheVariants as Say
use Rattle.fed_rules.specs.declared.events.SiteEvent.{SiteEvent}
use Rattle.fed_rules.specs.declared.events.SiteEvent.TheVariants as Ev
use Rattle.fed_rules.specs.declared.records.SiteRecord.{SiteRecord}
use Rattle.fed_rules.specs.Disk.{Call, Stops}
use Rattle.fed_rules.specs.Happenings.{Trip, comes_up, is_down, quiet, stopped, tripped}
use Rattle.fed_rules.specs.Site.{site_line, answered, of_back}
use Rattle.fed_rules.specs.SitePast.{SiteHappening, SitePast, disk, records, epoch, trip}
use Rattle.fed_rules.specs.SiteRecords.{Home, site_frame}
use Rattle.fed_rules.specs.Durable.{IsFirm}
use Rattle.commit_laws.specs.Records.{IsPrepared, IsLooseEnded}
use Rattle.commit_laws.specs.Seals.{appends_prepared, seals}
use Rattle.fed_rules.proofs.ForCallers.{IsCut, Keeps, appended, left_by_line, left_by_stop, quiet_plain}
use Rattle.commit_laws.proofs.SiteFacts.{IsSealing, Wrote, WroteOne, Says, Settled, NotBegun, Shut, Step}
use Rattle.commit_laws.proofs.SiteShut.{restored-sealed}
use Rattle.commit_laws.proofs.SiteEnds.{by-answered, by-back}

-- a record with its reason stands before the old ones, or some loose old ones are gone
abbrev pub Kept : Home → Tid → SitePast → SiteEvent → List SiteRecord → Type 0
Kept home g past event now = ((r : SiteRecord) × Wrote home g past event r × (now ≡ r ∷ records home past)) ⊎ IsCut
    (IsLooseEnded home.protocol) (records home past) now

pub record Line (home : Home) (g : Tid) (past : SitePast) (event : SiteEvent) (x : SiteHappening) : Type 0 where
  pub is : x.event ≡ event
  pub firm : IsFirm site_frame (IsLooseEnded home.protocol) (disk home (x ∷ past))
  pub kept : Kept home g past event (records home (x ∷ past))
  pub says : Each (Says home g past x) x.sends
  pub shut : NotBegun g event → Shut home g past → Shut home g (x ∷ past)
  pub settled : Settled home g past event x.answer
  pub seals : seals g x ≡ true
      → (e : ℕ) × IsSealing home g past event e × (Among (IsPrepared g e) (records home (x ∷ past)) ⊎ (is_down (x ∷ past) ≡ true))
  pub rises : comes_up x.answer ≡ true → epoch home past < epoch home (x ∷ past)

keeps-one : (home : Home) (g : Tid) (past : SitePast) (event : SiteEvent) (news now : List SiteRecord)
    → WroteOne home g past event news → Keeps (IsLooseEnded home.protocol) news (records home past) now → Kept home g past event now
keeps-one home g past event news now w (inr c) = inr c
keeps-one home g past event [] now w (inl (kept, ([], e), is)) = inr ([], tt, sym (is ∙ ap (λ k. k ++ records home past) (sym e)))
keeps-one home g past event [] now w (inl (kept, (n ∷ newer, e), is)) = cc
keeps-one home g past event (r ∷ []) now w (inl (kept, ([], e), is)) = inl (r, w, is ∙ ap (λ k. k ++ records home past) (sym e))
keeps-one home g past event (r ∷ []) now w (inl (kept, (n ∷ [], e), is)) =
    let none : [] ≡ kept = ap tail e in inr ([], tt, sym (is ∙ ap (λ k. k ++ records home past) (sym none)))
  where
    tail : List SiteRecord → List SiteRecord
    tail [] = []
    tail (x ∷ xs) = xs
keeps-one home g past event (r ∷ []) now w (inl (kept, (n ∷ m ∷ newer, e), is)) = cc
keeps-one home g past event (r ∷ q ∷ rs) now w (inl k) = absurd w

goes : (home : Home) (g : Tid) (past : SitePast) (event : SiteEvent) (y : SiteHappening)
    → IsFirm site_frame (IsLooseEnded home.protocol) (disk home past) → Step home g past event y → Line home g past event y
goes home g past event y f s =
    let l = left_by_line site_frame (IsLooseEnded home.protocol) (disk home past) y.calls s.quiet f in
    record {
      is = s.is;
      firm = l.firm;
      kept = keeps-one home g past event (appended y.calls []) (records home (y ∷ past)) s.wrote l.keeps;
      says = s.says;
      shut = s.shut;
      settled = s.settled;
      seals = (λ i. let r = s.seals i in (r.0, r.1, inl r.2));
      rises = s.rises;
    }

-- a line that a stop ends appends nothing more
front-seals : (g : Tid) (k cut : ℕ) (calls : List (Call SiteRecord))
    → some_of (appends_prepared g) (take k calls ++ Stops cut ∷ []) ≡ true → some_of (appends_prepared g) calls ≡ true
front-seals g zero cut calls e = cc
front-seals g (suc k) cut [] e = cc
front-seals g (suc k) cut (call ∷ calls) e = by_test (appends_prepared g call) e (front-seals g k cut calls) where
  by_test : (b : Bool) → (b || some_of (appends_prepared g) (take k calls ++ Stops cut ∷ [])) ≡ true
      → (some_of (appends_prepared g) (take k calls ++ Stops cut ∷ []) ≡ true → some_of (appends_prepared g) calls ≡ true)
      → (b || some_of (appends_prepared g) calls) ≡ true
  by_test true e h = refl
  by_test false e h = h e

stops-here : (home : Home) (g : Tid) (past : SitePast) (event : SiteEvent) (y : SiteHappening) (k cut : ℕ)
    → IsFirm site_frame (IsLooseEnded home.protocol) (disk home past) → Step home g past event y
    → Line home g past event (stopped site_frame (disk home past) y.event (take k y.calls ++ Stops cut ∷ []))
unfolding stopped
stops-here home g past event y k cut f s =
    let l = left_by_stop site_frame (IsLooseEnded home.protocol) (disk home past) y.calls k cut
    (quiet_plain (IsLooseEnded home.protocol) false y.calls s.quiet) f in
    record {
      is = s.is;
      firm = l.firm;
      kept = keeps-one home g past event (appended y.calls []) _ s.wrote l.keeps;
      says = tt;
      shut = (λ nb o. record { down = (λ e. restored-sealed _ g); over = (λ e. restored-sealed _ g) });
      settled = tt;
      seals = (λ i. let r = s.seals (front-seals g k cut y.calls i) in (r.0, r.1, inr refl));
      rises = (λ e. cc);
    }

line-when : (home : Home) (g : Tid) (past : SitePast) (event : SiteEvent) (b : Bool) (x y : SiteHappening)
    → (b ≡ true → Line home g past event x) → (b ≡ false → Line home g past event y) → Line home g past event (when b x y)
unfolding when
line-when home g past event true x y p q = p refl
line-when home g past event false x y p q = q refl

unless-tripped : (home : Home) (g : Tid) (past : SitePast) (event : SiteEvent) (y : SiteHappening) (t : Option Trip)
    → IsFirm site_frame (IsLooseEnded home.protocol) (disk home past) → Step home g past event y
    → Line home g past event (tripped site_frame (disk home past) t y)
unfolding tripped
unless-tripped home g past event y None f s = goes home g past event y f s
unless-tripped home g past event y (Some t) f s =
    line-when home g past event (nat_le t.calls (length y.calls)) _ _
    (λ b. stops-here home g past event y t.calls t.cut f s)
    (λ b. goes home g past event y f s)

-- a line that changes nothing
idle : (home : Home) (g : Tid) (past : SitePast) (event : SiteEvent) (answer : Answer)
    → IsFirm site_frame (IsLooseEnded home.protocol) (disk home past) → Settled home g past event answer → comes_up answer ≡ false
    → (Shut home g past → Shut home g (quiet event answer ∷ past)) → Line home g past event (quiet event answer)
idle home g past event answer f settled up shut = record {
  is = refl;
  firm = f;
  kept = inr ([], tt, refl);
  says = tt;
  shut = (λ nb s. shut s);
  settled = settled;
  seals = (λ e. cc);
  rises = (λ e. cc);
}

is-down : (home : Home) (g : Tid) (past : SitePast) (event : SiteEvent)
    → IsFirm site_frame (IsLooseEnded home.protocol) (disk home past) → is_down past ≡ true
    → Line home g past event (quiet event Say.Down)
is-down home g past event f down =
    idle home g past event Say.Down f tt refl (λ s. record { down = (λ e. s.down down); over = (λ e. s.down down) })

when-up : (home : Home) (g : Tid) (past : SitePast) (event : SiteEvent)
    → IsFirm site_frame (IsLooseEnded home.protocol) (disk home past)
    → Line home g past event
    (when (is_down past) (quiet event Say.Down) (tripped site_frame (disk home past) (trip past) (answered home past event)))
when-up home g past event f =
    line-when home g past event (is_down past) _ _ (is-down home g past event f)
    (λ up. unless-tripped home g past event (answered home past event) (trip past) f (by-answered home g past event up))

-- a halt, as a stop of a line with no calls
halted : (home : Home) (g : Tid) (past : SitePast) (cut : ℕ) → IsFirm site_frame (IsLooseEnded home.protocol) (disk home past)
    → is_down past ≡ false → Line home g past (Ev.Halt cut) (stopped site_frame (disk home past) (Ev.Halt cut) (Stops cut ∷ []))
unfolding answered
halted home g past cut f up = stops-here home g past (Ev.Halt cut) (quiet (Ev.Halt cut) Say.Down) 0 cut f
    (by-answered home g past (Ev.Halt cut) up)

pub site-lines : (home : Home) (g : Tid) (past : SitePast) (event : SiteEvent)
    → IsFirm site_frame (IsLooseEnded home.protocol) (disk home past) → Line home g past event (site_line home past event)
unfolding site_line
site-lines home g past (Ev.Begin tid) f = when-up home g past (Ev.Begin tid) f
site-lines home g past (Ev.Act tid act) f = when-up home g past (Ev.Act tid act) f
site-lines home g past (Ev.Commit tid) f = when-up home g past (Ev.Commit tid) f
site-lines home g past (Ev.Abort tid) f = when-up home g past (Ev.Abort tid) f
site-lines home g past (Ev.Fate tx) f = when-up home g past (Ev.Fate tx) f
site-lines home g past (Ev.Give message) f = when-up home g past (Ev.Give message) f
site-lines home g past (Ev.Ask tid) f = when-up home g past (Ev.Ask tid) f
site-lines home g past (Ev.Drop tid) f = when-up home g past (Ev.Drop tid) f
site-lines home g past (Ev.Trip calls cut) f = idle home g past (Ev.Trip calls cut) Say.Set f tt refl
    (λ s. record { down = s.down; over = s.over })
site-lines home g past (Ev.Halt cut) f =
    line-when home g past (Ev.Halt cut) (is_down past) _ _ (is-down home g past (Ev.Halt cut) f) (halted home g past cut f)
site-lines home g past Ev.Back f =
    line-when home g past Ev.Back (is_down past) _ _
    (λ down. unless-tripped home g past Ev.Back (of_back home past) (trip past) f (by-back home g past))
    (λ up. idle home g past Ev.Back Say.Awake f tt refl (λ s. record { down = s.down; over = s.over }))
site-lines home g past Ev.Check f = when-up home g past Ev.Check f
