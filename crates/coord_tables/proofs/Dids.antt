-- The replies of sites to operations.
use Rattle.std.proofs.Common.{◌≡◌, ℕ, ◌<◌, ◌==◌, Bool, true, false, cond, not, ◌&&◌, ◌||◌, is_some, Option, Some, None, List, [], ◌∷◌, refl, sym, ap, ap₂, subst, ◌∙◌, eqb-true, arith}
use Rattle.std.proofs.lemmas.Bool.{cond-true, cond-false, false≢true}
use Rattle.mdb_base.specs.declared.acts.Step.{Step}
use Rattle.mdb_base.specs.declared.names.SiteId.{SiteId}
use Rattle.mdb_base.specs.declared.names.Tid.{Tid}
use Rattle.mdb_base.specs.declared.replies.Reply.{Reply}
use Rattle.mdb_base.specs.declared.replies.Reply.TheVariants as Reply_is
use Rattle.mdb_base.specs.declared.replies.Why.TheVariants as Because
use Rattle.mdb_base.specs.Names.{same_site, same_tid}
use Rattle.mdb_base.specs.Rising.{IsRising}
use Rattle.mdb_base.specs.Words.{first_where, holds_of, how_many, map_some, or_else, some_of, those, when, with_some}
use Rattle.mdb_base.proofs.ForCallers.{each_filtered, each_map, rising_rest, same_site-sym, same_tid-equal, same_tid-refl}
use Rattle.presumptions.specs.declared.Participant.{Participant}
use Rattle.fed_rules.specs.declared.answers.Answer.{Answer}
use Rattle.fed_rules.specs.declared.answers.Answer.TheVariants as Say
use Rattle.fed_rules.specs.declared.answers.Cause.TheVariants as For
use Rattle.fed_rules.specs.declared.events.CoordEvent.{CoordEvent}
use Rattle.fed_rules.specs.declared.events.CoordEvent.TheVariants as Ev
use Rattle.fed_rules.specs.declared.messages.Due.{Due}
use Rattle.fed_rules.specs.declared.messages.FromSite.TheVariants as From
use Rattle.fed_rules.specs.Happenings.{quiet}
use Rattle.fed_rules.specs.Coord.{aborts, answered, defers_some, did_counts, did_reply, fits, held_back, let_through, may_take, news as past_news, of_did, of_take, sends_dues, sends_news}
use Rattle.fed_rules.specs.CoordPast.{CoordHappening, CoordPast, begins, counted, counts as counts_answer, epoch_at, is_open, is_ticket, is_wait, last_epoch, outstanding, participants_of, vote_at, visits}
use Rattle.fed_rules.specs.CoordPast as Past
use Rattle.fed_rules.proofs.ForCallers.{counts_open}
use Rattle.global_exec.specs.Agreement.{IsOfPast, progress_in}
use Rattle.global_exec.specs.Counted.{advanced, after_did, counts, is_answer, news_by}
use Rattle.global_exec.specs.Firsts.{replaced}
use Rattle.global_exec.specs.Live.{Live, is_of, live_of}
use Rattle.global_exec.specs.Pasts.{IsAmong, IsOnly}
use Rattle.global_exec.proofs.ForCallers.{answer_of_past, counts_link, did_same, each_above, news_link}
use Rattle.coord_tables.specs.declared.tables.Tables.{Tables}
use Rattle.coord_tables.specs.Attempts.{IsLiveAs}
use Rattle.coord_tables.specs.Sending.{IsSending, after_taken, is_held, passed, says_sent}
use Rattle.coord_tables.specs.Tables.{IsServing}
use Rattle.coord_tables.specs.Terms.{Terms, IsSound, answer_of}
use Rattle.coord_tables.proofs.Again.{news_says}

-- ---- sites and lists

less_other : (a b s : SiteId) → same_site a s ≡ true → a.0 < b.0 → same_site b s ≡ false
less_other a b s e less = by_test (same_site b s) refl where
  by_test : (t : Bool) → same_site b s ≡ t → t ≡ false
  by_test false f = refl
  by_test true f = let x : a.0 ≡ s.0 = eqb-true a.0 s.0 e in let y : b.0 ≡ s.0 = eqb-true b.0 s.0 f in absurd (omega arith)

-- of rising participants at most one is at a site
pub rising_only : (site : SiteId) (steps : List Step) (ps : List Participant) → IsRising (λ m. m.site.0) ps → IsOnly (λ m. same_site m.site site) (participants_of ps steps)
rising_only site steps [] h = tt
rising_only site steps (p ∷ ps) h = by_visit (visits p.site steps) (rising_only site steps ps (rising_rest (λ (m : Participant). m.site.0) p ps h)) where
  by_visit : (v : Bool) → IsOnly (λ m. same_site m.site site) (participants_of ps steps) → IsOnly (λ m. same_site m.site site) (cond v (p ∷ participants_of ps steps) (participants_of ps steps))
  by_visit false rest = rest
  by_visit true rest = (
    (λ e. each_filtered (λ m. same_site m.site site ≡ false) (λ m. visits m.site steps) ps (each_map (λ m. p.site.0 < m.site.0) (λ m. same_site m.site site ≡ false) (λ m less. less_other p.site m.site site e less) ps (each_above (λ (m : Participant). m.site.0) p ps h))),
    rest,
  )

-- the first item after a change of it, and another one
pub first_replaced : {A : Type 0} (test : A → Bool) (change : A → A) → ((x : A) → test (change x) ≡ test x) → (xs : List A) → first_where test (replaced test change xs) ≡ map_some change (first_where test xs)
first_replaced test change keeps [] = refl
first_replaced test change keeps (x ∷ xs) = by_test (test x) refl (first_replaced test change keeps xs) where
  by_test : (b : Bool) → test x ≡ b → first_where test (replaced test change xs) ≡ map_some change (first_where test xs)
      → first_where test (cond b (change x ∷ xs) (x ∷ replaced test change xs)) ≡ map_some change (cond b (Some x) (first_where test xs))
  by_test true e rest = cond-true _ _ _ (keeps x ∙ e)
  by_test false e rest = cond-false _ _ _ e ∙ rest

pub other_replaced : {A : Type 0} (test other : A → Bool) (change : A → A) → ((x : A) → test x ≡ true → (other x ≡ false) × (other (change x) ≡ false)) → (xs : List A) → first_where other (replaced test change xs) ≡ first_where other xs
other_replaced test other change apart [] = refl
other_replaced test other change apart (x ∷ xs) = by_test (test x) refl (other_replaced test other change apart xs) where
  by_test : (b : Bool) → test x ≡ b → first_where other (replaced test change xs) ≡ first_where other xs
      → first_where other (cond b (change x ∷ xs) (x ∷ replaced test change xs)) ≡ first_where other (x ∷ xs)
  by_test true e rest = cond-false _ _ _ (apart x e).1 ∙ sym (cond-false _ _ _ (apart x e).0)
  by_test false e rest = ap (λ o. cond (other x) (Some x) o) rest

pub live_changed : (tid : Tid) (change : Live → Live) → ((l : Live) → (change l).tid ≡ l.tid) → (xs : List Live) → live_of tid (replaced (is_of tid) change xs) ≡ map_some change (live_of tid xs)
live_changed tid change keeps xs = first_replaced (is_of tid) change (λ l. ap (λ t. same_tid t tid) (keeps l)) xs

pub live_unchanged : (tid t : Tid) (change : Live → Live) → ((l : Live) → (change l).tid ≡ l.tid) → (xs : List Live) → same_tid tid t ≡ false → live_of t (replaced (is_of tid) change xs) ≡ live_of t xs
live_unchanged tid t change keeps xs e = other_replaced (is_of tid) (is_of t) change (λ l here.
    let off : same_tid l.tid t ≡ false = ap (λ u. same_tid u t) (same_tid-equal l.tid tid here) ∙ e in
    (off, ap (λ u. same_tid u t) (keeps l) ∙ off)) xs

-- ---- what counts

module _ (tables : Tables) (terms : Terms) (past : CoordPast) (s : IsServing tables terms past) (site : SiteId) (tid : Tid) (epoch n : ℕ) (reply : Reply) (among : IsAmong site terms.protocols) where
  pub counts_are : holds_of (counts site epoch n reply) (live_of tid tables.exec) ≡ did_counts past site tid epoch n reply
  counts_are = by_live (is_open past tid) refl (live_of tid tables.exec) (s.live tid) where
    by_live : (b : Bool) → is_open past tid ≡ b → (o : Option Live) → IsLiveAs terms.protocols past tid b o → holds_of (counts site epoch n reply) o ≡ did_counts past site tid epoch n reply
    by_live true u (Some live) l =
        counts_link terms.protocols past tid live l site among epoch n reply
        ∙ sym (ap (λ b. (b && fits (outstanding past tid site) n reply) && ((epoch_at past tid site == 0) || (epoch == epoch_at past tid site))) u)
    by_live true u None l = absurd l
    by_live false u (Some live) l = absurd l
    by_live false u None l = sym (ap (λ b. (b && fits (outstanding past tid site) n reply) && ((epoch_at past tid site == 0) || (epoch == epoch_at past tid site))) u)

-- ---- the lines

abbrev pub did_event : SiteId → Tid → ℕ → ℕ → Reply → CoordEvent
did_event site tid epoch n reply = Ev.Take site (From.Did tid epoch n reply)

pub did_ignored : (terms : Terms) (past : CoordPast) (site : SiteId) (tid : Tid) (epoch n : ℕ) (reply : Reply) → did_counts past site tid epoch n reply ≡ false → answer_of terms past (did_event site tid epoch n reply) ≡ quiet (did_event site tid epoch n reply) Say.Ignored
unfolding answered of_take of_did when
did_ignored terms past site tid epoch n reply e =
    ap (λ b. when b (did_reply terms.protocols terms.policy past site (From.Did tid epoch n reply) tid reply) (quiet (did_event site tid epoch n reply) Say.Ignored)) e

did_is : (terms : Terms) (past : CoordPast) (site : SiteId) (tid : Tid) (epoch n : ℕ) (reply : Reply) → did_counts past site tid epoch n reply ≡ true
    → answer_of terms past (did_event site tid epoch n reply) ≡ did_reply terms.protocols terms.policy past site (From.Did tid epoch n reply) tid reply
unfolding answered of_take of_did when
did_is terms past site tid epoch n reply e =
    ap (λ b. when b (did_reply terms.protocols terms.policy past site (From.Did tid epoch n reply) tid reply) (quiet (did_event site tid epoch n reply) Say.Ignored)) e

pub did_waits : (terms : Terms) (past : CoordPast) (site : SiteId) (tid : Tid) (epoch n : ℕ) (by : Tid) → did_counts past site tid epoch n (Reply_is.Wait by) ≡ true
    → answer_of terms past (did_event site tid epoch n (Reply_is.Wait by)) ≡ quiet (did_event site tid epoch n (Reply_is.Wait by)) Say.TookWaits
unfolding did_reply
did_waits terms past site tid epoch n by e = did_is terms past site tid epoch n (Reply_is.Wait by) e

pub did_dies : (terms : Terms) (past : CoordPast) (site : SiteId) (tid : Tid) (epoch n : ℕ) (by : Tid) → did_counts past site tid epoch n (Reply_is.Refused (Because.Die by)) ≡ true
    → answer_of terms past (did_event site tid epoch n (Reply_is.Refused (Because.Die by))) ≡ aborts terms.protocols past (did_event site tid epoch n (Reply_is.Refused (Because.Die by))) tid (For.Dies site by)
unfolding did_reply
did_dies terms past site tid epoch n by e = did_is terms past site tid epoch n (Reply_is.Refused (Because.Die by)) e

pub did_late : (terms : Terms) (past : CoordPast) (site : SiteId) (tid : Tid) (epoch n : ℕ) (by : Tid) → did_counts past site tid epoch n (Reply_is.Refused (Because.Late by)) ≡ true
    → answer_of terms past (did_event site tid epoch n (Reply_is.Refused (Because.Late by))) ≡ aborts terms.protocols past (did_event site tid epoch n (Reply_is.Refused (Because.Late by))) tid (For.TooLate site by)
unfolding did_reply
did_late terms past site tid epoch n by e = did_is terms past site tid epoch n (Reply_is.Refused (Because.Late by)) e

pub did_unknown : (terms : Terms) (past : CoordPast) (site : SiteId) (tid : Tid) (epoch n : ℕ) → did_counts past site tid epoch n Reply_is.Unknown ≡ true
    → answer_of terms past (did_event site tid epoch n Reply_is.Unknown) ≡ aborts terms.protocols past (did_event site tid epoch n Reply_is.Unknown) tid (For.Unknown site)
unfolding did_reply
did_unknown terms past site tid epoch n e = did_is terms past site tid epoch n Reply_is.Unknown e

-- what became outstanding by an answer
abbrev fresh_news : Terms → CoordPast → SiteId → Tid → ℕ → ℕ → Reply → List Due
fresh_news terms past site tid epoch n reply = past_news terms.protocols past (quiet (did_event site tid epoch n reply) Say.Only ∷ past) tid site

did_goes : (terms : Terms) (past : CoordPast) (site : SiteId) (tid : Tid) (epoch n : ℕ) (reply : Reply) → is_answer reply ≡ true
    → did_reply terms.protocols terms.policy past site (From.Did tid epoch n reply) tid reply
    ≡ sends_dues terms.protocols past (did_event site tid epoch n reply) tid
    (defers_some (held_back terms.protocols terms.policy past tid (fresh_news terms past site tid epoch n reply))) (let_through terms.protocols terms.policy past tid (fresh_news terms past site tid epoch n reply))
unfolding did_reply sends_news
did_goes terms past site tid epoch n Reply_is.Done e = refl
did_goes terms past site tid epoch n (Reply_is.Value v) e = refl
did_goes terms past site tid epoch n (Reply_is.Ticket t) e = refl
did_goes terms past site tid epoch n (Reply_is.Wait by) e = absurd (false≢true e)
did_goes terms past site tid epoch n (Reply_is.Refused why) e = absurd (false≢true e)
did_goes terms past site tid epoch n Reply_is.Unknown e = absurd (false≢true e)

advances : (site : SiteId) (epoch n : ℕ) (reply : Reply) (live : Live) → counts site epoch n reply live ≡ true → is_answer reply ≡ true → after_did site epoch n reply live ≡ advanced site epoch reply live
advances site epoch n Reply_is.Done live c a = cond-true _ _ _ c
advances site epoch n (Reply_is.Value v) live c a = cond-true _ _ _ c
advances site epoch n (Reply_is.Ticket t) live c a = cond-true _ _ _ c
advances site epoch n (Reply_is.Wait by) live c a = absurd (false≢true a)
advances site epoch n (Reply_is.Refused why) live c a = absurd (false≢true a)
advances site epoch n Reply_is.Unknown live c a = absurd (false≢true a)

-- at other sites nothing changes
elsewhere_same : (past : CoordPast) (site : SiteId) (tid : Tid) (epoch n : ℕ) (reply : Reply) (p : Participant) → same_site p.site site ≡ false
    → progress_in (quiet (did_event site tid epoch n reply) Say.Only ∷ past) tid p ≡ progress_in past tid p
elsewhere_same past site tid epoch n reply p e =
    ap (λ (cs : List Past.Counted). record { site = p.site; epoch = last_epoch cs; n = how_many (λ r. not (is_wait r.reply)) cs; ticket = some_of (λ r. is_ticket r.reply) cs; voted = is_some (vote_at past tid p.site) })
    (ap (λ b. those (λ (r : Past.Counted). same_site r.site p.site) (with_some (cond b (Some (record { site = site; epoch = epoch; reply = reply })) None) (counted past tid))) (same_tid-refl tid)
    ∙ cond-false _ _ _ (same_site-sym site p.site ∙ e))

module _ (tables : Tables) (terms : Terms) (past : CoordPast) (sound : IsSound terms past) (s : IsServing tables terms past) (site : SiteId) (tid : Tid) (epoch n : ℕ) (reply : Reply) (among : IsAmong site terms.protocols)
    (c : did_counts past site tid epoch n reply ≡ true) where
  pub own_live : (live : Live) × (live_of tid tables.exec ≡ Some live) × IsOfPast terms.protocols past tid live × (counts site epoch n reply live ≡ true)
  own_live = by_live (live_of tid tables.exec) refl (subst (λ b. IsLiveAs terms.protocols past tid b (live_of tid tables.exec)) (counts_open past site tid epoch n reply c) (s.live tid)) where
    by_live : (o : Option Live) → live_of tid tables.exec ≡ o → IsLiveAs terms.protocols past tid true o → (live : Live) × (live_of tid tables.exec ≡ Some live) × IsOfPast terms.protocols past tid live × (counts site epoch n reply live ≡ true)
    by_live None e l = absurd l
    by_live (Some live) e l = (live, e, l, sym (ap (holds_of (counts site epoch n reply)) e) ∙ counts_are tables terms past s site tid epoch n reply among ∙ c)

  -- what the table says becomes outstanding by an answer is what became so
  pub news_are : is_answer reply ≡ true → (dues : List Due) → dues ≡ or_else (map_some (news_by site epoch reply) (live_of tid tables.exec)) [] → dues ≡ fresh_news terms past site tid epoch n reply
  news_are a dues d =
      let (live, e, l, k) = own_live in
      let now = answer_of_past terms.protocols past tid live l site epoch n reply (quiet (did_event site tid epoch n reply) Say.Only) refl refl refl (rising_only site live.program terms.protocols sound.rising) a in
      d ∙ ap (λ (o : Option Live). or_else (map_some (news_by site epoch reply) o) []) e
      ∙ news_link terms.protocols past (quiet (did_event site tid epoch n reply) Say.Only ∷ past) tid live (advanced site epoch reply live) l now site refl (elsewhere_same past site tid epoch n reply)

  -- an answer that counts is sent on
  pub did_sending : is_answer reply ≡ true → (may held : Bool) (dues through : List Due) → may ≡ may_take terms.protocols terms.policy past tid → dues ≡ fresh_news terms past site tid epoch n reply → through ≡ passed may dues → held ≡ some_of (is_held may) dues
      → IsSending terms past (did_event site tid epoch n reply) tid (Some (record { site = site; epoch = epoch; n = n; reply = reply })) held through tables.exec (after_taken tid (Some (record { site = site; epoch = epoch; n = n; reply = reply })) tables.exec)
  did_sending a may held dues through m d t h = record {
    usual = tt;
    numbered = tt;
    undecided = counts_open past site tid epoch n reply c;
    line =
        did_is terms past site tid epoch n reply c ∙ did_goes terms past site tid epoch n reply a
        ∙ ap₂ (λ (f : Bool) (ds : List Due). sends_dues terms.protocols past (did_event site tid epoch n reply) tid (defers_some (those (is_held f) ds)) (passed f ds)) (sym m) (sym d)
        ∙ ap₂ (λ (w : Answer) (ds : List Due). sends_dues terms.protocols past (did_event site tid epoch n reply) tid w ds) (news_says may dues ∙ ap (λ b. says_sent false b) (sym h)) (sym t);
    about = λ u. refl;
    did = cond-true _ _ _ (same_tid-refl tid);
    no_vote = λ u at. refl;
    own = λ x heard old counted.
        let (live, e, l, k) = own_live in
        let now = answer_of_past terms.protocols past tid live l site epoch n reply x heard old counted (rising_only site live.program terms.protocols sound.rising) a in
        subst (λ (o : Option Live). IsLiveAs terms.protocols (x ∷ past) tid true o)
        (sym (live_changed tid (after_did site epoch n reply) (did_same site epoch n reply) tables.exec ∙ ap (map_some (after_did site epoch n reply)) e ∙ ap (λ (v : Live). Some v) (advances site epoch n reply live k a))) now;
    others = λ u apart. live_unchanged tid u (after_did site epoch n reply) (did_same site epoch n reply) tables.exec apart;
  }
