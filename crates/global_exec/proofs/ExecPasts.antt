-- What a line makes of an attempt that is carried out: the table's attempt goes with the past.
use Rattle.std.proofs.Common.{◌≡◌, ℕ, suc, ◌+◌, Bool, true, false, cond, not, ◌&&◌, ◌||◌, is_some, Option, Some, None, List, [], ◌∷◌, ◌++◌, map, refl, sym, ap, ap₂, ◌∙◌, arith, eqb-true, eq-eqb}
use Rattle.std.proofs.lemmas.Bool.{cond-true, cond-false, false≢true}
use Rattle.std.proofs.lemmas.List.{append-nil}
use Rattle.mdb_base.specs.declared.names.SiteId.{SiteId}
use Rattle.mdb_base.specs.declared.names.Tid.{Tid}
use Rattle.mdb_base.specs.declared.replies.Reply.{Reply}
use Rattle.mdb_base.specs.declared.replies.Reply.TheVariants as Reply_is
use Rattle.mdb_base.specs.Names.{same_site}
use Rattle.mdb_base.specs.Words.{Each, found, those, how_many, some_of, with_some}
use Rattle.mdb_base.proofs.ForCallers.{or_false, or_true, same_tid-refl, tests_agree}
use Rattle.presumptions.specs.declared.Participant.{Participant}
use Rattle.fed_rules.specs.declared.messages.FromSite.TheVariants as From
use Rattle.fed_rules.specs.declared.events.CoordEvent.TheVariants as Ev
use Rattle.fed_rules.specs.CoordPast.{CoordHappening, CoordPast, Counted, begins, counts, counted, counted_at, did_in, vote_in, vote_at, is_wait, is_ticket, last_epoch, epoch_at, oldest_first, outstanding, outstanding_at, participants_of, program, program_in, or_steps, reads, steps_done, value_in, visits}
use Rattle.fed_rules.specs.CoordPast as rules
use Rattle.global_exec.specs.declared.progress.Progress.{Progress}
use Rattle.global_exec.specs.Agreement.{IsOfPast, progress_in}
use Rattle.global_exec.specs.Counted as exec
use Rattle.global_exec.specs.Firsts.{replaced}
use Rattle.global_exec.specs.Live.{Live, is_at, voted, with_vote}
use Rattle.global_exec.specs.Pasts.{IsOnly}

pub map-same : {A B : Type 0} (f g : A → B) → ((x : A) → f x ≡ g x) → (xs : List A) → map f xs ≡ map g xs
map-same f g same [] = refl
map-same f g same (x ∷ xs) = ap₂ (λ y ys. y ∷ ys) (same x) (map-same f g same xs)

-- the pasts say the same of an attempt
pub record IsSame (now past : CoordPast) (tid : Tid) : Type 0 where
  pub program : program now tid ≡ program past tid
  pub counted : counted now tid ≡ counted past tid
  pub votes : (site : SiteId) → vote_at now tid site ≡ vote_at past tid site

-- how far an attempt has come at a participant, by the replies that counted and its vote
abbrev progress_by : List Counted → Option ℕ → Participant → Progress
progress_by replies vote participant = record {
  site = participant.site;
  epoch = last_epoch (those (λ r. same_site r.site participant.site) replies);
  n = how_many (λ r. not (is_wait r.reply)) (those (λ r. same_site r.site participant.site) replies);
  ticket = some_of (λ r. is_ticket r.reply) (those (λ r. same_site r.site participant.site) replies);
  voted = is_some vote;
}

-- an attempt of which the pasts say the same
pub same_of_past : (protocols : List Participant) (now past : CoordPast) (tid : Tid) (live : Live) → IsSame now past tid → IsOfPast protocols past tid live → IsOfPast protocols now tid live
same_of_past protocols now past tid live s is = record {
  program = is.program ∙ sym s.program;
  reads = is.reads ∙ ap (λ cs. oldest_first (found value_in cs)) (sym s.counted);
  done = is.done ∙ ap (λ cs. how_many (λ r. not (is_wait r.reply) && not (is_ticket r.reply)) cs) (sym s.counted);
  sites = is.sites ∙ map-same (progress_in past tid) (progress_in now tid) (λ p. ap₂ (λ cs v. progress_by cs v p) (sym s.counted) (sym (s.votes p.site))) (participants_of protocols live.program);
}

module _ (past : CoordPast) (tid : Tid) (x : CoordHappening) (old : begins tid x.answer ≡ false) where
  -- a line that counts nothing
  pub uncounted_same : counts x.answer ≡ false → IsSame (x ∷ past) past tid
  uncounted_same none = record {
    program = cond-false _ _ _ old;
    counted = cond-false _ _ _ old ∙ cond-false _ _ _ none;
    votes = λ site. cond-false _ _ _ old ∙ cond-false _ _ _ none;
  }

  -- a line that takes neither a reply nor a vote of the attempt
  pub elsewhere_same : did_in tid x.event ≡ None → ((site : SiteId) → vote_in tid site x.event ≡ None) → IsSame (x ∷ past) past tid
  elsewhere_same no_did no_vote = record {
    program = cond-false _ _ _ old;
    counted = cond-false _ _ _ old ∙ either (counts x.answer);
    votes = λ site. cond-false _ _ _ old ∙ either_vote site (counts x.answer);
  } where
    either : (b : Bool) → cond b (with_some (did_in tid x.event) (counted past tid)) (counted past tid) ≡ counted past tid
    either true = ap (λ o. with_some o (counted past tid)) no_did
    either false = refl

    either_vote : (site : SiteId) (b : Bool) → cond b (rules.or_vote (vote_in tid site x.event) (vote_at past tid site)) (vote_at past tid site) ≡ vote_at past tid site
    either_vote site true = ap (λ o. rules.or_vote o (vote_at past tid site)) (no_vote site)
    either_vote site false = refl

-- another item in the place of the one that passes the test
pub replaced-map : {A B : Type 0} (test : B → Bool) (change : B → B) (f g : A → B)
    → ((x : A) → test (f x) ≡ true → change (f x) ≡ g x) → ((x : A) → test (f x) ≡ false → f x ≡ g x)
    → (xs : List A) → IsOnly (λ x. test (f x)) xs → replaced test change (map f xs) ≡ map g xs
replaced-map test change f g hit miss [] only = refl
replaced-map test change f g hit miss (x ∷ xs) only = by_test (test (f x)) refl (replaced-map test change f g hit miss xs only.1) where
  missed : (ys : List _) → Each (λ y. test (f y) ≡ false) ys → map f ys ≡ map g ys
  missed [] h = refl
  missed (y ∷ ys) h = ap₂ (λ z zs. z ∷ zs) (miss y h.0) (missed ys h.1)

  by_test : (b : Bool) → test (f x) ≡ b → replaced test change (map f xs) ≡ map g xs
      → cond b (change (f x) ∷ map f xs) (f x ∷ replaced test change (map f xs)) ≡ g x ∷ map g xs
  by_test true e rest = ap₂ (λ z zs. z ∷ zs) (hit x e) (missed xs (only.0 e))
  by_test false e rest = ap₂ (λ z zs. z ∷ zs) (miss x e) rest

sites_swap : (a b : SiteId) → same_site b a ≡ same_site a b
sites_swap a b =
    tests_agree (same_site b a) (same_site a b)
    (λ e. eq-eqb a.0 b.0 (sym (eqb-true b.0 a.0 e)))
    (λ e. eq-eqb b.0 a.0 (sym (eqb-true a.0 b.0 e)))

-- what one more reply makes of the reads, the steps and a participant
reads_with : (r : Reply) (site : SiteId) (epoch : ℕ) (cs : List Counted) → exec.is_answer r ≡ true
    → oldest_first (found value_in cs) ++ exec.value_of r ≡ oldest_first (found value_in (record { site = site; epoch = epoch; reply = r } ∷ cs))
reads_with Reply_is.Done site epoch cs e = append-nil _
reads_with (Reply_is.Value value) site epoch cs e = refl
reads_with (Reply_is.Ticket ticket) site epoch cs e = append-nil _
reads_with (Reply_is.Wait by) site epoch cs e = absurd (false≢true e)
reads_with (Reply_is.Refused why) site epoch cs e = absurd (false≢true e)
reads_with Reply_is.Unknown site epoch cs e = absurd (false≢true e)

abbrev is_step : Counted → Bool
is_step r = not (is_wait r.reply) && not (is_ticket r.reply)

done_with : (r : Reply) (site : SiteId) (epoch : ℕ) (cs : List Counted) → exec.is_answer r ≡ true
    → how_many is_step cs + exec.steps_of r ≡ how_many is_step (record { site = site; epoch = epoch; reply = r } ∷ cs)
done_with Reply_is.Done site epoch cs e = omega arith
done_with (Reply_is.Value value) site epoch cs e = omega arith
done_with (Reply_is.Ticket ticket) site epoch cs e = omega arith
done_with (Reply_is.Wait by) site epoch cs e = absurd (false≢true e)
done_with (Reply_is.Refused why) site epoch cs e = absurd (false≢true e)
done_with Reply_is.Unknown site epoch cs e = absurd (false≢true e)

-- a participant with these replies
abbrev progress_of : List Counted → Option ℕ → Participant → Progress
progress_of here vote participant = record {
  site = participant.site;
  epoch = last_epoch here;
  n = how_many (λ r. not (is_wait r.reply)) here;
  ticket = some_of (λ r. is_ticket r.reply) here;
  voted = is_some vote;
}

progress_with : (r : Reply) (site : SiteId) (epoch : ℕ) (here : List Counted) (vote : Option ℕ) (p : Participant) → exec.is_answer r ≡ true
    → exec.answered epoch r (progress_of here vote p) ≡ progress_of (record { site = site; epoch = epoch; reply = r } ∷ here) vote p
progress_with Reply_is.Done site epoch here vote p e = plain (or_false (some_of (λ r. is_ticket r.reply) here)) where
  plain : (some_of (λ r. is_ticket r.reply) here || false) ≡ some_of (λ r. is_ticket r.reply) here → exec.answered epoch Reply_is.Done (progress_of here vote p) ≡ progress_of (record { site = site; epoch = epoch; reply = Reply_is.Done } ∷ here) vote p
  plain t = let m : how_many (λ r. not (is_wait r.reply)) here + 1 ≡ suc (how_many (λ r. not (is_wait r.reply)) here) = omega arith in
      ap₂ (λ a b. record { site = p.site; epoch = epoch; n = a; ticket = b; voted = is_some vote }) m t
progress_with (Reply_is.Value value) site epoch here vote p e =
    let m : how_many (λ r. not (is_wait r.reply)) here + 1 ≡ suc (how_many (λ r. not (is_wait r.reply)) here) = omega arith in
    ap₂ (λ a b. record { site = p.site; epoch = epoch; n = a; ticket = b; voted = is_some vote }) m (or_false (some_of (λ r. is_ticket r.reply) here))
progress_with (Reply_is.Ticket ticket) site epoch here vote p e =
    let m : how_many (λ r. not (is_wait r.reply)) here + 1 ≡ suc (how_many (λ r. not (is_wait r.reply)) here) = omega arith in
    ap₂ (λ a b. record { site = p.site; epoch = epoch; n = a; ticket = b; voted = is_some vote }) m (or_true (some_of (λ r. is_ticket r.reply) here))
progress_with (Reply_is.Wait by) site epoch here vote p e = absurd (false≢true e)
progress_with (Reply_is.Refused why) site epoch here vote p e = absurd (false≢true e)
progress_with Reply_is.Unknown site epoch here vote p e = absurd (false≢true e)

-- a line that counts a reply of the attempt
module _ (protocols : List Participant) (past : CoordPast) (tid : Tid) (live : Live) (is : IsOfPast protocols past tid live)
    (site : SiteId) (epoch n : ℕ) (reply : Reply) (x : CoordHappening) (event : x.event ≡ Ev.Take site (From.Did tid epoch n reply))
    (old : begins tid x.answer ≡ false) (counts_it : counts x.answer ≡ true)
    (only : IsOnly (λ p. same_site p.site site) (participants_of protocols live.program)) where
  did_is : did_in tid x.event ≡ Some (record { site = site; epoch = epoch; reply = reply })
  did_is = ap (did_in tid) event ∙ cond-true _ _ _ (same_tid-refl tid)

  pub counted_is : counted (x ∷ past) tid ≡ record { site = site; epoch = epoch; reply = reply } ∷ counted past tid
  counted_is = cond-false _ _ _ old ∙ cond-true _ _ _ counts_it ∙ ap (λ o. with_some o (counted past tid)) did_is

  no_vote : (s : SiteId) → vote_at (x ∷ past) tid s ≡ vote_at past tid s
  no_vote s = cond-false _ _ _ old ∙ cond-true _ _ _ counts_it ∙ ap (λ e. rules.or_vote (vote_in tid s e) (vote_at past tid s)) event

  program_is : program (x ∷ past) tid ≡ program past tid
  program_is = cond-false _ _ _ old

  abbrev here_or : Bool → Participant → Progress
  here_or b p = progress_of (cond b (record { site = site; epoch = epoch; reply = reply } ∷ counted_at past tid p.site) (counted_at past tid p.site)) (vote_at past tid p.site) p

  progress_is : (p : Participant) (b : Bool) → same_site p.site site ≡ b → progress_in (x ∷ past) tid p ≡ here_or b p
  progress_is p b e = ap₂ (λ cs v. progress_by cs v p) counted_is (no_vote p.site) ∙ ap (λ t. here_or t p) (sites_swap p.site site ∙ e)

  sites_after : (change : Progress → Progress) → ((p : Participant) → change (progress_in past tid p) ≡ here_or true p)
      → replaced (is_at site) change live.sites ≡ map (progress_in (x ∷ past) tid) (participants_of protocols live.program)
  sites_after change hit =
      ap (replaced (is_at site) change) is.sites
      ∙ replaced-map (is_at site) change (progress_in past tid) (progress_in (x ∷ past) tid) (λ p e. hit p ∙ sym (progress_is p true e)) (λ p e. sym (progress_is p false e))
      (participants_of protocols live.program) only

  -- a wait fixes the epoch of its site
  pub wait_of_past : (by : Tid) → reply ≡ Reply_is.Wait by → IsOfPast protocols (x ∷ past) tid (exec.waited site epoch live)
  wait_of_past by e = record {
    program = is.program ∙ sym program_is;
    reads = is.reads ∙ sym (ap (λ cs. oldest_first (found value_in cs)) counted_is ∙ ap (λ r. oldest_first (found value_in (record { site = site; epoch = epoch; reply = r } ∷ counted past tid))) e);
    done = is.done ∙ sym (ap (how_many is_step) counted_is ∙ ap (λ r. how_many is_step (record { site = site; epoch = epoch; reply = r } ∷ counted past tid)) e);
    sites = sites_after (exec.with_epoch epoch) (λ p. sym (ap (λ r. progress_of (record { site = site; epoch = epoch; reply = r } ∷ counted_at past tid p.site) (vote_at past tid p.site) p) e));
  }

  -- another answer is read, and goes on
  pub answer_of_past : exec.is_answer reply ≡ true → IsOfPast protocols (x ∷ past) tid (exec.advanced site epoch reply live)
  answer_of_past e = record {
    program = is.program ∙ sym program_is;
    reads = ap (λ vs. vs ++ exec.value_of reply) is.reads ∙ reads_with reply site epoch (counted past tid) e ∙ sym (ap (λ cs. oldest_first (found value_in cs)) counted_is);
    done = ap (λ m. m + exec.steps_of reply) is.done ∙ done_with reply site epoch (counted past tid) e ∙ sym (ap (how_many is_step) counted_is);
    sites = sites_after (exec.answered epoch reply) (λ p. progress_with reply site epoch (counted_at past tid p.site) (vote_at past tid p.site) p e);
  }

-- a line that counts a yes vote of the attempt
module _ (protocols : List Participant) (past : CoordPast) (tid : Tid) (live : Live) (is : IsOfPast protocols past tid live)
    (site : SiteId) (ticket : ℕ) (x : CoordHappening) (event : x.event ≡ Ev.Take site (From.Vote tid (Some ticket)))
    (old : begins tid x.answer ≡ false) (counts_it : counts x.answer ≡ true)
    (only : IsOnly (λ p. same_site p.site site) (participants_of protocols live.program)) where
  vote_counted : counted (x ∷ past) tid ≡ counted past tid
  vote_counted = cond-false _ _ _ old ∙ cond-true _ _ _ counts_it ∙ ap (λ e. with_some (did_in tid e) (counted past tid)) event

  pub vote_is : (s : SiteId) (b : Bool) → same_site s site ≡ b → vote_at (x ∷ past) tid s ≡ cond b (Some ticket) (vote_at past tid s)
  vote_is s b e =
      cond-false _ _ _ old ∙ cond-true _ _ _ counts_it ∙ ap (λ ev. rules.or_vote (vote_in tid s ev) (vote_at past tid s)) event
      ∙ ap (λ t. rules.or_vote (cond t (Some ticket) None) (vote_at past tid s)) (ap₂ (λ u v. u && v) (same_tid-refl tid) (sites_swap s site ∙ e)) ∙ by_test b
    where
      by_test : (t : Bool) → rules.or_vote (cond t (Some ticket) None) (vote_at past tid s) ≡ cond t (Some ticket) (vote_at past tid s)
      by_test true = refl
      by_test false = refl

  voted_is : (p : Participant) (b : Bool) → same_site p.site site ≡ b → progress_in (x ∷ past) tid p ≡ progress_by (counted past tid) (cond b (Some ticket) (vote_at past tid p.site)) p
  voted_is p b e = ap₂ (λ cs v. progress_by cs v p) vote_counted (vote_is p.site b e)

  pub vote_of_past : IsOfPast protocols (x ∷ past) tid (voted site live)
  vote_of_past = record {
    program = is.program ∙ sym (cond-false _ _ _ old);
    reads = is.reads ∙ ap (λ cs. oldest_first (found value_in cs)) (sym vote_counted);
    done = is.done ∙ ap (how_many is_step) (sym vote_counted);
    sites = ap (replaced (is_at site) with_vote) is.sites
        ∙ replaced-map (is_at site) with_vote (progress_in past tid) (progress_in (x ∷ past) tid) (λ p e. sym (voted_is p true e)) (λ p e. sym (voted_is p false e))
        (participants_of protocols live.program) only;
  }
