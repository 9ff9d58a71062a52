-- What is true of each attempt stays true.
use Rattle.std.proofs.Common.{◌≡◌, ℕ, ◌+◌, ◌<◌, ◌≤◌, ◌⊎◌, Bool, true, false, cond, ◌||◌, Option, Some, None, List, [], ◌∷◌, ◌++◌, length, take, refl, sym, ap, ◌∙◌, subst, inl, inr, arith, add-one, length-append}
use Rattle.std.proofs.lemmas.Bool.{and_parts, false≢true}
use Rattle.mdb_base.specs.declared.acts.Step.{Step}
use Rattle.mdb_base.specs.declared.names.SiteId.{SiteId}
use Rattle.mdb_base.specs.declared.names.Tid.{Tid}
use Rattle.mdb_base.specs.declared.replies.Reply.{Reply}
use Rattle.mdb_base.specs.declared.replies.Reply.TheVariants as Reply_is
use Rattle.mdb_base.specs.Programs.{IsProgram, is_get, reads_of}
use Rattle.mdb_base.specs.Words.{Each, first_where, found, holds_of, with_some}
use Rattle.std.proofs.lemmas.List.{length-take}
use Rattle.mdb_base.proofs.ForCallers.{each_map, how_many_at_most}
use Rattle.fed_rules.specs.CoordPast.{visits}
use Rattle.global_exec.specs.declared.progress.Progress.{Progress}
use Rattle.global_exec.specs.Counted.{HasRoom, advanced, answered, counts, counts_at, is_answer, knows, steps_of, value_of, waited, with_epoch}
use Rattle.global_exec.specs.Due.{fresh}
use Rattle.global_exec.specs.Firsts.{replaced}
use Rattle.global_exec.specs.Live.{IsLive, Live, all_sites, fresh_at, is_at, most, progress_at, site_number, submitted, voted, with_vote}
use Rattle.global_exec.proofs.Rises.{found_rises, rising_replaced}
use Rattle.global_exec.proofs.Steps.{FitsStep, FitsTake, due_fits, value_of_get, done_of_write, no_ticket_of_act, more_within, how_many-more}

-- a change of the first one, and more steps
few_replaced : (test : Progress → Bool) (change : Progress → Progress) (before now : ℕ) → before ≤ now → (ps : List Progress) → ((p : Progress) → first_where test ps ≡ Some p → p.n ≤ most before p → (change p).n ≤ most now (change p)) → Each (λ p. p.n ≤ most before p) ps → Each (λ p. p.n ≤ most now p) (replaced test change ps)
few_replaced test change before now le [] at h = tt
few_replaced test change before now le (p ∷ ps) at h = by_test (test p) refl at (few_replaced test change before now le ps)
  where
    rest_few : Each (λ q. q.n ≤ most now q) ps
    rest_few = each_map (λ q. q.n ≤ most before q) (λ q. q.n ≤ most now q) (λ q few. omega arith) ps h.1

    by_test : (b : Bool) → test p ≡ b → ((q : Progress) → cond b (Some p) (first_where test ps) ≡ Some q → q.n ≤ most before q → (change q).n ≤ most now (change q)) → (((q : Progress) → first_where test ps ≡ Some q → q.n ≤ most before q → (change q).n ≤ most now (change q)) → Each (λ q. q.n ≤ most before q) ps → Each (λ q. q.n ≤ most now q) (replaced test change ps)) → Each (λ q. q.n ≤ most now q) (cond b (change p ∷ ps) (p ∷ replaced test change ps))
    by_test true is at rest = (at p refl h.0, rest_few)
    by_test false is at rest = (omega (arith, h.0), rest at h.1)

pub live_waited : (site : SiteId) (epoch : ℕ) (live : Live) → IsLive live → IsLive (waited site epoch live)
live_waited site epoch live h = record {
  program = h.program;
  within = h.within;
  reads = h.reads;
  rising = rising_replaced site_number (is_at site) (with_epoch epoch) (λ p. refl) live.sites h.rising;
  few = few_replaced (is_at site) (with_epoch epoch) live.done live.done (omega arith) live.sites (λ p is few. few) h.few;
}

pub live_voted : (site : SiteId) (live : Live) → IsLive live → IsLive (voted site live)
live_voted site live h = record {
  program = h.program;
  within = h.within;
  reads = h.reads;
  rising = rising_replaced site_number (is_at site) with_vote (λ p. refl) live.sites h.rising;
  few = few_replaced (is_at site) with_vote live.done live.done (omega arith) live.sites (λ p is few. few) h.few;
}

-- each participant has room for one more reply
pub rooms : (live : Live) → IsLive live → Each HasRoom live.sites
rooms live h =
    each_map (λ p. p.n ≤ most live.done p) HasRoom (λ p few. below p.ticket p.n few) live.sites h.few
  where
    below : (b : Bool) (n : ℕ) → n ≤ live.done + cond b 1 0 → n < 255
    below true n few = omega (arith, h.within, h.program.few)
    below false n few = omega (arith, h.within, h.program.few)

-- the participant of whom a reply counts, and what the reply fits
pub record Fits (site : SiteId) (reply : Reply) (live : Live) : Type 0 where
  pub progress : Progress
  pub first : progress_at site live ≡ Some progress
  pub fits : FitsStep live.program live.done live.reads reply ⊎ FitsTake progress reply

pub fits_of : (site : SiteId) (epoch n : ℕ) (reply : Reply) (live : Live) → counts site epoch n reply live ≡ true → Fits site reply live
fits_of site epoch n reply live e = by_first (progress_at site live) refl e
  where
    by_first : (o : Option Progress) → progress_at site live ≡ o → holds_of (counts_at live epoch n reply) o ≡ true → Fits site reply live
    by_first None is e = absurd (false≢true e)
    by_first (Some p) is e = record {
      progress = p;
      first = is;
      fits = due_fits live.program live.done live.reads p n reply (and_parts _ (knows p.epoch epoch) e).0;
    }

-- what an answer makes of how far the attempt has come
record Goes (reply : Reply) (live : Live) : Type 0 where
  within : live.done + steps_of reply ≤ length live.program
  reads : length (live.reads ++ value_of reply) ≡ reads_of (take (live.done + steps_of reply) live.program)

by_step : (live : Live) → IsLive live → (reply : Reply) (step : FitsStep live.program live.done live.reads reply) → steps_of reply ≡ 1 → length (value_of reply) ≡ cond (is_get step.step.act) 1 0 → Goes reply live
by_step live h reply step one reads = record {
  within = omega (arith, one, more_within live.program live.done step.step step.next);
  reads =
      length-append live.reads (value_of reply) ∙ ap (λ n. n + length (value_of reply)) h.reads ∙ ap (λ n. reads_of (take live.done live.program) + n) reads
      ∙ sym (how_many-more (λ s. is_get s.act) live.program live.done step.step step.next)
      ∙ ap (λ n. reads_of (take n live.program)) (sym (add-one live.done) ∙ ap (λ n. live.done + n) (sym one));
}

goes : (site : SiteId) (live : Live) → IsLive live → (reply : Reply) → is_answer reply ≡ true → Fits site reply live → Goes reply live
goes site live h (Reply_is.Value value) is f = by_fit f.fits
  where
    by_fit : FitsStep live.program live.done live.reads (Reply_is.Value value) ⊎ FitsTake f.progress (Reply_is.Value value) → Goes (Reply_is.Value value) live
    by_fit (inl step) = by_step live h (Reply_is.Value value) step refl (ap (λ b. cond b 1 0) (sym (value_of_get live.reads step.step.act value step.fits)))
    by_fit (inr t) = absurd (false≢true t.fits)
goes site live h Reply_is.Done is f = by_fit f.fits
  where
    by_fit : FitsStep live.program live.done live.reads Reply_is.Done ⊎ FitsTake f.progress Reply_is.Done → Goes Reply_is.Done live
    by_fit (inl step) = by_step live h Reply_is.Done step refl (ap (λ b. cond b 1 0) (sym (done_of_write live.reads step.step.act step.fits)))
    by_fit (inr t) = absurd (false≢true t.fits)
goes site live h (Reply_is.Ticket ticket) is f = record {
  within = omega (arith, h.within);
  reads = length-append live.reads [] ∙ omega (arith, h.reads) ∙ ap (λ n. reads_of (take n live.program)) none;
}
  where
    none : live.done ≡ live.done + 0
    none = omega arith
goes site live h (Reply_is.Wait by) is f = absurd (false≢true is)
goes site live h (Reply_is.Refused why) is f = absurd (false≢true is)
goes site live h Reply_is.Unknown is f = absurd (false≢true is)

-- the count of the participant that answered
few_answered : (site : SiteId) (epoch : ℕ) (live : Live) (reply : Reply) → is_answer reply ≡ true → Fits site reply live → (p : Progress) → progress_at site live ≡ Some p → p.n ≤ most live.done p → (answered epoch reply p).n ≤ most (live.done + steps_of reply) (answered epoch reply p)
few_answered site epoch live (Reply_is.Value value) is f p at few = by_ticket p.ticket few
  where
    by_ticket : (b : Bool) → p.n ≤ live.done + cond b 1 0 → p.n + 1 ≤ live.done + 1 + cond (b || false) 1 0
    by_ticket true few = omega arith
    by_ticket false few = omega arith
few_answered site epoch live Reply_is.Done is f p at few = by_ticket p.ticket few
  where
    by_ticket : (b : Bool) → p.n ≤ live.done + cond b 1 0 → p.n + 1 ≤ live.done + 1 + cond (b || false) 1 0
    by_ticket true few = omega arith
    by_ticket false few = omega arith
few_answered site epoch live (Reply_is.Ticket ticket) is f p at few = by_fit f.fits
  where
    by_fit : FitsStep live.program live.done live.reads (Reply_is.Ticket ticket) ⊎ FitsTake f.progress (Reply_is.Ticket ticket) → p.n + 1 ≤ live.done + 0 + cond (p.ticket || true) 1 0
    by_fit (inl step) = absurd (no_ticket_of_act live.reads step.step.act ticket step.fits)
    by_fit (inr t) =
        let same : f.progress ≡ p = some_same (sym f.first ∙ at) in
        let untaken : p.ticket ≡ false = subst (λ (q : Progress). q.ticket ≡ false) same t.untaken in
        by_ticket p.ticket untaken few
      where
        some_same : Some f.progress ≡ Some p → f.progress ≡ p
        some_same e = cc

        by_ticket : (b : Bool) → b ≡ false → p.n ≤ live.done + cond b 1 0 → p.n + 1 ≤ live.done + 0 + cond (b || true) 1 0
        by_ticket true none few = absurd (false≢true (sym none))
        by_ticket false none few = omega arith
few_answered site epoch live (Reply_is.Wait by) is f p at few = absurd (false≢true is)
few_answered site epoch live (Reply_is.Refused why) is f p at few = absurd (false≢true is)
few_answered site epoch live Reply_is.Unknown is f p at few = absurd (false≢true is)

pub live_advanced : (site : SiteId) (epoch n : ℕ) (reply : Reply) (live : Live) → counts site epoch n reply live ≡ true → is_answer reply ≡ true → IsLive live → IsLive (advanced site epoch reply live)
live_advanced site epoch n reply live counted is h =
    let f = fits_of site epoch n reply live counted in
    let g = goes site live h reply is f in
    record {
      program = h.program;
      within = g.within;
      reads = g.reads;
      rising = rising_replaced site_number (is_at site) (answered epoch reply) (λ p. refl) live.sites h.rising;
      few = few_replaced (is_at site) (answered epoch reply) live.done (live.done + steps_of reply) (omega arith) live.sites (few_answered site epoch live reply is f) h.few;
    }

-- an attempt as it is submitted
fresh_found : (program : List Step) (site : SiteId) (p : Progress) → fresh_at program site ≡ Some p → p ≡ fresh site
fresh_found program site p e = by_visit (visits site program) e
  where
    by_visit : (b : Bool) → cond b (Some (fresh site)) None ≡ Some p → p ≡ fresh site
    by_visit true e = cc
    by_visit false e = cc

fresh_few : (program : List Step) (sites : List SiteId) → Each (λ p. p.n ≤ most 0 p) (found (fresh_at program) sites)
fresh_few program [] = tt
fresh_few program (s ∷ ss) = by_visit (visits s program) (fresh_few program ss)
  where
    by_visit : (b : Bool) → Each (λ p. p.n ≤ most 0 p) (found (fresh_at program) ss) → Each (λ p. p.n ≤ most 0 p) (with_some (cond b (Some (fresh s)) None) (found (fresh_at program) ss))
    by_visit true rest = (omega arith, rest)
    by_visit false rest = rest

pub live_submitted : (tid : Tid) (program : List Step) → IsProgram program → IsLive (submitted tid program)
live_submitted tid program is = record {
  program = is;
  within = omega arith;
  reads = no_reads program;
  rising = found_rises (λ (s : SiteId). s.0) site_number (fresh_at program) (λ s p e. ap site_number (fresh_found program s p e)) all_sites
      (omega arith, (omega arith, (omega arith, (omega arith, (omega arith, (omega arith, (omega arith, tt)))))));
  few = fresh_few program all_sites;
}
  where
    no_reads : (steps : List Step) → 0 ≡ reads_of (take 0 steps)
    no_reads [] = refl
    no_reads (s ∷ ss) = refl

-- ---- room for what is read

take_at_most : {A : Type 0} (n : ℕ) (xs : List A) → length (take n xs) ≤ length xs
take_at_most n xs = rw (length-take n xs) (omega arith)

-- what is read fits into as much room as the program is long
pub reads_fit : (site : SiteId) (epoch n : ℕ) (reply : Reply) (live : Live) → counts site epoch n reply live ≡ true → is_answer reply ≡ true → IsLive live →
    length live.reads + length (value_of reply) ≤ length live.program
reads_fit site epoch n reply live c a l =
    let after = live_advanced site epoch n reply live c a l in
    let whole : length (live.reads ++ value_of reply) ≡ length live.reads + length (value_of reply) = length-append live.reads (value_of reply) in
    let read : length (live.reads ++ value_of reply) ≡ reads_of (take (live.done + steps_of reply) live.program) = after.reads in
    let few : reads_of (take (live.done + steps_of reply) live.program) ≤ length (take (live.done + steps_of reply) live.program) = how_many_at_most (λ (step : Step). is_get step.act) (take (live.done + steps_of reply) live.program) in
    let short = take_at_most (live.done + steps_of reply) live.program in
    omega arith
