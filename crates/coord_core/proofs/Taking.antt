-- What messages of sites come to.
use Rattle.std.proofs.Common.{◌≡◌, ℕ, Bool, true, false, [], refl, sym, subst, ◌∙◌}
use Rattle.mdb_base.specs.declared.names.SiteId.{SiteId}
use Rattle.mdb_base.specs.declared.names.Tid.{Tid}
use Rattle.mdb_base.specs.declared.replies.Reply.{Reply}
use Rattle.mdb_base.specs.declared.replies.Reply.TheVariants as Reply_is
use Rattle.mdb_base.specs.declared.replies.Why.TheVariants as Because
use Rattle.mdb_base.specs.Words.{holds_of}
use Rattle.fed_rules.specs.declared.answers.Answer.TheVariants as Say
use Rattle.fed_rules.specs.declared.answers.Cause.TheVariants as For
use Rattle.fed_rules.specs.declared.events.CoordEvent.TheVariants as Ev
use Rattle.fed_rules.specs.declared.events.CoordStep.{CoordStep}
use Rattle.fed_rules.specs.declared.messages.FromSite.TheVariants as From
use Rattle.fed_rules.specs.Happenings.{quiet}
use Rattle.fed_rules.specs.Coord.{answered, did_counts, of_inquiry, of_take}
use Rattle.fed_rules.specs.CoordPast.{CoordPast}
use Rattle.fed_rules.specs.Policies.{Policy}
use Rattle.journal_disk.specs.Disk.{Seen}
use Rattle.fed_rules.proofs.ForCallers.{counts_open}
use Rattle.actor_store.specs.declared.store.Standing.TheVariants.{Up}
use Rattle.global_exec.specs.Counted.{counts}
use Rattle.global_exec.specs.Live.{live_of}
use Rattle.global_exec.specs.Pasts.{IsAmong}
use Rattle.coord_core.specs.declared.coord.CoordCore.{CoordCore}
use Rattle.coord_tables.specs.declared.replies.Taken.{Taken}
use Rattle.coord_tables.specs.Deciding.{IsAborting}
use Rattle.coord_tables.specs.Replies.{reply_event}
use Rattle.coord_core.specs.Stands.{Stands, Steps}
use Rattle.coord_core.specs.Steps.{Says}
use Rattle.coord_tables.specs.Terms.{Terms, answer_of, line_of}
use Rattle.coord_tables.proofs.ForCallers.{counts_are, did_dies, did_event, did_ignored, did_late, did_unknown, inquiry_calm, uncounted_calm}
use Rattle.coord_core.proofs.Events.{calm_steps}
use Rattle.coord_core.proofs.Still.{serves}

-- the answer is that the reply counts, or that it doesn't
pub counted_as : {P : Type 0} (test : P → Policy) (tells : Bool) (core : CoordCore P) (seen : Seen) (terms : Terms) (past : CoordPast) (tid : Tid) (taken : Taken) (b : Bool)
    → Stands test tells core seen terms past → core.store.standing ≡ Up → IsAmong taken.site terms.protocols → b ≡ holds_of (counts taken.site taken.epoch taken.n taken.reply) (live_of tid core.tables.exec)
    → did_counts past taken.site tid taken.epoch taken.n taken.reply ≡ b
counted_as test tells core seen terms past tid taken b k up among is =
    sym (is ∙ counts_are core.tables terms past (serves test tells core terms past k.holds up) taken.site tid taken.epoch taken.n taken.reply among)

-- a reply that doesn't count
pub ignored_steps : {P : Type 0} (test : P → Policy) (tells : Bool) (step : CoordStep) (core : CoordCore P) (seen : Seen) (terms : Terms) (past : CoordPast) (tid : Tid) (taken : Taken)
    → Stands test tells core seen terms past → core.store.standing ≡ Up → IsAmong taken.site terms.protocols → did_counts past taken.site tid taken.epoch taken.n taken.reply ≡ false
    → step.answer ≡ Say.Ignored → step.sends ≡ [] → Steps test tells 0 seen step core seen terms past (line_of terms past (reply_event tid taken))
ignored_steps test tells step core seen terms past tid taken k up among off said silent =
    calm_steps test tells step core core seen terms past (reply_event tid taken) (quiet (reply_event tid taken) Say.Ignored) k up among tt
    (did_ignored terms past taken.site tid taken.epoch taken.n taken.reply off) refl (uncounted_calm (reply_event tid taken) Say.Ignored tt refl) (record { answer = said; sends = silent }) refl

-- replies that decide the attempt abort
abbrev as_reply : Taken → Reply → Taken
as_reply taken reply = record { site = taken.site; epoch = taken.epoch; n = taken.n; reply = reply }

unknown_of : (terms : Terms) (past : CoordPast) (site : SiteId) (tid : Tid) (epoch n : ℕ) → did_counts past site tid epoch n Reply_is.Unknown ≡ true → IsAborting terms past (did_event site tid epoch n Reply_is.Unknown) tid (For.Unknown site)
unknown_of terms past site tid epoch n c = record {
  usual = tt;
  numbered = tt;
  undecided = counts_open past site tid epoch n Reply_is.Unknown c;
  cause = For.Unknown site;
  line = did_unknown terms past site tid epoch n c;
  about = λ t. refl;
  prints = λ x forgets heard e. sym e;
}

dies_of : (terms : Terms) (past : CoordPast) (site : SiteId) (tid : Tid) (epoch n : ℕ) (by : Tid) → did_counts past site tid epoch n (Reply_is.Refused (Because.Die by)) ≡ true
    → IsAborting terms past (did_event site tid epoch n (Reply_is.Refused (Because.Die by))) tid (For.Dies site by)
dies_of terms past site tid epoch n by c = record {
  usual = tt;
  numbered = tt;
  undecided = counts_open past site tid epoch n (Reply_is.Refused (Because.Die by)) c;
  cause = For.Dies site by;
  line = did_dies terms past site tid epoch n by c;
  about = λ t. refl;
  prints = λ x forgets heard e. sym e;
}

late_of : (terms : Terms) (past : CoordPast) (site : SiteId) (tid : Tid) (epoch n : ℕ) (by : Tid) → did_counts past site tid epoch n (Reply_is.Refused (Because.Late by)) ≡ true
    → IsAborting terms past (did_event site tid epoch n (Reply_is.Refused (Because.Late by))) tid (For.TooLate site by)
late_of terms past site tid epoch n by c = record {
  usual = tt;
  numbered = tt;
  undecided = counts_open past site tid epoch n (Reply_is.Refused (Because.Late by)) c;
  cause = For.TooLate site by;
  line = did_late terms past site tid epoch n by c;
  about = λ t. refl;
  prints = λ x forgets heard e. sym e;
}

pub unknown_aborting : (terms : Terms) (past : CoordPast) (tid : Tid) (taken : Taken) → taken.reply ≡ Reply_is.Unknown → did_counts past taken.site tid taken.epoch taken.n taken.reply ≡ true → IsAborting terms past (reply_event tid taken) tid (For.Unknown taken.site)
unknown_aborting terms past tid taken is c =
    subst (λ (r : Reply). IsAborting terms past (reply_event tid (as_reply taken r)) tid (For.Unknown taken.site)) (sym is)
    (unknown_of terms past taken.site tid taken.epoch taken.n (subst (λ (r : Reply). did_counts past taken.site tid taken.epoch taken.n r ≡ true) is c))

pub dies_aborting : (terms : Terms) (past : CoordPast) (tid : Tid) (taken : Taken) (by : Tid) → taken.reply ≡ Reply_is.Refused (Because.Die by) → did_counts past taken.site tid taken.epoch taken.n taken.reply ≡ true
    → IsAborting terms past (reply_event tid taken) tid (For.Dies taken.site by)
dies_aborting terms past tid taken by is c =
    subst (λ (r : Reply). IsAborting terms past (reply_event tid (as_reply taken r)) tid (For.Dies taken.site by)) (sym is)
    (dies_of terms past taken.site tid taken.epoch taken.n by (subst (λ (r : Reply). did_counts past taken.site tid taken.epoch taken.n r ≡ true) is c))

pub late_aborting : (terms : Terms) (past : CoordPast) (tid : Tid) (taken : Taken) (by : Tid) → taken.reply ≡ Reply_is.Refused (Because.Late by) → did_counts past taken.site tid taken.epoch taken.n taken.reply ≡ true
    → IsAborting terms past (reply_event tid taken) tid (For.TooLate taken.site by)
late_aborting terms past tid taken by is c =
    subst (λ (r : Reply). IsAborting terms past (reply_event tid (as_reply taken r)) tid (For.TooLate taken.site by)) (sym is)
    (late_of terms past taken.site tid taken.epoch taken.n by (subst (λ (r : Reply). did_counts past taken.site tid taken.epoch taken.n r ≡ true) is c))

-- an inquiry
inquiry_answered : (terms : Terms) (past : CoordPast) (site : SiteId) (tid : Tid) → answer_of terms past (Ev.Take site (From.Inquiry tid)) ≡ of_inquiry terms.protocols past site tid
unfolding answered of_take
inquiry_answered terms past site tid = refl

pub inquiry_steps : {P : Type 0} (test : P → Policy) (tells : Bool) (step : CoordStep) (core : CoordCore P) (seen : Seen) (terms : Terms) (past : CoordPast) (site : SiteId) (tid : Tid)
    → Stands test tells core seen terms past → core.store.standing ≡ Up → IsAmong site terms.protocols → Says step (of_inquiry terms.protocols past site tid)
    → Steps test tells 0 seen step core seen terms past (line_of terms past (Ev.Take site (From.Inquiry tid)))
inquiry_steps test tells step core seen terms past site tid k up among says =
    let c = inquiry_calm terms.protocols past site tid in
    calm_steps test tells step core core seen terms past (Ev.Take site (From.Inquiry tid)) (of_inquiry terms.protocols past site tid) k up among tt (inquiry_answered terms past site tid) c.1 c.0 says refl
