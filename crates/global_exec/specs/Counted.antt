-- Which replies count, and what a reply that counts leads to.
use Rattle.std.specs.Prelude.{ℕ, ◌+◌, ◌<◌, ◌==◌, Bool, true, false, cond, ◌&&◌, ◌||◌, Option, None, List, [], ◌∷◌, ◌++◌}
use Rattle.mdb_base.specs.declared.acts.Step.{Step}
use Rattle.mdb_base.specs.declared.names.SiteId.{SiteId}
use Rattle.mdb_base.specs.declared.program.Next.{Next}
use Rattle.mdb_base.specs.declared.replies.Reply.{Reply}
use Rattle.mdb_base.specs.declared.replies.Reply.TheVariants as Reply_is
use Rattle.mdb_base.specs.Names.{same_site}
use Rattle.mdb_base.specs.Words.{found, holds_of}
use Rattle.fed_rules.specs.declared.messages.Due.{Due}
use Rattle.fed_rules.specs.Coord.{fits}
use Rattle.fed_rules.specs.CoordPast.{is_ticket}
use Rattle.global_exec.specs.declared.progress.Progress.{Progress}
use Rattle.global_exec.specs.declared.ends.DidEnd.{DidEnd}
use Rattle.global_exec.specs.declared.ends.DidEnd.TheVariants as Did
use Rattle.global_exec.specs.Due.{due_left, is_idle, work}
use Rattle.global_exec.specs.Firsts.{replaced}
use Rattle.global_exec.specs.Live.{Live, due_in, is_at, progress_at}

-- whether the epoch is the known one, or none is known
abbrev pub knows : ℕ → ℕ → Bool
knows known epoch = (known == 0) || (epoch == known)

-- a reply counts where it fits what is outstanding at its site, with its count, and its epoch is the known one, or none is known
abbrev pub counts_at : Live → ℕ → ℕ → Reply → Progress → Bool
counts_at live epoch n reply progress = fits (due_in live progress) n reply && knows progress.epoch epoch

abbrev pub counts : SiteId → ℕ → ℕ → Reply → Live → Bool
counts site epoch n reply live = holds_of (counts_at live epoch n reply) (progress_at site live)

abbrev pub with_epoch : ℕ → Progress → Progress
with_epoch epoch progress = record progress { epoch = epoch }

-- a wait that counts fixes the epoch of its site
abbrev pub waited : SiteId → ℕ → Live → Live
waited site epoch live = record live { sites = replaced (is_at site) (with_epoch epoch) live.sites }

-- one more reply of the participant, with this epoch
abbrev pub answered : ℕ → Reply → Progress → Progress
answered epoch reply progress =
    record progress { epoch = epoch; n = progress.n + 1; ticket = progress.ticket || is_ticket reply }

-- one more reply of the participant fits
abbrev pub HasRoom : Progress → Type 0
HasRoom progress = progress.n < 255

-- how many steps a reply answers: a ticket none
abbrev pub steps_of : Reply → ℕ
steps_of reply = cond (is_ticket reply) 0 1

-- whether a reply is neither a wait nor a refusal
abbrev pub is_answer : Reply → Bool
is_answer Reply_is.Done = true
is_answer (Reply_is.Value value) = true
is_answer (Reply_is.Ticket ticket) = true
is_answer reply = false

abbrev pub value_of : Reply → List ℕ
value_of (Reply_is.Value value) = value ∷ []
value_of reply = []

-- an answer other than a wait and a refusal counts: a value is read, and but for a ticket a step is done
abbrev pub advanced : SiteId → ℕ → Reply → Live → Live
advanced site epoch reply live = record live {
  reads = live.reads ++ value_of reply;
  done = live.done + steps_of reply;
  sites = replaced (is_at site) (answered epoch reply) live.sites;
}

-- whether what is outstanding became so: at this site, or where nothing was
abbrev pub is_news : SiteId → List Step → ℕ → Progress → Bool
is_news site program before progress = same_site progress.site site || is_idle program before progress

-- what became outstanding: at this site what is outstanding now, elsewhere what is outstanding where nothing was
abbrev pub news_at : SiteId → ℕ → Live → Progress → Option Due
news_at site before now progress =
    cond (is_news site now.program before progress) (due_in now progress) None

abbrev pub news : SiteId → ℕ → Live → List Due
news site before now = found (news_at site before now) now.sites

-- the same, told from the participant as it was, where these steps are left behind the answer and this is the first of them: at this site what
-- is outstanding then, elsewhere that step, unless the answer is a ticket
abbrev pub news_left : SiteId → ℕ → Reply → List Step → Option Next → Progress → Option Due
news_left site epoch reply left next progress =
    cond (same_site progress.site site) (due_left left next (answered epoch reply progress))
    (cond (is_ticket reply) None (work progress next))

-- what becomes outstanding by an answer that counts
abbrev pub news_by : SiteId → ℕ → Reply → Live → List Due
news_by site epoch reply live = news site live.done (advanced site epoch reply live)

-- what a reply that counts answers
abbrev pub end_of : SiteId → ℕ → Reply → Live → DidEnd
end_of site epoch (Reply_is.Wait by) live = Did.Waits
end_of site epoch (Reply_is.Refused why) live = Did.Refused
end_of site epoch Reply_is.Unknown live = Did.Refused
end_of site epoch reply live = Did.Next (news_by site epoch reply live)

-- what a reply that counts makes of the attempt
abbrev pub after_reply : SiteId → ℕ → Reply → Live → Live
after_reply site epoch (Reply_is.Wait by) live = waited site epoch live
after_reply site epoch (Reply_is.Refused why) live = live
after_reply site epoch Reply_is.Unknown live = live
after_reply site epoch reply live = advanced site epoch reply live

-- a reply that doesn't count is ignored
abbrev pub did_end : SiteId → ℕ → ℕ → Reply → Live → DidEnd
did_end site epoch n reply live = cond (counts site epoch n reply live) (end_of site epoch reply live) Did.Ignored

abbrev pub after_did : SiteId → ℕ → ℕ → Reply → Live → Live
after_did site epoch n reply live = cond (counts site epoch n reply live) (after_reply site epoch reply live) live
