-- What is outstanding at a participant of an undecided attempt.
use Rattle.std.specs.Prelude.{ℕ, Bool, false, cond, not, ◌&&◌, Option, Some, None, List, drop}
use Rattle.mdb_base.specs.declared.acts.Step.{Step}
use Rattle.mdb_base.specs.declared.names.SiteId.{SiteId}
use Rattle.mdb_base.specs.declared.program.Next.{Next}
use Rattle.mdb_base.specs.Names.{same_site}
use Rattle.mdb_base.specs.Programs.{next_of}
use Rattle.mdb_base.specs.Words.{holds_of, item_at}
use Rattle.fed_rules.specs.declared.messages.Due.{Due}
use Rattle.fed_rules.specs.declared.messages.Due.TheVariants.{Work, Take, Prepare}
use Rattle.fed_rules.specs.CoordPast.{visits}
use Rattle.global_exec.specs.declared.progress.Progress.{Progress}

-- a participant before its first reply
abbrev pub fresh : SiteId → Progress
fresh site = record { site = site; epoch = 0; n = 0; ticket = false; voted = false }

-- the next step's work, where that step is at the site
abbrev pub work : Progress → Option Next → Option Due
work progress None = None
work progress (Some next) =
    cond (same_site next.site progress.site) (Some (Work progress.site progress.epoch progress.n next.act)) None

abbrev pub take : Progress → Option Due
take progress = Some (Take progress.site progress.epoch progress.n)

abbrev pub prepare : Progress → Option Due
prepare progress = cond progress.voted None (Some (Prepare progress.site progress.epoch progress.n))

-- what is outstanding where these steps are left and this is the first of them: that step where it is at the site; else the ticket, once all
-- steps there are answered; else the vote, once the ticket is there
abbrev pub due_left : List Step → Option Next → Progress → Option Due
due_left left next progress =
    cond (visits progress.site left) (work progress next) (cond progress.ticket (prepare progress) (take progress))

-- what is outstanding once so many steps of the program gave these reads
abbrev pub due : List Step → ℕ → List ℕ → Progress → Option Due
due program done reads progress = due_left (drop done program) (next_of program done reads) progress

-- whether nothing is outstanding
abbrev pub is_idle : List Step → ℕ → Progress → Bool
is_idle program done progress =
    cond (visits progress.site (drop done program))
    (not (holds_of (λ step. same_site step.site progress.site) (item_at program done)))
    (progress.ticket && progress.voted)
