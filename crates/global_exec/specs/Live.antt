-- The attempts of the table: what each has, and what is outstanding for it.
use Rattle.std.specs.Prelude.{ℕ, ◌≡◌, ◌+◌, ◌≤◌, Bool, true, false, cond, Option, Some, None, List, [], ◌∷◌, length, take}
use Rattle.mdb_base.specs.declared.acts.Step.{Step}
use Rattle.mdb_base.specs.declared.names.SiteId.{SiteId}
use Rattle.mdb_base.specs.declared.names.Tid.{Tid}
use Rattle.mdb_base.specs.Names.{same_site, same_tid}
use Rattle.mdb_base.specs.Programs.{IsProgram, reads_of}
use Rattle.mdb_base.specs.Rising.{IsRising}
use Rattle.mdb_base.specs.Words.{Each, first_where, found, holds_of}
use Rattle.fed_rules.specs.declared.messages.Due.{Due}
use Rattle.fed_rules.specs.Coord.{is_due_vote}
use Rattle.fed_rules.specs.CoordPast.{visits}
use Rattle.global_exec.specs.declared.progress.Progress.{Progress}
use Rattle.global_exec.specs.Due.{due, fresh}
use Rattle.global_exec.specs.Firsts.{replaced}

-- an undecided attempt: its program, the values that it read, how many of its steps were answered, and its participants by rising site
pub record Live : Type 0 where
  pub tid : Tid
  pub program : List Step
  pub reads : List ℕ
  pub done : ℕ
  pub sites : List Progress

-- the sites that there can be
abbrev pub all_sites : List SiteId
all_sites = record { 0 = 1 } ∷ record { 0 = 2 } ∷ record { 0 = 3 } ∷ record { 0 = 4 } ∷ record { 0 = 5 } ∷ record { 0 = 6 } ∷ record { 0 = 7 } ∷ record { 0 = 8 } ∷ []

abbrev pub fresh_at : List Step → SiteId → Option Progress
fresh_at program site = cond (visits site program) (Some (fresh site)) None

-- an attempt as it is submitted: its participants are the sites of its steps
abbrev pub submitted : Tid → List Step → Live
submitted tid program =
    record { tid = tid; program = program; reads = []; done = 0; sites = found (fresh_at program) all_sites }

-- whether an attempt is the one of this name
abbrev pub is_of : Tid → Live → Bool
is_of tid live = same_tid live.tid tid

-- the attempt of this name
abbrev pub live_of : Tid → List Live → Option Live
live_of tid table = first_where (is_of tid) table

abbrev pub reads_of_live : Live → List ℕ
reads_of_live live = live.reads

abbrev pub is_at : SiteId → Progress → Bool
is_at site progress = same_site progress.site site

-- the participant at the site
abbrev pub progress_at : SiteId → Live → Option Progress
progress_at site live = first_where (is_at site) live.sites

abbrev pub due_in : Live → Progress → Option Due
due_in live progress = due live.program live.done live.reads progress

-- whether a Prepare is outstanding at the site
abbrev pub awaits_vote : SiteId → Live → Bool
awaits_vote site live = holds_of (λ progress. is_due_vote (due_in live progress)) (progress_at site live)

-- all that is outstanding, by rising site
abbrev pub all_due : Live → List Due
all_due live = found (due_in live) live.sites

abbrev pub with_vote : Progress → Progress
with_vote progress = record progress { voted = true }

-- the attempt with the site's vote
abbrev pub voted : SiteId → Live → Live
voted site live = record live { sites = replaced (is_at site) with_vote live.sites }

abbrev pub site_number : Progress → ℕ
site_number progress = progress.site.0

-- at most each answered step and the ticket count at one participant
abbrev pub most : ℕ → Progress → ℕ
most done progress = done + cond progress.ticket 1 0

-- what is true of each attempt of the table
pub record IsLive (live : Live) : Type 0 where
  pub program : IsProgram live.program
  pub within : live.done ≤ length live.program
  pub reads : length live.reads ≡ reads_of (take live.done live.program)
  pub rising : IsRising site_number live.sites
  pub few : Each (λ progress. progress.n ≤ most live.done progress) live.sites

-- no two of these attempts have one name
abbrev pub AreApart : List Tid → Type 0
AreApart [] = Unit {0}
AreApart (tid ∷ tids) = Each (λ other. same_tid tid other ≡ false) tids × AreApart tids
