-- What was sent of the undecided attempts.
use Rattle.std.specs.Prelude.{ℕ, zero, suc, ◌≡◌, ◌≤◌, ◌<◌, nat_lt, Bool, false, cond, not, ◌&&◌, ◌||◌, Option, Some, None, List, [], ◌∷◌, ◌++◌, get_or, length, map, reverse, set}
use Rattle.mdb_base.specs.declared.names.SiteId.{SiteId}
use Rattle.mdb_base.specs.declared.names.SiteTicket.{SiteTicket}
use Rattle.mdb_base.specs.declared.names.Tid.{Tid}
use Rattle.mdb_base.specs.declared.replies.Reply.{Reply}
use Rattle.mdb_base.specs.declared.replies.Reply.TheVariants as Reply_is
use Rattle.mdb_base.specs.Names.{same_site, same_tid}
use Rattle.mdb_base.specs.Words.{Each, first_where, map_some, some_of, those}
use Rattle.presumptions.specs.declared.Participant.{Participant}
use Rattle.fed_rules.specs.CoordPast.{CoordPast, has_sent, is_prepare_of, is_take_of, sites_of}
use Rattle.global_exec.specs.declared.policy.SiteSet.{SiteSet}
use Rattle.global_exec.specs.Sets.{has_site}
use Rattle.coord_tables.specs.Attempts.{open_tids}
use Rattle.coord_tables.specs.declared.stages.Stage.{Stage}
use Rattle.coord_tables.specs.Waiting.{counted_tickets}

-- whether the stage is that of the attempt
abbrev pub is_of : Tid → Stage → Bool
is_of tid stage = same_tid stage.tid tid

-- the stage of the attempt
abbrev pub stage_of : Tid → List Stage → Option Stage
stage_of tid stages = first_where (is_of tid) stages

-- the stage once these were sent too of the attempt
abbrev pub after_sending : Tid → Bool → Bool → Stage → Stage
after_sending tid takes prepares stage =
    cond (is_of tid stage) (record stage { takes = stage.takes || takes; prepares = stage.prepares || prepares }) stage

-- no ticket by the numbers of the sites
abbrev pub no_tickets : List (Option ℕ)
no_tickets = None ∷ None ∷ None ∷ None ∷ None ∷ None ∷ None ∷ None ∷ None ∷ []

-- an attempt of which nothing was sent yet but the first work
abbrev pub fresh_stage : Tid → SiteSet → Stage
fresh_stage tid sites = record { tid = tid; sites = sites; takes = false; prepares = false; tickets = no_tickets }

-- the tickets once a reply of the site counts: a ticket is noted
abbrev pub noting : SiteId → Reply → List (Option ℕ) → List (Option ℕ)
noting site (Reply_is.Ticket n) tickets = cond (nat_lt site.0 9) (set tickets site.0 (Some n)) tickets
noting site reply tickets = tickets

-- the stage once a reply of the attempt counts
abbrev pub after_reply : Tid → SiteId → Reply → Stage → Stage
after_reply tid site reply stage = cond (is_of tid stage) (record stage { tickets = noting site reply stage.tickets }) stage

-- the ticket of the site of this number, where it is noted
abbrev pub noted_one : ℕ → Option ℕ → List SiteTicket
noted_one n None = []
noted_one n (Some ticket) = record { site = record { 0 = n }; ticket = ticket } ∷ []

-- the noted tickets of the sites below this number
abbrev pub noted_below : ℕ → List (Option ℕ) → List SiteTicket
noted_below zero tickets = []
noted_below (suc n) tickets = noted_below n tickets ++ noted_one n (get_or tickets n None)

-- the noted tickets of the attempt
abbrev pub stage_tickets : Stage → List SiteTicket
stage_tickets stage = noted_below 9 stage.tickets

-- the other attempts that take their tickets
abbrev pub others_taking : Tid → List Stage → List Stage
others_taking tid stages = those (λ stage. not (is_of tid stage) && stage.takes) stages

-- the set has the sites of the attempt's participants
abbrev pub HasSitesOf : List Participant → CoordPast → Tid → SiteSet → Type 0
HasSitesOf protocols past tid sites =
    (site : SiteId) → 1 ≤ site.0 → site.0 ≤ 8 → has_site sites site ≡ some_of (λ other. same_site other site) (sites_of protocols past tid)

-- the first one of these tickets that is of the site
abbrev pub ticket_at : SiteId → List SiteTicket → Option ℕ
ticket_at site tickets = map_some (λ k. k.ticket) (first_where (λ k. same_site k.site site) tickets)

-- at each site the last ticket of the attempt that counted is noted
pub record HasTicketsOf (past : CoordPast) (tid : Tid) (tickets : List (Option ℕ)) : Type 0 where
  pub nine : length tickets ≡ 9
  pub last : (site : SiteId) → site.0 < 9 → get_or tickets site.0 None ≡ ticket_at site (counted_tickets past tid)

-- the stage is what the past says of its attempt
pub record IsStageOf (protocols : List Participant) (past : CoordPast) (stage : Stage) : Type 0 where
  pub sites : HasSitesOf protocols past stage.tid stage.sites
  pub takes : stage.takes ≡ has_sent (is_take_of stage.tid) past
  pub prepares : stage.prepares ≡ has_sent (is_prepare_of stage.tid) past
  pub tickets : HasTicketsOf past stage.tid stage.tickets

-- the stages are those of the undecided attempts in the order in which they were begun
pub record AreStagesOf (protocols : List Participant) (past : CoordPast) (stages : List Stage) : Type 0 where
  pub order : map (λ stage. stage.tid) stages ≡ reverse (open_tids past)
  pub each : Each (IsStageOf protocols past) stages
