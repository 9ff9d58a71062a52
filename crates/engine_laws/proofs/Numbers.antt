-- How far the numbers of a site's engine have come: no further than the lines that draw them, and no ticket is more than one behind the published one.
use Rattle.std.proofs.Common.{◌≡◌, ℕ, suc, ◌+◌, ◌≤◌, List, [], ◌∷◌, ◌++◌, arith}
use Rattle.mdb_base.proofs.ForCallers.{each_map}
use Rattle.fed_rules.specs.declared.runs.Kept.{Kept}
use Rattle.fed_rules.specs.EngineLines.{IsNumbered, IsRight, IsStart}
use Rattle.fed_rules.specs.Replies.{Drawn, AtBegin, AtSealing, number_drawn, rule}
use Rattle.fed_rules.specs.Runs.{Start, EngineLine, Begins, Acts, Takes, Seals, Refuses, Commits, Aborts, Run, counter, published, restored}
use Rattle.engine_laws.specs.Laws.{HasTicketTo}
use Rattle.engine_laws.specs.Unended.{EachRun}
use Rattle.engine_laws.proofs.Counted.{counted}
use Rattle.engine_laws.proofs.Origins.{ticket_next}
use Rattle.engine_laws.proofs.Runs.{Own, begins, stays, got, wrote, takes, seals, own, each_run, each_restored}
use Rattle.engine_laws.proofs.Tickets.{published_grows}

-- how many of the lines draw a number
abbrev pub draws : List EngineLine → ℕ
draws [] = 0
draws (Begins tid n ∷ lines) = suc (draws lines)
draws (Seals tid n ∷ lines) = suc (draws lines)
draws (line ∷ lines) = draws lines

-- a number that is drawn is at most the next one
pub drawn_next : (drawn : Drawn) (start : Start) (lines : List EngineLine) (run : Run) → run.age ≤ counter start lines → number_drawn drawn start lines run ≤ counter start lines + 1
drawn_next AtBegin start lines run age = omega arith
drawn_next AtSealing start lines run age = omega arith

counter_line : (start : Start) (older : List EngineLine) (line : EngineLine) (newer : List EngineLine) (c : ℕ) → IsStart start → IsRight start (line ∷ older) → counter start older ≤ c + draws newer
    → counter start (line ∷ older) ≤ c + draws (line ∷ newer)
counter_line start older (Begins tid n) newer c begun right le = let e = right.0.1 in omega arith
counter_line start older (Seals tid n) newer c begun right le =
    let (run, sealing) = right.0 in
    let age = ((counted start older begun right.1).unended tid run sealing.0.0).age_kept in
    let next : number_drawn (rule start.kind).drawn start older run ≤ counter start older + 1 = drawn_next (rule start.kind).drawn start older run age in
    let e : n ≡ number_drawn (rule start.kind).drawn start older run = sealing.2 in
    omega arith
counter_line start older (Acts tid act reply) newer c begun right le = le
counter_line start older (Takes tid reply) newer c begun right le = le
counter_line start older (Refuses tid why) newer c begun right le = le
counter_line start older (Commits tid) newer c begun right le = le
counter_line start older (Aborts tid) newer c begun right le = le

-- each of some further lines that draws a number raises the counter by at most one
pub counter_lines : (start : Start) (older newer : List EngineLine) → IsStart start → IsRight start (newer ++ older) → counter start (newer ++ older) ≤ counter start older + draws newer
counter_lines start older [] begun right = omega arith
counter_lines start older (line ∷ newer) begun right = counter_line start (newer ++ older) line newer (counter start older) begun right (counter_lines start older newer begun right.1)

own_ticket : (start : Start) (older : List EngineLine) (line : EngineLine) (r : Run) → EachRun start older (HasTicketTo (published start older + 1)) → Own start older line r
    → HasTicketTo (published start (line ∷ older) + 1) r
own_ticket start older line r h (begins free next) = λ t e. cc
own_ticket start older line r h (stays waits at) = λ t e. let old = h _ r at t e in let grows = published_grows start older line in omega arith
own_ticket start older line r h (got run live is) = λ t e. let old = h _ run live.0 t e in omega arith
own_ticket start older line r h (wrote run live is) = λ t e. let old = h _ run live.0 t e in omega arith
own_ticket start older (Takes tid reply) r h (takes {n = n} run live is) = λ t e. let same : n ≡ t = cc in let next = ticket_next start older run n is in omega arith
own_ticket start older line r h (seals run live stop next) = λ t e. let old = h _ run live.0 t e in let grows = published_grows start older line in omega arith

-- the ticket of an unended run
pub ticketed : (start : Start) (lines : List EngineLine) → IsStart start → IsRight start lines → EachRun start lines (HasTicketTo (published start lines + 1))
ticketed start [] begun right =
    each_restored (HasTicketTo (start.published + 1)) start.doubtful (each_map _ (λ kept. HasTicketTo (start.published + 1) (restored kept)) kept_ticket start.doubtful begun.numbered)
  where
    kept_ticket : (kept : Kept) → IsNumbered start kept → HasTicketTo (start.published + 1) (restored kept)
    kept_ticket kept is = λ t e. let same : kept.ticket ≡ t = cc in let le = is.ticket_kept in omega arith
ticketed start (line ∷ older) begun right =
    let h = ticketed start older begun right.1 in
    each_run start older line (HasTicketTo (published start (line ∷ older) + 1))
    (λ u r other was t e. let le = h u r was t e in let grows = published_grows start older line in omega arith)
    (λ r now. own_ticket start older line r h (own start older line r right.0 now))
