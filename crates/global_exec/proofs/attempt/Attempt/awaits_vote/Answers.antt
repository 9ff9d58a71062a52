use Rattle.std.proofs.Common.{◌≡◌, ℕ, Option, Some, None, List, sym, ap, ◌∙◌}
use Rattle.mdb_base.specs.Words.{holds_of}
use Rattle.fed_rules.specs.Coord.{is_due_vote}
use Rattle.global_exec.specs.declared.progress.Progress.{Progress}
use Rattle.global_exec.specs.Due.{due}
use Rattle.global_exec.specs.Firsts.{place_where}
use Rattle.global_exec.specs.Live.{Live, awaits_vote, due_in, is_at, progress_at}
use Rattle.global_exec.proofs.Firsts.{first-read, missing, stands}
use Rattle.global_exec.proofs.attempt.Attempt.awaits_vote.Goals as goal

-- whether a vote is awaited, by the participant at the site
awaits_by : (site : _) (live now : Live) (o : Option Progress) → live ≡ now → progress_at site live ≡ o → holds_of (λ p. is_due_vote (due_in live p)) o ≡ awaits_vote site now
awaits_by site live now o view is = ap (holds_of (λ p. is_due_vote (due_in live p))) (sym is) ∙ ap (awaits_vote site) view

pub returns-in-None : goal.returns-in-None
returns-in-None c =
    let live : Live = record { tid = c.self.inside.tid; program = c.self.inside.program; reads = c.self.inside.reads.items; done = c.self.inside.done; sites = c.self.inside.sites.items } in
    awaits_by c.args.site live c.args.self.now None c.self.view_is
    (missing (is_at c.args.site) c.self.inside.sites.items (ap (place_where (is_at c.args.site)) (sym c.as_slice.ensures.value) ∙ sym c.place_of.ensures.place ∙ c.in-None.is)).first

pub returns : goal.returns
returns c =
    let live : Live = record { tid = c.self.inside.tid; program = c.self.inside.program; reads = c.self.inside.reads.items; done = c.self.inside.done; sites = c.self.inside.sites.items } in
    let here = c.index.result.now in
    c.is_due_vote.ensures ∙ ap is_due_vote (c.due.ensures ∙ ap (λ (vs : List ℕ). due live.program live.done vs here) c.as_slice-2.ensures.value)
    ∙ awaits_by c.args.site live c.args.self.now (Some here) c.self.view_is
    (first-read (is_at c.args.site) c.self.inside.sites.items c.in-Some.place here (stands (is_at c.args.site) c.self.inside.sites.items c.in-Some.place (ap (place_where (is_at c.args.site)) (sym c.as_slice.ensures.value) ∙ sym c.place_of.ensures.place ∙ c.in-Some.is)) c.index.ensures)
