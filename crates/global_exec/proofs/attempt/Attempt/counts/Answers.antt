use Rattle.std.proofs.Common.{◌≡◌, ℕ, Bool, ◌&&◌, Option, Some, None, List, sym, ap, ◌∙◌}
use Rattle.mdb_base.specs.Words.{holds_of}
use Rattle.fed_rules.specs.Coord.{fits}
use Rattle.fed_rules.specs.declared.messages.Due.{Due}
use Rattle.global_exec.specs.declared.progress.Progress.{Progress}
use Rattle.global_exec.specs.Counted.{counts, counts_at, knows}
use Rattle.global_exec.specs.Due.{due}
use Rattle.global_exec.specs.Firsts.{place_where}
use Rattle.global_exec.specs.Live.{Live, is_at, progress_at}
use Rattle.global_exec.proofs.Firsts.{first-read, missing, stands}
use Rattle.global_exec.proofs.attempt.Attempt.counts.Goals as goal

-- whether the reply counts, by the participant at the site
counts_by : (site epoch n : _) (reply : _) (live now : Live) (o : Option Progress) → live ≡ now → progress_at site live ≡ o → holds_of (counts_at live epoch n reply) o ≡ counts site epoch n reply now
counts_by site epoch n reply live now o view is =
    ap (holds_of (counts_at live epoch n reply)) (sym is) ∙ ap (counts site epoch n reply) view

pub returns-in-None : goal.returns-in-None
returns-in-None c =
    let live : Live = record { tid = c.self.inside.tid; program = c.self.inside.program; reads = c.self.inside.reads.items; done = c.self.inside.done; sites = c.self.inside.sites.items } in
    counts_by c.args.site c.args.epoch c.args.n c.args.reply live c.args.self.now None c.self.view_is
    (missing (is_at c.args.site) c.self.inside.sites.items (ap (place_where (is_at c.args.site)) (sym c.as_slice.ensures.value) ∙ sym c.place_of.ensures.place ∙ c.in-None.is)).first

pub returns-then-not-fits : goal.returns-then-not-fits
returns-then-not-fits c =
    let live : Live = record { tid = c.self.inside.tid; program = c.self.inside.program; reads = c.self.inside.reads.items; done = c.self.inside.done; sites = c.self.inside.sites.items } in
    let here = c.index.result.now in
    ap (λ (b : Bool). b && knows here.epoch c.args.epoch) (sym (sym (c.fits.ensures ∙ ap (λ (o : Option Due). fits o c.args.n c.args.reply) (c.due-due.ensures ∙ ap (λ (vs : List ℕ). due live.program live.done vs here) c.as_slice-2.ensures.value)) ∙ c.if-not-fits.true))
    ∙ counts_by c.args.site c.args.epoch c.args.n c.args.reply live c.args.self.now (Some here) c.self.view_is
    (first-read (is_at c.args.site) c.self.inside.sites.items c.in-Some.place here (stands (is_at c.args.site) c.self.inside.sites.items c.in-Some.place (ap (place_where (is_at c.args.site)) (sym c.as_slice.ensures.value) ∙ sym c.place_of.ensures.place ∙ c.in-Some.is)) c.index.ensures)

pub returns : goal.returns
returns c =
    let live : Live = record { tid = c.self.inside.tid; program = c.self.inside.program; reads = c.self.inside.reads.items; done = c.self.inside.done; sites = c.self.inside.sites.items } in
    let here = c.index.result.now in
    c.knows.ensures
    ∙ ap (λ (b : Bool). b && knows here.epoch c.args.epoch) (sym (sym (c.fits.ensures ∙ ap (λ (o : Option Due). fits o c.args.n c.args.reply) (c.due-due.ensures ∙ ap (λ (vs : List ℕ). due live.program live.done vs here) c.as_slice-2.ensures.value)) ∙ c.if-not-fits.false))
    ∙ counts_by c.args.site c.args.epoch c.args.n c.args.reply live c.args.self.now (Some here) c.self.view_is
    (first-read (is_at c.args.site) c.self.inside.sites.items c.in-Some.place here (stands (is_at c.args.site) c.self.inside.sites.items c.in-Some.place (ap (place_where (is_at c.args.site)) (sym c.as_slice.ensures.value) ∙ sym c.place_of.ensures.place ∙ c.in-Some.is)) c.index.ensures)
