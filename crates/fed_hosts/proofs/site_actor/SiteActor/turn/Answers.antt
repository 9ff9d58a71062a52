use Rattle.std.proofs.Common.{◌≡◌, ◌<◌, Bool, false, IfErr, inl, inr, length, refl, sym, ◌∙◌, subst, arith}
use Rattle.scripted_link.specs.Inlets.{empty_count}
use Rattle.host_laws.specs.Plans.{most_lines}
use Rattle.host_laws.specs.Turns.{past_of}
use Rattle.fed_hosts.specs.Turns.{Listens, Restarts}
use Rattle.fed_hosts.specs.Views.{SiteView, view_of}
use Rattle.fed_hosts.proofs.Armed.{as_many}
use Rattle.fed_hosts.proofs.Lines.{keeps_seen}
use Rattle.fed_hosts.proofs.Same.{view_same}
use Rattle.fed_hosts.proofs.Served.{keeps_same}
use Rattle.fed_hosts.proofs.Views.{err_map, ok_map, view_same_but}
use Rattle.fed_hosts.proofs.site_actor.SiteActor.turn.Goals as goal

pub returns-then-len-ge-MOST_LINES-clause-turned : goal.returns-then-len-ge-MOST_LINES-clause-turned
returns-then-len-ge-MOST_LINES-clause-turned g c =
    let k = c.requires.keeps in
    let old = c.args.self.now in
    let short = k.kept.logged.short in
    let count = as_many k.plan k.turns old k.kept.logged in
    inl (omega (arith, count, short, old.lines.ok.0, c.len.ensures, c.if-len-ge-MOST_LINES.true), refl, refl)

pub returns-then-is_err-clause-same : goal.returns-then-is_err-clause-same
returns-then-is_err-clause-same g c =
    view_same_but (view_of c.reserve.new.self false) (view_of c.args.self.now false) (view_same c.args.self.now c.reserve.new.self c.reserve.ensures.same c.reserve.ensures.idle false)

pub returns-then-is_down-clause-turned : goal.returns-then-is_down-clause-turned
returns-then-is_down-clause-turned g c =
    let old = c.args.self.now in
    let ready = c.reserve.new.self in
    let same = c.reserve.ensures.same in
    let stands = g.E.LocalEngine.stands in
    let tells = g.D.Disk.tells in
    let seen = g.D.Disk.seen in
    let sites = g.N.Plan.sites in
    let rings = g.N.Wires.rings in
    let k = c.requires.keeps in
    let past = past_of k.plan k.turns in
    let standing = (keeps_same stands tells seen sites rings false old ready same k).standing in
    let down = c.is_down.ensures k.plan.home past (c.core.ensures.stood tells (seen ready.disk) k.plan.home k.plan.programs past standing).holds in
    let few : length old.lines.items < most_lines = omega (arith, old.lines.ok.0, c.len.ensures, c.if-len-ge-MOST_LINES.false) in
    let shown = view_same old ready same c.reserve.ensures.idle false in
    let is_seen = keeps_seen stands tells seen sites rings false false old k in
    let new = view_of c.start.new.self false in
    ok_map c.start.result (λ (made : Bool) (r : Restarts (view_of ready false) new made).
    inr (few, record { plan = k.plan; turns = k.turns; seen = is_seen; does = inl (sym down ∙ c.if-is_down.true, subst (λ (v : SiteView). Restarts v new made) shown r) })) c.start.ensures.turned

pub returns-then-is_down-clause-same : goal.returns-then-is_down-clause-same
returns-then-is_down-clause-same g c =
    let old = view_of c.args.self.now false in
    let ready = view_of c.reserve.new.self false in
    let new = view_of c.start.new.self false in
    let shown = view_same c.args.self.now c.reserve.new.self c.reserve.ensures.same c.reserve.ensures.idle false in
    err_map c.start.result (λ (e : new ≡ ready). view_same_but new old (e ∙ shown)) c.start.ensures.same

pub returns-clause-turned : goal.returns-clause-turned
returns-clause-turned g c =
    let old = c.args.self.now in
    let ready = c.reserve.new.self in
    let same = c.reserve.ensures.same in
    let stands = g.E.LocalEngine.stands in
    let tells = g.D.Disk.tells in
    let seen = g.D.Disk.seen in
    let sites = g.N.Plan.sites in
    let rings = g.N.Wires.rings in
    let k = c.requires.keeps in
    let past = past_of k.plan k.turns in
    let standing = (keeps_same stands tells seen sites rings false old ready same k).standing in
    let down = c.is_down.ensures k.plan.home past (c.core.ensures.stood tells (seen ready.disk) k.plan.home k.plan.programs past standing).holds in
    let few : length old.lines.items < most_lines = omega (arith, old.lines.ok.0, c.len.ensures, c.if-len-ge-MOST_LINES.false) in
    let shown = view_same old ready same c.reserve.ensures.idle false in
    let is_seen = keeps_seen stands tells seen sites rings false false old k in
    let new = view_of c.listen.new.self false in
    let up = sym down ∙ c.if-is_down.false in
    ok_map c.listen.result (λ (made : Bool) (l : Listens k.plan.programs k.plan.home past (view_of ready false) new made).
    inr (few, record { plan = k.plan; turns = k.turns; seen = is_seen; does = inr (up, subst (λ (v : SiteView). Listens k.plan.programs k.plan.home past v new made) shown l) }))
    (c.listen.ensures.listens k.plan.home k.plan.programs past standing up)

pub returns-clause-same : goal.returns-clause-same
returns-clause-same g c =
    let new = c.listen.new.self in
    let shown = view_same c.args.self.now c.reserve.new.self c.reserve.ensures.same c.reserve.ensures.idle false in
    subst (λ (v : SiteView). IfErr c.listen.result (λ why. view_of new false ≡ record v { empties = empty_count new.ends.inlet })) shown c.listen.ensures.same
