use Rattle.std.proofs.Common.{[], is_some, refl, ap, ◌∙◌}
use Rattle.mdb_base.proofs.ForCallers.{none_left}
use Rattle.fed_rules.specs.declared.messages.ToSite.TheVariants as To
use Rattle.fed_rules.specs.SitePast.{engine_lines, epoch_start}
use Rattle.site_core.specs.declared.site.SiteCore.{SiteCore}
use Rattle.site_core.specs.Operations.{taken_again}
use Rattle.site_core.proofs.OperationLaws.{did_adds, did_is, next_is, next_line, next_live, next_ticketless, says_by, take_adds, take_goes, take_says, taken_by}
use Rattle.site_core.proofs.Outcomes.{ok_with}
use Rattle.site_core.proofs.OverLaws.{shut_made}
use Rattle.site_core.proofs.RememberLaws.{adds_as, is_up_at}
use Rattle.site_core.proofs.site.SiteCore.take.Goals as goal

pub returns-in-Some-clause-answered : goal.returns-in-Some-clause-answered
returns-in-Some-clause-answered g c = ok_with _ c.did.result _ c.did.ensures
    (λ home past h may.
    let core = c.args.self.now in
    let tid = c.args.tid in
    let u = is_up_at g.E.LocalEngine.stands core home past h.memory c.requires.up in
    let says = says_by (λ o j. taken_again o j c.args.epoch c.args.n) core.book home past tid _ core.epoch c.taken_again.result u.notes c.live.ensures u.epoch c.taken_again.ensures in
    adds_as g.E.LocalEngine.stands _ core home past _ _
    (take_says home past tid c.args.epoch c.args.n c.in-Some.reply (shut_made home past tid h.made may.apart) (says ∙ c.in-Some.is) ∙ did_is home past (To.Take tid c.args.epoch c.args.n) tid c.args.n c.in-Some.reply [])
    (did_adds g.E.LocalEngine.stands core home past (To.Take tid c.args.epoch c.args.n) tid c.args.n c.in-Some.reply _ h c.requires.up (λ u. refl) refl))

pub take-requires : goal.take-requires
take-requires g c =
    let core = c.args.self.now in
    let tid = c.args.tid in
    let k = c.requires.may in
    let u = is_up_at g.E.LocalEngine.stands core k.home k.past k.stood.memory c.requires.up in
    let says = says_by (λ o j. taken_again o j c.args.epoch c.args.n) core.book k.home k.past tid _ core.epoch c.taken_again.result u.notes c.live.ensures u.epoch c.taken_again.ensures in
    let t = take_goes k.home k.past tid c.args.epoch c.args.n (shut_made k.home k.past tid k.stood.made k.holds.apart) (says ∙ none_left c.taken_again.result c.in_default.not-Some) in
    let l = next_live core.book k.home k.past tid c.args.epoch c.args.n u.notes t in
    record {
      start = epoch_start k.home k.past;
      lines = engine_lines k.past;
      stood = u.engine;
      holds = record { run = l.run; ticketless = (l.is.0, l.is.1, next_ticketless core.book k.home k.past tid c.args.epoch c.args.n l t); fits = k.holds.fits };
    }

pub note_take-requires : goal.note_take-requires
note_take-requires g c =
    let core = c.args.self.now in
    let tid = c.args.tid in
    let k = c.requires.may in
    let u = is_up_at g.E.LocalEngine.stands core k.home k.past k.stood.memory c.requires.up in
    let says = says_by (λ o j. taken_again o j c.args.epoch c.args.n) core.book k.home k.past tid _ core.epoch c.taken_again.result u.notes c.live.ensures u.epoch c.taken_again.ensures in
    let t = take_goes k.home k.past tid c.args.epoch c.args.n (shut_made k.home k.past tid k.stood.made k.holds.apart) (says ∙ none_left c.taken_again.result c.in_default.not-Some) in
    let l = next_live core.book k.home k.past tid c.args.epoch c.args.n u.notes t in
    record { live = ap is_some l.noted }

pub returns-clause-answered : goal.returns-clause-answered
returns-clause-answered g c = ok_with _ c.did-2.result _ c.did-2.ensures
    (λ home past h may.
    let core = c.args.self.now in
    let tid = c.args.tid in
    let reply = c.in_ok-reply.reply in
    let u = is_up_at g.E.LocalEngine.stands core home past h.memory c.requires.up in
    let says = says_by (λ o j. taken_again o j c.args.epoch c.args.n) core.book home past tid _ core.epoch c.taken_again.result u.notes c.live.ensures u.epoch c.taken_again.ensures in
    let t = take_goes home past tid c.args.epoch c.args.n (shut_made home past tid h.made may.apart) (says ∙ none_left c.taken_again.result c.in_default.not-Some) in
    let l = next_live core.book home past tid c.args.epoch c.args.n u.notes t in
    let stood = c.in_ok-reply.ensures.answered (epoch_start home past) (engine_lines past) u.engine in
    let ruled = taken_by core.book home past tid reply l (g.met.E.LocalEngine.right _ _ _ stood) in
    adds_as g.E.LocalEngine.stands _ _ home past _ _ (next_line core.book home past tid c.args.epoch c.args.n l t ∙ next_is home past tid c.args.epoch c.args.n l.run reply ruled)
    (take_adds g.E.LocalEngine.stands core _ home past tid c.args.epoch c.args.n reply _ l h c.requires.up
    (ap (λ b. let new : SiteCore _ = record core { engine = c.take.new.self; book = b } in new) c.note_take.ensures) stood refl))
