use Rattle.std.proofs.Common.{◌≡◌, ℕ, ◌<◌, ◌==◌, ◌&&◌, true, is_some, Option, Some, None, [], ◌∷◌, refl, sym, ap, ap₂, ◌∙◌, subst, arith}
use Rattle.std.specs.Option.{IfSome}
use Rattle.std.proofs.lemmas.Bool.{cond-true}
use Rattle.mdb_base.specs.declared.replies.Reply.TheVariants as Reply_is
use Rattle.mdb_base.proofs.ForCallers.{nothing_is, same_tid-refl}
use Rattle.fed_rules.specs.declared.messages.ToSite.TheVariants as To
use Rattle.fed_rules.specs.Runs.{Begins, begun}
use Rattle.fed_rules.specs.Site.{did, of_work}
use Rattle.fed_rules.specs.SitePast.{engine_lines, epoch_start}
use Rattle.site_book.specs.declared.progress.Progress.TheVariants as Is
use Rattle.site_book.specs.Book.{Book, begins_global, forgets, live_in, notes_reply, progress_of}
use Rattle.site_book.specs.Noted.{Noted, fresh}
use Rattle.site_book.proofs.ForCallers.{forgets-enters}
use Rattle.site_core.specs.declared.site.SiteCore.{SiteCore}
use Rattle.site_core.proofs.LineLaws.{live_none}
use Rattle.site_core.proofs.OperationLaws.{did_adds, did_is}
use Rattle.site_core.proofs.Outcomes.{ok_with}
use Rattle.site_core.proofs.RememberLaws.{adds_as, is_up_at, remembers_engine}
use Rattle.site_core.proofs.WorkLaws.{begins_live, entered_over, first_adds, first_is, is_elsewhere, is_later, unentered, work_first, work_none, work_over}
use Rattle.site_core.proofs.site.SiteCore.first_work.Goals.{then-has_entry-via-then-has_entry, then-has_entry-via-else-has_entry+then-epoch-ne0, then-has_entry-via-else-has_entry+else-epoch-ne0+then-n-ne0}
use Rattle.site_core.proofs.site.SiteCore.first_work.Goals as goal

pub returns-then-has_entry-clause-answered : goal.returns-then-has_entry-clause-answered
returns-then-has_entry-clause-answered g c = ok_with _ c.did.result _ c.did.ensures
    (λ home past h may.
    let core = c.args.self.now in
    let tid = c.args.tid in
    let e = c.args.epoch in
    let n = c.args.n in
    let act = c.args.act in
    let u = is_up_at g.E.LocalEngine.stands core home past h.memory c.requires.up in
    let none = live_none core.book home past tid u.notes c.requires.not_live in
    let line : of_work home past tid e n act ≡ did home past (To.Work tid e n act) tid n Reply_is.Unknown [] =
    elim c.then-has_entry.branch [
      | then-has_entry-via-then-has_entry w ↦ work_over home past tid e n act (entered_over core.book home past tid u.notes h.made (sym c.has_entry.ensures ∙ w.if-has_entry.true) c.requires.not_live)
      | then-has_entry-via-else-has_entry+then-epoch-ne0 w ↦ work_none home past tid e n act none (is_elsewhere e n w.if-epoch-ne0.true)
      | then-has_entry-via-else-has_entry+else-epoch-ne0+then-n-ne0 w ↦ work_none home past tid e n act none (is_later e n w.if-n-ne0.true)
    ] in
    adds_as g.E.LocalEngine.stands _ core home past _ _ (line ∙ did_is home past (To.Work tid e n act) tid n Reply_is.Unknown [])
    (did_adds g.E.LocalEngine.stands core home past (To.Work tid e n act) tid n Reply_is.Unknown _ h c.requires.up (λ t. refl) refl))

pub returns-in_default-clause-memory : goal.returns-in_default-clause-memory
returns-in_default-clause-memory g c = λ home past h.
    let core = c.args.self.now in
    let tid = c.args.tid in
    let u = is_up_at g.E.LocalEngine.stands core home past h.memory c.requires.up in
    let none : progress_of core.book tid ≡ None = nothing_is _ (sym c.has_entry.ensures ∙ c.if-has_entry.false) in
    let same : c.forget.new.self ≡ core.book = c.forget.ensures ∙ ap (forgets tid) c.in_ok-begin_global.ensures.begun ∙ forgets-enters tid (Is.Live fresh) core.book none in
    remembers_engine g.E.LocalEngine.stands core _ home past h.memory c.requires.up (c.in_default.ensures.memory (epoch_start home past) (engine_lines past) u.engine)
    (ap (λ b. let new : SiteCore _ = record core { engine = c.begin.new.self; book = b } in new) same)

pub access-requires : goal.access-requires
access-requires g c =
    let k = c.requires.may in
    let tid = c.args.tid in
    let number = c.in-Ok.field-0 in
    let u = is_up_at g.E.LocalEngine.stands c.args.self.now k.home k.past k.stood.memory c.requires.up in
    record {
      start = epoch_start k.home k.past;
      lines = Begins tid number ∷ engine_lines k.past;
      stood = c.in-Ok.ensures.begun (epoch_start k.home k.past) (engine_lines k.past) u.engine;
      holds = record { run = begun tid number; live = (cond-true _ _ _ (same_tid-refl tid), refl) };
    }

pub returns-in_default-access-clause-memory : goal.returns-in_default-access-clause-memory
returns-in_default-access-clause-memory g c = λ home past h.
    let core = c.args.self.now in
    let tid = c.args.tid in
    let number = c.in-Ok.field-0 in
    let u = is_up_at g.E.LocalEngine.stands core home past h.memory c.requires.up in
    let none : progress_of core.book tid ≡ None = nothing_is _ (sym c.has_entry.ensures ∙ c.if-has_entry.false) in
    let same : c.forget-in_default-access.new.self ≡ core.book =
    c.forget-in_default-access.ensures ∙ ap (forgets tid) c.in_ok-begin_global.ensures.begun ∙ forgets-enters tid (Is.Live fresh) core.book none in
    let stood = c.in-Ok.ensures.begun (epoch_start home past) (engine_lines past) u.engine in
    let kept = c.in_default-access.ensures.memory (epoch_start home past) (Begins tid number ∷ engine_lines past) stood in
    remembers_engine g.E.LocalEngine.stands core _ home past h.memory c.requires.up (c.unbegin.ensures (epoch_start home past) (engine_lines past) number kept)
    (ap (λ b. let new : SiteCore _ = record core { engine = c.unbegin.new.self; book = b } in new) same)

pub note_reply-requires-clause-live : goal.note_reply-requires-clause-live
note_reply-requires-clause-live g c =
    ap (λ (b : Book). is_some (live_in b c.args.tid)) c.in_ok-begin_global.ensures.begun ∙ ap is_some (begins_live c.args.self.now.book c.args.tid)

pub note_reply-requires-clause-few : goal.note_reply-requires-clause-few
note_reply-requires-clause-few g c =
    let P : Option Noted → Type 0 = λ o. IfSome o (λ noted. noted.accesses < 32) in
    let few : P (Some fresh) = omega arith in
    subst P (sym (ap (λ (b : Book). live_in b c.args.tid) c.in_ok-begin_global.ensures.begun ∙ begins_live c.args.self.now.book c.args.tid)) few

pub returns-clause-answered : goal.returns-clause-answered
returns-clause-answered g c = ok_with _ c.did-2.result _ c.did-2.ensures
    (λ home past h may.
    let core = c.args.self.now in
    let tid = c.args.tid in
    let e = c.args.epoch in
    let n = c.args.n in
    let act = c.args.act in
    let number = c.in-Ok.field-0 in
    let reply = c.in-Ok-access.reply in
    let u = is_up_at g.E.LocalEngine.stands core home past h.memory c.requires.up in
    let none : progress_of core.book tid ≡ None = nothing_is _ (sym c.has_entry.ensures ∙ c.if-has_entry.false) in
    let (clear, dead, free) = unentered core.book home past tid u.notes h.made none in
    let first : ((e == 0) && (n == 0)) ≡ true = ap₂ (λ (a b : ℕ). (a == 0) && (b == 0)) c.if-epoch-ne0.false c.if-n-ne0.false in
    let stood = c.in-Ok-access.ensures.answered (epoch_start home past) (Begins tid number ∷ engine_lines past) (c.in-Ok.ensures.begun (epoch_start home past) (engine_lines past) u.engine) in
    let right = g.met.E.LocalEngine.right _ _ _ stood in
    let book : c.note_reply.new.self ≡ notes_reply tid act reply (begins_global tid core.book) = c.note_reply.ensures ∙ ap (notes_reply tid act reply) c.in_ok-begin_global.ensures.begun in
    adds_as g.E.LocalEngine.stands _ _ home past _ _ (work_first home past tid e n act clear dead first ∙ first_is home past tid e n act number reply right)
    (first_adds g.E.LocalEngine.stands core _ home past tid e n number act reply _ h c.requires.up may.apart
    (ap (λ b. let new : SiteCore _ = record core { engine = c.access.new.engine; book = b } in new) book) stood refl))
