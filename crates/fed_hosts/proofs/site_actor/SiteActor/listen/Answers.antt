use Rattle.std.proofs.Common.{◌≡◌, ◌++◌, [], ◌∷◌, Bool, false, inl, inr, refl, sym, ap, ◌∙◌}
use Rattle.scripted_link.specs.Inlets.{empty_count, taken}
use Rattle.fed_hosts.specs.Turns.{Inquires, Takes}
use Rattle.fed_hosts.specs.Views.{SiteView, view_of}
use Rattle.fed_hosts.proofs.Turning.{snoc_same}
use Rattle.fed_hosts.proofs.Views.{err_both, err_map, hears_from, ok_both, put_back_from, waits_from}
use Rattle.fed_hosts.proofs.site_actor.SiteActor.listen.Goals as goal

pub returns-in-Some-clause-listens : goal.returns-in-Some-clause-listens
returns-in-Some-clause-listens g c home programs past standing up =
    let old = c.args.self.now in
    let packet = c.in-Some.packet in
    let mid = record old { ends = record old.ends { inlet = c.next.new.self } } in
    let new = view_of c.hear.new.self false in
    ok_both c.hear.result (λ (made : Bool) (t : Takes programs old.ends.site packet old.lines.items new.lines made) (o : new ≡ record (view_of mid false) { lines = new.lines }).
    inl (hears_from programs packet (view_of old false) new (taken c.next.new.self) (empty_count c.next.new.self) made c.in-Some.ensures.some c.in-Some.ensures.empties o t))
    (c.hear.ensures.takes home programs past standing) c.hear.ensures.others

pub returns-in-Some-clause-same : goal.returns-in-Some-clause-same
returns-in-Some-clause-same g c =
    let old = c.args.self.now in
    let new = c.hear.new.self in
    err_both c.hear.result (λ (lines : new.lines.items ≡ old.lines.items) (back : taken c.next.new.self ≡ taken new.ends.inlet ++ c.in-Some.packet ∷ []).
    put_back_from (view_of old false) (view_of new false) c.hear.ensures.site lines
    (snoc_same (taken new.ends.inlet) (taken old.ends.inlet) c.in-Some.packet (sym back ∙ c.in-Some.ensures.some)) c.hear.ensures.idle refl) c.hear.ensures.same c.hear.ensures.back

pub returns-in-None-clause-listens : goal.returns-in-None-clause-listens
returns-in-None-clause-listens g c home programs past standing up =
    let old = c.args.self.now in
    let mid = record old { ends = record old.ends { inlet = c.next.new.self } } in
    let new = view_of c.inquire.new.self false in
    ok_both c.inquire.result (λ (made : Bool) (q : Inquires home past (view_of mid false) new made) (o : new ≡ record (view_of mid false) { lines = new.lines; idle = new.idle }).
    inr (waits_from home past (view_of old false) new (taken c.next.new.self) (empty_count c.next.new.self) made c.in-None.ensures.none c.in-None.ensures.empties o q))
    (c.inquire.ensures.inquires home programs past standing up) c.inquire.ensures.others

pub returns-in-None-clause-same : goal.returns-in-None-clause-same
returns-in-None-clause-same g c =
    let old = c.args.self.now in
    let mid = record old { ends = record old.ends { inlet = c.next.new.self } } in
    let new = view_of c.inquire.new.self false in
    err_map c.inquire.result (λ (e : new ≡ view_of mid false).
    put_back_from (view_of old false) new (ap (λ (v : SiteView). v.site) e) (ap (λ (v : SiteView). v.lines) e)
    (ap (λ (v : SiteView). v.took) e ∙ c.in-None.ensures.none) (ap (λ (v : SiteView). v.idle) e) refl) c.inquire.ensures.same
