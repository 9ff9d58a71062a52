use Rattle.std.proofs.Common.{map, refl, sym, ap, ◌∙◌, subst}
use Rattle.std.specs.Map.{values_of}
use Rattle.coord_tables.specs.declared.stages.Stage.{Stage}
use Rattle.coord_tables.specs.Staged.{AreStaged}
use Rattle.coord_tables.specs.Stages.{after_reply, noting}
use Rattle.coord_tables.proofs.Staged.{own_change, same_name_after, staged_set, unchanged_absent, values_set}
use Rattle.coord_tables.proofs.stages.Stages.take.Goals as goal

pub returns-in-None : goal.returns-in-None
returns-in-None c =
    let change : Stage → Stage = after_reply c.args.tid c.args.site c.args.reply in
    rw c.get_mut.follows.holds-at-none
    (sym (unchanged_absent c.args.tid.tx.0 change (own_change c.args.tid (λ (s : Stage). record s { tickets = noting c.args.site c.args.reply s.tickets })) c.self.inside.stages.entries c.self.invariant (sym c.in-None.ensures.value))
    ∙ ap (λ b. map change b.listed) c.self.view_is)

pub invariant_of-self-2 : goal.invariant_of-self-2
invariant_of-self-2 c =
    let k = c.in-Some.stage.now in
    let w = c.note_reply.new.self in
    subst AreStaged (sym (c.get_mut.follows.holds w).0)
    (staged_set c.args.tid.tx.0 c.self.inside.stages.entries k w c.self.invariant (sym c.in-Some.ensures.value)
    (ap (λ (s : Stage). s.tid) c.note_reply.ensures ∙ same_name_after c.args.tid (λ (s : Stage). record s { tickets = noting c.args.site c.args.reply s.tickets }) k refl))

pub returns : goal.returns
returns c =
    let change : Stage → Stage = after_reply c.args.tid c.args.site c.args.reply in
    let k = c.in-Some.stage.now in
    let w = c.note_reply.new.self in
    ap values_of (c.get_mut.follows.holds w).0
    ∙ values_set c.args.tid.tx.0 change (own_change c.args.tid (λ (s : Stage). record s { tickets = noting c.args.site c.args.reply s.tickets })) c.self.inside.stages.entries k w c.self.invariant (sym c.in-Some.ensures.value) c.note_reply.ensures
    ∙ ap (λ b. map change b.listed) c.self.view_is
