use Rattle.std.proofs.Common.{◌≡◌, true, false, cond, Some, None, sym, ap, ◌∙◌}
use Rattle.coord_tables.specs.Stages.{is_of, stage_of}
use Rattle.coord_tables.proofs.Staged.{own_of, stage_found}
use Rattle.coord_tables.proofs.stages.Stages.stage_of.Goals as goal

pub returns-then-eq : goal.returns-then-eq
returns-then-eq c =
    let tid = c.args.tid in
    let s = c.in-Some.stage.now in
    let own : is_of tid s ≡ true = sym c.eq.ensures ∙ c.if-eq.true in
    sym (ap (λ b. cond b (Some s) None) own) ∙ ap (own_of tid) c.in-Some.ensures.value
    ∙ stage_found tid c.self.inside.stages.entries c.self.invariant ∙ ap (λ b. stage_of tid b.listed) c.self.view_is

pub returns-else-eq : goal.returns-else-eq
returns-else-eq c =
    let tid = c.args.tid in
    let s = c.in-Some.stage.now in
    let other : is_of tid s ≡ false = sym c.eq.ensures ∙ c.if-eq.false in
    sym (ap (λ b. cond b (Some s) None) other) ∙ ap (own_of tid) c.in-Some.ensures.value
    ∙ stage_found tid c.self.inside.stages.entries c.self.invariant ∙ ap (λ b. stage_of tid b.listed) c.self.view_is

pub returns-in-None : goal.returns-in-None
returns-in-None c =
    let tid = c.args.tid in
    ap (own_of tid) c.in-None.ensures.value
    ∙ stage_found tid c.self.inside.stages.entries c.self.invariant ∙ ap (λ b. stage_of tid b.listed) c.self.view_is
