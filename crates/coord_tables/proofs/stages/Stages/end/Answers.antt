use Rattle.std.proofs.Common.{◌≡◌, true, false, nat_eq, is_some, sym, ap, ◌∙◌, subst}
use Rattle.std.specs.List.{IsDistinct}
use Rattle.std.specs.Map.{keys_of, values_of}
use Rattle.global_exec.specs.Firsts.{taken_out}
use Rattle.coord_tables.specs.Staged.{AreStaged}
use Rattle.coord_tables.specs.Stages.{is_of, stage_of}
use Rattle.coord_tables.proofs.Staged.{Entries, found_out, isnt_there, none_out, staged_out}
use Rattle.coord_tables.proofs.stages.Stages.end.Goals as goal

pub invariant_of-self : goal.invariant_of-self
invariant_of-self c =
    let entries = c.shift_remove.ensures.entries in
    subst AreStaged (sym entries)
    (staged_out c.args.tid.tx.0 c.self.inside.stages.entries c.self.invariant (subst (λ (es : Entries). IsDistinct nat_eq (keys_of es)) entries c.shift_remove.ensures.unique))

pub returns-then-is_some : goal.returns-then-is_some
returns-then-is_some c =
    let tid = c.args.tid in
    let there : is_some (stage_of tid (values_of c.self.inside.stages.entries)) ≡ true =
    ap (λ b. is_some (stage_of tid b.listed)) c.self.view_is ∙ ap is_some (sym c.stage_of.ensures) ∙ sym c.is_some.ensures ∙ c.if-is_some.true in
    ap values_of c.shift_remove.ensures.entries ∙ found_out tid c.self.inside.stages.entries c.self.invariant there ∙ ap (λ b. taken_out (is_of tid) b.listed) c.self.view_is

pub returns-else-is_some : goal.returns-else-is_some
returns-else-is_some c =
    let out : is_some c.stage_of.result ≡ false = sym c.is_some.ensures ∙ c.if-is_some.false in
    sym (none_out c.args.tid c.args.self.now.listed (sym c.stage_of.ensures ∙ isnt_there c.stage_of.result out))
