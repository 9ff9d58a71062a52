use Rattle.std.proofs.Common.{◌≡◌, [], ◌∷◌, ◌++◌, nat_eq, sym, ap, ◌∙◌, subst}
use Rattle.std.specs.List.{IsDistinct}
use Rattle.std.specs.Map.{keys_of, values_of}
use Rattle.indexmap.proofs.CallerLemmas.{insert_entry-new}
use Rattle.coord_tables.specs.Attempts.{last_of}
use Rattle.coord_tables.specs.Staged.{AreStaged}
use Rattle.coord_tables.proofs.Staged.{Entries, absent_key, staged_more, tids_in, values_more}
use Rattle.coord_tables.proofs.stages.Stages.add.Goals as goal

entries_are : (c : goal.In-Ok) → c.insert.new.self.entries ≡ c.self.inside.stages.entries ++ (c.args.stage.tid.tx.0, c.args.stage) ∷ []
entries_are c =
    let tx = c.args.stage.tid.tx in
    c.in-Ok.ensures.entries
    ∙ insert_entry-new nat_eq c.self.inside.stages tx.0 c.args.stage
    (absent_key tx c.self.inside.stages.entries c.self.invariant (ap (λ b. last_of tx (tids_in b.listed)) c.self.view_is ∙ c.requires.idle))

pub invariant_of-self : goal.invariant_of-self
invariant_of-self c =
    subst AreStaged (sym (entries_are c))
    (staged_more c.self.inside.stages.entries c.args.stage c.self.invariant (subst (λ (es : Entries). IsDistinct nat_eq (keys_of es)) (entries_are c) c.in-Ok.ensures.unique))

pub returns : goal.returns
returns c =
    ap values_of (entries_are c) ∙ values_more c.self.inside.stages.entries c.args.stage.tid.tx.0 c.args.stage
    ∙ ap (λ b. b.listed ++ c.args.stage ∷ []) c.self.view_is
