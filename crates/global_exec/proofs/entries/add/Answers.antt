use Rattle.std.proofs.Common.{◌≡◌, [], ◌∷◌, ◌++◌, sym, subst, ap, ◌∙◌}
use Rattle.std.specs.Map.{values_of}
use Rattle.indexmap.specs.IndexMap.{insert_entry}
use Rattle.global_exec.specs.declared.entries.Name.{Name}
use Rattle.global_exec.specs.Entries.{AreNamed, name_of, same_name}
use Rattle.global_exec.proofs.Named.{entries-added, named_more, values-append}
use Rattle.global_exec.proofs.entries.add.Goals as goal

entries_are : (c : goal.Joined-branch-2) → c.insert.new.self.entries ≡ c.args.entries.now.entries ++ (name_of c.args.attempt.tid, c.args.attempt) ∷ []
entries_are c =
    let entries = c.args.entries.now.entries in
    c.in_ok-insert.ensures.entries ∙ ap (λ (n : Name). insert_entry same_name entries n c.args.attempt) (c.of.ensures ∙ ap name_of c.tid.ensures)
    ∙ entries-added c.args.attempt.tid c.args.attempt entries c.requires.named c.requires.apart

pub returns-clause-listed : goal.returns-clause-listed
returns-clause-listed c =
    ap values_of (entries_are c) ∙ values-append c.args.entries.now.entries ((name_of c.args.attempt.tid, c.args.attempt) ∷ [])

pub returns-clause-named : goal.returns-clause-named
returns-clause-named c = subst AreNamed (sym (entries_are c)) (named_more c.args.entries.now.entries c.args.attempt c.requires.named)
