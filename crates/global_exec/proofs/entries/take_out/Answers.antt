use Rattle.std.proofs.Common.{◌≡◌, sym, subst, ap, ◌∙◌}
use Rattle.std.specs.Map.{remove_entry, values_of}
use Rattle.global_exec.specs.declared.entries.Name.{Name}
use Rattle.global_exec.specs.Entries.{AreNamed, name_of, same_name}
use Rattle.global_exec.proofs.Named.{values-removed, named_removed}
use Rattle.global_exec.proofs.entries.take_out.Goals as goal

entries_are : (c : goal.Joined-shift_remove) → c.shift_remove.new.self.entries ≡ remove_entry (same_name (name_of c.args.tid)) c.args.entries.now.entries
entries_are c =
    c.shift_remove.ensures.entries ∙ ap (λ (n : Name). remove_entry (same_name n) c.args.entries.now.entries) c.of.ensures

pub returns-clause-attempts : goal.returns-clause-attempts
returns-clause-attempts c =
    ap values_of (entries_are c) ∙ values-removed c.args.tid c.args.entries.now.entries c.requires.named

pub returns-clause-named : goal.returns-clause-named
returns-clause-named c = subst AreNamed (sym (entries_are c)) (named_removed c.args.tid c.args.entries.now.entries c.requires.named)
