use Rattle.std.proofs.Common.{◌+◌, None, Option, cond, sym, ap, ◌∙◌, subst}
use Rattle.std.specs.List.Sorted.{IsPermutation}
use Rattle.std.specs.Map.{lookup, remove_entry}
use Rattle.run_book.specs.Held.{Held}
use Rattle.run_book.specs.Named.{by_tid, name_of, same_name}
use Rattle.run_book.specs.Tables.{promised}
use Rattle.run_book.specs.declared.run_map.Name.{Name}
use Rattle.run_book.proofs.RunMaps.{get-named, runs_gone, named, promise_of, promised-gone}
use Rattle.run_book.proofs.run_map.take_out.Goals as goal

pub returns-clause-run : goal.returns-clause-run
returns-clause-run c =
    let es = c.args.runs.now.entries in
    c.remove.ensures.value ∙ ap (λ (n : Name). lookup (same_name n) es) c.of.ensures ∙ sym (get-named es c.args.tid)

pub returns-clause-gone : goal.returns-clause-gone
returns-clause-gone c =
    let es = c.args.runs.now.entries in
    runs_gone es _ c.args.tid
    (λ q. c.remove.ensures.updates.0 (name_of q) ∙ ap (λ (n : Name). cond (same_name n (name_of q)) None (named es q)) c.of.ensures)

pub returns-clause-promised : goal.returns-clause-promised
returns-clause-promised c =
    let es = c.args.runs.now.entries in
    let fs = c.remove.new.self.entries in
    ap (λ (o : Option Held). promised (by_tid fs) + promise_of o) (get-named es c.args.tid)
    ∙ promised-gone es fs c.args.tid (subst (λ (n : Name). IsPermutation (remove_entry (same_name n) es) fs) c.of.ensures c.remove.ensures.entries)
