use Rattle.std.proofs.Common.{◌≡◌, Some, None, Option, ◌∷◌, cond, sym, ap, ◌∙◌, subst}
use Rattle.std.specs.List.Sorted.{IsPermutation}
use Rattle.std.specs.Map.{lookup, set_value}
use Rattle.std.specs.Option.{MatchOption}
use Rattle.run_book.specs.Held.{Held}
use Rattle.run_book.specs.Named.{name_of, same_name}
use Rattle.run_book.specs.declared.run_map.Name.{Name}
use Rattle.run_book.proofs.RunMaps.{get-named, runs_put, named, promised-put}
use Rattle.run_book.proofs.run_map.put.Goals as goal

pub returns-clause-put : goal.returns-clause-put
returns-clause-put c =
    let es = c.args.runs.now.entries in
    runs_put es _ c.args.tid c.args.run
    (λ q. c.in_ok-insert.ensures.updates.0 (name_of q) ∙ ap (λ (n : Name). cond (same_name n (name_of q)) (Some c.args.run) (named es q)) c.of.ensures)

pub returns-clause-promised : goal.returns-clause-promised
returns-clause-promised c none =
    let es = c.args.runs.now.entries in
    let fs = c.insert.new.self.entries in
    let absent : c.in_ok-insert.field-0 ≡ None =
    c.in_ok-insert.ensures.old ∙ (ap (λ (n : Name). lookup (same_name n) es) c.of.ensures ∙ (sym (get-named es c.args.tid) ∙ none)) in
    let moved : IsPermutation ((c.of.result, c.args.run) ∷ es) fs =
    subst (λ (o : Option Held). MatchOption o (IsPermutation ((c.of.result, c.args.run) ∷ es) fs) (λ _. fs ≡ set_value (same_name c.of.result) es c.args.run)) absent c.in_ok-insert.ensures.entries in
    promised-put es fs c.args.tid c.args.run (subst (λ (n : Name). IsPermutation ((n, c.args.run) ∷ es) fs) c.of.ensures moved)
