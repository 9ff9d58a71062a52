use Rattle.std.proofs.Common.{List, length, sym, ap, subst, ◌∙◌}
use Rattle.mdb_base.specs.Words.{Each}
use Rattle.fed_rules.specs.declared.commands.Stamped.{Stamped}
use Rattle.trace_merge.specs.Traces.{IsTrace, StampsRise}
use Rattle.federation_run.proofs.settling.merge_all.Goals as goal

pub sort_all-requires-clause-sortable : goal.sort_all-requires-clause-sortable
sort_all-requires-clause-sortable c = c.requires.sortable

pub sort_all-requires-clause-rise : goal.sort_all-requires-clause-rise
sort_all-requires-clause-rise c = c.requires.rise

pub merge_traces-requires-clause-nine : goal.merge_traces-requires-clause-nine
merge_traces-requires-clause-nine c = ap (λ (ls : List (List Stamped)). length ls) c.as_slice.ensures.value ∙ c.in_ok-sorted.ensures.lists.nine

pub merge_traces-requires-clause-rise : goal.merge_traces-requires-clause-rise
merge_traces-requires-clause-rise c = subst (λ (ls : List (List Stamped)). Each StampsRise ls) (sym c.as_slice.ensures.value) c.in_ok-sorted.ensures.lists.rise

pub returns-clause-sorted : goal.returns-clause-sorted
returns-clause-sorted c = c.in_ok-sorted.ensures

pub returns-clause-merged : goal.returns-clause-merged
returns-clause-merged c = record {
  merged = c.in_ok-merged.merged;
  traced = subst (λ (ls : List (List Stamped)). IsTrace ls c.in_ok-merged.merged) c.as_slice.ensures.value c.in_ok-merged.ensures;
  lines_are = c.in_ok-lines.ensures;
}
