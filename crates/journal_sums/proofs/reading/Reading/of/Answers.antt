use Rattle.std.proofs.Common.{sym, ap, ◌∙◌, refl}
use Rattle.std.specs.Prelude.{reverse}
use Rattle.fed_rules.proofs.ForCallers.{carried_none}
use Rattle.journal_sums.specs.Versions.{version_in}
use Rattle.journal_sums.proofs.reading.Reading.of.Goals as goal

pub returns : goal.returns
returns c =
    let sum = c.args.sum.now in
    record {
      counters = c.of.ensures;
      holds = record {
        site = refl;
        engine = refl;
        protocol = refl;
        rising = c.in_ok-first_versions.ensures.rising;
        versions = λ key. c.in_ok-first_versions.ensures.versions key ∙ ap (λ all. version_in sum.rows all key) (sym (carried_none sum.doubtful));
        first_locals = c.of-2.ensures ∙ c.in_ok-from_slice.ensures.items ∙ c.as_slice.ensures;
        locals = ap (λ tids. reverse tids) c.new.ensures.items;
        doubtful = c.in_ok-first_doubtful.ensures;
      };
    }
