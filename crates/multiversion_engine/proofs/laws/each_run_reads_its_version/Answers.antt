use Rattle.multiversion_engine.proofs.Versions.{gives_table}
use Rattle.multiversion_engine.proofs.laws.each_run_reads_its_version.Goals as goal

pub returns : goal.returns
returns c = gives_table
