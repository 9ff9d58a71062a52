use Rattle.commit_laws.proofs.LaterRunProofs.{finished-are-not-sealed, later-runs-leave-no-record, live-runs-are-unheld}
use Rattle.commit_laws.proofs.seal_laws.later_runs_come_to_nothing.Goals as goal

pub returns-clause-not_sealed : goal.returns-clause-not_sealed
returns-clause-not_sealed c = finished-are-not-sealed

pub returns-clause-no_record : goal.returns-clause-no_record
returns-clause-no_record c = later-runs-leave-no-record

pub returns-clause-unheld : goal.returns-clause-unheld
returns-clause-unheld c = live-runs-are-unheld
