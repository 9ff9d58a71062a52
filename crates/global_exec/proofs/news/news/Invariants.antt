use Rattle.std.proofs.Common.{◌≡◌, take}
use Rattle.mdb_base.specs.Words.{found}
use Rattle.global_exec.specs.Counted.{news_left}
use Rattle.global_exec.proofs.news.news.Given as goal

abbrev pub invariant-loop-progress : goal.invariant-loop-progress
invariant-loop-progress l = l.dues ≡ found (news_left l.site l.epoch l.reply l.left l.next) (take l.progress-index l.sites)
