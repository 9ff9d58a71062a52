use Rattle.world_recovery.proofs.reopening.WorldReopen.TheImpl.Goals as goal

pub reopen-asks : goal.reopen-asks
reopen-asks g c = record { told = c.requires.told; nine = c.requires.nine; synced = c.requires.synced }
