-- The rules, in the order in which they are read. The plain types stand in src: scenario, commands, events, messages, records, answers, runs.

-- Words.
-- lists of attempts in which each stands once
pub mod Attempts
-- the site of an outstanding operation
pub mod Site_of
-- answers that name no cycle
pub mod Short
-- what a command to an actor comes to: an event, or an answer without a line
pub mod Requests
-- what a session that goes on finds on its disks
pub mod Found
-- scenarios: their lines, the settings of a run, and what every scenario keeps
pub mod Plans
-- what a scenario says of its sites, participants, policy and transactions
pub mod Scenarios
-- An actor and its disk.
-- a disk that may stop after any call, and may be trimmed at its front
pub mod Disk
-- the lines of one actor; when it is down, and which trip is in force
pub mod Happenings
-- An engine.
-- the calls of one epoch and its runs: live or sealed, their numbers, accesses and tickets
pub mod Runs
-- the replies to an access, to the taking of a ticket and to a sealing: one rule for each engine
pub mod Replies
-- when a list of engine lines is right: each call may come there, and each answer is the rule's
pub mod EngineLines
-- runs one at a time
pub mod SerialRuns
-- A site.
-- what its records say: who is in doubt, the numbers, the table, and what it is due
pub mod SiteRecords
-- what they say together, as a Checkpoint
pub mod SiteSums
-- what its past says: its disk, its epoch, its runs, and which attempts are closed
pub mod SitePast
-- its next line
pub mod Site
-- what it makes of the commands of its own local transactions
pub mod SiteCommands
-- The coordinator.
-- what its records say: who was initiated, committed, aborted and ended, and what is required
pub mod CoordRecords
-- what they say together, as a Checkpoint
pub mod CoordSums
-- what its past says of an attempt, and what is outstanding at each participant
pub mod CoordPast
-- when tickets may be taken
pub mod Policies
-- its next line
pub mod Coord
-- what it makes of the commands of global transactions
pub mod CoordCommands
-- Sessions that go on.
-- the past of an actor on whose disk a journal is found
pub mod Reopened
-- a scenario with what is found
pub mod Sessions
-- when a session may go on from the journals that it finds
pub mod Usable
-- The federation.
-- what each command makes happen, what was sent, and which line is printed
pub mod Story
-- when printed lines are right
pub mod Right
-- the order of each site, what its members read, its table and what it is due
pub mod Orders
-- programs run alone, one after another
pub mod Serial
-- the values of the report
pub mod Reports
-- the commands that close a session, and those that finish a transaction alone
pub mod Closing
-- what a session finds on the disks that another one left, and what it makes of them
pub mod Resumed
-- that it goes on rightly
pub mod GoingOn
-- how a global attempt ends
pub mod Endings
-- the headline
pub mod Headline
-- What the definitions mean.
-- what survives on a disk that may stop after any call
pub mod Durable
-- that the past of a site is one that events make
pub mod Pasts
-- what each command makes happen: a line at an event that it asked for, or none
pub mod Lines
-- which messages speak of an attempt that the coordinator has to know
pub mod Heard
-- which attempts are active at the coordinator
pub mod Active
pub mod OwnPrograms
pub mod Terms
