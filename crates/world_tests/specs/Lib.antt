pub mod HostSessions
