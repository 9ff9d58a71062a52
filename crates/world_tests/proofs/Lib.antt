mod CoordSessions
mod Made
