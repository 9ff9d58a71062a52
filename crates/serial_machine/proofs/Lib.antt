mod Serial
mod SiteRows
mod Steps
