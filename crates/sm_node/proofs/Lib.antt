mod Gathering
mod Handed
mod OwnLogs
mod Values
