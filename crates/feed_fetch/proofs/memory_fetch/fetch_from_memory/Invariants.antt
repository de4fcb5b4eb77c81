use Rattle.feed_http.specs.MemoryShelves.{file_named}
use Rattle.feed_fetch.proofs.memory_fetch.fetch_from_memory.Given as goal

-- the archive is these files
abbrev pub ghosts-fetch_from : goal.ghosts-fetch_from
ghosts-fetch_from g a = record { files = file_named a.archive.now }
