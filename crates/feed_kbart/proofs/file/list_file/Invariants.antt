use Rattle.feed_kbart.proofs.file.list_file.Given as goal

abbrev pub ghosts-read_rows : goal.ghosts-read_rows
ghosts-read_rows g a = record { given = g.R.Read.remaining a.reader }
