-- The limits of a site file, of a holdings file and of the sites of a node.
use Rattle.std.specs.Prelude.{ℕ}

-- the most bytes of a site file
abbrev pub site_limit : ℕ
site_limit = 65536

-- the most bytes of a holdings file: 16 MiB
abbrev pub holdings_limit : ℕ
holdings_limit = 16777216

-- the most sites of hosts
abbrev pub sites_limit : ℕ
sites_limit = 1024
